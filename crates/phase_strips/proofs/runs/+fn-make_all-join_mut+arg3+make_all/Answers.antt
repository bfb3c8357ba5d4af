use Rattle.std.proofs.Common.{of_calls, rules, ◌+◌, subst, All, Some}
use Rattle.std.specs.Bool.{IsTrue}
use Rattle.std.proofs.lemmas.List.Elements.{All-pop, All-push}
use Rattle.gas_terms.specs.Cells.{extent}
use Rattle.phase_strips.specs.Strips.{IsAt, IsOf}
use Rattle.phase_strips.proofs.runs.+fn-make_all-join_mut+arg3+make_all.Goals as goal

pub join_mut-one-requires-after_bounds : goal.join_mut-one-requires-after_bounds
join_mut-one-requires-after_bounds g t c κs within =
    let course = g.N.RunName.course in
    let strips = c.args.strips.now in
    let cases = c.in-Some.ensures.cases.0 in
    let of = All-pop (IsOf (extent course.start)) strips c.in-Some.rest.now (Some c.in-Some.last.now) cases c.requires.strips in
    let at = IsAt course c.args.input.now.from in (
      (search rules, c.requires.few.1, of.1, (λ some. (All-pop at strips c.in-Some.rest.now (Some c.in-Some.last.now) cases (c.requires.at some)).1)),
      (search rules, ((λ a m. m), ((λ a m. m), ((search rules, c.requires.few.1, of.0, (λ some. (All-pop at strips c.in-Some.rest.now (Some c.in-Some.last.now) cases (c.requires.at some)).0)), (search rules, search rules))))),
    )

pub returns-then-one-clause-at : goal.returns-then-one-clause-at
returns-then-one-clause-at g t c = λ good.
    let i = c.args.input.now in
    let at = IsAt g.N.RunName.course (i.from + i.phases) in
    let one : IsTrue c.join_mut-one.result.0 = search rules in
    All-push at _ _ (subst (All at) (search (of_calls, rules)) (c.join_mut-one.ensures.1.met.1.2 good)) (subst at (search (of_calls, rules)) (c.join_mut-one.ensures.0.met.1.2 one))
