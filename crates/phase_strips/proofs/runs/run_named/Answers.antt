use Rattle.std.proofs.Common.{rules, ◌≡◌, ◌+◌, ◌/◌, ◌≤◌, All, List, length, drop, refl, sym, ap, ◌∙◌, subst, arith}
use Rattle.std.proofs.lemmas.List.{take_at}
use Rattle.std.specs.Bool.{IsTrue}
use Rattle.gas_terms.specs.Cells.{Extent, extent}
use Rattle.gas_plane.proofs.Places.{high}
use Rattle.phase_step.specs.Exchanges.{Areas}
use Rattle.phase_strips.specs.Limits.{most_listed}
use Rattle.phase_strips.specs.Courses.{Course, IsQuiet, Lists}
use Rattle.phase_strips.specs.Strips.{AreStrips, IsAt, IsOf}
use Rattle.phase_strips.proofs.LaidStrips.{count_few}
use Rattle.phase_strips.proofs.StripParts.{same_count, still_strips}
use Rattle.phase_strips.proofs.runs.run_named.Goals as goal

pub make_all-requires-clause-few : goal.make_all-requires-clause-few
make_all-requires-clause-few g c κs within =
    let strips = c.args.strips.now in
    let board : length c.in_ok-board.board.edges.items ≡ length strips.strips.items = search rules in
    let list = ap length c.as_mut_slice.ensures.value ∙ c.loop-done.invariant.count in
    let few = count_few (strips.size.height / 64) strips.strips.items strips.laid.laid in
    let tall = (high (extent c.args.particles.now) c.requires.run.lattice.sized).few in
    let size = ap (λ (s : Extent). s.height / 64) c.requires.run.size in (omega (arith, list, board), omega (arith, board, few, size, tall))

pub invariant_of-strips-in-loop-done : goal.invariant_of-strips-in-loop-done
invariant_of-strips-in-loop-done g c =
    let strips = c.loop-done.strips in
    let new = c.make_all.new.strips in
    let list = take_at new (drop (length new) strips.strips.items) strips.strips.len (search rules) in
    let size : extent g.N.RunName.course.start ≡ strips.size = ap (λ (c : Course). extent c.start) c.requires.course ∙ (sym c.requires.run.size ∙ sym c.loop-done.invariant.size) in
    record {
      laid = still_strips strips.size c.as_mut_slice.result.now new _ list (subst (AreStrips strips.size) (sym c.as_mut_slice.ensures.value) strips.laid) (subst (λ (size : Extent). All (IsOf size) new) size c.make_all.ensures.strips) c.make_all.ensures.own;
      room = subst (λ n. most_listed ≤ n) (sym c.list_exchanges-phases.ensures.room) strips.room;
    }

pub loop-done-preserved : goal.loop-done-preserved
loop-done-preserved g c =
    let strips = c.loop-done.strips in
    let was = c.loop-done.invariant in
    let new = c.make_all.new.strips in
    let list = take_at new (drop (length new) strips.strips.items) strips.strips.len (search rules) in
    let went : IsTrue c.make_all.result = search rules in
    let some = c.list_exchanges-phases.ensures.some.0 in
    let few = was.few in
    record {
      few = omega (arith, some, few);
      size = was.size;
      count = ap length list ∙ (same_count new c.as_mut_slice.result.now c.make_all.ensures.own ∙ (ap length c.as_mut_slice.ensures.value ∙ was.count));
      same = refl;
      at = λ _. subst (All (IsAt g.N.RunName.course (c.loop-done.done + c.list_exchanges-phases.result))) (sym list) (c.make_all.ensures.at went);
    }

pub gather-requires-clause-at : goal.gather-requires-clause-at
gather-requires-clause-at g c =
    let course = g.N.RunName.course in
    let each = c.loop-done.invariant.at (omega arith) in
    record {
      course = course;
      phases = c.loop-done.done;
      few = omega arith;
      start = ap (λ (c : Course). c.start) c.requires.course;
      each = subst (All (IsAt course c.loop-done.done)) (sym c.as_slice-2.ensures.value) each;
    }

pub returns-clause-run : goal.returns-clause-run
returns-clause-run g c =
    let course = g.N.RunName.course in
    let n = c.args.run.now.n in
    let end : c.loop-done.done ≡ n = omega arith in
    let each = c.loop-done.invariant.at (omega arith) in
    let start = ap (λ (c : Course). c.start) c.requires.course in
    let all = subst (λ k. All (IsAt course k) c.as_slice-2.result.now) end (subst (All (IsAt course c.loop-done.done)) (sym c.as_slice-2.ensures.value) each) in
    record { particles = c.gather.ensures.cells course n start all; flow = c.gather.ensures.flow course n start all }

pub invariant_of-input-clause-is_quiet : goal.invariant_of-input-clause-is_quiet
invariant_of-input-clause-is_quiet g c = λ quiet. subst (λ (course : Course). IsQuiet course) (sym c.requires.course) (let is = c.is_quiet-quiet.ensures quiet in record { still = is.0; untaken = is.1 })

pub invariant_of-input-clause-lists : goal.invariant_of-input-clause-lists
invariant_of-input-clause-lists g c =
    let leaves = g.A.Action.leaves c.args.run.now.action.now in
    subst (λ (course : Course). Lists c.as_slice.result.now course.dynamics.leaves c.loop-done.done c.list_exchanges-phases.result) (sym c.requires.course)
    (subst (λ (items : List Areas). Lists items leaves c.loop-done.done c.list_exchanges-phases.result) (sym c.as_slice.ensures.value) c.list_exchanges-phases.ensures.lists)
