use Rattle.std.proofs.Common.{rules, arith, ◌++◌, ◌∷◌, [], ℕ, List, All, map, length, sym, ap, ◌∙◌, subst}
use Rattle.std.proofs.lemmas.List.{map_push, length_push}
use Rattle.std.proofs.lemmas.List.Elements.{All-push}
use Rattle.gas_plane.proofs.PlaneCounts.{few_tiles}
use Rattle.phase_team.specs.Tiles.{numbered_tiles_take}
use Rattle.phase_team.specs.Teamwork.{IsRight}
use Rattle.phase_team.specs.declared.phase.worker.Turned.{Turned}
use Rattle.phase_team.proofs.Places.{on_ok}
use Rattle.phase_team.proofs.Takings.{take_more, more_fits}
use Rattle.phase_team.proofs.phase.worker.work_on.Goals as goal

pub plus-requires : goal.plus-requires
plus-requires g c =
    let task = c.args.shift.task in
    let few = few_tiles task.old.now c.args.shift.desk.now.id.limit task.lattice (omega (arith, c.args.shift.limit)) in
    let fits = more_fits task.parity task.old.now task.walls.now task.obstacles.now c.loop-seat.seat.numbers c.in-Some.place c.loop-seat.took c.turn-here.result (omega (arith, few, c.in-Some.ensures.some.0, c.in-Some.ensures.later)) c.loop-seat.invariant.took c.turn-here.ensures.took in
    record { walls = fits.0; obstacles = fits.1 }

pub push_reserved-requires : goal.push_reserved-requires
push_reserved-requires g c =
    let room = on_ok c.reserve.result _ (sym c.is_ok.ensures.value ∙ c.loop-seat-test.true) c.reserve.ensures.ok in
    omega arith

pub loop-seat-preserved : goal.loop-seat-preserved
loop-seat-preserved g c =
    let task = c.args.shift.task in
    let was = c.loop-seat.invariant in
    let drawn = c.in-Some.ensures.some in
    let items = c.push_reserved.ensures.items in
    let P : Turned → Type 0 = IsRight task c.args.shift.desk.now.id.limit in
    record {
      same_desk = search rules;
      all_turned =
          ap (map (λ (t : Turned). t.place)) items
          ∙ (map_push (λ (t : Turned). t.place) _ _
          ∙ (ap (λ (ts : List Turned). map (λ (t : Turned). t.place) ts ++ c.in-Some.place ∷ []) c.reserve.ensures.items
          ∙ (ap (λ (ns : List ℕ). ns ++ c.in-Some.place ∷ []) was.all_turned ∙ sym drawn.1)));
      right = subst (All P) (sym items) (All-push P _ _ (subst (All P) (sym c.reserve.ensures.items) was.right) (drawn.0, c.turn-here.ensures.cells));
      took = c.plus.ensures ∙ take_more task.parity task.old.now task.walls.now task.obstacles.now c.loop-seat.seat.numbers c.in-Some.place c.loop-seat.took c.turn-here.result was.took c.turn-here.ensures.took
          ∙ ap (numbered_tiles_take task.parity task.old.now task.walls.now task.obstacles.now) (sym drawn.1);
      few = let long = ap length drawn.1 ∙ length_push c.loop-seat.seat.numbers c.in-Some.place in omega (arith, long, drawn.0, c.in-Some.ensures.later);
    }
