use Rattle.std.proofs.Common.{arith, ◌<◌, length, sym, ap, ◌∙◌, subst}
use Rattle.std.proofs.lemmas.List.{length_push}
use Rattle.gas_terms.specs.Cells.{tile_count}
use Rattle.gas_plane.specs.Planes.{with_tile}
use Rattle.gas_plane.proofs.PlaneCounts.{few_tiles}
use Rattle.claim_desk.specs.Draws.{times}
use Rattle.phase_team.specs.Tiles.{numbered_tiles_take}
use Rattle.gas_plane.proofs.Sweeps.{lattice_kept}
use Rattle.phase_team.proofs.Places.{sides_kept, write_more}
use Rattle.phase_team.proofs.Takings.{take_more, more_fits}
use Rattle.phase_team.proofs.phase.crew.draw_here.Goals as goal

pub plus-took-requires : goal.plus-took-requires
plus-took-requires g c =
    let task = c.args.shift.task in
    let few = few_tiles task.old.now (tile_count task.old.now) task.lattice (omega arith) in
    let fits = more_fits task.parity task.old.now task.walls.now task.obstacles.now c.loop-place.seat.numbers c.in-Some.place c.loop-place.took c.turn-here.result (omega (arith, few, c.in-Some.ensures.some.0, c.in-Some.ensures.later, c.args.shift.limit)) c.loop-place.invariant.turned.took c.turn-here.ensures.took in
    record { walls = fits.0; obstacles = fits.1 }

pub loop-place-smaller : goal.loop-place-smaller
loop-place-smaller g c =
    let some = c.in-Some.ensures.some in
    let long = ap length some.1 ∙ length_push c.loop-place.seat.numbers c.in-Some.place in
    omega (arith, long, some.0, c.in-Some.ensures.later)

pub loop-place-preserved : goal.loop-place-preserved
loop-place-preserved g c =
    let task = c.args.shift.task in
    let was = c.loop-place.invariant in
    let numbers = c.loop-place.seat.numbers in
    let place = c.in-Some.place in
    let some = c.in-Some.ensures.some in
    let out = c.loop-place.out in
    let t = c.turn-here.new.out in
    let next = with_tile out place t in
    let within : place < tile_count task.old.now = omega (arith, some.0, c.args.shift.limit) in
    record {
      same_desk = c.draw.ensures.desk ∙ was.same_desk;
      few = let long = ap length some.1 ∙ length_push numbers place in omega (arith, long, some.0, c.in-Some.ensures.later);
      turned = record {
        lattice = lattice_kept out place t was.turned.lattice next (λ k. next);
        sides = sides_kept task.parity task.old.now task.walls.now task.obstacles.now out next place t was.turned.sides (λ k. next);
        turned = λ i inside some_time.
            write_more task.parity task.old.now task.walls.now task.obstacles.now out next numbers place t was.turned.lattice was.turned.sides within c.turn-here.ensures.cells (λ k. next) was.turned.turned i inside
            (subst (λ ns. 0 < times i ns) some.1 some_time);
        took = c.plus-took.ensures ∙ (take_more task.parity task.old.now task.walls.now task.obstacles.now numbers place c.loop-place.took c.turn-here.result was.turned.took c.turn-here.ensures.took
            ∙ ap (numbered_tiles_take task.parity task.old.now task.walls.now task.obstacles.now) (sym some.1));
      };
    }
