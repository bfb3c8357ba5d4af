use Rattle.std.proofs.Common.{arith, ℕ, ◌≡◌, ◌+◌, ◌*◌, ◌<◌, ◌≤◌, ◌++◌, All, Some, length, length-append, map, vec_len, sym, ap, ◌∙◌, subst}
use Rattle.std.proofs.lemmas.Nat.{mul-le}
use Rattle.std.proofs.lemmas.List.Elements.{All-pop, All-push}
use mathlib.Core.Logic.{dite}
use native.Mathlib.Decide.{dec_lt}
use Rattle.gas_terms.specs.Cells.{tile_count}
use Rattle.gas_plane.proofs.PlaneCounts.{few_tiles}
use Rattle.claim_desk.specs.Desk.{SeatView}
use Rattle.claim_desk.specs.Draws.{times}
use Rattle.claim_desk.proofs.Laws.{times-append}
use Rattle.phase_team.specs.Tiles.{numbered_tiles_take}
use Rattle.phase_team.specs.Teamwork.{HasWorked, IsRight, drawn}
use Rattle.phase_team.specs.declared.phase.worker.Turned.{Turned}
use Rattle.phase_team.proofs.DrawnNumbers.{drawn_push, still_ended}
use Rattle.phase_team.proofs.Takings.{take_both, both_fit}
use Rattle.phase_team.proofs.phase.crew.hand_in.Goals as goal

seats_draw : (seats tiles : ℕ) → seats ≤ 16 → tiles ≤ 4096 → seats * tiles ≤ 16 * 4096
seats_draw seats tiles few small = mul-le seats tiles 16 4096 few small

pub write_out-requires-clause-right : goal.write_out-requires-clause-right
write_out-requires-clause-right c =
    let task = c.args.shift.task in
    let worked = (All-pop (HasWorked task c.args.shift.desk.now.id) _ _ (Some c.in-Some.worker) c.in-Some.ensures.items c.loop-worker.invariant.worked).1 in
    let right = subst (λ n. All (IsRight task n) c.in-Some.worker.turned.items) c.args.shift.limit worked.right in
    subst (All (IsRight task (tile_count task.old.now))) (sym c.as_slice.ensures.value) right

pub plus-took-requires : goal.plus-took-requires
plus-took-requires c =
    let task = c.args.shift.task in
    let was = c.loop-worker.invariant in
    let worked = (All-pop (HasWorked task c.args.shift.desk.now.id) _ _ (Some c.in-Some.worker) c.in-Some.ensures.items was.worked).1 in
    let few = few_tiles task.old.now (tile_count task.old.now) task.lattice (omega arith) in
    let product = seats_draw (vec_len c.loop-worker.seats) (tile_count task.old.now) (omega (arith, was.all_seats, c.requires.count)) few in
    let fits = both_fit task.parity task.old.now task.walls.now task.obstacles.now (drawn c.loop-worker.seats.items) c.in-Some.worker.seat.numbers c.loop-worker.took c.in-Some.worker.took (omega (arith, was.few, worked.few, few, product, c.args.shift.limit)) was.turned.took worked.took in
    record { walls = fits.0; obstacles = fits.1 }

pub loop-worker-preserved : goal.loop-worker-preserved
loop-worker-preserved c =
    let task = c.args.shift.task in
    let was = c.loop-worker.invariant in
    let pushed = c.push_reserved.ensures.items in
    let numbers = drawn c.loop-worker.seats.items in
    let others = c.in-Some.worker.seat.numbers in
    let parts = All-pop (HasWorked task c.args.shift.desk.now.id) _ _ (Some c.in-Some.worker) c.in-Some.ensures.items was.worked in
    let worked = parts.1 in
    let all : drawn c.push_reserved.new.self.items ≡ numbers ++ others = drawn_push _ _ c.in-Some.worker.seat pushed in
    let places : map (λ (t : Turned). t.place) c.as_slice.result.now ≡ others = ap (map (λ (t : Turned). t.place)) c.as_slice.ensures.value ∙ worked.all_turned in
    record {
      all_seats = omega (arith, was.all_seats, c.push_reserved.ensures.len, c.in-Some.ensures.len);
      room = c.push_reserved.ensures.capacity ∙ was.room;
      same_desk =
          let P : SeatView → Type 0 = λ s. s.desk ≡ c.args.shift.desk.now.id in
          subst (All P) (sym pushed) (All-push P _ _ was.same_desk worked.same_desk);
      some_ended = still_ended _ _ c.in-Some.worker.seat pushed was.some_ended;
      worked = parts.0;
      few =
          let long = ap length all ∙ length-append numbers others in
          let next : (vec_len c.loop-worker.seats + 1) * tile_count task.old.now ≡ vec_len c.loop-worker.seats * tile_count task.old.now + tile_count task.old.now = omega arith in
          let count = ap (λ n. n * tile_count task.old.now) c.push_reserved.ensures.len in
          omega (arith, long, next, count, was.few, worked.few, c.args.shift.limit);
      turned = record {
        lattice = c.write_out.ensures.out.0;
        sides = c.write_out.ensures.out.1;
        turned = λ i within some_time.
            let both = ap (times i) all ∙ times-append i numbers others in
            dite (dec_lt 0 (times i others))
            (λ mine. c.write_out.ensures.new i within (subst (λ ns. 0 < times i ns) (sym places) mine))
            (λ other. c.write_out.ensures.kept i within (was.turned.turned i within (omega arith)));
        took = c.plus-took.ensures ∙ (take_both task.parity task.old.now task.walls.now task.obstacles.now numbers others c.loop-worker.took c.in-Some.worker.took was.turned.took worked.took
            ∙ ap (numbered_tiles_take task.parity task.old.now task.walls.now task.obstacles.now) (sym all));
      };
    }
