use Rattle.std.proofs.Common.{◌≡◌, ◌*◌, ◌≤◌, take}
use Rattle.std.specs.List.{sum_by}
use Rattle.gas_hall.proofs.serving.entries_of.Given as goal

abbrev pub invariant-loop-seat : goal.invariant-loop-seat
invariant-loop-seat g l =
    (l.total ≡ sum_by g.H.Seating.made (take l.seat-index l.seats)) × (l.total ≤ 65536 * l.seat-index)
