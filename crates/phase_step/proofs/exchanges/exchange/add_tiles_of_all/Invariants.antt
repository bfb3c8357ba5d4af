use Rattle.std.proofs.Common.{◌≡◌, ◌<◌, ◌/◌, ℕ, true, take}
use Rattle.bit_tile.specs.Tile.{has}
use Rattle.phase_step.specs.Exchanges.{is_in_any, HasAllOf}
use Rattle.phase_step.proofs.exchanges.exchange.add_tiles_of_all.Given as goal

abbrev pub invariant-loop-area : goal.invariant-loop-area
invariant-loop-area l =
    record {
      added : (x y : ℕ) → x < 4096 → y < 4096 → is_in_any (take l.area-index l.areas) x y ≡ true → has l.met (x / 64) (y / 64) ≡ true;
      kept : HasAllOf l.initial.met l.met;
    }
