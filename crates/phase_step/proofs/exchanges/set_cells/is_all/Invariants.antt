use Rattle.std.proofs.Common.{◌≡◌, ◌<◌, ℕ, false, get_or}
use Rattle.bit_tile.specs.Bit.{bit}
use Rattle.phase_step.proofs.exchanges.set_cells.is_all.Given as goal

abbrev pub invariant-loop-j : goal.invariant-loop-j
invariant-loop-j l =
    (i m : ℕ) → i < 32 → m < l.j → bit l.others i ≡ false
    → (bit (get_or l.tile.even_even m 0) i ≡ l.held) × ((bit (get_or l.tile.odd_even m 0) i ≡ l.held) × ((bit (get_or l.tile.even_odd m 0) i ≡ l.held) × (bit (get_or l.tile.odd_odd m 0) i ≡ l.held)))
