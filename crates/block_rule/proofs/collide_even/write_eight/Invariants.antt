use Rattle.std.proofs.Common.{◌≡◌, ℕ, ◌+◌, ◌<◌, ◌≤◌, ◌⊎◌, length}
use Rattle.block_rule.specs.Rows.{even_row, eight_row}
use Rattle.block_rule.proofs.collide_even.write_eight.Given as goal

abbrev pub invariant-loop-k : goal.invariant-loop-k
invariant-loop-k l =
    record {
      ee : length l.out.even_even ≡ 32;
      oe : length l.out.odd_even ≡ 32;
      eo : length l.out.even_odd ≡ 32;
      oo : length l.out.odd_odd ≡ 32;
      done : (m : ℕ) → m < l.k → even_row l.out (l.from + m) ≡ eight_row l.rows m;
      rest : (j : ℕ) → (j < l.from) ⊎ (l.from + l.k ≤ j) → even_row l.out j ≡ even_row l.initial.out j;
    }
