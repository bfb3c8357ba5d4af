use Rattle.std.proofs.Common.{◌≡◌, ℕ, ◌<◌, ◌≤◌, length}
use Rattle.block_rule.specs.Rows.{IsMade, even_row}
use Rattle.block_rule.proofs.collide_even.make_even.Given as goal

abbrev pub invariant-loop-j : goal.invariant-loop-j
invariant-loop-j g l =
    record {
      ee : length l.tile.even_even ≡ 32;
      oe : length l.tile.odd_even ≡ 32;
      eo : length l.tile.even_odd ≡ 32;
      oo : length l.tile.odd_odd ≡ 32;
      done : (k : ℕ) → k < l.j → IsMade (λ _. g.R.Rule.cell l.rule) (even_row l.initial.tile k) (even_row l.tile k);
      rest : (k : ℕ) → l.j ≤ k → even_row l.tile k ≡ even_row l.initial.tile k;
    }
