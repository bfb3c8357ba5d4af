use Rattle.std.proofs.Common.{◌≡◌, ℕ, ◌+◌, ◌<◌, ◌≤◌, ◌⊎◌, length, get_or}
use Rattle.block_rule.specs.Rows.{odd_row, eight_row}
use Rattle.block_rule.proofs.in_place.write_eight.Given as goal

abbrev pub invariant-loop-k : goal.invariant-loop-k
invariant-loop-k l =
    record {
      ee : length l.out.even_even ≡ 32;
      oe : length l.out.odd_even ≡ 32;
      eo : length l.out.even_odd ≡ 32;
      oo : length l.out.odd_odd ≡ 32;
      done : (m : ℕ) → m < l.k → odd_row l.out (l.from + m) ≡ eight_row l.rows m;
      upper_odd : (k : ℕ) → (k < l.from) ⊎ (l.from + l.k ≤ k) → get_or l.out.odd_odd k 0 ≡ get_or l.initial.out.odd_odd k 0;
      upper_even : (k : ℕ) → (k < l.from) ⊎ (l.from + l.k ≤ k) → get_or l.out.even_odd k 0 ≡ get_or l.initial.out.even_odd k 0;
      lower_odd : (k : ℕ) → (k ≤ l.from) ⊎ (l.from + l.k < k) → get_or l.out.odd_even k 0 ≡ get_or l.initial.out.odd_even k 0;
      lower_even : (k : ℕ) → (k ≤ l.from) ⊎ (l.from + l.k < k) → get_or l.out.even_even k 0 ≡ get_or l.initial.out.even_even k 0;
    }
