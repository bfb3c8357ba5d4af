use Rattle.std.proofs.Common.{◌≡◌, ℕ, ◌+◌, ◌<◌, ◌≤◌, ◌⊎◌, length}
use Rattle.block_rule.specs.InPlace.{carried_row, eight_leaving}
use Rattle.block_rule.proofs.in_place.carry_eight.Given as goal

abbrev pub invariant-loop-k : goal.invariant-loop-k
invariant-loop-k l =
    record {
      up : length l.carry.upper ≡ 32;
      low : length l.carry.lower ≡ 32;
      done : (m : ℕ) → m < l.k → carried_row l.carry (l.at + m) ≡ eight_leaving l.eight.upper l.eight.lower m;
      others : (p : ℕ) → (p < l.at) ⊎ (l.at + l.k ≤ p) → carried_row l.carry p ≡ carried_row l.initial.carry p;
    }
