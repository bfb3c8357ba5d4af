use Rattle.std.proofs.Common.{◌≡◌, ℕ, ◌-◌, ◌<◌, ◌≤◌, ◌⊎◌, false}
use Rattle.bit_tile.specs.Bit.{bit}
use Rattle.block_rule.proofs.BlockNames.{any_of}
use Rattle.block_rule.proofs.blocks_in_tile.renew_rows.Given as goal

abbrev pub invariant-loop-j : goal.invariant-loop-j
invariant-loop-j l =
    record {
      made : (k : ℕ) → l.fn.from - 1 ≤ k → k < l.j → k < 32 → bit l.row_pairs k ≡ false → any_of l.blocks k ≡ 0;
      kept : (k : ℕ) → (k < l.fn.from - 1) ⊎ (l.j ≤ k) → k < 32 → bit l.row_pairs k ≡ bit l.fn.rows k;
    }
