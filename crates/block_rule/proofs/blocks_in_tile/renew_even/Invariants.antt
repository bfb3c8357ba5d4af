use Rattle.std.proofs.Common.{◌≡◌, ℕ, ◌-◌, ◌*◌, ◌<◌, ◌≤◌, Bool, length, get_or}
use Rattle.bit_tile.specs.Bit.{bit}
use Rattle.block_rule.specs.Around.{either, is_walled_at}
use Rattle.block_rule.specs.NamedBlocks.{AreEvenBlocksOf}
use Rattle.block_rule.specs.Rows.{ShowsTile}
use Rattle.block_rule.proofs.BlockNames.{AreKept}
use Rattle.block_rule.proofs.blocks_in_tile.renew_even.Given as goal

abbrev pub invariant-loop-j : goal.invariant-loop-j
invariant-loop-j l =
    record {
      long : length l.words ≡ 32;
      kept : AreKept (l.fn.from - 1) l.j l.fn.words l.words;
      made : (some other : ℕ → ℕ → Bool) → ShowsTile some l.set → AreEvenBlocksOf l.others (is_walled_at 0 other) → (i k : ℕ) → i < 32 → l.fn.from - 1 ≤ k → k < l.j → bit (get_or l.words k 0) i ≡ is_walled_at 0 (either some other) (2 * i) (2 * k);
    }
