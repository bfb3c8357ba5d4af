use Rattle.std.proofs.Common.{◌≡◌, ℕ, ◌<◌, ◌≤◌, Bool, length, get_or}
use Rattle.block_rule.specs.Around.{either, is_walled_at}
use Rattle.block_rule.specs.NamedBlocks.{AreOddBlocksOf}
use Rattle.block_rule.specs.Shown.{IsSeenIn}
use Rattle.block_rule.proofs.BlockNames.{IsRowNamed, AreKept}
use Rattle.block_rule.proofs.blocks_in_tile.renew_odd.Given as goal

abbrev pub invariant-loop-k : goal.invariant-loop-k
invariant-loop-k l =
    record {
      begin_long : length l.words.begin ≡ 33;
      end_long : length l.words.end ≡ 33;
      begins : AreKept l.fn.from l.k l.fn.words.begin l.words.begin;
      ends : AreKept l.fn.from l.k l.fn.words.end l.words.end;
      made : (some other : ℕ → ℕ → Bool) → IsSeenIn l.set some → AreOddBlocksOf l.others (is_walled_at 1 other) → (k : ℕ) → l.fn.from ≤ k → k < l.k → IsRowNamed (either some other) k (get_or l.words.begin k 0) (get_or l.words.end k 0);
    }
