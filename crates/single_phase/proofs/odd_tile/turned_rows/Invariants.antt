use Rattle.std.proofs.Common.{◌≡◌, ℕ, Bool, length, get_or}
use Rattle.block_rule.specs.Around.{is_walled_at}
use Rattle.block_rule.specs.NamedBlocks.{AreOddBlocksOf}
use Rattle.block_rule.specs.Rows.{ShowsTile, ShowsAllRound}
use Rattle.single_phase.specs.OddTiles.{AreMadeUpTo}
use Rattle.single_phase.proofs.odd_tile.turned_rows.Given as goal

abbrev pub invariant-loop-j : goal.invariant-loop-j
invariant-loop-j l =
    record {
      ul : length l.out.odd_odd ≡ 32;
      ur : length l.out.even_odd ≡ 32;
      ll : length l.out.odd_even ≡ 32;
      lr : length l.out.even_even ≡ 32;
      top_left : get_or l.out.odd_even 0 0 ≡ get_or l.initial.out.odd_even 0 0;
      top_right : get_or l.out.even_even 0 0 ≡ get_or l.initial.out.even_even 0 0;
      made : (window solid : ℕ → ℕ → Bool) → ShowsTile window l.tile → ShowsAllRound window l.near → AreOddBlocksOf l.walled (is_walled_at 1 solid) → AreMadeUpTo l.j window solid l.out;
    }
