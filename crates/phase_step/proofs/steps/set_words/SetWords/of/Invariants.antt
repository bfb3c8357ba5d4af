use Rattle.std.proofs.Common.{option_copied}
use Rattle.gas_terms.specs.Cells.{Cells, joined}
use Rattle.phase_step.specs.SolidBlocks.{HaveAllTiles, AreRenewedUpTo}
use Rattle.phase_step.specs.Others.{nothing_of, AreOthers}
use Rattle.phase_step.proofs.steps.set_words.SetWords.of.Given as goal

abbrev pub invariant-loop-i : goal.invariant-loop-i
invariant-loop-i l =
    record {
      all : HaveAllTiles l.set l.words.rows.items l.words.blocks.items;
      words : (other : Cells) → AreOthers l.set (option_copied l.others) other → AreRenewedUpTo l.i (nothing_of l.set) (joined l.set other) l.words.rows.items l.words.blocks.items;
    }
