use Rattle.std.proofs.Common.{◌-◌, ◌*◌, ◌/◌, option_copied}
use Rattle.gas_terms.specs.Cells.{Cells, joined}
use Rattle.phase_step.specs.SolidBlocks.{HaveAllTiles, AreBlocksOf, DifferIn, AreRenewedUpTo}
use Rattle.phase_step.specs.Others.{AreOthers}
use Rattle.phase_step.proofs.steps.set_words.renew.Given as goal

abbrev pub invariant-loop-row : goal.invariant-loop-row
invariant-loop-row l =
    record {
      all : HaveAllTiles l.set l.words.rows.items l.words.blocks.items;
      words : (before other : Cells) → AreOthers l.set (option_copied l.others) other → DifferIn l.area before (joined l.set other) → AreBlocksOf before l.initial.words.rows.items l.initial.words.blocks.items
          → AreRenewedUpTo (l.row * (l.set.width / 64)) before (joined l.set other) l.words.rows.items l.words.blocks.items;
    }

abbrev pub decreases-loop-row : goal.decreases-loop-row
decreases-loop-row l = l.down - l.row
