use Rattle.std.proofs.Common.{◌+◌, ◌-◌, ◌*◌, ◌/◌, ◌≤◌, option_copied}
use Rattle.gas_terms.specs.Cells.{Cells, joined}
use Rattle.phase_step.specs.SolidBlocks.{HaveAllTiles, DifferIn, AreRenewedUpTo}
use Rattle.phase_step.specs.Others.{AreOthers}
use Rattle.phase_step.proofs.steps.set_words.renew_row.Given as goal

abbrev pub invariant-loop-column : goal.invariant-loop-column
invariant-loop-column l =
    record {
      within : l.column ≤ l.set.width / 64;
      all : HaveAllTiles l.set l.words.rows.items l.words.blocks.items;
      words : (before other : Cells) → AreOthers l.set (option_copied l.others) other → DifferIn l.fn.area before (joined l.set other) → AreRenewedUpTo (l.row * (l.set.width / 64)) before (joined l.set other) l.initial.words.rows.items l.initial.words.blocks.items
          → AreRenewedUpTo (l.row * (l.set.width / 64) + l.column) before (joined l.set other) l.words.rows.items l.words.blocks.items;
    }

abbrev pub decreases-loop-column : goal.decreases-loop-column
decreases-loop-column l = l.across - l.column
