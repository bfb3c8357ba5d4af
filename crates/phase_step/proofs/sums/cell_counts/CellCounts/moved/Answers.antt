use Rattle.std.proofs.Common.{rules}
use Rattle.phase_step.proofs.sums.cell_counts.CellCounts.moved.Goals as goal

pub returns : goal.returns
returns c = search rules
