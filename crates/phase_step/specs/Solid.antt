-- The cells that particles do not pass.
use Rattle.gas_terms.specs.Cells.{Cells, joined}
use Rattle.phase_step.specs.declared.steps.solids.Solids.{Solids}

abbrev pub all_of : Solids → Cells
all_of s = joined s.walls s.obstacles
