use Rattle.std.proofs.Common.{subst}
use Rattle.tile_border.specs.Ring.{IsBorderOfRound}
use Rattle.tile_border.specs.declared.border.Border.{Border}
use Rattle.gas_terms.specs.Cells.{tile_rectangle}
use Rattle.gas_plane.specs.Planes.{IsRingRound}
use Rattle.gas_plane.proofs.Plane.round.Goals as goal

pub returns-clause-ring : goal.returns-clause-ring
returns-clause-ring c =
    subst (λ i. (b : Border) → IsBorderOfRound b c.round_at.result → IsRingRound b c.args.self.now (tile_rectangle c.args.self.now i).x (tile_rectangle c.args.self.now i).y) c.position.ensures.tile c.round_at.ensures.ring
