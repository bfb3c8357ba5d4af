use Rattle.std.proofs.Common.{◌≡◌, Bool, true, false, not, ◌&&◌, arith}
use Rattle.gas_terms.specs.Cells.{joined}
use Rattle.phase_step.proofs.SolidBlocks.{none_walled}
use Rattle.phase_step.proofs.Together.{none_joined, lattice_joined}
use Rattle.phase_step.proofs.steps.solids.Solids.are_none.Goals as goal

neither : (a b : Bool) → (not a && not b) ≡ true → (a ≡ false) × (b ≡ false)
neither a b e = grind arith

pub returns : goal.returns
returns c = λ none.
    let s = c.args.self.now in
    let are = neither s.some_walls s.some_obstacles none in
    none_walled (joined s.walls s.obstacles) (lattice_joined s.walls s.obstacles c.shows_lattice.ensures) (none_joined s.walls s.obstacles s.sides (s.no_walls are.0) (s.no_obstacles are.1))
