-- The sides of a gas: its particles, walls and obstacles have the same, and no step changes them.
use Rattle.std.proofs.Common.{sym, ◌∙◌, arith}
use Rattle.gas_terms.specs.Cells.{HasSidesOf}
use Rattle.gas_terms.specs.Gas.{Gas, solid, forward, back, step}
use Rattle.gas_terms.specs.Symmetry.{IsOnOneTorus}

pub obstacles_sides : (g : Gas) → IsOnOneTorus g → HasSidesOf g.obstacles g.walls
obstacles_sides g i = record { wide = i.obstacles.wide ∙ sym i.walls.wide; high = i.obstacles.high ∙ sym i.walls.high }

pub solid_sides : (g : Gas) → IsOnOneTorus g → HasSidesOf (solid g) g.particles
solid_sides g i = record { wide = i.walls.wide; high = i.walls.high }

pub torus_forward : (g : Gas) → IsOnOneTorus g → IsOnOneTorus (forward g)
torus_forward g i = grind arith

pub torus_back : (g : Gas) → IsOnOneTorus g → IsOnOneTorus (back g)
torus_back g i = grind arith

pub torus_step : (g : Gas) → IsOnOneTorus g → IsOnOneTorus (step g)
torus_step g i = grind arith
