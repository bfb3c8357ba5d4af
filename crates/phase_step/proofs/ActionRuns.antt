-- Runs phase by phase: their sides, and actions that leave the same.
use Rattle.std.proofs.Common.{◌≡◌, ℕ, zero, suc, ◌*◌, ◌/◌, Bool, true, refl, ap₂, arith}
use Rattle.gas_terms.specs.Cells.{Cells, HasSidesOf, has, extent, is_size, tile_count}
use Rattle.gas_terms.proofs.Cells.{same_cells_where}
use Rattle.phase_step.specs.Runs.{particles_after}
use Rattle.phase_step.specs.Actions.{Leaves, acted, after_with}

-- what leaves the same cells acts alike
pub acted_same : (some others : Leaves) (cells : Cells) → ((x y : ℕ) (held : Bool) → some x y held ≡ others x y held) → acted some cells ≡ acted others cells
acted_same some others cells same = grind (arith, same_cells_where, has)

-- the sides stay
pub sides_after : (p : ℕ) (solid c : Cells) (k : ℕ) → HasSidesOf (particles_after p solid c k) c
sides_after p solid c zero = record { wide = refl; high = refl }
sides_after p solid c (suc k) = let before = sides_after p solid c k in record { wide = before.wide; high = before.high }

pub sides_with : (p : ℕ) (solid : Cells) (leaves : ℕ → Leaves) (c : Cells) (k : ℕ) → HasSidesOf (after_with p solid leaves c k) c
sides_with p solid leaves c zero = record { wide = refl; high = refl }
sides_with p solid leaves c (suc k) = let before = sides_with p solid leaves c k in record { wide = before.wide; high = before.high }

pub sized_with : (p : ℕ) (solid : Cells) (leaves : ℕ → Leaves) (c : Cells) (k : ℕ) → is_size (extent c) ≡ true → is_size (extent (after_with p solid leaves c k)) ≡ true
sized_with p solid leaves c zero sized = sized
sized_with p solid leaves c (suc k) sized = sized_with p solid leaves c k sized

pub count_with : (p : ℕ) (solid : Cells) (leaves : ℕ → Leaves) (c : Cells) (k : ℕ) → tile_count (after_with p solid leaves c k) ≡ tile_count c
count_with p solid leaves c k = let same = sides_with p solid leaves c k in ap₂ (λ w h. w / 64 * (h / 64)) same.wide same.high
