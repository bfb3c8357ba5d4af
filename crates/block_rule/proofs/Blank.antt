-- A block is walled by walls and obstacles together if one of them has a cell of it.
use Rattle.std.proofs.Common.{◌≡◌, ℕ, Bool, ◌||◌, arith}
use Rattle.block_rule.specs.Around.{either, is_walled_at}
use Rattle.block_rule.proofs.Around.{walled_by_cells}

-- a block is walled by two sets where it is walled by one of them
pub walled_either : (p : ℕ) (walls obstacles : ℕ → ℕ → Bool) (x y : ℕ) → is_walled_at p (either walls obstacles) x y ≡ (is_walled_at p walls x y || is_walled_at p obstacles x y)
walled_either p walls obstacles x y = grind (arith, walled_by_cells)
