-- Tiles that have no cell, and places round a circle.
use Rattle.std.proofs.Common.{◌≡◌, ℕ, ◌+◌, ◌-◌, ◌*◌, ◌/◌, ◌%◌, ◌<◌, Bool, true, false, IsTrue, ◌∙◌, ap, subst, refl, arith}
use Rattle.std.proofs.lemmas.Nat.{mod-mul-add, mul-add-lt}
use Rattle.std.proofs.lemmas.Bool.{cases_eq}
use Rattle.bit_tile.proofs.Circles.{stays, wraps}
use Rattle.gas_terms.specs.Cells.{Cells, extent, tile_count}
use Rattle.gas_plane.specs.Planes.{IsLattice, IsBare, HasNone, place_by, tile_of}
use Rattle.gas_plane.proofs.Places.{wide, high, tile_below}
use Rattle.gas_plane.proofs.Sweeps.{left_of, top_of, cell_across, cell_down}

-- where each tile is bare there is no cell
pub none_in_all : (cells : Cells) → IsLattice cells → ((i : ℕ) → i < tile_count cells → IsBare cells (left_of cells i) (top_of cells i)) → HasNone cells
none_in_all cells lattice bare =
    record {
      cell = λ x y p q.
          let size = extent cells in
          let across = wide size lattice.sized in
          let within : tile_of cells x y < tile_count cells = mul-add-lt (y / 64) (cells.width / 64) (x / 64) (cells.height / 64) (tile_below cells.height y (high size lattice.sized) q) (tile_below cells.width x across p) in
          rw (cell_across cells (tile_of cells x y) x y across p refl, cell_down cells (tile_of cells x y) x y across p refl) at
          ((bare (tile_of cells x y) within).cell (x % 64) (y % 64) (omega arith) (omega arith));
    }

pub one_more_bare : (cells : Cells) (n : ℕ) → ((k : ℕ) → k < n → IsBare cells (k % (cells.width / 64) * 64) (k / (cells.width / 64) * 64)) → IsBare cells (n % (cells.width / 64) * 64) (n / (cells.width / 64) * 64)
    → (k : ℕ) → k < n + 1 → IsBare cells (k % (cells.width / 64) * 64) (k / (cells.width / 64) * 64)
one_more_bare cells n before bare k low = grind (arith, cases_eq, subst)

pub is_true : (b : Bool) → b ≡ true → IsTrue b
is_true b e = grind arith

-- nothing is both true and false
pub not_both : (b : Bool) → IsTrue b → b ≡ false → ⊥
not_both b h k = grind arith

-- the places by d = 0, 1 and 2
pub by_one : (n k : ℕ) → k < n → place_by k 1 n ≡ k
by_one n k less = let e : k + 1 + n - 1 ≡ k + n = omega arith in ap (λ m. m % n) e ∙ wraps n k less

pub by_two : (n k : ℕ) → k < n → place_by k 2 n ≡ (k + 1) % n
by_two n k less = grind (arith, cases_eq, mod-mul-add, wraps, stays)
