-- The place of a tile among walls and obstacles, and lattices with the same sides.
use Rattle.std.proofs.Common.{◌≡◌, ℕ, ◌+◌, ◌*◌, ◌/◌, ◌%◌, ◌<◌, ◌≤◌, true, sym, ap, ap₂, ◌∙◌, arith}
use Rattle.std.proofs.lemmas.Nat.{row-Below}
use Rattle.std.proofs.Math.Nat.{mod-lt}
use Rattle.gas_terms.specs.Cells.{Cells, Extent, HasSidesOf, HasEvenSides, extent, is_size, tile_count, tile_rectangle}
use Rattle.gas_plane.proofs.Places.{IsWholeTiles, wide, high, cell_below}
use Rattle.block_rule.specs.Windows.{IsTilePlace}

even_tiles : (n : ℕ) → IsWholeTiles n → n % 2 ≡ 0
even_tiles n is = omega (arith, is.tiles)

pub whole_tiles : (n : ℕ) → IsWholeTiles n → n % 64 ≡ 0
whole_tiles n is = omega (arith, is.tiles)

pub even_sides : (cells : Cells) → is_size (extent cells) ≡ true → HasEvenSides cells.width cells.height
even_sides cells sized = record { wide = even_tiles cells.width (wide (extent cells) sized); high = even_tiles cells.height (high (extent cells) sized) }

end_of : (n k : ℕ) → IsWholeTiles n → k < n / 64 → k * 64 + 64 ≤ n
end_of n k is less = let last : k * 64 + 63 < n = cell_below n k 63 is less (omega arith) in omega arith

pub place_is : (particles walls obstacles : Cells) (i : ℕ) → is_size (extent particles) ≡ true → i < tile_count particles → HasSidesOf walls particles → HasSidesOf obstacles particles
    → IsTilePlace particles walls obstacles (tile_rectangle particles i).x (tile_rectangle particles i).y
place_is particles walls obstacles i sized within of_walls of_obstacles = grind (arith, wide, extent, high, mod-lt, row-Below, even_sides, end_of)

-- the extents of sets of one torus
pub same_extent : (cells others : Cells) → HasSidesOf cells others → extent cells ≡ extent others
same_extent cells others same = ap₂ (λ w h. let e : Extent = record { width = w; height = h } in e) same.wide same.high

pub sized_as : (cells others : Cells) → HasSidesOf cells others → is_size (extent cells) ≡ true → is_size (extent others) ≡ true
sized_as cells others same sized = ap is_size (sym (same_extent cells others same)) ∙ sized

pub tiles_as : (cells others : Cells) → HasSidesOf cells others → tile_count cells ≡ tile_count others
tiles_as cells others same = ap₂ (λ w h. w / 64 * (h / 64)) same.wide same.high

pub tiles_are : (cells : Cells) (size : Extent) (end : ℕ) → size ≡ extent cells → end ≡ size.width / 64 * (size.height / 64) → end ≡ tile_count cells
tiles_are cells size end e f = f ∙ ap (λ (s : Extent). s.width / 64 * (s.height / 64)) e
