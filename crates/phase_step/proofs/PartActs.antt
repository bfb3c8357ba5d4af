-- An action on a part's own tiles is that on the lattice's.
use Rattle.std.proofs.Common.{◌≡◌, ℕ, ◌+◌, ◌*◌, ◌/◌, ◌%◌, ◌<◌, ◌≤◌, ◌&&◌, not, ℤ, pos, refl, sym, ap, ap₂, ◌∙◌, subst, arith}
use Rattle.bit_tile.specs.Tile as tile
use Rattle.bit_tile.specs.Tile.{HasCells}
use Rattle.bit_tile.specs.declared.Tile.{Tile}
use Rattle.gas_terms.specs.Cells.{Cells, has, extent, tile_count, tile_rectangle}
use Rattle.gas_terms.proofs.Cells.{has-cells_where}
use Rattle.gas_plane.specs.Planes.{IsLattice, IsPosition, IsTileFrom}
use Rattle.gas_plane.specs.declared.around.Position.{Position}
use Rattle.gas_plane.proofs.Places.{wide, high}
use Rattle.phase_step.specs.Actions.{Leaves, IsLeftOf, IsTileCorner, IsStill, acted, unmoved, movements}
use Rattle.phase_step.specs.Counts.{AreTileCounts, moved_by_counts}
use Rattle.phase_step.specs.Parts.{own_moves, IsPartOf}
use Rattle.phase_step.specs.TileRuns.{tile_moves, tiles_move}
use Rattle.phase_step.specs.declared.parts.Part.{Part}
use Rattle.phase_step.specs.declared.sums.cell_counts.CellCounts.{CellCounts}
use Rattle.phase_step.proofs.Amounts.{sum_none}
use Rattle.phase_step.proofs.FlowSums.{movements_add}
use Rattle.phase_step.proofs.OwnTiles.{own_within}
use Rattle.phase_step.proofs.ActedTiles.{Stays, cell_within, still_acts}
use Rattle.phase_step.proofs.TileChanges.{tile_moved, stays_unmoved}

-- A tile of the lattice: what an action leaves of it,
pub left_there : (leaves : Leaves) (lattice : Cells) (i : ℕ) (old new : Tile) → IsLattice lattice → i < tile_count lattice → (let r = tile_rectangle lattice i in IsTileFrom old lattice r.x r.y) → (let r = tile_rectangle lattice i in IsLeftOf leaves r.x r.y old new)
    → (let r = tile_rectangle lattice i in HasCells new (λ x y. has (acted leaves lattice) (r.x + x) (r.y + y)))
left_there leaves lattice i old new is within from left x y h k =
    let r = tile_rectangle lattice i in
    let place = cell_within lattice i x y is within h k in
    left x y h k
    ∙ (ap (leaves (r.x + x) (r.y + y)) (from.cell x y h k)
    ∙ sym (has-cells_where lattice.width lattice.height (λ x y. leaves x y (has lattice x y)) (r.x + x) (r.y + y) place.0 place.1))

-- what it moves there,
pub moves_there : (tick : ℤ) (leaves : Leaves) (lattice : Cells) (i : ℕ) (change : CellCounts) (old new : Tile) → IsLattice lattice → i < tile_count lattice → (let r = tile_rectangle lattice i in IsTileFrom old lattice r.x r.y) → (let r = tile_rectangle lattice i in IsLeftOf leaves r.x r.y old new)
    → AreTileCounts change.gained (λ x y. tile.has new x y && not (tile.has old x y)) → AreTileCounts change.lost (λ x y. tile.has old x y && not (tile.has new x y))
    → moved_by_counts tick change ≡ tile_moves tick lattice (acted leaves lattice) i
moves_there tick leaves lattice i change old new is within from left gained lost =
    let r = tile_rectangle lattice i in
    tile_moved tick leaves lattice i change old new r is within (record { left = refl; top = refl; wide = refl; high = refl }) gained lost from.cell
    (λ x y h k. left x y h k ∙ ap (leaves (r.x + x) (r.y + y)) (from.cell x y h k))

-- and one that is left as it is, and moves nothing
module _ (leaves : Leaves) (lattice : Cells) (i : ℕ) (old : Tile) (is : IsLattice lattice) (within : i < tile_count lattice) (from : (let r = tile_rectangle lattice i in IsTileFrom old lattice r.x r.y)) (left : (let r = tile_rectangle lattice i in IsLeftOf leaves r.x r.y old old)) where
  as_it_is : Stays leaves lattice i
  as_it_is x y h k =
      let r = tile_rectangle lattice i in
      subst (λ held. leaves (r.x + x) (r.y + y) held ≡ held) (from.cell x y h k) (sym (left x y h k))

  pub kept_there : (let r = tile_rectangle lattice i in (x y : ℕ) → x < 64 → y < 64 → has (acted leaves lattice) (r.x + x) (r.y + y) ≡ has lattice (r.x + x) (r.y + y))
  kept_there x y h k =
      let r = tile_rectangle lattice i in
      let place = cell_within lattice i x y is within h k in
      has-cells_where lattice.width lattice.height (λ x y. leaves x y (has lattice x y)) (r.x + x) (r.y + y) place.0 place.1 ∙ as_it_is x y h k

  pub stays_there : (tick : ℤ) → unmoved ≡ tile_moves tick lattice (acted leaves lattice) i
  stays_there tick = sym (stays_unmoved tick leaves lattice i (tile_rectangle lattice i) is within (record { left = refl; top = refl; wide = refl; high = refl }) as_it_is)

-- by its number
pub corner_at : (lattice : Cells) (across i : ℕ) (p : Position) → IsLattice lattice → i < tile_count lattice → across ≡ lattice.width / 64 → p.tile ≡ i → IsPosition across p → IsTileCorner (p.column * 64) (p.row * 64)
corner_at lattice across i p is within e f at =
    let place = cell_within lattice i 0 0 is within (omega arith) (omega arith) in
    let w = wide (extent lattice) is.sized in
    let h = high (extent lattice) is.sized in
    let wt = w.tiles in
    let wf = w.few in
    let ht = h.tiles in
    let hf = h.few in
    let c : p.column ≡ i % (lattice.width / 64) = at.column ∙ ap₂ (λ j a. j % a) f e in
    let r : p.row ≡ i / (lattice.width / 64) = at.row ∙ ap₂ (λ j a. j / a) f e in
    record { column = omega arith; row = omega arith; right = omega (arith, c, place.0, wt, wf); bottom = omega (arith, r, place.1, ht, hf) }

pub left_at : (leaves : Leaves) (lattice : Cells) (across i : ℕ) (p : Position) (old new : Tile) → across ≡ lattice.width / 64 → p.tile ≡ i → IsPosition across p → IsLeftOf leaves (p.column * 64) (p.row * 64) old new → (let r = tile_rectangle lattice i in IsLeftOf leaves r.x r.y old new)
left_at leaves lattice across i p old new e f at left =
    let c = at.column in
    let r = at.row in
    grind (arith, c, r)

-- an action that is still leaves the lattice as it is
pub still_rows : (leaves : Leaves) (part : Part) (cells lattice : Cells) (k : ℕ) → IsStill leaves → IsPartOf part cells lattice k → IsPartOf part cells (acted leaves lattice) k
still_rows leaves part cells lattice k still is = subst (λ (there : Cells). IsPartOf part cells there k) (still_acts leaves lattice is.full still) is

-- and moves nothing
pub still_moves_there : (tick : ℤ) (leaves : Leaves) (old : Cells) (first n : ℕ) → IsLattice old → IsStill leaves → first + n ≤ tile_count old → unmoved ≡ tiles_move tick old (acted leaves old) first n
still_moves_there tick leaves old first n is still within =
    sum_none movements movements_add _ n
    (λ i less. sym (stays_unmoved tick leaves old (first + i) (tile_rectangle old (first + i)) is (omega arith) (record { left = refl; top = refl; wide = refl; high = refl }) (λ x y p q. still _ _ _)))

pub still_own : (p : ℕ) (leaves : Leaves) (part : Part) (cells lattice : Cells) (k : ℕ) → IsStill leaves → IsPartOf part cells lattice k → unmoved ≡ own_moves part p cells lattice (acted leaves lattice)
still_own p leaves part cells lattice k still is = still_moves_there (pos p) leaves lattice _ _ (record { sized = is.sized; full = is.full }) still (own_within part cells lattice is.placed)
