-- The tiles of a plane are turned one after another.
use Rattle.std.proofs.Common.{◌≡◌, ℕ, ◌+◌, ◌*◌, ◌/◌, ◌%◌, ◌≤◌, Bool, sym, ap, ap₂, subst, ◌∙◌, arith}
use Rattle.bit_tile.specs.Tile.{HasCells}
use Rattle.bit_tile.specs.declared.Tile.{Tile}
use Rattle.gas_terms.specs.Cells.{Cells, HasSidesOf, cells_where, has, joined, tile_count}
use Rattle.gas_terms.specs.Gas.{streamed, arrived, site_of}
use Rattle.gas_terms.specs.Velocity.{velocity_at}
use Rattle.gas_plane.specs.Planes.{IsLattice, with_tile, swept}
use Rattle.gas_plane.proofs.Sweeps.{sweep_tile, sweep_is_whole}
use Rattle.gas_terms.proofs.Cells.{has-cells_where, same_cells_where}
use Rattle.phase_step.specs.Turns.{IsTileAfter}

-- the cells after the phase
abbrev pub phased : ℕ → Cells → Cells → Cells → ℕ → ℕ → Bool
phased p particles walls obstacles x y = has (streamed p particles (joined walls obstacles)) x y

pub phase_next : (p : ℕ) (particles walls obstacles start now next : Cells) (i : ℕ) (t : Tile) → IsLattice start → HasSidesOf start particles → now ≡ swept start (phased p particles walls obstacles) i → IsTileAfter p particles (joined walls obstacles) i t → next ≡ with_tile now i t
    → next ≡ swept start (phased p particles walls obstacles) (i + 1)
phase_next p particles walls obstacles start now next i t is same so_far after put =
    put
    ∙ (ap (λ (now : Cells). with_tile now i t) so_far
    ∙ sweep_tile start (phased p particles walls obstacles) i t is
    (subst (λ w. HasCells t (λ x y. phased p particles walls obstacles (i % (w / 64) * 64 + x) (i / (w / 64) * 64 + y))) (sym same.wide) after))

-- the last plane
pub phase_ends : (p : ℕ) (particles walls obstacles start now : Cells) (i end : ℕ) → IsLattice start → HasSidesOf start particles → end ≡ tile_count start → end ≤ i → i ≤ end → now ≡ swept start (phased p particles walls obstacles) i
    → now ≡ streamed p particles (joined walls obstacles)
phase_ends p particles walls obstacles start now i end is same count past reach so_far =
    let all : i ≡ tile_count start = omega arith in
    so_far
    ∙ (ap (swept start (phased p particles walls obstacles)) all
    ∙ (sweep_is_whole start (phased p particles walls obstacles) is
    ∙ (ap₂ (λ w h. cells_where w h (phased p particles walls obstacles)) same.wide same.high
    ∙ same_cells_where particles.width particles.height _ _ (has-cells_where particles.width particles.height (λ x y. arrived particles (joined walls obstacles) (site_of (p + 1) particles.width particles.height x y) (velocity_at (p + 1) x y))))))
