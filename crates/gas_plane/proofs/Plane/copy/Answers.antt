use Rattle.std.proofs.Common.{◌≡◌, ◌∙◌, List, subst, sym}
use Rattle.gas_plane.specs.Counts.{AreOfAll}
use Rattle.gas_plane.specs.Tiles.{tiled, tiles_of, Cover}
use Rattle.gas_plane.specs.declared.aligned_tile.AlignedTile.{AlignedTile}
use Rattle.gas_plane.proofs.Plane.copy.Goals as goal

pub invariant_of-result : goal.invariant_of-result
invariant_of-result c =
    let same : c.in_ok-tiles.tiles.items ≡ c.self.inside.tiles.items = c.in_ok-tiles.ensures ∙ c.as_slice.ensures.value in
    (subst (λ (rooms : List AlignedTile). Cover (tiles_of rooms) c.self.inside.size) (sym same) c.self.invariant.0, subst (λ (rooms : List AlignedTile). AreOfAll c.self.inside.is_counted c.self.inside.counts (tiled (tiles_of rooms) c.self.inside.size)) (sym same) c.self.invariant.1)
