use Rattle.std.proofs.Common.{◌≡◌, ◌*◌, ◌/◌, refl, ap, ◌∙◌, sym, arith}
use Rattle.gas_terms.specs.Cells.{Extent, tile_count}
use Rattle.gas_plane.proofs.BareTiles.{none_in_all, one_more_bare, is_true}
use Rattle.gas_plane.proofs.Plane.is_empty.Goals as goal

pub loop-i-preserved : goal.loop-i-preserved
loop-i-preserved c =
    let none = c.is_empty.ensures.0 (is_true c.is_empty.result c.if-not-is_empty.false) in
    one_more_bare c.args.self.now c.loop-i.i c.loop-i.invariant (record { cell = λ x y p q. sym (c.tile.ensures.cell x y p q) ∙ none x y p q })

pub returns : goal.returns
returns c =
    let count : c.tiles-i-end.result ≡ tile_count c.args.self.now = c.tiles-i-end.ensures.tiles ∙ ap (λ (s : Extent). s.width / 64 * (s.height / 64)) c.size.ensures.extent in
    (λ _. none_in_all c.args.self.now c.size.ensures.lattice (λ i within. c.loop-i.invariant i (omega (arith, count))), λ _. refl)
