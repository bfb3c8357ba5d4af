use Rattle.std.proofs.Common.{◌≡◌, ℕ, ◌+◌, ◌<◌, nat_le, nat_lt, ◌&&◌, ◌∙◌, ap, if◌then◌else◌}
use Rattle.bit_tile.specs.Tile.{has, cell_changes}
use Rattle.bit_tile.proofs.Counts.{class_same}
use Rattle.gas_terms.specs.Cells.{Rectangle}
use Rattle.gas_plane.proofs.Places.{part_alike}
use Rattle.gas_plane.proofs.tile_areas.set_part.Goals as goal

pub returns-clause-cells : goal.returns-clause-cells
returns-clause-cells c =
    let part : Rectangle = record { x = c.overlap-x.result.0; y = c.overlap-y.result.0; w = c.overlap-x.result.1; h = c.overlap-y.result.1 } in
    let columns : (k : ℕ) → k < 64 → (nat_le part.x k && nat_lt k (part.x + part.w)) ≡ (nat_le c.args.area.x (c.args.left + k) && nat_lt (c.args.left + k) (c.args.area.x + c.args.area.w)) = λ k h. c.overlap-x.ensures.same k h ∙ (λ i. nat_le (c.x.ensures i) (c.args.left + k) && nat_lt (c.args.left + k) (c.x.ensures i + c.w.ensures i)) in
    let rows : (k : ℕ) → k < 64 → (nat_le part.y k && nat_lt k (part.y + part.h)) ≡ (nat_le c.args.area.y (c.args.top + k) && nat_lt (c.args.top + k) (c.args.area.y + c.args.area.h)) = λ k h. c.overlap-y.ensures.same k h ∙ (λ i. nat_le (c.y.ensures i) (c.args.top + k) && nat_lt (c.args.top + k) (c.y.ensures i + c.h.ensures i)) in
    λ x y p q. c.set_rect.ensures.cells x y p q ∙ ap (λ b. if b then c.args.held else has c.args.tile.now x y) (part_alike part c.args.area c.args.left c.args.top columns rows x y p q)

pub returns-clause-changed : goal.returns-clause-changed
returns-clause-changed c =
    let part : Rectangle = record { x = c.overlap-x.result.0; y = c.overlap-y.result.0; w = c.overlap-x.result.1; h = c.overlap-y.result.1 } in
    let columns : (k : ℕ) → k < 64 → (nat_le part.x k && nat_lt k (part.x + part.w)) ≡ (nat_le c.args.area.x (c.args.left + k) && nat_lt (c.args.left + k) (c.args.area.x + c.args.area.w)) = λ k h. c.overlap-x.ensures.same k h ∙ (λ i. nat_le (c.x.ensures i) (c.args.left + k) && nat_lt (c.args.left + k) (c.x.ensures i + c.w.ensures i)) in
    let rows : (k : ℕ) → k < 64 → (nat_le part.y k && nat_lt k (part.y + part.h)) ≡ (nat_le c.args.area.y (c.args.top + k) && nat_lt (c.args.top + k) (c.args.area.y + c.args.area.h)) = λ k h. c.overlap-y.ensures.same k h ∙ (λ i. nat_le (c.y.ensures i) (c.args.top + k) && nat_lt (c.args.top + k) (c.y.ensures i + c.h.ensures i)) in
    λ a b p q. c.set_rect.ensures.changed a b p q ∙ class_same _ _ a b (λ x y h k. ap (λ e. e && cell_changes c.args.held (has c.args.tile.now x y)) (part_alike part c.args.area c.args.left c.args.top columns rows x y h k))
