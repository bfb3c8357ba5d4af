use Rattle.std.proofs.Common.{◌≡◌, ℕ, ◌+◌, ◌<◌, nat_le, nat_lt, nat_eq, ◌&&◌, sym, ◌∙◌, arith}
use Rattle.std.proofs.lemmas.Bool.{true_from_ne_false}
use Rattle.gas_terms.specs.Cells.{Rectangle}
use Rattle.gas_plane.proofs.Places.{part_has_one}
use Rattle.gas_plane.proofs.Painting.{outside_columns, no_columns}
use Rattle.gas_plane.proofs.tile_areas.is_apart.Goals as goal

pub returns-else-h-eq0 : goal.returns-else-h-eq0
returns-else-h-eq0 c =
    let part : Rectangle = record { x = c.overlap-w.result.0; y = c.overlap-h.result.0; w = c.overlap-w.result.1; h = c.overlap-h.result.1 } in
    let columns : (k : ℕ) → k < 64 → (nat_le part.x k && nat_lt k (part.x + part.w)) ≡ (nat_le c.args.area.x (c.args.left + k) && nat_lt (c.args.left + k) (c.args.area.x + c.args.area.w)) = λ k h. c.overlap-w.ensures.same k h ∙ (λ i. nat_le (c.x.ensures i) (c.args.left + k) && nat_lt (c.args.left + k) (c.x.ensures i + c.w.ensures i)) in
    let rows : (k : ℕ) → k < 64 → (nat_le part.y k && nat_lt k (part.y + part.h)) ≡ (nat_le c.args.area.y (c.args.top + k) && nat_lt (c.args.top + k) (c.args.area.y + c.args.area.h)) = λ k h. c.overlap-h.ensures.same k h ∙ (λ i. nat_le (c.y.ensures i) (c.args.top + k) && nat_lt (c.args.top + k) (c.y.ensures i + c.h.ensures i)) in (
      λ none x y p q. outside_columns c.args.area (c.args.left + x) (c.args.top + y) (sym (columns x p) ∙ no_columns part.x part.w x none),
      λ none. true_from_ne_false (nat_eq part.w 0) (λ some. part_has_one part c.args.area c.args.left c.args.top columns rows c.overlap-w.ensures.within c.overlap-h.ensures.within some (omega (arith, c.if-h-eq0.false)) none),
    )
