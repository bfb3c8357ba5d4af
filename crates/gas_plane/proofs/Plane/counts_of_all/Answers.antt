use Rattle.std.proofs.Common.{◌≡◌, ◌∙◌, ℕ, Bool, true, false, Some, None, if◌then◌else◌, Option, ap, ap₂, subst, sym}
use Rattle.gas_terms.specs.Cells.{Extent, Rectangle, whole}
use Rattle.gas_plane.specs.Counts.{AreCounts}
use Rattle.gas_plane.proofs.Plane.counts_of_all.Goals as goal

chosen : (fits : Bool) (r s : Rectangle) → (let o : Option Rectangle = Some s in o) ≡ (if fits then Some r else None) → s ≡ r
chosen true r s e = cc
chosen false r s e = cc

pub returns : goal.returns
returns c =
    let corner : ℕ → ℕ → Rectangle = λ w h. record { x = 0; y = 0; w = w; h = h } in
    let all : c.unwrap-all.result ≡ whole c.args.self.now =
    chosen _ _ _ (sym c.unwrap-all.ensures ∙ c.within.ensures)
    ∙ ap₂ corner (c.width.ensures ∙ ap (λ (s : Extent). s.width) c.size-size.ensures.extent) (c.height.ensures ∙ ap (λ (s : Extent). s.height) c.size-size.ensures.extent) in
    subst (λ (r : Rectangle). AreCounts c.counts_in.result c.args.self.now r) all (record { count = c.counts_in.ensures })
