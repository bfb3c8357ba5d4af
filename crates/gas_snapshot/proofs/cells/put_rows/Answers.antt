use Rattle.std.proofs.Common.{◌≡◌, ◌∙◌, ◌/◌, ◌*◌, ◌-◌, ◌+◌, ℕ, ap, arith}
use Rattle.gas_terms.specs.Cells.{Extent}
use Rattle.gas_snapshot.proofs.Rows.{row_is_put, all_rows_put}
use Rattle.gas_snapshot.proofs.cells.put_rows.Goals as goal

pub loop-y-preserved : goal.loop-y-preserved
loop-y-preserved c =
    let len = c.width.result / 8 in
    let wide : len ≡ c.args.plane.now.width / 8 = ap (λ (w : ℕ). w / 8) (c.width.ensures ∙ ap (λ (e : Extent). e.width) c.size-size.ensures.extent) in
    let high : c.height-y-end.result ≡ c.args.plane.now.height = c.height-y-end.ensures ∙ ap (λ (e : Extent). e.height) c.size-size.ensures.extent in
    row_is_put c.args.plane.now c.loop-y.out c.row_bytes.new.out c.loop-y.y len (c.loop-y.y * len + len - c.loop-y.y * len) c.row_bytes.ensures wide (omega arith) (omega arith) (c.loop-y.auto.out ∙ c.requires) c.loop-y.invariant

pub returns : goal.returns
returns c =
    let len = c.width.result / 8 in
    let wide : len ≡ c.args.plane.now.width / 8 = ap (λ (w : ℕ). w / 8) (c.width.ensures ∙ ap (λ (e : Extent). e.width) c.size-size.ensures.extent) in
    let high : c.height-y-end.result ≡ c.args.plane.now.height = c.height-y-end.ensures ∙ ap (λ (e : Extent). e.height) c.size-size.ensures.extent in
    all_rows_put c.args.plane.now c.loop-y.out c.loop-y.y len c.height-y-end.result wide high c.loop-y-test.false c.loop-y.auto.y-end (c.loop-y.auto.out ∙ c.requires) c.loop-y.invariant
