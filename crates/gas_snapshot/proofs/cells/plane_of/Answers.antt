use Rattle.std.proofs.Common.{◌≡◌, ◌∙◌, ◌/◌, ℕ, true, ap, sym, arith}
use Rattle.gas_terms.specs.Cells.{Cells, Extent, extent, is_size}
use Rattle.gas_snapshot.proofs.Rows.{all_rows, row_is_read}
use Rattle.gas_snapshot.proofs.cells.plane_of.Goals as goal

pub loop-y-preserved : goal.loop-y-preserved
loop-y-preserved c =
    let sized : is_size c.args.size ≡ true = ap (λ (cells : Cells). is_size (extent cells)) (sym c.in_ok-plane.ensures) ∙ c.size.ensures.lattice.sized in
    let wide : c.size.result.width ≡ c.args.size.width = ap (λ (size : Extent). size.width) c.size.ensures.extent ∙ ap (λ (cells : Cells). cells.width) c.in_ok-plane.ensures in
    c.set_row.ensures
    ∙ row_is_read c.args.size c.args.bytes.now c.loop-y.y (c.width.result / 8) c.loop-y.plane sized (ap (λ (w : ℕ). w / 8) (c.width.ensures ∙ wide)) c.loop-y.invariant

pub returns : goal.returns
returns c = c.loop-y.invariant ∙ all_rows c.args.size c.args.bytes.now c.loop-y.y (omega arith)
