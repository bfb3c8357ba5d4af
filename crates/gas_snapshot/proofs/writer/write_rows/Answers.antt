use Rattle.std.proofs.Common.{◌≡◌, ◌∙◌, ◌/◌, ℕ, List, ap, subst, arith}
use Rattle.std.specs.Io.KnownBytes.{Appends}
use Rattle.std.proofs.lemmas.Result.{err_from_is_err_and}
use Rattle.gas_terms.specs.Cells.{Extent}
use Rattle.gas_snapshot.proofs.Rows.{rows_all}
use Rattle.gas_snapshot.proofs.Writes.{row_there, row_written, rows_front}
use Rattle.gas_snapshot.proofs.writer.write_rows.Goals as goal

pub returns-in_err-put_all-clause-err : goal.returns-in_err-put_all-clause-err
returns-in_err-put_all-clause-err g c =
    let wide : c.width.result / 8 ≡ c.args.plane.now.width / 8 = ap (λ (w : ℕ). w / 8) (c.width.ensures ∙ ap (λ (e : Extent). e.width) c.size-size.ensures.extent) in
    let high : c.height-y-end.result ≡ c.args.plane.now.height = c.height-y-end.ensures ∙ ap (λ (e : Extent). e.height) c.size-size.ensures.extent in
    let p = err_from_is_err_and c.from_residual.result c.from_residual.ensures.1 in
    rw (p.1) (rows_front (g.W.Write.contents c.args.writer.now) (g.W.Write.contents c.loop-y.writer) (g.W.Write.contents c.put_all.new.writer) c.args.plane.now _ c.loop-y.y (omega arith)
    (row_there c.args.plane.now c.row_bytes.new.out _ (c.width.result / 8) c.loop-y.y wide c.row_bytes.ensures) c.loop-y.invariant c.in_err-put_all.ensures.err)

pub loop-y-preserved : goal.loop-y-preserved
loop-y-preserved g c =
    let wide : c.width.result / 8 ≡ c.args.plane.now.width / 8 = ap (λ (w : ℕ). w / 8) (c.width.ensures ∙ ap (λ (e : Extent). e.width) c.size-size.ensures.extent) in
    row_written (g.W.Write.contents c.args.writer.now) (g.W.Write.contents c.loop-y.writer) (g.W.Write.contents c.put_all.new.writer) c.args.plane.now _ c.loop-y.y
    (row_there c.args.plane.now c.row_bytes.new.out _ (c.width.result / 8) c.loop-y.y wide c.row_bytes.ensures) c.loop-y.invariant c.in_ok-put_all.ensures.ok

pub returns-clause-ok : goal.returns-clause-ok
returns-clause-ok g c =
    let high : c.height-y-end.result ≡ c.args.plane.now.height = c.height-y-end.ensures ∙ ap (λ (e : Extent). e.height) c.size-size.ensures.extent in
    subst (λ (l : List ℕ). Appends (g.W.Write.contents c.args.writer.now) (g.W.Write.contents c.loop-y.writer) l) (rows_all c.args.plane.now c.loop-y.y c.height-y-end.result high c.loop-y-test.false c.loop-y.auto.y-end) c.loop-y.invariant
