use Rattle.std.proofs.Common.{◌∙◌, ◌*◌, ◌/◌, ℕ, ap}
use Rattle.std.proofs.lemmas.Result.{err_from_is_err_and}
use Rattle.gas_terms.specs.Cells.{Cells, Extent}
use Rattle.gas_snapshot.specs.Spelling.{cell_rows}
use Rattle.gas_snapshot.proofs.Writes.{ended_1, ended_2, ended_3, ended_4, ended_all, length_spelled, as_written, as_fronted}
use Rattle.gas_snapshot.proofs.writer.write_to.Goals as goal

pub returns-in_err-put_all-clause-err : goal.returns-in_err-put_all-clause-err
returns-in_err-put_all-clause-err g c =
    let k = g.W.Write.contents in
    let p = err_from_is_err_and c.from_residual.result c.from_residual.ensures.1 in
    rw (p.1) (ended_1 (k c.args.writer.now) (k c.put_all.new.writer) c.args.gas.now
    (as_fronted (k c.args.writer.now) (k c.put_all.new.writer) _ _ (c.text-head.ensures ∙ c.head_of-page.ensures) c.in_err-put_all.ensures.err))

pub returns-in_err-write_rows-clause-err : goal.returns-in_err-write_rows-clause-err
returns-in_err-write_rows-clause-err g c =
    let k = g.W.Write.contents in
    let p = err_from_is_err_and c.from_residual-in_err-write_rows.result c.from_residual-in_err-write_rows.ensures.1 in
    rw (p.1) (ended_2 (k c.args.writer.now) (k c.put_all.new.writer) (k c.write_rows.new.writer) c.args.gas.now
    (as_written (k c.args.writer.now) (k c.put_all.new.writer) _ _ (c.text-head.ensures ∙ c.head_of-page.ensures) c.in_ok-put_all.ensures.ok)
    (as_fronted (k c.put_all.new.writer) (k c.write_rows.new.writer) _ _ (ap (λ (x : Cells). cell_rows x) c.particles.ensures) c.in_err-write_rows.ensures.err))

pub returns-in_err-write_rows-2-clause-err : goal.returns-in_err-write_rows-2-clause-err
returns-in_err-write_rows-2-clause-err g c =
    let k = g.W.Write.contents in
    let p = err_from_is_err_and c.from_residual-in_err-write_rows-2.result c.from_residual-in_err-write_rows-2.ensures.1 in
    rw (p.1) (ended_3 (k c.args.writer.now) (k c.put_all.new.writer) (k c.write_rows.new.writer) (k c.write_rows-2.new.writer) c.args.gas.now
    (as_written (k c.args.writer.now) (k c.put_all.new.writer) _ _ (c.text-head.ensures ∙ c.head_of-page.ensures) c.in_ok-put_all.ensures.ok)
    (as_written (k c.put_all.new.writer) (k c.write_rows.new.writer) _ _ (ap (λ (x : Cells). cell_rows x) c.particles.ensures) c.in_ok-write_rows.ensures.ok)
    (as_fronted (k c.write_rows.new.writer) (k c.write_rows-2.new.writer) _ _ (ap (λ (x : Cells). cell_rows x) c.walls.ensures) c.in_err-write_rows-2.ensures.err))

pub returns-in_err-write_rows-3-clause-err : goal.returns-in_err-write_rows-3-clause-err
returns-in_err-write_rows-3-clause-err g c =
    let k = g.W.Write.contents in
    let p = err_from_is_err_and c.from_residual-in_err-write_rows-3.result c.from_residual-in_err-write_rows-3.ensures.1 in
    rw (p.1) (ended_4 (k c.args.writer.now) (k c.put_all.new.writer) (k c.write_rows.new.writer) (k c.write_rows-2.new.writer) (k c.write_rows-3.new.writer) c.args.gas.now
    (as_written (k c.args.writer.now) (k c.put_all.new.writer) _ _ (c.text-head.ensures ∙ c.head_of-page.ensures) c.in_ok-put_all.ensures.ok)
    (as_written (k c.put_all.new.writer) (k c.write_rows.new.writer) _ _ (ap (λ (x : Cells). cell_rows x) c.particles.ensures) c.in_ok-write_rows.ensures.ok)
    (as_written (k c.write_rows.new.writer) (k c.write_rows-2.new.writer) _ _ (ap (λ (x : Cells). cell_rows x) c.walls.ensures) c.in_ok-write_rows-2.ensures.ok)
    (as_fronted (k c.write_rows-2.new.writer) (k c.write_rows-3.new.writer) _ _ (ap (λ (x : Cells). cell_rows x) c.obstacles.ensures) c.in_err-write_rows-3.ensures.err))

pub returns-clause-ok : goal.returns-clause-ok
returns-clause-ok g c =
    let k = g.W.Write.contents in
    let n = c.height.result * (c.width.result / 8) in (
      ended_all (k c.args.writer.now) (k c.put_all.new.writer) (k c.write_rows.new.writer) (k c.write_rows-2.new.writer) (k c.write_rows-3.new.writer) c.args.gas.now
          (as_written (k c.args.writer.now) (k c.put_all.new.writer) _ _ (c.text-head.ensures ∙ c.head_of-page.ensures) c.in_ok-put_all.ensures.ok)
          (as_written (k c.put_all.new.writer) (k c.write_rows.new.writer) _ _ (ap (λ (x : Cells). cell_rows x) c.particles.ensures) c.in_ok-write_rows.ensures.ok)
          (as_written (k c.write_rows.new.writer) (k c.write_rows-2.new.writer) _ _ (ap (λ (x : Cells). cell_rows x) c.walls.ensures) c.in_ok-write_rows-2.ensures.ok)
          (as_written (k c.write_rows-2.new.writer) (k c.write_rows-3.new.writer) _ _ (ap (λ (x : Cells). cell_rows x) c.obstacles.ensures) c.in_ok-write_rows-3.ensures.ok),
      length_spelled c.args.gas.now c.text-head.result.now n c.size-size.ensures.sound (c.text-head.ensures ∙ c.head_of-page.ensures)
          (ap (λ (i : ℕ). i * (c.width.result / 8)) (c.height.ensures ∙ ap (λ (e : Extent). e.height) c.size-size.ensures.extent) ∙ ap (λ (i : ℕ). c.args.gas.now.particles.height * (i / 8)) (c.width.ensures ∙ ap (λ (e : Extent). e.width) c.size-size.ensures.extent)),
    )
