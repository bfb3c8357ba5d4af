use Rattle.std.proofs.Common.{ℕ, ◌*◌, ◌/◌, Result, Ok, sym, ap, ◌∙◌, arith}
use Rattle.std.proofs.lemmas.Result.{err_from_is_err_and}
use Rattle.gas_terms.specs.Gas.{Gas}
use Rattle.gas_snapshot.specs.declared.fault.SnapFault.{SnapFault}
use Rattle.gas_snapshot.specs.Reading.{head_with}
use Rattle.gas_snapshot.proofs.GasLaws.{needed_is, read_short, read_long, read_whole, is_read, ArePieces, gas_read, fits_together}
use Rattle.gas_snapshot.proofs.Faults.{head_fails}
use Rattle.gas_snapshot.proofs.reading.gas_in.Goals as goal

pub returns-in-Err : goal.returns-in-Err
returns-in-Err c = head_fails c.args.bytes.now c.in-Err.fault c.in-Err.ensures

pub returns-then-cells-needed : goal.returns-then-cells-needed
returns-then-cells-needed c =
    let h = head_with c.in-Ok.read.0 c.read_head.new.ports in
    read_short c.args.bytes.now h c.in-Ok.read.1.now (c.layers.result * (c.height.result * (c.width.result / 8))) c.in-Ok.ensures (needed_is h.version h.size c.layers.result c.height.result c.width.result c.layers.ensures c.height.ensures c.width.ensures) c.if-cells-needed.true

pub returns-then-cells-needed-2 : goal.returns-then-cells-needed-2
returns-then-cells-needed-2 c =
    let h = head_with c.in-Ok.read.0 c.read_head.new.ports in
    read_long c.args.bytes.now h c.in-Ok.read.1.now (c.layers.result * (c.height.result * (c.width.result / 8))) c.in-Ok.ensures (needed_is h.version h.size c.layers.result c.height.result c.width.result c.layers.ensures c.height.ensures c.width.ensures) c.if-cells-needed-2.true

pub returns-in_err-particles : goal.returns-in_err-particles
returns-in_err-particles c =
    let h = head_with c.in-Ok.read.0 c.read_head.new.ports in
    let p = err_from_is_err_and c.from_residual.result c.from_residual.ensures.1 in
    rw (p.1, p.2) (is_read c.args.bytes.now h c.in-Ok.read.1.now (c.layers.result * (c.height.result * (c.width.result / 8))) c.in-Ok.ensures (needed_is h.version h.size c.layers.result c.height.result c.width.result c.layers.ensures c.height.ensures c.width.ensures) c.if-cells-needed.false c.if-cells-needed-2.false)

pub returns-in_err-walls : goal.returns-in_err-walls
returns-in_err-walls c =
    let h = head_with c.in-Ok.read.0 c.read_head.new.ports in
    let p = err_from_is_err_and c.from_residual-in_err-walls.result c.from_residual-in_err-walls.ensures.1 in
    rw (p.1, p.2) (is_read c.args.bytes.now h c.in-Ok.read.1.now (c.layers.result * (c.height.result * (c.width.result / 8))) c.in-Ok.ensures (needed_is h.version h.size c.layers.result c.height.result c.width.result c.layers.ensures c.height.ensures c.width.ensures) c.if-cells-needed.false c.if-cells-needed-2.false)

pub returns-in_err-obstacles : goal.returns-in_err-obstacles
returns-in_err-obstacles c =
    let h = head_with c.in-Ok.read.0 c.read_head.new.ports in
    let p = err_from_is_err_and c.from_residual-in_err-obstacles.result c.from_residual-in_err-obstacles.ensures.1 in
    rw (p.1, p.2) (is_read c.args.bytes.now h c.in-Ok.read.1.now (c.layers.result * (c.height.result * (c.width.result / 8))) c.in-Ok.ensures (needed_is h.version h.size c.layers.result c.height.result c.width.result c.layers.ensures c.height.ensures c.width.ensures) c.if-cells-needed.false c.if-cells-needed-2.false)

pub returns-in_err-gas : goal.returns-in_err-gas
returns-in_err-gas c =
    let h = head_with c.in-Ok.read.0 c.read_head.new.ports in
    let p = err_from_is_err_and c.from_residual-in_err-gas.result c.from_residual-in_err-gas.ensures.1 in
    rw (p.1, p.2) (is_read c.args.bytes.now h c.in-Ok.read.1.now (c.layers.result * (c.height.result * (c.width.result / 8))) c.in-Ok.ensures (needed_is h.version h.size c.layers.result c.height.result c.width.result c.layers.ensures c.height.ensures c.width.ensures) c.if-cells-needed.false c.if-cells-needed-2.false)

pub new-requires : goal.new-requires
new-requires c =
    let h = head_with c.in-Ok.read.0 c.read_head.new.ports in
    fits_together c.args.bytes.now h c.in-Ok.read.1.now c.in_ok-particles.particles c.in_ok-walls.walls c.in_ok-obstacles.obstacles c.split_at.result.0.now c.split_at-2.result.0.now c.split_at-2.result.1.now (λ i. omega (arith, c.type_inv.bytes i)) c.in-Ok.ensures
    c.in_ok-particles.ensures c.in_ok-walls.ensures c.in_ok-obstacles.ensures

abbrev ok : Gas → Result Gas SnapFault
ok g = Ok g

pub returns : goal.returns
returns c =
    let h = head_with c.in-Ok.read.0 c.read_head.new.ports in
    let n = c.height.result * (c.width.result / 8) in
    let pieces : ArePieces h.size c.in-Ok.read.1.now c.split_at.result.0.now c.split_at.result.1.now c.split_at-2.result.0.now c.split_at-2.result.1.now n =
    record { len = ap (λ (i : ℕ). i * (c.width.result / 8)) c.height.ensures ∙ ap (λ (i : ℕ). h.size.height * (i / 8)) c.width.ensures; first_is = c.split_at.ensures.front; after_is = c.split_at.ensures.back; second_is = c.split_at-2.ensures.front; third_is = c.split_at-2.ensures.back } in
    read_whole c.args.bytes.now h c.in-Ok.read.1.now (c.layers.result * (c.height.result * (c.width.result / 8))) c.in-Ok.ensures (needed_is h.version h.size c.layers.result c.height.result c.width.result c.layers.ensures c.height.ensures c.width.ensures) c.if-cells-needed.false c.if-cells-needed-2.false
    ∙ ap (λ (g : Gas). ok g) (sym (c.in_ok-gas.ensures ∙ gas_read h c.in-Ok.read.1.now c.split_at.result.0.now c.split_at.result.1.now c.split_at-2.result.0.now c.split_at-2.result.1.now n c.in_ok-particles.particles c.in_ok-walls.walls c.in_ok-obstacles.obstacles pieces c.in_ok-particles.ensures c.in_ok-walls.ensures c.in_ok-obstacles.ensures))
