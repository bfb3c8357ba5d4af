use Rattle.std.proofs.Common.{rules, ◌≡◌, ◌++◌, sym, ap, ◌∙◌, length, take, drop}
use Rattle.std.proofs.Math.Seq.{take-append_seam}
use Rattle.gas_terms.specs.Rows.{row_bytes}
use Rattle.gas_terms.specs.declared.answer.Answer.TheVariants.{RowIs}
use Rattle.gas_lab.proofs.lab.Lab.row.Goals as goal

pub returns-clause-ok : goal.returns-clause-ok
returns-clause-ok g c =
    let out = c.row_bytes.new.out in
    let rest = drop (length out) c.in_ok-row.row in
    let particles : c.particles-particles.result.now ≡ c.args.self.now.gas.particles = search rules in
    let len : length out ≡ length c.in_ok-row.row = search rules in
    let whole = ap (λ n. take n (out ++ rest)) (sym len) ∙ take-append_seam out rest in
    ap RowIs (whole ∙ c.row_bytes.ensures ∙ ap (λ cells. row_bytes cells c.args.y) particles)
