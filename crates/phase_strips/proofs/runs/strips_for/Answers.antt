use Rattle.std.proofs.Common.{◌≡◌, ◌==◌, ◌&&◌, true, sym, ap₂, ◌∙◌, arith}
use Rattle.std.proofs.lemmas.Bool.Decides.{nat_tests}
use Rattle.gas_terms.specs.Cells.{Extent}
use Rattle.phase_strips.proofs.runs.strips_for.Goals as goal

same_size : (m n : Extent) → (m.width == n.width && m.height == n.height) ≡ true → m ≡ n
same_size m n same =
    let wide : m.width ≡ n.width = grind (arith, nat_tests) in
    let high : m.height ≡ n.height = grind (arith, nat_tests) in
    ap₂ (λ w h. let e : Extent = record { width = w; height = h } in e) wide high

pub returns-then-eq : goal.returns-then-eq
returns-then-eq c = same_size c.in-Some.strips.size c.args.size (sym c.eq.ensures ∙ c.if-eq.true)
