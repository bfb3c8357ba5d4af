use Rattle.std.proofs.Common.{◌/◌, ◌∙◌, ap}
use Rattle.gas_terms.specs.Cells.{Extent}
use Rattle.phase_step.specs.declared.parts.Part.{Part}
use Rattle.phase_step.proofs.parts.whole.Goals as goal

pub returns-clause-part : goal.returns-clause-part
returns-clause-part c =
    let e = c.height.ensures ∙ ap (λ (s : Extent). s.height) c.size.ensures.extent in
    ap (λ n. let part : Part = record { first = 0; down = n / 64; margin = 0 } in part) e
