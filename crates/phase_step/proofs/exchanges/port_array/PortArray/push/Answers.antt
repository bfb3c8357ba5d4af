use Rattle.std.proofs.Common.{◌<◌, ◌++◌, ◌∷◌, [], ap, ◌∙◌, length, arith}
use Rattle.std.proofs.lemmas.Grind.{common_steps}
use Rattle.std.proofs.lemmas.List.{take_more_set}
use Rattle.phase_step.proofs.exchanges.port_array.PortArray.push.Goals as goal

pub returns : goal.returns
returns g c =
    let s = c.self.inside in
    let room : s.count < length s.values = grind (arith, common_steps) in
    take_more_set s.values s.count c.args.value room ∙ ap (λ l. l ++ c.args.value ∷ []) c.self.view_is
