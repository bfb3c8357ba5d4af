use Rattle.std.proofs.Common.{rules, ◌∙◌, ap}
use Rattle.std.proofs.lemmas.List.{take_at}
use Rattle.std.proofs.lemmas.List.Elements.{All-same}
use Rattle.claim_desk.specs.Draws.{once_below}
use Rattle.phase_team.specs.Teamwork.{drawn}
use Rattle.phase_team.proofs.DrawnNumbers.{times-drawn}
use Rattle.phase_team.proofs.Closing.{closes}
use Rattle.phase_step.proofs.Sides.{tiles_are}
use Rattle.phase_team.specs.Teamwork.{HasWorked}
use Rattle.phase_team.proofs.team.Team.turn_together.Goals as goal

pub returns : goal.returns
returns g c =
    let closed = closes c.args.task (drawn c.hand_in-took.new.seats.items) c.hand_in-took.result c.hand_in-took.new.out c.hand_in-took.ensures.turned
    (λ x. times-drawn x c.hand_in-took.new.seats.items ∙ (c.close.ensures.once x ∙ ap (λ n. once_below n x) (c.close.ensures.limit ∙ (c.in-Some.ensures.tiles ∙ tiles_are c.args.task.old.now c.size.result c.tiles-tiles.result c.size.ensures.extent c.tiles-tiles.ensures.tiles)))) in
    record { out = closed.0; took = closed.1; none = search rules; team = search rules }

pub hand_in-took-requires-clause-worked : goal.hand_in-took-requires-clause-worked
hand_in-took-requires-clause-worked g c =
    All-same (HasWorked c.args.task c.in-Some.crew.desk.id) _ c.work_together-first.new.team (take_at c.work_together-first.new.team _ c.in-Some.crew.team.len (search rules)) c.work_together-first.ensures.worked
