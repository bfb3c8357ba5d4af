use Rattle.std.proofs.Common.{of_calls}
use Rattle.std.proofs.lemmas.List.Elements.{All-push}
use Rattle.phase_team.specs.Teamwork.{HasWorked}
use Rattle.phase_team.proofs.phase.crew.+fn-work_together-join_mut+arg3+work_together.Goals as goal

pub returns-clause-worked : goal.returns-clause-worked
returns-clause-worked g t c =
    let task = c.args.shift.task in
    All-push (HasWorked task c.args.shift.desk.now.id) _ _ (search of_calls) (search of_calls)
