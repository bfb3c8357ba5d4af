use Rattle.phase_step.proofs.Balances.{found_walls, found_obstacles}
use Rattle.phase_step.proofs.balance.with_missing_account.Goals as goal

pub returns-then-counted : goal.returns-then-counted
returns-then-counted c = λ all is balances. rw c.missing-rest.ensures (found_obstacles c.args.counted c.args.before c.args.after c.args.flow all c.if-counted.true c.requires.one is balances)

pub returns-else-counted : goal.returns-else-counted
returns-else-counted c = λ all is balances. rw c.missing-rest.ensures (found_walls c.args.counted c.args.before c.args.after c.args.flow all c.if-counted.false c.requires.one is balances)
