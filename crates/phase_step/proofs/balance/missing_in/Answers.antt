use Rattle.phase_step.proofs.Balances.{five_fit, five_again}
use Rattle.phase_step.proofs.balance.missing_in.Goals as goal

pub overflow_sub-result-3 : goal.overflow_sub-result-3
overflow_sub-result-3 c =
    let a = c.args in
    five_fit a.before a.injected a.drained a.took a.after c.requires.before c.requires.injected c.requires.drained c.requires.took c.requires.after

pub returns : goal.returns
returns c =
    let a = c.args in
    five_again a.before a.injected a.drained a.took a.after c.requires.before c.requires.injected c.requires.drained c.requires.took c.requires.after
