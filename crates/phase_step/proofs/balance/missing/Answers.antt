use Rattle.std.proofs.Common.{◌^◌}
use Rattle.phase_step.proofs.Balances.{both_missing, missing_again, small_momentum, small_together}
use Rattle.phase_step.proofs.balance.missing.Goals as goal

pub returns : goal.returns
returns c =
    let a = c.args in
    let m = c.args.flow.moved in
    let t = c.plus-took.result in
    let before = small_momentum (2 ^ 48) a.before c.requires.before in
    let after = small_momentum (2 ^ 48) a.after c.requires.after in
    let injected = small_momentum (2 ^ 48) m.injected c.requires.injected in
    let drained = small_momentum (2 ^ 48) m.drained c.requires.drained in
    let took = small_together a.flow.took t c.requires.walls c.requires.obstacles c.plus-took.ensures in
    both_missing a.before a.after a.flow t _ _ c.plus-took.ensures
    (missing_again a.before.px m.injected.px m.drained.px t.x a.after.px before.0 injected.0 drained.0 took.0 after.0 c.missing_in.result c.missing_in.ensures)
    (missing_again a.before.py m.injected.py m.drained.py t.y a.after.py before.1 injected.1 drained.1 took.1 after.1 c.missing_in-2.result c.missing_in-2.ensures)
