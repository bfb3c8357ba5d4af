use Rattle.std.proofs.Common.{ap, option_copied}
use Rattle.phase_step.proofs.SolidBlocks.{nothing_walled}
use Rattle.phase_step.proofs.Others.{none_of, some_of, in_other}
use Rattle.phase_step.proofs.steps.set_words.others_at.Goals as goal

pub returns-in-Some : goal.returns-in-Some
returns-in-Some c = λ set other lattice within are.
    let is = some_of set other (option_copied c.args.others) c.in-Some.words.now (ap option_copied c.in-Some.is) are in
    c.of_tile.ensures other (in_other set other c.args.i is.0 within) is.1

pub returns-in-None : goal.returns-in-None
returns-in-None c = λ set other lattice within are. nothing_walled set other c.args.i lattice within (none_of set other (option_copied c.args.others) (ap option_copied c.in-None.is) are)
