use Rattle.gas_ledger.specs.Books.{books_of}
use Rattle.gas_ledger.proofs.Stepping.{stepped_to, stepped_fits, moved_fits}
use Rattle.gas_ledger.proofs.books.Books.steps.Goals as goal

pub with_taken-taken-requires-clause-walls : goal.with_taken-taken-requires-clause-walls
with_taken-taken-requires-clause-walls g c = (stepped_fits (books_of c.args.self.now) c.step_on-flow.result c.args.n c.step_on-flow.ensures.took c.step_on-flow.ensures.moved c.requires.fits).walls

pub with_taken-taken-requires-clause-obstacles : goal.with_taken-taken-requires-clause-obstacles
with_taken-taken-requires-clause-obstacles g c = (stepped_fits (books_of c.args.self.now) c.step_on-flow.result c.args.n c.step_on-flow.ensures.took c.step_on-flow.ensures.moved c.requires.fits).obstacles

pub with_moved-self-requires-clause-injected : goal.with_moved-self-requires-clause-injected
with_moved-self-requires-clause-injected g c =
    (moved_fits (books_of c.args.self.now) c.with_taken-taken.result c.step_on-flow.result c.args.n c.step_on-flow.ensures.took c.step_on-flow.ensures.moved c.requires.fits c.with_taken-taken.ensures).0

pub with_moved-self-requires-clause-drained : goal.with_moved-self-requires-clause-drained
with_moved-self-requires-clause-drained g c =
    (moved_fits (books_of c.args.self.now) c.with_taken-taken.result c.step_on-flow.result c.args.n c.step_on-flow.ensures.took c.step_on-flow.ensures.moved c.requires.fits c.with_taken-taken.ensures).1

pub returns : goal.returns
returns g c =
    record { booked = stepped_to (books_of c.args.self.now) c.step_on-flow.new.self c.with_taken-taken.result c.with_moved-self.result c.step_on-flow.result c.args.n c.step_on-flow.ensures.gas c.step_on-flow.ensures.took c.step_on-flow.ensures.moved c.with_taken-taken.ensures c.with_moved-self.ensures }
