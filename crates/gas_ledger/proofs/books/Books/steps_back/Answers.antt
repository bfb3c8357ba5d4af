use Rattle.std.proofs.Common.{◌∙◌, sym}
use Rattle.phase_step.proofs.RunSteps.{back_run}
use Rattle.gas_ledger.specs.Books.{books_of}
use Rattle.gas_ledger.proofs.Stepping.{ran_back_to, given_fits}
use Rattle.gas_ledger.proofs.books.Books.steps_back.Goals as goal

pub with_given_back-self-requires-clause-walls : goal.with_given_back-self-requires-clause-walls
with_given_back-self-requires-clause-walls g c =
    (given_fits (books_of c.args.self.now) c.run_back-took.result c.args.n c.run_back-took.ensures.took c.requires.torus c.requires.fits).walls

pub with_given_back-self-requires-clause-obstacles : goal.with_given_back-self-requires-clause-obstacles
with_given_back-self-requires-clause-obstacles g c =
    (given_fits (books_of c.args.self.now) c.run_back-took.result c.args.n c.run_back-took.ensures.took c.requires.torus c.requires.fits).obstacles

pub returns : goal.returns
returns g c =
    let b = books_of c.args.self.now in
    record {
      booked = ran_back_to b c.run_back-took.new.self c.with_given_back-self.result c.run_back-took.result c.args.n c.run_back-took.ensures.gas c.run_back-took.ensures.took c.with_given_back-self.ensures
          ∙ sym (back_run c.args.n b c.requires.torus.sides);
    }
