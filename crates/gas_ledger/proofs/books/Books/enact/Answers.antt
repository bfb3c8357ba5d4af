use Rattle.std.proofs.Common.{◌≡◌, ◌≤◌, ◌∙◌, false, ap, subst, rules}
use Rattle.gas_terms.specs.BookedGas.{changes}
use Rattle.gas_terms.specs.declared.command.Command.TheVariants.{Step, Back}
use Rattle.gas_terms.specs.Commands.{is_move}
use Rattle.gas_terms.proofs.LabBounds.{few_changes}
use Rattle.gas_terms.specs.Accounts.{with_moved}
use Rattle.gas_ledger.specs.Books.{books_of}
use Rattle.gas_ledger.proofs.Stepping.{pair}
use Rattle.gas_ledger.proofs.Editing.{edit_booked, edit_fits}
use Rattle.gas_ledger.proofs.books.Books.enact.Goals as goal

pub steps-requires-clause-fits : goal.steps-requires-clause-fits
steps-requires-clause-fits g c =
    let few = subst (λ m. changes m ≤ 4096) c.in-Step.is (few_changes _ c.args.command.now c.requires.in_order) in
    c.requires.fits (Step c.in-Step.n) few

pub steps_back-requires-clause-fits : goal.steps_back-requires-clause-fits
steps_back-requires-clause-fits g c =
    let few = subst (λ m. changes m ≤ 4096) c.in-Back.is (few_changes _ c.args.command.now c.requires.in_order) in
    c.requires.fits (Back c.in-Back.n) few

pub with_moved-self-requires : goal.with_moved-self-requires
with_moved-self-requires g c =
    let b = books_of c.args.self.now in
    let still : is_move c.args.command.now ≡ false = search rules in
    let same = edit_booked b.gas c.edit-moved.new.self b.ledger c.edit-moved.result c.args.command.now still c.edit-moved.ensures.gas c.edit-moved.ensures.moved in
    let fits = edit_fits (pair c.edit-moved.new.self (with_moved b.ledger c.edit-moved.result)) _ same (c.requires.fits c.args.command.now (few_changes _ c.args.command.now c.requires.in_order)) in
    record { injected = fits.injected; drained = fits.drained }

pub returns-in_default : goal.returns-in_default
returns-in_default g c =
    let b = books_of c.args.self.now in
    let still : is_move c.args.command.now ≡ false = search rules in
    record {
      booked = ap (pair c.edit-moved.new.self) c.with_moved-self.ensures
          ∙ edit_booked b.gas c.edit-moved.new.self b.ledger c.edit-moved.result c.args.command.now still c.edit-moved.ensures.gas c.edit-moved.ensures.moved;
    }
