use Rattle.std.proofs.Common.{rules, ◌∙◌, ◌++◌, ◌∷◌, [], sym, ap, subst}
use Rattle.gas_terms.specs.Laboratory.{IsAcceptable}
use Rattle.gas_ledger.specs.Books.{books_of}
use Rattle.gas_lab.specs.Labs.{lab_of, entry_of}
use Rattle.gas_lab.proofs.Keeping.{kept_in_order, kept_torus, kept_affords, kept_by_change}
use Rattle.gas_lab.proofs.lab.Lab.change.Goals as goal

pub enact-requires-clause-in_order : goal.enact-requires-clause-in_order
enact-requires-clause-in_order g c =
    let l = c.self.inside in
    kept_in_order (lab_of l.start l.cap (books_of l.books) l.journal.items) _ c.args.command c.self.invariant.sound c.self.view_is c.requires.acceptable.in_order

pub enact-requires-clause-fits : goal.enact-requires-clause-fits
enact-requires-clause-fits g c =
    let l = c.self.inside in
    kept_affords (lab_of l.start l.cap (books_of l.books) l.journal.items) (entry_of c.args.seat c.args.command) c.self.invariant
    (subst (λ v. IsAcceptable v (entry_of c.args.seat c.args.command)) (sym c.self.view_is) c.requires.acceptable)

pub invariant_of-self-2 : goal.invariant_of-self-2
invariant_of-self-2 g c =
    let l = c.self.inside in
    kept_by_change l.start l.cap (books_of l.books) (books_of c.enact.new.self) l.journal.items c.push_reserved.new.self.items
    (entry_of c.args.seat c.args.command) c.self.invariant
    (subst (λ v. IsAcceptable v (entry_of c.args.seat c.args.command)) (sym c.self.view_is) c.requires.acceptable)
    (search rules) c.enact.ensures.booked
    (c.push_reserved.ensures.items ∙ ap (λ j. j ++ entry_of c.args.seat c.args.command ∷ []) c.reserve.ensures.items)

pub enact-requires-clause-torus : goal.enact-requires-clause-torus
enact-requires-clause-torus g c =
    let l = c.self.inside in
    kept_torus (lab_of l.start l.cap (books_of l.books) l.journal.items) c.self.invariant

pub returns-clause-sound : goal.returns-clause-sound
returns-clause-sound g c = (invariant_of-self-2 g c).sound

pub returns-clause-changed : goal.returns-clause-changed
returns-clause-changed g c = search rules
