use Rattle.std.proofs.Common.{rules, ap, ◌∙◌}
use Rattle.gas_terms.specs.Cells.{extent}
use Rattle.gas_terms.specs.Laboratory.{Laboratory}
use Rattle.gas_ledger.specs.Books.{books_of}
use Rattle.gas_lab.specs.Labs.{lab_of}
use Rattle.gas_lab.proofs.Keeping.{kept_extent}
use Rattle.gas_lab.proofs.lab.Lab.size.Goals as goal

pub returns-clause-start : goal.returns-clause-start
returns-clause-start g c =
    let l = c.self.inside in
    c.size.ensures.extent ∙ kept_extent (lab_of l.start l.cap (books_of l.books) l.journal.items) c.self.invariant.sound ∙ ap (λ (l : Laboratory). extent l.start.particles) c.self.view_is

pub returns-clause-gas : goal.returns-clause-gas
returns-clause-gas g c = search rules
