use Rattle.std.proofs.Common.{rules, ap, sym, ◌∙◌}
use Rattle.gas_terms.specs.Cells.{extent, lies_within}
use Rattle.gas_terms.specs.Gas.{Gas}
use Rattle.gas_terms.specs.Commands.{fits}
use Rattle.gas_terms.specs.Laboratory.{Laboratory}
use Rattle.gas_ledger.specs.Books.{books_of}
use Rattle.gas_lab.specs.Labs.{lab_of}
use Rattle.gas_lab.proofs.Keeping.{kept_in_order, row_within}
use Rattle.gas_lab.proofs.lab.Lab.apply.Goals as goal

pub probe-requires : goal.probe-requires
probe-requires g c =
    let l = c.self.inside in
    ap (λ p. lies_within (extent p) c.in-Probe.area) c.particles.ensures
    ∙ ap (λ (g : Gas). lies_within (extent g.particles) c.in-Probe.area) c.gas-gas.ensures
    ∙ sym (ap (λ (now : Laboratory). lies_within (extent now.gas.particles) c.in-Probe.area) c.self.view_is)
    ∙ ap (fits (extent l.books.gas.particles)) (sym c.in-Probe.is)
    ∙ kept_in_order (lab_of l.start l.cap (books_of l.books) l.journal.items) _ c.args.command c.self.invariant.sound c.self.view_is c.requires.in_order

pub row-requires : goal.row-requires
row-requires g c =
    let l = c.self.inside in
    row_within (lab_of l.start l.cap (books_of l.books) l.journal.items) _ c.args.command c.in-Read.y c.self.view_is c.in-Read.is
    (kept_in_order (lab_of l.start l.cap (books_of l.books) l.journal.items) _ c.args.command c.self.invariant.sound c.self.view_is c.requires.in_order)

pub returns-in-Probe : goal.returns-in-Probe
returns-in-Probe g c = search rules
