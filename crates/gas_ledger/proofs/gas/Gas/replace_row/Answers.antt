use Rattle.std.proofs.Common.{◌≡◌, ◌<◌, true, nat_lt, Bool, ℕ, ◌&&◌, ap, subst, sym, ◌∙◌, arith}
use Rattle.std.proofs.lemmas.Bool.Decides.{nat_tests}
use Rattle.gas_terms.specs.Gas.{Gas}
use Rattle.gas_terms.specs.Accounts.{moved_by}
use Rattle.gas_ledger.proofs.Moving.{moved_by_row, row_counts_small}
use Rattle.gas_ledger.proofs.gas.Gas.replace_row.Goals as goal

below : (y h : ℕ) (rest : Bool) → (nat_lt y h && rest) ≡ true → y < h
below y h rest e = grind (arith, nat_tests)

pub moved-requires-clause-gained : goal.moved-requires-clause-gained
moved-requires-clause-gained c = row_counts_small c.row_change-change.result.gained _ c.self.inside.particles c.args.y c.row_change-change.ensures.lattice c.row_change-change.ensures.gained

pub moved-requires-clause-lost : goal.moved-requires-clause-lost
moved-requires-clause-lost c = row_counts_small c.row_change-change.result.lost _ c.self.inside.particles c.args.y c.row_change-change.ensures.lattice c.row_change-change.ensures.lost

pub returns-clause-moved : goal.returns-clause-moved
returns-clause-moved c =
    let high : c.args.y < c.self.inside.particles.height =
    subst (λ (g : Gas). c.args.y < g.particles.height) (sym c.self.view_is) (below c.args.y c.args.self.now.particles.height _ c.requires) in
    rw (← c.self.view_is)
    (c.moved.ensures c.self.inside.tick (sym c.parity.ensures)
    ∙ (moved_by_row c.self.inside.tick c.self.inside.particles c.args.y c.args.bytes.now c.row_change-change.result c.row_change-change.ensures.lattice high c.row_change-change.ensures.gained c.row_change-change.ensures.lost
    ∙ ap (moved_by c.self.inside.tick c.self.inside.particles) (sym c.set_row.ensures)))
