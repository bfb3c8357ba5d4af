use Rattle.std.proofs.Common.{◌≡◌, ◌^◌, ◌%◌, pos, sym, ◌∙◌, subst, arith}
use Rattle.gas_terms.specs.Accounts.{IsOfAtMost}
use Rattle.gas_terms.proofs.TotalBounds.{total_bounded}
use Rattle.gas_plane.proofs.Counting.{all_counts_small, counted_total}
use Rattle.gas_plane.proofs.Plane.total.Goals as goal

pub of_counts-requires-clause-small : goal.of_counts-requires-clause-small
of_counts-requires-clause-small c = all_counts_small c.counts_of_all.result c.args.self.now c.shows_lattice.ensures c.counts_of_all.ensures

pub returns-clause-sums : goal.returns-clause-sums
returns-clause-sums c = λ tick e. c.of_counts.ensures tick e ∙ counted_total tick c.counts_of_all.result c.args.self.now c.shows_lattice.ensures c.counts_of_all.ensures

pub returns-clause-bounded : goal.returns-clause-bounded
returns-clause-bounded c =
    let small : c.args.parity % 2 ≡ c.args.parity = omega arith in
    let is = c.of_counts.ensures (pos c.args.parity) small ∙ counted_total (pos c.args.parity) c.counts_of_all.result c.args.self.now c.shows_lattice.ensures c.counts_of_all.ensures in
    subst (IsOfAtMost (2 ^ 24)) (sym is) (total_bounded (pos c.args.parity) c.args.self.now c.shows_lattice.ensures.sized)
