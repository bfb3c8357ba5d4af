use Rattle.std.proofs.Common.{◌≡◌, pos, ◌∙◌, subst, sym, ◌^◌, ◌%◌, arith}
use Rattle.gas_terms.specs.Accounts.{IsOfAtMost}
use Rattle.gas_plane.proofs.Counting.{counted_sums, rectangle_counts_small, total_in_bounded}
use Rattle.gas_plane.proofs.Plane.sums_in.Goals as goal

pub of_counts-requires-clause-small : goal.of_counts-requires-clause-small
of_counts-requires-clause-small c = rectangle_counts_small c.counts_in.result c.args.self.now c.args.area c.size.ensures.lattice c.requires.inside (record { count = c.counts_in.ensures })

pub returns-clause-sums : goal.returns-clause-sums
returns-clause-sums c = λ tick e. c.of_counts.ensures tick e ∙ counted_sums tick c.counts_in.result c.args.self.now c.args.area (record { count = c.counts_in.ensures })

pub returns-clause-bounded : goal.returns-clause-bounded
returns-clause-bounded c =
    let small : c.args.parity % 2 ≡ c.args.parity = omega arith in
    let is = c.of_counts.ensures (pos c.args.parity) small ∙ counted_sums (pos c.args.parity) c.counts_in.result c.args.self.now c.args.area (record { count = c.counts_in.ensures }) in
    subst (IsOfAtMost (2 ^ 24)) (sym is) (total_in_bounded (pos c.args.parity) c.args.self.now c.args.area c.size.ensures.lattice c.requires.inside)
