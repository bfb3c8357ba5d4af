use Rattle.std.proofs.Common.{◌≡◌, ◌&&◌, sym, subst, arith}
use Rattle.bit_tile.specs.Tile.{has}
use Rattle.block_rule.specs.Around.{is_walled_at, twice_momentum_in}
use Rattle.block_rule.proofs.tile_phase.momentum_by_set.Goals as goal

pub returns-then-parity-eq0-clause-is : goal.returns-then-parity-eq0-clause-is
returns-then-parity-eq0-clause-is c = λ window are.
    subst (λ p. c.momentum_even.result ≡ twice_momentum_in p (λ x y. has c.args.tile.now x y && is_walled_at p window x y)) (sym c.if-parity-eq0.true) (c.momentum_even.ensures.is window are.even)

pub returns-else-parity-eq0-clause-is : goal.returns-else-parity-eq0-clause-is
returns-else-parity-eq0-clause-is c = λ window are.
    let one : 1 ≡ c.args.parity = omega arith in
    subst (λ p. c.momentum_odd.result ≡ twice_momentum_in p (λ x y. has c.args.tile.now x y && is_walled_at p window x y)) one (c.momentum_odd.ensures.is window are.odd)
