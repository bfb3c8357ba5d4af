use Rattle.std.proofs.Common.{◌≡◌, ◌≤◌, ◌^◌, ◌∙◌, ℤ, pos, ◌+ℤ◌, nat_abs, nat_le, true, ap, arith, to_z, of_z, w64}
use Rattle.std.proofs.lemmas.Int.{ints}
use Rattle.std.proofs.lemmas.Bool.Decides.{nat_tests}
use Rattle.phase_step.specs.Exchanges.{Areas, is_left}
use Rattle.gas_ledger.specs.PortLists.{due_areas}
use Rattle.gas_ledger.proofs.Moving.{exchange_leaves}
use Rattle.gas_ledger.proofs.ports.PortsFromAction.after_phase.Goals as goal

bound : (t : ℤ) → nat_le (nat_abs t) (2 ^ 40) ≡ true → nat_abs t ≤ 2 ^ 40
bound t e = grind (arith, nat_tests)

pub returns : goal.returns
returns c = λ x y held.
    let ports = c.args.self.now.ports.now in
    let tick = c.args.self.now.tick in
    let areas : ℤ → Areas = λ t. record { drains = ports.drains; sources = due_areas t ports.sources } in
    let range = bound c.args.self.now.tick c.get.ensures.range in
    let there : to_z w64 (of_z w64 (to_z w64 (of_z w64 (to_z w64 (of_z w64 c.get.result) +ℤ to_z w64 (of_z w64 c.from.result))) +ℤ pos 1)) ≡ c.args.self.now.tick +ℤ pos c.args.k +ℤ pos 1 = omega (arith, ints, c.get.ensures.value, c.from.ensures, c.ranges.k.fits) in
    ap (λ (e : Areas). is_left held e.drains e.sources x y) (c.exchange_at.ensures ∙ ap areas there)
    ∙ exchange_leaves ports (tick +ℤ pos c.args.k +ℤ pos 1) x y held
