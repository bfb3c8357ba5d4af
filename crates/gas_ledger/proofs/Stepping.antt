-- Steps of a gas with its ledger.
use Rattle.std.proofs.Common.{◌≡◌, ℕ, zero, suc, pos, ◌+ℤ◌, ◌-ℤ◌, true, sym, ap, ap₂, subst, ◌∙◌, arith}
use Rattle.std.proofs.lemmas.Int.{ints}
use Rattle.std.specs.Fn.{iterate}
use Rattle.gas_terms.specs.Cells.{Cells, extent, IsEvenTorus}
use Rattle.gas_terms.specs.Gas.{Gas}
use Rattle.gas_terms.specs.Accounts.{plus, with_taken, with_given_back, FitsI64, SumsFit, with_moved}
use Rattle.gas_terms.specs.Commands.{is_tick}
use Rattle.gas_terms.specs.BookedGas.{BookedGas, stepped, stepped_back, book}
use Rattle.gas_terms.specs.declared.accounts.Ledger.{Ledger}
use Rattle.gas_terms.specs.declared.accounts.Took.{Took}
use Rattle.gas_terms.specs.declared.command.Command.{Command}
use Rattle.gas_terms.specs.declared.command.Command.TheVariants.{Step, Back}
use Rattle.gas_terms.proofs.AccountBounds.{size-even}
use Rattle.gas_plane.specs.Planes.{IsLattice}
use Rattle.phase_step.proofs.RunSteps.{back_run}
use Rattle.phase_step.proofs.PortedSteps.{ported_run}
use Rattle.phase_step.specs.Runs.{gas_before, takes_before, ran_back}
use Rattle.phase_step.specs.PortedRuns.{gas_stepped, steps_take, steps_move}
use Rattle.phase_step.specs.declared.sums.flow.Flow.{Flow}
use Rattle.gas_ledger.specs.Books.{TickHolds}

abbrev pub pair : Gas → Ledger → BookedGas
pair g l = record { gas = g; ledger = l }

pub torus_of : (cells : Cells) → IsLattice cells → IsEvenTorus cells
torus_of cells ok = record { sides = size-even (extent cells) ok.sized; full = ok.full }

-- A run back, with what was given back.
pub ran_back_to : (b : BookedGas) (g : Gas) (l : Ledger) (took : Took) (n : ℕ) → g ≡ gas_before n b.gas → took ≡ takes_before n b.gas →
    l ≡ with_given_back b.ledger took → pair g l ≡ ran_back n b
ran_back_to b g l took n gas_is took_is ledger_is = ap₂ pair gas_is (ledger_is ∙ ap (with_given_back b.ledger) took_is)

pub given_fits : (b : BookedGas) (took : Took) (n : ℕ) → took ≡ takes_before n b.gas → IsEvenTorus b.gas.particles →
    FitsI64 (iterate stepped_back n b).ledger → FitsI64 (with_given_back b.ledger took)
given_fits b took n took_is torus fits =
    subst (λ t. FitsI64 (with_given_back b.ledger t)) (sym took_is) (subst (λ (c : BookedGas). FitsI64 c.ledger) (back_run n b torus.sides) fits)

-- Steps forward, with what was taken, what came in and what went.
pub stepped_to : (b : BookedGas) (g : Gas) (taken l : Ledger) (flow : Flow) (n : ℕ) → g ≡ gas_stepped n b.gas → flow.took ≡ steps_take n b.gas → flow.moved ≡ steps_move n b.gas →
    taken ≡ with_taken b.ledger flow.took → l ≡ with_moved taken flow.moved → pair g l ≡ iterate stepped n b
stepped_to b g taken l flow n gas_is took_is moved_is taken_is ledger_is =
    ap₂ pair gas_is (ledger_is ∙ ap₂ with_moved (taken_is ∙ ap (with_taken b.ledger) took_is) moved_is) ∙ sym (ported_run n b)

pub stepped_fits : (b : BookedGas) (flow : Flow) (n : ℕ) → flow.took ≡ steps_take n b.gas → flow.moved ≡ steps_move n b.gas → FitsI64 (iterate stepped n b).ledger →
    FitsI64 (with_moved (with_taken b.ledger flow.took) flow.moved)
stepped_fits b flow n took_is moved_is fits =
    subst FitsI64 (sym (ap₂ (λ t m. with_moved (with_taken b.ledger t) m) took_is moved_is)) (subst (λ (c : BookedGas). FitsI64 c.ledger) (ported_run n b) fits)

pub moved_fits : (b : BookedGas) (taken : Ledger) (flow : Flow) (n : ℕ) → flow.took ≡ steps_take n b.gas → flow.moved ≡ steps_move n b.gas → FitsI64 (iterate stepped n b).ledger →
    taken ≡ with_taken b.ledger flow.took → SumsFit (plus taken.injected flow.moved.injected) × SumsFit (plus taken.drained flow.moved.drained)
moved_fits b taken flow n took_is moved_is fits taken_is =
    let all = stepped_fits b flow n took_is moved_is fits in
    subst (λ (l : Ledger). SumsFit (plus l.injected flow.moved.injected) × SumsFit (plus l.drained flow.moved.drained)) (sym taken_is) (all.injected, all.drained)

stepped_tick : (n : ℕ) (b : BookedGas) → (iterate stepped n b).gas.tick ≡ b.gas.tick +ℤ pos n
stepped_tick zero b = omega (arith, ints)
stepped_tick (suc n) b = stepped_tick n (stepped b) ∙ (let e : b.gas.tick +ℤ pos 1 +ℤ pos n ≡ b.gas.tick +ℤ pos (suc n) = omega (arith, ints) in e)

stepped_back_tick : (n : ℕ) (b : BookedGas) → (iterate stepped_back n b).gas.tick ≡ b.gas.tick -ℤ pos n
stepped_back_tick zero b = omega (arith, ints)
stepped_back_tick (suc n) b =
    stepped_back_tick n (stepped_back b) ∙ (let e : b.gas.tick -ℤ pos 1 -ℤ pos n ≡ b.gas.tick -ℤ pos (suc n) = omega (arith, ints) in e)

-- A change leaves the tick in its range.
pub book_tick : (b : BookedGas) (command : Command) → TickHolds b.gas.tick command → is_tick b.gas.tick ≡ true → is_tick (book b command).gas.tick ≡ true
book_tick b (Step n) holds tick = subst (λ t. is_tick t ≡ true) (sym (stepped_tick n b)) (holds)
book_tick b (Back n) holds tick = subst (λ t. is_tick t ≡ true) (sym (stepped_back_tick n b)) (holds)
book_tick b _ holds tick = tick
