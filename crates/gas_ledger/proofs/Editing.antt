-- Edits of a gas with its ledger.
use Rattle.std.proofs.Common.{◌≡◌, false, ℤ, refl, sym, ap, subst, ◌∙◌}
use Rattle.gas_terms.specs.Cells.{IsEvenTorus}
use Rattle.gas_terms.specs.Gas.{Gas}
use Rattle.gas_terms.specs.Accounts.{nothing, gained, FitsI64, moved_by, with_moved}
use Rattle.gas_terms.specs.Commands.{enact, is_move}
use Rattle.gas_terms.specs.BookedGas.{BookedGas, changed, book}
use Rattle.gas_terms.specs.declared.accounts.Ledger.{Ledger}
use Rattle.gas_terms.specs.declared.command.Command.{Command}
use Rattle.gas_terms.specs.declared.command.Command.TheVariants.{Step, Back}
use Rattle.gas_terms.proofs.Stretches.{total-without_itself}
use Rattle.phase_step.specs.Actions.{unmoved}
use Rattle.gas_terms.specs.declared.accounts.Moved.{Moved}
use Rattle.gas_ledger.proofs.Stepping.{pair}

-- What is no move is booked as one change.
book_edit : (b : BookedGas) (command : Command) → is_move command ≡ false → book b command ≡ changed b (enact b.gas command)
book_edit b (Step n) still = cc
book_edit b (Back n) still = cc
book_edit b _ still = refl

edit_tick : (g : Gas) (command : Command) → is_move command ≡ false → (enact g command).tick ≡ g.tick
edit_tick g (Step n) still = cc
edit_tick g (Back n) still = cc
edit_tick g _ still = refl

-- What leaves the particles moves none.
pub quiet_moves : (g g' h : Gas) → IsEvenTorus g.particles → g' ≡ h → h.particles ≡ g.particles → unmoved ≡ moved_by g.tick g.particles g'.particles
quiet_moves g g' h torus is kept =
    let same : g'.particles ≡ g.particles = ap (λ (k : Gas). k.particles) is ∙ kept in
    let none : gained g.tick g.particles g.particles ≡ nothing = total-without_itself g.tick g.particles torus.sides in
    ap (λ s. record { injected = s; drained = s }) (sym none) ∙ ap (moved_by g.tick g.particles) (sym same)

-- An edit is booked.
pub edit_booked : (g g' : Gas) (l : Ledger) (m : Moved) (command : Command) → is_move command ≡ false →
    g' ≡ enact g command → m ≡ moved_by g.tick g.particles g'.particles → pair g' (with_moved l m) ≡ book (pair g l) command
edit_booked g g' l m command still gas_is moved_is =
    let h : Gas = enact g command in
    let F : Gas → BookedGas = λ k. pair k (with_moved l (moved_by g.tick g.particles k.particles)) in
    let T : ℤ → BookedGas = λ t. pair h (with_moved l (moved_by t g.particles h.particles)) in
    ap (λ m. pair g' (with_moved l m)) moved_is ∙ ap F gas_is ∙ ap T (sym (edit_tick g command still)) ∙ sym (book_edit (pair g l) command still)

pub edit_fits : (b b' : BookedGas) → b ≡ b' → FitsI64 b'.ledger → FitsI64 b.ledger
edit_fits b b' same fits = subst (λ (c : BookedGas). FitsI64 c.ledger) (sym same) fits
