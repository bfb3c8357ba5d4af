-- A run with actions in two parts, and one whose action is still.
use Rattle.std.proofs.Common.{◌≡◌, ℕ, zero, suc, ◌+◌, ◌<◌, Bool, refl, sym, ap, ap₂, ◌∙◌, arith}
use Rattle.gas_terms.specs.Cells.{Cells, joined}
use Rattle.gas_terms.specs.Gas.{streamed}
use Rattle.gas_terms.specs.Accounts.{taken}
use Rattle.phase_step.specs.Runs.{parity_at, particles_after, run_takes, takings}
use Rattle.phase_step.specs.Actions.{Leaves, acted, after_with, flows, phase_with, flow_with}
use Rattle.phase_step.specs.declared.sums.flow.Flow.{Flow}
use Rattle.phase_step.proofs.ActedTiles.{still_acts}
use Rattle.phase_step.proofs.ActionRuns.{acted_same}
use Rattle.phase_step.proofs.Amounts.{sum_same, sum_as}
use Rattle.gas_terms.proofs.Steps.{full_streamed}

-- the actions are the same in the first n phases
abbrev pub AreSameBelow : ℕ → (ℕ → Leaves) → (ℕ → Leaves) → Type 0
AreSameBelow n some others = (k : ℕ) → k < n → (x y : ℕ) (held : Bool) → some k x y held ≡ others k x y held

pub after_same : (p : ℕ) (solid : Cells) (some others : ℕ → Leaves) (c : Cells) (n : ℕ) → AreSameBelow n some others → after_with p solid some c n ≡ after_with p solid others c n
after_same p solid some others c zero same = refl
after_same p solid some others c (suc n) same =
    acted_same (some n) (others n) (streamed (parity_at p n) (after_with p solid some c n) solid) (same n (omega arith))
    ∙ ap (λ (now : Cells). acted (others n) (streamed (parity_at p n) now solid)) (after_same p solid some others c n (λ k h. same k (omega arith)))

-- what an action does from phase m on
abbrev pub from : ℕ → (ℕ → Leaves) → ℕ → Leaves
from m leaves k = leaves (m + k)

parity_parts : (p m k : ℕ) → parity_at p (m + k) ≡ parity_at (parity_at p m) k
parity_parts p m k = omega arith

pub after_parts_with : (p : ℕ) (solid : Cells) (leaves : ℕ → Leaves) (c : Cells) (m n : ℕ) → after_with p solid leaves c (m + n) ≡ after_with (parity_at p m) solid (from m leaves) (after_with p solid leaves c m) n
after_parts_with p solid leaves c m zero = ap (after_with p solid leaves c) (let e : m + 0 ≡ m = omega arith in e)
after_parts_with p solid leaves c m (suc n) =
    ap (after_with p solid leaves c) (let e : m + suc n ≡ suc (m + n) = omega arith in e)
    ∙ ap₂ (λ q (now : Cells). acted (leaves (m + n)) (streamed q now solid)) (parity_parts p m n) (after_parts_with p solid leaves c m n)

-- The next part of a run: what is left by actions that do in it what the run's do from phase m on.
pub record IsPartWith (p : ℕ) (w o : Cells) (leaves : ℕ → Leaves) (c : Cells) (m n q : ℕ) (now next : Cells) (turns : ℕ → Leaves) : Type 0 where
  pub at : now ≡ after_with p (joined w o) leaves c m
  pub parity : q ≡ parity_at p m
  pub same : AreSameBelow n turns (from m leaves)
  pub cells : next ≡ after_with q (joined w o) turns now n

pub part_after_with : (p : ℕ) (w o : Cells) (leaves : ℕ → Leaves) (c : Cells) (m n q : ℕ) (now next : Cells) (turns : ℕ → Leaves) → IsPartWith p w o leaves c m n q now next turns
    → next ≡ after_with p (joined w o) leaves c (m + n)
part_after_with p w o leaves c m n q now next turns is =
    is.cells
    ∙ (after_same q (joined w o) turns (from m leaves) now n is.same
    ∙ (ap₂ (λ q (now : Cells). after_with q (joined w o) (from m leaves) now n) is.parity is.at
    ∙ sym (after_parts_with p (joined w o) leaves c m n)))

-- the action that does nothing
abbrev pub still : ℕ → Leaves
still k x y held = held

pub still_after : (p : ℕ) (solid c : Cells) (n : ℕ) → after_with p solid still c n ≡ particles_after p solid c n
still_after p solid c zero = refl
still_after p solid c (suc n) =
    let now = after_with p solid still c n in
    sym (still_acts (still n) (streamed (parity_at p n) now solid) (full_streamed (parity_at p n) now solid) (λ x y held. refl))
    ∙ ap (λ (now : Cells). streamed (parity_at p n) now solid) (still_after p solid c n)

pub still_takes : (p : ℕ) (w o c : Cells) (n : ℕ) → (flow_with p w o still c n).took ≡ run_takes p w o c n
still_takes p w o c n =
    sym (sum_as flows takings (λ (f : Flow). f.took) refl (λ a b. refl) (phase_with p w o still c) n)
    ∙ sum_same takings _ _ n (λ k less. ap (λ (now : Cells). taken (parity_at p k) now w o) (still_after p (joined w o) c k))
