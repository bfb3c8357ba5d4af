-- Steps of a gas with ports are a run of phases with an action after each.
use Rattle.std.proofs.Common.{◌≡◌, ℕ, zero, suc, ◌+◌, ◌%◌, ℤ, map, pos, ◌+ℤ◌, refl, ap, ap₂, ◌∙◌, arith}
use Rattle.std.specs.Fn.{iterate}
use Rattle.std.proofs.lemmas.Int.{ints}
use Rattle.gas_terms.specs.Velocity.{parity}
use Rattle.gas_terms.specs.Cells.{Cells, without}
use Rattle.gas_terms.specs.Gas.{streamed, solid}
use Rattle.gas_terms.specs.Accounts.{channels, sums_of, taken, took_plus, with_taken, moved_by, moved_plus, with_moved}
use Rattle.gas_terms.specs.BookedGas.{BookedGas, stepped}
use Rattle.gas_terms.specs.declared.accounts.Ledger.{Ledger}
use Rattle.gas_terms.specs.declared.accounts.Sums.{Sums}
use Rattle.gas_terms.specs.declared.accounts.Took.{Took}
use Rattle.gas_terms.proofs.Iterate.{iterate_last}
use Rattle.phase_step.specs.Runs.{parity_at}
use Rattle.phase_step.specs.Runs as runs
use Rattle.gas_terms.specs.declared.accounts.Moved.{Moved}
use Rattle.phase_step.specs.Actions.{acted, after_with, unmoved}
use Rattle.phase_step.specs.PortedRuns.{left_by_ports, steps_take, steps_move, stepped_on}
use Rattle.phase_step.proofs.RunSteps.{later, taken_twice, taken_none, at_same}
use Rattle.phase_step.proofs.Amounts.{grouped}
use Rattle.phase_step.proofs.FlowSums.{totals, totals_add}

-- ledgers, by their accounts of what came and went
booked : (l : Ledger) (a b c d : Sums) → a ≡ c → b ≡ d → record l { injected = a; drained = b } ≡ record l { injected = c; drained = d }
booked l a b c d e f = ap₂ (λ i d. record l { injected = i; drained = d }) e f

-- two parts of a run, in the ledger
flows_twice : (l : Ledger) (t u : Took) (m n : Moved) → with_moved (with_taken (with_moved (with_taken l t) m) u) n ≡ with_moved (with_taken l (took_plus t u)) (moved_plus m n)
flows_twice l t u m n =
    booked (with_taken (with_taken l t) u) _ _ _ _ (grouped totals totals_add l.injected m.injected n.injected) (grouped totals totals_add l.drained m.drained n.drained)
    ∙ ap (λ (l : Ledger). with_moved l (moved_plus m n)) (taken_twice l t u)

flows_none : (l : Ledger) → l ≡ with_moved (with_taken l runs.nothing_taken) unmoved
flows_none l = taken_none l ∙ booked (with_taken l runs.nothing_taken) _ _ _ _ (totals_add.right l.injected) (totals_add.right l.drained)

-- what a change moves is the same at ticks of one parity
pub same_parity : (t u : ℤ) (old new : Cells) → parity t ≡ parity u → moved_by t old new ≡ moved_by u old new
same_parity t u old new e = grind (arith, sums_of, map, channels, without)

small_parity : (p n : ℕ) → (p + n) % 2 ≡ (p + n) % 2 % 2
small_parity p n = omega arith

-- one step more
step_on : (b : BookedGas) (n : ℕ) → stepped (stepped_on n b) ≡ stepped_on (suc n) b
step_on b n =
    let g = b.gas in
    let p = parity g.tick in
    let t = g.tick +ℤ pos n in
    let now = after_with p (solid g) (left_by_ports g) g.particles n in
    let come : ℕ → Cells = λ q. streamed q now (solid g) in
    let next : ℕ → Cells = λ q. acted (left_by_ports g n) (come q) in
    let turn = later g.tick n in
    let there : parity (t +ℤ pos 1) ≡ parity (pos (parity_at p (suc n))) = ap parity (let e : g.tick +ℤ pos n +ℤ pos 1 ≡ g.tick +ℤ pos (suc n) = omega (arith, ints) in e) ∙ (later g.tick (suc n) ∙ small_parity p (suc n)) in
    let booked : ℕ → Moved → Ledger = λ q m. with_moved (with_taken (with_moved (with_taken b.ledger (steps_take n g)) (steps_move n g)) (taken q now g.walls g.obstacles)) m in
    at_same b (t +ℤ pos 1) (g.tick +ℤ pos (suc n)) (next (parity t)) (next (parity_at p n)) (booked (parity t) (moved_by (t +ℤ pos 1) (come (parity t)) (next (parity t)))) (with_moved (with_taken b.ledger (steps_take (suc n) g)) (steps_move (suc n) g))
    (omega (arith, ints)) (ap next turn)
    (ap₂ booked turn (same_parity (t +ℤ pos 1) (pos (parity_at p (suc n))) (come (parity t)) (next (parity t)) there ∙ ap (λ q. moved_by (pos (parity_at p (suc n))) (come q) (next q)) turn)
    ∙ flows_twice b.ledger (steps_take n g) (taken (parity_at p n) now g.walls g.obstacles) (steps_move n g) (moved_by (pos (parity_at p (suc n))) (come (parity_at p n)) (next (parity_at p n))))

-- steps with ports are a run
pub ported_run : (n : ℕ) (b : BookedGas) → iterate stepped n b ≡ stepped_on n b
ported_run zero b =
    at_same b b.gas.tick (b.gas.tick +ℤ pos 0) b.gas.particles b.gas.particles b.ledger (with_moved (with_taken b.ledger (steps_take 0 b.gas)) (steps_move 0 b.gas)) (omega (arith, ints)) refl (flows_none b.ledger)
ported_run (suc n) b = iterate_last stepped n b ∙ (ap stepped (ported_run n b) ∙ step_on b n)
