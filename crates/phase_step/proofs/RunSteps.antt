-- A run of phases is as many steps.
use Rattle.std.proofs.Common.{◌≡◌, ℕ, zero, suc, ◌+◌, ◌-◌, ◌%◌, ◌<◌, ℤ, pos, ◌+ℤ◌, ◌-ℤ◌, refl, ap, ap₂, ◌∙◌, arith}
use Rattle.std.specs.Fn.{iterate}
use Rattle.std.proofs.lemmas.Int.{ints}
use Rattle.gas_terms.specs.Velocity.{parity}
use Rattle.gas_terms.specs.Cells.{Cells, HasEvenSides}
use Rattle.gas_terms.specs.Gas.{streamed, unstreamed, solid}
use Rattle.gas_terms.specs.Accounts.{taken, took_plus, pair_plus, pair_minus, with_taken, with_given_back}
use Rattle.gas_terms.specs.BookedGas.{BookedGas, moved, stepped, stepped_back}
use Rattle.gas_terms.specs.declared.accounts.Ledger.{Ledger}
use Rattle.gas_terms.specs.declared.accounts.Pair.{Pair}
use Rattle.gas_terms.specs.declared.accounts.Took.{Took}
use Rattle.gas_terms.proofs.Iterate.{iterate_last}
use Rattle.gas_terms.proofs.Parity.{parity-small, parity-next, parity-last}
use Rattle.gas_terms.proofs.Steps.{unstreamed-streamed}
use Rattle.gas_terms.proofs.Stretches.{IsReady, stepped-ready, stepped-plain}
use Rattle.gas_terms.proofs.StoppedTotals.{taken-streamed}
use Rattle.phase_step.specs.Runs.{parity_at, particles_after, nothing_taken, takes_after, takes_before, ran, ran_back}
use Rattle.phase_step.proofs.ActionRuns.{sides_after}
use Rattle.phase_step.proofs.Amounts.{grouped}
use Rattle.phase_step.proofs.FlowSums.{pair_same, momenta, momenta_add}

-- the parity so many ticks later
other : (p q k : ℕ) → p < 2 → q ≡ 1 - (p + k) % 2 → q ≡ (p + suc k) % 2
other p q k small e = omega (arith, e)

pub later : (t : ℤ) (k : ℕ) → parity (t +ℤ pos k) ≡ parity_at (parity t) k
later t zero = ap parity (let e : t +ℤ pos 0 ≡ t = omega (arith, ints) in e) ∙ (let small = parity-small t in let e : parity t ≡ (parity t + 0) % 2 = omega arith in e)
later t (suc k) =
    other (parity t) _ k (parity-small t)
    (ap parity (let e : t +ℤ pos (suc k) ≡ t +ℤ pos k +ℤ pos 1 = omega (arith, ints) in e) ∙ (parity-next (t +ℤ pos k) ∙ ap (λ q. 1 - q) (later t k)))

-- and earlier
turned : (p q : ℕ) → p < 2 → q ≡ 1 - p → p ≡ 1 - q
turned p q small e = omega arith

earlier : (t : ℤ) (k : ℕ) → parity (t -ℤ pos k) ≡ parity_at (parity t) k
earlier t zero = ap parity (let e : t -ℤ pos 0 ≡ t = omega (arith, ints) in e) ∙ (let small = parity-small t in let e : parity t ≡ (parity t + 0) % 2 = omega arith in e)
earlier t (suc k) =
    other (parity t) _ k (parity-small t)
    (ap parity (let e : t -ℤ pos (suc k) ≡ t -ℤ pos k -ℤ pos 1 = omega (arith, ints) in e)
    ∙ (turned _ _ (parity-small (t -ℤ pos k -ℤ pos 1)) (parity-last (t -ℤ pos k)) ∙ ap (λ q. 1 - q) (earlier t k)))

-- ledgers, by their accounts of walls and obstacles
made : (l : Ledger) (a b c d : Pair) → a ≡ c → b ≡ d → record l { walls = a; obstacles = b } ≡ record l { walls = c; obstacles = d }
made l a b c d e f = ap₂ (λ w o. record l { walls = w; obstacles = o }) e f

minus_twice : (a b c : Pair) → pair_minus (pair_minus a b) c ≡ pair_minus a (pair_plus b c)
minus_twice a b c = pair_same (omega (arith, ints)) (omega (arith, ints))

minus_none : (a : Pair) → a ≡ pair_minus a (record { x = pos 0; y = pos 0 })
minus_none a = pair_same (omega (arith, ints)) (omega (arith, ints))

pub taken_twice : (l : Ledger) (t u : Took) → with_taken (with_taken l t) u ≡ with_taken l (took_plus t u)
taken_twice l t u = made l _ _ _ _ (grouped momenta momenta_add l.walls t.walls u.walls) (grouped momenta momenta_add l.obstacles t.obstacles u.obstacles)

pub taken_none : (l : Ledger) → l ≡ with_taken l nothing_taken
taken_none l = made l l.walls l.obstacles _ _ (momenta_add.right l.walls) (momenta_add.right l.obstacles)

given_twice : (l : Ledger) (t u : Took) → with_given_back (with_given_back l t) u ≡ with_given_back l (took_plus t u)
given_twice l t u = made l _ _ _ _ (minus_twice l.walls t.walls u.walls) (minus_twice l.obstacles t.obstacles u.obstacles)

-- a gas with its ledger, by what moves
abbrev pub at : BookedGas → ℤ → Cells → Ledger → BookedGas
at b t c l = record { gas = record b.gas { tick = t; particles = c }; ledger = l }

pub at_same : (b : BookedGas) (t u : ℤ) (c d : Cells) (l m : Ledger) → t ≡ u → c ≡ d → l ≡ m → at b t c l ≡ at b u d m
at_same b t u c d l m e f g = ap₂ (λ t c. at b t c l) e f ∙ ap (at b u d) g

pub forward_run : (n : ℕ) (b : BookedGas) → iterate moved n b ≡ ran n b
forward_run zero b =
    at_same b b.gas.tick (b.gas.tick +ℤ pos 0) b.gas.particles b.gas.particles b.ledger (with_taken b.ledger nothing_taken) (omega (arith, ints)) refl (taken_none b.ledger)
forward_run (suc n) b =
    let g = b.gas in
    let now = particles_after (parity g.tick) (solid g) g.particles n in
    let turn = later g.tick n in
    iterate_last moved n b
    ∙ (ap moved (forward_run n b)
    ∙ at_same b (g.tick +ℤ pos n +ℤ pos 1) (g.tick +ℤ pos (suc n)) (streamed (parity (g.tick +ℤ pos n)) now (solid g)) (particles_after (parity g.tick) (solid g) g.particles (suc n))
    (with_taken (with_taken b.ledger (takes_after n g)) (taken (parity (g.tick +ℤ pos n)) now g.walls g.obstacles)) (with_taken b.ledger (takes_after (suc n) g))
    (omega (arith, ints)) (ap (λ p. streamed p now (solid g)) turn)
    (taken_twice b.ledger (takes_after n g) (taken (parity (g.tick +ℤ pos n)) now g.walls g.obstacles)
    ∙ ap (λ p. with_taken b.ledger (took_plus (takes_after n g) (taken p now g.walls g.obstacles))) turn))

-- without ports that is the whole step
idle_run : (n : ℕ) (b : BookedGas) → IsReady b → iterate stepped n b ≡ iterate moved n b
idle_run zero b ok = refl
idle_run (suc n) b ok = idle_run n (stepped b) (stepped-ready b ok) ∙ ap (iterate moved n) (stepped-plain b ok)

pub whole_run : (n : ℕ) (b : BookedGas) → IsReady b → iterate stepped n b ≡ ran n b
whole_run n b ok = idle_run n b ok ∙ forward_run n b

pub back_run : (n : ℕ) (b : BookedGas) → HasEvenSides b.gas.particles.width b.gas.particles.height → iterate stepped_back n b ≡ ran_back n b
back_run zero b even =
    at_same b b.gas.tick (b.gas.tick -ℤ pos 0) b.gas.particles b.gas.particles b.ledger (with_given_back b.ledger nothing_taken) (omega (arith, ints)) refl
    (made b.ledger _ _ _ _ (minus_none b.ledger.walls) (minus_none b.ledger.obstacles))
back_run (suc n) b even =
    let g = b.gas in
    let p = parity (g.tick -ℤ pos 1) in
    let now = particles_after p (solid g) g.particles n in
    let t = g.tick -ℤ pos n -ℤ pos 1 in
    let sides = sides_after p (solid g) g.particles n in
    let even_now : HasEvenSides now.width now.height = record { wide = ap (λ n. n % 2) sides.wide ∙ even.wide; high = ap (λ n. n % 2) sides.high ∙ even.high } in
    let turn : parity t ≡ parity_at p n = ap parity (let e : g.tick -ℤ pos n -ℤ pos 1 ≡ g.tick -ℤ pos 1 -ℤ pos n = omega (arith, ints) in e) ∙ earlier (g.tick -ℤ pos 1) n in
    let there : unstreamed (parity t) now (solid g) ≡ streamed (parity t) now (solid g) = unstreamed-streamed (parity t) now (solid g) even_now in
    let took : taken (parity t) (unstreamed (parity t) now (solid g)) g.walls g.obstacles ≡ taken (parity t) now g.walls g.obstacles =
    ap (λ (c : Cells). taken (parity t) c g.walls g.obstacles) there ∙ taken-streamed t now g.walls g.obstacles even_now in
    iterate_last stepped_back n b
    ∙ (ap stepped_back (back_run n b even)
    ∙ at_same b t (g.tick -ℤ pos (suc n)) (unstreamed (parity t) now (solid g)) (particles_after p (solid g) g.particles (suc n))
    (with_given_back (with_given_back b.ledger (takes_before n g)) (taken (parity t) (unstreamed (parity t) now (solid g)) g.walls g.obstacles)) (with_given_back b.ledger (takes_before (suc n) g))
    (omega (arith, ints)) (there ∙ ap (λ q. streamed q now (solid g)) turn)
    (given_twice b.ledger (takes_before n g) _
    ∙ ap (λ u. with_given_back b.ledger (took_plus (takes_before n g) u)) (took ∙ ap (λ q. taken q now g.walls g.obstacles) turn)))
