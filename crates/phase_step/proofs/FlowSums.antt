-- What is taken and what moves, added up: in any order, in the accounts that are kept, and of how many particles.
use Rattle.std.proofs.Common.{◌≡◌, ℕ, ◌+◌, ◌≤◌, ◌^◌, Bool, true, false, ℤ, pos, refl, sym, ap₂, subst, arith}
use Rattle.std.proofs.lemmas.Int.{ints}
use Rattle.gas_terms.specs.Accounts.{plus, pair_plus, took_plus, moved_plus, TakenFits, SumsFit, IsOfAtMost, IsTakenOfAtMost}
use Rattle.gas_terms.specs.Accounts as accounts
use Rattle.gas_terms.specs.declared.accounts.Pair.{Pair}
use Rattle.gas_terms.specs.declared.accounts.Sums.{Sums}
use Rattle.gas_terms.specs.declared.accounts.Took.{Took}
use Rattle.gas_terms.specs.declared.accounts.Moved.{Moved}
use Rattle.gas_terms.proofs.AccountBounds.{plus-bounded}
use Rattle.gas_terms.proofs.Totals.{same_sums}
use Rattle.block_rule.specs.Accounts.{if_counted, counted_of}
use Rattle.block_rule.specs.declared.walled.Counted.{Counted}
use Rattle.phase_step.specs.Amounts.{Amounts}
use Rattle.phase_step.specs.Runs.{nothing_taken, takings}
use Rattle.phase_step.specs.Actions.{unmoved, movements, flow_plus, flows, FlowsFit}
use Rattle.phase_step.specs.Balance.{flow_counted}
use Rattle.phase_step.specs.declared.sums.flow.Flow.{Flow}
use Rattle.phase_step.proofs.Amounts.{AddUp}

-- amounts are equal by their parts
pub pair_same : {a b c d : ℤ} → a ≡ c → b ≡ d → (let p : Pair = record { x = a; y = b } in p) ≡ (let q : Pair = record { x = c; y = d } in q)
pair_same e f = ap₂ (λ x y. let p : Pair = record { x = x; y = y } in p) e f

pub took_same : {a b c d : Pair} → a ≡ c → b ≡ d → (let p : Took = record { walls = a; obstacles = b } in p) ≡ (let q : Took = record { walls = c; obstacles = d } in q)
took_same e f = ap₂ (λ x y. let p : Took = record { walls = x; obstacles = y } in p) e f

pub same_moved : (a b : Moved) → a.injected ≡ b.injected → a.drained ≡ b.drained → a ≡ b
same_moved a b e f = let pair : Sums → Sums → Moved = λ m n. record { injected = m; drained = n } in ap₂ pair e f

pub same_flow : (a b : Flow) → a.took ≡ b.took → a.moved ≡ b.moved → a ≡ b
same_flow a b e f = let flow : Took → Moved → Flow = λ t m. record { took = t; moved = m } in ap₂ flow e f

-- in any order: components, sums of particles, what is taken, what moves, and both
abbrev pub momenta : Amounts Pair
momenta = record { none = record { x = pos 0; y = pos 0 }; plus = pair_plus }

abbrev pub totals : Amounts Sums
totals = record { none = accounts.nothing; plus = plus }

pub momenta_add : AddUp momenta
momenta_add = record {
  left = λ a. pair_same (omega (arith, ints)) (omega (arith, ints));
  right = λ a. pair_same (omega (arith, ints)) (omega (arith, ints));
  crossed = λ a b c d. pair_same (omega (arith, ints)) (omega (arith, ints));
}

pub totals_add : AddUp totals
totals_add = record {
  left = λ a. same_sums _ _ (omega (arith, ints)) (omega (arith, ints)) (omega (arith, ints));
  right = λ a. same_sums _ _ (omega (arith, ints)) (omega (arith, ints)) (omega (arith, ints));
  crossed = λ a b c d. same_sums _ _ (omega (arith, ints)) (omega (arith, ints)) (omega (arith, ints));
}

pub takings_add : AddUp takings
takings_add = record {
  left = λ a. took_same (momenta_add.left a.walls) (momenta_add.left a.obstacles);
  right = λ a. took_same (momenta_add.right a.walls) (momenta_add.right a.obstacles);
  crossed = λ a b c d. took_same (momenta_add.crossed a.walls b.walls c.walls d.walls) (momenta_add.crossed a.obstacles b.obstacles c.obstacles d.obstacles);
}

pub movements_add : AddUp movements
movements_add = record {
  left = λ a. same_moved _ _ (totals_add.left a.injected) (totals_add.left a.drained);
  right = λ a. same_moved _ _ (totals_add.right a.injected) (totals_add.right a.drained);
  crossed = λ a b c d. same_moved _ _ (totals_add.crossed a.injected b.injected c.injected d.injected) (totals_add.crossed a.drained b.drained c.drained d.drained);
}

pub flows_add : AddUp flows
flows_add = record {
  left = λ a. same_flow _ _ (takings_add.left a.took) (movements_add.left a.moved);
  right = λ a. same_flow _ _ (takings_add.right a.took) (movements_add.right a.moved);
  crossed = λ a b c d. same_flow _ _ (takings_add.crossed a.took b.took c.took d.took) (movements_add.crossed a.moved b.moved c.moved d.moved);
}

-- in the accounts that are kept
pub counted_plus : (c : Counted) (a b : Took) → took_plus (counted_of c a) (counted_of c b) ≡ counted_of c (took_plus a b)
counted_plus c a b = grind (arith, took_same, pair_plus, if_counted, true, false)

pub counted_none : (c : Counted) → nothing_taken ≡ counted_of c nothing_taken
counted_none c = grind (arith, took_same, pos, if_counted, true, false)

pub flows_counted : (c : Counted) (a b : Flow) → flow_plus (flow_counted c a) (flow_counted c b) ≡ flow_counted c (flow_plus a b)
flows_counted c a b = same_flow _ _ (counted_plus c a.took b.took) refl

-- of at most n particles
pub record IsTakenOf (n : ℕ) (t : Took) : Type 0 where
  pub walls : IsTakenOfAtMost n t.walls
  pub obstacles : IsTakenOfAtMost n t.obstacles

pub record IsMovedOf (n : ℕ) (m : Moved) : Type 0 where
  pub injected : IsOfAtMost n m.injected
  pub drained : IsOfAtMost n m.drained

pub record IsFlowOf (n : ℕ) (f : Flow) : Type 0 where
  pub took : IsTakenOf n f.took
  pub moved : IsMovedOf n f.moved

pub none_taken : (n : ℕ) → IsTakenOf n nothing_taken
none_taken n = record { walls = record { x = omega arith; y = omega arith }; obstacles = record { x = omega arith; y = omega arith } }

pub none_moved : (n : ℕ) → IsMovedOf n unmoved
none_moved n =
    let none : IsOfAtMost n accounts.nothing = record { not_negative = omega (arith, ints); count = omega arith; x = omega arith; y = omega arith } in
    record { injected = none; drained = none }

pair_few : (m n : ℕ) (a b : Pair) → IsTakenOfAtMost m a → IsTakenOfAtMost n b → IsTakenOfAtMost (m + n) (pair_plus a b)
pair_few m n a b p q = record { x = omega (arith, ints, p.x, q.x); y = omega (arith, ints, p.y, q.y) }

pub took_few : (m n : ℕ) (a b : Took) → IsTakenOf m a → IsTakenOf n b → IsTakenOf (m + n) (took_plus a b)
took_few m n a b p q = record { walls = pair_few m n a.walls b.walls p.walls q.walls; obstacles = pair_few m n a.obstacles b.obstacles p.obstacles q.obstacles }

pub moved_few : (m n : ℕ) (a b : Moved) → IsMovedOf m a → IsMovedOf n b → IsMovedOf (m + n) (moved_plus a b)
moved_few m n a b p q = record { injected = plus-bounded m n a.injected b.injected p.injected q.injected; drained = plus-bounded m n a.drained b.drained p.drained q.drained }

pub flow_few : (m n : ℕ) (a b : Flow) → IsFlowOf m a → IsFlowOf n b → IsFlowOf (m + n) (flow_plus a b)
flow_few m n a b p q = record { took = took_few m n a.took b.took p.took q.took; moved = moved_few m n a.moved b.moved p.moved q.moved }

pub counted_few : (n : ℕ) (c : Counted) (t : Took) → IsTakenOf n t → IsTakenOf n (counted_of c t)
counted_few n c t few = record { walls = kept c.walls t.walls few.walls; obstacles = kept c.obstacles t.obstacles few.obstacles }
  where
    kept : (counted : Bool) (p : Pair) → IsTakenOfAtMost n p → IsTakenOfAtMost n (if_counted counted p)
    kept true p h = h
    kept false p h = record { x = omega arith; y = omega arith }

-- two amounts of which the sum may be made
pair_fits : (n : ℕ) (p : Pair) → IsTakenOfAtMost n p → n ≤ 2 ^ 48 → TakenFits p
pair_fits n p few small = (omega (arith, ints, few.x), omega (arith, ints, few.y))

sums_fit : (n : ℕ) (s : Sums) → IsOfAtMost n s → n ≤ 2 ^ 48 → SumsFit s
sums_fit n s few small = let count = few.count in (omega (arith, ints, count), omega (arith, ints, count, few.x), omega (arith, ints, count, few.y))

pub took_fits : (m n : ℕ) (a b : Took) → IsTakenOf m a → IsTakenOf n b → m + n ≤ 2 ^ 48 → TakenFits (pair_plus a.walls b.walls) × TakenFits (pair_plus a.obstacles b.obstacles)
took_fits m n a b p q small = let all = took_few m n a b p q in (pair_fits (m + n) _ all.walls small, pair_fits (m + n) _ all.obstacles small)

-- the same in the accounts that are kept
pub counted_fit : (m n : ℕ) (kept : Counted) (took here a b : Took) → took ≡ counted_of kept a → here ≡ counted_of kept b → IsTakenOf m a → IsTakenOf n b → m + n ≤ 2 ^ 48
    → TakenFits (pair_plus took.walls here.walls) × TakenFits (pair_plus took.obstacles here.obstacles)
counted_fit m n kept took here a b e f p q small = took_fits m n took here (subst (IsTakenOf m) (sym e) (counted_few m kept a p)) (subst (IsTakenOf n) (sym f) (counted_few n kept b q)) small

pub moved_fits : (m n : ℕ) (a b : Moved) → IsMovedOf m a → IsMovedOf n b → m + n ≤ 2 ^ 48 → SumsFit (plus a.injected b.injected) × SumsFit (plus a.drained b.drained)
moved_fits m n a b p q small = let all = moved_few m n a b p q in (sums_fit (m + n) _ all.injected small, sums_fit (m + n) _ all.drained small)

pub flows_fit : (m n : ℕ) (c : Counted) (a b : Flow) → IsFlowOf m a → IsFlowOf n b → m + n ≤ 2 ^ 48 → FlowsFit (flow_counted c a) (flow_counted c b)
flows_fit m n c a b p q small =
    let took = took_fits m n _ _ (counted_few m c a.took p.took) (counted_few n c b.took q.took) small in
    let moved = moved_fits m n _ _ p.moved q.moved small in
    record { walls = took.0; obstacles = took.1; injected = moved.0; drained = moved.1 }
