-- The momentum before and after a run, and what was taken in it.
use Rattle.std.proofs.Common.{◌≡◌, ℕ, zero, suc, ◌+◌, ◌*◌, ◌%◌, ◌<◌, ◌≤◌, ◌^◌, true, false, not, [], map, ℤ, pos, ◌+ℤ◌, ◌-ℤ◌, nat_abs, w64, FitsSigned, to_z, of_z, refl, sym, ap, ◌∙◌, subst, arith}
use Rattle.std.proofs.lemmas.Int.{ints}
use Rattle.gas_terms.specs.Velocity.{parity}
use Rattle.gas_terms.specs.Cells.{Cells, HasEvenSides, joined, extent, is_size, tile_count}
use Rattle.gas_terms.specs.Gas.{streamed}
use Rattle.gas_terms.specs.Accounts.{taken, total, plus, minus, less_taken, together, gained, lost, sums_of, channels, pair_plus, IsOfAtMost, IsTakenOfAtMost}
use Rattle.gas_terms.specs.declared.accounts.Pair.{Pair}
use Rattle.gas_terms.specs.declared.accounts.Sums.{Sums}
use Rattle.gas_terms.specs.declared.accounts.Took.{Took}
use Rattle.gas_terms.proofs.ChangeTotals.{total-change}
use Rattle.gas_terms.proofs.StepTotals.{forward-total}
use Rattle.gas_terms.proofs.AccountBounds.{more_sums}
use Rattle.gas_terms.proofs.Totals.{same_sums}
use Rattle.gas_plane.specs.Planes.{IsLattice}
use Rattle.gas_plane.proofs.PlaneCounts.{few_tiles}
use Rattle.block_rule.specs.declared.walled.Counted.{Counted}
use Rattle.phase_step.specs.Runs.{parity_at}
use Rattle.phase_step.specs.Actions.{Leaves, acted, after_with, flow_with}
use Rattle.phase_step.specs.Balance.{flow_counted, left_of, missing, AreFew}
use Rattle.phase_step.specs.WholeRuns.{Dynamics}
use Rattle.phase_step.specs.declared.sums.flow.Flow.{Flow}
use Rattle.phase_step.proofs.ActionRuns.{sides_with}
use Rattle.phase_step.proofs.FlowSums.{pair_same, took_same, same_flow, IsFlowOf, counted_few}
use Rattle.phase_step.proofs.Sides.{even_sides}
use Rattle.phase_step.proofs.TileFlows.{few_in_all, tiles_flow_few, tiles_flow_all}

-- sums depend on the parity of the tick alone
total_at : (t u : ℤ) (cells : Cells) → parity t ≡ parity u → total t cells ≡ total u cells
total_at t u cells same = ap (λ p. sums_of (map (λ c. c.velocity) (channels p cells))) same

-- a step keeps what is not taken
phase_keeps : (q : ℕ) (now walls obstacles : Cells) → q < 2 → HasEvenSides now.width now.height
    → total (pos q +ℤ pos 1) (streamed q now (joined walls obstacles)) ≡ less_taken (total (pos q) now) (together (taken q now walls obstacles))
phase_keeps q now walls obstacles small even =
    let same : q % 2 ≡ q = omega arith in
    subst (λ p. total (pos q +ℤ pos 1) (streamed p now (joined walls obstacles)) ≡ less_taken (total (pos q) now) (together (taken p now walls obstacles))) same
    (forward-total (record { tick = pos q; particles = now; walls = walls; obstacles = obstacles; drains = []; sources = [] }) even)

balanced_once : (now come next : Sums) (before in_before out_before in_here out_here : Sums) (t u : Pair) → now ≡ less_taken (minus (plus before in_before) out_before) t → come ≡ less_taken now u → next ≡ minus (plus come in_here) out_here
    → next ≡ less_taken (minus (plus before (plus in_before in_here)) (plus out_before out_here)) (pair_plus t u)
balanced_once now come next before in_before out_before in_here out_here t u e f g =
    rw (g, f, e) (same_sums _ _ (omega (arith, ints)) (omega (arith, ints)) (omega (arith, ints)))

together_plus : (a b : Took) → pair_plus (together a) (together b) ≡ pair_plus (pair_plus a.walls b.walls) (pair_plus a.obstacles b.obstacles)
together_plus a b = pair_same (omega (arith, ints)) (omega (arith, ints))

module _ (p : ℕ) (w o : Cells) (leaves : ℕ → Leaves) (c : Cells) (small : p < 2) (even : HasEvenSides c.width c.height) where
  pub run_balances : (n : ℕ) → total (pos (parity_at p n)) (after_with p (joined w o) leaves c n) ≡ left_of (total (pos p) c) (flow_with p w o leaves c n)
  run_balances zero =
      let same : (p + 0) % 2 % 2 ≡ p % 2 = omega arith in
      total_at (pos ((p + 0) % 2)) (pos p) c same
      ∙ same_sums _ _ (omega (arith, ints)) (omega (arith, ints)) (omega (arith, ints))
  run_balances (suc n) =
      let q = parity_at p n in
      let now = after_with p (joined w o) leaves c n in
      let come = streamed q now (joined w o) in
      let next = acted (leaves n) come in
      let flow = flow_with p w o leaves c n in
      let tick = pos (parity_at p (suc n)) in
      let sides = sides_with p (joined w o) leaves c n in
      let even_now : HasEvenSides now.width now.height = record { wide = ap (λ n. n % 2) sides.wide ∙ even.wide; high = ap (λ n. n % 2) sides.high ∙ even.high } in
      let two : (p + n) % 2 < 2 = omega arith in
      let turn : (p + suc n) % 2 % 2 ≡ ((p + n) % 2 + 1) % 2 = omega arith in
      balanced_once (total (pos q) now) (total tick come) (total tick next) (total (pos p) c)
      flow.moved.injected flow.moved.drained (gained tick come next) (lost tick come next) (together flow.took) (together (taken q now w o))
      (run_balances n)
      (total_at tick (pos q +ℤ pos 1) come turn ∙ phase_keeps q now w o two even_now)
      (total-change tick come next even_now (record { wide = refl; high = refl }))
      ∙ ap (less_taken (minus (plus (total (pos p) c) (plus flow.moved.injected (gained tick come next))) (plus flow.moved.drained (lost tick come next)))) (together_plus flow.took (taken q now w o))

-- the account that was not kept is what is missing
pub found_obstacles : (c : Counted) (before after : Sums) (flow all : Flow) → c.walls ≡ true → c.obstacles ≡ not c.walls → flow ≡ flow_counted c all → after ≡ left_of before all
    → (let r : Flow = record { took = record { walls = flow.took.walls; obstacles = missing before after flow }; moved = flow.moved } in r) ≡ all
found_obstacles c before after flow all is one e f = rw (e, f, one, is) (same_flow _ _ (took_same refl (pair_same (omega (arith, ints)) (omega (arith, ints)))) refl)

pub found_walls : (c : Counted) (before after : Sums) (flow all : Flow) → c.walls ≡ false → c.obstacles ≡ not c.walls → flow ≡ flow_counted c all → after ≡ left_of before all
    → (let r : Flow = record { took = record { walls = missing before after flow; obstacles = flow.took.obstacles }; moved = flow.moved } in r) ≡ all
found_walls c before after flow all is one e f = rw (e, f, one, is) (same_flow _ _ (took_same (pair_same (omega (arith, ints)) (omega (arith, ints))) refl) refl)

-- numbers of 64 bits whose sums fit them too
abbrev again : ℤ → ℤ
again z = to_z w64 (of_z w64 z)

module _ (a b c d e : ℤ) (of_a : nat_abs a ≤ 2 ^ 48) (of_b : nat_abs b ≤ 2 ^ 48) (of_c : nat_abs c ≤ 2 ^ 48) (of_d : nat_abs d ≤ 2 ^ 48) (of_e : nat_abs e ≤ 2 ^ 48) where
  two_again : again (again a +ℤ again b) ≡ a +ℤ b
  two_again = omega (arith, ints)

  three_again : again (again (again a +ℤ again b) -ℤ again c) ≡ a +ℤ b -ℤ c
  three_again = rw two_again (omega (arith, ints))

  four_again : again (again (again (again a +ℤ again b) -ℤ again c) -ℤ again d) ≡ a +ℤ b -ℤ c -ℤ d
  four_again = rw three_again (omega (arith, ints))

  pub five_fit : FitsSigned w64 (again (again (again (again a +ℤ again b) -ℤ again c) -ℤ again d) -ℤ again e)
  five_fit = rw four_again (omega (arith, ints))

  pub five_again : again (again (again (again (again a +ℤ again b) -ℤ again c) -ℤ again d) -ℤ again e) ≡ a +ℤ b -ℤ c -ℤ d -ℤ e
  five_again = rw four_again (omega (arith, ints))

  pub missing_again : (x : ℤ) → x ≡ again a +ℤ again b -ℤ again c -ℤ again d -ℤ again e → again x ≡ a +ℤ b -ℤ c -ℤ d -ℤ e
  missing_again x is = let there : again a +ℤ again b -ℤ again c -ℤ again d -ℤ again e ≡ a +ℤ b -ℤ c -ℤ d -ℤ e = omega (arith, ints) in rw (is ∙ there) (omega (arith, ints))

-- by components
pub both_missing : (before after : Sums) (flow : Flow) (took : Pair) (x y : ℤ) → took ≡ together flow.took → x ≡ before.px +ℤ flow.moved.injected.px -ℤ flow.moved.drained.px -ℤ took.x -ℤ after.px → y ≡ before.py +ℤ flow.moved.injected.py -ℤ flow.moved.drained.py -ℤ took.y -ℤ after.py
    → (let r : Pair = record { x = x; y = y } in r) ≡ missing before after flow
both_missing before after flow took x y e of_x of_y = rw (of_x, of_y, e) (pair_same (omega (arith, ints)) (omega (arith, ints)))

pub small_momentum : (n : ℕ) (s : Sums) → IsOfAtMost n s → (nat_abs s.px ≤ n) × (nat_abs s.py ≤ n)
small_momentum n s is = let count = is.count in let x = is.x in let y = is.y in (omega arith, omega arith)

pub small_together : (t : Took) (p : Pair) → IsTakenOfAtMost (2 ^ 46) t.walls → IsTakenOfAtMost (2 ^ 46) t.obstacles → p ≡ together t → (nat_abs p.x ≤ 2 ^ 48) × (nat_abs p.y ≤ 2 ^ 48)
small_together t p walls obstacles e = grind (arith, ints)

-- what is there after a run, by the two sums
pub left_after : (p q n : ℕ) (w o : Cells) (leaves : ℕ → Leaves) (c later : Cells) (before after : Sums) → p < 2 → is_size (extent c) ≡ true → q ≡ parity_at p n → later ≡ after_with p (joined w o) leaves c n
    → ((tick : ℤ) → parity tick ≡ p → before ≡ total tick c) → ((tick : ℤ) → parity tick ≡ q → after ≡ total tick later) → after ≡ left_of before (flow_with p w o leaves c n)
left_after p q n w o leaves c later before after small sized turn is of_before of_after =
    let now : p % 2 ≡ p = omega arith in
    let end : (p + n) % 2 % 2 ≡ q = omega (arith, turn) in
    of_after (pos (parity_at p n)) end
    ∙ (ap (total (pos (parity_at p n))) is
    ∙ (run_balances p w o leaves c small (even_sides c sized) n
    ∙ ap (λ (s : Sums). left_of s (flow_with p w o leaves c n)) (sym (of_before (pos p) now))))

-- few are moved and taken in a run
pub few_in_run : (p : ℕ) (w o : Cells) (leaves : ℕ → Leaves) (c : Cells) (n : ℕ) (kept : Counted) (before after : Sums) (flow : Flow) → flow ≡ flow_counted kept (flow_with p w o leaves c n) → IsLattice c → n < 65536
    → IsOfAtMost (2 ^ 24) before → IsOfAtMost (2 ^ 24) after → AreFew before after flow
few_in_run p w o leaves c n kept before after flow is lattice few of_before of_after =
    let tiles : tile_count c ≤ 4096 = few_tiles c (tile_count c) lattice (omega arith) in
    let m = 16384 * tile_count c * n in
    let most = few_in_all (tile_count c) n tiles (omega arith) in
    let d : Dynamics = record { parity = p; walls = w; obstacles = o; leaves = leaves } in
    let all = subst (IsFlowOf m) (tiles_flow_all d c n lattice.sized) (tiles_flow_few d c 0 (tile_count c) n) in
    let took = counted_few m kept _ all.took in
    let more : (t : Pair) → IsTakenOfAtMost m t → IsTakenOfAtMost (2 ^ 46) t = λ t few. record { x = omega (arith, most, few.x); y = omega (arith, most, few.y) } in
    subst (λ (f : Flow). AreFew before after f) (sym is)
    (record {
      before = more_sums (2 ^ 24) (2 ^ 48) _ (omega arith) of_before;
      after = more_sums (2 ^ 24) (2 ^ 48) _ (omega arith) of_after;
      injected = more_sums m (2 ^ 48) _ (omega (arith, most)) all.moved.injected;
      drained = more_sums m (2 ^ 48) _ (omega (arith, most)) all.moved.drained;
      walls = more _ took.walls;
      obstacles = more _ took.obstacles;
    })
