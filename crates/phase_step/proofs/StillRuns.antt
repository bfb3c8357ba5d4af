-- Runs in which nothing acts.
use Rattle.std.proofs.Common.{◌≡◌, ℕ, zero, suc, ◌+◌, ◌*◌, ◌/◌, ◌%◌, ◌<◌, ◌≤◌, true, pos, refl, sym, ap, ap₂, ◌∙◌, subst, arith}
use Rattle.gas_terms.specs.Accounts.{pair_plus, taken, took_plus, TakenFits}
use Rattle.gas_terms.specs.Cells.{Cells, HasSidesOf, extent, is_size, joined, tile_count}
use Rattle.gas_terms.specs.Gas.{streamed}
use Rattle.gas_terms.specs.declared.accounts.Took.{Took}
use Rattle.gas_terms.proofs.Steps.{full_streamed}
use Rattle.gas_plane.proofs.PlaneCounts.{few_tiles}
use Rattle.gas_plane.specs.Planes.{IsLattice}
use Rattle.block_rule.specs.Accounts.{counted_of}
use Rattle.block_rule.specs.declared.walled.Counted.{Counted}
use Rattle.phase_step.specs.Runs.{parity_at, particles_after, both_taken, run_takes, takings}
use Rattle.phase_step.specs.Actions.{IsStill, flows, movements, no_flow, phase_with, unmoved}
use Rattle.phase_step.specs.Balance.{flow_counted}
use Rattle.phase_step.specs.TileRuns.{phase_flow, tiles_flow}
use Rattle.phase_step.specs.SolidBlocks.{AreOfNone}
use Rattle.phase_step.specs.WholeRuns.{Dynamics, HasRunWhole, after_all}
use Rattle.phase_step.specs.declared.sums.flow.Flow.{Flow}
use Rattle.phase_step.proofs.ActionParts.{still, still_after, after_same}
use Rattle.phase_step.proofs.ActionRuns.{sides_after, sides_with, sized_with}
use Rattle.phase_step.proofs.Amounts.{grouped, sum_as, sum_few, sum_none, sum_same}
use Rattle.phase_step.proofs.FlowSums.{same_flow, flows_add, flows_counted, counted_fit, counted_none, movements_add, takings_add, took_few, none_taken, IsTakenOf}
use Rattle.phase_step.proofs.PartActs.{still_moves_there}
use Rattle.phase_step.proofs.Sides.{sized_as, tiles_as}
use Rattle.phase_step.proofs.TileFlows.{all_take, few_in_all, tiles_flow_all, tiles_take_few}
use Rattle.phase_step.proofs.Untaken.{tiles_untaken}

-- two phases more, from an even one on
pub pair_after : (solid c : Cells) (k : ℕ) → streamed 1 (streamed 0 (particles_after 0 solid c (2 * k)) solid) solid ≡ particles_after 0 solid c (2 * (k + 1))
pair_after solid c k =
    let even : 0 ≡ parity_at 0 (2 * k) = omega arith in
    let odd : 1 ≡ parity_at 0 (suc (2 * k)) = omega arith in
    let two : suc (suc (2 * k)) ≡ 2 * (k + 1) = omega arith in
    ap₂ (λ p q. streamed q (streamed p (particles_after 0 solid c (2 * k)) solid) solid) even odd ∙ ap (particles_after 0 solid c) two

-- and one
pub one_after : (solid c : Cells) (k n : ℕ) → n % 2 ≡ 1 → k ≡ n / 2 → streamed 0 (particles_after 0 solid c (2 * k)) solid ≡ particles_after 0 solid c n
one_after solid c k n odd half =
    let even : 0 ≡ parity_at 0 (2 * k) = omega arith in
    let one : suc (2 * k) ≡ n = omega (arith, odd, half) in
    ap (λ p. streamed p (particles_after 0 solid c (2 * k)) solid) even ∙ ap (particles_after 0 solid c) one

-- a run from an odd phase on
pub odd_first : (solid c : Cells) (n : ℕ) → particles_after 0 solid (streamed 1 c solid) n ≡ particles_after 1 solid c (suc n)
odd_first solid c zero = refl
odd_first solid c (suc n) =
    let same : parity_at 0 n ≡ parity_at 1 (suc n) = omega arith in
    ap₂ (λ p (now : Cells). streamed p now solid) same (odd_first solid c n)

-- what walls and obstacles take in these
pub pair_takes : (w o c : Cells) (k : ℕ) → took_plus (run_takes 0 w o c (2 * k)) (both_taken (particles_after 0 (joined w o) c (2 * k)) w o) ≡ run_takes 0 w o c (2 * (k + 1))
pair_takes w o c k =
    let now = particles_after 0 (joined w o) c (2 * k) in
    let even : 0 ≡ parity_at 0 (2 * k) = omega arith in
    let odd : 1 ≡ parity_at 0 (suc (2 * k)) = omega arith in
    let two : suc (suc (2 * k)) ≡ 2 * (k + 1) = omega arith in
    sym (grouped takings takings_add (run_takes 0 w o c (2 * k)) (taken 0 now w o) (taken 1 (streamed 0 now (joined w o)) w o))
    ∙ (ap₂ (λ p q. took_plus (took_plus (run_takes 0 w o c (2 * k)) (taken p now w o)) (taken q (streamed p now (joined w o)) w o)) even odd ∙ ap (run_takes 0 w o c) two)

pub one_takes : (w o c : Cells) (k n : ℕ) → n % 2 ≡ 1 → k ≡ n / 2 → took_plus (run_takes 0 w o c (2 * k)) (taken 0 (particles_after 0 (joined w o) c (2 * k)) w o) ≡ run_takes 0 w o c n
one_takes w o c k n odd half =
    let even : 0 ≡ parity_at 0 (2 * k) = omega arith in
    let one : suc (2 * k) ≡ n = omega (arith, odd, half) in
    ap (λ p. took_plus (run_takes 0 w o c (2 * k)) (taken p (particles_after 0 (joined w o) c (2 * k)) w o)) even ∙ ap (run_takes 0 w o c) one

pub odd_takes : (w o c : Cells) (n : ℕ) → took_plus (taken 1 c w o) (run_takes 0 w o (streamed 1 c (joined w o)) n) ≡ run_takes 1 w o c (suc n)
odd_takes w o c zero = sym (takings_add.right (taken 1 c w o)) ∙ sym (takings_add.left (taken 1 c w o))
odd_takes w o c (suc n) =
    let same : parity_at 0 n ≡ parity_at 1 (suc n) = omega arith in
    sym (grouped takings takings_add (taken 1 c w o) (run_takes 0 w o (streamed 1 c (joined w o)) n) _)
    ∙ ap₂ took_plus (odd_takes w o c n) (ap₂ (λ p (now : Cells). taken p now w o) same (odd_first (joined w o) c n))

-- of how many particles
pub taken_few : (p : ℕ) (c w o : Cells) → p < 2 → is_size (extent c) ≡ true → IsTakenOf (16384 * tile_count c) (taken p c w o)
taken_few p c w o small sized = subst (IsTakenOf (16384 * tile_count c)) (all_take p c w o small sized) (tiles_take_few p c w o 0 (tile_count c))

pub later_few : (p q : ℕ) (c w o : Cells) (k : ℕ) → q < 2 → is_size (extent c) ≡ true → IsTakenOf (16384 * tile_count c) (taken q (particles_after p (joined w o) c k) w o)
later_few p q c w o k small sized =
    let now = particles_after p (joined w o) c k in
    let sides = sides_after p (joined w o) c k in
    subst (λ n. IsTakenOf (16384 * n) (taken q now w o)) (tiles_as now c sides) (taken_few q now w o small (sized_as c now (record { wide = sym sides.wide; high = sym sides.high }) sized))

pub run_few : (p : ℕ) (w o c : Cells) (n : ℕ) → is_size (extent c) ≡ true → IsTakenOf (16384 * tile_count c * n) (run_takes p w o c n)
run_few p w o c n sized = sum_few takings IsTakenOf (none_taken 0) took_few (16384 * tile_count c) _ (λ k. later_few p (parity_at p k) c w o k (omega arith) sized) n

pub pair_few : (w o c : Cells) (k : ℕ) → is_size (extent c) ≡ true → IsTakenOf (16384 * tile_count c + 16384 * tile_count c) (both_taken (particles_after 0 (joined w o) c k) w o)
pair_few w o c k sized =
    let now = particles_after 0 (joined w o) c k in
    let sides = sides_after 0 (joined w o) c k in
    let same = sized_as c now (record { wide = sym sides.wide; high = sym sides.high }) sized in
    subst (λ n. IsTakenOf (16384 * n + 16384 * n) (both_taken now w o)) (tiles_as now c sides)
    (took_few (16384 * tile_count now) (16384 * tile_count now) _ _ (taken_few 0 now w o (omega arith) same) (taken_few 1 (streamed 0 now (joined w o)) w o (omega arith) same))

-- a pair of phases, or one, may be added to a run
pub runs_fit : (k n : ℕ) (w o c : Cells) (kept : Counted) (took here next : Took) → IsLattice c → n ≤ 65536 → k ≤ 16384 * tile_count c + 16384 * tile_count c → took ≡ counted_of kept (run_takes 0 w o c n) → here ≡ counted_of kept next → IsTakenOf k next
    → TakenFits (pair_plus took.walls here.walls) × TakenFits (pair_plus took.obstacles here.obstacles)
runs_fit k n w o c kept took here next is short two e f few =
    let tiles = few_tiles c (tile_count c) is (omega arith) in
    let most = few_in_all (tile_count c) n tiles short in
    counted_fit (16384 * tile_count c * n) k kept took here _ _ e f (run_few 0 w o c n is.sized) few (omega (arith, most, two, tiles))

-- and a run to its first phase
pub first_fits : (n : ℕ) (w o c : Cells) (kept : Counted) (first rest : Took) → IsLattice c → n ≤ 65536 → first ≡ counted_of kept (taken 1 c w o) → rest ≡ counted_of kept (run_takes 0 w o (streamed 1 c (joined w o)) n)
    → TakenFits (pair_plus first.walls rest.walls) × TakenFits (pair_plus first.obstacles rest.obstacles)
first_fits n w o c kept first rest is short e f =
    let tiles = few_tiles c (tile_count c) is (omega arith) in
    let most = few_in_all (tile_count c) n tiles short in
    counted_fit (16384 * tile_count c) (16384 * tile_count c * n) kept first rest _ _ e f (taken_few 1 c w o (omega arith) is.sized) (run_few 0 w o (streamed 1 c (joined w o)) n is.sized) (omega (arith, most, tiles))

module _ (d : Dynamics) (c : Cells) (of : IsLattice c) (acts_not : (k : ℕ) → IsStill (d.leaves k)) where
  abbrev now : ℕ → Cells
  now k = after_all d c k

  -- nothing comes and goes in some tiles
  still_moved : (first n k : ℕ) → first + n ≤ tile_count c → unmoved ≡ (phase_flow d c first n k).moved
  still_moved first n k within =
      let s = sides_with d.parity (joined d.walls d.obstacles) d.leaves c k in
      let come = streamed (parity_at d.parity k) (now k) (joined d.walls d.obstacles) in
      let sized = sized_with d.parity (joined d.walls d.obstacles) d.leaves c k of.sized in
      still_moves_there (pos (parity_at d.parity (suc k))) (d.leaves k) come first n (record { sized = sized; full = full_streamed (parity_at d.parity k) (now k) (joined d.walls d.obstacles) }) (acts_not k) (let e = tiles_as (now k) c s in omega (arith, e, within))

  -- and if sets without blocks are counted, nothing is taken
  none_flows : (kept : Counted) (first n k : ℕ) → first + n ≤ tile_count c → HasSidesOf d.walls c → HasSidesOf d.obstacles c → AreOfNone kept d.walls d.obstacles → no_flow ≡ flow_counted kept (phase_flow d c first n k)
  none_flows kept first n k within of_walls of_obstacles none =
      let s = sides_with d.parity (joined d.walls d.obstacles) d.leaves c k in
      let sized = sized_with d.parity (joined d.walls d.obstacles) d.leaves c k of.sized in
      same_flow _ _
      (tiles_untaken (parity_at d.parity k) (now k) d.walls d.obstacles kept first n (omega arith) sized (record { wide = of_walls.wide ∙ sym s.wide; high = of_walls.high ∙ sym s.high }) (record { wide = of_obstacles.wide ∙ sym s.wide; high = of_obstacles.high ∙ sym s.high }) none (let e = tiles_as (now k) c s in omega (arith, e, within)))
      (still_moved first n k within)

  pub quiet_flow : (kept : Counted) (first n k : ℕ) → first + n ≤ tile_count c → HasSidesOf d.walls c → HasSidesOf d.obstacles c → AreOfNone kept d.walls d.obstacles → no_flow ≡ flow_counted kept (tiles_flow d c first n k)
  quiet_flow kept first n k within of_walls of_obstacles none =
      sum_none flows flows_add (λ k. flow_counted kept (phase_flow d c first n k)) k (λ k less. none_flows kept first n k within of_walls of_obstacles none)
      ∙ sum_as flows flows (flow_counted kept) (same_flow _ _ (counted_none kept) refl) (flows_counted kept) (phase_flow d c first n) k

  -- so a run is its phases, and what these take
  pub still_run : (kept : Counted) (n : ℕ) (new : Cells) (took : Took) → new ≡ particles_after d.parity (joined d.walls d.obstacles) c n → took ≡ counted_of kept (run_takes d.parity d.walls d.obstacles c n)
      → HasRunWhole kept d n c new (record { took = took; moved = unmoved })
  still_run kept n new took is takes =
      let solid = joined d.walls d.obstacles in
      let same : (k : ℕ) → now k ≡ particles_after d.parity solid c k = λ k. after_same d.parity solid d.leaves still c k (λ k h x y held. acts_not k x y held) ∙ still_after d.parity solid c k in
      let all = phase_flow d c 0 (tile_count c) in
      record {
        particles = is ∙ sym (same n);
        flow = same_flow _ _
            (takes
            ∙ ap (counted_of kept)
            (sym (sum_same takings _ _ n (λ k less. ap (λ (now : Cells). taken (parity_at d.parity k) now d.walls d.obstacles) (same k)))
            ∙ sum_as flows takings (λ (f : Flow). f.took) refl (λ a b. refl) (phase_with d.parity d.walls d.obstacles d.leaves c) n))
            (sum_none movements movements_add (λ k. (all k).moved) n (λ k less. still_moved 0 (tile_count c) k (omega arith))
            ∙ (sum_as flows movements (λ (f : Flow). f.moved) refl (λ a b. refl) all n ∙ ap (λ (f : Flow). f.moved) (tiles_flow_all d c n of.sized)));
      }
