-- What tiles take and what moves in them: of how many particles, in parts, and in all tiles.
use Rattle.std.proofs.Common.{◌≡◌, ℕ, suc, ◌+◌, ◌-◌, ◌*◌, ◌%◌, ◌<◌, ◌≤◌, ◌^◌, ◌==◌, Bool, true, false, ℤ, pos, ◌-ℤ◌, ◌*ℤ◌, nat_abs, refl, sym, ap, ap₂, ◌∙◌, subst, arith, add-one, mul-le-mul}
use Rattle.std.specs.List.{range_with_len}
use Rattle.std.proofs.lemmas.Int.{ints}
use Rattle.gas_terms.specs.Velocity.{sign, parity}
use Rattle.gas_terms.specs.Cells.{Cells, Rectangle, joined, without, extent, is_size, tile_count, tile_rectangle}
use Rattle.gas_terms.specs.Gas.{streamed, takes_for_walls, takes_for_obstacles}
use Rattle.gas_terms.specs.Accounts.{plus_all, total_in, parity_count, sums_by_parity, stopped, twice_momentum, taken, took_plus, pair_plus, plus, moved_by, TakenFits, IsOfAtMost, IsTakenOfAtMost}
use Rattle.gas_terms.specs.declared.accounts.Sums.{Sums}
use Rattle.gas_terms.specs.declared.accounts.Took.{Took}
use Rattle.gas_terms.specs.declared.accounts.Moved.{Moved}
use Rattle.gas_terms.proofs.RectangleTotals.{parity_count-small, total_in-parities}
use Rattle.gas_terms.proofs.StoppedTotals.{taken-stopped}
use Rattle.gas_terms.proofs.TileTotals.{total-tiles}
use Rattle.gas_plane.proofs.Places.{wide, high}
use Rattle.block_rule.specs.Accounts.{counted_of}
use Rattle.block_rule.specs.Windows.{taken_in}
use Rattle.block_rule.specs.declared.walled.Counted.{Counted}
use Rattle.phase_step.specs.Amounts.{sum_first}
use Rattle.phase_step.specs.Runs.{parity_at, takings, tiles_take}
use Rattle.phase_step.specs.Actions.{Leaves, acted, movements, phase_with, flow_plus, flows, FlowsFit}
use Rattle.phase_step.specs.Balance.{flow_counted}
use Rattle.phase_step.specs.WholeRuns.{Dynamics, after_all, flow_all}
use Rattle.phase_step.specs.TileRuns.{tile_moves, tiles_move, phase_flow, tiles_flow}
use Rattle.phase_step.specs.declared.sums.flow.Flow.{Flow}
use Rattle.phase_step.proofs.ActionRuns.{sized_with, count_with}
use Rattle.phase_step.proofs.Amounts.{sum_same, sum_from_zero, sum_few, each_below, sum_as, sum_split, sum_both}
use Rattle.phase_step.proofs.FlowSums.{pair_same, took_same, same_moved, same_flow, totals, takings_add, movements_add, flows_add, counted_plus, flows_counted, IsTakenOf, IsMovedOf, IsFlowOf, none_taken, none_moved, took_few, moved_few, flow_few, counted_fit, flows_fit}
use Rattle.phase_step.proofs.Sides.{even_sides, whole_tiles}

-- the particles of a tile
signed : (b : Bool) (m n : ℕ) → nat_abs (sign b *ℤ (pos m -ℤ pos n)) ≤ m + n
signed true m n = omega (arith, ints)
signed false m n = omega (arith, ints)

few_classes : (tick : ℤ) (a b c d : ℕ) → a ≤ 4096 → b ≤ 4096 → c ≤ 4096 → d ≤ 4096 → IsOfAtMost 16384 (sums_by_parity tick a b c d)
few_classes tick a b c d p q r s =
    let right = parity tick == 0 in
    record {
      not_negative = omega (arith, ints);
      count = omega arith;
      x = omega (arith, signed right (a + c) (b + d));
      y = omega (arith, signed right (a + b) (c + d));
    }

few_in_tile : (tick : ℤ) (cells : Cells) (i : ℕ) → IsOfAtMost 16384 (total_in tick cells (tile_rectangle cells i))
few_in_tile tick cells i =
    let r : Rectangle = tile_rectangle cells i in
    subst (IsOfAtMost 16384) (sym (total_in-parities tick cells r))
    (few_classes tick (parity_count cells r 0 0) (parity_count cells r 1 0) (parity_count cells r 0 1) (parity_count cells r 1 1)
    (parity_count-small cells r 0 0) (parity_count-small cells r 1 0) (parity_count-small cells r 0 1) (parity_count-small cells r 1 1))

twice_few : (n : ℕ) (s : Sums) → IsOfAtMost n s → IsTakenOfAtMost n (twice_momentum s)
twice_few n s few = let count = few.count in record { x = omega (arith, ints, count, few.x); y = omega (arith, ints, count, few.y) }

pub tile_takes_few : (p : ℕ) (c w o : Cells) (i : ℕ) → IsTakenOf 16384 (taken_in (pos p) c w o (tile_rectangle c i))
tile_takes_few p c w o i =
    record {
      walls = twice_few 16384 _ (few_in_tile (pos p) (stopped (parity (pos p)) c (takes_for_walls w o)) i);
      obstacles = twice_few 16384 _ (few_in_tile (pos p) (stopped (parity (pos p)) c (takes_for_obstacles w o)) i);
    }

pub tile_moves_few : (tick : ℤ) (leaves : Leaves) (come : Cells) (i : ℕ) → IsMovedOf 16384 (tile_moves tick come (acted leaves come) i)
tile_moves_few tick leaves come i =
    record { injected = few_in_tile tick (without (acted leaves come) come) i; drained = few_in_tile tick (without come (acted leaves come)) i }

-- those of n tiles
pub tiles_take_few : (p : ℕ) (c w o : Cells) (first n : ℕ) → IsTakenOf (16384 * n) (tiles_take p c w o first n)
tiles_take_few p c w o first n = sum_few takings IsTakenOf (none_taken 0) took_few 16384 _ (λ i. tile_takes_few p c w o (first + i)) n

pub tiles_move_few : (tick : ℤ) (leaves : Leaves) (come : Cells) (first n : ℕ) → IsMovedOf (16384 * n) (tiles_move tick come (acted leaves come) first n)
tiles_move_few tick leaves come first n = sum_few movements IsMovedOf (none_moved 0) moved_few 16384 _ (λ i. tile_moves_few tick leaves come (first + i)) n

-- one tile more, where they are counted from `from` on
pub take_next : (p : ℕ) (c w o : Cells) (kept : Counted) (first from i : ℕ) (took here : Took) → from ≤ i → took ≡ counted_of kept (tiles_take p c w o first (i - from)) → here ≡ counted_of kept (taken_in (pos p) c w o (tile_rectangle c (first + (i - from))))
    → took_plus took here ≡ counted_of kept (tiles_take p c w o first (i + 1 - from))
take_next p c w o kept first from i took here low so_far e =
    let next : suc (i - from) ≡ i + 1 - from = omega arith in
    ap₂ took_plus so_far e
    ∙ (counted_plus kept (tiles_take p c w o first (i - from)) (taken_in (pos p) c w o (tile_rectangle c (first + (i - from))))
    ∙ ap (λ m. counted_of kept (tiles_take p c w o first m)) next)

pub take_fits : (p : ℕ) (c w o : Cells) (kept : Counted) (first n i : ℕ) (took here : Took) → n ≤ 4096 → took ≡ counted_of kept (tiles_take p c w o first n) → here ≡ counted_of kept (taken_in (pos p) c w o (tile_rectangle c i))
    → TakenFits (pair_plus took.walls here.walls) × TakenFits (pair_plus took.obstacles here.obstacles)
take_fits p c w o kept first n i took here few so_far e =
    counted_fit (16384 * n) 16384 kept took here _ _ so_far e (tiles_take_few p c w o first n) (tile_takes_few p c w o i) (omega arith)

-- sums of two kinds over the first n tiles
tiles_below : (f g : ℕ → Sums) (n : ℕ) → sum_first movements (λ i. record { injected = f i; drained = g i }) n
    ≡ (let m : Moved = record { injected = plus_all f (range_with_len 0 n); drained = plus_all g (range_with_len 0 n) } in m)
tiles_below f g n =
    same_moved _ _
    (sym (sum_as movements totals (λ (m : Moved). m.injected) refl (λ a b. refl) _ n) ∙ sym (each_below totals f n))
    (sym (sum_as movements totals (λ (m : Moved). m.drained) refl (λ a b. refl) _ n) ∙ sym (each_below totals g n))

-- all tiles move what the lattice does
pub moves_all : (tick : ℤ) (leaves : Leaves) (come : Cells) → is_size (extent come) ≡ true → tiles_move tick come (acted leaves come) 0 (tile_count come) ≡ moved_by tick come (acted leaves come)
moves_all tick leaves come sized =
    let across : come.width % 64 ≡ 0 = whole_tiles come.width (wide (extent come) sized) in
    let down : come.height % 64 ≡ 0 = whole_tiles come.height (high (extent come) sized) in
    let next = acted leaves come in
    sum_from_zero movements (tile_moves tick come next) (tile_count come)
    ∙ (tiles_below (λ i. total_in tick (without next come) (tile_rectangle come i)) (λ i. total_in tick (without come next) (tile_rectangle come i)) (tile_count come)
    ∙ same_moved _ _ (sym (total-tiles tick (without next come) across down)) (sym (total-tiles tick (without come next) across down)))

-- and take what it does: twice the momentum of those that are stopped
abbrev stops : Moved → Took
stops m = record { walls = twice_momentum m.injected; obstacles = twice_momentum m.drained }

twice-plus : (a b : Sums) → pair_plus (twice_momentum a) (twice_momentum b) ≡ twice_momentum (plus a b)
twice-plus a b = pair_same (omega (arith, ints)) (omega (arith, ints))

pub all_take : (p : ℕ) (c w o : Cells) → p < 2 → is_size (extent c) ≡ true → tiles_take p c w o 0 (tile_count c) ≡ taken p c w o
all_take p c w o small sized =
    let across : c.width % 64 ≡ 0 = whole_tiles c.width (wide (extent c) sized) in
    let down : c.height % 64 ≡ 0 = whole_tiles c.height (high (extent c) sized) in
    let same : p % 2 ≡ p = omega arith in
    let by_walls = stopped (parity (pos p)) c (takes_for_walls w o) in
    let by_obstacles = stopped (parity (pos p)) c (takes_for_obstacles w o) in
    sum_from_zero takings (λ i. taken_in (pos p) c w o (tile_rectangle c i)) (tile_count c)
    ∙ (sum_as movements takings stops refl (λ a b. took_same (twice-plus a.injected b.injected) (twice-plus a.drained b.drained))
    (λ i. record { injected = total_in (pos p) by_walls (tile_rectangle c i); drained = total_in (pos p) by_obstacles (tile_rectangle c i) }) (tile_count c)
    ∙ (ap stops (tiles_below (λ i. total_in (pos p) by_walls (tile_rectangle c i)) (λ i. total_in (pos p) by_obstacles (tile_rectangle c i)) (tile_count c)
    ∙ same_moved _ _ (sym (total-tiles (pos p) by_walls across down)) (sym (total-tiles (pos p) by_obstacles across down)))
    ∙ (took_same (sym (taken-stopped (pos p) c (takes_for_walls w o) (even_sides c sized))) (sym (taken-stopped (pos p) c (takes_for_obstacles w o) (even_sides c sized)))
    ∙ ap (λ q. taken q c w o) same)))

-- a lattice's tiles have so many particles in a run
pub few_in_all : (n k : ℕ) → n ≤ 4096 → k ≤ 65536 → 16384 * n * k ≤ 2 ^ 42
few_in_all n k few short =
    let most : n * k ≤ 4096 * 65536 = mul-le-mul few short in
    let e : 16384 * n * k ≡ 16384 * (n * k) = omega arith in
    omega (arith, most, e)

module _ (d : Dynamics) (c : Cells) where
  phase_few : (first n k : ℕ) → IsFlowOf (16384 * n) (phase_flow d c first n k)
  phase_few first n k =
      let now = after_all d c k in
      record {
        took = tiles_take_few (parity_at d.parity k) now d.walls d.obstacles first n;
        moved = tiles_move_few (pos (parity_at d.parity (suc k))) (d.leaves k) (streamed (parity_at d.parity k) now (joined d.walls d.obstacles)) first n;
      }

  pub tiles_flow_few : (first n k : ℕ) → IsFlowOf (16384 * n * k) (tiles_flow d c first n k)
  tiles_flow_few first n k = sum_few flows IsFlowOf (record { took = none_taken 0; moved = none_moved 0 }) flow_few (16384 * n) (phase_flow d c first n) (phase_few first n) k

  -- tiles one after another come to what they do together
  pub tiles_flow_split : (first a b k : ℕ) → tiles_flow d c first (a + b) k ≡ flow_plus (tiles_flow d c first a k) (tiles_flow d c (first + a) b k)
  tiles_flow_split first a b k =
      sum_same flows (phase_flow d c first (a + b)) (λ j. flow_plus (phase_flow d c first a j) (phase_flow d c (first + a) b j)) k
      (λ j less.
      let now = after_all d c j in
      let come = streamed (parity_at d.parity j) now (joined d.walls d.obstacles) in
      same_flow _ _
      (sum_split takings takings_add (λ i. taken_in (pos (parity_at d.parity j)) now d.walls d.obstacles (tile_rectangle now i)) first a b)
      (sum_split movements movements_add (tile_moves (pos (parity_at d.parity (suc j))) come (acted (d.leaves j) come)) first a b))
      ∙ sum_both flows flows_add (phase_flow d c first a) (phase_flow d c (first + a) b) k

  -- all tiles come to what the lattice does
  pub tiles_flow_all : (k : ℕ) → is_size (extent c) ≡ true → tiles_flow d c 0 (tile_count c) k ≡ flow_all d c k
  tiles_flow_all k sized =
      sum_same flows (phase_flow d c 0 (tile_count c)) (phase_with d.parity d.walls d.obstacles d.leaves c) k
      (λ j less.
      let now = after_all d c j in
      let come = streamed (parity_at d.parity j) now (joined d.walls d.obstacles) in
      let tick = pos (parity_at d.parity (suc j)) in
      let size = sized_with d.parity (joined d.walls d.obstacles) d.leaves c j sized in
      let count = sym (count_with d.parity (joined d.walls d.obstacles) d.leaves c j) in
      same_flow _ _
      (ap (tiles_take (parity_at d.parity j) now d.walls d.obstacles 0) count ∙ all_take (parity_at d.parity j) now d.walls d.obstacles (omega arith) size)
      (ap (tiles_move tick come (acted (d.leaves j) come) 0) count ∙ moves_all tick (d.leaves j) come size))

  -- one phase more, in the accounts that are kept
  pub own_flow_next : (kept : Counted) (first n k : ℕ) (flow here : Flow) → flow ≡ flow_counted kept (tiles_flow d c first n k) → here ≡ flow_counted kept (phase_flow d c first n k)
      → flow_plus flow here ≡ flow_counted kept (tiles_flow d c first n (k + 1))
  own_flow_next kept first n k flow here so_far e =
      ap₂ flow_plus so_far e
      ∙ (flows_counted kept (tiles_flow d c first n k) (phase_flow d c first n k)
      ∙ ap (λ k. flow_counted kept (tiles_flow d c first n k)) (sym (add-one k)))

  pub own_flow_fits : (kept : Counted) (first n k : ℕ) (flow here : Flow) → flow ≡ flow_counted kept (tiles_flow d c first n k) → here ≡ flow_counted kept (phase_flow d c first n k)
      → n ≤ 4096 → k ≤ 65536 → FlowsFit flow here
  own_flow_fits kept first n k flow here so_far e few short =
      let most = few_in_all n k few short in
      subst (λ (g : Flow). FlowsFit g here) (sym so_far)
      (subst (FlowsFit (flow_counted kept (tiles_flow d c first n k))) (sym e)
      (flows_fit (16384 * n * k) (16384 * n) kept _ _ (tiles_flow_few first n k) (phase_few first n k) (omega (arith, most, few))))
