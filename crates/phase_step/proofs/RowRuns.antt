-- A run of a part, phase by phase.
use Rattle.std.proofs.Common.{◌≡◌, ℕ, suc, ◌+◌, ◌-◌, ◌*◌, ◌/◌, ◌%◌, ◌<◌, ◌≤◌, true, pos, refl, sym, ap, ap₂, ◌∙◌, subst, arith, add-one, mul-le-mul}
use Rattle.gas_terms.specs.Cells.{Cells, HasSidesOf, has, joined, extent, is_size, IsFull}
use Rattle.gas_terms.specs.Gas.{streamed}
use Rattle.gas_terms.specs.Accounts.{moved_by}
use Rattle.gas_terms.proofs.Cells.{same_cells}
use Rattle.gas_plane.specs.Planes.{IsLattice}
use Rattle.gas_plane.proofs.Places.{wide, high}
use Rattle.block_rule.specs.Accounts.{counted_of}
use Rattle.block_rule.specs.declared.walled.Counted.{Counted}
use Rattle.std.proofs.Math.Nat.{mul-le-mul_left}
use Rattle.std.proofs.lemmas.Nat.{mod-mul-add}
use Rattle.phase_step.specs.Runs.{parity_at, tiles_take}
use Rattle.phase_step.specs.Actions.{Leaves, acted, after_with, flow_plus, flow_with, FlowsFit}
use Rattle.phase_step.specs.Balance.{flow_counted}
use Rattle.phase_step.specs.TileRuns.{tiles_move, phase_flow, tiles_flow}
use Rattle.phase_step.specs.Parts.{own_rows, own_take, own_moves, part_run, IsPartOf, HasRun, whole_part}
use Rattle.phase_step.specs.WholeRuns.{Dynamics, after_all}
use Rattle.phase_step.specs.declared.parts.Part.{Part}
use Rattle.phase_step.specs.declared.sums.flow.Flow.{Flow}
use Rattle.phase_step.proofs.ActionRuns.{sides_with}
use Rattle.phase_step.proofs.FlowSums.{same_flow, counted_none}
use Rattle.phase_step.proofs.OwnTiles.{rows_left}
use Rattle.phase_step.proofs.TileFlows.{moves_all, tiles_flow_all, own_flow_next, own_flow_fits}

-- how many tiles are its own
pub own_few : (part : Part) (cells lattice : Cells) (k : ℕ) → IsPartOf part cells lattice k → own_rows part cells * (lattice.width / 64) ≤ 4096
own_few part cells lattice k is = grind (arith, wide, extent, high, own_rows, mul-le-mul)

-- a phase and the action after it: the part that was, that comes and that is next, and what is told of it
pub record IsPartPhase (part : Part) (counted : Counted) (d : Dynamics) (q k : ℕ) (lattice old now come next : Cells) (flow here : Flow) : Type 0 where
  pub small : d.parity < 2
  pub parity : q ≡ parity_at d.parity k
  pub now_sides : HasSidesOf now old
  pub come_sides : HasSidesOf come old
  pub so_far : HasRun (part_run part counted d k) old lattice now flow
  pub action : IsPartOf part next (acted (d.leaves k) (streamed q (after_all d lattice k) (joined d.walls d.obstacles))) 64
  pub took : here.took ≡ counted_of counted (own_take part q now (after_all d lattice k) d.walls d.obstacles)
  pub moved : let there = streamed q (after_all d lattice k) (joined d.walls d.obstacles) in here.moved ≡ own_moves part (1 - q) come there (acted (d.leaves k) there)

module _ (part : Part) (counted : Counted) (d : Dynamics) (q k : ℕ) (lattice old now come next : Cells) (flow here : Flow) (is : IsPartPhase part counted d q k lattice old now come next flow here) where
  next_is : acted (d.leaves k) (streamed q (after_with d.parity (joined d.walls d.obstacles) d.leaves lattice k) (joined d.walls d.obstacles)) ≡ after_with d.parity (joined d.walls d.obstacles) d.leaves lattice (k + 1)
  next_is =
      ap (λ q. acted (d.leaves k) (streamed q (after_with d.parity (joined d.walls d.obstacles) d.leaves lattice k) (joined d.walls d.obstacles))) is.parity
      ∙ ap (after_with d.parity (joined d.walls d.obstacles) d.leaves lattice) (sym (add-one k))

  across_is : (after_with d.parity (joined d.walls d.obstacles) d.leaves lattice k).width / 64 ≡ lattice.width / 64
  across_is = ap (λ n. n / 64) (sides_with d.parity (joined d.walls d.obstacles) d.leaves lattice k).wide

  rows_are : (cells : Cells) → HasSidesOf cells old → own_rows part cells ≡ own_rows part old
  rows_are cells sides = ap (λ h. h / 64 - 2 * part.margin) sides.high

  -- what is taken in the accounts that are kept, and what moves
  tick_is : 1 - q ≡ parity_at d.parity (suc k)
  tick_is = let e = is.parity in let s = is.small in omega (arith, e, s)

  own_is : here ≡ flow_counted counted (phase_flow d lattice (part.first * (lattice.width / 64)) (own_rows part old * (lattice.width / 64)) k)
  own_is =
      let there = after_with d.parity (joined d.walls d.obstacles) d.leaves lattice k in
      let left : ℕ → Cells = λ r. streamed r there (joined d.walls d.obstacles) in
      let of_rows : ℕ → ℕ → ℕ → Flow = λ r a m. record { took = counted_of counted (tiles_take r there d.walls d.obstacles (part.first * a) (m * a)); moved = tiles_move (pos (parity_at d.parity (suc k))) (left r) (acted (d.leaves k) (left r)) (part.first * a) (m * a) } in
      same_flow here (of_rows q (there.width / 64) (own_rows part now)) is.took
      (is.moved
      ∙ ap₂ (λ t m. tiles_move (pos t) (left q) (acted (d.leaves k) (left q)) (part.first * (there.width / 64)) (m * (there.width / 64))) tick_is (rows_are come is.come_sides ∙ sym (rows_are now is.now_sides)))
      ∙ (ap₂ (λ a m. of_rows q a m) across_is (rows_are now is.now_sides)
      ∙ ap (λ r. of_rows r (lattice.width / 64) (own_rows part old)) is.parity)

  pub run_next : HasRun (part_run part counted d (k + 1)) old lattice next (flow_plus flow here)
  run_next =
      record {
        is = subst (λ (there : Cells). IsPartOf part next there 64) next_is is.action;
        flow = own_flow_next d lattice counted (part.first * (lattice.width / 64)) (own_rows part old * (lattice.width / 64)) k flow here is.so_far.flow own_is;
      }

  pub run_fits : k ≤ 65536 → own_rows part old * (lattice.width / 64) ≤ 4096 → FlowsFit flow here
  run_fits short few = own_flow_fits d lattice counted (part.first * (lattice.width / 64)) (own_rows part old * (lattice.width / 64)) k flow here is.so_far.flow own_is few short

-- no phase yet
pub run_begins : (part : Part) (counted : Counted) (d : Dynamics) (old lattice : Cells) (p : ℕ) → IsPartOf part old lattice (64 - p)
    → HasRun (part_run part counted d 0) old lattice old (record { took = record { walls = record { x = pos 0; y = pos 0 }; obstacles = record { x = pos 0; y = pos 0 } }; moved = record { injected = record { count = pos 0; px = pos 0; py = pos 0 }; drained = record { count = pos 0; px = pos 0; py = pos 0 } } })
run_begins part counted d old lattice p is =
    record { is = rows_left part old lattice (64 - p) 64 (mul-le-mul_left part.margin (omega arith)) is; flow = same_flow _ _ (counted_none counted) refl }

-- a part that makes more phases than one has no margin, so that after a phase it is ready for the next
pub ready_again : (part : Part) (cells lattice : Cells) (n k q : ℕ) → part.margin * n ≤ 1 → k + 1 < n → IsPartOf part cells lattice 64 → IsPartOf part cells lattice (64 - q)
ready_again part cells lattice n k q few more is =
    let twice : part.margin * 2 ≤ part.margin * n = mul-le-mul_left part.margin (omega arith) in
    let none : part.margin ≡ 0 = omega (arith, few, twice) in
    rows_left part cells lattice 64 (64 - q) (subst (λ m. m * 64 ≤ m * (64 - q)) (sym none) (omega arith)) is

pub sides_on : (a b c : Cells) → HasSidesOf a b → HasSidesOf b c → HasSidesOf a c
sides_on a b c p q = record { wide = p.wide ∙ q.wide; high = p.high ∙ q.high }

-- what has the sides of the lattice has them after a run
pub sides_there : (p : ℕ) (w o : Cells) (leaves : ℕ → Leaves) (lattice : Cells) (k : ℕ) → HasSidesOf w lattice → HasSidesOf w (after_with p (joined w o) leaves lattice k)
sides_there p w o leaves lattice k of = let s = sides_with p (joined w o) leaves lattice k in record { wide = of.wide ∙ sym s.wide; high = of.high ∙ sym s.high }

-- The whole lattice is a part of itself, whose rows are all.
whole_row : (down h y : ℕ) → h ≡ down * 64 → y < h → ((0 + down - 0) * 64 + y) % (down * 64) ≡ y
whole_row down h y e less = grind (arith, mod-mul-add)

pub whole_is : (down k : ℕ) (cells : Cells) → is_size (extent cells) ≡ true → IsFull cells → down ≡ cells.height / 64
    → IsPartOf (record { first = 0; down = down; margin = 0 }) cells cells k
whole_is down k cells sized full e = grind (arith, high, extent, wide, has, whole_row)

pub whole_held : (part : Part) (cells : Cells) (k : ℕ) → IsLattice cells → part ≡ whole_part cells → IsPartOf part cells cells k
whole_held part cells k is e = subst (λ (part : Part). IsPartOf part cells cells k) (sym e) (whole_is (cells.height / 64) k cells is.sized is.full refl)

-- the torus is closed: the whole lattice has all rows
pub whole_same : (down k : ℕ) (new lattice : Cells) → IsFull new → IsPartOf (record { first = 0; down = down; margin = 0 }) new lattice k → new ≡ lattice
whole_same down k new lattice full is = grind (arith, same_cells, wide, has, whole_row)

pub whole_flow : (down n : ℕ) (counted : Counted) (d : Dynamics) (cells new : Cells) (answer : Flow) → is_size (extent cells) ≡ true → HasRun (part_run (record { first = 0; down = down; margin = 0 }) counted d n) cells cells new answer
    → answer ≡ flow_counted counted (flow_with d.parity d.walls d.obstacles d.leaves cells n)
whole_flow down n counted d cells new answer sized run =
    let a = cells.width / 64 in
    let first : 0 * a ≡ 0 = omega arith in
    let rows : cells.height / 64 - 2 * 0 ≡ cells.height / 64 = omega arith in
    let turned : cells.height / 64 * a ≡ a * (cells.height / 64) = omega arith in
    let count = ap (λ n. n * a) rows ∙ turned in
    run.flow
    ∙ ap (flow_counted counted)
    (ap₂ (λ f m. tiles_flow d cells f m n) first count
    ∙ tiles_flow_all d cells n sized)

-- what an action on it moves
pub whole_moves : (p : ℕ) (leaves : Leaves) (cells : Cells) → is_size (extent cells) ≡ true → own_moves (whole_part cells) p cells cells (acted leaves cells) ≡ moved_by (pos p) cells (acted leaves cells)
whole_moves p leaves cells sized =
    let a = cells.width / 64 in
    let first : 0 * a ≡ 0 = omega arith in
    let rows : cells.height / 64 - 2 * 0 ≡ cells.height / 64 = omega arith in
    let turned : cells.height / 64 * a ≡ a * (cells.height / 64) = omega arith in
    ap₂ (tiles_move (pos p) cells (acted leaves cells)) first (ap (λ n. n * a) rows ∙ turned) ∙ moves_all (pos p) leaves cells sized

-- A strip is a part with a margin.
pub strip_is : (first down rows k : ℕ) (strip lattice : Cells) → is_size (extent lattice) ≡ true → IsFull lattice → lattice.height ≡ down * 64 → strip.width ≡ lattice.width → strip.height ≡ (rows + 2) * 64 → 0 < rows → first + rows ≤ down
    → ((x y : ℕ) → x < lattice.width → k ≤ y → y + k < strip.height → has strip x y ≡ has lattice x (((first + down - 1) * 64 + y) % (down * 64)))
    → IsPartOf (record { first = first; down = down; margin = 1 }) strip lattice k
strip_is first down rows k strip lattice sized full high_is wide_is strip_high some within row = grind (arith, wide)

pub strip_flow : (first down rows n : ℕ) (counted : Counted) (d : Dynamics) (strip lattice new : Cells) (answer : Flow) → strip.height ≡ (rows + 2) * 64 → HasRun (part_run (record { first = first; down = down; margin = 1 }) counted d n) strip lattice new answer
    → answer ≡ flow_counted counted (tiles_flow d lattice (first * (lattice.width / 64)) (rows * (lattice.width / 64)) n)
strip_flow first down rows n counted d strip lattice new answer high_is run = grind (arith, flow_counted, tiles_flow)
