-- What a run comes to in some rows of tiles, and in all of them.
use Rattle.std.proofs.Common.{◌≡◌, ℕ, true, ◌+◌, ◌*◌, ◌/◌, ◌≤◌, refl, sym, ap, ap₂, ◌∙◌, arith}
use Rattle.std.proofs.lemmas.Nat.{mul-le}
use Rattle.gas_terms.specs.Cells.{extent, is_size, tile_count}
use Rattle.gas_plane.proofs.Places.{wide}
use Rattle.phase_step.specs.Actions.{flow_plus, no_flow, flows, FlowsFit}
use Rattle.phase_step.specs.Balance.{flow_counted}
use Rattle.phase_step.specs.TileRuns.{phase_flow, tiles_flow}
use Rattle.phase_step.specs.declared.sums.flow.Flow.{Flow}
use Rattle.phase_step.proofs.Amounts.{sum_none}
use Rattle.phase_step.proofs.FlowSums.{same_flow, flows_add, flows_counted, counted_none, flows_fit}
use Rattle.phase_step.proofs.TileFlows.{few_in_all, tiles_flow_few, tiles_flow_split, tiles_flow_all}
use Rattle.phase_strips.specs.Courses.{Course, flow_at, rows_give}

module _ (course : Course) (k : ℕ) where
  pub no_rows_give : no_flow ≡ rows_give course k 0 0
  no_rows_give =
      let d = course.dynamics in
      let a = course.start.width / 64 in
      same_flow no_flow (flow_counted course.counted no_flow) (counted_none course.counted) refl
      ∙ (ap (flow_counted course.counted) (sum_none flows flows_add (phase_flow d course.start 0 0) k (λ i less. refl))
      ∙ ap₂ (λ f n. flow_counted course.counted (tiles_flow d course.start f n k)) (let e : 0 ≡ 0 * a = omega arith in e) (let e : 0 ≡ 0 * a = omega arith in e))

  -- so many rows, and so many more
  pub more_rows_give : (m n : ℕ) → flow_plus (rows_give course k 0 m) (rows_give course k m n) ≡ rows_give course k 0 (m + n)
  more_rows_give m n =
      let d = course.dynamics in
      let a = course.start.width / 64 in
      let of : ℕ → ℕ → Flow = λ f j. tiles_flow d course.start f j k in
      let zero_is : 0 * a ≡ 0 = omega arith in
      let begins : m * a ≡ 0 + m * a = omega arith in
      let both : m * a + n * a ≡ (m + n) * a = omega arith in
      ap₂ (λ f g. flow_plus (flow_counted course.counted (of f (m * a))) (flow_counted course.counted (of g (n * a)))) zero_is begins
      ∙ (flows_counted course.counted (of 0 (m * a)) (of (0 + m * a) (n * a))
      ∙ (sym (ap (flow_counted course.counted) (tiles_flow_split d course.start 0 (m * a) (n * a) k))
      ∙ ap₂ (λ f j. flow_counted course.counted (of f j)) (sym zero_is) both))

  -- all rows
  pub all_rows_give : is_size (extent course.start) ≡ true → rows_give course k 0 (course.start.height / 64) ≡ flow_at course k
  all_rows_give sized =
      let d = course.dynamics in
      let a = course.start.width / 64 in
      let zero_is : 0 * a ≡ 0 = omega arith in
      let all : course.start.height / 64 * a ≡ tile_count course.start = omega arith in
      ap₂ (λ f j. flow_counted course.counted (tiles_flow d course.start f j k)) zero_is all
      ∙ ap (flow_counted course.counted) (tiles_flow_all d course.start k sized)

  -- what comes of some rows and of some others can be added up
  pub rows_fit : (first m next n : ℕ) → is_size (extent course.start) ≡ true → k ≤ 65535 → m ≤ 64 → n ≤ 64
      → FlowsFit (rows_give course k first m) (rows_give course k next n)
  rows_fit first m next n sized short few more =
      let d = course.dynamics in
      let a = course.start.width / 64 in
      let across = (wide (extent course.start) sized).few in
      let p = few_in_all (m * a) k (mul-le m a 64 64 few across) (omega (arith, short)) in
      let q = few_in_all (n * a) k (mul-le n a 64 64 more across) (omega (arith, short)) in
      flows_fit (16384 * (m * a) * k) (16384 * (n * a) * k) course.counted _ _
      (tiles_flow_few d course.start (first * a) (m * a) k)
      (tiles_flow_few d course.start (next * a) (n * a) k)
      (omega (arith, p, q))
