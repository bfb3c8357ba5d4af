use Rattle.std.proofs.Common.{◌≡◌, ℕ, ◌+◌, ◌||◌, ◌&&◌, ◌∙◌, Bool, refl, sym, ap, if◌then◌else◌, take, List, arith}
use Rattle.std.proofs.lemmas.List.{take_all}
use Rattle.std.proofs.lemmas.List.Folds.{list_any_more}
use Rattle.bit_tile.specs.Tile.{has, cell_changes}
use Rattle.gas_terms.specs.Cells.{is_inside, Rectangle}
use Rattle.phase_step.specs.Exchanges.{is_in_any}
use Rattle.phase_step.proofs.AreaCounts.{set_by_either, before_here, only_here, joined_counts}
use Rattle.phase_step.proofs.TileChanges.{counts_as, no_counts}
use Rattle.phase_step.proofs.exchanges.set_cells.set_each.Goals as goal

pub loop-area-init : goal.loop-area-init
loop-area-init c =
    record {
      cells = λ x y h k. refl;
      count = no_counts _ (λ x y h k. refl);
    }

pub loop-area-preserved : goal.loop-area-preserved
loop-area-preserved c =
    let old = c.args.tile.now in
    let held = c.args.held in
    let areas = c.args.areas.now in
    let i = c.loop-area.area-index in
    let done : ℕ → ℕ → Bool = λ x y. is_in_any (take i areas) (c.args.left + x) (c.args.top + y) in
    let here : ℕ → ℕ → Bool = λ x y. is_inside c.area-item.result (c.args.left + x) (c.args.top + y) in
    let both : (x y : ℕ) → is_in_any (take (i + 1) areas) (c.args.left + x) (c.args.top + y) ≡ (done x y || here x y) = λ x y.
    list_any_more (λ r. is_inside r (c.args.left + x) (c.args.top + y)) areas i c.area-item.result (omega arith) ∙ ap (λ r. done x y || is_inside r (c.args.left + x) (c.args.top + y)) (sym c.area-item.is) in
    record {
      cells = λ x y h k.
          c.set_part-here.ensures.cells x y h k
          ∙ (ap (λ b. if here x y then held else b) (c.loop-area.invariant.cells x y h k)
          ∙ (set_by_either (done x y) (here x y) held (has old x y) ∙ ap (λ b. if b then held else has old x y) (sym (both x y))));
      count = counts_as _ (λ x y. (done x y || here x y) && cell_changes held (has old x y)) _
          (joined_counts c.loop-area.changed c.set_part-here.result c.add_counts-sum.result (λ x y. done x y && cell_changes held (has old x y)) (λ x y. here x y && cell_changes held (has c.loop-area.tile x y)) (λ x y. (done x y || here x y) && cell_changes held (has old x y)) done
          c.loop-area.invariant.count c.set_part-here.ensures.changed c.add_counts-sum.ensures
          (λ x y _ _. before_here (done x y) (here x y) held (has old x y))
          (λ x y h k. only_here (done x y) (here x y) held (has old x y) ∙ ap (λ b. here x y && cell_changes held b) (sym (c.loop-area.invariant.cells x y h k))))
          (λ x y _ _. ap (λ b. b && cell_changes held (has old x y)) (sym (both x y)));
    }

pub returns-clause-count : goal.returns-clause-count
returns-clause-count c =
    let areas = c.args.areas.now in
    let all : take c.loop-area.area-index areas ≡ areas = take_all c.loop-area.area-index areas c.loop-area-test.false in
    counts_as _ _ _ c.loop-area.invariant.count (λ x y _ _. ap (λ (l : List Rectangle). is_in_any l (c.args.left + x) (c.args.top + y) && cell_changes c.args.held (has c.args.tile.now x y)) all)
