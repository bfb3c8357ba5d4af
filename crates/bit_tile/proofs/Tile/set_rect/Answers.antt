use Rattle.std.proofs.Common.{ℕ, ◌+◌, ◌&&◌, Bool, arith}
use Rattle.bit_tile.specs.Tile.{has, is_inside, cell_changes}
use Rattle.bit_tile.proofs.Classes.{by_class, is_even_even, is_odd_even, is_even_odd, is_odd_odd}
use Rattle.bit_tile.proofs.Counts.{four_classes, class}
use Rattle.bit_tile.proofs.SetRows.{class_is_set, changes_of_class}
use Rattle.bit_tile.proofs.Tile.set_rect.Goals as goal

pub returns-clause-cells : goal.returns-clause-cells
returns-clause-cells c =
    let t = c.args.self.now in
    let x = c.args.x in
    let y = c.args.y in
    let z : ℕ = c.args.x + c.args.w in
    let v : ℕ = c.args.y + c.args.h in
    let held = c.args.held in
    by_class _ _ (class_is_set _ 0 0 x y z v (omega arith) (omega arith) c.span-even_columns.ensures _ _ held (has t) (is_even_even t) c.set_rows.ensures.cells)
    (class_is_set _ 1 0 x y z v (omega arith) (omega arith) c.span-odd_columns.ensures _ _ held (has t) (is_odd_even t) c.set_rows-2.ensures.cells)
    (class_is_set _ 0 1 x y z v (omega arith) (omega arith) c.span-even_columns.ensures _ _ held (has t) (is_even_odd t) c.set_rows-3.ensures.cells)
    (class_is_set _ 1 1 x y z v (omega arith) (omega arith) c.span-odd_columns.ensures _ _ held (has t) (is_odd_odd t) c.set_rows-4.ensures.cells)

pub returns-clause-changed : goal.returns-clause-changed
returns-clause-changed c =
    let t = c.args.self.now in
    let x = c.args.x in
    let y = c.args.y in
    let z : ℕ = c.args.x + c.args.w in
    let v : ℕ = c.args.y + c.args.h in
    let held = c.args.held in
    let test : ℕ → ℕ → Bool = λ i j. is_inside x y c.args.w c.args.h i j && cell_changes held (has t i j) in
    four_classes (class test) _ _ _ _ (changes_of_class _ 0 0 x y z v (omega arith) (omega arith) c.span-even_columns.ensures t.even_even held (has t) _ (is_even_even t) c.set_rows.ensures.count)
    (changes_of_class _ 1 0 x y z v (omega arith) (omega arith) c.span-odd_columns.ensures t.odd_even held (has t) _ (is_odd_even t) c.set_rows-2.ensures.count)
    (changes_of_class _ 0 1 x y z v (omega arith) (omega arith) c.span-even_columns.ensures t.even_odd held (has t) _ (is_even_odd t) c.set_rows-3.ensures.count)
    (changes_of_class _ 1 1 x y z v (omega arith) (omega arith) c.span-odd_columns.ensures t.odd_odd held (has t) _ (is_odd_odd t) c.set_rows-4.ensures.count)
