use Rattle.std.proofs.Common.{◌≡◌, ◌+◌, ◌*◌, ◌%◌, ◌&&◌, ◌==◌, Bool, true, false, refl, sym, ◌∙◌, ap}
use Rattle.bit_tile.specs.Tile as tile
use Rattle.bit_tile.proofs.Bits.{get_or-replicate_zero}
use Rattle.bit_tile.proofs.Counts.{cells_same, cells_counted-none}
use Rattle.gas_plane.proofs.counts.counts_of.Goals as goal

with_true : (b inside : Bool) → inside ≡ true → b ≡ (b && inside)
with_true true inside e = sym e
with_true false inside e = refl

with_false : (b inside p q : Bool) → inside ≡ false → false ≡ ((b && inside) && p && q)
with_false true inside p q e = rw e refl
with_false false inside p q e = refl

pub returns-then-is_covered-clause-counts : goal.returns-then-is_covered-clause-counts
returns-then-is_covered-clause-counts c = λ a b p q.
    let t = c.args.tile.now in
    c.count_by_parity.ensures.counts a b p q
    ∙ cells_same _ _ (λ x y in_row in_column. ap (λ v. v && x % 2 == a && y % 2 == b) (with_true (tile.has t x y) _ (c.is_covered.ensures.0 c.if-is_covered.true x y in_row in_column)))

pub returns-in-Some-clause-counts : goal.returns-in-Some-clause-counts
returns-in-Some-clause-counts c = λ a b p q.
    let t = c.args.tile.now in
    c.count_by_parity-in-Some.ensures.counts a b p q
    ∙ cells_same _ _ (λ x y in_row in_column.
    ap (λ v. v && x % 2 == a && y % 2 == b) (c.meet.ensures x y in_row in_column ∙ ap (λ v. tile.has t x y && v) (c.in-Some.ensures x y in_row in_column)))

pub returns-in-None-clause-counts : goal.returns-in-None-clause-counts
returns-in-None-clause-counts c = λ a b p q.
    let t = c.args.tile.now in
    get_or-replicate_zero 4 (2 * b + a)
    ∙ (sym cells_counted-none
    ∙ cells_same _ _ (λ x y in_row in_column. with_false (tile.has t x y) _ (x % 2 == a) (y % 2 == b) (c.in-None.ensures x y in_row in_column)))
