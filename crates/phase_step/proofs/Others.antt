-- Words of other cells beside a set: which cells these are, and that there are words for each tile.
use Rattle.std.proofs.Common.{◌≡◌, ℕ, ◌<◌, Bool, false, ◌||◌, Option, None, Some, refl, sym, ap, subst, ◌∙◌, arith}
use Rattle.gas_terms.specs.Cells.{Cells, HasSidesOf, joined, has, tile_count}
use Rattle.gas_terms.proofs.Cells.{has-cells_where, full-cells_where, same_cells}
use Rattle.gas_plane.specs.Planes.{IsLattice}
use Rattle.phase_step.proofs.Sides.{tiles_as}
use Rattle.phase_step.specs.SolidBlocks.{AreBlocksOf}
use Rattle.phase_step.specs.Others.{nothing_of, AreOthers, DoOthersReach, HaveOthers}
use Rattle.phase_step.specs.declared.steps.set_words.SetWords.{SetWords}

pub none_of : (set other : Cells) (others : Option SetWords) → others ≡ None → AreOthers set others other → other ≡ nothing_of set
none_of set other others e are = subst (λ o. AreOthers set o other) e are

pub some_of : (set other : Cells) (others : Option SetWords) (w : SetWords) → others ≡ Some w → AreOthers set others other → HasSidesOf other set × AreBlocksOf other w.rows.items w.blocks.items
some_of set other others w e are = subst (λ o. AreOthers set o other) e are

pub sides_of : (set other : Cells) (others : Option SetWords) → AreOthers set others other → HasSidesOf other set
sides_of set other None is = record { wide = ap (λ (c : Cells). c.width) is; high = ap (λ (c : Cells). c.height) is }
sides_of set other (Some w) are = are.0

pub in_other : (set other : Cells) (i : ℕ) → HasSidesOf other set → i < tile_count set → i < tile_count other
in_other set other i sides within = subst (λ n. i < n) (tiles_as set other (record { wide = sym sides.wide; high = sym sides.high })) within

pub reach : (set : Cells) (i : ℕ) (others : Option SetWords) → i < tile_count set → HaveOthers set others → DoOthersReach i others
reach set i None within have = have
reach set i (Some w) within have = (omega (arith, within, have.rows), omega (arith, within, have.blocks))

-- a set with no other cells is the set
pub joined_nothing : (set : Cells) → IsLattice set → joined set (nothing_of set) ≡ set
joined_nothing set lattice =
    same_cells (joined set (nothing_of set)) set (full-cells_where set.width set.height (λ x y. has set x y || has (nothing_of set) x y)) lattice.full refl refl
    (λ x y h k. has-cells_where set.width set.height (λ x y. has set x y || has (nothing_of set) x y) x y h k ∙ (ap (λ b. has set x y || b) (has-cells_where set.width set.height (λ _ _. false) x y h k) ∙ or_false (has set x y)))
  where
    or_false : (a : Bool) → (a || false) ≡ a
    or_false a = grind arith
