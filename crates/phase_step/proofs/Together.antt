-- Walls and obstacles together, after an edit.
use Rattle.std.proofs.Common.{◌≡◌, ℕ, ◌<◌, Bool, not, ◌&&◌, ◌||◌, List, sym, ap, ap₂, ◌∙◌, subst, arith}
use Rattle.gas_terms.specs.Cells.{Cells, Rectangle, HasSidesOf, has, cells_where, filled, cleared, joined, is_inside}
use Rattle.gas_terms.proofs.Cells.{has-cells_where, full-cells_where, same_cells_where}
use Rattle.gas_plane.specs.Planes.{IsLattice, HasNone}
use Rattle.block_rule.specs.declared.blocks_in_tile.TileBlocks.{TileBlocks}
use Rattle.phase_step.specs.SolidBlocks.{HaveAllTiles, AreBlocksOf}
use Rattle.phase_step.proofs.Sides.{tiles_as}

first_more : (w o r : Bool) → ((w || o) || r) ≡ ((w || r) || o)
first_more w o r = grind arith

second_more : (w o r : Bool) → ((w || o) || r) ≡ (w || (o || r))
second_more w o r = grind arith

both_less : (w o r : Bool) → ((w || o) && not r) ≡ ((w && not r) || (o && not r))
both_less w o r = grind arith

module _ (w o : Cells) (area : Rectangle) (sides : HasSidesOf o w) where
  in_joined : (x y : ℕ) → x < w.width → y < w.height → has (joined w o) x y ≡ (has w x y || has o x y)
  in_joined x y h k = has-cells_where w.width w.height (λ x y. has w x y || has o x y) x y h k

  of_other : (test : ℕ → ℕ → Bool) (x y : ℕ) → x < w.width → y < w.height → has (cells_where o.width o.height test) x y ≡ test x y
  of_other test x y h k = has-cells_where o.width o.height test x y (subst (λ n. x < n) (sym sides.wide) h) (subst (λ n. y < n) (sym sides.high) k)

  pub walls_filled : filled (joined w o) area ≡ joined (filled w area) o
  walls_filled =
      same_cells_where w.width w.height _ _ (λ x y h k.
      ap (λ b. b || is_inside area x y) (in_joined x y h k)
      ∙ (first_more (has w x y) (has o x y) (is_inside area x y)
      ∙ ap (λ b. b || has o x y) (sym (has-cells_where w.width w.height (λ x y. has w x y || is_inside area x y) x y h k))))

  pub obstacles_filled : filled (joined w o) area ≡ joined w (filled o area)
  obstacles_filled =
      same_cells_where w.width w.height _ _ (λ x y h k.
      ap (λ b. b || is_inside area x y) (in_joined x y h k)
      ∙ (second_more (has w x y) (has o x y) (is_inside area x y)
      ∙ ap (λ b. has w x y || b) (sym (of_other (λ x y. has o x y || is_inside area x y) x y h k))))

  pub both_cleared : cleared (joined w o) area ≡ joined (cleared w area) (cleared o area)
  both_cleared =
      same_cells_where w.width w.height _ _ (λ x y h k.
      ap (λ b. b && not (is_inside area x y)) (in_joined x y h k)
      ∙ (both_less (has w x y) (has o x y) (is_inside area x y)
      ∙ ap₂ (λ a b. a || b) (sym (has-cells_where w.width w.height (λ x y. has w x y && not (is_inside area x y)) x y h k)) (sym (of_other (λ x y. has o x y && not (is_inside area x y)) x y h k))))

-- there are none if there are none of either
pub none_joined : (w o : Cells) → HasSidesOf o w → HasNone w → HasNone o → HasNone (joined w o)
none_joined w o sides no_walls no_obstacles =
    record {
      cell = λ x y h k.
          in_joined w o (record { x = 0; y = 0; w = 0; h = 0 }) sides x y h k
          ∙ ap₂ (λ a b. a || b) (no_walls.cell x y h k) (no_obstacles.cell x y (subst (λ n. x < n) (sym sides.wide) h) (subst (λ n. y < n) (sym sides.high) k));
    }

pub lattice_joined : (w o : Cells) → IsLattice w → IsLattice (joined w o)
lattice_joined w o is = record { sized = is.sized; full = full-cells_where w.width w.height (λ x y. has w x y || has o x y) }

-- words for each tile of one set are for each tile of another
pub tiles_alike : (some set : Cells) (told : List ℕ) (words : List TileBlocks) → HasSidesOf some set → HaveAllTiles some told words → HaveAllTiles set told words
tiles_alike some set told words sides all = record { rows = all.rows ∙ tiles_as some set sides; blocks = all.blocks ∙ tiles_as some set sides }

-- equal words of an equal set
pub words_alike : (some set : Cells) (told is_told : List ℕ) (words is_words : List TileBlocks) → set ≡ some → is_told ≡ told → is_words ≡ words → AreBlocksOf some told words → AreBlocksOf set is_told is_words
words_alike some set told is_told words is_words e f g are =
    subst (λ t. AreBlocksOf set t is_words) (sym f) (subst (λ w. AreBlocksOf set told w) (sym g) (subst (λ (s : Cells). AreBlocksOf s told words) (sym e) are))
