-- The rows of blocks across the seam below a row of tiles, turned tile by tile.
use Rattle.std.proofs.Common.{◌≡◌, ◌⊎◌, ℕ, ◌+◌, ◌*◌, ◌/◌, ◌%◌, ◌<◌, ◌≤◌, Bool, true, refl, sym, ap, ◌∙◌, subst, arith, inl, inr}
use Rattle.std.proofs.lemmas.Bool.{cases_eq}
use Rattle.bit_tile.specs.Tile as tile
use Rattle.bit_tile.specs.declared.Tile.{Tile}
use Rattle.gas_terms.specs.Cells.{Cells, has, extent, is_size}
use Rattle.gas_plane.proofs.Places.{IsWholeTiles, wide, high, cell_below}
use Rattle.block_rule.specs.InPlace.{IsRowTurned, IsLeaving}
use Rattle.block_rule.specs.declared.blocks.Blocks.{Blocks}
use Rattle.block_rule.specs.declared.blocks.Beside.{Beside}
use Rattle.phase_step.specs.OddPhase.{seam_place, IsSeamPut, IsSeamEdge, IsRowThere, below_there, HasSeam, after_tiles, AreSeamsTurned, IsSeamRowTurned}
use Rattle.phase_step.specs.declared.odd_phase.RowPlace.{RowPlace}
use Rattle.phase_step.proofs.RowWindows.{next_cells, window, rule, across, some_columns, turned_there, seen_there, column_in, around_column, around_row, around_below, around_before, after_inside, after_last, inside_in, begin_is, around_after, edge, edge_below}

module _ (place : RowPlace) (column : ℕ) (solid old lattice : Cells) (is : IsRowThere place solid old lattice) (less : column < lattice.width / 64) (sized : is_size (extent old) ≡ true) (low : place.row < old.height / 64) (low_below : place.below < old.height / 64) (ready : HasSeam place lattice.width old lattice) where
  abbrev next : Cells
  next = next_cells place column solid old lattice is less

  abbrev made_of : ℕ → ℕ → Bool
  made_of = rule place column solid old lattice is less

  abbrev shown : ℕ → ℕ → Bool
  shown = window place column solid old lattice is less

  abbrev pub upper_edge : Bool
  upper_edge = edge place column solid old lattice is less 63

  abbrev pub lower_edge : Bool
  lower_edge = edge_below place column solid old lattice is less

  down : IsWholeTiles old.height
  down = high (extent old) sized

  bottom_in : place.row * 64 + 63 < old.height
  bottom_in = cell_below old.height place.row 63 down low (omega arith)

  top_in : place.below * 64 < old.height
  top_in = let t = down.tiles in let l = low_below in omega (arith, t, l)

  seen_bottom : (x : ℕ) → x < 64 → shown (x + 1) 64 ≡ has lattice (column * 64 + x) (place.there * 64 + 63)
  seen_bottom x h = seen_there place column solid old lattice is less x 63 _ _ (around_column place column solid old lattice is less x h) (around_row place column solid old lattice is less 63 (omega arith))

  seen_top : (x : ℕ) → x < 64 → shown (x + 1) 65 ≡ has lattice (column * 64 + x) (below_there place lattice * 64)
  seen_top x h = seen_there place column solid old lattice is less x 64 _ _ (around_column place column solid old lattice is less x h) (around_below place column solid old lattice is less)

  pub seen_right : shown 65 64 ≡ upper_edge
  seen_right = seen_there place column solid old lattice is less 64 63 _ _ (around_after place column solid old lattice is less) (around_row place column solid old lattice is less 63 (omega arith))

  pub seen_corner : shown 65 65 ≡ lower_edge
  seen_corner = seen_there place column solid old lattice is less 64 64 _ _ (around_after place column solid old lattice is less) (around_below place column solid old lattice is less)

  leaves_upper : made_of 64 63 ≡ has next (after_tiles next (column + 1)) (place.there * 64 + 63)
  leaves_upper = turned_there place column solid old lattice is less 64 63 _ _ (omega arith) (omega arith) (around_after place column solid old lattice is less) (around_row place column solid old lattice is less 63 (omega arith))

  leaves_lower : made_of 64 64 ≡ has next (after_tiles next (column + 1)) (below_there place next * 64)
  leaves_lower = turned_there place column solid old lattice is less 64 64 _ _ (omega arith) (omega arith) (around_after place column solid old lattice is less) (around_below place column solid old lattice is less)

  -- the first tile of a row and the one below it, as they are before
  module _ (first first_below : Tile) (are : (tile.has first 0 63 ≡ has old 0 (place.row * 64 + 63)) × (tile.has first_below 0 0 ≡ has old 0 (place.below * 64))) where
    round_edge : column + 1 ≡ lattice.width / 64 → (tile.has first 0 63 ≡ upper_edge) × (tile.has first_below 0 0 ≡ lower_edge)
    round_edge last =
        let e = sym (after_last place column solid old lattice is less last) in
        let s = some_columns place column solid old lattice is less in (
          are.0 ∙ (ready.bottom 0 s ∙ ap (λ c. has lattice c (place.there * 64 + 63)) e),
          are.1 ∙ (ready.top 0 s ∙ ap (λ c. has lattice c (below_there place lattice * 64)) e),
        )

    -- the last tile of a row, before any has turned
    module _ (last : column + 1 ≡ lattice.width / 64) where
      pub last_edge : IsSeamEdge (seam_place place.row place.below column) first first_below old upper_edge lower_edge
      last_edge = record { next = λ h. absurd (let l : column + 1 < lattice.width / 64 = subst (λ w. column + 1 < w / 64) is.wide h in omega (arith, l, last)); last = λ _. round_edge last }

      pub last_bottom : (x : ℕ) → x < 64 → shown (x + 1) 64 ≡ has old (column * 64 + x) (place.row * 64 + 63)
      last_bottom x h = seen_bottom x h ∙ sym (ready.bottom (column * 64 + x) (column_in place column solid old lattice is less x h))

      pub last_top : (x : ℕ) → x < 64 → shown (x + 1) 65 ≡ has old (column * 64 + x) (place.below * 64)
      last_top x h = seen_top x h ∙ sym (ready.top (column * 64 + x) (column_in place column solid old lattice is less x h))

      pub seam_row_begun : (coming : Beside) → IsLeaving coming (made_of 64) 31 → AreSeamsTurned place 0 next old old coming
      seam_row_begun coming leaves =
          let e = begin_is place column solid old lattice is less last in
          record {
            sides = record { wide = refl; high = refl };
            made = record { bottom = λ x h. absurd (omega (arith, h)); top = λ x h. absurd (omega (arith, h)) };
            rest = λ x y h k other. refl;
            upper = leaves.upper ∙ (leaves_upper ∙ ap (λ c. has next c (place.there * 64 + 63)) (sym e));
            lower = leaves.lower ∙ (leaves_lower ∙ ap (λ c. has next c (below_there place next * 64)) (sym e));
          }

    module _ (now : Cells) (coming : Beside) (so_far : AreSeamsTurned place column next old now coming) where
      same_width : now.width ≡ lattice.width
      same_width = so_far.sides.wide ∙ is.wide

      still_bottom : (x : ℕ) → column * 64 ≤ x → x < lattice.width → has now x (place.row * 64 + 63) ≡ has lattice x (place.there * 64 + 63)
      still_bottom x from h = so_far.rest x _ (subst (λ w. x < w) (sym is.wide) h) bottom_in (λ below. absurd (omega (arith, below, from))) ∙ ready.bottom x h

      still_top : (x : ℕ) → column * 64 ≤ x → x < lattice.width → has now x (place.below * 64) ≡ has lattice x (below_there place lattice * 64)
      still_top x from h = so_far.rest x _ (subst (λ w. x < w) (sym is.wide) h) top_in (λ below. absurd (omega (arith, below, from))) ∙ ready.top x h

      pub own_bottom : (x : ℕ) → x < 64 → shown (x + 1) 64 ≡ has now (column * 64 + x) (place.row * 64 + 63)
      own_bottom x h = seen_bottom x h ∙ sym (still_bottom (column * 64 + x) (omega arith) (column_in place column solid old lattice is less x h))

      pub own_top : (x : ℕ) → x < 64 → shown (x + 1) 65 ≡ has now (column * 64 + x) (place.below * 64)
      own_top x h = seen_top x h ∙ sym (still_top (column * 64 + x) (omega arith) (column_in place column solid old lattice is less x h))

      pub is_seam_edge : IsSeamEdge (seam_place place.row place.below column) first first_below now upper_edge lower_edge
      is_seam_edge =
          record {
            next = λ h.
                let inside : column + 1 < lattice.width / 64 = subst (λ w. column + 1 < w / 64) same_width h in
                let e = sym (after_inside place column solid old lattice is less inside) in
                let l = inside_in place column solid old lattice is less inside in (
                  still_bottom ((column + 1) * 64) (omega arith) l ∙ ap (λ c. has lattice c (place.there * 64 + 63)) e,
                  still_top ((column + 1) * 64) (omega arith) l ∙ ap (λ c. has lattice c (below_there place lattice * 64)) e,
                );
            last = λ h. round_edge (h ∙ ap (λ w. w / 64) same_width);
          }

      -- what comes from the tile to the left
      pub coming_in : IsLeaving coming (made_of 0) 31
      coming_in =
          record {
            upper = so_far.upper ∙ sym (turned_there place column solid old lattice is less 0 63 _ _ (omega arith) (omega arith) (around_before place column solid old lattice is less) (around_row place column solid old lattice is less 63 (omega arith)));
            lower = so_far.lower ∙ sym (turned_there place column solid old lattice is less 0 64 _ _ (omega arith) (omega arith) (around_before place column solid old lattice is less) (around_below place column solid old lattice is less));
          }

      -- one more has turned
      pub seam_next : (new : Cells) (words : Blocks) (leaving : Beside) → IsSeamPut place.row place.below column words now new → IsRowTurned words made_of 31 → IsLeaving leaving (made_of 64) 31 → AreSeamsTurned place (column + 1) next old new leaving
      seam_next new words leaving put words_turned leaves =
          let t = (across place column solid old lattice is less).tiles in
          let w = is.wide in
          let other : (x y : ℕ) → x < old.width → y < old.height → (x / 64 ≡ column → (y ≡ place.row * 64 + 63) ⊎ (y ≡ place.below * 64) → ⊥) → has new x y ≡ has now x y =
          λ x y h k. put.others x y (subst (λ w. x < w) (sym so_far.sides.wide) h) (subst (λ n. y < n) (sym so_far.sides.high) k) in
          record {
            sides = record { wide = put.sides.wide ∙ so_far.sides.wide; high = put.sides.high ∙ so_far.sides.high };
            made = record {
              bottom = λ x h.
                  elim (cases_eq (x / 64) column) [
                    | inl e ↦
                        let at : column * 64 + x % 64 ≡ x = omega (arith, e) in
                        subst (λ u. has new u (place.row * 64 + 63) ≡ has next u (place.there * 64 + 63)) at
                        (put.bottom made_of words_turned (x % 64) (omega arith) ∙ turned_there place column solid old lattice is less (x % 64) 63 _ _ (omega arith) (omega arith) (around_column place column solid old lattice is less (x % 64) (omega arith)) (around_row place column solid old lattice is less 63 (omega arith)))
                    | inr ne ↦ other x _ (omega (arith, h, less, t, w)) bottom_in (λ e. absurd (ne e)) ∙ so_far.made.bottom x (omega (arith, h, ne))
                  ];
              top = λ x h.
                  elim (cases_eq (x / 64) column) [
                    | inl e ↦
                        let at : column * 64 + x % 64 ≡ x = omega (arith, e) in
                        subst (λ u. has new u (place.below * 64) ≡ has next u (below_there place next * 64)) at
                        (put.top made_of words_turned (x % 64) (omega arith) ∙ turned_there place column solid old lattice is less (x % 64) 64 _ _ (omega arith) (omega arith) (around_column place column solid old lattice is less (x % 64) (omega arith)) (around_below place column solid old lattice is less))
                    | inr ne ↦ other x _ (omega (arith, h, less, t, w)) top_in (λ e. absurd (ne e)) ∙ so_far.made.top x (omega (arith, h, ne))
                  ];
            };
            rest = λ x y h k not_in.
                other x y h k (λ e. not_in (omega (arith, e)))
                ∙ so_far.rest x y h k (λ below. not_in (omega (arith, below)));
            upper = leaves.upper ∙ leaves_upper;
            lower = leaves.lower ∙ leaves_lower;
          }

-- when all have turned
pub seam_row_turned : (place : RowPlace) (column : ℕ) (next old now : Cells) (coming : Beside) → is_size (extent next) ≡ true → column ≡ next.width / 64 → AreSeamsTurned place column next old now coming → IsSeamRowTurned place next old now
seam_row_turned place column next old now coming sized all is =
    let end : column * 64 ≡ next.width = ap (λ n. n * 64) all ∙ (wide (extent next) sized).tiles in
    record {
      made = record { bottom = λ x h. is.made.bottom x (subst (λ n. x < n) (sym end) h); top = λ x h. is.made.top x (subst (λ n. x < n) (sym end) h) };
      rest = λ x y h k other. is.rest x y h k (λ _. other);
    }
