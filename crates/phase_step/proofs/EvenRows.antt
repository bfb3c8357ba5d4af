-- A row of tiles, turned tile by tile at even parity.
use Rattle.std.proofs.Common.{◌≡◌, ℕ, ◌+◌, ◌*◌, ◌/◌, ◌%◌, ◌<◌, ◌≤◌, true, refl, sym, ap, ap₂, ◌∙◌, subst, arith, inl, inr}
use Rattle.std.proofs.lemmas.Nat.{mul-add-lt, mod-mul-add, div-mul-add}
use Rattle.std.proofs.lemmas.Bool.{cases_eq}
use Rattle.bit_tile.specs.Tile as tile
use Rattle.bit_tile.specs.declared.Tile.{Tile}
use Rattle.gas_terms.specs.Cells.{Cells, HasSidesOf, has, extent, is_size, tile_count, tile_rectangle}
use Rattle.gas_plane.specs.Planes.{IsTileFrom, with_tile}
use Rattle.gas_plane.proofs.Places.{wide, high, cell_below}
use Rattle.gas_terms.specs.Gas.{streamed}
use Rattle.gas_plane.specs.Turning.{AreTilesTurned}
use Rattle.gas_plane.specs.Turning.AreTilesTurned.{no_tile, one_more}
use Rattle.phase_step.specs.OddPhase.{TurnsEvenTile, IsRowThere, HasRow, AreEvensTurned, IsEvenRowTurned}
use Rattle.phase_step.specs.Solid.{all_of}
use Rattle.phase_step.specs.Turns.{IsTileAfter}
use Rattle.phase_step.specs.declared.parts.turning.EvenTurner.{EvenTurner}
use Rattle.phase_step.specs.declared.odd_phase.RowPlace.{RowPlace}
use Rattle.phase_step.proofs.RowTiles.{tile_here, tile_there, tile_from, at_rectangle}

-- the lattice's tile in this column
module _ (place : RowPlace) (column : ℕ) (solid cells lattice : Cells) (is : IsRowThere place solid cells lattice) (less : column < lattice.width / 64) where
  abbrev there : ℕ
  there = place.there * (lattice.width / 64) + column

  pub within_there : there < tile_count lattice
  within_there = mul-add-lt place.there (lattice.width / 64) column (lattice.height / 64) is.low less

  left_there : (tile_rectangle lattice there).x ≡ column * 64
  left_there = ap (λ n. n * 64) (mod-mul-add place.there (lattice.width / 64) column less)

  top_there : (tile_rectangle lattice there).y ≡ place.there * 64
  top_there = ap (λ n. n * 64) (div-mul-add place.there (lattice.width / 64) column less)

  module _ (old : Cells) (sized : is_size (extent old) ≡ true) (low : place.row < old.height / 64) (wide_is : old.width ≡ lattice.width) (next now : Cells) (i : ℕ) (place_is : i ≡ place.row * (now.width / 64) + column) (so_far : AreEvensTurned place column next old now) where
    sized_now : is_size (extent now) ≡ true
    sized_now = subst (λ h. is_size (record { width = now.width; height = h }) ≡ true) (sym so_far.sides.high) (subst (λ w. is_size (record { width = w; height = old.height }) ≡ true) (sym so_far.sides.wide) sized)

    low_now : place.row < now.height / 64
    low_now = subst (λ h. place.row < h / 64) (sym so_far.sides.high) low

    less_now : column < now.width / 64
    less_now = subst (λ w. column < w / 64) (sym (so_far.sides.wide ∙ wide_is)) less

    -- it has the lattice's cells
    pub even_before : (t : Tile) → HasRow place lattice.width old lattice → (let r = tile_rectangle now i in IsTileFrom t now r.x r.y) → (let r = tile_rectangle lattice there in IsTileFrom t lattice r.x r.y)
    even_before t ready from =
        record {
          cell = λ x y h k.
              let a = cell_below lattice.width column x (wide (extent lattice) is.sized) less h in
              let b = cell_below old.height place.row y (high (extent old) sized) low k in
              tile_from now place.row column i t sized_now low_now less_now place_is t from x y h k
              ∙ (so_far.rest (column * 64 + x) (place.row * 64 + y) (subst (λ w. column * 64 + x < w) (sym wide_is) a) b (λ l. absurd (omega (arith, l)))
              ∙ (ready (column * 64 + x) y a k ∙ sym (ap₂ (λ u v. has lattice (u + x) (v + y)) left_there top_there)));
        }

    -- one more tile has turned
    pub even_next : (t : Tile) → (let r = tile_rectangle lattice there in (x y : ℕ) → x < 64 → y < 64 → tile.has t x y ≡ has next (r.x + x) (r.y + y)) → AreEvensTurned place (column + 1) next old (with_tile now i t)
    even_next t made =
        let other : (x y : ℕ) → x < old.width → y < old.height → (x / 64 ≡ column → y / 64 ≡ place.row → ⊥) → has (with_tile now i t) x y ≡ has now x y =
        λ x y h k. tile_there now place.row column i t sized_now low_now less_now place_is x y (subst (λ w. x < w) (sym so_far.sides.wide) h) (subst (λ n. y < n) (sym so_far.sides.high) k) in
        record {
          sides = record { wide = so_far.sides.wide; high = so_far.sides.high };
          made = λ x y h k.
              let b = cell_below old.height place.row y (high (extent old) sized) low k in
              let w = (wide (extent lattice) is.sized).tiles in
              elim (cases_eq (x / 64) column) [
                | inl e ↦
                    let at : column * 64 + x % 64 ≡ x = omega (arith, e) in
                    subst (λ u. has (with_tile now i t) u (place.row * 64 + y) ≡ has next u (place.there * 64 + y)) at
                    (tile_here now place.row column i t sized_now low_now less_now place_is (x % 64) y (omega arith) k
                    ∙ (made (x % 64) y (omega arith) k ∙ ap₂ (λ u v. has next (u + x % 64) (v + y)) left_there top_there))
                | inr ne ↦ other x (place.row * 64 + y) (omega (arith, h, less, w, wide_is)) b (λ e _. ne e) ∙ so_far.made x y (omega (arith, h, ne)) k
              ];
          rest = λ x y h k not_in.
              other x y h k (λ e f. not_in (omega (arith, e)) f) ∙ so_far.rest x y h k (λ below f. not_in (omega (arith, below)) f);
        }

-- after so many tiles
module _ (place : RowPlace) (solid old lattice : Cells) (is : IsRowThere place solid old lattice) (sized : is_size (extent old) ≡ true) (low : place.row < old.height / 64) (ready : HasRow place lattice.width old lattice) (first : Tile) (turner : EvenTurner) (walls : all_of turner.known.solids.now ≡ solid) (at : turner.there ≡ place.there * (lattice.width / 64)) where
  pub evens_turned : (column : ℕ) (now : Cells) → AreTilesTurned (TurnsEvenTile turner) first place.row tt old column tt now → column ≤ lattice.width / 64 → AreEvensTurned place column (streamed 0 lattice solid) old now
  evens_turned _ _ no_tile h = record { sides = record { wide = refl; high = refl }; made = λ x y h. absurd (omega (arith, h)); rest = λ x y h k other. refl }
  evens_turned _ now (one_more {column} {mid} so_far turned) h =
      let was = evens_turned column mid so_far (omega (arith, h)) in
      let less : column < lattice.width / 64 = omega (arith, h) in
      let next = streamed 0 lattice solid in
      let there : ℕ = place.there * (lattice.width / 64) + column in
      let i : ℕ = place.row * (mid.width / 64) + column in
      let number : there ≡ turner.there + column = ap (λ n. n + column) (sym at) in
      let of_before =
      at_rectangle mid place.row column i turned.before (sized_now place column solid old lattice is less old sized low is.wide next mid i refl was) (low_now place column solid old lattice is less old sized low is.wide next mid i refl was)
      (less_now place column solid old lattice is less old sized low is.wide next mid i refl was) refl turned.before turned.of_before in
      let made =
      turned.related.cells lattice there number is.sized (within_there place column solid old lattice is less) (subst (λ s. HasSidesOf s lattice) (sym walls) is.of_solid)
      (even_before place column solid old lattice is less old sized low is.wide next mid i refl was turned.before ready of_before) in
      subst (AreEvensTurned place (column + 1) next old) (sym turned.replaced)
      (even_next place column solid old lattice is less old sized low is.wide next mid i refl was turned.made (subst (λ s. IsTileAfter 0 lattice s there turned.made) walls made))

-- when all tiles have turned
pub even_row : (place : RowPlace) (column : ℕ) (next old now : Cells) → is_size (extent next) ≡ true → column ≡ next.width / 64 → AreEvensTurned place column next old now → IsEvenRowTurned place next old now
even_row place column next old now sized all is =
    let end : column * 64 ≡ next.width = ap (λ n. n * 64) all ∙ (wide (extent next) sized).tiles in
    record {
      made = λ x y h. is.made x y (subst (λ n. x < n) (sym end) h);
      rest = λ x y h k other. is.rest x y h k (λ _. other);
    }
