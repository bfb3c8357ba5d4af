-- A tile of a row of tiles, and its window in the lattice before the phase.
use Rattle.std.proofs.Common.{◌≡◌, ℕ, ◌+◌, ◌-◌, ◌*◌, ◌/◌, ◌%◌, ◌<◌, ◌≤◌, ◌==◌, Bool, true, false, Option, refl, sym, ap, ap₂, ◌∙◌, subst, arith, inl, inr}
use Rattle.std.proofs.Math.Nat.{mod-eq_of_lt}
use Rattle.std.proofs.lemmas.Nat.{mul-add-lt, mod-mul-add, div-mul-add}
use Rattle.std.proofs.lemmas.Bool.{cases_eq, eq-eqb, ne_eqb}
use Rattle.gas_terms.specs.Cells.{Cells, Rectangle, has, extent, tile_rectangle}
use Rattle.gas_terms.specs.Gas.{streamed}
use Rattle.gas_plane.proofs.Places.{IsWholeTiles, wide, high, cell_below}
use Rattle.block_rule.specs.Around.{turned_window}
use Rattle.block_rule.specs.Windows.{IsAround}
use Rattle.block_rule.specs.InPlace.{IsLeaving, IsCarried}
use Rattle.block_rule.specs.TileBlocks.{AreGivenBlocks, walled_by}
use Rattle.block_rule.specs.declared.blocks.Beside.{Beside}
use Rattle.block_rule.specs.declared.in_place.Carry.{Carry}
use Rattle.block_rule.specs.declared.blocks_in_tile.SetBlocks.{SetBlocks}
use Rattle.block_rule.proofs.Beyond.{own_around, reach_set}
use Rattle.phase_step.specs.SolidBlocks.{is_walled_in, view_of}
use Rattle.phase_step.specs.Turns.{IsPlaceOf}
use Rattle.phase_step.specs.OddPhase.{IsRowThere, below_there, after_tiles}
use Rattle.phase_step.specs.declared.odd_phase.RowPlace.{RowPlace}
use Rattle.phase_step.proofs.Sides.{place_is}
use Rattle.phase_step.proofs.SolidBlocks.{given_in_view}

-- how many tiles a row has, and the last of them
pub record HasLast (across : ℕ) (lattice : Cells) : Type 0 where
  pub all : across ≡ lattice.width / 64
  pub last : across - 1 + 1 ≡ lattice.width / 64
  pub less : across - 1 < lattice.width / 64

pub has_last : (place : RowPlace) (solid cells lattice : Cells) (across : ℕ) → IsRowThere place solid cells lattice → across ≡ cells.width / 64 → 0 < cells.width / 64 → HasLast across lattice
has_last place solid cells lattice across is e some =
    let all : across ≡ lattice.width / 64 = e ∙ ap (λ w. w / 64) is.wide in
    record { all = all; last = omega (arith, all, e, some); less = omega (arith, all, e, some) }

leaving_alike : (carried : Beside) (f g : ℕ → Bool) (j : ℕ) → f (2 * j + 1) ≡ g (2 * j + 1) → f (2 * j + 2) ≡ g (2 * j + 2) → IsLeaving carried f j → IsLeaving carried g j
leaving_alike carried f g j e h is = record { upper = is.upper ∙ e; lower = is.lower ∙ h }

pub carried_alike : (c : Carry) (f g : ℕ → Bool) → ((y : ℕ) → 1 ≤ y → y < 63 → f y ≡ g y) → IsCarried c f → IsCarried c g
carried_alike c f g same is =
    record {
      first = λ j h. leaving_alike _ f g j (same (2 * j + 1) (omega arith) (omega (arith, h))) (same (2 * j + 2) (omega arith) (omega (arith, h))) (is.first j h);
      last = λ k h. leaving_alike _ f g (23 + k) (same (2 * (23 + k) + 1) (omega arith) (omega (arith, h))) (same (2 * (23 + k) + 2) (omega arith) (omega (arith, h))) (is.last k h);
    }

-- the row of tiles after one, round the torus
pub next_around : (n row : ℕ) → row < n → IsAround (n * 64) (row * 64 + 64) ((row + 1) % n * 64)
next_around n row low =
    elim (cases_eq (row + 1) n) [
      | inl e ↦
          let under : (row + 1) % n ≡ 0 = ap (λ m. m % n) (let z : row + 1 ≡ 1 * n + 0 = omega (arith, e) in z) ∙ mod-mul-add 1 n 0 (omega (arith, low)) in
          inr (let z : row * 64 + 64 ≡ n * 64 = omega (arith, e) in z, let z : (row + 1) % n * 64 ≡ 0 = omega (arith, under) in z)
      | inr ne ↦
          let under : (row + 1) % n ≡ row + 1 = mod-eq_of_lt (let l : row + 1 < n = omega (arith, ne, low) in l) in
          inl (let z : row * 64 + 64 < n * 64 = omega (arith, ne, low) in z, let z : (row + 1) % n * 64 ≡ row * 64 + 64 = omega (arith, under) in z)
    ]

module _ (place : RowPlace) (column : ℕ) (solid cells lattice : Cells) (is : IsRowThere place solid cells lattice) (less : column < lattice.width / 64) where
  abbrev pub next_cells : Cells
  next_cells = streamed 1 lattice solid

  abbrev pub number : ℕ
  number = place.there * (lattice.width / 64) + column

  abbrev pub rectangle : Rectangle
  rectangle = tile_rectangle lattice number

  abbrev pub window : ℕ → ℕ → Bool
  window = view_of lattice rectangle.x rectangle.y

  abbrev pub walls_there : ℕ → ℕ → Bool
  walls_there = view_of solid rectangle.x rectangle.y

  abbrev pub rule : ℕ → ℕ → Bool
  rule = turned_window 1 window walls_there

  pub across : IsWholeTiles lattice.width
  across = wide (extent lattice) is.sized

  down : IsWholeTiles lattice.height
  down = high (extent lattice) is.sized

  pub some_columns : 0 < lattice.width
  some_columns = let t = across.tiles in let s = across.some in omega (arith, t, s)

  some_rows : 0 < lattice.height
  some_rows = let t = down.tiles in let s = down.some in omega (arith, t, s)

  left : rectangle.x ≡ column * 64
  left = ap (λ n. n * 64) (mod-mul-add place.there (lattice.width / 64) column less)

  top : rectangle.y ≡ place.there * 64
  top = ap (λ n. n * 64) (div-mul-add place.there (lattice.width / 64) column less)

  place_of : IsPlaceOf lattice solid solid number
  place_of = place_is lattice solid solid number is.sized (mul-add-lt place.there (lattice.width / 64) column (lattice.height / 64) is.low less) is.of_solid is.of_solid

  -- what the rule makes of the window, and what the window shows
  pub turned_there : (x y c r : ℕ) → x ≤ 64 → y ≤ 64 → IsAround lattice.width (column * 64 + x) c → IsAround lattice.height (place.there * 64 + y) r → rule x y ≡ has next_cells c r
  turned_there x y c r h k around_x around_y =
      reach_set lattice solid rectangle.x rectangle.y window walls_there place_of (record { cell = λ _ _ _ _. refl }) (record { cell = λ _ _ _ _. refl }) x y c r h k
      (subst (λ n. IsAround lattice.width (n + x) c) (sym left) around_x) (subst (λ n. IsAround lattice.height (n + y) r) (sym top) around_y)

  pub seen_there : (x y c r : ℕ) → IsAround lattice.width (column * 64 + x) c → IsAround lattice.height (place.there * 64 + y) r → window (x + 1) (y + 1) ≡ has lattice c r
  seen_there x y c r around_x around_y =
      ap₂ (has lattice) (own_around lattice.width rectangle.x x c some_columns (subst (λ n. IsAround lattice.width (n + x) c) (sym left) around_x)) (own_around lattice.height rectangle.y y r some_rows (subst (λ n. IsAround lattice.height (n + y) r) (sym top) around_y))

  pub column_in : (x : ℕ) → x < 64 → column * 64 + x < lattice.width
  column_in x h = cell_below lattice.width column x across less h

  pub around_column : (x : ℕ) → x < 64 → IsAround lattice.width (column * 64 + x) (column * 64 + x)
  around_column x h = inl (column_in x h, refl)

  pub around_row : (y : ℕ) → y < 64 → IsAround lattice.height (place.there * 64 + y) (place.there * 64 + y)
  around_row y h = inl (cell_below lattice.height place.there y down is.low h, refl)

  pub around_below : IsAround lattice.height (place.there * 64 + 64) (below_there place lattice * 64)
  around_below = subst (λ h. IsAround h (place.there * 64 + 64) (below_there place lattice * 64)) down.tiles (next_around (lattice.height / 64) place.there is.low)

  before_is : after_tiles lattice column ≡ column * 64
  before_is = let e : (column == lattice.width / 64) ≡ false = ne_eqb column (lattice.width / 64) (λ e. omega (arith, less, e)) in rw e refl

  pub around_before : IsAround lattice.width (column * 64 + 0) (after_tiles lattice column)
  around_before = inl (column_in 0 (omega arith), before_is ∙ omega arith)

  pub after_inside : column + 1 < lattice.width / 64 → after_tiles lattice (column + 1) ≡ (column + 1) * 64
  after_inside h = let e : (column + 1 == lattice.width / 64) ≡ false = ne_eqb (column + 1) (lattice.width / 64) (λ e. omega (arith, h, e)) in rw e refl

  pub after_last : column + 1 ≡ lattice.width / 64 → after_tiles lattice (column + 1) ≡ 0
  after_last h = let e : (column + 1 == lattice.width / 64) ≡ true = eq-eqb (column + 1) (lattice.width / 64) h in rw e refl

  pub inside_in : column + 1 < lattice.width / 64 → (column + 1) * 64 < lattice.width
  inside_in h = let t = across.tiles in omega (arith, h, t)

  -- the first column is the one after the last
  pub begin_is : column + 1 ≡ lattice.width / 64 → after_tiles lattice 0 ≡ after_tiles lattice (column + 1)
  begin_is last = (let e : (0 == lattice.width / 64) ≡ false = ne_eqb 0 (lattice.width / 64) (λ e. omega (arith, e, less)) in rw e refl) ∙ sym (after_last last)

  pub around_after : IsAround lattice.width (column * 64 + 64) (after_tiles lattice (column + 1))
  around_after =
      let t = across.tiles in
      elim (cases_eq (column + 1) (lattice.width / 64)) [
        | inl e ↦ inr (let z : column * 64 + 64 ≡ lattice.width = omega (arith, e, t) in z, after_last e)
        | inr ne ↦ inl (let z : column * 64 + 64 < lattice.width = omega (arith, ne, less, t) in z, after_inside (omega (arith, ne, less)) ∙ omega arith)
      ]

  -- the column after the tile, as it was before the phase
  abbrev pub edge : ℕ → Bool
  edge y = has lattice (after_tiles lattice (column + 1)) (place.there * 64 + y)

  abbrev pub edge_below : Bool
  edge_below = has lattice (after_tiles lattice (column + 1)) (below_there place lattice * 64)

  -- the words that are given name its blocks
  pub given_there : (given : Option SetBlocks) → AreGivenBlocks given (is_walled_in solid number) → AreGivenBlocks given (walled_by walls_there)
  given_there given is_given = given_in_view lattice solid number given place_of is_given
