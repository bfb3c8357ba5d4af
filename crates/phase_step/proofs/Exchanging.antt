-- What rectangles leave of a tile.
use Rattle.std.proofs.Common.{◌≡◌, ℕ, ◌+◌, ◌/◌, ◌<◌, ◌==◌, ◌&&◌, ◌||◌, not, Bool, true, false, List, [], ◌∷◌, length, if◌then◌else◌, refl, sym, ◌∙◌, ap, ap₂, arith}
use Rattle.std.proofs.lemmas.Bool.Decides.{nat_tests}
use Rattle.bit_tile.specs.Tile as tile
use Rattle.bit_tile.specs.Tile.{HasCells}
use Rattle.bit_tile.specs.declared.Tile.{Tile}
use Rattle.gas_terms.specs.Cells.{Rectangle}
use Rattle.phase_step.specs.Actions.{IsStill, IsTileCorner}
use Rattle.phase_step.specs.Counts.{AreTileCounts}
use Rattle.phase_step.specs.Exchanges.{Areas, HasTilesOf, is_in_any, is_left, is_set, leaves_of, nowhere}
use Rattle.phase_step.proofs.TileChanges.{counts_as}

as_before : (held : Bool) → ((held && true) || false) ≡ held
as_before true = refl
as_before false = refl

pub stays : (held out come : Bool) → out ≡ false → come ≡ false → ((held && not out) || come) ≡ held
stays held out come e f = rw (e, f) (as_before held)

-- and without rectangles every cell stays
in_none : (areas : List Rectangle) (x y : ℕ) → (length areas == 0) ≡ true → is_in_any areas x y ≡ false
in_none [] x y e = refl
in_none (r ∷ areas) x y e = absurd (grind (arith, nat_tests))

pub no_areas_still : (drains sources : List Rectangle) → (length drains == 0) ≡ true → (length sources == 0) ≡ true → IsStill (λ x y held. is_left held drains sources x y)
no_areas_still drains sources e f x y held = stays held (is_in_any drains x y) (is_in_any sources x y) (in_none drains x y e) (in_none sources x y f)

pub nowhere_is_still : (e : Areas) → e ≡ nowhere → IsStill (leaves_of e)
nowhere_is_still e is x y held = ap (λ (e : Areas). leaves_of e x y held) is ∙ no_areas_still [] [] refl refl x y held

-- a cell that drains empty unless sources have it, and that sources fill then
left_is : (was out come : Bool) → (if come && not false then true else if out && not come then false else was) ≡ ((was && not out) || come)
left_is was out come = grind arith

lost_is : (was out come : Bool) → ((out && not come) && was) ≡ (was && not ((was && not out) || come))
lost_is was out come = grind arith

gained_is : (was out come : Bool) → ((come && not false) && not (if out && not come then false else was)) ≡ (((was && not out) || come) && not was)
gained_is was out come = grind arith

module _ (old mid new : Tile) (drains sources : List Rectangle) (left top : ℕ)
    (emptied : HasCells mid (λ x y. if is_set drains sources (left + x) (top + y) then false else tile.has old x y))
    (filled : HasCells new (λ x y. if is_set sources [] (left + x) (top + y) then true else tile.has mid x y)) where
  pub tile_left : HasCells new (λ x y. is_left (tile.has old x y) drains sources (left + x) (top + y))
  tile_left x y h k = grind (arith, is_in_any, not, false, true, left_is)

  pub tile_lost : (counts : List ℕ) → AreTileCounts counts (λ x y. is_set drains sources (left + x) (top + y) && tile.has old x y) → AreTileCounts counts (λ x y. tile.has old x y && not (tile.has new x y))
  tile_lost counts are = grind (arith, counts_as, lost_is, is_in_any, not, tile_left)

  pub tile_gained : (counts : List ℕ) → AreTileCounts counts (λ x y. is_set sources [] (left + x) (top + y) && not (tile.has mid x y)) → AreTileCounts counts (λ x y. tile.has new x y && not (tile.has old x y))
  tile_gained counts are = grind (arith, counts_as, is_in_any, not, false, gained_is, tile_left)

-- a tile that no rectangle meets stays as it is
met_by : (b seen : Bool) → (b ≡ true → seen ≡ true) → seen ≡ false → b ≡ false
met_by b seen more none = grind arith

pub unmet : (met : Tile) (areas : List Rectangle) (left top x y : ℕ) → HasTilesOf met areas → IsTileCorner left top → x < 64 → y < 64 → tile.has met (left / 64) (top / 64) ≡ false → is_in_any areas (left + x) (top + y) ≡ false
unmet met areas left top x y tiles corner h k none =
    let column : (left + x) / 64 ≡ left / 64 = omega (arith, corner.column, h) in
    let row : (top + y) / 64 ≡ top / 64 = omega (arith, corner.row, k) in
    met_by (is_in_any areas (left + x) (top + y)) (tile.has met (left / 64) (top / 64))
    (λ e. ap₂ (tile.has met) (sym column) (sym row) ∙ tiles (left + x) (top + y) (omega (arith, corner.column, corner.right, h)) (omega (arith, corner.row, corner.bottom, k)) e) none
