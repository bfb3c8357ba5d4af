-- Rectangles whose cells are emptied, and others whose cells are then filled.
use Rattle.std.specs.Prelude.{◌≡◌, ℕ, ◌+◌, ◌*◌, ◌/◌, ◌<◌, nat_le, nat_lt, Bool, true, not, ◌&&◌, ◌||◌, List, [], get_or}
use Rattle.std.specs.List.{list_any}
use Rattle.bit_tile.specs.Tile as tile
use Rattle.bit_tile.specs.declared.Tile.{Tile}
use Rattle.gas_terms.specs.Cells.{Rectangle, most_side, is_inside}
use Rattle.phase_step.specs.Actions.{Leaves}

-- the rectangles of drains, and of sources that are due
pub record Areas : Type 0 where
  pub drains : List Rectangle
  pub sources : List Rectangle

-- whether k is among the `len` numbers from `start` on
abbrev pub is_among : ℕ → ℕ → ℕ → Bool
is_among start len k = nat_le start k && nat_lt k (start + len)

-- one of the rectangles has the cell
abbrev pub is_in_any : List Rectangle → ℕ → ℕ → Bool
is_in_any areas x y = list_any (λ r. is_inside r x y) areas

-- rectangles have the cell, and those that are kept don't
abbrev pub is_set : List Rectangle → List Rectangle → ℕ → ℕ → Bool
is_set areas kept x y = is_in_any areas x y && not (is_in_any kept x y)

-- whether the cell (x, y) is held when the drains have emptied their cells, and then the sources have filled theirs
abbrev pub is_left : Bool → List Rectangle → List Rectangle → ℕ → ℕ → Bool
is_left was drains sources x y = (was && not (is_in_any drains x y)) || is_in_any sources x y

-- what they leave of each cell
abbrev pub leaves_of : Areas → Leaves
leaves_of areas x y held = is_left held areas.drains areas.sources x y

-- no rectangle
abbrev pub nowhere : Areas
nowhere = record { drains = []; sources = [] }

-- what a list of them leaves after each phase: after phase k the one in place k of it, and none after its end
abbrev pub listed : List Areas → ℕ → Leaves
listed exchanges k = leaves_of (get_or exchanges k nowhere)

-- whether any of the `len` numbers from `start` on, at least one, is among the 64 from 64 * k on
abbrev pub is_met : ℕ → ℕ → ℕ → Bool
is_met start len k = nat_lt start (64 * (k + 1)) && nat_lt (64 * k) (start + len)

-- whether the rectangle has a cell in the tile in this column and row of tiles
abbrev pub meets_tile : Rectangle → ℕ → ℕ → Bool
meets_tile r column row = is_met r.x r.w column && is_met r.y r.h row

-- The set has each tile in which a rectangle has a cell: a cell of the set stands for one of the first 64 by 64 tiles.
abbrev pub HasTilesOf : Tile → List Rectangle → Type 0
HasTilesOf tiles areas = (x y : ℕ) → x < most_side → y < most_side → is_in_any areas x y ≡ true → tile.has tiles (x / 64) (y / 64) ≡ true

-- one set has all that the other has
abbrev pub HasAllOf : Tile → Tile → Type 0
HasAllOf some more = (x y : ℕ) → x < 64 → y < 64 → tile.has some x y ≡ true → tile.has more x y ≡ true
