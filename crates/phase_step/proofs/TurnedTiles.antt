-- What a plane's tiles show of the torus.
use Rattle.std.proofs.Common.{◌≡◌, [], ℕ, ◌+◌, ◌%◌, ◌<◌, ◌≤◌, ◌-◌, arith}
use Rattle.std.proofs.lemmas.Nat.{mod-mul-add}
use Rattle.std.proofs.Math.Nat.{mod-lt}
use Rattle.bit_tile.specs.declared.Tile.{Tile}
use Rattle.tile_border.specs.declared.border.Border.{Border}
use Rattle.gas_terms.specs.Cells.{Cells, HasSidesOf, tile_rectangle}
use Rattle.gas_plane.specs.Planes.{IsTileFrom, IsRingRound, IsBareRound, HasNone}
use Rattle.block_rule.specs.Around.{around, none}
use Rattle.tile_border.specs.Ring.{IsBorderOfRound, near_tiles}
use Rattle.block_rule.specs.Windows.{IsView, IsWindow}
use Rattle.block_rule.specs.Shown.{IsSeenIn}
use Rattle.block_rule.specs.declared.Window.{Window}
use Rattle.tile_border.specs.declared.Round.{Round}
use Rattle.tile_border.proofs.Making.{border_of_tiles}
use Rattle.block_rule.proofs.Borders.{shows_tile, shows_round}
use Rattle.block_rule.proofs.Torus.{window_is_view}
use Rattle.phase_step.specs.Turns.{IsWindowFrom}
use Rattle.phase_step.proofs.Rings.{window_is}

-- a tile of a set of the same torus as another's
pub bare_view : (p i : ℕ) (cells others : Cells) → p < 2 → cells.width ≡ others.width → IsBareRound cells (tile_rectangle cells i).x (tile_rectangle cells i).y → IsView p none cells (tile_rectangle others i).x (tile_rectangle others i).y
bare_view p i cells others small wide bare = grind (arith)

inside : (n x i : ℕ) → x + 64 ≤ n → 1 ≤ i + 0 → i ≤ 64 + 0 → (x + i + n - 1) % n ≡ x + (i - 1)
inside n x i fits low high = grind (arith, mod-mul-add)

pub tile_window : (i : ℕ) (cells others : Cells) (t : Tile) (b : Border) → cells.width ≡ others.width → cells.height ≡ others.height → (tile_rectangle others i).x + 64 ≤ others.width → (tile_rectangle others i).y + 64 ≤ others.height
    → IsTileFrom t cells (tile_rectangle cells i).x (tile_rectangle cells i).y → IsRingRound b cells (tile_rectangle cells i).x (tile_rectangle cells i).y → IsWindow (around t b) cells (tile_rectangle others i).x (tile_rectangle others i).y
tile_window i cells others t b wide high right bottom from round = grind (arith, window_is, tile_rectangle)

-- at even parity any border will do
pub any_border : Border
any_border = record { above = 0; below = 0; sides = [] }

-- the border of the tiles that stand round a tile
abbrev pub border_near : (r : Round) → (b : Border) × IsBorderOfRound b r
border_near r = border_of_tiles (near_tiles r)

-- a window of a set, and its view of the torus
pub window_view : (i : ℕ) (cells others : Cells) (w : Window) → cells.width ≡ others.width → cells.height ≡ others.height → (tile_rectangle others i).x + 64 ≤ others.width → (tile_rectangle others i).y + 64 ≤ others.height
    → IsWindowFrom w cells (tile_rectangle cells i).x (tile_rectangle cells i).y → IsView 1 (around w.tile.now (border_near w.round).0) cells (tile_rectangle others i).x (tile_rectangle others i).y
window_view i cells others w wide high right bottom from = grind (arith, window_is_view, around, tile_rectangle, tile_window)

pub window_seen : (w : Window) → IsSeenIn w (around w.tile.now (border_near w.round).0)
window_seen w =
    let t = w.tile.now in
    let near = border_near w.round in
    record { tile = shows_tile t near.0; round = shows_round t near.0 (near_tiles w.round) near.1 }

pub bare_window : (i : ℕ) (cells others : Cells) → HasSidesOf cells others → (tile_rectangle others i).x + 64 ≤ others.width → (tile_rectangle others i).y + 64 ≤ others.height
    → HasNone cells → IsBareRound cells (tile_rectangle cells i).x (tile_rectangle cells i).y
bare_window i cells others of right bottom none = grind (arith, none, mod-lt)
