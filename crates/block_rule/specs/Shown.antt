use Rattle.std.specs.Prelude.{◌≡◌, ℕ, ◌/◌, ◌<◌, Bool, false}
use Rattle.bit_tile.specs.Bit.{bit}
use Rattle.block_rule.specs.Rows.{ShowsTile, ShowsAllRound}
use Rattle.block_rule.specs.declared.Window.{Window}

-- none of a tile's cells passes the test
abbrev pub HasNoCell : (ℕ → ℕ → Bool) → Type 0
HasNoCell test = (x y : ℕ) → x < 64 → y < 64 → test x y ≡ false

-- a word tells in which rows the cells lie that pass the test: bit j stands for rows 2 * j and 2 * j + 1
abbrev pub TellsRows : ℕ → (ℕ → ℕ → Bool) → Type 0
TellsRows rows test = (x y : ℕ) → x < 64 → y < 64 → bit rows (y / 2) ≡ false → test x y ≡ false

-- what is seen of a set in a tile and in those round it
pub record IsSeenIn (w : Window) (window : ℕ → ℕ → Bool) : Type 0 where
  pub tile : ShowsTile window w.tile.now
  pub round : ShowsAllRound window w.round
