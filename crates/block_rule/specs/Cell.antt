use Rattle.std.specs.Prelude.{ℕ, ◌+◌, Bool, true, false, not, ◌&&◌, if◌then◌else◌}
use Rattle.gas_terms.specs.Velocity.{has_parity}

-- the other column, in that numbering, of the block of parity p that column x belongs to
abbrev pub partner : ℕ → ℕ → ℕ
partner p x = if has_parity p x then x + 2 else x

-- whether two truth values differ
abbrev pub differ : Bool → Bool → Bool
differ true b = not b
differ false b = b

-- a cell after the rule, from its old value and those of its block's other cells: the one in its row, the one in its
-- column, and the one across
abbrev pub turned_cell : Bool → Bool → Bool → Bool → Bool → Bool
turned_cell walled own beside facing across =
    if walled then own else (if differ own beside && differ own facing && not (differ own across) then not across else across)

-- what a rule makes of the cell (x, y), from its value and those of its block's other cells in a window: the one beside it,
-- the one that faces it, and the one across
abbrev pub made : (Bool → Bool → Bool → Bool → Bool) → ℕ → (ℕ → ℕ → Bool) → ℕ → ℕ → Bool
made cell p window x y =
    cell (window (x + 1) (y + 1)) (window (partner p x) (y + 1)) (window (x + 1) (partner p y)) (window (partner p x) (partner p y))

-- the cell (x, y) after the rule, from the cells round it
abbrev pub turned_at : ℕ → (ℕ → ℕ → Bool) → Bool → ℕ → ℕ → Bool
turned_at p cells walled x y = made (turned_cell walled) p cells x y

-- a rule, but for cells that keep their value
abbrev pub unless : Bool → (Bool → Bool → Bool → Bool → Bool) → Bool → Bool → Bool → Bool → Bool
unless kept cell own beside facing across = if kept then own else cell own beside facing across
