-- The tiles in which ports have cells.
use Rattle.std.proofs.Common.{◌≡◌, ℕ, Bool, true, ◌&&◌, ◌||◌, List, [], ◌∷◌, map, filter, sym, ◌∙◌, arith, ℤ}
use Rattle.bit_tile.specs.declared.Tile.{Tile}
use Rattle.gas_terms.specs.Cells.{Rectangle, is_inside}
use Rattle.gas_terms.specs.Gas.{Source, is_due}
use Rattle.phase_step.specs.Exchanges.{is_in_any, HasTilesOf}
use Rattle.gas_ledger.specs.PortLists.{due_areas}
use Rattle.gas_ledger.proofs.Moving.{due_first}

abbrev area_of : Source → Rectangle
area_of s = s.area

any_more : (due inside rest all : Bool) → (rest ≡ true → all ≡ true) → ((due && inside) || rest) ≡ true → (inside || all) ≡ true
any_more due inside rest all more e = grind arith

-- a source that is due is one of all
due_among : (tick : ℤ) (sources : List Source) (x y : ℕ) → is_in_any (due_areas tick sources) x y ≡ true → is_in_any (map area_of sources) x y ≡ true
due_among tick [] x y e = e
due_among tick (s ∷ sources) x y e =
    any_more (is_due tick s) (is_inside s.area x y) (is_in_any (due_areas tick sources) x y) (is_in_any (map area_of sources) x y) (due_among tick sources x y)
    (sym (due_first (is_due tick s) s (filter (is_due tick) sources) x y) ∙ e)

pub due_met : (met : Tile) (tick : ℤ) (sources : List Source) → HasTilesOf met (map area_of sources) → HasTilesOf met (due_areas tick sources)
due_met met tick sources tiles x y h k e = tiles x y h k (due_among tick sources x y e)
