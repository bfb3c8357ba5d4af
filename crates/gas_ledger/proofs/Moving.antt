-- From counts to what a change of the particles brings in and takes out.
use Rattle.std.proofs.Common.{◌≡◌, ℕ, ◌<◌, Bool, true, false, ◌&&◌, ◌||◌, not, cond, List, [], ◌∷◌, map, filter, refl, sym, ap, ap₂, ◌∙◌, arith, ℤ}
use Rattle.std.specs.List.{list_any}
use Rattle.gas_terms.specs.Cells.{Cells, Rectangle, has, is_inside, extent, lies_within, without, filled, cleared, HasEvenSides}
use Rattle.gas_terms.specs.Rows.{row_replaced}
use Rattle.gas_terms.specs.Gas.{Source, is_due}
use Rattle.gas_terms.specs.Accounts.{total_in, gained, lost, nothing, minus, moved_by}
use Rattle.gas_terms.proofs.AccountBounds.{size-even, size-width}
use Rattle.gas_plane.specs.Planes.{IsLattice}
use Rattle.gas_terms.specs.declared.accounts.Sums.{Sums}
use Rattle.phase_step.specs.declared.sums.cell_counts.CellCounts.{CellCounts}
use Rattle.gas_terms.specs.declared.accounts.Moved.{Moved}
use Rattle.gas_ledger.specs.PortLists.{PortLists, due_areas, left_by, ported_by}
use Rattle.gas_plane.specs.Counts.{AreCounts}
use Rattle.phase_step.specs.Counts.{moved_by_counts}
use Rattle.phase_step.specs.Actions.{acted}
use Rattle.phase_step.proofs.ActionRuns.{acted_same}
use Rattle.phase_step.specs.Exchanges.{is_in_any, is_left}
use Rattle.gas_ledger.specs.Gases.{row_of}
use Rattle.gas_plane.proofs.Counting.{counted_sums, counts_small}
use Rattle.phase_step.proofs.FlowSums.{same_moved}
use Rattle.gas_terms.proofs.RowSums.{row_alone, other_row}
use Rattle.gas_terms.proofs.Emptied.{not_both, gained-filled, lost-filled, gained-cleared, lost-cleared}
use Rattle.gas_terms.specs.Counts.{AreSmall}

-- a source that is due fills its rectangle
pub due_first : (due : Bool) (s : Source) (rest : List Source) (x y : ℕ) → is_in_any (map (λ (s : Source). s.area) (cond due (s ∷ rest) rest)) x y ≡ ((due && is_inside s.area x y) || is_in_any (map (λ (s : Source). s.area) rest) x y)
due_first true s rest x y = refl
due_first false s rest x y = refl

due_cells : (tick : ℤ) (sources : List Source) (x y : ℕ) → is_in_any (due_areas tick sources) x y ≡ list_any (λ s. is_due tick s && is_inside s.area x y) sources
due_cells tick [] x y = refl
due_cells tick (s ∷ sources) x y =
    due_first (is_due tick s) s (filter (is_due tick) sources) x y
    ∙ ap (λ b. (is_due tick s && is_inside s.area x y) || b) (due_cells tick sources x y)

-- the exchange of a tick leaves what the ports leave
pub exchange_leaves : (ports : PortLists) (tick : ℤ) (x y : ℕ) (held : Bool) → is_left held ports.drains (due_areas tick ports.sources) x y ≡ left_by ports tick x y held
exchange_leaves ports tick x y held = ap (λ b. (held && not (is_in_any ports.drains x y)) || b) (due_cells tick ports.sources x y)

-- The sources that are due fill their rectangles.
pub ported_is : (ports : PortLists) (tick : ℤ) (cells : Cells) → acted (λ x y held. is_left held ports.drains (due_areas tick ports.sources) x y) cells ≡ ported_by ports tick cells
ported_is ports tick cells =
    acted_same (λ x y held. is_left held ports.drains (due_areas tick ports.sources) x y) (left_by ports tick) cells (exchange_leaves ports tick)

-- Counts over a row.
pub moved_by_row : (tick : ℤ) (cells : Cells) (y : ℕ) (bytes : List ℕ) (change : CellCounts) → IsLattice cells → y < cells.height
    → AreCounts change.gained (without (row_replaced cells y bytes) cells) (row_of cells y) → AreCounts change.lost (without cells (row_replaced cells y bytes)) (row_of cells y)
    → moved_by_counts tick change ≡ moved_by tick cells (row_replaced cells y bytes)
moved_by_row tick cells y bytes change is below came went =
    same_moved (moved_by_counts tick change) (moved_by tick cells (row_replaced cells y bytes))
    (counted_sums tick change.gained (without (row_replaced cells y bytes) cells) (row_of cells y) came
    ∙ row_alone tick cells.width cells.height y (λ i j. has (row_replaced cells y bytes) i j && not (has cells i j)) is.sized below
    (λ i j p q ne. ap (λ b. b && not (has cells i j)) (other_row cells y bytes i j p q ne) ∙ not_both (has cells i j)))
    (counted_sums tick change.lost (without cells (row_replaced cells y bytes)) (row_of cells y) went
    ∙ row_alone tick cells.width cells.height y (λ i j. has cells i j && not (has (row_replaced cells y bytes) i j)) is.sized below
    (λ i j p q ne. ap (λ b. has cells i j && not b) (other_row cells y bytes i j p q ne) ∙ not_both (has cells i j)))

pub row_counts_small : (counts : List ℕ) (cells old : Cells) (y : ℕ) → IsLattice old → AreCounts counts cells (row_of old y) → AreSmall counts
row_counts_small counts cells old y is are = counts_small counts cells (row_of old y) are (size-width (extent old) is.sized) (omega arith)

-- Counts in the rectangle that is filled or cleared.
pub moved_by_fill : (tick : ℤ) (cells new : Cells) (r : Rectangle) (before after came : Sums) → IsLattice cells → lies_within (extent cells) r ≡ true → new ≡ filled cells r
    → before ≡ total_in tick cells r → after ≡ total_in tick new r → came ≡ minus after before → (let m : Moved = record { injected = came; drained = nothing } in m) ≡ moved_by tick cells new
moved_by_fill tick cells new r before after came is fits e f g h =
    let even : HasEvenSides cells.width cells.height = size-even (extent cells) is.sized in
    same_moved (record { injected = came; drained = nothing }) (moved_by tick cells new)
    (h ∙ (ap₂ minus (g ∙ ap (λ (new : Cells). total_in tick new r) e) f ∙ (sym (gained-filled tick cells r even fits) ∙ ap (gained tick cells) (sym e))))
    (sym (ap (lost tick cells) e ∙ lost-filled tick cells r even))

pub moved_by_clear : (tick : ℤ) (cells new : Cells) (r : Rectangle) (before : Sums) → IsLattice cells → lies_within (extent cells) r ≡ true → new ≡ cleared cells r
    → before ≡ total_in tick cells r → (let m : Moved = record { injected = nothing; drained = before } in m) ≡ moved_by tick cells new
moved_by_clear tick cells new r before is fits e f =
    let even : HasEvenSides cells.width cells.height = size-even (extent cells) is.sized in
    same_moved (record { injected = nothing; drained = before }) (moved_by tick cells new)
    (sym (ap (gained tick cells) e ∙ gained-cleared tick cells r even))
    (f ∙ (sym (lost-cleared tick cells r even fits) ∙ ap (lost tick cells) (sym e)))
