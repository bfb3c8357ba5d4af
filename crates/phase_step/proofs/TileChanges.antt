-- What comes and goes in one tile.
use Rattle.std.proofs.Common.{◌≡◌, ℕ, ◌+◌, ◌-◌, ◌*◌, ◌/◌, ◌%◌, ◌<◌, ◌≤◌, ◌==◌, ◌&&◌, not, Bool, false, cond, get_or, List, [], ◌∷◌, refl, sym, ◌∙◌, ap, ap₂, arith, ℤ}
use Rattle.bit_tile.specs.Tile as tile
use Rattle.bit_tile.specs.Tile.{HasCells, count_cells}
use Rattle.bit_tile.specs.declared.Tile.{Tile}
use Rattle.bit_tile.proofs.Bits.{get_or-replicate_zero}
use Rattle.bit_tile.proofs.Counts.{cells_counted-none, class_same, whole_class}
use Rattle.gas_terms.specs.Cells.{Cells, Rectangle, has, without, tile_count}
use Rattle.gas_terms.specs.Accounts.{total_in, parity_count}
use Rattle.gas_terms.specs.Accounts as accounts
use Rattle.gas_terms.proofs.Cells.{has-cells_where}
use Rattle.gas_terms.proofs.FiniteSums.{cell_sum, cell_sum-cong}
use Rattle.gas_terms.proofs.RectangleTotals.{parity_count_is}
use Rattle.gas_terms.proofs.Emptied.{total_in-none, not_both}
use Rattle.gas_plane.specs.Planes.{IsLattice}
use Rattle.gas_plane.proofs.Sweeps.{left_of, top_of}
use Rattle.gas_plane.proofs.PlaneCounts.{tile_sum, same_parity}
use Rattle.phase_step.specs.Actions.{Leaves, acted, unmoved}
use Rattle.gas_plane.specs.Counts.{AreCounts}
use Rattle.phase_step.specs.Counts.{AreTileCounts, moved_by_counts}
use Rattle.phase_step.specs.declared.sums.cell_counts.CellCounts.{CellCounts}
use Rattle.gas_terms.specs.declared.accounts.Moved.{Moved}
use Rattle.gas_plane.proofs.Counting.{counted_sums}
use Rattle.phase_step.proofs.FlowSums.{same_moved}
use Rattle.phase_step.proofs.ActedTiles.{acting, Stays, cell_within}

-- tests that agree count alike
pub counts_as : (counts : List ℕ) (f g : ℕ → ℕ → Bool) → AreTileCounts counts f → ((x y : ℕ) → x < 64 → y < 64 → f x y ≡ g x y) → AreTileCounts counts g
counts_as counts f g are same = record { count = λ a b p q. are.count a b p q ∙ class_same f g a b same; few = are.few }

-- the counts of a tile's cells, as wider numbers
pub widened_counts : (counts wide : List ℕ) (t : Tile) → ((i j : ℕ) → i < 2 → j < 2 → get_or counts (2 * j + i) 0 ≡ count_cells (λ x y. tile.has t x y && x % 2 == i && y % 2 == j)) → ((k : ℕ) → get_or counts k 0 ≤ 2048) → ((k : ℕ) → get_or wide k 0 ≡ get_or counts k 0) → AreTileCounts wide (tile.has t)
widened_counts counts wide t are few same = record { count = λ a b p q. same (2 * b + a) ∙ are a b p q; few = λ k _. omega (arith, same k, few k) }

-- the counts of those that are not there
pub lacking_counts : (counts lacking : List ℕ) (t : Tile) → ((i j : ℕ) → i < 2 → j < 2 → get_or counts (2 * j + i) 0 ≡ count_cells (λ x y. tile.has t x y && x % 2 == i && y % 2 == j)) → ((k : ℕ) → k < 4 → get_or lacking k 0 ≡ 1024 - get_or counts k 0) → AreTileCounts lacking (λ x y. not (tile.has t x y))
lacking_counts counts lacking t are same = record { count = λ a b p q. omega (arith, same (2 * b + a) (omega arith), are a b p q, whole_class (tile.has t) a b p q); few = λ k h. omega (arith, same k h) }

-- no cell passes
pub no_counts : (test : ℕ → ℕ → Bool) → ((x y : ℕ) → x < 64 → y < 64 → test x y ≡ false) → AreTileCounts (0 ∷ 0 ∷ 0 ∷ 0 ∷ []) test
no_counts test none =
    record {
      count = λ a b p q. get_or-replicate_zero 4 (2 * b + a) ∙ sym (class_same test (λ _ _. false) a b none ∙ cells_counted-none);
      few = λ k h. omega (arith, get_or-replicate_zero 4 k);
    }

-- the rectangle is that of tile i of a lattice of this width
pub record IsSquareOf (width i : ℕ) (r : Rectangle) : Type 0 where
  pub left : r.x ≡ i % (width / 64) * 64
  pub top : r.y ≡ i / (width / 64) * 64
  pub wide : r.w ≡ 64
  pub high : r.h ≡ 64

-- what is counted in a tile is what is counted in its rectangle of a set that has the same there
pub tile_count_is : (cells : Cells) (a b i : ℕ) (test : ℕ → ℕ → Bool) (r : Rectangle) → IsSquareOf cells.width i r → ((x y : ℕ) → x < 64 → y < 64 → test x y ≡ has cells (left_of cells i + x) (top_of cells i + y))
    → count_cells (λ x y. test x y && x % 2 == a && y % 2 == b) ≡ parity_count cells r a b
tile_count_is cells a b i test r is same =
    let held : ℕ → ℕ → ℕ = λ x y. cond (has cells (r.x + x) (r.y + y) && (r.x + x) % 2 == a && (r.y + y) % 2 == b) 1 0 in
    tile_sum (λ x y. test x y && x % 2 == a && y % 2 == b)
    ∙ (cell_sum-cong 64 64 (λ x y. cond (test x y && x % 2 == a && y % 2 == b) 1 0) held
    (λ x y p q.
    ap (λ v. cond v 1 0)
    (ap₂ (λ u v. u && v) (ap₂ (λ u v. u && v) (same x y p q) (same_parity (i % (cells.width / 64)) x a)) (same_parity (i / (cells.width / 64)) y b))
    ∙ ap₂ (λ m n. cond (has cells (m + x) (n + y) && (m + x) % 2 == a && (n + y) % 2 == b) 1 0) (sym is.left) (sym is.top))
    ∙ (ap₂ (λ w h. cell_sum w h held) (sym is.wide) (sym is.high)
    ∙ sym (parity_count_is cells r a b)))

pub counts_are : (cells : Cells) (i : ℕ) (counts : List ℕ) (test : ℕ → ℕ → Bool) (r : Rectangle) → IsSquareOf cells.width i r → AreTileCounts counts test
    → ((x y : ℕ) → x < 64 → y < 64 → test x y ≡ has cells (left_of cells i + x) (top_of cells i + y)) → AreCounts counts cells r
counts_are cells i counts test r is are same = record { count = λ a b p q. are.count a b p q ∙ tile_count_is cells a b i test r is same }

-- a change of one tile moves what is new and what is gone in its rectangle
pub tile_moved : (tick : ℤ) (leaves : Leaves) (cells : Cells) (i : ℕ) (change : CellCounts) (old new : Tile) (r : Rectangle) → IsLattice cells → i < tile_count cells → IsSquareOf cells.width i r
    → AreTileCounts change.gained (λ x y. tile.has new x y && not (tile.has old x y)) → AreTileCounts change.lost (λ x y. tile.has old x y && not (tile.has new x y))
    → ((x y : ℕ) → x < 64 → y < 64 → tile.has old x y ≡ has cells (left_of cells i + x) (top_of cells i + y))
    → ((x y : ℕ) → x < 64 → y < 64 → tile.has new x y ≡ acting leaves cells (left_of cells i + x) (top_of cells i + y))
    → moved_by_counts tick change ≡ (let m : Moved = record { injected = total_in tick (without (acted leaves cells) cells) r; drained = total_in tick (without cells (acted leaves cells)) r } in m)
tile_moved tick leaves cells i change old new r is within square gained lost was becomes =
    let next : Cells = acted leaves cells in
    let there : (x y : ℕ) → x < 64 → y < 64 → tile.has new x y ≡ has next (left_of cells i + x) (top_of cells i + y) = λ x y p q.
    let place = cell_within cells i x y is within p q in
    becomes x y p q ∙ sym (has-cells_where cells.width cells.height (acting leaves cells) (left_of cells i + x) (top_of cells i + y) place.0 place.1) in
    let of_two : (a b : Cells) (s t : Tile) → a.width ≡ cells.width → a.height ≡ cells.height → ((x y : ℕ) → x < 64 → y < 64 → tile.has s x y ≡ has a (left_of cells i + x) (top_of cells i + y)) → ((x y : ℕ) → x < 64 → y < 64 → tile.has t x y ≡ has b (left_of cells i + x) (top_of cells i + y))
    → (x y : ℕ) → x < 64 → y < 64 → (tile.has s x y && not (tile.has t x y)) ≡ has (without a b) (left_of cells i + x) (top_of cells i + y) =
    λ a b s t wide high of_a of_b x y p q.
    let place = cell_within cells i x y is within p q in
    ap₂ (λ u v. u && not v) (of_a x y p q) (of_b x y p q)
    ∙ sym (has-cells_where a.width a.height (λ x y. has a x y && not (has b x y)) (left_of cells i + x) (top_of cells i + y) (let l = place.0 in omega arith) (let l = place.1 in omega arith)) in
    let came : AreCounts change.gained (without next cells) r = counts_are (without next cells) i change.gained _ r square gained (of_two next cells new old refl refl there was) in
    let went : AreCounts change.lost (without cells next) r = counts_are (without cells next) i change.lost _ r square lost (of_two cells next old new refl refl was there) in
    same_moved (moved_by_counts tick change) _ (counted_sums tick change.gained (without next cells) r came) (counted_sums tick change.lost (without cells next) r went)

-- a tile that stays moves nothing
pub stays_unmoved : (tick : ℤ) (leaves : Leaves) (cells : Cells) (i : ℕ) (r : Rectangle) → IsLattice cells → i < tile_count cells → IsSquareOf cells.width i r → Stays leaves cells i
    → (let m : Moved = record { injected = total_in tick (without (acted leaves cells) cells) r; drained = total_in tick (without cells (acted leaves cells)) r } in m) ≡ unmoved
stays_unmoved tick leaves cells i r is within square stays =
    let next : Cells = acted leaves cells in
    let same : (x y : ℕ) → x < r.w → y < r.h → has next (r.x + x) (r.y + y) ≡ has cells (r.x + x) (r.y + y) = λ x y p q.
    let xl : x < 64 = let e = square.wide in omega arith in
    let yl : y < 64 = let e = square.high in omega arith in
    let place = cell_within cells i x y is within xl yl in
    ap₂ (has next) (ap (λ m. m + x) square.left) (ap (λ m. m + y) square.top)
    ∙ (has-cells_where cells.width cells.height (acting leaves cells) (left_of cells i + x) (top_of cells i + y) place.0 place.1
    ∙ (stays x y xl yl ∙ sym (ap₂ (has cells) (ap (λ m. m + x) square.left) (ap (λ m. m + y) square.top)))) in
    let none : (a b : Cells) → a.width ≡ cells.width → a.height ≡ cells.height → ((x y : ℕ) → x < r.w → y < r.h → has a (r.x + x) (r.y + y) ≡ has b (r.x + x) (r.y + y)) → total_in tick (without a b) r ≡ accounts.nothing =
    λ a b wide high same.
    total_in-none tick (without a b) r
    (λ x y p q.
    let place = cell_within cells i x y is within (let e = square.wide in omega arith) (let e = square.high in omega arith) in
    has-cells_where a.width a.height (λ x y. has a x y && not (has b x y)) (r.x + x) (r.y + y) (let l = place.0 in let e = square.left in omega arith) (let l = place.1 in let e = square.top in omega arith)
    ∙ (ap (λ u. u && not (has b (r.x + x) (r.y + y))) (same x y p q) ∙ not_both (has b (r.x + x) (r.y + y)))) in
    same_moved _ unmoved (none next cells refl refl same) (none cells next refl refl (λ x y p q. sym (same x y p q)))
