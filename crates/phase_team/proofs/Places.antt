-- Tiles at their places, and lists that grow.
use Rattle.std.proofs.Common.{◌≡◌, ◌≢◌, ℕ, ◌+◌, ◌*◌, ◌/◌, ◌%◌, ◌<◌, ◌≤◌, ◌==◌, Bool, true, cond, eqb, if◌then◌else◌, List, [], ◌∷◌, ◌++◌, map, length, get_or, take, refl, sym, ap, ap₂, ◌∙◌, subst, arith, inl, inr, ne_eqb}
use Rattle.std.proofs.lemmas.List.{take_more, map-append}
use Rattle.std.proofs.lemmas.Nat.{mul-add-lt, mod-mul-add, row-Below}
use Rattle.std.proofs.Math.Nat.{mod-lt}
use Rattle.std.proofs.lemmas.Bool.{cases_eq, eq-eqb}
use Rattle.std.specs.Result.{is_ok, OnOk}
use mathlib.Core.Bool.{true≢false}
use Rattle.std.specs.declared.result.Result.{Result}
use Rattle.std.specs.declared.result.Result.TheVariants.{Ok, Err}
use Rattle.bit_tile.specs.Tile as tile
use Rattle.bit_tile.specs.declared.Tile.{Tile}
use Rattle.gas_terms.specs.Cells.{Cells, HasSidesOf, has, joined, extent, tile_count}
use Rattle.gas_terms.specs.Velocity.{velocity_at}
use Rattle.gas_terms.specs.Gas.{streamed, arrived, site_of}
use Rattle.gas_terms.proofs.Cells.{has-cells_where, full-cells_where, same_cells}
use Rattle.gas_plane.specs.Planes.{IsLattice, tile_of, with_tile}
use Rattle.gas_plane.proofs.Places.{wide, high, tile_below, cell_below}
use Rattle.gas_plane.proofs.Sweeps.{left_of, top_of, cell_across, cell_down, tile_column}
use Rattle.gas_plane.proofs.Tilings.{choose_true, choose_false}
use Rattle.phase_step.specs.Turns.{IsTileAfter}
use Rattle.claim_desk.specs.Draws.{times}
use Rattle.claim_desk.proofs.Laws.{times-push}
use Rattle.phase_team.specs.Tiles.{IsTurnedAt}
use Rattle.phase_team.specs.declared.phase.worker.Turned.{Turned}

pub on_ok : {T E : Type 0} (r : Result T E) (P : Type 0) → is_ok r ≡ true → OnOk r P → P
on_ok (Ok x) P e h = h
on_ok (Err x) P e h = absurd (true≢false (sym e))

-- the cells of tile k lie in the lattice, and in that tile
left_in : (cells : Cells) (k x : ℕ) → IsLattice cells → x < 64 → left_of cells k + x < cells.width
left_in cells k x is p =
    let across = wide (extent cells) is.sized in
    cell_below cells.width (k % (cells.width / 64)) x across (mod-lt k across.some) p

top_in : (cells : Cells) (k y : ℕ) → IsLattice cells → k < tile_count cells → y < 64 → top_of cells k + y < cells.height
top_in cells k y is within q =
    cell_below cells.height (k / (cells.width / 64)) y (high (extent cells) is.sized)
    (row-Below k (cells.width / 64) (cells.width / 64) (cells.height / 64) within (let e : cells.width / 64 ≤ cells.width / 64 = omega arith in e)).1 q

module _ (cells : Cells) (i : ℕ) (t : Tile) (is : IsLattice cells) where
  written : (x y : ℕ) → x < cells.width → y < cells.height → has (with_tile cells i t) x y ≡ (if tile_of cells x y == i then tile.has t (x % 64) (y % 64) else has cells x y)
  written x y p q = has-cells_where cells.width cells.height (λ x y. if tile_of cells x y == i then tile.has t (x % 64) (y % 64) else has cells x y) x y p q

  -- the tile that was written has the new cells
  here : i < tile_count cells → (x y : ℕ) → x < 64 → y < 64 → has (with_tile cells i t) (left_of cells i + x) (top_of cells i + y) ≡ tile.has t x y
  here within x y p q =
      let across = wide (extent cells) is.sized in
      written (left_of cells i + x) (top_of cells i + y) (left_in cells i x is p) (top_in cells i y is within q)
      ∙ (sym (choose_true _ _ _ _ (eq-eqb _ _ (tile_column (cells.width / 64) i x y across.some p q)) refl)
      ∙ ap₂ (tile.has t) (mod-mul-add (i % (cells.width / 64)) 64 x p) (mod-mul-add (i / (cells.width / 64)) 64 y q))

  -- another has its own still
  there : (k : ℕ) → k ≢ i → k < tile_count cells → (x y : ℕ) → x < 64 → y < 64 → has (with_tile cells i t) (left_of cells k + x) (top_of cells k + y) ≡ has cells (left_of cells k + x) (top_of cells k + y)
  there k apart within x y p q =
      let across = wide (extent cells) is.sized in
      let place : tile_of cells (left_of cells k + x) (top_of cells k + y) ≡ k = tile_column (cells.width / 64) k x y across.some p q in
      written (left_of cells k + x) (top_of cells k + y) (left_in cells k x is p) (top_in cells k y is within q)
      ∙ sym (choose_false _ _ _ _ (ne_eqb _ _ (λ e. apart (sym place ∙ e))) refl)

module _ (p : ℕ) (particles walls obstacles : Cells) where
  -- tile i as the phase leaves it, in the lattice's own terms
  abbrev Stands : Cells → ℕ → Type 0
  Stands cells i = (x y : ℕ) → x < 64 → y < 64 → has cells (left_of cells i + x) (top_of cells i + y) ≡ has (streamed p particles (joined walls obstacles)) (left_of cells i + x) (top_of cells i + y)

  stands : (cells : Cells) (i : ℕ) → HasSidesOf cells particles → IsTurnedAt p particles walls obstacles cells i → Stands cells i
  stands cells i same turned =
      subst (λ w. (x y : ℕ) → x < 64 → y < 64 → has cells (i % (w / 64) * 64 + x) (i / (w / 64) * 64 + y) ≡ has (streamed p particles (joined walls obstacles)) (i % (w / 64) * 64 + x) (i / (w / 64) * 64 + y)) (sym same.wide) turned

  turned : (cells others : Cells) (i : ℕ) → HasSidesOf cells particles
      → ((x y : ℕ) → x < 64 → y < 64 → has others (left_of cells i + x) (top_of cells i + y) ≡ has (streamed p particles (joined walls obstacles)) (left_of cells i + x) (top_of cells i + y))
      → IsTurnedAt p particles walls obstacles others i
  turned cells others i same is =
      subst (λ w. (x y : ℕ) → x < 64 → y < 64 → has others (i % (w / 64) * 64 + x) (i / (w / 64) * 64 + y) ≡ has (streamed p particles (joined walls obstacles)) (i % (w / 64) * 64 + x) (i / (w / 64) * 64 + y)) same.wide is

  after : (cells : Cells) (i : ℕ) (t : Tile) → HasSidesOf cells particles → IsTileAfter p particles (joined walls obstacles) i t
      → (x y : ℕ) → x < 64 → y < 64 → tile.has t x y ≡ has (streamed p particles (joined walls obstacles)) (left_of cells i + x) (top_of cells i + y)
  after cells i t same is =
      subst (λ w. (x y : ℕ) → x < 64 → y < 64 → tile.has t x y ≡ has (streamed p particles (joined walls obstacles)) (i % (w / 64) * 64 + x) (i / (w / 64) * 64 + y)) (sym same.wide) is

  pub sides_kept : (cells next : Cells) (i : ℕ) (t : Tile) → HasSidesOf cells particles → next ≡ with_tile cells i t → HasSidesOf next particles
  sides_kept cells next i t same e = record { wide = ap (λ (c : Cells). c.width) e ∙ same.wide; high = ap (λ (c : Cells). c.height) e ∙ same.high }

  count_as : (cells : Cells) → HasSidesOf cells particles → tile_count cells ≡ tile_count particles
  count_as cells same = ap₂ (λ w h. w / 64 * (h / 64)) same.wide same.high

  pub within_as : (cells : Cells) (i : ℕ) → HasSidesOf cells particles → i < tile_count particles → i < tile_count cells
  within_as cells i same within = let e = count_as cells same in omega arith

  pub write_here : (cells next : Cells) (i : ℕ) (t : Tile) → IsLattice cells → HasSidesOf cells particles → i < tile_count particles → IsTileAfter p particles (joined walls obstacles) i t → next ≡ with_tile cells i t
      → IsTurnedAt p particles walls obstacles next i
  write_here cells next i t is same within right e =
      subst (λ c. IsTurnedAt p particles walls obstacles c i) (sym e)
      (turned cells (with_tile cells i t) i same (λ x y a b. here cells i t is (within_as cells i same within) x y a b ∙ after cells i t same right x y a b))

  -- a tile that is written leaves those that were turned
  pub write_keeps : (cells next : Cells) (i : ℕ) (t : Tile) → IsLattice cells → HasSidesOf cells particles → i < tile_count particles → IsTileAfter p particles (joined walls obstacles) i t → next ≡ with_tile cells i t
      → (k : ℕ) → k < tile_count particles → IsTurnedAt p particles walls obstacles cells k → IsTurnedAt p particles walls obstacles next k
  write_keeps cells next i t is same within right e k inside was =
      elim (cases_eq k i) [
        | inl eq ↦ subst (IsTurnedAt p particles walls obstacles next) (sym eq) (write_here cells next i t is same within right e)
        | inr apart ↦
            subst (λ c. IsTurnedAt p particles walls obstacles c k) (sym e)
            (turned cells (with_tile cells i t) k same (λ x y a b. there cells i t is k apart (within_as cells k same inside) x y a b ∙ stands cells k same was x y a b))
      ]

  -- one more of a list of numbers is written
  pub write_more : (cells next : Cells) (numbers : List ℕ) (i : ℕ) (t : Tile) → IsLattice cells → HasSidesOf cells particles → i < tile_count particles → IsTileAfter p particles (joined walls obstacles) i t → next ≡ with_tile cells i t
      → ((k : ℕ) → k < tile_count particles → 0 < times k numbers → IsTurnedAt p particles walls obstacles cells k)
      → (k : ℕ) → k < tile_count particles → 0 < times k (numbers ++ i ∷ []) → IsTurnedAt p particles walls obstacles next k
  write_more cells next numbers i t is same within right e was k inside some_time =
      elim (cases_eq i k) [
        | inl eq ↦ subst (IsTurnedAt p particles walls obstacles next) eq (write_here cells next i t is same within right e)
        | inr apart ↦
            let more = times-push k numbers i in
            let no : cond {A = ℕ} (eqb i k) 1 0 ≡ 0 = ap (λ (b : Bool). cond b 1 0) (ne_eqb i k apart) in
            write_keeps cells next i t is same within right e k inside (was k inside (omega arith))
      ]

  -- the next of a list of tiles
  pub places_more : (tiles : List Turned) (j : ℕ) (d : Turned) → j < length tiles → map (λ (t : Turned). t.place) (take (j + 1) tiles) ≡ map (λ (t : Turned). t.place) (take j tiles) ++ (get_or tiles j d).place ∷ []
  places_more tiles j d less = ap (map (λ (t : Turned). t.place)) (take_more tiles j d less) ∙ map-append (λ (t : Turned). t.place) (take j tiles) (get_or tiles j d ∷ [])

  -- where each tile is turned, the phase is done
  pub all_turned : (cells : Cells) → IsLattice cells → HasSidesOf cells particles → ((i : ℕ) → i < tile_count particles → IsTurnedAt p particles walls obstacles cells i)
      → cells ≡ streamed p particles (joined walls obstacles)
  all_turned cells is same each =
      same_cells cells (streamed p particles (joined walls obstacles)) is.full (full-cells_where particles.width particles.height (λ x y. arrived particles (joined walls obstacles) (site_of (p + 1) particles.width particles.height x y) (velocity_at (p + 1) x y))) same.wide same.high
      (λ x y a b.
      let across = wide (extent cells) is.sized in
      let i = tile_of cells x y in
      let within : tile_of cells x y < tile_count cells = mul-add-lt (y / 64) (cells.width / 64) (x / 64) (cells.height / 64) (tile_below cells.height y (high (extent cells) is.sized) b) (tile_below cells.width x across a) in
      let count = count_as cells same in
      let left : left_of cells i + x % 64 ≡ x = cell_across cells i x y across a refl in
      let top : top_of cells i + y % 64 ≡ y = cell_down cells i x y across a refl in
      sym (ap₂ (has cells) left top)
      ∙ (stands cells i same (each i (omega arith)) (x % 64) (y % 64) (omega arith) (omega arith)
      ∙ ap₂ (has (streamed p particles (joined walls obstacles))) left top))
