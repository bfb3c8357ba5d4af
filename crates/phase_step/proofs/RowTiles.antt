-- A tile of a plane that is replaced, by its row and column of tiles: what its rows of blocks become at odd parity.
use Rattle.std.proofs.Common.{◌≡◌, ℕ, ◌+◌, ◌*◌, ◌/◌, ◌%◌, ◌<◌, ◌≤◌, Bool, true, refl, sym, ap, ap₂, ◌∙◌, subst, arith, inl, inr}
use Rattle.std.proofs.lemmas.Nat.{mod-mul-add, div-mul-add}
use Rattle.std.proofs.lemmas.Bool.{cases_eq}
use Rattle.bit_tile.specs.Tile as tile
use Rattle.bit_tile.specs.declared.Tile.{Tile}
use Rattle.gas_terms.specs.Cells.{Cells, HasSidesOf, has, extent, is_size, tile_rectangle}
use Rattle.gas_plane.specs.Planes.{IsTileFrom, with_tile, tile_of}
use Rattle.gas_plane.proofs.Places.{wide, high, cell_below, tile_below}
use Rattle.gas_plane.specs.Turning.{IsColumnTurned}
use Rattle.block_rule.specs.Around.{turned_window}
use Rattle.block_rule.specs.InPlace.{TurnsInto, IsRowTurned, IsInnerSeen, IsSeamSeen, IsCarried, HasOtherCells}
use Rattle.block_rule.specs.declared.blocks.Blocks.{Blocks}
use Rattle.block_rule.specs.declared.in_place.Carry.{Carry}
use Rattle.phase_step.specs.OddPhase.{ShowsWalls, TurnsInner, IsSeamPut, IsFirstPut}
use Rattle.phase_step.specs.declared.odd_phase.InnerTurner.{InnerTurner}
use Rattle.phase_step.proofs.MadeCells.{with_here, with_other}

-- a tile of a lattice that is replaced, by its column and row of tiles
module _ (cells : Cells) (row column i : ℕ) (t : Tile) (sized : is_size (extent cells) ≡ true) (low : row < cells.height / 64) (less : column < cells.width / 64) (place : i ≡ row * (cells.width / 64) + column) where
  same : HasSidesOf cells cells
  same = record { wide = refl; high = refl }

  is_column : i % (cells.width / 64) * 64 ≡ column * 64
  is_column = ap (λ n. n % (cells.width / 64) * 64) place ∙ ap (λ n. n * 64) (mod-mul-add row (cells.width / 64) column less)

  is_row : i / (cells.width / 64) * 64 ≡ row * 64
  is_row = ap (λ n. n / (cells.width / 64) * 64) place ∙ ap (λ n. n * 64) (div-mul-add row (cells.width / 64) column less)

  pub tile_here : (x y : ℕ) → x < 64 → y < 64 → has (with_tile cells i t) (column * 64 + x) (row * 64 + y) ≡ tile.has t x y
  tile_here x y h k =
      let a = cells.width / 64 in
      let c : (column * 64 + x) / 64 ≡ column = div-mul-add column 64 x h in
      let r : (row * 64 + y) / 64 ≡ row = div-mul-add row 64 y k in
      let at : tile_of cells (column * 64 + x) (row * 64 + y) ≡ i = ap₂ (λ r c. r * a + c) r c ∙ sym place in
      with_here cells cells i t same (column * 64 + x) (row * 64 + y) (cell_below cells.width column x (wide (extent cells) sized) less h) (cell_below cells.height row y (high (extent cells) sized) low k) at
      ∙ ap₂ (tile.has t) (mod-mul-add column 64 x h) (mod-mul-add row 64 y k)

  pub tile_there : (x y : ℕ) → x < cells.width → y < cells.height → (x / 64 ≡ column → y / 64 ≡ row → ⊥) → has (with_tile cells i t) x y ≡ has cells x y
  tile_there x y h k other =
      let a = cells.width / 64 in
      let c : x / 64 < a = tile_below cells.width x (wide (extent cells) sized) h in
      with_other cells cells i t same x y h k
      (λ e.
      let f : y / 64 * a + x / 64 ≡ row * a + column = e ∙ place in
      other (sym (mod-mul-add (y / 64) a (x / 64) c) ∙ (ap (λ n. n % a) f ∙ mod-mul-add row a column less)) (sym (div-mul-add (y / 64) a (x / 64) c) ∙ (ap (λ n. n / a) f ∙ div-mul-add row a column less)))

  pub tile_from : (old : Tile) → (let r = tile_rectangle cells i in IsTileFrom old cells r.x r.y) → (x y : ℕ) → x < 64 → y < 64 → tile.has old x y ≡ has cells (column * 64 + x) (row * 64 + y)
  tile_from old is x y h k = is.cell x y h k ∙ ap₂ (λ u v. has cells (u + x) (v + y)) is_column is_row

  pub at_rectangle : (old : Tile) → IsTileFrom old cells (column * 64) (row * 64) → (let r = tile_rectangle cells i in IsTileFrom old cells r.x r.y)
  at_rectangle old is = record { cell = λ x y h k. is.cell x y h k ∙ sym (ap₂ (λ u v. has cells (u + x) (v + y)) is_column is_row) }

  -- one whose cells are as before where a test of its columns and rows says no
  pub tile_others : (old : Tile) (P : ℕ → ℕ → Type 0) → (let r = tile_rectangle cells i in IsTileFrom old cells r.x r.y) → ((x y : ℕ) → x < 64 → y < 64 → (P x y → ⊥) → tile.has t x y ≡ tile.has old x y)
      → (x y : ℕ) → x < cells.width → y < cells.height → (x / 64 ≡ column → y / 64 ≡ row → P (x % 64) (y % 64) → ⊥) → has (with_tile cells i t) x y ≡ has cells x y
  tile_others old P is kept x y h k other =
      elim (cases_eq (x / 64) column) [
        | inl e ↦ elim (cases_eq (y / 64) row) [
          | inl f ↦
              let left : column * 64 + x % 64 ≡ x = omega (arith, e) in
              let top : row * 64 + y % 64 ≡ y = omega (arith, f) in
              sym (ap₂ (has (with_tile cells i t)) left top)
              ∙ (tile_here (x % 64) (y % 64) (omega arith) (omega arith)
              ∙ (kept (x % 64) (y % 64) (omega arith) (omega arith) (other e f)
              ∙ (tile_from old is (x % 64) (y % 64) (omega arith) (omega arith) ∙ ap₂ (has cells) left top)))
          | inr ne ↦ tile_there x y h k (λ _ f. ne f)
        ]
        | inr ne ↦ tile_there x y h k (λ e _. ne e)
      ]

pub seam_put : (cells : Cells) (row below column i d : ℕ) (words : Blocks) (old bottom upper top : Tile) → is_size (extent cells) ≡ true → row < cells.height / 64 → below < cells.height / 64 → column < cells.width / 64 → i ≡ row * (cells.width / 64) + column → d ≡ below * (cells.width / 64) + column
    → (let r = tile_rectangle cells i in IsTileFrom old cells r.x r.y) → (let r = tile_rectangle cells d in IsTileFrom upper (with_tile cells i bottom) r.x r.y)
    → ((test : ℕ → ℕ → Bool) → IsRowTurned words test 31 → (x : ℕ) → x < 64 → tile.has bottom x 63 ≡ test x 63) → ((x y : ℕ) → x < 64 → y < 63 → tile.has bottom x y ≡ tile.has old x y)
    → ((test : ℕ → ℕ → Bool) → IsRowTurned words test 31 → (x : ℕ) → x < 64 → tile.has top x 0 ≡ test x 64) → ((x y : ℕ) → x < 64 → 1 ≤ y → y < 64 → tile.has top x y ≡ tile.has upper x y)
    → IsSeamPut row below column words cells (with_tile (with_tile cells i bottom) d top)
seam_put cells row below column i d words old bottom upper top sized low low_below less place place_below of_old of_upper bottom_row bottom_rest top_row top_rest =
    let mid = with_tile cells i bottom in
    let across = wide (extent cells) sized in
    let down = high (extent cells) sized in
    let first_rest : (x y : ℕ) → x < cells.width → y < cells.height → (x / 64 ≡ column → y / 64 ≡ row → y % 64 ≡ 63 → ⊥) → has mid x y ≡ has cells x y =
    tile_others cells row column i bottom sized low less place old (λ _ y. y ≡ 63) of_old (λ x y h k ne. bottom_rest x y h (let s : y ≡ 63 → ⊥ = ne in elim (cases_eq y 63) [ inl e ↦ absurd (s e) | inr n ↦ omega (arith, n, k) ])) in
    let second_rest : (x y : ℕ) → x < cells.width → y < cells.height → (x / 64 ≡ column → y / 64 ≡ below → y % 64 ≡ 0 → ⊥) → has (with_tile mid d top) x y ≡ has mid x y =
    tile_others mid below column d top sized low_below less place_below upper (λ _ y. y ≡ 0) of_upper (λ x y h k ne. top_rest x y h (elim (cases_eq y 0) [ inl e ↦ absurd (ne e) | inr n ↦ omega (arith, n) ]) k) in
    record {
      sides = record { wide = refl; high = refl };
      bottom = λ test is x h.
          let half : (row * 64 + 63) % 64 ≡ 63 = omega arith in
          second_rest (column * 64 + x) (row * 64 + 63) (omega (arith, h, less, across.tiles)) (omega (arith, low, down.tiles)) (λ _ _ e. absurd (omega (arith, e, half)))
          ∙ (tile_here cells row column i bottom sized low less place x 63 h (omega arith) ∙ bottom_row test is x h);
      top = λ test is x h. ap (has (with_tile mid d top) (column * 64 + x)) (let z : below * 64 ≡ below * 64 + 0 = omega arith in z) ∙ (tile_here mid below column d top sized low_below less place_below x 0 h (omega arith) ∙ top_row test is x h);
      others = λ x y h k other.
          second_rest x y h k (λ e f g. other e (inr (let z : y ≡ below * 64 = omega (arith, f, g) in z)))
          ∙ first_rest x y h k (λ e f g. other e (inl (let z : y ≡ row * 64 + 63 = omega (arith, f, g) in z)));
    }

-- What stands to the right of a tile in its rows 1 to 62: in the next tile, and for the last one of a row in the first one as it was.
pub record IsEdge (row column : ℕ) (first : Tile) (cells : Cells) (edge : ℕ → Bool) : Type 0 where
  pub next : column + 1 < cells.width / 64 → (y : ℕ) → 1 ≤ y → y < 63 → has cells ((column + 1) * 64) (row * 64 + y) ≡ edge y
  pub last : column + 1 ≡ cells.width / 64 → (y : ℕ) → 1 ≤ y → y < 63 → tile.has first 0 y ≡ edge y

-- a window shows these rows of a tile, and what stands to their right
pub record IsInnerShown (row column : ℕ) (edge : ℕ → Bool) (cells : Cells) (window : ℕ → ℕ → Bool) : Type 0 where
  pub tile : (x y : ℕ) → x < 64 → 1 ≤ y → y < 63 → window (x + 1) (y + 1) ≡ has cells (column * 64 + x) (row * 64 + y)
  pub right : (y : ℕ) → 1 ≤ y → y < 63 → window 65 (y + 1) ≡ edge y

-- they have turned
pub record IsInnerTurned (turner : InnerTurner) (row column : ℕ) (edge : ℕ → Bool) (before after : Carry) (old new : Cells) : Type 0 where
  pub sides : HasSidesOf new old
  pub cells : (window solid after : ℕ → ℕ → Bool) → TurnsInto window solid after → IsInnerShown row column edge old window → ShowsWalls turner.known turner.there column solid → IsCarried before (after 0)
      → (x y : ℕ) → x < 64 → 1 ≤ y → y < 63 → has new (column * 64 + x) (row * 64 + y) ≡ after x y
  pub leaving : (window solid : ℕ → ℕ → Bool) → IsInnerShown row column edge old window → ShowsWalls turner.known turner.there column solid → IsCarried after (turned_window 1 window solid 64)
  pub others : (x y : ℕ) → x < old.width → y < old.height → (x / 64 ≡ column → y / 64 ≡ row → 1 ≤ y % 64 → y % 64 < 63 → ⊥) → has new x y ≡ has old x y

pub inner_turned : (turner : InnerTurner) (cells now : Cells) (row column : ℕ) (first : Tile) (before after : Carry) (edge : ℕ → Bool) → is_size (extent cells) ≡ true → row < cells.height / 64 → column < cells.width / 64 → IsEdge row column first cells edge
    → IsColumnTurned (TurnsInner turner column before) first row column after cells now → IsInnerTurned turner row column edge before after cells now
inner_turned turner cells now row column first before after edge sized low less is turned =
    let i : ℕ = row * (cells.width / 64) + column in
    let t : Tile = turned.before in
    let made : Tile = turned.made in
    let turns = turned.related in
    let of_right : (y : ℕ) → 1 ≤ y → y < 63 → tile.has turned.right 0 y ≡ edge y =
    λ y k l.
    elim (cases_eq (column + 1) (cells.width / 64)) [
      | inl e ↦ subst (λ r. tile.has r 0 y ≡ edge y) (sym (turned.of_last e)) (is.last e y k l)
      | inr ne ↦
          let next : column + 1 < cells.width / 64 = omega (arith, ne, less) in
          (turned.of_next next).cell 0 y (omega arith) (omega (arith, l)) ∙ (ap (λ u. has cells u (row * 64 + y)) (let z : (column + 1) * 64 + 0 ≡ (column + 1) * 64 = omega arith in z) ∙ is.next next y k l)
    ] in
    let seen : (window : ℕ → ℕ → Bool) → IsInnerShown row column edge cells window → IsInnerSeen window t turned.right =
    λ window shown. record {
      tile = λ x y h k l. shown.tile x y h k l ∙ sym (turned.of_before.cell x y h (omega (arith, l)));
      right = λ y k l. shown.right y k l ∙ sym (of_right y k l);
    } in
    subst (λ n. IsInnerTurned turner row column edge before after cells n) (sym turned.replaced)
    (record {
      sides = record { wide = refl; high = refl };
      cells = λ window solid after are shown given carried x y h k l. tile_here cells row column i made sized low less refl x y h (omega (arith, l)) ∙ turns.cells window solid after are (seen window shown) given carried x y h k l;
      leaving = λ window solid shown. turns.leaving window solid (seen window shown);
      others = λ x y h k other.
          tile_others cells row column i made sized low less refl t (λ _ y. (1 ≤ y) × (y < 63)) (at_rectangle cells row column i made sized low less refl t turned.of_before)
          (λ x y h k not_inner.
          elim (cases_eq y 0) [
            | inl e ↦ subst (λ y. tile.has made x y ≡ tile.has t x y) (sym e) (turns.top x h)
            | inr some ↦ elim (cases_eq y 63) [
              | inl e ↦ subst (λ y. tile.has made x y ≡ tile.has t x y) (sym e) (turns.bottom x h)
              | inr few ↦ absurd (not_inner (omega (arith, some), omega (arith, few, k)))
            ]
          ])
          x y h k (λ e f g. other e f g.0 g.1);
    })

-- the first column
pub first_put : (cells : Cells) (row i : ℕ) (old made : Tile) (carry : Carry) → is_size (extent cells) ≡ true → row < cells.height / 64 → i ≡ row * (cells.width / 64) → (let r = tile_rectangle cells i in IsTileFrom old cells r.x r.y)
    → ((column : ℕ → Bool) → IsCarried carry column → (y : ℕ) → 1 ≤ y → y < 63 → tile.has made 0 y ≡ column y) → HasOtherCells 0 62 old made → IsFirstPut row carry cells (with_tile cells i made)
first_put cells row i old made carry sized low place of_old put kept =
    let some = (wide (extent cells) sized).some in
    let at : i ≡ row * (cells.width / 64) + 0 = omega (arith, place) in
    record {
      sides = record { wide = refl; high = refl };
      column = λ column is y k l. tile_here cells row 0 i made sized low some at 0 y (omega arith) (omega (arith, l)) ∙ put column is y k l;
      others = λ x y h k other.
          tile_others cells row 0 i made sized low some at old (λ x y. (x ≡ 0) × ((1 ≤ y) × (y < 63))) of_old
          (λ x y h k not_first. kept x y h k (λ e l m. not_first (e, (l, omega (arith, m)))))
          x y h k (λ e f g. other (omega (arith, e, g.0)) f g.1.0 g.1.1);
    }

-- the row of blocks that begins in a tile's last row
pub seam_seen : (cells : Cells) (row below column i d : ℕ) (t r under r_under : Tile) (upper lower : Bool) → is_size (extent cells) ≡ true → row < cells.height / 64 → below < cells.height / 64 → column < cells.width / 64 → i ≡ row * (cells.width / 64) + column → d ≡ below * (cells.width / 64) + column
    → (let r = tile_rectangle cells i in IsTileFrom t cells r.x r.y) → (let r = tile_rectangle cells d in IsTileFrom under cells r.x r.y) → tile.has r 0 63 ≡ upper → tile.has r_under 0 0 ≡ lower
    → (window : ℕ → ℕ → Bool) → ((x : ℕ) → x < 64 → window (x + 1) 64 ≡ has cells (column * 64 + x) (row * 64 + 63)) → ((x : ℕ) → x < 64 → window (x + 1) 65 ≡ has cells (column * 64 + x) (below * 64)) → window 65 64 ≡ upper → window 65 65 ≡ lower → IsSeamSeen window t r under r_under
seam_seen cells row below column i d t r under r_under upper lower sized low low_below less place place_below of_t of_under of_r of_r_under window bottom top right right_below =
    record {
      tile = λ x h. bottom x h ∙ sym (tile_from cells row column i t sized low less place t of_t x 63 h (omega arith));
      right = right ∙ sym of_r;
      below = λ x h. top x h ∙ (ap (has cells (column * 64 + x)) (let z : below * 64 ≡ below * 64 + 0 = omega arith in z) ∙ sym (tile_from cells below column d under sized low_below less place_below under of_under x 0 h (omega arith)));
      below_right = right_below ∙ sym of_r_under;
    }

-- what stands in the first column of a tile
pub first_column : (cells : Cells) (row column i : ℕ) (t : Tile) (y : ℕ) → is_size (extent cells) ≡ true → row < cells.height / 64 → column < cells.width / 64 → i ≡ row * (cells.width / 64) + column → (let r = tile_rectangle cells i in IsTileFrom t cells r.x r.y) → y < 64 → tile.has t 0 y ≡ has cells (column * 64) (row * 64 + y)
first_column cells row column i t y sized low less place of_t h = tile_from cells row column i t sized low less place t of_t 0 y (omega arith) h ∙ ap (λ u. has cells u (row * 64 + y)) (let z : column * 64 + 0 ≡ column * 64 = omega arith in z)
