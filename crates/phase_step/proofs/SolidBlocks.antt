-- The blocks with a cell of a set: by what its tiles show, and after the set has changed in a rectangle.
use Rattle.std.proofs.Common.{◌≡◌, ◌⊎◌, IsTrue, ℕ, zero, suc, ◌+◌, ◌-◌, ◌*◌, ◌/◌, ◌%◌, ◌<◌, ◌≤◌, Bool, true, false, ◌&&◌, not, nat_le, nat_lt, List, Option, Some, None, get_or, set, length, replicate, inl, inr, refl, sym, ◌∙◌, ap, ap₂, subst, arith, get_or-set_same, get_or-set_other}
use Rattle.std.proofs.lemmas.Bool.{cases_eq, cases_lt}
use Rattle.std.proofs.lemmas.Bool.Decides.{nat_tests}
use Rattle.std.proofs.lemmas.Nat.{mod-mul-add}
use Rattle.std.proofs.Math.Nat.{mod-lt, mul_comm, mul-le-mul_right, le-div_iff_mul-le, div-lt_iff_lt-mul}
use Rattle.std.proofs.lemmas.List.{get_or-replicate, length-replicate}
use Rattle.gas_terms.specs.Velocity.{has_parity}
use Rattle.gas_terms.specs.Cells.{Cells, Rectangle, HasSidesOf, has, cells_where, filled, cleared, joined, extent, is_size, is_inside, tile_count, tile_rectangle}
use Rattle.gas_terms.proofs.Blocks.{cell_walled}
use Rattle.gas_terms.proofs.Cells.{has-cells_where, full-cells_where}
use Rattle.bit_tile.proofs.Bits.{bit-zero}
use Rattle.gas_plane.specs.Planes.{IsLattice, HasNone}
use Rattle.gas_plane.proofs.Painting.{outside_columns, outside_rows}
use Rattle.gas_plane.proofs.Places.{wide, high}
use Rattle.gas_plane.proofs.Places.{high as high_of}
use Rattle.block_rule.specs.Around.{block_start, either, is_walled_at}
use Rattle.block_rule.specs.Windows.{IsView, IsTilePlace}
use Rattle.block_rule.specs.TileBlocks.{NamesBlocks}
use Rattle.block_rule.specs.declared.blocks_in_tile.TileBlocks.{TileBlocks}
use Rattle.block_rule.specs.Around.{around, none as none_there}
use Rattle.block_rule.specs.Shown.{IsSeenIn}
use Rattle.block_rule.specs.declared.Window.{Window}
use Rattle.block_rule.proofs.Torus.{walled_same, window_is_view, view_either, solid_view}
use Rattle.phase_step.specs.Turns.{IsWindowFrom}
use Rattle.phase_step.proofs.TurnedTiles.{bare_view, bare_window, border_near, tile_window, window_seen, window_view}
use Rattle.phase_step.specs.SolidBlocks.{zero_words, no_words, blocks_at, is_walled_in, view_of, window_of, is_reached, HaveAllTiles, AreBlocksOf, DifferIn, IsFar, IsNearIn, AreRenewedUpTo}
use Rattle.phase_step.proofs.Sides.{place_is, sized_as, tiles_as}
use Rattle.block_rule.specs.TileBlocks.{AreGivenBlocks, DifferInRows, walled_by}
use Rattle.block_rule.proofs.BlockNames.{nothing_named, names_same}
use Rattle.block_rule.specs.declared.blocks_in_tile.SetBlocks.{SetBlocks}
use Rattle.gas_terms.specs.Gas.{site_of, is_walled}
use Rattle.phase_step.specs.Turns.{IsPlaceOf}
use Rattle.phase_step.specs.Others.{nothing_of}

-- the place of a tile
module _ (set : Cells) (i : ℕ) (sized : is_size (extent set) ≡ true) (within : i < tile_count set) where
  place : IsTilePlace set set set (tile_rectangle set i).x (tile_rectangle set i).y
  place = place_is set set set i sized within (record { wide = refl; high = refl }) (record { wide = refl; high = refl })

  -- a tile's blocks are the torus's sites
  pub walled_here : (p : ℕ) → p < 2 → (window : ℕ → ℕ → Bool) → IsView p window set (tile_rectangle set i).x (tile_rectangle set i).y → (x y : ℕ) → x < 64 → y < 64 → is_walled_at p window x y ≡ is_walled_in set i p x y
  walled_here p two window view x y h k = grind (arith, walled_same, cell_walled, set, tile_rectangle, place)

-- words that are made of a tile's window
pub named_here : (set : Cells) (i told : ℕ) (b : TileBlocks) (w : Window) → is_size (extent set) ≡ true → i < tile_count set → IsWindowFrom w set (tile_rectangle set i).x (tile_rectangle set i).y → ((window : ℕ → ℕ → Bool) → IsSeenIn w window → NamesBlocks told b (λ p. is_walled_at p window)) → NamesBlocks told b (is_walled_in set i)
named_here set i told b w sized within from named =
    let place = place set i sized within in
    let ring = border_near w.round in
    let near = around w.tile.now ring.0 in
    names_same told b (λ p. is_walled_at p near) (is_walled_in set i)
    (λ p x y two h k. walled_here set i sized within p two near
    (window_is_view p near set (tile_rectangle set i).x (tile_rectangle set i).y two (tile_window i set set w.tile.now ring.0 refl refl place.right place.bottom from.tile (from.round ring.0 ring.1))) x y h k)
    (named near (window_seen w))

-- a tile's blocks depend on the tile and the ring round it
pub walled_alike : (p : ℕ) (some others : ℕ → ℕ → Bool) (x y : ℕ) → x < 64 → y < 64 → ((u v : ℕ) → u ≤ 65 → v ≤ 65 → some u v ≡ others u v) → is_walled_at p some x y ≡ is_walled_at p others x y
walled_alike p some others x y h k same = grind (arith, block_start, has_parity)

-- a place in the ring round tile i, or in the tile
abbrev pub column_of : Cells → ℕ → ℕ → ℕ
column_of set i u = ((tile_rectangle set i).x + u + set.width - 1) % set.width

abbrev pub row_of : Cells → ℕ → ℕ → ℕ
row_of set i v = ((tile_rectangle set i).y + v + set.height - 1) % set.height

-- so they stay if the set changes elsewhere
module _ (area : Rectangle) (before now : Cells) (differ : DifferIn area before now) (sized : is_size (extent now) ≡ true) (i : ℕ) (within : i < tile_count now) where
  pub window_same : (u v : ℕ) → u ≤ 65 → v ≤ 65 → is_inside area (column_of now i u) (row_of now i v) ≡ false → window_of before i u v ≡ window_of now i u v
  window_same u v h k far = grind (arith, has, wide, high, mod-lt, extent)

  pub stay : ((u v : ℕ) → u ≤ 65 → v ≤ 65 → is_inside area (column_of now i u) (row_of now i v) ≡ false) → (p x y : ℕ) → p < 2 → x < 64 → y < 64 → is_walled_in before i p x y ≡ is_walled_in now i p x y
  stay far p x y two h k =
      let back : HasSidesOf now before = record { wide = sym differ.sides.wide; high = sym differ.sides.high } in
      let there : i < tile_count before = subst (λ n. i < n) (tiles_as now before back) within in
      sym (walled_here before i (sized_as now before back sized) there p two (window_of before i) (record { cell = λ _ _ _ _. refl }) x y h k)
      ∙ (walled_alike p (window_of before i) (window_of now i) x y h k (λ u v b c. window_same u v b c (far u v b c))
      ∙ walled_here now i sized within p two (window_of now i) (record { cell = λ _ _ _ _. refl }) x y h k)

-- the words are renewed tile by tile
pub renewed_next : (i word : ℕ) (b : TileBlocks) (before now : Cells) (told : List ℕ) (words : List TileBlocks) → i < tile_count now → HaveAllTiles now told words → NamesBlocks word b (is_walled_in now i) → AreRenewedUpTo i before now told words → AreRenewedUpTo (i + 1) before now (set told i word) (set words i b)
renewed_next i word b before now told words within all are so_far = grind (arith, cases_eq, get_or, set, blocks_at, is_walled_in, get_or-set_same, no_words, get_or-set_other)

-- tiles that the change does not reach stay
pub renewed_past : (n m : ℕ) (before now : Cells) (told : List ℕ) (words : List TileBlocks) → n ≤ m → ((i : ℕ) → n ≤ i → i < m → i < tile_count now → (p x y : ℕ) → p < 2 → x < 64 → y < 64 → is_walled_in before i p x y ≡ is_walled_in now i p x y)
    → AreRenewedUpTo n before now told words → AreRenewedUpTo m before now told words
renewed_past n m before now told words up same so_far =
    record {
      done = λ i below inside.
          elim (cases_lt i n) [
            | inl less ↦ so_far.done i less inside
            | inr more ↦ names_same (get_or told i 0) (blocks_at words i) (is_walled_in before i) (is_walled_in now i) (same i more below inside) (so_far.rest i more inside)
          ];
      rest = λ i above inside. so_far.rest i (omega arith) inside;
    }

-- the first and the last
pub renewed_starts : (before now : Cells) (told : List ℕ) (words : List TileBlocks) → HasSidesOf before now → AreBlocksOf before told words → AreRenewedUpTo 0 before now told words
renewed_starts before now told words sides are = grind (arith, tiles_as)

pub renewed_ends : (n : ℕ) (before now : Cells) (told : List ℕ) (words : List TileBlocks) → tile_count now ≤ n → HaveAllTiles now told words → AreRenewedUpTo n before now told words → AreBlocksOf now told words
renewed_ends n before now told words all have so_far = grind (arith)

-- one axis: which cell is cell u round place j, and places all of whose cells are before or after the others
cell_first : (n a : ℕ) → 0 < n → a ≡ 0 → (a + n * 64 - 1) % (n * 64) ≡ n * 64 - 1
cell_first n a some none = ap (λ m. m % (n * 64)) (let e : a + n * 64 - 1 ≡ 0 * (n * 64) + (n * 64 - 1) = omega (arith, none) in e) ∙ mod-mul-add 0 (n * 64) (n * 64 - 1) (omega (arith, some))

cell_of_window : (n j u : ℕ) → 1 ≤ j * 64 + u → j * 64 + u ≤ n * 64 → (j * 64 + u + n * 64 - 1) % (n * 64) ≡ j * 64 + u - 1
cell_of_window n j u some less = grind (arith, mod-mul-add)

cell_round : (n j u : ℕ) → j < n → u ≤ 65 → n * 64 < j * 64 + u → (j * 64 + u + n * 64 - 1) % (n * 64) ≡ 0
cell_round n j u within small more = ap (λ m. m % (n * 64)) (let e : j * 64 + u + n * 64 - 1 ≡ 2 * (n * 64) + 0 = omega (arith, within, small, more) in e) ∙ mod-mul-add 2 (n * 64) 0 (omega (arith, within))

below : (start c end : ℕ) → c < start → (nat_le start c && nat_lt c end) ≡ false
below start c end less = grind (arith, nat_tests)

above : (start c end : ℕ) → end ≤ c → (nat_le start c && nat_lt c end) ≡ false
above start c end less = grind (arith, nat_tests)

-- cell u of the window of place k
pub not_reached : (start len n k u : ℕ) → k < n → u ≤ 65 → (k ≡ 0 → u ≡ 0 → start + len < n * 64) → (k + 1 ≡ n → u ≡ 65 → 0 < start) → (k * 64 + u < start + 1) ⊎ (start + len < k * 64 + u) → is_reached start len n k u ≡ false
not_reached start len n k u within small top bottom there =
    elim (cases_eq (k * 64 + u) 0) [
      | inl none ↦ rw (cell_first n (k * 64 + u) (omega (arith, within)) none) (let high = top (omega (arith, none)) (omega (arith, none)) in above start (n * 64 - 1) (start + len) (omega (arith, high)))
      | inr some ↦ elim (cases_lt (n * 64) (k * 64 + u)) [
        | inl round ↦ rw (cell_round n k u within small round) (below start 0 (start + len) (bottom (omega (arith, within, small, round)) (omega (arith, within, small, round))))
        | inr here ↦ rw (cell_of_window n k u (omega (arith, some)) (omega (arith, here))) (elim there [ inl less ↦ below start (k * 64 + u - 1) (start + len) (omega (arith, less, some)) | inr more ↦ above start (k * 64 + u - 1) (start + len) (omega (arith, more)) ])
      ]
    ]

pub far_before : (start len n j : ℕ) → j < n → j * 64 + 64 < start → (j ≡ 0 → start + len < n * 64) → IsFar start len n j
far_before start len n j within less seam u small = not_reached start len n j u within small (λ e _. seam e) (λ _ _. omega (arith, less)) (inl (omega (arith, less, small)))

pub far_after : (start len n j : ℕ) → j < n → 0 < j → start + len < j * 64 → (j + 1 ≡ n → 0 < start) → IsFar start len n j
far_after start len n j within some less seam u small = not_reached start len n j u within small (λ e _. absurd (omega (arith, e, some))) (λ e _. seam e) (inr (omega (arith, less)))

pub near_in : (start len k n first last : ℕ) → k < n → last ≤ 33 → ((u : ℕ) → u < 2 * first → k * 64 + u < start + 1) → ((u : ℕ) → u ≤ 65 → 2 * last ≤ u → start + len < k * 64 + u) → (k ≡ 0 → n * 64 ≤ start + len → (first ≡ 0) × (1 ≤ last)) → (k + 1 ≡ n → start ≡ 0 → (first ≡ 0) × (last ≡ 33))
    → IsNearIn first last start len n k
near_in start len k n first last inside few low high top bottom =
    record {
      within = few;
      outside = λ u small far.
          not_reached start len n k u inside small
          (λ e f.
          elim (cases_lt (start + len) (n * 64)) [
            | inl less ↦ less
            | inr more ↦ let all = top e more in absurd (elim far [ inl before ↦ omega (arith, before, all.0) | inr after ↦ omega (arith, after, f, all.1) ])
          ])
          (λ e f.
          elim (cases_eq start 0) [
            | inl none ↦ let all = bottom e none in absurd (elim far [ inl before ↦ omega (arith, before, all.0) | inr after ↦ omega (arith, after, small, all.1) ])
            | inr some ↦ omega (arith, some)
          ])
          (elim far [ inl before ↦ inl (low u before) | inr after ↦ inr (high u small after) ]);
    }

reached_there : (start len n k a l size u : ℕ) → start ≡ a → len ≡ l → n * 64 ≡ size → is_reached start len n k u ≡ false → (nat_le a ((k * 64 + u + size - 1) % size) && nat_lt ((k * 64 + u + size - 1) % size) (a + l)) ≡ false
reached_there start len n k a l size u is_start is_len is_size none = rw (← is_start, ← is_len, ← is_size) none

-- a tile in columns of tiles, or in rows of tiles, that the rectangle does not reach
column_between : (across row from to i : ℕ) → to ≤ across → row * across + from ≤ i → i < row * across + to → (from ≤ i % across) × (i % across < to)
column_between across row from to i few low high = grind (arith, mod-mul-add)

positive : (across to i : ℕ) → i < to * across → 0 < across
positive zero to i below = absurd (omega (arith, below))
positive (suc n) to i below = omega arith

row_between : (across from to i : ℕ) → from * across ≤ i → i < to * across → (from ≤ i / across) × (i / across < to)
row_between across from to i low below =
    let some : 0 < across = positive across to i below in
    ((le-div_iff_mul-le some).1 low, (div-lt_iff_lt-mul some).1 below)

module _ (area : Rectangle) (before now : Cells) (told : List ℕ) (words : List TileBlocks) (sized : is_size (extent now) ≡ true) (differ : DifferIn area before now) where
  pub far_columns : (row from to start len n : ℕ) → from ≤ to → to ≤ n → start ≡ area.x → len ≡ area.w → n ≡ now.width / 64 → ((k : ℕ) → from ≤ k → k < to → IsFar start len n k)
      → AreRenewedUpTo (row * (now.width / 64) + from) before now told words → AreRenewedUpTo (row * (now.width / 64) + to) before now told words
  far_columns row from to start len n up few is_start is_len is_n far =
      renewed_past _ _ before now told words (omega arith)
      (λ i low high within. stay area before now differ sized i within
      (λ u v h k.
      let there = column_between (now.width / 64) row from to i (omega (arith, few, is_n)) low high in
      outside_columns area (column_of now i u) (row_of now i v)
      (reached_there start len n (i % (now.width / 64)) area.x area.w now.width u is_start is_len (ap (λ n. n * 64) is_n ∙ (wide (extent now) sized).tiles) (far (i % (now.width / 64)) there.0 there.1 u h))))

  pub far_rows : (from to start len n : ℕ) → from ≤ to → start ≡ area.y → len ≡ area.h → n ≡ now.height / 64 → ((k : ℕ) → from ≤ k → k < to → IsFar start len n k)
      → AreRenewedUpTo (from * (now.width / 64)) before now told words → AreRenewedUpTo (to * (now.width / 64)) before now told words
  far_rows from to start len n up is_start is_len is_n far =
      renewed_past _ _ before now told words (mul-le-mul_right (now.width / 64) up)
      (λ i low high within. stay area before now differ sized i within
      (λ u v h k.
      let there = row_between (now.width / 64) from to i low high in
      outside_rows area (column_of now i u) (row_of now i v)
      (reached_there start len n (i / (now.width / 64)) area.y area.h now.height v is_start is_len (ap (λ n. n * 64) is_n ∙ (high_of (extent now) sized).tiles) (far (i / (now.width / 64)) there.0 there.1 v k))))

-- a tile's window before and after
pub windows_differ : (area : Rectangle) (before now : Cells) (i from end row : ℕ) → DifferIn area before now → is_size (extent now) ≡ true → i < tile_count now → i / (now.width / 64) ≡ row → IsNearIn from end area.y area.h (now.height / 64) row → DifferInRows from end (window_of before i) (window_of now i)
windows_differ area before now i from end row differ sized within e near u v h k far =
    window_same area before now differ sized i within u v h k
    (outside_rows area (column_of now i u) (row_of now i v) (reached_there area.y area.h (now.height / 64) (i / (now.width / 64)) area.y area.h now.height v refl refl (high_of (extent now) sized).tiles (rw e (near.outside v k far))))

-- the words of a tile are read
pub none_named : (told : ℕ) (b : TileBlocks) (test : ℕ → ℕ → ℕ → Bool) → told ≡ 0 → NamesBlocks told b test → (p : ℕ) → p < 2 → (x y : ℕ) → x < 64 → y < 64 → test p x y ≡ false
none_named told b test e are p two x y h k = are.rows p two x y h k (rw e (bit-zero (y / 2)))

pub words_read : (set : Cells) (told : List ℕ) (words : List TileBlocks) (i word : ℕ) (b : TileBlocks) → AreBlocksOf set told words → i < tile_count set → (i < length told → word ≡ get_or told i 0) → (i < length words → b ≡ blocks_at words i) → NamesBlocks word b (is_walled_in set i)
words_read set told words i word b are within told_there words_there = grind (arith, tile_count, is_walled_in, get_or)

pub all_rows : (set : Cells) (row : ℕ) → set.height / 64 ≤ row → tile_count set ≤ row * (set.width / 64)
all_rows set row down = omega (arith, mul_comm (set.width / 64) (set.height / 64), mul-le-mul_right (set.width / 64) down)

-- without cells no block is named
pub none_walled : (set : Cells) → IsLattice set → HasNone set → (i : ℕ) → i < tile_count set → (p : ℕ) → p < 2 → (x y : ℕ) → x < 64 → y < 64 → is_walled_in set i p x y ≡ false
none_walled set lattice none i within p two x y h k =
    let place = place set i lattice.sized within in
    sym (walled_here set i lattice.sized within p two none_there (bare_view p i set set two refl (bare_window i set set (record { wide = refl; high = refl }) place.right place.bottom none)) x y h k)

module _ (set : Cells) (lattice : IsLattice set) (none : HasNone set) (n : ℕ) (told : List ℕ) (words : List TileBlocks) (count : n ≡ tile_count set) (of_told : told ≡ replicate n 0) (of_words : words ≡ replicate n zero_words) where
  zeros_name : (test : ℕ → ℕ → ℕ → Bool) → ((p x y : ℕ) → p < 2 → x < 64 → y < 64 → test p x y ≡ false) → NamesBlocks 0 zero_words test
  zeros_name test none =
      names_same 0 zero_words (walled_by none_there) test (λ p x y two h k. sym (none p x y two h k)) nothing_named

  pub no_blocks_named : AreBlocksOf set told words
  no_blocks_named =
      record {
        all = record { rows = ap length of_told ∙ (length-replicate n 0 ∙ count); blocks = ap length of_words ∙ (length-replicate n zero_words ∙ count) };
        each = λ i within.
            let inside : i < n = omega (arith, count) in
            subst (λ t. NamesBlocks t (blocks_at words i) (is_walled_in set i)) (sym (ap (λ l. get_or l i 0) of_told ∙ get_or-replicate n i 0 0 inside))
            (subst (λ (b : TileBlocks). NamesBlocks 0 b (is_walled_in set i)) (sym (ap (λ l. blocks_at l i) of_words ∙ get_or-replicate n i zero_words no_words inside))
            (zeros_name (is_walled_in set i) (λ p x y two h k. none_walled set lattice none i within p two x y h k)));
      }

pub has_none : (set : Cells) (width height : ℕ) → set ≡ cells_where width height (λ _ _. false) → HasNone set
has_none set width height e = subst HasNone (sym e) (record { cell = λ x y h k. has-cells_where width height (λ _ _. false) x y h k })

-- what a flag that is false says
pub is_so : (b : Bool) → not b ≡ false → IsTrue b
is_so b e = grind arith

-- a set of which cells were removed
pub still_none : (set now : Cells) (area : Rectangle) (had : Bool) → now ≡ cleared set area → (had ≡ false → HasNone set) → (had ≡ false) ⊎ HasNone now → HasNone now
still_none set now area had e none (inr is) = is
still_none set now area had e none (inl h) =
    subst HasNone (sym e)
    (record { cell = λ x y p q. has-cells_where set.width set.height (λ x y. has set x y && not (is_inside area x y)) x y p q ∙ ap (λ b. b && not (is_inside area x y)) ((none h).cell x y p q) })

pub nothing_walled : (set other : Cells) (i : ℕ) → IsLattice set → i < tile_count set → other ≡ nothing_of set → NamesBlocks 0 zero_words (is_walled_in other i)
nothing_walled set other i lattice within e =
    let bare : IsLattice (nothing_of set) = record { sized = lattice.sized; full = full-cells_where set.width set.height (λ _ _. false) } in
    subst (λ (o : Cells). NamesBlocks 0 zero_words (is_walled_in o i)) (sym e)
    (names_same 0 zero_words (walled_by none_there) (is_walled_in (nothing_of set) i) (λ p x y two h k. sym (none_walled (nothing_of set) bare (has_none (nothing_of set) set.width set.height refl) i within p two x y h k)) nothing_named)

-- an edit changes its rectangle alone
pub filled_differs : (area : Rectangle) (before now : Cells) → now ≡ filled before area → DifferIn area before now
filled_differs area before now e = grind (arith, wide, high, has, is_inside, has-cells_where)

pub cleared_differs : (area : Rectangle) (before now : Cells) → now ≡ cleared before area → DifferIn area before now
cleared_differs area before now e = grind (arith, wide, high, has, is_inside, has-cells_where, not)

-- all words are made anew, from those of no cells on
pub zeros_are : (set : Cells) (n : ℕ) (told : List ℕ) (words : List TileBlocks) → IsLattice set → n ≡ tile_count set → told ≡ replicate n 0 → words ≡ replicate n zero_words → AreBlocksOf (nothing_of set) told words
zeros_are set n told words lattice count of_told of_words =
    no_blocks_named (nothing_of set) (record { sized = lattice.sized; full = full-cells_where set.width set.height (λ _ _. false) }) (has_none (nothing_of set) set.width set.height refl) n told words count of_told of_words

-- what is given of walls or obstacles is what the particles' tile needs
given_same : (given : Option SetBlocks) (test other : ℕ → ℕ → ℕ → Bool) → ((p x y : ℕ) → p < 2 → x < 64 → y < 64 → test p x y ≡ other p x y) → AreGivenBlocks given test → AreGivenBlocks given other
given_same None test other same none = λ p two x y h k. sym (same p x y two h k) ∙ none p two x y h k
given_same (Some s) test other same are = names_same s.rows s.blocks.now test other same are

view_same : (old set : Cells) (i : ℕ) → IsPlaceOf old set set i → (p x y : ℕ) → p < 2 → x < 64 → y < 64
    → is_walled_in set i p x y ≡ walled_by (view_of set (tile_rectangle old i).x (tile_rectangle old i).y) p x y
view_same old set i place p x y two h k =
    let sides = place.of_walls in
    ap₂ (λ m n. is_walled set (site_of p m n (i % (m / 64) * 64 + x) (i / (m / 64) * 64 + y))) sides.wide sides.high
    ∙ sym (walled_same cell_walled p (view_of set (tile_rectangle old i).x (tile_rectangle old i).y) set old.width old.height (tile_rectangle old i).x (tile_rectangle old i).y x y two sides.wide sides.high (record { cell = λ _ _ _ _. refl }) place.even_column place.even_row h k (omega (arith, place.right)) (omega (arith, place.bottom)))

pub given_in_view : (old set : Cells) (i : ℕ) (given : Option SetBlocks) → IsPlaceOf old set set i → AreGivenBlocks given (is_walled_in set i) → AreGivenBlocks given (walled_by (view_of set (tile_rectangle old i).x (tile_rectangle old i).y))
given_in_view old set i given place = given_same given (is_walled_in set i) _ (view_same old set i place)

pub named_in_view : (old set : Cells) (i rows : ℕ) (blocks : TileBlocks) → IsPlaceOf old set set i → NamesBlocks rows blocks (is_walled_in set i) → NamesBlocks rows blocks (walled_by (view_of set (tile_rectangle old i).x (tile_rectangle old i).y))
named_in_view old set i rows blocks place = names_same rows blocks (is_walled_in set i) _ (view_same old set i place)

-- words that are made of a tile's window and of others' words
module _ (set o : Cells) (i : ℕ) (w : Window) (rows_o : ℕ) (b_o : TileBlocks) (of_o : HasSidesOf o set) (sized : is_size (extent set) ≡ true) (within : i < tile_count set) (seen : IsWindowFrom w set (tile_rectangle set i).x (tile_rectangle set i).y) (named : NamesBlocks rows_o b_o (is_walled_in o i)) where
  abbrev near : ℕ → ℕ → Bool
  near = around w.tile.now (border_near w.round).0

  abbrev far : ℕ → ℕ → Bool
  far = view_of o (tile_rectangle set i).x (tile_rectangle set i).y

  wide_set : {n : ℕ} → 0 < n / 64 → 0 < n
  wide_set some = omega (arith, some)

  together : IsView 1 (either near far) (joined set o) (tile_rectangle set i).x (tile_rectangle set i).y
  together =
      let place = place set i sized within in
      view_either has-cells_where 1 near far set o (tile_rectangle set i).x (tile_rectangle set i).y (wide_set (wide (extent set) sized).some) (wide_set (high_of (extent set) sized).some) of_o
      (window_view i set set w refl refl place.right place.bottom seen) (record { cell = λ _ _ _ _. refl })

  -- what they name is the joined sets'
  both_named : (told : ℕ) (b : TileBlocks) → NamesBlocks told b (walled_by (either near far)) → NamesBlocks told b (is_walled_in (joined set o) i)
  both_named told b =
      names_same told b (walled_by (either near far)) (is_walled_in (joined set o) i)
      (λ p x y two h k. walled_here (joined set o) i sized within p two (either near far) (record { cell = λ u v h k. together.cell u v (omega (arith, h)) (omega (arith, k)) }) x y h k)

  others_named : NamesBlocks rows_o b_o (walled_by far)
  others_named = named_in_view set o i rows_o b_o (place_is set o o i sized within of_o of_o) named

  pub named_beside : (told : ℕ) (b : TileBlocks) → ((some other : ℕ → ℕ → Bool) → IsSeenIn w some → NamesBlocks rows_o b_o (walled_by other) → NamesBlocks told b (walled_by (either some other))) → NamesBlocks told b (is_walled_in (joined set o) i)
  named_beside told b made = both_named told b (made near far (window_seen w) others_named)

  -- and renewed, from those of other cells
  pub named_again : (before : Cells) (from end rows told : ℕ) (old new : TileBlocks) → HasSidesOf before set → DifferInRows from end (window_of before i) (window_of (joined set o) i)
      → ((was some other : ℕ → ℕ → Bool) → IsSeenIn w some → NamesBlocks rows_o b_o (walled_by other) → DifferInRows from end was (either some other) → NamesBlocks rows old (walled_by was) → NamesBlocks told new (walled_by (either some other))) → NamesBlocks rows old (is_walled_in before i)
      → NamesBlocks told new (is_walled_in (joined set o) i)
  named_again before from end rows told old new sides differ renew are =
      let back : HasSidesOf set before = record { wide = sym sides.wide; high = sym sides.high } in
      let there : i < tile_count before = subst (λ n. i < n) (tiles_as set before back) within in
      both_named told new
      (renew (window_of before i) near far (window_seen w) others_named (λ u v h k far. differ u v h k far ∙ sym (together.cell u v (omega (arith, h)) (omega (arith, k))))
      (names_same rows old (is_walled_in before i) (walled_by (window_of before i))
      (λ p x y two h k. sym (walled_here before i (sized_as set before back sized) there p two (window_of before i) (record { cell = λ _ _ _ _. refl }) x y h k)) are))

-- and of walls and obstacles together
both_same : (old walls obstacles : Cells) (i : ℕ) → IsPlaceOf old walls obstacles i → (p x y : ℕ) → p < 2 → x < 64 → y < 64
    → is_walled_in (joined walls obstacles) i p x y ≡ walled_by (either (view_of walls (tile_rectangle old i).x (tile_rectangle old i).y) (view_of obstacles (tile_rectangle old i).x (tile_rectangle old i).y)) p x y
both_same old walls obstacles i place p x y two h k =
    let r = tile_rectangle old i in
    let of_walls = place.of_walls in
    ap₂ (λ m n. is_walled (joined walls obstacles) (site_of p m n (i % (m / 64) * 64 + x) (i / (m / 64) * 64 + y))) of_walls.wide of_walls.high
    ∙ sym (walled_same cell_walled p (either (view_of walls r.x r.y) (view_of obstacles r.x r.y)) (joined walls obstacles) old.width old.height r.x r.y x y two of_walls.wide of_walls.high
    (solid_view p old walls obstacles r.x r.y (view_of walls r.x r.y) (view_of obstacles r.x r.y) place (record { cell = λ _ _ _ _. refl }) (record { cell = λ _ _ _ _. refl }) has-cells_where) place.even_column place.even_row h k (omega (arith, place.right)) (omega (arith, place.bottom)))

pub given_in_both : (old walls obstacles : Cells) (i : ℕ) (given : Option SetBlocks) → IsPlaceOf old walls obstacles i → AreGivenBlocks given (is_walled_in (joined walls obstacles) i)
    → AreGivenBlocks given (walled_by (either (view_of walls (tile_rectangle old i).x (tile_rectangle old i).y) (view_of obstacles (tile_rectangle old i).x (tile_rectangle old i).y)))
given_in_both old walls obstacles i given place = given_same given (is_walled_in (joined walls obstacles) i) _ (both_same old walls obstacles i place)
