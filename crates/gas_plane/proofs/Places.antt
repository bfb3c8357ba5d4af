-- The numbers of tiles, and where a tile's cells stand.
use Rattle.std.proofs.Common.{◌≡◌, ℕ, ◌+◌, ◌-◌, ◌*◌, ◌/◌, ◌%◌, ◌<◌, ◌≤◌, nat_le, nat_lt, nat_eq, true, false, ◌&&◌, sym, ◌∙◌, ap, arith, inl, inr, ◌⊎◌}
use Rattle.std.proofs.lemmas.Nat.{mod-mul-add}
use Rattle.std.proofs.Math.Bool.{and_assoc}
use Rattle.std.proofs.lemmas.Bool.{cases_eq, true≢false}
use Rattle.std.proofs.lemmas.Bool.Decides.{nat_tests}
use Rattle.bit_tile.proofs.Circles.{stays, wraps}
use Rattle.gas_terms.specs.Cells.{Extent, is_side, is_size, Rectangle, is_inside}

pub record IsWholeTiles (n : ℕ) : Type 0 where
  pub tiles : n / 64 * 64 ≡ n
  pub some : 0 < n / 64
  pub few : n / 64 ≤ 64

side_tiles : (n : ℕ) → is_side n ≡ true → (n % 64 ≡ 0) × (64 ≤ n) × (n ≤ 4096)
side_tiles n e = grind (arith, nat_tests)

whole_tiles : (n : ℕ) → (n % 64 ≡ 0) × (64 ≤ n) × (n ≤ 4096) → IsWholeTiles n
whole_tiles n e = record { tiles = omega arith; some = omega arith; few = omega arith }

both_sides : (w h : ℕ) → is_size (record { width = w; height = h }) ≡ true → (is_side w ≡ true) × (is_side h ≡ true)
both_sides w h e = grind (arith, nat_tests)

pub wide : (size : Extent) → is_size size ≡ true → IsWholeTiles size.width
wide size e = whole_tiles size.width (side_tiles size.width (both_sides size.width size.height e).0)

pub high : (size : Extent) → is_size size ≡ true → IsWholeTiles size.height
high size e = whole_tiles size.height (side_tiles size.height (both_sides size.width size.height e).1)

-- a cell's tile is one of its row's, and a tile's cell is one of the lattice's
pub tile_below : (n x : ℕ) → IsWholeTiles n → x < n → x / 64 < n / 64
tile_below n x is h = let e = is.tiles in omega arith

pub cell_below : (n column x : ℕ) → IsWholeTiles n → column < n / 64 → x < 64 → column * 64 + x < n
cell_below n column x is h k = let e = is.tiles in omega arith

-- round a circle of n places
pub last_place : (k n : ℕ) → k ≡ 0 → 0 < n → n - 1 ≡ (k + n - 1) % n
last_place k n e some = sym (ap (λ m. m % n) (omega arith) ∙ stays n (n - 1) (omega arith))

pub place_before : (k n : ℕ) → (k ≡ 0 → ⊥) → k < n → k - 1 ≡ (k + n - 1) % n
place_before k n e less = sym (let f : k + n - 1 ≡ (k - 1) + n = omega arith in ap (λ m. m % n) f ∙ wraps n (k - 1) (omega arith))

pub first_place : (k n : ℕ) → k + 1 ≡ n → 0 ≡ (k + 1) % n
first_place k n e = sym (let f : k + 1 ≡ 0 + n = omega arith in ap (λ m. m % n) f ∙ wraps n 0 (omega arith))

pub place_after : (k n : ℕ) → (k + 1 ≡ n → ⊥) → k < n → k + 1 ≡ (k + 1) % n
place_after k n e less = sym (stays n (k + 1) (omega arith))

-- the places before, in and after the tile k of a circle of tiles
pub ring_before : (n k : ℕ) → IsWholeTiles n → k < n / 64 → (k * 64 + 0 + n - 1) % n ≡ (k + n / 64 - 1) % (n / 64) * 64 + 63
ring_before n k is less = grind (arith, cases_eq, stays, last_place, wraps, place_before)

pub ring_after : (n k : ℕ) → IsWholeTiles n → k < n / 64 → (k * 64 + 65 + n - 1) % n ≡ (k + 1) % (n / 64) * 64 + 0
ring_after n k is less = grind (arith, cases_eq, mod-mul-add, first_place, wraps, place_after)

pub ring_in : (n k x : ℕ) → IsWholeTiles n → k < n / 64 → x < 64 → (k * 64 + (x + 1) + n - 1) % n ≡ k * 64 + x
ring_in n k x is less in_tile = grind (arith, wraps)

-- a place from 0 to 65 is before, after or in the tile
pub ring_cases : (i : ℕ) → i ≤ 65 → (i ≡ 0) ⊎ ((i ≡ 65) ⊎ ((x : ℕ) × (x < 64) × (i ≡ x + 1)))
ring_cases i h =
    elim (cases_eq i 0) [
      | inl e ↦ inl e
      | inr ne ↦ elim (cases_eq i 65) [ inl e ↦ inr (inl e) | inr nf ↦ inr (inr (i - 1, omega arith, omega arith)) ]
    ]

-- Two rectangles have two cells alike if the tests of their columns agree, and those of their rows.
pub inside_alike : (a b : Rectangle) (x y u v : ℕ) → (nat_le a.x x && nat_lt x (a.x + a.w)) ≡ (nat_le b.x u && nat_lt u (b.x + b.w))
    → (nat_le a.y y && nat_lt y (a.y + a.h)) ≡ (nat_le b.y v && nat_lt v (b.y + b.h)) → is_inside a x y ≡ is_inside b u v
inside_alike a b x y u v columns rows =
    and_assoc (nat_le a.x x && nat_lt x (a.x + a.w)) (nat_le a.y y) (nat_lt y (a.y + a.h)) ∙ (λ i. columns i && rows i)
    ∙ sym (and_assoc (nat_le b.x u && nat_lt u (b.x + b.w)) (nat_le b.y v) (nat_lt v (b.y + b.h)))

-- The cells of a tile that begins at (left, top) are in a part of it as they are in the rectangle, if the part's columns and rows are.
pub part_alike : (part area : Rectangle) (left top : ℕ)
    → ((k : ℕ) → k < 64 → (nat_le part.x k && nat_lt k (part.x + part.w)) ≡ (nat_le area.x (left + k) && nat_lt (left + k) (area.x + area.w)))
    → ((k : ℕ) → k < 64 → (nat_le part.y k && nat_lt k (part.y + part.h)) ≡ (nat_le area.y (top + k) && nat_lt (top + k) (area.y + area.h)))
    → (x y : ℕ) → x < 64 → y < 64 → is_inside part x y ≡ is_inside area (left + x) (top + y)
part_alike part area left top columns rows x y h k = inside_alike part area x y (left + x) (top + y) (columns x h) (rows y k)

-- and one that has columns and rows has a cell
pub part_has_one : (part area : Rectangle) (left top : ℕ)
    → ((k : ℕ) → k < 64 → (nat_le part.x k && nat_lt k (part.x + part.w)) ≡ (nat_le area.x (left + k) && nat_lt (left + k) (area.x + area.w)))
    → ((k : ℕ) → k < 64 → (nat_le part.y k && nat_lt k (part.y + part.h)) ≡ (nat_le area.y (top + k) && nat_lt (top + k) (area.y + area.h)))
    → part.x + part.w ≤ 64 → part.y + part.h ≤ 64 → nat_eq part.w 0 ≡ false → 0 < part.h
    → ((x y : ℕ) → x < 64 → y < 64 → is_inside area (left + x) (top + y) ≡ false) → ⊥
part_has_one part area left top columns rows wide high w h none =
    let some : 0 < part.w = grind (arith, nat_tests) in
    let p : part.x < 64 = omega (arith, wide, some) in
    let q : part.y < 64 = omega (arith, high, h) in
    let inside : is_inside part part.x part.y ≡ true = grind (arith, nat_tests) in
    true≢false (sym inside ∙ (part_alike part area left top columns rows part.x part.y p q ∙ none part.x part.y p q))
