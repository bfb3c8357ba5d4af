-- The bits of a byte, and the bytes of a row.
use Rattle.std.proofs.Common.{◌≡◌, ℕ, ◌+◌, ◌-◌, ◌*◌, ◌/◌, ◌%◌, ◌^◌, ◌<◌, ◌==◌, Bool, true, false, if◌then◌else◌, List, length, get_or, sum_by, refl, sym, ◌∙◌, ap, arith}
use Rattle.std.specs.List.{range_with_len, All}
use Rattle.std.proofs.lemmas.Bool.{agree_below_at}
use Rattle.std.proofs.lemmas.Bool.Decides.{Decides-eqb}
use Rattle.std.proofs.lemmas.List.{ext_get_or}
use Rattle.std.proofs.lemmas.List.Elements.{All-get_or, All-from_get_or}
use Rattle.std.proofs.lemmas.List.FromFn.{get_or-map-range_with_len, length-map-range_with_len}
use Rattle.gas_terms.specs.Cells.{Cells, has, IsFull}
use Rattle.gas_terms.specs.Rows.{row_has, row_bytes, row_replaced}
use Rattle.gas_terms.proofs.Cells.{has-cells_where, full-cells_where, same_cells}
use Rattle.gas_terms.proofs.RowSums.{new_row}

-- a byte as the sum of its bits, the first the highest
abbrev pub bits_summed : (ℕ → Bool) → ℕ
bits_summed g = sum_by (λ k. if g k then 2 ^ (7 - k) else 0) (range_with_len 0 8)

one_of : Bool → ℕ
one_of true = 1
one_of false = 0

weighed : (b : Bool) (n : ℕ) → (if b then n else 0) ≡ n * one_of b
unfolding one_of
weighed true n = omega arith
weighed false n = omega arith

one_of-below : (b : Bool) → one_of b < 2
unfolding one_of
one_of-below b = grind arith

is_one : (b : Bool) → (one_of b == 1) ≡ b
unfolding one_of
is_one true = refl
is_one false = refl

digits_of : (g : ℕ → Bool) → bits_summed g ≡ 128 * one_of (g 0) + 64 * one_of (g 1) + 32 * one_of (g 2) + 16 * one_of (g 3) + 8 * one_of (g 4) + 4 * one_of (g 5) + 2 * one_of (g 6) + one_of (g 7)
digits_of g = grind (arith, weighed)

bit_of_digits : (a b c d e f g h n : ℕ) → a < 2 → b < 2 → c < 2 → d < 2 → e < 2 → f < 2 → g < 2 → h < 2 →
    n ≡ 128 * a + 64 * b + 32 * c + 16 * d + 8 * e + 4 * f + 2 * g + h →
    (n / 128 % 2 ≡ a) × (n / 64 % 2 ≡ b) × (n / 32 % 2 ≡ c) × (n / 16 % 2 ≡ d) × (n / 8 % 2 ≡ e) × (n / 4 % 2 ≡ f) × (n / 2 % 2 ≡ g) × (n % 2 ≡ h)
bit_of_digits a b c d e f g h n la lb lc ld le lf lg lh s = grind arith

digit : (g : ℕ → Bool) (k n : ℕ) → n ≡ one_of (g k) → (n == 1) ≡ g k
digit g k n e = ap (λ m. m == 1) e ∙ is_one (g k)

pub bit_summed : (g : ℕ → Bool) (k : ℕ) → k < 8 → (bits_summed g / 2 ^ (7 - k) % 2 == 1) ≡ g k
bit_summed g k h =
    let all =
    bit_of_digits (one_of (g 0)) (one_of (g 1)) (one_of (g 2)) (one_of (g 3)) (one_of (g 4)) (one_of (g 5)) (one_of (g 6)) (one_of (g 7)) (bits_summed g)
    (one_of-below (g 0)) (one_of-below (g 1)) (one_of-below (g 2)) (one_of-below (g 3)) (one_of-below (g 4)) (one_of-below (g 5)) (one_of-below (g 6)) (one_of-below (g 7)) (digits_of g) in
    below_eight (λ k. (bits_summed g / 2 ^ (7 - k) % 2 == 1) ≡ g k) (digit g 0 _ all.0) (digit g 1 _ all.1) (digit g 2 _ all.2) (digit g 3 _ all.3) (digit g 4 _ all.4) (digit g 5 _ all.5) (digit g 6 _ all.6)
    (digit g 7 (bits_summed g / 2 ^ (7 - 7) % 2) (last_digit (bits_summed g) (one_of (g 7)) all.7)) k h
  where
    last_digit : (n h : ℕ) → n % 2 ≡ h → n / 2 ^ (7 - 7) % 2 ≡ h
    last_digit n h e = let d : n / 1 ≡ n = omega arith in ap (λ m. m % 2) d ∙ e

    below_eight : (P : ℕ → Type 0) → P 0 → P 1 → P 2 → P 3 → P 4 → P 5 → P 6 → P 7 → (k : ℕ) → k < 8 → P k
    below_eight P h2 h3 h4 h5 h6 h7 h8 h9 k h11 = grind arith

byte_summed : (b : ℕ) → b < 256 → b ≡ bits_summed (λ k. b / 2 ^ (7 - k) % 2 == 1)
byte_summed b h =
    (Decides-eqb b (bits_summed (λ k. b / 2 ^ (7 - k) % 2 == 1))).0
    (agree_below_at (λ b. b == bits_summed (λ k. b / 2 ^ (7 - k) % 2 == 1)) (λ _. true) 256 b refl h)

-- a byte is known by its bits
pub byte_from_bits : (b : ℕ) (g : ℕ → Bool) → b < 256 → ((k : ℕ) → k < 8 → (b / 2 ^ (7 - k) % 2 == 1) ≡ g k) → b ≡ bits_summed g
byte_from_bits b g small same = grind (arith, byte_summed)

summed-small : (g : ℕ → Bool) → bits_summed g < 256
summed-small g = grind (arith, digits_of, one_of-below)

row_byte : Cells → ℕ → ℕ → ℕ
row_byte cells y i = bits_summed (λ k. has cells (8 * i + k) y)

pub length-row_bytes : (cells : Cells) (y : ℕ) → length (row_bytes cells y) ≡ cells.width / 8
length-row_bytes cells y = length-map-range_with_len (λ i. bits_summed (λ k. has cells (8 * i + k) y)) 0 (cells.width / 8)

row_bytes-at : (cells : Cells) (y i : ℕ) → i < cells.width / 8 → get_or (row_bytes cells y) i 0 ≡ row_byte cells y i
unfolding row_byte
row_bytes-at cells y i h = get_or-map-range_with_len (λ i. bits_summed (λ k. has cells (8 * i + k) y)) 0 (cells.width / 8) i i 0 h (omega arith)

pub row_bytes-are_bytes : (cells : Cells) (y : ℕ) → All (λ b. b < 256) (row_bytes cells y)
unfolding row_byte
row_bytes-are_bytes cells y =
    All-from_get_or (λ b. b < 256) (row_bytes cells y) 0
    (λ i h. let e = row_bytes-at cells y i (omega (arith, length-row_bytes cells y)) in rw e (summed-small (λ k. has cells (8 * i + k) y)))

-- the bytes of a row have its cells
pub row_has-row_bytes : (cells : Cells) (x y : ℕ) → cells.width % 8 ≡ 0 → x < cells.width → row_has (row_bytes cells y) x ≡ has cells x y
unfolding row_byte
row_has-row_bytes cells x y even h =
    ap (λ b. b / 2 ^ (7 - x % 8) % 2 == 1) (row_bytes-at cells y (x / 8) (omega arith))
    ∙ (bit_summed (λ k. has cells (8 * (x / 8) + k) y) (x % 8) (omega arith)
    ∙ ap (λ x. has cells x y) (let e : 8 * (x / 8) + x % 8 ≡ x = omega arith in e))

pub has-row_replaced : (cells : Cells) (row : ℕ) (bytes : List ℕ) (x y : ℕ) → x < cells.width → y < cells.height
    → has (row_replaced cells row bytes) x y ≡ (if y == row then row_has bytes x else has cells x y)
has-row_replaced cells row bytes x y p q = grind (arith, has-cells_where)

-- what is written is read again
bit_in_byte : (bytes : List ℕ) (i k : ℕ) → k < 8 → (get_or bytes i 0 / 2 ^ (7 - k) % 2 == 1) ≡ row_has bytes (8 * i + k)
bit_in_byte bytes i k h = grind arith

written_byte : (cells : Cells) (y i : ℕ) (bytes : List ℕ) → i < cells.width / 8 → y < cells.height → get_or bytes i 0 < 256
    → get_or bytes i 0 ≡ bits_summed (λ k. has (row_replaced cells y bytes) (8 * i + k) y)
written_byte cells y i bytes h q small =
    byte_from_bits (get_or bytes i 0) (λ k. has (row_replaced cells y bytes) (8 * i + k) y) small
    (λ k l. bit_in_byte bytes i k l ∙ sym (new_row cells y bytes (8 * i + k) (omega arith) q))

pub row_bytes-row_replaced : (cells : Cells) (y : ℕ) (bytes : List ℕ) → y < cells.height → length bytes ≡ cells.width / 8 → All (λ b. b < 256) bytes
    → row_bytes (row_replaced cells y bytes) y ≡ bytes
unfolding row_byte
row_bytes-row_replaced cells y bytes q long small =
    ext_get_or 0 (row_bytes (row_replaced cells y bytes) y) bytes (length-row_bytes (row_replaced cells y bytes) y ∙ sym long)
    (λ i h.
    let within : i < cells.width / 8 = omega (arith, length-row_bytes (row_replaced cells y bytes) y) in
    row_bytes-at (row_replaced cells y bytes) y i within
    ∙ sym (written_byte cells y i bytes within q (All-get_or (λ b. b < 256) bytes i 0 (omega arith) small)))

-- a row replaced by itself
same_row : (y row : ℕ) (a b : Bool) → (y ≡ row → a ≡ b) → (if y == row then a else b) ≡ b
same_row y row a b h = grind (arith, h)

pub row_replaced-row_bytes : (cells : Cells) (y : ℕ) → IsFull cells → cells.width % 8 ≡ 0 → row_replaced cells y (row_bytes cells y) ≡ cells
row_replaced-row_bytes cells y full even =
    same_cells (row_replaced cells y (row_bytes cells y)) cells (full-cells_where cells.width cells.height (λ i j. if j == y then row_has (row_bytes cells y) i else has cells i j)) full refl refl
    (λ i j p q.
    has-row_replaced cells y (row_bytes cells y) i j p q
    ∙ same_row j y (row_has (row_bytes cells y) i) (has cells i j) (λ e. row_has-row_bytes cells i y even p ∙ ap (has cells i) (sym e)))
