-- Rows as bytes: a set is read from them as it was written, and they are written as they were read.
use Rattle.std.proofs.Common.{◌≡◌, ℕ, zero, suc, ◌+◌, ◌*◌, ◌/◌, ◌%◌, ◌-◌, ◌^◌, ◌<◌, ◌≤◌, Bool, true, false, cond, eqb, List, [], ◌∷◌, ◌++◌, length, get_or, take, drop, refl, sym, ap, ◌∙◌, arith, nat_lt}
use Rattle.std.specs.Prelude.{◌==◌, if◌then◌else◌}
use Rattle.std.specs.List.{flat_map, range_with_len, All}
use Rattle.std.proofs.lemmas.List.{take-append-drop, drop_at, drop-drop, length-append, length-take, length-drop, append-nil, get_or-take, get_or_append_left, nil_from_length}
use Rattle.std.proofs.Math.Seq.{take-length}
use Rattle.std.proofs.lemmas.Slice.{take-put_mid}
use borrow.Rule.Slice.PartMut.{put_mid}
use Rattle.std.proofs.lemmas.List.Concat.{flat_map-append}
use Rattle.std.proofs.Common.{mul-le-mul_right}
use Rattle.std.proofs.lemmas.List.Elements.{All-from_get_or}
use Rattle.std.proofs.lemmas.Bool.Decides.{nat_tests}
use Rattle.gas_terms.specs.Cells.{Cells, Extent, has, cells_where, extent, IsFull, is_side, is_size}
use Rattle.gas_terms.specs.Rows.{row_has, row_bytes, row_replaced}
use Rattle.gas_terms.proofs.Cells.{has-cells_where, full-cells_where, same_cells, same_cells_where}
use Rattle.gas_terms.proofs.Bytes.{length-row_bytes, row_has-row_bytes, row_bytes-row_replaced}
use Rattle.gas_snapshot.proofs.FieldLaws.{IsBytes-take, IsBytes-drop}
use Rattle.gas_snapshot.specs.Spelling.{cell_rows}
use Rattle.gas_snapshot.specs.Reading.{cells_in}
use Rattle.std.proofs.lemmas.Bool.{and_parts}

-- ---- reading

-- the first n rows of the cells in the bytes
abbrev pub first_rows : Extent → List ℕ → ℕ → Cells
first_rows size field n = cells_where size.width size.height (λ x y. if nat_lt y n then row_has (drop (y * (size.width / 8)) field) x else false)

pub all_rows : (size : Extent) (field : List ℕ) (n : ℕ) → size.height ≤ n → first_rows size field n ≡ cells_in size field
all_rows size field n le = grind (arith, same_cells_where, nat_lt, nat_tests)

-- a row is told by its own bytes
pub row_has_front : (len x : ℕ) (bytes : List ℕ) → x / 8 < len → row_has (take len bytes) x ≡ row_has bytes x
row_has_front len x bytes lt = ap (λ (b : ℕ). b / 2 ^ (7 - x % 8) % 2 == 1) (get_or-take len bytes (x / 8) 0 lt)

byte_of_cell : (x w : ℕ) → x < w → w % 8 ≡ 0 → x / 8 < w / 8
byte_of_cell x w lt even = omega arith

-- of a test by rows, with row n put in
row_step : (f : ℕ → Bool) (y n : ℕ) (own old : Bool) → own ≡ f n → old ≡ cond (nat_lt y n) (f y) false → cond (eqb y n) own old ≡ cond (nat_lt y (n + 1)) (f y) false
row_step f y n own old e h = grind (arith, nat_tests)

pub next_row : (size : Extent) (field : List ℕ) (n : ℕ) → size.width % 8 ≡ 0
    → row_replaced (first_rows size field n) n (take (size.width / 8) (drop (n * (size.width / 8)) field)) ≡ first_rows size field (n + 1)
next_row size field n even =
    same_cells_where size.width size.height
    (λ x y. if y == n then row_has (take (size.width / 8) (drop (n * (size.width / 8)) field)) x else has (first_rows size field n) x y)
    (λ x y. if nat_lt y (n + 1) then row_has (drop (y * (size.width / 8)) field) x else false)
    (λ x y p q.
    let own = row_has_front (size.width / 8) x (drop (n * (size.width / 8)) field) (byte_of_cell x size.width p even) in
    let old = has-cells_where size.width size.height (λ x y. if nat_lt y n then row_has (drop (y * (size.width / 8)) field) x else false) x y p q in
    row_step (λ y. row_has (drop (y * (size.width / 8)) field) x) y n _ _ own old)

-- ---- writing

-- pieces of one length, one after the other
pub pieces : (f : ℕ → List ℕ) (len : ℕ) (field : List ℕ) (a n : ℕ) → length field ≡ (a + n) * len
    → ((y : ℕ) → a ≤ y → y < a + n → f y ≡ take len (drop (y * len) field)) → flat_map f (range_with_len a n) ≡ drop (a * len) field
pieces f len field a zero e h =
    let none : length (drop (a * len) field) ≡ 0 = omega (arith, length-drop (a * len) field) in
    sym (nil_from_length (drop (a * len) field) none)
pieces f len field a (suc n) e h =
    let first = h a (omega arith) (omega arith) in
    let longer : length field ≡ ((a + 1) + n) * len = e ∙ ap (λ (k : ℕ). k * len) (omega arith) in
    let rest = pieces f len field (a + 1) n longer (λ y p q. h y (omega arith) (omega arith)) in
    let k : (a + 1) * len ≡ a * len + len = grind arith in
    let dropped : drop ((a + 1) * len) field ≡ drop len (drop (a * len) field) = ap (λ (n : ℕ). drop n field) k ∙ sym (drop-drop len (a * len) field) in
    ap (λ (l : List ℕ). l ++ flat_map f (range_with_len (a + 1) n)) first ∙ ap (λ (l : List ℕ). take len (drop (a * len) field) ++ l) (rest ∙ dropped)
    ∙ take-append-drop len (drop (a * len) field)

pub length_rows : (f : ℕ → List ℕ) (len a n : ℕ) → ((y : ℕ) → length (f y) ≡ len) → length (flat_map f (range_with_len a n)) ≡ n * len
length_rows f len a zero h = omega arith
length_rows f len a (suc n) h =
    let whole : length (flat_map f (range_with_len a (suc n))) ≡ length (f a) + length (flat_map f (range_with_len (a + 1) n)) = length-append (f a) (flat_map f (range_with_len (a + 1) n)) in
    let k : suc n * len ≡ len + n * len = grind arith in
    whole ∙ ap (λ (i : ℕ). i + length (flat_map f (range_with_len (a + 1) n))) (h a) ∙ ap (λ (i : ℕ). len + i) (length_rows f len (a + 1) n h) ∙ sym k

range_split : (a n m k b : ℕ) → n + m ≡ k → a + n ≡ b → range_with_len a k ≡ range_with_len a n ++ range_with_len b m
range_split a zero m k b e h = grind (arith)
range_split a (suc n) m k b e h =
    let i : k ≡ suc (n + m) = omega arith in
    rw i (ap (λ (l : List ℕ). a ∷ l) (range_split (a + 1) n m (n + m) b refl (omega arith)))

-- the rows from row n on stand after those above
pub rows_below : (f : ℕ → List ℕ) (len n m : ℕ) → ((y : ℕ) → length (f y) ≡ len) → drop (n * len) (flat_map f (range_with_len 0 (n + m))) ≡ flat_map f (range_with_len n m)
rows_below f len n m h =
    let split = range_split 0 n m (n + m) n refl (omega arith) in
    let parts : flat_map f (range_with_len 0 (n + m)) ≡ flat_map f (range_with_len 0 n) ++ flat_map f (range_with_len n m) = ap (flat_map f) split ∙ flat_map-append f (range_with_len 0 n) (range_with_len n m) in
    ap (drop (n * len)) parts ∙ drop_at (flat_map f (range_with_len 0 n)) (flat_map f (range_with_len n m)) (n * len) (length_rows f len 0 n h)

-- one row more
pub rows_more : (f : ℕ → List ℕ) (n : ℕ) → flat_map f (range_with_len 0 (n + 1)) ≡ flat_map f (range_with_len 0 n) ++ f n
rows_more f n =
    let split = range_split 0 n 1 (n + 1) n refl (omega arith) in
    ap (flat_map f) split ∙ flat_map-append f (range_with_len 0 n) (n ∷ []) ∙ ap (λ (l : List ℕ). flat_map f (range_with_len 0 n) ++ l) (append-nil (f n))

-- ---- both

row_has_before : (x : ℕ) (first rest : List ℕ) → x / 8 < length first → row_has (first ++ rest) x ≡ row_has first x
row_has_before x first rest lt = ap (λ (b : ℕ). eqb (b / 2 ^ (7 - x % 8) % 2) 1) (get_or_append_left first rest 0 (x / 8) lt)

row_first : (cells : Cells) (y : ℕ) → y < cells.height
    → drop (y * (cells.width / 8)) (cell_rows cells) ≡ row_bytes cells y ++ flat_map (row_bytes cells) (range_with_len (y + 1) (cells.height - suc y))
unfolding cell_rows
row_first cells y lt =
    let k : y + suc (cells.height - suc y) ≡ cells.height = omega arith in
    ap (λ (h : ℕ). drop (y * (cells.width / 8)) (flat_map (row_bytes cells) (range_with_len 0 h))) (sym k)
    ∙ rows_below (row_bytes cells) (cells.width / 8) y (suc (cells.height - suc y)) (length-row_bytes cells)

row_kept : (f : ℕ → Bool) (z y : ℕ) (own old : Bool) → own ≡ f y → old ≡ f z → cond (eqb z y) own old ≡ f z
row_kept f z y own old e h = grind (arith, nat_tests)

part_fits : (size : Extent) (field : List ℕ) (y : ℕ) → ((i : ℕ) → get_or field i 0 < 256) → (i : ℕ) → get_or (take (size.width / 8) (drop (y * (size.width / 8)) field)) i 0 < 256
part_fits size field y fits = IsBytes-take (size.width / 8) (drop (y * (size.width / 8)) field) (IsBytes-drop (y * (size.width / 8)) field fits)

all_bytes : (bytes : List ℕ) → ((i : ℕ) → get_or bytes i 0 < 256) → All (λ b. b < 256) bytes
all_bytes bytes fits = All-from_get_or (λ b. b < 256) bytes 0 (λ i lt. fits i)

-- a row of the set that was read is its bytes
own_row : (size : Extent) (field : List ℕ) (y : ℕ) → size.width % 8 ≡ 0 → length field ≡ size.height * (size.width / 8) → ((i : ℕ) → get_or field i 0 < 256) → y < size.height
    → row_bytes (cells_in size field) y ≡ take (size.width / 8) (drop (y * (size.width / 8)) field)
own_row size field y even len fits lt =
    let cells = cells_in size field in
    let bytes = take (size.width / 8) (drop (y * (size.width / 8)) field) in
    let enough : y * (size.width / 8) + size.width / 8 ≤ size.height * (size.width / 8) = grind (arith, mul-le-mul_right) in
    let own : length bytes ≡ size.width / 8 = omega (arith, length-take (size.width / 8) (drop (y * (size.width / 8)) field), length-drop (y * (size.width / 8)) field) in
    let same : row_replaced cells y bytes ≡ cells =
    same_cells_where size.width size.height (λ x z. if z == y then row_has bytes x else has cells x z) (λ x z. row_has (drop (z * (size.width / 8)) field) x)
    (λ x z p q.
    row_kept (λ z. row_has (drop (z * (size.width / 8)) field) x) z y _ _ (row_has_front (size.width / 8) x (drop (y * (size.width / 8)) field) (byte_of_cell x size.width p even))
    (has-cells_where size.width size.height (λ x y. row_has (drop (y * (size.width / 8)) field) x) x z p q)) in
    ap (λ (c : Cells). row_bytes c y) (sym same) ∙ row_bytes-row_replaced cells y bytes lt own (all_bytes bytes (λ i. part_fits size field y fits i))

-- the set that is read from the rows of a set is that set
pub read_again : (cells : Cells) → IsFull cells → cells.width % 8 ≡ 0 → cells_in (extent cells) (cell_rows cells) ≡ cells
unfolding cell_rows
read_again cells full even =
    same_cells (cells_in (extent cells) (cell_rows cells)) cells (full-cells_where cells.width cells.height (λ x y. row_has (drop (y * (cells.width / 8)) (cell_rows cells)) x)) full refl refl
    (λ x y p q.
    let inside = byte_of_cell x cells.width p even in
    has-cells_where cells.width cells.height (λ x y. row_has (drop (y * (cells.width / 8)) (cell_rows cells)) x) x y p q
    ∙ ap (λ (bs : List ℕ). row_has bs x) (row_first cells y q)
    ∙ row_has_before x (row_bytes cells y) (flat_map (row_bytes cells) (range_with_len (y + 1) (cells.height - suc y))) (omega (arith, length-row_bytes cells y))
    ∙ row_has-row_bytes cells x y even p)

none_dropped : (len : ℕ) (field : List ℕ) → drop (0 * len) field ≡ field
none_dropped len field = let k : 0 * len ≡ 0 = omega arith in ap (λ (n : ℕ). drop n field) k

-- the rows of a set that was read are the bytes
pub written_again : (size : Extent) (field : List ℕ) → size.width % 8 ≡ 0 → length field ≡ size.height * (size.width / 8) → ((i : ℕ) → get_or field i 0 < 256)
    → cell_rows (cells_in size field) ≡ field
unfolding cell_rows
written_again size field even len fits =
    pieces (row_bytes (cells_in size field)) (size.width / 8) field 0 size.height (len ∙ ap (λ (k : ℕ). k * (size.width / 8)) (omega arith))
    (λ y p q. own_row size field y even len fits (omega arith))
    ∙ none_dropped (size.width / 8) field

-- a side is whole bytes
pub even_side : (n : ℕ) → is_side n ≡ true → n % 8 ≡ 0
even_side n h = grind (arith, nat_tests)

pub is_even : (size : Extent) → is_size size ≡ true → size.width % 8 ≡ 0
is_even size h = even_side size.width (and_parts (is_side size.width) (is_side size.height) h).0

-- the step of the loop that reads rows
pub row_is_read : (size : Extent) (field : List ℕ) (n len : ℕ) (cells : Cells) → is_size size ≡ true → len ≡ size.width / 8 → cells ≡ first_rows size field n
    → row_replaced cells n (take (n * len + len - n * len) (drop (n * len) field)) ≡ first_rows size field (n + 1)
row_is_read size field n len cells sized wide e = grind (arith, next_row, is_even)

-- the step of the loop that writes rows
pub row_is_put : (cells : Cells) (out row : List ℕ) (n len k : ℕ) → row ≡ row_bytes cells n → len ≡ cells.width / 8 → k ≡ len → n < cells.height → length out ≡ cells.height * (cells.width / 8)
    → take (n * len) out ≡ flat_map (row_bytes cells) (range_with_len 0 n) → take ((n + 1) * len) (put_mid (n * len) k out row) ≡ flat_map (row_bytes cells) (range_with_len 0 (n + 1))
row_is_put cells out row n len k e wide same lt fits so_far = grind (arith, mul-le-mul_right, length-row_bytes, take-put_mid, rows_more)

pub all_rows_put : (cells : Cells) (out : List ℕ) (n len h : ℕ) → len ≡ cells.width / 8 → h ≡ cells.height → h ≤ n → n ≤ h → length out ≡ cells.height * (cells.width / 8)
    → take (n * len) out ≡ flat_map (row_bytes cells) (range_with_len 0 n) → out ≡ cell_rows cells
unfolding cell_rows
all_rows_put cells out n len h wide high le ge fits so_far = grind (arith, take-length)

-- the first n rows, and those below
pub rows_cut : (cells : Cells) (n : ℕ) → n ≤ cells.height → cell_rows cells ≡ flat_map (row_bytes cells) (range_with_len 0 n) ++ flat_map (row_bytes cells) (range_with_len n (cells.height - n))
unfolding cell_rows
rows_cut cells n le = ap (flat_map (row_bytes cells)) (range_split 0 n (cells.height - n) cells.height n (omega arith) (omega arith)) ∙ flat_map-append (row_bytes cells) (range_with_len 0 n) (range_with_len n (cells.height - n))

pub rows_all : (cells : Cells) (n h : ℕ) → h ≡ cells.height → h ≤ n → n ≤ h → flat_map (row_bytes cells) (range_with_len 0 n) ≡ cell_rows cells
unfolding cell_rows
rows_all cells n h e le ge = let k : n ≡ cells.height = omega arith in ap (λ (i : ℕ). flat_map (row_bytes cells) (range_with_len 0 i)) k
