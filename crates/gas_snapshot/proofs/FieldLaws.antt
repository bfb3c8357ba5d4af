-- A field that is read is the field that was written, and what was written is read again.
use Rattle.std.proofs.Common.{◌≡◌, ℕ, zero, suc, ◌+◌, ◌^◌, ◌<◌, ◌≤◌, Bool, true, false, cond, ltb, ◌&&◌, List, [], ◌∷◌, ◌++◌, length, get_or, take, drop, Result, Ok, Err, refl, sym, ap, subst, ◌∙◌, append_assoc, arith, ℤ}
use Rattle.std.specs.List.{AllByRecursion, flat_map}
use Rattle.std.specs.Prelude.{bytes_eq}
use Rattle.std.specs.Bool.{Decides}
use Rattle.std.proofs.lemmas.Slice.Eq.{bytes_eq-Decides}
use Rattle.std.proofs.Common.{FitsSigned, nat_abs}
use mir.ValLaws as laws
use Rattle.std.proofs.lemmas.Int.{of_z-to_z, to_z-of_z, fits_signed_from_abs}
use Rattle.std.specs.Int.{w16, w64, from_be_bytes, to_be_bytes, cast_unsigned}
use Rattle.std.proofs.lemmas.Bool.{leb-true, cases_lt, ltb-false, le-ltb}
use Rattle.std.proofs.lemmas.List.{take_at, drop_at, take-append-drop, length-append, length-take, length-drop, get_or-drop, get_or-take, get_or_past, append-nil, nil_from_length, drop-drop}
use Rattle.std.proofs.lemmas.Nat.{be_bytes_2, be_bytes_8, from_be_bytes-to_be_bytes_2, from_be_bytes-to_be_bytes_8}
use Rattle.gas_terms.specs.Cells.{Extent, Rectangle, lies_within}
use Rattle.gas_terms.specs.Gas.{Source}
use Rattle.gas_terms.specs.Commands.{is_period, is_tick}
use Rattle.gas_snapshot.specs.declared.version.Version.{Version}
use Rattle.gas_snapshot.specs.declared.version.Version.TheVariants.{One, Two}
use Rattle.gas_snapshot.specs.declared.fault.SnapFault.{SnapFault}
use Rattle.gas_snapshot.specs.declared.fault.SnapFault.TheVariants.{Short, Magic, Size, Tick, Port}
use Rattle.gas_snapshot.specs.Spelling.{magic, sides, moment, counts, drain, source}
use Rattle.gas_snapshot.specs.Reading.{◌>>=◌, field_at, number, magic_at, is_size_of, size_in, size_at, tick_in, tick_at, counts_in, are_few, counts_at, area_in, source_in, drain_at, source_at, many}

abbrev pub IsBytes : List ℕ → Type 0
IsBytes bytes = (i : ℕ) → get_or bytes i 0 < 256

pub IsBytes-drop : (n : ℕ) (bytes : List ℕ) → IsBytes bytes → IsBytes (drop n bytes)
IsBytes-drop n bytes h i = rw get_or-drop (h (n + i))

pub IsBytes-take : (n : ℕ) (bytes : List ℕ) → IsBytes bytes → IsBytes (take n bytes)
IsBytes-take n bytes h i = grind (arith, cases_lt, get_or-take, h, get_or_past, length-take)

-- the value of a step that did not fail
pub bind_ok : {A B : Type 0} (r : Result A SnapFault) (f : A → Result B SnapFault) (y : B) → (r >>= f) ≡ Ok y → (x : A) × (r ≡ Ok x) × (f x ≡ Ok y)
bind_ok (Ok x) f y e = (x, refl, e)
bind_ok (Err d) f y e = absurd cc

abbrev pub done : {A : Type 0} → A → Result A SnapFault
done x = Ok x

pub ok_is : {A : Type 0} (x y : A) → done x ≡ done y → x ≡ y
ok_is x y e = cc

-- a test that did not fail
pub guard_ok : {A : Type 0} (b : Bool) (d : SnapFault) (x y : A) → cond b (Err d) (Ok x) ≡ Ok y → (b ≡ false) × (x ≡ y)
guard_ok true d x y e = absurd cc
guard_ok false d x y e = (refl, cc)

pub guarded : {A : Type 0} (b : Bool) (d : SnapFault) (x y : A) → cond b (Ok x) (Err d) ≡ Ok y → (b ≡ true) × (x ≡ y)
guarded true d x y e = (refl, cc)
guarded false d x y e = absurd cc

-- what a reader took from the front
pub record Takes (bytes text rest : List ℕ) : Type 0 where
  pub parts : bytes ≡ text ++ rest
  pub rest_fits : IsBytes rest

pub then_takes : (a x b y c : List ℕ) → Takes a x b → Takes b y c → Takes a (x ++ y) c
then_takes a x b y c p q = record { parts = p.parts ∙ ap (λ (t : List ℕ). x ++ t) q.parts ∙ sym (append_assoc x y c); rest_fits = q.rest_fits }

-- ---- one field

pub record IsField (n : ℕ) (bytes field rest : List ℕ) : Type 0 where
  pub taken : Takes bytes field rest
  pub len : length field ≡ n
  pub fits : IsBytes field

pub field_takes : (n : ℕ) (bytes : List ℕ) (x : List ℕ × List ℕ) → IsBytes bytes → field_at n bytes ≡ Ok x → IsField n bytes x.0 x.1
field_takes n bytes x fits e =
    let g = guard_ok (ltb (length bytes) n) Short (take n bytes, drop n bytes) x e in
    let long : n ≤ length bytes = ltb-false _ _ g.0 in
    subst (λ (y : List ℕ × List ℕ). IsField n bytes y.0 y.1) g.1
    (record {
      taken = record { parts = sym (take-append-drop n bytes); rest_fits = IsBytes-drop n bytes fits };
      len = omega (arith, length-take n bytes);
      fits = IsBytes-take n bytes fits;
    })

pub field_again : (n : ℕ) (field rest : List ℕ) → length field ≡ n → field_at n (field ++ rest) ≡ Ok (field, rest)
field_again n field rest len = grind (arith, ltb, le-ltb, length-append, take_at, len, drop_at)

-- ---- numbers of 16 bits

pub word_front : (bytes : List ℕ) → IsBytes bytes → 2 ≤ length bytes → to_be_bytes w16 (from_be_bytes w16 (take 2 bytes)) ++ drop 2 bytes ≡ bytes
word_front bytes fits long = grind (arith, be_bytes_2, length-take, fits, take-append-drop)

abbrev pub word : ℕ → List ℕ
word n = to_be_bytes w16 n

-- the last number of a field
word_last : (bytes : List ℕ) → IsBytes bytes → length bytes ≡ 2 → word (from_be_bytes w16 (take 2 bytes)) ≡ bytes
word_last bytes fits len = grind (arith, nil_from_length, length-drop, append-nil, word_front, fits)

-- a number, and then what is known of the rest of the field
word_then : (k : ℕ) (field text : List ℕ) → IsBytes field → k + 2 ≤ length field → text ≡ drop (k + 2) field → word (from_be_bytes w16 (take 2 (drop k field))) ++ text ≡ drop k field
word_then k field text fits long e =
    let rest : text ≡ drop 2 (drop k field) = e ∙ sym (drop-drop 2 k field) in
    ap (λ (t : List ℕ). word (from_be_bytes w16 (take 2 (drop k field))) ++ t) rest
    ∙ word_front (drop k field) (IsBytes-drop k field fits) (omega (arith, length-drop k field))

word_ends : (k : ℕ) (field : List ℕ) → IsBytes field → length field ≡ k + 2 → word (from_be_bytes w16 (take 2 (drop k field))) ≡ drop k field
word_ends k field fits len = word_last (drop k field) (IsBytes-drop k field fits) (omega (arith, length-drop k field))

pub sides_of : (field : List ℕ) → IsBytes field → length field ≡ 4 → sides (size_in field) ≡ field
unfolding sides
sides_of field fits len = word_then 0 field (word (number 1 field)) fits (omega arith) (word_ends 2 field fits len)

pub drain_of : (field : List ℕ) → IsBytes field → length field ≡ 8 → drain (area_in field) ≡ field
unfolding drain
drain_of field fits len =
    word_then 0 field (word (number 1 field) ++ word (number 2 field) ++ word (number 3 field)) fits (omega arith)
    (word_then 2 field (word (number 2 field) ++ word (number 3 field)) fits (omega arith)
    (word_then 4 field (word (number 3 field)) fits (omega arith)
    (word_ends 6 field fits len)))

pub source_of : (field : List ℕ) → IsBytes field → length field ≡ 10 → source (source_in field) ≡ field
unfolding source drain
source_of field fits len =
    let w = λ (k : ℕ). word (number k field) in
    append_assoc (w 0) (w 1 ++ w 2 ++ w 3) (w 4)
    ∙ ap (λ (t : List ℕ). w 0 ++ t) (append_assoc (w 1) (w 2 ++ w 3) (w 4) ∙ ap (λ (t : List ℕ). w 1 ++ t) (append_assoc (w 2) (w 3) (w 4)))
    ∙ word_then 0 field (w 1 ++ w 2 ++ w 3 ++ w 4) fits (omega arith)
    (word_then 2 field (w 2 ++ w 3 ++ w 4) fits (omega arith)
    (word_then 4 field (w 3 ++ w 4) fits (omega arith)
    (word_then 6 field (w 4) fits (omega arith)
    (word_ends 8 field fits len))))

pub moment_of : (field : List ℕ) → IsBytes field → length field ≡ 8 → moment (tick_in field) ≡ field
unfolding moment
moment_of field fits len = grind (arith, fits, of_z-to_z, be_bytes_8, len)

pub counts_of : (field : List ℕ) → length field ≡ 2 → counts (counts_in field).0 (counts_in field).1 ≡ field
counts_of [] len = absurd (omega arith)
counts_of (a ∷ []) len = absurd (omega arith)
counts_of (a ∷ b ∷ []) len = refl
counts_of (a ∷ b ∷ d ∷ rest) len = absurd (omega arith)

-- ---- what each reader takes

named_by : (b c : Bool) (field rest bytes : List ℕ) (x : Version × List ℕ) → Decides b (field ≡ magic One) → Decides c (field ≡ magic Two) → Takes bytes field rest
    → cond b (Ok (One, rest)) (cond c (Ok (Two, rest)) (Err Magic)) ≡ done x → Takes bytes (magic x.0) x.1
named_by true c field rest bytes x p q taken e = subst (λ (y : Version × List ℕ). Takes bytes (magic y.0) y.1) (ok_is (One, rest) x e) (subst (λ (t : List ℕ). Takes bytes t rest) (p.0 refl) taken)
named_by false true field rest bytes x p q taken e = subst (λ (y : Version × List ℕ). Takes bytes (magic y.0) y.1) (ok_is (Two, rest) x e) (subst (λ (t : List ℕ). Takes bytes t rest) (q.0 refl) taken)
named_by false false field rest bytes x p q taken e = absurd cc

named : (field rest bytes : List ℕ) (x : Version × List ℕ) → Takes bytes field rest
    → cond (bytes_eq field (magic One)) (Ok (One, rest)) (cond (bytes_eq field (magic Two)) (Ok (Two, rest)) (Err Magic)) ≡ Ok x → Takes bytes (magic x.0) x.1
named field rest bytes x taken e = named_by (bytes_eq field (magic One)) (bytes_eq field (magic Two)) field rest bytes x (bytes_eq-Decides field (magic One)) (bytes_eq-Decides field (magic Two)) taken e

pub magic_takes : (bytes : List ℕ) (x : Version × List ℕ) → IsBytes bytes → magic_at bytes ≡ Ok x → Takes bytes (magic x.0) x.1
unfolding magic_at
magic_takes bytes x fits e =
    let b = bind_ok (field_at 8 bytes) (λ field. cond (bytes_eq field.0 (magic One)) (Ok (One, field.1)) (cond (bytes_eq field.0 (magic Two)) (Ok (Two, field.1)) (Err Magic))) x e in
    named b.0.0 b.0.1 bytes x (field_takes 8 bytes b.0 fits b.1).taken b.2

pub size_takes : (version : Version) (bytes : List ℕ) (x : Extent × List ℕ) → IsBytes bytes → size_at version bytes ≡ Ok x → Takes bytes (sides x.0) x.1 × (is_size_of version x.0 ≡ true)
unfolding size_at
size_takes version bytes x fits e =
    let b = bind_ok (field_at 4 bytes) (λ field. cond (is_size_of version (size_in field.0)) (Ok (size_in field.0, field.1)) (Err Size)) x e in
    let f = field_takes 4 bytes b.0 fits b.1 in
    let g = guarded (is_size_of version (size_in b.0.0)) Size (size_in b.0.0, b.0.1) x b.2 in
    subst (λ (y : Extent × List ℕ). Takes bytes (sides y.0) y.1 × (is_size_of version y.0 ≡ true)) g.1
    (subst (λ (t : List ℕ). Takes bytes t b.0.1) (sym (sides_of b.0.0 f.fits f.len)) f.taken, g.0)

pub tick_takes : (bytes : List ℕ) (x : ℤ × List ℕ) → IsBytes bytes → tick_at bytes ≡ Ok x → Takes bytes (moment x.0) x.1 × (is_tick x.0 ≡ true)
unfolding tick_at
tick_takes bytes x fits e =
    let b = bind_ok (field_at 8 bytes) (λ field. cond (is_tick (tick_in field.0)) (Ok (tick_in field.0, field.1)) (Err Tick)) x e in
    let f = field_takes 8 bytes b.0 fits b.1 in
    let g = guarded (is_tick (tick_in b.0.0)) Tick (tick_in b.0.0, b.0.1) x b.2 in
    subst (λ (y : ℤ × List ℕ). Takes bytes (moment y.0) y.1 × (is_tick y.0 ≡ true)) g.1
    (subst (λ (t : List ℕ). Takes bytes t b.0.1) (sym (moment_of b.0.0 f.fits f.len)) f.taken, g.0)

pub counts_takes : (bytes : List ℕ) (x : (ℕ × ℕ) × List ℕ) → IsBytes bytes → counts_at bytes ≡ Ok x → Takes bytes (counts x.0.0 x.0.1) x.1 × (are_few x.0 ≡ true)
unfolding counts_at
counts_takes bytes x fits e =
    let b = bind_ok (field_at 2 bytes) (λ field. cond (are_few (counts_in field.0)) (Ok (counts_in field.0, field.1)) (Err Port)) x e in
    let f = field_takes 2 bytes b.0 fits b.1 in
    let g = guarded (are_few (counts_in b.0.0)) Port (counts_in b.0.0, b.0.1) x b.2 in
    subst (λ (y : (ℕ × ℕ) × List ℕ). Takes bytes (counts y.0.0 y.0.1) y.1 × (are_few y.0 ≡ true)) g.1
    (subst (λ (t : List ℕ). Takes bytes t b.0.1) (sym (counts_of b.0.0 f.len)) f.taken, g.0)

pub drain_takes : (size : Extent) (bytes : List ℕ) (x : Rectangle × List ℕ) → IsBytes bytes → drain_at size bytes ≡ Ok x → Takes bytes (drain x.0) x.1 × (lies_within size x.0 ≡ true)
unfolding drain_at
drain_takes size bytes x fits e =
    let b = bind_ok (field_at 8 bytes) (λ field. cond (lies_within size (area_in field.0)) (Ok (area_in field.0, field.1)) (Err Port)) x e in
    let f = field_takes 8 bytes b.0 fits b.1 in
    let g = guarded (lies_within size (area_in b.0.0)) Port (area_in b.0.0, b.0.1) x b.2 in
    subst (λ (y : Rectangle × List ℕ). Takes bytes (drain y.0) y.1 × (lies_within size y.0 ≡ true)) g.1
    (subst (λ (t : List ℕ). Takes bytes t b.0.1) (sym (drain_of b.0.0 f.fits f.len)) f.taken, g.0)

-- a source that a lattice of the size may have
abbrev pub suits : Extent → Source → Bool
suits size s = lies_within size s.area && is_period s.period

pub source_takes : (size : Extent) (bytes : List ℕ) (x : Source × List ℕ) → IsBytes bytes → source_at size bytes ≡ Ok x → Takes bytes (source x.0) x.1 × (suits size x.0 ≡ true)
unfolding source_at
source_takes size bytes x fits e =
    let b = bind_ok (field_at 10 bytes) (λ field. cond (suits size (source_in field.0)) (Ok (source_in field.0, field.1)) (Err Port)) x e in
    let f = field_takes 10 bytes b.0 fits b.1 in
    let g = guarded (suits size (source_in b.0.0)) Port (source_in b.0.0, b.0.1) x b.2 in
    subst (λ (y : Source × List ℕ). Takes bytes (source y.0) y.1 × (suits size y.0 ≡ true)) g.1
    (subst (λ (t : List ℕ). Takes bytes t b.0.1) (sym (source_of b.0.0 f.fits f.len)) f.taken, g.0)

-- so many of one kind
pub many_take : {A : Type 0} (one_at : List ℕ → Result (A × List ℕ) SnapFault) (text : A → List ℕ) (test : A → Bool)
    → ((bytes : List ℕ) (x : A × List ℕ) → IsBytes bytes → one_at bytes ≡ Ok x → Takes bytes (text x.0) x.1 × (test x.0 ≡ true))
    → (n : ℕ) (bytes : List ℕ) (x : List A × List ℕ) → IsBytes bytes → many one_at n bytes ≡ Ok x → Takes bytes (flat_map text x.0) x.1 × (length x.0 ≡ n) × AllByRecursion (λ a. test a ≡ true) x.0
unfolding many
many_take {A = A} one_at text test one zero bytes x fits e =
    subst (λ (y : List A × List ℕ). Takes bytes (flat_map text y.0) y.1 × (length y.0 ≡ 0) × AllByRecursion (λ a. test a ≡ true) y.0) (ok_is ([], bytes) x e) (record { parts = refl; rest_fits = fits }, refl, tt)
many_take {A = A} one_at text test one (suc n) bytes x fits e =
    let a = bind_ok (one_at bytes) (λ first. many one_at n first.1 >>= λ others. Ok (first.0 ∷ others.0, others.1)) x e in
    let b = bind_ok (many one_at n a.0.1) (λ others. Ok (a.0.0 ∷ others.0, others.1)) x a.2 in
    let first = one bytes a.0 fits a.1 in
    let second = many_take one_at text test one n a.0.1 b.0 first.0.rest_fits b.1 in
    let both = then_takes bytes (text a.0.0) a.0.1 (flat_map text b.0.0) b.0.1 first.0 second.0 in
    let made : List A × List ℕ = (a.0.0 ∷ b.0.0, b.0.1) in
    subst (λ (y : List A × List ℕ). Takes bytes (flat_map text y.0) y.1 × (length y.0 ≡ suc n) × AllByRecursion (λ a. test a ≡ true) y.0) (ok_is made x b.2) (both, ap suc second.1, (first.1, second.2))

-- ---- what was written is read again

word_back : (n : ℕ) → n < 2 ^ 16 → from_be_bytes w16 (word n) ≡ n
word_back n lt = from_be_bytes-to_be_bytes_2 n lt

abbrev pub made_size : ℕ → ℕ → Extent
made_size w h = record { width = w; height = h }

pub size_again : (version : Version) (size : Extent) (rest : List ℕ) → is_size_of version size ≡ true → size.width < 2 ^ 16 → size.height < 2 ^ 16 → size_at version (sides size ++ rest) ≡ Ok (size, rest)
unfolding size_at sides
size_again version size rest ok wide high =
    let field = word size.width ++ word size.height in
    let same : size_in field ≡ size = ap (λ (w : ℕ). made_size w (number 1 field)) (word_back size.width wide) ∙ ap (λ (h : ℕ). made_size size.width h) (word_back size.height high) in
    ap (λ (r : Result (List ℕ × List ℕ) SnapFault). r >>= λ field. cond (is_size_of version (size_in field.0)) (Ok (size_in field.0, field.1)) (Err Size)) (field_again 4 field rest refl)
    ∙ ap (λ (s : Extent). cond (is_size_of version s) (Ok (s, rest)) (Err Size)) same
    ∙ ap (λ (b : Bool). cond b (Ok (size, rest)) (Err Size)) ok

tick_fits : (tick : ℤ) → is_tick tick ≡ true → FitsSigned w64 tick
tick_fits tick ok = grind (arith, nat_abs, leb-true, fits_signed_from_abs)

unsigned_below : (tick : ℤ) → is_tick tick ≡ true → cast_unsigned w64 tick < 2 ^ 64
unsigned_below tick ok = (laws.of_z_fits w64 tick (tick_fits tick ok)).fits

pub tick_again : (tick : ℤ) (rest : List ℕ) → is_tick tick ≡ true → tick_at (moment tick ++ rest) ≡ Ok (tick, rest)
unfolding tick_at moment
tick_again tick rest ok = grind (arith, from_be_bytes-to_be_bytes_8, unsigned_below, to_z-of_z, tick_fits, field_again)

pub counts_again : (drains sources : ℕ) (rest : List ℕ) → are_few (drains, sources) ≡ true → counts_at (counts drains sources ++ rest) ≡ Ok ((drains, sources), rest)
unfolding counts_at
counts_again drains sources rest ok = grind (arith, field_again)

-- a rectangle whose numbers have 16 bits
pub record IsSmall (r : Rectangle) : Type 0 where
  pub x : r.x < 2 ^ 16
  pub y : r.y < 2 ^ 16
  pub w : r.w < 2 ^ 16
  pub h : r.h < 2 ^ 16

abbrev made_area : ℕ → ℕ → ℕ → ℕ → Rectangle
made_area x y w h = record { x = x; y = y; w = w; h = h }

area_back : (r : Rectangle) → IsSmall r → made_area (from_be_bytes w16 (word r.x)) (from_be_bytes w16 (word r.y)) (from_be_bytes w16 (word r.w)) (from_be_bytes w16 (word r.h)) ≡ r
area_back r small =
    ap (λ (x : ℕ). made_area x (from_be_bytes w16 (word r.y)) (from_be_bytes w16 (word r.w)) (from_be_bytes w16 (word r.h))) (word_back r.x small.x)
    ∙ ap (λ (y : ℕ). made_area r.x y (from_be_bytes w16 (word r.w)) (from_be_bytes w16 (word r.h))) (word_back r.y small.y)
    ∙ ap (λ (w : ℕ). made_area r.x r.y w (from_be_bytes w16 (word r.h))) (word_back r.w small.w)
    ∙ ap (λ (h : ℕ). made_area r.x r.y r.w h) (word_back r.h small.h)

pub drain_again : (size : Extent) (r : Rectangle) (rest : List ℕ) → IsSmall r → lies_within size r ≡ true → drain_at size (drain r ++ rest) ≡ Ok (r, rest)
unfolding drain_at drain
drain_again size r rest small ok = grind (arith, area_back, field_again)

pub source_again : (size : Extent) (s : Source) (rest : List ℕ) → IsSmall s.area → s.period < 2 ^ 16 → suits size s ≡ true → source_at size (source s ++ rest) ≡ Ok (s, rest)
unfolding source_at source drain
source_again size s rest small low ok = grind (arith, area_back, word_back, field_again)

pub magic_again : (version : Version) (rest : List ℕ) → magic_at (magic version ++ rest) ≡ Ok (version, rest)
unfolding magic_at
magic_again One rest = ap (λ (r : Result (List ℕ × List ℕ) SnapFault). r >>= λ field. cond (bytes_eq field.0 (magic One)) (Ok (One, field.1)) (cond (bytes_eq field.0 (magic Two)) (Ok (Two, field.1)) (Err Magic))) (field_again 8 (magic One) rest refl)
magic_again Two rest = ap (λ (r : Result (List ℕ × List ℕ) SnapFault). r >>= λ field. cond (bytes_eq field.0 (magic One)) (Ok (One, field.1)) (cond (bytes_eq field.0 (magic Two)) (Ok (Two, field.1)) (Err Magic))) (field_again 8 (magic Two) rest refl)

pub many_again : {A : Type 0} (one_at : List ℕ → Result (A × List ℕ) SnapFault) (text : A → List ℕ) (Good : A → Type 0)
    → ((a : A) (rest : List ℕ) → Good a → one_at (text a ++ rest) ≡ Ok (a, rest))
    → (xs : List A) (rest : List ℕ) → AllByRecursion Good xs → many one_at (length xs) (flat_map text xs ++ rest) ≡ Ok (xs, rest)
unfolding many
many_again one_at text Good one [] rest good = refl
many_again one_at text Good one (x ∷ xs) rest good =
    let regrouped : flat_map text (x ∷ xs) ++ rest ≡ text x ++ (flat_map text xs ++ rest) = append_assoc (text x) (flat_map text xs) rest in
    ap (many one_at (suc (length xs))) regrouped ∙ rw (one x (flat_map text xs ++ rest) good.0, many_again one_at text Good one xs rest good.1) refl
