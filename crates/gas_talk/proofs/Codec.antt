-- What a `LinesCodec` finds are the items.
use Rattle.std.proofs.Common.{◌≡◌, ◌≢◌, ℕ, suc, ◌+◌, ◌<◌, ◌≤◌, nat_lt, nat_eq, Bool, true, false, cond, ◌&&◌, List, [], ◌∷◌, ◌++◌, length, get_or, take, drop, Ok, Err, String, string_bytes, Global, refl, sym, ap, ◌∙◌, subst, inl, inr, arith, length-take, length-drop}
use Rattle.std.proofs.lemmas.Bool.{cases_lt, le-leb, lt-ltb}
use Rattle.std.proofs.lemmas.Bool.Decides.{nat_tests}
use Rattle.std.proofs.lemmas.Str.{is_utf8-from_IsUtf8, IsUtf8-from_is_utf8, IsUtf8-string_bytes}
use Rattle.std.specs.List.{position_or_len, before_first, after_first}
use Rattle.std.specs.Str.{is_utf8, IsUtf8}
use Rattle.std.specs.IoError.{error_kind}
use Rattle.std.specs.declared.io.Error.{Error}
use Rattle.std.specs.declared.io.ErrorKind.TheVariants.{OutOfMemory}
use Rattle.tokio_util.specs.declared.codec.lines_codec.LinesCodec.{LinesCodec}
use Rattle.tokio_util.specs.declared.codec.lines_codec.LinesCodecError.TheVariants.{MaxLineLengthExceeded, Io}
use Rattle.tokio_util.specs.Codec.Next.{decoded, partial, Resumes}
use Rattle.tokio_util.specs.Codec.Lines.{newline_from, without_carriage_return, at_line_start, Scan, line, too_long, unfinished, read_line, skip_line, scan, Answers, IsUnfinished, gives_lines}
use Rattle.tokio_util.specs.Codec.LinesLaws.{read_line_found, read_line_long, read_line_short, skip_line_found, skip_line_missing, lines_stable}
use Rattle.tokio_util.proofs.CodecLemmas.Next.{Resumes_now}
use Rattle.gas_talk.specs.Lines.{Item, text, bad, line_limit, is_newline, line_text, is_good, lines}
use Rattle.gas_talk.proofs.Cutting.{lines_found, lines_missing}

-- the codec drops the same carriage return
onto : (test : Bool) (b : ℕ) (xs ys : List ℕ) → cond test (b ∷ xs) (b ∷ ys) ≡ b ∷ cond test xs ys
onto true b xs ys = refl
onto false b xs ys = refl

codec_text : (xs : List ℕ) (n : ℕ) → length xs ≡ suc n → without_carriage_return xs ≡ cond (nat_eq (get_or xs n 0) 13) (take n xs) xs
unfolding without_carriage_return
codec_text xs n len = grind (arith, nat_lt, lt-ltb)

same_text_more : (b c : ℕ) (bs : List ℕ) → without_carriage_return (b ∷ c ∷ bs) ≡ b ∷ without_carriage_return (c ∷ bs)
same_text_more b c bs =
    codec_text (b ∷ c ∷ bs) (suc (length bs)) refl
    ∙ onto (nat_eq (get_or (c ∷ bs) (length bs) 0) 13) b (take (length bs) (c ∷ bs)) (c ∷ bs)
    ∙ ap (λ zs. b ∷ zs) (sym (codec_text (c ∷ bs) (length bs) refl))

pub same_text : (xs : List ℕ) → without_carriage_return xs ≡ line_text xs
unfolding without_carriage_return
same_text [] = refl
same_text (b ∷ []) = codec_text (b ∷ []) 0 refl
same_text (b ∷ c ∷ bs) = same_text_more b c bs ∙ ap (λ zs. b ∷ zs) (same_text (c ∷ bs))

first_newline : (xs : List ℕ) → newline_from 0 xs ≡ position_or_len is_newline xs
unfolding newline_from
first_newline xs = omega arith

-- the items, by what the codec finds first
abbrev pub items_at : Scan → List Item
items_at (line front rest) = cond (is_utf8 front) (text front ∷ lines rest) (bad ∷ [])
items_at (too_long rest) = bad ∷ []
items_at (unfinished is_dropped kept) = []

good_front : (xs : List ℕ) → position_or_len is_newline xs ≤ line_limit → is_good (before_first is_newline xs) ≡ is_utf8 (line_text (before_first is_newline xs))
good_front xs short = ap (λ b. b && is_utf8 (line_text (before_first is_newline xs))) (le-leb _ _ (omega (arith, length-take (position_or_len is_newline xs) xs)))

long_front : (xs : List ℕ) → position_or_len is_newline xs < length xs → line_limit < position_or_len is_newline xs → is_good (before_first is_newline xs) ≡ false
long_front xs found far = let e : length (take (position_or_len is_newline xs) xs) ≡ position_or_len is_newline xs = omega (arith, length-take (position_or_len is_newline xs) xs) in grind (arith, nat_tests)

found_line : (xs : List ℕ) → position_or_len is_newline xs < length xs → position_or_len is_newline xs ≤ line_limit → read_line line_limit 0 xs ≡ line (line_text (before_first is_newline xs)) (after_first is_newline xs)
found_line xs found near =
    let place = first_newline xs in
    read_line_found line_limit 0 xs (omega arith) (omega arith)
    ∙ rw (place, same_text (before_first is_newline xs))

pub lines_read : (xs : List ℕ) → lines xs ≡ items_at (read_line line_limit 0 xs)
lines_read xs =
    let place = first_newline xs in
    let n = position_or_len is_newline xs in
    elim (cases_lt n (length xs)) [
      | inl found ↦ lines_found xs found ∙ elim (cases_lt line_limit n) [
        | inl far ↦ rw (long_front xs found far, read_line_long line_limit 0 xs (omega arith) (omega arith))
        | inr near ↦ rw (good_front xs near, found_line xs found near)
      ]
      | inr missing ↦ lines_missing xs missing ∙ elim (cases_lt line_limit (length xs)) [
        | inl long ↦ rw (read_line_long line_limit 0 xs (omega arith) long) (grind (arith, nat_tests))
        | inr short ↦ rw (read_line_short line_limit 0 xs (omega arith) short, le-leb (length xs) line_limit short)
      ]
    ]

pub items_line : (s : Scan) (x : String Global) (t : LinesCodec) (zs : List ℕ) → Answers line_limit s (Ok x) t zs → (items_at s ≡ text (string_bytes x) ∷ lines zs) × (t ≡ at_line_start line_limit)
items_line (line front rest) x t zs (inl h) = (
  ap (λ b. cond b (text front ∷ lines rest) (bad ∷ [])) (is_utf8-from_IsUtf8 front (subst IsUtf8 h.0 (IsUtf8-string_bytes x)))
      ∙ rw (h.0, h.2),
  h.1,
)
items_line (line front rest) x t zs (inr h) = absurd h.0
items_line (too_long rest) x t zs h = cc
items_line (unfinished is_dropped kept) x t zs h = absurd h

pub items_long : (s : Scan) (t : LinesCodec) (zs : List ℕ) → Answers line_limit s (Err MaxLineLengthExceeded) t zs → items_at s ≡ bad ∷ []
items_long (line front rest) t zs (inl h) = absurd h.0
items_long (line front rest) t zs (inr h) = absurd h.0
items_long (too_long rest) t zs h = refl
items_long (unfinished is_dropped kept) t zs h = absurd h

not_text : (front : List ℕ) → ¬ (IsUtf8 front) → is_utf8 front ≡ false
not_text front h = elim (is_utf8 front) as (λ b. is_utf8 front ≡ b → b ≡ false) [ true ↦ λ e. absurd (h (IsUtf8-from_is_utf8 front e)) | false ↦ λ _. refl ] refl

pub items_bad : (s : Scan) (e : Error) (t : LinesCodec) (zs : List ℕ) → error_kind e ≢ OutOfMemory → Answers line_limit s (Err (Io e)) t zs → items_at s ≡ bad ∷ []
items_bad (line front rest) e t zs other (inl h) = ap (λ b. cond b (text front ∷ lines rest) (bad ∷ [])) (not_text front h.0.1)
items_bad (line front rest) e t zs other (inr h) = absurd (other h.0)
items_bad (too_long rest) e t zs other h = refl
items_bad (unfinished is_dropped kept) e t zs other h = absurd h

pub items_unfinished : (s : Scan) → IsUnfinished s → items_at s ≡ []
items_unfinished (line front rest) h = absurd h
items_unfinished (too_long rest) h = absurd h
items_unfinished (unfinished is_dropped kept) h = refl

-- a line that is found leaves less
abbrev LeavesLess : ℕ → Scan → Type 0
LeavesLess len (line front rest) = length rest < len
LeavesLess len (too_long rest) = Unit {0}
LeavesLess len (unfinished is_dropped kept) = Unit {0}

less_after_line : (limit from : ℕ) (xs : List ℕ) → LeavesLess (length xs) (read_line limit from xs)
less_after_line limit from xs =
    let n = newline_from from xs in
    elim (cases_lt limit n) [
      | inl far ↦ elim (cases_lt limit (length xs)) [
        | inl long ↦ rw (read_line_long limit from xs far long) tt
        | inr short ↦ rw (read_line_short limit from xs (omega arith) short) tt
      ]
      | inr near ↦ elim (cases_lt n (length xs)) [
        | inl found ↦ rw (read_line_found limit from xs found near) (omega (arith, length-drop (n + 1) xs))
        | inr missing ↦ rw (read_line_short limit from xs missing (omega arith)) tt
      ]
    ]

-- less than some part of the bytes is less than all of them
less_of_more : (a b : ℕ) (s : Scan) → a ≤ b → LeavesLess a s → LeavesLess b s
less_of_more a b (line front rest) le less = omega arith
less_of_more a b (too_long rest) le less = tt
less_of_more a b (unfinished is_dropped kept) le less = tt

less_after_skip : (limit : ℕ) (xs : List ℕ) → LeavesLess (length xs) (skip_line limit xs)
less_after_skip limit xs =
    let n = newline_from 0 xs in
    elim (cases_lt n (length xs)) [
      | inl found ↦ rw (skip_line_found limit xs found) (less_of_more _ _ (read_line limit 0 (drop (n + 1) xs)) (omega (arith, length-drop (n + 1) xs)) (less_after_line limit 0 (drop (n + 1) xs)))
      | inr missing ↦ rw (skip_line_missing limit xs missing) tt
    ]

less_after_scan : (c : LinesCodec) (xs : List ℕ) → LeavesLess (length xs) (scan c xs)
less_after_scan c xs = grind (arith, less_after_skip, less_after_line)

less_after : (len : ℕ) (limit : ℕ) (s : Scan) (x : String Global) (t : LinesCodec) (zs : List ℕ) → LeavesLess len s → Answers limit s (Ok x) t zs → length zs < len
less_after len limit (line front rest) x t zs less (inl h) = rw h.2 less
less_after len limit (line front rest) x t zs less (inr h) = absurd h.0
less_after len limit (too_long rest) x t zs less h = cc
less_after len limit (unfinished is_dropped kept) x t zs less h = absurd h

pub shorter_line : (c : LinesCodec) (xs : List ℕ) (x : String Global) (t : LinesCodec) (zs : List ℕ) → gives_lines c xs (decoded (Ok x) t zs) → length zs < length xs
shorter_line c xs x t zs h = less_after (length xs) c.max_length (scan c xs) x t zs (less_after_scan c xs) h

-- What the codec finds over bytes that read as the unread ones.
pub found_line_is_item : (c : LinesCodec) (kept unread : List ℕ) (x : String Global) (t : LinesCodec) (zs : List ℕ) → Resumes gives_lines (at_line_start line_limit) unread c kept → gives_lines c kept (decoded (Ok x) t zs) → (t ≡ at_line_start line_limit) × ((more : List ℕ) → lines (unread ++ more) ≡ text (string_bytes x) ∷ lines (zs ++ more))
found_line_is_item c kept unread x t zs resumes h =
    let here = Resumes_now gives_lines (at_line_start line_limit) unread c kept (decoded (Ok x) t zs) resumes h in (
      (items_line (scan (at_line_start line_limit) unread) x t zs here).1,
      λ more. lines_read (unread ++ more) ∙ (items_line (scan (at_line_start line_limit) (unread ++ more)) x t (zs ++ more) (lines_stable (at_line_start line_limit) unread (Ok x) t zs more here)).0,
    )

pub found_long_is_bad : (c : LinesCodec) (kept unread : List ℕ) (t : LinesCodec) (zs : List ℕ) → Resumes gives_lines (at_line_start line_limit) unread c kept → gives_lines c kept (decoded (Err MaxLineLengthExceeded) t zs) → (more : List ℕ) → lines (unread ++ more) ≡ bad ∷ []
found_long_is_bad c kept unread t zs resumes h more =
    lines_read (unread ++ more) ∙ items_long (scan (at_line_start line_limit) (unread ++ more)) t (zs ++ more) (lines_stable (at_line_start line_limit) unread (Err MaxLineLengthExceeded) t zs more (Resumes_now gives_lines (at_line_start line_limit) unread c kept (decoded (Err MaxLineLengthExceeded) t zs) resumes h))

pub found_bad : (c : LinesCodec) (kept unread : List ℕ) (e : Error) (t : LinesCodec) (zs : List ℕ) → error_kind e ≢ OutOfMemory → Resumes gives_lines (at_line_start line_limit) unread c kept → gives_lines c kept (decoded (Err (Io e)) t zs) → (more : List ℕ) → lines (unread ++ more) ≡ bad ∷ []
found_bad c kept unread e t zs other resumes h more =
    lines_read (unread ++ more) ∙ items_bad (scan (at_line_start line_limit) (unread ++ more)) e t (zs ++ more) other (lines_stable (at_line_start line_limit) unread (Err (Io e)) t zs more (Resumes_now gives_lines (at_line_start line_limit) unread c kept (decoded (Err (Io e)) t zs) resumes h))

pub found_none : (c : LinesCodec) (kept unread : List ℕ) (t : LinesCodec) (zs : List ℕ) → Resumes gives_lines (at_line_start line_limit) unread c kept → gives_lines t zs partial → Resumes gives_lines c kept t zs → lines unread ≡ []
found_none c kept unread t zs resumes none more =
    lines_read unread ∙ items_unfinished (scan (at_line_start line_limit) unread) (Resumes_now gives_lines (at_line_start line_limit) unread c kept partial resumes (Resumes_now gives_lines c kept t zs partial more none))
