-- What seats made in all, each with a number of its own, is no more than a journal has that begins with what each has seen.
use Rattle.std.proofs.Common.{◌≡◌, ℕ, suc, ◌+◌, ◌<◌, ◌≤◌, cond, eqb, nat_lt, List, [], ◌∷◌, ◌++◌, All, get_or, length, length-append, Result, Some, slice_get, refl, sym, ap, ◌∙◌, inl, inr, arith}
use Rattle.std.proofs.lemmas.List.{length-map, map-append}
use Rattle.std.proofs.Math.ListN.{get_or-map}
use Rattle.std.proofs.lemmas.Option.{get_or_from_slice_get, slice_get-get_or, slice_get_within}
use Rattle.std.specs.List.{sum, sum_by}
use Rattle.std.specs.Prelude.{map}
use Rattle.std.proofs.lemmas.List.Elements.{filter-append}
use Rattle.std.proofs.lemmas.List.Sums.{sum-map, sum_by-cons}
use Rattle.gas_terms.specs.declared.command.Entry.{Entry}
use Rattle.gas_terms.specs.declared.command.Command.TheVariants.{Ledger}
use Rattle.gas_terms.specs.declared.answer.Answer.{Answer}
use Rattle.gas_terms.specs.declared.refusal.Refusal.{Refusal}
use Rattle.gas_terms.specs.Gas.{Gas}
use Rattle.gas_terms.specs.Laboratory.{Laboratory, IsPrefix, Applies}
use Rattle.gas_lab.specs.Labs.{entry_of}
use Rattle.atomic_table.specs.Seated.{TableId}
use Rattle.gas_seats.specs.TurnSeats.{TurnSeatView, but_for_seen, entries_made, opening_seat, AsksInTurn}
use Rattle.gas_terms.specs.Laboratory.{made_by}
use Rattle.gas_seats.proofs.Numbered.{all_of_rule}
use Rattle.gas_hall.proofs.Turns.{all_same, same_through}

-- how many entries are of seats from n on
abbrev from_on : ℕ → List Entry → ℕ
from_on n [] = 0
from_on n (e ∷ es) = cond (nat_lt e.seat n) 0 1 + from_on n es

no_more : (n : ℕ) (es : List Entry) → from_on n es ≤ length es
no_more n [] = omega arith
no_more n (e ∷ es) = let rest = no_more n es in grind (arith, rest)

first_of : (n : ℕ) (es : List Entry) → from_on n es ≡ length (made_by n es) + from_on (n + 1) es
first_of n [] = refl
first_of n (e ∷ es) = let rest = first_of n es in grind (arith, rest)

seen_before : (n : ℕ) (seen journal : List Entry) → IsPrefix seen journal → length (made_by n seen) ≤ length (made_by n journal)
seen_before n seen journal p =
    let parts : length (made_by n journal) ≡ length (made_by n seen) + length (made_by n p.0) =
    ap (λ l. length (made_by n l)) p.1 ∙ ap length (filter-append (λ e. eqb e.seat n) seen p.0) ∙ length-append (made_by n seen) (made_by n p.0) in
    omega (arith, parts)

fit_from : (n : ℕ) (xs : List TurnSeatView) (journal : List Entry) → ((i : ℕ) (x : TurnSeatView) → slice_get xs i ≡ Some x → x.number ≡ n + i)
    → All (λ x. IsPrefix x.seen journal) xs → sum_by entries_made xs ≤ from_on n journal
fit_from n [] journal numbers seen = omega arith
fit_from n (x ∷ xs) journal numbers seen =
    let first : x.number ≡ n = numbers 0 x refl ∙ omega arith in
    let own : entries_made x ≡ length (made_by n x.seen) = ap (λ m. length (made_by m x.seen)) first in
    let here = seen_before n x.seen journal (seen 0 x (omega arith)) in
    let rest = fit_from (n + 1) xs journal (λ i y is. numbers (suc i) y is ∙ omega arith) (λ k d lt. seen (suc k) d (omega (arith, lt))) in
    let parts = first_of n journal in
    let sum = sum_by-cons entries_made x xs in
    omega (arith, own, here, rest, parts, sum)

-- seats that are numbered from 0 made no more entries than the journal has.
all_fit : (xs : List TurnSeatView) (journal : List Entry) → ((i : ℕ) (x : TurnSeatView) → slice_get xs i ≡ Some x → x.number ≡ i)
    → All (λ x. IsPrefix x.seen journal) xs → sum_by entries_made xs ≤ length journal
all_fit xs journal numbers seen =
    let most = fit_from 0 xs journal (λ i x is. numbers i x is ∙ omega arith) seen in
    let few = no_more 0 journal in
    omega (arith, most, few)

-- an item of a list has one that is the same under f in a list that is.
item_same : {X Y : Type 0} (f : X → Y) (xs ys : List X) → map f xs ≡ map f ys → (i : ℕ) (x : X) → slice_get xs i ≡ Some x
    → (y : X) × (i < length ys) × (slice_get ys i ≡ Some y) × (f x ≡ f y)
item_same f xs ys same i x is =
    let inside = slice_get_within xs i x is in
    let long = sym (length-map xs f) ∙ ap length same ∙ length-map ys f in
    let within : i < length ys = omega (arith, inside, long) in (
      get_or ys i x,
      within,
      slice_get-get_or ys i x within,
      ap f (sym (get_or_from_slice_get xs i x x is)) ∙ sym (get_or-map f xs i x) ∙ ap (λ l. get_or l i (f x)) same ∙ get_or-map f ys i x,
    )

-- lists that are the same under f but for the items at their ends, which are too
pub same_at_end : {X Y : Type 0} (f : X → Y) (before after left : List X) (x y : X) → before ≡ left ++ x ∷ [] → after ≡ left ++ y ∷ [] → f y ≡ f x → map f after ≡ map f before
same_at_end f before after left x y is more same =
    ap (map f) more ∙ map-append f left (y ∷ []) ∙ ap (λ z. map f left ++ z ∷ []) same ∙ sym (map-append f left (x ∷ [])) ∙ ap (map f) (sym is)

-- what is the same under f is under what f does not change
pub numbers_stay : (before after : List TurnSeatView) → map but_for_seen after ≡ map but_for_seen before
    → ((i : ℕ) (x : TurnSeatView) → slice_get before i ≡ Some x → x.number ≡ i) → (i : ℕ) (x : TurnSeatView) → slice_get after i ≡ Some x → x.number ≡ i
numbers_stay before after same numbers i x is =
    let found = item_same but_for_seen after before same i x is in
    ap (λ (s : TurnSeatView). s.number) found.3 ∙ numbers i found.0 found.2

-- A seat that asks for the ledger sees the journal that it finds, and made no entry.
ledger_leaves : (lab next : Laboratory) (number : ℕ) (reply : Result Answer Refusal) → Applies lab (entry_of number Ledger) reply next → next ≡ lab
ledger_leaves lab next number reply (inl h) = h.1
ledger_leaves lab next number reply (inr h) = h.3

pub made_at_ledger : (old : TurnSeatView) (reply : Result Answer Refusal) (new : TurnSeatView) → AsksInTurn old Ledger reply new → entries_made new ≡ entries_made old
made_at_ledger old reply new h =
    let same = ledger_leaves h.0 h.1 old.number reply h.4 in
    let seen : new.seen ≡ h.0.journal = ap (λ (s : TurnSeatView). s.seen) h.5 ∙ ap (λ (l : Laboratory). l.journal) same in
    let number : new.number ≡ old.number = ap (λ (s : TurnSeatView). s.number) h.5 in
    ap (λ n. length (made_by n new.seen)) number ∙ ap (λ l. length (made_by old.number l)) seen ∙ ap length h.2.own

-- The seats have seen no more than the last of them, which asked for the ledger: the journal has room for what they made.
pub room_for_all : (old : TurnSeatView) (reply : Result Answer Refusal) (new : TurnSeatView) → AsksInTurn old Ledger reply new
    → (seats : List TurnSeatView) → ((i : ℕ) (x : TurnSeatView) → slice_get seats i ≡ Some x → x.number ≡ i) → All (λ s. IsPrefix s.seen new.seen) seats
    → (opened : Gas × ℕ) → old.opened ≡ Some opened → sum_by entries_made seats ≤ opened.1
room_for_all old reply new h seats numbers all opened knows =
    let fit = all_fit seats new.seen numbers all in
    let seen : new.seen ≡ h.1.journal = ap (λ (s : TurnSeatView). s.seen) h.5 in
    let long = ap length seen in
    let room = h.3.admitted.room in
    let cap : h.1.cap ≡ h.0.cap = ap (λ (l : Laboratory). l.cap) (ledger_leaves h.0 h.1 old.number reply h.4) in
    let both : Some opened ≡ Some (h.0.start, h.0.cap) = sym knows ∙ h.2.opened in
    let known : opened ≡ (h.0.start, h.0.cap) = cc both in
    let caps : opened.1 ≡ h.0.cap = ap (λ (k : Gas × ℕ). k.1) known in
    omega (arith, fit, long, room, cap, caps)

-- What the seats opened with stays.
pub opened_stays : (lab : Laboratory) (before after : List TurnSeatView) → map but_for_seen after ≡ map but_for_seen before
    → All (λ s. s.opened ≡ Some (lab.start, lab.cap)) before → All (λ s. s.opened ≡ Some (lab.start, lab.cap)) after
opened_stays lab before after same all =
    all_same (λ (s : TurnSeatView). s.opened) (Some (lab.start, lab.cap)) after before (same_through (λ (s : TurnSeatView). s.opened) but_for_seen (λ s. refl) after before same) all

-- No seat has made an entry when a hall opens.
pub none_made : (hall : TableId) (lab : Laboratory) (count : ℕ) (before : List TurnSeatView) → length before ≡ count
    → ((i : ℕ) → i < count → slice_get before i ≡ Some (opening_seat hall lab i)) → All (λ s. entries_made s ≡ 0) before
none_made hall lab count before long opened =
    all_of_rule (λ (s : TurnSeatView). entries_made s ≡ 0) (opening_seat hall lab) before (λ i. refl) (λ i below. opened i (omega (arith, below, long)))

-- the sum is that of the same counts
pub same_sum : (before after : List TurnSeatView) → map entries_made after ≡ map entries_made before → sum_by entries_made after ≡ sum_by entries_made before
same_sum before after same = sym (sum-map entries_made after) ∙ ap sum same ∙ sum-map entries_made before

-- Seats that were served bear the numbers that they opened with.
pub numbers_kept : (hall : TableId) (lab : Laboratory) (count : ℕ) (now before : List TurnSeatView) → map but_for_seen now ≡ map but_for_seen before
    → length before ≡ count → ((i : ℕ) → i < count → slice_get before i ≡ Some (opening_seat hall lab i))
    → (i : ℕ) (seat : TurnSeatView) → slice_get now i ≡ Some seat → seat.number ≡ i
numbers_kept hall lab count now before same long opened i seat is =
    let found = item_same but_for_seen now before same i seat is in
    let at = opened i (let below = found.1 in omega (arith, below, long)) in
    let both : found.0 ≡ opening_seat hall lab i = (let one = sym found.2 ∙ at in cc one) in
    ap (λ (s : TurnSeatView). s.number) (found.3 ∙ ap but_for_seen both)

-- and they know the laboratory that they opened with
pub opened_kept : (hall : TableId) (lab : Laboratory) (count : ℕ) (now before : List TurnSeatView) → map but_for_seen now ≡ map but_for_seen before
    → length before ≡ count → ((i : ℕ) → i < count → slice_get before i ≡ Some (opening_seat hall lab i))
    → All (λ s. s.opened ≡ Some (lab.start, lab.cap)) now
opened_kept hall lab count now before same long opened =
    all_same (λ (s : TurnSeatView). s.opened) (Some (lab.start, lab.cap)) now before (same_through (λ (s : TurnSeatView). s.opened) but_for_seen (λ s. refl) now before same)
    (all_of_rule (λ (s : TurnSeatView). s.opened ≡ Some (lab.start, lab.cap)) (opening_seat hall lab) before (λ i. refl) (λ i below. opened i (omega (arith, below, long))))
