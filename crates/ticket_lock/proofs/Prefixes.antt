-- Lists that begin other lists, and the entries of one number in them.
use Rattle.std.proofs.Common.{◌≡◌, ◌≢◌, ℕ, suc, ◌<◌, ◌≤◌, Bool, false, cond, eqb, List, [], ◌∷◌, ◌++◌, All, length, length-append, append_assoc, refl, sym, ap, ◌∙◌, arith, ne_eqb}
use Rattle.std.proofs.lemmas.List.{append-nil, nil_from_length}
use Rattle.std.proofs.lemmas.List.Elements.{filter-append}
use Rattle.std.proofs.lemmas.Bool.{lt-ltb, le-ltb}
use mathlib.Core.List.{IsPrefix}
use Rattle.ticket_lock.specs.Turns.{longer, entries_by}

module _ {E : Type 0} where
  pub itself : (xs : List E) → IsPrefix xs xs
  itself xs = ([], append-nil xs)

  pub extended : (xs ys new : List E) → IsPrefix xs ys → IsPrefix xs (ys ++ new)
  extended xs ys new p = (p.0 ++ new, sym (append_assoc xs p.0 new) ∙ ap (λ l. l ++ new) p.1)

  pub no_longer : (xs ys : List E) → IsPrefix xs ys → length xs ≤ length ys
  no_longer xs ys p = let e = ap length p.1 in let l = length-append xs p.0 in omega arith

  pub whole : (xs ys : List E) → IsPrefix xs ys → length ys ≤ length xs → xs ≡ ys
  whole xs ys p le = grind (arith, length-append, nil_from_length, append-nil)

  -- of two beginnings of one list the shorter begins the longer
  pub shorter : (xs ys zs : List E) → IsPrefix xs zs → IsPrefix ys zs → length xs ≤ length ys → IsPrefix xs ys
  shorter [] ys zs p q le = (ys, refl)
  shorter (x ∷ xs) [] zs p q le = absurd (omega arith)
  shorter (x ∷ xs) (y ∷ ys) [] p q le = absurd (cc (p.1))
  shorter (x ∷ xs) (y ∷ ys) (z ∷ zs) p q le = grind (arith, shorter xs ys zs)

  pub longer_is : (xs ys : List E) (P : List E → Type 0) → (length xs < length ys → P ys) → (length ys ≤ length xs → P xs) → P (longer xs ys)
  longer_is xs ys P below above = grind (arith, lt-ltb, le-ltb)

  pub longer_begins : (xs ys zs : List E) → IsPrefix xs zs → IsPrefix ys zs → IsPrefix (longer xs ys) zs
  longer_begins xs ys zs p q = longer_is xs ys (λ l. IsPrefix l zs) (λ _. q) (λ _. p)

  pub begins_longer : (xs ys zs : List E) → IsPrefix xs zs → IsPrefix ys zs → IsPrefix xs (longer xs ys)
  begins_longer xs ys zs p q = longer_is xs ys (λ l. IsPrefix xs l) (λ lt. shorter xs ys zs p q (omega arith)) (λ _. itself xs)

  pub other_begins_longer : (xs ys zs : List E) → IsPrefix xs zs → IsPrefix ys zs → IsPrefix ys (longer xs ys)
  other_begins_longer xs ys zs p q = longer_is xs ys (λ l. IsPrefix ys l) (λ _. itself ys) (λ le. shorter ys xs zs q p le)

module _ {E : Type 0} (by : E → ℕ) (number : ℕ) where
  pub by_append : (xs ys : List E) → entries_by by number (xs ++ ys) ≡ entries_by by number xs ++ entries_by by number ys
  by_append xs ys = filter-append (λ e. eqb (by e) number) xs ys

  pub by_prefix : (xs ys : List E) → IsPrefix xs ys → IsPrefix (entries_by by number xs) (entries_by by number ys)
  by_prefix xs ys p = (entries_by by number p.0, sym (by_append xs p.0) ∙ ap (entries_by by number) p.1)

  -- a list between two with the same entries of a number has them too
  pub by_between : (xs ys zs : List E) → IsPrefix xs ys → IsPrefix ys zs → entries_by by number zs ≡ entries_by by number xs → entries_by by number zs ≡ entries_by by number ys
  by_between xs ys zs p q same =
      let low = by_prefix xs ys p in
      let high = no_longer _ _ (by_prefix ys zs q) in
      let l = ap length same in
      same ∙ whole (entries_by by number xs) (entries_by by number ys) low (omega arith)

  pub by_others : (other : ℕ) (new : List E) → other ≢ number → All (λ e. by e ≡ other) new → entries_by by number new ≡ []
  by_others other [] apart all = refl
  by_others other (x ∷ xs) apart all =
      let b : by x ≡ other = all 0 x (omega arith) in
      let no : eqb (by x) number ≡ false = ne_eqb (by x) number (λ e. apart (sym b ∙ e)) in
      ap (λ (t : Bool). cond t (x ∷ entries_by by number xs) (entries_by by number xs)) no ∙ by_others other xs apart (λ k d lt. all (suc k) d (omega arith))

  -- what others add leaves the entries of a number
  pub by_others_added : (other : ℕ) (journal new : List E) → other ≢ number → All (λ e. by e ≡ other) new → entries_by by number (journal ++ new) ≡ entries_by by number journal
  by_others_added other journal new apart all =
      by_append journal new ∙ (ap (λ l. entries_by by number journal ++ l) (by_others other new apart all) ∙ append-nil (entries_by by number journal))
