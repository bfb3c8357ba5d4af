-- Each site of a parity is listed.
use Rattle.std.proofs.Common.{◌≡◌, ℕ, zero, suc, ◌+◌, ◌*◌, ◌/◌, ◌%◌, ◌<◌, ◌≤◌, List, map, length, inl, inr, subst, ◌∙◌, arith}
use Rattle.std.specs.List.{range_with_len, flat_map, All, Contains}
use Rattle.std.proofs.lemmas.Bool.{cases_lt}
use Rattle.std.proofs.lemmas.List.Elements.{All-nil, All-cons, All-append, Contains-append_left, Contains-append_right}
use Rattle.std.proofs.lemmas.List.FromFn.{length-map-range_with_len, get_or-map-range_with_len}
use Rattle.gas_terms.specs.Gas.{Site, IsSite, sites}
use Rattle.gas_terms.specs.Cells.{HasEvenSides}
use Rattle.gas_terms.proofs.Sites.{site_at, same_site, listed_site}

-- What holds of each that is listed for a range, one by one or list by list.
pub All-map_range : {X : Type 0} (P : X → Type 0) (f : ℕ → X) (a n : ℕ) → ((i : ℕ) → a ≤ i → i < a + n → P (f i)) → All P (map f (range_with_len a n))
All-map_range P f a zero h = All-nil P
All-map_range P f a (suc n) h =
    All-cons P (f a) (map f (range_with_len (a + 1) n)) (h a (omega arith) (omega arith))
    (All-map_range P f (a + 1) n (λ i l m. h i (omega arith) (omega arith)))

pub All-flat_range : {X : Type 0} (P : X → Type 0) (f : ℕ → List X) (a n : ℕ) → ((j : ℕ) → a ≤ j → j < a + n → All P (f j)) → All P (flat_map f (range_with_len a n))
All-flat_range P f a zero h = All-nil P
All-flat_range P f a (suc n) h =
    All-append P (f a) (flat_map f (range_with_len (a + 1) n)) (h a (omega arith) (omega arith))
    (All-flat_range P f (a + 1) n (λ i l m. h i (omega arith) (omega arith)))

-- What is listed for a range.
Contains-map_range : {X : Type 0} (f : ℕ → X) (n i : ℕ) (x : X) → i < n → f i ≡ x → Contains (map f (range_with_len 0 n)) x
Contains-map_range f n i x l e =
    let b : i < length (map f (range_with_len 0 n)) = omega (arith, length-map-range_with_len f 0 n) in
    (i, b, get_or-map-range_with_len f 0 n i i x l (omega arith) ∙ e)

Contains-flat_range : {X : Type 0} (f : ℕ → List X) (x : X) (a n j : ℕ) → a ≤ j → j < a + n → Contains (f j) x → Contains (flat_map f (range_with_len a n)) x
Contains-flat_range f x a zero j l m c = absurd (omega arith)
Contains-flat_range f x a (suc n) j l m c =
    elim (cases_lt a j) [
      | inl b ↦ Contains-append_right (f a) (flat_map f (range_with_len (a + 1) n)) x (Contains-flat_range f x (a + 1) n j (omega arith) (omega arith) c)
      | inr g ↦
          let e : j ≡ a = omega arith in
          Contains-append_left (f a) (flat_map f (range_with_len (a + 1) n)) x (subst (λ k. Contains (f k) x) e c)
    ]

listed : (p w h : ℕ) → HasEvenSides w h → p < 2 → (i j : ℕ) → i < 0 + w / 2 → j < 0 + h / 2 → IsSite p w h (record { x = 2 * i + p; y = 2 * j + p })
listed p w h e q i j l m = listed_site p w h i j (omega (arith, e.wide)) (omega (arith, e.high))

halved : (p x : ℕ) → (x + p) % 2 ≡ 0 → p < 2 → 2 * (x / 2) + p ≡ x
halved p x h q = omega arith

-- The list of the sites has the sites and nothing else.
pub listed_is_site : (p w h : ℕ) → HasEvenSides w h → p < 2 → All (IsSite p w h) (sites p w h)
listed_is_site p w h e q =
    All-flat_range (IsSite p w h) (λ j. map (λ i. record { x = 2 * i + p; y = 2 * j + p }) (range_with_len 0 (w / 2))) 0 (h / 2)
    (λ j l m. All-map_range (IsSite p w h) (λ i. record { x = 2 * i + p; y = 2 * j + p }) 0 (w / 2) (λ i k n. listed p w h e q i j n m))

pub site_is_listed : (p w h : ℕ) → HasEvenSides w h → p < 2 → (s : Site) → IsSite p w h s → Contains (sites p w h) s
unfolding site_at
site_is_listed p w h e q s i =
    let row = λ (j : ℕ). map (λ k. site_at (2 * k + p) (2 * j + p)) (range_with_len 0 (w / 2)) in
    let there : site_at (2 * (s.x / 2) + p) (2 * (s.y / 2) + p) ≡ s =
    same_site (2 * (s.x / 2) + p) s.x (2 * (s.y / 2) + p) s.y (halved p s.x i.column_parity q) (halved p s.y i.row_parity q) in
    Contains-flat_range row s 0 (h / 2) (s.y / 2) (omega arith) (omega arith)
    (Contains-map_range (λ k. site_at (2 * k + p) (2 * (s.y / 2) + p)) (w / 2) (s.x / 2) s (omega arith) there)
