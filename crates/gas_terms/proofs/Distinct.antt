-- No site is listed twice.
use Rattle.std.proofs.Common.{◌≡◌, ℕ, zero, suc, ◌+◌, ◌*◌, ◌/◌, ◌<◌, ◌≢◌, List, [], ◌∷◌, ◌++◌, map, arith, ap}
use Rattle.std.specs.List.{range_with_len, flat_map, All, AllPairs}
use Rattle.std.proofs.lemmas.List.Elements.{All-from_get_or, All-append, All-head, All-tail}
use Rattle.std.proofs.lemmas.List.Kept.{AllPairs-cons}
use Rattle.gas_terms.specs.Gas.{Site, sites}
use Rattle.gas_terms.proofs.Listed.{All-map_range, All-flat_range}

AllPairs-nil : {X : Type 0} (R : X → X → Type 0) → AllPairs R []
AllPairs-nil R i j d less within = absurd (omega arith)

AllPairs-head : {X : Type 0} (R : X → X → Type 0) (x : X) (xs : List X) → AllPairs R (x ∷ xs) → All (R x) xs
AllPairs-head R x xs h = All-from_get_or (R x) xs x (λ i within. h 0 (suc i) x (omega arith) (omega arith))

AllPairs-tail : {X : Type 0} (R : X → X → Type 0) (x : X) (xs : List X) → AllPairs R (x ∷ xs) → AllPairs R xs
AllPairs-tail R x xs h i j d less within = h (suc i) (suc j) d (omega arith) (omega arith)

AllPairs-append : {X : Type 0} (R : X → X → Type 0) (xs ys : List X) → AllPairs R xs → AllPairs R ys → All (λ x. All (R x) ys) xs → AllPairs R (xs ++ ys)
AllPairs-append R [] ys some others between = others
AllPairs-append R (x ∷ xs) ys some others between =
    AllPairs-cons R x (xs ++ ys)
    (All-append (R x) xs ys (AllPairs-head R x xs some) (All-head (λ x. All (R x) ys) x xs between))
    (AllPairs-append R xs ys (AllPairs-tail R x xs some) others (All-tail (λ x. All (R x) ys) x xs between))

-- pairs of what is listed for a range, one by one or list by list
AllPairs-map_range : {X : Type 0} (R : X → X → Type 0) (f : ℕ → X) (a n : ℕ) → ((i j : ℕ) → i < j → R (f i) (f j)) → AllPairs R (map f (range_with_len a n))
AllPairs-map_range R f a zero h = AllPairs-nil R
AllPairs-map_range R f a (suc n) h =
    AllPairs-cons R (f a) (map f (range_with_len (a + 1) n))
    (All-map_range (R (f a)) f (a + 1) n (λ j l m. h a j (omega arith)))
    (AllPairs-map_range R f (a + 1) n h)

-- when each of one row differs from each of a later row
AllPairs-rows : {X : Type 0} (R : X → X → Type 0) (f : ℕ → ℕ → X) (w a n : ℕ) → ((j i k : ℕ) → i < k → R (f j i) (f j k)) → ((j l i k : ℕ) → j < l → R (f j i) (f l k))
    → AllPairs R (flat_map (λ j. map (f j) (range_with_len 0 w)) (range_with_len a n))
AllPairs-rows R f w a zero within between = AllPairs-nil R
AllPairs-rows R f w a (suc n) within between =
    AllPairs-append R (map (f a) (range_with_len 0 w)) (flat_map (λ j. map (f j) (range_with_len 0 w)) (range_with_len (a + 1) n))
    (AllPairs-map_range R (f a) 0 w (within a))
    (AllPairs-rows R f w (a + 1) n within between)
    (All-map_range (λ x. All (R x) (flat_map (λ j. map (f j) (range_with_len 0 w)) (range_with_len (a + 1) n))) (f a) 0 w
    (λ i l m.
    All-flat_range (R (f a i)) (λ j. map (f j) (range_with_len 0 w)) (a + 1) n
    (λ j o q. All-map_range (R (f a i)) (f j) 0 w (λ k r t. between a j i k (omega arith)))))

abbrev site_in : ℕ → ℕ → ℕ → Site
site_in p j i = record { x = 2 * i + p; y = 2 * j + p }

other_column : (p j i k : ℕ) → i < k → site_in p j i ≢ site_in p j k
other_column p j i k less same = let e : 2 * i + p ≡ 2 * k + p = ap (λ (s : Site). s.x) same in omega arith

other_row : (p j l i k : ℕ) → j < l → site_in p j i ≢ site_in p l k
other_row p j l i k less same = let e : 2 * j + p ≡ 2 * l + p = ap (λ (s : Site). s.y) same in omega arith

pub sites_differ : (p w h : ℕ) → AllPairs (λ s t. s ≢ t) (sites p w h)
sites_differ p w h = AllPairs-rows (λ s t. s ≢ t) (site_in p) (w / 2) 0 (h / 2) (other_column p) (other_row p)
