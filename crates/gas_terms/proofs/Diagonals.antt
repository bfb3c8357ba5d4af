-- Without walls, a step carries along each diagonal what moves along it.
use Rattle.std.proofs.Common.{◌≡◌, ℕ, zero, suc, ◌+◌, ◌-◌, ◌*◌, ◌/◌, ◌%◌, ◌<◌, ◌==◌, Bool, true, false, not, ◌&&◌, refl, sym, ap, ap₂, ◌∙◌, arith}
use Rattle.std.proofs.lemmas.Int.{ints}
use Rattle.std.proofs.lemmas.Nat.Gcd.{dvd_of_mod-eq-zero}
use Rattle.std.proofs.Math.Nat.{add-mod_right, mod-mod_of_dvd}
use Rattle.std.specs.Fn.{iterate}
use Rattle.std.specs.List.{range_with_len, sum_by}
use Rattle.gas_terms.specs.Velocity.{Velocity, velocity_at, has_parity, parity}
use Rattle.gas_terms.specs.Cells.{has, IsEvenTorus}
use Rattle.gas_terms.specs.Gas.{Gas, along, streamed, solid, forward, back}
use Rattle.gas_terms.specs.Block.{corner_rule, other_coordinate}
use Rattle.gas_terms.specs.Symmetry.{IsOnOneTorus}
use Rattle.gas_terms.specs.Histories.{IsClear, ClosesBy, diagonal_of, is_velocity, on_diagonal, momentum_along}
use Rattle.gas_terms.proofs.Axis.{has_parity_true, has_parity_false, up_is, up_below, up_parity}
use Rattle.gas_terms.proofs.FiniteSums.{sum_below-cong, cell_sum, cell_sum-add, corner_sum, cell_sum_by_site}
use Rattle.gas_terms.proofs.Lines.{bit, cell_in_clear, other_other}
use Rattle.gas_terms.proofs.ListSums.{sum_by-range}
use Rattle.gas_terms.proofs.Parity.{parity-small, parity-next}
use Rattle.gas_terms.proofs.Steps.{forward-back, even_back}
use Rattle.gas_terms.proofs.Torus.{solid_sides, torus_forward, torus_back}

-- A side more leaves the same remainder.
more : (m n a b : ℕ) → n % m ≡ 0 → b ≡ a + n → b % m ≡ a % m
more m n a b closes e =
    ap (λ c. c % m) e
    ∙ sym (mod-mod_of_dvd m (a + n) (dvd_of_mod-eq-zero m closes))
    ∙ ap (λ c. c % m) (add-mod_right a n)
    ∙ mod-mod_of_dvd m a (dvd_of_mod-eq-zero m closes)

-- The upper left and the lower right cell of a site are on one falling diagonal, the other two on one rising one.
falling : (m w h x y : ℕ) → w % m ≡ 0 → h % m ≡ 0 → x < w → y < h
    → diagonal_of true m h ((x + 1) % w) ((y + 1) % h) ≡ diagonal_of true m h x y
falling m w h x y wide high k l = grind (arith, up_is, more)

up_adds : (m n x a : ℕ) → n % m ≡ 0 → x < n → ((x + 1) % n + a) % m ≡ (x + 1 + a) % m
up_adds m n x a closes k = grind (arith, up_is, more)

rising : (m w h x y : ℕ) → w % m ≡ 0 → h % m ≡ 0 → x < w → y < h
    → diagonal_of false m h ((x + 1) % w) y ≡ diagonal_of false m h x ((y + 1) % h)
rising m w h x y wide high k l =
    let e : x + 1 + y ≡ y + 1 + x = omega arith in
    let f : (y + 1) % h + x ≡ x + (y + 1) % h = omega arith in
    up_adds m w x y wide k ∙ ap (λ c. c % m) e ∙ sym (up_adds m h y x high l) ∙ ap (λ c. c % m) f

-- whether a cell counts: it has a particle, is on the diagonal, and its particles have this velocity
abbrev term : Bool → Bool → Velocity → Velocity → ℕ
term held on v u = bit (held && on && is_velocity v u)

abbrev at : Bool → Bool → Velocity
at right down = record { right = right; down = down }

-- what a cell has after a step that goes one way, and had before that went the other
abbrev both : Velocity → Velocity → Bool → Bool → Bool → Velocity → Velocity → ℕ
both v u now was on after before = term now on v after + term was on u before

-- In a block without walls, what goes one way after and the other way before is as much the other way round.
block_balances : (falls a b c d i j k l : Bool) → (falls ≡ true → l ≡ i) → (falls ≡ false → j ≡ k) →
    let v : Velocity = at true falls in
    let u : Velocity = at false (not falls) in
    both v u (corner_rule false a d b c) a i (at false false) (at true true)
    + both v u (corner_rule false b c a d) b j (at true false) (at false true)
    + both v u (corner_rule false c b d a) c k (at false true) (at true false)
    + both v u (corner_rule false d a c b) d l (at true true) (at false false)
    ≡ both u v (corner_rule false a d b c) a i (at false false) (at true true)
    + both u v (corner_rule false b c a d) b j (at true false) (at false true)
    + both u v (corner_rule false c b d a) c k (at false true) (at true false)
    + both u v (corner_rule false d a c b) d l (at true true) (at false false)
block_balances falls a b c d i j k l e f = grind arith

both_same : (v u : Velocity) (was on : Bool) (now now' : Bool) (after after' before before' : Velocity) →
    now ≡ now' → after ≡ after' → before ≡ before' → both v u now was on after before ≡ both v u now' was on after' before'
both_same v u was on now now' after after' before before' e f g = cc

-- the other column or row of a site
other_up : (n p x : ℕ) → (x + p) % 2 ≡ 0 → other_coordinate n p x ≡ (x + 1) % n
other_up n p x e = ap (λ t. along n t x) (has_parity_true p x e)

other_down : (n p x : ℕ) → n % 2 ≡ 0 → x < n → (x + p) % 2 ≡ 0 → other_coordinate n p ((x + 1) % n) ≡ x
other_down n p x even k e = ap (other_coordinate n p) (sym (other_up n p x e)) ∙ other_other n p x even k

same_corner : (a a' b b' c c' d d' : Bool) → a ≡ a' → b ≡ b' → c ≡ c' → d ≡ d' → corner_rule false a b c d ≡ corner_rule false a' b' c' d'
same_corner a a' b b' c c' d d' e f g h = cc

four_same : (a a' b b' c c' d d' : ℕ) → a ≡ a' → b ≡ b' → c ≡ c' → d ≡ d' → a + b + c + d ≡ a' + b' + c' + d'
four_same a a' b b' c c' d d' e f g h = cc

module _ (falls : Bool) (m rest : ℕ) (g : Gas) (i : IsOnOneTorus g) (clear : IsClear g) (closes : ClosesBy m g.particles) where
  abbrev w : ℕ
  w = g.particles.width

  abbrev h : ℕ
  h = g.particles.height

  abbrev p : ℕ
  p = parity g.tick

  abbrev next : ℕ
  next = parity (forward g).tick

  abbrev was : ℕ → ℕ → Bool
  was = has g.particles

  abbrev now : ℕ → ℕ → Bool
  now = has (streamed p g.particles (solid g))

  abbrev on : ℕ → ℕ → Bool
  on x y = diagonal_of falls m h x y == rest

  -- what a cell adds to one side of the balance
  abbrev share : Velocity → Velocity → ℕ → ℕ → ℕ
  share v u x y = both v u (now x y) (was x y) (on x y) (velocity_at next x y) (velocity_at p x y)

  -- whether each of a site's cells is on the diagonal
  on_falling : (x y : ℕ) → x < w → y < h → falls ≡ true → on ((x + 1) % w) ((y + 1) % h) ≡ on x y
  on_falling x y k l e =
      rw e (ap (λ d. d == rest) (falling m w h x y closes.wide closes.high k l))

  on_rising : (x y : ℕ) → x < w → y < h → falls ≡ false → on ((x + 1) % w) y ≡ on x ((y + 1) % h)
  on_rising x y k l e =
      rw e (ap (λ d. d == rest) (rising m w h x y closes.wide closes.high k l))

  -- what a cell gets of its block, whose other column and row these are
  cell_in_site : (x y x' y' : ℕ) → x < w → y < h → other_coordinate w p x ≡ x' → other_coordinate h p y ≡ y' →
      now x y ≡ corner_rule false (was x y) (was x' y') (was x' y) (was x y')
  cell_in_site x y x' y' k l ex ey =
      cell_in_clear p g.particles (solid g) i.sides (solid_sides g i) clear x y k l
      ∙ same_corner _ _ _ _ _ _ _ _ refl (ap₂ was ex ey) (ap (λ a. was a y) ex) (ap (was x) ey)

  site_balances : (x y : ℕ) → x < w → y < h → (x + p) % 2 ≡ 0 → (y + p) % 2 ≡ 0 →
      corner_sum w h (share (at true falls) (at false (not falls))) x y
      ≡ corner_sum w h (share (at false (not falls)) (at true falls)) x y
  site_balances x y k l e f =
      let x' : ℕ = (x + 1) % w in
      let y' : ℕ = (y + 1) % h in
      let k' : x' < w = up_below w x k in
      let l' : y' < h = up_below h y l in
      let ex : other_coordinate w p x ≡ x' = other_up w p x e in
      let ey : other_coordinate h p y ≡ y' = other_up h p y f in
      let ex' : other_coordinate w p x' ≡ x = other_down w p x i.sides.wide k e in
      let ey' : other_coordinate h p y' ≡ y = other_down h p y i.sides.high l f in
      let px : has_parity p x ≡ true = has_parity_true p x e in
      let py : has_parity p y ≡ true = has_parity_true p y f in
      let px' : has_parity p x' ≡ false = has_parity_false p x' (omega (arith, up_parity w x i.sides.wide k)) in
      let py' : has_parity p y' ≡ false = has_parity_false p y' (omega (arith, up_parity h y i.sides.high l)) in
      let turns : next ≡ 1 - p = parity-next g.tick in
      let small : p < 2 = parity-small g.tick in
      let nx : has_parity next x ≡ false = has_parity_false next x (omega (arith, turns, small)) in
      let ny : has_parity next y ≡ false = has_parity_false next y (omega (arith, turns, small)) in
      let nx' : has_parity next x' ≡ true = has_parity_true next x' (omega (arith, turns, small, up_parity w x i.sides.wide k)) in
      let ny' : has_parity next y' ≡ true = has_parity_true next y' (omega (arith, turns, small, up_parity h y i.sides.high l)) in
      let four : (v u : Velocity) → corner_sum w h (share v u) x y ≡
      both v u (corner_rule false (was x y) (was x' y') (was x' y) (was x y')) (was x y) (on x y) (at false false) (at true true)
      + both v u (corner_rule false (was x' y) (was x y') (was x y) (was x' y')) (was x' y) (on x' y) (at true false) (at false true)
      + both v u (corner_rule false (was x y') (was x' y) (was x' y') (was x y)) (was x y') (on x y') (at false true) (at true false)
      + both v u (corner_rule false (was x' y') (was x y) (was x y') (was x' y)) (was x' y') (on x' y') (at true true) (at false false) =
      λ v u. four_same _ _ _ _ _ _ _ _
      (both_same v u _ _ _ _ _ _ _ _ (cell_in_site x y x' y' k l ex ey) (ap₂ at nx ny) (ap₂ at px py))
      (both_same v u _ _ _ _ _ _ _ _ (cell_in_site x' y x y' k' l ex' ey) (ap₂ at nx' ny) (ap₂ at px' py))
      (both_same v u _ _ _ _ _ _ _ _ (cell_in_site x y' x' y k l' ex ey') (ap₂ at nx ny') (ap₂ at px py'))
      (both_same v u _ _ _ _ _ _ _ _ (cell_in_site x' y' x y k' l' ex' ey') (ap₂ at nx' ny') (ap₂ at px' py')) in
      four (at true falls) (at false (not falls))
      ∙ block_balances falls (was x y) (was x' y) (was x y') (was x' y') (on x y) (on x' y) (on x y') (on x' y') (on_falling x y k l) (on_rising x y k l)
      ∙ sym (four (at false (not falls)) (at true falls))

  all_balance : cell_sum w h (share (at true falls) (at false (not falls))) ≡ cell_sum w h (share (at false (not falls)) (at true falls))
  all_balance =
      let v : Velocity = at true falls in
      let u : Velocity = at false (not falls) in
      sym (cell_sum_by_site p w h (share v u) (parity-small g.tick) i.sides.wide i.sides.high)
      ∙ sum_below-cong (h / 2) _ _ (λ j b. sum_below-cong (w / 2) _ _ (λ k a.
      let wide : w % 2 ≡ 0 = i.sides.wide in
      let high : h % 2 ≡ 0 = i.sides.high in
      site_balances (2 * k + p) (2 * j + p) (omega (arith, parity-small g.tick)) (omega (arith, parity-small g.tick)) (omega arith) (omega arith)))
      ∙ cell_sum_by_site p w h (share u v) (parity-small g.tick) i.sides.wide i.sides.high

  counted : (v : Velocity) (k : Gas) → on_diagonal falls m rest v k
      ≡ cell_sum k.particles.width k.particles.height
      (λ x y. term (has k.particles x y) (diagonal_of falls m k.particles.height x y == rest) v (velocity_at (parity k.tick) x y))
  counted v k =
      let f : ℕ → ℕ → ℕ = λ x y. term (has k.particles x y) (diagonal_of falls m k.particles.height x y == rest) v (velocity_at (parity k.tick) x y) in
      sum_by-range (λ y. sum_by (λ x. f x y) (range_with_len 0 k.particles.width)) k.particles.height
      ∙ sum_below-cong k.particles.height _ _ (λ y b. sum_by-range (λ x. f x y) k.particles.width)

  diagonal_forward : momentum_along falls m rest (forward g) ≡ momentum_along falls m rest g
  diagonal_forward =
      let v : Velocity = at true falls in
      let u : Velocity = at false (not falls) in
      let came : Velocity → ℕ → ℕ → ℕ = λ a x y. term (now x y) (on x y) a (velocity_at next x y) in
      let went : Velocity → ℕ → ℕ → ℕ = λ a x y. term (was x y) (on x y) a (velocity_at p x y) in
      omega (arith, ints, all_balance, counted v (forward g), counted u (forward g), counted v g, counted u g, cell_sum-add w h (came v) (went u), cell_sum-add w h (came u) (went v))

pub diagonal_later : (n m rest : ℕ) (falls : Bool) (g : Gas) → IsOnOneTorus g → IsClear g → ClosesBy m g.particles →
    momentum_along falls m rest (iterate forward n g) ≡ momentum_along falls m rest g
diagonal_later zero m rest falls g i clear closes = refl
diagonal_later (suc n) m rest falls g i clear closes =
    diagonal_later n m rest falls (forward g) (torus_forward g i) clear (record { wide = closes.wide; high = closes.high })
    ∙ diagonal_forward falls m rest g i clear closes

pub diagonal_earlier : (n m rest : ℕ) (falls : Bool) (g : Gas) → IsOnOneTorus g → IsEvenTorus g.particles → IsClear g → ClosesBy m g.particles →
    momentum_along falls m rest (iterate back n g) ≡ momentum_along falls m rest g
diagonal_earlier zero m rest falls g i t clear closes = refl
diagonal_earlier (suc n) m rest falls g i t clear closes =
    let before : IsOnOneTorus (back g) = torus_back g i in
    let closed : ClosesBy m (back g).particles = record { wide = closes.wide; high = closes.high } in
    diagonal_earlier n m rest falls (back g) before (even_back g t) clear closed
    ∙ sym (diagonal_forward falls m rest (back g) before clear closed)
    ∙ ap (momentum_along falls m rest) (forward-back g t.sides t.full)
