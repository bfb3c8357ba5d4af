-- Translations along the axes.
use Rattle.std.proofs.Common.{◌≡◌, ℕ, ◌+◌, ◌-◌, ◌*◌, ◌/◌, ◌%◌, ◌<◌, Bool, true, false, ℤ, ◌+ℤ◌, sym, ap, ◌∙◌, arith}
use Rattle.std.proofs.Math.Nat.{mod-lt, mod-add-mod, add-mod_right}
use Rattle.std.proofs.lemmas.Int.{ints}
use Rattle.std.proofs.lemmas.Nat.{div-add-mod', mod-mul-add}
use Rattle.gas_terms.specs.Velocity.{has_parity, parity}
use Rattle.gas_terms.specs.Cells.{Cells, has, cells_where, HasEvenSides, HasSidesOf, joined}
use Rattle.gas_terms.specs.Gas.{streamed, along}
use Rattle.gas_terms.specs.Symmetry.{translated_from, translated, CarriesBlocks, IsSymmetry, gas_translated}
use Rattle.gas_terms.proofs.Parity.{parity-small, parity_after}
use Rattle.gas_terms.proofs.Cells.{has-cells_where}
use Rattle.gas_terms.proofs.Transport.{IsCarried, pulled_streamed, pulled_joined}
use Rattle.gas_terms.proofs.Maps.{commuting_symmetry}
use Rattle.gas_terms.proofs.Axis.{rest_parity, same_parity}

-- A translation keeps the way along an axis.
move_up : (n c x : ℕ) → ((x + 1) % n + c) % n ≡ ((x + c) % n + 1) % n
move_up n c x = grind (arith, mod-add-mod)

move_down : (n c x : ℕ) → 0 < n → ((x + n - 1) % n + c) % n ≡ ((x + c) % n + n - 1) % n
move_down n c x some =
    mod-add-mod (x + n - 1) n c
    ∙ ap (λ k. k % n) (let e : x + n - 1 + c ≡ x + c + (n - 1) = omega arith in e)
    ∙ sym (mod-add-mod (x + c) n (n - 1))
    ∙ ap (λ k. k % n) (let e : (x + c) % n + (n - 1) ≡ (x + c) % n + n - 1 = omega arith in e)

move_along : (n c x : ℕ) (b : Bool) → 0 < n → (along n b x + c) % n ≡ along n b ((x + c) % n)
move_along n c x true some = move_up n c x
move_along n c x false some = move_down n c x some

-- the way back, as a number to add
abbrev pub to_add : ℕ → ℕ → ℕ
to_add n by = n - by % n

pub from_is : (n by x : ℕ) → 0 < n → translated_from n by x ≡ (x + to_add n by) % n
from_is n by x some = grind arith

-- A translation changes the parity by that of its cells.
pub move_parity : (n by x : ℕ) → n % 2 ≡ 0 → 0 < n → (translated_from n by x + by) % 2 ≡ x % 2
move_parity n by x even some =
    let l : by % n < n = mod-lt by some in
    let e = rest_parity (x + n - by % n) n even in
    let f = rest_parity by n even in
    omega arith

move_carries : (p q n by : ℕ) → n % 2 ≡ 0 → (p + q + by) % 2 ≡ 0 → IsCarried p q n (translated_from n by)
move_carries p q n by even turns = record {
  below = λ x l. let some : 0 < n = omega arith in mod-lt (x + n - by % n) some;
  other = λ x l.
      let some : 0 < n = omega arith in
      let y = translated_from n by x in
      let m = move_parity n by x even some in
      from_is n by (along n (has_parity p x) x) some
      ∙ move_along n (to_add n by) x (has_parity p x) some
      ∙ ap (along n (has_parity p x)) (sym (from_is n by x some))
      ∙ ap (λ b. along n b y) (same_parity p q x y (omega arith));
}

translated_streamed : (p q right down : ℕ) (particles walls : Cells) → HasEvenSides particles.width particles.height → HasSidesOf walls particles
    → (p + q + right) % 2 ≡ 0 → (p + q + down) % 2 ≡ 0
    → streamed p (translated right down particles) (translated right down walls) ≡ translated right down (streamed q particles walls)
translated_streamed p q right down particles walls e sides a b =
    ap (λ n. streamed p (translated right down particles)
    (cells_where walls.width walls.height (λ x y. has walls (translated_from n right x) (translated_from walls.height down y)))) sides.wide
    ∙ ap (λ n. streamed p (translated right down particles)
    (cells_where walls.width walls.height (λ x y. has walls (translated_from particles.width right x) (translated_from n down y)))) sides.high
    ∙ pulled_streamed p q particles walls (translated_from particles.width right) (translated_from particles.height down) e sides
    (move_carries p q particles.width right e.wide a) (move_carries p q particles.height down e.high b)

translated_joined : (right down : ℕ) (some others : Cells) → HasSidesOf others some
    → joined (translated right down some) (translated right down others) ≡ translated right down (joined some others)
translated_joined right down some others sides =
    ap (λ n. joined (translated right down some)
    (cells_where others.width others.height (λ x y. has others (translated_from n right x) (translated_from others.height down y)))) sides.wide
    ∙ ap (λ n. joined (translated right down some)
    (cells_where others.width others.height (λ x y. has others (translated_from some.width right x) (translated_from n down y)))) sides.high
    ∙ pulled_joined some others (translated_from some.width right) (translated_from some.height down) sides
    (λ x l. let some_cells : 0 < some.width = omega arith in mod-lt (x + some.width - right % some.width) some_cells)
    (λ y m. let some_cells : 0 < some.height = omega arith in mod-lt (y + some.height - down % some.height) some_cells)

pub translation_symmetry : (right down : ℕ) (ticks : ℤ) → CarriesBlocks right down ticks → IsSymmetry (gas_translated right down ticks)
translation_symmetry right down ticks b =
    commuting_symmetry (translated right down) (λ t. t +ℤ ticks) (record {
      ticks = λ t. omega (arith, ints);
      ticks_back = λ t. omega (arith, ints);
      even = λ cells e. e;
      joins = translated_joined right down;
      streams = λ t particles walls e s.
          let k = parity_after t ticks in
          let small = parity-small t in
          translated_streamed (parity (t +ℤ ticks)) (parity t) right down particles walls e s
          (omega (arith, b.columns)) (omega (arith, b.rows));
    })

-- Where a translated cell comes from.
whole_turns : (n by x : ℕ) → x < n → (x + (by - by % n)) % n ≡ x
whole_turns n by x l =
    let e : x + (by - by % n) ≡ by / n * n + x = omega (arith, div-add-mod' by n) in
    ap (λ k. k % n) e ∙ mod-mul-add (by / n) n x l

from_there : (n by x : ℕ) → x < n → translated_from n by ((x + by) % n) ≡ x
from_there n by x l =
    let some : 0 < n = omega arith in
    from_is n by ((x + by) % n) some
    ∙ mod-add-mod (x + by) n (to_add n by)
    ∙ ap (λ k. k % n) (let e : x + by + (n - by % n) ≡ x + (by - by % n) + n = omega (arith, div-add-mod' by n) in e)
    ∙ add-mod_right (x + (by - by % n)) n
    ∙ whole_turns n by x l

pub translated_there : (right down : ℕ) (cells : Cells) (x y : ℕ) → x < cells.width → y < cells.height
    → has (translated right down cells) ((x + right) % cells.width) ((y + down) % cells.height) ≡ has cells x y
translated_there right down cells x y l m = grind (arith, has-cells_where, mod-lt, from_there)
