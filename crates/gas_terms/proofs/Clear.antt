-- What is near a cell, and what comes near it in a step.
use Rattle.std.proofs.Common.{◌≡◌, ℕ, ◌+◌, ◌<◌, ◌≤◌, ◌⊎◌, inl, inr, Bool, true, false, ◌||◌, sym, ap, subst, ◌∙◌, arith}
use Rattle.gas_terms.specs.Velocity.{parity}
use Rattle.gas_terms.specs.Cells.{Cells, has, HasEvenSides, HasSidesOf}
use Rattle.gas_terms.specs.Gas.{Gas, streamed, solid, forward}
use Rattle.gas_terms.specs.Block.{corner_rule, other_coordinate}
use Rattle.gas_terms.specs.Symmetry.{IsOnOneTorus, distance, AreApart, occupied}
use Rattle.gas_terms.proofs.Distance.{triangle, distance_self, distance_back, other_near}
use Rattle.gas_terms.proofs.Torus.{solid_sides}
use Rattle.gas_terms.proofs.Blocks.{cell_by_eight}
use Rattle.gas_terms.proofs.Axis.{other_below}
use Rattle.std.proofs.lemmas.Bool.{cases_Bool, or_left, or_right}
use Rattle.gas_terms.proofs.Cells.{has-joined}

-- One of the four cells of a block.
abbrev pub one_of : ℕ → ℕ → Bool → ℕ
one_of x x' true = x
one_of x x' false = x'

abbrev pub at : ℕ → ℕ → ℕ → Cells → ℕ → ℕ → Bool → Bool → Bool
at p w h cells x y i j = has cells (one_of x (other_coordinate w p x) i) (one_of y (other_coordinate h p y) j)

pub at_sides : (p w h : ℕ) (cells : Cells) (x y : ℕ) (i j : Bool) → cells.width ≡ w → cells.height ≡ h
    → at p cells.width cells.height cells x y i j ≡ at p w h cells x y i j
at_sides p w h cells x y i j e f = ap (λ n. at p n cells.height cells x y i j) e ∙ ap (λ n. at p w n cells x y i j) f

pub one_of_below : (p n x : ℕ) (i : Bool) → x < n → one_of x (other_coordinate n p x) i < n
one_of_below p n x true l = l
one_of_below p n x false l = other_below n p x l

one_of_near : (p n x : ℕ) (i j : Bool) → x < n → distance n (one_of x (other_coordinate n p x) i) (one_of x (other_coordinate n p x) j) ≤ 1
one_of_near p n x true true l = let e = distance_self n x l in omega arith
one_of_near p n x true false l = other_near n p x l (other_below n p x l)
one_of_near p n x false true l = let e = other_near n p x l (other_below n p x l) in let b = distance_back n (other_coordinate n p x) x in omega arith
one_of_near p n x false false l = let e = distance_self n (other_coordinate n p x) (other_below n p x l) in omega arith

all_four : (t : Bool → Bool → Bool) → t true true ≡ false → t true false ≡ false → t false true ≡ false → t false false ≡ false
    → (i j : Bool) → t i j ≡ false
all_four t h2 h3 h4 h5 i j = grind arith

four : (t : Bool → Bool → Bool) → ((i j : Bool) → t i j ≡ false) ⊎ ((i : Bool) × (j : Bool) × (t i j ≡ true))
four t =
    elim (cases_Bool (t true true)) [
      | inl e ↦ inr (true, true, e)
      | inr a ↦
          elim (cases_Bool (t true false)) [
            | inl e ↦ inr (true, false, e)
            | inr b ↦
                elim (cases_Bool (t false true)) [
                  | inl e ↦ inr (false, true, e)
                  | inr c ↦
                      elim (cases_Bool (t false false)) [
                        | inl e ↦ inr (false, false, e)
                        | inr d ↦ inl (all_four t a b c d)
                      ]
                ]
          ]
    ]

-- Of two sets that are two apart no block has cells of both.
pub one_is_clear : (p x y : ℕ) (some others : Cells) → HasSidesOf others some → x < some.width → y < some.height → AreApart 2 some others
    → ((i j : Bool) → at p some.width some.height some x y i j ≡ false) ⊎ ((i j : Bool) → at p some.width some.height others x y i j ≡ false)
one_is_clear p x y some others s l m far =
    let w = some.width in
    let h = some.height in
    elim (four (at p w h some x y)) [
      | inl clear ↦ inl clear
      | inr found ↦
          elim (four (at p w h others x y)) [
            | inl clear ↦ inr clear
            | inr met ↦
                let a = one_of x (other_coordinate w p x) met.0 in
                let b = one_of y (other_coordinate h p y) met.1 in
                let la : a < w = one_of_below p w x met.0 l in
                let mb : b < h = one_of_below p h y met.1 m in
                let across = one_of_near p w x found.0 met.0 l in
                let down = one_of_near p h y found.1 met.1 m in
                elim (far (one_of x (other_coordinate w p x) found.0) (one_of y (other_coordinate h p y) found.1) a b
                (one_of_below p w x found.0 l) (one_of_below p h y found.1 m) (omega (arith, s.wide)) (omega (arith, s.high)) found.2 met.2) [
                  | inl r ↦ absurd (omega arith)
                  | inr r ↦ absurd (omega arith)
                ]
          ]
    ]

-- A block without particles gets none.
rule_of_none : (walled a b c d : Bool) → a ≡ false → b ≡ false → c ≡ false → d ≡ false → corner_rule walled a b c d ≡ false
rule_of_none walled a b c d h6 h7 h8 h9 = grind arith

pub none_come : (p x y : ℕ) (particles walls : Cells) → HasEvenSides particles.width particles.height → HasSidesOf walls particles
    → x < particles.width → y < particles.height → ((i j : Bool) → at p particles.width particles.height particles x y i j ≡ false)
    → has (streamed p particles walls) x y ≡ false
none_come p x y particles walls e s l m clear =
    cell_by_eight p particles walls x y e s l m
    ∙ rule_of_none _ _ _ _ _ (clear true true) (clear false false) (clear false true) (clear true false)

-- What holds a cell after a step held one at most a cell away before.
pub record CameFrom (x y : ℕ) (cells : Cells) (a b : ℕ) : Type 0 where
  pub column : a < cells.width
  pub row : b < cells.height
  pub across : distance cells.width x a ≤ 1
  pub down : distance cells.height y b ≤ 1
  pub held : has cells a b ≡ true

abbrev pub Follows : Cells → Cells → Type 0
Follows before after =
    (x y : ℕ) → x < before.width → y < before.height → has after x y ≡ true → (a : ℕ) × (b : ℕ) × CameFrom x y before a b

pub particles_follow : (p : ℕ) (particles walls : Cells) → HasEvenSides particles.width particles.height → HasSidesOf walls particles
    → Follows particles (streamed p particles walls)
particles_follow p particles walls e s = λ x y l m holds.
    let w = particles.width in
    let h = particles.height in
    elim (four (at p w h particles x y)) [
      | inl clear ↦ let none = none_come p x y particles walls e s l m clear in absurd (cc)
      | inr found ↦ (
        one_of x (other_coordinate w p x) found.0,
        one_of y (other_coordinate h p y) found.1,
        record {
          column = one_of_below p w x found.0 l;
          row = one_of_below p h y found.1 m;
          across = one_of_near p w x true found.0 l;
          down = one_of_near p h y true found.1 m;
          held = found.2;
        },
      )
    ]

other_holds : (a b : Bool) → (a || b) ≡ true → a ≡ false → b ≡ true
other_holds a b e f = grind arith

occupant_follows : (x y : ℕ) (g : Gas) → x < g.particles.width → y < g.particles.height
    → (a : ℕ) × (b : ℕ) × CameFrom x y g.particles a b → (a : ℕ) × (b : ℕ) × CameFrom x y (occupied g) a b
occupant_follows x y g l m from = grind (arith, has-joined, or_left)

pub occupied_follows : (g : Gas) → IsOnOneTorus g → Follows (occupied g) (occupied (forward g))
occupied_follows g i = λ x y l m holds.
    let after = streamed (parity g.tick) g.particles (solid g) in
    let is : (has after x y || has (solid g) x y) ≡ true = sym (has-joined after (solid g) x y l m) ∙ holds in
    elim (cases_Bool (has after x y)) [
      | inl here ↦ occupant_follows x y g l m (particles_follow (parity g.tick) g.particles (solid g) i.sides (solid_sides g i) x y l m here)
      | inr none ↦
          let d = distance_self g.particles.width x l in
          let e = distance_self g.particles.height y m in (
            x,
            y,
            record {
              column = l;
              row = m;
              across = omega arith;
              down = omega arith;
              held = has-joined g.particles (solid g) x y l m ∙ or_right _ _ (other_holds _ _ is none);
            },
          )
    ]

-- So sets that are apart come nearer by two cells at most.
nearer : (d w x a x' a' : ℕ) → x < w → a < w → x' < w → a' < w → distance w x x' ≤ 1 → distance w a a' ≤ 1 → d + 2 ≤ distance w x' a'
    → d ≤ distance w x a
nearer d w x a x' a' l m k o p q r = grind (arith, triangle, distance_back)

pub sets_come_nearer : (d : ℕ) (some others some' others' : Cells) → HasSidesOf others some → HasSidesOf some' some → HasSidesOf others' others
    → Follows some some' → Follows others others' → AreApart (d + 2) some others → AreApart d some' others'
sets_come_nearer d some others some' others' s t u f f' far = λ x y a b l m k o here there.
    let l' : x < some.width = omega (arith, t.wide) in
    let m' : y < some.height = omega (arith, t.high) in
    let k' : a < some.width = omega (arith, s.wide, u.wide) in
    let o' : b < some.height = omega (arith, s.high, u.high) in
    let g = f x y l' m' here in
    let h = f' a b (omega (arith, u.wide)) (omega (arith, u.high)) there in
    let c = g.2 in
    let q = h.2 in
    let qk : h.0 < some.width = omega (arith, s.wide, q.column) in
    let qo : h.1 < some.height = omega (arith, s.high, q.row) in
    elim (far g.0 g.1 h.0 h.1 c.column c.row q.column q.row c.held q.held) [
      | inl r ↦
          inl (subst (λ n. d ≤ distance n x a) (sym t.wide)
          (nearer d some.width x a g.0 h.0 l' k' c.column qk c.across (subst (λ n. distance n a h.0 ≤ 1) s.wide q.across) r))
      | inr r ↦
          inr (subst (λ n. d ≤ distance n y b) (sym t.high)
          (nearer d some.height y b g.1 h.1 m' o' c.row qo c.down (subst (λ n. distance n b h.1 ≤ 1) s.high q.down) r))
    ]

pub far_less : (d e : ℕ) (some others : Cells) → d ≤ e → AreApart e some others → AreApart d some others
far_less d e some others less far = grind arith
