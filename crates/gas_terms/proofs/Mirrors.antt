-- Mirrors and the exchange of rows and columns.
use Rattle.std.proofs.Common.{◌≡◌, ℕ, ◌+◌, ◌-◌, ◌%◌, ◌<◌, Bool, true, false, not, ◌||◌, refl, sym, ap, ◌∙◌, arith}
use Rattle.std.proofs.lemmas.Bool.Decides.{nat_tests}
use Rattle.gas_terms.specs.Velocity.{has_parity, parity}
use Rattle.gas_terms.specs.Cells.{Cells, has, cells_where, HasEvenSides, HasSidesOf, joined}
use Rattle.gas_terms.specs.Gas.{streamed, along}
use Rattle.gas_terms.specs.Block.{corner_rule, other_coordinate}
use Rattle.gas_terms.specs.Symmetry.{mirrored, upside_down, transposed, IsSymmetry, mapped}
use Rattle.gas_terms.proofs.Axis.{up_is, down_is, other_below}
use Rattle.gas_terms.proofs.Cells.{has-cells_where, full-cells_where, same_cells, same_cells_where}
use Rattle.gas_terms.proofs.Steps.{full_streamed}
use Rattle.gas_terms.proofs.Transport.{IsCarried, pulled_streamed, pulled_joined}
use Rattle.gas_terms.proofs.Blocks.{cell_by_eight, same_eight}
use Rattle.gas_terms.proofs.Maps.{commuting_symmetry}

-- A mirror turns round the way along an axis, and the parity.
mirror_up : (n x : ℕ) → x < n → n - 1 - (x + 1) % n ≡ (n - 1 - x + n - 1) % n
mirror_up n x l = let k : n - 1 - x < n = omega arith in let u = up_is n x l in let d = down_is n (n - 1 - x) k in grind arith

mirror_down : (n x : ℕ) → x < n → n - 1 - (x + n - 1) % n ≡ (n - 1 - x + 1) % n
mirror_down n x l = let k : n - 1 - x < n = omega arith in let u = down_is n x l in let d = up_is n (n - 1 - x) k in grind arith

mirror_along : (n x : ℕ) (b : Bool) → x < n → n - 1 - along n b x ≡ along n (not b) (n - 1 - x)
mirror_along n x true l = mirror_up n x l
mirror_along n x false l = mirror_down n x l

pub mirror_parity : (n p x : ℕ) → n % 2 ≡ 0 → x < n → not (has_parity p x) ≡ has_parity p (n - 1 - x)
mirror_parity n p x e l = grind (arith, nat_tests)

mirror_carries : (n p : ℕ) → n % 2 ≡ 0 → IsCarried p p n (λ x. n - 1 - x)
mirror_carries n p e = grind (arith, mirror_along, mirror_parity)

stay_carries : (n p : ℕ) → IsCarried p p n (λ x. x)
stay_carries n p = record { below = λ x l. l; other = λ x l. refl }

mirrored_streamed : (p : ℕ) (particles walls : Cells) → HasEvenSides particles.width particles.height → HasSidesOf walls particles
    → streamed p (mirrored particles) (mirrored walls) ≡ mirrored (streamed p particles walls)
mirrored_streamed p particles walls e sides =
    ap (λ n. streamed p (mirrored particles) (cells_where walls.width walls.height (λ x y. has walls (n - 1 - x) y))) sides.wide
    ∙ pulled_streamed p p particles walls (λ x. particles.width - 1 - x) (λ y. y) e sides
    (mirror_carries particles.width p e.wide) (stay_carries particles.height p)

upside_down_streamed : (p : ℕ) (particles walls : Cells) → HasEvenSides particles.width particles.height → HasSidesOf walls particles
    → streamed p (upside_down particles) (upside_down walls) ≡ upside_down (streamed p particles walls)
upside_down_streamed p particles walls e sides =
    ap (λ n. streamed p (upside_down particles) (cells_where walls.width walls.height (λ x y. has walls x (n - 1 - y)))) sides.high
    ∙ pulled_streamed p p particles walls (λ x. x) (λ y. particles.height - 1 - y) e sides
    (stay_carries particles.width p) (mirror_carries particles.height p e.high)

-- The rule doesn't tell columns from rows.
turn_rule : (k l m n a b c d : Bool) → corner_rule (k || l || m || n) a b c d ≡ corner_rule (k || l || n || m) a b d c
turn_rule k l m n a b c d = grind arith

pub has-transposed : (cells : Cells) (x y : ℕ) → x < cells.height → y < cells.width → has (transposed cells) x y ≡ has cells y x
has-transposed cells x y l m = has-cells_where cells.height cells.width (λ x y. has cells y x) x y l m

transposed_streamed : (p : ℕ) (particles walls : Cells) → HasEvenSides particles.width particles.height → HasSidesOf walls particles
    → streamed p (transposed particles) (transposed walls) ≡ transposed (streamed p particles walls)
transposed_streamed p particles walls e sides =
    let w = particles.width in
    let h = particles.height in
    same_cells (streamed p (transposed particles) (transposed walls)) (transposed (streamed p particles walls))
    (full_streamed p (transposed particles) (transposed walls)) (full-cells_where h w (λ x y. has (streamed p particles walls) y x)) refl refl
    (λ x y l m.
    let x' = other_coordinate h p x in
    let y' = other_coordinate w p y in
    let l' : x' < h = other_below h p x l in
    let m' : y' < w = other_below w p y m in
    let wl : x < walls.height = omega (arith, sides.high) in
    let wm : y < walls.width = omega (arith, sides.wide) in
    let wl' : x' < walls.height = omega (arith, sides.high) in
    let wm' : y' < walls.width = omega (arith, sides.wide) in
    cell_by_eight p (transposed particles) (transposed walls) x y (record { wide = e.high; high = e.wide })
    (record { wide = sides.high; high = sides.wide }) l m
    ∙ same_eight _ _ _ _ _ _ _ _ _ _ _ _ _ _ _ _
    (has-transposed walls x y wl wm) (has-transposed walls x' y' wl' wm') (has-transposed walls x' y wl' wm) (has-transposed walls x y' wl wm')
    (has-transposed particles x y l m) (has-transposed particles x' y' l' m') (has-transposed particles x' y l' m) (has-transposed particles x y' l m')
    ∙ turn_rule (has walls y x) (has walls y' x') (has walls y x') (has walls y' x) (has particles y x) (has particles y' x') (has particles y x')
    (has particles y' x)
    ∙ sym (cell_by_eight p particles walls y x e sides m l)
    ∙ sym (has-transposed (streamed p particles walls) x y l m))

-- The maps of joined sets.
mirrored_joined : (some others : Cells) → HasSidesOf others some → joined (mirrored some) (mirrored others) ≡ mirrored (joined some others)
mirrored_joined some others sides =
    ap (λ n. joined (mirrored some) (cells_where others.width others.height (λ x y. has others (n - 1 - x) y))) sides.wide
    ∙ pulled_joined some others (λ x. some.width - 1 - x) (λ y. y) sides (λ x l. omega arith) (λ y m. m)

upside_down_joined : (some others : Cells) → HasSidesOf others some → joined (upside_down some) (upside_down others) ≡ upside_down (joined some others)
upside_down_joined some others sides =
    ap (λ n. joined (upside_down some) (cells_where others.width others.height (λ x y. has others x (n - 1 - y)))) sides.high
    ∙ pulled_joined some others (λ x. x) (λ y. some.height - 1 - y) sides (λ x l. l) (λ y m. omega arith)

pub transposed_joined : (some others : Cells) → HasSidesOf others some → joined (transposed some) (transposed others) ≡ transposed (joined some others)
transposed_joined some others sides =
    same_cells_where some.height some.width (λ x y. has (transposed some) x y || has (transposed others) x y) (λ x y. has (joined some others) y x)
    (λ x y l m.
    let l' : x < others.height = omega (arith, sides.high) in
    let m' : y < others.width = omega (arith, sides.wide) in
    ap (λ b. b || has (transposed others) x y) (has-transposed some x y l m)
    ∙ ap (λ b. has some y x || b) (has-transposed others x y l' m')
    ∙ sym (has-cells_where some.width some.height (λ x y. has some x y || has others x y) y x m l))

-- So they are symmetries.
pub mirror_symmetry : IsSymmetry (mapped mirrored)
mirror_symmetry =
    commuting_symmetry mirrored (λ t. t) (record {
      ticks = λ t. refl;
      ticks_back = λ t. refl;
      even = λ cells e. e;
      joins = mirrored_joined;
      streams = λ t particles walls e s. mirrored_streamed (parity t) particles walls e s;
    })

pub upside_down_symmetry : IsSymmetry (mapped upside_down)
upside_down_symmetry =
    commuting_symmetry upside_down (λ t. t) (record {
      ticks = λ t. refl;
      ticks_back = λ t. refl;
      even = λ cells e. e;
      joins = upside_down_joined;
      streams = λ t particles walls e s. upside_down_streamed (parity t) particles walls e s;
    })

pub transposed_symmetry : IsSymmetry (mapped transposed)
transposed_symmetry =
    commuting_symmetry transposed (λ t. t) (record {
      ticks = λ t. refl;
      ticks_back = λ t. refl;
      even = λ cells e. record { wide = e.high; high = e.wide };
      joins = transposed_joined;
      streams = λ t particles walls e s. transposed_streamed (parity t) particles walls e s;
    })
