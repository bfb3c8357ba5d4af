-- A map of each axis that takes blocks to blocks commutes with a step.
use Rattle.std.proofs.Common.{◌≡◌, ℕ, ◌<◌, ◌||◌, refl, sym, ap, subst, ◌∙◌, arith, rules}
use Rattle.gas_terms.specs.Cells.{Cells, has, cells_where, joined, HasEvenSides, HasSidesOf}
use Rattle.gas_terms.specs.Gas.{streamed}
use Rattle.gas_terms.specs.Block.{other_coordinate}
use Rattle.gas_terms.proofs.Axis.{other_below}
use Rattle.gas_terms.proofs.Cells.{has-cells_where, full-cells_where, same_cells, same_cells_where}
use Rattle.gas_terms.proofs.Steps.{full_streamed}
use Rattle.gas_terms.proofs.Blocks.{cell_by_eight, same_eight}

-- Two sets have the same in the block of (x, y) and in the block of (a, b).
pub record IsSameBlock (p q : ℕ) (some others : Cells) (x y a b : ℕ) : Type 0 where
  pub own : has some x y ≡ has others a b
  pub opposed : has some (other_coordinate some.width p x) (other_coordinate some.height p y)
      ≡ has others (other_coordinate others.width q a) (other_coordinate others.height q b)
  pub besides : has some (other_coordinate some.width p x) y ≡ has others (other_coordinate others.width q a) b
  pub beneath : has some x (other_coordinate some.height p y) ≡ has others a (other_coordinate others.height q b)

-- A step makes the same of blocks that hold the same.
pub same_block_streams : (p q : ℕ) (some others walls boulders : Cells) (x y a b : ℕ)
    → HasEvenSides some.width some.height → HasEvenSides others.width others.height → HasSidesOf walls some → HasSidesOf boulders others
    → x < some.width → y < some.height → a < others.width → b < others.height
    → IsSameBlock p q some others x y a b → IsSameBlock p q walls boulders x y a b
    → has (streamed p some walls) x y ≡ has (streamed q others boulders) a b
same_block_streams p q some others walls boulders x y a b e e' sides sides' l m l' m' here solid =
    let f : ℕ → ℕ = λ n. other_coordinate n p x in
    let g : ℕ → ℕ = λ n. other_coordinate n p y in
    let f' : ℕ → ℕ = λ n. other_coordinate n q a in
    let g' : ℕ → ℕ = λ n. other_coordinate n q b in
    cell_by_eight p some walls x y e sides l m
    ∙ same_eight _ _ _ _ _ _ _ _ _ _ _ _ _ _ _ _
    solid.own
    (ap (λ n. has walls (f n) (g some.height)) (sym sides.wide) ∙ ap (λ n. has walls (f walls.width) (g n)) (sym sides.high)
    ∙ solid.opposed
    ∙ ap (λ n. has boulders (f' n) (g' boulders.height)) sides'.wide ∙ ap (λ n. has boulders (f' others.width) (g' n)) sides'.high)
    (ap (λ n. has walls (f n) y) (sym sides.wide) ∙ solid.besides ∙ ap (λ n. has boulders (f' n) b) sides'.wide)
    (ap (λ n. has walls x (g n)) (sym sides.high) ∙ solid.beneath ∙ ap (λ n. has boulders a (g' n)) sides'.high)
    here.own here.opposed here.besides here.beneath
    ∙ sym (cell_by_eight q others boulders a b e' sides' l' m')

-- A map of an axis takes blocks of one parity to blocks of another.
pub record IsCarried (p q n : ℕ) (f : ℕ → ℕ) : Type 0 where
  pub below : (x : ℕ) → x < n → f x < n
  pub other : (x : ℕ) → x < n → f (other_coordinate n p x) ≡ other_coordinate n q (f x)

-- the set that a map of each axis makes
abbrev pub pulled : Cells → (ℕ → ℕ) → (ℕ → ℕ) → Cells
pulled cells f g = cells_where cells.width cells.height (λ x y. has cells (f x) (g y))

pub has-pulled : (cells : Cells) (f g : ℕ → ℕ) (x y : ℕ) → x < cells.width → y < cells.height → has (pulled cells f g) x y ≡ has cells (f x) (g y)
has-pulled cells f g x y l m = has-cells_where cells.width cells.height (λ x y. has cells (f x) (g y)) x y l m

pulled_block : (p q : ℕ) (cells : Cells) (f g : ℕ → ℕ) → IsCarried p q cells.width f → IsCarried p q cells.height g
    → (x y : ℕ) → x < cells.width → y < cells.height → IsSameBlock p q (pulled cells f g) cells x y (f x) (g y)
pulled_block p q cells f g c d x y l m = search (rules, other_below, has-pulled)

carried_elsewhere : (p q n k : ℕ) (f : ℕ → ℕ) → n ≡ k → IsCarried p q n f → IsCarried p q k f
carried_elsewhere p q n k f e c = subst (λ i. IsCarried p q i f) e c

-- A step of the mapped cells is the mapped step.
pub pulled_streamed : (p q : ℕ) (particles walls : Cells) (f g : ℕ → ℕ) → HasEvenSides particles.width particles.height → HasSidesOf walls particles
    → IsCarried p q particles.width f → IsCarried p q particles.height g
    → streamed p (pulled particles f g) (pulled walls f g) ≡ pulled (streamed q particles walls) f g
pulled_streamed p q particles walls f g e sides c d =
    let moved = pulled particles f g in
    let shells = pulled walls f g in
    let later = streamed q particles walls in
    same_cells (streamed p moved shells) (pulled later f g) (full_streamed p moved shells)
    (full-cells_where particles.width particles.height (λ x y. has later (f x) (g y))) refl refl
    (λ x y l m.
    let l' : x < walls.width = omega (arith, sides.wide) in
    let m' : y < walls.height = omega (arith, sides.high) in
    same_block_streams p q moved particles shells walls x y (f x) (g y) e e
    (record { wide = sides.wide; high = sides.high }) sides l m (c.below x l) (d.below y m)
    (pulled_block p q particles f g c d x y l m)
    (pulled_block p q walls f g (carried_elsewhere p q _ _ f (sym sides.wide) c) (carried_elsewhere p q _ _ g (sym sides.high) d) x y l' m')
    ∙ sym (has-pulled later f g x y l m))

-- The mapped sets joined are the joined sets mapped.
pub pulled_joined : (some others : Cells) (f g : ℕ → ℕ) → HasSidesOf others some
    → ((x : ℕ) → x < some.width → f x < some.width) → ((y : ℕ) → y < some.height → g y < some.height)
    → joined (pulled some f g) (pulled others f g) ≡ pulled (joined some others) f g
pulled_joined some others f g sides c d =
    same_cells_where some.width some.height (λ x y. has (pulled some f g) x y || has (pulled others f g) x y) (λ x y. has (joined some others) (f x) (g y))
    (λ x y l m.
    let l' : x < others.width = omega (arith, sides.wide) in
    let m' : y < others.height = omega (arith, sides.high) in
    ap (λ b. b || has (pulled others f g) x y) (has-pulled some f g x y l m)
    ∙ ap (λ b. has some (f x) (g y) || b) (has-pulled others f g x y l' m')
    ∙ sym (has-cells_where some.width some.height (λ x y. has some x y || has others x y) (f x) (g y) (c x l) (d y m)))
