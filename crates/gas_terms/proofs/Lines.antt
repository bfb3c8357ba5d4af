-- Without walls, a step carries the particles that go one way along an axis from each line to the next.
use Rattle.std.proofs.Common.{◌≡◌, ℕ, zero, suc, ◌+◌, ◌-◌, ◌*◌, ◌/◌, ◌%◌, ◌<◌, Bool, true, false, not, ◌&&◌, cond, refl, sym, ap, subst, ◌∙◌, arith}
use Rattle.std.proofs.lemmas.Bool.{eqb-true, eqb-false}
use Rattle.std.specs.Fn.{iterate}
use Rattle.gas_terms.specs.Velocity.{has_parity, parity}
use Rattle.gas_terms.specs.Cells.{Cells, has, HasEvenSides, HasSidesOf}
use Rattle.gas_terms.specs.Gas.{Gas, along, streamed, solid, forward}
use Rattle.gas_terms.specs.Block.{corner_rule, other_coordinate}
use Rattle.gas_terms.specs.Symmetry.{IsOnOneTorus, mapped, transposed}
use Rattle.gas_terms.specs.Histories.{IsClear, goes, in_column, in_row}
use Rattle.gas_terms.proofs.Axis.{has_parity_true, has_parity_false, same_parity, up_parity, down_parity, along_back, along_below, other_below}
use Rattle.gas_terms.proofs.Blocks.{cell_by_eight, same_eight}
use Rattle.gas_terms.proofs.FiniteSums.{sum_below, sum_below-cong, sum_below_round}
use Rattle.gas_terms.proofs.ListSums.{sum_by-range}
use Rattle.gas_terms.proofs.Mirrors.{has-transposed, transposed_joined, transposed_symmetry}
use Rattle.gas_terms.proofs.Parity.{parity-small, parity-next}
use Rattle.gas_terms.proofs.Torus.{solid_sides, obstacles_sides, torus_forward}
use Rattle.std.proofs.Math.Bool.{and-true, and-false}

abbrev pub bit : Bool → ℕ
bit b = cond b 1 0

-- The other coordinate's other coordinate is the first.
turned_parity : (n p x : ℕ) (t : Bool) → n % 2 ≡ 0 → x < n → has_parity p x ≡ t → has_parity p (along n t x) ≡ not t
turned_parity n p x true e l q =
    let even : (x + p) % 2 ≡ 0 = eqb-true _ _ q in
    has_parity_false p ((x + 1) % n) (omega (arith, up_parity n x e l))
turned_parity n p x false e l q =
    let odd : (x + p) % 2 ≡ 0 → ⊥ = eqb-false _ _ q in
    has_parity_true p ((x + n - 1) % n) (omega (arith, down_parity n x e l))

pub other_other : (n p x : ℕ) → n % 2 ≡ 0 → x < n → other_coordinate n p (other_coordinate n p x) ≡ x
other_other n p x e l = grind (arith, turned_parity, along_back)

module _ (p : ℕ) (cells walls : Cells) (e : HasEvenSides cells.width cells.height) (s : HasSidesOf walls cells)
    (clear : (x y : ℕ) → x < walls.width → y < walls.height → has walls x y ≡ false) where
  -- what a cell gets, by the four cells of its block
  pub cell_in_clear : (x y : ℕ) → x < cells.width → y < cells.height →
      has (streamed p cells walls) x y
      ≡ corner_rule false (has cells x y) (has cells (other_coordinate cells.width p x) (other_coordinate cells.height p y))
      (has cells (other_coordinate cells.width p x) y) (has cells x (other_coordinate cells.height p y))
  cell_in_clear x y l m =
      let x' : ℕ = other_coordinate cells.width p x in
      let y' : ℕ = other_coordinate cells.height p y in
      let l' : x' < cells.width = other_below cells.width p x l in
      let m' : y' < cells.height = other_below cells.height p y m in
      let a : x < walls.width = omega (arith, s.wide) in
      let a' : x' < walls.width = omega (arith, s.wide) in
      let b : y < walls.height = omega (arith, s.high) in
      let b' : y' < walls.height = omega (arith, s.high) in
      cell_by_eight p cells walls x y e s l m
      ∙ same_eight _ false _ false _ false _ false _ _ _ _ _ _ _ _
      (clear x y a b) (clear x' y' a' b') (clear x' y a' b) (clear x y' a b') refl refl refl refl

  -- the two cells of a block in one column get what the two in the other had
  block_by_column : (x y : ℕ) → x < cells.width → y < cells.height →
      let x' = other_coordinate cells.width p x in
      let y' = other_coordinate cells.height p y in
      bit (has (streamed p cells walls) x' y) + bit (has (streamed p cells walls) x' y') ≡ bit (has cells x y) + bit (has cells x y')
  block_by_column x y l m = grind (arith, other_below, other_other, cell_in_clear)

  -- so does a whole column
  column_moves : (x : ℕ) → p < 2 → x < cells.width →
      sum_below cells.height (λ y. bit (has (streamed p cells walls) (other_coordinate cells.width p x) y)) ≡ sum_below cells.height (λ y. bit (has cells x y))
  column_moves x small l =
      let h : ℕ = cells.height in
      let x' : ℕ = other_coordinate cells.width p x in
      let f : ℕ → ℕ = λ y. bit (has (streamed p cells walls) x' y) in
      let g : ℕ → ℕ = λ y. bit (has cells x y) in
      sym (sum_below_round p h f small e.high)
      ∙ sum_below-cong (h / 2) (λ j. f (2 * j + p) + f ((2 * j + p + 1) % h)) (λ j. g (2 * j + p) + g ((2 * j + p + 1) % h))
      (λ j k.
      let y : ℕ = 2 * j + p in
      let m : y < h = omega (arith, e.high) in
      let q : (y + p) % 2 ≡ 0 = omega arith in
      let below : other_coordinate h p y ≡ (y + 1) % h = ap (λ t. along h t y) (has_parity_true p y q) in
      subst (λ z. f y + f z ≡ g y + g z) below (block_by_column x y l m))
      ∙ sum_below_round p h g small e.high

-- A line without particles that go one way stays so.
marked : (n : ℕ) (m : Bool) (f g : ℕ → Bool) → (m ≡ true → sum_below n (λ i. bit (f i)) ≡ sum_below n (λ i. bit (g i)))
    → sum_below n (λ i. bit (f i && m)) ≡ sum_below n (λ i. bit (g i && m))
marked n true f g same =
    sum_below-cong n (λ i. bit (f i && true)) (λ i. bit (f i)) (λ i l. ap bit (and-true (f i)))
    ∙ same refl
    ∙ sym (sum_below-cong n (λ i. bit (g i && true)) (λ i. bit (g i)) (λ i l. ap bit (and-true (g i))))
marked n false f g same =
    sum_below-cong n (λ i. bit (f i && false)) (λ i. bit (g i && false)) (λ i l. ap bit (and-false (f i) ∙ sym (and-false (g i))))

goes_tells : (a b : Bool) → goes a b ≡ true → b ≡ a
goes_tells a b h3 = grind arith

-- a line further, a tick later, the velocity is the same
along_rest : (n x : ℕ) (b : Bool) → n % 2 ≡ 0 → x < n → along n b x % 2 ≡ (x + 1) % 2
along_rest n x true e l = up_parity n x e l
along_rest n x false e l = down_parity n x e l

same_component : (n x : ℕ) (b : Bool) (g : Gas) → n % 2 ≡ 0 → x < n → has_parity (parity (forward g).tick) (along n b x) ≡ has_parity (parity g.tick) x
same_component n x b g e l =
    same_parity (parity (forward g).tick) (parity g.tick) (along n b x) x
    (omega (arith, parity-next g.tick, parity-small g.tick, along_rest n x b e l))

pub column_forward : (right : Bool) (g : Gas) (x : ℕ) → IsOnOneTorus g → IsClear g → x < g.particles.width →
    in_column right (forward g) (along g.particles.width right x) ≡ in_column right g x
column_forward right g x i clear l =
    let w : ℕ = g.particles.width in
    let h : ℕ = g.particles.height in
    let p : ℕ = parity g.tick in
    let to : ℕ = along w right x in
    let after : Cells = streamed p g.particles (solid g) in
    let here : Bool = goes right (has_parity p x) in
    let there : Bool = goes right (has_parity (parity (forward g).tick) to) in
    let same : there ≡ here = ap (goes right) (same_component w x right g i.sides.wide l) in
    sum_by-range (λ y. bit (has after to y && there)) h
    ∙ ap (λ m. sum_below h (λ y. bit (has after to y && m))) same
    ∙ marked h here (has after to) (has g.particles x)
    (λ on.
    ap (λ b. sum_below h (λ y. bit (has after (along w b x) y))) (sym (goes_tells right (has_parity p x) on))
    ∙ column_moves p g.particles (solid g) i.sides (solid_sides g i) clear x (parity-small g.tick) l)
    ∙ sym (sum_by-range (λ y. bit (has g.particles x y && here)) h)

-- Rows are the columns of the transposed gas.
row_is_column : (down : Bool) (g : Gas) (y : ℕ) → y < g.particles.height → in_row down g y ≡ in_column down (mapped transposed g) y
row_is_column down g y m = grind (arith, sum_by-range, sum_below-cong, has-transposed)

transposed_torus : (g : Gas) → IsOnOneTorus g → IsOnOneTorus (mapped transposed g)
transposed_torus g i = grind arith

transposed_clear : (g : Gas) → IsOnOneTorus g → IsClear g → IsClear (mapped transposed g)
transposed_clear g i clear = λ x y l m.
    ap (λ c. has c x y) (transposed_joined g.walls g.obstacles (obstacles_sides g i))
    ∙ has-transposed (solid g) x y l m
    ∙ clear y x m l

pub row_forward : (down : Bool) (g : Gas) (y : ℕ) → IsOnOneTorus g → IsClear g → y < g.particles.height →
    in_row down (forward g) (along g.particles.height down y) ≡ in_row down g y
row_forward down g y i clear m =
    let to : ℕ = along g.particles.height down y in
    let k : Gas = mapped transposed g in
    row_is_column down (forward g) to (along_below g.particles.height down y m)
    ∙ ap (λ l. in_column down l to) (transposed_symmetry.forth 1 g i)
    ∙ column_forward down k y (transposed_torus g i) (transposed_clear g i clear) m
    ∙ sym (row_is_column down g y m)

-- Many steps.
pub column_later : (n : ℕ) (right : Bool) (g : Gas) (x : ℕ) → IsOnOneTorus g → IsClear g → x < g.particles.width →
    in_column right (iterate forward n g) (iterate (along g.particles.width right) n x) ≡ in_column right g x
column_later zero right g x i clear l = refl
column_later (suc n) right g x i clear l =
    column_later n right (forward g) (along g.particles.width right x) (torus_forward g i) clear (along_below g.particles.width right x l)
    ∙ column_forward right g x i clear l

pub row_later : (n : ℕ) (down : Bool) (g : Gas) (y : ℕ) → IsOnOneTorus g → IsClear g → y < g.particles.height →
    in_row down (iterate forward n g) (iterate (along g.particles.height down) n y) ≡ in_row down g y
row_later zero down g y i clear m = refl
row_later (suc n) down g y i clear m =
    row_later n down (forward g) (along g.particles.height down y) (torus_forward g i) clear (along_below g.particles.height down y m)
    ∙ row_forward down g y i clear m
