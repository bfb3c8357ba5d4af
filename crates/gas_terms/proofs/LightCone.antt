-- What is near a cell after a step comes from one cell further.
use Rattle.std.proofs.Common.{◌≡◌, ℕ, zero, suc, ◌+◌, ◌%◌, ◌<◌, ◌≤◌, Bool, not, ◌&&◌, ◌||◌, ℤ, pos, ◌+ℤ◌, List, refl, sym, ap, subst, ◌∙◌, arith}
use Rattle.std.specs.Fn.{iterate}
use Rattle.std.specs.List.{list_any}
use Rattle.gas_terms.specs.Velocity.{parity}
use Rattle.gas_terms.specs.Cells.{Cells, Rectangle, has, is_inside, HasEvenSides, HasSidesOf}
use Rattle.gas_terms.specs.Gas.{Gas, Source, streamed, solid, forward, act, step, is_due, is_drained, is_filled}
use Rattle.gas_terms.specs.Block.{other_coordinate}
use Rattle.gas_terms.specs.Symmetry.{IsOnOneTorus, distance, AgreeWithin, AgreeOnCone}
use Rattle.gas_terms.proofs.Cells.{has-cells_where}
use Rattle.gas_terms.proofs.Distance.{triangle, other_near, distance_self}
use Rattle.gas_terms.proofs.Transport.{IsSameBlock, same_block_streams}
use Rattle.gas_terms.proofs.Torus.{solid_sides, torus_step}
use Rattle.gas_terms.proofs.Axis.{other_below}

pub one_further : (m n p x a : ℕ) → x < n → a < n → distance n x a ≤ m → distance n x (other_coordinate n p a) ≤ m + 1
one_further m n p x a l k d = grind (arith, other_below, triangle, other_near)

near_block : (n p x y a b : ℕ) (some others : Cells) → HasSidesOf others some → AgreeWithin (n + 1) x y some others
    → x < some.width → y < some.height → a < some.width → b < some.height → distance some.width x a ≤ n → distance some.height y b ≤ n
    → IsSameBlock p p some others a b a b
near_block n p x y a b some others sides agree l m la mb da db = grind (arith, other_below, one_further)

pub phase_is_local : (n p x y : ℕ) (some others walls boulders : Cells) → HasEvenSides some.width some.height
    → HasSidesOf others some → HasSidesOf walls some → HasSidesOf boulders some → x < some.width → y < some.height
    → AgreeWithin (n + 1) x y some others → AgreeWithin (n + 1) x y walls boulders
    → AgreeWithin n x y (streamed p some walls) (streamed p others boulders)
phase_is_local n p x y some others walls boulders e s t u l m here solid = λ a b la mb da db.
    let e' : HasEvenSides others.width others.height = record { wide = ap (λ k. k % 2) s.wide ∙ e.wide; high = ap (λ k. k % 2) s.high ∙ e.high } in
    let u' : HasSidesOf boulders others = record { wide = u.wide ∙ sym s.wide; high = u.high ∙ sym s.high } in
    let v : HasSidesOf boulders walls = record { wide = u.wide ∙ sym t.wide; high = u.high ∙ sym t.high } in
    same_block_streams p p some others walls boulders a b a b e e' t u' la mb (omega (arith, s.wide)) (omega (arith, s.high))
    (near_block n p x y a b some others s here l m la mb da db)
    (near_block n p x y a b walls boulders v solid (omega (arith, t.wide)) (omega (arith, t.high)) (omega (arith, t.wide)) (omega (arith, t.high))
    (subst (λ k. distance k x a ≤ n) (sym t.wide) da) (subst (λ k. distance k y b ≤ n) (sym t.high) db))

agree_nearer : (n x y : ℕ) (some others : Cells) → AgreeWithin (n + 1) x y some others → AgreeWithin n x y some others
agree_nearer n x y some others agree = λ a b la mb da db. agree a b la mb (omega arith) (omega arith)

pub agreeing_forward : (n x y : ℕ) (g k : Gas) → g.tick ≡ k.tick → IsOnOneTorus g → IsOnOneTorus k → HasSidesOf k.particles g.particles
    → x < g.particles.width → y < g.particles.height → AgreeOnCone (n + 1) x y g k → AgreeOnCone n x y (forward g) (forward k)
agreeing_forward n x y g k e i j s l m agree =
    let there : HasSidesOf (solid k) g.particles = record { wide = j.walls.wide ∙ s.wide; high = j.walls.high ∙ s.high } in
    record {
      particles = subst (λ t. AgreeWithin n x y (streamed (parity g.tick) g.particles (solid g)) (streamed (parity t) k.particles (solid k))) e
          (phase_is_local n (parity g.tick) x y g.particles k.particles (solid g) (solid k) i.sides s (solid_sides g i) there l m agree.particles agree.solids);
      solids = agree_nearer n x y (solid g) (solid k) agree.solids;
    }

same_here : (x y : ℕ) (some others : Cells) → x < some.width → y < some.height → AgreeWithin 0 x y some others → has some x y ≡ has others x y
same_here x y some others l m agree = grind (arith, distance_self)

-- The ports that both gases have do the same.
filled_at : ℤ → List Source → ℕ → ℕ → Bool
filled_at tick sources x y = list_any (λ s. is_due tick s && is_inside s.area x y) sources

drained_at : List Rectangle → ℕ → ℕ → Bool
drained_at drains x y = list_any (λ r. is_inside r x y) drains

same_ported : (a b : Bool) (t u : ℤ) (d d' : List Rectangle) (s s' : List Source) (x y : ℕ) → a ≡ b → t ≡ u → d ≡ d' → s ≡ s'
    → ((a && not (drained_at d x y)) || filled_at t s x y) ≡ ((b && not (drained_at d' x y)) || filled_at u s' x y)
same_ported a b t u d d' s s' x y e f g h = cc

agreeing_act : (n x y : ℕ) (g k : Gas) → g.tick ≡ k.tick → g.drains ≡ k.drains → g.sources ≡ k.sources → HasSidesOf k.particles g.particles
    → AgreeOnCone n x y g k → AgreeOnCone n x y (act g) (act k)
unfolding filled_at drained_at
agreeing_act n x y g k e d s sides agree = record {
  particles = λ a b l m da db.
      has-cells_where g.particles.width g.particles.height (λ x y. (has g.particles x y && not (is_drained g x y)) || is_filled g x y) a b l m
      ∙ same_ported (has g.particles a b) (has k.particles a b) g.tick k.tick g.drains k.drains g.sources k.sources a b
      (agree.particles a b l m da db) e d s
      ∙ sym (has-cells_where k.particles.width k.particles.height (λ x y. (has k.particles x y && not (is_drained k x y)) || is_filled k x y) a b
      (omega (arith, sides.wide)) (omega (arith, sides.high)));
  solids = agree.solids;
}

agreeing_step : (n x y : ℕ) (g k : Gas) → g.tick ≡ k.tick → g.drains ≡ k.drains → g.sources ≡ k.sources → IsOnOneTorus g → IsOnOneTorus k
    → HasSidesOf k.particles g.particles
    → x < g.particles.width → y < g.particles.height → AgreeOnCone (n + 1) x y g k → AgreeOnCone n x y (step g) (step k)
agreeing_step n x y g k e d s i j sides l m agree =
    agreeing_act n x y (forward g) (forward k) (ap (λ t. t +ℤ pos 1) e) d s (record { wide = sides.wide; high = sides.high })
    (agreeing_forward n x y g k e i j sides l m agree)

-- So many steps, so many cells.
pub agreeing_steps : (n m x y : ℕ) (g k : Gas) → g.tick ≡ k.tick → g.drains ≡ k.drains → g.sources ≡ k.sources → IsOnOneTorus g → IsOnOneTorus k
    → HasSidesOf k.particles g.particles
    → x < g.particles.width → y < g.particles.height → AgreeOnCone (n + m) x y g k
    → AgreeOnCone m x y (iterate step n g) (iterate step n k)
agreeing_steps zero m x y g k e d s i j sides l h agree = subst (λ r. AgreeOnCone r x y g k) (let z : 0 + m ≡ m = omega arith in z) agree
agreeing_steps (suc n) m x y g k e d s i j sides l h agree =
    let nearer = subst (λ r. AgreeOnCone r x y g k) (let z : suc n + m ≡ (n + m) + 1 = omega arith in z) agree in
    agreeing_steps n m x y (step g) (step k) (ap (λ t. t +ℤ pos 1) e) d s (torus_step g i) (torus_step k j)
    (record { wide = sides.wide; high = sides.high }) l h (agreeing_step (n + m) x y g k e d s i j sides l h nearer)

steps_width : (n : ℕ) (g : Gas) → (iterate step n g).particles.width ≡ g.particles.width
steps_width zero g = refl
steps_width (suc n) g = steps_width n (step g)

steps_height : (n : ℕ) (g : Gas) → (iterate step n g).particles.height ≡ g.particles.height
steps_height zero g = refl
steps_height (suc n) g = steps_height n (step g)

pub cell_after_steps : (n x y : ℕ) (g k : Gas) → g.tick ≡ k.tick → g.drains ≡ k.drains → g.sources ≡ k.sources → IsOnOneTorus g → IsOnOneTorus k
    → HasSidesOf k.particles g.particles → x < g.particles.width → y < g.particles.height → AgreeOnCone n x y g k
    → has (iterate step n g).particles x y ≡ has (iterate step n k).particles x y
cell_after_steps n x y g k e d s i j sides l m agree =
    let far = subst (λ r. AgreeOnCone r x y g k) (let z : n ≡ n + 0 = omega arith in z) agree in
    same_here x y (iterate step n g).particles (iterate step n k).particles
    (omega (arith, steps_width n g)) (omega (arith, steps_height n g))
    (agreeing_steps n 0 x y g k e d s i j sides l m far).particles
