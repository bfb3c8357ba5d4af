-- Gases that never meet run in one lattice as each runs alone.
use Rattle.std.proofs.Common.{◌≡◌, ℕ, zero, suc, ◌+◌, ◌-◌, ◌*◌, ◌%◌, ◌<◌, ◌⊎◌, inl, inr, Bool, true, false, ◌||◌, pos, ◌+ℤ◌, refl, sym, ap, subst, ◌∙◌, arith}
use Rattle.std.specs.Fn.{iterate}
use Rattle.gas_terms.specs.Velocity.{parity}
use Rattle.gas_terms.specs.Cells.{Cells, has, joined, HasEvenSides, HasSidesOf}
use Rattle.gas_terms.specs.Gas.{Gas, streamed, solid, forward}
use Rattle.gas_terms.specs.Symmetry.{IsOnOneTorus, AreApart, occupied, superposed, with_particles}
use Rattle.gas_terms.proofs.Cells.{full-cells_where, same_cells, has-joined}
use Rattle.gas_terms.proofs.Steps.{gas_at, full_streamed, same_gas}
use Rattle.gas_terms.proofs.Transport.{IsSameBlock, same_block_streams}
use Rattle.gas_terms.proofs.Torus.{torus_forward, solid_sides}
use Rattle.gas_terms.proofs.Clear.{at, at_sides, one_of_below, one_is_clear, none_come, particles_follow, occupied_follows, sets_come_nearer, far_less}
use Rattle.std.proofs.lemmas.Bool.{or_parts}

or_none : (a b : Bool) → b ≡ false → (a || b) ≡ a
or_none a b e = grind arith

none_or : (a b : Bool) → a ≡ false → (a || b) ≡ b
none_or a b e = grind arith

first_solid : (a b c d : Bool) → (b || d) ≡ false → ((a || b) || (c || d)) ≡ (a || c)
first_solid a b c d e = grind arith

second_solid : (a b c d : Bool) → (a || c) ≡ false → ((a || b) || (c || d)) ≡ (b || d)
second_solid a b c d e = grind arith

-- the solids of both
has-solid_superposed : (g k : Gas) (a b : ℕ) → IsOnOneTorus g → a < g.particles.width → b < g.particles.height
    → has (solid (superposed g k)) a b ≡ ((has g.walls a b || has k.walls a b) || (has g.obstacles a b || has k.obstacles a b))
has-solid_superposed g k a b i l m =
    let l' : a < g.walls.width = omega (arith, i.walls.wide) in
    let m' : b < g.walls.height = omega (arith, i.walls.high) in
    has-joined (joined g.walls k.walls) (joined g.obstacles k.obstacles) a b l' m'
    ∙ ap (λ t. t || has (joined g.obstacles k.obstacles) a b) (has-joined g.walls k.walls a b l' m')
    ∙ ap (λ t. (has g.walls a b || has k.walls a b) || t)
    (has-joined g.obstacles k.obstacles a b (omega (arith, i.obstacles.wide)) (omega (arith, i.obstacles.high)))

has-solid : (g : Gas) (a b : ℕ) → IsOnOneTorus g → a < g.particles.width → b < g.particles.height
    → has (solid g) a b ≡ (has g.walls a b || has g.obstacles a b)
has-solid g a b i l m = has-joined g.walls g.obstacles a b (omega (arith, i.walls.wide)) (omega (arith, i.walls.high))

torus_superposed : (g k : Gas) → IsOnOneTorus g → IsOnOneTorus (superposed g k)
torus_superposed g k i = grind arith

-- In a block where one gas has nothing, both together are as the other.
like_first : (g k : Gas) (a b : ℕ) → IsOnOneTorus g → IsOnOneTorus k → HasSidesOf k.particles g.particles
    → a < g.particles.width → b < g.particles.height → has (occupied k) a b ≡ false
    → (has (superposed g k).particles a b ≡ has g.particles a b) × (has (solid (superposed g k)) a b ≡ has (solid g) a b)
like_first g k a b i j s l m none =
    let l' : a < k.particles.width = omega (arith, s.wide) in
    let m' : b < k.particles.height = omega (arith, s.high) in
    let n = or_parts _ _ (sym (has-joined k.particles (solid k) a b l' m') ∙ none) in (
      has-joined g.particles k.particles a b l m ∙ or_none _ _ n.0,
      has-solid_superposed g k a b i l m
          ∙ first_solid (has g.walls a b) (has k.walls a b) (has g.obstacles a b) (has k.obstacles a b) (sym (has-solid k a b j l' m') ∙ n.1)
          ∙ sym (has-solid g a b i l m),
    )

like_second : (g k : Gas) (a b : ℕ) → IsOnOneTorus g → IsOnOneTorus k → HasSidesOf k.particles g.particles
    → a < g.particles.width → b < g.particles.height → has (occupied g) a b ≡ false
    → (has (superposed g k).particles a b ≡ has k.particles a b) × (has (solid (superposed g k)) a b ≡ has (solid k) a b)
like_second g k a b i j s l m none =
    let l' : a < k.particles.width = omega (arith, s.wide) in
    let m' : b < k.particles.height = omega (arith, s.high) in
    let n = or_parts _ _ (sym (has-joined g.particles (solid g) a b l m) ∙ none) in (
      has-joined g.particles k.particles a b l m ∙ none_or _ _ n.0,
      has-solid_superposed g k a b i l m
          ∙ second_solid (has g.walls a b) (has k.walls a b) (has g.obstacles a b) (has k.obstacles a b) (sym (has-solid g a b i l m) ∙ n.1)
          ∙ sym (has-solid k a b j l' m'),
    )

-- two sets of so many columns and rows
record HasBoth (w h : ℕ) (particles walls : Cells) : Type 0 where
  wide : particles.width ≡ w
  high : particles.height ≡ h
  walls_wide : walls.width ≡ w
  walls_high : walls.height ≡ h

like_block : (p w h x y : ℕ) (some others : Cells) → some.width ≡ w → some.height ≡ h → others.width ≡ w → others.height ≡ h
    → ((i j : Bool) → at p w h some x y i j ≡ at p w h others x y i j) → IsSameBlock p p some others x y x y
like_block p w h x y some others e f e' f' like =
    let each : (i j : Bool) → at p some.width some.height some x y i j ≡ at p others.width others.height others x y i j =
    λ i j. at_sides p w h some x y i j e f ∙ like i j ∙ sym (at_sides p w h others x y i j e' f') in
    record { own = each true true; opposed = each false false; besides = each false true; beneath = each true false }

even_by : (w h : ℕ) (cells : Cells) → cells.width ≡ w → cells.height ≡ h → HasEvenSides w h → HasEvenSides cells.width cells.height
even_by w h cells e f even = record { wide = ap (λ n. n % 2) e ∙ even.wide; high = ap (λ n. n % 2) f ∙ even.high }

like_streams : (p w h x y : ℕ) (some walls others boulders : Cells) → HasEvenSides w h → HasBoth w h some walls → HasBoth w h others boulders
    → x < w → y < h → ((i j : Bool) → at p w h some x y i j ≡ at p w h others x y i j)
    → ((i j : Bool) → at p w h walls x y i j ≡ at p w h boulders x y i j)
    → has (streamed p some walls) x y ≡ has (streamed p others boulders) x y
like_streams p w h x y some walls others boulders e s t l m here there =
    same_block_streams p p some others walls boulders x y x y
    (even_by w h some s.wide s.high e) (even_by w h others t.wide t.high e)
    (record { wide = s.walls_wide ∙ sym s.wide; high = s.walls_high ∙ sym s.high })
    (record { wide = t.walls_wide ∙ sym t.wide; high = t.walls_high ∙ sym t.high })
    (omega (arith, s.wide)) (omega (arith, s.high)) (omega (arith, t.wide)) (omega (arith, t.high))
    (like_block p w h x y some others s.wide s.high t.wide t.high here)
    (like_block p w h x y walls boulders s.walls_wide s.walls_high t.walls_wide t.walls_high there)

none_stream : (p w h x y : ℕ) (particles walls : Cells) → HasEvenSides w h → HasBoth w h particles walls → x < w → y < h
    → ((i j : Bool) → at p w h particles x y i j ≡ false) → has (streamed p particles walls) x y ≡ false
none_stream p w h x y particles walls e s l m clear =
    none_come p x y particles walls (even_by w h particles s.wide s.high e)
    (record { wide = s.walls_wide ∙ sym s.wide; high = s.walls_high ∙ sym s.high })
    (omega (arith, s.wide)) (omega (arith, s.high))
    (λ i j. at_sides p w h particles x y i j s.wide s.high ∙ clear i j)

-- at the block of a cell both are as the one, and the other has no particles
record IsFirstAlone (p w h x y : ℕ) (both walls some boulders others : Cells) : Type 0 where
  particles : (i j : Bool) → at p w h both x y i j ≡ at p w h some x y i j
  solids : (i j : Bool) → at p w h walls x y i j ≡ at p w h boulders x y i j
  none : (i j : Bool) → at p w h others x y i j ≡ false

-- A step of both is the steps of each.
step_of_both : (p w h : ℕ) (both walls some boulders others rocks : Cells) → HasEvenSides w h
    → HasBoth w h both walls → HasBoth w h some boulders → HasBoth w h others rocks
    → ((x y : ℕ) → x < w → y < h
    → IsFirstAlone p w h x y both walls some boulders others ⊎ IsFirstAlone p w h x y both walls others rocks some)
    → streamed p both walls ≡ joined (streamed p some boulders) (streamed p others rocks)
step_of_both p w h both walls some boulders others rocks e s t u alone =
    let c = streamed p some boulders in
    let d = streamed p others rocks in
    same_cells (streamed p both walls) (joined c d) (full_streamed p both walls)
    (full-cells_where c.width c.height (λ x y. has c x y || has d x y)) (s.wide ∙ sym t.wide) (s.high ∙ sym t.high)
    (λ x y l m.
    let l' : x < w = omega (arith, s.wide) in
    let m' : y < h = omega (arith, s.high) in
    elim (alone x y l' m') [
      | inl a ↦
          like_streams p w h x y both walls some boulders e s t l' m' a.particles a.solids
          ∙ sym (or_none _ _ (none_stream p w h x y others rocks e u l' m' a.none))
      | inr a ↦
          like_streams p w h x y both walls others rocks e s u l' m' a.particles a.solids
          ∙ sym (none_or _ _ (none_stream p w h x y some boulders e t l' m' a.none))
    ]
    ∙ sym (has-joined c d x y (omega (arith, t.wide)) (omega (arith, t.high))))

sides_of : (g : Gas) (w h : ℕ) → IsOnOneTorus g → g.particles.width ≡ w → g.particles.height ≡ h → HasBoth w h g.particles (solid g)
sides_of g w h i e f = record { wide = e; high = f; walls_wide = i.walls.wide ∙ e; walls_high = i.walls.high ∙ f }

forward_superposed : (g k : Gas) → g.tick ≡ k.tick → IsOnOneTorus g → IsOnOneTorus k → HasSidesOf k.particles g.particles
    → AreApart 2 (occupied g) (occupied k) → forward (superposed g k) ≡ superposed (forward g) (forward k)
unfolding gas_at
forward_superposed g k e i j s far =
    let w = g.particles.width in
    let h = g.particles.height in
    let p = parity g.tick in
    let b = superposed g k in
    same_gas (g.tick +ℤ pos 1) (g.tick +ℤ pos 1) (streamed p b.particles (solid b))
    (joined (streamed p g.particles (solid g)) (streamed (parity k.tick) k.particles (solid k)))
    b.walls b.obstacles g.drains g.sources refl
    (step_of_both p w h b.particles (solid b) g.particles (solid g) k.particles (solid k) i.sides
    (sides_of b w h (torus_superposed g k i) refl refl) (sides_of g w h i refl refl) (sides_of k w h j s.wide s.high)
    (λ x y l m.
    elim (one_is_clear p x y (occupied g) (occupied k) (record { wide = s.wide; high = s.high }) l m far) [
      | inr clear ↦
          inl (record {
            particles = λ a c. (like_first g k _ _ i j s (one_of_below p w x a l) (one_of_below p h y c m) (clear a c)).0;
            solids = λ a c. (like_first g k _ _ i j s (one_of_below p w x a l) (one_of_below p h y c m) (clear a c)).1;
            none = λ a c.
                (or_parts _ _
                (sym (has-joined k.particles (solid k) _ _ (omega (arith, s.wide, one_of_below p w x a l)) (omega (arith, s.high, one_of_below p h y c m)))
                ∙ clear a c)).0;
          })
      | inl clear ↦
          inr (record {
            particles = λ a c. (like_second g k _ _ i j s (one_of_below p w x a l) (one_of_below p h y c m) (clear a c)).0;
            solids = λ a c. (like_second g k _ _ i j s (one_of_below p w x a l) (one_of_below p h y c m) (clear a c)).1;
            none = λ a c.
                (or_parts _ _ (sym (has-joined g.particles (solid g) _ _ (one_of_below p w x a l) (one_of_below p h y c m)) ∙ clear a c)).0;
          })
    ])
    ∙ ap (λ t. joined (streamed p g.particles (solid g)) (streamed (parity t) k.particles (solid k))) e)

pub runs_superposed : (n : ℕ) (g k : Gas) → g.tick ≡ k.tick → IsOnOneTorus g → IsOnOneTorus k → HasSidesOf k.particles g.particles
    → ((m : ℕ) → m < n → AreApart 2 (occupied (iterate forward m g)) (occupied (iterate forward m k)))
    → iterate forward n (superposed g k) ≡ superposed (iterate forward n g) (iterate forward n k)
runs_superposed zero g k e i j s far = refl
runs_superposed (suc n) g k e i j s far =
    ap (iterate forward n) (forward_superposed g k e i j s (far 0 (omega arith)))
    ∙ runs_superposed n (forward g) (forward k) (ap (λ t. t +ℤ pos 1) e) (torus_forward g i) (torus_forward k j)
    (record { wide = s.wide; high = s.high }) (λ m l. far (suc m) (omega arith))

-- What is 2n apart is 2 apart before each of n steps.
far_for_long : (n : ℕ) (g k : Gas) → IsOnOneTorus g → IsOnOneTorus k → HasSidesOf k.particles g.particles → AreApart (2 * n) (occupied g) (occupied k)
    → (m : ℕ) → m < n → AreApart 2 (occupied (iterate forward m g)) (occupied (iterate forward m k))
far_for_long n g k i j s far zero l = far_less 2 (2 * n) (occupied g) (occupied k) (omega arith) far
far_for_long n g k i j s far (suc m) l =
    let d : 2 * n ≡ 2 * (n - 1) + 2 = omega arith in
    far_for_long (n - 1) (forward g) (forward k) (torus_forward g i) (torus_forward k j) (record { wide = s.wide; high = s.high })
    (sets_come_nearer (2 * (n - 1)) (occupied g) (occupied k) (occupied (forward g)) (occupied (forward k)) (record { wide = s.wide; high = s.high })
    (record { wide = refl; high = refl }) (record { wide = refl; high = refl }) (occupied_follows g i) (occupied_follows k j)
    (subst (λ c. AreApart c (occupied g) (occupied k)) d far))
    m (omega arith)

pub far_runs_superposed : (n : ℕ) (g k : Gas) → g.tick ≡ k.tick → IsOnOneTorus g → IsOnOneTorus k → HasSidesOf k.particles g.particles
    → AreApart (2 * n) (occupied g) (occupied k)
    → iterate forward n (superposed g k) ≡ superposed (iterate forward n g) (iterate forward n k)
far_runs_superposed n g k e i j s far = runs_superposed n g k e i j s (far_for_long n g k i j s far)

-- Particles among the same walls.
torus_with : (g : Gas) (cells : Cells) → IsOnOneTorus g → HasSidesOf cells g.particles → IsOnOneTorus (with_particles g cells)
torus_with g cells i s = grind arith

forward_together : (g : Gas) (others : Cells) → IsOnOneTorus g → HasSidesOf others g.particles → AreApart 2 g.particles others
    → forward (with_particles g (joined g.particles others))
    ≡ with_particles (forward g) (joined (forward g).particles (forward (with_particles g others)).particles)
unfolding gas_at
forward_together g others i s far =
    let w = g.particles.width in
    let h = g.particles.height in
    let p = parity g.tick in
    let both = joined g.particles others in
    same_gas (g.tick +ℤ pos 1) (g.tick +ℤ pos 1) (streamed p both (solid g))
    (joined (streamed p g.particles (solid g)) (streamed p others (solid g))) g.walls g.obstacles g.drains g.sources refl
    (step_of_both p w h both (solid g) g.particles (solid g) others (solid g) i.sides
    (sides_of (with_particles g both) w h (torus_with g both i (record { wide = refl; high = refl })) refl refl) (sides_of g w h i refl refl)
    (sides_of (with_particles g others) w h (torus_with g others i s) s.wide s.high)
    (λ x y l m.
    elim (one_is_clear p x y g.particles others s l m far) [
      | inr clear ↦
          inl (record {
            particles = λ a c. has-joined g.particles others _ _ (one_of_below p w x a l) (one_of_below p h y c m) ∙ or_none _ _ (clear a c);
            solids = λ a c. refl;
            none = clear;
          })
      | inl clear ↦
          inr (record {
            particles = λ a c. has-joined g.particles others _ _ (one_of_below p w x a l) (one_of_below p h y c m) ∙ none_or _ _ (clear a c);
            solids = λ a c. refl;
            none = clear;
          })
    ]))

pub runs_together : (n : ℕ) (g : Gas) (others : Cells) → IsOnOneTorus g → HasSidesOf others g.particles
    → ((m : ℕ) → m < n → AreApart 2 (iterate forward m g).particles (iterate forward m (with_particles g others)).particles)
    → iterate forward n (with_particles g (joined g.particles others))
    ≡ with_particles (iterate forward n g) (joined (iterate forward n g).particles (iterate forward n (with_particles g others)).particles)
runs_together zero g others i s far = refl
runs_together (suc n) g others i s far =
    ap (iterate forward n) (forward_together g others i s (far 0 (omega arith)))
    ∙ runs_together n (forward g) (forward (with_particles g others)).particles (torus_forward g i)
    (record { wide = s.wide; high = s.high }) (λ m l. far (suc m) (omega arith))

far_for_long_together : (n : ℕ) (g : Gas) (others : Cells) → IsOnOneTorus g → HasSidesOf others g.particles → AreApart (2 * n) g.particles others
    → (m : ℕ) → m < n → AreApart 2 (iterate forward m g).particles (iterate forward m (with_particles g others)).particles
far_for_long_together n g others i s far zero l = far_less 2 (2 * n) g.particles others (omega arith) far
far_for_long_together n g others i s far (suc m) l =
    let d : 2 * n ≡ 2 * (n - 1) + 2 = omega arith in
    let k = with_particles g others in
    let j = torus_with g others i s in
    far_for_long_together (n - 1) (forward g) (forward k).particles (torus_forward g i) (record { wide = s.wide; high = s.high })
    (sets_come_nearer (2 * (n - 1)) g.particles others (forward g).particles (forward k).particles s
    (record { wide = refl; high = refl }) (record { wide = refl; high = refl })
    (particles_follow (parity g.tick) g.particles (solid g) i.sides (solid_sides g i))
    (particles_follow (parity g.tick) others (solid g) j.sides (solid_sides k j))
    (subst (λ c. AreApart c g.particles others) d far))
    m (omega arith)

pub far_runs_together : (n : ℕ) (g : Gas) (others : Cells) → IsOnOneTorus g → HasSidesOf others g.particles → AreApart (2 * n) g.particles others
    → iterate forward n (with_particles g (joined g.particles others))
    ≡ with_particles (iterate forward n g) (joined (iterate forward n g).particles (iterate forward n (with_particles g others)).particles)
far_runs_together n g others i s far = runs_together n g others i s (far_for_long_together n g others i s far)
