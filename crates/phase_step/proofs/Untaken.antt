-- Sets without blocks take nothing.
use Rattle.std.proofs.Common.{◌≡◌, ℕ, ◌+◌, ◌*◌, ◌/◌, ◌%◌, ◌<◌, ◌≤◌, Bool, true, false, not, ◌&&◌, ◌||◌, pos, refl, sym, ap, ap₂, ◌∙◌, subst, arith, mul-le-mul}
use Rattle.gas_terms.specs.Cells.{Cells, HasSidesOf, has, joined, extent, is_size, tile_count, tile_rectangle}
use Rattle.gas_terms.specs.Gas.{Site, IsSite, site_of, is_walled, takes_for_walls, takes_for_obstacles}
use Rattle.gas_terms.specs.Velocity.{parity}
use Rattle.gas_terms.specs.Accounts.{total_in, stopped, twice_momentum}
use Rattle.gas_terms.specs.declared.accounts.Pair.{Pair}
use Rattle.gas_terms.proofs.Cells.{has-cells_where}
use Rattle.gas_terms.proofs.Emptied.{total_in-none}
use Rattle.gas_terms.proofs.Sites.{site_of-is}
use Rattle.gas_terms.proofs.Walled.{walled_by_either}
use Rattle.block_rule.specs.Accounts.{if_counted, counted_of}
use Rattle.block_rule.specs.Windows.{taken_in}
use Rattle.block_rule.specs.declared.walled.Counted.{Counted}
use Rattle.phase_step.specs.Runs.{nothing_taken, takings, tiles_take}
use Rattle.phase_step.specs.Parts.{own_rows, own_take, IsPartOf}
use Rattle.phase_step.specs.SolidBlocks.{AreOfNone, HasNoBlocks}
use Rattle.phase_step.specs.declared.parts.Part.{Part}
use Rattle.phase_step.proofs.Sides.{place_is, tiles_as}
use Rattle.phase_step.proofs.Amounts.{sum_as, sum_none}
use Rattle.phase_step.proofs.FlowSums.{took_same, takings_add, counted_none, counted_plus}

and_false : (a b : Bool) → b ≡ false → (a && b) ≡ false
and_false a b e = grind arith

walls_off : (w o s : Bool) → s ≡ (w || o) → w ≡ false → (s && not o) ≡ false
walls_off w o s e f = grind arith

module _ (p : ℕ) (c w o : Cells) (i : ℕ) (small : p < 2) (sized : is_size (extent c) ≡ true) (within : i < tile_count c) (of_walls : HasSidesOf w c) (of_obstacles : HasSidesOf o c) where
  abbrev site : ℕ → ℕ → Site
  site x y = site_of p c.width c.height ((tile_rectangle c i).x + x) ((tile_rectangle c i).y + y)

  -- a set without blocks walls no site of the tile
  no_site : (set : Cells) → HasSidesOf set c → HasNoBlocks set → (x y : ℕ) → x < 64 → y < 64 → is_walled set (site x y) ≡ false
  no_site set sides none x y h k =
      ap₂ (λ m n. is_walled set (site_of p m n (i % (m / 64) * 64 + x) (i / (m / 64) * 64 + y))) (sym sides.wide) (sym sides.high)
      ∙ none i (subst (λ n. i < n) (sym (tiles_as set c sides)) within) p small x y h k

  none_in : (test : Site → Bool) → ((x y : ℕ) → x < 64 → y < 64 → test (site x y) ≡ false) → twice_momentum (total_in (pos p) (stopped (parity (pos p)) c test) (tile_rectangle c i)) ≡ nothing_taken.walls
  none_in test none =
      let place = place_is c w o i sized within of_walls of_obstacles in
      let r = tile_rectangle c i in
      let same : p % 2 ≡ p = omega arith in
      ap twice_momentum
      (total_in-none (pos p) (stopped (p % 2) c test) r (λ x y h k.
      has-cells_where c.width c.height (λ x y. has c x y && test (site_of (p % 2) c.width c.height x y)) (r.x + x) (r.y + y) (omega (arith, h, place.right)) (omega (arith, k, place.bottom))
      ∙ (ap (λ q. has c (r.x + x) (r.y + y) && test (site_of q c.width c.height (r.x + x) (r.y + y))) same ∙ and_false (has c (r.x + x) (r.y + y)) (test (site x y)) (none x y h k))))

  no_walls : HasNoBlocks w → (taken_in (pos p) c w o (tile_rectangle c i)).walls ≡ nothing_taken.walls
  no_walls none =
      none_in (takes_for_walls w o) (λ x y h k.
      let place = place_is c w o i sized within of_walls of_obstacles in
      let at = site_of-is p w.width w.height ((tile_rectangle c i).x + x) ((tile_rectangle c i).y + y) (record { wide = ap (λ n. n % 2) of_walls.wide ∙ place.even_sides.wide; high = ap (λ n. n % 2) of_walls.high ∙ place.even_sides.high }) (omega (arith, h, place.right, of_walls.wide)) (omega (arith, k, place.bottom, of_walls.high)) in
      let s = site x y in
      walls_off (is_walled w s) (is_walled o s) (is_walled (joined w o) s)
      (walled_by_either p w o s (record { wide = of_obstacles.wide ∙ sym of_walls.wide; high = of_obstacles.high ∙ sym of_walls.high })
      (subst (λ s. IsSite p w.width w.height s) (ap₂ (λ m n. site_of p m n ((tile_rectangle c i).x + x) ((tile_rectangle c i).y + y)) of_walls.wide of_walls.high) at))
      (no_site w of_walls none x y h k))

  no_obstacles : HasNoBlocks o → (taken_in (pos p) c w o (tile_rectangle c i)).obstacles ≡ nothing_taken.obstacles
  no_obstacles none =
      none_in (takes_for_obstacles w o) (λ x y h k. and_false (is_walled (joined w o) (site x y)) (is_walled o (site x y)) (no_site o of_obstacles none x y h k))

if_none : (b : Bool) (p : Pair) → (b ≡ true → p ≡ nothing_taken.walls) → if_counted b p ≡ nothing_taken.walls
if_none true p h = h refl
if_none false p h = refl

pub tiles_untaken : (p : ℕ) (c w o : Cells) (kept : Counted) (first n : ℕ) → p < 2 → is_size (extent c) ≡ true → HasSidesOf w c → HasSidesOf o c → AreOfNone kept w o → first + n ≤ tile_count c → nothing_taken ≡ counted_of kept (tiles_take p c w o first n)
tiles_untaken p c w o kept first n small sized of_walls of_obstacles none within =
    sum_none takings takings_add (λ k. counted_of kept (taken_in (pos p) c w o (tile_rectangle c (first + k)))) n
    (λ k less.
    let i = first + k in
    let here : i < tile_count c = omega (arith, within, less) in
    sym (took_same
    (if_none kept.walls _ (λ e. no_walls p c w o i small sized here of_walls of_obstacles (none.walls e)))
    (if_none kept.obstacles _ (λ e. no_obstacles p c w o i small sized here of_walls of_obstacles (none.obstacles e)))))
    ∙ sum_as takings takings (counted_of kept) (counted_none kept) (counted_plus kept) (λ k. taken_in (pos p) c w o (tile_rectangle c (first + k))) n

-- so nothing is taken in a part
pub own_untaken : (p : ℕ) (part : Part) (cells lattice w o : Cells) (kept : Counted) (k : ℕ) → p < 2 → IsPartOf part cells lattice k → HasSidesOf w lattice → HasSidesOf o lattice → AreOfNone kept w o → nothing_taken ≡ counted_of kept (own_take part p cells lattice w o)
own_untaken p part cells lattice w o kept k small is of_walls of_obstacles none =
    let a = lattice.width / 64 in
    let same : a ≤ a = omega arith in
    let rows : (part.first + own_rows part cells) * a ≤ part.down * a = mul-le-mul is.placed.inside same in
    let down : lattice.height / 64 ≡ part.down = let e = is.placed.down in omega (arith, e) in
    let all : a * (lattice.height / 64) ≡ a * part.down = ap (λ n. a * n) down in
    tiles_untaken p lattice w o kept (part.first * a) (own_rows part cells * a) small is.sized of_walls of_obstacles none (omega (arith, rows, all))
