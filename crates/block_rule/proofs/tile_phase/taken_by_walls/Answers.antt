use Rattle.std.proofs.Common.{◌≡◌, ℕ, ℤ, ◌+ℤ◌, ◌-ℤ◌, ◌∙◌, ap, ap₂, refl, Bool, false, not, ◌&&◌, ◌||◌, arith}
use Rattle.std.proofs.lemmas.Int.{ints}
use Rattle.bit_tile.specs.Tile.{has}
use Rattle.bit_tile.specs.declared.Tile.{Tile}
use Rattle.gas_terms.specs.Accounts.{pair_minus, pair_plus}
use Rattle.gas_terms.specs.declared.accounts.Pair.{Pair}
use Rattle.block_rule.specs.Around.{either, is_for_walls, is_walled_at, twice_momentum_in, taken_in_tile}
use Rattle.block_rule.specs.TileBlocks.{walled_by}
use Rattle.block_rule.proofs.Blank.{walled_either}
use Rattle.block_rule.proofs.Holding.{none_took, is_counted}
use Rattle.block_rule.proofs.Took.{twice_momentum_in-same, took_together, pair_same}
use Rattle.block_rule.proofs.NamedBlocks.{words_given, nothing_given}
use Rattle.block_rule.proofs.tile_phase.taken_by_walls.Goals as goal

no_walls : (w o s : Bool) → s ≡ (w || o) → s ≡ false → (w && not o) ≡ false
no_walls w o s e f = grind arith

walls_alone : (w o s : Bool) → s ≡ (w || o) → o ≡ false → s ≡ (w && not o)
walls_alone w o s e f = grind arith

less : (a b c : ℤ) → a +ℤ b ≡ c → c -ℤ b ≡ a
less a b c e = omega (arith, ints, e)

pub returns-in-None-default : goal.returns-in-None-default
returns-in-None-default c = λ walled obstructed of_all of_obstacles.
    let p = c.args.parity in
    let none = nothing_given c.args.all (walled_by (either walled obstructed)) c.in-None-default.is-0 of_all p c.requires in
    is_counted c.args.counted _ _ c.if-not-counted.false (none_took p c.args.tile.now (is_for_walls p walled obstructed) (λ x y h k. no_walls (is_walled_at p walled x y) (is_walled_at p obstructed x y) (is_walled_at p (either walled obstructed) x y) (walled_either p walled obstructed x y) (none x y h k)))

pub returns-in-Some-None : goal.returns-in-Some-None
returns-in-Some-None c = λ walled obstructed of_all of_obstacles.
    let p = c.args.parity in
    let none = nothing_given c.args.obstacles (walled_by obstructed) c.in-Some-None.is-1 of_obstacles p c.requires in
    is_counted c.args.counted _ _ c.if-not-counted.false
    (c.momentum_by_set.ensures.is (either walled obstructed) (words_given c.args.all c.in-Some-None.all (walled_by (either walled obstructed)) c.in-Some-None.is-0 of_all)
    ∙ twice_momentum_in-same p _ _ (λ x y h k. ap (λ w. has c.args.tile.now x y && w) (walls_alone (is_walled_at p walled x y) (is_walled_at p obstructed x y) (is_walled_at p (either walled obstructed) x y) (walled_either p walled obstructed x y) (none x y h k))))

regroup : (a w o : Bool) → (a && (w && not o)) ≡ ((a && w) && not o)
regroup a w o = grind arith

together : (p : ℕ) (t : Tile) (w o : ℕ → ℕ → Bool) → pair_plus (twice_momentum_in p (λ x y. has t x y && is_for_walls p w o x y)) (twice_momentum_in p (λ x y. has t x y && is_walled_at p o x y)) ≡ twice_momentum_in p (λ x y. has t x y && is_walled_at p (either w o) x y)
together p t w o =
    ap (λ a. pair_plus a (twice_momentum_in p (λ x y. has t x y && is_walled_at p o x y))) (twice_momentum_in-same p _ _ (λ x y h k. regroup (has t x y) (is_walled_at p w x y) (is_walled_at p o x y)))
    ∙ took_together p t w o (taken_in_tile p t w o) refl

pub minus-requires : goal.minus-requires
minus-requires c =
    let a = c.momentum_by_set-in-Some-Some.ensures.few in
    let b = c.momentum_by_set-rest.ensures.few in
    (omega (arith, ints, a.x, b.x), omega (arith, ints, a.y, b.y))

pub returns-in-Some-Some : goal.returns-in-Some-Some
returns-in-Some-Some c = λ walled obstructed of_all of_obstacles.
    let p = c.args.parity in
    let t = c.args.tile.now in
    let sum = together p t walled obstructed in
    is_counted c.args.counted _ _ c.if-not-counted.false
    (c.minus.ensures
    ∙ (ap₂ pair_minus (c.momentum_by_set-in-Some-Some.ensures.is (either walled obstructed) (words_given c.args.all c.in-Some-Some.all (walled_by (either walled obstructed)) c.in-Some-Some.is-0 of_all))
    (c.momentum_by_set-rest.ensures.is obstructed (words_given c.args.obstacles c.in-Some-Some.obstacles (walled_by obstructed) c.in-Some-Some.is-1 of_obstacles))
    ∙ pair_same _ _ _ _ (less _ _ _ (ap (λ (p : Pair). p.x) sum)) (less _ _ _ (ap (λ (p : Pair). p.y) sum))))
