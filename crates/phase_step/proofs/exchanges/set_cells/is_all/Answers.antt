use Rattle.std.proofs.Common.{◌≡◌, ℕ, ◌<◌, ◌∙◌, get_or, ap, sym, arith, inl, inr}
use Rattle.std.proofs.lemmas.Bool.{cases_eq, eqb-true}
use Rattle.bit_tile.specs.Bit.{bit}
use Rattle.bit_tile.proofs.Bits.{bit-zero}
use Rattle.bit_tile.proofs.Classes.{by_class}
use Rattle.phase_step.proofs.WholeTiles.{all_ones, four_alike}
use Rattle.phase_step.proofs.exchanges.set_cells.is_all.Goals as goal
use Rattle.phase_step.proofs.exchanges.set_cells.is_all.Goals.{In-loop-j, then-held, else-held}

pub loop-j-init : goal.loop-j-init
loop-j-init c = λ i m h k. absurd (omega (arith, k))

word_is : (c : In-loop-j) (i : ℕ) → i < 32 → bit c.if-held.word i ≡ c.args.held
word_is c i h =
    elim c.if-held.branch [
      | then-held w ↦ ap (λ n. bit n i) w.word-is ∙ (all_ones i h ∙ sym w.if-held.true)
      | else-held w ↦ ap (λ n. bit n i) w.word-is ∙ (bit-zero i ∙ sym w.if-held.false)
    ]

pub loop-j-preserved : goal.loop-j-preserved
loop-j-preserved c = λ i m h k none.
    let l = c.loop-j in
    let t = c.args.tile.now in
    let j = l.j in
    let alike = four_alike c.args.held c.if-held.word (get_or t.even_even j 0) (get_or t.odd_even j 0) (get_or t.even_odd j 0) (get_or t.odd_odd j 0) l.others i (word_is (goal.at.loop-j-preserved c).In-loop-j i h) none in
    elim (cases_eq m j) [
      | inl e ↦ rw e alike.1
      | inr ne ↦ l.invariant i m h (omega (arith, k, ne)) alike.0
    ]

pub returns : goal.returns
returns c = λ yes x y h k.
    let l = c.loop-j in
    let all : (i m : ℕ) → i < 32 → m < 32 → (bit (get_or c.args.tile.now.even_even m 0) i ≡ c.args.held) × ((bit (get_or c.args.tile.now.odd_even m 0) i ≡ c.args.held) × ((bit (get_or c.args.tile.now.even_odd m 0) i ≡ c.args.held) × (bit (get_or c.args.tile.now.odd_odd m 0) i ≡ c.args.held))) =
    λ i m h k. l.invariant i m h (omega (arith, k, c.loop-j-test.false)) (ap (λ w. bit w i) (eqb-true l.others 0 yes) ∙ bit-zero i) in
    by_class c.args.tile.now (λ _ _. c.args.held) (λ i m h k. (all i m h k).0) (λ i m h k. (all i m h k).1.0) (λ i m h k. (all i m h k).1.1.0) (λ i m h k. (all i m h k).1.1.1) x y h k
