-- The sums of particles after a map of their cells, or at a tick of another parity.
use Rattle.std.proofs.Common.{◌≡◌, ℕ, ◌-◌, ◌<◌, Bool, not, cond, ℤ, ◌+ℤ◌, neg_ℤ, refl, sym, ap, ◌∙◌, arith, ap₂, ◌+◌, ◌%◌}
use Rattle.std.proofs.lemmas.Int.{ints}
use Rattle.gas_terms.specs.Velocity.{velocity_at, parity, has_parity}
use Rattle.gas_terms.specs.Cells.{Cells, has, HasEvenSides}
use Rattle.gas_terms.specs.Gas.{Gas}
use Rattle.gas_terms.specs.Accounts.{total, gas_total}
use Rattle.gas_terms.specs.Symmetry.{reversed, mapped, translated_from, CarriesBlocks, gas_translated, mirrored, upside_down, transposed}
use Rattle.gas_terms.proofs.Parity.{parity-small, parity_after, parity_reversed}
use Rattle.gas_terms.proofs.FiniteSums.{cell_sum-cong, cell_sum-mapped, sum_below-cong, sum_below-reversed, sum_below-rotated, sum_below-swap, KeepsSums}
use Rattle.gas_terms.proofs.Weights.{Weight, cell_weight, weight, weight_by_cell}
use Rattle.gas_terms.proofs.SiteWeights.{one, rightward, leftward, downward, upward}
use Rattle.gas_terms.proofs.StepWeights.{velocity_at-other}
use Rattle.gas_terms.proofs.Totals.{sums_by, total_is, same_sums}
use Rattle.gas_terms.proofs.Transport.{pulled, has-pulled}
use Rattle.gas_terms.proofs.Mirrors.{mirror_parity, has-transposed}
use Rattle.gas_terms.proofs.Translations.{move_parity, from_is, to_add}
use Rattle.gas_terms.specs.declared.accounts.Sums.{Sums}
use Rattle.gas_terms.proofs.Axis.{same_parity}

-- What the particles weigh at another tick, by another weight.
same_weight : (f g : Weight) (p q : ℕ) (cells : Cells) → p < 2 → q < 2 → HasEvenSides cells.width cells.height
    → ((x y : ℕ) → f (velocity_at p x y) ≡ g (velocity_at q x y)) → weight f p cells ≡ weight g q cells
same_weight f g p q cells a b even same = grind (arith, weight_by_cell, cell_sum-cong)

-- What they weigh after a map of each axis.
pulled_weight : (f g : Weight) (p q : ℕ) (cells : Cells) (m k : ℕ → ℕ) → p < 2 → q < 2 → HasEvenSides cells.width cells.height
    → KeepsSums cells.width m → KeepsSums cells.height k
    → ((x y : ℕ) → x < cells.width → y < cells.height → f (velocity_at p x y) ≡ g (velocity_at q (m x) (k y)))
    → weight f p (pulled cells m k) ≡ weight g q cells
pulled_weight f g p q cells m k a b even c d same =
    weight_by_cell f p (pulled cells m k) a even
    ∙ cell_sum-cong cells.width cells.height (cell_weight f p (pulled cells m k)) (λ x y. cell_weight g q cells (m x) (k y))
    (λ x y l n.
    ap (λ t. cond t (f (velocity_at p x y)) 0) (has-pulled cells m k x y l n)
    ∙ ap (λ v. cond (has cells (m x) (k y)) v 0) (same x y l n))
    ∙ cell_sum-mapped cells.width cells.height m k (cell_weight g q cells) c d
    ∙ sym (weight_by_cell g q cells b even)

-- What they weigh with columns and rows exchanged.
transposed_weight : (f g : Weight) (p : ℕ) (cells : Cells) → p < 2 → HasEvenSides cells.width cells.height
    → ((x y : ℕ) → f (velocity_at p x y) ≡ g (velocity_at p y x)) → weight f p (transposed cells) ≡ weight g p cells
transposed_weight f g p cells a even same =
    weight_by_cell f p (transposed cells) a (record { wide = even.high; high = even.wide })
    ∙ cell_sum-cong cells.height cells.width (cell_weight f p (transposed cells)) (λ x y. cell_weight g p cells y x)
    (λ x y l n.
    ap (λ t. cond t (f (velocity_at p x y)) 0) (has-transposed cells x y l n)
    ∙ ap (λ v. cond (has cells y x) v 0) (same x y))
    ∙ sum_below-swap cells.width cells.height (cell_weight g p cells)
    ∙ sym (weight_by_cell g p cells a even)

-- The sums, where each weight is another one of other cells.
total_by : (t u : ℤ) (cells others : Cells) (right left down up : Weight)
    → weight one (parity t) cells ≡ weight one (parity u) others
    → weight rightward (parity t) cells ≡ weight right (parity u) others → weight leftward (parity t) cells ≡ weight left (parity u) others
    → weight downward (parity t) cells ≡ weight down (parity u) others → weight upward (parity t) cells ≡ weight up (parity u) others
    → total t cells
    ≡ sums_by (weight one (parity u) others) (weight right (parity u) others) (weight left (parity u) others) (weight down (parity u) others)
    (weight up (parity u) others)
total_by t u cells others right left down up a b c d e = grind (arith, total_is)

-- the sums with a momentum negated, or both, or exchanged
right_negated : (n r l d u : ℕ) → sums_by n r l d u ≡ record (sums_by n l r d u) { px = neg_ℤ (sums_by n l r d u).px }
right_negated n r l d u = same_sums _ _ refl (omega (arith, ints)) refl

down_negated : (n r l d u : ℕ) → sums_by n r l d u ≡ record (sums_by n r l u d) { py = neg_ℤ (sums_by n r l u d).py }
down_negated n r l d u = same_sums _ _ refl refl (omega (arith, ints))

both_negated : (n r l d u : ℕ) → sums_by n r l d u ≡ record (sums_by n l r u d) { px = neg_ℤ (sums_by n l r u d).px; py = neg_ℤ (sums_by n l r u d).py }
both_negated n r l d u = same_sums _ _ refl (omega (arith, ints)) (omega (arith, ints))

yes_or_no : (b : Bool) → ◌≡◌ {A = ℕ} (cond b 1 0) (cond (not b) 0 1)
yes_or_no b = grind arith

no_or_yes : (b : Bool) → ◌≡◌ {A = ℕ} (cond b 0 1) (cond (not b) 1 0)
no_or_yes b = grind arith

pub total_reversed : (g : Gas) → HasEvenSides g.particles.width g.particles.height
    → gas_total (reversed g) ≡ record (gas_total g) { px = neg_ℤ (gas_total g).px; py = neg_ℤ (gas_total g).py }
total_reversed g even =
    let t = g.tick in
    let u = (reversed g).tick in
    let turned : (x y : ℕ) → velocity_at (parity u) x y ≡ record { right = not (velocity_at (parity t) x y).right; down = not (velocity_at (parity t) x y).down } =
    λ x y. ap (λ p. velocity_at p x y) (parity_reversed t) ∙ velocity_at-other (parity t) x y (parity-small t) in
    let same : (f g' : Weight) → ((x y : ℕ) → f (velocity_at (parity u) x y) ≡ g' (velocity_at (parity t) x y)) → weight f (parity u) g.particles ≡ weight g' (parity t) g.particles =
    λ f g'. same_weight f g' (parity u) (parity t) g.particles (parity-small u) (parity-small t) even in
    let v : Weight → ℕ = λ f. weight f (parity g.tick) g.particles in
    total_by u t g.particles g.particles leftward rightward upward downward
    (same one one (λ x y. refl))
    (same rightward leftward (λ x y. ap rightward (turned x y) ∙ sym (no_or_yes (velocity_at (parity t) x y).right)))
    (same leftward rightward (λ x y. ap leftward (turned x y) ∙ sym (yes_or_no (velocity_at (parity t) x y).right)))
    (same downward upward (λ x y. ap downward (turned x y) ∙ sym (no_or_yes (velocity_at (parity t) x y).down)))
    (same upward downward (λ x y. ap upward (turned x y) ∙ sym (yes_or_no (velocity_at (parity t) x y).down)))
    ∙ both_negated (v one) (v leftward) (v rightward) (v upward) (v downward)
    ∙ ap (λ (s : Sums). record s { px = neg_ℤ s.px; py = neg_ℤ s.py }) (sym (total_is t g.particles))

-- the cells in a mirror: left and right change places in each velocity
pub total_mirrored : (g : Gas) → HasEvenSides g.particles.width g.particles.height
    → gas_total (mapped mirrored g) ≡ record (gas_total g) { px = neg_ℤ (gas_total g).px }
total_mirrored g even =
    let t = g.tick in
    let p = parity t in
    let w = g.particles.width in
    let small = parity-small t in
    let same : (f k : Weight) → ((x y : ℕ) → x < w → y < g.particles.height → f (velocity_at p x y) ≡ k (velocity_at p (w - 1 - x) y)) → weight f p (mirrored g.particles) ≡ weight k p g.particles =
    λ f k. pulled_weight f k p p g.particles (λ x. w - 1 - x) (λ y. y) small small even (sum_below-reversed w) (λ h. refl) in
    let v : Weight → ℕ = λ f. weight f (parity g.tick) g.particles in
    total_by t t (mirrored g.particles) g.particles leftward rightward downward upward
    (same one one (λ x y l n. refl))
    (same rightward leftward (λ x y l n. yes_or_no (velocity_at p x y).right ∙ ap (λ b. cond b 0 1) (mirror_parity w p x even.wide l)))
    (same leftward rightward (λ x y l n. no_or_yes (velocity_at p x y).right ∙ ap (λ b. cond b 1 0) (mirror_parity w p x even.wide l)))
    (same downward downward (λ x y l n. refl))
    (same upward upward (λ x y l n. refl))
    ∙ right_negated (v one) (v leftward) (v rightward) (v downward) (v upward)
    ∙ ap (λ (s : Sums). record s { px = neg_ℤ s.px }) (sym (total_is t g.particles))

pub total_upside_down : (g : Gas) → HasEvenSides g.particles.width g.particles.height
    → gas_total (mapped upside_down g) ≡ record (gas_total g) { py = neg_ℤ (gas_total g).py }
total_upside_down g even =
    let t = g.tick in
    let p = parity t in
    let h = g.particles.height in
    let small = parity-small t in
    let same : (f k : Weight) → ((x y : ℕ) → x < g.particles.width → y < h → f (velocity_at p x y) ≡ k (velocity_at p x (h - 1 - y))) → weight f p (upside_down g.particles) ≡ weight k p g.particles =
    λ f k. pulled_weight f k p p g.particles (λ x. x) (λ y. h - 1 - y) small small even (λ f. refl) (sum_below-reversed h) in
    let v : Weight → ℕ = λ f. weight f (parity g.tick) g.particles in
    total_by t t (upside_down g.particles) g.particles rightward leftward upward downward
    (same one one (λ x y l n. refl))
    (same rightward rightward (λ x y l n. refl))
    (same leftward leftward (λ x y l n. refl))
    (same downward upward (λ x y l n. yes_or_no (velocity_at p x y).down ∙ ap (λ b. cond b 0 1) (mirror_parity h p y even.high n)))
    (same upward downward (λ x y l n. no_or_yes (velocity_at p x y).down ∙ ap (λ b. cond b 1 0) (mirror_parity h p y even.high n)))
    ∙ down_negated (v one) (v rightward) (v leftward) (v upward) (v downward)
    ∙ ap (λ (s : Sums). record s { py = neg_ℤ s.py }) (sym (total_is t g.particles))

pub total_transposed : (g : Gas) → HasEvenSides g.particles.width g.particles.height
    → gas_total (mapped transposed g) ≡ record (gas_total g) { px = (gas_total g).py; py = (gas_total g).px }
total_transposed g even =
    let t = g.tick in
    let p = parity t in
    let small = parity-small t in
    total_by t t (transposed g.particles) g.particles downward upward rightward leftward
    (transposed_weight one one p g.particles small even (λ x y. refl))
    (transposed_weight rightward downward p g.particles small even (λ x y. refl))
    (transposed_weight leftward upward p g.particles small even (λ x y. refl))
    (transposed_weight downward rightward p g.particles small even (λ x y. refl))
    (transposed_weight upward leftward p g.particles small even (λ x y. refl))
    ∙ ap (λ (s : Sums). record s { px = s.py; py = s.px }) (sym (total_is t g.particles))

-- a translation along an axis
translation_keeps_sums : (n by : ℕ) → KeepsSums n (translated_from n by)
translation_keeps_sums n by f =
    sum_below-cong n (λ i. f (translated_from n by i)) (λ i. f ((i + to_add n by) % n)) (λ i l. ap f (from_is n by i (omega arith)))
    ∙ sum_below-rotated (to_add n by) n f

translated_parity : (n by x : ℕ) (t ticks : ℤ) → n % 2 ≡ 0 → x < n → by % 2 ≡ parity ticks → has_parity (parity (t +ℤ ticks)) x ≡ has_parity (parity t) (translated_from n by x)
translated_parity n by x t ticks even l same =
    let m = move_parity n by x even (omega arith) in
    let k = parity_after t ticks in
    same_parity (parity (t +ℤ ticks)) (parity t) x (translated_from n by x) (omega arith)

pub total_translated : (right down : ℕ) (ticks : ℤ) → CarriesBlocks right down ticks → (g : Gas) → HasEvenSides g.particles.width g.particles.height
    → gas_total (gas_translated right down ticks g) ≡ gas_total g
total_translated right down ticks b g even =
    let t = g.tick in
    let u = t +ℤ ticks in
    let w = g.particles.width in
    let h = g.particles.height in
    let there = (gas_translated right down ticks g).particles in
    let same : (f : Weight) → weight f (parity u) there ≡ weight f (parity t) g.particles =
    λ f. pulled_weight f f (parity u) (parity t) g.particles (translated_from w right) (translated_from h down) (parity-small u) (parity-small t) even
    (translation_keeps_sums w right) (translation_keeps_sums h down)
    (λ x y l n. ap f (ap₂ (λ i j. record { right = i; down = j }) (translated_parity w right x t ticks even.wide l b.columns)
    (translated_parity h down y t ticks even.high n b.rows))) in
    total_by u t there g.particles rightward leftward downward upward (same one) (same rightward) (same leftward) (same downward) (same upward)
    ∙ sym (total_is t g.particles)
