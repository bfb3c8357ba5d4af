-- The strips of a lattice: where each begins, and which strips it has beside it.
use Rattle.std.proofs.Common.{◌≡◌, ℕ, zero, suc, ◌+◌, ◌-◌, ◌*◌, ◌/◌, ◌<◌, ◌≤◌, List, get_or, length, map, sym, ap, ap₂, ◌∙◌, subst, arith}
use Rattle.std.proofs.Math.Nat.{div-mul-le_self, le-div_iff_mul-le, div-le_self, mul-div_cancel_left}
use Rattle.std.proofs.lemmas.List.{get_or-map, length-map}
use Rattle.phase_strips.specs.Strips.{AreLaid, row_at, own_at}
use Rattle.phase_strips.specs.declared.runs.strip.OwnRows.{OwnRows}
use Rattle.phase_strips.specs.declared.runs.strip.Strip.{Strip}

pub row_first : (down n : ℕ) → row_at down n 0 ≡ 0
row_first down n = let e : 0 * down ≡ 0 = omega arith in let l = div-le_self (0 * down) n in omega (arith, e, l)

pub row_last : (down n : ℕ) → 0 < n → row_at down n n ≡ down
row_last down n some = mul-div_cancel_left down some

pub row_rises : (down n k : ℕ) → 0 < n → n ≤ down → row_at down n k < row_at down n (k + 1)
row_rises down n k some few =
    let whole : k * down / n * n ≤ k * down = div-mul-le_self (k * down) n in
    let e : (k * down / n + 1) * n ≡ k * down / n * n + n = omega arith in
    let f : (k + 1) * down ≡ k * down + down = omega arith in
    let next : (k * down / n + 1) * n ≤ (k + 1) * down = omega (arith, e, f, whole, few) in
    let up : k * down / n + 1 ≤ (k + 1) * down / n = (le-div_iff_mul-le some).1 next in
    omega (arith, up)

row_climbs : (down n k d : ℕ) → 0 < n → n ≤ down → row_at down n k ≤ row_at down n (k + d)
row_climbs down n k zero some few = let e : k + 0 ≡ k = omega arith in subst (λ m. row_at down n k ≤ row_at down n m) (sym e) (omega arith)
row_climbs down n k (suc d) some few =
    let e : k + suc d ≡ k + d + 1 = omega arith in
    subst (λ m. row_at down n k ≤ row_at down n m) (sym e) (omega (arith, row_climbs down n k d some few, row_rises down n (k + d) some few))

pub row_inside : (down n k : ℕ) → 0 < n → n ≤ down → k ≤ n → row_at down n k ≤ down
row_inside down n k some few less =
    let e : k + (n - k) ≡ n = omega arith in
    let up = subst (λ m. row_at down n k ≤ row_at down n m) e (row_climbs down n k (n - k) some few) in
    omega (arith, up, row_last down n some)

-- strip k ends where the next begins
pub own_ends : (down n k : ℕ) → 0 < n → n ≤ down → row_at down n k + (row_at down n (k + 1) - row_at down n k) ≡ row_at down n (k + 1)
own_ends down n k some few = omega (arith, row_rises down n k some few)

module _ (down : ℕ) (strips : List Strip) (laid : AreLaid down (map (λ (s : Strip). s.own) strips)) where
  pub count : length (map (λ (s : Strip). s.own) strips) ≡ length strips
  count = length-map strips (λ (s : Strip). s.own)

  pub count_some : 0 < length strips
  count_some = subst (λ n. 0 < n) count laid.some

  pub count_few : length strips ≤ down
  count_few = subst (λ n. n ≤ down) count laid.few

  pub own_is : (k : ℕ) (d : Strip) → k < length strips → (get_or strips k d).own ≡ own_at down (length strips) k
  own_is k d less =
      sym (get_or-map (λ (s : Strip). s.own) strips k d d.own less)
      ∙ (laid.each k d.own (subst (λ n. k < n) (sym count) less)
      ∙ ap (λ n. own_at down n k) count)

  pub first_is : (k : ℕ) (d : Strip) → k < length strips → (get_or strips k d).own.first ≡ row_at down (length strips) k
  first_is k d less = ap (λ (o : OwnRows). o.first) (own_is k d less)

  pub end_is : (k : ℕ) (d : Strip) → k < length strips → (get_or strips k d).own.first + (get_or strips k d).own.rows ≡ row_at down (length strips) (k + 1)
  end_is k d less =
      ap₂ (λ a b. a + b) (first_is k d less) (ap (λ (o : OwnRows). o.rows) (own_is k d less))
      ∙ own_ends down (length strips) k count_some count_few
