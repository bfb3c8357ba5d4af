-- What comes back of seats that are served one by one, from the last to the first.
use Rattle.std.proofs.Common.{◌≡◌, ℕ, ◌+◌, List, [], ◌∷◌, ◌++◌, length, length-append, sym, ap, ◌∙◌, arith}
use Rattle.std.specs.Prelude.{map, reverse}
use Rattle.std.proofs.lemmas.List.{length-reverse, map-append}
use Rattle.gas_terms.specs.declared.command.Entry.{Entry}
use Rattle.gas_terms.specs.Laboratory.{IsPrefix}
use Rattle.gas_hall.specs.Served.{ComeBack}
use Rattle.gas_hall.proofs.Busy.{busy_served, busy_unserved, busy_turned}
use Rattle.gas_hall.proofs.Turns.{pushed_sees_on, turned_back, turned_sees_on}

module _ {X : Type 0} (kept : X → X) (made : X → ℕ) (seen : X → List Entry) where
  same_with_last : (all left done back : List X) (x y : X) → all ≡ left ++ x ∷ [] → back ≡ done ++ y ∷ [] → map kept done ≡ map kept left → kept y ≡ kept x → map kept back ≡ map kept all
  same_with_last all left done back x y is more same last =
      ap (map kept) more ∙ map-append kept done (y ∷ []) ∙ (λ i. same i ++ last i ∷ []) ∙ sym (map-append kept left (x ∷ [])) ∙ sym (ap (map kept) is)

  as_many : (all left done back : List X) (x y : X) → all ≡ left ++ x ∷ [] → back ≡ done ++ y ∷ [] → length done ≡ length left → length back ≡ length all
  as_many all left done back x y is more len =
      ap length more ∙ length-append done (y ∷ []) ∙ ap (λ n. n + 1) len ∙ sym (length-append left (x ∷ [])) ∙ sym (ap length is)

  -- one more that was served
  pub back_served : (all left done back : List X) (x y : X) (n : ℕ) → all ≡ left ++ x ∷ [] → back ≡ done ++ y ∷ [] → ComeBack kept made seen left done n
      → kept y ≡ kept x → IsPrefix (seen x) (seen y) → ComeBack kept made seen all back (n + 1)
  back_served all left done back x y n is more rest same on = record {
    all = as_many all left done back x y is more rest.all;
    most = let long = ap length is ∙ length-append left (x ∷ []) in let most = rest.most in omega (arith, long, most);
    served = busy_served made all left done back x y n is more (sym rest.all) rest.served;
    same = same_with_last all left done back x y is more rest.same same;
    more = pushed_sees_on seen all left done back x y is more (sym rest.all) rest.more on;
  }

  -- one more that was not
  pub back_unserved : (all left done back : List X) (x y : X) (n : ℕ) → all ≡ left ++ x ∷ [] → back ≡ done ++ y ∷ [] → ComeBack kept made seen left done n
      → kept y ≡ kept x → IsPrefix (seen x) (seen y) → made y ≡ made x → ComeBack kept made seen all back n
  back_unserved all left done back x y n is more rest same on idle = record {
    all = as_many all left done back x y is more rest.all;
    most = let long = ap length is ∙ length-append left (x ∷ []) in let most = rest.most in omega (arith, long, most);
    served = busy_unserved made all left done back x y n is more (sym rest.all) rest.served idle;
    same = same_with_last all left done back x y is more rest.same same;
    more = pushed_sees_on seen all left done back x y is more (sym rest.all) rest.more on;
  }

  -- lists that are turned round, served, and turned round again
  pub back_turned : (xs ys zs back : List X) (n : ℕ) → ys ≡ reverse xs → ComeBack kept made seen ys zs n → back ≡ reverse zs → ComeBack kept made seen xs back n
  back_turned xs ys zs back n turned rest again = record {
    all = ap length again ∙ length-reverse zs ∙ rest.all ∙ ap length turned ∙ length-reverse xs;
    most = let long = ap length turned ∙ length-reverse xs in let most = rest.most in omega (arith, long, most);
    served = busy_turned made xs ys zs back n turned rest.all rest.served again;
    same = turned_back kept xs ys zs back turned rest.same again;
    more = turned_sees_on seen xs ys zs back turned rest.all rest.more again;
  }
