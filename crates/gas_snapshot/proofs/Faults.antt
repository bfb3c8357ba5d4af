-- Bytes are never read as want of memory.
use Rattle.std.proofs.Common.{◌≡◌, ℕ, Bool, true, false, cond, ◌&&◌, List, ◌∷◌, length, take, drop, Result, Ok, Err, ltb, zero, suc, ap, subst}
use Rattle.std.specs.Prelude.{bytes_eq}
use Rattle.gas_terms.specs.Cells.{Extent, lies_within}
use Rattle.gas_terms.specs.Commands.{is_period, is_tick}
use Rattle.gas_snapshot.specs.declared.version.Version.TheVariants.{One, Two}
use Rattle.gas_snapshot.specs.declared.fault.SnapFault.{SnapFault}
use Rattle.gas_snapshot.specs.declared.fault.SnapFault.TheVariants.{Short, Port, Memory}
use Rattle.gas_snapshot.specs.Spelling.{magic}
use Rattle.gas_snapshot.specs.Reading.{◌>>=◌, field_at, number, magic_at, is_size_of, size_in, size_at, tick_in, tick_at, counts_in, are_few, counts_at, area_in, source_in, drain_at, source_at, many, ports_at, Head, head_at, body_at, reading, Fails}

-- a fault of the bytes, or none
abbrev pub IsHonest : {A : Type 0} → Result A SnapFault → Type 0
IsHonest (Err Memory) = ⊥
IsHonest _ = Unit {0}

then_honest : {A B : Type 0} (r : Result A SnapFault) (f : A → Result B SnapFault) → IsHonest r → ((x : A) → IsHonest (f x)) → IsHonest (r >>= f)
then_honest (Ok x) f h k = k x
then_honest (Err Memory) f h k = h
then_honest (Err _) f h k = tt

test_honest : {A : Type 0} (b : Bool) (x y : Result A SnapFault) → IsHonest x → IsHonest y → IsHonest (cond b x y)
test_honest true x y h k = h
test_honest false x y h k = k

abbrev ok : {A : Type 0} → A → Result A SnapFault
ok x = Ok x

field_honest : (n : ℕ) (bytes : List ℕ) → IsHonest (field_at n bytes)
field_honest n bytes = test_honest (ltb (length bytes) n) (Err Short) (ok (take n bytes, drop n bytes)) tt tt

many_honest : {A : Type 0} (one_at : List ℕ → Result (A × List ℕ) SnapFault) → ((bytes : List ℕ) → IsHonest (one_at bytes)) → (n : ℕ) (bytes : List ℕ) → IsHonest (many one_at n bytes)
unfolding many
many_honest one_at one zero bytes = tt
many_honest {A = A} one_at one (suc n) bytes =
    then_honest (one_at bytes) (λ first. many one_at n first.1 >>= λ others. ok (first.0 ∷ others.0, others.1)) (one bytes) (λ first.
    then_honest (many one_at n first.1) (λ others. ok (first.0 ∷ others.0, others.1)) (many_honest one_at one n first.1) (λ others. tt))

drain_honest : (size : Extent) (bytes : List ℕ) → IsHonest (drain_at size bytes)
unfolding drain_at
drain_honest size bytes = then_honest (field_at 8 bytes) (λ field. cond (lies_within size (area_in field.0)) (ok (area_in field.0, field.1)) (Err Port)) (field_honest 8 bytes) (λ field. test_honest (lies_within size (area_in field.0)) (ok (area_in field.0, field.1)) (Err Port) tt tt)

source_honest : (size : Extent) (bytes : List ℕ) → IsHonest (source_at size bytes)
unfolding source_at
source_honest size bytes = then_honest (field_at 10 bytes) (λ field. cond (lies_within size (area_in field.0) && is_period (number 4 field.0)) (ok (source_in field.0, field.1)) (Err Port)) (field_honest 10 bytes) (λ field. test_honest (lies_within size (area_in field.0) && is_period (number 4 field.0)) (ok (source_in field.0, field.1)) (Err Port) tt tt)

pub head_honest : (bytes : List ℕ) → IsHonest (head_at bytes)
unfolding head_at magic_at size_at tick_at counts_at ports_at
head_honest bytes =
    then_honest (magic_at bytes) _ (then_honest (field_at 8 bytes) _ (field_honest 8 bytes) (λ field. test_honest (bytes_eq field.0 (magic One)) _ _ tt (test_honest (bytes_eq field.0 (magic Two)) _ _ tt tt))) (λ v.
    then_honest (size_at v.0 v.1) _ (then_honest (field_at 4 v.1) _ (field_honest 4 v.1) (λ field. test_honest (is_size_of v.0 (size_in field.0)) _ _ tt tt)) (λ s.
    then_honest (tick_at s.1) _ (then_honest (field_at 8 s.1) _ (field_honest 8 s.1) (λ field. test_honest (is_tick (tick_in field.0)) _ _ tt tt)) (λ t.
    then_honest (counts_at t.1) _ (then_honest (field_at 2 t.1) _ (field_honest 2 t.1) (λ field. test_honest (are_few (counts_in field.0)) _ _ tt tt)) (λ n.
    then_honest (ports_at s.0 n.0 n.1) _ (then_honest (many (drain_at s.0) n.0.0 n.1) _ (many_honest (drain_at s.0) (drain_honest s.0) n.0.0 n.1) (λ drains. then_honest (many (source_at s.0) n.0.1 drains.1) _ (many_honest (source_at s.0) (source_honest s.0) n.0.1 drains.1) (λ sources. tt))) (λ p. tt)))))

-- a fault of the head is a fault of the whole
pub head_fails : (bytes : List ℕ) (f : SnapFault) → head_at bytes ≡ Err f → Fails f (reading bytes)
unfolding reading
head_fails bytes Memory e = absurd (subst (λ (r : Result (Head × List ℕ) SnapFault). IsHonest r) e (head_honest bytes))
head_fails bytes _ e = ap (λ (r : Result (Head × List ℕ) SnapFault). r >>= λ h. body_at h.0 h.1) e
