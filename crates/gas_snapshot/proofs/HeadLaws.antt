-- What stands before the cells: it is read as it was written, and written as it was read.
use Rattle.std.proofs.Common.{◌≡◌, ℕ, ◌+◌, ◌^◌, ◌<◌, ◌≤◌, true, List, ◌++◌, length, Result, Ok, sym, ap, subst, ◌∙◌, append_assoc, arith, ℤ}
use Rattle.std.specs.List.{AllByRecursion, flat_map}
use Rattle.std.proofs.lemmas.Bool.Decides.{nat_tests}
use Rattle.gas_terms.specs.Cells.{Extent, Rectangle, is_side, is_size, lies_within}
use Rattle.gas_terms.specs.Gas.{Source}
use Rattle.gas_terms.specs.Commands.{is_period, is_tick}
use Rattle.gas_ledger.specs.PortLists.{PortLists}
use Rattle.gas_snapshot.specs.declared.version.Version.{Version}
use Rattle.gas_snapshot.specs.declared.fault.SnapFault.{SnapFault}
use Rattle.gas_snapshot.specs.Spelling.{magic, sides, moment, counts, drain, source}
use Rattle.gas_snapshot.specs.Reading.{◌>>=◌, Head, magic_at, is_size_of, size_at, tick_at, are_few, counts_at, drain_at, source_at, many, ports_at, head_at}
use Rattle.gas_snapshot.proofs.FieldLaws.{IsBytes, bind_ok, ok_is, Takes, then_takes, magic_takes, size_takes, tick_takes, counts_takes, drain_takes, suits, source_takes, many_take, magic_again, size_again, tick_again, counts_again, IsSmall, drain_again, source_again, many_again}
use Rattle.std.proofs.lemmas.Bool.{and_parts}

abbrev pub port_text : PortLists → List ℕ
port_text ports = flat_map drain ports.drains ++ flat_map source ports.sources

abbrev pub head_text : Head → List ℕ
head_text h = magic h.version ++ (sides h.size ++ (moment h.tick ++ (counts (length h.ports.drains) (length h.ports.sources) ++ port_text h.ports)))

pub record PortsFit (size : Extent) (ports : PortLists) : Type 0 where
  pub drains : AllByRecursion (λ r. lies_within size r ≡ true) ports.drains
  pub sources : AllByRecursion (λ s. suits size s ≡ true) ports.sources

pub record HeadFits (h : Head) : Type 0 where
  pub sized : is_size_of h.version h.size ≡ true
  pub tick : is_tick h.tick ≡ true
  pub few : are_few (length h.ports.drains, length h.ports.sources) ≡ true
  pub ports : PortsFit h.size h.ports

abbrev made_ports : List Rectangle → List Source → PortLists
made_ports drains sources = record { drains = drains; sources = sources }

pub ports_take : (size : Extent) (n : ℕ × ℕ) (bytes : List ℕ) (x : PortLists × List ℕ) → IsBytes bytes → ports_at size n bytes ≡ Ok x
    → Takes bytes (port_text x.0) x.1 × PortsFit size x.0 × (length x.0.drains ≡ n.0) × (length x.0.sources ≡ n.1)
unfolding ports_at
ports_take size n bytes x fits e =
    let a = bind_ok (many (drain_at size) n.0 bytes) (λ drains. many (source_at size) n.1 drains.1 >>= λ sources. Ok (made_ports drains.0 sources.0, sources.1)) x e in
    let b = bind_ok (many (source_at size) n.1 a.0.1) (λ sources. Ok (made_ports a.0.0 sources.0, sources.1)) x a.2 in
    let first = many_take (drain_at size) drain (lies_within size) (drain_takes size) n.0 bytes a.0 fits a.1 in
    let second = many_take (source_at size) source (suits size) (source_takes size) n.1 a.0.1 b.0 first.0.rest_fits b.1 in
    let made : PortLists × List ℕ = (made_ports a.0.0 b.0.0, b.0.1) in
    subst (λ (y : PortLists × List ℕ). Takes bytes (port_text y.0) y.1 × PortsFit size y.0 × (length y.0.drains ≡ n.0) × (length y.0.sources ≡ n.1)) (ok_is made x b.2)
    (then_takes bytes (flat_map drain a.0.0) a.0.1 (flat_map source b.0.0) b.0.1 first.0 second.0, record { drains = first.2; sources = second.2 }, first.1, second.1)

abbrev pub made_head : Version → Extent → ℤ → PortLists → Head
made_head version size tick ports = record { version = version; size = size; tick = tick; ports = ports }

both_counts : (n : ℕ × ℕ) (ports : PortLists) → length ports.drains ≡ n.0 → length ports.sources ≡ n.1 → n ≡ (length ports.drains, length ports.sources)
both_counts n ports drains sources = λ i. (sym drains i, sym sources i)

with_counts : (bytes rest : List ℕ) (n m : ℕ × ℕ) → n ≡ m → Takes bytes (counts n.0 n.1) rest → Takes bytes (counts m.0 m.1) rest
with_counts bytes rest n m same = subst (λ (y : ℕ × ℕ). Takes bytes (counts y.0 y.1) rest) same

with_few : (n m : ℕ × ℕ) → n ≡ m → are_few n ≡ true → are_few m ≡ true
with_few n m same = subst (λ (y : ℕ × ℕ). are_few y ≡ true) same

pub head_takes : (bytes : List ℕ) (x : Head × List ℕ) → IsBytes bytes → head_at bytes ≡ Ok x → Takes bytes (head_text x.0) x.1 × HeadFits x.0
unfolding head_at
head_takes bytes x fits e =
    let a = bind_ok (magic_at bytes) (λ v. size_at v.0 v.1 >>= λ s. tick_at s.1 >>= λ t. counts_at t.1 >>= λ c. ports_at s.0 c.0 c.1 >>= λ p. Ok (made_head v.0 s.0 t.0 p.0, p.1)) x e in
    let v = a.0 in
    let b = bind_ok (size_at v.0 v.1) (λ s. tick_at s.1 >>= λ t. counts_at t.1 >>= λ c. ports_at s.0 c.0 c.1 >>= λ p. Ok (made_head v.0 s.0 t.0 p.0, p.1)) x a.2 in
    let s = b.0 in
    let d = bind_ok (tick_at s.1) (λ t. counts_at t.1 >>= λ c. ports_at s.0 c.0 c.1 >>= λ p. Ok (made_head v.0 s.0 t.0 p.0, p.1)) x b.2 in
    let t = d.0 in
    let f = bind_ok (counts_at t.1) (λ c. ports_at s.0 c.0 c.1 >>= λ p. Ok (made_head v.0 s.0 t.0 p.0, p.1)) x d.2 in
    let n = f.0 in
    let g = bind_ok (ports_at s.0 n.0 n.1) (λ p. Ok (made_head v.0 s.0 t.0 p.0, p.1)) x f.2 in
    let p = g.0 in
    let t1 = magic_takes bytes v fits a.1 in
    let t2 = size_takes v.0 v.1 s t1.rest_fits b.1 in
    let t3 = tick_takes s.1 t t2.0.rest_fits d.1 in
    let t4 = counts_takes t.1 n t3.0.rest_fits f.1 in
    let t5 = ports_take s.0 n.0 n.1 p t4.0.rest_fits g.1 in
    let same = both_counts n.0 p.0 t5.2 t5.3 in
    let c4 = with_counts t.1 n.1 n.0 (length p.0.drains, length p.0.sources) same t4.0 in
    let u4 = then_takes t.1 (counts (length p.0.drains) (length p.0.sources)) n.1 (port_text p.0) p.1 c4 t5.0 in
    let u3 = then_takes s.1 (moment t.0) t.1 (counts (length p.0.drains) (length p.0.sources) ++ port_text p.0) p.1 t3.0 u4 in
    let u2 = then_takes v.1 (sides s.0) s.1 (moment t.0 ++ (counts (length p.0.drains) (length p.0.sources) ++ port_text p.0)) p.1 t2.0 u3 in
    let u1 = then_takes bytes (magic v.0) v.1 (sides s.0 ++ (moment t.0 ++ (counts (length p.0.drains) (length p.0.sources) ++ port_text p.0))) p.1 t1 u2 in
    let made : Head × List ℕ = (made_head v.0 s.0 t.0 p.0, p.1) in
    subst (λ (y : Head × List ℕ). Takes bytes (head_text y.0) y.1 × HeadFits y.0) (ok_is made x g.2)
    (u1, record { sized = t2.1; tick = t3.1; few = with_few n.0 (length p.0.drains, length p.0.sources) same t4.1; ports = t5.1 })

-- ---- again

pub size_of : (version : Version) (size : Extent) → is_size_of version size ≡ true → is_size size ≡ true
size_of version size ok = grind arith

small_side : (n : ℕ) → is_side n ≡ true → n < 2 ^ 16
small_side n ok = grind (arith, nat_tests)

pub record IsSmallSize (size : Extent) : Type 0 where
  pub wide : size.width < 2 ^ 16
  pub high : size.height < 2 ^ 16

small_size : (size : Extent) → is_size size ≡ true → IsSmallSize size
small_size size ok = let b = and_parts (is_side size.width) (is_side size.height) ok in record { wide = small_side size.width b.0; high = small_side size.height b.1 }

small_area : (size : Extent) (r : Rectangle) → IsSmallSize size → lies_within size r ≡ true → IsSmall r
small_area size r small ok =
    let wide = small.wide in
    let high = small.high in
    let right : r.x + r.w ≤ size.width = grind (arith, nat_tests) in
    let bottom : r.y + r.h ≤ size.height = grind (arith, nat_tests) in
    record { x = omega arith; y = omega arith; w = omega arith; h = omega arith }

small_period : (n : ℕ) → is_period n ≡ true → n < 2 ^ 16
small_period n ok = grind (arith, nat_tests)

pub ports_again : (size : Extent) (ports : PortLists) (rest : List ℕ) → IsSmallSize size → PortsFit size ports
    → ports_at size (length ports.drains, length ports.sources) (port_text ports ++ rest) ≡ Ok (ports, rest)
unfolding ports_at
ports_again size ports rest small fit =
    let regrouped : port_text ports ++ rest ≡ flat_map drain ports.drains ++ (flat_map source ports.sources ++ rest) = append_assoc (flat_map drain ports.drains) (flat_map source ports.sources) rest in
    let first = many_again (drain_at size) drain (λ r. lies_within size r ≡ true) (λ r rest ok. drain_again size r rest (small_area size r small ok) ok) ports.drains (flat_map source ports.sources ++ rest) fit.drains in
    let second = many_again (source_at size) source (λ s. suits size s ≡ true) (λ s rest ok. source_again size s rest (small_area size s.area small (and_parts (lies_within size s.area) (is_period s.period) ok).0) (small_period s.period (and_parts (lies_within size s.area) (is_period s.period) ok).1) ok) ports.sources rest fit.sources in
    ap (λ (b : List ℕ). many (drain_at size) (length ports.drains) b >>= λ drains. many (source_at size) (length ports.sources) drains.1 >>= λ sources. Ok (made_ports drains.0 sources.0, sources.1)) regrouped
    ∙ ap (λ (r : Result (List Rectangle × List ℕ) SnapFault). r >>= λ drains. many (source_at size) (length ports.sources) drains.1 >>= λ sources. Ok (made_ports drains.0 sources.0, sources.1)) first
    ∙ ap (λ (r : Result (List Source × List ℕ) SnapFault). r >>= λ sources. Ok (made_ports ports.drains sources.0, sources.1)) second

regroup : (m s t c p rest : List ℕ) → (m ++ (s ++ (t ++ (c ++ p)))) ++ rest ≡ m ++ (s ++ (t ++ (c ++ (p ++ rest))))
regroup m s t c p rest = simp append_assoc

pub head_again : (h : Head) (rest : List ℕ) → HeadFits h → head_at (head_text h ++ rest) ≡ Ok (h, rest)
unfolding head_at
head_again h rest fit =
    let sized = size_of h.version h.size fit.sized in
    let small = small_size h.size sized in
    let n = counts (length h.ports.drains) (length h.ports.sources) in
    let rest4 = port_text h.ports ++ rest in
    let rest3 = n ++ rest4 in
    let rest2 = moment h.tick ++ rest3 in
    let rest1 = sides h.size ++ rest2 in
    ap head_at (regroup (magic h.version) (sides h.size) (moment h.tick) n (port_text h.ports) rest)
    ∙ ap (λ (r : Result (Version × List ℕ) SnapFault). r >>= λ v. size_at v.0 v.1 >>= λ s. tick_at s.1 >>= λ t. counts_at t.1 >>= λ c. ports_at s.0 c.0 c.1 >>= λ p. Ok (made_head v.0 s.0 t.0 p.0, p.1)) (magic_again h.version rest1)
    ∙ ap (λ (r : Result (Extent × List ℕ) SnapFault). r >>= λ s. tick_at s.1 >>= λ t. counts_at t.1 >>= λ c. ports_at s.0 c.0 c.1 >>= λ p. Ok (made_head h.version s.0 t.0 p.0, p.1)) (size_again h.version h.size rest2 fit.sized small.wide small.high)
    ∙ ap (λ (r : Result (ℤ × List ℕ) SnapFault). r >>= λ t. counts_at t.1 >>= λ c. ports_at h.size c.0 c.1 >>= λ p. Ok (made_head h.version h.size t.0 p.0, p.1)) (tick_again h.tick rest3 fit.tick)
    ∙ ap (λ (r : Result ((ℕ × ℕ) × List ℕ) SnapFault). r >>= λ c. ports_at h.size c.0 c.1 >>= λ p. Ok (made_head h.version h.size h.tick p.0, p.1)) (counts_again (length h.ports.drains) (length h.ports.sources) rest4 fit.few)
    ∙ ap (λ (r : Result (PortLists × List ℕ) SnapFault). r >>= λ p. Ok (made_head h.version h.size h.tick p.0, p.1)) (ports_again h.size h.ports rest small fit.ports)
