-- The two laws: what is read is spelled so, and what is spelled so is read.
use Rattle.std.proofs.Common.{◌≡◌, ℕ, ◌+◌, ◌-◌, ◌*◌, ◌/◌, ◌%◌, ◌<◌, ◌≤◌, Bool, true, false, cond, eqb, List, [], ◌∷◌, ◌++◌, length, take, drop, Result, Ok, Err, refl, sym, ap, subst, ◌∙◌, append_assoc, arith, ℤ}
use Rattle.std.specs.Prelude.{IsOk, IfOk, nat_le}
use Rattle.std.specs.List.{AllByRecursion}
use Rattle.std.proofs.lemmas.Bool.{lt-ltb, le-ltb, cases_lt, leb-true, le-leb, eq-eqb, and_parts, and_from}
use Rattle.std.proofs.lemmas.Bool.Decides.{nat_tests}
use Rattle.std.proofs.lemmas.List.{take_at, drop_at, take-append-drop, length-append, length-drop, length-take, nil_from_length}
use Rattle.std.proofs.Math.Seq.{take-length}
use Rattle.std.proofs.lemmas.List.Elements.{All-from_recursion, recursion_from_All}
use Rattle.gas_terms.specs.Cells.{Cells, Extent, extent, is_size, lies_within, HasSidesOf}
use Rattle.gas_terms.proofs.Cells.{full-cells_where}
use Rattle.gas_terms.specs.Rows.{row_has, row_bytes}
use Rattle.gas_terms.proofs.Bytes.{length-row_bytes}
use Rattle.gas_terms.specs.Gas.{Gas, Source}
use Rattle.gas_terms.specs.Commands.{is_period}
use Rattle.gas_plane.specs.Planes.{IsLattice}
use Rattle.gas_ledger.specs.PortLists.{PortLists, IsPortSet, LieWithin}
use Rattle.gas_ledger.specs.Gases.{FitTogether, IsSoundGas, gas_of, no_cells_of_size, ports_of}
use Rattle.gas_snapshot.specs.declared.version.Version.{Version}
use Rattle.gas_snapshot.specs.declared.version.Version.TheVariants.{One, Two}
use Rattle.gas_snapshot.specs.declared.fault.SnapFault.{SnapFault}
use Rattle.gas_snapshot.specs.declared.fault.SnapFault.TheVariants.{Short, Trailing}
use Rattle.gas_snapshot.specs.Spelling.{head, cell_rows, obstacle_rows, spelling, HasSpelling, Spells, Allows}
use Rattle.gas_snapshot.specs.Reading.{◌>>=◌, Head, field_at, is_size_of, head_at, cells_in, cells_at, obstacles_at, obstacles_in, layers, body_at, reading, Gives}
use Rattle.gas_snapshot.proofs.FieldLaws.{IsBytes, IsBytes-take, IsBytes-drop, bind_ok, done, ok_is, suits}
use Rattle.gas_snapshot.proofs.HeadLaws.{head_text, made_head, HeadFits, PortsFit, head_takes, head_again, size_of}
use Rattle.gas_snapshot.proofs.Rows.{read_again, written_again, length_rows, is_even}

abbrev made_extent : ℕ → ℕ → Extent
made_extent w h = record { width = w; height = h }

abbrev failed : SnapFault → Result Gas SnapFault
failed f = Err f

-- how many bytes the cells of one set are
abbrev pub part : Extent → ℕ
part size = size.height * (size.width / 8)

pub field_short : (n : ℕ) (bytes : List ℕ) → length bytes < n → field_at n bytes ≡ Err Short
field_short n bytes lt = ap (λ (b : Bool). cond b (Err Short) (done (take n bytes, drop n bytes))) (lt-ltb _ _ lt)

pub field_there : (n : ℕ) (bytes : List ℕ) → n ≤ length bytes → field_at n bytes ≡ Ok (take n bytes, drop n bytes)
field_there n bytes le = ap (λ (b : Bool). cond b (Err Short) (done (take n bytes, drop n bytes))) (le-ltb _ _ le)

cells_short : (size : Extent) (bytes : List ℕ) → length bytes < part size → cells_at size bytes ≡ Err Short
unfolding cells_at
cells_short size bytes lt = ap (λ (r : Result (List ℕ × List ℕ) SnapFault). r >>= λ field. Ok (cells_in size field.0, field.1)) (field_short (part size) bytes lt)

cells_there : (size : Extent) (bytes : List ℕ) → part size ≤ length bytes → cells_at size bytes ≡ Ok (cells_in size (take (part size) bytes), drop (part size) bytes)
unfolding cells_at
cells_there size bytes le = ap (λ (r : Result (List ℕ × List ℕ) SnapFault). r >>= λ field. Ok (cells_in size field.0, field.1)) (field_there (part size) bytes le)

obstacles_short : (v : Version) (size : Extent) (bytes : List ℕ) → length bytes < (layers v - 2) * part size → obstacles_at v size bytes ≡ Err Short
unfolding obstacles_at
obstacles_short One size bytes lt = absurd (omega arith)
obstacles_short Two size bytes lt = cells_short size bytes (omega arith)

abbrev ended : Head → Cells → Cells → Cells × List ℕ → Result Gas SnapFault
ended h p w o = cond (eqb (length o.1) 0) (Ok (gas_of h.tick p w o.0 h.ports)) (Err Trailing)

pos_not_zero : (n : ℕ) → 0 < n → eqb n 0 ≡ false
pos_not_zero n lt = grind (arith, nat_tests)

is_zero : (n : ℕ) → n ≡ 0 → eqb n 0 ≡ true
is_zero n e = eq-eqb n 0 e

obstacles_long : (v : Version) (h : Head) (p w : Cells) (bytes : List ℕ) → (layers v - 2) * part h.size < length bytes → (obstacles_at v h.size bytes >>= ended h p w) ≡ Err Trailing
unfolding obstacles_at
obstacles_long One h p w bytes lt = ap (λ (b : Bool). cond b (done (gas_of h.tick p w (no_cells_of_size h.size) h.ports)) (Err Trailing)) (pos_not_zero (length bytes) (omega arith))
obstacles_long Two h p w bytes lt = grind (arith, cells_there, done, pos_not_zero, length-drop)

whole_taken : (n : ℕ) (bytes : List ℕ) → length bytes ≡ n → take n bytes ≡ bytes
whole_taken n bytes e = ap (λ (i : ℕ). take i bytes) (sym e) ∙ take-length bytes

obstacles_whole : (v : Version) (h : Head) (p w : Cells) (bytes : List ℕ) → length bytes ≡ (layers v - 2) * part h.size → (obstacles_at v h.size bytes >>= ended h p w) ≡ Ok (gas_of h.tick p w (obstacles_in v h.size bytes) h.ports)
unfolding obstacles_at
obstacles_whole One h p w bytes e = ap (λ (b : Bool). cond b (done (gas_of h.tick p w (no_cells_of_size h.size) h.ports)) (Err Trailing)) (is_zero (length bytes) (omega arith))
obstacles_whole Two h p w bytes e =
    let len : length bytes ≡ part h.size = omega arith in
    ap (λ (r : Result (Cells × List ℕ) SnapFault). r >>= ended h p w) (cells_there h.size bytes (omega arith))
    ∙ ap (λ (b : Bool). cond b (done (gas_of h.tick p w (cells_in h.size (take (part h.size) bytes)) h.ports)) (Err Trailing)) (is_zero (length (drop (part h.size) bytes)) (omega (arith, length-drop (part h.size) bytes)))
    ∙ ap (λ (b : List ℕ). done (gas_of h.tick p w (cells_in h.size b) h.ports)) (whole_taken (part h.size) bytes len)

-- the first two sets, where they are there
two_there : (h : Head) (bytes : List ℕ) → 2 * part h.size ≤ length bytes
    → body_at h bytes ≡ (obstacles_at h.version h.size (drop (part h.size) (drop (part h.size) bytes)) >>= ended h (cells_in h.size (take (part h.size) bytes)) (cells_in h.size (take (part h.size) (drop (part h.size) bytes))))
unfolding body_at
two_there h bytes le = grind (arith, cells_there, length-drop)

two_layers : (v : Version) (n : ℕ) → layers v * n ≡ 2 * n + (layers v - 2) * n
two_layers One n = omega arith
two_layers Two n = omega arith

body_short_2 : (h : Head) (bytes : List ℕ) → length bytes < layers h.version * part h.size → part h.size ≤ length bytes → body_at h bytes ≡ Err Short
unfolding body_at
body_short_2 h bytes lt le = grind (arith, cases_lt, cells_there, cells_short, length-drop, two_there, obstacles_short, two_layers)

pub body_short : (h : Head) (bytes : List ℕ) → length bytes < layers h.version * part h.size → body_at h bytes ≡ Err Short
unfolding body_at
body_short h bytes lt = grind (arith, cases_lt, cells_short, body_short_2)

pub body_long : (h : Head) (bytes : List ℕ) → layers h.version * part h.size < length bytes → body_at h bytes ≡ Err Trailing
body_long h bytes lt = grind (arith, two_layers, two_there, obstacles_long, length-drop)

-- the gas that the cells make with a head
abbrev pub gas_with : Head → List ℕ → Gas
gas_with h bytes =
    gas_of h.tick (cells_in h.size (take (part h.size) bytes)) (cells_in h.size (take (part h.size) (drop (part h.size) bytes)))
    (obstacles_in h.version h.size (drop (part h.size) (drop (part h.size) bytes))) h.ports

pub body_whole : (h : Head) (bytes : List ℕ) → length bytes ≡ layers h.version * part h.size → body_at h bytes ≡ Ok (gas_with h bytes)
body_whole h bytes e =
    let k = two_layers h.version (part h.size) in
    two_there h bytes (omega arith)
    ∙ obstacles_whole h.version h (cells_in h.size (take (part h.size) bytes)) (cells_in h.size (take (part h.size) (drop (part h.size) bytes))) (drop (part h.size) (drop (part h.size) bytes))
    (omega (arith, length-drop (part h.size) bytes, length-drop (part h.size) (drop (part h.size) bytes)))

no_err : {P : Type 0} (f : SnapFault) (g : Gas) → failed f ≡ done g → P
no_err f g e = absurd cc

body_ok_long : (h : Head) (bytes : List ℕ) (g : Gas) → body_at h bytes ≡ Ok g → length bytes ≡ layers h.version * part h.size
body_ok_long h bytes g e = grind (arith, cases_lt, no_err, body_short, body_long)

-- ---- what was read is spelled so

layer_texts : (v : Version) (size : Extent) (bytes : List ℕ) → size.width % 8 ≡ 0 → IsBytes bytes → length bytes ≡ (layers v - 2) * part size → obstacle_rows v (obstacles_in v size bytes) ≡ bytes
unfolding obstacle_rows
layer_texts One size bytes even fits e = sym (nil_from_length bytes (omega arith))
layer_texts Two size bytes even fits e = written_again size bytes even (omega arith) fits

joined : (n : ℕ) (bytes a b d : List ℕ) → a ≡ take n bytes → b ≡ take n (drop n bytes) → d ≡ drop n (drop n bytes) → a ++ (b ++ d) ≡ bytes
joined n bytes a b d p q r = grind (arith, take-append-drop)

body_text : (h : Head) (bytes : List ℕ) → h.size.width % 8 ≡ 0 → IsBytes bytes → length bytes ≡ layers h.version * part h.size
    → cell_rows (gas_with h bytes).particles ++ (cell_rows (gas_with h bytes).walls ++ obstacle_rows h.version (gas_with h bytes).obstacles) ≡ bytes
body_text h bytes even fits e =
    let n = part h.size in
    let k = two_layers h.version n in
    let fits1 = IsBytes-drop n bytes fits in
    let long1 = length-drop n bytes in
    let first = written_again h.size (take n bytes) even (omega (arith, length-take n bytes)) (IsBytes-take n bytes fits) in
    let second = written_again h.size (take n (drop n bytes)) even (omega (arith, length-take n (drop n bytes))) (IsBytes-take n (drop n bytes) fits1) in
    let third = layer_texts h.version h.size (drop n (drop n bytes)) even (IsBytes-drop n (drop n bytes) fits1) (omega (arith, length-drop n (drop n bytes))) in
    joined n bytes (cell_rows (cells_in h.size (take n bytes))) (cell_rows (cells_in h.size (take n (drop n bytes)))) (obstacle_rows h.version (obstacles_in h.version h.size (drop n (drop n bytes)))) first second third

-- what the version allows
allowed : (v : Version) (size : Extent) (g : Gas) (bytes : List ℕ) → is_size_of v size ≡ true → g.particles.width ≡ size.width → g.particles.height ≡ size.height → g.obstacles ≡ obstacles_in v size bytes → Allows v g
allowed One size g bytes ok wide high e = grind (arith, nat_tests)
allowed Two size g bytes ok wide high e = tt

obstacle_lattice : (v : Version) (size : Extent) (bytes : List ℕ) → is_size size ≡ true → IsLattice (obstacles_in v size bytes) × HasSidesOf (obstacles_in v size bytes) (cells_in size bytes)
obstacle_lattice One size bytes ok = (record { sized = ok; full = full-cells_where size.width size.height (λ _ _. false) }, record { wide = refl; high = refl })
obstacle_lattice Two size bytes ok = (record { sized = ok; full = full-cells_where size.width size.height (λ x y. row_has (drop (y * (size.width / 8)) bytes) x) }, record { wide = refl; high = refl })

read_lattice : (size : Extent) (bytes : List ℕ) → is_size size ≡ true → IsLattice (cells_in size bytes)
read_lattice size bytes ok = record { sized = ok; full = full-cells_where size.width size.height (λ x y. row_has (drop (y * (size.width / 8)) bytes) x) }

areas_suit : (size : Extent) (ss : List Source) → AllByRecursion (λ s. suits size s ≡ true) ss → AllByRecursion (λ s. lies_within size s.area ≡ true) ss × AllByRecursion (λ s. is_period s.period ≡ true) ss
areas_suit size [] h = (tt, tt)
areas_suit size (s ∷ ss) h = let b = and_parts (lies_within size s.area) (is_period s.period) h.0 in let r = areas_suit size ss h.1 in ((b.0, r.0), (b.1, r.1))

pub ports_inside : (size : Extent) (ports : PortLists) → PortsFit size ports → LieWithin size ports
ports_inside size ports fit = record {
  drains = All-from_recursion (λ r. lies_within size r ≡ true) ports.drains fit.drains;
  sources = All-from_recursion (λ s. lies_within size s.area ≡ true) ports.sources (areas_suit size ports.sources fit.sources).0;
}

port_set : (h : Head) → HeadFits h → IsPortSet h.ports
port_set h fit =
    let b = and_parts (nat_le (length h.ports.drains) 16) (nat_le (length h.ports.sources) 16) fit.few in
    record {
      few_drains = leb-true _ _ b.0;
      few_sources = leb-true _ _ b.1;
      periods = All-from_recursion (λ s. is_period s.period ≡ true) h.ports.sources (areas_suit h.size h.ports.sources fit.ports.sources).1;
    }

read_is_sound : (h : Head) (bytes : List ℕ) → HeadFits h → IsSoundGas (gas_with h bytes)
read_is_sound h bytes fit =
    let ok = size_of h.version h.size fit.sized in
    let n = part h.size in
    let o = obstacle_lattice h.version h.size (drop n (drop n bytes)) ok in
    record {
      tick = fit.tick;
      particles = read_lattice h.size (take n bytes) ok;
      walls = read_lattice h.size (take n (drop n bytes)) ok;
      obstacles = o.0;
      fit = record { walls_sides = record { wide = refl; high = refl }; obstacles_sides = record { wide = o.1.wide; high = o.1.high }; ports_inside = ports_inside h.size h.ports fit.ports };
      ports = port_set h fit;
    }

abbrev head_of : Version → Gas → Head
head_of v g = made_head v (extent g.particles) g.tick (ports_of g)

spelling_is : (v : Version) (g : Gas) → spelling v g ≡ head_text (head_of v g) ++ (cell_rows g.particles ++ (cell_rows g.walls ++ obstacle_rows v g.obstacles))
unfolding spelling head
spelling_is v g = simp append_assoc

pub reading_takes : (bytes : List ℕ) (g : Gas) → IsBytes bytes → reading bytes ≡ Ok g → Spells bytes g
unfolding reading
reading_takes bytes g fits e =
    let a = bind_ok (head_at bytes) (λ h. body_at h.0 h.1) g e in
    let h = a.0.0 in
    let rest = a.0.1 in
    let t = head_takes bytes a.0 fits a.1 in
    let len = body_ok_long h rest g a.2 in
    let same : gas_with h rest ≡ g = ok_is (gas_with h rest) g (sym (body_whole h rest len) ∙ a.2) in
    let even = is_even h.size (size_of h.version h.size t.1.sized) in
    subst (λ (x : Gas). Spells bytes x) same
    (record {
      version = h.version;
      has = record { sound = read_is_sound h rest t.1; allowed = allowed h.version h.size (gas_with h rest) (drop (part h.size) (drop (part h.size) rest)) t.1.sized refl refl refl };
      parts = t.0.parts ∙ ap (λ (b : List ℕ). head_text h ++ b) (sym (body_text h rest even t.0.rest_fits len)) ∙ sym (spelling_is h.version (gas_with h rest));
    })

-- ---- what is spelled so is read

pub same_extent : (a b : Cells) → HasSidesOf a b → extent a ≡ extent b
same_extent a b e = ap (λ (w : ℕ). made_extent w a.height) e.wide ∙ ap (λ (h : ℕ). made_extent b.width h) e.high

pub length_of_rows : (cells : Cells) → length (cell_rows cells) ≡ part (extent cells)
unfolding cell_rows
length_of_rows cells = length_rows (row_bytes cells) (cells.width / 8) 0 cells.height (length-row_bytes cells)

lattice_again : (size : Extent) (cells : Cells) → IsLattice cells → extent cells ≡ size → cells_in size (cell_rows cells) ≡ cells
lattice_again size cells lattice e = ap (λ (s : Extent). cells_in s (cell_rows cells)) (sym e) ∙ read_again cells lattice.full (is_even (extent cells) lattice.sized)

obstacles_again : (v : Version) (size : Extent) (g : Gas) → IsLattice g.obstacles → extent g.obstacles ≡ size → extent g.particles ≡ size → Allows v g → obstacles_in v size (obstacle_rows v g.obstacles) ≡ g.obstacles
unfolding obstacle_rows
obstacles_again One size g lattice e f ok = ap no_cells_of_size (sym f) ∙ sym ok.unobstructed
obstacles_again Two size g lattice e f ok = lattice_again size g.obstacles lattice e

obstacles_long_as : (v : Version) (cells : Cells) → length (obstacle_rows v cells) ≡ (layers v - 2) * part (extent cells)
unfolding obstacle_rows
obstacles_long_as One cells = omega arith
obstacles_long_as Two cells = length_of_rows cells ∙ omega arith

gas_is : {p q w x o n : Cells} (tick : ℤ) (ports : PortLists) → p ≡ q → w ≡ x → o ≡ n → gas_of tick p w o ports ≡ gas_of tick q x n ports
gas_is {p = p} {q = q} {w = w} {x = x} {o = o} {n = n} tick ports a b e =
    ap (λ (c : Cells). gas_of tick c w o ports) a ∙ ap (λ (c : Cells). gas_of tick q c o ports) b ∙ ap (λ (c : Cells). gas_of tick q x c ports) e

fitting_size : (v : Version) (g : Gas) → is_size (extent g.particles) ≡ true → Allows v g → is_size_of v (extent g.particles) ≡ true
fitting_size One g ok allowed = grind (arith, nat_tests)
fitting_size Two g ok allowed = grind (arith, nat_tests)

suiting : (size : Extent) (ss : List Source) → AllByRecursion (λ s. lies_within size s.area ≡ true) ss → AllByRecursion (λ s. is_period s.period ≡ true) ss → AllByRecursion (λ s. suits size s ≡ true) ss
suiting size [] a b = tt
suiting size (s ∷ ss) a b = (and_from (lies_within size s.area) (is_period s.period) a.0 b.0, suiting size ss a.1 b.1)

fitting : (v : Version) (g : Gas) → HasSpelling v g → HeadFits (head_of v g)
fitting v g has = grind (arith, fitting_size, and_from, le-leb, recursion_from_All, suiting)

body_again : (v : Version) (g : Gas) → HasSpelling v g → body_at (head_of v g) (cell_rows g.particles ++ (cell_rows g.walls ++ obstacle_rows v g.obstacles)) ≡ Ok g
body_again v g has =
    let h = head_of v g in
    let n = part h.size in
    let sound = has.sound in
    let walls_size = same_extent g.walls g.particles sound.fit.walls_sides in
    let obstacles_size = same_extent g.obstacles g.particles sound.fit.obstacles_sides in
    let p = cell_rows g.particles in
    let w = cell_rows g.walls in
    let o = obstacle_rows v g.obstacles in
    let p_len : length p ≡ n = length_of_rows g.particles in
    let w_len : length w ≡ n = length_of_rows g.walls ∙ ap part walls_size in
    let o_len : length o ≡ (layers v - 2) * n = obstacles_long_as v g.obstacles ∙ ap (λ (s : Extent). (layers v - 2) * part s) obstacles_size in
    let all : length (p ++ (w ++ o)) ≡ layers v * n = omega (arith, length-append p (w ++ o), length-append w o, two_layers v n) in
    let first : take n (p ++ (w ++ o)) ≡ p = take_at p (w ++ o) n p_len in
    let rest : drop n (p ++ (w ++ o)) ≡ w ++ o = drop_at p (w ++ o) n p_len in
    let second : take n (drop n (p ++ (w ++ o))) ≡ w = ap (take n) rest ∙ take_at w o n w_len in
    let third : drop n (drop n (p ++ (w ++ o))) ≡ o = ap (drop n) rest ∙ drop_at w o n w_len in
    body_whole h (p ++ (w ++ o)) all
    ∙ ap done (gas_is h.tick h.ports (ap (cells_in h.size) first ∙ lattice_again h.size g.particles sound.particles refl)
    (ap (cells_in h.size) second ∙ lattice_again h.size g.walls sound.walls walls_size)
    (ap (obstacles_in v h.size) third ∙ obstacles_again v h.size g sound.obstacles obstacles_size refl has.allowed))

pub reading_again : (v : Version) (g : Gas) → HasSpelling v g → reading (spelling v g) ≡ Ok g
unfolding reading
reading_again v g has =
    let h = head_of v g in
    ap (λ (b : List ℕ). head_at b >>= λ h. body_at h.0 h.1) (spelling_is v g)
    ∙ ap (λ (r : Result (Head × List ℕ) SnapFault). r >>= λ h. body_at h.0 h.1) (head_again h (cell_rows g.particles ++ (cell_rows g.walls ++ obstacle_rows v g.obstacles)) (fitting v g has))
    ∙ body_again v g has

pub reading_spelled : (bytes : List ℕ) (g : Gas) → Spells bytes g → reading bytes ≡ Ok g
reading_spelled bytes g spelled = ap reading spelled.parts ∙ reading_again spelled.version g spelled.has

pub is_found : (bytes : List ℕ) (r : Result Gas SnapFault) → IsBytes bytes → Gives r (reading bytes) → IfOk r (λ g. Spells bytes g)
is_found bytes (Ok g) fits given = reading_takes bytes g fits given
is_found bytes (Err e) fits given = tt

-- ---- as the code reads

pub read_with : (bytes : List ℕ) (h : Head) (rest : List ℕ) → head_at bytes ≡ Ok (h, rest) → reading bytes ≡ body_at h rest
unfolding reading
read_with bytes h rest e = ap (λ (r : Result (Head × List ℕ) SnapFault). r >>= λ x. body_at x.0 x.1) e

pub needed_is : (v : Version) (size : Extent) (l h w : ℕ) → l ≡ layers v → h ≡ size.height → w ≡ size.width → l * (h * (w / 8)) ≡ layers v * part size
needed_is v size l h w p q r = ap (λ (i : ℕ). i * (h * (w / 8))) p ∙ ap (λ (i : ℕ). layers v * (i * (w / 8))) q ∙ ap (λ (i : ℕ). layers v * (size.height * (i / 8))) r

pub read_short : (bytes : List ℕ) (h : Head) (rest : List ℕ) (n : ℕ) → head_at bytes ≡ Ok (h, rest) → n ≡ layers h.version * part h.size → length rest < n → reading bytes ≡ Err Short
read_short bytes h rest n e k lt = read_with bytes h rest e ∙ body_short h rest (omega arith)

pub read_long : (bytes : List ℕ) (h : Head) (rest : List ℕ) (n : ℕ) → head_at bytes ≡ Ok (h, rest) → n ≡ layers h.version * part h.size → n < length rest → reading bytes ≡ Err Trailing
read_long bytes h rest n e k lt = read_with bytes h rest e ∙ body_long h rest (omega arith)

pub read_whole : (bytes : List ℕ) (h : Head) (rest : List ℕ) (n : ℕ) → head_at bytes ≡ Ok (h, rest) → n ≡ layers h.version * part h.size → n ≤ length rest → length rest ≤ n → reading bytes ≡ Ok (gas_with h rest)
read_whole bytes h rest n e k le ge = read_with bytes h rest e ∙ body_whole h rest (omega arith)

pub is_read : (bytes : List ℕ) (h : Head) (rest : List ℕ) (n : ℕ) → head_at bytes ≡ Ok (h, rest) → n ≡ layers h.version * part h.size → n ≤ length rest → length rest ≤ n → IsOk (reading bytes)
is_read bytes h rest n e k le ge = subst (λ (r : Result Gas SnapFault). IsOk r) (sym (read_whole bytes h rest n e k le ge)) refl

-- the three parts of the rest, in the code's pieces
pub record ArePieces (size : Extent) (rest first after second third : List ℕ) (n : ℕ) : Type 0 where
  pub len : n ≡ part size
  pub first_is : first ≡ take n rest
  pub after_is : after ≡ drop n rest
  pub second_is : second ≡ take n after
  pub third_is : third ≡ drop n after

pub gas_read : (h : Head) (rest first after second third : List ℕ) (n : ℕ) (p w o : Cells) → ArePieces h.size rest first after second third n
    → p ≡ cells_in h.size first → w ≡ cells_in h.size second → o ≡ obstacles_in h.version h.size third → gas_of h.tick p w o h.ports ≡ gas_with h rest
gas_read h rest first after second third n p w o a e f k = grind (arith, gas_is)

pub fits_together : (bytes : List ℕ) (h : Head) (rest : List ℕ) (p w o : Cells) (first second third : List ℕ) → IsBytes bytes → head_at bytes ≡ Ok (h, rest)
    → p ≡ cells_in h.size first → w ≡ cells_in h.size second → o ≡ obstacles_in h.version h.size third → FitTogether p w o h.ports
fits_together bytes h rest p w o first second third fits e a b d =
    let t = head_takes bytes (h, rest) fits e in
    let ok = size_of h.version h.size t.1.sized in
    let sides = (obstacle_lattice h.version h.size third ok).1 in
    record {
      walls_sides = record { wide = ap (λ (c : Cells). c.width) b ∙ sym (ap (λ (c : Cells). c.width) a); high = ap (λ (c : Cells). c.height) b ∙ sym (ap (λ (c : Cells). c.height) a) };
      obstacles_sides = record { wide = ap (λ (c : Cells). c.width) d ∙ sides.wide ∙ sym (ap (λ (c : Cells). c.width) a); high = ap (λ (c : Cells). c.height) d ∙ sides.high ∙ sym (ap (λ (c : Cells). c.height) a) };
      ports_inside = subst (λ (s : Extent). LieWithin s h.ports) (sym (ap extent a)) (ports_inside h.size h.ports t.1.ports);
    }

-- ---- one gas, in one version

pub same_gas : (bytes : List ℕ) (g h : Gas) → Spells bytes g → Spells bytes h → g ≡ h
same_gas bytes g h s t = ok_is g h (sym (reading_spelled bytes g s) ∙ reading_spelled bytes h t)

head_is_read : (bytes : List ℕ) (g : Gas) (s : Spells bytes g) → head_at bytes ≡ Ok (head_of s.version g, cell_rows g.particles ++ (cell_rows g.walls ++ obstacle_rows s.version g.obstacles))
head_is_read bytes g s =
    ap head_at (s.parts ∙ spelling_is s.version g)
    ∙ head_again (head_of s.version g) (cell_rows g.particles ++ (cell_rows g.walls ++ obstacle_rows s.version g.obstacles)) (fitting s.version g s.has)

pub same_version : (bytes : List ℕ) (g h : Gas) (s : Spells bytes g) (t : Spells bytes h) → s.version ≡ t.version
same_version bytes g h s t =
    ap (λ (x : Head × List ℕ). x.0.version)
    (ok_is (head_of s.version g, cell_rows g.particles ++ (cell_rows g.walls ++ obstacle_rows s.version g.obstacles)) (head_of t.version h, cell_rows h.particles ++ (cell_rows h.walls ++ obstacle_rows t.version h.obstacles))
    (sym (head_is_read bytes g s) ∙ head_is_read bytes h t))

-- ---- as the code writes

pub spelling_two : (g : Gas) → spelling Two g ≡ ((head Two g ++ cell_rows g.particles) ++ cell_rows g.walls) ++ cell_rows g.obstacles
unfolding spelling obstacle_rows
spelling_two g = simp append_assoc
