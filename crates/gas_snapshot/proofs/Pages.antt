-- A page that fields are put on, one after the other.
use Rattle.std.proofs.Common.{◌≡◌, ℕ, ◌+◌, ◌*◌, ◌<◌, List, [], ◌++◌, length, get_or, take, drop, refl, sym, ap, ◌∙◌, append_assoc, arith, ℤ, ◌/◌}
use Rattle.std.proofs.Math.Seq.{take-length}
use Rattle.gas_snapshot.proofs.GasLaws.{spelling_two}
use Rattle.std.specs.Int.{w16, to_be_bytes}
use Rattle.std.specs.List.{flat_map}
use Rattle.std.proofs.lemmas.List.{flat_map_more, take_more, length-append, length-drop, take_at}
use Rattle.gas_terms.specs.Cells.{Cells, Rectangle}
use Rattle.gas_terms.specs.Gas.{Gas, Source}
use Rattle.gas_snapshot.specs.declared.version.Version.TheVariants.{Two}
use Rattle.gas_snapshot.specs.Spelling.{magic, sides, moment, counts, drain, source, head, cell_rows, spelling}

pub area_put : (page : List ℕ) (r : Rectangle) → (((page ++ to_be_bytes w16 r.x) ++ to_be_bytes w16 r.y) ++ to_be_bytes w16 r.w) ++ to_be_bytes w16 r.h ≡ page ++ drain r
unfolding drain
area_put page r = simp append_assoc

pub source_put : (page : List ℕ) (s : Source) → (page ++ drain s.area) ++ to_be_bytes w16 s.period ≡ page ++ source s
unfolding source
source_put page s = simp append_assoc

pub head_put : (g : Gas) (page : List ℕ) → page ≡ ((((((([] ++ magic Two) ++ to_be_bytes w16 g.particles.width) ++ to_be_bytes w16 g.particles.height) ++ moment g.tick) ++ counts (length g.drains) (length g.sources)) ++ flat_map drain g.drains) ++ flat_map source g.sources) → page ≡ head Two g
unfolding head sides
head_put g page e = e ∙ simp append_assoc

one_more : {A : Type 0} (text : A → List ℕ) (xs : List A) (d : A) (i : ℕ) → i < length xs → flat_map text (take i xs) ++ text (get_or xs i d) ≡ flat_map text (take (i + 1) xs)
one_more {A = A} text xs d i lt = flat_map_more text [] (take i xs) (get_or xs i d) ∙ ap (λ (l : List A). flat_map text l) (sym (take_more xs i d lt))

-- one field more, each of one length
pub fields_more : {A : Type 0} (text : A → List ℕ) (xs : List A) (d : A) (i : ℕ) (page old next : List ℕ) → i < length xs → page ≡ old ++ flat_map text (take i xs) → next ≡ page ++ text (get_or xs i d)
    → next ≡ old ++ flat_map text (take (i + 1) xs)
fields_more text xs d i page old next lt so_far e = grind (arith, get_or, append_assoc, one_more)

pub words_put : (page a b d e w x y z old : List ℕ) → a ≡ old ++ w → b ≡ a ++ x → d ≡ b ++ y → e ≡ d ++ z → e ≡ (((old ++ w) ++ x) ++ y) ++ z
words_put page a b d e w x y z old p q r s = cc

pub two_put : (page a b : List ℕ) (s : Source) → a ≡ page ++ drain s.area → b ≡ a ++ to_be_bytes w16 s.period → b ≡ page ++ source s
two_put page a b s p q = q ∙ ap (λ (l : List ℕ). l ++ to_be_bytes w16 s.period) p ∙ source_put page s

pub head_chain : (g : Gas) (p0 p1 p2 p3 p4 p5 p6 p7 : List ℕ) (rs : List Rectangle) (os : List Source) (w h : ℕ) (tick : ℤ)
    → w ≡ g.particles.width → h ≡ g.particles.height → tick ≡ g.tick → rs ≡ g.drains → os ≡ g.sources
    → p0 ≡ [] → p1 ≡ p0 ++ magic Two → p2 ≡ p1 ++ to_be_bytes w16 w → p3 ≡ p2 ++ to_be_bytes w16 h → p4 ≡ p3 ++ moment tick → p5 ≡ p4 ++ counts (length rs) (length os)
    → p6 ≡ p5 ++ flat_map drain rs → p7 ≡ p6 ++ flat_map source os → p7 ≡ head Two g
head_chain g p0 p1 p2 p3 p4 p5 p6 p7 rs os w h tick ew eh et er eo e0 e1 e2 e3 e4 e5 e6 e7 = grind (arith, head_put)

-- the three sets after a head
pub three_put : (g : Gas) (b0 b1 b2 b3 h : List ℕ) (n : ℕ) → n ≡ g.particles.height * (g.particles.width / 8) → length b3 ≡ length h + 3 * n → h ≡ head Two g → take (length h) b0 ≡ h
    → take (length h + n) b1 ≡ take (length h) b0 ++ cell_rows g.particles → take ((length h + n) + n) b2 ≡ take (length h + n) b1 ++ cell_rows g.walls → take ((length h + 2 * n) + n) b3 ≡ take (length h + 2 * n) b2 ++ cell_rows g.obstacles
    → b3 ≡ spelling Two g
three_put g b0 b1 b2 b3 h n part len e f r1 r2 r3 =
    let k : (length h + n) + n ≡ length h + 2 * n = omega arith in
    let m : (length h + 2 * n) + n ≡ length b3 = omega arith in
    let s1 : take (length h + n) b1 ≡ head Two g ++ cell_rows g.particles = r1 ∙ ap (λ (l : List ℕ). l ++ cell_rows g.particles) (f ∙ e) in
    let s2 : take (length h + 2 * n) b2 ≡ (head Two g ++ cell_rows g.particles) ++ cell_rows g.walls = ap (λ (i : ℕ). take i b2) (sym k) ∙ r2 ∙ ap (λ (l : List ℕ). l ++ cell_rows g.walls) s1 in
    let s3 : take (length b3) b3 ≡ ((head Two g ++ cell_rows g.particles) ++ cell_rows g.walls) ++ cell_rows g.obstacles = ap (λ (i : ℕ). take i b3) (sym m) ∙ r3 ∙ ap (λ (l : List ℕ). l ++ cell_rows g.obstacles) s2 in
    sym (take-length b3) ∙ s3 ∙ sym (spelling_two g)

pub all_put : (g : Gas) (p w o : Cells) (x b1 b2 b3 h : List ℕ) (n : ℕ) → p ≡ g.particles → w ≡ g.walls → o ≡ g.obstacles → n ≡ g.particles.height * (g.particles.width / 8) → length b3 ≡ length h + 3 * n → h ≡ head Two g
    → take (length h + n) b1 ≡ x ++ cell_rows p → take ((length h + n) + n) b2 ≡ take (length h + n) b1 ++ cell_rows w → take ((length h + 2 * n) + n) b3 ≡ take (length h + 2 * n) b2 ++ cell_rows o
    → x ≡ h → b3 ≡ spelling Two g
all_put g p w o x b1 b2 b3 h n ep ew eo part len e r1 r2 r3 f =
    three_put g h b1 b2 b3 h n part len e (take-length h)
    (r1 ∙ ap (λ (l : List ℕ). l ++ cell_rows p) (f ∙ sym (take-length h)) ∙ ap (λ (c : Cells). take (length h) h ++ cell_rows c) ep)
    (r2 ∙ ap (λ (c : Cells). take (length h + n) b1 ++ cell_rows c) ew)
    (r3 ∙ ap (λ (c : Cells). take (length h + 2 * n) b2 ++ cell_rows c) eo)

pub copied_len : (new first out : List ℕ) (n : ℕ) → new ≡ first → length out ≡ length first + 3 * n → length (new ++ drop (length first) out) ≡ length first + 3 * n
copied_len new first out n e room = ap (λ (l : List ℕ). length (l ++ drop (length first) out)) e ∙ omega (arith, length-append first (drop (length first) out), length-drop (length first) out)

pub copied_front : (new first rest : List ℕ) → new ≡ first → take (length first) (new ++ rest) ≡ first
copied_front new first rest e = ap (λ (l : List ℕ). take (length first) (l ++ rest)) e ∙ take_at first rest (length first) refl
