-- Writing one list after another.
use Rattle.std.proofs.Common.{◌≡◌, ℕ, ◌+◌, ◌-◌, ◌<◌, List, ◌++◌, length, take, drop, Option, ◌*◌, ◌/◌, refl, sym, ap, subst, ◌∙◌, append_assoc, arith}
use Rattle.std.proofs.KnownBytes.{Appends-trans}
use Rattle.std.specs.Io.KnownBytes.{Appends}
use Rattle.std.proofs.lemmas.List.{take-append-drop, length-append, take_at}
use Rattle.std.proofs.Math.Seq.{take-append-add}
use Rattle.std.specs.List.{flat_map, range_with_len}
use Rattle.gas_terms.specs.Cells.{Cells}
use Rattle.gas_terms.specs.Rows.{row_bytes}
use Rattle.gas_terms.specs.Gas.{Gas}
use Rattle.gas_terms.proofs.Bytes.{length-row_bytes}
use Rattle.gas_ledger.specs.Gases.{IsSoundGas}
use Rattle.gas_snapshot.specs.declared.version.Version.TheVariants.{Two}
use Rattle.gas_snapshot.specs.Spelling.{head, cell_rows, spelling}
use Rattle.gas_snapshot.proofs.Rows.{rows_cut, rows_more}
use Rattle.gas_snapshot.proofs.GasLaws.{spelling_two, length_of_rows, same_extent, part}
use Rattle.byte_page.specs.Written.{WritesFront}

-- the same front of a longer list
front_of : (k : ℕ) (x y : List ℕ) → take (length (take k x)) (x ++ y) ≡ take k x
front_of k x y = ap (λ (l : List ℕ). take (length (take k x)) (l ++ y)) (sym (take-append-drop k x)) ∙ ap (take (length (take k x))) (append_assoc (take k x) (drop k x) y) ∙ take_at (take k x) (drop k x ++ y) (length (take k x)) refl

pub front_more : (a b : Option (List ℕ)) (x y : List ℕ) → WritesFront a b x → WritesFront a b (x ++ y)
front_more a b x y w = (length (take w.0 x), subst (λ (l : List ℕ). Appends a b l) (sym (front_of w.0 x y)) w.1)

pub then_front : (a b c : Option (List ℕ)) (x y : List ℕ) → Appends a b x → WritesFront b c y → WritesFront a c (x ++ y)
then_front a b c x y p w = (length x + w.0, subst (λ (l : List ℕ). Appends a c l) (sym (take-append-add x y w.0)) (Appends-trans a b c x (take w.0 y) p w.1))

pub row_written : (a b c : Option (List ℕ)) (cells : Cells) (row : List ℕ) (n : ℕ) → row ≡ row_bytes cells n → Appends a b (flat_map (row_bytes cells) (range_with_len 0 n)) → Appends b c row → Appends a c (flat_map (row_bytes cells) (range_with_len 0 (n + 1)))
row_written a b c cells row n e p q =
    subst (λ (l : List ℕ). Appends a c l) (ap (λ (l : List ℕ). flat_map (row_bytes cells) (range_with_len 0 n) ++ l) e ∙ sym (rows_more (row_bytes cells) n))
    (Appends-trans a b c (flat_map (row_bytes cells) (range_with_len 0 n)) row p q)

pub rows_front : (a b c : Option (List ℕ)) (cells : Cells) (row : List ℕ) (n : ℕ) → n < cells.height → row ≡ row_bytes cells n → Appends a b (flat_map (row_bytes cells) (range_with_len 0 n)) → WritesFront b c row → WritesFront a c (cell_rows cells)
rows_front a b c cells row n lt e p w =
    let so_far = flat_map (row_bytes cells) (range_with_len 0 n) in
    let below = flat_map (row_bytes cells) (range_with_len (n + 1) (cells.height - (n + 1))) in
    let cut : cell_rows cells ≡ (so_far ++ row) ++ below = rows_cut cells (n + 1) (omega arith) ∙ ap (λ (l : List ℕ). l ++ below) (rows_more (row_bytes cells) n ∙ ap (λ (l : List ℕ). so_far ++ l) (sym e)) in
    subst (λ (l : List ℕ). WritesFront a c l) (sym cut) (front_more a c (so_far ++ row) below (then_front a b c so_far row p w))

-- a head and three sets: where it ends
pub ended_1 : (a b : Option (List ℕ)) (g : Gas) → WritesFront a b (head Two g) → WritesFront a b (spelling Two g)
ended_1 a b g w = subst (λ (l : List ℕ). WritesFront a b l) (sym (spelling_two g))
    (front_more a b ((head Two g ++ cell_rows g.particles) ++ cell_rows g.walls) (cell_rows g.obstacles) (front_more a b (head Two g ++ cell_rows g.particles) (cell_rows g.walls) (front_more a b (head Two g) (cell_rows g.particles) w)))

pub ended_2 : (a b c : Option (List ℕ)) (g : Gas) → Appends a b (head Two g) → WritesFront b c (cell_rows g.particles) → WritesFront a c (spelling Two g)
ended_2 a b c g p w = subst (λ (l : List ℕ). WritesFront a c l) (sym (spelling_two g))
    (front_more a c ((head Two g ++ cell_rows g.particles) ++ cell_rows g.walls) (cell_rows g.obstacles) (front_more a c (head Two g ++ cell_rows g.particles) (cell_rows g.walls) (then_front a b c (head Two g) (cell_rows g.particles) p w)))

pub ended_3 : (a b c d : Option (List ℕ)) (g : Gas) → Appends a b (head Two g) → Appends b c (cell_rows g.particles) → WritesFront c d (cell_rows g.walls) → WritesFront a d (spelling Two g)
ended_3 a b c d g p q w = subst (λ (l : List ℕ). WritesFront a d l) (sym (spelling_two g))
    (front_more a d ((head Two g ++ cell_rows g.particles) ++ cell_rows g.walls) (cell_rows g.obstacles) (then_front a c d (head Two g ++ cell_rows g.particles) (cell_rows g.walls) (Appends-trans a b c (head Two g) (cell_rows g.particles) p q) w))

pub ended_4 : (a b c d e : Option (List ℕ)) (g : Gas) → Appends a b (head Two g) → Appends b c (cell_rows g.particles) → Appends c d (cell_rows g.walls) → WritesFront d e (cell_rows g.obstacles) → WritesFront a e (spelling Two g)
ended_4 a b c d e g p q r w = subst (λ (l : List ℕ). WritesFront a e l) (sym (spelling_two g))
    (then_front a d e ((head Two g ++ cell_rows g.particles) ++ cell_rows g.walls) (cell_rows g.obstacles) (Appends-trans a c d (head Two g ++ cell_rows g.particles) (cell_rows g.walls) (Appends-trans a b c (head Two g) (cell_rows g.particles) p q) r) w)

pub ended_all : (a b c d e : Option (List ℕ)) (g : Gas) → Appends a b (head Two g) → Appends b c (cell_rows g.particles) → Appends c d (cell_rows g.walls) → Appends d e (cell_rows g.obstacles) → Appends a e (spelling Two g)
ended_all a b c d e g p q r w = subst (λ (l : List ℕ). Appends a e l) (sym (spelling_two g))
    (Appends-trans a d e ((head Two g ++ cell_rows g.particles) ++ cell_rows g.walls) (cell_rows g.obstacles) (Appends-trans a c d (head Two g ++ cell_rows g.particles) (cell_rows g.walls) (Appends-trans a b c (head Two g) (cell_rows g.particles) p q) r) w)

-- the row that stands at the front of the buffer
pub row_there : (cells : Cells) (new rest : List ℕ) (len n : ℕ) → len ≡ cells.width / 8 → new ≡ row_bytes cells n → take len (new ++ rest) ≡ row_bytes cells n
row_there cells new rest len n e f = take_at new rest len (ap (λ (l : List ℕ). length l) f ∙ length-row_bytes cells n ∙ sym e) ∙ f

pub length_spelled : (g : Gas) (first : List ℕ) (n : ℕ) → IsSoundGas g → first ≡ head Two g → n ≡ g.particles.height * (g.particles.width / 8) → length first + 3 * n ≡ length (spelling Two g)
length_spelled g first n sound e f = grind (arith, length_of_rows, part, same_extent, spelling_two, length-append)

-- the same bytes under another name
pub as_written : (a b : Option (List ℕ)) (x y : List ℕ) → x ≡ y → Appends a b x → Appends a b y
as_written a b x y e p = subst (λ (l : List ℕ). Appends a b l) e p

pub as_fronted : (a b : Option (List ℕ)) (x y : List ℕ) → x ≡ y → WritesFront a b x → WritesFront a b y
as_fronted a b x y e p = subst (λ (l : List ℕ). WritesFront a b l) e p
