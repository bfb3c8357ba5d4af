use Rattle.std.proofs.Common.{◌≡◌, ℕ, ◌+◌, ◌*◌, ◌/◌, ◌<◌, ◌≤◌, ◌⊎◌, sym, ap, ◌∙◌, subst, arith, inl, inr, refl}
use Rattle.std.proofs.lemmas.Bool.{cases_eq}
use Rattle.std.proofs.lemmas.Nat.{mul-le}
use Rattle.gas_terms.specs.Cells.{Cells, extent, tile_count, tile_rectangle}
use Rattle.gas_plane.specs.Planes.{IsTileFrom, with_tile}
use Rattle.gas_plane.proofs.Places.{wide, tile_below}
use Rattle.gas_plane.proofs.Sweeps.{lattice_kept}
use Rattle.phase_strips.proofs.Copies.{IsCopied, copied_here, copied_beside, tile_in_rows, tile_outside}
use Rattle.phase_strips.proofs.runs.strip.copy_rows.Goals as goal

-- tile i of so many rows of tiles is one of the lattice's
within : (cells : Cells) (across first rows i : ℕ) → across ≡ cells.width / 64 → first + rows ≤ cells.height / 64 → i < rows * (cells.width / 64)
    → first * across + i < tile_count cells
within cells across first rows i e inside less =
    let a = cells.width / 64 in
    let f : (first + rows) * a ≤ cells.height / 64 * a = mul-le (first + rows) a (cells.height / 64) a inside (omega arith) in
    let g : cells.height / 64 * a ≡ tile_count cells = omega arith in
    let h : (first + rows) * a ≡ first * a + rows * a = omega arith in
    subst (λ a. first * a + i < tile_count cells) (sym e) (omega (arith, f, g, h, less))

pub tile-requires : goal.tile-requires
tile-requires c =
    let source = c.args.source.now in
    let out : c.across.result ≡ source.width / 64 = c.across.ensures.across ∙ ap (λ w. w / 64) c.requires.wide in
    within source c.across-across.result c.args.from c.args.rows c.loop-i.i c.across-across.ensures.across c.requires.from (subst (λ a. c.loop-i.i < c.args.rows * a) out c.loop-i-test.true)

pub tile_mut-requires : goal.tile_mut-requires
tile_mut-requires c =
    let source = c.args.source.now in
    let now = c.loop-i.out in
    let same : now.width ≡ source.width = c.loop-i.invariant.sides.wide ∙ c.requires.wide in
    let out : c.across.result ≡ now.width / 64 = c.across.ensures.across ∙ ap (λ w. w / 64) (sym c.loop-i.invariant.sides.wide) in
    within now c.across-across.result c.args.to c.args.rows c.loop-i.i (c.across-across.ensures.across ∙ ap (λ w. w / 64) (sym same))
    (subst (λ h. c.args.to + c.args.rows ≤ h / 64) (sym c.loop-i.invariant.sides.high) c.requires.to)
    (subst (λ a. c.loop-i.i < c.args.rows * a) out c.loop-i-test.true)

pub loop-i-preserved : goal.loop-i-preserved
loop-i-preserved c =
    let source = c.args.source.now in
    let a = source.width / 64 in
    let from = c.args.from in
    let to = c.args.to in
    let i = c.loop-i.i in
    let now = c.loop-i.out in
    let was = c.loop-i.invariant in
    let t = c.tile.result.now in
    let across = c.across-across.ensures.across in
    let next = with_tile now (to * c.across-across.result + i) t in
    let same : now.width ≡ source.width = was.sides.wide ∙ c.requires.wide in
    let copied : IsCopied source now next from to i t = record {
      is = was.lattice;
      source_is = c.across-across.ensures.lattice;
      wide = same;
      tile = subst (λ a. IsTileFrom t source (tile_rectangle source (from * a + i)).x (tile_rectangle source (from * a + i)).y) across c.tile.ensures;
      written = ap (λ a. with_tile now (to * a + i) t) across;
    } in
    let room = c.requires.to in
    let high = was.sides.high in
    record {
      lattice = lattice_kept now (to * c.across-across.result + i) t was.lattice next refl;
      sides = record { wide = was.sides.wide; high = was.sides.high };
      copied = λ x y xl yl less.
          let below : to * 64 + y < now.height = omega (arith, room, high, yl) in
          elim (cases_eq (y / 64 * a + x / 64) i) [
            | inl e ↦ copied_here source now next from to i t copied x y xl below e
            | inr apart ↦
                let row : (to * 64 + y) / 64 ≡ to + y / 64 = omega arith in
                let place : (to * 64 + y) / 64 * a + x / 64 ≡ to * a + (y / 64 * a + x / 64) = ap (λ r. r * a + x / 64) row ∙ (let f : (to + y / 64) * a + x / 64 ≡ to * a + (y / 64 * a + x / 64) = omega arith in f) in
                copied_beside source now next from to i t copied x (to * 64 + y) (subst (λ w. x < w) (sym same) xl) below (λ e. apart (omega (arith, place, e)))
                ∙ was.copied x y xl yl (omega (arith, less, apart))
          ];
      kept = λ x y xl yl outside.
          copied_beside source now next from to i t copied x y (subst (λ w. x < w) (sym was.sides.wide) xl) (subst (λ h. y < h) (sym was.sides.high) yl)
          (λ e. elim outside [
            | inl low ↦ (let bad : ⊥ = omega (arith, low, e) in bad)
            | inr past ↦ (let bad : ⊥ = omega (arith, past, e) in bad)
          ])
          ∙ was.kept x y xl yl (elim outside [
            | inl low ↦ inl low
            | inr past ↦ inr (omega (arith, past))
          ]);
    }

pub returns : goal.returns
returns c =
    let source = c.args.source.now in
    let a = source.width / 64 in
    let to = c.args.to in
    let was = c.loop-i.invariant in
    let out : c.across.result ≡ a = c.across.ensures.across ∙ ap (λ w. w / 64) c.requires.wide in
    let end : c.loop-i.i ≡ c.args.rows * a = (let k : c.loop-i.i ≡ c.args.rows * c.across.result = omega arith in k) ∙ ap (λ a. c.args.rows * a) out in
    let columns = wide (extent source) c.across-across.ensures.lattice.sized in
    record {
      copied = record {
        cell = λ x y xl yl. was.copied x y xl yl (subst (λ n. y / 64 * a + x / 64 < n) (sym end) (tile_in_rows a x y c.args.rows (tile_below source.width x columns xl) yl));
        kept = λ x y xl yl apart. was.kept x y xl yl
            (subst (λ n. (y / 64 * a + x / 64 < to * a) ⊎ (to * a + n ≤ y / 64 * a + x / 64)) (sym end)
            (tile_outside a x y to c.args.rows (tile_below source.width x columns (subst (λ w. x < w) c.requires.wide xl)) apart));
      };
      sides = was.sides;
      lattice = was.lattice;
    }
