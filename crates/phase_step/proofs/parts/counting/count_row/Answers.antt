use Rattle.std.proofs.Common.{◌≡◌, ◌+◌, ◌-◌, ◌*◌, ◌/◌, ◌<◌, ◌∙◌, sym, ap, ap₂, subst, arith}
use Rattle.block_rule.specs.Accounts.{counted_of}
use Rattle.phase_step.specs.Parts.{AreTilesOf}
use Rattle.phase_step.specs.Runs.{tiles_take}
use Rattle.phase_step.proofs.RowCounts.{row_tiles, row_tiles_of, row_within}
use Rattle.phase_step.proofs.RowRuns.{sides_on}
use Rattle.phase_step.proofs.Untaken.{tiles_untaken}
use Rattle.phase_step.proofs.parts.counting.count_row.Goals as goal

pub returns-then-not-counting : goal.returns-then-not-counting
returns-then-not-counting c = λ lattice is sides same.
    let counting = c.args.counting in
    let s = counting.known.solids.now in
    let row = c.args.row in
    let of_walls = sides_on _ _ _ c.requires.walls sides in
    let low : row < lattice.height / 64 = subst (λ h. row < h / 64) sides.high c.requires.row in
    tiles_untaken c.args.parity lattice s.walls s.obstacles counting.counted (row * (lattice.width / 64)) (lattice.width / 64) c.requires.parity is.sized of_walls (sides_on _ _ _ s.sides of_walls) (counting.none c.if-not-counting.true) (row_within lattice row low)

pub returns : goal.returns
returns c = λ lattice is sides same.
    let s = c.args.counting.known.solids.now in
    let row = c.args.row in
    let cells = c.args.particles.now in
    let across = c.across-across.ensures.across in
    let low : row < lattice.height / 64 = subst (λ h. row < h / 64) sides.high c.requires.row in
    let there : c.across-across.result ≡ lattice.width / 64 = across ∙ ap (λ w. w / 64) sides.wide in
    c.count_tiles.ensures lattice (subst (λ n. AreTilesOf (row_tiles row n) s.walls cells lattice) (sym across) (row_tiles_of s.walls cells lattice row is (sides_on _ _ _ c.requires.walls sides) sides low same))
    ∙ ap₂ (λ first n. counted_of c.args.counting.counted (tiles_take c.args.parity lattice s.walls s.obstacles first n)) (ap (λ n. row * n) there) (let e : row * c.across-across.result + c.across-across.result - row * c.across-across.result ≡ c.across-across.result = omega arith in e ∙ there)
