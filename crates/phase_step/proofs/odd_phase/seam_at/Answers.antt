use Rattle.std.proofs.Common.{◌+◌, ◌*◌, ◌/◌, ◌<◌, ◌≡◌, ◌∙◌, ap, arith}
use Rattle.gas_terms.specs.Cells.{has}
use Rattle.phase_step.proofs.RowTiles.{seam_seen, first_column}
use Rattle.phase_step.proofs.odd_phase.seam_at.Goals as goal

pub returns-then-column-across : goal.returns-then-column-across
returns-then-column-across c = λ upper lower is window bottom top right right_below.
    let e = c.requires.across in
    let last = is.last (c.if-column-across.true ∙ e) in
    c.seam_row.ensures window
    (seam_seen c.args.particles.now c.args.row c.args.below c.args.column _ _ c.tile-tile.result.now c.args.first.now c.tile-under.result.now c.args.first_below.now upper lower c.shows_lattice.ensures.sized c.requires.row c.requires.below c.requires.column
    (ap (λ a. c.args.row * a + c.args.column) e) (ap (λ a. c.args.below * a + c.args.column) e) c.tile-tile.ensures c.tile-under.ensures last.0 last.1 window bottom top right right_below)

pub returns-else-column-across : goal.returns-else-column-across
returns-else-column-across c = λ upper lower is window bottom top right right_below.
    let e = c.requires.across in
    let cells = c.args.particles.now in
    let row = c.args.row in
    let below = c.args.below in
    let column = c.args.column in
    let sized = c.shows_lattice.ensures.sized in
    let inside = c.if-column-across.false in
    let k = c.requires.column in
    let less : column + 1 < cells.width / 64 = omega (arith, inside, k, e) in
    let next = is.next less in
    let place : row * c.args.across + column + 1 ≡ row * (cells.width / 64) + (column + 1) = ap (λ a. row * a + column + 1) e ∙ omega arith in
    let place_below : below * c.args.across + column + 1 ≡ below * (cells.width / 64) + (column + 1) = ap (λ a. below * a + column + 1) e ∙ omega arith in
    c.seam_row-else-column-across.ensures window
    (seam_seen cells row below column _ _ c.tile-tile.result.now c.tile.result.now c.tile-under.result.now c.tile-else-column-across.result.now upper lower sized c.requires.row c.requires.below k
    (ap (λ a. row * a + column) e) (ap (λ a. below * a + column) e) c.tile-tile.ensures c.tile-under.ensures
    (first_column cells row (column + 1) _ c.tile.result.now 63 sized c.requires.row less place c.tile.ensures (omega arith) ∙ next.0)
    (first_column cells below (column + 1) _ c.tile-else-column-across.result.now 0 sized c.requires.below less place_below c.tile-else-column-across.ensures (omega arith) ∙ (ap (has cells ((column + 1) * 64)) (let z : below * 64 + 0 ≡ below * 64 = omega arith in z) ∙ next.1))
    window bottom top right right_below)
