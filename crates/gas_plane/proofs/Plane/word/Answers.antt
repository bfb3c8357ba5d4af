use Rattle.std.proofs.Common.{◌≡◌, ◌+◌, ◌*◌, ◌/◌, ◌%◌, ◌∙◌, ap, arith}
use Rattle.gas_terms.specs.Cells.{has}
use Rattle.gas_plane.proofs.RowSweeps.{word_tile, word_from}
use Rattle.gas_plane.proofs.Plane.word.Goals as goal

pub tile-requires : goal.tile-requires
tile-requires c = word_tile c.args.self.now c.args.column c.args.y c.across-across.result c.across-across.ensures.lattice c.across-across.ensures.across c.requires.column c.requires.y

pub returns : goal.returns
returns c = λ x h.
    let cells = c.args.self.now in
    let from = word_from cells c.args.column c.args.y c.across-across.result c.tile.result.now c.across-across.ensures.across c.requires.column c.tile.ensures in
    let down : c.args.y / 64 * 64 + c.args.y % 64 ≡ c.args.y = omega arith in
    c.row.ensures x h ∙ (from.cell x (c.args.y % 64) h (omega arith) ∙ ap (has cells (c.args.column * 64 + x)) down)
