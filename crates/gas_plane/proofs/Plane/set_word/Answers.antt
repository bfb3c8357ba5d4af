use Rattle.std.proofs.Common.{◌≡◌, ◌/◌, ◌+◌, ◌*◌, ◌∙◌, ap}
use Rattle.bit_tile.specs.declared.Tile.{Tile}
use Rattle.gas_plane.specs.Planes.{with_tile}
use Rattle.gas_plane.proofs.RowSweeps.{word_set, word_tile, word_from, word_same}
use Rattle.gas_plane.proofs.Plane.set_word.Goals as goal

pub tile_mut-tile-requires : goal.tile_mut-tile-requires
tile_mut-tile-requires c = word_tile c.args.self.now c.args.column c.args.y c.across-across.result c.across-across.ensures.lattice c.across-across.ensures.across c.requires.column c.requires.y

pub returns-then-word : goal.returns-then-word
returns-then-word c =
    let is = c.across-across.ensures.lattice in
    let t = c.tile_mut-tile.result.now in
    let made : Tile = c.set_row.new.self in
    let k : c.args.y / 64 * c.across-across.result + c.args.column ≡ c.args.y / 64 * (c.args.self.now.width / 64) + c.args.column = ap (λ a. c.args.y / 64 * a + c.args.column) c.across-across.ensures.across in
    ap (λ i. with_tile c.args.self.now i made) k
    ∙ word_set c.args.self.now c.args.column c.args.y c.args.word t made is c.requires.column c.set_row.ensures (word_from c.args.self.now c.args.column c.args.y c.across-across.result t c.across-across.ensures.across c.requires.column c.tile_mut-tile.ensures.tile)

pub returns-else-word : goal.returns-else-word
returns-else-word c =
    word_same c.args.self.now c.args.column c.args.y c.args.word c.across-across.ensures.lattice (rw c.if-word.false at c.word.ensures)
