use Rattle.tile_border.proofs.Making.{border_of_tiles}
use Rattle.tile_border.proofs.laws.tiles_have_a_border.Goals as goal

pub returns : goal.returns
returns c = border_of_tiles
