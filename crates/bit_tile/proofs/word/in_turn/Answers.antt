use Rattle.bit_tile.proofs.Spreading.{both_rows}
use Rattle.bit_tile.proofs.word.in_turn.Goals as goal

pub returns : goal.returns
returns c = λ i h. both_rows c.spread.result c.spread-2.result _ _ i h c.spread.ensures c.spread-2.ensures
