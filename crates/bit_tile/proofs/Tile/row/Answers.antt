use Rattle.std.proofs.Common.{◌∙◌, arith}
use Rattle.bit_tile.proofs.Classes.{row_even, row_odd}
use Rattle.bit_tile.proofs.Tile.row.Goals as goal

pub returns-then-y-eq0 : goal.returns-then-y-eq0
returns-then-y-eq0 c = λ x h. c.in_turn.ensures x h ∙ row_even c.args.self.now x c.args.y (omega arith)

pub returns-else-y-eq0 : goal.returns-else-y-eq0
returns-else-y-eq0 c = λ x h. c.in_turn-else-y-eq0.ensures x h ∙ row_odd c.args.self.now x c.args.y (omega arith)
