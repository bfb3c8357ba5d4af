use Rattle.std.proofs.Common.{arith}
use Rattle.bit_tile.proofs.Rows.{rows_bare, bare_rows}
use Rattle.bit_tile.proofs.Tile.any_in_rows.Goals as goal

pub returns-clause-empty : goal.returns-clause-empty
returns-clause-empty c = rows_bare c.args.self.now c.args.j

pub returns-clause-known : goal.returns-clause-known
returns-clause-known c = bare_rows c.args.self.now c.args.j (omega arith) (omega arith) (omega arith) (omega arith)
