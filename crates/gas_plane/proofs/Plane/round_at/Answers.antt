use Rattle.std.proofs.Common.{subst}
use Rattle.gas_plane.specs.Tiles.{AreRowsRound, IsColumnOf}
use Rattle.gas_plane.proofs.Plane.round_at.Goals as goal
use Rattle.gas_plane.proofs.Plane.round_at.Goals.{After-round}

column_of : (c : After-round) → IsColumnOf c.rows_round.result c.args.at.column c.args.self.now c.args.at.tile
column_of c =
    record {
      lattice = c.rows_round.ensures.lattice;
      within = c.requires.tile;
      rows = subst (λ row. AreRowsRound c.rows_round.result c.args.self.now row) c.requires.position.row c.rows_round.ensures.rows;
      place = c.requires.position.column;
    }

pub returns-clause-tiles : goal.returns-clause-tiles
returns-clause-tiles c = c.round.ensures.tiles c.args.self.now c.args.at.tile (column_of c)

pub returns-clause-ring : goal.returns-clause-ring
returns-clause-ring c = λ b. c.round.ensures.ring c.args.self.now c.args.at.tile b (column_of c)
