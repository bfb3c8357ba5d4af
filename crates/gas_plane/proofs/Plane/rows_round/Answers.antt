use Rattle.std.proofs.Common.{◌+◌, ◌-◌, ◌%◌, ap, subst, ◌∙◌}
use Rattle.gas_plane.specs.Tiles.{AreTilesInRow}
use Rattle.gas_plane.proofs.Plane.rows_round.Goals as goal

pub returns-clause-rows : goal.returns-clause-rows
returns-clause-rows c =
    let above = c.before-2.ensures.place ∙ ap (λ n. (c.args.row + n - 1) % n) c.down-down.ensures.down in
    let below = c.after.ensures.place ∙ ap (λ n. (c.args.row + 1) % n) c.down-down.ensures.down in record {
      across = c.across.ensures.across;
      above = subst (AreTilesInRow c.rooms_from.result.now c.args.self.now) above c.rooms_from.ensures.tiles;
      here = c.rooms_from-2.ensures.tiles;
      below = subst (AreTilesInRow c.rooms_from-3.result.now c.args.self.now) below c.rooms_from-3.ensures.tiles;
    }
