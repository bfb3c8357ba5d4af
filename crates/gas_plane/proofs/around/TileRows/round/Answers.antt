use Rattle.gas_plane.proofs.Rings.{are_places, ring_of, tiles_round}
use Rattle.gas_plane.proofs.around.TileRows.round.Goals as goal

pub returns-clause-tiles : goal.returns-clause-tiles
returns-clause-tiles c = λ cells i is.
    let left = c.before-left in
    let right = c.after-right in
    let are = are_places c.args.self cells i c.args.column left.result right.result is left.ensures.place left.ensures.within right.ensures.place right.ensures.within in
    let columns = are.columns in
    let above = is.rows.above in
    let here = is.rows.here in
    let below = is.rows.below in
    tiles_round cells i _ are _
    (above.tile _ _ columns.0) (below.tile _ _ columns.0) (here.tile _ _ columns.1) (here.tile _ _ columns.2)
    (above.tile _ _ columns.1) (above.tile _ _ columns.2) (below.tile _ _ columns.1) (below.tile _ _ columns.2)

pub returns-clause-ring : goal.returns-clause-ring
returns-clause-ring c = λ cells i b is.
    let left = c.before-left in
    let right = c.after-right in
    let are = are_places c.args.self cells i c.args.column left.result right.result is left.ensures.place left.ensures.within right.ensures.place right.ensures.within in
    let columns = are.columns in
    let above = is.rows.above in
    let here = is.rows.here in
    let below = is.rows.below in
    ring_of b cells i _ is.lattice are _
    (above.tile _ _ columns.0) (below.tile _ _ columns.0) (here.tile _ _ columns.1) (here.tile _ _ columns.2)
    (above.tile _ _ columns.1) (above.tile _ _ columns.2) (below.tile _ _ columns.1) (below.tile _ _ columns.2)
