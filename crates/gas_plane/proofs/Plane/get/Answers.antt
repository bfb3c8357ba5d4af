use Rattle.std.proofs.Common.{◌+◌, ◌*◌, ◌/◌, ◌%◌, ap, sym, ◌∙◌, arith}
use Rattle.gas_terms.specs.Cells.{has, extent}
use Rattle.gas_plane.proofs.Places.{wide}
use Rattle.gas_plane.proofs.Sweeps.{cell_across, cell_down}
use Rattle.gas_plane.proofs.Plane.get.Goals as goal

pub returns : goal.returns
returns c =
    let cells = c.args.self.now in
    let across = c.across-across.ensures in
    let whole = wide (extent cells) across.lattice.sized in
    let tile = ap (λ n. c.args.y / 64 * n + c.args.x / 64) (sym across.across) in
    let column = cell_across cells _ c.args.x c.args.y whole c.requires.x tile in
    let row = cell_down cells _ c.args.x c.args.y whole c.requires.x tile in
    c.get.ensures ∙ c.tile.ensures.cell (c.args.x % 64) (c.args.y % 64) (omega arith) (omega arith) ∙ (λ i. has cells (column i) (row i))
