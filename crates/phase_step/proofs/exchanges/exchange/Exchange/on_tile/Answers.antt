use Rattle.std.proofs.Common.{◌+◌, ◌∙◌, List, ap, ap₂}
use Rattle.bit_tile.specs.Tile.{has}
use Rattle.gas_terms.specs.Cells.{Rectangle}
use Rattle.phase_step.specs.Exchanges.{Areas, is_left, leaves_of}
use Rattle.phase_step.proofs.Exchanging.{tile_left, tile_lost, tile_gained}
use Rattle.phase_step.proofs.exchanges.exchange.Exchange.on_tile.Goals as goal

pub returns-clause-left : goal.returns-clause-left
returns-clause-left c = λ x y h k.
    tile_left c.args.tile.now c.set_areas-lost.new.tile _ c.as_slice-drains.result.now c.as_slice-sources.result.now c.args.left c.args.top c.set_areas-lost.ensures.cells c.set_areas-gained.ensures.cells x y h k
    ∙ (ap₂ (λ (d s : List Rectangle). is_left (has c.args.tile.now x y) d s (c.args.left + x) (c.args.top + y)) c.as_slice-drains.ensures.items c.as_slice-sources.ensures.items
    ∙ ap (λ (e : Areas). leaves_of e (c.args.left + x) (c.args.top + y) (has c.args.tile.now x y)) c.self.view_is)

pub returns-clause-gained : goal.returns-clause-gained
returns-clause-gained c = tile_gained c.args.tile.now c.set_areas-lost.new.tile _ c.as_slice-drains.result.now c.as_slice-sources.result.now c.args.left c.args.top c.set_areas-lost.ensures.cells c.set_areas-gained.ensures.cells _ c.set_areas-gained.ensures.count

pub returns-clause-lost : goal.returns-clause-lost
returns-clause-lost c = tile_lost c.args.tile.now c.set_areas-lost.new.tile _ c.as_slice-drains.result.now c.as_slice-sources.result.now c.args.left c.args.top c.set_areas-lost.ensures.cells c.set_areas-gained.ensures.cells _ c.set_areas-lost.ensures.count
