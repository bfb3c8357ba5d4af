use Rattle.std.proofs.Common.{◌∙◌, ap}
use Rattle.gas_terms.specs.Cells.{Extent}
use Rattle.gas_ledger.specs.PortLists.{PortLists}
use Rattle.gas_snapshot.proofs.Pages.{head_chain}
use Rattle.gas_snapshot.proofs.page.head_of.Goals as goal

pub returns : goal.returns
returns c =
    head_chain c.args.gas.now c.empty-page.result c.push.new.self c.put_u16.new.page c.put_u16-2.new.page c.put_tick.new.page c.push-2.new.self c.put_drains.new.page c.put_sources.new.page
    c.drains-drains.result.now c.sources-sources.result.now c.width.result c.height.result c.tick.result
    (c.width.ensures ∙ ap (λ (e : Extent). e.width) c.size-size.ensures.extent) (c.height.ensures ∙ ap (λ (e : Extent). e.height) c.size-size.ensures.extent) c.tick.ensures
    (c.drains-drains.ensures.drains ∙ ap (λ (p : PortLists). p.drains) c.ports.ensures) (c.sources-sources.ensures.sources ∙ ap (λ (p : PortLists). p.sources) c.ports-2.ensures)
    c.empty-page.ensures c.push.ensures.bytes c.put_u16.ensures.bytes c.put_u16-2.ensures.bytes c.put_tick.ensures.bytes c.push-2.ensures.bytes c.put_drains.ensures.bytes c.put_sources.ensures.bytes
