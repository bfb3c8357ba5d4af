use Rattle.std.proofs.Common.{◌++◌, ◌∙◌, ap, arith}
use Rattle.gas_terms.specs.Gas.{Source}
use Rattle.gas_snapshot.specs.Spelling.{source}
use Rattle.gas_snapshot.proofs.Pages.{fields_more, two_put}
use Rattle.gas_snapshot.proofs.page.put_sources.Goals as goal

pub loop-source-preserved : goal.loop-source-preserved
loop-source-preserved c =
    let s : Source = record { area = c.source.inside.area; period = c.source.inside.period } in (
      fields_more source c.args.sources.now c.source-item.result c.loop-source.source-index c.loop-source.page c.args.page.now c.put_u16.new.page c.loop-source-test.true c.loop-source.invariant.0
          (two_put c.loop-source.page c.put_area.new.page c.put_u16.new.page s c.put_area.ensures.bytes c.put_u16.ensures.bytes ∙ ap (λ (t : Source). c.loop-source.page ++ source t) (c.source.view_is ∙ c.source-item.is)),
      omega (arith, c.put_area.ensures.len, c.put_u16.ensures.len, c.loop-source.invariant.1),
    )
