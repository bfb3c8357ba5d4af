use Rattle.std.proofs.Common.{◌∙◌}
use Rattle.std.specs.Int.{w16, to_be_bytes}
use Rattle.gas_snapshot.proofs.Pages.{area_put, words_put}
use Rattle.gas_snapshot.proofs.page.put_area.Goals as goal

pub returns-clause-bytes : goal.returns-clause-bytes
returns-clause-bytes c =
    let r = c.args.area in
    words_put c.args.page.now c.put_u16.new.page c.put_u16-2.new.page c.put_u16-3.new.page c.put_u16-4.new.page (to_be_bytes w16 c.x.result) (to_be_bytes w16 c.y.result) (to_be_bytes w16 c.w.result) (to_be_bytes w16 c.h.result) c.args.page.now c.put_u16.ensures.bytes c.put_u16-2.ensures.bytes c.put_u16-3.ensures.bytes c.put_u16-4.ensures.bytes
    ∙ rw (c.x.ensures, c.y.ensures, c.w.ensures, c.h.ensures) (area_put c.args.page.now r)
