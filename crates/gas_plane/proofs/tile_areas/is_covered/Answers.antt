use Rattle.std.proofs.Common.{◌+◌, ◌≤◌, arith}
use Rattle.gas_plane.proofs.BareTiles.{not_both}
use Rattle.gas_plane.proofs.Painting.{all_inside, spans_all}
use Rattle.gas_plane.proofs.tile_areas.is_covered.Goals as goal

pub returns-then-spans : goal.returns-then-spans
returns-then-spans c =
    let r = c.args.area in
    let columns : (r.x ≤ c.args.left) × (c.args.left + 64 ≤ r.x + r.w) = rw (c.x.ensures, c.w.ensures) at (c.spans.ensures.0 c.if-spans.true) in (
      (λ yes x y p q. all_inside r c.args.left c.args.top x y columns (rw (c.y.ensures, c.h.ensures) at (c.spans-then-spans.ensures.0 yes)) p q),
      (λ all. let rows = (spans_all r c.args.left c.args.top all).1 in c.spans-then-spans.ensures.1 (omega (arith, c.y.ensures, rows.0), omega (arith, c.y.ensures, c.h.ensures, rows.1))),
    )

pub returns-else-spans : goal.returns-else-spans
returns-else-spans c =
    let r = c.args.area in (
      (λ yes. absurd (not_both c.spans.result yes c.if-spans.false)),
      (λ all. let columns = (spans_all r c.args.left c.args.top all).0 in c.spans.ensures.1 (omega (arith, c.x.ensures, columns.0), omega (arith, c.x.ensures, c.w.ensures, columns.1))),
    )
