use Rattle.std.proofs.Common.{arith, length-drop}
use Rattle.byte_page.proofs.Writes.{more_written}
use Rattle.byte_page.proofs.page.put_all.Goals as goal

pub loop-from-preserved : goal.loop-from-preserved
loop-from-preserved g c = (
  more_written (g.W.Write.contents c.args.writer.now) (g.W.Write.contents c.loop-from.writer) (g.W.Write.contents c.write.new.self) c.args.bytes.now c.loop-from.from c.in-Ok.n c.loop-from.invariant.1 c.loop-from.invariant.0 c.in-Ok.ensures.bytes,
  omega (arith, c.in-Ok.ensures.bound, length-drop c.loop-from.from c.args.bytes.now),
)
