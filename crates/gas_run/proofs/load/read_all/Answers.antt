use Rattle.std.proofs.Common.{◌≡◌, length, inr, arith}
use Rattle.gas_run.specs.Loading.{most}
use Rattle.gas_run.proofs.load.read_all.Goals as goal

pub returns : goal.returns
returns g c _ =
    let was = c.loop-page.invariant in
    let full : length c.loop-page.bytes.items ≡ most = omega (arith, was.short) in
    (was.read, was.short, inr full)
