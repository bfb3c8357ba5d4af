use Rattle.gas_plane.proofs.RowBits.{bit_mirrored}
use Rattle.gas_plane.proofs.rows.mirrored.Goals as goal

pub returns : goal.returns
returns c = bit_mirrored c.args.word
