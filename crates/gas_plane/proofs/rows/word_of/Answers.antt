use Rattle.std.proofs.Common.{arith}
use Rattle.gas_plane.proofs.RowBits.{bit_of_word}
use Rattle.gas_plane.proofs.rows.word_of.Goals as goal

pub returns : goal.returns
returns c = λ x h. bit_of_word c.args.bytes.now c.from_le_bytes.result c.mirrored.result x c.requires (λ k. omega (arith, c.type_inv.bytes k)) c.from_le_bytes.ensures c.mirrored.ensures h
