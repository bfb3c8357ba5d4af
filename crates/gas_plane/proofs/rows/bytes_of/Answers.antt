use Rattle.std.proofs.Common.{◌∙◌, ◌-◌, ap, get_or, List, ℕ}
use Rattle.bit_tile.specs.Bit.{bit}
use Rattle.gas_plane.proofs.RowBits.{bit_of_bytes}
use Rattle.gas_plane.proofs.rows.bytes_of.Goals as goal

pub returns : goal.returns
returns c = λ k i h q. ap (λ (bytes : List ℕ). bit (get_or bytes k 0) (7 - i)) c.to_le_bytes.ensures ∙ bit_of_bytes c.args.word c.mirrored.result k i h q c.mirrored.ensures
