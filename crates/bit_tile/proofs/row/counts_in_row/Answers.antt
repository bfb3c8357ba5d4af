use Rattle.std.proofs.Common.{arith}
use Rattle.bit_tile.specs.Bit.{bit}
use Rattle.bit_tile.proofs.Bits.{bit-even_columns, bit-odd_columns}
use Rattle.bit_tile.proofs.Counts.{ones_in_columns, even_row, odd_row}
use Rattle.bit_tile.proofs.row.counts_in_row.Goals as goal

pub returns-then-y-eq0-clause-counts : goal.returns-then-y-eq0-clause-counts
returns-then-y-eq0-clause-counts c =
    let word = c.args.word in
    even_row (bit word) c.args.y _ _ (ones_in_columns word _ 0 c.ranges.word.fits bit-even_columns) (ones_in_columns word _ 1 c.ranges.word.fits bit-odd_columns) (omega arith)

pub returns-else-y-eq0-clause-counts : goal.returns-else-y-eq0-clause-counts
returns-else-y-eq0-clause-counts c =
    let word = c.args.word in
    odd_row (bit word) c.args.y _ _ (ones_in_columns word _ 0 c.ranges.word.fits bit-even_columns) (ones_in_columns word _ 1 c.ranges.word.fits bit-odd_columns) (omega arith)
