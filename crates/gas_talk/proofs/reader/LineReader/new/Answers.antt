use Rattle.std.proofs.Common.{rules}
use Rattle.gas_talk.proofs.reader.LineReader.new.Goals as goal

pub returns : goal.returns
returns c = search rules
