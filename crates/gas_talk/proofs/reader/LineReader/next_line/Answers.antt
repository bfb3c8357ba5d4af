use Rattle.std.proofs.Common.{◌∙◌, sym, subst}
use Rattle.tokio_util.specs.Codec.Lines.{at_line_start, gives_lines}
use Rattle.tokio_util.proofs.CodecLemmas.Next.{Resumes_refl, Resumes_trans}
use Rattle.tokio_util.specs.Codec.Next.{Resumes}
use Rattle.gas_talk.specs.Lines.{line_limit}
use Rattle.gas_talk.proofs.Codec.{shorter_line, found_line_is_item, found_long_is_bad, found_bad, found_none}
use Rattle.gas_talk.proofs.reader.LineReader.next_line.Goals as goal

pub returns-in-Ok-Some-clause-found : goal.returns-in-Ok-Some-clause-found
returns-in-Ok-Some-clause-found c = λ unread keeps.
    let given = rw c.in-Ok-Some.field-0-is at c.in-Ok-Some.ensures in
    let found = found_line_is_item _ _ unread c.in-Ok-Some.line _ _ keeps given.next in
    (c.decode.new.src.items, subst (λ t. Resumes gives_lines (at_line_start line_limit) c.decode.new.src.items t c.decode.new.src.items) (sym found.0) (Resumes_refl gives_lines (at_line_start line_limit) c.decode.new.src.items), found.1)

pub returns-in-Ok-Some-clause-shorter : goal.returns-in-Ok-Some-clause-shorter
returns-in-Ok-Some-clause-shorter c =
    let given = rw c.in-Ok-Some.field-0-is at c.in-Ok-Some.ensures in
    shorter_line c.args.self.now.codec _ c.in-Ok-Some.line c.decode.new.self _ given.next

pub returns-in-Ok-None-clause-found : goal.returns-in-Ok-None-clause-found
returns-in-Ok-None-clause-found c = λ unread keeps.
    let given = rw c.in-Ok-None.field-0-is at c.in-Ok-None.ensures in (
      found_none c.args.self.now.codec c.args.self.now.buffer.items unread c.decode.new.self c.decode.new.src.items keeps given.next.0 given.next.1,
      Resumes_trans gives_lines (at_line_start line_limit) unread c.args.self.now.codec c.args.self.now.buffer.items c.decode.new.self c.decode.new.src.items keeps given.next.1,
    )

pub returns-in-Err-MaxLineLengthExceeded-clause-found : goal.returns-in-Err-MaxLineLengthExceeded-clause-found
returns-in-Err-MaxLineLengthExceeded-clause-found c = λ unread keeps.
    let given = rw c.in-Err-MaxLineLengthExceeded.field-0-is at c.in-Err-MaxLineLengthExceeded.ensures in
    found_long_is_bad c.args.self.now.codec c.args.self.now.buffer.items unread c.decode.new.self c.decode.new.src.items keeps given.next

pub returns-in_default : goal.returns-in_default
returns-in_default c = record {
  found = λ unread keeps. found_bad c.args.self.now.codec c.args.self.now.buffer.items unread c.in-Err-Io.e c.decode.new.self c.decode.new.src.items (λ same. c.in_default.not-OutOfMemory (c.kind.ensures ∙ same)) keeps (rw c.in-Err-Io.field-0-is at c.in-Err-Io.ensures).next;
  shorter = tt;
}
