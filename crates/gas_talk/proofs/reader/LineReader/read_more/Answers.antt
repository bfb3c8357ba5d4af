use Rattle.std.proofs.Common.{rules, ◌≡◌, ◌≤◌, ◌+◌, ◌-◌, ◌++◌, length, take, drop, arith, ap, sym, ◌∙◌, length-take}
use Rattle.tokio_util.specs.Codec.Lines.{at_line_start, gives_lines}
use Rattle.tokio_util.proofs.CodecLemmas.Next.{Resumes-append}
use Rattle.gas_talk.specs.Lines.{line_limit}
use Rattle.gas_talk.proofs.Filling.{kept_and_read}
use Rattle.gas_talk.proofs.reader.LineReader.read_more.Goals as goal

pub returns-in-Ok-clause-read : goal.returns-in-Ok-clause-read
returns-in-Ok-clause-read g c =
    let more = take c.in-Ok.n c.read.new.page in
    let kept = c.args.self.now.buffer.items in
    let page = c.as_mut_slice.result.now in
    let room = length-take (length page - c.len-kept.result) (drop c.len-kept.result page) in
    let fits : c.len-kept.result + c.in-Ok.n ≤ length c.advance_mut.new.self.items = omega (arith, room, c.read.auto.page, c.in-Ok.ensures.bound.0, c.len-kept.ensures.value, c.advance_mut.ensures.len, ap length c.as_mut_slice.ensures.value) in
    let items : c.truncate.new.self.items ≡ kept ++ more =
    (rw c.as_mut_slice.ensures.value at c.truncate.ensures.items)
    ∙ kept_and_read c.reserve.new.self.items c.advance_mut.new.self.items c.read.new.page _ _ _ c.in-Ok.n _ c.len-kept.ensures.value c.advance_mut.ensures.front c.in-Ok.ensures.bound.0 fits
    ∙ ap (λ xs. xs ++ more) c.reserve.ensures.items in record {
      more = more;
      long = sym c.in-Ok.ensures.bound.1;
      consumes = c.in-Ok.ensures.bytes.0;
      keeps = λ unread keeps. rw items (Resumes-append gives_lines (at_line_start line_limit) unread c.args.self.now.codec kept more keeps);
      short = search rules;
      end = search rules;
    }

pub read-requires-clause-page : goal.read-requires-clause-page
read-requires-clause-page g c = search rules
