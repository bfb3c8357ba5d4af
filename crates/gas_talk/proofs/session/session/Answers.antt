use Rattle.std.proofs.Common.{◌≡◌, [], ◌+◌, ◌++◌, ◌∙◌, sym, append-nil, arith, refl, rules}
use Rattle.std.proofs.KnownBytes.{Consumes-nil, Consumes-trans, Consumes-kept}
use Rattle.std.proofs.lemmas.List.{nil_from_length}
use Rattle.gas_talk.specs.declared.end.SessionEnd.TheVariants.{InputEnd, ReadFault, TooManyReads}
use Rattle.gas_talk.specs.Talk.{calls}
use Rattle.gas_talk.proofs.Counting.{none_yet, one_more, after_read, after_nothing, after_all, stops_at_start, stops_at_read, stops_at_fault}
use Rattle.gas_talk.proofs.Progress.{ending_is, Progress_start, Progress_read, Serves_last_memory, last_at_no_other, Serves_all, session_by}
use Rattle.gas_talk.proofs.session.session.Goals as goal

pub loop-reads-init : goal.loop-reads-init
loop-reads-init g c =
    let start = Progress_start (calls g.D.Door.size_of g.D.Door.asks g.D.Door.copies) _ c.new-lines.result c.new-lines.ensures in (
      [],
      rw c.new-reads.ensures.bytes (Consumes-nil _),
      start,
      0,
      none_yet _ c.new-reads.ensures.left,
      refl,
      omega (arith, c.new-reads.ensures.count),
      refl,
      stops_at_start _ (ending_is (calls g.D.Door.size_of g.D.Door.asks g.D.Door.copies) [] _ c.new-lines.result _ start.0 [] start.1),
    )

pub returns-in-Ok-eq0 : goal.returns-in-Ok-eq0
returns-in-Ok-eq0 g c =
    let given = c.in-Ok-eq0.ensures.read in
    let nothing : given.more ≡ [] = nil_from_length given.more (given.long ∙ c.in-Ok-eq0.field-0-test) in
    let same = c.in-Ok-eq0.ensures.same.0 ∙ c.loop-reads.invariant.5 ∙ c.new-reads.ensures.same in
    let same_count = c.in-Ok-eq0.ensures.same.1 ∙ c.loop-reads.invariant.7 ∙ c.new-reads.ensures.same_count in
    session_by (calls g.D.Door.size_of g.D.Door.asks g.D.Door.copies) g.R.Read.remaining _ c.read_more.new.reads.reader.now _ _ InputEnd _ (search (rules, same))
    c.args.count.now c.read_more.new.reads.count.now _ (search (rules, same_count)) (record {
      reads = c.loop-reads.invariant.3 + 1;
      input = c.loop-reads.invariant.0 ++ given.more;
      given = Consumes-trans _ _ _ _ _ c.loop-reads.invariant.1 given.consumes;
      serves = rw (nothing, append-nil) (Serves_all (calls g.D.Door.size_of g.D.Door.asks g.D.Door.copies) c.loop-reads.invariant.0 _ c.loop-reads.lines _ c.loop-reads.invariant.2.0 InputEnd c.loop-reads.invariant.2.1 (λ h. h));
      whole = λ _. given.end c.in-Ok-eq0.field-0-test;
      counted = rw (nothing, append-nil) (after_nothing _ _ _ InputEnd c.loop-reads.invariant.4 (sym c.any_left.ensures ∙ c.loop-reads-test.true) (λ wrong. cc) refl);
      stops = stops_at_read _ _ _ _ c.loop-reads.invariant.0 given.more c.loop-reads.invariant.4
          (ending_is (calls g.D.Door.size_of g.D.Door.asks g.D.Door.copies) c.loop-reads.invariant.0 _ c.loop-reads.lines _ c.loop-reads.invariant.2.0 [] c.loop-reads.invariant.2.1) given.long given.short;
    }) (omega (arith, c.in-Ok-eq0.ensures.counted.1, c.loop-reads.invariant.6))

pub returns-in-Err-Reader : goal.returns-in-Err-Reader
returns-in-Err-Reader g c =
    let counted = rw c.in-Err-Reader.field-0-is at c.in-Err-Reader.ensures.counted in
    let same = c.in-Err-Reader.ensures.same.0 ∙ c.loop-reads.invariant.5 ∙ c.new-reads.ensures.same in
    let same_count = c.in-Err-Reader.ensures.same.1 ∙ c.loop-reads.invariant.7 ∙ c.new-reads.ensures.same_count in
    session_by (calls g.D.Door.size_of g.D.Door.asks g.D.Door.copies) g.R.Read.remaining _ c.read_more.new.reads.reader.now _ _ ReadFault _ (search (rules, same))
    c.args.count.now c.read_more.new.reads.count.now _ (search (rules, same_count)) (record {
      reads = c.loop-reads.invariant.3 + 1;
      input = c.loop-reads.invariant.0;
      given = Consumes-kept _ _ _ _ c.loop-reads.invariant.1 c.in-Err-Reader.ensures.err.bytes;
      serves = Serves_all (calls g.D.Door.size_of g.D.Door.asks g.D.Door.copies) c.loop-reads.invariant.0 _ c.loop-reads.lines _ c.loop-reads.invariant.2.0 ReadFault c.loop-reads.invariant.2.1 (λ h. h);
      whole = λ wrong. cc;
      counted = after_nothing _ _ _ ReadFault c.loop-reads.invariant.4 (sym c.any_left.ensures ∙ c.loop-reads-test.true) (λ wrong. cc) refl;
      stops = stops_at_fault _ _ _ c.loop-reads.invariant.0 c.loop-reads.invariant.4
          (ending_is (calls g.D.Door.size_of g.D.Door.asks g.D.Door.copies) c.loop-reads.invariant.0 _ c.loop-reads.lines _ c.loop-reads.invariant.2.0 [] c.loop-reads.invariant.2.1);
    }) (omega (arith, counted.1, c.loop-reads.invariant.6))

pub returns-in-Err-NoMemory : goal.returns-in-Err-NoMemory
returns-in-Err-NoMemory g c =
    let sent = c.last.ensures in
    let counted = rw c.in-Err-NoMemory.field-0-is at c.in-Err-NoMemory.ensures.counted in
    let same = c.in-Err-NoMemory.ensures.same.0 ∙ c.loop-reads.invariant.5 ∙ c.new-reads.ensures.same in
    let same_count = c.in-Err-NoMemory.ensures.same.1 ∙ c.loop-reads.invariant.7 ∙ c.new-reads.ensures.same_count in
    session_by (calls g.D.Door.size_of g.D.Door.asks g.D.Door.copies) g.R.Read.remaining _ c.read_more.new.reads.reader.now _ _ _ _ (search (rules, same))
    c.args.count.now c.read_more.new.reads.count.now _ (search (rules, same_count)) (record {
      reads = c.loop-reads.invariant.3;
      input = c.loop-reads.invariant.0;
      given = Consumes-kept _ _ _ _ c.loop-reads.invariant.1 c.in-Err-NoMemory.ensures.err.bytes;
      serves = Serves_last_memory (calls g.D.Door.size_of g.D.Door.asks g.D.Door.copies) c.loop-reads.invariant.0 _ c.loop-reads.lines _ c.loop-reads.invariant.2.0 _ c.last.result sent.0 sent.1 sent.2 sent.3 sent.4;
      whole = λ wrong. absurd (last_at_no_other _ _ _ InputEnd (λ wrong. cc) (λ wrong. cc) sent.4 wrong);
      counted = after_read _ _ _ _ c.loop-reads.invariant.4 (last_at_no_other _ _ _ TooManyReads (λ wrong. cc) (λ wrong. cc) sent.4)
          (last_at_no_other _ _ _ InputEnd (λ wrong. cc) (λ wrong. cc) sent.4) (last_at_no_other _ _ _ ReadFault (λ wrong. cc) (λ wrong. cc) sent.4);
      stops = c.loop-reads.invariant.8;
    }) (omega (arith, counted.1, c.loop-reads.invariant.6))

pub returns-in-Some : goal.returns-in-Some
returns-in-Some g c =
    let given = c.in-Ok.ensures.read in
    let same = c.in-Ok.ensures.same.0 ∙ c.loop-reads.invariant.5 ∙ c.new-reads.ensures.same in
    let same_count = c.in-Ok.ensures.same.1 ∙ c.loop-reads.invariant.7 ∙ c.new-reads.ensures.same_count in
    session_by (calls g.D.Door.size_of g.D.Door.asks g.D.Door.copies) g.R.Read.remaining _ c.read_more.new.reads.reader.now _ _ _ _ (search (rules, same))
    c.args.count.now c.read_more.new.reads.count.now _ (search (rules, same_count)) (record {
      reads = c.loop-reads.invariant.3 + 1;
      input = c.loop-reads.invariant.0 ++ given.more;
      given = Consumes-trans _ _ _ _ _ c.loop-reads.invariant.1 given.consumes;
      serves = c.in-Some.ensures.answered _ _ (Progress_read (calls g.D.Door.size_of g.D.Door.asks g.D.Door.copies) c.loop-reads.invariant.0 _ c.loop-reads.lines _ given.more c.read_more.new.self c.loop-reads.invariant.2.0 given.keeps);
      whole = λ wrong. absurd (c.in-Some.ensures.end wrong);
      counted = after_read _ _ _ _ (one_more _ _ _ _ _ given.more c.loop-reads.invariant.4 c.in-Ok.ensures.counted.0 given.long given.short (omega (arith, c.in-Ok.field-0-test))) c.in-Some.ensures.in_time c.in-Some.ensures.end c.in-Some.ensures.no_fault;
      stops = stops_at_read _ _ _ _ c.loop-reads.invariant.0 given.more c.loop-reads.invariant.4
          (ending_is (calls g.D.Door.size_of g.D.Door.asks g.D.Door.copies) c.loop-reads.invariant.0 _ c.loop-reads.lines _ c.loop-reads.invariant.2.0 [] c.loop-reads.invariant.2.1) given.long given.short;
    }) (omega (arith, c.in-Ok.ensures.counted.1, c.loop-reads.invariant.6))

pub loop-reads-preserved : goal.loop-reads-preserved
loop-reads-preserved g c =
    let given = c.in-Ok.ensures.read in (
      c.loop-reads.invariant.0 ++ given.more,
      Consumes-trans _ _ _ _ _ c.loop-reads.invariant.1 given.consumes,
      c.in-None.ensures.answered _ _ (Progress_read (calls g.D.Door.size_of g.D.Door.asks g.D.Door.copies) c.loop-reads.invariant.0 _ c.loop-reads.lines _ given.more c.read_more.new.self c.loop-reads.invariant.2.0 given.keeps),
      c.loop-reads.invariant.3 + 1,
      one_more _ _ _ _ _ given.more c.loop-reads.invariant.4 c.in-Ok.ensures.counted.0 given.long given.short (omega (arith, c.in-Ok.field-0-test)),
      c.in-Ok.ensures.same.0 ∙ c.loop-reads.invariant.5,
      omega (arith, c.in-Ok.ensures.counted.1, c.loop-reads.invariant.6),
      c.in-Ok.ensures.same.1 ∙ c.loop-reads.invariant.7,
      stops_at_read _ _ _ _ c.loop-reads.invariant.0 given.more c.loop-reads.invariant.4
          (ending_is (calls g.D.Door.size_of g.D.Door.asks g.D.Door.copies) c.loop-reads.invariant.0 _ c.loop-reads.lines _ c.loop-reads.invariant.2.0 [] c.loop-reads.invariant.2.1) given.long given.short,
    )

pub returns : goal.returns
returns g c =
    let same = c.loop-reads.invariant.5 ∙ c.new-reads.ensures.same in
    let same_count = c.loop-reads.invariant.7 ∙ c.new-reads.ensures.same_count in
    session_by (calls g.D.Door.size_of g.D.Door.asks g.D.Door.copies) g.R.Read.remaining _ c.loop-reads.reads.reader.now _ _ TooManyReads _ (search (rules, same))
    c.args.count.now c.loop-reads.reads.count.now _ (search (rules, same_count)) (record {
      reads = c.loop-reads.invariant.3;
      input = c.loop-reads.invariant.0;
      given = c.loop-reads.invariant.1;
      serves = Serves_all (calls g.D.Door.size_of g.D.Door.asks g.D.Door.copies) c.loop-reads.invariant.0 _ c.loop-reads.lines _ c.loop-reads.invariant.2.0 TooManyReads c.loop-reads.invariant.2.1 (λ h. h);
      whole = λ wrong. cc;
      counted = after_all _ _ _ c.loop-reads.invariant.4 (sym c.any_left.ensures ∙ c.loop-reads-test.false);
      stops = c.loop-reads.invariant.8;
    }) c.loop-reads.invariant.6
