use Rattle.std.proofs.Common.{◌∷◌, ◌++◌, ap, sym, ◌∙◌}
use Rattle.gas_text.specs.Requests.{request_of}
use Rattle.gas_talk.specs.Lines.{lines, text}
use Rattle.gas_talk.specs.Ends.{is_quit}
use Rattle.gas_talk.specs.Talk.{calls}
use Rattle.gas_talk.proofs.Sending.{sent_whole}
use Rattle.gas_talk.proofs.Progress.{Leads-size, Progress_line, Serves_quit, Serves_cut, Serves_last_bad, Serves_last_memory, lines_answered}
use Rattle.gas_talk.proofs.session.answer_lines.Goals as goal

pub returns-then-not-is_sent-clause-answered : goal.returns-then-not-is_sent-clause-answered
returns-then-not-is_sent-clause-answered g c = λ input from before.
    let p = c.lines.invariant input from before in
    let found = c.in-Line.ensures.found p.unread p.keeps in
    let talk_line = c.reply_of-reply.ensures.taken in
    let sent = c.send_reply-is_sent.ensures in
    Serves_cut (calls g.D.Door.size_of g.D.Door.asks g.D.Door.copies) input from c.lines.lines _ p c.as_str.result.now _ talk_line.0 found.0 _ sent.0 sent.1
    (λ more. found.2 more ∙ ap (λ bytes. text bytes ∷ lines (found.0 ++ more)) (sym c.as_str.ensures.value))
    (record { takes = talk_line.1; failures = talk_line.2; shelved = talk_line.3 })
    sent.2 sent.3

pub returns-then-is_quit-clause-answered : goal.returns-then-is_quit-clause-answered
returns-then-is_quit-clause-answered g c = λ input from before.
    let p = c.lines.invariant input from before in
    let found = c.in-Line.ensures.found p.unread p.keeps in
    let talk_line = c.reply_of-reply.ensures.taken in
    let sent = c.send_reply-is_sent.ensures in
    let size = Leads-size (calls g.D.Door.size_of g.D.Door.asks g.D.Door.copies) from.door p.talk_lines c.lines.door p.leads.talk in
    Serves_quit (calls g.D.Door.size_of g.D.Door.asks g.D.Door.copies) input from c.lines.lines _ p c.as_str.result.now _ talk_line.0 found.0 _
    (λ more. found.2 more ∙ ap (λ bytes. text bytes ∷ lines (found.0 ++ more)) (sym c.as_str.ensures.value))
    (ap (λ n. is_quit (request_of n c.as_str.result.now)) (sym size) ∙ sym c.reply_of-reply.ensures.quit ∙ sym c.is_bye-is_quit.ensures ∙ c.if-is_quit.true)
    (record { takes = talk_line.1; failures = talk_line.2; shelved = talk_line.3 })
    (sent_whole _ _ _ sent.0 sent.1 sent.2 (sent.4 c.if-not-is_sent.false) sent.3)

pub lines-preserved : goal.lines-preserved
lines-preserved g c = λ input from before.
    let p = c.lines.invariant input from before in
    let found = c.in-Line.ensures.found p.unread p.keeps in
    let talk_line = c.reply_of-reply.ensures.taken in
    let sent = c.send_reply-is_sent.ensures in
    let size = Leads-size (calls g.D.Door.size_of g.D.Door.asks g.D.Door.copies) from.door p.talk_lines c.lines.door p.leads.talk in
    Progress_line (calls g.D.Door.size_of g.D.Door.asks g.D.Door.copies) input from c.lines.lines _ p c.as_str.result.now _ talk_line.0 c.next_line.new.self found.0 _ found.1
    (λ more. found.2 more ∙ ap (λ bytes. text bytes ∷ lines (found.0 ++ more)) (sym c.as_str.ensures.value))
    (ap (λ n. is_quit (request_of n c.as_str.result.now)) (sym size) ∙ sym c.reply_of-reply.ensures.quit ∙ sym c.is_bye-is_quit.ensures ∙ c.if-is_quit.false)
    (record { takes = talk_line.1; failures = talk_line.2; shelved = talk_line.3 })
    (sent_whole _ _ _ sent.0 sent.1 sent.2 (sent.4 c.if-not-is_sent.false) sent.3)

pub returns-in-Bad-clause-answered : goal.returns-in-Bad-clause-answered
returns-in-Bad-clause-answered g c = λ input from before.
    let p = c.lines.invariant input from before in
    let sent = c.last.ensures in
    Serves_last_bad (calls g.D.Door.size_of g.D.Door.asks g.D.Door.copies) input from c.lines.lines _ p _ c.last.result sent.0 sent.1 (c.in-Bad.ensures.found p.unread p.keeps) sent.2 sent.3 sent.4

pub returns-in-NoMemory-clause-answered : goal.returns-in-NoMemory-clause-answered
returns-in-NoMemory-clause-answered g c = λ input from before.
    let p = c.lines.invariant input from before in
    let sent = c.last-in-NoMemory.ensures in
    Serves_last_memory (calls g.D.Door.size_of g.D.Door.asks g.D.Door.copies) input from c.lines.lines _ p _ c.last-in-NoMemory.result sent.0 sent.1 sent.2 sent.3 sent.4

pub returns-in-More-clause-answered : goal.returns-in-More-clause-answered
returns-in-More-clause-answered g c = λ input from before.
    let p = c.lines.invariant input from before in
    let rests = c.in-More.ensures.found p.unread p.keeps in
    lines_answered (calls g.D.Door.size_of g.D.Door.asks g.D.Door.copies) input from c.lines.lines _ p c.next_line.new.self rests.1 rests.0
