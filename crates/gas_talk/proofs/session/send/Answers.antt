use Rattle.std.proofs.Common.{[], take, drop, refl, sym, take-append-drop, append-nil}
use Rattle.std.proofs.KnownBytes.{Appends-kept}
use Rattle.gas_talk.proofs.session.send.Goals as goal

pub returns-in-Ok : goal.returns-in-Ok
returns-in-Ok g c = (c.args.text.now, [], sym (append-nil c.args.text.now), Appends-kept _ _ _ _ c.in-Ok.ensures.ok c.flush.ensures.bytes, λ _. refl)

pub returns-in-Err : goal.returns-in-Err
returns-in-Err g c =
    let front = c.in-Err.ensures.err in (take front.0 c.args.text.now, drop front.0 c.args.text.now, sym (take-append-drop front.0 c.args.text.now), front.1, λ wrong. cc)
