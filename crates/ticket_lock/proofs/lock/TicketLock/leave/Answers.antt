use Rattle.std.proofs.Common.{rules}
use Rattle.ticket_lock.proofs.Steps.{leaves_with}
use Rattle.ticket_lock.proofs.lock.TicketLock.leave.Goals as goal

pub fetch_add-requires : goal.fetch_add-requires
fetch_add-requires g c =
    let adds = c.requires.adds in
    (search rules, search rules, leaves_with _ _ _ _ _ _ _ _ c.args.value adds.0 c.exchange.ensures.3 c.requires.turn.0 c.requires.turn.1 c.requires.turn.2 adds.1 adds.2 c.requires.same)
