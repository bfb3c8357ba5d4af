use Rattle.std.proofs.Common.{rules}
use Rattle.gas_seats.proofs.Events.{applies_extends}
use Rattle.mutex_hall.proofs.Booked.{booked_after, named_after}
use Rattle.mutex_hall.proofs.held.Held.ask.Goals as goal

pub invariant_of-self : goal.invariant_of-self
invariant_of-self g c =
    let grown = applies_extends c.self.inside.lab c.seat.inside.number c.args.command c.apply-reply.result c.apply-reply.new.self c.apply-reply.ensures.applied in
    let kept = c.self.invariant in (
      booked_after _ c.self.inside.lab c.apply-reply.new.self c.apply-reply.result _ _ _ grown kept.0 c.entries_of-made.ensures (search rules),
      named_after g.N.HallName.size g.N.HallName.cap _ c.self.inside.lab c.apply-reply.new.self c.apply-reply.result grown kept.1.size_is kept.1.cap_is c.apply-reply.ensures.after,
    )

pub returns-clause-after : goal.returns-clause-after
returns-clause-after g c =
    let grown = applies_extends c.self.inside.lab c.seat.inside.number c.args.command c.apply-reply.result c.apply-reply.new.self c.apply-reply.ensures.applied in
    named_after g.N.HallName.size g.N.HallName.cap _ c.self.inside.lab c.apply-reply.new.self c.apply-reply.result grown c.self.invariant.1.size_is c.self.invariant.1.cap_is c.apply-reply.ensures.after
