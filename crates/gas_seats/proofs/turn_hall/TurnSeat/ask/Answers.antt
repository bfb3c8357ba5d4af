use Rattle.gas_seats.proofs.TurnSeats.{asked, keeps_asking}
use Rattle.gas_seats.proofs.turn_hall.TurnSeat.ask.Goals as goal

pub invariant_of-self : goal.invariant_of-self
invariant_of-self g c =
    let s = c.self.inside in
    let e = c.ask-reply.ensures in
    keeps_asking (λ x. x.lab) s.door c.ask-reply.new.self s.number s.made c.entries_of.result s.size e.0 e.1 c.args.command c.ask-reply.result
    c.self.invariant e.2 e.3.2 e.3.3 e.4 c.entries_of.ensures

pub returns : goal.returns
returns g c =
    let s = c.self.inside in
    let e = c.ask-reply.ensures in
    asked (λ x. x.lab) s.door c.ask-reply.new.self s.number s.made s.size e.0 e.1 c.args.command c.ask-reply.result c.args.self.now
    c.self.invariant c.self.view_is e.3.0 e.3.1 e.2 e.3.3 e.4
