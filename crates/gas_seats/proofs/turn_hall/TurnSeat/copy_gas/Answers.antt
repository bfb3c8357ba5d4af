use Rattle.gas_seats.proofs.TurnSeats.{copied, keeps_copying}
use Rattle.gas_seats.proofs.turn_hall.TurnSeat.copy_gas.Goals as goal

pub invariant_of-self : goal.invariant_of-self
invariant_of-self g c =
    let s = c.self.inside in
    let e = c.ask.ensures in
    keeps_copying (λ x. x.lab) s.door c.ask.new.self s.number s.made s.size e.0 e.1 c.self.invariant e.2 e.3.2 e.4

pub returns : goal.returns
returns g c =
    let s = c.self.inside in
    let e = c.ask.ensures in
    copied (λ x. x.lab) s.door c.ask.new.self s.number s.made s.size e.0 e.1 c.ask.result c.args.self.now
    c.self.invariant c.self.view_is e.3.0 e.2 e.3.1 e.3.2 e.4
