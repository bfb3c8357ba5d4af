use Rattle.std.proofs.Common.{refl, rules}
use Rattle.mutex_hall.specs.Seats.{Seat}
use Rattle.gas_hall.proofs.Turns.{same_through}
use Rattle.mutex_hall.proofs.serving.serve.Goals as goal

pub returns-clause-seats : goal.returns-clause-seats
returns-clause-seats g c =
    same_through (λ (s : Seat). s.number) (λ (s : Seat). record s { entries = 0 }) (λ s. refl) _ _ c.serve_seats.ensures.back.same

pub returns-clause-busy : goal.returns-clause-busy
returns-clause-busy g c = c.serve_seats.ensures.back.served

pub returns-clause-all : goal.returns-clause-all
returns-clause-all g c = let all = c.serve_seats.ensures.back.all in search (rules, all)
