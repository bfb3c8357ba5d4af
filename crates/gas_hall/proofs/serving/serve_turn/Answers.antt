use Rattle.std.proofs.Common.{refl}
use Rattle.gas_seats.specs.TurnSeats.{TurnSeatView, but_for_seen}
use Rattle.gas_hall.proofs.Turns.{all_same, same_through}
use Rattle.gas_hall.proofs.serving.serve_turn.Goals as goal

pub returns-clause-back : goal.returns-clause-back
returns-clause-back g c = record {
  back = c.serve_seats.ensures.back;
  here = all_same (λ (s : TurnSeatView). s.hall) _ _ _ (same_through (λ (s : TurnSeatView). s.hall) but_for_seen (λ s. refl) _ _ c.serve_seats.ensures.back.same) c.requires.here;
}
