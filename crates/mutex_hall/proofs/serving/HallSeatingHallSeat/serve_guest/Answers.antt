use Rattle.std.proofs.Common.{◌∙◌, ap}
use Rattle.gas_talk.proofs.Sequential.{stays}
use Rattle.mutex_hall.specs.Seats.{Seat}
use Rattle.mutex_hall.proofs.serving.HallSeatingHallSeat.serve_guest.Goals as goal

abbrev but_for_entries : Seat → Seat
but_for_entries s = record s { entries = 0 }

pub returns-clause-kept : goal.returns-clause-kept
returns-clause-kept g c =
    let kept = stays _ (λ d. but_for_entries d.seat) (λ d command r e h. ap but_for_entries h.1) (λ d r e h. ap but_for_entries h.1) _ _ _ c.serve_door.ensures.serves.leads.talk in
    ap but_for_entries c.end.ensures ∙ kept ∙ ap but_for_entries c.door-door.ensures
