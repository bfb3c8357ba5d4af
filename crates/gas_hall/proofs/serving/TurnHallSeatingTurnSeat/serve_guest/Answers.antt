use Rattle.std.proofs.Common.{◌∙◌, ◌++◌, ap}
use Rattle.gas_talk.proofs.Sequential.{stays, extended}
use Rattle.gas_seats.specs.TurnSeats.{TurnSeatView, but_for_seen}
use Rattle.gas_seats.proofs.Seeing.{asked_sees_on, copied_sees_on}
use Rattle.gas_hall.proofs.serving.TurnHallSeatingTurnSeat.serve_guest.Goals as goal

pub returns-clause-kept : goal.returns-clause-kept
returns-clause-kept g c =
    let kept = stays _ (λ d. but_for_seen d.seat) (λ d command r e h. ap but_for_seen h.5) (λ d r e h. ap but_for_seen h.3) _ _ _ c.serve_door.ensures.serves.leads.talk in
    ap but_for_seen c.end.ensures ∙ kept ∙ ap but_for_seen c.door-door.ensures

pub returns-clause-seen : goal.returns-clause-seen
returns-clause-seen g c =
    let more = extended _ (λ d. d.seat.seen) (λ d command r e h. asked_sees_on d.seat command r e.seat h) (λ d r e h. copied_sees_on d.seat r e.seat h) _ _ _ c.serve_door.ensures.serves.leads.talk in
    (more.0, ap (λ (s : TurnSeatView). s.seen) c.end.ensures ∙ more.1 ∙ ap (λ (s : TurnSeatView). s.seen ++ more.0) c.door-door.ensures)
