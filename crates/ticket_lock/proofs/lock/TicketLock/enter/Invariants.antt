use Rattle.std.proofs.Common.{◌≡◌, ℕ, ◌%◌, ◌^◌, []}
use Rattle.ticket_lock.specs.Turns.{waiting}
use Rattle.ticket_lock.proofs.lock.TicketLock.enter.Given as goal

abbrev pub invariant-loop : goal.invariant-loop
invariant-loop g l = record {
  same_lock : l.seat.table_id ≡ l.fn.seat.table_id;
  same_seat : l.seat.id ≡ l.fn.seat.id;
  waits : (ticket : ℕ) × (ticket % 2 ^ 64 ≡ l.ticket) × (l.seat.me ≡ (waiting l.fn.seat.me.0 ticket, []));
}
