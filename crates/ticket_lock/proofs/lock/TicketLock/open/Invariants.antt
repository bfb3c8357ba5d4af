use Rattle.std.proofs.Common.{◌≡◌, ℕ, ◌+◌, ◌<◌, false, [], Some, vec_len, slice_index_or}
use Rattle.std.specs.Vec.{vec_capacity}
use Rattle.ticket_lock.proofs.lock.TicketLock.open.Given as goal

abbrev pub invariant-loop-number : goal.invariant-loop-number
invariant-loop-number g l = record {
  same_lock : l.rest.table_id ≡ l.table.shared.table_id;
  no_slot : l.rest.me.1 ≡ [];
  next_number : l.rest.me.0.from ≡ l.number;
  numbers_left : l.rest.me.0.count + l.number ≡ l.doors;
  idle : l.rest.me.0.waits ≡ false;
  no_turn : l.rest.me.0.turn ≡ false;
  nothing_seen : l.rest.me.0.seen ≡ [];
  fixed_is : l.rest.me.0.fixed ≡ Some (g.X.Journaled.fixed l.fn.value);
  room : vec_capacity l.list ≡ l.doors;
  made : vec_len l.list ≡ l.number;
  doors_are : (k : ℕ) (d : _) → k < l.number → slice_index_or l.list.items k d ≡ record { lock = l.table.shared.table_id; number = k; seen = []; fixed = Some (g.X.Journaled.fixed l.fn.value) };
}
