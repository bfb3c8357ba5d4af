use Rattle.std.proofs.Common.{rules}
use Rattle.ticket_lock.proofs.Steps.{meets, looks}
use Rattle.ticket_lock.proofs.lock.LockDoor.meet.Goals as goal

pub join_seat-requires : goal.join_seat-requires
join_seat-requires g c = (search rules, search rules, search rules, search rules, meets _ _ _ _ _ _ _ _ c.note.invariant.1)

pub load-requires : goal.load-requires
load-requires g c = (search rules, search rules, looks _ _ _ _ _ _ _)
