use Rattle.std.proofs.Common.{rules}
use Rattle.ticket_lock.proofs.Steps.{splits_note}
use Rattle.ticket_lock.proofs.lock.LockDoor.note.Goals as goal

pub split_seat-seat-requires : goal.split_seat-seat-requires
split_seat-seat-requires g c = (search rules, search rules, splits_note _ _ _ _ _ _)
