use Rattle.std.proofs.Common.{arith}
use Rattle.gas_plane.proofs.TurnedRooms.{room_turned}
use Rattle.gas_plane.proofs.turning.turn_room.Goals as goal

pub returns : goal.returns
returns g c =
    let s = c.split_at_mut-head in
    room_turned (g.T.Turner.turns c.args.turner c.args.column c.args.carried.now) c.turn.new.carried c.args.rooms.now s.result.0.now s.result.1.now c.args.i _ _ _ s.ensures.value s.ensures.front_len (omega arith) c.turn.ensures
