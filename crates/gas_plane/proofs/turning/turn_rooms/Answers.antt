use Rattle.std.proofs.Common.{◌≡◌, ◌+◌, ◌-◌, ◌*◌, ◌/◌, ◌<◌, arith, subst}
use Rattle.gas_plane.specs.Turning.{IsRoomTurned}
use Rattle.gas_plane.specs.Turning.AreTilesTurned.{no_tile, one_more}
use Rattle.gas_plane.proofs.Places.{wide}
use Rattle.gas_plane.proofs.Rooms.{covered_room}
use Rattle.gas_plane.proofs.TurnedRooms.{still_covered, next_turned, row_turned}
use Rattle.gas_plane.proofs.turning.turn_rooms.Goals as goal

pub loop-column-init : goal.loop-column-init
loop-column-init g c = record { covered = c.requires.covered; turned = no_tile }

pub turn_room-requires-clause-turner : goal.turn_room-requires-clause-turner
turn_room-requires-clause-turner g c = c.requires.turner c.loop-column.column (omega (arith, c.loop-column-test.true, c.width.ensures))

pub loop-column-preserved : goal.loop-column-preserved
loop-column-preserved g c =
    let l = c.loop-column in
    let size = c.args.size in
    let turns = g.T.Turner.turns c.args.turner l.column l.carried in
    let now = c.turn_room.new in
    let inside : l.column + 1 < size.width / 64 = omega (arith, c.loop-column-test.true, c.width.ensures) in
    let is : IsRoomTurned turns now.carried l.rooms (c.args.row * (size.width / 64) + l.column) now.rooms =
    subst (λ w. IsRoomTurned turns now.carried l.rooms (c.args.row * (w / 64) + l.column) now.rooms) c.width.ensures c.turn_room.ensures in
    record {
      covered = still_covered turns now.carried l.rooms now.rooms _ size l.invariant.covered is;
      turned = one_more l.invariant.turned (next_turned turns now.carried _ l.rooms now.rooms size l.column c.args.row l.invariant.covered c.requires.row inside is);
    }

pub turn-requires : goal.turn-requires
turn-requires g c = c.requires.turner _ (let some = (wide c.args.size c.requires.covered.sized).some in omega (arith, some, c.width.ensures))

pub returns-clause-covered : goal.returns-clause-covered
returns-clause-covered g c = covered_room c.loop-column.rooms _ _ c.args.size c.loop-column.invariant.covered

pub returns-clause-turned : goal.returns-clause-turned
returns-clause-turned g c =
    let l = c.loop-column in
    let some = (wide c.args.size c.requires.covered.sized).some in
    let all : l.column ≡ c.width.result / 64 - 1 = omega (arith, c.loop-column-test.false, l.auto.column-end) in
    let last : c.width.result / 64 - 1 + 1 ≡ c.args.size.width / 64 = omega (arith, some, c.width.ensures) in
    row_turned (g.T.Turner.turns c.args.turner) c.args.carried.now l.carried c.turn.new.carried c.args.rooms.now l.rooms c.args.size c.args.row (c.width.result / 64 - 1) c.width.result _ _ _ c.width.ensures c.requires.covered l.invariant.covered c.requires.row last
    l.column all l.invariant.turned c.turn.ensures
