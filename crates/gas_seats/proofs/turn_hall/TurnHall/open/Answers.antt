use Rattle.std.proofs.Common.{◌≡◌, ℕ, ◌+◌, ◌<◌, ◌∙◌, ◌++◌, ◌∷◌, ap, sym, subst, refl, List, length, [], Some, slice_get, slice_index_or, vec_len, rules, arith}
use Rattle.std.specs.Vec.Iter.{into_iter_items}
use Rattle.ticket_lock.specs.Doors.{DoorView}
use Rattle.gas_terms.specs.Gas.{Gas}
use Rattle.gas_terms.specs.Laboratory.{Laboratory}
use Rattle.gas_terms.specs.declared.command.Entry.{Entry}
use Rattle.atomic_table.specs.Seated.{TableId}
use Rattle.gas_seats.specs.TurnSeats.{TurnSeatView, opening_seat}
use Rattle.gas_seats.proofs.Numbered.{all_of_rule, first_is, one_more, rest_is}
use Rattle.gas_seats.proofs.TurnSeats.{Keeps, seat_of}
use Rattle.gas_seats.proofs.turn_hall.TurnHall.open.Goals as goal

-- the door of this number as the lock opens
abbrev door_at : TableId → Laboratory → ℕ → DoorView Entry (Gas × ℕ)
door_at lock lab k = record { lock = lock; number = k; seen = []; fixed = Some (lab.start, lab.cap) }

pub invariant_of-push_reserved : goal.invariant_of-push_reserved
invariant_of-push_reserved g c =
    let lock = c.in-Ok-open.lock in
    let door : c.in-Some.door ≡ door_at lock c.args.lab (vec_len c.loop-door.all) =
    first_is (door_at lock c.args.lab) c.in-Some.door _ _ (vec_len c.loop-door.all) c.in-Some.ensures.steps.0 c.loop-door.invariant.4 in
    subst (λ d. Keeps d c.len-number.result c.size-size.result 0) (sym door) (sym c.len-number.ensures, sym c.size-size.ensures.start, refl, omega arith)

pub loop-door-preserved : goal.loop-door-preserved
loop-door-preserved g c =
    let was = c.loop-door.invariant in
    let lock = c.in-Ok-open.lock in
    let n = vec_len c.loop-door.all in
    let steps = c.in-Some.ensures.steps.0 in
    let door : c.in-Some.door ≡ door_at lock c.args.lab n = first_is (door_at lock c.args.lab) c.in-Some.door _ _ n steps was.4 in
    let seat : seat_of c.in-Some.door c.len-number.result c.size-size.result ≡ opening_seat lock c.args.lab n =
    λ i. seat_of (door i) (c.len-number.ensures i) (c.size-size.ensures.start i) in
    let long : vec_len c.push_reserved.new.self ≡ n + 1 = search rules in (
      tt,
      tt,
      omega (arith, was.2, long, ap length steps),
      search rules,
      subst (λ m. (k : ℕ) (d : DoorView Entry (Gas × ℕ)) → k < length (into_iter_items c.next.new.self) → slice_index_or (into_iter_items c.next.new.self) k d ≡ door_at lock c.args.lab (m + k)) (sym long)
          (rest_is (door_at lock c.args.lab) c.in-Some.door _ _ n steps was.4),
      subst (λ m. (i : ℕ) → i < m → slice_get c.push_reserved.new.self.items i ≡ Some (opening_seat lock c.args.lab i)) (sym long)
          (one_more (opening_seat lock c.args.lab) c.loop-door.all.items c.push_reserved.new.self.items n (search rules)
          (c.push_reserved.ensures.items ∙ ap (λ s. c.loop-door.all.items ++ s ∷ []) seat) was.5),
    )

pub returns-in-None-clause-here : goal.returns-in-None-clause-here
returns-in-None-clause-here g c =
    all_of_rule (λ (s : TurnSeatView). s.hall ≡ c.in-Ok-open.lock) (opening_seat c.in-Ok-open.lock c.args.lab) c.loop-door.all.items (λ i. refl)
    (λ i below. c.loop-door.invariant.5 i (let long = c.loop-door.all.ok.0 in omega (arith, below, long)))

pub returns-in-None-clause-seats : goal.returns-in-None-clause-seats
returns-in-None-clause-seats g c = λ i below. c.loop-door.invariant.5 i (let n = c.loop-door.invariant.2 in let e = c.in-None.ensures.steps.0 in omega (arith, below, n, e))

pub loop-door-init : goal.loop-door-init
loop-door-init g c =
    let lock = c.in-Ok-open.lock in
    let gives : into_iter_items c.into_iter-door-iterator.result ≡ c.in-Ok-open.doors.items = c.into_iter-door-iterator.ensures.into_iter_gives.0 in
    let none : vec_len c.in-Ok.all ≡ 0 = search rules in
    let all : length (into_iter_items c.into_iter-door-iterator.result) ≡ c.args.seats = search rules in (
      tt,
      tt,
      omega (arith, none, all),
      search rules,
      λ k d below.
          ap (λ (doors : List (DoorView Entry (Gas × ℕ))). slice_index_or doors k d) gives
          ∙ (c.in-Ok-open.ensures.doors k d (subst (λ n. k < n) all below) ∙ ap (door_at lock c.args.lab) (let e : k ≡ vec_len c.in-Ok.all + k = omega (arith, none) in e)),
      λ i below. absurd (omega (arith, none, below)),
    )
