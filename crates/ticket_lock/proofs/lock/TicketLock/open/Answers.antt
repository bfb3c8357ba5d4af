use Rattle.std.proofs.lemmas.Grind.{common_steps}
use Rattle.std.proofs.Common.{rules, arith, ◌≤◌, ◌-◌, ◌++◌, ◌∙◌, sym, ap, subst, ℕ, List, [], ◌∷◌, Option, Some}
use Rattle.atomic_table.specs.Table.{Me, opening}
use Rattle.ticket_lock.specs.declared.view.View.{View}
use Rattle.ticket_lock.specs.Turns.{Keeps, newcomer}
use Rattle.ticket_lock.specs.Doors.{DoorView}
use Rattle.ticket_lock.proofs.Places.{reads_push}
use Rattle.ticket_lock.proofs.Steps.{opens, splits_door}
use Rattle.ticket_lock.proofs.lock.TicketLock.open.Goals as goal

pub new-requires : goal.new-requires
new-requires g c =
    let j = g.X.Journaled in
    let f = j.fixed c.of-first.result.value in
    let P : List (Option g.row.X.Denot) → Type 0 = λ l. Keeps j.entries j.fixed j.by (c.args.doors, f) (opening (0 ∷ 0 ∷ []) l (newcomer c.args.doors f)) in
    let one = c.push_reserved.ensures.items ∙ ap (λ (l : List (Option g.row.X.Denot)). l ++ Some c.args.value ∷ []) c.in-Ok-with_capacity.ensures.items in
    subst P (sym one) (opens j.entries j.fixed j.by (c.args.doors, f) c.args.value c.requires.doors.1 c.requires.empty (search rules))

pub split_seat-seat-requires : goal.split_seat-seat-requires
split_seat-seat-requires g c = grind (arith, common_steps, splits_door)

pub loop-number-preserved : goal.loop-number-preserved
loop-number-preserved g c =
    let was = c.loop-number.invariant in
    let cut = c.split_seat-seat.ensures in
    let V = Me (Option g.row.X.Denot) (View g.row.X-Entry.Denot g.row.X-Fixed.Denot) in
    let table = c.in-Ok-new.table.shared.table_id in
    let f : ℕ → DoorView g.row.X-Entry.Denot g.row.X-Fixed.Denot = λ k. record { lock = table; number = k; seen = []; fixed = Some (g.X.Journaled.fixed c.args.value) } in
    let lock = cut.3 ∙ was.same_lock in
    let seen = ap (λ (m : V). m.0.seen) cut.4 ∙ was.nothing_seen in
    let fixed = ap (λ (m : V). m.0.fixed) cut.4 ∙ was.fixed_is in record {
      same_lock = search rules;
      no_slot = search rules;
      next_number = search rules;
      numbers_left = search rules;
      idle = search rules;
      no_turn = search rules;
      nothing_seen = search rules;
      fixed_is = search rules;
      room = search rules;
      made = search rules;
      doors_are = reads_push f _ _ c.of.result c.loop-number.number _ c.push_reserved-in-loop-number.ensures.items (search rules) (omega arith) was.doors_are
          (c.of.ensures ∙ (λ i. record { lock = lock i; number = c.loop-number.number; seen = seen i; fixed = fixed i }));
    }

pub returns-after-loop-number-clause-doors : goal.returns-after-loop-number-clause-doors
returns-after-loop-number-clause-doors g c =
    let was = c.loop-number.invariant in
    let last = c.args.doors - 1 in
    let table = c.in-Ok-new.table.shared.table_id in
    let f : ℕ → DoorView g.row.X-Entry.Denot g.row.X-Fixed.Denot = λ k. record { lock = table; number = k; seen = []; fixed = Some (g.X.Journaled.fixed c.args.value) } in
    let low : last ≤ c.loop-number.number = c.loop-number-test.false in
    let high : c.loop-number.number ≤ last = search rules in
    let some_door = c.requires.doors.0 in
    reads_push f _ _ c.of-in-Ok-new.result last _ c.push_reserved-in-Ok-new.ensures.items (omega (arith, was.made, c.loop-number.list.ok.0)) (omega arith) (λ k d lt. was.doors_are k d (omega arith))
    (c.of-in-Ok-new.ensures ∙ (λ i. record { lock = was.same_lock i; number = last; seen = was.nothing_seen i; fixed = was.fixed_is i }))
