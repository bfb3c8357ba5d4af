use Rattle.std.proofs.Common.{rules, ◌≡◌, ◌++◌, ◌∷◌, [], append-nil, subst, sym, ap, ◌∙◌, Some}
use Rattle.std.proofs.lemmas.List.Elements.{All-pop, All-push, All-same}
use Rattle.gas_terms.specs.Laboratory.{IsPrefix}
use Rattle.gas_terms.specs.declared.command.Command.TheVariants.{Ledger}
use Rattle.gas_seats.specs.TurnSeats.{TurnSeatView, but_for_seen, entries_made}
use Rattle.gas_seats.proofs.Seeing.{asked_sees_on, goes_on}
use Rattle.gas_hall.proofs.Totals.{same_at_end, numbers_stay, made_at_ledger, room_for_all}
use Rattle.gas_hall.proofs.hosting.meet_all.Goals as goal

pub returns-clause-same : goal.returns-clause-same
returns-clause-same g c = record {
  all = search rules;
  seats = same_at_end but_for_seen c.args.seats.now.items c.push_reserved.new.self.items c.pop.new.self.items c.in-Some.last c.end.result (search rules) (search rules)
      (ap but_for_seen c.end.ensures ∙ ap but_for_seen c.ask.ensures.asked.5 ∙ c.meet_each.ensures.door.same ∙ ap but_for_seen c.door-door.ensures);
  made = same_at_end entries_made c.args.seats.now.items c.push_reserved.new.self.items c.pop.new.self.items c.in-Some.last c.end.result (search rules) (search rules)
      (ap entries_made c.end.ensures ∙ made_at_ledger _ _ _ c.ask.ensures.asked ∙ c.meet_each.ensures.door.made ∙ ap entries_made c.door-door.ensures);
}

pub returns-clause-room : goal.returns-clause-room
returns-clause-room g c opened all =
    let now = c.ask.new.self.seat in
    let same = same_at_end but_for_seen c.args.seats.now.items c.push_reserved.new.self.items c.pop.new.self.items c.in-Some.last c.end.result (search rules) (search rules)
    (ap but_for_seen c.end.ensures ∙ ap but_for_seen c.ask.ensures.asked.5 ∙ c.meet_each.ensures.door.same ∙ ap but_for_seen c.door-door.ensures) in
    let more = asked_sees_on c.meet_each.new.door.seat Ledger c.ask.result now c.ask.ensures.asked in
    let begins : TurnSeatView → Type 0 = λ s. IsPrefix s.seen now.seen in
    let itself = subst begins (sym c.end.ensures) ([], sym (append-nil now.seen)) in
    room_for_all _ _ now c.ask.ensures.asked c.push_reserved.new.self.items (numbers_stay c.args.seats.now.items c.push_reserved.new.self.items same c.requires.numbers)
    (All-same begins c.push_reserved.new.self.items (c.pop.new.self.items ++ c.end.result ∷ []) (search rules) (All-push begins _ _ (λ k d lt. goes_on _ _ now.seen (c.meet_each.ensures.door.met k d lt) more) itself))
    opened
    (ap (λ (s : TurnSeatView). s.opened) c.meet_each.ensures.door.same ∙ ap (λ (s : TurnSeatView). s.opened) c.door-door.ensures
    ∙ (All-pop (λ (s : TurnSeatView). s.opened ≡ Some opened) c.args.seats.now.items c.pop.new.self.items (Some c.in-Some.last) (search rules) all).1)
