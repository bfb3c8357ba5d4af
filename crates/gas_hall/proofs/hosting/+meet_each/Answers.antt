use Rattle.std.proofs.Common.{rules, ◌++◌, ◌∷◌, [], subst, ap, ◌∙◌}
use Rattle.std.proofs.lemmas.List.Elements.{All-push, All-same}
use Rattle.gas_terms.specs.Laboratory.{IsPrefix}
use Rattle.gas_seats.specs.TurnSeats.{TurnSeatView}
use Rattle.gas_seats.proofs.Seeing.{goes_on}
use Rattle.gas_hall.proofs.hosting.+meet_each.Goals as goal

pub returns-clause-door : goal.returns-clause-door
returns-clause-door g t c =
    let rest = c.meet_each.ensures.door in
    let seen = c.meet_each.new.door.seat.seen in
    let noted = c.note.ensures.note.1 ∙ ap (λ (s : TurnSeatView). s.seen) c.door-other.ensures in
    let begins : TurnSeatView → Type 0 = λ s. IsPrefix s.seen seen in record {
      met = All-same begins c.args.seats.now.items (c.pop.new.self.items ++ c.in-Some.seat ∷ []) (search rules) (All-push begins c.pop.new.self.items c.in-Some.seat rest.met
          (goes_on c.in-Some.seat.seen c.meet.new.self.seat.seen seen (subst (λ l. IsPrefix l c.meet.new.self.seat.seen) noted c.meet.ensures.begins.1) rest.more));
      more = goes_on _ _ _ c.meet.ensures.begins.0 rest.more;
      same = search (rules, rest.same);
      made = search (rules, rest.made);
    }
