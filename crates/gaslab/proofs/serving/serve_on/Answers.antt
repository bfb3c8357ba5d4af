use Rattle.std.proofs.Common.{rules, ◌≤◌, vec_len, subst, inl}
use Rattle.gas_terms.specs.Laboratory.{Laboratory}
use Rattle.gas_hall.specs.Served.{AreSeats}
use Rattle.gaslab.proofs.serving.serve_on.Goals as goal

pub returns-in_default : goal.returns-in_default
returns-in_default g c = search rules

pub returns-in-Some : goal.returns-in-Some
returns-in-Some g c =
    let served = c.in-Some.served in
    let lab = c.in-Ok.ensures in
    inl (
      search rules,
      record {
        done = served.done;
        failed = served.failed;
        entries = served.entries;
        seats = served.seats.items;
        each = c.in-Some.ensures.count;
        busy = c.in-Some.ensures.busy;
        back = subst (λ (l : Laboratory). AreSeats l.start l.cap (vec_len c.args.shelves) served.seats.items) lab c.in-Some.ensures.seats;
        sum = c.in-Some.ensures.entries.1;
        room = subst (λ (l : Laboratory). served.entries ≤ l.cap) lab c.in-Some.ensures.entries.0;
        written = search rules;
      },
    )

pub returns-in-Some-2 : goal.returns-in-Some-2
returns-in-Some-2 g c = search rules

pub returns-in-None : goal.returns-in-None
returns-in-None g c = search rules
