use Rattle.std.proofs.Common.{rules, ◌∙◌, sym, arith}
use Rattle.gas_hall.proofs.Busy.{busy_from_none}
use Rattle.gas_hall.proofs.Totals.{numbers_kept, numbers_stay, opened_kept, opened_stays, none_made, same_sum}
use Rattle.gas_hall.proofs.hosting.serve_lab.Goals as goal

pub meet_all-requires-clause-numbers : goal.meet_all-requires-clause-numbers
meet_all-requires-clause-numbers g c =
    numbers_kept c.in-Ok.hall c.args.lab c.len-count.result c.serve_turn-served.result.seats.items c.in-Ok.seats.items c.serve_turn-served.ensures.back.back.same (search rules) c.in-Ok.ensures.seats

pub meet_all-requires-clause-here : goal.meet_all-requires-clause-here
meet_all-requires-clause-here g c = c.serve_turn-served.ensures.back.here

pub meet_all-requires-clause-some : goal.meet_all-requires-clause-some
meet_all-requires-clause-some g c = search (rules, c.serve_turn-served.ensures.back.back.all)

pub returns-clause-busy : goal.returns-clause-busy
returns-clause-busy g c =
    let none = none_made c.in-Ok.hall c.args.lab c.len-count.result c.in-Ok.seats.items (search rules) c.in-Ok.ensures.seats in
    let back = c.serve_turn-served.ensures.back.back in
    let same = busy_from_none c.in-Ok.seats.items c.serve_turn-served.result.seats.items c.meet_all.new.seats.items none (sym back.all) c.meet_all.ensures.same.made in
    omega (arith, same, back.served)

pub returns-clause-seats : goal.returns-clause-seats
returns-clause-seats g c =
    let back = c.serve_turn-served.ensures.back.back in
    let served = c.serve_turn-served.result.seats.items in record {
      all = search (rules, back.all, c.meet_all.ensures.same.all);
      numbers = numbers_stay served c.meet_all.new.seats.items c.meet_all.ensures.same.seats
          (numbers_kept c.in-Ok.hall c.args.lab c.len-count.result served c.in-Ok.seats.items back.same (search rules) c.in-Ok.ensures.seats);
      opened = opened_stays c.args.lab served c.meet_all.new.seats.items c.meet_all.ensures.same.seats
          (opened_kept c.in-Ok.hall c.args.lab c.len-count.result served c.in-Ok.seats.items back.same (search rules) c.in-Ok.ensures.seats);
    }

pub returns-clause-entries : goal.returns-clause-entries
returns-clause-entries g c =
    let served = c.serve_turn-served.result.seats.items in
    let sum = same_sum served c.meet_all.new.seats.items c.meet_all.ensures.same.made in
    let room = c.meet_all.ensures.room (c.args.lab.start, c.args.lab.cap)
    (opened_kept c.in-Ok.hall c.args.lab c.len-count.result served c.in-Ok.seats.items c.serve_turn-served.ensures.back.back.same (search rules) c.in-Ok.ensures.seats) in
    (omega (arith, sum, room, c.serve_turn-served.ensures.entries), c.serve_turn-served.ensures.entries ∙ sym sum)
