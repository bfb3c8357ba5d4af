use Rattle.gas_seats.proofs.Events.{applies_extends}
use Rattle.gas_seats.proofs.turn_hall.AskedCallInTurn.call.Goals as goal

pub returns-clause-adds : goal.returns-clause-adds
returns-clause-adds g c =
    let grown = applies_extends c.args.value.now.lab c.args.by c.args.self.command c.apply.result c.apply.new.self c.apply.ensures.applied in record {
      new = grown.added;
      added = grown.journal;
      all_own = grown.own;
      same = λ i. (grown.start i, grown.cap i);
    }
