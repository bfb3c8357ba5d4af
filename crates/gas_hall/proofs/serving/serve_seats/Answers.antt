use Rattle.std.proofs.Common.{rules}
use Rattle.gas_hall.proofs.Back.{back_turned}
use Rattle.gas_hall.proofs.serving.serve_seats.Goals as goal

pub returns-clause-back : goal.returns-clause-back
returns-clause-back g c =
    back_turned g.H.Seating.kept g.H.Seating.made g.H.Seating.seen c.args.seats.items c.reverse.new.self.items c.scoped-done.result.1.items c.reverse-3.new.self.items c.scoped-done.result.0
    c.reverse.ensures.items (search rules) c.reverse-3.ensures.items

pub returns-clause-entries : goal.returns-clause-entries
returns-clause-entries g c = search rules

pub returns-clause-count : goal.returns-clause-count
returns-clause-count g c = search rules
