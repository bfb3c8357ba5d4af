use Rattle.std.proofs.Common.{◌≡◌, ◌≤◌, ◌-◌, length}
use Rattle.gas_snapshot.specs.Reading.{many}
use Rattle.gas_snapshot.proofs.Loops.{with_front}
use Rattle.gas_snapshot.proofs.fields.add_each.Given as goal

abbrev pub invariant-fields : goal.invariant-fields
invariant-fields g l =
    (with_front (g.P.PortField.these l.ports) (many (g.P.PortField.one_at l.size) (l.count - l.counter) l.rest) ≡ many (g.P.PortField.one_at l.size) l.count l.bytes)
    × (length (g.P.PortField.these l.ports) ≤ l.counter)
    × (g.P.PortField.without l.ports ≡ g.P.PortField.without l.fn.ports)
