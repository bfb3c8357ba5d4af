use Rattle.std.proofs.Common.{nat_le, length, sym, ap, ◌∙◌}
use Rattle.gas_terms.specs.Gas.{most_ports}
use Rattle.gas_ledger.specs.PortLists.{PortLists, has_all}
use Rattle.gas_ledger.proofs.ports.Ports.has_all.Goals as goal

pub returns-in-Source : goal.returns-in-Source
returns-in-Source c =
    ap (nat_le most_ports) c.len-in-Source.ensures.len ∙ ap (λ (p : PortLists). nat_le most_ports (length p.sources)) c.self.view_is
    ∙ sym (ap (has_all c.args.self.now) c.in-Source.is)
