use Rattle.std.proofs.Common.{◌≡◌, nat_lt, false, ◌||◌, length, sym, ap, ◌∙◌, arith}
use Rattle.std.proofs.lemmas.Bool.{le-ltb}
use Rattle.gas_ledger.specs.PortLists.{PortLists}
use Rattle.gas_ledger.proofs.ports.Ports.any.Goals as goal

pub returns-else-len-gt0-clause-any : goal.returns-else-len-gt0-clause-any
returns-else-len-gt0-clause-any c =
    let none : nat_lt 0 (length c.self.inside.drains) ≡ false = le-ltb 0 (length c.self.inside.drains) (omega arith) in
    ap (nat_lt 0) c.len-else-len-gt0.ensures.len ∙ ap (λ any. any || nat_lt 0 (length c.self.inside.sources)) (sym none)
    ∙ ap (λ (p : PortLists). nat_lt 0 (length p.drains) || nat_lt 0 (length p.sources)) c.self.view_is
