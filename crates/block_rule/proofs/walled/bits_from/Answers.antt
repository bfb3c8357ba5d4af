use Rattle.std.proofs.Common.{◌/◌, ◌%◌, ◌^◌, ap, sym, ◌∙◌}
use Rattle.std.proofs.lemmas.Nat.{one_shl}
use Rattle.block_rule.proofs.Holding.{not_told}
use Rattle.block_rule.proofs.walled.bits_from.Goals as goal

pub returns : goal.returns
returns c none =
    let rows = c.args.rows in
    let size = one_shl c.args.n 32 c.requires.n in
    not_told rows c.args.from c.args.n (ap (λ m. rows / 2 ^ c.args.from % m) (sym size) ∙ none)
