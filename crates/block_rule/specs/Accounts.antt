-- Accounts that are kept or not.
use Rattle.std.specs.Prelude.{Bool, if◌then◌else◌, pos}
use Rattle.gas_terms.specs.declared.accounts.Pair.{Pair}
use Rattle.gas_terms.specs.declared.accounts.Took.{Took}
use Rattle.block_rule.specs.declared.walled.Counted.{Counted}

-- what an account has that is kept, or 0
abbrev pub if_counted : Bool → Pair → Pair
if_counted counted p = if counted then p else record { x = pos 0; y = pos 0 }

-- what is taken, in the accounts that are kept
abbrev pub counted_of : Counted → Took → Took
counted_of c t = record { walls = if_counted c.walls t.walls; obstacles = if_counted c.obstacles t.obstacles }
