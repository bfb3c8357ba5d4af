-- What a run takes, found from the momentum before and after it.
use Rattle.std.specs.Prelude.{◌^◌, ◌-ℤ◌}
use Rattle.gas_terms.specs.Accounts.{plus, minus, less_taken, together, IsOfAtMost, IsTakenOfAtMost}
use Rattle.gas_terms.specs.declared.accounts.Pair.{Pair}
use Rattle.gas_terms.specs.declared.accounts.Sums.{Sums}
use Rattle.block_rule.specs.Accounts.{counted_of}
use Rattle.block_rule.specs.declared.walled.Counted.{Counted}
use Rattle.phase_step.specs.declared.sums.flow.Flow.{Flow}

-- a run's flow in the accounts that are kept
abbrev pub flow_counted : Counted → Flow → Flow
flow_counted c f = record { took = counted_of c f.took; moved = f.moved }

-- what there was and came in, less what went out and was taken
abbrev pub left_of : Sums → Flow → Sums
left_of before f = less_taken (minus (plus before f.moved.injected) f.moved.drained) (together f.took)

-- what is missing of that momentum afterwards
abbrev pub missing : Sums → Sums → Flow → Pair
missing before after f = let left = left_of before f in record { x = left.px -ℤ after.px; y = left.py -ℤ after.py }

-- numbers that can be added without a doubt
pub record AreFew (start end : Sums) (f : Flow) : Type 0 where
  pub before : IsOfAtMost (2 ^ 48) start
  pub after : IsOfAtMost (2 ^ 48) end
  pub injected : IsOfAtMost (2 ^ 48) f.moved.injected
  pub drained : IsOfAtMost (2 ^ 48) f.moved.drained
  pub walls : IsTakenOfAtMost (2 ^ 46) f.took.walls
  pub obstacles : IsTakenOfAtMost (2 ^ 46) f.took.obstacles
