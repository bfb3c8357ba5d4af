use Rattle.std.proofs.Common.{◌+◌}
use Rattle.block_rule.specs.Around.{turned_window}
use Rattle.block_rule.proofs.InPlace.{leaving_kept}
use Rattle.block_rule.proofs.in_place.turned_on.Goals as goal

pub returns-clause-turned : goal.returns-clause-turned
returns-clause-turned g c = c.turned_eight-eight.ensures.turned

pub returns-clause-leaving : goal.returns-clause-leaving
returns-clause-leaving g c = λ window solid seen named k few.
    leaving_kept (turned_window 1 window solid 64) (c.args.from + k) _ _ (c.carry_eight.ensures.carried k few) (c.turned_eight-eight.ensures.leaving window solid seen named k few)
