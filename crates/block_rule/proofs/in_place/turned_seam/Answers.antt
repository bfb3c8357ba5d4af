use Rattle.std.proofs.Common.{refl}
use Rattle.block_rule.specs.Around.{turned_window}
use Rattle.block_rule.proofs.in_place.turned_seam.Goals as goal

pub returns-clause-own : goal.returns-clause-own
returns-clause-own c = λ window solid shown given. c.turned_row.ensures.own window solid (turned_window 1 window solid) 31 (λ x y h. refl) shown (c.seam_word.ensures solid given)

pub returns-clause-leaving : goal.returns-clause-leaving
returns-clause-leaving c = λ window solid shown given. c.turned_row.ensures.leaving window solid 31 shown (c.seam_word.ensures solid given)
