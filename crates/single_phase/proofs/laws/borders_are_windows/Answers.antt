use Rattle.block_rule.proofs.Borders.{shows_tile, shows_round}
use Rattle.single_phase.proofs.laws.borders_are_windows.Goals as goal

pub returns-clause-tile : goal.returns-clause-tile
returns-clause-tile c = shows_tile

pub returns-clause-round : goal.returns-clause-round
returns-clause-round c = λ t near b. shows_round t b near
