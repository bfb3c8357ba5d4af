use Rattle.phase_step.proofs.Rings.{window_is}
use Rattle.single_phase.proofs.laws.tile_and_border_are_a_window.Goals as goal

pub returns : goal.returns
returns c = window_is
