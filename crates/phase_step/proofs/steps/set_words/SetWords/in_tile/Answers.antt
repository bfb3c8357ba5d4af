use Rattle.phase_step.specs.SolidBlocks.{is_walled_in}
use Rattle.phase_step.proofs.SolidBlocks.{none_named}
use Rattle.phase_step.proofs.steps.set_words.SetWords.in_tile.Goals as goal

pub returns-then-words-eq0 : goal.returns-then-words-eq0
returns-then-words-eq0 c = λ set within are.
    let words = c.of_tile-words.result in
    none_named words.rows words.blocks.now (is_walled_in set c.args.i) c.if-words-eq0.true (c.of_tile-words.ensures set within are)
