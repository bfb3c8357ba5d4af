use Rattle.std.proofs.lemmas.List.{get_or_read}
use Rattle.phase_step.specs.SolidBlocks.{no_words}
use Rattle.phase_step.proofs.SolidBlocks.{words_read}
use Rattle.phase_step.proofs.steps.set_words.SetWords.of_tile.Goals as goal

pub returns : goal.returns
returns c = λ set within are.
    let s = c.args.self.now in
    let i = c.args.i in
    words_read set s.rows.items s.blocks.items i c.index.result.now c.index-2.result.now are within
    (λ within. get_or_read s.rows.items i c.index.result.now within c.index.ensures 0) (λ within. get_or_read s.blocks.items i c.index-2.result.now within c.index-2.ensures no_words)
