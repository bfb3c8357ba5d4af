use Rattle.std.proofs.Common.{refl, subst}
use Rattle.gas_terms.specs.Cells.{Cells}
use Rattle.phase_step.specs.SolidBlocks.{AreBlocksOf}
use Rattle.phase_step.specs.Others.{nothing_of}
use Rattle.phase_step.proofs.Others.{joined_nothing}
use Rattle.phase_step.proofs.steps.set_words.SetWords.alone.Goals as goal

pub returns : goal.returns
returns c =
    let set = c.args.set.now in
    let words = c.in_ok-words.words in
    subst (λ (now : Cells). AreBlocksOf now words.rows.items words.blocks.items) (joined_nothing set c.shows_lattice.ensures) (c.in_ok-words.ensures (nothing_of set) refl)
