use Rattle.std.proofs.Common.{refl, sym, subst}
use Rattle.gas_terms.specs.Cells.{Cells}
use Rattle.phase_step.specs.SolidBlocks.{AreBlocksOf, DifferIn}
use Rattle.phase_step.specs.Others.{nothing_of}
use Rattle.phase_step.proofs.Others.{joined_nothing}
use Rattle.phase_step.proofs.steps.set_words.renew_alone.Goals as goal

pub returns : goal.returns
returns c = λ before differ are.
    let set = c.args.set.now in
    let same = joined_nothing set c.shows_lattice.ensures in
    subst (λ (now : Cells). AreBlocksOf now c.renew.new.words.rows.items c.renew.new.words.blocks.items) same
    (c.renew.ensures before (nothing_of set) refl (subst (λ (now : Cells). DifferIn c.args.area before now) (sym same) differ) are)
