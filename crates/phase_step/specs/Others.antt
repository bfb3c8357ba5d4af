-- Words that name the blocks of other cells beside a set's, if there are any.
use Rattle.std.specs.Prelude.{◌≡◌, ℕ, ◌<◌, false, Option, MatchOption, length, ⊤}
use Rattle.gas_terms.specs.Cells.{Cells, HasSidesOf, cells_where}
use Rattle.phase_step.specs.SolidBlocks.{HaveAllTiles, AreBlocksOf}
use Rattle.phase_step.specs.declared.steps.set_words.SetWords.{SetWords}

-- no cells, in as many columns and rows
abbrev pub nothing_of : Cells → Cells
nothing_of set = cells_where set.width set.height (λ _ _. false)

-- they name the blocks of these cells: of none if there are no words
abbrev pub AreOthers : Cells → Option SetWords → Cells → Type 0
AreOthers set others other =
    MatchOption others (other ≡ nothing_of set) (λ w. HasSidesOf other set × AreBlocksOf other w.rows.items w.blocks.items)

-- they have words for tile i, or for each tile of the set
abbrev pub DoOthersReach : ℕ → Option SetWords → Type 0
DoOthersReach i others = MatchOption others ⊤ (λ w. (i < length w.rows.items) × (i < length w.blocks.items))

abbrev pub HaveOthers : Cells → Option SetWords → Type 0
HaveOthers set others = MatchOption others ⊤ (λ w. HaveAllTiles set w.rows.items w.blocks.items)
