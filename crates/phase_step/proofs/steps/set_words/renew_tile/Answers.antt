use Rattle.std.proofs.Common.{◌≡◌, get_or, sym, subst, arith, option_copied}
use Rattle.std.proofs.lemmas.List.{get_or_read}
use Rattle.gas_terms.specs.Cells.{joined}
use Rattle.block_rule.specs.TileBlocks.{NamesBlocks}
use Rattle.phase_step.specs.SolidBlocks.{no_words, blocks_at, is_walled_in}
use Rattle.phase_step.proofs.SolidBlocks.{named_again, renewed_next}
use Rattle.phase_step.proofs.Others.{reach, sides_of}
use Rattle.phase_step.proofs.steps.set_words.renew_tile.Goals as goal

pub others_at-beside-requires : goal.others_at-beside-requires
others_at-beside-requires c = reach c.args.set.now c.args.i (option_copied c.args.others) c.requires.tile c.requires.others

pub returns-clause-words : goal.returns-clause-words
returns-clause-words c = λ before other others sides differ so_far.
    let set = c.args.set.now in
    let i = c.args.i in
    let told = c.args.words.now.rows.items in
    let words = c.args.words.now.blocks.items in
    let word = c.index.result.now in
    let b = c.index_mut.result.now in
    let all = c.requires.all in
    let tile = c.requires.tile in
    let is_word : word ≡ get_or told i 0 = get_or_read told i word (omega (arith, all.rows, tile)) c.index.ensures 0 in
    let is_b : b ≡ blocks_at words i = get_or_read words i b (omega (arith, all.blocks, tile)) c.index_mut.ensures.value no_words in
    let were =
    subst (λ w. NamesBlocks w b (is_walled_in before i)) (sym is_word) (subst (λ b. NamesBlocks (get_or told i 0) b (is_walled_in before i)) (sym is_b) (so_far.rest i (omega arith) tile)) in
    renewed_next i c.renew.result c.renew.new.self before (joined set other) told words tile (record { rows = all.rows; blocks = all.blocks })
    (named_again set other i c.window_in-window.result c.others_at-beside.result.rows c.others_at-beside.result.blocks.now (sides_of set other (option_copied c.args.others) others) c.shows_lattice.ensures.sized tile c.window_in-window.ensures
    (c.others_at-beside.ensures set other c.shows_lattice.ensures tile others) before c.args.near.0 c.args.near.1 word c.renew.result b c.renew.new.self sides differ c.renew.ensures were) so_far
