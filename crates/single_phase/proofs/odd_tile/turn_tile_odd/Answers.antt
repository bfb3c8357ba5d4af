use Rattle.std.proofs.Common.{false, sym}
use Rattle.block_rule.specs.Around.{is_walled_at}
use Rattle.block_rule.specs.TileBlocks.{walled_by}
use Rattle.block_rule.proofs.BlockNames.{names_same, nothing_named, zero_words}
use Rattle.block_rule.proofs.NamedBlocks.{nothing_given, words_given}
use Rattle.single_phase.proofs.odd_tile.turn_tile_odd.Goals as goal
use Rattle.single_phase.proofs.odd_tile.turn_tile_odd.Goals.{in-Some, in-None}

pub returns : goal.returns
returns c = λ window solid seen given.
    c.turned_rows.ensures window solid seen.tile seen.round
    (elim c.match-walled.branch [
      | in-Some w ↦ rw w.named-is (words_given c.args.walled w.in-Some.set (walled_by solid) w.in-Some.is given).odd
      | in-None w ↦
          rw w.named-is
          (names_same 0 zero_words (λ p x y. is_walled_at p (λ _ _. false) x y) (walled_by solid) (λ p x y two h k. sym (nothing_given c.args.walled (walled_by solid) w.in-None.is given p two x y h k)) nothing_named).odd
    ])
