use Rattle.std.proofs.Common.{◌≤◌, ◌*◌, ◌/◌, ◌∙◌, refl, ap, inl, inr, arith}
use Rattle.gas_terms.specs.Cells.{Extent, joined, tile_count}
use Rattle.phase_step.specs.Others.{nothing_of}
use Rattle.phase_step.proofs.SolidBlocks.{zeros_are, renewed_starts, renewed_ends}
use Rattle.phase_step.proofs.steps.set_words.SetWords.of.Goals as goal

pub loop-i-init : goal.loop-i-init
loop-i-init c =
    let set = c.args.set.now in
    let words = c.in_ok-words.words in
    let count = c.tiles-tiles.ensures.tiles ∙ ap (λ (s : Extent). s.width / 64 * (s.height / 64)) c.size.ensures.extent in
    let are = zeros_are set c.tiles-tiles.result words.rows.items words.blocks.items c.size.ensures.lattice count c.in_ok-words.ensures.0 c.in_ok-words.ensures.1 in
    record {
      all = record { rows = are.all.rows; blocks = are.all.blocks };
      words = λ other _. renewed_starts (nothing_of set) (joined set other) words.rows.items words.blocks.items (record { wide = refl; high = refl }) are;
    }

pub loop-i-preserved : goal.loop-i-preserved
loop-i-preserved c =
    record {
      all = c.renew_tile.ensures.all;
      words = λ other are.
          c.renew_tile.ensures.words (nothing_of c.args.set.now) other are (record { wide = refl; high = refl }) (λ u v _ k far. absurd (elim far [ inl before ↦ omega (arith, before) | inr after ↦ omega (arith, after, k) ])) (c.loop-i.invariant.words other are);
    }

pub returns : goal.returns
returns c = λ other are.
    let set = c.args.set.now in
    let count = c.tiles-tiles.ensures.tiles ∙ ap (λ (s : Extent). s.width / 64 * (s.height / 64)) c.size.ensures.extent in
    let end : tile_count set ≤ c.loop-i.i = omega (arith, count, c.loop-i-test.false, c.loop-i.auto.i-end) in
    renewed_ends c.loop-i.i (nothing_of set) (joined set other) c.loop-i.words.rows.items c.loop-i.words.blocks.items end (record { rows = c.loop-i.invariant.all.rows; blocks = c.loop-i.invariant.all.blocks }) (c.loop-i.invariant.words other are)
