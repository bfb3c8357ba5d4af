-- Words that are made of one tile's windows name the blocks of walls and obstacles.
use Rattle.std.proofs.Common.{◌≡◌, ℕ, ◌<◌, Bool, true, false, ◌||◌, sym, ◌∙◌, arith}
use Rattle.gas_terms.specs.Cells.{Cells, HasSidesOf, extent, is_size, tile_count, tile_rectangle}
use Rattle.block_rule.specs.Around.{either, is_walled_at}
use Rattle.block_rule.specs.Shown.{IsSeenIn}
use Rattle.block_rule.specs.TileBlocks.{NamesBlocks, walled_by}
use Rattle.block_rule.specs.declared.Window.{Window}
use Rattle.block_rule.specs.declared.blocks_in_tile.TileBlocks.{TileBlocks}
use Rattle.block_rule.proofs.Blank.{walled_either}
use Rattle.block_rule.proofs.BlockNames.{names_same}
use Rattle.phase_step.specs.SolidBlocks.{is_walled_in}
use Rattle.phase_step.specs.Turns.{IsWindowFrom}
use Rattle.phase_step.proofs.Sides.{sized_as, tiles_as}
use Rattle.phase_step.proofs.SolidBlocks.{named_here}

or_false : (a : Bool) → (a || false) ≡ a
or_false a = grind arith

pub named_alone : (row_pairs : ℕ) (b : TileBlocks) (window : ℕ → ℕ → Bool) → NamesBlocks row_pairs b (walled_by (either window (λ _ _. false))) → NamesBlocks row_pairs b (walled_by window)
named_alone row_pairs b window =
    names_same row_pairs b (walled_by (either window (λ _ _. false))) (walled_by window) (λ p x y _ _ _. walled_either p window (λ _ _. false) x y ∙ or_false (is_walled_at p window x y))

-- on the torus of another set
pub named_on : (set old : Cells) (i told : ℕ) (b : TileBlocks) (w : Window) → HasSidesOf set old → is_size (extent old) ≡ true → i < tile_count old → IsWindowFrom w set (tile_rectangle set i).x (tile_rectangle set i).y → ((window : ℕ → ℕ → Bool) → IsSeenIn w window → NamesBlocks told b (walled_by window))
    → NamesBlocks told b (is_walled_in set i)
named_on set old i told b w sides sized within from named =
    let back : HasSidesOf old set = record { wide = sym sides.wide; high = sym sides.high } in
    named_here set i told b w (sized_as old set back sized) (omega (arith, within, tiles_as set old sides)) from named
