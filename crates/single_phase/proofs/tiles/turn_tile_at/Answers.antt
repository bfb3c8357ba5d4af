use Rattle.std.proofs.Common.{◌≡◌, ◌<◌, false, sym, ◌∙◌, subst, pos, arith}
use Rattle.std.proofs.Math.Nat.{mod-lt}
use Rattle.gas_terms.specs.Cells.{Cells, HasSidesOf, joined, extent, tile_rectangle}
use Rattle.gas_plane.specs.Tiles.{AreRowsRound, IsColumnOf}
use Rattle.gas_plane.proofs.Places.{wide}
use Rattle.gas_plane.proofs.Rings.{row_in}
use Rattle.block_rule.specs.Windows.{taken_in}
use Rattle.block_rule.specs.TileBlocks.{NamesBlocks}
use Rattle.phase_step.specs.SolidBlocks.{is_walled_in}
use Rattle.phase_step.specs.Turns.{IsTileAfter}
use Rattle.phase_step.proofs.Sides.{sized_as, tiles_as}
use Rattle.block_rule.proofs.BlockNames.{nothing_named}
use Rattle.phase_step.proofs.SolidBlocks.{named_beside}
use Rattle.single_phase.proofs.NamedTiles.{named_alone, named_on}
use Rattle.single_phase.proofs.tiles.turn_tile_at.Goals as goal
use Rattle.single_phase.proofs.tiles.turn_tile_at.Goals.{After-count_tile-took}

pub rows_round-rows-requires : goal.rows_round-rows-requires
rows_round-rows-requires c = let row = row_in c.args.old.now c.args.at.tile c.requires.lattice c.requires.tile in let e = c.requires.position.row in omega (arith, row, e)

pub turn_odd_tile-requires-clause-column : goal.turn_odd_tile-requires-clause-column
turn_odd_tile-requires-clause-column c =
    let less = mod-lt c.args.at.tile (wide (extent c.args.old.now) c.requires.lattice.sized).some in
    omega (arith, less, c.requires.position.column, c.rows_round-rows.ensures.rows.across)

module _ (c : After-count_tile-took) where
  abbrev old : Cells
  old = c.args.old.now

  abbrev w : Cells
  w = c.args.walls.now

  abbrev o : Cells
  o = c.args.obstacles.now

  of_obstacles : NamesBlocks c.tile_blocks-rows.result.0 c.tile_blocks-rows.result.1 (is_walled_in o c.args.at.tile)
  of_obstacles =
      named_on o old c.args.at.tile c.tile_blocks-rows.result.0 c.tile_blocks-rows.result.1 c.window_in.result c.requires.obstacles c.requires.lattice.sized c.requires.tile c.window_in.ensures
      (λ window seen. named_alone c.tile_blocks-rows.result.0 c.tile_blocks-rows.result.1 window (c.tile_blocks-rows.ensures window (λ _ _. false) seen nothing_named))

  walled : NamesBlocks c.tile_blocks-rows-2.result.0 c.tile_blocks-rows-2.result.1 (is_walled_in (joined w o) c.args.at.tile)
  walled =
      let of_w = c.requires.walls in
      let of_o = c.requires.obstacles in
      named_beside w o c.args.at.tile c.window_in-2.result c.tile_blocks-rows.result.0 c.tile_blocks-rows.result.1 (record { wide = of_o.wide ∙ sym of_w.wide; high = of_o.high ∙ sym of_w.high })
      (sized_as old w (record { wide = sym of_w.wide; high = sym of_w.high }) c.requires.lattice.sized) (subst (λ n. c.args.at.tile < n) (tiles_as old w (record { wide = sym of_w.wide; high = sym of_w.high })) c.requires.tile) c.window_in-2.ensures of_obstacles
      c.tile_blocks-rows-2.result.0 c.tile_blocks-rows-2.result.1 c.tile_blocks-rows-2.ensures

  took : c.count_tile-took.result ≡ taken_in (pos c.args.parity) old w o (tile_rectangle old c.args.at.tile)
  took =
      c.count_tile-took.ensures old w o c.args.at.tile c.requires.lattice c.requires.tile c.requires.walls c.requires.obstacles (record { of_all = walled; of_obstacles = of_obstacles }) c.tile-tile.ensures

  sides : HasSidesOf (joined w o) old
  sides = record { wide = c.requires.walls.wide; high = c.requires.walls.high }

pub returns-then-parity-eq0 : goal.returns-then-parity-eq0
returns-then-parity-eq0 c =
    let b = (goal.at.returns-then-parity-eq0 c).After-count_tile-took in
    let i = c.args.at.tile in
    record {
      cells =
          subst (λ p. IsTileAfter p (old b) (joined (w b) (o b)) i c.turn_even_tile.new.tile) (sym c.if-parity-eq0.true)
          (c.turn_even_tile.ensures (old b) (joined (w b) (o b)) i c.requires.lattice.sized c.requires.tile (sides b) (walled b) c.tile-tile.ensures);
      took = took b;
    }

pub returns-else-parity-eq0 : goal.returns-else-parity-eq0
returns-else-parity-eq0 c =
    let b = (goal.at.returns-else-parity-eq0 c).After-count_tile-took in
    let i = c.args.at.tile in
    let column : IsColumnOf c.rows_round-rows.result c.args.at.column (old b) i =
    record {
      lattice = c.requires.lattice;
      within = c.requires.tile;
      rows = subst (λ row. AreRowsRound c.rows_round-rows.result (old b) row) c.requires.position.row c.rows_round-rows.ensures.rows;
      place = c.requires.position.column;
    } in
    let e : 1 ≡ c.args.parity = omega arith in
    record {
      cells =
          subst (λ p. IsTileAfter p (old b) (joined (w b) (o b)) i c.turn_odd_tile.new.out) e
          (c.turn_odd_tile.ensures (old b) (joined (w b) (o b)) i column (sides b) (walled b));
      took = took b;
    }
