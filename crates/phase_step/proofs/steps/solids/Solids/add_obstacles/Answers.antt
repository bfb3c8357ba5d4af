use Rattle.std.proofs.Common.{◌∙◌, ap, sym}
use Rattle.gas_terms.specs.Cells.{Cells, HasSidesOf, joined}
use Rattle.phase_step.specs.SolidBlocks.{AreBlocksOf}
use Rattle.phase_step.proofs.SolidBlocks.{filled_differs}
use Rattle.phase_step.proofs.Together.{obstacles_filled, tiles_alike}
use Rattle.phase_step.proofs.steps.solids.Solids.add_obstacles.Goals as goal
use Rattle.phase_step.proofs.steps.solids.Solids.add_obstacles.Goals.{After-fill, After-renew_alone}

-- the obstacles as they are now, and as they were
now_before : (c : After-fill) → HasSidesOf c.fill.new.self c.args.self.now.obstacles
now_before c = record { wide = ap (λ (c : Cells). c.width) c.fill.ensures; high = ap (λ (c : Cells). c.height) c.fill.ensures }

before_now : (c : After-fill) → HasSidesOf c.args.self.now.obstacles c.fill.new.self
before_now c = let same = now_before c in record { wide = sym same.wide; high = sym same.high }

sides : (c : After-fill) → HasSidesOf c.fill.new.self c.args.self.now.walls
sides c = let same = now_before c in let s = c.args.self.now in record { wide = same.wide ∙ s.sides.wide; high = same.high ∙ s.sides.high }

pub renew_alone-requires : goal.renew_alone-requires
renew_alone-requires c =
    let s = c.args.self.now in
    tiles_alike s.obstacles c.fill.new.self s.of_obstacles.rows.items s.of_obstacles.blocks.items (before_now (goal.at.renew_alone-requires c).After-fill) s.obstructed.all

obstructed : (c : After-renew_alone) → AreBlocksOf c.fill.new.self c.renew_alone.new.words.rows.items c.renew_alone.new.words.blocks.items
obstructed c = let s = c.args.self.now in c.renew_alone.ensures s.obstacles (filled_differs c.args.area s.obstacles c.fill.new.self c.fill.ensures) s.obstructed

pub renew-requires : goal.renew-requires
renew-requires c =
    let s = c.args.self.now in
    let now = (obstructed (goal.at.renew-requires c).After-renew_alone).all in
    let words = c.renew_alone.new.words in
    record { others = tiles_alike c.fill.new.self s.walls words.rows.items words.blocks.items (sides (goal.at.renew-requires c).After-fill) now; all = record { rows = s.walled.all.rows; blocks = s.walled.all.blocks } }

pub invariant_of-self : goal.invariant_of-self
invariant_of-self c =
    let s = c.args.self.now in
    let of = sides (goal.at.invariant_of-self c).After-fill in
    let now = obstructed (goal.at.invariant_of-self c).After-renew_alone in
    let before = joined s.walls s.obstacles in
    record {
      sides = of;
      no_walls = s.no_walls;
      no_obstacles = λ e. absurd (cc);
      obstructed = now;
      walled = c.renew.ensures before c.fill.new.self (of, now) (filled_differs c.args.area before (joined s.walls c.fill.new.self) (ap (joined s.walls) c.fill.ensures ∙ sym (obstacles_filled s.walls s.obstacles c.args.area s.sides))) s.walled;
    }
