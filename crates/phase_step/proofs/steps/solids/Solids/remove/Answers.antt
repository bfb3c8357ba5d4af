use Rattle.std.proofs.Common.{◌∙◌, ap, ap₂, sym}
use Rattle.gas_terms.specs.Cells.{Cells, HasSidesOf, joined}
use Rattle.phase_step.specs.SolidBlocks.{AreBlocksOf}
use Rattle.phase_step.proofs.SolidBlocks.{cleared_differs, still_none}
use Rattle.phase_step.proofs.Together.{both_cleared, tiles_alike}
use Rattle.phase_step.proofs.steps.solids.Solids.remove.Goals as goal
use Rattle.phase_step.proofs.steps.solids.Solids.remove.Goals.{After-clear-2, After-renew_alone}

-- walls and obstacles as they are now, and as they were
walls_before : (c : After-clear-2) → HasSidesOf c.args.self.now.walls c.clear.new.self
walls_before c = record { wide = sym (ap (λ (c : Cells). c.width) c.clear.ensures); high = sym (ap (λ (c : Cells). c.height) c.clear.ensures) }

obstacles_before : (c : After-clear-2) → HasSidesOf c.args.self.now.obstacles c.clear-2.new.self
obstacles_before c = record { wide = sym (ap (λ (c : Cells). c.width) c.clear-2.ensures); high = sym (ap (λ (c : Cells). c.height) c.clear-2.ensures) }

sides : (c : After-clear-2) → HasSidesOf c.clear-2.new.self c.clear.new.self
sides c =
    let s = c.args.self.now in
    let w = walls_before c in
    let o = obstacles_before c in
    record { wide = sym o.wide ∙ (s.sides.wide ∙ w.wide); high = sym o.high ∙ (s.sides.high ∙ w.high) }

pub renew_alone-requires : goal.renew_alone-requires
renew_alone-requires c =
    let s = c.args.self.now in
    tiles_alike s.obstacles c.clear-2.new.self s.of_obstacles.rows.items s.of_obstacles.blocks.items (obstacles_before (goal.at.renew_alone-requires c).After-clear-2) s.obstructed.all

obstructed : (c : After-renew_alone) → AreBlocksOf c.clear-2.new.self c.renew_alone.new.words.rows.items c.renew_alone.new.words.blocks.items
obstructed c = let s = c.args.self.now in c.renew_alone.ensures s.obstacles (cleared_differs c.args.area s.obstacles c.clear-2.new.self c.clear-2.ensures) s.obstructed

pub renew-requires : goal.renew-requires
renew-requires c =
    let s = c.args.self.now in
    let after = (goal.at.renew-requires c).After-clear-2 in
    let now = (obstructed (goal.at.renew-requires c).After-renew_alone).all in
    let words = c.renew_alone.new.words in
    record {
      others = tiles_alike c.clear-2.new.self c.clear.new.self words.rows.items words.blocks.items (sides after) now;
      all = tiles_alike s.walls c.clear.new.self s.of_all.rows.items s.of_all.blocks.items (walls_before after) (record { rows = s.walled.all.rows; blocks = s.walled.all.blocks });
    }

pub invariant_of-self : goal.invariant_of-self
invariant_of-self c =
    let s = c.args.self.now in
    let of = sides (goal.at.invariant_of-self c).After-clear-2 in
    let now = obstructed (goal.at.invariant_of-self c).After-renew_alone in
    let before = joined s.walls s.obstacles in
    record {
      sides = of;
      no_walls = λ e. still_none s.walls c.clear.new.self c.args.area s.some_walls c.clear.ensures s.no_walls (c.may_have_some-self.ensures e);
      no_obstacles = λ e. still_none s.obstacles c.clear-2.new.self c.args.area s.some_obstacles c.clear-2.ensures s.no_obstacles (c.may_have_some-self-2.ensures e);
      obstructed = now;
      walled = c.renew.ensures before c.clear-2.new.self (of, now)
          (cleared_differs c.args.area before (joined c.clear.new.self c.clear-2.new.self) (ap₂ joined c.clear.ensures c.clear-2.ensures ∙ sym (both_cleared s.walls s.obstacles c.args.area s.sides))) s.walled;
    }
