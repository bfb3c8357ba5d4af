use Rattle.std.proofs.Common.{◌∙◌, ap, ap₂, sym, subst}
use Rattle.gas_terms.specs.Cells.{Cells, joined}
use Rattle.gas_plane.specs.Planes.{HasNone}
use Rattle.phase_step.proofs.Together.{words_alike}
use Rattle.phase_step.proofs.steps.solids.Solids.copy.Goals as goal

pub invariant_of-result : goal.invariant_of-result
invariant_of-result c =
    let s = c.args.self.now in
    let w = c.in_ok-walls.ensures in
    let o = c.in_ok-obstacles.ensures in
    let of_o = c.in_ok-of_obstacles.ensures in
    let of_all = c.in_ok-of_all.ensures in
    record {
      sides = record { wide = ap (λ (c : Cells). c.width) o ∙ (s.sides.wide ∙ sym (ap (λ (c : Cells). c.width) w)); high = ap (λ (c : Cells). c.height) o ∙ (s.sides.high ∙ sym (ap (λ (c : Cells). c.height) w)) };
      no_walls = λ e. subst HasNone (sym w) (s.no_walls e);
      no_obstacles = λ e. subst HasNone (sym o) (s.no_obstacles e);
      obstructed = words_alike s.obstacles c.in_ok-obstacles.obstacles _ _ _ _ o of_o.0 of_o.1 s.obstructed;
      walled = words_alike (joined s.walls s.obstacles) (joined c.in_ok-walls.walls c.in_ok-obstacles.obstacles) _ _ _ _ (ap₂ joined w o) of_all.0 of_all.1 s.walled;
    }
