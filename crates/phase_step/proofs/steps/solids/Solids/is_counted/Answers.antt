use Rattle.std.proofs.Common.{◌≡◌, Bool, true, false, ◌&&◌, ◌||◌, arith}
use Rattle.phase_step.proofs.SolidBlocks.{none_walled}
use Rattle.phase_step.proofs.steps.solids.Solids.is_counted.Goals as goal

-- no account that is kept is of a set that may have cells
uncounted : (a b c d : Bool) → ((a && b) || (c && d)) ≡ false → (a ≡ true → b ≡ false) × (c ≡ true → d ≡ false)
uncounted a b c d none = grind arith

pub returns : goal.returns
returns c = λ none.
    let s = c.args.self.now in
    let absent = uncounted c.args.counted.walls s.some_walls c.args.counted.obstacles s.some_obstacles none in
    record {
      walls = λ e. none_walled s.walls c.shows_lattice.ensures (s.no_walls (absent.0 e));
      obstacles = λ e. none_walled s.obstacles c.shows_lattice-2.ensures (s.no_obstacles (absent.1 e));
    }
