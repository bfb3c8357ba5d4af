use Rattle.std.proofs.Common.{◌≡◌, ◌*◌}
use Rattle.gas_terms.specs.Cells.{HasSidesOf}
use Rattle.block_rule.specs.Accounts.{counted_of}
use Rattle.phase_step.specs.Runs.{particles_after, run_takes}
use Rattle.phase_step.specs.Solid.{all_of}
use Rattle.phase_step.proofs.parts.sweeping.turn_from_even.Given as goal

abbrev pub invariant-loop-pair : goal.invariant-loop-pair
invariant-loop-pair l =
    let s = l.fn.counting.known.solids.now in
    record {
      made : l.particles ≡ particles_after 0 (all_of s) l.fn.particles (2 * l._pair);
      sides : HasSidesOf l.particles l.fn.particles;
      took : l.took ≡ counted_of l.fn.counting.counted (run_takes 0 s.walls s.obstacles l.fn.particles (2 * l._pair));
    }
