use Rattle.std.proofs.Common.{◌≡◌, ◌-◌, ◌≤◌}
use Rattle.gas_terms.specs.Cells.{Cells}
use Rattle.block_rule.specs.Accounts.{counted_of}
use Rattle.phase_step.specs.Runs.{tiles_take}
use Rattle.phase_step.specs.Parts.{AreTilesOf}
use Rattle.phase_step.proofs.parts.counting.count_tiles.Given as goal

abbrev pub invariant-loop-i : goal.invariant-loop-i
invariant-loop-i l =
    let s = l.fn.counting.known.solids.now in
    let own = l.fn.own in
    record {
      from : own.first ≤ l.i;
      took : (lattice : Cells) → AreTilesOf own s.walls l.fn.particles lattice → l.took ≡ counted_of l.fn.counting.counted (tiles_take l.fn.parity lattice s.walls s.obstacles own.there (l.i - own.first));
    }
