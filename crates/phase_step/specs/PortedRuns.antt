-- Steps of a gas with ports, one after another: a run of phases after each of which the ports act.
use Rattle.std.specs.Prelude.{ℕ, not, ◌&&◌, ◌||◌, pos, ◌+ℤ◌}
use Rattle.gas_terms.specs.Velocity.{parity}
use Rattle.gas_terms.specs.Gas.{Gas, solid, is_drained, is_filled}
use Rattle.gas_terms.specs.Accounts.{with_taken, with_moved}
use Rattle.gas_terms.specs.BookedGas.{BookedGas}
use Rattle.gas_terms.specs.declared.accounts.Took.{Took}
use Rattle.phase_step.specs.Actions.{Leaves, after_with, flow_with}
use Rattle.gas_terms.specs.declared.accounts.Moved.{Moved}

-- what the ports leave after phase k, at the tick that it leads to
abbrev pub left_by_ports : Gas → ℕ → Leaves
left_by_ports g k x y held =
    let there = record g { tick = g.tick +ℤ pos k +ℤ pos 1 } in (held && not (is_drained there x y)) || is_filled there x y

-- a gas n ticks later, what walls and obstacles took on the way, and what the ports brought in and took out
abbrev pub gas_stepped : ℕ → Gas → Gas
gas_stepped n g =
    record g { tick = g.tick +ℤ pos n; particles = after_with (parity g.tick) (solid g) (left_by_ports g) g.particles n }

abbrev pub steps_take : ℕ → Gas → Took
steps_take n g = (flow_with (parity g.tick) g.walls g.obstacles (left_by_ports g) g.particles n).took

abbrev pub steps_move : ℕ → Gas → Moved
steps_move n g = (flow_with (parity g.tick) g.walls g.obstacles (left_by_ports g) g.particles n).moved

-- the gas with its ledger n ticks later
abbrev pub stepped_on : ℕ → BookedGas → BookedGas
stepped_on n b =
    record { gas = gas_stepped n b.gas; ledger = with_moved (with_taken b.ledger (steps_take n b.gas)) (steps_move n b.gas) }
