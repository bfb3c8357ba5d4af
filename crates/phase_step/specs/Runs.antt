-- Runs of phases, one after another, whose parities alternate.
use Rattle.std.specs.Prelude.{ℕ, zero, suc, ◌+◌, ◌*◌, ◌/◌, ◌%◌, pos, ◌+ℤ◌, ◌-ℤ◌}
use Rattle.gas_terms.specs.Velocity.{parity}
use Rattle.gas_terms.specs.Cells.{Cells, joined, tile_rectangle}
use Rattle.gas_terms.specs.Gas.{Gas, streamed, solid}
use Rattle.gas_terms.specs.Accounts.{taken, took_plus, with_taken, with_given_back}
use Rattle.gas_terms.specs.BookedGas.{BookedGas}
use Rattle.gas_terms.specs.declared.accounts.Took.{Took}
use Rattle.block_rule.specs.Windows.{taken_in}
use Rattle.phase_step.specs.Amounts.{Amounts, sum_first}

-- the parity of phase k of a run whose first phase has parity p
abbrev pub parity_at : ℕ → ℕ → ℕ
parity_at p k = (p + k) % 2

-- the particles after so many phases
abbrev pub particles_after : ℕ → Cells → Cells → ℕ → Cells
particles_after p solid particles zero = particles
particles_after p solid particles (suc k) = streamed (parity_at p k) (particles_after p solid particles k) solid

-- nothing that is taken, and how what is taken adds up
abbrev pub nothing_taken : Took
nothing_taken = record { walls = record { x = pos 0; y = pos 0 }; obstacles = record { x = pos 0; y = pos 0 } }

abbrev pub takings : Amounts Took
takings = record { none = nothing_taken; plus = took_plus }

-- what walls and obstacles take in so many phases
abbrev pub run_takes : ℕ → Cells → Cells → Cells → ℕ → Took
run_takes p walls obstacles particles n =
    sum_first takings (λ k. taken (parity_at p k) (particles_after p (joined walls obstacles) particles k) walls obstacles) n

-- what they take in a phase of parity p, of the particles of n tiles from tile `first` on
abbrev pub tiles_take : ℕ → Cells → Cells → Cells → ℕ → ℕ → Took
tiles_take p particles walls obstacles first n =
    sum_first takings (λ i. taken_in (pos p) particles walls obstacles (tile_rectangle particles (first + i))) n

-- and of those of a row of tiles
abbrev pub row_take : ℕ → Cells → Cells → Cells → ℕ → Took
row_take p particles walls obstacles row = let across = particles.width / 64 in tiles_take p particles walls obstacles (row * across) across

-- what they take of a row in the phases of parity 0 and 1, and of all particles
abbrev pub row_takes : Cells → Cells → Cells → ℕ → Took
row_takes particles walls obstacles row =
    took_plus (row_take 0 particles walls obstacles row) (row_take 1 (streamed 0 particles (joined walls obstacles)) walls obstacles row)

abbrev pub both_taken : Cells → Cells → Cells → Took
both_taken particles walls obstacles =
    took_plus (taken 0 particles walls obstacles) (taken 1 (streamed 0 particles (joined walls obstacles)) walls obstacles)

-- a gas n ticks later, on which no port acted, and what walls and obstacles took on the way
abbrev pub gas_after : ℕ → Gas → Gas
gas_after n g = record g { tick = g.tick +ℤ pos n; particles = particles_after (parity g.tick) (solid g) g.particles n }

abbrev pub takes_after : ℕ → Gas → Took
takes_after n g = run_takes (parity g.tick) g.walls g.obstacles g.particles n

-- a gas n ticks earlier, and what walls and obstacles took on the way from there
abbrev pub gas_before : ℕ → Gas → Gas
gas_before n g = record g { tick = g.tick -ℤ pos n; particles = particles_after (parity (g.tick -ℤ pos 1)) (solid g) g.particles n }

abbrev pub takes_before : ℕ → Gas → Took
takes_before n g = run_takes (parity (g.tick -ℤ pos 1)) g.walls g.obstacles g.particles n

-- a run forward with its account, and one back
abbrev pub ran : ℕ → BookedGas → BookedGas
ran n b = record { gas = gas_after n b.gas; ledger = with_taken b.ledger (takes_after n b.gas) }

abbrev pub ran_back : ℕ → BookedGas → BookedGas
ran_back n b = record { gas = gas_before n b.gas; ledger = with_given_back b.ledger (takes_before n b.gas) }
