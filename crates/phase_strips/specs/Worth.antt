-- Which runs are made by strips.
use Rattle.std.specs.Prelude.{ℕ, ◌+◌, ◌-◌, ◌*◌, ◌/◌, Bool, ◌&&◌, nat_le, min}
use Rattle.gas_terms.specs.Cells.{Extent}
use Rattle.phase_strips.specs.Limits.{most_counted}

-- how many rows of tiles a worker turns at most: those of its strip
abbrev pub rows_each : ℕ → ℕ → ℕ
rows_each down workers = (down + workers - 1) / workers

-- how many tiles fewer a worker turns than one thread would, in n phases or as many of them as count
abbrev pub tiles_saved : Extent → ℕ → ℕ → ℕ
tiles_saved size workers n = size.width / 64 * (size.height / 64 - rows_each (size.height / 64) workers) * min n most_counted

-- the run has at least so many phases, and so many tiles fewer for each worker
abbrev pub is_worth_strips : ℕ → ℕ → Extent → ℕ → ℕ → Bool
is_worth_strips phases tiles size workers n = nat_le phases n && nat_le tiles (tiles_saved size workers n)
