-- What the program may be set up with.
use Rattle.std.specs.Prelude.{ℕ, ◌≤◌, ⊤}
use Rattle.gas_terms.specs.Laboratory.{most_entries}
use Rattle.phase_strips.specs.Limits.{most_workers}
use Rattle.gas_run.specs.declared.setup.Setup.{Setup}
use Rattle.gas_run.specs.declared.setup.Service.{Service}
use Rattle.gas_run.specs.declared.setup.Service.TheVariants.{Run, Serve}

-- how many sessions a server has at most: `MOST_SESSIONS`
abbrev pub most_sessions : ℕ
most_sessions = 64

-- There is at least one worker, and the journal has room for at least one entry. The type of a size keeps its own range.
pub record IsInRange (setup : Setup) : Type 0 where
  pub some_workers : 1 ≤ setup.workers
  pub few_workers : setup.workers ≤ most_workers
  pub some_entries : 1 ≤ setup.cap
  pub few_entries : setup.cap ≤ most_entries

-- A server has at least one session.
abbrev pub HasSessions : Service → Type 0
HasSessions Run = ⊤
HasSessions (Serve address sessions) = (1 ≤ sessions) × (sessions ≤ most_sessions)
