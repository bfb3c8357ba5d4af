-- The numbers of the program's exit statuses.
use Rattle.std.specs.Prelude.{ℕ}
use Rattle.gas_run.specs.declared.status.Status.{Status}
use Rattle.gas_run.specs.declared.status.Status.TheVariants.{Done, Failed, NoPlan, NotLoaded, NoMemory, BadLine}

abbrev pub status_number : Status → ℕ
status_number Done = 0
status_number Failed = 1
status_number NoPlan = 2
status_number NotLoaded = 3
status_number NoMemory = 4
status_number BadLine = 5
