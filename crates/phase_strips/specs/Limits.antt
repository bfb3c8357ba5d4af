-- How large teams and lists are.
use Rattle.std.specs.Prelude.{ℕ}

-- how many workers a team has at most: `MOST_WORKERS`
abbrev pub most_workers : ℕ
most_workers = 16

-- how many exchanges are listed at once: `LISTED`
abbrev pub most_listed : ℕ
most_listed = 256

-- in how many phases of a run tiles are counted, to see whether it is worth strips: `COUNTED_PHASES`
abbrev pub most_counted : ℕ
most_counted = 512
