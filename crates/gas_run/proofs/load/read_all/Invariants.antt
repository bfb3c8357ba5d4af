use Rattle.std.proofs.Common.{◌-◌, ◌≤◌, length, vec_capacity}
use Rattle.std.specs.Io.KnownBytes.{Consumes}
use Rattle.gas_run.specs.Loading.{most}
use Rattle.gas_run.proofs.load.read_all.Given as goal

-- so far the reader gave what there is
abbrev pub invariant-loop-page : goal.invariant-loop-page
invariant-loop-page g l = record {
  read : Consumes (g.R.Read.remaining l.initial.reader) (g.R.Read.remaining l.reader) l.bytes.items;
  short : length l.bytes.items ≤ most;
  room : most ≤ vec_capacity l.bytes;
}

abbrev pub decreases-loop-page : goal.decreases-loop-page
decreases-loop-page g l = most - length l.bytes.items
