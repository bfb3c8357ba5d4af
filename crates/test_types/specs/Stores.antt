-- What a store in memory keeps.
use Rattle.std.specs.Prelude.{ℕ, List, map}
use Rattle.test_types.specs.declared.faults.Store.{Store}

-- the snapshots that it took, in order
abbrev pub kept_by : Store → List (List ℕ)
kept_by store = map (λ bytes. bytes.items) store.kept.items
