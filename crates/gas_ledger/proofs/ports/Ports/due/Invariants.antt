use Rattle.std.proofs.Common.{◌≡◌, ◌≤◌, length, take}
use Rattle.gas_ledger.specs.PortLists.{due_areas}
use Rattle.gas_ledger.proofs.ports.Ports.due.Given as goal

abbrev pub invariant-loop-source : goal.invariant-loop-source
invariant-loop-source l =
    record {
      so_far : l.due ≡ due_areas l.tick (take l.source-index l.source-items);
      few : length l.due ≤ l.source-index;
    }
