-- What a load gives.
use Rattle.std.specs.Prelude.{◌≡◌, ◌≤◌, ◌⊎◌, ℕ, List, length, Option, Result, Ok, Err}
use Rattle.std.specs.Io.KnownBytes.{Consumes, IsAtEnd}
use Rattle.gas_terms.specs.Gas.{Gas}
use Rattle.gas_snapshot.specs.declared.fault.SnapFault.{SnapFault}
use Rattle.gas_snapshot.specs.declared.fault.SnapFault.TheVariants.{Memory}
use Rattle.gas_snapshot.specs.Reading.{reading, Gives}
use Rattle.gas_run.specs.declared.load.LoadFault.{LoadFault}
use Rattle.gas_run.specs.declared.load.LoadFault.TheVariants.{Read, Snap}

-- one byte more than the longest snapshot has
abbrev pub most : ℕ
most = 6291767

-- These bytes were read: the reader is at its end, or as many bytes are there as may be.
abbrev pub IsRead : Option (List ℕ) → Option (List ℕ) → List ℕ → Type 0
IsRead unread_old unread_new bytes =
    Consumes unread_old unread_new bytes × (length bytes ≤ most)
    × (IsAtEnd unread_new ⊎ (length bytes ≡ most))

abbrev pub loaded : Result Gas SnapFault → Result Gas LoadFault
loaded (Ok gas) = Ok gas
loaded (Err fault) = Err (Snap fault)

-- A read failed; or memory ran out before the first read; or what was read is decoded, for which memory may run out too.
abbrev pub Loads : {R : Type 0} → (R → Option (List ℕ)) → R → R → Result Gas LoadFault → Type 0
Loads remaining old new result =
    (result ≡ Err Read) ⊎ ((result ≡ Err (Snap Memory)) × (new ≡ old))
    ⊎ ((bytes : List ℕ) × (decoded : Result Gas SnapFault)
    × IsRead (remaining old) (remaining new) bytes
    × Gives decoded (reading bytes) × (result ≡ loaded decoded))
