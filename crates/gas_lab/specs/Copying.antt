-- What a copy of a laboratory's gas is.
use Rattle.std.specs.Prelude.{◌≡◌, length, Result, Ok, Err}
use Rattle.std.specs.declared.alloc.AllocError.{AllocError as NoMemory}
use Rattle.gas_terms.specs.Laboratory.{Laboratory}
use Rattle.gas_lab.specs.declared.door.Copied.{Copied}

-- what a copy of the laboratory holds
abbrev pub copy_of : Laboratory → Copied
copy_of lab = record { gas = lab.gas; entries = length lab.journal }

-- From old a copy may be given so, and leave new: memory may be refused.
abbrev pub Copies : Laboratory → Result Copied NoMemory → Laboratory → Type 0
Copies old (Ok copied) new = (copied ≡ copy_of old) × (new ≡ old)
Copies old (Err e) new = new ≡ old
