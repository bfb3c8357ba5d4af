-- Reading from left to right, with the first fault that is met.
use Rattle.std.specs.Prelude.{◌≡◌, IsOk, ℕ, zero, suc, ◌*◌, ◌/◌, ◌&&◌, ◌==◌, nat_lt, nat_le, Bool, ℤ, List, [], ◌∷◌, ◌++◌, length, take, drop, slice_index, Result, Ok, Err, if◌then◌else◌, bytes_eq}
use Rattle.std.specs.Int.{w16, w64, from_be_bytes, cast_signed}
use Rattle.gas_terms.specs.Cells.{Cells, Extent, Rectangle, cells_where, most_side, is_size, lies_within}
use Rattle.gas_terms.specs.Rows.{row_has}
use Rattle.gas_terms.specs.Commands.{is_tick, is_period}
use Rattle.gas_terms.specs.Gas.{Gas, Source, most_ports}
use Rattle.gas_ledger.specs.Gases.{gas_of, no_cells_of_size}
use Rattle.gas_ledger.specs.PortLists.{PortLists}
use Rattle.gas_snapshot.specs.declared.version.Version.{Version}
use Rattle.gas_snapshot.specs.declared.version.Version.TheVariants.{One, Two}
use Rattle.gas_snapshot.specs.declared.fault.SnapFault.{SnapFault}
use Rattle.gas_snapshot.specs.declared.fault.SnapFault.TheVariants.{Short, Magic, Size, Tick, Port, Trailing, Memory}
use Rattle.gas_snapshot.specs.declared.fields.Head.{Head as HeadOfCode}
use Rattle.gas_snapshot.specs.Spelling.{magic, most_old_side}

infixl 10 ◌>>=◌
abbrev pub ◌>>=◌ : {A B : Type 0}
    → Result A SnapFault → (A → Result B SnapFault) → Result B SnapFault
(Ok x) >>= f = f x
(Err e) >>= f = Err e

-- A field of n bytes, and the bytes after it.
abbrev pub field_at : ℕ → List ℕ → Result (List ℕ × List ℕ) SnapFault
field_at n bytes = if nat_lt (length bytes) n then Err Short else Ok (take n bytes, drop n bytes)

-- the k-th number of a field
abbrev pub number : ℕ → List ℕ → ℕ
number k field = from_be_bytes w16 (take 2 (drop (2 * k) field))

-- What reads a field gives its value, and the bytes after it.
unfoldable pub magic_at : List ℕ → Result (Version × List ℕ) SnapFault
magic_at bytes = do
  field ← field_at 8 bytes
  if bytes_eq field.0 (magic One) then Ok (One, field.1)
      else if bytes_eq field.0 (magic Two) then Ok (Two, field.1) else Err Magic

abbrev pub greatest_side : Version → ℕ
greatest_side One = most_old_side
greatest_side Two = most_side

abbrev pub is_size_of : Version → Extent → Bool
is_size_of version size =
    is_size size && nat_le size.width (greatest_side version)
    && nat_le size.height (greatest_side version)

abbrev pub size_in : List ℕ → Extent
size_in field = record { width = number 0 field; height = number 1 field }

unfoldable pub size_at : Version → List ℕ → Result (Extent × List ℕ) SnapFault
size_at version bytes = do
  field ← field_at 4 bytes
  if is_size_of version (size_in field.0) then Ok (size_in field.0, field.1) else Err Size

abbrev pub tick_in : List ℕ → ℤ
tick_in field = cast_signed w64 (from_be_bytes w64 field)

unfoldable pub tick_at : List ℕ → Result (ℤ × List ℕ) SnapFault
tick_at bytes = do
  field ← field_at 8 bytes
  if is_tick (tick_in field.0) then Ok (tick_in field.0, field.1) else Err Tick

-- how many drains and how many sources
abbrev pub counts_in : List ℕ → ℕ × ℕ
counts_in field = (slice_index field 0, slice_index field 1)

abbrev pub are_few : ℕ × ℕ → Bool
are_few counts = nat_le counts.0 most_ports && nat_le counts.1 most_ports

unfoldable pub counts_at : List ℕ → Result ((ℕ × ℕ) × List ℕ) SnapFault
counts_at bytes = do
  field ← field_at 2 bytes
  if are_few (counts_in field.0) then Ok (counts_in field.0, field.1) else Err Port

abbrev pub area_in : List ℕ → Rectangle
area_in field =
    record { x = number 0 field; y = number 1 field; w = number 2 field; h = number 3 field }

unfoldable pub drain_at : Extent → List ℕ → Result (Rectangle × List ℕ) SnapFault
drain_at size bytes = do
  field ← field_at 8 bytes
  if lies_within size (area_in field.0) then Ok (area_in field.0, field.1) else Err Port

abbrev pub source_in : List ℕ → Source
source_in field = record { area = area_in field; period = number 4 field }

unfoldable pub source_at : Extent → List ℕ → Result (Source × List ℕ) SnapFault
source_at size bytes = do
  field ← field_at 10 bytes
  if lies_within size (area_in field.0) && is_period (number 4 field.0)
      then Ok (source_in field.0, field.1) else Err Port

-- a list of what was read, and one more
abbrev pub and_one : {A : Type 0}
    → List A → Result (A × List ℕ) SnapFault → Result (List A × List ℕ) SnapFault
and_one front read = do
  one ← read
  Ok (front ++ one.0 ∷ [], one.1)

-- so many fields of one kind
unfoldable pub many : {A : Type 0} → (List ℕ → Result (A × List ℕ) SnapFault)
    → ℕ → List ℕ → Result (List A × List ℕ) SnapFault
many one_at zero bytes = Ok ([], bytes)
many one_at (suc n) bytes = do
  first ← one_at bytes
  others ← many one_at n first.1
  Ok (first.0 ∷ others.0, others.1)

unfoldable pub ports_at : Extent → ℕ × ℕ → List ℕ → Result (PortLists × List ℕ) SnapFault
ports_at size counts bytes = do
  drains ← many (drain_at size) counts.0 bytes
  sources ← many (source_at size) counts.1 drains.1
  Ok (record { drains = drains.0; sources = sources.0 }, sources.1)

-- all that stands before the cells
pub record Head : Type 0 where
  pub version : Version
  pub size : Extent
  pub tick : ℤ
  pub ports : PortLists

-- the head of the code, with the ports
abbrev pub head_with : HeadOfCode → PortLists → Head
head_with h ports = record { version = h.version; size = h.size; tick = h.tick; ports = ports }

unfoldable pub head_at : List ℕ → Result (Head × List ℕ) SnapFault
head_at bytes = do
  version ← magic_at bytes
  size ← size_at version.0 version.1
  tick ← tick_at size.1
  counts ← counts_at tick.1
  ports ← ports_at size.0 counts.0 counts.1
  Ok (record { version = version.0; size = size.0; tick = tick.0; ports = ports.0 }, ports.1)

-- rows of whole bytes, the upper one first
abbrev pub cells_in : Extent → List ℕ → Cells
cells_in size field =
    cells_where size.width size.height (λ x y. row_has (drop (y * (size.width / 8)) field) x)

unfoldable pub cells_at : Extent → List ℕ → Result (Cells × List ℕ) SnapFault
cells_at size bytes = do
  field ← field_at (size.height * (size.width / 8)) bytes
  Ok (cells_in size field.0, field.1)

-- the first version has none
unfoldable pub obstacles_at : Version → Extent → List ℕ → Result (Cells × List ℕ) SnapFault
obstacles_at One size bytes = Ok (no_cells_of_size size, bytes)
obstacles_at Two size bytes = cells_at size bytes

-- how many sets of cells a version has, and what its third one is
abbrev pub layers : Version → ℕ
layers One = 2
layers Two = 3

abbrev pub obstacles_in : Version → Extent → List ℕ → Cells
obstacles_in One size bytes = no_cells_of_size size
obstacles_in Two size bytes = cells_in size bytes

-- the cells, and nothing after them
unfoldable pub body_at : Head → List ℕ → Result Gas SnapFault
body_at head bytes = do
  particles ← cells_at head.size bytes
  walls ← cells_at head.size particles.1
  obstacles ← obstacles_at head.version head.size walls.1
  if length obstacles.1 == 0
      then Ok (gas_of head.tick particles.0 walls.0 obstacles.0 head.ports) else Err Trailing

-- all of the bytes
unfoldable pub reading : List ℕ → Result Gas SnapFault
reading bytes = do
  head ← head_at bytes
  body_at head.0 head.1

-- What a function returned, seen by view, is what reading gives.
abbrev pub IsAsRead : {X Y : Type 0} → (X → Y) → Result X SnapFault → Result Y SnapFault → Type 0
IsAsRead view (Ok x) read = read ≡ Ok (view x)
IsAsRead view (Err e) read = read ≡ Err e

-- The same, but memory may run out where there is no fault.
abbrev pub Fails : {Y : Type 0} → SnapFault → Result Y SnapFault → Type 0
Fails Memory read = IsOk read
Fails f read = read ≡ Err f

abbrev pub Gives : {Y : Type 0} → Result Y SnapFault → Result Y SnapFault → Type 0
Gives (Ok y) read = read ≡ Ok y
Gives (Err e) read = Fails e read
