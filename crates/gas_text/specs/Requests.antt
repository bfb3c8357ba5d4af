-- Requests: their words, what a line asks or the first of its faults, and the text of a command.
use Rattle.std.specs.Prelude.{◌≡◌, true, ℕ, ◌/◌, ◌^◌, ◌<◌, ◌==◌, nat_lt, ◌⊎◌, Bool, if◌then◌else◌, List, [], ◌∷◌, ◌++◌, length, map, take, drop, codes, Option, Result, Ok, Err}
use Rattle.std.specs.Fmt.{decimal}
use Rattle.std.specs.List.{find}
use Rattle.std.specs.Option.{ok_or}
use Rattle.std.specs.Str.{bytes_eq}
use Rattle.hex.specs.Hex.{decode_sized, encode_lower, IsBytes}
use Rattle.hex.specs.declared.error.FromHexError.{FromHexError}
use Rattle.gas_terms.specs.Cells.{Extent, Rectangle, lies_within}
use Rattle.gas_terms.specs.Commands.{is_step_count, is_period, fits}
use Rattle.gas_terms.specs.declared.command.Command.{Command}
use Rattle.gas_terms.specs.declared.command.Command.TheVariants as commands
use Rattle.gas_terms.specs.declared.refusal.Refusal.{Refusal}
use Rattle.gas_terms.specs.declared.refusal.Refusal.TheVariants as refusals
use Rattle.gas_text.specs.declared.request.Request.{Request}
use Rattle.gas_text.specs.declared.request.Request.TheVariants as requests
use Rattle.gas_text.specs.declared.verb.Verb.{Verb}
use Rattle.gas_text.specs.declared.verb.Verb.TheVariants.{Put, Erase, Wall, Block, Unwall, Drain, Probe, Source, Row, Step, Back, Read, Entry, Unport, Tally, Ledger, Save, Quit}
use Rattle.gas_text.specs.Words.{words, numbers_of, parted}

-- The words that name what is asked, and how many words follow each.
abbrev pub verb_word : Verb → List ℕ
verb_word Put = codes "put"
verb_word Erase = codes "erase"
verb_word Wall = codes "wall"
verb_word Block = codes "block"
verb_word Unwall = codes "unwall"
verb_word Drain = codes "drain"
verb_word Probe = codes "probe"
verb_word Source = codes "source"
verb_word Row = codes "row"
verb_word Step = codes "step"
verb_word Back = codes "back"
verb_word Read = codes "read"
verb_word Entry = codes "entry"
verb_word Unport = codes "unport"
verb_word Tally = codes "tally"
verb_word Ledger = codes "ledger"
verb_word Save = codes "save"
verb_word Quit = codes "quit"

abbrev pub verbs : List Verb
verbs =
    Put ∷ Erase ∷ Wall ∷ Block ∷ Unwall ∷ Drain ∷ Probe ∷ Source ∷ Row ∷ Step ∷ Back ∷ Read ∷ Entry
    ∷ Unport ∷ Tally
    ∷ Ledger ∷ Save ∷ Quit ∷ []

-- the verb whose word it is
unfoldable pub verb_of : List ℕ → Option Verb
verb_of word = find (λ verb. bytes_eq word (verb_word verb)) verbs

-- how many numbers follow it
abbrev pub number_count : Verb → ℕ
number_count Put = 4
number_count Erase = 4
number_count Wall = 4
number_count Block = 4
number_count Unwall = 4
number_count Drain = 4
number_count Probe = 4
number_count Source = 5
number_count Row = 1
number_count Step = 1
number_count Back = 1
number_count Read = 1
number_count Entry = 1
number_count Unport = 0
number_count Tally = 0
number_count Ledger = 0
number_count Save = 0
number_count Quit = 0

-- how many words follow it: the numbers, and the digits of a row
abbrev pub word_count : Verb → ℕ
word_count Row = 2
word_count verb = number_count verb

-- What a line asks, or the first of its faults.

-- the next check, unless a fault was found
infixl 10 ◌>>=◌
abbrev pub ◌>>=◌ : {A B : Type 0} → Result A Refusal → (A → Result B Refusal) → Result B Refusal
Ok x >>= next = next x
Err fault >>= next = Err fault

-- what passes the test, or else the fault
abbrev pub checked : {A : Type 0} → Bool → Refusal → A → Result A Refusal
checked test fault x = if test then Ok x else Err fault

-- the first word, and those after it
abbrev pub first_word : List (List ℕ) → Result (List ℕ × List (List ℕ)) Refusal
first_word [] = Err refusals.Word
first_word (word ∷ more) = Ok (word, more)

-- What numbers mean, once each is in its range: a rectangle of the lattice,
abbrev pub area : Extent → List ℕ → Result Rectangle Refusal
area size (x ∷ y ∷ w ∷ h ∷ more) =
    let r : Rectangle = record { x = x; y = y; w = w; h = h } in
    checked (lies_within size r) refusals.Rect r
area size _ = Err refusals.Count

-- a row of it,
abbrev pub row_number : Extent → List ℕ → Result ℕ Refusal
row_number size (y ∷ more) = checked (nat_lt y size.height) refusals.Rect y
row_number size [] = Err refusals.Count

-- how many steps,
abbrev pub step_count : List ℕ → Result ℕ Refusal
step_count (n ∷ more) = checked (is_step_count n) refusals.Steps n
step_count [] = Err refusals.Count

-- or how rarely a source acts.
abbrev pub period : List ℕ → Result ℕ Refusal
period (n ∷ more) = checked (is_period n) refusals.Period n
period [] = Err refusals.Count

-- the bytes that two digits each spell, all cells of a row
abbrev pub spelled : Result (List ℕ) FromHexError → Result (List ℕ) Refusal
spelled (Ok bytes) = Ok bytes
spelled (Err fault) = Err refusals.Row

abbrev pub row_bits : Extent → List (List ℕ) → Result (List ℕ) Refusal
row_bits size (digits ∷ more) = spelled (decode_sized digits (size.width / 8))
row_bits size [] = Err refusals.Count

-- what is asked of the laboratory
abbrev pub asking : {A : Type 0} → (A → Command) → Result A Refusal → Result Request Refusal
asking command (Ok x) = Ok (requests.Ask (command x))
asking command (Err fault) = Err fault

-- the request of a verb, its numbers and the words after them
abbrev pub verb_request : Extent → Verb → List ℕ → List (List ℕ) → Result Request Refusal
verb_request size Put numbers more = asking commands.Put (area size numbers)
verb_request size Erase numbers more = asking commands.Erase (area size numbers)
verb_request size Wall numbers more = asking commands.Wall (area size numbers)
verb_request size Block numbers more = asking commands.Block (area size numbers)
verb_request size Unwall numbers more = asking commands.Unwall (area size numbers)
verb_request size Drain numbers more = asking commands.Drain (area size numbers)
verb_request size Probe numbers more = asking commands.Probe (area size numbers)
verb_request size Source numbers more =
    area size numbers >>= λ r. asking (commands.Source r) (period (drop 4 numbers))
verb_request size Row numbers more =
    row_number size numbers >>= λ y. asking (commands.Row y) (row_bits size more)
verb_request size Step numbers more = asking commands.Step (step_count numbers)
verb_request size Back numbers more = asking commands.Back (step_count numbers)
verb_request size Read numbers more = asking commands.Read (row_number size numbers)
verb_request size Entry (k ∷ numbers) more = Ok (requests.Ask (commands.Entry k))
verb_request size Entry [] more = Err refusals.Count
verb_request size Unport numbers more = Ok (requests.Ask commands.Unport)
verb_request size Tally numbers more = Ok (requests.Ask commands.Tally)
verb_request size Ledger numbers more = Ok (requests.Ask commands.Ledger)
verb_request size Save numbers more = Ok requests.Save
verb_request size Quit numbers more = Ok requests.Quit

-- the request of a line, or the first of its faults: of its word, their count, its numbers, their ranges and its row
unfoldable pub request_of : Extent → List ℕ → Result Request Refusal
request_of size line = do
  found ← first_word (words line)
  verb ← ok_or (verb_of found.0) refusals.Word
  args ← checked (length found.1 == word_count verb) refusals.Count found.1
  numbers ← ok_or (numbers_of (take (number_count verb) args)) refusals.Number
  verb_request size verb numbers (drop (number_count verb) args)

abbrev pub IsRow : Result Request Refusal → Type 0
IsRow (Ok (requests.Ask (commands.Row y bits))) = Unit {0}
IsRow _ = ⊥

-- What is read, unless memory is refused to a row that has no fault.
abbrev pub Reads : Result Request Refusal → Result Request Refusal → Type 0
Reads result read = (result ≡ read) ⊎ ((result ≡ Err refusals.Memory) × IsRow read)

-- what is asked is in order for a lattice of this size
abbrev pub IsAskable : Extent → Request → Type 0
IsAskable size (requests.Ask command) = fits size command ≡ true
IsAskable size requests.Save = Unit {0}
IsAskable size requests.Quit = Unit {0}

-- The text of a command.

abbrev pub area_numbers : Rectangle → List ℕ
area_numbers r = r.x ∷ r.y ∷ r.w ∷ r.h ∷ []

-- the words of a command on a rectangle
abbrev pub area_words : Verb → Rectangle → List (List ℕ)
area_words verb r = verb_word verb ∷ map decimal (area_numbers r)

-- the words of a command: its verb, its numbers, and a row's digits
abbrev pub command_words : Command → List (List ℕ)
command_words (commands.Put r) = area_words Put r
command_words (commands.Erase r) = area_words Erase r
command_words (commands.Wall r) = area_words Wall r
command_words (commands.Block r) = area_words Block r
command_words (commands.Unwall r) = area_words Unwall r
command_words (commands.Row y bits) = verb_word Row ∷ decimal y ∷ encode_lower bits ∷ []
command_words (commands.Source r period) =
    verb_word Source ∷ map decimal (area_numbers r ++ period ∷ [])
command_words (commands.Drain r) = area_words Drain r
command_words commands.Unport = verb_word Unport ∷ []
command_words (commands.Step n) = verb_word Step ∷ decimal n ∷ []
command_words (commands.Back n) = verb_word Back ∷ decimal n ∷ []
command_words (commands.Probe r) = area_words Probe r
command_words commands.Tally = verb_word Tally ∷ []
command_words commands.Ledger = verb_word Ledger ∷ []
command_words (commands.Read y) = verb_word Read ∷ decimal y ∷ []
command_words (commands.Entry k) = verb_word Entry ∷ decimal k ∷ []

-- the canonical text of a command
abbrev pub command_text : Command → List ℕ
command_text command = parted (command_words command)

-- what the type of a command keeps
abbrev pub IsTyped : Command → Type 0
IsTyped (commands.Row y bits) = IsBytes bits
IsTyped (commands.Entry k) = k < 2 ^ 32
IsTyped command = Unit {0}
