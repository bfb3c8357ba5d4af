use Rattle.std.specs.Prelude.{◌≡◌, ◌≤◌, true, ℤ, pos, ◌+ℤ◌, ◌-ℤ◌}
use Rattle.gas_terms.specs.Accounts.{FitsI64}
use Rattle.gas_terms.specs.Commands.{is_tick, most_steps}
use Rattle.gas_terms.specs.BookedGas.{BookedGas, book, changes}
use Rattle.gas_terms.specs.declared.command.Command.{Command}
use Rattle.gas_terms.specs.declared.command.Command.TheVariants.{Step, Back}
use Rattle.gas_ledger.specs.declared.books.Books.{Books}

-- the books as a gas with its ledger
abbrev pub books_of : Books → BookedGas
books_of b = record { gas = b.gas; ledger = b.ledger }

-- the tick that a move leads to is in its range
abbrev pub TickHolds : ℤ → Command → Type 0
TickHolds t (Step n) = is_tick (t +ℤ pos n) ≡ true
TickHolds t (Back n) = is_tick (t -ℤ pos n) ≡ true
TickHolds t _ = Unit {0}

-- the accounts stay within 64 bits whatever the next command is
abbrev pub Affords : BookedGas → Type 0
Affords b = (command : Command) → changes command ≤ most_steps → FitsI64 (book b command).ledger
