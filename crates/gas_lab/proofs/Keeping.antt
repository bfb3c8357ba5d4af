-- What a laboratory's type keeps.
use Rattle.std.proofs.Common.{◌≡◌, ℕ, true, ◌≤◌, ◌<◌, ◌^◌, nat_lt, List, [], ◌∷◌, ◌++◌, length, sym, ap, ap₂, ◌∙◌, subst, arith}
use Rattle.gas_terms.specs.Cells.{extent, HasSidesOf, IsEvenTorus}
use Rattle.gas_terms.specs.Gas.{Gas}
use Rattle.gas_terms.specs.Commands.{fits, is_tick}
use Rattle.gas_terms.specs.BookedGas.{BookedGas, opened, book}
use Rattle.gas_terms.specs.Laboratory.{Laboratory, opening, booked, accepted, commands, IsAcceptable, IsSound}
use Rattle.gas_terms.specs.declared.command.Entry.{Entry}
use Rattle.gas_terms.specs.declared.command.Command.{Command}
use Rattle.gas_terms.specs.declared.command.Command.TheVariants.{Read}
use Rattle.gas_terms.proofs.Bounds.{ledger_fits}
use Rattle.gas_terms.proofs.Bookings.{book_all-sides, book_all-torus}
use Rattle.gas_terms.proofs.LabBounds.{next_accounts_fit}
use Rattle.gas_terms.proofs.Laboratories.{all_booked, opening_sound, accepted_sound, has_room}
use Rattle.gas_ledger.specs.Books.{TickHolds, Affords}
use Rattle.gas_ledger.proofs.Stepping.{torus_of, book_tick}
use Rattle.gas_plane.specs.Planes.{IsLattice}
use Rattle.gas_lab.specs.Labs.{lab_of, IsKept}
use Rattle.std.proofs.lemmas.Bool.{ltb-true}

-- The gas has the start's sides.
pub kept_extent : (lab : Laboratory) → IsSound lab → extent lab.gas.particles ≡ extent lab.start.particles
kept_extent lab sound =
    let sides : HasSidesOf lab.gas.particles lab.start.particles =
    subst (λ (b : BookedGas). HasSidesOf b.gas.particles lab.start.particles) (sym (all_booked lab sound)) (book_all-sides (commands lab.journal) (opened lab.start)) in
    ap₂ (λ m n. record { width = m; height = n }) sides.wide sides.high

pub kept_in_order : (lab lab' : Laboratory) (command : Command) → IsSound lab → lab ≡ lab' →
    fits (extent lab'.start.particles) command ≡ true → fits (extent lab.gas.particles) command ≡ true
kept_in_order lab lab' command sound same in_order =
    ap (λ e. fits e command) (kept_extent lab sound ∙ ap (λ (l : Laboratory). extent l.start.particles) same) ∙ in_order

pub row_within : (lab lab' : Laboratory) (command : Command) (y : ℕ) → lab ≡ lab' → command ≡ Read y →
    fits (extent lab.gas.particles) command ≡ true → y < lab'.gas.particles.height
row_within lab lab' command y same is in_order =
    let here : nat_lt y lab.gas.particles.height ≡ true = ap (fits (extent lab.gas.particles)) (sym is) ∙ in_order in
    subst (λ (l : Laboratory). y < l.gas.particles.height) same (ltb-true y lab.gas.particles.height here)

-- The gas is a torus, as the start is.
pub kept_torus : (lab : Laboratory) → IsKept lab → IsEvenTorus lab.gas.particles
kept_torus lab kept =
    subst (λ (b : BookedGas). IsEvenTorus b.gas.particles) (sym (all_booked lab kept.sound))
    (book_all-torus (commands lab.journal) (opened lab.start) (torus_of lab.start.particles kept.lattice))

-- Whatever the next command is, the accounts fit.
pub kept_affords : (lab : Laboratory) (entry : Entry) → IsKept lab → IsAcceptable lab entry → Affords (booked lab)
kept_affords lab entry kept acceptable = λ command few.
    let room : length lab.journal < lab.cap = (let h = has_room lab entry.command acceptable.change acceptable.no_cause in omega (arith, h)) in
    ledger_fits (2 ^ 52) (book (booked lab) command).ledger (omega arith) (next_accounts_fit lab command kept.lattice.sized kept.cap kept.sound room few)

-- A change keeps it all.
pub kept_by_change : (start : Gas) (cap : ℕ) (b b' : BookedGas) (journal journal' : List Entry) (entry : Entry) →
    IsKept (lab_of start cap b journal) → IsAcceptable (lab_of start cap b journal) entry → TickHolds b.gas.tick entry.command →
    b' ≡ book b entry.command → journal' ≡ journal ++ entry ∷ [] →
    IsKept (lab_of start cap b' journal')
kept_by_change start cap b b' journal journal' entry kept acceptable ticks e grown =
    let lab : Laboratory = lab_of start cap b journal in
    let after : IsSound (accepted lab entry) = accepted_sound lab entry (torus_of start.particles kept.lattice) kept.sound acceptable in
    let Sound : BookedGas → List Entry → Type 0 = λ c j. IsSound (lab_of start cap c j) in
    record {
      sound = subst (λ j. Sound b' j) (sym grown) (subst (λ c. Sound c (journal ++ entry ∷ [])) (sym e) after);
      cap = kept.cap;
      lattice = kept.lattice;
      tick = subst (λ (c : BookedGas). is_tick c.gas.tick ≡ true) (sym e) (book_tick b entry.command ticks kept.tick);
    }

-- A laboratory opens with it.
pub kept_at_opening : (start : Gas) (cap : ℕ) (b : BookedGas) (journal : List Entry) →
    IsLattice start.particles → is_tick start.tick ≡ true → cap ≤ 65536 → b ≡ opened start → journal ≡ [] →
    IsKept (lab_of start cap b journal)
kept_at_opening start cap b journal lattice tick small booked none =
    let there : IsKept (opening start cap) = record {
      sound = opening_sound start cap (torus_of start.particles lattice);
      cap = small;
      lattice = lattice;
      tick = tick;
    } in
    subst (λ c. IsKept (lab_of start cap c journal)) (sym booked)
    (subst (λ j. IsKept (lab_of start cap (opened start) j)) (sym none) there)
