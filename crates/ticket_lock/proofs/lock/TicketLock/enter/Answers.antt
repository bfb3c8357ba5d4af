use Rattle.std.proofs.Common.{rules, ◌∙◌, sym, ap, ℕ, List, ◌∷◌, Option, Some}
use Rattle.atomic_table.specs.Table.{Me, rest}
use Rattle.ticket_lock.specs.declared.view.View.{View}
use Rattle.ticket_lock.proofs.Steps.{tickets_one, serves, takes_at}
use Rattle.ticket_lock.proofs.lock.TicketLock.enter.Goals as goal

pub fetch_add-ticket-requires : goal.fetch_add-ticket-requires
fetch_add-ticket-requires g c = (search rules, search rules, tickets_one _ _ _ _ _ _ _ c.requires.idle.1 c.requires.numbered)

pub load-served-requires : goal.load-served-requires
load-served-requires g c =
    let was = c.loop.invariant in
    (search rules, search rules, serves _ _ _ _ _ _ _ (ap (λ m. m.0.waits) was.waits.2) (ap (λ m. m.0.turn) was.waits.2 ∙ c.requires.idle.2))

pub exchange-requires : goal.exchange-requires
exchange-requires g c =
    let was = c.loop.invariant in
    let took = takes_at g.X.Journaled.entries g.X.Journaled.fixed g.X.Journaled.by (0, g.X.Journaled.fixed c.self.inside.table.shared.key.1.value) c.args.seat.now.me.0 was.waits.0 _ _ _ was.waits.2 (search rules) c.load-served.ensures.2 in
    let held = ap (λ (m : Me (Option g.row.X.Denot) (View g.row.X-Entry.Denot g.row.X-Fixed.Denot)). m.1) took.1 in
    (search rules, (Some took.0, held ∙ ap (λ (l : List (ℕ × Option g.row.X.Denot)). (0, Some took.0) ∷ rest l) (sym held)))
