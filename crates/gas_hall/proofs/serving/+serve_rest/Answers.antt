use Rattle.std.proofs.Common.{rules, Some, subst, sym, ◌∙◌, ◌≡◌}
use Rattle.std.proofs.lemmas.List.Elements.{All-pop}
use Rattle.gas_terms.specs.Laboratory.{IsPrefix}
use Rattle.gas_hall.proofs.Back.{back_served, back_unserved}
use Rattle.gas_hall.proofs.serving.+serve_rest.Goals as goal

pub serve_rest-done-requires-clause-here : goal.serve_rest-done-requires-clause-here
serve_rest-done-requires-clause-here g t c κs within =
    (All-pop (λ seat. g.H.Seating.has c.args.house.now.hall.now (g.H.Seating.kept seat)) c.args.seats.now.items c.pop.new.self.items (Some c.in-Some.seat) (search rules) c.requires.here).0

pub returns-in-Ok-clause-back : goal.returns-in-Ok-clause-back
returns-in-Ok-clause-back g t c =
    back_served g.H.Seating.kept g.H.Seating.made g.H.Seating.seen c.args.seats.now.items c.pop.new.self.items c.serve_rest-done.new.seats.items c.push_reserved.new.self.items c.in-Some.seat c.join.result c.serve_rest-done.result
    (search rules) (search rules) c.serve_rest-done.ensures.back
    (subst (λ seat. g.H.Seating.kept c.join.result ≡ g.H.Seating.kept seat) c.in-Ok.ensures.ok c.join.ensures.0)
    (subst (λ seat. IsPrefix (g.H.Seating.seen seat) (g.H.Seating.seen c.join.result)) c.in-Ok.ensures.ok c.join.ensures.1)

pub returns-then-is_idle-clause-back : goal.returns-then-is_idle-clause-back
returns-then-is_idle-clause-back g t c =
    back_unserved g.H.Seating.kept g.H.Seating.made g.H.Seating.seen c.args.seats.now.items c.pop.new.self.items c.serve_rest-done.new.seats.items c.push_reserved-in-Err.new.self.items c.in-Some.seat c.in-Err.seat c.serve_rest-done.result
    (search rules) (search rules) c.serve_rest-done.ensures.back c.in-Err.ensures.err c.in-Err.ensures.seen
    (sym c.entries_of.ensures.made ∙ c.if-is_idle.true ∙ c.entries_of-made.ensures.made)

pub returns-else-is_idle-clause-back : goal.returns-else-is_idle-clause-back
returns-else-is_idle-clause-back g t c =
    back_served g.H.Seating.kept g.H.Seating.made g.H.Seating.seen c.args.seats.now.items c.pop.new.self.items c.serve_rest-done.new.seats.items c.push_reserved-in-Err.new.self.items c.in-Some.seat c.in-Err.seat c.serve_rest-done.result
    (search rules) (search rules) c.serve_rest-done.ensures.back c.in-Err.ensures.err c.in-Err.ensures.seen
