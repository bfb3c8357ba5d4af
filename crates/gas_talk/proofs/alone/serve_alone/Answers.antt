use Rattle.std.proofs.Common.{refl, sym, rules}
use Rattle.gas_talk.proofs.Sequential.{talk_of_session, stays}
use Rattle.gas_talk.proofs.alone.serve_alone.Goals as goal

pub returns : goal.returns
returns g c =
    let same_lab = sym (stays _ (λ d. d.lab.ghost_name) (λ d command r e h. h.1) (λ d r e h. h.1) _ _ _ c.serve_door.ensures.serves.leads.talk) in
    talk_of_session _ (λ d. d.lab.now) (λ d. d.seat) (λ d. refl) (λ d command r e h. h.0) (λ d r e h. h.0) (λ d command r e h. h.2) (λ d r e h. h.2) _ _ _ c.serve_door.result _ c.serve_door.ensures _ (search (rules, same_lab))
