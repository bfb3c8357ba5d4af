use Rattle.std.proofs.Common.{◌≡◌, ◌∙◌, ◌+◌, List, sym, subst, ap, ap₂}
use Rattle.bit_tile.specs.Tile.{has}
use Rattle.gas_terms.specs.Cells.{Rectangle}
use Rattle.phase_step.specs.Exchanges.{Areas, is_in_any, is_left, leaves_of}
use Rattle.phase_step.proofs.Exchanging.{unmet, stays}
use Rattle.phase_step.proofs.exchanges.exchange.Exchange.keeps.Goals as goal

pub returns-then-not-get : goal.returns-then-not-get
returns-then-not-get c = λ _ x y h k.
    let e = c.self.inside in
    let left = c.args.left in
    let top = c.args.top in
    let held = has c.args.tile.now x y in
    let bare = sym c.get.ensures ∙ c.if-not-get.true in
    sym (subst (λ (areas : Areas). leaves_of areas (left + x) (top + y) held ≡ held) c.self.view_is
    (stays held (is_in_any e.drains (left + x) (top + y)) (is_in_any e.sources (left + x) (top + y)) (unmet e.met e.drains left top x y c.self.invariant.0 c.requires h k bare) (unmet e.met e.sources left top x y c.self.invariant.1 c.requires h k bare)))

pub returns : goal.returns
returns c = λ yes x y h k.
    c.is_settled.ensures yes x y h k
    ∙ (ap₂ (λ (d s : List Rectangle). is_left (has c.args.tile.now x y) d s (c.args.left + x) (c.args.top + y)) c.as_slice.ensures.items c.as_slice-2.ensures.items
    ∙ ap (λ (e : Areas). leaves_of e (c.args.left + x) (c.args.top + y) (has c.args.tile.now x y)) c.self.view_is)
