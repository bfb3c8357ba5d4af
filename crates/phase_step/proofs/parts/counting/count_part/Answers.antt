use Rattle.std.proofs.Common.{◌*◌, ◌/◌, ◌∙◌, ap, ap₂}
use Rattle.block_rule.specs.Accounts.{counted_of}
use Rattle.phase_step.specs.Parts.{own_rows}
use Rattle.phase_step.specs.Runs.{tiles_take}
use Rattle.phase_step.proofs.OwnTiles.{own_tiles_of}
use Rattle.phase_step.proofs.RowRuns.{sides_on}
use Rattle.phase_step.proofs.Untaken.{own_untaken}
use Rattle.phase_step.proofs.parts.counting.count_part.Goals as goal

pub returns-then-not-counting : goal.returns-then-not-counting
returns-then-not-counting c = λ lattice sides is.
    let counting = c.args.counting in
    let s = counting.known.solids.now in
    own_untaken c.args.parity c.args.part c.args.particles.now lattice s.walls s.obstacles counting.counted 64 c.requires.parity is sides (sides_on _ _ _ s.sides sides) (counting.none c.if-not-counting.true)

pub count_tiles-requires-clause-some : goal.count_tiles-requires-clause-some
count_tiles-requires-clause-some c =
    let h = c.requires.ready in
    let t = c.own_tiles-own in
    record { lattice = h.lattice; are = own_tiles_of c.args.part c.args.counting.known.solids.now.walls c.args.particles.now h.lattice t.result t.ensures.lattice.sized t.ensures.own h.is h.sides }

pub returns : goal.returns
returns c = λ lattice sides is.
    let s = c.args.counting.known.solids.now in
    let t = c.own_tiles-own in
    let a = ap (λ w. w / 64) is.placed.wide in
    c.count_tiles.ensures lattice (own_tiles_of c.args.part s.walls c.args.particles.now lattice t.result t.ensures.lattice.sized t.ensures.own is sides)
    ∙ ap₂ (λ first n. counted_of c.args.counting.counted (tiles_take c.args.parity lattice s.walls s.obstacles first n))
    (t.ensures.own.there ∙ ap (λ w. c.args.part.first * w) a) (t.ensures.own.count ∙ ap (λ w. own_rows c.args.part c.args.particles.now * w) a)
