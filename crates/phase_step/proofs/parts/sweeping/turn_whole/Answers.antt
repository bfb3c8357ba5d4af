use Rattle.std.proofs.Common.{◌≡◌, ℕ, ◌-◌, ◌*◌, ◌/◌, ◌∙◌, ap, ap₂, subst, arith}
use Rattle.gas_terms.specs.Gas.{streamed}
use Rattle.block_rule.specs.Accounts.{counted_of}
use Rattle.phase_step.specs.Parts.{own_take, IsPartOf}
use Rattle.phase_step.specs.Runs.{tiles_take}
use Rattle.phase_step.specs.declared.parts.Part.{Part}
use Rattle.phase_step.proofs.RowRuns.{whole_held, whole_same}
use Rattle.phase_step.proofs.TileFlows.{all_take}
use Rattle.phase_step.specs.Solid.{all_of}
use Rattle.phase_step.proofs.parts.sweeping.turn_whole.Goals.{After-whole-part}
use Rattle.phase_step.proofs.parts.sweeping.turn_whole.Goals as goal

held : (c : After-whole-part) (k : ℕ) → IsPartOf c.whole-part.result c.args.particles.now c.args.particles.now k
held c k = whole_held c.whole-part.result c.args.particles.now k c.whole-part.ensures.lattice c.whole-part.ensures.part

pub count_part-took-requires-clause-ready : goal.count_part-took-requires-clause-ready
count_part-took-requires-clause-ready c = record { lattice = c.args.particles.now; is = held (goal.at.count_part-took-requires-clause-ready c).After-whole-part 64; sides = record { wide = c.requires.solid.wide; high = c.requires.solid.high } }

pub turn_part-requires-clause-ready : goal.turn_part-requires-clause-ready
turn_part-requires-clause-ready c = record { lattice = c.args.particles.now; is = held (goal.at.turn_part-requires-clause-ready c).After-whole-part (64 - c.args.parity); sides = c.requires.solid }

pub returns-clause-particles : goal.returns-clause-particles
returns-clause-particles c =
    let cells = c.args.particles.now in
    let new = c.turn_part.new.particles in
    let next = streamed c.args.parity cells (all_of c.args.counting.known.solids.now) in
    whole_same (cells.height / 64) 64 new next c.shows_lattice.ensures.full
    (subst (λ (part : Part). IsPartOf part new next 64) c.whole-part.ensures.part (c.turn_part.ensures.phase cells c.requires.solid (held (goal.at.returns-clause-particles c).After-whole-part (64 - c.args.parity))))

pub returns-clause-took : goal.returns-clause-took
returns-clause-took c =
    let counting = c.args.counting in
    let s = counting.known.solids.now in
    let cells = c.args.particles.now in
    let a = cells.width / 64 in
    let first : 0 * a ≡ 0 = omega arith in
    let down : cells.height / 64 - 2 * 0 ≡ cells.height / 64 = omega arith in
    let turn : cells.height / 64 * a ≡ a * (cells.height / 64) = omega arith in
    c.count_part-took.ensures cells (record { wide = c.requires.solid.wide; high = c.requires.solid.high }) (held (goal.at.returns-clause-took c).After-whole-part 64)
    ∙ ap (counted_of counting.counted)
    (ap (λ (part : Part). own_take part c.args.parity cells cells s.walls s.obstacles) c.whole-part.ensures.part
    ∙ (ap₂ (tiles_take c.args.parity cells s.walls s.obstacles) first (ap (λ n. n * a) down ∙ turn)
    ∙ all_take c.args.parity cells s.walls s.obstacles c.requires.parity c.whole-part.ensures.lattice.sized))
