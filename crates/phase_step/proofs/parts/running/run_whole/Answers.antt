use Rattle.std.proofs.Common.{◌≡◌, ◌*◌, ◌-◌, ◌/◌, ◌≤◌, sym, subst, arith}
use Rattle.gas_terms.specs.Cells.{HasSidesOf}
use Rattle.phase_step.specs.Parts.{part_run, HasRun}
use Rattle.block_rule.specs.Accounts.{counted_of}
use Rattle.phase_step.specs.Runs.{particles_after, run_takes}
use Rattle.phase_step.specs.Solid.{all_of}
use Rattle.phase_step.specs.declared.steps.solids.Solids.{Solids}
use Rattle.phase_step.specs.WholeRuns.{dynamics}
use Rattle.phase_step.specs.declared.parts.Part.{Part}
use Rattle.phase_step.proofs.RowRuns.{whole_held, whole_same, whole_flow}
use Rattle.phase_step.proofs.StillRuns.{still_run}
use Rattle.phase_step.proofs.parts.running.run_whole.Goals as goal

pub run_part-flow-requires : goal.run_part-flow-requires
run_part-flow-requires g c =
    record {
      parity = c.requires.parity;
      ready = record { lattice = c.args.particles.now; is = whole_held c.whole-part.result c.args.particles.now (64 - c.args.run.parity) c.whole-part.ensures.lattice c.whole-part.ensures.part; sides = c.requires.walls };
      few = subst (λ (part : Part). part.margin * c.args.run.n ≤ 1) (sym c.whole-part.ensures.part) (omega arith);
    }

pub turn_on-requires-clause-solid : goal.turn_on-requires-clause-solid
turn_on-requires-clause-solid g c =
    subst (λ (s : Solids). HasSidesOf (all_of s) c.args.particles.now) (sym c.of-counting.ensures.solids) (record { wide = c.requires.walls.wide; high = c.requires.walls.high })

pub returns-then-not-acts : goal.returns-then-not-acts
returns-then-not-acts g c =
    let run = c.args.run in
    let old = c.args.particles.now in
    let counting = c.of-counting in
    let made = c.turn_on.ensures in
    still_run (dynamics run.parity run.solids.now (g.A.Action.leaves run.action.now)) old c.shows_lattice.ensures (λ k. c.acts.ensures c.if-not-acts.true k) c.args.counted run.n c.turn_on.new.particles c.turn_on.result
    (subst (λ (s : Solids). c.turn_on.new.particles ≡ particles_after run.parity (all_of s) old run.n) counting.ensures.solids made.particles)
    (subst (λ kept. c.turn_on.result ≡ counted_of kept (run_takes run.parity run.solids.now.walls run.solids.now.obstacles old run.n)) counting.ensures.counted
    (subst (λ (s : Solids). c.turn_on.result ≡ counted_of counting.result.counted (run_takes run.parity s.walls s.obstacles old run.n)) counting.ensures.solids made.took))

pub returns : goal.returns
returns g c =
    let run = c.args.run in
    let s = run.solids.now in
    let d = dynamics run.parity s (g.A.Action.leaves run.action.now) in
    let cells = c.args.particles.now in
    let down = cells.height / 64 in
    let new = c.run_part-flow.new.particles in
    let whole = whole_held c.whole-part.result cells (64 - run.parity) c.whole-part.ensures.lattice c.whole-part.ensures.part in
    let made : HasRun (part_run (record { first = 0; down = down; margin = 0 }) c.args.counted d run.n) cells cells new c.run_part-flow.result =
    subst (λ (part : Part). HasRun (part_run part c.args.counted d run.n) cells cells new c.run_part-flow.result) c.whole-part.ensures.part (c.run_part-flow.ensures.run cells c.requires.walls whole) in
    record {
      particles = whole_same down 64 new _ c.shows_lattice-2.ensures.full made.is;
      flow = whole_flow down run.n c.args.counted d cells new c.run_part-flow.result c.whole-part.ensures.lattice.sized made;
    }
