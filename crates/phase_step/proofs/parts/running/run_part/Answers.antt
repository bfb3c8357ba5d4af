use Rattle.std.proofs.Common.{◌≡◌, ℕ, ◌+◌, ◌-◌, sym, subst, arith, refl}
use Rattle.gas_terms.specs.Cells.{Cells, HasSidesOf, joined}
use Rattle.gas_terms.specs.Gas.{streamed}
use Rattle.phase_step.specs.Actions.{flow_plus}
use Rattle.phase_step.specs.Solid.{all_of}
use Rattle.phase_step.specs.declared.parts.Part.{Part}
use Rattle.phase_step.specs.declared.steps.solids.Solids.{Solids}
use Rattle.gas_terms.specs.declared.accounts.Took.{Took}
use Rattle.block_rule.specs.Accounts.{counted_of}
use Rattle.block_rule.specs.declared.walled.Counted.{Counted}
use Rattle.phase_step.specs.Parts.{own_take, part_run, IsPartOf, IsReady, IsTurned, HasRun}
use Rattle.phase_step.specs.WholeRuns.{dynamics, after_all}
use Rattle.phase_step.specs.declared.sums.flow.Flow.{Flow}
use Rattle.phase_step.proofs.RowRuns.{IsPartPhase, run_begins, run_next, run_fits, own_few, sides_on, sides_there, ready_again}
use Rattle.std.proofs.Math.Nat.{mul-le-mul_left}
use Rattle.phase_step.proofs.OwnTiles.{rows_left}
use Rattle.phase_step.proofs.parts.running.run_part.Given.{Over}
use Rattle.phase_step.proofs.parts.running.run_part.Goals.{After-act_after-moved}
use Rattle.phase_step.proofs.parts.running.run_part.Goals as goal

pub loop-k-init : goal.loop-k-init
loop-k-init g c =
    let run = c.args.run in
    record {
      sides = record { wide = refl; high = refl };
      run = λ lattice of_walls is. run_begins c.args.part c.args.counted (dynamics run.parity run.solids.now (g.A.Action.leaves run.action.now)) c.args.particles.now lattice run.parity is;
      ready = λ lattice q of_walls is some e.
          let f : run.parity ≡ q = let small = c.requires.parity in omega (arith, small, e) in subst (λ p. IsPartOf c.args.part c.args.particles.now lattice (64 - p)) f is;
    }

-- what is taken of a part's own tiles, of whatever lattice it is
abbrev TakesOf : Counted → Part → ℕ → Solids → Cells → Took → Type 0
TakesOf counted part p s cells took = (lattice : Cells) → HasSidesOf s.walls lattice → IsPartOf part cells lattice 64 → took ≡ counted_of counted (own_take part p cells lattice s.walls s.obstacles)

-- the phase and the action after it
phase_made : (g : Over) (c : After-act_after-moved g) (lattice : Cells) → HasSidesOf c.args.run.solids.now.walls lattice → IsPartOf c.args.part c.args.particles.now lattice (64 - c.args.run.parity)
    → IsPartPhase c.args.part c.args.counted (dynamics c.args.run.parity c.args.run.solids.now (g.A.Action.leaves c.args.run.action.now)) c.parity_at-now.result c.loop-k.k lattice c.args.particles.now c.loop-k.particles c.turn_part.new.particles c.act_after-moved.new.particles c.loop-k.flow (record { took = c.count_part-took.result; moved = c.act_after-moved.result })
phase_made g c lattice of_walls start =
    let run = c.args.run in
    let s = run.solids.now in
    let so_far = c.loop-k.invariant.run lattice of_walls start in
    let there = after_all (dynamics run.parity s (g.A.Action.leaves run.action.now)) lattice c.loop-k.k in
    let ready = c.loop-k.invariant.ready lattice c.parity_at-now.result of_walls start (omega arith) c.parity_at-now.ensures.parity in
    let solid = joined s.walls s.obstacles in
    let sides = sides_there c.args.run.parity s.walls s.obstacles (g.A.Action.leaves c.args.run.action.now) lattice c.loop-k.k of_walls in
    let streamed_there : Cells = streamed c.parity_at-now.result there solid in
    let counting = c.of-counting in
    let turned : IsTurned c.args.part c.parity_at-now.result solid c.loop-k.particles c.turn_part.new.particles =
    subst (λ (s : Solids). IsTurned c.args.part c.parity_at-now.result (all_of s) c.loop-k.particles c.turn_part.new.particles) counting.ensures.solids c.turn_part.ensures.phase in
    let took : TakesOf c.args.counted c.args.part c.parity_at-now.result s c.loop-k.particles c.count_part-took.result =
    subst (λ kept. TakesOf kept c.args.part c.parity_at-now.result s c.loop-k.particles c.count_part-took.result) counting.ensures.counted
    (subst (λ (s : Solids). TakesOf counting.result.counted c.args.part c.parity_at-now.result s c.loop-k.particles c.count_part-took.result) counting.ensures.solids c.count_part-took.ensures) in
    let come = turned there (record { wide = sides.wide; high = sides.high }) ready in
    record {
      small = c.requires.parity;
      parity = c.parity_at-now.ensures.parity;
      now_sides = c.loop-k.invariant.sides;
      come_sides = sides_on _ _ _ c.turn_part.ensures.sides c.loop-k.invariant.sides;
      so_far = so_far;
      action = c.act_after-moved.ensures.rows streamed_there come;
      took = took there sides (rows_left c.args.part c.loop-k.particles there (64 - c.parity_at-now.result) 64 (mul-le-mul_left c.args.part.margin (omega arith)) ready);
      moved = c.act_after-moved.ensures.moved streamed_there come;
    }

pub plus-flow-requires : goal.plus-flow-requires
plus-flow-requires g c =
    let run = c.args.run in
    let s = run.solids.now in
    let lattice = c.requires.ready.lattice in
    let start = c.requires.ready.is in
    run_fits c.args.part c.args.counted (dynamics run.parity s (g.A.Action.leaves run.action.now)) c.parity_at-now.result c.loop-k.k lattice c.args.particles.now c.loop-k.particles c.turn_part.new.particles c.act_after-moved.new.particles c.loop-k.flow
    (record { took = c.count_part-took.result; moved = c.act_after-moved.result }) (phase_made g (goal.at.plus-flow-requires g c).After-act_after-moved lattice c.requires.ready.sides start)
    (omega arith) (own_few c.args.part c.args.particles.now lattice (64 - run.parity) start)

pub loop-k-preserved : goal.loop-k-preserved
loop-k-preserved g c =
    let run = c.args.run in
    let s = run.solids.now in
    let d = dynamics run.parity s (g.A.Action.leaves run.action.now) in
    let after = (goal.at.loop-k-preserved g c).After-act_after-moved in
    let flow : Flow = record { took = c.count_part-took.result; moved = c.act_after-moved.result } in
    let next : (lattice : Cells) → HasSidesOf s.walls lattice → IsPartOf c.args.part c.args.particles.now lattice (64 - run.parity) → HasRun (part_run c.args.part c.args.counted d (c.loop-k.k + 1)) c.args.particles.now lattice c.act_after-moved.new.particles (flow_plus c.loop-k.flow flow) =
    λ lattice of_walls start. run_next c.args.part c.args.counted d c.parity_at-now.result c.loop-k.k lattice c.args.particles.now c.loop-k.particles c.turn_part.new.particles c.act_after-moved.new.particles c.loop-k.flow flow (phase_made g after lattice of_walls start) in
    record {
      sides = sides_on _ _ _ c.act_after-moved.ensures.sides (sides_on _ _ _ c.turn_part.ensures.sides c.loop-k.invariant.sides);
      run = λ lattice of_walls start.
          subst (λ (f : Flow). HasRun (part_run c.args.part c.args.counted d (c.loop-k.k + 1)) c.args.particles.now lattice c.act_after-moved.new.particles f) (sym c.plus-flow.ensures) (next lattice of_walls start);
      ready = λ lattice q of_walls start more e. ready_again c.args.part c.act_after-moved.new.particles _ run.n c.loop-k.k q c.requires.few more (next lattice of_walls start).is;
    }

pub returns : goal.returns
returns g c =
    let run = c.args.run in
    let d = dynamics run.parity run.solids.now (g.A.Action.leaves run.action.now) in
    let e : c.loop-k.k ≡ run.n = omega arith in
    record {
      run = λ lattice of_walls start. subst (λ k. HasRun (part_run c.args.part c.args.counted d k) c.args.particles.now lattice c.loop-k.particles c.loop-k.flow) e (c.loop-k.invariant.run lattice of_walls start);
      sides = c.loop-k.invariant.sides;
    }

pub turn_part-requires-clause-ready : goal.turn_part-requires-clause-ready
turn_part-requires-clause-ready g c =
    let run = c.args.run in
    let s = run.solids.now in
    let h = c.requires.ready in
    let leaves = g.A.Action.leaves run.action.now in
    subst (λ (s : Solids). IsReady c.args.part (all_of s) c.loop-k.particles (64 - c.parity_at-now.result)) (sym c.of-counting.ensures.solids)
    (record {
      lattice = after_all (dynamics run.parity s leaves) h.lattice c.loop-k.k;
      is = c.loop-k.invariant.ready h.lattice c.parity_at-now.result h.sides h.is (omega arith) c.parity_at-now.ensures.parity;
      sides = let sides = sides_there run.parity s.walls s.obstacles leaves h.lattice c.loop-k.k h.sides in record { wide = sides.wide; high = sides.high };
    })

pub count_part-took-requires-clause-ready : goal.count_part-took-requires-clause-ready
count_part-took-requires-clause-ready g c =
    let run = c.args.run in
    let s = run.solids.now in
    let h = c.requires.ready in
    let leaves = g.A.Action.leaves run.action.now in
    let there = after_all (dynamics run.parity s leaves) h.lattice c.loop-k.k in
    subst (λ (s : Solids). IsReady c.args.part s.walls c.loop-k.particles 64) (sym c.of-counting.ensures.solids)
    (record {
      lattice = there;
      is = rows_left c.args.part c.loop-k.particles there (64 - c.parity_at-now.result) 64 (mul-le-mul_left c.args.part.margin (omega arith))
          (c.loop-k.invariant.ready h.lattice c.parity_at-now.result h.sides h.is (omega arith) c.parity_at-now.ensures.parity);
      sides = sides_there run.parity s.walls s.obstacles leaves h.lattice c.loop-k.k h.sides;
    })

pub act_after-moved-requires-clause-some : goal.act_after-moved-requires-clause-some
act_after-moved-requires-clause-some g c =
    let run = c.args.run in
    let s = run.solids.now in
    let h = c.requires.ready in
    let leaves = g.A.Action.leaves run.action.now in
    let there = after_all (dynamics run.parity s leaves) h.lattice c.loop-k.k in
    let solid = joined s.walls s.obstacles in
    let counting = c.of-counting in
    let turned : IsTurned c.args.part c.parity_at-now.result solid c.loop-k.particles c.turn_part.new.particles =
    subst (λ (s : Solids). IsTurned c.args.part c.parity_at-now.result (all_of s) c.loop-k.particles c.turn_part.new.particles) counting.ensures.solids c.turn_part.ensures.phase in
    let sides = sides_there run.parity s.walls s.obstacles leaves h.lattice c.loop-k.k h.sides in
    record {
      lattice = streamed c.parity_at-now.result there solid;
      is = turned there (record { wide = sides.wide; high = sides.high }) (c.loop-k.invariant.ready h.lattice c.parity_at-now.result h.sides h.is (omega arith) c.parity_at-now.ensures.parity);
    }
