use Rattle.std.proofs.Common.{◌≡◌, ℕ, ◌+◌, ◌-◌, ◌*◌, ◌/◌, ◌<◌, ◌∙◌, pos, refl, sym, ap, subst, arith}
use Rattle.gas_terms.specs.Cells.{Cells, tile_count, tile_rectangle}
use Rattle.gas_plane.specs.Planes.{IsLattice, IsPosition, IsTileFrom, tile_of}
use Rattle.bit_tile.specs.declared.Tile.{Tile}
use Rattle.gas_plane.proofs.PlaneCounts.{few_tiles}
use Rattle.phase_step.specs.Actions.{Leaves, IsLeftOf, IsTileCorner, acted, movements}
use Rattle.phase_step.specs.Counts.{moved_by_counts}
use Rattle.phase_step.specs.Exchanges.{leaves_of}
use Rattle.phase_step.specs.Parts.{own_rows, tile_in, IsOwn, IsPartOf}
use Rattle.phase_step.specs.TileRuns.{tile_moves, tiles_move}
use Rattle.phase_step.proofs.Amounts.{sum_next}
use Rattle.phase_step.proofs.Exchanging.{nowhere_is_still}
use Rattle.phase_step.proofs.CountSums.{few_together, moved_together, none_few, zeros_move_nothing}
use Rattle.phase_step.proofs.FlowSums.{movements_add}
use Rattle.phase_step.proofs.MadeCells.{all_acted, none_before, none_made, own_before, tile_before, tile_made, tile_stays}
use Rattle.phase_step.proofs.OwnTiles.{lattice_is, own_cells, own_number, there_is, own_within_there}
use Rattle.phase_step.proofs.PartActs.{corner_at, kept_there, left_at, left_there, moves_there, stays_there, still_rows, still_own}
use Rattle.phase_step.proofs.parts.running.act_on_part.Goals as goal
use Rattle.phase_step.proofs.parts.running.act_on_part.Goals.{In-loop-i}

pub returns-then-is_still-clause-rows : goal.returns-then-is_still-clause-rows
returns-then-is_still-clause-rows c = λ lattice is.
    still_rows (leaves_of c.args.exchange.now) c.args.part c.args.particles.now lattice 64 (nowhere_is_still c.args.exchange.now (c.is_still.ensures.0 c.if-is_still.true)) is

pub returns-then-is_still-clause-moved : goal.returns-then-is_still-clause-moved
returns-then-is_still-clause-moved c = λ lattice is.
    still_own c.args.parity (leaves_of c.args.exchange.now) c.args.part c.args.particles.now lattice 64 (nowhere_is_still c.args.exchange.now (c.is_still.ensures.0 c.if-is_still.true)) is

pub loop-i-init : goal.loop-i-init
loop-i-init c =
    let old = c.args.particles.now in
    let t = c.own_tiles-own in
    let first = t.result.first in
    let leaves = leaves_of c.args.exchange.now in
    record {
      from = omega arith;
      tile = omega arith;
      at = c.position-next.ensures.position;
      sides = record { wide = refl; high = refl };
      made = λ lattice is. none_made (tile_of old) first 64 c.args.part (acted leaves lattice) old (none_before c.args.part old first t.ensures.lattice.sized t.ensures.own.first);
      gained = none_few _;
      lost = none_few _;
      moved = λ lattice is. zeros_move_nothing (pos c.args.parity) ∙ (let e : 0 ≡ first - first = omega arith in ap (tiles_move (pos c.args.parity) lattice (acted leaves lattice) (c.args.part.first * (lattice.width / 64))) e);
    }

-- own tile i
module _ (c : In-loop-i) where
  abbrev leaves : Leaves
  leaves = leaves_of c.args.exchange.now

  own : IsOwn c.args.part c.args.particles.now c.loop-i.i
  own = c.own_tiles-own.ensures.own.each c.loop-i.i c.loop-i.invariant.from c.loop-i-test.true

  few : c.loop-i.i - c.own_tiles-own.result.first < 4096
  few = let within = own.within in let all = few_tiles c.args.particles.now c.loop-i.i c.own_tiles-own.ensures.lattice (omega (arith, within)) in omega (arith, all)

-- in a lattice of which it is a part
module _ (c : In-loop-i) (lattice : Cells) (is : IsPartOf c.args.part c.args.particles.now lattice 64) where
  abbrev number : ℕ
  number = tile_in c.args.part (lattice.width / 64) c.loop-i.i

  whole : IsLattice lattice
  whole = lattice_is c.args.part c.args.particles.now lattice 64 is

  below : number < tile_count lattice
  below = own_within_there c.args.part c.args.particles.now lattice c.loop-i.i c.own_tiles-own.ensures.lattice.sized is.placed (own c)

  numbered : number ≡ c.args.part.first * (lattice.width / 64) + (c.loop-i.i - c.own_tiles-own.result.first)
  numbered = own_number c.args.part c.args.particles.now lattice c.loop-i.i c.own_tiles-own.result.first is.placed c.own_tiles-own.ensures.own.first

  across : c.args.particles.now.width / 64 ≡ lattice.width / 64
  across = ap (λ w. w / 64) is.placed.wide

  there : c.loop-i.next.tile ≡ number
  there = c.loop-i.invariant.tile ∙ (ap (λ t. t + (c.loop-i.i - c.own_tiles-own.result.first)) c.position-next.ensures.tile ∙ there_is c.args.part c.args.particles.now lattice c.loop-i.i c.own_tiles-own.result.first c.own_tiles-own.result.there is.placed c.own_tiles-own.ensures.own.first c.own_tiles-own.ensures.own.there)

  corner : IsTileCorner (c.loop-i.next.column * 64) (c.loop-i.next.row * 64)
  corner = corner_at lattice (c.args.particles.now.width / 64) number c.loop-i.next whole below across there c.loop-i.invariant.at

  from : (t : Tile) → (let r = tile_rectangle c.loop-i.particles c.loop-i.i in IsTileFrom t c.loop-i.particles r.x r.y) → (let r = tile_rectangle lattice number in IsTileFrom t lattice r.x r.y)
  from t shown =
      own_cells c.args.part c.args.particles.now lattice c.loop-i.i t c.own_tiles-own.ensures.lattice.sized is (own c)
      (tile_before c.args.part (acted (leaves c) lattice) c.args.particles.now c.loop-i.particles c.loop-i.i 64 t c.own_tiles-own.ensures.lattice (own c) (c.loop-i.invariant.made lattice is) shown)

  left : (old new : Tile) → IsLeftOf (leaves c) (c.loop-i.next.column * 64) (c.loop-i.next.row * 64) old new → (let r = tile_rectangle lattice number in IsLeftOf (leaves c) r.x r.y old new)
  left old new = left_at (leaves c) lattice (c.args.particles.now.width / 64) number c.loop-i.next old new across there c.loop-i.invariant.at

pub next-next-requires-clause-few : goal.next-next-requires-clause-few
next-next-requires-clause-few c =
    let h = c.requires.some in
    let at = (goal.at.next-next-requires-clause-few c).In-loop-i in
    let less = below at h.lattice h.is in
    let all = few_tiles h.lattice (tile_count h.lattice) (whole at h.lattice h.is) (omega arith) in
    let e = there at h.lattice h.is in
    omega (arith, less, all, e)

pub next-next-requires-clause-position : goal.next-next-requires-clause-position
next-next-requires-clause-position c = subst (λ n. IsPosition n c.loop-i.next) (sym c.across-across.ensures.across) c.loop-i.invariant.at

pub keeps-requires : goal.keeps-requires
keeps-requires c = let h = c.requires.some in corner (goal.at.keeps-requires c).In-loop-i h.lattice h.is

pub on_tile-here-requires : goal.on_tile-here-requires
on_tile-here-requires c = let h = c.requires.some in corner (goal.at.on_tile-here-requires c).In-loop-i h.lattice h.is

pub plus-sum-requires-clause-gained : goal.plus-sum-requires-clause-gained
plus-sum-requires-clause-gained c = λ k h.
    let most = few (goal.at.plus-sum-requires-clause-gained c).In-loop-i in
    omega (arith, most, c.loop-i.invariant.gained k h, c.on_tile-here.ensures.gained.few k h)

pub plus-sum-requires-clause-lost : goal.plus-sum-requires-clause-lost
plus-sum-requires-clause-lost c = λ k h.
    let most = few (goal.at.plus-sum-requires-clause-lost c).In-loop-i in
    omega (arith, most, c.loop-i.invariant.lost k h, c.on_tile-here.ensures.lost.few k h)

pub loop-i-preserved-then-keeps : goal.loop-i-preserved-then-keeps
loop-i-preserved-then-keeps c =
    let at = (goal.at.loop-i-preserved-then-keeps c).In-loop-i in
    let cells = c.args.particles.now in
    let part = c.args.part in
    let i = c.loop-i.i in
    let first = c.own_tiles-own.result.first in
    let tile = c.tile.result.now in
    let low = c.loop-i.invariant.from in
    let as_left : (lattice : Cells) (is : IsPartOf part cells lattice 64) → (let r = tile_rectangle lattice (number at lattice is) in IsLeftOf (leaves at) r.x r.y tile tile) = λ lattice is. left at lattice is tile tile (c.keeps.ensures c.if-keeps.true) in
    record {
      from = omega (arith, low);
      tile = let e = c.loop-i.invariant.tile in c.next-next.ensures.tile ∙ omega (arith, e, low);
      at = subst (λ n. IsPosition n c.next-next.result) c.across-across.ensures.across c.next-next.ensures.position;
      sides = c.loop-i.invariant.sides;
      made = λ lattice is.
          tile_stays part cells lattice (acted (leaves at) lattice) c.loop-i.particles i c.own_tiles-own.ensures.lattice.sized is (own at) (c.loop-i.invariant.made lattice is)
          (kept_there (leaves at) lattice (number at lattice is) tile (whole at lattice is) (below at lattice is) (from at lattice is tile c.tile.ensures) (as_left lattice is));
      gained = λ k h. let few = c.loop-i.invariant.gained k h in omega (arith, few, low);
      lost = λ k h. let few = c.loop-i.invariant.lost k h in omega (arith, few, low);
      moved = λ lattice is.
          movements_add.right _
          ∙ sum_next movements _ first i (moved_by_counts (pos c.args.parity) c.loop-i.counts) _ low (c.loop-i.invariant.moved lattice is)
          (stays_there (leaves at) lattice (number at lattice is) tile (whole at lattice is) (below at lattice is) (from at lattice is tile c.tile.ensures) (as_left lattice is) (pos c.args.parity)
          ∙ ap (tile_moves (pos c.args.parity) lattice (acted (leaves at) lattice)) (numbered at lattice is));
    }

pub loop-i-preserved : goal.loop-i-preserved
loop-i-preserved c =
    let at = (goal.at.loop-i-preserved c).In-loop-i in
    let cells = c.args.particles.now in
    let part = c.args.part in
    let i = c.loop-i.i in
    let first = c.own_tiles-own.result.first in
    let old = c.tile_mut.result.now in
    let new = c.on_tile-here.new.tile in
    let change = c.on_tile-here.result in
    let low = c.loop-i.invariant.from in
    let as_left : (lattice : Cells) (is : IsPartOf part cells lattice 64) → (let r = tile_rectangle lattice (number at lattice is) in IsLeftOf (leaves at) r.x r.y old new) = λ lattice is. left at lattice is old new c.on_tile-here.ensures.left in
    record {
      from = omega (arith, low);
      tile = let e = c.loop-i.invariant.tile in c.next-next.ensures.tile ∙ omega (arith, e, low);
      at = subst (λ n. IsPosition n c.next-next.result) c.across-across.ensures.across c.next-next.ensures.position;
      sides = record { wide = c.loop-i.invariant.sides.wide; high = c.loop-i.invariant.sides.high };
      made = λ lattice is.
          tile_made part cells lattice (acted (leaves at) lattice) c.loop-i.particles i new c.own_tiles-own.ensures.lattice.sized is.placed (own at) (c.loop-i.invariant.made lattice is)
          (left_there (leaves at) lattice (number at lattice is) old new (whole at lattice is) (below at lattice is) (from at lattice is old c.tile_mut.ensures.tile) (as_left lattice is));
      gained = λ k h. let few = few_together _ _ c.loop-i.counts.gained change.gained c.plus-sum.result.gained c.plus-sum.ensures.gained c.loop-i.invariant.gained c.on_tile-here.ensures.gained.few k h in omega (arith, few, low);
      lost = λ k h. let few = few_together _ _ c.loop-i.counts.lost change.lost c.plus-sum.result.lost c.plus-sum.ensures.lost c.loop-i.invariant.lost c.on_tile-here.ensures.lost.few k h in omega (arith, few, low);
      moved = λ lattice is.
          moved_together (pos c.args.parity) c.loop-i.counts change c.plus-sum.result c.plus-sum.ensures.gained c.plus-sum.ensures.lost
          ∙ sum_next movements _ first i (moved_by_counts (pos c.args.parity) c.loop-i.counts) (moved_by_counts (pos c.args.parity) change) low (c.loop-i.invariant.moved lattice is)
          (moves_there (pos c.args.parity) (leaves at) lattice (number at lattice is) change old new (whole at lattice is) (below at lattice is) (from at lattice is old c.tile_mut.ensures.tile) (as_left lattice is) c.on_tile-here.ensures.gained c.on_tile-here.ensures.lost
          ∙ ap (tile_moves (pos c.args.parity) lattice (acted (leaves at) lattice)) (numbered at lattice is));
    }

pub returns-clause-rows : goal.returns-clause-rows
returns-clause-rows c = λ lattice is.
    let t = c.own_tiles-own in
    let old = c.args.particles.now in
    all_acted (tile_of old) c.loop-i.i (leaves_of c.args.exchange.now) c.args.part old lattice c.loop-i.particles is
    (own_before c.args.part old t.result.first t.result.end c.loop-i.i t.ensures.lattice.sized t.ensures.own.first t.ensures.order.0 t.ensures.own.count (omega (arith, c.loop-i-test.false))) (c.loop-i.invariant.made lattice is)

pub returns-clause-moved : goal.returns-clause-moved
returns-clause-moved c = λ lattice is.
    let t = c.own_tiles-own in
    let n : c.loop-i.i - t.result.first ≡ t.result.end - t.result.first = omega (arith, c.loop-i-test.false, c.loop-i.auto.i-end) in
    c.moved.ensures (pos c.args.parity) (let s = c.requires.parity in omega (arith, s))
    ∙ (c.loop-i.invariant.moved lattice is
    ∙ ap (tiles_move (pos c.args.parity) lattice (acted (leaves_of c.args.exchange.now) lattice) (c.args.part.first * (lattice.width / 64))) (n ∙ (t.ensures.own.count ∙ ap (λ w. own_rows c.args.part c.args.particles.now * (w / 64)) is.placed.wide)))
