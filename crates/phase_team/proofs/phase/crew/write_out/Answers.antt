use Rattle.std.proofs.Common.{rules, ◌<◌, [], length, get_or, map, take, subst}
use Rattle.gas_plane.specs.Planes.{with_tile}
use Rattle.claim_desk.specs.Draws.{times}
use Rattle.phase_team.specs.declared.phase.worker.Turned.{Turned}
use Rattle.gas_plane.proofs.Sweeps.{lattice_kept}
use Rattle.phase_team.proofs.Places.{sides_kept, write_keeps, write_more, places_more}
use Rattle.phase_team.proofs.phase.crew.write_out.Goals as goal

pub loop-place-preserved : goal.loop-place-preserved
loop-place-preserved c =
    let task = c.args.task in
    let was = c.loop-place.invariant in
    let out = c.loop-place.out in
    let j = c.loop-place.place-index in
    let d : Turned = record { place = 0; tile = record { even_even = []; odd_even = []; even_odd = []; odd_odd = [] } } in
    let less : j < length c.args.turned.now = search rules in
    let t : Turned = get_or c.args.turned.now j d in
    let right = c.requires.right j d less in
    let next = with_tile out t.place t.tile in
    record {
      lattice = lattice_kept out t.place t.tile was.lattice next (λ k. next);
      sides = sides_kept task.parity task.old.now task.walls.now task.obstacles.now out next t.place t.tile was.sides (λ k. next);
      kept = λ i within still. write_keeps task.parity task.old.now task.walls.now task.obstacles.now out next t.place t.tile was.lattice was.sides right.0 right.1 (λ k. next) i within (was.kept i within still);
      new = λ i within some_time.
          write_more task.parity task.old.now task.walls.now task.obstacles.now out next (map (λ (t : Turned). t.place) (take j c.args.turned.now)) t.place t.tile was.lattice was.sides right.0 right.1 (λ k. next) was.new i within
          (subst (λ ns. 0 < times i ns) (places_more task.parity task.old.now task.walls.now task.obstacles.now c.args.turned.now j d less) some_time);
    }
