use Rattle.std.proofs.Common.{◌∙◌, length, drop}
use Rattle.gas_snapshot.proofs.Pages.{all_put, copied_len, copied_front}
use Rattle.gas_snapshot.proofs.writing.fill.Goals as goal

pub returns : goal.returns
returns c =
    all_put c.args.gas.now c.particles.result.now c.walls.result.now c.obstacles.result.now _ c.put_plane.new.out c.put_plane-2.new.out c.put_plane-3.new.out c.args.first.now c.args.part c.particles.ensures c.walls.ensures c.obstacles.ensures c.requires.part
    (c.put_plane-3.auto.out ∙ c.put_plane-2.auto.out ∙ c.put_plane.auto.out ∙ copied_len c.copy_from_slice.new.self c.args.first.now c.args.out.now c.args.part c.copy_from_slice.ensures.after c.requires.room)
    c.requires.first c.put_plane.ensures c.put_plane-2.ensures c.put_plane-3.ensures
    (copied_front c.copy_from_slice.new.self c.args.first.now (drop (length c.args.first.now) c.args.out.now) c.copy_from_slice.ensures.after)
