use Rattle.std.proofs.Common.{rules, drop, length, sym, subst, refl, take, ◌++◌}
use Rattle.gas_terms.specs.Cells.{Cells}
use Rattle.phase_strips.specs.Courses.{AreRowBytes}
use Rattle.phase_strips.proofs.EdgeRows.{row_written}
use Rattle.phase_strips.proofs.runs.edges.EdgeRow.new.Goals as goal

pub invariant_of-result : goal.invariant_of-result
invariant_of-result g c =
    let cells = c.args.particles.now in
    let bytes = c.in_ok-bytes.bytes in
    let new = c.row_bytes.new.out in
    record {
      is = subst (λ (lattice : Cells). AreRowBytes lattice 0 (take bytes.len (new ++ drop (length new) bytes.items))) (sym c.requires)
          (row_written cells cells 0 0 bytes.len new (drop (length new) bytes.items) c.size.ensures.lattice (record { wide = refl; cell = λ x less. refl }) c.row_bytes.ensures (search rules));
    }
