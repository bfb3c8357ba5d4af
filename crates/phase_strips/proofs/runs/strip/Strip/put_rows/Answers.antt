use Rattle.std.proofs.Common.{arith}
use Rattle.gas_terms.specs.Cells.{extent}
use Rattle.gas_plane.proofs.Places.{high}
use Rattle.phase_strips.proofs.Loads.{rows_put}
use Rattle.phase_strips.proofs.runs.strip.Strip.put_rows.Goals as goal

pub overflow_add-from : goal.overflow_add-from
overflow_add-from c = omega (arith, (high (extent c.args.out.now) c.requires.is.sized).few, c.requires.strip.inside.inside, c.requires.rows)

pub overflow_add-self : goal.overflow_add-self
overflow_add-self c = omega (arith, (high (extent c.args.out.now) c.requires.is.sized).few, c.requires.strip.inside.inside, c.requires.rows)

pub returns-clause-rows : goal.returns-clause-rows
returns-clause-rows c = λ lattice sides own_rows.
    let s = c.args.self.now in
    let strip = c.requires.strip in
    rows_put s.own s.cells c.args.out.now c.copy_rows.new.out lattice c.args.from c.args.rows strip.inside c.requires.rows c.requires.is sides strip.wide strip.high c.copy_rows.ensures.copied own_rows
