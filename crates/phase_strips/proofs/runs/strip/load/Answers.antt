use Rattle.std.proofs.Common.{◌≡◌, ◌+◌, ◌-◌, ◌/◌, ◌%◌, ap, ◌∙◌}
use Rattle.gas_terms.specs.Cells.{Extent}
use Rattle.phase_strips.proofs.Loads.{all_loaded}
use Rattle.phase_strips.proofs.runs.strip.load.Goals as goal

pub returns-clause-rows : goal.returns-clause-rows
returns-clause-rows c =
    let lattice = c.args.particles.now in
    let own = c.args.own in
    let down : c.from-down.result ≡ lattice.height / 64 = c.from-down.ensures ∙ ap (λ n. n / 64) (c.height.ensures ∙ ap (λ (s : Extent). s.height) c.size.ensures.extent) in
    all_loaded lattice c.args.cells.now c.copy_rows.new.out c.copy_rows-2.new.out c.copy_rows-3.new.out own c.before-above.result c.after-below.result
    (record {
      inside = c.requires.inside;
      tall = c.requires.high;
      wide = c.requires.wide;
      one = c.copy_rows.ensures.sides;
      two = c.copy_rows-2.ensures.sides;
      three = c.copy_rows-3.ensures.sides;
      own_copied = c.copy_rows.ensures.copied;
      above_is = c.before-above.ensures.place ∙ ap (λ d. (own.first + d - 1) % d) down;
      above_copied = c.copy_rows-2.ensures.copied;
      below_is = c.after-below.ensures.place ∙ ap (λ d. (own.first + own.rows - 1 + 1) % d) down;
      below_copied = c.copy_rows-3.ensures.copied;
    })
