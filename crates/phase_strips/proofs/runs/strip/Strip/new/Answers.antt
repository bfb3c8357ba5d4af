use Rattle.std.proofs.Common.{rules, refl}
use Rattle.phase_strips.proofs.runs.strip.Strip.new.Goals as goal

pub returns : goal.returns
returns c = (
  record {
    inside = c.requires;
    wide = search rules;
    high = search rules;
  },
  refl,
)
