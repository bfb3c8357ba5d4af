use Rattle.std.proofs.Common.{false, arith, inl, inr}
use Rattle.block_rule.proofs.BlockNames.{nothing_named}
use Rattle.single_phase.proofs.walled_blocks.tile_blocks.Goals as goal

pub returns : goal.returns
returns c = λ some other seen others.
    c.renew-rows.ensures (λ _ _. false) some other seen others (λ u v h k far. absurd (elim far [ inl below ↦ omega (arith, below) | inr above ↦ omega (arith, above, k) ])) nothing_named
