use Rattle.std.proofs.Common.{ℕ, ◌<◌, ◌-◌, ◌^◌, ap, ◌∙◌}
use Rattle.std.proofs.lemmas.List.{get_or-replicate}
use Rattle.bit_tile.specs.Bit.{bit}
use Rattle.bit_tile.proofs.Words32.{bit-ones}
use Rattle.bit_tile.proofs.Classes.{by_class}
use Rattle.bit_tile.proofs.Tile.full.Goals as goal

pub returns : goal.returns
returns c =
    let all = λ (i j : ℕ) (h : i < 32) (k : j < 32). ap (λ w. bit w i) (get_or-replicate 32 j (2 ^ 32 - 1) 0 k) ∙ bit-ones i h in
    by_class _ _ all all all all
