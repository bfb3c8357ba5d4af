-- What the tiles of a list of numbers take.
use Rattle.std.proofs.Common.{◌≡◌, ℕ, ◌+◌, ◌*◌, ◌<◌, ◌≤◌, ◌^◌, List, [], ◌∷◌, ◌++◌, length, sym, ap₂, ◌∙◌, subst, arith}
use Rattle.gas_terms.specs.Cells.{Cells}
use Rattle.gas_terms.specs.Accounts.{took_plus, pair_plus, TakenFits}
use Rattle.gas_terms.specs.declared.accounts.Took.{Took}
use Rattle.phase_step.specs.Runs.{takings}
use Rattle.phase_step.proofs.Amounts.{each_last}
use Rattle.phase_step.proofs.FlowSums.{takings_add, IsTakenOf, none_taken, took_few, took_fits}
use Rattle.phase_step.proofs.TileFlows.{tile_takes_few}
use Rattle.phase_team.specs.Tiles.{tile_takes, numbered_tiles_take}
use Rattle.phase_team.proofs.NumberSums.{each_append, each_few}

module _ (p : ℕ) (particles walls obstacles : Cells) where
  pub take_more : (numbers : List ℕ) (i : ℕ) (took here : Took) → took ≡ numbered_tiles_take p particles walls obstacles numbers → here ≡ tile_takes p particles walls obstacles i
      → took_plus took here ≡ numbered_tiles_take p particles walls obstacles (numbers ++ i ∷ [])
  take_more numbers i took here so_far is = ap₂ took_plus so_far is ∙ sym (each_last takings (tile_takes p particles walls obstacles) numbers i)

  pub take_both : (numbers others : List ℕ) (took more : Took) → took ≡ numbered_tiles_take p particles walls obstacles numbers → more ≡ numbered_tiles_take p particles walls obstacles others
      → took_plus took more ≡ numbered_tiles_take p particles walls obstacles (numbers ++ others)
  take_both numbers others took more so_far is = ap₂ took_plus so_far is ∙ sym (each_append takings takings_add (tile_takes p particles walls obstacles) numbers others)

  take_few : (numbers : List ℕ) (took : Took) → took ≡ numbered_tiles_take p particles walls obstacles numbers → IsTakenOf (16384 * length numbers) took
  take_few numbers took is =
      subst (IsTakenOf (16384 * length numbers)) (sym is)
      (each_few takings takings_add (tile_takes p particles walls obstacles) IsTakenOf (none_taken 0) took_few 16384 (tile_takes_few p particles walls obstacles) numbers)

  -- what the tiles of a list and of one more number take fits, and what those of two lists take
  pub more_fits : (numbers : List ℕ) (i : ℕ) (took here : Took) → length numbers < 2 ^ 20
      → took ≡ numbered_tiles_take p particles walls obstacles numbers → here ≡ tile_takes p particles walls obstacles i
      → TakenFits (pair_plus took.walls here.walls) × TakenFits (pair_plus took.obstacles here.obstacles)
  more_fits numbers i took here few so_far is =
      took_fits (16384 * length numbers) 16384 took here (take_few numbers took so_far) (subst (IsTakenOf 16384) (sym is) (tile_takes_few p particles walls obstacles i)) (omega (arith, few))

  pub both_fit : (numbers others : List ℕ) (took more : Took) → length numbers + length others ≤ 2 ^ 20
      → took ≡ numbered_tiles_take p particles walls obstacles numbers → more ≡ numbered_tiles_take p particles walls obstacles others
      → TakenFits (pair_plus took.walls more.walls) × TakenFits (pair_plus took.obstacles more.obstacles)
  both_fit numbers others took more few so_far is =
      took_fits (16384 * length numbers) (16384 * length others) took more (take_few numbers took so_far) (take_few others more is) (omega (arith, few))
