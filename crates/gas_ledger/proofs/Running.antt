-- A run leaves the sides of the particles.
use Rattle.std.proofs.Common.{◌≡◌, ℕ, ℤ, Bool, true, false, Option, Some, None, if◌then◌else◌, sym, ap₂, ◌∙◌, subst}
use Rattle.gas_terms.specs.Cells.{Cells, Extent, HasSidesOf}
use Rattle.phase_step.specs.Runs.{particles_after}
use Rattle.phase_step.specs.Actions.{Leaves, after_with}
use Rattle.phase_step.proofs.ActionRuns.{sides_after, sides_with}
use Rattle.gas_ledger.specs.PortLists.{PortLists, LieWithin}
use Rattle.gas_ledger.specs.Gases.{FitTogether}

-- what fits particles fits others of their sides
fit_sides : (cells now walls obstacles : Cells) (ports : PortLists) → HasSidesOf now cells → FitTogether cells walls obstacles ports → FitTogether now walls obstacles ports
fit_sides cells now walls obstacles ports same fit =
    record {
      walls_sides = record { wide = fit.walls_sides.wide ∙ sym same.wide; high = fit.walls_sides.high ∙ sym same.high };
      obstacles_sides = record { wide = fit.obstacles_sides.wide ∙ sym same.wide; high = fit.obstacles_sides.high ∙ sym same.high };
      ports_inside = subst (λ s. LieWithin s ports) (ap₂ (λ w h. let s : Extent = record { width = w; height = h } in s) (sym same.wide) (sym same.high)) fit.ports_inside;
    }

pub fit_after : (p : ℕ) (solid cells now walls obstacles : Cells) (ports : PortLists) (n : ℕ) → now ≡ particles_after p solid cells n →
    FitTogether cells walls obstacles ports → FitTogether now walls obstacles ports
fit_after p solid cells now walls obstacles ports n e fit =
    fit_sides cells now walls obstacles ports (subst (λ (now : Cells). HasSidesOf now cells) (sym e) (sides_after p solid cells n)) fit

pub fit_with : (p : ℕ) (solid : Cells) (leaves : ℕ → Leaves) (cells now walls obstacles : Cells) (ports : PortLists) (n : ℕ) → now ≡ after_with p solid leaves cells n →
    FitTogether cells walls obstacles ports → FitTogether now walls obstacles ports
fit_with p solid leaves cells now walls obstacles ports n e fit =
    fit_sides cells now walls obstacles ports (subst (λ (now : Cells). HasSidesOf now cells) (sym e) (sides_with p solid leaves cells n)) fit

-- the tick so many ticks away is one
pub chosen : (fits : Bool) (t u : ℤ) → (let o : Option ℤ = Some u in o) ≡ (if fits then Some t else None) → u ≡ t
chosen true t u e = cc
chosen false t u e = cc
