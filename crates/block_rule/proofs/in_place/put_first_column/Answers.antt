use Rattle.std.proofs.Common.{◌≡◌, ◌+◌, ◌∙◌, subst, arith, inl, inr}
use Rattle.std.proofs.lemmas.Bool.{cases_lt}
use Rattle.block_rule.specs.InPlace.{IsLeaving, carried_row}
use Rattle.block_rule.proofs.in_place.put_first_column.Goals as goal

pub returns-clause-column : goal.returns-clause-column
returns-clause-column c = λ column is y low high.
    elim (cases_lt 46 y) [
      | inl more ↦ c.put_rows-2.ensures.column column is.last y more (omega (arith, high))
      | inr less ↦ c.put_rows-2.ensures.others 0 y (omega arith) (omega (arith, high)) (λ z h k. absurd (omega (arith, h, less))) ∙ c.put_rows.ensures.column column (λ k few. subst (λ m. IsLeaving (carried_row c.args.carry.now m) column m) (let e : k ≡ 0 + k = omega arith in e) (is.first k few)) y low (omega (arith, less))
    ]

pub returns-clause-others : goal.returns-clause-others
returns-clause-others c = λ x y h k other.
    c.put_rows-2.ensures.others x y h k (λ z low high. other z (omega (arith, low)) high)
    ∙ c.put_rows.ensures.others x y h k (λ z low high. other z low (omega (arith, high)))
