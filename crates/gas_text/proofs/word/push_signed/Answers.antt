use Rattle.std.proofs.Common.{◌≡◌, ◌∷◌, [], ◌++◌, sym, ap, append_assoc, append-nil, ◌∙◌, to_z-of_z}
use Rattle.std.specs.Fmt.{signed_decimal}
use Rattle.gas_text.proofs.word.push_signed.Goals as goal

pub returns-clause-text : goal.returns-clause-text
returns-clause-text c =
    let number = signed_decimal c.args.n in
    let digits : c.as_bytes.result.now ≡ number = c.as_bytes.ensures.value ∙ c.format.ensures.text ∙ ap signed_decimal (to_z-of_z c.ranges.n) in
    c.push-2.ensures.bytes ∙ (λ i. c.push.ensures.bytes i ++ digits i) ∙ append_assoc c.args.page.now (32 ∷ []) number
    ∙ ap (λ text. c.args.page.now ++ (32 ∷ text)) (sym (append-nil number))
