use Rattle.std.proofs.Common.{map, ◌++◌, ap, ◌∙◌}
use Rattle.std.specs.Fmt.{decimal}
use Rattle.gas_text.specs.Requests.{verb_word}
use Rattle.gas_text.proofs.Spacing.{words_after}
use Rattle.gas_text.proofs.verb.push_verb.Goals as goal

pub returns-clause-text : goal.returns-clause-text
returns-clause-text c = words_after c.args.page.now c.push.new.self c.push_numbers.new.page (verb_word c.args.verb) (map decimal c.args.numbers.now) (c.push.ensures.bytes ∙ ap (λ word. c.args.page.now ++ word) c.word.ensures) c.push_numbers.ensures.text
