use Rattle.std.proofs.Common.{◌≡◌, drop}
use Rattle.std.specs.List.{find}
use Rattle.std.specs.Str.{bytes_eq}
use Rattle.gas_text.specs.Requests.{verb_word}
use Rattle.gas_text.proofs.verb.first_named.Given as goal

-- no verb so far has the word
abbrev pub invariant-loop-verb : goal.invariant-loop-verb
invariant-loop-verb l = find (λ verb. bytes_eq l.word (verb_word verb)) (drop l.verb-index l.verbs) ≡ find (λ verb. bytes_eq l.word (verb_word verb)) l.verbs
