use Rattle.std.proofs.Common.{rules, ◌≡◌, ap, ◌∙◌, length, get_or, ◌<◌}
use Rattle.std.proofs.lemmas.List.{get_or_read}
use Rattle.gas_terms.specs.Laboratory.{Laboratory}
use Rattle.gas_terms.specs.declared.command.Entry.{Entry}
use Rattle.gas_terms.specs.declared.command.Command.TheVariants.{Tally}
use Rattle.gas_terms.specs.declared.answer.Answer.TheVariants.{EntryIs}
use Rattle.gas_lab.proofs.lab.Lab.entry.Goals as goal

pub returns-clause-ok : goal.returns-clause-ok
returns-clause-ok g c =
    let none : Entry = record { seat = 0; command = Tally } in
    let journal : c.self.inside.journal.items ≡ c.args.self.now.journal = ap (λ (lab : Laboratory). lab.journal) c.self.view_is in
    let within : c.args.k < length c.self.inside.journal.items = search rules in
    let there = get_or_read c.self.inside.journal.items c.args.k c.index-entry.result.now within c.index-entry.ensures none ∙ ap (λ entries. get_or entries c.args.k none) journal in
    let command = c.in_ok-command.ensures.same ∙ ap (λ (entry : Entry). entry.command) there in
    λ i. EntryIs (record { seat = (there i).seat; command = command i })
