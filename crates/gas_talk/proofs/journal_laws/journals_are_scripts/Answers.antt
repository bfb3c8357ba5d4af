use Rattle.gas_talk.proofs.JournalScripts.{journal_is_script}
use Rattle.gas_talk.proofs.journal_laws.journals_are_scripts.Goals as goal

pub returns : goal.returns
returns c = journal_is_script
