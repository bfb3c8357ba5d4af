use Rattle.gas_talk.proofs.Sequential.{extended}
use Rattle.gas_talk.proofs.session_laws.extended_by_calls_is_extended_by_sessions.Goals as goal

pub returns : goal.returns
returns g c list each unread_old unread_new old end new s = extended _ list each.asked each.copied old.door s.serves.talk_lines new.door s.serves.leads.talk
