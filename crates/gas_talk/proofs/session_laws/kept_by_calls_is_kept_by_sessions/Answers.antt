use Rattle.gas_talk.proofs.Sequential.{stays}
use Rattle.gas_talk.proofs.session_laws.kept_by_calls_is_kept_by_sessions.Goals as goal

pub returns : goal.returns
returns g c part each unread_old unread_new old end new s = stays _ part each.asked each.copied old.door s.serves.talk_lines new.door s.serves.leads.talk
