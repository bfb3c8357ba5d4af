use Rattle.std.proofs.Common.{refl}
use Rattle.gas_talk.proofs.Sequential.{talk_of_session}
use Rattle.gas_talk.proofs.session_laws.sessions_alone_are_talks.Goals as goal

pub returns : goal.returns
returns g c lab_of seat_of alone unread_old unread_new old end new s =
    talk_of_session _ lab_of seat_of alone.size (λ d command r e h. (alone.asked d command r e h).0) (λ d r e h. (alone.copied d r e h).0)
    (λ d command r e h. (alone.asked d command r e h).1) (λ d r e h. (alone.copied d r e h).1) unread_old unread_new old end new s (lab_of new.door) refl
