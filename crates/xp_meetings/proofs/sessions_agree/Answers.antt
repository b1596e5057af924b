use Rattle.xp_meetings.proofs.Agrees.{agree}
use Rattle.xp_meetings.proofs.sessions_agree.Goals as goal

pub returns : goal.returns
returns c = agree
