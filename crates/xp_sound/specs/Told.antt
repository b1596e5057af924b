-- Where no notice is due, and where one more number may wait for its notice.
use Rattle.std.specs.Prelude.{◌≡◌, ℕ, ◌+◌, ◌<◌, length, None}
use Rattle.xp_base.specs.declared.layout.TheConstants.{CHANNELS, LINES}
use Rattle.xp_base.specs.History.{NoticeKind}
use Rattle.xp_script.specs.declared.part.ScenarioPart.{ScenarioPart}
use Rattle.xp_protocol.specs.State.{State, End, end_of}
use Rattle.xp_protocol.specs.Acts.{notice_due}

-- no notice of any kind is due at an end
abbrev pub IsTold : End → Type 0
IsTold e = (how : NoticeKind) → notice_due how e ≡ None

-- all notices that were due at any end were given
abbrev pub AllTold : ScenarioPart → State → Type 0
AllTold s st = (q c : ℕ) → q < s.count → c < CHANNELS → IsTold (end_of st q c)

-- fewer numbers wait for a notice, of delivery or of their connection's end, than a queue has lines
abbrev pub HasNoticeRoom : End → Type 0
HasNoticeRoom e = length e.sides.pending_notices + length e.ended < LINES
