-- What a node tells of a partner: what a look showed, that it is wanted or not, words of the own
-- memory that were taken or loaded, flag words among them, a mask that was stored, and a reason to
-- deactivate it.
use Rattle.std.specs.Prelude.{ℕ, Bool, true, false, not, ◌&&◌, if◌then◌else◌, bit_or, Option, Some, None}
use Rattle.xp_base.specs.declared.reason.Reason.{Reason}
use Rattle.xp_base.specs.declared.session.Session.{Session}
use Rattle.xp_base.specs.declared.reason.Reason.TheVariants.{Unloading}
use Rattle.xp_protocol.specs.declared.contact.Look.{Look}
use Rattle.xp_protocol.specs.declared.contact.Look.TheVariants as looks
use Rattle.xp_protocol.specs.declared.contact.PartnerState.{PartnerState as Stands}
use Rattle.xp_protocol.specs.declared.contact.PartnerState.TheVariants as states
use Rattle.xp_protocol.specs.State.{Contact, Engage}
use Rattle.xp_protocol.specs.Acts.{unwanted, wanted_again}
use Rattle.xp_protocol.specs.Peering.{with_reason, look_reason, deactivation_heard, peer_read, is_left, is_flagged, both_new_by}
use Rattle.xp_discover.specs.declared.look.LookAnswer.{LookAnswer}
use Rattle.xp_discover.specs.declared.look.LookAnswer.TheVariants as answers
use Rattle.xp_engage.specs.declared.area.PartnerState.{PartnerState}
use Rattle.xp_engage.specs.declared.area.PartnerState.TheVariants as told
use Rattle.xp_base.specs.declared.step.Answer.{Answer}
use Rattle.xp_protocol.specs.declared.rule.PeerRule.{PeerRule}
use Rattle.xp_engage.specs.Partner.{Partner, alone, seen_in, stepped, step_reason}

-- the first reason is kept, while the area is open
abbrev pub faulted : Option Reason → Partner → Partner
faulted reason x = seen_in x (with_reason reason (alone x))

-- the step that was wanted has answered
abbrev pub fed : ℕ → Answer → Option PeerRule → Partner → Partner
fed turn a None x = x
fed turn a (Some m) x = faulted (step_reason turn x m a) (stepped turn x m a)

abbrev pub wanted_as : Bool → Partner → Partner
wanted_as true x = seen_in x (wanted_again (alone x))
wanted_as false x = seen_in x (unwanted (alone x))

-- a look
abbrev pub shown_by : LookAnswer → Look
shown_by (answers.Good stamp version) = looks.Good version
shown_by answers.Absent = looks.Absent
shown_by (answers.BadVersion word) = looks.BadVersion word

abbrev pub stamp_shown : LookAnswer → ℕ
stamp_shown (answers.Good stamp version) = stamp
stamp_shown answer = 0

abbrev pub looked_at : LookAnswer → Partner → Partner
looked_at answer x =
    faulted (look_reason x.engage.echo (shown_by answer) (stamp_shown answer))
    (record x {
      look = shown_by answer;
      both_new = both_new_by x.version (shown_by answer) x.both_new;
    })

-- flags were taken, where another one waits to be handled at an end or none does
abbrev pub flags_noted : ℕ → Bool → Partner → Partner
flags_noted word waits x =
    record x { flags_seen = if waits then bit_or x.flags_seen word else word }

-- the own deactivation word was taken, and the own engagement word was loaded
abbrev pub heard : ℕ → Partner → Partner
heard word x = seen_in x (deactivation_heard word x.partner (alone x)).local

abbrev pub engaged_by : ℕ → Partner → Partner
engaged_by word x = seen_in x (peer_read word x.partner (alone x)).local

abbrev pub is_freed : ℕ → Partner → Bool
is_freed word x = is_left x.engage && not (is_flagged word x.partner)

abbrev pub sessions_of : Option Contact → Option (Session × Session)
sessions_of None = None
sessions_of (Some contact) = Some (contact.own, contact.theirs)

-- how the partition stands to the partner, with the reason for which it goes down
abbrev pub reason_told : Option Reason → Reason
reason_told None = Unloading
reason_told (Some reason) = reason

abbrev pub state_by : Stands → Option Reason → PartnerState
state_by states.Inactive reason = told.Inactive
state_by states.Requested reason = told.Requested
state_by states.Activating reason = told.Activating
state_by states.Active reason = told.Active
state_by states.Deactivating reason = told.Deactivating (reason_told reason)

abbrev pub state_told : Engage → PartnerState
state_told x = state_by x.state x.reason
