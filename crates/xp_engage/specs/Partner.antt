-- What a partition knows of a partner, but for the ends of their channels, and what a step for the
-- partner makes of it: what the rules say of any partner of which this is known.
use Rattle.std.specs.Prelude.{◌≡◌, ℕ, ◌*◌, ◌-◌, ◌^◌, ◌<◌, Bool, true, false, ◌||◌, is_some, if◌then◌else◌, List, [], ◌∷◌, Option, Some, None}
use Rattle.xp_base.specs.declared.reason.Reason.{Reason}
use Rattle.xp_base.specs.declared.step.Answer.{Answer}
use Rattle.xp_base.specs.declared.step.Answer.TheVariants.{Failed}
use Rattle.xp_base.specs.declared.step.CopyMark.{CopyMark}
use Rattle.xp_base.specs.declared.step.Wanted.{Wanted}
use Rattle.xp_script.specs.declared.part.ScenarioPart.{ScenarioPart}
use Rattle.xp_protocol.specs.declared.contact.Look.{Look}
use Rattle.xp_protocol.specs.declared.contact.Look.TheVariants.{Unseen}
use Rattle.xp_protocol.specs.declared.rule.PeerRule.{PeerRule}
use Rattle.xp_protocol.specs.declared.rule.PeerRule.TheVariants.{TakeFlags, LookAtPage, ReadRecord, CheckBeat, Prepare, OpenArea}
use Rattle.xp_protocol.specs.Effects.{Effect, Note, Row}
use Rattle.xp_protocol.specs.State.{State, Up, Peer, peer_of, Engage, Contact, Watch, new_watch, no_numbers, warm_engage, booted_engage, first_contact, idle_links, none_going, are_new}
use Rattle.xp_protocol.specs.Peering.{Here, peer_can, peer_row, peer_effect, copies_go_on, IsAreaWord}
use Rattle.xp_protocol.specs.Rules.{here_of, peer_answered, peer_life}
use Rattle.xp_protocol.specs.Wanting.{mark_with, wanted_at}

-- the partition and the partner by their numbers, the own version, for how many turns backing off
-- lasts, how many lie between two checks of the partner's heartbeat, 0 for no checks, the stamp of
-- the boot, and whether the mask that was stored has the partner's bit
pub record Partner : Type 0 where
  pub own : ℕ
  pub partner : ℕ
  pub version : ℕ
  pub wait : ℕ
  pub check : ℕ
  pub stamp : ℕ
  pub masked : Bool
  pub wanted : Bool
  pub look : Look
  pub both_new : Bool
  pub flags_seen : ℕ
  pub engage : Engage
  pub contact : Option Contact
  pub watch : Watch

-- a partner in a boot, one of a partition that opens booted, and one that is in contact then, of
-- which the version is known
abbrev pub new_partner : ℕ → ℕ → ℕ → ℕ → Engage → ℕ → ℕ → Partner
new_partner own partner version stamp engage window check = record {
  own = own;
  partner = partner;
  version = version;
  wait = 2 * window;
  check = check;
  stamp = stamp;
  masked = false;
  wanted = true;
  look = Unseen;
  both_new = false;
  flags_seen = 0;
  engage = engage;
  contact = None;
  watch = new_watch 0;
}

-- a partner in a boot that has just begun
abbrev pub booted_partner : Partner → Partner
booted_partner x =
    record (new_partner x.own x.partner x.version x.stamp booted_engage 0 x.check) { wait = x.wait }

abbrev pub warm_partner : ℕ → ℕ → ℕ → ℕ → ℕ → ℕ → Partner
warm_partner own partner version theirs window check =
    record (new_partner own partner version 1 warm_engage window check) {
      masked = true;
      both_new = are_new version theirs;
      contact = Some first_contact;
    }

-- the partner as the rules see it, with no end of a channel. Where another copy of its words goes
-- on than that of its record, a look stands for it
abbrev pub alone_by : Bool → Partner → Peer
alone_by copying x = record {
  wanted = x.wanted;
  look = x.look;
  paging = if copying then 0 ∷ [] else [];
  both_new = x.both_new;
  flags_seen = x.flags_seen;
  numbers = no_numbers;
  engage = x.engage;
  contact = x.contact;
  watch = x.watch;
  links = idle_links;
  going = none_going;
}

abbrev pub alone : Partner → Peer
alone x = alone_by false x

abbrev pub seen_in : Partner → Peer → Partner
seen_in x p = record x {
  wanted = p.wanted;
  look = p.look;
  both_new = p.both_new;
  flags_seen = p.flags_seen;
  engage = p.engage;
  contact = p.contact;
  watch = p.watch;
}

-- what a step reads besides
abbrev pub here : ℕ → Partner → Here
here turn x = record {
  part = x.own;
  version = x.version;
  turn = turn;
  wait = x.wait;
  check = x.check;
  masked = x.masked;
  stamp = x.stamp;
  read = true;
}

abbrev pub row_for : Partner → PeerRule → Row
row_for x m = peer_row x.own x.stamp x.partner (alone x) m

-- a copy has no number below a node
abbrev pub mark_for : Partner → PeerRule → Option CopyMark
mark_for x m = mark_with 0 (row_for x m).copy

abbrev pub step_wanted : Partner → PeerRule → Wanted
step_wanted x m = wanted_at x.own x.partner (row_for x m)

-- what a step makes of the partner, and the reason to deactivate the partner that the step gives
abbrev pub effect_on : ℕ → Partner → PeerRule → Answer → Effect Peer (ℕ → List Note)
effect_on turn x m a = peer_answered (here turn x) (mark_for x m) (alone x) m a

abbrev pub stepped : ℕ → Partner → PeerRule → Answer → Partner
stepped turn x m a = seen_in x (effect_on turn x m a).local

-- what a step that has answered a word makes of the partner
abbrev pub made : ℕ → Partner → PeerRule → ℕ → Partner
made turn x m w = seen_in x (peer_effect (here turn x) (alone x) m w).local

abbrev pub step_reason : ℕ → Partner → PeerRule → Answer → Option Reason
step_reason turn x m a = (effect_on turn x m a).reason

-- the steps that this makes: all for a partner but the take of its flags and the looks at its page.
-- A load that may fail is one of a copy of the record, or of a check of the heartbeat
abbrev pub is_made : PeerRule → Bool
is_made TakeFlags = false
is_made LookAtPage = false
is_made m = true

abbrev pub is_copy : PeerRule → Bool
is_copy ReadRecord = true
is_copy CheckBeat = true
is_copy m = false

-- a word that is stored before the memory is opened is one of the memory's, and a session is left
abbrev pub IsStorable : Partner → PeerRule → Type 0
IsStorable x (Prepare word) = IsAreaWord word × (x.engage.count < 2 ^ 32 - 1)
IsStorable x OpenArea = x.engage.count < 2 ^ 32 - 1
IsStorable x m = Unit {0}

-- a step that is permitted where another copy goes on or not
pub record IsPermitted (turn : ℕ) (copying : Bool) (x : Partner) (m : PeerRule) : Type 0 where
  pub made : is_made m ≡ true
  pub storable : IsStorable x m
  pub up : peer_life m ≡ Up
  pub can : peer_can (here turn x) (alone_by copying x) m

pub record IsMade (m : PeerRule) (a : Answer) : Type 0 where
  pub made : is_made m ≡ true
  pub fails : a ≡ Failed → is_copy m ≡ true

abbrev pub MayAnswer : Option PeerRule → Answer → Type 0
MayAnswer None a = Unit {0}
MayAnswer (Some m) a = a ≡ Failed → is_copy m ≡ true

-- a state of the partition in which this is known of the partner, in the turn that is counted next:
-- another copy of its words goes on where `copying` says so, and of its record the one that is
-- known
pub record IsStateOf (x : Partner) (turn : ℕ) (copying : Bool) (s : ScenarioPart) (st : State) :
    Type 0 where
  pub part : s.part ≡ x.own
  pub partner : x.partner < s.count
  pub other : x.partner ≡ x.own → ⊥
  pub life : st.life ≡ Up
  pub here : here_of s st x.partner ≡ record (here turn x) { read = is_some st.boot.read }
  pub wanted : (peer_of st x.partner).wanted ≡ x.wanted
  pub look : (peer_of st x.partner).look ≡ x.look
  pub engage : (peer_of st x.partner).engage ≡ x.engage
  pub contact : (peer_of st x.partner).contact ≡ x.contact
  pub watch : (peer_of st x.partner).watch ≡ x.watch
  pub copies : copies_go_on (peer_of st x.partner) ≡ (copying || is_some x.engage.reading)

-- a step with its copy's number left out
abbrev pub unmarked : Option CopyMark → Option CopyMark
unmarked None = None
unmarked (Some mark) = Some (record mark { number = 0 })

abbrev pub unnumbered : Wanted → Wanted
unnumbered x = record x { mark = unmarked x.mark }
