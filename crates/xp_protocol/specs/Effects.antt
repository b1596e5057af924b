-- What a step is, and what becomes of what it touches: the forms in which each rule is given.
use Rattle.std.specs.Prelude.{ℕ, ◌^◌, ◌-◌, Bool, true, false, if◌then◌else◌, List, [], ◌∷◌, ◌++◌, Option, Some, None}
use Rattle.xp_base.specs.declared.step.OpKind.{OpKind}
use Rattle.xp_base.specs.declared.step.OpKind.TheVariants.{Load, Store, Or, And, Take}
use Rattle.xp_base.specs.declared.step.CopyKind.{CopyKind}
use Rattle.xp_base.specs.declared.answer.SendAnswer.{SendAnswer}
use Rattle.xp_protocol.specs.declared.refusal.TakeRefusal.{TakeRefusal}
use Rattle.xp_base.specs.declared.answer.ReleaseAnswer.{ReleaseAnswer}
use Rattle.xp_base.specs.declared.answer.DrainAnswer.{DrainAnswer}
use Rattle.xp_base.specs.declared.answer.RegisterAnswer.{RegisterAnswer}
use Rattle.xp_base.specs.declared.answer.UnregisterAnswer.{UnregisterAnswer}
use Rattle.xp_base.specs.declared.reason.Reason.{Reason}
use Rattle.xp_base.specs.declared.session.Session.{Session}
use Rattle.xp_base.specs.Places.{Place}
use Rattle.xp_protocol.specs.Records.{Recorded, blank_record, has_begun, has_accepted, has_asked, has_taken, has_released, has_acked, has_delivered, has_ended, has_over, has_connected}

-- which load of which kind of copy
pub record Copied : Type 0 where
  pub kind : CopyKind
  pub word : ℕ

-- a step: on an own word or the partner's, where it stands, what is done with it, and which copy it
-- belongs to
pub record Row : Type 0 where
  pub own : Bool
  pub place : Place
  pub kind : OpKind
  pub copy : Option Copied

abbrev pub store : Place → ℕ → Row
store pl v = record { own = true; place = pl; kind = Store v; copy = None }

abbrev pub load_own : Place → Row
load_own pl = record { own = true; place = pl; kind = Load; copy = None }

abbrev pub take_own : Place → Row
take_own pl = record { own = true; place = pl; kind = Take; copy = None }

abbrev pub set_theirs : Place → ℕ → Row
set_theirs pl v = record { own = false; place = pl; kind = Or v; copy = None }

-- one bit of a word of the partner's is cleared
abbrev pub all_but : ℕ → ℕ
all_but q = 2 ^ 64 - 1 - 2 ^ q

abbrev pub clear_theirs : Place → ℕ → Row
clear_theirs pl q = record { own = false; place = pl; kind = And (all_but q); copy = None }

abbrev pub clear_own : Place → ℕ → Row
clear_own pl q = record { own = true; place = pl; kind = And (all_but q); copy = None }

abbrev pub load_copy : Place → CopyKind → ℕ → Row
load_copy pl kind word =
    record {
      own = false;
      place = pl;
      kind = Load;
      copy = Some (record { kind = kind; word = word });
    }

-- what the sending side of an end notes, and what the receiving side does
pub data SendNote : Type 0 where
  Accepted : (number : ℕ) → (body : List ℕ) → (asks : Bool) → SendNote
  Sent : (answer : SendAnswer) → SendNote

pub data PullNote : Type 0 where
  Heard : (get : ℕ) → PullNote
  TakeRefused : (refusal : TakeRefusal) → PullNote

-- what is noted at an end of a channel: by its sides, and by the end itself
pub data Note : Type 0 where
  BySend : (note : SendNote) → Note
  ByPull : (note : PullNote) → Note
  Began : (epoch : ℕ) → (own : Session) → (theirs : Session) → Note
  Joined : Note
  Taken : (body : List ℕ) → Note
  Freed : (number : ℕ) → Note
  Acked : (get : ℕ) → Note
  Told : (number : ℕ) → Note
  ToldOver : (number : ℕ) → Note
  Over : (reason : Reason) → Note
  Released : (answer : ReleaseAnswer) → Note
  Drained : (answer : DrainAnswer) → Note
  Registered : (answer : RegisterAnswer) → Note
  Withdrawn : (answer : UnregisterAnswer) → Note

-- what becomes of what a rule may change, the reason to deactivate the partner that it gives, and
-- what is noted
pub record Effect (L N : Type 0) : Type 0 where
  pub local : L
  pub reason : Option Reason
  pub notes : N

-- a change that gives no reason and no note
abbrev pub just : {L : Type 0} → L → Effect L (List Note)
just x = record { local = x; reason = None; notes = [] }

-- the first reason is kept
abbrev pub first_reason : Option Reason → Option Reason → Option Reason
first_reason None later = later
first_reason (Some reason) later = Some reason

-- two effects one after the other
abbrev pub and_then : {L : Type 0} → Effect L (List Note) → (L → Effect L (List Note)) →
    Effect L (List Note)
and_then f g =
    record {
      local = (g f.local).local;
      reason = first_reason f.reason (g f.local).reason;
      notes = f.notes ++ (g f.local).notes;
    }

-- the records of an end's connections, the newest first, after a note
abbrev pub accepted_in : ℕ → List ℕ → Bool → Recorded → Recorded
accepted_in number body asks r =
    if asks then has_asked number (has_accepted body r) else has_accepted body r

abbrev pub sent_record : SendNote → Recorded → Recorded
sent_record (Accepted number body asks) r = accepted_in number body asks r
sent_record (Sent answer) r = r

abbrev pub in_record : Note → Recorded → Recorded
in_record (BySend note) r = sent_record note r
in_record (Joined) r = has_connected r
in_record (Taken body) r = has_taken body r
in_record (Freed number) r = has_released number r
in_record (Acked get) r = has_acked get r
in_record (Told number) r = has_delivered number r
in_record (ToldOver number) r = has_ended number r
in_record (Over reason) r = has_over reason r
in_record note r = r

abbrev pub in_newest : Note → List Recorded → List Recorded
in_newest note [] = []
in_newest note (r ∷ rs) = in_record note r ∷ rs

abbrev pub with_note : ℕ → ℕ → Note → List Recorded → List Recorded
with_note q c (Began epoch own theirs) rs = has_begun epoch own theirs false (blank_record q c) ∷ rs
with_note q c note rs = in_newest note rs

abbrev pub with_notes : ℕ → ℕ → List Note → List Recorded → List Recorded
with_notes q c [] rs = rs
with_notes q c (note ∷ more) rs = with_notes q c more (with_note q c note rs)
