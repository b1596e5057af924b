-- A control flag that is owed stays owed until it is sent, as long as its partner is met: where it
-- opens the channel, until a reason to close it comes, and an open request, while its registration
-- stays.
use Rattle.std.proofs.Common.{◌≡◌, ℕ, zero, suc, ◌<◌, ◌≤◌, Bool, true, false, ◌&&◌, List, [], ◌∷◌, length, refl, ap, sym, ◌∙◌, subst, arith, inl, inr, ◌⊎◌, Option, Some, None}
use Rattle.std.specs.Prelude.{IsSome, is_some, not, nat_eq, if◌then◌else◌}
use Rattle.std.proofs.lemmas.Bool.{and_parts, or_parts, cases_lt}
use Rattle.std.proofs.lemmas.Bool.Decides.{nat_tests}
use Rattle.std.proofs.lemmas.List.{get_or_past}
use Rattle.xp_base.specs.declared.link.Kind.{Kind}
use Rattle.xp_base.specs.declared.link.Kind.TheVariants.{CloseRequest, CloseReply, OpenRequest, OpenReply, OpenComplete, MsgRequest}
use Rattle.xp_base.specs.declared.reason.Reason.{Reason}
use Rattle.xp_base.specs.declared.step.Answer.{Answer}
use Rattle.xp_base.specs.History.{Turn}
use Rattle.xp_base.specs.Kinds.{Kinds, bit_of, without}
use Rattle.xp_script.specs.declared.part.ScenarioPart.{ScenarioPart}
use Rattle.xp_rounds.specs.Visit.{Visit, planned, Follows}
use Rattle.xp_rounds.proofs.Sources.{Paced, planned_paced}
use Rattle.xp_protocol.specs.declared.contact.Contact.{Contact}
use Rattle.xp_protocol.specs.declared.contact.Size.{Size}
use Rattle.xp_protocol.specs.declared.rule.Argument.{Argument}
use Rattle.xp_protocol.specs.declared.rule.Argument.TheVariants.{Request, Reply, Code}
use Rattle.xp_protocol.specs.declared.rule.LinkRule.{LinkRule}
use Rattle.xp_protocol.specs.declared.rule.LinkRule.TheVariants.{Ring, Pull, Acknowledge, SetFlag, ZeroGet, ZeroPut, StoreArgument, ReadArgument}
use Rattle.xp_protocol.specs.declared.rule.Rule.{Rule}
use Rattle.xp_protocol.specs.declared.rule.Rule.TheVariants.{Link}
use Rattle.xp_protocol.specs.Effects.{Note, BySend, ByPull, Accepted, Sent, Heard, TakeRefused, Released, Drained}
use Rattle.xp_protocol.specs.State.{State, Shake, End, idle_end, peer_of, end_of}
use Rattle.xp_protocol.specs.Pulling.{is_copying}
use Rattle.xp_protocol.specs.Linking.{hear, is_ended, down_end, kind_left, kind_got, refused, end_sent, with_taken, link_can, argument_stored, with_argument, agreed, agreed_by, limit_in, owed}
use Rattle.xp_protocol.specs.Rules.{mark_of, place_for, link_answered}
use Rattle.xp_protocol.specs.Runs.{RunsFrom, after_turn}
use Rattle.xp_plan.specs.declared.errand.Errand.{Errand}
use Rattle.xp_plan.specs.Plan.{plan_of}
use Rattle.xp_windows.specs.Windows.{middle, At, IsRule, Steps, IsMet, IsOpening, IsStanding, SomeTurn}
use Rattle.xp_windows.specs.Visited.{rule_made}
use Rattle.xp_windows.proofs.Held.{Held}
use Rattle.xp_windows.proofs.Places.{first_holds}
use Rattle.xp_windows.proofs.Asked.{steps_by}
use Rattle.xp_windows.proofs.Keeps.{ActsKeep, acts_keep, met_keeps}
use Rattle.xp_windows.proofs.Copies.{whole}
use Rattle.xp_windows.proofs.Frame.{connected_by}
use Rattle.xp_windows.proofs.Settles.{SettleKeeps, channel}
use Rattle.xp_windows.proofs.EndFrames.{LinkKeeps, flags_keep, link_keeps}
use Rattle.xp_windows.proofs.Rests.{Rests, acts_by}
use Rattle.xp_windows.proofs.Sober.{Sober, agreed_asked}
use Rattle.xp_windows.proofs.Facts.{Facts, facts_mid, facts_next, none_copying}

-- a control flag is owed, and an open request under this registration of its channel
pub record IsOwing (q c : ℕ) (k : Kind) (size : Option Size) (st : State) : Type 0 where
  pub met : IsMet q st
  pub contact : IsSome (end_of st q c).shake.meet
  pub owed : owed k (end_of st q c) ≡ true
  pub registration : k ≡ OpenRequest → (end_of st q c).registration ≡ size

pub no : (b : Bool) → (b ≡ true → ⊥) → b ≡ false
no true n = absurd (n refl)
no false n = refl

pub both : (a b : Bool) → (a && b) ≡ true → (a ≡ true) × (b ≡ true)
both a b e = and_parts a b e

pub not_true : (b : Bool) → not b ≡ true → b ≡ true → ⊥
not_true true e f = cc
not_true false e f = cc

false_of : (b : Bool) → not b ≡ true → b ≡ false
false_of b e = no b (not_true b e)

not_false : (b : Bool) → b ≡ false → not b ≡ true
not_false b e = ap (λ (x : Bool). not x) e

pair : (a b : Bool) → a ≡ true → b ≡ true → (a && b) ≡ true
pair a b e f = ap (λ (x : Bool). x && b) e ∙ f

pub unreasoned : (e : End) → Sober e.shake → not (is_some e.shake.reason) ≡ true → (owed CloseRequest e ≡ true → ⊥) × (owed CloseReply e ≡ true → ⊥)
unreasoned e h n = (λ o. not_true (is_some e.shake.reason) n (both (is_some e.shake.reason) _ o).0, λ o. not_true (is_some e.shake.reason) n (h.request (both e.shake.sent.close_request _ o).0))

-- a close reply wasn't sent where any of them is owed
pub none_replied : (k : Kind) (e : End) → (k ≡ MsgRequest → ⊥) → Sober e.shake → owed k e ≡ true → e.shake.sent.close_reply ≡ false
none_replied CloseRequest e n h o = no e.shake.sent.close_reply (λ g. not_true e.shake.sent.close_request (both (is_some e.shake.reason) _ o).1 (h.reply g))
none_replied CloseReply e n h o = no e.shake.sent.close_reply (λ g. not_true e.shake.sent.close_reply (both (not e.shake.sent.close_reply) _ (both e.shake.got.close_request _ (both e.shake.sent.close_request _ o).1).1).0 g)
none_replied OpenRequest e n h o = no e.shake.sent.close_reply (λ g. not_true (is_some e.shake.reason) (both (not (is_some e.shake.reason)) _ (both (is_some e.registration) _ o).1).0 (h.request (h.reply g)))
none_replied OpenReply e n h o = no e.shake.sent.close_reply (λ g. not_true (is_some e.shake.reason) (both (not (is_some e.shake.reason)) _ o).0 (h.request (h.reply g)))
none_replied OpenComplete e n h o = no e.shake.sent.close_reply (λ g. not_true (is_some e.shake.reason) (both (not (is_some e.shake.reason)) _ o).0 (h.request (h.reply g)))
none_replied MsgRequest e n h o = absurd (n refl)

-- why a flag is owed, but for what may come between: a reason, and a registration
abbrev Flagged : Kind → Shake → Type 0
Flagged OpenRequest x = x.sent.open_request ≡ false
Flagged OpenReply x = (is_some (agreed x) ≡ true) × (x.sent.open_reply ≡ false)
Flagged OpenComplete x = (x.sent.open_reply ≡ true) × (x.got.open_reply ≡ true) × (x.sent.open_complete ≡ false)
Flagged CloseRequest x = (is_some x.reason ≡ true) × (x.sent.close_request ≡ false)
Flagged CloseReply x = (x.sent.close_request ≡ true) × (x.got.close_request ≡ true)
Flagged MsgRequest x = ⊥

abbrev Owes : Kind → End → Type 0
Owes k e = (e.shake.sent.close_reply ≡ false) × Flagged k e.shake

-- what leaves it: nothing more was sent, nothing that was got is lost, and so with a reason and with
-- what is agreed
record Kin (x y : Shake) : Type 0 where
  sent : y.sent ≡ x.sent
  reply : x.got.open_reply ≡ true → y.got.open_reply ≡ true
  close : x.got.close_request ≡ true → y.got.close_request ≡ true
  reason : is_some x.reason ≡ true → is_some y.reason ≡ true
  agreed : is_some (agreed x) ≡ true → is_some (agreed y) ≡ true

kin : (k : Kind) (x y : Shake) → Kin x y → Flagged k x → Flagged k y
kin OpenRequest x y z h = ap (λ (s : Kinds). s.open_request) z.sent ∙ h
kin OpenReply x y z h = (z.agreed h.0, ap (λ (s : Kinds). s.open_reply) z.sent ∙ h.1)
kin OpenComplete x y z h = (ap (λ (s : Kinds). s.open_reply) z.sent ∙ h.0, z.reply h.1, ap (λ (s : Kinds). s.open_complete) z.sent ∙ h.2)
kin CloseRequest x y z h = (z.reason h.0, ap (λ (s : Kinds). s.close_request) z.sent ∙ h.1)
kin CloseReply x y z h = (ap (λ (s : Kinds). s.close_request) z.sent ∙ h.0, z.close h.1)
kin MsgRequest x y z h = h

even : (x y : Shake) → y.sent ≡ x.sent → y.got ≡ x.got → y.reason ≡ x.reason → is_some (agreed y) ≡ is_some (agreed x) → Kin x y
even x y a b d e = record {
  sent = a;
  reply = λ h. ap (λ (s : Kinds). s.open_reply) b ∙ h;
  close = λ h. ap (λ (s : Kinds). s.close_request) b ∙ h;
  reason = λ h. ap (λ (o : Option Reason). is_some o) d ∙ h;
  agreed = λ h. e ∙ h;
}

-- a limit is agreed once both open requests are there
agreed_more : (a b : Bool) (o : Option ℕ) → is_some (if a && b then o else None) ≡ true → is_some (if a && true then o else None) ≡ true
agreed_more true true o h = h
agreed_more true false o h = absurd (cc)
agreed_more false b o h = absurd (cc)

agreed_got : (x : Shake) → is_some (agreed x) ≡ true → x.got.open_request ≡ true
agreed_got x e = by x.sent.open_request x.got.open_request e where
  by : (a b : Bool) → is_some (if a && b then agreed_by x.both_new (limit_in x.own_size) (limit_in x.their_size) else None) ≡ true → b ≡ true
  by true true f = refl
  by true false f = absurd (cc)
  by false b f = absurd (cc)

gots : (j : Kind) (e : End) → Kin e.shake (kind_got j e).shake
gots OpenRequest e = record { sent = refl; reply = λ h. h; close = λ h. h; reason = λ h. h; agreed = λ h. agreed_more e.shake.sent.open_request e.shake.got.open_request (agreed_by e.shake.both_new (limit_in e.shake.own_size) (limit_in e.shake.their_size)) h }
gots OpenReply e = record { sent = refl; reply = λ h. refl; close = λ h. h; reason = λ h. h; agreed = λ h. h }
gots OpenComplete e = record { sent = refl; reply = λ h. h; close = λ h. h; reason = λ h. h; agreed = λ h. h }
gots CloseRequest e = record { sent = refl; reply = λ h. h; close = λ h. refl; reason = λ h. h; agreed = λ h. h }
gots CloseReply e = record { sent = refl; reply = λ h. h; close = λ h. h; reason = λ h. h; agreed = λ h. h }
gots MsgRequest e = record { sent = refl; reply = λ h. h; close = λ h. h; reason = λ h. h; agreed = λ h. h }

lefts : (j : Kind) (e : End) → Kin e.shake (kind_left j e).shake
lefts OpenRequest e = even e.shake (kind_left OpenRequest e).shake refl refl refl refl
lefts OpenReply e = even e.shake (kind_left OpenReply e).shake refl refl refl refl
lefts OpenComplete e = even e.shake (kind_left OpenComplete e).shake refl refl refl refl
lefts CloseRequest e = even e.shake (kind_left CloseRequest e).shake refl refl refl refl
lefts CloseReply e = even e.shake (kind_left CloseReply e).shake refl refl refl refl
lefts MsgRequest e = even e.shake (kind_left MsgRequest e).shake refl refl refl refl

sizes : (e : End) (size : Option Size) → refused OpenRequest e ≡ false → let y = (kind_got OpenRequest e).shake in Kin e.shake (record y { their_size = size })
sizes e size i = record { sent = refl; reply = λ h. h; close = λ h. h; reason = λ h. h; agreed = λ h. absurd (let f : false ≡ true = sym (or_parts e.shake.got.open_request e.shake.got.close_request i).0 ∙ agreed_got e.shake h in cc) }

hears : (m : Note) (e : End) → Kin e.shake (hear m e).shake
hears (BySend (Accepted number body asks)) e = even e.shake (hear (BySend (Accepted number body asks)) e).shake refl refl refl refl
hears (BySend (Sent a)) e = even e.shake e.shake refl refl refl refl
hears (ByPull (Heard get)) e = even e.shake e.shake refl refl refl refl
hears (ByPull (TakeRefused a)) e = even e.shake e.shake refl refl refl refl
hears (Released a) e = even e.shake e.shake refl refl refl refl
hears (Drained a) e = even e.shake e.shake refl refl refl refl
hears m e = even e.shake e.shake refl refl refl refl

stores : (x : Argument) (e : End) → Kin e.shake (argument_stored x e).shake
stores Request e = even e.shake (argument_stored Request e).shake refl refl refl refl
stores Reply e = even e.shake (argument_stored Reply e).shake refl refl refl refl
stores Code e = even e.shake (argument_stored Code e).shake refl refl refl refl

loads : (x : Argument) (place w : ℕ) (e : End) → Kin e.shake (with_argument x place w e).shake
loads Request place w e = even e.shake (with_argument Request place w e).shake refl refl refl refl
loads Reply place w e = even e.shake (with_argument Reply place w e).shake refl refl refl refl
loads Code place w e = even e.shake (with_argument Code place w e).shake refl refl refl refl

-- what is known of a step at the end: it sends another flag
record Other (k : Kind) (e : End) (m : LinkRule) : Type 0 where
  other : m ≡ SetFlag k → ⊥
  sober : Sober e.shake
  reasonless : IsOpening k → e.shake.reason ≡ None

unanswered : (e : End) → Sober e.shake → e.shake.reason ≡ None → link_can e (SetFlag CloseReply) → ⊥
unanswered e h n can = let a = ap (λ (o : Option Reason). is_some o) n in let b = h.request (both e.shake.sent.close_request _ can.1).0 in let f : false ≡ true = sym a ∙ b in cc

sends : (k j : Kind) (e : End) → link_can e (SetFlag j) → Other k e (SetFlag j) → Owes k e → Owes k (end_sent j e)
sends OpenRequest OpenRequest e can n h = absurd (n.other refl)
sends OpenRequest OpenReply e can n h = h
sends OpenRequest OpenComplete e can n h = h
sends OpenRequest CloseRequest e can n h = h
sends OpenRequest CloseReply e can n h = absurd (unanswered e n.sober (n.reasonless tt) can)
sends OpenRequest MsgRequest e can n h = h
sends OpenReply OpenRequest e can n h = absurd (not_true e.shake.sent.open_request (both (not (is_some e.shake.reason)) _ (both (is_some e.registration) _ can.1).1).1 (agreed_asked e.shake h.1.0))
sends OpenReply OpenReply e can n h = absurd (n.other refl)
sends OpenReply OpenComplete e can n h = h
sends OpenReply CloseRequest e can n h = h
sends OpenReply CloseReply e can n h = absurd (unanswered e n.sober (n.reasonless tt) can)
sends OpenReply MsgRequest e can n h = h
sends OpenComplete OpenRequest e can n h = h
sends OpenComplete OpenReply e can n h = (h.0, (refl, h.1.1, h.1.2))
sends OpenComplete OpenComplete e can n h = absurd (n.other refl)
sends OpenComplete CloseRequest e can n h = h
sends OpenComplete CloseReply e can n h = absurd (unanswered e n.sober (n.reasonless tt) can)
sends OpenComplete MsgRequest e can n h = h
sends CloseRequest CloseRequest e can n h = absurd (n.other refl)
sends CloseRequest CloseReply e can n h = absurd (let f : false ≡ true = sym h.1.1 ∙ (both e.shake.sent.close_request _ can.1).0 in cc)
sends CloseRequest OpenRequest e can n h = h
sends CloseRequest OpenReply e can n h = h
sends CloseRequest OpenComplete e can n h = h
sends CloseRequest MsgRequest e can n h = h
sends CloseReply CloseRequest e can n h = (h.0, (refl, h.1.1))
sends CloseReply CloseReply e can n h = absurd (n.other refl)
sends CloseReply OpenRequest e can n h = h
sends CloseReply OpenReply e can n h = h
sends CloseReply OpenComplete e can n h = h
sends CloseReply MsgRequest e can n h = h
sends MsgRequest j e can n h = absurd h.1

ended : (e : End) → is_ended e ≡ true → e.shake.sent.close_reply ≡ false → ⊥
ended e i h = let a = (and_parts e.shake.sent.close_reply e.shake.got.close_reply i).0 in let f : true ≡ false = sym a ∙ h in cc

module _ (k : Kind) where
  stays : (e y : End) → Kin e.shake y.shake → Owes k e → Owes k y
  stays e y z h = (ap (λ (s : Kinds). s.close_reply) z.sent ∙ h.0, kin k e.shake y.shake z h.1)

  settle : SettleKeeps (Owes k)
  settle = record {
    heard = λ m e h. stays e (hear m e) (hears m e) h;
    down = λ reason e i h. stays e (down_end reason e) (record { sent = refl; reply = λ g. g; close = λ g. g; reason = λ g. refl; agreed = λ g. g }) h;
    over = λ e i h. absurd (ended e i h.0);
    left = λ j e i a h. stays e (kind_left j e) (lefts j e) h;
    got = λ j e i a h. stays e (kind_got j e) (gots j e) h;
    dropped = λ e h. stays e (record e { shake = record e.shake { taken = without MsgRequest e.shake.taken } }) (even e.shake (record e.shake { taken = without MsgRequest e.shake.taken }) refl refl refl refl) h;
    owing = λ e h. h;
    sized = λ e size i a h. let y = kind_got OpenRequest e in stays e (record y { shake = record y.shake { their_size = size } }) (sizes e size i) h;
  }

  acts : ActsKeep (Owes k)
  acts = acts_by (Owes k) (λ e y a b d h. subst (λ (x : Shake). (x.sent.close_reply ≡ false) × Flagged k x) (sym d) h) (channel (Owes k) settle)

  keeps : LinkKeeps (Other k) (Owes k)
  keeps = record {
    acts = acts;
    settling = settle;
    taken = λ ks e h. stays e (with_taken ks e) (even e.shake (with_taken ks e).shake refl refl refl refl) h;
    sent = λ j e can n h. sends k j e can n h;
    told = λ e n h. stays e (record e { shake = record e.shake { owes_message = false } }) (even e.shake (record e.shake { owes_message = false }) refl refl refl refl) h;
    zeros = λ e n h. stays e (record e { shake = record e.shake { get_zero = true } }) (even e.shake (record e.shake { get_zero = true }) refl refl refl refl) h;
    zeros_put = λ e n h. stays e (record e { shake = record e.shake { put_zero = true } }) (even e.shake (record e.shake { put_zero = true }) refl refl refl refl) h;
    stored = λ x e n h. stays e (argument_stored x e) (stores x e) h;
    read = λ x place w e n h. stays e (with_argument x place w e) (loads x place w e) h;
    acked = λ e n h. stays e (record e { shake = record e.shake { owes_message = true } }) (even e.shake (record e.shake { owes_message = true }) refl refl refl refl) h;
    rings = λ e x h. h;
    pulls = λ m w e can n h. h;
    failed = λ kind e m n h. h;
  }

-- a step sends the flag, or another one
abbrev kind_at : ℕ → Kind
kind_at zero = CloseRequest
kind_at (suc zero) = CloseReply
kind_at (suc (suc zero)) = OpenRequest
kind_at (suc (suc (suc zero))) = OpenReply
kind_at (suc (suc (suc (suc zero)))) = OpenComplete
kind_at n = MsgRequest

kind_back : (k : Kind) → kind_at (bit_of k) ≡ k
kind_back CloseRequest = refl
kind_back CloseReply = refl
kind_back OpenRequest = refl
kind_back OpenReply = refl
kind_back OpenComplete = refl
kind_back MsgRequest = refl

same_kind : (j k : Kind) → (j ≡ k) ⊎ (j ≡ k → ⊥)
same_kind j k = by (nat_eq (bit_of j) (bit_of k)) refl where
  by : (b : Bool) → nat_eq (bit_of j) (bit_of k) ≡ b → (j ≡ k) ⊎ (j ≡ k → ⊥)
  by true e = let f : bit_of j ≡ bit_of k = grind (arith, nat_tests) in inl (sym (kind_back j) ∙ ap (λ (n : ℕ). kind_at n) f ∙ kind_back k)
  by false e = inr (λ f. let g : bit_of j ≡ bit_of k = ap (λ (x : Kind). bit_of x) f in grind (arith, nat_tests))

same_flag : (k : Kind) (m : LinkRule) → (m ≡ SetFlag k) ⊎ (m ≡ SetFlag k → ⊥)
same_flag k (SetFlag j) = by (same_kind j k) where
  by : (j ≡ k) ⊎ (j ≡ k → ⊥) → (SetFlag j ≡ SetFlag k) ⊎ (SetFlag j ≡ SetFlag k → ⊥)
  by (inl e) = inl (ap (λ (x : Kind). SetFlag x) e)
  by (inr n) = inr (λ f. n (cc))
same_flag k (Ring m) = inr (λ f. cc)
same_flag k (Pull m) = inr (λ f. cc)
same_flag k Acknowledge = inr (λ f. cc)
same_flag k ZeroGet = inr (λ f. cc)
same_flag k ZeroPut = inr (λ f. cc)
same_flag k (StoreArgument x) = inr (λ f. cc)
same_flag k (ReadArgument x) = inr (λ f. cc)

-- it is owed for these reasons
why : (k : Kind) (e : End) → (k ≡ MsgRequest → ⊥) → owed k e ≡ true → Flagged k e.shake
why OpenRequest e n o = false_of e.shake.sent.open_request (both (not (is_some e.shake.reason)) _ (both (is_some e.registration) _ o).1).1
why OpenReply e n o = let z = both (is_some (agreed e.shake)) _ (both (not (is_some e.shake.reason)) _ o).1 in (z.0, false_of e.shake.sent.open_reply z.1)
why OpenComplete e n o =
    let z = both e.shake.sent.open_reply _ (both (not (is_some e.shake.reason)) _ o).1 in
    let y = both e.shake.got.open_reply _ z.1 in
    (z.0, y.0, false_of e.shake.sent.open_complete y.1)
why CloseRequest e n o = let z = both (is_some e.shake.reason) _ o in (z.0, false_of e.shake.sent.close_request z.1)
why CloseReply e n o = let z = both e.shake.sent.close_request _ o in (z.0, (both e.shake.got.close_request _ z.1).0)
why MsgRequest e n o = absurd (n refl)

unopened : (e : End) → e.shake.reason ≡ None → not (is_some e.shake.reason) ≡ true
unopened e n = ap (λ (o : Option Reason). not (is_some o)) n

-- no word of a channel is copied while it closes
pub closed_rests : (e : End) → Rests e → IsSome e.shake.reason → is_copying e.sides.pull ≡ false
closed_rests e (inl h) some = none_copying e.sides.pull h
closed_rests e (inr on) some = absurd (reasoned e.shake.reason (connected_by e on).2 some) where
  reasoned : (o : Option Reason) → o ≡ None → IsSome o → ⊥
  reasoned None e h = cc
  reasoned (Some r) e h = absurd (cc)

still_owed : (k : Kind) (e : End) → Sober e.shake → Rests e → (IsOpening k → e.shake.reason ≡ None) → (k ≡ OpenRequest → is_some e.registration ≡ true) → Owes k e → owed k e ≡ true
still_owed OpenRequest e s r free reg h = pair (is_some e.registration) _ (reg refl) (pair (not (is_some e.shake.reason)) _ (unopened e (free tt)) (not_false e.shake.sent.open_request h.1))
still_owed OpenReply e s r free reg h = pair (not (is_some e.shake.reason)) _ (unopened e (free tt)) (pair (is_some (agreed e.shake)) _ h.1.0 (not_false e.shake.sent.open_reply h.1.1))
still_owed OpenComplete e s r free reg h = pair (not (is_some e.shake.reason)) _ (unopened e (free tt)) (pair e.shake.sent.open_reply _ h.1.0 (pair e.shake.got.open_reply _ h.1.1 (not_false e.shake.sent.open_complete h.1.2)))
still_owed CloseRequest e s r free reg h = pair (is_some e.shake.reason) _ h.1.0 (not_false e.shake.sent.close_request h.1.1)
still_owed CloseReply e s r free reg h = pair e.shake.sent.close_request _ h.1.0 (pair e.shake.got.close_request _ h.1.1 (pair (not e.shake.sent.close_reply) _ (not_false e.shake.sent.close_reply h.0) (not_false (is_copying e.sides.pull) (closed_rests e r (s.request h.1.0)))))
still_owed MsgRequest e s r free reg h = absurd h.1

-- an end in contact is there
pub there : (st : State) (q c : ℕ) → IsSome (end_of st q c).shake.meet → c < length (peer_of st q).links
there st q c m = by (cases_lt c (length (peer_of st q).links)) where
  none : (o : Option Contact) → o ≡ None → IsSome o → ⊥
  none None e h = cc
  none (Some y) e h = absurd (cc)

  by : (c < length (peer_of st q).links) ⊎ (length (peer_of st q).links ≤ c) → c < length (peer_of st q).links
  by (inl l) = l
  by (inr l) = absurd (none (end_of st q c).shake.meet (ap (λ (e : End). e.shake.meet) (get_or_past (peer_of st q).links c idle_end l)) m)

-- a flag that is owed goes out, or stays owed throughout
module _ (s : ScenarioPart) (q c : ℕ) (k : Kind) (size : Option Size) (some : k ≡ OpenRequest → is_some size ≡ true) where
  abbrev Sends : State → Turn → Type 0
  Sends st t = Steps (At q c (IsRule (SetFlag k))) s st t

  now : (st : State) → Facts st → IsStanding q c k size st → Owes k (end_of st q c) → IsOwing q c k size st
  now st f h o = record {
    met = h.met;
    contact = h.contact;
    owed = still_owed k (end_of st q c) (f.sober q c) (f.rests q c) h.reasonless (λ e. ap (λ (z : Option Size). is_some z) (h.registration e) ∙ some e) o;
    registration = h.registration;
  }

  turn_owes : (v : Visit Errand) (st : State) (t : Turn) (ts : List Turn) → RunsFrom s st (t ∷ ts) → Facts st → Held (IsStanding q c k size) s st (t ∷ ts) → Owes k (end_of st q c) → Sends st t ⊎ Owes k (end_of (after_turn s st t) q c)
  turn_owes v st t ts runs f h o =
      met_keeps (Owes k) (flags_keep (Other k) (Owes k) (keeps k)) s q c (Sends st t) (acts k) st t runs.0 h.1.met (there (middle s st t) q c h.1.contact) (first_holds (IsStanding q c k size) s (after_turn s st t) ts h.2).met steps o
    where
      steps : (r : Rule) (a : Answer) → rule_made s (middle s st t) t ≡ Some r → (m : LinkRule) → r ≡ Link q c m → link_can (end_of (middle s st t) q c) m → Owes k (end_of (middle s st t) q c) → Sends st t ⊎ Owes k (link_answered (mark_of s (middle s st t) (Link q c m)) (place_for s c) (end_of (middle s st t) q c) m a).local
      steps r a e m is can g = by (same_flag k m) where
        by : (m ≡ SetFlag k) ⊎ (m ≡ SetFlag k → ⊥) → Sends st t ⊎ Owes k (link_answered (mark_of s (middle s st t) (Link q c m)) (place_for s c) (end_of (middle s st t) q c) m a).local
        by (inl i) = inl (steps_by (At q c (IsRule (SetFlag k))) s st t (Link q c m) (e ∙ ap (λ (y : Rule). Some y) is) (refl, refl, i))
        by (inr n) = inr (link_keeps (Other k) (Owes k) (keeps k) (mark_of s (middle s st t) (Link q c m)) (place_for s c) (end_of (middle s st t) q c) m a can (record { other = n; sober = (facts_mid s st t.before f).sober q c; reasonless = h.1.reasonless }) g)

  pub owes_on : (v : Visit Errand) (st : State) (ts : List Turn) → Follows (plan_of s) (middle s) (after_turn s) (rule_made s) v st ts → RunsFrom s st ts → Paced (plan_of s) (whole s) v → Facts st → Held (IsStanding q c k size) s st ts → Owes k (end_of st q c) → SomeTurn Sends s st ts ⊎ Held (IsOwing q c k size) s st ts
  owes_on v st [] follows runs paced f h o = inr (now st f h o)
  owes_on v st (t ∷ ts) follows runs paced f h o = by (turn_owes v st t ts runs f h o) (λ y. owes_on (planned (plan_of s) v (middle s st t)).visit (after_turn s st t) ts follows.1 runs.1 (planned_paced (plan_of s) (whole s) v (middle s st t) paced) (facts_next s v st t paced runs.0 follows.0 f) h.2 y) where
    rest : SomeTurn Sends s (after_turn s st t) ts ⊎ Held (IsOwing q c k size) s (after_turn s st t) ts → SomeTurn Sends s st (t ∷ ts) ⊎ Held (IsOwing q c k size) s st (t ∷ ts)
    rest (inl y) = inl (inr y)
    rest (inr y) = inr (now st f h.0 o, now (middle s st t) (facts_mid s st t.before f) h.1 (acts_keep (Owes k) s q c (acts k) st t.before o), y)

    by : Sends st t ⊎ Owes k (end_of (after_turn s st t) q c) → (Owes k (end_of (after_turn s st t) q c) → SomeTurn Sends s (after_turn s st t) ts ⊎ Held (IsOwing q c k size) s (after_turn s st t) ts) → SomeTurn Sends s st (t ∷ ts) ⊎ Held (IsOwing q c k size) s st (t ∷ ts)
    by (inl y) later = inl (inl y)
    by (inr y) later = rest (later y)

  pub owed_on : (v : Visit Errand) (st : State) (ts : List Turn) → (k ≡ MsgRequest → ⊥) → Follows (plan_of s) (middle s) (after_turn s) (rule_made s) v st ts → RunsFrom s st ts → Paced (plan_of s) (whole s) v → Facts st → Held (IsStanding q c k size) s st ts → owed k (end_of st q c) ≡ true → SomeTurn Sends s st ts ⊎ Held (IsOwing q c k size) s st ts
  owed_on v st ts other follows runs paced f h o = owes_on v st ts follows runs paced f h (none_replied k (end_of st q c) other (f.sober q c) o, why k (end_of st q c) other o)
