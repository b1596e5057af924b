-- Which control flags stand before which: no close reply is sent before the close request, no close
-- request without a reason, and no open reply before the open request.
use Rattle.std.proofs.Common.{◌≡◌, ℕ, Bool, true, false, ◌&&◌, List, [], ◌∷◌, refl, ap, sym, ◌∙◌, subst, Option, Some, None}
use Rattle.std.specs.Prelude.{is_some, not, if◌then◌else◌}
use Rattle.std.proofs.lemmas.Bool.{and_parts}
use Rattle.xp_base.specs.declared.link.Kind.{Kind}
use Rattle.xp_base.specs.declared.link.Kind.TheVariants.{CloseRequest, CloseReply, OpenRequest, OpenReply, OpenComplete, MsgRequest}
use Rattle.xp_base.specs.declared.reason.Reason.{Reason}
use Rattle.xp_base.specs.History.{Turn}
use Rattle.xp_base.specs.Kinds.{Kinds, without}
use Rattle.xp_script.specs.declared.part.ScenarioPart.{ScenarioPart}
use Rattle.xp_protocol.specs.declared.rule.Argument.{Argument}
use Rattle.xp_protocol.specs.declared.rule.Argument.TheVariants.{Request, Reply, Code}
use Rattle.xp_protocol.specs.declared.rule.LinkRule.{LinkRule}
use Rattle.xp_protocol.specs.declared.rule.LinkRule.TheVariants.{SetFlag}
use Rattle.xp_protocol.specs.Effects.{just, Note, BySend, ByPull, Accepted, Sent, Heard, TakeRefused, Released, Drained}
use Rattle.xp_protocol.specs.State.{State, Shake, End, end_of, no_shake, first_met, idle_end, is_begun}
use Rattle.xp_protocol.specs.Linking.{hear, hears, close_now, down_notes, down_end, channel_closed, link_closed, link_down, epoch_over, with_taken, joined_end, kind_left, kind_got, end_sent, agreed, agreed_by, link_can, argument_stored, with_argument, limit_in}
use Rattle.xp_protocol.specs.Runs.{May, after_turn, start}
use Rattle.xp_windows.proofs.Keeps.{ActsKeep}
use Rattle.xp_windows.proofs.Rests.{acts_by}
use Rattle.xp_windows.proofs.Settles.{SettleKeeps}
use Rattle.xp_windows.proofs.EndFrames.{EndKeeps, turn_leaves, start_has}

pub record Sober (x : Shake) : Type 0 where
  pub reply : x.sent.close_reply ≡ true → x.sent.close_request ≡ true
  pub request : x.sent.close_request ≡ true → is_some x.reason ≡ true
  pub order : x.sent.open_reply ≡ true → x.sent.open_request ≡ true

abbrev pub Sobers : End → Type 0
Sobers e = Sober e.shake

same : (x y : Shake) → y.sent ≡ x.sent → y.reason ≡ x.reason → Sober x → Sober y
same x y e f h = record {
  reply = λ a. ap (λ (k : Kinds). k.close_request) e ∙ h.reply (sym (ap (λ (k : Kinds). k.close_reply) e) ∙ a);
  request = λ a. ap (λ (o : Option Reason). is_some o) f ∙ h.request (sym (ap (λ (k : Kinds). k.close_request) e) ∙ a);
  order = λ a. ap (λ (k : Kinds). k.open_request) e ∙ h.order (sym (ap (λ (k : Kinds). k.open_reply) e) ∙ a);
}

heard : (n : Note) (e : End) → Sobers e → Sobers (hear n e)
heard (BySend (Accepted number body asks)) e h = same e.shake (hear (BySend (Accepted number body asks)) e).shake refl refl h
heard (BySend (Sent a)) e h = h
heard (ByPull (Heard get)) e h = h
heard (ByPull (TakeRefused a)) e h = h
heard (Released a) e h = h
heard (Drained a) e h = h
heard n e h = h

hears_sober : (ns : List Note) (e : End) → Sobers e → Sobers (hears ns e)
hears_sober [] e h = h
hears_sober (n ∷ ns) e h = hears_sober ns (hear n e) (heard n e h)

down_sober : (reason : Reason) (e : End) → Sobers e → Sobers (down_end reason e)
down_sober reason e h = record { reply = h.reply; request = λ a. refl; order = h.order }

closes : (o : Option Reason) (reason : Reason) (e : End) → Sobers e → Sobers (close_now o reason e).local
closes (Some first) reason e h = h
closes None reason e h = hears_sober (down_notes reason e) (down_end reason e) (down_sober reason e h)

channel : (reason : Reason) (e : End) → Sobers e → Sobers (channel_closed reason e).local
channel reason e h = closes e.shake.reason reason e h

closed_by : (b : Bool) (reason : Reason) (e : End) → Sobers e → Sobers (if b then close_now e.shake.reason reason e else just e).local
closed_by true reason e h = closes e.shake.reason reason e h
closed_by false reason e h = h

leaves : (reason : Reason) (e : End) → Sobers e → Sobers (link_down reason e).local
leaves reason e h = same (link_closed reason e).local.shake (link_down reason e).local.shake refl refl (closed_by (is_begun e) reason e h)

lefts : (k : Kind) (e : End) → Sobers e → Sobers (kind_left k e)
lefts OpenRequest e h = same e.shake (kind_left OpenRequest e).shake refl refl h
lefts OpenReply e h = same e.shake (kind_left OpenReply e).shake refl refl h
lefts OpenComplete e h = same e.shake (kind_left OpenComplete e).shake refl refl h
lefts CloseRequest e h = same e.shake (kind_left CloseRequest e).shake refl refl h
lefts CloseReply e h = same e.shake (kind_left CloseReply e).shake refl refl h
lefts MsgRequest e h = same e.shake (kind_left MsgRequest e).shake refl refl h

gets : (k : Kind) (e : End) → Sobers e → Sobers (kind_got k e)
gets OpenRequest e h = same e.shake (kind_got OpenRequest e).shake refl refl h
gets OpenReply e h = same e.shake (kind_got OpenReply e).shake refl refl h
gets OpenComplete e h = same e.shake (kind_got OpenComplete e).shake refl refl h
gets CloseRequest e h = same e.shake (kind_got CloseRequest e).shake refl refl h
gets CloseReply e h = same e.shake (kind_got CloseReply e).shake refl refl h
gets MsgRequest e h = same e.shake (kind_got MsgRequest e).shake refl refl h

-- a limit is agreed once both open requests are there
pub agreed_asked : (x : Shake) → is_some (agreed x) ≡ true → x.sent.open_request ≡ true
agreed_asked x e = by x.sent.open_request x.got.open_request e where
  by : (a b : Bool) → is_some (if a && b then agreed_by x.both_new (limit_in x.own_size) (limit_in x.their_size) else None) ≡ true → a ≡ true
  by true b f = refl
  by false b f = absurd (cc)

sends : (k : Kind) (e : End) → link_can e (SetFlag k) → Sobers e → Sobers (end_sent k e)
sends OpenRequest e can h = record { reply = h.reply; request = h.request; order = λ a. refl }
sends OpenReply e can h = record { reply = h.reply; request = h.request; order = λ a. agreed_asked e.shake (and_parts (is_some (agreed e.shake)) (not e.shake.sent.open_reply) (and_parts (not (is_some e.shake.reason)) _ can.1).1).0 }
sends OpenComplete e can h = record { reply = h.reply; request = h.request; order = h.order }
sends CloseRequest e can h = record { reply = λ a. refl; request = λ a. (and_parts (is_some e.shake.reason) (not e.shake.sent.close_request) can.1).0; order = h.order }
sends CloseReply e can h = record { reply = λ a. (and_parts e.shake.sent.close_request _ can.1).0; request = h.request; order = h.order }
sends MsgRequest e can h = record { reply = h.reply; request = h.request; order = h.order }

stores : (x : Argument) (e : End) → Sobers e → Sobers (argument_stored x e)
stores Request e h = same e.shake (argument_stored Request e).shake refl refl h
stores Reply e h = same e.shake (argument_stored Reply e).shake refl refl h
stores Code e h = same e.shake (argument_stored Code e).shake refl refl h

loads : (x : Argument) (place w : ℕ) (e : End) → Sobers e → Sobers (with_argument x place w e)
loads Request place w e h = same e.shake (with_argument Request place w e).shake refl refl h
loads Reply place w e h = same e.shake (with_argument Reply place w e).shake refl refl h
loads Code place w e h = same e.shake (with_argument Code place w e).shake refl refl h

fresh : (x : Shake) → x.sent.close_reply ≡ false → x.sent.close_request ≡ false → x.sent.open_reply ≡ false → Sober x
fresh x a b c = record { reply = λ e. absurd (let f : false ≡ true = sym a ∙ e in cc); request = λ e. absurd (let f : false ≡ true = sym b ∙ e in cc); order = λ e. absurd (let f : false ≡ true = sym c ∙ e in cc) }

abbrev Any : End → LinkRule → Type 0
Any e m = Unit {0}

pub sober_acts : ActsKeep Sobers
sober_acts = acts_by Sobers (λ e y a b d h. subst Sober (sym d) h) channel

sober_settle : SettleKeeps Sobers
sober_settle = record {
  heard = heard;
  down = λ reason e i h. down_sober reason e h;
  over = λ e i h. fresh (epoch_over e).local.shake refl refl refl;
  left = λ k e i j h. lefts k e h;
  got = λ k e i j h. gets k e h;
  dropped = λ e h. same e.shake (record e.shake { taken = without MsgRequest e.shake.taken }) refl refl h;
  owing = λ e h. h;
  sized = λ e size i j h. same e.shake (record (kind_got OpenRequest e).shake { their_size = size }) refl refl h;
}

sober_keep : EndKeeps Any Sobers
sober_keep = record {
  links = record {
    acts = sober_acts;
    settling = sober_settle;
    taken = λ ks e h. same e.shake (with_taken ks e).shake refl refl h;
    sent = λ k e can n h. sends k e can h;
    told = λ e n h. same e.shake (record e.shake { owes_message = false }) refl refl h;
    zeros = λ e n h. same e.shake (record e.shake { get_zero = true }) refl refl h;
    zeros_put = λ e n h. same e.shake (record e.shake { put_zero = true }) refl refl h;
    stored = λ x e n h. stores x e h;
    read = λ x place w e n h. loads x place w e h;
    acked = λ e n h. same e.shake (record e.shake { owes_message = true }) refl refl h;
    rings = λ e x h. h;
    pulls = λ m w e can n h. h;
    failed = λ kind e m n h. h;
  };
  leaves = leaves;
  finishes = λ e h. fresh no_shake refl refl refl;
  joins = λ new m e h. fresh (joined_end new m e).shake refl refl refl;
  boots = λ e h. fresh no_shake refl refl refl;
  idle = fresh no_shake refl refl refl;
}

pub sober_next : (s : ScenarioPart) (q c : ℕ) (st : State) (t : Turn) → May s st t → Sobers (end_of st q c) → Sobers (end_of (after_turn s st t) q c)
sober_next s q c st t may h = turn_leaves Any Sobers sober_keep c s q st t may (λ r f m is. tt) h

pub sober_first : (s : ScenarioPart) (q c : ℕ) → Sobers (end_of (start s) q c)
sober_first s q c = start_has Any Sobers sober_keep c s q (λ new. fresh (first_met new idle_end).shake refl refl refl) (λ new l. record { reply = λ e. absurd (cc); request = λ e. absurd (cc); order = λ e. refl })
