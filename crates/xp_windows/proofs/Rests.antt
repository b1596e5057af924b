-- The words of a channel are copied while it is connected alone: so no copy begins while it closes, one
-- that goes on is over with the reason, and none goes on without contact.
use Rattle.std.proofs.Common.{◌≡◌, ℕ, Bool, true, false, ◌&&◌, List, [], ◌∷◌, refl, ap, sym, ◌∙◌, subst, inl, inr, ◌⊎◌, Option, Some, None}
use Rattle.std.specs.Prelude.{IsSome, is_some, not, nat_eq, if◌then◌else◌}
use Rattle.xp_base.specs.declared.answer.SendAnswer.{SendAnswer}
use Rattle.xp_base.specs.declared.answer.TakeAnswer.{TakeAnswer}
use Rattle.xp_base.specs.declared.answer.TakeAnswer.TheVariants.{Taken as TakenAnswer, Empty, Disconnecting, NotConnected}
use Rattle.xp_base.specs.declared.answer.ReleaseAnswer.{ReleaseAnswer}
use Rattle.xp_base.specs.declared.answer.DrainAnswer.{DrainAnswer}
use Rattle.xp_base.specs.declared.answer.UnregisterAnswer.TheVariants.{Ok as UnregisterOk}
use Rattle.xp_base.specs.declared.link.Kind.{Kind}
use Rattle.xp_base.specs.declared.link.Kind.TheVariants.{CloseRequest, CloseReply, OpenRequest, OpenReply, OpenComplete, MsgRequest}
use Rattle.xp_base.specs.declared.reason.Reason.{Reason}
use Rattle.xp_base.specs.declared.reason.Reason.TheVariants.{Unregistered}
use Rattle.xp_base.specs.declared.step.CopyKind.{CopyKind}
use Rattle.xp_base.specs.declared.step.CopyKind.TheVariants.{Counters, Entries}
use Rattle.xp_base.specs.History.{Act, Turn, NoticeKind, Delivered, Ended}
use Rattle.xp_script.specs.declared.command.Command.{Command}
use Rattle.xp_script.specs.declared.command.Command.TheVariants as commands
use Rattle.xp_script.specs.declared.log.Verb.{Verb}
use Rattle.xp_script.specs.declared.log.Verb.TheVariants as verbs
use Rattle.xp_script.specs.Commands.{verb_of}
use Rattle.xp_script.specs.declared.part.ScenarioPart.{ScenarioPart}
use Rattle.xp_rounds.specs.Visit.{Visit, planned}
use Rattle.xp_rounds.proofs.Sources.{Paced}
use Rattle.xp_protocol.specs.declared.contact.Size.{Size}
use Rattle.xp_protocol.specs.declared.contact.Contact.{Contact}
use Rattle.xp_protocol.specs.declared.refusal.TakeRefusal.{TakeRefusal}
use Rattle.xp_protocol.specs.declared.rule.Argument.{Argument}
use Rattle.xp_protocol.specs.declared.rule.Argument.TheVariants.{Request, Reply, Code}
use Rattle.xp_protocol.specs.declared.rule.LinkRule.{LinkRule}
use Rattle.xp_protocol.specs.declared.rule.LinkRule.TheVariants.{Ring, Pull, Acknowledge, SetFlag, ZeroGet, ZeroPut, StoreArgument, ReadArgument}
use Rattle.xp_protocol.specs.declared.rule.PeerRule.{PeerRule}
use Rattle.xp_protocol.specs.declared.rule.PeerRule.TheVariants.{AskActivation, TakeFlags, CloseArea, ZeroMagic, ClearOldBit, Prepare, OpenArea, SetEngagementBit, ReadRecord, StoreEcho, StoreSecond, ClearEngagementBit, LookAtPage, CheckBeat, ClearDeactivationBit, TellPartner}
use Rattle.xp_protocol.specs.declared.rule.Rule.{Rule}
use Rattle.xp_protocol.specs.declared.rule.Rule.TheVariants.{Link}
use Rattle.xp_protocol.specs.Effects.{Effect, just, Withdrawn, Note, BySend, ByPull, Accepted, Sent, Heard, TakeRefused, Released, Drained}
use Rattle.xp_protocol.specs.Pulling.{Pulling, take_refusal}
use Rattle.xp_protocol.specs.Releasing.{Releasing, release_refusal, message_released}
use Rattle.xp_protocol.specs.State.{State, Shake, End, each, Peer, PeerGoing, Reading, Old, cold_peer, idle_end, idle_links, link_at, peer_of, end_of, is_connected, link_of, shake_connected}
use Rattle.xp_protocol.specs.Linking.{hear, hears, close_now, down_notes, down_end, channel_closed, kind_left, kind_got, end_sent, argument_stored, with_argument, copy_failed, link_down, link_finished, booted_end}
use Rattle.xp_protocol.specs.Peering.{Here, peer_can, peer_effect, area_left_for, contact_made, same_peer, record_read, is_magic, is_wrong, has_shown, is_bad_flags, copy_ended}
use Rattle.xp_protocol.proofs.Slots.{at_each}
use Rattle.xp_protocol.proofs.Frames.{cond_peer, idle_at}
use Rattle.xp_protocol.specs.Acts.{say, refused_send, send_begun, take_begun, release_held, release_begun, drain_refusal, drain_begun, register_begun, unregister_begun, end_begun, taken_by, take_found, take_answered, answered_by, end_noticed, after_acts}
use Rattle.xp_protocol.specs.Runs.{May, after_step, after_turn, acted, turn_counted, start}
use Rattle.xp_plan.specs.declared.errand.Errand.{Errand}
use Rattle.xp_plan.specs.Plan.{plan_of}
use Rattle.xp_windows.specs.Windows.{middle}
use Rattle.xp_windows.specs.Visited.{rule_made}
use Rattle.xp_windows.proofs.Copies.{whole}
use Rattle.xp_windows.proofs.Keeps.{ActsKeep, acts_keep}
use Rattle.xp_windows.proofs.PeerFrames.{ActsLeave, StepsLeave, acts_leave, made_leaves, moment_leaves, start_has as peer_start}
use Rattle.xp_windows.proofs.Settles.{SettleKeeps}
use Rattle.xp_windows.proofs.EndFrames.{EndKeeps, turn_leaves, start_has}
use Rattle.xp_windows.proofs.Planned.{planned_by}

-- no copy goes on
pub record Quiet (x : Pulling) : Type 0 where
  pub counters : x.counters ≡ None
  pub copied : x.copied ≡ []

abbrev pub Rests : End → Type 0
Rests e = Quiet e.sides.pull ⊎ (is_connected e ≡ true)

-- what is told leaves it
module _ (Q : Pulling → Shake → Type 0) (owes : (x : Pulling) (y : Shake) → Q x y → Q x (record y { owes_message = true })) where
  abbrev On : End → Type 0
  On e = Q e.sides.pull e.shake

  hear_leaves : (n : Note) (e : End) → On e → On (hear n e)
  hear_leaves (BySend (Accepted number body asks)) e h = owes e.sides.pull e.shake h
  hear_leaves (BySend (Sent a)) e h = h
  hear_leaves (ByPull (Heard get)) e h = h
  hear_leaves (ByPull (TakeRefused a)) e h = h
  hear_leaves (Released a) e h = h
  hear_leaves (Drained a) e h = h
  hear_leaves n e h = h

  hears_leave : (ns : List Note) (e : End) → On e → On (hears ns e)
  hears_leave [] e h = h
  hears_leave (n ∷ ns) e h = hears_leave ns (hear n e) (hear_leaves n e h)

abbrev Calm : Pulling → Shake → Type 0
Calm x y = Quiet x

calm_hears : (ns : List Note) (e : End) → Quiet e.sides.pull → Quiet (hears ns e).sides.pull
calm_hears ns e h = hears_leave Calm (λ x y i. i) ns e h

-- a reason ends the copies
downs : (reason : Reason) (e : End) → Quiet (hears (down_notes reason e) (down_end reason e)).sides.pull
downs reason e = calm_hears (down_notes reason e) (down_end reason e) (record { counters = refl; copied = refl })

closes : (o : Option Reason) (reason : Reason) (e : End) → Rests e → Rests (close_now o reason e).local
closes (Some first) reason e h = h
closes None reason e h = inl (downs reason e)

channel : (reason : Reason) (e : End) → Rests e → Rests (channel_closed reason e).local
channel reason e h = closes e.shake.reason reason e h

-- the partner goes down
stopped : (o : Option Reason) (reason : Reason) (e : End) → Quiet e.sides.pull ⊎ (o ≡ None) → Quiet (close_now o reason e).local.sides.pull
stopped (Some first) reason e (inl h) = h
stopped (Some first) reason e (inr f) = absurd (cc)
stopped None reason e h = downs reason e

pub down_quiet : (reason : Reason) (e : End) → Quiet (link_down reason e).local.sides.pull
down_quiet reason e = record { counters = refl; copied = refl }

-- the handshake goes on
complete : (m : Option Contact) (a b : Bool) (r : Option Reason) → ((is_some m && (a && b)) && not (is_some r)) ≡ true → ((is_some m && (a && true)) && not (is_some r)) ≡ true
complete m a true r e = e
complete (Some x) true false r e = absurd (cc)
complete (Some x) false false r e = absurd (cc)
complete None a false r e = absurd (cc)

gets : (k : Kind) (e : End) → Rests e → Rests (kind_got k e)
gets OpenComplete e (inl h) = inl h
gets OpenComplete e (inr on) = inr (complete e.shake.meet e.shake.sent.open_complete e.shake.got.open_complete e.shake.reason on)
gets OpenRequest e h = h
gets OpenReply e h = h
gets CloseRequest e h = h
gets CloseReply e h = h
gets MsgRequest e h = h

lefts : (k : Kind) (e : End) → Rests e → Rests (kind_left k e)
lefts OpenComplete e h = h
lefts OpenRequest e h = h
lefts OpenReply e h = h
lefts CloseRequest e h = h
lefts CloseReply e h = h
lefts MsgRequest e h = h

sends : (k : Kind) (e : End) → Rests e → Rests (end_sent k e)
sends OpenComplete e h = inl (record { counters = refl; copied = refl })
sends OpenRequest e h = h
sends OpenReply e h = h
sends CloseRequest e h = h
sends CloseReply e h = h
sends MsgRequest e h = h

stores : (x : Argument) (e : End) → Rests e → Rests (argument_stored x e)
stores Request e h = h
stores Reply e h = h
stores Code e h = h

loads : (x : Argument) (place w : ℕ) (e : End) → Rests e → Rests (with_argument x place w e)
loads Request place w e h = h
loads Reply place w e h = h
loads Code place w e h = h

fails : (kind : CopyKind) (e : End) → Rests e → Rests (copy_failed kind e)
fails Counters e (inl h) = inl (record { counters = refl; copied = h.copied })
fails Counters e (inr on) = inr on
fails Entries e (inl h) = inl (record { counters = h.counters; copied = refl })
fails Entries e (inr on) = inr on
fails kind e h = h

-- acts: of a fact that stands a reason
module _ (P : End → Type 0) (same : (e : End) (y : End) → y.sides.pull.counters ≡ e.sides.pull.counters → y.sides.pull.copied ≡ e.sides.pull.copied → y.shake ≡ e.shake → P e → P y) (close : (reason : Reason) (e : End) → P e → P (channel_closed reason e).local) where
  holds : (b : Bool) (number : ℕ) (x : Releasing) (e : End) → P e → P (say (release_held b number x) e).local
  holds true number x e h = same e _ refl refl refl h
  holds false number x e h = same e _ refl refl refl h

  begins_send : (o : Option SendAnswer) (payload : List ℕ) (wait notify : Bool) (e : End) → P e → P (send_begun o payload wait notify e).local
  begins_send None payload wait notify e h = same e (send_begun None payload wait notify e).local refl refl refl h
  begins_send (Some x) payload wait notify e h = same e (send_begun (Some x) payload wait notify e).local refl refl refl h

  begins_take : (o : Option TakeRefusal) (wait : Bool) (e : End) → P e → P (take_begun o wait e).local
  begins_take None wait e h = same e (take_begun None wait e).local refl refl refl h
  begins_take (Some x) wait e h = same e (take_begun (Some x) wait e).local refl refl refl h

  begins_release : (o : Option ReleaseAnswer) (number : ℕ) (e : End) → P e → P (release_begun o number e).local
  begins_release None number e h =
      let new = message_released number e.sides.ack in
      let stays = nat_eq e.sides.ack.front new.front in
      let y : End = record e { sides = record e.sides { ack = new; releasing = not stays } } in
      holds stays number new y (same e y refl refl refl h)
  begins_release (Some x) number e h = same e (release_begun (Some x) number e).local refl refl refl h

  begins_drain : (o : Option DrainAnswer) (e : End) → P e → P (drain_begun o e).local
  begins_drain None e h = same e (drain_begun None e).local refl refl refl h
  begins_drain (Some x) e h = same e (drain_begun (Some x) e).local refl refl refl h

  begins_register : (o : Option Size) (y : Size) (e : End) → P e → P (register_begun o y e).local
  begins_register None y e h = same e (register_begun None y e).local refl refl refl h
  begins_register (Some first) y e h = same e (register_begun (Some first) y e).local refl refl refl h

  withdraws : (b : Bool) (e : End) → P e → P (if b then channel_closed Unregistered e else just e).local
  withdraws true e h = close Unregistered e h
  withdraws false e h = h

  begins_unregister : (o : Option Size) (e : End) → P e → P (unregister_begun o e).local
  begins_unregister None e h = same e (unregister_begun None e).local refl refl refl h
  begins_unregister (Some y) e h = withdraws (e.shake.sent.open_request && not (is_some e.shake.reason)) (say (Withdrawn UnregisterOk ∷ []) (record e { registration = None })).local (same e (say (Withdrawn UnregisterOk ∷ []) (record e { registration = None })).local refl refl refl h)

  begins : (e : End) (x : Command) → P e → P (end_begun e x).local
  begins e (commands.Send q c payload wait notify) h = begins_send (refused_send e payload) payload wait notify e h
  begins e (commands.Take q c wait) h = begins_take (take_refusal (link_of e)) wait e h
  begins e (commands.Release q c number) h = begins_release (release_refusal (link_of e) number e.sides.ack) number e h
  begins e (commands.Drain q c) h = begins_drain (drain_refusal (link_of e)) e h
  begins e (commands.Register q c entries limit) h = begins_register e.registration (record { entries = entries; limit = limit }) e h
  begins e (commands.Unregister q c) h = begins_unregister e.registration e h
  begins e (commands.Closed q c) h = same e (end_begun e (commands.Closed q c)).local refl refl refl h
  begins e (commands.Connected q c) h = h
  begins e (commands.Net frame) h = h
  begins e (commands.Frames count) h = h
  begins e (commands.Deactivate q) h = h
  begins e (commands.Activate q) h = h
  begins e commands.Leave h = h
  begins e (commands.Idle turns) h = h
  begins e commands.Offline h = h
  begins e commands.Online h = h

  takes : (o : Option TakeAnswer) (e : End) → P e → P (taken_by o e).local
  takes (Some (TakenAnswer number body)) e h = same e (taken_by (Some (TakenAnswer number body)) e).local refl refl refl h
  takes (Some (Empty put)) e h = same e (taken_by (Some (Empty put)) e).local refl refl refl h
  takes (Some (Disconnecting reason)) e h = h
  takes (Some NotConnected) e h = h
  takes None e h = h

  answers_take : (o : Option TakeRefusal) (e : End) → P e → P (take_answered o e).local
  answers_take None e h = takes (take_found e) e h
  answers_take (Some x) e h = same e (take_answered (Some x) e).local refl refl refl h

  answers_by : (v : Verb) (e : End) → P e → P (answered_by v e).local
  answers_by verbs.Send e h = same e (answered_by verbs.Send e).local refl refl refl h
  answers_by verbs.Take e h = answers_take e.decided.take e h
  answers_by verbs.Release e h = same e (answered_by verbs.Release e).local refl refl refl h
  answers_by verbs.Drain e h = same e (answered_by verbs.Drain e).local refl refl refl h
  answers_by verbs.Register e h = same e (answered_by verbs.Register e).local refl refl refl h
  answers_by verbs.Unregister e h = same e (answered_by verbs.Unregister e).local refl refl refl h
  answers_by v e h = h

  notices : (how : NoticeKind) (number : ℕ) (e : End) → P e → P (end_noticed how number e).local
  notices Delivered number e h = same e (end_noticed Delivered number e).local refl refl refl h
  notices Ended number e h = same e (end_noticed Ended number e).local refl refl refl h

  pub acts_by : ActsKeep P
  acts_by = record { begun = begins; answered = λ e x h. answers_by (verb_of x) e h; noticed = notices }

quiet_same : (e y : End) → y.sides.pull.counters ≡ e.sides.pull.counters → y.sides.pull.copied ≡ e.sides.pull.copied → Quiet e.sides.pull → Quiet y.sides.pull
quiet_same e y a b h = record { counters = a ∙ h.counters; copied = b ∙ h.copied }

rests_same : (e y : End) → y.sides.pull.counters ≡ e.sides.pull.counters → y.sides.pull.copied ≡ e.sides.pull.copied → y.shake ≡ e.shake → Rests e → Rests y
rests_same e y a b d (inl h) = inl (quiet_same e y a b h)
rests_same e y a b d (inr on) = inr (ap (λ (x : Shake). shake_connected x) d ∙ on)

quiet_closes : (o : Option Reason) (reason : Reason) (e : End) → Quiet e.sides.pull → Quiet (close_now o reason e).local.sides.pull
quiet_closes o reason e h = stopped o reason e (inl h)

pub quiet_acts : ActsKeep (λ (e : End). Quiet e.sides.pull)
quiet_acts = acts_by (λ (e : End). Quiet e.sides.pull) (λ e y a b d h. quiet_same e y a b h) (λ reason e h. quiet_closes e.shake.reason reason e h)

pub rests_acts : ActsKeep Rests
rests_acts = acts_by Rests rests_same channel

-- what is known of a step: words are copied at a connected end
abbrev pub Copies : End → LinkRule → Type 0
Copies e (Pull m) = is_connected e ≡ true
Copies e m = Unit {0}

rests_settle : SettleKeeps Rests
rests_settle = record {
  heard = λ n e h. hear_leaves (λ x y. Quiet x ⊎ (shake_connected y ≡ true)) (λ x y i. i) n e h;
  down = λ reason e i h. inl (record { counters = refl; copied = refl });
  over = λ e i h. inl (record { counters = refl; copied = refl });
  left = λ k e i j h. lefts k e h;
  got = λ k e i j h. gets k e h;
  dropped = λ e h. h;
  owing = λ e h. rests_same e (record e { sides = record e.sides { pull = record e.sides.pull { owed = true } } }) refl refl refl h;
  sized = λ e size i j h. h;
}

rests_keep : EndKeeps Copies Rests
rests_keep = record {
  links = record {
    acts = rests_acts;
    settling = rests_settle;
    taken = λ ks e h. h;
    sent = λ k e can n h. sends k e h;
    told = λ e n h. h;
    zeros = λ e n h. h;
    zeros_put = λ e n h. h;
    stored = λ x e n h. stores x e h;
    read = λ x place w e n h. loads x place w e h;
    acked = λ e n h. h;
    rings = λ e x h. h;
    pulls = λ m w e can n h. inr n;
    failed = λ kind e m n h. fails kind e h;
  };
  leaves = λ reason e h. inl (down_quiet reason e);
  finishes = λ e h. inl (record { counters = refl; copied = refl });
  joins = λ new m e h. inl (record { counters = refl; copied = refl });
  boots = λ e h. inl (record { counters = refl; copied = refl });
  idle = inl (record { counters = refl; copied = refl });
}

known : (s : ScenarioPart) (v : Visit Errand) (st : State) (q c : ℕ) (r : Rule) (m : LinkRule) → Paced (plan_of s) (whole s) v → (planned (plan_of s) v st).rule ≡ Some r → r ≡ Link q c m → Copies (end_of st q c) m
known s v st q c r (Pull m) paced e is = (planned_by s v st (Link q c (Pull m)) paced (e ∙ ap (λ (x : Rule). Some x) is)).meant
known s v st q c r (Ring m) paced e is = tt
known s v st q c r Acknowledge paced e is = tt
known s v st q c r (SetFlag k) paced e is = tt
known s v st q c r ZeroGet paced e is = tt
known s v st q c r ZeroPut paced e is = tt
known s v st q c r (StoreArgument x) paced e is = tt
known s v st q c r (ReadArgument x) paced e is = tt

pub rests_next : (s : ScenarioPart) (q c : ℕ) (v : Visit Errand) (st : State) (t : Turn) → Paced (plan_of s) (whole s) v → May s st t → rule_made s (middle s st t) t ≡ (planned (plan_of s) v (middle s st t)).rule → Rests (end_of st q c) → Rests (end_of (after_turn s st t) q c)
rests_next s q c v st t paced may e h = turn_leaves Copies Rests rests_keep c s q st t may (λ r f m is. known s v (middle s st t) q c r m paced (sym e ∙ f) is) h

pub rests_first : (s : ScenarioPart) (q c : ℕ) → Rests (end_of (start s) q c)
rests_first s q c = start_has Copies Rests rests_keep c s q (λ new. inl (record { counters = refl; copied = refl })) (λ new l. inl (record { counters = refl; copied = refl }))

-- while a partner isn't in contact no copy of a channel goes on with it
module _ (c : ℕ) where
  abbrev pub Cut : Peer → Type 0
  Cut p = p.contact ≡ None → Quiet (link_at p.links c).sides.pull

  -- a step by which the own memory is closed: the end copied while it was connected alone
  abbrev pub Closes : Peer → PeerRule → Type 0
  Closes p m = m ≡ CloseArea → Rests (link_at p.links c)

  uncut : (o : Option Contact) → IsSome o → o ≡ None → ⊥
  uncut None h e = cc
  uncut (Some x) h e = cc

  each_quiet : (f : ℕ → End → Effect End (List Note)) (p : Peer) → Quiet (f c (link_at p.links c)).local.sides.pull → Quiet (link_at (each (λ d e. (f d e).local) 0 p.links) c).sides.pull
  each_quiet f p h = at_each (λ (e : End). Quiet e.sides.pull) (λ d e. (f d e).local) p.links c idle_end h (λ l. record { counters = refl; copied = refl })

  left_cut : (o : Option Reason) (p : Peer) → Rests (link_at p.links c) → Cut p → Cut (area_left_for o p).local
  left_cut None p r h = h
  left_cut (Some reason) p r h = λ e. each_quiet (λ d x. link_down reason x) p (down_quiet reason (link_at p.links c))

  contact_cut : (a : Bool) (turn stamp : ℕ) (p : Peer) → Cut p → Cut (if a then contact_made turn stamp p else same_peer p).local
  contact_cut true turn stamp p h = λ e. absurd (cc)
  contact_cut false turn stamp p h = h

  read_cut : (y : Here) (p : Peer) (o : Option Reading) (w : ℕ) → Cut p → Cut (record_read y p o w).local
  read_cut y p None w h = cond_peer Cut (nat_eq w 0) _ _ h (cond_peer Cut (is_magic w) _ _ h h)
  read_cut y p (Some r) w h =
      cond_peer Cut (nat_eq r.done 1) _ _ h (cond_peer Cut (nat_eq r.done 2) _ _ h (cond_peer Cut (nat_eq r.done 7) _ _
      (cond_peer Cut (has_shown y.stamp p.engage r) _ _ (contact_cut (p.engage.second && (true && not (is_some p.contact))) y.turn y.stamp (record p { engage = record p.engage { shown = true; reading = None } }) h) h)
      (cond_peer Cut (is_wrong y.part r.done w) _ _ h h)))

  cut_steps : (y : Here) (p : Peer) (g : PeerGoing) (m : PeerRule) (w : ℕ) → peer_can y p m → Closes p m → Cut p → Cut (peer_effect y (record p { numbers = g }) m w).local
  cut_steps y p g AskActivation w can n h = h
  cut_steps y p g TakeFlags w can n h = cond_peer Cut (is_bad_flags w) _ _ h (λ e. absurd (uncut p.contact can.0 e))
  cut_steps y p g CloseArea w can n h = left_cut p.engage.reason (record p { numbers = g }) (n refl) h
  cut_steps y p g ZeroMagic w can n h = h
  cut_steps y p g ClearOldBit w can n h = h
  cut_steps y p g (Prepare x) w can n h = h
  cut_steps y p g OpenArea w can n h = h
  cut_steps y p g SetEngagementBit w can n h = h
  cut_steps y p g ReadRecord w can n h = read_cut y (record p { numbers = g }) p.engage.reading w h
  cut_steps y p g StoreEcho w can n h = h
  cut_steps y p g StoreSecond w can n h = contact_cut (true && (p.engage.shown && not (is_some p.contact))) y.turn y.stamp (record p { numbers = g; engage = record p.engage { second = true } }) h
  cut_steps y p g ClearEngagementBit w can n h = h
  cut_steps y p g LookAtPage w can n h = cond_peer Cut _ _ _ h h
  cut_steps y p g CheckBeat w can n h = h
  cut_steps y p g ClearDeactivationBit w can n h = h
  cut_steps y p g TellPartner w can n h = h

  ended_cut : (turn : ℕ) (kind : CopyKind) (p : Peer) → Cut p → Cut (copy_ended turn kind p)
  ended_cut turn kind p h = h

  cut_keep : StepsLeave Closes Cut
  cut_keep = record {
    linked = λ p links going some h. λ e. absurd (uncut p.contact some e);
    reasoned = λ o p h. h;
    ended = λ turn kind p m k n h. ended_cut turn kind p h;
    freed = λ p l h. λ e. each_quiet (λ d x. link_finished x) p (record { counters = refl; copied = refl });
    steps = cut_steps;
  }

  -- acts leave the contact
  abbrev Same : Option Contact → Peer → Type 0
  Same o p = p.contact ≡ o

  same_acts : (o : Option Contact) → ActsLeave (Same o)
  same_acts o = record { linked = λ p links h. h; unwanted = λ p h. h; wanted = λ p h. h }

  pub acts_cut : (s : ScenarioPart) (q : ℕ) (st : State) (list : List Act) → Cut (peer_of st q) → Cut (peer_of (after_acts s st list) q)
  acts_cut s q st list h = λ e. acts_keep (λ (x : End). Quiet x.sides.pull) s q c quiet_acts st list (h (sym (acts_leave (Same (peer_of st q).contact) s q (same_acts (peer_of st q).contact) st list refl) ∙ e))

  pub cut_next : (s : ScenarioPart) (q : ℕ) (st : State) (t : Turn) → May s st t → Rests (end_of st q c) → Cut (peer_of st q) → Cut (peer_of (after_turn s st t) q)
  cut_next s q st t may r h =
      moment_leaves Cut s q st.clock.puts (turn_counted (acted s st t)) (λ p. λ e. each_quiet (λ d x. just (booted_end x)) p (record { counters = refl; copied = refl })) cold
      (acts_cut s q (after_step s (middle s st t) t.made) t.after (made_leaves Cut s q Closes cut_keep (middle s st t) t.made may.made (λ x r' f g m i. λ j. acts_keep Rests s q c rests_acts st t.before r) (acts_cut s q st t.before h)))
    where
      cold : Cut (cold_peer Old)
      cold e = subst (λ (x : End). Quiet x.sides.pull) (sym (idle_at c)) (record { counters = refl; copied = refl })

  pub cut_first : (s : ScenarioPart) (q : ℕ) → Cut (peer_of (start s) q)
  cut_first s q = peer_start Cut s q (λ ls. idle) (λ b l p h. λ e. absurd (cc)) (λ p. λ e. each_quiet (λ d x. just (booted_end x)) p (record { counters = refl; copied = refl })) idle where
    idle : (cold_peer Old).contact ≡ None → Quiet (link_at idle_links c).sides.pull
    idle e = subst (λ (x : End). Quiet x.sides.pull) (sym (idle_at c)) (record { counters = refl; copied = refl })
