-- What is over for unequal sizes, or for an argument that was refused, leaves its channel unregistered: a law of one end, whatever changes it.
use Rattle.std.proofs.Common.{◌≡◌, ℕ, zero, suc, ◌<◌, Bool, true, false, ◌&&◌, ◌||◌, not, cond, eqb, List, [], ◌∷◌, ◌++◌, map, length, refl, ap, sym, ◌∙◌, Option, Some, None}
use Rattle.std.specs.Prelude.{is_some}
use Rattle.xp_base.specs.declared.link.Kind.{Kind}
use Rattle.xp_base.specs.declared.link.Kind.TheVariants.{CloseRequest, CloseReply, OpenRequest, OpenReply, OpenComplete, MsgRequest}
use Rattle.xp_base.specs.declared.reason.Reason.{Reason}
use Rattle.xp_base.specs.declared.reason.Reason.TheVariants.{UnequalSizes, BadArgs, PartnerClosed}
use Rattle.xp_base.specs.declared.step.Answer.{Answer}
use Rattle.xp_base.specs.declared.step.Answer.TheVariants.{Word, Failed}
use Rattle.xp_base.specs.declared.step.CopyMark.{CopyMark}
use Rattle.xp_base.specs.Kinds.{Kinds, kinds_in, next_of}
use Rattle.xp_protocol.specs.declared.rule.Argument.{Argument}
use Rattle.xp_protocol.specs.declared.rule.Argument.TheVariants.{Request, Reply, Code}
use Rattle.xp_protocol.specs.declared.rule.LinkRule.{LinkRule}
use Rattle.xp_protocol.specs.declared.rule.LinkRule.TheVariants.{Ring, Pull, Acknowledge, SetFlag, ZeroGet, ZeroPut, StoreArgument, ReadArgument}
use Rattle.xp_protocol.specs.declared.rule.PeerRule.{PeerRule}
use Rattle.xp_protocol.specs.declared.rule.PeerRule.TheVariants.{AskActivation, TakeFlags, CloseArea, ZeroMagic, ClearOldBit, Prepare, OpenArea, SetEngagementBit, ReadRecord, StoreEcho, StoreSecond, ClearEngagementBit, LookAtPage, CheckBeat, ClearDeactivationBit, TellPartner}
use Rattle.xp_protocol.specs.declared.rule.OwnRule.TheVariants.{ReadEngaged, TakeDeactivation, WriteStamp, ReadStamp, ZeroMask, ZeroOffline, StoreMask, TakeActivation, StoreBeat, StoreOffline}
use Rattle.xp_protocol.specs.declared.rule.Rule.{Rule}
use Rattle.xp_protocol.specs.declared.rule.Rule.TheVariants.{Link, Peer as ForPeer, Own}
use Rattle.xp_script.specs.declared.part.ScenarioPart.{ScenarioPart}
use Rattle.xp_protocol.specs.Effects.{Effect, just, and_then, SendNote, Accepted, Sent, PullNote, Heard, TakeRefused, Note, BySend, ByPull, Began, Joined, Taken, Freed, Acked, Told, ToldOver, Over, Released, Drained, Registered, Withdrawn}
use Rattle.xp_protocol.specs.Sending.{ring_effect}
use Rattle.xp_protocol.specs.Pulling.{pull_effect}
use Rattle.xp_protocol.specs.State.{State, End, Size, Replied, Contact, Peer, Reading, end_of, peer_of, peer_at, link_at, is_begun, is_connected}
use Rattle.xp_protocol.specs.Linking.{hear, hears, by_send, by_pull, sender_counters, release_notes, acknowledged, down_notes, down_end, close_now, link_closed, link_down, over_note, over_notes, kept_for, link_finished, open_notes, opened_notes, channel_closed, epoch_over, is_ended, unequal, are_unequal, changed, request_handled, reply_handled, code_handled, is_request, is_code, kind_got, kind_refused, refused, well_handled, handled, has_argument, handled_next, settle, settled as all_settled, joined_notes, connection_noted, with_taken, flags_got, end_sent, with_sent, control_sent, flag_sent, with_argument, argument_stored, link_effect, parted, limit_in}
use Rattle.xp_protocol.specs.Peering.{same_peer, is_bad_flags, area_left_for, contact_made, try_contact, record_read, peer_effect, area_off, peer_read, is_left, is_flagged, is_magic, is_wrong, has_shown, Here}
use Rattle.xp_protocol.specs.Rules.{here_of, link_answered, peer_numbered, mark_of, place_for, after_answer, noted_rule}
use Rattle.xp_protocol.specs.Promised.{is_withdrawal, are_withdrawals}
use Rattle.xp_protocol.proofs.Frames.{AreAll, links_framed, peers_framed, link_frame, peer_frame}
use Rattle.xp_promises.proofs.Steps.{AreSilent}
use Rattle.xp_promises.proofs.Shakes.{down_silent}

-- what a change of an end keeps and leaves
record Leaves (e : End) (f : Effect End (List Note)) : Type 0 where
  keeps : e.registration ≡ None → f.local.registration ≡ None
  over : are_withdrawals f.notes ≡ true → f.local.registration ≡ None

both_notes : (xs ys : List Note) → are_withdrawals (xs ++ ys) ≡ (are_withdrawals xs || are_withdrawals ys)
both_notes [] ys = refl
both_notes (x ∷ xs) ys = ap (λ (b : Bool). is_withdrawal x || b) (both_notes xs ys) ∙ assoc (is_withdrawal x) (are_withdrawals xs) (are_withdrawals ys) where
  assoc : (a b c : Bool) → (a || (b || c)) ≡ ((a || b) || c)
  assoc true b c = refl
  assoc false b c = refl

none_both : (xs ys : List Note) → are_withdrawals xs ≡ false → are_withdrawals ys ≡ false → are_withdrawals (xs ++ ys) ≡ false
none_both xs ys a b = both_notes xs ys ∙ rw (a, b) refl

calm : (e : End) (f : Effect End (List Note)) → f.local.registration ≡ e.registration → are_withdrawals f.notes ≡ false → Leaves e f
calm e f same none = record { keeps = λ n. same ∙ n; over = λ t. absurd (cc) }

then_leaves : (e : End) (f : Effect End (List Note)) (h : End → Effect End (List Note)) → Leaves e f → Leaves f.local (h f.local) → Leaves e (and_then f h)
then_leaves e f h a b = record { keeps = λ n. b.keeps (a.keeps n); over = λ t. by (are_withdrawals f.notes) refl (sym (both_notes f.notes (h f.local).notes) ∙ t) } where
  by : (z : Bool) → are_withdrawals f.notes ≡ z → (are_withdrawals f.notes || are_withdrawals (h f.local).notes) ≡ true → (h f.local).local.registration ≡ None
  by true d t = b.keeps (a.over d)
  by false d t = b.over (rw d at t)

either : (z : Bool) (e : End) (f g : Effect End (List Note)) → Leaves e f → Leaves e g → Leaves e (cond z f g)
either true e f g a b = a
either false e f g a b = b

-- notes of sides, and answers
silent_none : (xs : List Note) → AreSilent xs → are_withdrawals xs ≡ false
silent_none [] h = refl
silent_none (BySend (Sent a) ∷ xs) h = silent_none xs h.1
silent_none (ByPull (TakeRefused a) ∷ xs) h = silent_none xs h.1
silent_none (Released a ∷ xs) h = silent_none xs h.1
silent_none (Drained a ∷ xs) h = silent_none xs h.1
silent_none (Registered a ∷ xs) h = silent_none xs h.1
silent_none (Withdrawn a ∷ xs) h = silent_none xs h.1
silent_none (x ∷ xs) h = absurd h.0

sends_none : (xs : List SendNote) → are_withdrawals (map BySend xs) ≡ false
sends_none [] = refl
sends_none (x ∷ xs) = sends_none xs

pulls_none : (xs : List PullNote) → are_withdrawals (map ByPull xs) ≡ false
pulls_none [] = refl
pulls_none (x ∷ xs) = pulls_none xs

tolds_none : (xs : List ℕ) → are_withdrawals (map ToldOver xs) ≡ false
tolds_none [] = refl
tolds_none (x ∷ xs) = tolds_none xs

opened_none : (b : Bool) (m : Option Contact) (n : ℕ) → are_withdrawals (open_notes b m n) ≡ false
opened_none true m n = refl
opened_none false None n = refl
opened_none false (Some m) n = refl

heard : (x : Note) (e : End) → (hear x e).registration ≡ e.registration
heard (BySend (Accepted n b a)) e = refl
heard (BySend (Sent a)) e = refl
heard (ByPull (Heard g)) e = refl
heard (ByPull (TakeRefused a)) e = refl
heard (Began n a b) e = refl
heard Joined e = refl
heard (Taken b) e = refl
heard (Freed n) e = refl
heard (Acked n) e = refl
heard (Told n) e = refl
heard (ToldOver n) e = refl
heard (Over r) e = refl
heard (Released a) e = refl
heard (Drained a) e = refl
heard (Registered a) e = refl
heard (Withdrawn a) e = refl

heards : (xs : List Note) (e : End) → (hears xs e).registration ≡ e.registration
heards [] e = refl
heards (x ∷ xs) e = heards xs (hear x e) ∙ heard x e

-- a reason, the epoch's end, and what comes after
closes_now : (o : Option Reason) (reason : Reason) (e : End) → Leaves e (close_now o reason e)
closes_now (Some r) reason e = calm e (just e) refl refl
closes_now None reason e = calm e (close_now None reason e) (heards (down_notes reason e) (down_end reason e)) (silent_none (down_notes reason e) (down_silent reason e))

closes : (reason : Reason) (e : End) → Leaves e (channel_closed reason e)
closes reason e = then_leaves e (record { local = e; reason = None; notes = opened_notes e }) (λ x. close_now x.shake.reason reason x) (calm e (record { local = e; reason = None; notes = opened_notes e }) refl (opened_none (is_begun e) e.shake.meet e.epoch)) (closes_now e.shake.reason reason e)

none_kept : (o : Option Reason) → kept_for o None ≡ None
none_kept None = refl
none_kept (Some (UnequalSizes own theirs)) = refl
none_kept (Some (BadArgs word)) = refl
none_kept (Some reason) = refl

withdrawn : (o : Option Reason) (r : Option Size) (more : List Note) → are_withdrawals more ≡ false → are_withdrawals (over_note o ++ more) ≡ true → kept_for o r ≡ None
withdrawn None r more none t = absurd (cc)
withdrawn (Some (UnequalSizes own theirs)) r more none t = refl
withdrawn (Some (BadArgs word)) r more none t = refl
withdrawn (Some reason) r more none t = absurd (cc)

ends_by : (e : End) (f : Effect End (List Note)) → f.local.registration ≡ kept_for e.shake.reason e.registration → f.notes ≡ over_notes e → Leaves e f
ends_by e f same notes = record {
  keeps = λ n. same ∙ ap (λ (r : Option Size). kept_for e.shake.reason r) n ∙ none_kept e.shake.reason;
  over = λ t. same ∙ withdrawn e.shake.reason e.registration (map ToldOver e.sides.pending_notices) (tolds_none e.sides.pending_notices) (sym (ap (λ (ns : List Note). are_withdrawals ns) notes) ∙ t);
}

changes : (e : End) → Leaves e (changed e)
changes e = either (is_ended e) e (epoch_over e) (unequal e) (ends_by e (epoch_over e) refl refl) (either (are_unequal e) e (channel_closed (UnequalSizes (limit_in e.shake.own_size) (limit_in e.shake.their_size)) e) (just e) (closes (UnequalSizes (limit_in e.shake.own_size) (limit_in e.shake.their_size)) e) (calm e (just e) refl refl))

-- a flag is handled
got_same : (k : Kind) (e : End) (f : Effect End (List Note)) → Leaves (kind_got k e) f → Leaves e f
got_same k e f h = record { keeps = h.keeps; over = h.over }

requests : (o : _) (e : End) → Leaves e (request_handled o e)
requests None e = calm e (just e) refl refl
requests (Some w) e = either (is_request w) e _ _ (calm e _ refl refl) (closes (BadArgs w) e)

replies : (o : Option Replied) (e : End) → Leaves e (reply_handled o e)
replies None e = calm e (just e) refl refl
replies (Some x) e = either x.right e (just e) (channel_closed (BadArgs x.word) e) (calm e (just e) refl refl) (closes (BadArgs x.word) e)

codes : (o : _) (e : End) → Leaves e (code_handled o e)
codes None e = calm e (just e) refl refl
codes (Some w) e = either (is_code w) e (channel_closed (PartnerClosed w) e) (channel_closed (BadArgs w) e) (closes (PartnerClosed w) e) (closes (BadArgs w) e)

well : (k : Kind) (e : End) → Leaves e (well_handled k e)
well MsgRequest e = either (is_connected e) e _ _ (calm e _ refl refl) (calm e _ refl refl)
well OpenRequest e = got_same OpenRequest e _ (requests e.shake.request (kind_got OpenRequest e))
well OpenReply e = got_same OpenReply e _ (replies e.shake.reply (kind_got OpenReply e))
well CloseRequest e = got_same CloseRequest e _ (codes e.shake.code (kind_got CloseRequest e))
well OpenComplete e = calm e (just (kind_got OpenComplete e)) refl refl
well CloseReply e = calm e (just (kind_got CloseReply e)) refl refl

handles : (k : Kind) (e : End) → Leaves e (handled k e)
handles k e = either (refused k e) e (kind_refused k e) (well_handled k e) (calm e (kind_refused k e) refl refl) (well k e)

nexts : (o : Option Kind) (e : End) → Leaves e (handled_next o e)
nexts None e = calm e (just e) refl refl
nexts (Some k) e = either (has_argument k e.shake) e (and_then (handled k e) changed) (just e) (then_leaves e (handled k e) changed (handles k e) (changes (handled k e).local)) (calm e (just e) refl refl)

settles : (n : ℕ) (e : End) → Leaves e (settle n e)
settles zero e = calm e (just e) refl refl
settles (suc n) e = let o = next_of e.shake.got.close_request e.shake.taken in then_leaves e (handled_next o e) (settle n) (nexts o e) (settles n (handled_next o e).local)

joined_none : (b : Bool) → are_withdrawals (joined_notes b) ≡ false
joined_none true = refl
joined_none false = refl

settles_all : (e : End) → Leaves e (all_settled e)
unfolding all_settled
settles_all e = let z = (settle 6 e).local in then_leaves e (settle 6 e) connection_noted (settles 6 e) (calm z (connection_noted z) refl (joined_none (is_connected z)))

takes : (ks : Kinds) (e : End) → Leaves e (flags_got ks e)
takes ks e = either (is_some e.shake.meet) e (and_then (just (with_taken ks e)) all_settled) (just e) (then_leaves e (just (with_taken ks e)) all_settled (calm e (just (with_taken ks e)) refl refl) (settles_all (with_taken ks e))) (calm e (just e) refl refl)

sent_same : (k : Kind) (e : End) → (end_sent k e).registration ≡ e.registration
sent_same OpenRequest e = refl
sent_same OpenReply e = refl
sent_same OpenComplete e = refl
sent_same CloseRequest e = refl
sent_same CloseReply e = refl
sent_same MsgRequest e = refl

sends_control : (k : Kind) (e : End) → Leaves e (control_sent k e)
sends_control k e =
    let f = and_then (with_sent k e) changed in
    then_leaves e f all_settled (then_leaves e (with_sent k e) changed (calm e (with_sent k e) (sent_same k e) (opened_none (is_begun e) e.shake.meet e.epoch)) (changes (end_sent k e))) (settles_all f.local)

sends : (k : Kind) (e : End) → Leaves e (flag_sent k e)
sends MsgRequest e = calm e (flag_sent MsgRequest e) refl refl
sends OpenRequest e = sends_control OpenRequest e
sends OpenReply e = sends_control OpenReply e
sends OpenComplete e = sends_control OpenComplete e
sends CloseRequest e = sends_control CloseRequest e
sends CloseReply e = sends_control CloseReply e

read_same : (x : Argument) (place w : ℕ) (e : End) → (with_argument x place w e).registration ≡ e.registration
read_same Request place w e = refl
read_same Reply place w e = refl
read_same Code place w e = refl

stored_same : (x : Argument) (e : End) → (argument_stored x e).registration ≡ e.registration
stored_same Request e = refl
stored_same Reply e = refl
stored_same Code e = refl

released_none : (b : Bool) (n : ℕ) → are_withdrawals (release_notes b n) ≡ false
released_none true n = refl
released_none false n = refl

link_leaves : (place : ℕ) (e : End) (m : LinkRule) (w : ℕ) → Leaves e (link_effect place e m w)
link_leaves place e (Ring m) w = let f = ring_effect e.sides.send m w in calm e (by_send e f) (heards (map BySend f.notes) (record e { sides = record e.sides { send = f.local } })) (sends_none f.notes)
link_leaves place e (Pull m) w = let f = pull_effect (sender_counters e.sides) e.sides.pull m w in calm e (by_pull e f) (heards (map ByPull f.notes) (record e { sides = record e.sides { pull = f.local } })) (pulls_none f.notes)
link_leaves place e Acknowledge w = calm e (acknowledged e) (heards (release_notes e.sides.releasing e.sides.ack.front) _) (released_none e.sides.releasing e.sides.ack.front)
link_leaves place e (SetFlag k) w = sends k e
link_leaves place e ZeroGet w = calm e _ refl refl
link_leaves place e ZeroPut w = calm e _ refl refl
link_leaves place e (StoreArgument x) w = calm e (just (argument_stored x e)) (stored_same x e) refl
link_leaves place e (ReadArgument x) w = then_leaves e (just (with_argument x place w e)) all_settled (calm e (just (with_argument x place w e)) (read_same x place w e) refl) (settles_all (with_argument x place w e))

goes_down : (reason : Reason) (e : End) → Leaves e (link_down reason e)
goes_down reason e = then_leaves e (link_closed reason e) (λ x. just (parted x)) (either (is_begun e) e (close_now e.shake.reason reason e) (just e) (closes_now e.shake.reason reason e) (calm e (just e) refl refl)) (calm _ _ refl refl)

-- each rule
abbrev Left : End → List Note → Type 0
Left e ns = are_withdrawals ns ≡ true → e.registration ≡ None

linked : (mark : Option CopyMark) (place : ℕ) (e : End) (m : LinkRule) (a : Answer) → Left (link_answered mark place e m a).local (link_answered mark place e m a).notes
linked mark place e m (Word w) = (link_leaves place e m w).over
linked mark place e m Failed = λ t. absurd (cc)

cond_left : (b : Bool) (c : ℕ) (f g : Effect Peer (ℕ → List Note)) → Left (link_at f.local.links c) (f.notes c) → Left (link_at g.local.links c) (g.notes c) → (let h : Effect Peer (ℕ → List Note) = cond b f g in Left (link_at h.local.links c) (h.notes c))
cond_left true c f g x y = x
cond_left false c f g x y = y

module _ (y : Here) (p : Peer) (c : ℕ) (lc : c < 4) (n : length p.links ≡ 4) where
  abbrev LeftIn : Effect Peer (ℕ → List Note) → Type 0
  LeftIn h = Left (link_at h.local.links c) (h.notes c)

  meets : (z : Peer) → LeftIn (try_contact y.turn y.stamp z)
  meets z = cond_left (z.engage.second && (z.engage.shown && not (is_some z.contact))) c (contact_made y.turn y.stamp z) (same_peer z) (λ t. absurd (cc)) (λ t. absurd (cc))

  read_left : (o : Option Reading) (w : ℕ) → LeftIn (record_read y p o w)
  read_left None w = cond_left (eqb w 0) c _ _ (λ t. absurd (cc)) (cond_left (is_magic w) c _ _ (λ t. absurd (cc)) (λ t. absurd (cc)))
  read_left (Some r) w =
      cond_left (eqb r.done 1) c _ _ (λ t. absurd (cc)) (cond_left (eqb r.done 2) c _ _ (λ t. absurd (cc)) (cond_left (eqb r.done 7) c _ _
      (cond_left (has_shown y.stamp p.engage r) c _ _ (meets (record p { engage = record p.engage { shown = true; reading = None } })) (λ t. absurd (cc)))
      (cond_left (is_wrong y.part r.done w) c _ _ (λ t. absurd (cc)) (λ t. absurd (cc)))))

  left_left : (o : Option Reason) → LeftIn (area_left_for o p)
  left_left None = λ t. absurd (cc)
  left_left (Some reason) = links_framed Left (λ c e. link_down reason e) p c n lc (goes_down reason (link_at p.links c)).over

  peered : (m : PeerRule) (w : ℕ) → LeftIn (peer_effect y p m w)
  peered TakeFlags w = cond_left (is_bad_flags w) c _ _ (λ t. absurd (cc)) (links_framed Left (λ c e. flags_got (kinds_in w c) e) p c n lc (takes (kinds_in w c) (link_at p.links c)).over)
  peered CloseArea w = left_left p.engage.reason
  peered ReadRecord w = read_left p.engage.reading w
  peered StoreSecond w = meets (record p { engage = record p.engage { second = true } })
  peered AskActivation w = λ t. absurd (cc)
  peered ZeroMagic w = λ t. absurd (cc)
  peered ClearOldBit w = λ t. absurd (cc)
  peered (Prepare x) w = λ t. absurd (cc)
  peered OpenArea w = λ t. absurd (cc)
  peered SetEngagementBit w = λ t. absurd (cc)
  peered StoreEcho w = λ t. absurd (cc)
  peered ClearEngagementBit w = λ t. absurd (cc)
  peered LookAtPage w = cond_left (eqb (length (p.paging ++ w ∷ [])) 5) c _ _ (λ t. absurd (cc)) (λ t. absurd (cc))
  peered CheckBeat w = λ t. absurd (cc)
  peered ClearDeactivationBit w = λ t. absurd (cc)
  peered TellPartner w = λ t. absurd (cc)

  freed : (w q : ℕ) → LeftIn (peer_read w q p)
  freed w q = cond_left (is_left p.engage && not (is_flagged w q)) c (area_off p) (same_peer p) (links_framed Left (λ c e. link_finished e) p c n lc (ends_by (link_at p.links c) (link_finished (link_at p.links c)) refl refl).over) (λ t. absurd (cc))

numbered_links : (mark : Option CopyMark) (p : Peer) → length p.links ≡ 4 → length (peer_numbered mark p).links ≡ 4
numbered_links None p n = n
numbered_links (Some mark) p n = n

pub rule_withdraws : {n : ℕ} (s : ScenarioPart) (st : State) (r : Rule) (a : Answer) (q c : ℕ) → AreAll n st.peers → ((k d : ℕ) (m : LinkRule) → r ≡ Link k d m → (k < n) × (d < 4)) → ((k : ℕ) (m : PeerRule) → r ≡ ForPeer k m → k < n) → q < n → c < 4 → Left (end_of (after_answer s st r a) q c) (noted_rule s st r a q c)
rule_withdraws s st (Link k d m) a q c all low peer lq lc = let l = low k d m refl in link_frame Left s st k d m a q c all l.0 l.1 (λ e g. linked (mark_of s st (Link k d m)) (place_for s d) (end_of st k d) m a) (λ o t. absurd (cc))
rule_withdraws s st (ForPeer k m) (Word w) q c all low peer lq lc = peer_frame Left s st k m (Word w) q c all (peer k m refl) (λ e. peered (here_of s st k) (peer_numbered (mark_of s st (ForPeer k m)) (peer_of st k)) c lc (numbered_links (mark_of s st (ForPeer k m)) (peer_of st k) (all.channels k)) m w) (λ o t. absurd (cc))
rule_withdraws s st (ForPeer k m) Failed q c all low peer lq lc = peer_frame Left s st k m Failed q c all (peer k m refl) (λ e t. absurd (cc)) (λ o t. absurd (cc))
rule_withdraws s st (Own ReadEngaged) (Word w) q c all low peer lq lc = peers_framed Left (peer_read w) st.peers q c all lq (freed (here_of s st q) (peer_at st.peers q) c lc (all.channels q) w q)
rule_withdraws s st (Own TakeDeactivation) (Word w) q c all low peer lq lc = λ t. absurd (cc)
rule_withdraws s st (Own WriteStamp) (Word w) q c all low peer lq lc = λ t. absurd (cc)
rule_withdraws s st (Own ReadStamp) (Word w) q c all low peer lq lc = λ t. absurd (cc)
rule_withdraws s st (Own ZeroMask) (Word w) q c all low peer lq lc = λ t. absurd (cc)
rule_withdraws s st (Own ZeroOffline) (Word w) q c all low peer lq lc = λ t. absurd (cc)
rule_withdraws s st (Own StoreMask) (Word w) q c all low peer lq lc = λ t. absurd (cc)
rule_withdraws s st (Own TakeActivation) (Word w) q c all low peer lq lc = λ t. absurd (cc)
rule_withdraws s st (Own StoreBeat) (Word w) q c all low peer lq lc = λ t. absurd (cc)
rule_withdraws s st (Own StoreOffline) (Word w) q c all low peer lq lc = λ t. absurd (cc)
rule_withdraws s st (Own m) Failed q c all low peer lq lc = λ t. absurd (cc)
