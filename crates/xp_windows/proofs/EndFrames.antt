-- What acts and steps leave of a fact of one end: all of the handshake and all rules are said once, and
-- a fact says what it has to stand.
use Rattle.std.proofs.Common.{◌≡◌, ℕ, ◌≤◌, Bool, true, false, ◌&&◌, List, [], map, length, refl, ap, sym, ◌∙◌, subst, Option, Some, None}
use Rattle.std.specs.Prelude.{is_some, not, nat_eq, if◌then◌else◌}
use Rattle.xp_base.specs.declared.link.Kind.{Kind}
use Rattle.xp_base.specs.declared.link.Kind.TheVariants.{CloseRequest, CloseReply, OpenRequest, OpenReply, OpenComplete, MsgRequest}
use Rattle.xp_base.specs.declared.reason.Reason.{Reason}
use Rattle.xp_base.specs.declared.reason.Reason.TheVariants.{OtherGoingDown, BadFlags}
use Rattle.xp_base.specs.declared.step.Answer.{Answer}
use Rattle.xp_base.specs.declared.step.Answer.TheVariants.{Word, Failed}
use Rattle.xp_base.specs.declared.step.CopyKind.{CopyKind}
use Rattle.xp_base.specs.declared.step.CopyMark.{CopyMark}
use Rattle.xp_base.specs.History.{Act, Marked, Turn}
use Rattle.xp_base.specs.Kinds.{Kinds, kinds_in}
use Rattle.xp_script.specs.declared.part.Link.{Link as ScenarioLink}
use Rattle.xp_script.specs.declared.part.ScenarioPart.{ScenarioPart}
use Rattle.xp_protocol.specs.declared.contact.Contact.{Contact}
use Rattle.xp_protocol.specs.declared.rule.Argument.{Argument}
use Rattle.xp_protocol.specs.declared.rule.LinkRule.{LinkRule}
use Rattle.xp_protocol.specs.declared.rule.LinkRule.TheVariants.{Ring, Pull, Acknowledge, SetFlag, ZeroGet, ZeroPut, StoreArgument, ReadArgument}
use Rattle.xp_protocol.specs.declared.rule.PeerRule.{PeerRule}
use Rattle.xp_protocol.specs.declared.rule.PeerRule.TheVariants.{AskActivation, TakeFlags, CloseArea, ZeroMagic, ClearOldBit, Prepare, OpenArea, SetEngagementBit, ReadRecord, StoreEcho, StoreSecond, ClearEngagementBit, LookAtPage, CheckBeat, ClearDeactivationBit, TellPartner}
use Rattle.xp_protocol.specs.declared.rule.OwnRule.TheVariants.{ReadEngaged, TakeDeactivation, ReadStamp, ZeroMask, ZeroOffline, WriteStamp, StoreMask, TakeActivation, StoreBeat, StoreOffline}
use Rattle.xp_protocol.specs.declared.rule.PullRule.{PullRule}
use Rattle.xp_protocol.specs.declared.rule.Rule.{Rule}
use Rattle.xp_protocol.specs.declared.rule.Rule.TheVariants.{Link, Peer as ForPeer, Own}
use Rattle.xp_protocol.specs.Effects.{Effect, Note, BySend, ByPull, just, and_then}
use Rattle.xp_protocol.specs.Sending.{Sending, ring_effect}
use Rattle.xp_protocol.specs.Pulling.{pull_effect}
use Rattle.xp_protocol.specs.State.{State, first_met, End, each, Reading, Peer, PeerGoing, Old, cold_peer, idle_end, end_of, peer_of, link_at, set_link, warm_end, opened_state}
use Rattle.xp_protocol.specs.Linking.{sender_counters, release_notes, link_down, link_finished, link_joined, booted_end, changed, settled, with_taken, flags_got, end_sent, control_sent, flag_sent, argument_stored, with_argument, link_can, link_effect, copy_failed}
use Rattle.xp_protocol.specs.Peering.{Here, peer_effect, peer_read, deactivation_heard, area_off, same_peer, is_left, is_flagged, with_flags, is_bad_flags, flags_taken, area_left_for, try_contact, contact_made, contact_of, record_read, has_shown, is_wrong, is_magic, with_reason, end_reason, booted_peer}
use Rattle.xp_protocol.specs.Rules.{Can, numbered, link_answered, end_failed, place_for, here_of, mark_of, peer_answered, after_answer}
use Rattle.xp_protocol.specs.Acts.{after_acts}
use Rattle.xp_protocol.specs.Runs.{May, MayMake, after_ruled, after_step, after_turn, acted, turn_counted, moment, moment_by, restart_comes, stop_comes, is_over, start}
use Rattle.xp_protocol.proofs.Slots.{at_each, at_slot, at_peer}
use Rattle.xp_protocol.proofs.Frames.{cond_peer, idle_at}
use Rattle.xp_protocol.proofs.Opened.{opened_fact}
use Rattle.xp_windows.specs.Windows.{middle}
use Rattle.xp_windows.specs.Visited.{rule_by, rule_made}
use Rattle.xp_windows.proofs.Keeps.{ActsKeep, acts_keep}
use Rattle.xp_windows.proofs.Settles.{SettleKeeps, hears_keep, change, all_settles}

-- what a fact of an end has to stand within a contact; N says what is known of a step at the end
-- besides
pub record LinkKeeps (N : End → LinkRule → Type 0) (P : End → Type 0) : Type 0 where
  pub acts : ActsKeep P
  pub settling : SettleKeeps P
  pub taken : (ks : Kinds) (e : End) → P e → P (with_taken ks e)
  pub sent : (k : Kind) (e : End) → link_can e (SetFlag k) → N e (SetFlag k) → P e → P (end_sent k e)
  pub told : (e : End) → N e (SetFlag MsgRequest) → P e → P (flag_sent MsgRequest e).local
  pub zeros : (e : End) → N e ZeroGet → P e → P (record e { shake = record e.shake { get_zero = true } })
  pub zeros_put : (e : End) → N e ZeroPut → P e → P (record e { shake = record e.shake { put_zero = true } })
  pub stored : (x : Argument) (e : End) → N e (StoreArgument x) → P e → P (argument_stored x e)
  pub read : (x : Argument) (place w : ℕ) (e : End) → N e (ReadArgument x) → P e → P (with_argument x place w e)
  pub acked : (e : End) → N e Acknowledge → P e → P (record e { sides = record e.sides { local_get = e.sides.ack.front; releasing = false }; shake = record e.shake { owes_message = true } })
  pub rings : (e : End) (x : Sending) → P e → P (record e { sides = record e.sides { send = x } })
  pub pulls : (m : PullRule) (w : ℕ) (e : End) → link_can e (Pull m) → N e (Pull m) → P e → P (record e { sides = record e.sides { pull = (pull_effect (sender_counters e.sides) e.sides.pull m w).local } })
  pub failed : (kind : CopyKind) (e : End) (m : LinkRule) → N e m → P e → P (copy_failed kind e)

module _ (N : End → LinkRule → Type 0) (P : End → Type 0) (z : LinkKeeps N P) where
  flags : (b : Bool) (ks : Kinds) (e : End) → P e → P (if b then and_then (just (with_taken ks e)) settled else just e).local
  flags true ks e h = all_settles P z.settling (with_taken ks e) (z.taken ks e h)
  flags false ks e h = h

  pub flags_keep : (ks : Kinds) (e : End) → P e → P (flags_got ks e).local
  flags_keep ks e h = flags (is_some e.shake.meet) ks e h

  controls : (k : Kind) (e : End) → link_can e (SetFlag k) → N e (SetFlag k) → P e → P (control_sent k e).local
  controls k e can n h = all_settles P z.settling (changed (end_sent k e)).local (change P z.settling (end_sent k e) (z.sent k e can n h))

  -- a step of the end
  words : (place : ℕ) (e : End) (m : LinkRule) (w : ℕ) → link_can e m → N e m → P e → P (link_effect place e m w).local
  words place e (Ring m) w can n h = let f = ring_effect e.sides.send m w in hears_keep P z.settling (map BySend f.notes) (record e { sides = record e.sides { send = f.local } }) (z.rings e f.local h)
  words place e (Pull m) w can n h = let f = pull_effect (sender_counters e.sides) e.sides.pull m w in hears_keep P z.settling (map ByPull f.notes) (record e { sides = record e.sides { pull = f.local } }) (z.pulls m w e can n h)
  words place e Acknowledge w can n h = hears_keep P z.settling (release_notes e.sides.releasing e.sides.ack.front) (record e { sides = record e.sides { local_get = e.sides.ack.front; releasing = false }; shake = record e.shake { owes_message = true } }) (z.acked e n h)
  words place e (SetFlag MsgRequest) w can n h = z.told e n h
  words place e (SetFlag CloseRequest) w can n h = controls CloseRequest e can n h
  words place e (SetFlag CloseReply) w can n h = controls CloseReply e can n h
  words place e (SetFlag OpenRequest) w can n h = controls OpenRequest e can n h
  words place e (SetFlag OpenReply) w can n h = controls OpenReply e can n h
  words place e (SetFlag OpenComplete) w can n h = controls OpenComplete e can n h
  words place e ZeroGet w can n h = z.zeros e n h
  words place e ZeroPut w can n h = z.zeros_put e n h
  words place e (StoreArgument x) w can n h = z.stored x e n h
  words place e (ReadArgument x) w can n h = all_settles P z.settling (with_argument x place w e) (z.read x place w e n h)

  fails : (mark : Option CopyMark) (e : End) (m : LinkRule) → N e m → P e → P (end_failed mark e)
  fails None e m n h = h
  fails (Some mark) e m n h = z.failed mark.kind e m n h

  pub link_keeps : (mark : Option CopyMark) (place : ℕ) (e : End) (m : LinkRule) (a : Answer) → link_can e m → N e m → P e → P (link_answered mark place e m a).local
  link_keeps mark place e m (Word w) can n h = words place e m w can n h
  link_keeps mark place e m Failed can n h = fails mark e m n h

-- and where contact is made or lost
pub record EndKeeps (N : End → LinkRule → Type 0) (P : End → Type 0) : Type 0 where
  pub links : LinkKeeps N P
  pub leaves : (reason : Reason) (e : End) → P e → P (link_down reason e).local
  pub finishes : (e : End) → P e → P (link_finished e).local
  pub joins : (new : Bool) (m : Contact) (e : End) → P e → P (link_joined new m e).local
  pub boots : (e : End) → P e → P (booted_end e)
  pub idle : P idle_end

module _ (N : End → LinkRule → Type 0) (P : End → Type 0) (z : EndKeeps N P) where
  -- a step for the partner
  module _ (c : ℕ) where
    abbrev In : Peer → Type 0
    In p = P (link_at p.links c)

    each_keeps : (f : ℕ → End → Effect End (List Note)) (p : Peer) → ((e : End) → P e → P (f c e).local) → In p → P (link_at (each (λ d e. (f d e).local) 0 p.links) c)
    each_keeps f p keep h = at_each P (λ d e. (f d e).local) p.links c idle_end (keep (link_at p.links c) h) (λ l. z.idle)

    flags_leave : (b : Bool) (w : ℕ) (p : Peer) → In p → In (if b then record { local = p; reason = Some (BadFlags w); notes = λ d. [] } else flags_taken w p).local
    flags_leave true w p h = h
    flags_leave false w p h = each_keeps (λ d e. flags_got (kinds_in w d) e) (with_flags w p) (λ e i. flags_keep N P z.links (kinds_in w c) e i) h

    left_leave : (o : Option Reason) (p : Peer) → In p → In (area_left_for o p).local
    left_leave None p h = h
    left_leave (Some r) p h = each_keeps (λ d e. link_down r e) p (λ e i. z.leaves r e i) h

    contact_leave : (turn stamp : ℕ) (p : Peer) → In p → In (try_contact turn stamp p).local
    contact_leave turn stamp p h = cond_peer In (p.engage.second && (p.engage.shown && not (is_some p.contact))) (contact_made turn stamp p) (same_peer p) (each_keeps (λ d e. link_joined p.both_new (contact_of stamp p.engage) e) p (λ e i. z.joins p.both_new (contact_of stamp p.engage) e i) h) h

    read_leave : (y : Here) (p : Peer) (o : Option Reading) (w : ℕ) → In p → In (record_read y p o w).local
    read_leave y p None w h = cond_peer In (nat_eq w 0) _ _ h (cond_peer In (is_magic w) _ _ h h)
    read_leave y p (Some r) w h =
        cond_peer In (nat_eq r.done 1) _ _ h (cond_peer In (nat_eq r.done 2) _ _ h (cond_peer In (nat_eq r.done 7) _ _
        (cond_peer In (has_shown y.stamp p.engage r) _ _ (contact_leave y.turn y.stamp (record p { engage = record p.engage { shown = true; reading = None } }) h) h)
        (cond_peer In (is_wrong y.part r.done w) _ _ h h)))

    peer_leaves : (y : Here) (p : Peer) (g : PeerGoing) (m : PeerRule) (w : ℕ) → In p → In (peer_effect y (record p { numbers = g }) m w).local
    peer_leaves y p g AskActivation w h = h
    peer_leaves y p g TakeFlags w h = flags_leave (is_bad_flags w) w (record p { numbers = g }) h
    peer_leaves y p g CloseArea w h = left_leave p.engage.reason (record p { numbers = g }) h
    peer_leaves y p g ZeroMagic w h = h
    peer_leaves y p g ClearOldBit w h = h
    peer_leaves y p g (Prepare x) w h = h
    peer_leaves y p g OpenArea w h = h
    peer_leaves y p g SetEngagementBit w h = h
    peer_leaves y p g ReadRecord w h = read_leave y (record p { numbers = g }) p.engage.reading w h
    peer_leaves y p g StoreEcho w h = h
    peer_leaves y p g StoreSecond w h = contact_leave y.turn y.stamp (record p { numbers = g; engage = record p.engage { second = true } }) h
    peer_leaves y p g ClearEngagementBit w h = h
    peer_leaves y p g LookAtPage w h = cond_peer In _ _ _ h h
    peer_leaves y p g CheckBeat w h = h
    peer_leaves y p g ClearDeactivationBit w h = h
    peer_leaves y p g TellPartner w h = h

    peer_answers : (y : Here) (mark : Option CopyMark) (p : Peer) (m : PeerRule) (a : Answer) → In p → In (peer_answered y mark p m a).local
    peer_answers y None p m (Word w) h = peer_leaves y p p.numbers m w h
    peer_answers y (Some mark) p m (Word w) h = peer_leaves y p _ m w h
    peer_answers y None p m Failed h = h
    peer_answers y (Some mark) p m Failed h = h

    read_leaves : (b : Bool) (p : Peer) → In p → In (if b then area_off p else same_peer p).local
    read_leaves true p h = each_keeps (λ d e. link_finished e) p (λ e i. z.finishes e i) h
    read_leaves false p h = h

    heard_leaves : (b : Bool) (w : ℕ) (p : Peer) → In p → In (if b then with_reason (Some (OtherGoingDown w)) p else p)
    heard_leaves true w p h = h
    heard_leaves false w p h = h

    cold : In (cold_peer Old)
    cold = subst P (sym (idle_at c)) z.idle

    -- of a state
    module _ (s : ScenarioPart) (q : ℕ) where
      abbrev pub Ends : State → Type 0
      Ends st = P (end_of st q c)

      past : (st : State) → Ends st → length st.peers ≤ q → In (cold_peer Old)
      past st h l = cold

      pub acts_leave : (st : State) (list : List Act) → Ends st → Ends (after_acts s st list)
      acts_leave st list h = acts_keep P s q c z.links.acts st list h

      pub rule_leaves : (st : State) (r : Rule) (a : Answer) → Can s st r → ((m : LinkRule) → r ≡ Link q c m → N (end_of st q c) m) → Ends st → Ends (after_answer s st r a)
      rule_leaves st (Link k d m) a can n h =
          let mark = mark_of s st (Link k d m) in
          let g = link_answered mark (place_for s d) (end_of st k d) m a in
          at_peer In st.peers k (with_reason (end_reason (peer_of st k).flags_seen g.reason) (set_link (numbered mark d (peer_of st k)) d g.local)) q
          (λ e. at_slot P (peer_of st k).links d c g.local idle_end (λ i. new e i) (subst (λ (j : ℕ). Ends' j) e h)) h
        where
          Ends' : ℕ → Type 0
          Ends' j = P (end_of st j c)

          new : q ≡ k → c ≡ d → P (link_answered (mark_of s st (Link k d m)) (place_for s d) (end_of st k d) m a).local
          new e i = link_keeps N P z.links (mark_of s st (Link k d m)) (place_for s d) (end_of st k d) m a can.1.1
              (subst (λ (j : ℕ). N (end_of st j d) m) e (subst (λ (j : ℕ). N (end_of st q j) m) i (n m (ap (λ (j : ℕ). Link j d m) (sym e) ∙ ap (λ (j : ℕ). Link q j m) (sym i)))))
              (subst (λ (j : ℕ). P (end_of st j d)) e (subst (λ (j : ℕ). P (end_of st q j)) i h))
      rule_leaves st (ForPeer k m) a can n h = at_peer In st.peers k _ q (λ e. peer_answers (here_of s st k) (mark_of s st (ForPeer k m)) (peer_of st k) m a (subst (λ (j : ℕ). P (end_of st j c)) e h)) h
      rule_leaves st (Own ReadEngaged) (Word w) can n h = at_each In (λ j p. (peer_read w j p).local) st.peers q (cold_peer Old) (read_leaves (is_left (peer_of st q).engage && not (is_flagged w q)) (peer_of st q) h) (λ l. cold)
      rule_leaves st (Own TakeDeactivation) (Word w) can n h = at_each In (λ j p. (deactivation_heard w j p).local) st.peers q (cold_peer Old) (heard_leaves (is_some (peer_of st q).engage.echo && is_flagged w q) w (peer_of st q) h) (λ l. cold)
      rule_leaves st (Own ReadStamp) (Word w) can n h = h
      rule_leaves st (Own ZeroMask) (Word w) can n h = h
      rule_leaves st (Own ZeroOffline) (Word w) can n h = h
      rule_leaves st (Own WriteStamp) (Word w) can n h = h
      rule_leaves st (Own StoreMask) (Word w) can n h = h
      rule_leaves st (Own TakeActivation) (Word w) can n h = h
      rule_leaves st (Own StoreBeat) (Word w) can n h = h
      rule_leaves st (Own StoreOffline) (Word w) can n h = h
      rule_leaves st (Own m) Failed can n h = h

      -- a boot begins
      moment_by_leaves : (b d : Bool) (st : State) → Ends st → Ends (moment_by s b d st)
      moment_by_leaves true d st h = at_each In (λ j p. booted_peer p) st.peers q (cold_peer Old) (at_each P (λ d e. booted_end e) (peer_of st q).links c idle_end (z.boots (end_of st q c) h) (λ l. z.idle)) (λ l. cold)
      moment_by_leaves false true st h = h
      moment_by_leaves false false st h = h

      pub moment_leaves : (earlier : ℕ) (st : State) → Ends st → Ends (moment s earlier st)
      moment_leaves earlier st h = moment_by_leaves (restart_comes s earlier st && not (is_over st)) (stop_comes s earlier st && not (is_over st)) st h

      -- the opening
      pub start_has : ((new : Bool) → P (first_met new idle_end)) → ((new : Bool) (l : ScenarioLink) → P (warm_end new l)) → Ends (start s)
      start_has met warm = moment_leaves 0 (opened_state s) (opened_fact s q c P z.idle met warm)

      -- a turn, of whose step the rule is known
      pub turn_leaves : (st : State) (t : Turn) → May s st t → ((r : Rule) → rule_made s (middle s st t) t ≡ Some r → (m : LinkRule) → r ≡ Link q c m → N (end_of (middle s st t) q c) m) → Ends st → Ends (after_turn s st t)
      turn_leaves st t may n h = moment_leaves st.clock.puts (turn_counted (acted s st t)) (acts_leave (after_step s (middle s st t) t.made) t.after (by t.made refl may.made (acts_leave st t.before h))) where
        by : (o : Option Marked) → t.made ≡ o → MayMake s (middle s st t) o → Ends (middle s st t) → Ends (after_step s (middle s st t) o)
        by None e m g = g
        by (Some x) e m g = subst (λ (o : Option Rule). Ends (after_ruled s (middle s st t) o x.step.answer)) (sym m.decoded) (rule_leaves (middle s st t) m.rule x.step.answer m.can (n m.rule (ap (λ (o : Option Marked). rule_by s (middle s st t) o) e ∙ m.decoded)) g)
