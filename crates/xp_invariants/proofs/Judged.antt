-- By what an end in contact judges: whether both version words of the scenario know entries of several lines. Its partner's machine knew so when the contact was made,
-- and the end keeps it as long as the contact stands.
use Rattle.std.proofs.Common.{◌≡◌, ℕ, ◌<◌, Bool, true, false, not, ◌&&◌, cond, eqb, List, [], ◌∷◌, ◌++◌, length, refl, ap, sym, ◌∙◌, subst, append_assoc, Option, Some, None, inl, inr, ◌⊎◌}
use Rattle.std.specs.Prelude.{is_some, slice_get}
use Rattle.std.proofs.lemmas.Bool.{cases_eq}
use Rattle.std.proofs.lemmas.List.{append-nil}
use Rattle.xp_base.specs.declared.reason.Reason.{Reason}
use Rattle.xp_base.specs.declared.reason.Reason.TheVariants.{OtherGoingDown}
use Rattle.xp_base.specs.declared.step.Answer.{Answer}
use Rattle.xp_base.specs.declared.step.Answer.TheVariants.{Word, Failed}
use Rattle.xp_base.specs.declared.step.CopyMark.{CopyMark}
use Rattle.xp_base.specs.Kinds.{kinds_in}
use Rattle.xp_base.specs.Memory.{Memory}
use Rattle.xp_base.specs.History.{Act, Begun, Answered, Noticed, Marked, Turn, Event, Turned, Poked}
use Rattle.xp_script.specs.Commands.{verb_of}
use Rattle.xp_script.specs.declared.command.Command.{Command}
use Rattle.xp_script.specs.declared.part.ScenarioPart.{ScenarioPart}
use Rattle.xp_script.specs.declared.scenario.Scenario.{Scenario}
use Rattle.xp_script.specs.Lawful.{IsLawful}
use Rattle.xp_script.specs.declared.part.Link.{Link as SetupLink}
use Rattle.xp_script.specs.Opening.{version_word, opening}
use Rattle.xp_script.specs.Parts.{part_of, links_of}
use Rattle.xp_script.specs.Settings.{minor_of}
use Rattle.xp_protocol.specs.declared.rule.PeerRule.{PeerRule}
use Rattle.xp_protocol.specs.declared.rule.PeerRule.TheVariants.{AskActivation, TakeFlags, CloseArea, ZeroMagic, ClearOldBit, Prepare, OpenArea, SetEngagementBit, ReadRecord, StoreEcho, StoreSecond, ClearEngagementBit, LookAtPage, CheckBeat, ClearDeactivationBit, TellPartner}
use Rattle.xp_protocol.specs.declared.rule.OwnRule.TheVariants.{ReadEngaged, TakeDeactivation, ReadStamp, ZeroMask, ZeroOffline, WriteStamp, StoreMask, TakeActivation, StoreBeat, StoreOffline}
use Rattle.xp_protocol.specs.declared.rule.Rule.{Rule}
use Rattle.xp_protocol.specs.declared.rule.Rule.TheVariants.{Link, Peer as ForPeer, Own}
use Rattle.xp_protocol.specs.Acts.{Aim, aimed, aim_by, aim_of, EndName, named_end, upcoming, current, with_aim, after_act, after_acts, command_begun, end_begun, end_answered}
use Rattle.xp_protocol.specs.Decode.{rule_of}
use Rattle.xp_protocol.specs.Effects.{Effect, Note}
use Rattle.xp_protocol.specs.Linking.{flags_got, link_down, link_finished, link_joined, booted_end}
use Rattle.xp_protocol.specs.Peering.{Here, is_bad_flags, flags_taken, is_magic, is_wrong, has_shown, with_reason, contact_of, contact_made, try_contact, same_peer, record_read, area_left_for, area_off, is_left, is_flagged, peer_effect, peer_read, deactivation_heard, peer_failed, booted_peer}
use Rattle.xp_protocol.specs.Promised.{memory_by}
use Rattle.xp_protocol.specs.Reached.{ReachedWords, state_at}
use Rattle.xp_protocol.specs.Rules.{here_of, mark_of, peer_numbered, after_answer}
use Rattle.xp_protocol.specs.Runs.{turned, turn_counted, restart_comes, stop_comes, is_over, moment_by, start, after_ruled, after_step, after_turn}
use Rattle.xp_protocol.specs.State.{State, Reading, Contact, End, Peer, Old, cold_peer, each, idle_end, are_new, opened_new, opened_state, link_at, end_of, peer_of}
use Rattle.xp_protocol.proofs.Frames.{cond_peer, wanted_at, idle_at}
use Rattle.xp_protocol.proofs.Opened.{opened_or}
use Rattle.xp_protocol.proofs.Slots.{at_each, at_peer, at_slot}
use Rattle.xp_promises.proofs.Before.{split}
use Rattle.xp_meetings.proofs.Opening.{linked_by}
use Rattle.xp_promises.proofs.Known.{own_version, linked_version, versions_known}
use Rattle.xp_invariants.proofs.Onward.{own_turn, other_turn}
use Rattle.xp_invariants.proofs.Stance.{Stance, stance, Same, flags_same, linked_same, begun_same, answered_same, noticed_same}

-- a fact of what an end in contact judges by
abbrev Holds : (Bool → Type 0) → ℕ → Peer → Type 0
Holds X c p = let z = stance (link_at p.links c) in is_some z.meet ≡ true → X z.new

-- by `new`, or by what the partner's machine knows in its contact
abbrev Judges : Bool → ℕ → Peer → Type 0
Judges new c p = Holds (λ n. n ≡ new) c p

abbrev Either : Bool → Bool → Bool → Bool → Type 0
Either new known met n = (n ≡ new) ⊎ ((n ≡ known) × (met ≡ true))

abbrev Follows : Bool → ℕ → Peer → Type 0
Follows new c p = Holds (Either new p.both_new (is_some p.contact)) c p

none_holds : (X : Bool → Type 0) (c : ℕ) (links : List End) (f : ℕ → End → End) → ((i : ℕ) (e : End) → (f i e).shake.meet ≡ None) → (let z = stance (link_at (each f 0 links) c) in is_some z.meet ≡ true → X z.new)
none_holds X c links f none =
    at_each (λ (e : End). is_some e.shake.meet ≡ true → X e.shake.both_new) f links c idle_end
    (λ t. (let z : is_some (f c (link_at links c)).shake.meet ≡ false = ap (λ (o : Option Contact). is_some o) (none c (link_at links c)) in absurd (cc))) (λ l t. absurd (cc))

-- ---- acts and moments keep each such fact
module _ (X : Bool → Type 0) (c : ℕ) (su : ScenarioPart) (st : State) (q : ℕ) (h : Holds X c (peer_of st q)) where
  abbrev At : Option Aim → Type 0
  At None = Unit {0}
  At (Some y) = Same (end_of st y.partner y.channel) y.effect

  aim_same : (f : End → Command → Effect End (List Note)) → ((e : End) (x : Command) → Same e (f e x)) → (o : Option Command) → At (aim_of st f o)
  aim_same f each None = tt
  aim_same f each (Some x) = by (named_end x) where
    by : (n : Option EndName) → At (aim_by st f x n)
    by None = tt
    by (Some n) = each (end_of st n.partner n.channel) x

  act_same : (x : Act) → At (aimed su st x)
  act_same Begun = aim_same end_begun begun_same (upcoming su st)
  act_same Answered = aim_same end_answered (λ e x. answered_same (verb_of x) e) (current su st)
  act_same (Noticed k d number how) = noticed_same how number (end_of st k d)

  aim_holds : (x : Option Aim) → At x → Holds X c (peer_of (with_aim x st) q)
  aim_holds None i = h
  aim_holds (Some y) i =
      at_peer (Holds X c) st.peers y.partner _ q
      (λ e. at_slot (λ (z : End). is_some z.shake.meet ≡ true → X z.shake.both_new) (peer_of st y.partner).links y.channel c y.effect.local idle_end
      (λ f. subst (λ (z : Stance). is_some z.meet ≡ true → X z.new) (sym i) (subst (λ (d : ℕ). is_some (end_of st y.partner d).shake.meet ≡ true → X (end_of st y.partner d).shake.both_new) f (subst (λ (j : ℕ). Holds X c (peer_of st j)) e h)))
      (subst (λ (j : ℕ). Holds X c (peer_of st j)) e h)) h

  act_holds : (x : Act) → Holds X c (peer_of (after_act su st x) q)
  act_holds x = wanted_at (Holds X c) (command_begun su st x) (with_aim (aimed su st x) st).peers q (λ p k. k) (λ p k. k) (aim_holds (aimed su st x) (act_same x))

  moment_holds : (turns : ℕ) (b stops : Bool) → Holds X c (peer_of (moment_by su b stops (turned turns st)) q)
  moment_holds turns true stops = at_each (Holds X c) (λ j p. booted_peer p) st.peers q (cold_peer Old) (none_holds X c (peer_of st q).links (λ d e. booted_end e) (λ d e. refl)) (λ l. subst (λ (e : End). is_some e.shake.meet ≡ true → X e.shake.both_new) (sym (idle_at c)) (λ t. absurd (cc)))
  moment_holds turns false true = h
  moment_holds turns false false = h

acts_hold : (X : Bool → Type 0) (c : ℕ) (su : ScenarioPart) (st : State) (q : ℕ) (acts : List Act) → Holds X c (peer_of st q) → Holds X c (peer_of (after_acts su st acts) q)
acts_hold X c su st q [] h = h
acts_hold X c su st q (a ∷ more) h = acts_hold X c su (after_act su st a) q more (act_holds X c su st q h a)

-- and leave what the partner's machine knows
abbrev Knows : Bool → Bool → Peer → Type 0
Knows known met p = (p.both_new ≡ known) × (is_some p.contact ≡ met)

act_knows : (known met : Bool) (su : ScenarioPart) (st : State) (q : ℕ) (x : Act) → Knows known met (peer_of st q) → Knows known met (peer_of (after_act su st x) q)
act_knows known met su st q x h = wanted_at (Knows known met) (command_begun su st x) (with_aim (aimed su st x) st).peers q (λ p k. k) (λ p k. k) (by (aimed su st x)) where
  by : (o : Option Aim) → Knows known met (peer_of (with_aim o st) q)
  by None = h
  by (Some y) = at_peer (Knows known met) st.peers y.partner _ q (λ e. subst (λ (j : ℕ). Knows known met (peer_of st j)) e h) h

acts_know : (known met : Bool) (su : ScenarioPart) (st : State) (q : ℕ) (acts : List Act) → Knows known met (peer_of st q) → Knows known met (peer_of (after_acts su st acts) q)
acts_know known met su st q [] h = h
acts_know known met su st q (a ∷ more) h = acts_know known met su (after_act su st a) q more (act_knows known met su st q a h)

-- ---- a step
module _ (new : Bool) (c : ℕ) where
  stays : (p : Peer) → Judges new c p → Follows new c p
  stays p h = λ t. inl (h t)

  meets : (turn stamp : ℕ) (p : Peer) → Judges new c p → Follows new c (try_contact turn stamp p).local
  meets turn stamp p h =
      cond_peer (Follows new c) (p.engage.second && (p.engage.shown && not (is_some p.contact))) (contact_made turn stamp p) (same_peer p)
      (at_each (λ (e : End). is_some e.shake.meet ≡ true → Either new p.both_new true e.shake.both_new) (λ d e. (link_joined p.both_new (contact_of stamp p.engage) e).local) p.links c idle_end (λ t. inr (refl, refl)) (λ l t. absurd (cc)))
      (stays p h)

  reads : (y : Here) (p : Peer) (o : Option Reading) (v : ℕ) → Judges new c p → Follows new c (record_read y p o v).local
  reads y p None v h = cond_peer (Follows new c) (eqb v 0) _ _ (stays p h) (cond_peer (Follows new c) (is_magic v) _ _ (stays p h) (stays p h))
  reads y p (Some r) v h =
      cond_peer (Follows new c) (eqb r.done 1) _ _ (stays p h) (cond_peer (Follows new c) (eqb r.done 2) _ _ (stays p h) (cond_peer (Follows new c) (eqb r.done 7) _ _
      (cond_peer (Follows new c) (has_shown y.stamp p.engage r) _ _ (meets y.turn y.stamp (record p { engage = record p.engage { shown = true; reading = None } }) h) (stays p h))
      (cond_peer (Follows new c) (is_wrong y.part r.done v) _ _ (stays p h) (stays p h))))

  leaves : (p : Peer) (o : Option Reason) → Judges new c p → Follows new c (area_left_for o p).local
  leaves p None h = stays p h
  leaves p (Some reason) h = none_holds (Either new p.both_new false) c p.links (λ d e. (link_down reason e).local) (λ d e. refl)

  takes : (v : ℕ) (p : Peer) → Judges new c p → Judges new c (flags_taken v p).local
  takes v p h =
      at_each (λ (e : End). is_some e.shake.meet ≡ true → e.shake.both_new ≡ new) (λ d e. (flags_got (kinds_in v d) e).local) p.links c idle_end
      (subst (λ (z : Stance). is_some z.meet ≡ true → z.new ≡ new) (sym (flags_same (kinds_in v c) (link_at p.links c))) h) (λ l t. absurd (cc))

  peer_follows : (y : Here) (p : Peer) (m : PeerRule) (v : ℕ) → Judges new c p → Follows new c (peer_effect y p m v).local
  peer_follows y p TakeFlags v h = cond_peer (Follows new c) (is_bad_flags v) _ (flags_taken v p) (stays p h) (stays (flags_taken v p).local (takes v p h))
  peer_follows y p CloseArea v h = leaves p p.engage.reason h
  peer_follows y p ReadRecord v h = reads y p p.engage.reading v h
  peer_follows y p StoreSecond v h = meets y.turn y.stamp (record p { engage = record p.engage { second = true } }) h
  peer_follows y p LookAtPage v h = cond_peer (Follows new c) (eqb (length (p.paging ++ v ∷ [])) 5) _ _ (λ t. inl (h t)) (stays p h)
  peer_follows y p CheckBeat v h = stays p h
  peer_follows y p AskActivation v h = stays p h
  peer_follows y p ZeroMagic v h = stays p h
  peer_follows y p ClearOldBit v h = stays p h
  peer_follows y p (Prepare x) v h = stays p h
  peer_follows y p OpenArea v h = stays p h
  peer_follows y p SetEngagementBit v h = stays p h
  peer_follows y p StoreEcho v h = stays p h
  peer_follows y p ClearEngagementBit v h = stays p h
  peer_follows y p ClearDeactivationBit v h = stays p h
  peer_follows y p TellPartner v h = stays p h

  numbered_follows : (y : Here) (mark : Option CopyMark) (p : Peer) (m : PeerRule) (v : ℕ) → Judges new c p → Follows new c (peer_effect y (peer_numbered mark p) m v).local
  numbered_follows y None p m v h = peer_follows y p m v h
  numbered_follows y (Some mark) p m v h = peer_follows y (peer_numbered (Some mark) p) m v h

  failed_follows : (turn : ℕ) (mark : Option CopyMark) (p : Peer) → Judges new c p → Follows new c (peer_failed turn mark p)
  failed_follows turn None p h = stays p h
  failed_follows turn (Some mark) p h = stays p h

  freed_follows : (p : Peer) (v q : ℕ) → Judges new c p → Follows new c (peer_read v q p).local
  freed_follows p v q h = cond_peer (Follows new c) (is_left p.engage && not (is_flagged v q)) (area_off p) (same_peer p) (none_holds (Either new p.both_new false) c p.links (λ d e. (link_finished e).local) (λ d e. refl)) (stays p h)

  told_follows : (p : Peer) (v q : ℕ) → Judges new c p → Follows new c (deactivation_heard v q p).local
  told_follows p v q h = by (is_some p.engage.echo && is_flagged v q) where
    by : (b : Bool) → Follows new c (cond b (with_reason (Some (OtherGoingDown v)) p) p)
    by true = stays p h
    by false = stays p h

  cold_follows : Follows new c (cold_peer Old)
  cold_follows = subst (λ (e : End). is_some e.shake.meet ≡ true → Either new false false e.shake.both_new) (sym (idle_at c)) (λ t. absurd (cc))

  module _ (su : ScenarioPart) (st : State) (q : ℕ) (h : Judges new c (peer_of st q)) where
    at : (k : ℕ) → q ≡ k → Judges new c (peer_of st k)
    at k e = subst (λ (j : ℕ). Judges new c (peer_of st j)) e h

    old : Follows new c (peer_of st q)
    old = stays (peer_of st q) h

    rule_follows : (r : Rule) (a : Answer) → Follows new c (peer_of (after_answer su st r a) q)
    rule_follows (Link k d m) a =
        at_peer (Follows new c) st.peers k _ q
        (λ e. at_slot (λ (z : End). is_some z.shake.meet ≡ true → Either new (peer_of st k).both_new (is_some (peer_of st k).contact) z.shake.both_new) (peer_of st k).links d c _ idle_end
        (λ f. subst (λ (z : Stance). is_some z.meet ≡ true → Either new (peer_of st k).both_new (is_some (peer_of st k).contact) z.new) (sym (linked_same _ _ (end_of st k d) m a)) (λ t. inl (subst (λ (j : ℕ). is_some (end_of st k j).shake.meet ≡ true → (end_of st k j).shake.both_new ≡ new) f (at k e) t)))
        (stays (peer_of st k) (at k e))) old
    rule_follows (ForPeer k m) (Word v) = at_peer (Follows new c) st.peers k _ q (λ e. numbered_follows (here_of su st k) (mark_of su st (ForPeer k m)) (peer_of st k) m v (at k e)) old
    rule_follows (ForPeer k m) Failed = at_peer (Follows new c) st.peers k _ q (λ e. failed_follows (here_of su st k).turn (mark_of su st (ForPeer k m)) (peer_of st k) (at k e)) old
    rule_follows (Own ReadEngaged) (Word v) = at_each (Follows new c) (λ j p. (peer_read v j p).local) st.peers q (cold_peer Old) (freed_follows (peer_of st q) v q h) (λ l. cold_follows)
    rule_follows (Own TakeDeactivation) (Word v) = at_each (Follows new c) (λ j p. (deactivation_heard v j p).local) st.peers q (cold_peer Old) (told_follows (peer_of st q) v q h) (λ l. cold_follows)
    rule_follows (Own ReadStamp) (Word v) = old
    rule_follows (Own ZeroMask) (Word v) = old
    rule_follows (Own ZeroOffline) (Word v) = old
    rule_follows (Own WriteStamp) (Word v) = old
    rule_follows (Own StoreMask) (Word v) = old
    rule_follows (Own TakeActivation) (Word v) = old
    rule_follows (Own StoreBeat) (Word v) = old
    rule_follows (Own StoreOffline) (Word v) = old
    rule_follows (Own m) Failed = old

    ruled_follows : (o : Option Rule) (a : Answer) → Follows new c (peer_of (after_ruled su st o a) q)
    ruled_follows None a = old
    ruled_follows (Some r) a = rule_follows r a

    step_follows : (o : Option Marked) → Follows new c (peer_of (after_step su st o) q)
    step_follows None = old
    step_follows (Some x) = ruled_follows (rule_of su st x.step.op x.mark) x.step.answer

  -- a turn, after which the partner's machine knows `new` in its contact
  turn_judges : (su : ScenarioPart) (st : State) (t : Turn) (q : ℕ) → Judges new c (peer_of st q) → (let p = peer_of (after_turn su st t) q in is_some p.contact ≡ true → p.both_new ≡ new) → Judges new c (peer_of (after_turn su st t) q)
  turn_judges su st t q h known =
      let earlier = st.clock.puts in
      let now = turn_counted three in
      by (restart_comes su earlier now && not (is_over now)) (stop_comes su earlier now && not (is_over now)) known
    where
      one : State
      one = after_acts su st t.before

      two : State
      two = after_step su one t.made

      three : State
      three = after_acts su two t.after

      p : Peer
      p = peer_of two q

      follows : Holds (Either new p.both_new (is_some p.contact)) c (peer_of three q)
      follows = acts_hold (Either new p.both_new (is_some p.contact)) c su two q t.after (step_follows su one q (acts_hold (λ n. n ≡ new) c su st q t.before h) t.made)

      knows : Knows p.both_new (is_some p.contact) (peer_of three q)
      knows = acts_know p.both_new (is_some p.contact) su two q t.after (refl, refl)

      done : (is_some (peer_of three q).contact ≡ true → (peer_of three q).both_new ≡ new) → Judges new c (peer_of three q)
      done v t = elim (follows t) [
        | inl e ↦ e
        | inr k ↦ k.0 ∙ sym knows.0 ∙ v (knows.1 ∙ k.1)
      ]

      by : (b stops : Bool) → (let x = peer_of (moment_by su b stops (turn_counted three)) q in is_some x.contact ≡ true → x.both_new ≡ new) → Judges new c (peer_of (moment_by su b stops (turn_counted three)) q)
      by true stops v = at_each (Judges new c) (λ j p. booted_peer p) three.peers q (cold_peer Old) (none_holds (λ n. n ≡ new) c (peer_of three q).links (λ d e. booted_end e) (λ d e. refl)) (λ l. subst (λ (e : End). is_some e.shake.meet ≡ true → e.shake.both_new ≡ new) (sym (idle_at c)) (λ t. absurd (cc)))
      by false true v = done v
      by false false v = done v

-- ---- the opening, and a history
module _ (s : Scenario) (law : IsLawful s) (p q c : ℕ) (lp : p < s.count) (lq : q < s.count) (apart : p ≡ q → ⊥) where
  abbrev su : ScenarioPart
  su = part_of s p

  abbrev new : Bool
  new = are_new (version_word (minor_of p s.minors)) (version_word (minor_of q s.minors))

  -- the versions of a warm partner and of the own page are among the settings that a partition knows
  opened_is : (i : ℕ) (l : SetupLink) → slice_get (links_of s p) i ≡ Some l → l.partner ≡ q → opened_new su q ≡ new
  opened_is i l e d = λ n. are_new (own_version s law p n) (linked_version s law p q (linked_by (links_of s p) q i l e d) n)

  opened_judges : Judges new c (peer_of (opened_state su) q)
  opened_judges = elim (opened_or su q c) [
    | inl e ↦ subst (λ (z : End). is_some z.shake.meet ≡ true → z.shake.both_new ≡ new) (sym e) (λ t. absurd (cc))
    | inr (inl k) ↦ subst (λ (z : End). is_some z.shake.meet ≡ true → z.shake.both_new ≡ new) (sym k.is) (λ t. opened_is k.number k.link k.listed k.partner)
    | inr (inr k) ↦ subst (λ (z : End). is_some z.shake.meet ≡ true → z.shake.both_new ≡ new) (sym k.is) (λ t. opened_is k.at.number k.link k.at.listed k.at.partner)
  ]

  start_judges : Judges new c (peer_of (start su) q)
  start_judges = let st = opened_state su in moment_holds (λ n. n ≡ new) c su st q opened_judges 0 (restart_comes su 0 st && not (is_over st)) (stop_comes su 0 st && not (is_over st))

  known : (h : List Event) (m : Memory) → ReachedWords s h m → is_some (peer_of (state_at s h p) q).contact ≡ true → (peer_of (state_at s h p) q).both_new ≡ new
  known h m r t = by (peer_of (state_at s h p) q).contact refl t where
    by : (o : Option Contact) → (peer_of (state_at s h p) q).contact ≡ o → is_some o ≡ true → (peer_of (state_at s h p) q).both_new ≡ new
    by None e t = absurd (cc)
    by (Some k) e t = versions_known s law h m r p q lp lq apart k e

  abbrev After : List Event → Type 0
  After h = Judges new c (peer_of (state_at s h p) q)

  all : (es fs : List Event) (m : Memory) → ReachedWords s (es ++ fs) m → After es → After (es ++ fs)
  all es [] m r h = subst After (sym (append-nil es)) h
  all es (Poked owner index word ∷ fs) m r h = absurd (split s es (Poked owner index word ∷ fs) m r).parts
  all es (Turned a t ∷ fs) m r h =
      let e : (es ++ Turned a t ∷ []) ++ fs ≡ es ++ Turned a t ∷ fs = append_assoc es (Turned a t ∷ []) fs in
      let r' : ReachedWords s ((es ++ Turned a t ∷ []) ++ fs) m = subst (λ (xs : List Event). ReachedWords s xs m) (sym e) r in
      subst After e (all (es ++ Turned a t ∷ []) fs m r' (by (cases_eq a p) (split s (es ++ Turned a t ∷ []) fs m r').reached))
    where
      reached : ℕ → Type 0
      reached j = ReachedWords s (es ++ Turned j t ∷ []) (memory_by (opening s) (es ++ Turned j t ∷ []))

      by : (a ≡ p) ⊎ (a ≡ p → ⊥) → reached a → After (es ++ Turned a t ∷ [])
      by (inl e) k =
          let V : State → Type 0 = λ st. is_some (peer_of st q).contact ≡ true → (peer_of st q).both_new ≡ new in
          let own = own_turn s es p t in
          let there : V (after_turn su (state_at s es p) t) = subst V own (known (es ++ Turned p t ∷ []) (memory_by (opening s) (es ++ Turned p t ∷ [])) (subst reached e k)) in
          subst (λ (j : ℕ). After (es ++ Turned j t ∷ [])) (sym e) (subst (λ (st : State). Judges new c (peer_of st q)) (sym own) (turn_judges new c su (state_at s es p) t q h there))
      by (inr d) k = subst (λ (st : State). Judges new c (peer_of st q)) (sym (other_turn s es a p t d)) h

  pub judged : (h : List Event) (m : Memory) → ReachedWords s h m → (let e = end_of (state_at s h p) q c in is_some e.shake.meet ≡ true → e.shake.both_new ≡ new)
  judged h m r = all [] h m r start_judges
