-- What a turn leaves of a fact of an end whose partner is met: what its acts and steps leave, but for
-- a step that does what is owed.
use Rattle.std.proofs.Common.{◌≡◌, ℕ, ◌<◌, ◌≤◌, Bool, true, false, ◌&&◌, List, [], ◌∷◌, length, refl, ap, sym, ◌∙◌, subst, arith, inl, inr, ◌⊎◌, Option, Some, None}
use Rattle.std.specs.Prelude.{IsSome, is_some, not, if◌then◌else◌}
use Rattle.std.proofs.lemmas.Bool.{cases_lt}
use Rattle.std.proofs.lemmas.List.{get_or_past}
use Rattle.xp_base.specs.declared.reason.Reason.{Reason}
use Rattle.xp_base.specs.declared.reason.Reason.TheVariants.{OtherGoingDown}
use Rattle.xp_base.specs.declared.step.Answer.{Answer}
use Rattle.xp_base.specs.declared.step.Answer.TheVariants.{Word, Failed}
use Rattle.xp_base.specs.declared.step.CopyMark.{CopyMark}
use Rattle.xp_base.specs.History.{Act, Begun, Answered, Noticed, NoticeKind, Marked, Turn}
use Rattle.xp_base.specs.Kinds.{Kinds, kinds_in}
use Rattle.xp_script.specs.declared.command.Command.{Command}
use Rattle.xp_script.specs.declared.part.ScenarioPart.{ScenarioPart}
use Rattle.xp_protocol.specs.declared.contact.Contact.{Contact}
use Rattle.xp_protocol.specs.declared.rule.LinkRule.{LinkRule}
use Rattle.xp_protocol.specs.declared.rule.PeerRule.{PeerRule}
use Rattle.xp_protocol.specs.declared.rule.PeerRule.TheVariants.{AskActivation, TakeFlags, CloseArea, ZeroMagic, ClearOldBit, Prepare, OpenArea, SetEngagementBit, ReadRecord, StoreEcho, StoreSecond, ClearEngagementBit, LookAtPage, CheckBeat, ClearDeactivationBit, TellPartner}
use Rattle.xp_protocol.specs.declared.rule.OwnRule.TheVariants.{ReadEngaged, TakeDeactivation, ReadStamp, ZeroMask, ZeroOffline, WriteStamp, StoreMask, TakeActivation, StoreBeat, StoreOffline}
use Rattle.xp_protocol.specs.declared.rule.Rule.{Rule}
use Rattle.xp_protocol.specs.declared.rule.Rule.TheVariants.{Link, Peer as ForPeer, Own}
use Rattle.xp_protocol.specs.Effects.{Effect, Note}
use Rattle.xp_protocol.specs.State.{State, End, Peer, PeerGoing, Area, Old, Off, Ready, Leaving, Sides, cold_peer, idle_end, link_at, end_of, peer_of, is_connected, set_link}
use Rattle.xp_protocol.specs.Linking.{flags_got, link_can}
use Rattle.xp_protocol.specs.Peering.{Here, peer_can, peer_effect, peer_read, deactivation_heard, same_peer, is_bad_flags, is_left, is_flagged, with_reason, end_reason, booted_peer, contact_made}
use Rattle.xp_protocol.specs.Rules.{Can, here_of, mark_of, numbered, link_answered, place_for, peer_answered, after_answer}
use Rattle.xp_protocol.specs.Acts.{EndName, aim_by, named_end, aimed, aim_at, aim_of, with_aim, current, upcoming, end_begun, end_answered, end_noticed, command_begun, after_act, after_acts}
use Rattle.xp_protocol.specs.Runs.{May, MayMake, MayStep, after_ruled, after_step, after_turn, acted, turn_counted, moment, moment_by, restarted, restart_comes, stop_comes, is_over}
use Rattle.xp_protocol.proofs.Slots.{at_slot, at_each, at_peer, at_end}
use Rattle.xp_protocol.proofs.Frames.{wanted_at, cond_peer}
use Rattle.xp_windows.specs.Windows.{middle, IsMet, At, Steps}
use Rattle.xp_windows.specs.Visited.{rule_by, rule_made}
use Rattle.xp_windows.proofs.Asked.{steps_by}
use Rattle.xp_windows.proofs.Frame.{While, Framed, OwnSteps, begun_keeps, answered_keeps, noticed_keeps, flags_keep, link_keeps}

-- a partner that nothing is known of isn't met
pub no_contact : (o : Option Contact) → o ≡ None → IsSome o → ⊥
no_contact None e h = absurd (cc)
no_contact (Some x) e h = absurd (cc)

no_reason : (o : Option Reason) → o ≡ None → IsSome o → ⊥
no_reason None e h = absurd (cc)
no_reason (Some x) e h = absurd (cc)

pub past : (q : ℕ) (st : State) → IsMet q st → length st.peers ≤ q → ⊥
past q st met l = no_contact (peer_of st q).contact (ap (λ (p : Peer). p.contact) (get_or_past st.peers q (cold_peer Old) l)) met.contact

pub within : (q : ℕ) (st : State) → IsMet q st → q < length st.peers
within q st met = by (cases_lt q (length st.peers)) where
  by : (q < length st.peers) ⊎ (length st.peers ≤ q) → q < length st.peers
  by (inl l) = l
  by (inr l) = absurd (past q st met l)

unconnected : (links : List End) (c : ℕ) → length links ≤ c → is_connected (link_at links c) ≡ true → ⊥
unconnected links c l on = let z : idle_end ≡ link_at links c = sym (get_or_past links c idle_end l) in let g : is_connected idle_end ≡ true = ap (λ (x : End). is_connected x) z ∙ on in cc

pub among : (st : State) (q c : ℕ) → is_connected (end_of st q c) ≡ true → c < length (peer_of st q).links
among st q c on = by (cases_lt c (length (peer_of st q).links)) where
  by : (c < length (peer_of st q).links) ⊎ (length (peer_of st q).links ≤ c) → c < length (peer_of st q).links
  by (inl l) = l
  by (inr l) = absurd (unconnected (peer_of st q).links c l on)

ready_left : (a : Area) (bit : Bool) → a ≡ Ready → is_left (record (cold_peer Old).engage { area = a; bit = bit }) ≡ false
ready_left Ready bit e = refl
ready_left Off bit e = refl
ready_left Old bit e = absurd (cc)
ready_left Leaving bit e = absurd (cc)

-- contact that stands isn't made anew
no_new : (a b : Bool) (o : Option Contact) → IsSome o → (a && (b && not (is_some o))) ≡ false
no_new true true (Some x) h = refl
no_new true false (Some x) h = refl
no_new false b (Some x) h = refl
no_new a b None h = absurd (cc)

-- each act leaves this
pub record ActsKeep (P : End → Type 0) : Type 0 where
  pub begun : (e : End) (x : Command) → P e → P (end_begun e x).local
  pub answered : (e : End) (x : Command) → P e → P (end_answered e x).local
  pub noticed : (how : NoticeKind) (number : ℕ) (e : End) → P e → P (end_noticed how number e).local

module _ (P : End → Type 0) (s : ScenarioPart) (q c : ℕ) where
  abbrev At' : State → Type 0
  At' st = P (end_of st q c)

  moved : (st : State) (k d : ℕ) → q ≡ k → c ≡ d → At' st → P (end_of st k d)
  moved st k d e f h = subst (λ (j : ℕ). P (end_of st j d)) e (subst (λ (j : ℕ). P (end_of st q j)) f h)

  aim_keeps : (st : State) (k d : ℕ) (f : End → Effect End (List Note)) → ((e : End) → P e → P (f e).local) → At' st → At' (with_aim (aim_at st k d f) st)
  aim_keeps st k d f keep h = at_end P st.peers k d (f (end_of st k d)).local q c (λ x y. keep (end_of st k d) (moved st k d x y h)) h

  by_keeps : (st : State) (f : End → Command → Effect End (List Note)) (x : Command) (o : Option EndName) → ((e : End) → P e → P (f e x).local) → At' st → At' (with_aim (aim_by st f x o) st)
  by_keeps st f x None keep h = h
  by_keeps st f x (Some n) keep h = aim_keeps st n.partner n.channel (λ e. f e x) keep h

  of_keeps : (st : State) (f : End → Command → Effect End (List Note)) (o : Option Command) → ((e : End) (x : Command) → P e → P (f e x).local) → At' st → At' (with_aim (aim_of st f o) st)
  of_keeps st f None keep h = h
  of_keeps st f (Some x) keep h = by_keeps st f x (named_end x) (λ e p. keep e x p) h

  aimed_keeps : ActsKeep P → (st : State) (a : Act) → At' st → At' (with_aim (aimed s st a) st)
  aimed_keeps keep st Begun h = of_keeps st end_begun (upcoming s st) keep.begun h
  aimed_keeps keep st Answered h = of_keeps st end_answered (current s st) keep.answered h
  aimed_keeps keep st (Noticed k d number how) h = aim_keeps st k d (end_noticed how number) (λ e p. keep.noticed how number e p) h

  -- an end of a partner
  abbrev In : Peer → Type 0
  In p = P (link_at p.links c)

  act_keeps : ActsKeep P → (st : State) (a : Act) → At' st → At' (after_act s st a)
  act_keeps keep st a h = wanted_at In (command_begun s st a) (with_aim (aimed s st a) st).peers q (λ p x. x) (λ p x. x) (aimed_keeps keep st a h)

  pub acts_keep : ActsKeep P → (st : State) (list : List Act) → At' st → At' (after_acts s st list)
  acts_keep keep st [] h = h
  acts_keep keep st (a ∷ more) h = acts_keep keep (after_act s st a) more (act_keeps keep st a h)

  -- a restart forgets all contacts
  moment_by_keeps : (b d : Bool) (st : State) → IsMet q (moment_by s b d st) → At' st → At' (moment_by s b d st)
  moment_by_keeps false true st met h = h
  moment_by_keeps false false st met h = h
  moment_by_keeps true d st met h = absurd (no_contact (peer_of (restarted s st) q).contact (at_each (λ (p : Peer). p.contact ≡ None) (λ j p. booted_peer p) st.peers q (cold_peer Old) refl (λ l. refl)) met.contact)

  pub moment_keeps : (earlier : ℕ) (st : State) → IsMet q (moment s earlier st) → At' st → At' (moment s earlier st)
  moment_keeps earlier st met h = moment_by_keeps (restart_comes s earlier st && not (is_over st)) (stop_comes s earlier st && not (is_over st)) st met h

-- a fact of an end whose partner stays met: what a step for the partner leaves of it, one of the end,
-- and one of the partition. What else comes of the end's own step is A
module _ (P : End → Type 0) (flags : (ks : Kinds) (e : End) → P e → P (flags_got ks e).local) (s : ScenarioPart) (q c : ℕ) where
  abbrev Stands : Peer → Type 0
  Stands p = P (link_at p.links c)

  flags_leave : (b : Bool) (y : Here) (p : Peer) (w : ℕ) → is_bad_flags w ≡ b → Stands p → c < length p.links → Stands (peer_effect y p TakeFlags w).local
  flags_leave true y p w e h low = rw e h
  flags_leave false y p w e h low = rw e (at_each P (λ d x. (flags_got (kinds_in w d) x).local) p.links c idle_end (flags (kinds_in w c) (link_at p.links c) h) (λ l. absurd (omega (arith, l, low))))

  second_leaves : (turn stamp : ℕ) (p : Peer) → IsSome p.contact → Stands p → Stands (if p.engage.second && (p.engage.shown && not (is_some p.contact)) then contact_made turn stamp p else same_peer p).local
  second_leaves turn stamp p met h = rw (no_new p.engage.second p.engage.shown p.contact met) h

  peer_leaves : (y : Here) (p : Peer) (g : PeerGoing) (m : PeerRule) (w : ℕ) → peer_can y p m → IsSome p.contact → p.engage.reason ≡ None → c < length p.links → Stands p → Stands (peer_effect y (record p { numbers = g }) m w).local
  peer_leaves y p g AskActivation w can met free low h = h
  peer_leaves y p g TakeFlags w can met free low h = flags_leave (is_bad_flags w) y (record p { numbers = g }) w refl h low
  peer_leaves y p g CloseArea w can met free low h = absurd (no_reason p.engage.reason free can.1)
  peer_leaves y p g ZeroMagic w can met free low h = h
  peer_leaves y p g ClearOldBit w can met free low h = h
  peer_leaves y p g (Prepare x) w can met free low h = h
  peer_leaves y p g OpenArea w can met free low h = h
  peer_leaves y p g SetEngagementBit w can met free low h = h
  peer_leaves y p g ReadRecord w can met free low h = absurd (no_contact p.contact can.3 met)
  peer_leaves y p g StoreEcho w can met free low h = h
  peer_leaves y p g StoreSecond w can met free low h = second_leaves y.turn y.stamp (record p { numbers = g; engage = record p.engage { second = true } }) met h
  peer_leaves y p g ClearEngagementBit w can met free low h = h
  peer_leaves y p g LookAtPage w can met free low h = cond_peer Stands _ _ _ h h
  peer_leaves y p g CheckBeat w can met free low h = h
  peer_leaves y p g ClearDeactivationBit w can met free low h = h
  peer_leaves y p g TellPartner w can met free low h = h

  peer_answers : (y : Here) (mark : Option CopyMark) (p : Peer) (m : PeerRule) (a : Answer) → peer_can y p m → IsSome p.contact → p.engage.reason ≡ None → c < length p.links → Stands p → Stands (peer_answered y mark p m a).local
  peer_answers y None p m Failed can met free low h = h
  peer_answers y (Some mark) p m Failed can met free low h = h
  peer_answers y None p m (Word w) can met free low h = peer_leaves y p p.numbers m w can met free low h
  peer_answers y (Some mark) p m (Word w) can met free low h = peer_leaves y p _ m w can met free low h

  read_leaves : (p : Peer) (w : ℕ) → p.engage.area ≡ Ready → Stands p → Stands (peer_read w q p).local
  read_leaves p w e h = rw (ready_left p.engage.area p.engage.bit e) h

  heard_leaves : (b : Bool) (w : ℕ) (p : Peer) → Stands p → Stands (if b then with_reason (Some (OtherGoingDown w)) p else p)
  heard_leaves true w p h = h
  heard_leaves false w p h = h

  module _ (A : Type 0) where
    abbrev Or : Peer → Type 0
    Or p = A ⊎ Stands p

    -- what the own step makes of the end, where it is of this rule
    abbrev Own' : State → Rule → Answer → Type 0
    Own' st r a = (m : LinkRule) → r ≡ Link q c m → link_can (end_of st q c) m → P (end_of st q c) → A ⊎ P (link_answered (mark_of s st (Link q c m)) (place_for s c) (end_of st q c) m a).local

    rule_keeps : (st : State) (r : Rule) (a : Answer) → Can s st r → IsMet q st → c < length (peer_of st q).links → Own' st r a → P (end_of st q c) → A ⊎ P (end_of (after_answer s st r a) q c)
    rule_keeps st (Link k d m) a can met low own h =
        let mark = mark_of s st (Link k d m) in
        let g = link_answered mark (place_for s d) (end_of st k d) m a in
        at_peer Or st.peers k (with_reason (end_reason (peer_of st k).flags_seen g.reason) (set_link (numbered mark d (peer_of st k)) d g.local)) q
        (λ e. at_slot (λ (x : End). A ⊎ P x) (peer_of st k).links d c g.local idle_end (λ i. new e i) (inr (subst (λ (j : ℕ). P (end_of st j c)) e h))) (inr h)
      where
        New : ℕ → ℕ → Type 0
        New j i = A ⊎ P (link_answered (mark_of s st (Link j i m)) (place_for s i) (end_of st j i) m a).local

        new : q ≡ k → c ≡ d → New k d
        new e i =
            let is : Link k d m ≡ Link q c m = ap (λ (j : ℕ). Link j d m) (sym e) ∙ ap (λ (j : ℕ). Link q j m) (sym i) in
            let can_own = subst (λ (j : ℕ). link_can (end_of st j c) m) (sym e) (subst (λ (j : ℕ). link_can (end_of st k j) m) (sym i) can.1.1) in
            subst (λ (j : ℕ). New j d) e (subst (λ (j : ℕ). New q j) i (own m is can_own h))
    rule_keeps st (ForPeer k m) a can met low own h =
        at_peer Or st.peers k _ q (λ e. inr (peer_answers (here_of s st k) (mark_of s st (ForPeer k m)) (peer_of st k) m a can.1.1 (subst (λ (j : ℕ). IsSome (peer_of st j).contact) e met.contact) (subst (λ (j : ℕ). (peer_of st j).engage.reason ≡ None) e met.free) (subst (λ (j : ℕ). c < length (peer_of st j).links) e low) (subst (λ (j : ℕ). P (end_of st j c)) e h))) (inr h)
    rule_keeps st (Own ReadEngaged) (Word w) can met low own h = at_each Or (λ j p. (peer_read w j p).local) st.peers q (cold_peer Old) (inr (read_leaves (peer_of st q) w met.ready h)) (λ l. absurd (past q st met l))
    rule_keeps st (Own TakeDeactivation) (Word w) can met low own h = at_each Or (λ j p. (deactivation_heard w j p).local) st.peers q (cold_peer Old) (inr (heard_leaves (is_some (peer_of st q).engage.echo && is_flagged w q) w (peer_of st q) h)) (λ l. absurd (past q st met l))
    rule_keeps st (Own ReadStamp) (Word w) can met low own h = inr h
    rule_keeps st (Own ZeroMask) (Word w) can met low own h = inr h
    rule_keeps st (Own ZeroOffline) (Word w) can met low own h = inr h
    rule_keeps st (Own WriteStamp) (Word w) can met low own h = inr h
    rule_keeps st (Own StoreMask) (Word w) can met low own h = inr h
    rule_keeps st (Own TakeActivation) (Word w) can met low own h = inr h
    rule_keeps st (Own StoreBeat) (Word w) can met low own h = inr h
    rule_keeps st (Own StoreOffline) (Word w) can met low own h = inr h
    rule_keeps st (Own m) Failed can met low own h = inr h

    -- a turn leaves it, or else comes of its step
    pub met_keeps : ActsKeep P → (st : State) (t : Turn) → May s st t → IsMet q (middle s st t) → c < length (peer_of (middle s st t) q).links → IsMet q (after_turn s st t) → ((r : Rule) (a : Answer) → rule_made s (middle s st t) t ≡ Some r → Own' (middle s st t) r a) → P (end_of st q c) → A ⊎ P (end_of (after_turn s st t) q c)
    met_keeps acts st t may met low later own h = by t.made refl may.made where
      here : P (end_of (middle s st t) q c)
      here = acts_keep P s q c acts st t.before h

      ends : P (end_of (after_step s (middle s st t) t.made) q c) → P (end_of (after_turn s st t) q c)
      ends x = moment_keeps P s q c st.clock.puts (turn_counted (acted s st t)) later (acts_keep P s q c acts (after_step s (middle s st t) t.made) t.after x)

      stepped : (o : Option Marked) → t.made ≡ o → P (end_of (after_step s (middle s st t) o) q c) → P (end_of (after_turn s st t) q c)
      stepped o e x = ends (subst (λ (z : Option Marked). P (end_of (after_step s (middle s st t) z) q c)) (sym e) x)

      found : (x : Marked) → t.made ≡ Some x → (m : MayStep s (middle s st t) x) → A ⊎ P (end_of (after_answer s (middle s st t) m.rule x.step.answer) q c) → A ⊎ P (end_of (after_turn s st t) q c)
      found x e m (inl y) = inl y
      found x e m (inr y) = inr (stepped (Some x) e (subst (λ (o : Option Rule). P (end_of (after_ruled s (middle s st t) o x.step.answer) q c)) (sym m.decoded) y))

      by : (o : Option Marked) → t.made ≡ o → MayMake s (middle s st t) o → A ⊎ P (end_of (after_turn s st t) q c)
      by None e m = inr (stepped None e here)
      by (Some x) e m = found x e m (rule_keeps (middle s st t) m.rule x.step.answer m.can met low (own m.rule x.step.answer (ap (λ (o : Option Marked). rule_by s (middle s st t) o) e ∙ m.decoded)) here)

-- a fact that stands while an end is open: its own step does what is owed, or leaves it
module _ (R : Bool → Sides → Type 0) (f : Framed R) (s : ScenarioPart) (q c : ℕ) (E : End → LinkRule → Type 0) (own : OwnSteps R f E) where
  acts : ActsKeep (While R)
  acts = record { begun = begun_keeps R f; answered = answered_keeps R f; noticed = noticed_keeps R f }

  pub turn_keeps : (st : State) (t : Turn) → May s st t → IsMet q (middle s st t) → is_connected (end_of (middle s st t) q c) ≡ true → IsMet q (after_turn s st t) → While R (end_of st q c) → Steps (At q c E) s st t ⊎ While R (end_of (after_turn s st t) q c)
  turn_keeps st t may met on later h = met_keeps (While R) (flags_keep R f) s q c (Steps (At q c E) s st t) acts st t may met (among (middle s st t) q c on) later steps h where
    steps : (r : Rule) (a : Answer) → rule_made s (middle s st t) t ≡ Some r → (m : LinkRule) → r ≡ Link q c m → link_can (end_of (middle s st t) q c) m → While R (end_of (middle s st t) q c) → Steps (At q c E) s st t ⊎ While R (link_answered (mark_of s (middle s st t) (Link q c m)) (place_for s c) (end_of (middle s st t) q c) m a).local
    steps r a e m is can g = by (link_keeps R f E own s (middle s st t) q c m a can on g) where
      by : E (end_of (middle s st t) q c) m ⊎ While R (link_answered (mark_of s (middle s st t) (Link q c m)) (place_for s c) (end_of (middle s st t) q c) m a).local → Steps (At q c E) s st t ⊎ While R (link_answered (mark_of s (middle s st t) (Link q c m)) (place_for s c) (end_of (middle s st t) q c) m a).local
      by (inl x) = inl (steps_by (At q c E) s st t (Link q c m) (e ∙ ap (λ (y : Rule). Some y) is) (refl, refl, x))
      by (inr x) = inr x
