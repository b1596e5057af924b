-- What acts and steps leave of a fact of one partner: all rules are said once, and a fact says what it
-- has to stand.
use Rattle.std.proofs.Common.{◌≡◌, ◌≤◌, ℕ, Bool, true, false, ◌&&◌, List, [], ◌∷◌, length, refl, ap, sym, ◌∙◌, subst, arith, replicate, inl, inr, ◌⊎◌, ◌<◌, Option, Some, None}
use Rattle.std.specs.Prelude.{IsSome, is_some, not, if◌then◌else◌, slice_set}
use Rattle.std.proofs.lemmas.List.{get_or_past, get_or-replicate, length-replicate}
use Rattle.std.proofs.lemmas.Bool.{cases_lt}
use Rattle.xp_base.specs.declared.reason.Reason.{Reason}
use Rattle.xp_base.specs.declared.reason.Reason.TheVariants.{OtherGoingDown}
use Rattle.xp_base.specs.declared.step.Answer.{Answer}
use Rattle.xp_base.specs.declared.step.Answer.TheVariants.{Word, Failed}
use Rattle.xp_base.specs.declared.step.CopyKind.{CopyKind}
use Rattle.xp_base.specs.declared.step.CopyKind.TheVariants.{Page as PageCopy, Beat as BeatCopy, Record as RecordCopy}
use Rattle.xp_base.specs.declared.step.CopyMark.{CopyMark}
use Rattle.xp_base.specs.History.{Act, Marked, Turn}
use Rattle.xp_script.specs.declared.part.Link.{Link as ScenarioLink}
use Rattle.xp_script.specs.declared.part.ScenarioPart.{ScenarioPart}
use Rattle.xp_protocol.specs.declared.rule.PeerRule.{PeerRule}
use Rattle.xp_protocol.specs.declared.rule.PeerRule.TheVariants.{AskActivation, TakeFlags, CloseArea, ZeroMagic, ClearOldBit, Prepare, OpenArea, SetEngagementBit, ReadRecord, StoreEcho, StoreSecond, ClearEngagementBit, LookAtPage, CheckBeat, ClearDeactivationBit, TellPartner}
use Rattle.xp_protocol.specs.declared.rule.OwnRule.TheVariants.{ReadEngaged, TakeDeactivation, ReadStamp, ZeroMask, ZeroOffline, WriteStamp, StoreMask, TakeActivation, StoreBeat, StoreOffline}
use Rattle.xp_protocol.specs.declared.rule.Rule.{Rule}
use Rattle.xp_protocol.specs.declared.rule.Rule.TheVariants.{Link, Peer as ForPeer, Own}
use Rattle.xp_protocol.specs.State.{State, End, Going, Peer, PeerGoing, Old, cold_peer, end_of, peer_at, peer_of, set_link, warm_peer, opened_new, opened_peers, base_peer, first_peers, opened_state}
use Rattle.xp_protocol.specs.Peering.{Here, peer_can, peer_effect, peer_read, deactivation_heard, area_off, same_peer, is_left, is_flagged, with_reason, end_reason, copy_ended, booted_peer}
use Rattle.xp_protocol.specs.Rules.{Can, numbered, link_answered, place_for, here_of, mark_of, peer_answered, after_answer}
use Rattle.xp_protocol.specs.Acts.{Aim, aimed, with_aim, command_begun, unwanted, wanted_again, after_act, after_acts}
use Rattle.xp_protocol.specs.Decode.{rule_of}
use Rattle.xp_protocol.specs.Runs.{May, MayMake, after_ruled, after_step, after_turn, moment, moment_by, restart_comes, stop_comes, is_over, start}
use Rattle.xp_protocol.proofs.Slots.{at_each, at_peer}
use Rattle.xp_protocol.proofs.Frames.{wanted_at}
use Rattle.xp_windows.specs.Windows.{middle, Steps, IsFor}
use Rattle.xp_windows.specs.Visited.{rule_by, rule_made}
use Rattle.xp_windows.proofs.Lives.{on_turn}

-- which copies steps for a partner load
abbrev pub copy_kind : PeerRule → Option CopyKind
copy_kind ReadRecord = Some RecordCopy
copy_kind LookAtPage = Some PageCopy
copy_kind CheckBeat = Some BeatCopy
copy_kind m = None

abbrev kind_in : Option CopyMark → Option CopyKind
kind_in None = None
kind_in (Some mark) = Some mark.kind

kind_is : (s : ScenarioPart) (st : State) (q : ℕ) (m : PeerRule) → kind_in (mark_of s st (ForPeer q m)) ≡ copy_kind m
kind_is s st q AskActivation = refl
kind_is s st q TakeFlags = refl
kind_is s st q CloseArea = refl
kind_is s st q ZeroMagic = refl
kind_is s st q ClearOldBit = refl
kind_is s st q (Prepare x) = refl
kind_is s st q OpenArea = refl
kind_is s st q SetEngagementBit = refl
kind_is s st q ReadRecord = refl
kind_is s st q StoreEcho = refl
kind_is s st q StoreSecond = refl
kind_is s st q ClearEngagementBit = refl
kind_is s st q LookAtPage = refl
kind_is s st q CheckBeat = refl
kind_is s st q ClearDeactivationBit = refl
kind_is s st q TellPartner = refl

mark_kind : (s : ScenarioPart) (st : State) (q : ℕ) (m : PeerRule) (mark : CopyMark) → mark_of s st (ForPeer q m) ≡ Some mark → copy_kind m ≡ Some mark.kind
mark_kind s st q m mark e = sym (kind_is s st q m) ∙ ap (λ (o : Option CopyMark). kind_in o) e

-- acts: an end changes, and a partner isn't wanted any more or is wanted again
pub record ActsLeave (P : Peer → Type 0) : Type 0 where
  pub linked : (p : Peer) (links : List End) → P p → P (record p { links = links })
  pub unwanted : (p : Peer) → P p → P (unwanted p)
  pub wanted : (p : Peer) → P p → P (wanted_again p)

-- steps; N says what is known of a step for the partner besides
pub record StepsLeave (N : Peer → PeerRule → Type 0) (P : Peer → Type 0) : Type 0 where
  pub linked : (p : Peer) (links : List End) (going : List Going) → IsSome p.contact → P p → P (record p { links = links; going = going })
  pub reasoned : (o : Option Reason) (p : Peer) → P p → P (with_reason o p)
  pub ended : (turn : ℕ) (kind : CopyKind) (p : Peer) (m : PeerRule) → copy_kind m ≡ Some kind → N p m → P p → P (copy_ended turn kind p)
  pub freed : (p : Peer) → is_left p.engage ≡ true → P p → P (area_off p).local
  pub steps : (y : Here) (p : Peer) (g : PeerGoing) (m : PeerRule) (w : ℕ) → peer_can y p m → N p m → P p → P (peer_effect y (record p { numbers = g }) m w).local

module _ (P : Peer → Type 0) (s : ScenarioPart) (q : ℕ) where
  abbrev pub Of : State → Type 0
  Of st = P (peer_of st q)

  past : (st : State) → Of st → length st.peers ≤ q → P (cold_peer Old)
  past st h l = subst P (get_or_past st.peers q (cold_peer Old) l) h

  module _ (z : ActsLeave P) where
    aim_leaves : (st : State) (o : Option Aim) → Of st → Of (with_aim o st)
    aim_leaves st None h = h
    aim_leaves st (Some y) h = at_peer P st.peers y.partner (set_link (peer_at st.peers y.partner) y.channel y.effect.local) q (λ e. z.linked (peer_at st.peers y.partner) _ (subst (λ (j : ℕ). P (peer_at st.peers j)) e h)) h

    act_leaves : (st : State) (a : Act) → Of st → Of (after_act s st a)
    act_leaves st a h = wanted_at P (command_begun s st a) (with_aim (aimed s st a) st).peers q z.unwanted z.wanted (aim_leaves st (aimed s st a) h)

    pub acts_leave : (st : State) (list : List Act) → Of st → Of (after_acts s st list)
    acts_leave st [] h = h
    acts_leave st (a ∷ more) h = acts_leave (after_act s st a) more (act_leaves st a h)

  module _ (N : Peer → PeerRule → Type 0) (z : StepsLeave N P) where
    answers_leave : (y : Here) (mark : Option CopyMark) (p : Peer) (m : PeerRule) (a : Answer) → ((x : CopyMark) → mark ≡ Some x → copy_kind m ≡ Some x.kind) → peer_can y p m → N p m → P p → P (peer_answered y mark p m a).local
    answers_leave y None p m (Word w) k can n h = z.steps y p p.numbers m w can n h
    answers_leave y (Some mark) p m (Word w) k can n h = z.steps y p _ m w can n h
    answers_leave y None p m Failed k can n h = h
    answers_leave y (Some mark) p m Failed k can n h = z.ended y.turn mark.kind p m (k mark refl) n h

    read_leaves : (l b : Bool) (p : Peer) → is_left p.engage ≡ l → P p → P (if l && b then area_off p else same_peer p).local
    read_leaves true true p e h = z.freed p e h
    read_leaves true false p e h = h
    read_leaves false b p e h = h

    heard_leaves : (b : Bool) (w : ℕ) (p : Peer) → P p → P (if b then with_reason (Some (OtherGoingDown w)) p else p)
    heard_leaves true w p h = z.reasoned (Some (OtherGoingDown w)) p h
    heard_leaves false w p h = h

    pub rule_leaves : (st : State) (r : Rule) (a : Answer) → Can s st r → ((m : PeerRule) → r ≡ ForPeer q m → N (peer_of st q) m) → Of st → Of (after_answer s st r a)
    rule_leaves st (Link k d m) a can n h =
        let g = link_answered (mark_of s st (Link k d m)) (place_for s d) (end_of st k d) m a in
        let p = set_link (numbered (mark_of s st (Link k d m)) d (peer_of st k)) d g.local in
        at_peer P st.peers k (with_reason (end_reason (peer_of st k).flags_seen g.reason) p) q (λ e. z.reasoned (end_reason (peer_of st k).flags_seen g.reason) p (z.linked (peer_of st k) _ _ can.1.0.contact (subst (λ (j : ℕ). P (peer_of st j)) e h))) h
    rule_leaves st (ForPeer k m) a can n h =
        let g = peer_answered (here_of s st k) (mark_of s st (ForPeer k m)) (peer_of st k) m a in
        at_peer P st.peers k (with_reason g.reason g.local) q
        (λ e. z.reasoned g.reason g.local (answers_leave (here_of s st k) (mark_of s st (ForPeer k m)) (peer_of st k) m a (mark_kind s st k m) can.1.1 (subst (λ (j : ℕ). N (peer_of st j) m) e (n m (ap (λ (j : ℕ). ForPeer j m) (sym e)))) (subst (λ (j : ℕ). P (peer_of st j)) e h))) h
    rule_leaves st (Own ReadEngaged) (Word w) can n h = at_each P (λ j p. (peer_read w j p).local) st.peers q (cold_peer Old) (read_leaves (is_left (peer_of st q).engage) (not (is_flagged w q)) (peer_of st q) refl h) (past st h)
    rule_leaves st (Own TakeDeactivation) (Word w) can n h = at_each P (λ j p. (deactivation_heard w j p).local) st.peers q (cold_peer Old) (heard_leaves (is_some (peer_of st q).engage.echo && is_flagged w q) w (peer_of st q) h) (past st h)
    rule_leaves st (Own ReadStamp) (Word w) can n h = h
    rule_leaves st (Own ZeroMask) (Word w) can n h = h
    rule_leaves st (Own ZeroOffline) (Word w) can n h = h
    rule_leaves st (Own WriteStamp) (Word w) can n h = h
    rule_leaves st (Own StoreMask) (Word w) can n h = h
    rule_leaves st (Own TakeActivation) (Word w) can n h = h
    rule_leaves st (Own StoreBeat) (Word w) can n h = h
    rule_leaves st (Own StoreOffline) (Word w) can n h = h
    rule_leaves st (Own m) Failed can n h = h

    -- a turn's step, of which its rule is known
    pub made_leaves : (st : State) (o : Option Marked) → MayMake s st o → ((x : Marked) (r : Rule) → o ≡ Some x → rule_of s st x.step.op x.mark ≡ Some r → (m : PeerRule) → r ≡ ForPeer q m → N (peer_of st q) m) → Of st → Of (after_step s st o)
    made_leaves st None may n h = h
    made_leaves st (Some x) may n h = subst (λ (o : Option Rule). Of (after_ruled s st o x.step.answer)) (sym may.decoded) (rule_leaves st may.rule x.step.answer may.can (n x may.rule refl may.decoded) h)

  -- a boot begins anew
  moment_by_leaves : (b d : Bool) (st : State) → ((p : Peer) → P (booted_peer p)) → P (cold_peer Old) → Of st → Of (moment_by s b d st)
  moment_by_leaves true d st boots cold h = at_each P (λ j p. booted_peer p) st.peers q (cold_peer Old) (boots (peer_of st q)) (λ l. cold)
  moment_by_leaves false true st boots cold h = h
  moment_by_leaves false false st boots cold h = h

  pub moment_leaves : (earlier : ℕ) (st : State) → ((p : Peer) → P (booted_peer p)) → P (cold_peer Old) → Of st → Of (moment s earlier st)
  moment_leaves earlier st boots cold h = moment_by_leaves (restart_comes s earlier st && not (is_over st)) (stop_comes s earlier st && not (is_over st)) st boots cold h

-- at the opening: of each partner of a link something holds, and of each other one
module _ (P : Peer → Type 0) (s : ScenarioPart) (q : ℕ) where
  opened : (new : ℕ → Bool) (ls : List ScenarioLink) (peers : List Peer) → ((b : Bool) (l : ScenarioLink) (p : Peer) → P p → P (warm_peer b l p)) → P (peer_at peers q) → P (peer_at (opened_peers new ls peers) q)
  opened new [] peers warm h = h
  opened new (l ∷ ls) peers warm h = opened new ls (slice_set peers l.partner (warm_peer (new l.partner) l (peer_at peers l.partner))) warm (at_peer P peers l.partner (warm_peer (new l.partner) l (peer_at peers l.partner)) q (λ e. warm (new l.partner) l (peer_at peers l.partner) (subst (λ (j : ℕ). P (peer_at peers j)) e h)) h)

  unopened : (n : ℕ) (ls : List ScenarioLink) → P (base_peer ls) → P (cold_peer Old) → P (peer_at (first_peers n ls) q)
  unfolding first_peers
  unopened n ls base cold = by (cases_lt q n) where
    by : (q < n) ⊎ (n ≤ q) → P (peer_at (replicate n (base_peer ls)) q)
    by (inl l) = subst P (sym (get_or-replicate n q (base_peer ls) (cold_peer Old) l)) base
    by (inr l) = subst P (sym (get_or_past (replicate n (base_peer ls)) q (cold_peer Old) (omega (arith, length-replicate {A = Peer} n (base_peer ls), l)))) cold

  pub opened_has : ((ls : List ScenarioLink) → P (base_peer ls)) → ((b : Bool) (l : ScenarioLink) (p : Peer) → P p → P (warm_peer b l p)) → P (cold_peer Old) → P (peer_of (opened_state s) q)
  opened_has base warm cold = opened (opened_new s) s.links (first_peers s.count s.links) warm (unopened s.count s.links (base s.links) cold)

  pub start_has : ((ls : List ScenarioLink) → P (base_peer ls)) → ((b : Bool) (l : ScenarioLink) (p : Peer) → P p → P (warm_peer b l p)) → ((p : Peer) → P (booted_peer p)) → P (cold_peer Old) → P (peer_of (start s) q)
  start_has base warm boots cold = moment_leaves P s q 0 (opened_state s) boots cold (opened_has base warm cold)

-- a fact of a partner that stands until the step of this rule
pub record Awaits (N : Peer → PeerRule → Type 0) (P : Peer → Type 0) (goal : PeerRule) : Type 0 where
  pub acts : ActsLeave P
  pub linked : (p : Peer) (links : List End) (going : List Going) → P p → P (record p { links = links; going = going })
  pub reasoned : (o : Option Reason) (p : Peer) → P p → P (with_reason o p)
  pub ended : (turn : ℕ) (kind : CopyKind) (p : Peer) (m : PeerRule) → copy_kind m ≡ Some kind → P p → (m ≡ goal) ⊎ P (copy_ended turn kind p)
  pub freed : (p : Peer) → is_left p.engage ≡ true → P p → ⊥
  pub steps : (y : Here) (p : Peer) (g : PeerGoing) (m : PeerRule) (w : ℕ) → peer_can y p m → N p m → P p → (m ≡ goal) ⊎ P (peer_effect y (record p { numbers = g }) m w).local

module _ (N : Peer → PeerRule → Type 0) (P : Peer → Type 0) (goal : PeerRule) (z : Awaits N P goal) where
  module _ (Done : Type 0) where
    abbrev Or : Peer → Type 0
    Or p = Done ⊎ P p

    or_map : (p r : Peer) → (P p → P r) → Or p → Or r
    or_map p r f (inl d) = inl d
    or_map p r f (inr h) = inr (f h)

    or_freed : (p : Peer) → is_left p.engage ≡ true → Or p → Or (area_off p).local
    or_freed p l (inl d) = inl d
    or_freed p l (inr h) = absurd (z.freed p l h)

    or_done : (m : PeerRule) (r : Peer) → (m ≡ goal → Done) → (m ≡ goal) ⊎ P r → Or r
    or_done m r f (inl e) = inl (f e)
    or_done m r f (inr h) = inr h

    or_ended : (turn : ℕ) (kind : CopyKind) (p : Peer) (m : PeerRule) → copy_kind m ≡ Some kind → (m ≡ goal → Done) × N p m → Or p → Or (copy_ended turn kind p)
    or_ended turn kind p m k n (inl d) = inl d
    or_ended turn kind p m k n (inr h) = or_done m (copy_ended turn kind p) n.0 (z.ended turn kind p m k h)

    or_steps : (y : Here) (p : Peer) (g : PeerGoing) (m : PeerRule) (w : ℕ) → peer_can y p m → (m ≡ goal → Done) × N p m → Or p → Or (peer_effect y (record p { numbers = g }) m w).local
    or_steps y p g m w can n (inl d) = inl d
    or_steps y p g m w can n (inr h) = or_done m (peer_effect y (record p { numbers = g }) m w).local n.0 (z.steps y p g m w can n.1 h)

    or_leave : StepsLeave (λ p m. (m ≡ goal → Done) × N p m) Or
    or_leave = record {
      linked = λ p links going some h. or_map p (record p { links = links; going = going }) (z.linked p links going) h;
      reasoned = λ o p h. or_map p (with_reason o p) (z.reasoned o p) h;
      ended = or_ended;
      freed = or_freed;
      steps = or_steps;
    }

    or_acts : ActsLeave Or
    or_acts = record {
      linked = λ p links h. or_map p (record p { links = links }) (z.acts.linked p links) h;
      unwanted = λ p h. or_map p (unwanted p) (z.acts.unwanted p) h;
      wanted = λ p h. or_map p (wanted_again p) (z.acts.wanted p) h;
    }

  -- a turn within a boot makes the step, or leaves the fact
  pub turn_awaits : (s : ScenarioPart) (q : ℕ) (st : State) (t : Turn) → (after_turn s st t).clock.boots ≡ st.clock.boots → May s st t → ((m : PeerRule) → rule_made s (middle s st t) t ≡ Some (ForPeer q m) → N (peer_of (middle s st t) q) m) → P (peer_of st q) → Steps (IsFor q goal) s st t ⊎ P (peer_of (after_turn s st t) q)
  turn_awaits s q st t same may n h =
      on_turn s st t same (λ (y : State). Or (Steps (IsFor q goal) s st t) (peer_of y q)) (λ y g. g)
      (acts_leave (Or (Steps (IsFor q goal) s st t)) s q (or_acts (Steps (IsFor q goal) s st t)) (after_step s (middle s st t) t.made) t.after
      (made_leaves (Or (Steps (IsFor q goal) s st t)) s q (λ p m. (m ≡ goal → Steps (IsFor q goal) s st t) × N p m) (or_leave (Steps (IsFor q goal) s st t)) (middle s st t) t.made may.made known (inr (acts_leave P s q z.acts st t.before h))))
    where
      known : (x : Marked) (r : Rule) → t.made ≡ Some x → rule_of s (middle s st t) x.step.op x.mark ≡ Some r → (m : PeerRule) → r ≡ ForPeer q m → (m ≡ goal → Steps (IsFor q goal) s st t) × N (peer_of (middle s st t) q) m
      known x r f g m e = (λ i. record { step = x; made = f; rule = r; decoded = g; is = e ∙ ap (λ (k : PeerRule). ForPeer q k) i }, n m (ap (λ (o : Option Marked). rule_by s (middle s st t) o) f ∙ g ∙ ap (λ (k : Rule). Some k) e))
