-- What a partition knows of a partner's version. The words of a look are those of the partner's page, and the version word stands: so from a good look on, and so as
-- long as the own bit stands there, it knows whether both versions have entries of several lines.
use Rattle.std.proofs.Common.{◌≡◌, ℕ, suc, ◌<◌, ◌≤◌, Bool, true, false, not, ◌&&◌, ◌||◌, cond, eqb, List, [], ◌∷◌, ◌++◌, length, refl, ap, sym, ◌∙◌, subst, arith, replicate, Option, Some, None, inl, inr, ◌⊎◌}
use Rattle.std.specs.Prelude.{is_some, slice_index, nat_lt}
use Rattle.std.proofs.lemmas.Bool.{cases_lt, eq-eqb, eqb-true, or_right}
use Rattle.std.proofs.lemmas.List.{get_or-replicate, get_or_past, length-replicate}
use Rattle.xp_base.specs.declared.layout.TheConstants.{VERSION_AT, LINES_VERSION}
use Rattle.xp_base.specs.declared.reason.Reason.{Reason}
use Rattle.xp_base.specs.declared.reason.Reason.TheVariants.{OtherGoingDown}
use Rattle.xp_base.specs.declared.step.CopyKind.{CopyKind}
use Rattle.xp_base.specs.declared.step.CopyKind.TheVariants.{Page as PageCopy}
use Rattle.xp_base.specs.declared.step.CopyMark.{CopyMark}
use Rattle.xp_base.specs.declared.step.Answer.TheVariants.{Word, Failed}
use Rattle.xp_base.specs.Memory.{Memory}
use Rattle.xp_base.specs.History.{Act, Event, turns_of}
use Rattle.xp_base.specs.Places.{Open}
use Rattle.xp_script.specs.declared.part.Link.{Link as SetupLink}
use Rattle.xp_script.specs.declared.part.ScenarioPart.{ScenarioPart}
use Rattle.xp_script.specs.declared.scenario.Scenario.{Scenario}
use Rattle.xp_script.specs.Lawful.{IsLawful}
use Rattle.xp_script.specs.Opening.{version_word}
use Rattle.std.specs.List.{slice_get, filter, list_any}
use Rattle.xp_script.specs.declared.setting.Minor.{Minor}
use Rattle.xp_script.specs.Parts.{part_of, links_of, is_link_to, is_minor_for}
use Rattle.xp_script.specs.Settings.{minor_of}
use Rattle.xp_protocol.specs.declared.contact.Look.{Look}
use Rattle.xp_protocol.specs.declared.contact.Look.TheVariants.{Absent, BadVersion, Good}
use Rattle.xp_protocol.specs.declared.rule.AreaWord.{AreaWord}
use Rattle.xp_protocol.specs.declared.rule.AreaWord.TheVariants.{SessionWord, EchoWord, PlaceWord, ArgsWord, FlagWord, CounterWord}
use Rattle.xp_protocol.specs.declared.rule.PeerRule.{PeerRule}
use Rattle.xp_protocol.specs.declared.rule.PeerRule.TheVariants.{AskActivation, TakeFlags, CloseArea, ZeroMagic, ClearOldBit, Prepare, OpenArea, SetEngagementBit, ReadRecord, StoreEcho, StoreSecond, ClearEngagementBit, LookAtPage, CheckBeat, ClearDeactivationBit, TellPartner}
use Rattle.xp_protocol.specs.declared.rule.OwnRule.TheVariants.{ReadEngaged, TakeDeactivation, ReadStamp, ZeroMask, ZeroOffline, WriteStamp, StoreMask, TakeActivation, StoreBeat, StoreOffline}
use Rattle.xp_protocol.specs.declared.rule.Rule.{Rule}
use Rattle.xp_protocol.specs.declared.rule.Rule.TheVariants.{Link, Peer as ForPeer, Own}
use Rattle.xp_protocol.specs.Effects.{Effect, Note}
use Rattle.xp_protocol.specs.State.{State, Contact, Peer, Reading, Old, cold_peer, warm_peer, base_peer, first_peers, opened_peers, version_of, opened_new, peer_at, peer_of, are_new}
use Rattle.xp_protocol.specs.Peering.{Here, is_good, prepared, is_absent, both_new_by, page_read, page_word, paging_failed, peer_failed, peer_can, peer_effect, peer_read, deactivation_heard, record_read, try_contact, contact_made, same_peer, is_magic, is_wrong, has_shown, is_left, is_flagged, is_bad_flags, flags_taken, area_left_for, area_off, with_reason, booted_peer}
use Rattle.xp_protocol.specs.Rules.{Can, mark_of, here_of, peer_numbered, after_answer}
use Rattle.xp_protocol.specs.Acts.{after_act, aimed, Aim, with_aim, command_begun}
use Rattle.xp_protocol.specs.Runs.{turned, restart_comes, stop_comes, moment_by, is_over}
use Rattle.xp_protocol.specs.Reached.{ReachedWords}
use Rattle.xp_protocol.proofs.Slots.{at_peer, at_each}
use Rattle.xp_protocol.proofs.Frames.{wanted_at}
use Rattle.xp_meetings.proofs.Always.{at_one, answer_word}
use Rattle.xp_meetings.proofs.Firsts.{met}
use Rattle.xp_meetings.proofs.Opening.{opening_words, opening_version, is_linked, linked_by}
use Rattle.xp_meetings.proofs.Parts.{Part, part_opened, part_start, part_moment, from_state}
use Rattle.xp_meetings.proofs.Starts.{starts}
use Rattle.xp_meetings.proofs.Words.{Words}
use Rattle.xp_promises.specs.Known.{VersionsKnown, VersionsAgree}
use Rattle.xp_promises.proofs.Before.{part_at, whole}
use Rattle.xp_promises.proofs.Versions.{version_kept}

-- of a partner whose version word is v, where the own one is `own`
record Knows (own v : ℕ) (paging : List ℕ) (look : Look) (new bit : Bool) : Type 0 where
  paged : 1 < length paging → slice_index paging 1 ≡ v
  good : is_good look ≡ true → new ≡ are_new own v
  inside : bit ≡ true → new ≡ are_new own v

abbrev KnowsOf : ℕ → ℕ → Peer → Type 0
KnowsOf own v p = Knows own v p.paging p.look p.both_new p.engage.bit

-- the second word of a look is the version word
paged_next : (ws : List ℕ) (w v : ℕ) → (1 < length ws → slice_index ws 1 ≡ v) → (length ws ≡ 1 → w ≡ v) → 1 < length (ws ++ w ∷ []) → slice_index (ws ++ w ∷ []) 1 ≡ v
paged_next [] w v old new l = absurd (omega (arith, l))
paged_next (a ∷ []) w v old new l = new refl
paged_next (a ∷ b ∷ more) w v old new l = old (omega arith)

abbrev judged_by : Bool → Bool → ℕ → Look
judged_by absent wrong x = cond absent Absent (cond wrong (BadVersion x) (Good x))

judged_good : (absent wrong : Bool) (own x : ℕ) (before : Bool) → is_good (judged_by absent wrong x) ≡ true → both_new_by own (judged_by absent wrong x) before ≡ are_new own x
judged_good true wrong own x before g = absurd (cc)
judged_good false true own x before g = absurd (cc)
judged_good false false own x before g = refl

judged_before : (absent wrong : Bool) (own x : ℕ) (before : Bool) → before ≡ are_new own x → both_new_by own (judged_by absent wrong x) before ≡ are_new own x
judged_before true wrong own x before e = e
judged_before false true own x before e = e
judged_before false false own x before e = refl

failed_paging : (kind : CopyKind) (ws : List ℕ) (v : ℕ) → (1 < length ws → slice_index ws 1 ≡ v) → 1 < length (paging_failed kind ws) → slice_index (paging_failed kind ws) 1 ≡ v
failed_paging PageCopy ws v old l = absurd (omega (arith, l))
failed_paging kind ws v old l = old l

module _ (v : ℕ) where
  either : (own : ℕ) (b : Bool) (f g : Effect Peer (ℕ → List Note)) → (b ≡ true → KnowsOf own v f.local) → KnowsOf own v g.local → KnowsOf own v (cond b f g).local
  either own true f g h k = h refl
  either own false f g h k = k

  meets : (own turn stamp : ℕ) (p : Peer) → KnowsOf own v p → KnowsOf own v (try_contact turn stamp p).local
  meets own turn stamp p h = either own (p.engage.second && (p.engage.shown && not (is_some p.contact))) (contact_made turn stamp p) (same_peer p) (λ t. h) h

  reads : (own : ℕ) (y : Here) (p : Peer) (o : Option Reading) (w : ℕ) → KnowsOf own v p → KnowsOf own v (record_read y p o w).local
  reads own y p None w h = either own (eqb w 0) _ _ (λ t. h) (either own (is_magic w) _ _ (λ t. h) h)
  reads own y p (Some r) w h =
      either own (eqb r.done 1) _ _ (λ t. h) (either own (eqb r.done 2) _ _ (λ t. h) (either own (eqb r.done 7) _ _
      (λ t. either own (has_shown y.stamp p.engage r) _ _ (λ t. meets own y.turn y.stamp (record p { engage = record p.engage { shown = true; reading = None } }) h) h)
      (either own (is_wrong y.part r.done w) _ _ (λ t. h) h)))

  leaves : (own : ℕ) (o : Option Reason) (p : Peer) → KnowsOf own v p → KnowsOf own v (area_left_for o p).local
  leaves own None p h = h
  leaves own (Some r) p h = h

  looks : (own : ℕ) (ws : List ℕ) (w : ℕ) (p : Peer) → KnowsOf own v p → (1 < length ws → slice_index ws 1 ≡ v) → KnowsOf own v (page_read own ws w p).local
  looks own ws w p h there =
      either own (eqb (length ws) 5) _ _
      (λ t. (
      let wrong = nat_lt (slice_index ws 1) 48 || nat_lt 63 (slice_index ws 1) in
      let e : slice_index ws 1 ≡ v = there (omega (arith, eqb-true (length ws) 5 t)) in
      record {
        paged = λ l. absurd (omega (arith, l));
        good = λ g. judged_good (is_absent ws) wrong own (slice_index ws 1) p.both_new g ∙ ap (λ (x : ℕ). are_new own x) e;
        inside = λ b. judged_before (is_absent ws) wrong own (slice_index ws 1) p.both_new (h.inside b ∙ ap (λ (x : ℕ). are_new own x) (sym e)) ∙ ap (λ (x : ℕ). are_new own x) e;
      }))
      (record { paged = there; good = h.good; inside = h.inside })

  prepares : (own : ℕ) (x : AreaWord) (p : Peer) → KnowsOf own v p → KnowsOf own v (record p { engage = prepared x p.engage })
  prepares own SessionWord p h = h
  prepares own EchoWord p h = h
  prepares own FlagWord p h = h
  prepares own (PlaceWord y) p h = h
  prepares own (ArgsWord c f) p h = h
  prepares own (CounterWord c f) p h = h

  -- each rule for the partner
  peered : (y : Here) (p : Peer) (m : PeerRule) (w : ℕ) → (m ≡ SetEngagementBit → is_good p.look ≡ true) → (m ≡ LookAtPage → length p.paging ≡ 1 → w ≡ v) → KnowsOf y.version v p → KnowsOf y.version v (peer_effect y p m w).local
  peered y p SetEngagementBit w good look h = record { paged = h.paged; good = h.good; inside = λ b. h.good (good refl) }
  peered y p ClearEngagementBit w good look h = record { paged = h.paged; good = h.good; inside = λ b. absurd (cc) }
  peered y p LookAtPage w good look h = looks y.version (p.paging ++ w ∷ []) w p h (paged_next p.paging w v h.paged (look refl))
  peered y p CheckBeat w good look h = h
  peered y p TakeFlags w good look h = either y.version (is_bad_flags w) _ (flags_taken w p) (λ t. h) h
  peered y p CloseArea w good look h = leaves y.version p.engage.reason p h
  peered y p ReadRecord w good look h = reads y.version y p p.engage.reading w h
  peered y p StoreSecond w good look h = meets y.version y.turn y.stamp (record p { engage = record p.engage { second = true } }) h
  peered y p AskActivation w good look h = h
  peered y p ZeroMagic w good look h = h
  peered y p ClearOldBit w good look h = h
  peered y p (Prepare x) w good look h = prepares y.version x p h
  peered y p OpenArea w good look h = h
  peered y p StoreEcho w good look h = h
  peered y p ClearDeactivationBit w good look h = h
  peered y p TellPartner w good look h = h

  numbered : (y : Here) (mark : Option CopyMark) (p : Peer) (m : PeerRule) (w : ℕ) → (m ≡ SetEngagementBit → is_good p.look ≡ true) → (m ≡ LookAtPage → length p.paging ≡ 1 → w ≡ v) → KnowsOf y.version v p → KnowsOf y.version v (peer_effect y (peer_numbered mark p) m w).local
  numbered y None p m w good look h = peered y p m w good look h
  numbered y (Some mark) p m w good look h = peered y (peer_numbered (Some mark) p) m w good look h

  failed : (own turn : ℕ) (mark : Option CopyMark) (p : Peer) → KnowsOf own v p → KnowsOf own v (peer_failed turn mark p)
  failed own turn None p h = h
  failed own turn (Some mark) p h = record { paged = failed_paging mark.kind p.paging v h.paged; good = h.good; inside = h.inside }

  told : (own : ℕ) (w q : ℕ) (p : Peer) → KnowsOf own v p → KnowsOf own v (deactivation_heard w q p).local
  told own w q p h = by (is_some p.engage.echo && is_flagged w q) where
    by : (b : Bool) → KnowsOf own v (cond b (with_reason (Some (OtherGoingDown w)) p) p)
    by true = h
    by false = h

  cold : (own : ℕ) (p : Peer) → KnowsOf own v (booted_peer p)
  cold own p = record { paged = λ l. absurd (omega (arith, l)); good = λ g. absurd (cc); inside = λ b. absurd (cc) }

  none : (own : ℕ) → KnowsOf own v (cold_peer Old)
  none own = record { paged = λ l. absurd (omega (arith, l)); good = λ g. absurd (cc); inside = λ b. absurd (cc) }

  base : (own : ℕ) (ls : List SetupLink) → KnowsOf own v (base_peer ls)
  base own [] = record { paged = λ l. absurd (omega (arith, l)); good = λ g. absurd (cc); inside = λ b. absurd (cc) }
  base own (l ∷ ls) = record { paged = λ l. absurd (omega (arith, l)); good = λ g. absurd (cc); inside = λ b. absurd (cc) }

-- the opening: a warm partner's version is known
opened_known : (new : ℕ → Bool) (own v q : ℕ) (ls : List SetupLink) → ((i : ℕ) (l : SetupLink) → slice_get ls i ≡ Some l → l.partner ≡ q → new q ≡ are_new own v) → (peers : List Peer) → KnowsOf own v (peer_at peers q) → KnowsOf own v (peer_at (opened_peers new ls peers) q)
opened_known new own v q [] e peers h = h
opened_known new own v q (l ∷ ls) e peers h =
    opened_known new own v q ls (λ i k f. e (suc i) k f) _
    (at_peer (λ (p : Peer). KnowsOf own v p) peers l.partner (warm_peer (new l.partner) l (peer_at peers l.partner)) q
    (λ d. (
    let n : new l.partner ≡ are_new own v = ap new (sym d) ∙ e 0 l refl (sym d) in
    let old : KnowsOf own v (peer_at peers l.partner) = subst (λ (j : ℕ). KnowsOf own v (peer_at peers j)) d h in
    record { paged = old.paged; good = λ g. n; inside = λ b. n })) h)

first_known : (own v n q : ℕ) (ls : List SetupLink) → KnowsOf own v (peer_at (first_peers n ls) q)
unfolding first_peers
first_known own v n q ls = by (cases_lt q n) where
  by : (q < n) ⊎ (n ≤ q) → KnowsOf own v (peer_at (replicate n (base_peer ls)) q)
  by (inl l) = subst (λ (p : Peer). KnowsOf own v p) (sym (get_or-replicate n q (base_peer ls) (cold_peer Old) l)) (base v own ls)
  by (inr l) = subst (λ (p : Peer). KnowsOf own v p) (sym (get_or_past (replicate n (base_peer ls)) q (cold_peer Old) (omega (arith, length-replicate {A = Peer} n (base_peer ls), l)))) (none v own)

-- a partition's part of the scenario has the minor versions of itself and of the partners of its links
minor_kept : (keeps : Minor → Bool) (q : ℕ) → ((m : Minor) → m.part ≡ q → keeps m ≡ true) → (ms : List Minor) → minor_of q (filter keeps ms) ≡ minor_of q ms
minor_kept keeps q all [] = refl
minor_kept keeps q all (m ∷ ms) = by (minor_kept keeps q all ms) (keeps m) refl (eqb m.part q) refl where
  by : minor_of q (filter keeps ms) ≡ minor_of q ms → (b : Bool) → keeps m ≡ b → (e : Bool) → eqb m.part q ≡ e → minor_of q (cond b (m ∷ filter keeps ms) (filter keeps ms)) ≡ cond e m.version (minor_of q ms)
  by more true t e i = ap (λ (n : ℕ). cond (eqb m.part q) m.version n) more ∙ ap (λ (b : Bool). cond b m.version (minor_of q ms)) i
  by more false t true i = let k = all m (eqb-true m.part q i) in absurd (cc)
  by more false t false i = more

any_linked : (ls : List SetupLink) (q : ℕ) → list_any (is_link_to q) ls ≡ is_linked ls q
any_linked [] q = refl
any_linked (l ∷ ls) q = ap (λ (b : Bool). eqb l.partner q || b) (any_linked ls q)

module _ (s : Scenario) (law : IsLawful s) where
  abbrev version : ℕ → ℕ
  version p = version_word (minor_of p s.minors)

  -- the own version, as a partition's part of the scenario has it
  abbrev own : ℕ → ℕ
  own p = version_of (part_of s p) p

  pub own_version : (p : ℕ) → own p ≡ version p
  own_version p = ap version_word (minor_kept (is_minor_for p (links_of s p)) p (λ m e. ap (λ (b : Bool). b || list_any (is_link_to m.part) (links_of s p)) (eq-eqb m.part p e)) s.minors)

  pub linked_version : (p q : ℕ) → is_linked (links_of s p) q ≡ true → version_of (part_of s p) q ≡ version q
  linked_version p q t =
      ap version_word (minor_kept (is_minor_for p (links_of s p)) q (λ m e. or_right (eqb m.part p) (list_any (is_link_to m.part) (links_of s p)) (subst (λ (k : ℕ). list_any (is_link_to k) (links_of s p) ≡ true) (sym e) (any_linked (links_of s p) q ∙ t))) s.minors)

  -- each partition knows it of each partner
  KnowsAll : ℕ → State → Type 0
  KnowsAll p st = (q : ℕ) → q < s.count → KnowsOf (own p) (version q) (peer_of st q)

  record Sound (w : Words) (σ : ℕ → Part) : Type 0 where
    stand : (p : ℕ) → p < s.count → w p (Open VERSION_AT) ≡ version p
    known : (p : ℕ) → p < s.count → KnowsAll p (σ p).state

  module _ (a : ℕ) (st : State) (old : (q : ℕ) → q < s.count → KnowsOf (own a) (version q) (peer_of st q)) where
    abbrev su : ScenarioPart
    su = part_of s a

    ruled : (w : Words) → ((q : ℕ) → q < s.count → w q (Open VERSION_AT) ≡ version q) → (r : Rule) → Can su st r → (q : ℕ) → q < s.count → KnowsOf (own a) (version q) (peer_of (after_answer su st r (Word (answer_word su st r w))) q)
    ruled w stand (Link k d m) can q l = at_peer (λ (p : Peer). KnowsOf (own a) (version q) p) st.peers k _ q (λ e. subst (λ (j : ℕ). KnowsOf (own a) (version q) (peer_of st j)) e (old q l)) (old q l)
    ruled w stand (ForPeer k m) can q l =
        let v = answer_word su st (ForPeer k m) w in
        at_peer (λ (p : Peer). KnowsOf (own a) (version q) p) st.peers k _ q
        (λ e. numbered (version q) (here_of su st k) (mark_of su st (ForPeer k m)) (peer_of st k) m v
        (λ i. (let c = subst (λ (x : PeerRule). peer_can (here_of su st k) (peer_of st k) x) i can.1.1 in c.3))
        (λ i t. subst (λ (x : PeerRule). answer_word su st (ForPeer k x) w ≡ version q) (sym i) (ap (λ (n : ℕ). w k (Open (page_word n))) t ∙ ap (λ (j : ℕ). w j (Open VERSION_AT)) (sym e) ∙ stand q l))
        (subst (λ (j : ℕ). KnowsOf (own a) (version q) (peer_of st j)) e (old q l))) (old q l)
    ruled w stand (Own ReadEngaged) can q l =
        let v = answer_word su st (Own ReadEngaged) w in
        at_each (λ (p : Peer). KnowsOf (own a) (version q) p) (λ j p. (peer_read v j p).local) st.peers q (cold_peer Old)
        (either (version q) (own a) (is_left (peer_of st q).engage && not (is_flagged v q)) (area_off (peer_of st q)) (same_peer (peer_of st q)) (λ t. old q l) (old q l)) (λ f. none (version q) (own a))
    ruled w stand (Own TakeDeactivation) can q l =
        let v = answer_word su st (Own TakeDeactivation) w in
        at_each (λ (p : Peer). KnowsOf (own a) (version q) p) (λ j p. (deactivation_heard v j p).local) st.peers q (cold_peer Old) (told (version q) (own a) v q (peer_of st q) (old q l)) (λ f. none (version q) (own a))
    ruled w stand (Own ReadStamp) can q l = old q l
    ruled w stand (Own ZeroMask) can q l = old q l
    ruled w stand (Own ZeroOffline) can q l = old q l
    ruled w stand (Own WriteStamp) can q l = old q l
    ruled w stand (Own StoreMask) can q l = old q l
    ruled w stand (Own TakeActivation) can q l = old q l
    ruled w stand (Own StoreBeat) can q l = old q l
    ruled w stand (Own StoreOffline) can q l = old q l

    failed_ruled : (r : Rule) (q : ℕ) → q < s.count → KnowsOf (own a) (version q) (peer_of (after_answer su st r Failed) q)
    failed_ruled (Link k d m) q l = at_peer (λ (p : Peer). KnowsOf (own a) (version q) p) st.peers k _ q (λ e. subst (λ (j : ℕ). KnowsOf (own a) (version q) (peer_of st j)) e (old q l)) (old q l)
    failed_ruled (ForPeer k m) q l = at_peer (λ (p : Peer). KnowsOf (own a) (version q) p) st.peers k _ q (λ e. failed (version q) (own a) (here_of su st k).turn (mark_of su st (ForPeer k m)) (peer_of st k) (subst (λ (j : ℕ). KnowsOf (own a) (version q) (peer_of st j)) e (old q l))) (old q l)
    failed_ruled (Own m) q l = old q l

    aimed_at : (x : Option Aim) (q : ℕ) → q < s.count → KnowsOf (own a) (version q) (peer_of (with_aim x st) q)
    aimed_at None q l = old q l
    aimed_at (Some y) q l = at_peer (λ (p : Peer). KnowsOf (own a) (version q) p) st.peers y.partner _ q (λ e. subst (λ (j : ℕ). KnowsOf (own a) (version q) (peer_of st j)) e (old q l)) (old q l)

    acted : (x : Act) (q : ℕ) → q < s.count → KnowsOf (own a) (version q) (peer_of (after_act su st x) q)
    acted x q l = wanted_at (λ (p : Peer). KnowsOf (own a) (version q) p) (command_begun su st x) (with_aim (aimed su st x) st).peers q (λ p h. h) (λ p h. h) (aimed_at (aimed su st x) q l)

    moment : (turns : ℕ) (b stops : Bool) (q : ℕ) → q < s.count → KnowsOf (own a) (version q) (peer_of (moment_by su b stops (turned turns st)) q)
    moment turns true stops q l = at_each (λ (p : Peer). KnowsOf (own a) (version q) p) (λ j p. booted_peer p) st.peers q (cold_peer Old) (cold (version q) (own a) (peer_of st q)) (λ f. none (version q) (own a))
    moment turns false true q l = old q l
    moment turns false false q l = old q l

  -- one partition moves
  moved : (σ : ℕ → Part) (a : ℕ) (k : Part) → ((p : ℕ) → p < s.count → KnowsAll p (σ p).state) → (a < s.count → KnowsAll a k.state) → (p : ℕ) → p < s.count → KnowsAll p (at_one σ a k p).state
  moved σ a k old new p l = by (eqb a p) refl where
    by : (b : Bool) → eqb a p ≡ b → KnowsAll p (cond b k (σ p)).state
    by true t = let e = eqb-true a p t in subst (λ (j : ℕ). KnowsAll j k.state) e (new (subst (λ (j : ℕ). j < s.count) (sym e) l))
    by false t = old p l

  sound_moment : (w : Words) (σ : ℕ → Part) (a earlier turns : ℕ) → a < s.count → Sound w σ → Sound w (at_one σ a (part_moment (part_of s a) earlier turns (σ a)))
  unfolding KnowsAll
  sound_moment w σ a earlier turns la i =
      let su = part_of s a in
      let st = (σ a).state in
      let now = turned turns st in
      record { stand = i.stand; known = moved σ a _ i.known (λ l q lq. moment a st (i.known a la) turns (restart_comes su earlier now && not (is_over now)) (stop_comes su earlier now && not (is_over now)) q lq) }

  sound_first : Sound (opening_words s) (λ p. part_opened (part_of s p))
  unfolding KnowsAll
  sound_first = record { stand = λ p l. opening_version s p l; known = λ p l q lq. opened_known (opened_new (part_of s p)) (own p) (version q) q (links_of s p) (λ i l e d. ap (λ (x : ℕ). are_new (own p) x) (linked_version p q (linked_by (links_of s p) q i l e d))) (first_peers s.count (links_of s p)) (first_known (own p) (version q) s.count q (links_of s p)) }

  sound : (h : List Event) (m : Memory) → ReachedWords s h m → (p : ℕ) → p < s.count → KnowsAll p (part_at s h p).state
  unfolding KnowsAll
  sound h m r =
      (whole s law Sound
      (λ w σ a x la i may. record { stand = i.stand; known = moved σ a _ i.known (λ l q lq. acted a (σ a).state (i.known a la) x q lq) })
      (λ w σ a x la i can. record { stand = λ p l. version_kept (part_of s a) (σ a).state x w p ∙ i.stand p l; known = moved σ a _ i.known (λ l q lq. ruled a (σ a).state (i.known a la) w i.stand x can q lq) })
      (λ w σ a x la i can. record { stand = i.stand; known = moved σ a _ i.known (λ l q lq. failed_ruled a (σ a).state (i.known a la) x q lq) })
      (λ w σ a earlier turns la i. sound_moment w σ a earlier turns la i)
      (starts s law Sound (λ w σ a earlier turns la i. sound_moment w σ a earlier turns la i) (opening_words s) sound_first) h m r).2.known

pub versions_known : (s : Scenario) → IsLawful s → (h : List Event) (m : Memory) → ReachedWords s h m → VersionsKnown s h
unfolding KnowsAll
versions_known s law h m r p q lp lq n k e =
    let state = from_state (part_of s p) (part_start (part_of s p)) (turns_of p h) in
    let both = (met s law h m r).2.both p q lp lq n in
    let there = ap (λ (o : Option Contact). is_some o) (ap (λ (st : State). (peer_of st q).contact) state ∙ e) in
    sym (ap (λ (st : State). (peer_of st q).both_new) state) ∙ (sound s law h m r p lp q lq).inside (both.own.fit.active there).1 ∙ ap (λ (x : ℕ). are_new x (version_word (minor_of q s.minors))) (own_version s law p)

-- it makes no difference whose version is asked first
new_turned : (own theirs : ℕ) → are_new own theirs ≡ are_new theirs own
new_turned own theirs = by (not (nat_lt own LINES_VERSION)) (not (nat_lt theirs LINES_VERSION)) where
  by : (a b : Bool) → (a && b) ≡ (b && a)
  by true true = refl
  by true false = refl
  by false true = refl
  by false false = refl

pub versions_agree : (s : Scenario) → IsLawful s → (h : List Event) (m : Memory) → ReachedWords s h m → VersionsAgree s h
versions_agree s law h m r p q lp lq n a b ea eb =
    let v : ℕ → ℕ = λ k. version_word (minor_of k s.minors) in
    versions_known s law h m r p q lp lq n a ea ∙ new_turned (v p) (v q) ∙ sym (versions_known s law h m r q p lq lp (λ d. n (sym d)) b eb)
