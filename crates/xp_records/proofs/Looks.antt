-- No version that a partition reads is refused: the second word of a look is the partner's version word,
-- which is one of those that are known. So no look shows another, and no reason to deactivate a partner
-- is one.
use Rattle.std.proofs.Common.{◌≡◌, ℕ, ◌<◌, ◌≤◌, suc, Bool, true, false, not, ◌&&◌, ◌||◌, cond, eqb, List, [], ◌∷◌, ◌++◌, length, refl, ap, sym, ◌∙◌, subst, arith, replicate, Option, Some, None, inl, inr, ◌⊎◌}
use Rattle.std.specs.Prelude.{is_some, slice_index, nat_lt}
use Rattle.std.proofs.lemmas.Bool.{cases_lt, eqb-true}
use Rattle.std.proofs.lemmas.Bool.Decides.{nat_tests}
use Rattle.std.proofs.lemmas.List.{get_or-replicate, get_or_past, length-replicate}
use Rattle.std.specs.List.{slice_get}
use Rattle.xp_base.specs.declared.reason.Reason.{Reason}
use Rattle.xp_base.specs.declared.reason.Reason.TheVariants.{BadFlags, OtherGoingDown, Unloading, NoHeartbeat, Reactivating, CopyError}
use Rattle.xp_base.specs.declared.step.Answer.{Answer}
use Rattle.xp_base.specs.declared.step.Answer.TheVariants.{Word, Failed}
use Rattle.xp_base.specs.declared.step.CopyKind.{CopyKind}
use Rattle.xp_base.specs.declared.step.CopyKind.TheVariants.{Page as PageCopy}
use Rattle.xp_base.specs.declared.step.CopyMark.{CopyMark}
use Rattle.xp_base.specs.History.{Act}
use Rattle.xp_base.specs.Kinds.{kinds_in}
use Rattle.xp_base.specs.Sessions.{session_of}
use Rattle.xp_script.specs.declared.part.Link.{Link as SetupLink}
use Rattle.xp_script.specs.declared.part.ScenarioPart.{ScenarioPart}
use Rattle.xp_protocol.specs.declared.contact.Look.{Look}
use Rattle.xp_protocol.specs.declared.contact.Look.TheVariants.{Unseen, Absent, BadVersion, Good}
use Rattle.xp_protocol.specs.declared.rule.AreaWord.{AreaWord}
use Rattle.xp_protocol.specs.declared.rule.AreaWord.TheVariants.{SessionWord, EchoWord, PlaceWord, ArgsWord, FlagWord, CounterWord}
use Rattle.xp_protocol.specs.declared.rule.PeerRule.{PeerRule}
use Rattle.xp_protocol.specs.declared.rule.PeerRule.TheVariants.{AskActivation, TakeFlags, CloseArea, ZeroMagic, ClearOldBit, Prepare, OpenArea, SetEngagementBit, ReadRecord, StoreEcho, StoreSecond, ClearEngagementBit, LookAtPage, CheckBeat, ClearDeactivationBit, TellPartner}
use Rattle.xp_protocol.specs.declared.rule.OwnRule.TheVariants.{ReadEngaged, TakeDeactivation, ReadStamp, ZeroMask, ZeroOffline, WriteStamp, StoreMask, TakeActivation, StoreBeat, StoreOffline}
use Rattle.xp_protocol.specs.declared.rule.Rule.{Rule}
use Rattle.xp_protocol.specs.declared.rule.Rule.TheVariants.{Link, Peer as ForPeer, Own}
use Rattle.xp_protocol.specs.Effects.{Effect, just, and_then, Note, first_reason}
use Rattle.xp_protocol.specs.State.{State, End, Peer, Reading, Watch, Old, cold_peer, warm_peer, base_peer, first_peers, opened_peers, opened_state, opened_new, is_begun, link_at, peer_at, peer_of, end_of, set_link}
use Rattle.xp_protocol.specs.Linking.{close_now, link_closed, parted, link_down, flags_got}
use Rattle.xp_protocol.specs.Peering.{Here, with_reason, is_ready, links_reason, end_reason, prepared, is_absent, both_new_by, judged, look_reason, page_read, CHECK_WORDS, beat_reason, is_still, or_zero, watch_reason, paging_failed, peer_failed, failed_reason, fails_for, peer_effect, peer_read, deactivation_heard, record_read, try_contact, contact_made, same_peer, is_magic, is_wrong, has_shown, is_bad_flags, is_flagged, flags_taken, with_flags, area_left_for, area_off, is_left, booted_peer}
use Rattle.xp_protocol.specs.Rules.{Can, here_of, mark_of, numbered, place_for, link_answered, peer_numbered, peer_answered, after_answer}
use Rattle.xp_protocol.specs.Acts.{after_act, aimed, Aim, with_aim, command_begun}
use Rattle.xp_protocol.specs.Runs.{turned, moment_by}
use Rattle.xp_protocol.proofs.Slots.{at_peer, at_each}
use Rattle.xp_protocol.proofs.Frames.{wanted_at}
use Rattle.xp_records.specs.Clean.{IsAccepted}
use Rattle.xp_records.proofs.Blames.{IsVersedIfAny, given_versed, first_versed, takes, linked}

-- of a partner whose version word is v
pub record Seen (v : ℕ) (paging : List ℕ) (look : Look) (reason : Option Reason) : Type 0 where
  pub paged : 1 < length paging → slice_index paging 1 ≡ v
  pub accepted : IsAccepted look
  pub versed : IsVersedIfAny reason

abbrev pub SeenOf : ℕ → Peer → Type 0
SeenOf v p = Seen v p.paging p.look p.engage.reason

-- a version that is known
pub record IsVersion (v : ℕ) : Type 0 where
  pub low : 48 ≤ v
  pub high : v ≤ 63

-- the second word of a look is the version word
paged_next : (ws : List ℕ) (w v : ℕ) → (1 < length ws → slice_index ws 1 ≡ v) → (length ws ≡ 1 → w ≡ v) → 1 < length (ws ++ w ∷ []) → slice_index (ws ++ w ∷ []) 1 ≡ v
paged_next [] w v old new l = absurd (omega (arith, l))
paged_next (a ∷ []) w v old new l = new refl
paged_next (a ∷ b ∷ more) w v old new l = old (omega arith)

right : (v : ℕ) → IsVersion v → (nat_lt v 48 || nat_lt 63 v) ≡ false
right v h = by (nat_lt v 48) (nat_lt 63 v) refl refl where
  by : (a b : Bool) → nat_lt v 48 ≡ a → nat_lt 63 v ≡ b → (a || b) ≡ false
  by true b e f = absurd (let l = h.low in let m : v < 48 = grind (arith, nat_tests) in omega (arith, l, m))
  by false true e f = absurd (let l = h.high in let m : 63 < v = grind (arith, nat_tests) in omega (arith, l, m))
  by false false e f = refl

abbrev judged_by : Bool → Bool → ℕ → Look
judged_by absent wrong x = cond absent Absent (cond wrong (BadVersion x) (Good x))

judged_accepted : (absent : Bool) (x : ℕ) → IsAccepted (judged_by absent false x)
judged_accepted true x = tt
judged_accepted false x = tt

booted_versed : (b : Bool) (old new : ℕ) → IsVersedIfAny (cond b None (Some (Reactivating old new)))
booted_versed true old new = tt
booted_versed false old new = tt

look_versed : (o : Option ℕ) (l : Look) (n : ℕ) → IsAccepted l → IsVersedIfAny (look_reason o l n)
look_versed None l n h = tt
look_versed (Some echo) Unseen n h = tt
look_versed (Some echo) Absent n h = tt
look_versed (Some echo) (BadVersion word) n h = absurd h
look_versed (Some echo) (Good version) n h = booted_versed (eqb (session_of echo).stamp n) (session_of echo).stamp n

failed_paging : (kind : CopyKind) (ws : List ℕ) (v : ℕ) → (1 < length ws → slice_index ws 1 ≡ v) → 1 < length (paging_failed kind ws) → slice_index (paging_failed kind ws) 1 ≡ v
failed_paging PageCopy ws v old l = absurd (omega (arith, l))
failed_paging kind ws v old l = old l

-- reasons of a partner
ready_versed : (b : Bool) (o : Option Reason) → IsVersedIfAny o → IsVersedIfAny (cond b o None)
ready_versed true o h = h
ready_versed false o h = tt

blamed : (v : ℕ) (o : Option Reason) (p : Peer) → SeenOf v p → IsVersedIfAny o → SeenOf v (with_reason o p)
blamed v o p h k = record { paged = h.paged; accepted = h.accepted; versed = first_versed p.engage.reason (cond (is_ready p.engage.area) o None) h.versed (ready_versed (is_ready p.engage.area) o k) }

end_versed : (seen : ℕ) (o : Option Reason) → IsVersedIfAny o → IsVersedIfAny (end_reason seen o)
end_versed seen None h = tt
end_versed seen (Some (BadFlags w)) h = tt
end_versed seen (Some r) h = h

links_versed : (f : ℕ → End → Effect End (List Note)) (p : Peer) → ((c : ℕ) → IsVersedIfAny (f c (link_at p.links c)).reason) → IsVersedIfAny (links_reason f p)
links_versed f p h =
    let a = first_reason (f 2 (link_at p.links 2)).reason (f 3 (link_at p.links 3)).reason in
    let b = first_reason (f 1 (link_at p.links 1)).reason a in
    first_versed (f 0 (link_at p.links 0)).reason b (h 0)
    (first_versed (f 1 (link_at p.links 1)).reason a (h 1) (first_versed (f 2 (link_at p.links 2)).reason (f 3 (link_at p.links 3)).reason (h 2) (h 3)))

closing : (o : Option Reason) (reason : Reason) (e : End) → (close_now o reason e).reason ≡ None
closing None reason e = refl
closing (Some r) reason e = refl

down_versed : (reason : Reason) (e : End) → IsVersedIfAny (link_down reason e).reason
down_versed reason e = first_versed (link_closed reason e).reason None (by (is_begun e)) tt where
  by : (b : Bool) → (let f : Effect End (List Note) = cond b (close_now e.shake.reason reason e) (just e) in IsVersedIfAny f.reason)
  by true = subst (λ (o : Option Reason). IsVersedIfAny o) (sym (closing e.shake.reason reason e)) tt
  by false = tt

module _ (v : ℕ) (known : IsVersion v) where
  abbrev SeenIn : Effect Peer (ℕ → List Note) → Type 0
  SeenIn f = SeenOf v f.local × IsVersedIfAny f.reason

  either : (b : Bool) (f g : Effect Peer (ℕ → List Note)) → SeenIn f → SeenIn g → SeenIn (cond b f g)
  either true f g h k = h
  either false f g h k = k

  same : (p : Peer) → SeenOf v p → SeenIn (same_peer p)
  same p h = (h, tt)

  meets : (turn stamp : ℕ) (p : Peer) → SeenOf v p → SeenIn (try_contact turn stamp p)
  meets turn stamp p h = either (p.engage.second && (p.engage.shown && not (is_some p.contact))) (contact_made turn stamp p) (same_peer p) (h, tt) (h, tt)

  going : (b : Bool) → IsVersedIfAny (cond b (Some (OtherGoingDown 0)) None)
  going true = tt
  going false = tt

  reads : (y : Here) (p : Peer) (o : Option Reading) (w : ℕ) → SeenOf v p → SeenIn (record_read y p o w)
  reads y p None w h = either (eqb w 0) _ _ (h, going (is_some p.engage.echo)) (either (is_magic w) _ _ (h, tt) (h, tt))
  reads y p (Some r) w h =
      either (eqb r.done 1) _ _ (h, tt) (either (eqb r.done 2) _ _ (h, tt) (either (eqb r.done 7) _ _
      (either (has_shown y.stamp p.engage r) _ _ (meets y.turn y.stamp (record p { engage = record p.engage { shown = true; reading = None } }) h) (h, tt))
      (either (is_wrong y.part r.done w) _ _ (h, tt) (h, tt))))

  leaves : (o : Option Reason) (p : Peer) → SeenOf v p → SeenIn (area_left_for o p)
  leaves None p h = (h, tt)
  leaves (Some r) p h = (record { paged = h.paged; accepted = h.accepted; versed = h.versed }, links_versed (λ c e. link_down r e) p (λ c. down_versed r (link_at p.links c)))

  looks : (own : ℕ) (ws : List ℕ) (w : ℕ) (p : Peer) → SeenOf v p → (1 < length ws → slice_index ws 1 ≡ v) → SeenIn (page_read own ws w p)
  looks own ws w p h there = by (eqb (length ws) 5) refl where
    accepted : 1 < length ws → IsAccepted (judged ws)
    accepted l =
        let e = there l in
        let f : (nat_lt (slice_index ws 1) 48 || nat_lt 63 (slice_index ws 1)) ≡ false = ap (λ (x : ℕ). nat_lt x 48 || nat_lt 63 x) e ∙ right v known in
        subst (λ (b : Bool). IsAccepted (judged_by (is_absent ws) b (slice_index ws 1))) (sym f) (judged_accepted (is_absent ws) (slice_index ws 1))

    by : (b : Bool) → eqb (length ws) 5 ≡ b → SeenIn (cond b (record { local = record p { look = judged ws; paging = []; both_new = both_new_by own (judged ws) p.both_new }; reason = look_reason p.engage.echo (judged ws) w; notes = λ c. [] }) (record { local = record p { paging = ws }; reason = None; notes = λ c. [] }))
    by true t = let k = accepted (omega (arith, eqb-true (length ws) 5 t)) in (record { paged = λ l. absurd (omega (arith, l)); accepted = k; versed = h.versed }, look_versed p.engage.echo (judged ws) w k)
    by false t = (record { paged = there; accepted = h.accepted; versed = h.versed }, tt)

  still : (b : Bool) (last now mask : ℕ) → IsVersedIfAny (cond b (Some (NoHeartbeat last now mask)) None)
  still true last now mask = tt
  still false last now mask = tt

  checks : (part : ℕ) (ws : List ℕ) (x : Watch) → IsVersedIfAny (watch_reason part ws x)
  checks part ws x = by (eqb (length ws) CHECK_WORDS) where
    by : (b : Bool) → IsVersedIfAny (cond b (beat_reason part x.last ws) None)
    by true = still (is_still part x.last ws) (or_zero x.last) (slice_index ws 0) (slice_index ws 1)
    by false = tt

  prepares : (x : AreaWord) (p : Peer) → SeenOf v p → SeenIn (same_peer (record p { engage = prepared x p.engage }))
  prepares SessionWord p h = (h, tt)
  prepares EchoWord p h = (h, tt)
  prepares FlagWord p h = (h, tt)
  prepares (PlaceWord y) p h = (h, tt)
  prepares (ArgsWord c f) p h = (h, tt)
  prepares (CounterWord c f) p h = (h, tt)

  flags : (w : ℕ) (p : Peer) → SeenOf v p → SeenIn (flags_taken w p)
  flags w p h = (h, end_versed (with_flags w p).flags_seen (links_reason (λ c e. flags_got (kinds_in w c) e) (with_flags w p)) (links_versed (λ c e. flags_got (kinds_in w c) e) (with_flags w p) (λ c. given_versed (flags_got (kinds_in w c) (link_at p.links c)).reason (takes (kinds_in w c) (link_at p.links c)).gives)))

  peered : (y : Here) (p : Peer) (m : PeerRule) (w : ℕ) → (m ≡ LookAtPage → length p.paging ≡ 1 → w ≡ v) → SeenOf v p → SeenIn (peer_effect y p m w)
  peered y p LookAtPage w look h = looks y.version (p.paging ++ w ∷ []) w p h (paged_next p.paging w v h.paged (look refl))
  peered y p TakeFlags w look h = either (is_bad_flags w) _ (flags_taken w p) (h, tt) (flags w p h)
  peered y p CloseArea w look h = leaves p.engage.reason p h
  peered y p ReadRecord w look h = reads y p p.engage.reading w h
  peered y p StoreSecond w look h = meets y.turn y.stamp (record p { engage = record p.engage { second = true } }) h
  peered y p AskActivation w look h = (h, tt)
  peered y p ZeroMagic w look h = (h, tt)
  peered y p ClearOldBit w look h = (h, tt)
  peered y p (Prepare x) w look h = prepares x p h
  peered y p OpenArea w look h = (h, tt)
  peered y p SetEngagementBit w look h = (h, tt)
  peered y p StoreEcho w look h = (h, tt)
  peered y p ClearEngagementBit w look h = (h, tt)
  peered y p CheckBeat w look h = (h, checks y.part (p.watch.words ++ w ∷ []) p.watch)
  peered y p ClearDeactivationBit w look h = (h, tt)
  peered y p TellPartner w look h = (h, tt)

  failing : (mark : Option CopyMark) (p : Peer) → IsVersedIfAny (failed_reason mark p)
  failing None p = tt
  failing (Some mark) p = by (fails_for mark.kind p.engage.echo) where
    by : (b : Bool) → IsVersedIfAny (cond b (Some (CopyError mark.kind mark.number)) None)
    by true = tt
    by false = tt

  answered : (y : Here) (mark : Option CopyMark) (p : Peer) (m : PeerRule) (a : Answer) → ((w : ℕ) → a ≡ Word w → m ≡ LookAtPage → length p.paging ≡ 1 → w ≡ v) → SeenOf v p → SeenIn (peer_answered y mark p m a)
  answered y None p m (Word w) look h = peered y p m w (look w refl) h
  answered y (Some mark) p m (Word w) look h = peered y (peer_numbered (Some mark) p) m w (look w refl) h
  answered y None p m Failed look h = (h, tt)
  answered y (Some mark) p m Failed look h = (record { paged = failed_paging mark.kind p.paging v h.paged; accepted = h.accepted; versed = h.versed }, failing (Some mark) p)

  freed : (w q : ℕ) (p : Peer) → SeenOf v p → SeenOf v (peer_read w q p).local
  freed w q p h = by (is_left p.engage && not (is_flagged w q)) where
    by : (b : Bool) → (let f : Effect Peer (ℕ → List Note) = cond b (area_off p) (same_peer p) in SeenOf v f.local)
    by true = record { paged = h.paged; accepted = h.accepted; versed = tt }
    by false = h

  told : (w q : ℕ) (p : Peer) → SeenOf v p → SeenOf v (deactivation_heard w q p).local
  told w q p h = by (is_some p.engage.echo && is_flagged w q) where
    by : (b : Bool) → SeenOf v (cond b (with_reason (Some (OtherGoingDown w)) p) p)
    by true = blamed v (Some (OtherGoingDown w)) p h tt
    by false = h

  booted : (p : Peer) → SeenOf v (booted_peer p)
  booted p = record { paged = λ l. absurd (omega (arith, l)); accepted = tt; versed = tt }

  cold : SeenOf v (cold_peer Old)
  cold = record { paged = λ l. absurd (omega (arith, l)); accepted = tt; versed = tt }

  base : (ls : List SetupLink) → SeenOf v (base_peer ls)
  base [] = record { paged = λ l. absurd (omega (arith, l)); accepted = tt; versed = tt }
  base (l ∷ ls) = record { paged = λ l. absurd (omega (arith, l)); accepted = tt; versed = tt }

  -- of a state
  module _ (q : ℕ) where
    abbrev pub At : State → Type 0
    At st = SeenOf v (peer_of st q)

    pub ruled : (su : ScenarioPart) (st : State) (r : Rule) (a : Answer) → Can su st r → ((w : ℕ) → a ≡ Word w → r ≡ ForPeer q LookAtPage → length (peer_of st q).paging ≡ 1 → w ≡ v) → At st → At (after_answer su st r a)
    ruled su st (Link k d m) a can look h =
        let f = link_answered (mark_of su st (Link k d m)) (place_for su d) (end_of st k d) m a in
        let p = set_link (numbered (mark_of su st (Link k d m)) d (peer_of st k)) d f.local in
        at_peer (λ (p : Peer). SeenOf v p) st.peers k (with_reason (end_reason (peer_of st k).flags_seen f.reason) p) q (λ e. blamed v (end_reason (peer_of st k).flags_seen f.reason) p (set_same d (numbered (mark_of su st (Link k d m)) d (peer_of st k)) f.local (same_numbered (mark_of su st (Link k d m)) d (peer_of st k) (subst (λ (j : ℕ). SeenOf v (peer_of st j)) e h))) (end_versed (peer_of st k).flags_seen f.reason (given_versed f.reason (linked (mark_of su st (Link k d m)) (place_for su d) (end_of st k d) m a can.1.1).gives))) h
      where
        same_numbered : (mark : Option CopyMark) (d : ℕ) (p : Peer) → SeenOf v p → SeenOf v (numbered mark d p)
        same_numbered None d p h = h
        same_numbered (Some mark) d p h = h

        set_same : (d : ℕ) (p : Peer) (e : End) → SeenOf v p → SeenOf v (set_link p d e)
        set_same d p e h = h
    ruled su st (ForPeer k m) a can look h =
        let f = peer_answered (here_of su st k) (mark_of su st (ForPeer k m)) (peer_of st k) m a in
        at_peer (λ (p : Peer). SeenOf v p) st.peers k (with_reason f.reason f.local) q
        (λ e. (
        let g = answered (here_of su st k) (mark_of su st (ForPeer k m)) (peer_of st k) m a (λ w i j l. look w i (ap (λ (n : ℕ). ForPeer n m) (sym e) ∙ ap (λ (n : PeerRule). ForPeer q n) j) (ap (λ (n : ℕ). length (peer_of st n).paging) e ∙ l)) (subst (λ (j : ℕ). SeenOf v (peer_of st j)) e h) in
        blamed v f.reason f.local g.0 g.1)) h
    ruled su st (Own ReadEngaged) (Word w) can look h = at_each (λ (p : Peer). SeenOf v p) (λ j p. (peer_read w j p).local) st.peers q (cold_peer Old) (freed w q (peer_of st q) h) (λ l. cold)
    ruled su st (Own TakeDeactivation) (Word w) can look h = at_each (λ (p : Peer). SeenOf v p) (λ j p. (deactivation_heard w j p).local) st.peers q (cold_peer Old) (told w q (peer_of st q) h) (λ l. cold)
    ruled su st (Own ReadStamp) (Word w) can look h = h
    ruled su st (Own ZeroMask) (Word w) can look h = h
    ruled su st (Own ZeroOffline) (Word w) can look h = h
    ruled su st (Own WriteStamp) (Word w) can look h = h
    ruled su st (Own StoreMask) (Word w) can look h = h
    ruled su st (Own TakeActivation) (Word w) can look h = h
    ruled su st (Own StoreBeat) (Word w) can look h = h
    ruled su st (Own StoreOffline) (Word w) can look h = h
    ruled su st (Own m) Failed can look h = h

    aimed_at : (x : Option Aim) (st : State) → At st → At (with_aim x st)
    aimed_at None st h = h
    aimed_at (Some y) st h = at_peer (λ (p : Peer). SeenOf v p) st.peers y.partner _ q (λ e. subst (λ (j : ℕ). SeenOf v (peer_of st j)) e h) h

    pub acted : (su : ScenarioPart) (st : State) (x : Act) → At st → At (after_act su st x)
    acted su st x h = wanted_at (λ (p : Peer). SeenOf v p) (command_begun su st x) (with_aim (aimed su st x) st).peers q (λ p k. blamed v (Some Unloading) (record p { wanted = false }) k tt) (λ p k. k) (aimed_at (aimed su st x) st h)

    pub moment : (su : ScenarioPart) (st : State) (turns : ℕ) (b stops : Bool) → At st → At (moment_by su b stops (turned turns st))
    moment su st turns true stops h = at_each (λ (p : Peer). SeenOf v p) (λ j p. booted_peer p) st.peers q (cold_peer Old) (booted (peer_of st q)) (λ l. cold)
    moment su st turns false true h = h
    moment su st turns false false h = h

    opened_links : (new : ℕ → Bool) (ls : List SetupLink) (peers : List Peer) → SeenOf v (peer_at peers q) → SeenOf v (peer_at (opened_peers new ls peers) q)
    opened_links new [] peers h = h
    opened_links new (l ∷ ls) peers h =
        opened_links new ls _
        (at_peer (λ (p : Peer). SeenOf v p) peers l.partner (warm_peer (new l.partner) l (peer_at peers l.partner)) q (λ e. (let old : SeenOf v (peer_at peers l.partner) = subst (λ (j : ℕ). SeenOf v (peer_at peers j)) e h in record { paged = old.paged; accepted = old.accepted; versed = tt })) h)

    pub opened : (su : ScenarioPart) → At (opened_state su)
    unfolding first_peers
    opened su = opened_links (opened_new su) su.links (first_peers su.count su.links) (by (cases_lt q su.count)) where
      by : (q < su.count) ⊎ (su.count ≤ q) → SeenOf v (peer_at (replicate su.count (base_peer su.links)) q)
      by (inl l) = subst (λ (p : Peer). SeenOf v p) (sym (get_or-replicate su.count q (base_peer su.links) (cold_peer Old) l)) (base su.links)
      by (inr l) = subst (λ (p : Peer). SeenOf v p) (sym (get_or_past (replicate su.count (base_peer su.links)) q (cold_peer Old) (omega (arith, length-replicate {A = Peer} su.count (base_peer su.links), l)))) cold
