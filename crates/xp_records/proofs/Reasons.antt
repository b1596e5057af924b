-- The reasons of all ends of a partition, after each rule, each act and each moment: where they were
-- clean, an end that isn't in contact keeps only clean ones, and one in contact no other but that for
-- which it closes.
use Rattle.std.proofs.Common.{◌≡◌, ℕ, ◌-◌, ◌<◌, Bool, true, false, ◌&&◌, not, cond, eqb, List, [], ◌∷◌, ◌++◌, length, refl, ap, sym, ◌∙◌, subst, arith, Option, Some, None, inl, inr, ◌⊎◌}
use Rattle.std.specs.Prelude.{slice_get, is_some}
use Rattle.xp_base.specs.declared.reason.Reason.{Reason}
use Rattle.xp_base.specs.declared.reason.Reason.TheVariants.{OtherGoingDown}
use Rattle.xp_base.specs.declared.step.Answer.{Answer}
use Rattle.xp_base.specs.declared.step.Answer.TheVariants.{Word, Failed}
use Rattle.xp_base.specs.declared.step.CopyMark.{CopyMark}
use Rattle.xp_base.specs.Kinds.{Kinds, kinds_in}
use Rattle.xp_base.specs.History.{Act, Begun, Answered, Noticed}
use Rattle.xp_script.specs.declared.command.Command.{Command}
use Rattle.xp_script.specs.declared.part.ScenarioPart.{ScenarioPart}
use Rattle.xp_protocol.specs.declared.contact.Contact.{Contact}
use Rattle.xp_protocol.specs.declared.rule.AreaWord.{AreaWord}
use Rattle.xp_protocol.specs.declared.rule.LinkRule.{LinkRule}
use Rattle.xp_protocol.specs.declared.rule.PeerRule.{PeerRule}
use Rattle.xp_protocol.specs.declared.rule.PeerRule.TheVariants.{AskActivation, TakeFlags, CloseArea, ZeroMagic, ClearOldBit, Prepare, OpenArea, SetEngagementBit, ReadRecord, StoreEcho, StoreSecond, ClearEngagementBit, LookAtPage, CheckBeat, ClearDeactivationBit, TellPartner}
use Rattle.xp_protocol.specs.declared.rule.OwnRule.TheVariants.{ReadEngaged, TakeDeactivation, ReadStamp, ZeroMask, ZeroOffline, WriteStamp, StoreMask, TakeActivation, StoreBeat, StoreOffline}
use Rattle.xp_protocol.specs.declared.rule.Rule.{Rule}
use Rattle.xp_protocol.specs.declared.rule.Rule.TheVariants.{Link, Peer as ForPeer, Own}
use Rattle.xp_protocol.specs.Effects.{Effect, just, and_then, Note}
use Rattle.xp_protocol.specs.Parts.{script_in, IsLawfulPart}
use Rattle.xp_protocol.specs.State.{State, End, Peer, Reading, Old, warm_end, first_met, cold_peer, idle_end, opened_state, end_of, peer_of, peer_at, link_at}
use Rattle.xp_protocol.specs.Linking.{with_taken, settled as all_settled, flags_got, link_down, link_finished, link_joined, booted_end}
use Rattle.xp_protocol.specs.Peering.{Here, same_peer, is_bad_flags, with_flags, area_left_for, contact_made, contact_of, try_contact, record_read, peer_effect, area_off, peer_read, deactivation_heard, is_left, is_flagged, is_magic, is_wrong, has_shown, booted_peer, peer_failed, with_reason}
use Rattle.xp_protocol.specs.Rules.{Can, IsPartner, here_of, peer_numbered, mark_of, place_for, link_answered, after_answer, noted_rule}
use Rattle.xp_protocol.specs.Acts.{Aim, MayAct, after_act, command_begun, aimed, aim_of, aim_by, EndName, named_end, upcoming, current, end_begun, end_answered, end_noticed, with_aim, noted_aim, noted_act}
use Rattle.xp_protocol.specs.Runs.{turned, moment_by}
use Rattle.xp_protocol.proofs.Lawful.{lawful_command}
use Rattle.xp_protocol.proofs.Named.{IsNamed, named_low}
use Rattle.xp_protocol.proofs.Slots.{at_each}
use Rattle.xp_protocol.proofs.Frames.{AreAll, links_framed, peers_framed, link_frame, peer_frame, aim_frame, act_all, wanted_at, idle_at}
use Rattle.xp_protocol.proofs.Opened.{opened_fact}
use Rattle.xp_records.specs.Clean.{IsClean, IsCleanIfAny}
use Rattle.xp_records.proofs.Blames.{face, Held, Strong, Blames, OversClean, takes, linked, in_contact, goes_down, finishes, joins, boots, fresh_strong}
use Rattle.xp_records.proofs.Answering.{begins, answers, notices}

abbrev pub StrongAt : End → Type 0
StrongAt e = Strong (face e)

-- after a step: clean, but for the reason of an end in contact
pub record Half (e : End) (ns : List Note) : Type 0 where
  pub held : Held (face e)
  pub alone : e.shake.meet ≡ None → StrongAt e
  pub overs : OversClean ns

whole : (e : End) (ns : List Note) → StrongAt e × OversClean ns → Half e ns
whole e ns h = record { held = h.0.0; alone = λ n. h.0; overs = h.1 }

unmet : (o : Option Contact) → is_some o ≡ true → o ≡ None → ⊥
unmet None t e = absurd (cc)
unmet (Some m) t e = absurd (cc)

met_half : (e : End) (f : Effect End (List Note)) → is_some e.shake.meet ≡ true → f.local.shake.meet ≡ e.shake.meet → Held (face f.local) → OversClean f.notes → Half f.local f.notes
met_half e f t same held overs = record { held = held; alone = λ n. absurd (unmet e.shake.meet t (sym same ∙ n)); overs = overs }

-- flags are taken in contact alone
takes_by : (b : Bool) (ks : Kinds) (e : End) → is_some e.shake.meet ≡ b → StrongAt e → (let f : Effect End (List Note) = cond b (and_then (just (with_taken ks e)) all_settled) (just e) in Blames e f → Half f.local f.notes)
takes_by true ks e t h k = let f : Effect End (List Note) = and_then (just (with_taken ks e)) all_settled in met_half e f t k.meet (k.held h.0) (k.overs h.0)
takes_by false ks e t h k = whole e [] (h, tt)

takes_half : (ks : Kinds) (e : End) → StrongAt e → Half (flags_got ks e).local (flags_got ks e).notes
takes_half ks e h = takes_by (is_some e.shake.meet) ks e refl h (takes ks e)

module _ (c : ℕ) (lc : c < 4) where
  abbrev In : Effect Peer (ℕ → List Note) → Type 0
  In h = Half (link_at h.local.links c) (h.notes c)

  cond_in : (b : Bool) (f g : Effect Peer (ℕ → List Note)) → In f → In g → In (cond b f g)
  cond_in true f g x y = x
  cond_in false f g x y = y

  module _ (y : Here) (p : Peer) (n : length p.links ≡ 4) (old : StrongAt (link_at p.links c)) where
    stands : Half (link_at p.links c) []
    stands = whole (link_at p.links c) [] (old, tt)

    meets : (z : Peer) → z.links ≡ p.links → In (try_contact y.turn y.stamp z)
    meets z e =
        let now : StrongAt (link_at z.links c) = subst (λ (ls : List End). StrongAt (link_at ls c)) (sym e) old in
        let j = link_joined z.both_new (contact_of y.stamp z.engage) (link_at z.links c) in
        cond_in (z.engage.second && (z.engage.shown && not (is_some z.contact))) (contact_made y.turn y.stamp z) (same_peer z)
        (links_framed Half (λ c e. link_joined z.both_new (contact_of y.stamp z.engage) e) (record z { contact = Some (contact_of y.stamp z.engage) }) c (ap length e ∙ n) lc (whole j.local j.notes (joins z.both_new (contact_of y.stamp z.engage) (link_at z.links c) now)))
        (whole (link_at z.links c) [] (now, tt))

    read_in : (o : Option Reading) (w : ℕ) → In (record_read y p o w)
    read_in None w = cond_in (eqb w 0) _ _ stands (cond_in (is_magic w) _ _ stands stands)
    read_in (Some r) w =
        cond_in (eqb r.done 1) _ _ stands (cond_in (eqb r.done 2) _ _ stands (cond_in (eqb r.done 7) _ _
        (cond_in (has_shown y.stamp p.engage r) _ _ (meets (record p { engage = record p.engage { shown = true; reading = None } }) refl) stands)
        (cond_in (is_wrong y.part r.done w) _ _ stands stands)))

    left_in : (o : Option Reason) → IsCleanIfAny o → In (area_left_for o p)
    left_in None k = stands
    left_in (Some reason) k = let f = link_down reason (link_at p.links c) in links_framed Half (λ c e. link_down reason e) p c n lc (whole f.local f.notes (goes_down reason (link_at p.links c) k old))

    peered : (m : PeerRule) (w : ℕ) → IsCleanIfAny p.engage.reason → In (peer_effect y p m w)
    peered TakeFlags w k = cond_in (is_bad_flags w) _ _ stands (links_framed Half (λ c e. flags_got (kinds_in w c) e) (with_flags w p) c n lc (takes_half (kinds_in w c) (link_at p.links c) old))
    peered CloseArea w k = left_in p.engage.reason k
    peered ReadRecord w k = read_in p.engage.reading w
    peered StoreSecond w k = meets (record p { engage = record p.engage { second = true } }) refl
    peered AskActivation w k = stands
    peered ZeroMagic w k = stands
    peered ClearOldBit w k = stands
    peered (Prepare x) w k = stands
    peered OpenArea w k = stands
    peered SetEngagementBit w k = stands
    peered StoreEcho w k = stands
    peered ClearEngagementBit w k = stands
    peered LookAtPage w k = cond_in (eqb (length (p.paging ++ w ∷ [])) 5) _ _ stands stands
    peered CheckBeat w k = stands
    peered ClearDeactivationBit w k = stands
    peered TellPartner w k = stands

    freed : (w k : ℕ) → In (peer_read w k p)
    freed w k = let f = link_finished (link_at p.links c) in cond_in (is_left p.engage && not (is_flagged w k)) (area_off p) (same_peer p) (links_framed Half (λ c e. link_finished e) p c n lc (whole f.local f.notes (finishes (link_at p.links c) old))) stands

    told : (w k : ℕ) → In (deactivation_heard w k p)
    told w k = by (is_some p.engage.echo && is_flagged w k) where
      by : (b : Bool) → In (same_peer (cond b (with_reason (Some (OtherGoingDown w)) p) p))
      by true = stands
      by false = stands

    failed : (turn : ℕ) (mark : Option CopyMark) (reason : Option Reason) → In (record { local = peer_failed turn mark p; reason = reason; notes = λ c. [] })
    failed turn None reason = stands
    failed turn (Some mark) reason = stands

numbered_four : (mark : Option CopyMark) (p : Peer) → length p.links ≡ 4 → length (peer_numbered mark p).links ≡ 4
numbered_four None p n = n
numbered_four (Some mark) p n = n

numbered_strong : (mark : Option CopyMark) (p : Peer) (c : ℕ) → StrongAt (link_at p.links c) → StrongAt (link_at (peer_numbered mark p).links c)
numbered_strong None p c h = h
numbered_strong (Some mark) p c h = h

numbered_clean : (mark : Option CopyMark) (p : Peer) → IsCleanIfAny p.engage.reason → IsCleanIfAny (peer_numbered mark p).engage.reason
numbered_clean None p h = h
numbered_clean (Some mark) p h = h

-- all ends of a partition for others
pub record Strongs (n own : ℕ) (st : State) : Type 0 where
  pub all : AreAll n st.peers
  pub ends : (q c : ℕ) → q < n → (q ≡ own → ⊥) → c < 4 → StrongAt (end_of st q c)

module _ (su : ScenarioPart) (st : State) (h : Strongs su.count su.part st) where
  old : (q c : ℕ) → q < su.count → (q ≡ su.part → ⊥) → c < 4 → Half (end_of st q c) []
  old q c lq nq lc = whole (end_of st q c) [] (h.ends q c lq nq lc, tt)

  pub ruled : ((k : ℕ) → IsPartner su k → IsCleanIfAny (peer_of st k).engage.reason) → (r : Rule) (a : Answer) → Can su st r → (q c : ℕ) → q < su.count → (q ≡ su.part → ⊥) → c < 4 → Half (end_of (after_answer su st r a) q c) (noted_rule su st r a q c)
  ruled clean (Link j d m) a can q c lq nq lc =
      let e = end_of st j d in
      let f = link_answered (mark_of su st (Link j d m)) (place_for su d) e m a in
      let k = linked (mark_of su st (Link j d m)) (place_for su d) e m a can.1.1 in
      let s = h.ends j d can.1.0.peer.0 can.1.0.peer.1 can.1.0.peer.2 in
      link_frame Half su st j d m a q c h.all can.1.0.peer.0 can.1.0.peer.2 (λ x y. met_half e f (in_contact e m can.1.1) k.meet (k.held s) (k.overs s)) (λ o. old q c lq nq lc)
  ruled clean (ForPeer j m) (Word w) can q c lq nq lc =
      let mark = mark_of su st (ForPeer j m) in
      peer_frame Half su st j m (Word w) q c h.all can.1.0.low
      (λ e. peered c lc (here_of su st j) (peer_numbered mark (peer_of st j)) (numbered_four mark (peer_of st j) (h.all.channels j)) (numbered_strong mark (peer_of st j) c (subst (λ (x : ℕ). StrongAt (end_of st x c)) (sym e) (h.ends q c lq nq lc))) m w (numbered_clean mark (peer_of st j) (clean j can.1.0))) (λ o. old q c lq nq lc)
  ruled clean (ForPeer j m) Failed can q c lq nq lc =
      peer_frame Half su st j m Failed q c h.all can.1.0.low
      (λ e. failed c lc (here_of su st j) (peer_of st j) (h.all.channels j) (subst (λ (x : ℕ). StrongAt (end_of st x c)) (sym e) (h.ends q c lq nq lc)) (here_of su st j).turn (mark_of su st (ForPeer j m)) None) (λ o. old q c lq nq lc)
  ruled clean (Own ReadEngaged) (Word w) can q c lq nq lc = peers_framed Half (peer_read w) st.peers q c h.all lq (freed c lc (here_of su st q) (peer_at st.peers q) (h.all.channels q) (h.ends q c lq nq lc) w q)
  ruled clean (Own TakeDeactivation) (Word w) can q c lq nq lc = peers_framed Half (deactivation_heard w) st.peers q c h.all lq (told c lc (here_of su st q) (peer_at st.peers q) (h.all.channels q) (h.ends q c lq nq lc) w q)
  ruled clean (Own ReadStamp) (Word w) can q c lq nq lc = old q c lq nq lc
  ruled clean (Own ZeroMask) (Word w) can q c lq nq lc = old q c lq nq lc
  ruled clean (Own ZeroOffline) (Word w) can q c lq nq lc = old q c lq nq lc
  ruled clean (Own WriteStamp) (Word w) can q c lq nq lc = old q c lq nq lc
  ruled clean (Own StoreMask) (Word w) can q c lq nq lc = old q c lq nq lc
  ruled clean (Own TakeActivation) (Word w) can q c lq nq lc = old q c lq nq lc
  ruled clean (Own StoreBeat) (Word w) can q c lq nq lc = old q c lq nq lc
  ruled clean (Own StoreOffline) (Word w) can q c lq nq lc = old q c lq nq lc
  ruled clean (Own m) Failed can q c lq nq lc = old q c lq nq lc

  -- acts
  abbrev Fine : End → List Note → Type 0
  Fine e ns = StrongAt e × OversClean ns

  abbrev AimFine : Option Aim → Type 0
  AimFine None = Unit {0}
  AimFine (Some y) = (y.partner < su.count) × (y.channel < 4) × ((y.partner ≡ su.part → ⊥) → Fine y.effect.local y.effect.notes)

  aim_fine : (x : Option Aim) → AimFine x → (q c : ℕ) → q < su.count → (q ≡ su.part → ⊥) → c < 4 → Fine (end_of (with_aim x st) q c) (noted_aim x q c)
  aim_fine None b q c lq nq lc = (h.ends q c lq nq lc, tt)
  aim_fine (Some y) b q c lq nq lc = aim_frame Fine st y q c h.all b.0 b.1 (λ e g. b.2 (λ i. nq (sym e ∙ i))) (h.ends q c lq nq lc, tt)

  begun_by : (x : Command) (o : Option EndName) → IsNamed su.count o → AimFine (aim_by st end_begun x o)
  begun_by x None b = tt
  begun_by x (Some n) b = (b.0, b.1, λ far. begins (end_of st n.partner n.channel) x (h.ends n.partner n.channel b.0 far b.1))

  begun_aim : IsLawfulPart su → (o : Option Command) (i : ℕ) → slice_get (script_in su st.clock.boots) i ≡ o → AimFine (aim_of st end_begun o)
  begun_aim law None i e = tt
  begun_aim law (Some x) i e = begun_by x (named_end x) (named_low su x (lawful_command su st.clock.boots i x law e))

  answered_by : (x : Command) (o : Option EndName) → IsNamed su.count o → AimFine (aim_by st end_answered x o)
  answered_by x None b = tt
  answered_by x (Some n) b = (b.0, b.1, λ far. answers (end_of st n.partner n.channel) x (h.ends n.partner n.channel b.0 far b.1))

  answered_aim : IsLawfulPart su → (o : Option Command) (i : ℕ) → slice_get (script_in su st.clock.boots) i ≡ o → AimFine (aim_of st end_answered o)
  answered_aim law None i e = tt
  answered_aim law (Some x) i e = answered_by x (named_end x) (named_low su x (lawful_command su st.clock.boots i x law e))

  act_aim : IsLawfulPart su → (x : Act) → MayAct su st x → AimFine (aimed su st x)
  act_aim law Begun may = begun_aim law (upcoming su st) st.script.begun refl
  act_aim law Answered may = answered_aim law (current su st) (st.script.begun - 1) refl
  act_aim law (Noticed q c number how) may = (may.1.0, may.1.1, λ far. notices how number (end_of st q c) (h.ends q c may.1.0 far may.1.1))

  pub acted_ends : IsLawfulPart su → (x : Act) → MayAct su st x → (q c : ℕ) → q < su.count → (q ≡ su.part → ⊥) → c < 4 → Fine (end_of (after_act su st x) q c) (noted_act su st x q c)
  acted_ends law x may q c lq nq lc = wanted_at (λ (p : Peer). Fine (link_at p.links c) (noted_act su st x q c)) (command_begun su st x) (with_aim (aimed su st x) st).peers q (λ p k. k) (λ p k. k) (aim_fine (aimed su st x) (act_aim law x may) q c lq nq lc)

  pub acted : IsLawfulPart su → (x : Act) → MayAct su st x → Strongs su.count su.part (after_act su st x)
  acted law x may = record { all = act_all su st x h.all; ends = λ q c lq nq lc. (acted_ends law x may q c lq nq lc).0 }

  -- a moment
  pub moment_ends : (turns : ℕ) (b stops : Bool) (q c : ℕ) → q < su.count → (q ≡ su.part → ⊥) → c < 4 → StrongAt (end_of (moment_by su b stops (turned turns st)) q c)
  moment_ends turns true stops q c lq nq lc =
      at_each (λ (p : Peer). StrongAt (link_at p.links c)) (λ j p. booted_peer p) st.peers q (cold_peer Old)
      (links_framed (λ e ns. StrongAt e) (λ c e. just (booted_end e)) (peer_of st q) c (h.all.channels q) lc (boots (end_of st q c)))
      (λ f. absurd (omega (arith, h.all.partners, f, lq)))
  moment_ends turns false true q c lq nq lc = h.ends q c lq nq lc
  moment_ends turns false false q c lq nq lc = h.ends q c lq nq lc

-- the opening
pub opened_strong : (su : ScenarioPart) (q c : ℕ) → StrongAt (end_of (opened_state su) q c)
opened_strong su q c = opened_fact su q c StrongAt (fresh_strong (face idle_end) refl refl refl refl refl refl refl) (λ new. fresh_strong (face (first_met new idle_end)) refl refl refl refl refl refl refl) (λ new l. fresh_strong (face (warm_end new l)) refl refl refl refl refl refl refl)
