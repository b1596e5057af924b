-- A partner is to be deactivated for a missed heartbeat only for a check of it: no act, no other step and
-- no moment gives that reason.
use Rattle.std.proofs.Common.{◌≡◌, ℕ, ◌<◌, Bool, true, false, ◌&&◌, ◌||◌, not, cond, eqb, List, [], ◌∷◌, ◌++◌, length, refl, ap, sym, ◌∙◌, subst, arith, Option, Some, None, inl, inr, ◌⊎◌}
use Rattle.std.specs.Prelude.{is_some, nat_eq, slice_index}
use Rattle.std.proofs.lemmas.Bool.{and_parts, eqb-true}
use Rattle.xp_base.specs.declared.reason.Reason.{Reason}
use Rattle.xp_base.specs.declared.reason.Reason.TheVariants.{BadMagic, BadArgs, BadFlags, OtherGoingDown, Unloading, NoHeartbeat, Reactivating, CopyError}
use Rattle.xp_base.specs.declared.step.Answer.{Answer}
use Rattle.xp_base.specs.declared.step.Answer.TheVariants.{Word, Failed}
use Rattle.xp_base.specs.declared.step.CopyMark.{CopyMark}
use Rattle.xp_base.specs.Kinds.{kinds_in}
use Rattle.xp_base.specs.Sessions.{session_of}
use Rattle.xp_base.specs.Memory.{Memory}
use Rattle.xp_base.specs.History.{Act, Event, Marked, Turn, turns_of}
use Rattle.xp_script.specs.declared.part.ScenarioPart.{ScenarioPart}
use Rattle.xp_script.specs.declared.scenario.Scenario.{Scenario}
use Rattle.xp_script.specs.Parts.{part_of}
use Rattle.xp_protocol.specs.declared.contact.Look.{Look}
use Rattle.xp_protocol.specs.declared.contact.Look.TheVariants.{Unseen, Good, Absent, BadVersion}
use Rattle.xp_protocol.specs.declared.rule.AreaWord.{AreaWord}
use Rattle.xp_protocol.specs.declared.rule.AreaWord.TheVariants.{SessionWord, EchoWord, PlaceWord, ArgsWord, FlagWord, CounterWord}
use Rattle.xp_protocol.specs.declared.rule.PeerRule.{PeerRule}
use Rattle.xp_protocol.specs.declared.rule.PeerRule.TheVariants.{AskActivation, TakeFlags, CloseArea, ZeroMagic, ClearOldBit, Prepare, OpenArea, SetEngagementBit, ReadRecord, StoreEcho, StoreSecond, ClearEngagementBit, LookAtPage, CheckBeat, ClearDeactivationBit, TellPartner}
use Rattle.xp_protocol.specs.declared.rule.OwnRule.TheVariants.{ReadEngaged, TakeDeactivation, ReadStamp, ZeroMask, ZeroOffline, WriteStamp, StoreMask, TakeActivation, StoreBeat, StoreOffline}
use Rattle.xp_protocol.specs.declared.rule.Rule.{Rule}
use Rattle.xp_protocol.specs.declared.rule.Rule.TheVariants.{Link, Peer as ForPeer, Own}
use Rattle.xp_protocol.specs.Effects.{Effect, Note, just, first_reason}
use Rattle.xp_protocol.specs.State.{State, End, Peer, Reading, Watch, Old, cold_peer, is_begun, link_at, peer_of, end_of, set_link}
use Rattle.xp_protocol.specs.Linking.{close_now, link_closed, link_down, flags_got}
use Rattle.xp_protocol.specs.Peering.{Here, CHECK_WORDS, with_reason, is_ready, links_reason, end_reason, prepared, judged, both_new_by, look_reason, is_still, is_count, is_flagged, or_zero, beat_reason, watch_reason, failed_reason, fails_for, peer_failed, peer_effect, peer_read, deactivation_heard, record_read, try_contact, contact_made, same_peer, is_magic, is_wrong, has_shown, is_bad_flags, flags_taken, with_flags, area_left_for, area_off, is_left, booted_peer}
use Rattle.xp_protocol.specs.Rules.{Can, here_of, mark_of, numbered, place_for, link_answered, peer_numbered, peer_answered, after_answer}
use Rattle.xp_protocol.specs.Acts.{Aim, aimed, with_aim, command_begun, after_act, after_acts}
use Rattle.xp_protocol.specs.Decode.{rule_of}
use Rattle.xp_protocol.specs.Reached.{ReachedWords}
use Rattle.xp_protocol.specs.Runs.{May, MayMake, RunsFrom, after_ruled, after_step, after_turn, acted, turn_counted, moment_by, restart_comes, stop_comes, is_over, start, state_after}
use Rattle.xp_protocol.proofs.Slots.{at_peer, at_each}
use Rattle.xp_protocol.proofs.Frames.{wanted_at}
use Rattle.xp_records.specs.Missed.{IsMissed, Misses, IsToLeave, HeartbeatsMissed}
use Rattle.xp_records.proofs.Blames.{IsGiven, IsGivenIfAny, takes, linked}

-- another reason than a missed heartbeat
abbrev IsHeard : Reason → Type 0
IsHeard (NoHeartbeat last now mask) = ⊥
IsHeard reason = Unit {0}

abbrev IsHeardIfAny : Option Reason → Type 0
IsHeardIfAny None = Unit {0}
IsHeardIfAny (Some reason) = IsHeard reason

heard_given : (r : Reason) → IsGiven r → IsHeard r
heard_given (NoHeartbeat last now mask) h = absurd h
heard_given r h = tt

given_heard : (o : Option Reason) → IsGivenIfAny o → IsHeardIfAny o
given_heard None h = tt
given_heard (Some r) h = heard_given r h

first_heard : (a b : Option Reason) → IsHeardIfAny a → IsHeardIfAny b → IsHeardIfAny (first_reason a b)
first_heard None b h k = k
first_heard (Some r) b h k = h

end_heard : (seen : ℕ) (o : Option Reason) → IsHeardIfAny o → IsHeardIfAny (end_reason seen o)
end_heard seen None h = tt
end_heard seen (Some (BadFlags w)) h = tt
end_heard seen (Some r) h = h

links_heard : (f : ℕ → End → Effect End (List Note)) (p : Peer) → ((c : ℕ) → IsHeardIfAny (f c (link_at p.links c)).reason) → IsHeardIfAny (links_reason f p)
links_heard f p h =
    let a = first_reason (f 2 (link_at p.links 2)).reason (f 3 (link_at p.links 3)).reason in
    let b = first_reason (f 1 (link_at p.links 1)).reason a in
    first_heard (f 0 (link_at p.links 0)).reason b (h 0)
    (first_heard (f 1 (link_at p.links 1)).reason a (h 1) (first_heard (f 2 (link_at p.links 2)).reason (f 3 (link_at p.links 3)).reason (h 2) (h 3)))

closing : (o : Option Reason) (reason : Reason) (e : End) → (close_now o reason e).reason ≡ None
closing None reason e = refl
closing (Some r) reason e = refl

down_heard : (reason : Reason) (e : End) → IsHeardIfAny (link_down reason e).reason
down_heard reason e = first_heard (link_closed reason e).reason None (by (is_begun e)) tt where
  by : (b : Bool) → (let f : Effect End (List Note) = cond b (close_now e.shake.reason reason e) (just e) in IsHeardIfAny f.reason)
  by true = subst (λ (o : Option Reason). IsHeardIfAny o) (sym (closing e.shake.reason reason e)) tt
  by false = tt

booted_heard : (b : Bool) (old new : ℕ) → IsHeardIfAny (cond b None (Some (Reactivating old new)))
booted_heard true old new = tt
booted_heard false old new = tt

look_heard : (o : Option ℕ) (l : Look) (n : ℕ) → IsHeardIfAny (look_reason o l n)
look_heard None l n = tt
look_heard (Some echo) Unseen n = tt
look_heard (Some echo) Absent n = tt
look_heard (Some echo) (BadVersion word) n = tt
look_heard (Some echo) (Good version) n = booted_heard (eqb (session_of echo).stamp n) (session_of echo).stamp n

-- the reason, and why it stands
module _ (last now mask : ℕ) (D : Type 0) where
  abbrev Missed : Option Reason → Type 0
  Missed o = o ≡ Some (NoHeartbeat last now mask)

  abbrev Kept : Peer → Type 0
  Kept p = Missed p.engage.reason → D

  not_heard : (o : Option Reason) → IsHeardIfAny o → Missed o → D
  not_heard None h e = absurd (cc)
  not_heard (Some r) h e = absurd (subst (λ (y : Reason). IsHeard y) (same r (NoHeartbeat last now mask) e) h) where
    same : (a b : Reason) → Some a ≡ Some b → a ≡ b
    same a b f = cc

  first_kept : (a b : Option Reason) → (Missed a → D) → (Missed b → D) → Missed (first_reason a b) → D
  first_kept None b f g e = g e
  first_kept (Some r) b f g e = f e

  ready_kept : (b : Bool) (o : Option Reason) → (Missed o → D) → Missed (cond b o None) → D
  ready_kept true o f e = f e
  ready_kept false o f e = absurd (cc)

  blamed : (o : Option Reason) (p : Peer) → Kept p → (Missed o → D) → Kept (with_reason o p)
  blamed o p h g = first_kept p.engage.reason (cond (is_ready p.engage.area) o None) h (ready_kept (is_ready p.engage.area) o g)

  -- what a step makes of a partner, and the reason that it gives
  abbrev KeptIn : Effect Peer (ℕ → List Note) → Type 0
  KeptIn f = Kept f.local × (Missed f.reason → D)

  either : (b : Bool) (f g : Effect Peer (ℕ → List Note)) → KeptIn f → KeptIn g → KeptIn (cond b f g)
  either true f g h k = h
  either false f g h k = k

  nothing : Missed None → D
  nothing e = absurd (cc)

  meets : (turn stamp : ℕ) (p : Peer) → Kept p → KeptIn (try_contact turn stamp p)
  meets turn stamp p h = either (p.engage.second && (p.engage.shown && not (is_some p.contact))) (contact_made turn stamp p) (same_peer p) (h, nothing) (h, nothing)

  going : (b : Bool) → IsHeardIfAny (cond b (Some (OtherGoingDown 0)) None)
  going true = tt
  going false = tt

  reads : (y : Here) (p : Peer) (o : Option Reading) (w : ℕ) → Kept p → KeptIn (record_read y p o w)
  reads y p None w h = either (eqb w 0) _ _ (h, not_heard (cond (is_some p.engage.echo) (Some (OtherGoingDown 0)) None) (going (is_some p.engage.echo))) (either (is_magic w) _ _ (h, nothing) (h, not_heard (Some (BadMagic w)) tt))
  reads y p (Some r) w h =
      either (eqb r.done 1) _ _ (h, nothing) (either (eqb r.done 2) _ _ (h, nothing) (either (eqb r.done 7) _ _
      (either (has_shown y.stamp p.engage r) _ _ (meets y.turn y.stamp (record p { engage = record p.engage { shown = true; reading = None } }) h) (h, nothing))
      (either (is_wrong y.part r.done w) _ _ (h, not_heard (Some (BadArgs w)) tt) (h, nothing))))

  leaves : (o : Option Reason) (p : Peer) → Kept p → KeptIn (area_left_for o p)
  leaves None p h = (h, nothing)
  leaves (Some r) p h = (h, not_heard (links_reason (λ c e. link_down r e) p) (links_heard (λ c e. link_down r e) p (λ c. down_heard r (link_at p.links c))))

  looks : (own : ℕ) (b : Bool) (ws : List ℕ) (w : ℕ) (p : Peer) → Kept p → (let f : Effect Peer (ℕ → List Note) = cond b (record { local = record p { look = judged ws; paging = []; both_new = both_new_by own (judged ws) p.both_new }; reason = look_reason p.engage.echo (judged ws) w; notes = λ c. [] }) (record { local = record p { paging = ws }; reason = None; notes = λ c. [] }) in KeptIn f)
  looks own true ws w p h = (h, not_heard (look_reason p.engage.echo (judged ws) w) (look_heard p.engage.echo (judged ws) w))
  looks own false ws w p h = (h, nothing)

  prepares : (x : AreaWord) (p : Peer) → Kept p → KeptIn (same_peer (record p { engage = prepared x p.engage }))
  prepares SessionWord p h = (h, nothing)
  prepares EchoWord p h = (h, nothing)
  prepares FlagWord p h = (h, nothing)
  prepares (PlaceWord y) p h = (h, nothing)
  prepares (ArgsWord c f) p h = (h, nothing)
  prepares (CounterWord c f) p h = (h, nothing)

  flags : (w : ℕ) (p : Peer) → Kept p → KeptIn (flags_taken w p)
  flags w p h = (h, not_heard (end_reason (with_flags w p).flags_seen (links_reason (λ c e. flags_got (kinds_in w c) e) (with_flags w p))) (end_heard (with_flags w p).flags_seen (links_reason (λ c e. flags_got (kinds_in w c) e) (with_flags w p)) (links_heard (λ c e. flags_got (kinds_in w c) e) (with_flags w p) (λ c. given_heard (flags_got (kinds_in w c) (link_at p.links c)).reason (takes (kinds_in w c) (link_at p.links c)).gives))))

  peered : (y : Here) (p : Peer) (m : PeerRule) (w : ℕ) → (m ≡ CheckBeat → Missed (watch_reason y.part (p.watch.words ++ w ∷ []) p.watch) → D) → Kept p → KeptIn (peer_effect y p m w)
  peered y p CheckBeat w checks h = (h, checks refl)
  peered y p LookAtPage w checks h = looks y.version (eqb (length (p.paging ++ w ∷ [])) 5) (p.paging ++ w ∷ []) w p h
  peered y p TakeFlags w checks h = either (is_bad_flags w) _ (flags_taken w p) (h, not_heard (Some (BadFlags w)) tt) (flags w p h)
  peered y p CloseArea w checks h = leaves p.engage.reason p h
  peered y p ReadRecord w checks h = reads y p p.engage.reading w h
  peered y p StoreSecond w checks h = meets y.turn y.stamp (record p { engage = record p.engage { second = true } }) h
  peered y p AskActivation w checks h = (h, nothing)
  peered y p ZeroMagic w checks h = (h, nothing)
  peered y p ClearOldBit w checks h = (h, nothing)
  peered y p (Prepare x) w checks h = prepares x p h
  peered y p OpenArea w checks h = (h, nothing)
  peered y p SetEngagementBit w checks h = (h, nothing)
  peered y p StoreEcho w checks h = (h, nothing)
  peered y p ClearEngagementBit w checks h = (h, nothing)
  peered y p ClearDeactivationBit w checks h = (h, nothing)
  peered y p TellPartner w checks h = (h, nothing)

  failing : (mark : Option CopyMark) (p : Peer) → IsHeardIfAny (failed_reason mark p)
  failing None p = tt
  failing (Some mark) p = by (fails_for mark.kind p.engage.echo) where
    by : (b : Bool) → IsHeardIfAny (cond b (Some (CopyError mark.kind mark.number)) None)
    by true = tt
    by false = tt

  answered : (y : Here) (mark : Option CopyMark) (p : Peer) (m : PeerRule) (a : Answer) → ((w : ℕ) → a ≡ Word w → m ≡ CheckBeat → Missed (watch_reason y.part (p.watch.words ++ w ∷ []) p.watch) → D) → Kept p → KeptIn (peer_answered y mark p m a)
  answered y None p m (Word w) checks h = peered y p m w (checks w refl) h
  answered y (Some mark) p m (Word w) checks h = peered y (peer_numbered (Some mark) p) m w (checks w refl) h
  answered y None p m Failed checks h = (h, nothing)
  answered y (Some mark) p m Failed checks h = (h, not_heard (failed_reason (Some mark) p) (failing (Some mark) p))

  freed : (w q : ℕ) (p : Peer) → Kept p → Kept (peer_read w q p).local
  freed w q p h = by (is_left p.engage && not (is_flagged w q)) where
    by : (b : Bool) → (let f : Effect Peer (ℕ → List Note) = cond b (area_off p) (same_peer p) in Kept f.local)
    by true = nothing
    by false = h

  told : (w q : ℕ) (p : Peer) → Kept p → Kept (deactivation_heard w q p).local
  told w q p h = by (is_some p.engage.echo && is_flagged w q) where
    by : (b : Bool) → Kept (cond b (with_reason (Some (OtherGoingDown w)) p) p)
    by true = blamed (Some (OtherGoingDown w)) p h (not_heard (Some (OtherGoingDown w)) tt)
    by false = h

  -- of a state
  module _ (su : ScenarioPart) (q : ℕ) where
    abbrev At : State → Type 0
    At st = Kept (peer_of st q)

    ruled : (st : State) (r : Rule) (a : Answer) → Can su st r → ((w : ℕ) → a ≡ Word w → r ≡ ForPeer q CheckBeat → Missed (watch_reason su.part ((peer_of st q).watch.words ++ w ∷ []) (peer_of st q).watch) → D) → At st → At (after_answer su st r a)
    ruled st (Link k d m) a can checks h =
        let f = link_answered (mark_of su st (Link k d m)) (place_for su d) (end_of st k d) m a in
        let p = set_link (numbered (mark_of su st (Link k d m)) d (peer_of st k)) d f.local in
        at_peer Kept st.peers k (with_reason (end_reason (peer_of st k).flags_seen f.reason) p) q
        (λ e. blamed (end_reason (peer_of st k).flags_seen f.reason) p (set_same d (numbered (mark_of su st (Link k d m)) d (peer_of st k)) f.local (same_numbered (mark_of su st (Link k d m)) d (peer_of st k) (subst (λ (j : ℕ). Kept (peer_of st j)) e h)))
        (not_heard (end_reason (peer_of st k).flags_seen f.reason) (end_heard (peer_of st k).flags_seen f.reason (given_heard f.reason (linked (mark_of su st (Link k d m)) (place_for su d) (end_of st k d) m a can.1.1).gives)))) h
      where
        same_numbered : (mark : Option CopyMark) (d : ℕ) (p : Peer) → Kept p → Kept (numbered mark d p)
        same_numbered None d p h = h
        same_numbered (Some mark) d p h = h

        set_same : (d : ℕ) (p : Peer) (e : End) → Kept p → Kept (set_link p d e)
        set_same d p e h = h
    ruled st (ForPeer k m) a can checks h =
        let f = peer_answered (here_of su st k) (mark_of su st (ForPeer k m)) (peer_of st k) m a in
        at_peer Kept st.peers k (with_reason f.reason f.local) q
        (λ e. (
        let P : ℕ → Type 0 = λ j. (w : ℕ) → a ≡ Word w → m ≡ CheckBeat → Missed (watch_reason su.part ((peer_of st j).watch.words ++ w ∷ []) (peer_of st j).watch) → D in
        let g = answered (here_of su st k) (mark_of su st (ForPeer k m)) (peer_of st k) m a (subst P e (λ w i j. checks w i (ap (λ (n : ℕ). ForPeer n m) (sym e) ∙ ap (λ (n : PeerRule). ForPeer q n) j))) (subst (λ (j : ℕ). Kept (peer_of st j)) e h) in
        blamed f.reason f.local g.0 g.1)) h
    ruled st (Own ReadEngaged) (Word w) can checks h = at_each Kept (λ j p. (peer_read w j p).local) st.peers q (cold_peer Old) (freed w q (peer_of st q) h) (λ l. nothing)
    ruled st (Own TakeDeactivation) (Word w) can checks h = at_each Kept (λ j p. (deactivation_heard w j p).local) st.peers q (cold_peer Old) (told w q (peer_of st q) h) (λ l. nothing)
    ruled st (Own ReadStamp) (Word w) can checks h = h
    ruled st (Own ZeroMask) (Word w) can checks h = h
    ruled st (Own ZeroOffline) (Word w) can checks h = h
    ruled st (Own WriteStamp) (Word w) can checks h = h
    ruled st (Own StoreMask) (Word w) can checks h = h
    ruled st (Own TakeActivation) (Word w) can checks h = h
    ruled st (Own StoreBeat) (Word w) can checks h = h
    ruled st (Own StoreOffline) (Word w) can checks h = h
    ruled st (Own m) Failed can checks h = h

    aimed_at : (x : Option Aim) (st : State) → At st → At (with_aim x st)
    aimed_at None st h = h
    aimed_at (Some y) st h = at_peer Kept st.peers y.partner _ q (λ e. subst (λ (j : ℕ). Kept (peer_of st j)) e h) h

    one_act : (st : State) (x : Act) → At st → At (after_act su st x)
    one_act st x h = wanted_at Kept (command_begun su st x) (with_aim (aimed su st x) st).peers q (λ p k. blamed (Some Unloading) (record p { wanted = false }) k (not_heard (Some Unloading) tt)) (λ p k. k) (aimed_at (aimed su st x) st h)

    all_acts : (st : State) (xs : List Act) → At st → At (after_acts su st xs)
    all_acts st [] h = h
    all_acts st (x ∷ xs) h = all_acts (after_act su st x) xs (one_act st x h)

    moment : (b stops : Bool) (st : State) → At st → At (moment_by su b stops st)
    moment true stops st h = at_each Kept (λ j p. booted_peer p) st.peers q (cold_peer Old) nothing (λ l. nothing)
    moment false true st h = h
    moment false false st h = h

-- what a check read where it gives the reason
two_words : (words : List ℕ) (w : ℕ) → length (words ++ w ∷ []) ≡ 3 → words ≡ slice_index (words ++ w ∷ []) 0 ∷ slice_index (words ++ w ∷ []) 1 ∷ []
two_words (a ∷ b ∷ []) w e = refl
two_words [] w e = absurd (omega (arith, e))
two_words (a ∷ []) w e = absurd (omega (arith, e))
two_words (a ∷ b ∷ c ∷ []) w e = absurd (omega (arith, e))
two_words (a ∷ b ∷ c ∷ d ∷ more) w e = absurd (omega (arith, e))

third : (words : List ℕ) (w : ℕ) → length (words ++ w ∷ []) ≡ 3 → slice_index (words ++ w ∷ []) 2 ≡ w
third (a ∷ b ∷ []) w e = refl
third [] w e = absurd (omega (arith, e))
third (a ∷ []) w e = absurd (omega (arith, e))
third (a ∷ b ∷ c ∷ []) w e = absurd (omega (arith, e))
third (a ∷ b ∷ c ∷ d ∷ more) w e = absurd (omega (arith, e))

same_count : (now : ℕ) (last : Option ℕ) → is_count now last ≡ true → last ≡ Some now
same_count now None e = absurd (cc)
same_count now (Some v) e = ap (λ (n : ℕ). Some n) (eqb-true v now e)

stood : (part now mask offline : ℕ) (last : Option ℕ) (a b c : Bool) → is_flagged mask part ≡ a → nat_eq offline 0 ≡ b → is_count now last ≡ c → (not a || (b && c)) ≡ true → (is_flagged mask part ≡ false) ⊎ ((offline ≡ 0) × (last ≡ Some now))
stood part now mask offline last false b c e f g h = inl e
stood part now mask offline last true true true e f g h = inr (eqb-true offline 0 f, same_count now last g)
stood part now mask offline last true true false e f g h = absurd (cc)
stood part now mask offline last true false c e f g h = absurd (cc)

missed_by : (part : ℕ) (x : Watch) (w last now mask : ℕ) (whole still : Bool) → nat_eq (length (x.words ++ w ∷ [])) CHECK_WORDS ≡ whole → is_still part x.last (x.words ++ w ∷ []) ≡ still
    → cond whole (cond still (Some (NoHeartbeat (or_zero x.last) (slice_index (x.words ++ w ∷ []) 0) (slice_index (x.words ++ w ∷ []) 1))) None) None ≡ Some (NoHeartbeat last now mask) → IsMissed part x last now mask w
missed_by part x w last now mask true true e f g =
    let three = eqb-true (length (x.words ++ w ∷ [])) 3 e in
    let first : slice_index (x.words ++ w ∷ []) 0 ≡ now = cc in
    let second : slice_index (x.words ++ w ∷ []) 1 ≡ mask = cc in
    let before : last ≡ or_zero x.last = cc in
    record {
      words = subst (λ (n : ℕ). x.words ≡ n ∷ mask ∷ []) first (subst (λ (n : ℕ). x.words ≡ slice_index (x.words ++ w ∷ []) 0 ∷ n ∷ []) second (two_words x.words w three));
      before = before;
      missed = subst (λ (n : ℕ). (is_flagged mask part ≡ false) ⊎ ((w ≡ 0) × (x.last ≡ Some n))) first
          (subst (λ (n : ℕ). (is_flagged n part ≡ false) ⊎ ((w ≡ 0) × (x.last ≡ Some (slice_index (x.words ++ w ∷ []) 0)))) second
          (subst (λ (n : ℕ). (is_flagged (slice_index (x.words ++ w ∷ []) 1) part ≡ false) ⊎ ((n ≡ 0) × (x.last ≡ Some (slice_index (x.words ++ w ∷ []) 0)))) (third x.words w three)
          (stood part (slice_index (x.words ++ w ∷ []) 0) (slice_index (x.words ++ w ∷ []) 1) (slice_index (x.words ++ w ∷ []) 2) x.last _ _ _ refl refl refl f)));
    }
missed_by part x w last now mask true false e f g = absurd (cc)
missed_by part x w last now mask false still e f g = absurd (cc)

missed : (part : ℕ) (x : Watch) (w last now mask : ℕ) → watch_reason part (x.words ++ w ∷ []) x ≡ Some (NoHeartbeat last now mask) → IsMissed part x last now mask w
missed part x w last now mask g = missed_by part x w last now mask (nat_eq (length (x.words ++ w ∷ [])) CHECK_WORDS) (is_still part x.last (x.words ++ w ∷ [])) refl refl g

-- a turn
module _ (su : ScenarioPart) (st : State) (t : Turn) (q last now mask : ℕ) where
  abbrev Why : Type 0
  Why = IsToLeave st q last now mask ⊎ Misses su q last now mask st t

  abbrev mid : State
  mid = after_acts su st t.before

  step_kept : (o : Option Marked) → t.made ≡ o → MayMake su mid o → At last now mask Why su q mid → At last now mask Why su q (after_step su mid o)
  step_kept None f may h = h
  step_kept (Some x) f may h =
      subst (λ (o : Option Rule). At last now mask Why su q (after_ruled su mid o x.step.answer)) (sym may.decoded)
      (ruled last now mask Why su q mid may.rule x.step.answer may.can (λ w i j g. inr (record { step = x; made = f; decoded = may.decoded ∙ ap (λ (r : Rule). Some r) j; offline = w; answer = i; check = missed su.part (peer_of mid q).watch w last now mask g })) h)

  turn_missed : May su st t → IsToLeave (after_turn su st t) q last now mask → Why
  turn_missed may =
      let before : At last now mask Why su q mid = all_acts last now mask Why su q st t.before (λ e. inl e) in
      let after = all_acts last now mask Why su q (after_step su mid t.made) t.after (step_kept t.made refl may.made before) in
      let now_on = turn_counted (acted su st t) in
      moment last now mask Why su q (restart_comes su st.clock.puts now_on && not (is_over now_on)) (stop_comes su st.clock.puts now_on && not (is_over now_on)) now_on after

-- and each turn of a history
may_at : (su : ScenarioPart) (st : State) (before later : List Turn) (t : Turn) → RunsFrom su st (before ++ t ∷ later) → May su (state_after su st before) t
may_at su st [] later t r = r.0
may_at su st (x ∷ before) later t r = may_at su (after_turn su st x) before later t r.1

pub all_missed : (s : Scenario) (h : List Event) (m : Memory) → ReachedWords s h m → HeartbeatsMissed s h
all_missed s h m r p low before later t is q last now mask =
    let su = part_of s p in
    turn_missed su (state_after su (start su) before) t q last now mask (may_at su (start su) before later t (subst (λ (ts : List Turn). RunsFrom su (start su) ts) is (r.runs p low)))
