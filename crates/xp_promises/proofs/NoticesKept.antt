-- What is told of the numbers that were asked for, and when.
use Rattle.std.proofs.Common.{◌∙◌, ◌≤◌, sym}
use Rattle.xp_meetings.proofs.Parts.{from_state}
use Rattle.xp_promises.proofs.Owns.{LocalAt}
use Rattle.xp_promises.proofs.Reuses.{Both, fine_known}
use Rattle.xp_protocol.specs.Promised.{acked_of, first_named}
use Rattle.xp_protocol.specs.Reached.{state_at}
use Rattle.std.proofs.Common.{◌≡◌, ℕ, zero, suc, ◌<◌, Bool, true, false, ◌&&◌, not, List, [], ◌∷◌, refl, sym, subst, arith, Some, None}
use Rattle.std.specs.Prelude.{slice_get, is_some}
use Rattle.std.specs.List.{Contains}
use Rattle.std.proofs.lemmas.List.Elements.{All-contains}
use Rattle.xp_base.specs.Memory.{Memory}
use Rattle.xp_base.specs.History.{Turn, NoticeKind, Delivered, Ended, Event, turns_of}
use Rattle.xp_script.specs.declared.part.ScenarioPart.{ScenarioPart}
use Rattle.xp_script.specs.declared.scenario.Scenario.{Scenario}
use Rattle.xp_script.specs.Parts.{part_of}
use Rattle.xp_script.specs.Lawful.{IsLawful}
use Rattle.xp_protocol.specs.Records.{Recorded}
use Rattle.xp_protocol.specs.State.{State, Old, End, Peer, cold_peer, idle_end, warm_end, first_met, opened_state, is_begun, end_of, peer_of, link_at}
use Rattle.xp_protocol.specs.Linking.{booted_end}
use Rattle.xp_protocol.specs.Peering.{booted_peer}
use Rattle.xp_protocol.specs.Acts.{notice_due}
use Rattle.xp_protocol.specs.Runs.{start, May, RunsFrom, acted, turn_counted, restarted, restart_comes, stop_comes, moment_by, is_over, after_turn, state_after}
use Rattle.xp_protocol.specs.Reached.{ReachedWords}
use Rattle.xp_protocol.specs.Promised.{Notices, IsLine, records_of}
use Rattle.xp_protocol.proofs.Slots.{at_each}
use Rattle.xp_protocol.proofs.Frames.{idle_at}
use Rattle.xp_protocol.proofs.Opened.{opened_fact}
use Rattle.xp_meetings.proofs.Parts.{part_start, from_books}
use Rattle.xp_promises.proofs.Own.{facts, Done, AreDone, all_done}
use Rattle.xp_promises.proofs.Before.{part_at}
use Rattle.xp_promises.proofs.Reuses.{whole_both}

-- no notice is due
abbrev pub NoneDue : State → ℕ → ℕ → Type 0
NoneDue st q c = (how : NoticeKind) → notice_due how (end_of st q c) ≡ None

fresh_due : (e : End) → e.sides.pending_notices ≡ [] → e.ended ≡ [] → (how : NoticeKind) → notice_due how e ≡ None
fresh_due e a b Delivered = rw a refl
fresh_due e a b Ended = rw b refl

booted_due : (st : State) (su : ScenarioPart) (q c : ℕ) (how : NoticeKind) → notice_due how (end_of (restarted su st) q c) ≡ None
booted_due st su q c how =
    at_each (λ (p : Peer). notice_due how (link_at p.links c) ≡ None) (λ j p. booted_peer p) st.peers q (cold_peer Old)
    (at_each (λ (e : End). notice_due how e ≡ None) (λ j e. booted_end e) (peer_of st q).links c idle_end (fresh_due (booted_end (end_of st q c)) refl refl how) (λ l. fresh_due idle_end refl refl how))
    (λ l. subst (λ (e : End). notice_due how e ≡ None) (sym (idle_at c)) (fresh_due idle_end refl refl how))

opened_due : (su : ScenarioPart) (q c : ℕ) (how : NoticeKind) → notice_due how (end_of (opened_state su) q c) ≡ None
opened_due su q c how = opened_fact su q c (λ e. notice_due how e ≡ None) (fresh_due idle_end refl refl how) (λ new. fresh_due (first_met new idle_end) refl refl how) (λ new l. fresh_due (warm_end new l) refl refl how)

pub first_due : (su : ScenarioPart) (q c : ℕ) (how : NoticeKind) → notice_due how (end_of (start su) q c) ≡ None
first_due su q c how =
    let now = opened_state su in
    by (restart_comes su 0 now && not (is_over now)) (stop_comes su 0 now && not (is_over now)) where
      by : (b stops : Bool) → notice_due how (end_of (moment_by su b stops (opened_state su)) q c) ≡ None
      by true stops = booted_due (opened_state su) su q c how
      by false true = opened_due su q c how
      by false false = opened_due su q c how

pub turn_due : (su : ScenarioPart) (st : State) (t : Turn) (q c : ℕ) → q < su.count → c < 4 → May su st t → NoneDue (after_turn su st t) q c
turn_due su st t q c lq lc may how =
    let now = turn_counted (acted su st t) in
    by (restart_comes su st.clock.puts now && not (is_over now)) (stop_comes su st.clock.puts now && not (is_over now)) where
      by : (b stops : Bool) → notice_due how (end_of (moment_by su b stops (turn_counted (acted su st t))) q c) ≡ None
      by true stops = booted_due (turn_counted (acted su st t)) su q c how
      by false true = may.noticed q c how lq lc
      by false false = may.noticed q c how lq lc

pub turns_due : (su : ScenarioPart) (st : State) (ts : List Turn) (q c : ℕ) → q < su.count → c < 4 → RunsFrom su st ts → NoneDue st q c → NoneDue (state_after su st ts) q c
turns_due su st [] q c lq lc r h = h
turns_due su st (t ∷ ts) q c lq lc r h = turns_due su (after_turn su st t) ts q c lq lc r.1 (turn_due su st t q c lq lc r.0)

done_at : (rs : List Recorded) (i : ℕ) (r : Recorded) → AreDone rs → slice_get rs i ≡ Some r → Done r
done_at [] i r h e = absurd (cc)
done_at (x ∷ rs) zero r h e = let same : x ≡ r = cc in subst (λ (y : Recorded). Done y) same h.0
done_at (x ∷ rs) (suc i) r h e = done_at rs i r h.1 e

module _ (s : Scenario) (law : IsLawful s) (h : List Event) (m : Memory) (reached : ReachedWords s h m) where
  all_told : (p q c : ℕ) → IsLine s p q c → AreDone (records_of s h p q c)
  all_told p q c l =
      let b = (whole_both s law h m reached).2 in
      let own = b.owned p l.first in
      subst AreDone (from_books (part_of s p) (part_start (part_of s p)) (turns_of p h) q c) (all_done (is_begun (end_of (part_at s h p).state q c)) (facts (end_of (part_at s h p).state q c)) ((part_at s h p).books q c) (own.ends q c l.second l.channel))

  newest_told : (rs : List Recorded) (r : Recorded) (e : End) → LocalAt e rs → is_begun e ≡ true → slice_get rs 0 ≡ Some r → (k : ℕ) → Contains r.delivered k → k < e.sides.send.remote_get
  newest_told [] r e l b at k m = absurd (cc)
  newest_told (z ∷ more) r e l b at k m =
      let same : z ≡ r = cc in
      All-contains (λ (n : ℕ). n < e.sides.send.remote_get) z.delivered k (l.live b).0.told.acknowledged (subst (λ (y : Recorded). Contains y.delivered k) (sym same) m)

  module _ (p q c : ℕ) (l : IsLine s p q c) where
    both : Both s law (whole_both s law h m reached).0 (part_at s h)
    both = (whole_both s law h m reached).2

    abbrev Told : End → List Recorded → List Recorded → Type 0
    Told e rs ss = is_some e.shake.meet ≡ true → is_begun e ≡ true → (r : Recorded) → slice_get rs 0 ≡ Some r → (k : ℕ) → Contains r.delivered k → k < acked_of (first_named r ss)

    told_now : Told (end_of (part_at s h p).state q c) ((part_at s h p).books q c) ((part_at s h q).books p c)
    told_now on begun r at k m' =
        let e = end_of (part_at s h p).state q c in
        let z = fine_known _ _ _ _ ((part_at s h p).books q c) ((part_at s h q).books p c) e (end_of (part_at s h q).state p c) on begun (both.good.fine p q c l) in
        let local = (both.owned p l.first).ends q c l.second l.channel in
        let below = newest_told ((part_at s h p).books q c) r e local begun at k m' in
        let some : Some z.0 ≡ Some r = sym z.1 ∙ at in
        let same : z.0 ≡ r = cc in
        let known : e.sides.send.remote_get ≤ acked_of (first_named r ((part_at s h q).books p c)) = subst (λ (y : Recorded). e.sides.send.remote_get ≤ acked_of (first_named y ((part_at s h q).books p c))) same z.2 in
        omega (arith, below, known)

    told_after : Told (end_of (state_at s h p) q c) (records_of s h p q c) (records_of s h q p c)
    told_after =
        subst (λ (rs : List Recorded). Told (end_of (state_at s h p) q c) rs (records_of s h q p c)) (from_books (part_of s p) (part_start (part_of s p)) (turns_of p h) q c)
        (subst (λ (ss : List Recorded). Told (end_of (state_at s h p) q c) ((part_at s h p).books q c) ss) (from_books (part_of s q) (part_start (part_of s q)) (turns_of q h) p c)
        (subst (λ (st : State). Told (end_of st q c) ((part_at s h p).books q c) ((part_at s h q).books p c)) (from_state (part_of s p) (part_start (part_of s p)) (turns_of p h)) told_now))

  pub notices : Notices s h
  notices = record {
    told = λ p q c l r is. (let d = done_at (records_of s h p q c) is.number r (all_told p q c l) is.listed in record { rising = d.rising; told = d.told; ended = d.some; over = d.over });
    acknowledged = λ p q c k l on begun r at m'. told_after p q c l on begun r at k m';
    prompt = λ p q c l. turns_due (part_of s p) (start (part_of s p)) (turns_of p h) q c l.second l.channel (reached.runs p l.first) (λ how. first_due (part_of s p) q c how);
  }

pub notices_kept : (s : Scenario) → IsLawful s → (h : List Event) (m : Memory) → ReachedWords s h m → Notices s h
notices_kept s law h m r = notices s law h m r
