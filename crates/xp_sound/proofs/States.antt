-- What a partition knows is consistent from the opening on, and each step, act and turn keeps it so.
use Rattle.std.proofs.Common.{◌≡◌, ℕ, ◌<◌, ◌≤◌, Bool, true, false, ◌&&◌, not, List, [], ◌∷◌, length, replicate, set, refl, sym, ◌∙◌, subst, arith, Option, Some, None, inl, inr, ◌⊎◌}
use Rattle.std.proofs.lemmas.Bool.{cases_lt}
use Rattle.std.proofs.lemmas.List.{get_or_past, get_or-replicate, length-replicate, length-set}
use Rattle.xp_base.specs.declared.layout.TheConstants.{LINES}
use Rattle.xp_base.specs.declared.step.Answer.{Answer}
use Rattle.xp_base.specs.declared.step.Answer.TheVariants.{Word, Failed}
use Rattle.xp_base.specs.History.{Act, Begun, Answered, Noticed, Marked, Turn, Delivered, Ended}
use Rattle.xp_rounds.specs.Visit.{Visit, planned}
use Rattle.xp_script.specs.declared.command.Command.{Command}
use Rattle.xp_script.specs.declared.command.Command.TheVariants as commands
use Rattle.xp_script.specs.declared.part.Link.{Link}
use Rattle.xp_script.specs.declared.part.ScenarioPart.{ScenarioPart}
use Rattle.xp_protocol.specs.declared.rule.LinkRule.TheVariants.{Ring}
use Rattle.xp_protocol.specs.declared.rule.RingRule.TheVariants.{AcceptMessage}
use Rattle.xp_protocol.specs.declared.rule.OwnRule.TheVariants.{ReadEngaged, TakeDeactivation, ReadStamp, ZeroMask, ZeroOffline, WriteStamp, StoreMask, TakeActivation, StoreBeat, StoreOffline}
use Rattle.xp_protocol.specs.declared.rule.Rule.{Rule}
use Rattle.xp_protocol.specs.declared.rule.Rule.TheVariants.{Link as ForLink, Peer as ForPeer, Own}
use Rattle.xp_protocol.specs.Parts.{IsLawfulPart, IsLawfulCommand, AreLawfulLinks}
use Rattle.xp_protocol.specs.State.{State, Peer, End, Old, cold_peer, idle_end, peer_at, peer_of, end_of, warm_end, warm_peer, first_met, opened_new, each, link_at, base_peer, first_peers, opened_peers, opened_state}
use Rattle.xp_protocol.specs.Peering.{peer_read, deactivation_heard, booted_peer}
use Rattle.xp_protocol.specs.Rules.{Can, here_of, mark_of, place_for, after_answer, peer_numbered, link_answered, peers_after}
use Rattle.xp_protocol.specs.Acts.{Aim, EndName, named_end, upcoming, current, end_begun, end_answered, aim_of, aim_by, aimed, with_aim, command_begun, peers_wanted, after_act, MayActs, after_acts, first_number}
use Rattle.xp_protocol.specs.Runs.{after_ruled, after_step, turn_counted, restart_comes, stop_comes, moment_by, moment, is_over, start, MayMake, May, acted, after_turn, RunsFrom, Runs, state_after}
use Rattle.xp_protocol.proofs.Slots.{at_each, at_peer, at_slot}
use Rattle.xp_protocol.proofs.Frames.{length-each, wanted_at}
use Rattle.xp_protocol.proofs.Lawful.{lawful_command}
use Rattle.xp_plan.specs.declared.errand.Errand.{Errand}
use Rattle.xp_plan.specs.Plan.{plan_of, IsVisit}
use Rattle.xp_plan.proofs.Permits.{permits}
use Rattle.xp_plan.specs.Sound.{IsSoundEnd, IsSound}
use Rattle.xp_sound.specs.Consistent.{IsConsistentEnd, IsConsistentPeer, AreConsistent, IsConsistent}
use Rattle.xp_sound.specs.Told.{AllTold, HasNoticeRoom}
use Rattle.xp_sound.proofs.Sides.{number_left}
use Rattle.xp_sound.proofs.Ends.{idle_consistent, warm_consistent, linked, answers, begins, notices}
use Rattle.xp_sound.proofs.Peers.{cold_consistent, peered, numbered, failed, freed, told as told_off, end_set, booted}
use Rattle.xp_sound.proofs.Notices.{start_told, acts_told, turn_told}

-- ---- what the plan rests on
sound_end : (e : End) → IsConsistentEnd e → IsSoundEnd e
sound_end e h = record { send = λ c. h.send.sending; pull = λ c. h.pull; order = h.order.complete; closing = h.order.reply }

pub sound : (s : ScenarioPart) (st : State) → IsConsistent s st → IsSound s st
sound s st h = record { few = h.few; peers = λ q l. record { page = (h.peers q).page; beat = (h.peers q).check; words = (h.peers q).words; ends = λ c k. sound_end (link_at (peer_of st q).links c) ((h.peers q).ends c) } }

-- ---- as many partners as before
as_few : (n : ℕ) (xs ys : List Peer) → length ys ≡ length xs → length xs ≤ n → length ys ≤ n
as_few n xs ys e l = omega (arith, e, l)

wanted_few : (o : Option Command) (peers : List Peer) → length (peers_wanted o peers) ≡ length peers
wanted_few (Some (commands.Deactivate q)) peers = length-set peers q _
wanted_few (Some (commands.Activate q)) peers = length-set peers q _
wanted_few (Some commands.Leave) peers = length-each _ 0 peers
wanted_few o peers = refl

aim_few : (o : Option Aim) (st : State) → length (with_aim o st).peers ≡ length st.peers
aim_few None st = refl
aim_few (Some y) st = length-set st.peers y.partner _

module _ (s : ScenarioPart) (st : State) (h : IsConsistent s st) where
  -- ---- steps
  rule_few : (r : Rule) (a : Answer) → length (peers_after s st r a) ≡ length st.peers
  rule_few (ForLink k c m) a = length-set st.peers k _
  rule_few (ForPeer k m) a = length-set st.peers k _
  rule_few (Own ReadEngaged) (Word w) = length-each _ 0 st.peers
  rule_few (Own TakeDeactivation) (Word w) = length-each _ 0 st.peers
  rule_few (Own ReadStamp) (Word w) = refl
  rule_few (Own ZeroMask) (Word w) = refl
  rule_few (Own ZeroOffline) (Word w) = refl
  rule_few (Own WriteStamp) (Word w) = refl
  rule_few (Own StoreMask) (Word w) = refl
  rule_few (Own TakeActivation) (Word w) = refl
  rule_few (Own StoreBeat) (Word w) = refl
  rule_few (Own StoreOffline) (Word w) = refl
  rule_few (Own m) Failed = refl

  rule_peers : AllTold s st → (r : Rule) (a : Answer) → Can s st r → (q : ℕ) → IsConsistentPeer (peer_of (after_answer s st r a) q)
  rule_peers told (ForLink k c m) a can q =
      let mark = mark_of s st (ForLink k c m) in
      let f = link_answered mark (place_for s c) (end_of st k c) m a in
      at_peer IsConsistentPeer st.peers k _ q (λ e. end_set (peer_of st k) c f.local (linked mark (place_for s c) (end_of st k c) m a (told k c can.1.0.peer.0 can.1.0.peer.2 Delivered) can.1.1 ((h.peers k).ends c)) (h.peers k)) (h.peers q)
  rule_peers told (ForPeer k m) (Word w) can q =
      let mark = mark_of s st (ForPeer k m) in
      at_peer IsConsistentPeer st.peers k _ q (λ e. peered (here_of s st k) (peer_numbered mark (peer_of st k)) m w (numbered mark (peer_of st k) (h.peers k))) (h.peers q)
  rule_peers told (ForPeer k m) Failed can q = at_peer IsConsistentPeer st.peers k _ q (λ e. failed (here_of s st k).turn (mark_of s st (ForPeer k m)) (peer_of st k) (h.peers k)) (h.peers q)
  rule_peers told (Own ReadEngaged) (Word w) can q = at_each IsConsistentPeer (λ i p. (peer_read w i p).local) st.peers q (cold_peer Old) (freed w q (peer_of st q) (h.peers q)) (λ l. cold_consistent Old)
  rule_peers told (Own TakeDeactivation) (Word w) can q = at_each IsConsistentPeer (λ i p. (deactivation_heard w i p).local) st.peers q (cold_peer Old) (told_off w q (peer_of st q) (h.peers q)) (λ l. cold_consistent Old)
  rule_peers told (Own ReadStamp) (Word w) can q = h.peers q
  rule_peers told (Own ZeroMask) (Word w) can q = h.peers q
  rule_peers told (Own ZeroOffline) (Word w) can q = h.peers q
  rule_peers told (Own WriteStamp) (Word w) can q = h.peers q
  rule_peers told (Own StoreMask) (Word w) can q = h.peers q
  rule_peers told (Own TakeActivation) (Word w) can q = h.peers q
  rule_peers told (Own StoreBeat) (Word w) can q = h.peers q
  rule_peers told (Own StoreOffline) (Word w) can q = h.peers q
  rule_peers told (Own m) Failed can q = h.peers q

  pub step_keeps : AllTold s st → (r : Rule) (a : Answer) → Can s st r → IsConsistent s (after_answer s st r a)
  step_keeps told r a can = record { few = as_few s.count st.peers (peers_after s st r a) (rule_few r a) h.few; peers = λ q. rule_peers told r a can q }

  pub made_keeps : AllTold s st → (o : Option Marked) → MayMake s st o → IsConsistent s (after_step s st o)
  made_keeps told None may = h
  made_keeps told (Some x) may = subst (λ (r : Option Rule). IsConsistent s (after_ruled s st r x.step.answer)) (sym may.decoded) (step_keeps told may.rule x.step.answer may.can)

  -- ---- acts
  abbrev IsAimConsistent : Option Aim → Type 0
  IsAimConsistent None = Unit {0}
  IsAimConsistent (Some y) = IsConsistentEnd y.effect.local

  begun_by : (x : Command) (o : Option EndName) → IsLawfulCommand s x → IsAimConsistent (aim_by st end_begun x o)
  begun_by x None l = tt
  begun_by x (Some e) l = begins s (end_of st e.partner e.channel) x l ((h.peers e.partner).ends e.channel)

  begun_aim : (o : Option Command) → ((x : Command) → o ≡ Some x → IsLawfulCommand s x) → IsAimConsistent (aim_of st end_begun o)
  begun_aim None l = tt
  begun_aim (Some x) l = begun_by x (named_end x) (l x refl)

  answered_by_end : (x : Command) (o : Option EndName) → IsAimConsistent (aim_by st end_answered x o)
  answered_by_end x None = tt
  answered_by_end x (Some e) = answers (end_of st e.partner e.channel) x ((h.peers e.partner).ends e.channel)

  answered_aim : (o : Option Command) → IsAimConsistent (aim_of st end_answered o)
  answered_aim None = tt
  answered_aim (Some x) = answered_by_end x (named_end x)

  aim_peers : (o : Option Aim) → IsAimConsistent o → (q : ℕ) → IsConsistentPeer (peer_of (with_aim o st) q)
  aim_peers None k q = h.peers q
  aim_peers (Some y) k q = at_peer IsConsistentPeer st.peers y.partner _ q (λ e. end_set (peer_of st y.partner) y.channel y.effect.local k (h.peers y.partner)) (h.peers q)

  aimed_keeps : (x : Act) → IsAimConsistent (aimed s st x) → IsConsistent s (after_act s st x)
  aimed_keeps x k = record {
    few = as_few s.count st.peers (after_act s st x).peers (wanted_few (command_begun s st x) (with_aim (aimed s st x) st).peers ∙ aim_few (aimed s st x) st) h.few;
    peers = λ q. wanted_at IsConsistentPeer (command_begun s st x) (with_aim (aimed s st x) st).peers q (λ p y. y) (λ p y. y) (aim_peers (aimed s st x) k q);
  }

  pub act_keeps : IsLawfulPart s → (x : Act) → IsConsistent s (after_act s st x)
  act_keeps l Begun = aimed_keeps Begun (begun_aim (upcoming s st) (λ x e. lawful_command s st.clock.boots st.script.begun x l e))
  act_keeps l Answered = aimed_keeps Answered (answered_aim (current s st))
  act_keeps l (Noticed q c number how) = aimed_keeps (Noticed q c number how) (notices (end_of st q c) how number ((h.peers q).ends c))

  -- ---- the end of a turn
  pub moved_keeps : (b stops : Bool) → IsConsistent s (moment_by s b stops st)
  moved_keeps true stops = record {
    few = as_few s.count st.peers _ (length-each _ 0 st.peers) h.few;
    peers = λ q. at_each IsConsistentPeer (λ i p. booted_peer p) st.peers q (cold_peer Old) (booted (peer_at st.peers q) (h.peers q)) (λ l. cold_consistent Old);
  }
  moved_keeps false true = h
  moved_keeps false false = h

pub end_keeps : (s : ScenarioPart) (earlier : ℕ) (st : State) → IsConsistent s st → IsConsistent s (moment s earlier (turn_counted st))
end_keeps s earlier st h = let x = turn_counted st in moved_keeps s x h (restart_comes s earlier x && not (is_over x)) (stop_comes s earlier x && not (is_over x))

-- ---- turns
pub acts_keep : (s : ScenarioPart) → IsLawfulPart s → (st : State) (acts : List Act) → IsConsistent s st → IsConsistent s (after_acts s st acts)
acts_keep s l st [] h = h
acts_keep s l st (a ∷ acts) h = acts_keep s l (after_act s st a) acts (act_keeps s st h l a)

pub turn_keeps : (s : ScenarioPart) → IsLawfulPart s → (st : State) (t : Turn) → May s st t → IsConsistent s st → AllTold s st → IsConsistent s (after_turn s st t)
turn_keeps s l st t may h told =
    let a = acts_keep s l st t.before h in
    let b = made_keeps s (after_acts s st t.before) a (acts_told s st t.before may.before told) t.made may.made in
    let c = acts_keep s l (after_step s (after_acts s st t.before) t.made) t.after b in
    end_keeps s st.clock.puts (acted s st t) c

-- ---- the opening
base_consistent : (ls : List Link) → IsConsistentPeer (base_peer ls)
base_consistent [] = cold_consistent Old
base_consistent (l ∷ ls) = cold_consistent Old

first_consistent : (n : ℕ) (ls : List Link) (q : ℕ) → IsConsistentPeer (peer_at (first_peers n ls) q)
unfolding first_peers
first_consistent n ls q = by (cases_lt q n) where
  by : (q < n) ⊎ (n ≤ q) → IsConsistentPeer (peer_at (replicate n (base_peer ls)) q)
  by (inl l) = subst IsConsistentPeer (sym (get_or-replicate n q (base_peer ls) (cold_peer Old) l)) (base_consistent ls)
  by (inr l) = subst IsConsistentPeer (sym (get_or_past (replicate n (base_peer ls)) q (cold_peer Old) (omega (arith, length-replicate {A = Peer} n (base_peer ls), l)))) (cold_consistent Old)

first_few : (n : ℕ) (ls : List Link) → length (first_peers n ls) ≡ n
unfolding first_peers
first_few n ls = length-replicate {A = Peer} n (base_peer ls)

warm_peer_consistent : (s : ScenarioPart) (new : Bool) (l : Link) (p : Peer) → AreLawfulLinks s (l ∷ []) → IsConsistentPeer p → IsConsistentPeer (warm_peer new l p)
warm_peer_consistent s new l p k h = record {
  page = h.page;
  check = h.check;
  words = omega arith;
  ends = λ c. at_slot IsConsistentEnd (each (λ i e. first_met new e) 0 p.links) l.channel c (warm_end new l) idle_end (λ e. warm_consistent new l k.0.1)
      (at_each IsConsistentEnd (λ i e. first_met new e) p.links c idle_end (h.ends c) (λ m. idle_consistent));
}

links_consistent : (s : ScenarioPart) (new : ℕ → Bool) (ls : List Link) (peers : List Peer) → AreLawfulLinks s ls → AreConsistent s.count peers → AreConsistent s.count (opened_peers new ls peers)
links_consistent s new [] peers k h = h
links_consistent s new (l ∷ ls) peers k h = links_consistent s new ls (set peers l.partner (warm_peer (new l.partner) l (peer_at peers l.partner))) k.1 (record {
  few = as_few s.count peers _ (length-set peers l.partner _) h.few;
  peers = λ q. at_peer IsConsistentPeer peers l.partner (warm_peer (new l.partner) l (peer_at peers l.partner)) q (λ e. warm_peer_consistent s (new l.partner) l (peer_at peers l.partner) (k.0, tt) (h.peers l.partner)) (h.peers q);
})

pub start_consistent : (s : ScenarioPart) → IsLawfulPart s → IsConsistent s (start s)
start_consistent s l =
    let x = opened_state s in
    let first : AreConsistent s.count (first_peers s.count s.links) = record { few = omega (arith, first_few s.count s.links); peers = λ q. first_consistent s.count s.links q } in
    moved_keeps s x (links_consistent s (opened_new s) s.links (first_peers s.count s.links) l.links first) (restart_comes s 0 x && not (is_over x)) (stop_comes s 0 x && not (is_over x))

-- ---- histories
turns_keep : (s : ScenarioPart) → IsLawfulPart s → (st : State) (turns : List Turn) → RunsFrom s st turns → IsConsistent s st → AllTold s st → IsConsistent s (state_after s st turns)
turns_keep s l st [] runs h told = h
turns_keep s l st (t ∷ turns) runs h told = turns_keep s l (after_turn s st t) turns runs.1 (turn_keeps s l st t runs.0 h told) (turn_told s st t runs.0)

pub history_consistent : (s : ScenarioPart) → IsLawfulPart s → (turns : List Turn) → Runs s turns → IsConsistent s (state_after s (start s) turns)
history_consistent s l turns runs = turns_keep s l (start s) turns runs (start_consistent s l) (start_told s)

turns_told : (s : ScenarioPart) (st : State) (turns : List Turn) → RunsFrom s st turns → AllTold s st → AllTold s (state_after s st turns)
turns_told s st [] runs told = told
turns_told s st (t ∷ turns) runs told = turns_told s (after_turn s st t) turns runs.1 (turn_told s st t runs.0)

pub history_told : (s : ScenarioPart) (turns : List Turn) → Runs s turns → AllTold s (state_after s (start s) turns)
history_told s turns runs = turns_told s (start s) turns runs (start_told s)

pub planning_sound : (s : ScenarioPart) → IsLawfulPart s → (turns : List Turn) → Runs s turns → (acts : List Act) → IsSound s (after_acts s (state_after s (start s) turns) acts)
planning_sound s l turns runs acts = let st = state_after s (start s) turns in sound s (after_acts s st acts) (acts_keep s l st acts (history_consistent s l turns runs))

pub planned_permitted : (s : ScenarioPart) → IsLawfulPart s → (turns : List Turn) → Runs s turns → (acts : List Act) → (v : Visit Errand) → IsVisit s v → (rule : Rule) →
    (planned (plan_of s) v (after_acts s (state_after s (start s) turns) acts)).rule ≡ Some rule → Can s (after_acts s (state_after s (start s) turns) acts) rule
planned_permitted s l turns runs acts v visit rule e = permits s l (after_acts s (state_after s (start s) turns) acts) (planning_sound s l turns runs acts) v visit rule e

-- ---- room for notices
none_ended : (xs : List ℕ) → first_number xs ≡ None → length xs ≡ 0
none_ended [] e = refl
none_ended (x ∷ xs) e = absurd (cc)

pub has_room : (s : ScenarioPart) (st : State) → IsConsistent s st → AllTold s st → (q c : ℕ) → Can s st (ForLink q c (Ring AcceptMessage)) → HasNoticeRoom (end_of st q c)
has_room s st all told q c can =
    let e = end_of st q c in
    let h = (all.peers q).ends c in
    let t = told q c can.1.0.peer.0 can.1.0.peer.2 in
    let few = number_left e.sides.send e.sides.pending_notices can.1.1.1 h.send h.rising (t Delivered) in
    let none = none_ended e.ended (t Ended) in
    omega (arith, few, none)

pub few_wait : (s : ScenarioPart) (st : State) → IsConsistent s st → (q c : ℕ) → length (end_of st q c).sides.pending_notices ≤ LINES
few_wait s st h q c = ((h.peers q).ends c).few

pub history_room : (s : ScenarioPart) → IsLawfulPart s → (turns : List Turn) → Runs s turns → (acts : List Act) → MayActs s (state_after s (start s) turns) acts → (q c : ℕ) →
    Can s (after_acts s (state_after s (start s) turns) acts) (ForLink q c (Ring AcceptMessage)) → HasNoticeRoom (end_of (after_acts s (state_after s (start s) turns) acts) q c)
history_room s l turns runs acts may q c can =
    let st = state_after s (start s) turns in
    has_room s (after_acts s st acts) (acts_keep s l st acts (history_consistent s l turns runs)) (acts_told s st acts may (history_told s turns runs)) q c can
