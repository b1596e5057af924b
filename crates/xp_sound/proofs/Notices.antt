-- No notice is due between turns, and no act makes one due: so one more number may wait for its
-- notice wherever a message may be accepted.
use Rattle.std.proofs.Common.{◌≡◌, ℕ, ◌<◌, ◌≤◌, Bool, true, false, ◌&&◌, not, cond, nat_eq, List, [], ◌∷◌, replicate, set, refl, sym, ◌∙◌, subst, arith, Option, Some, None, inl, inr, ◌⊎◌}
use Rattle.std.specs.Prelude.{is_some}
use Rattle.std.proofs.lemmas.Bool.{cases_lt}
use Rattle.std.proofs.lemmas.List.{get_or_past, get_or-replicate, length-replicate}
use Rattle.xp_base.specs.declared.answer.SendAnswer.{SendAnswer}
use Rattle.xp_base.specs.declared.answer.DrainAnswer.{DrainAnswer}
use Rattle.xp_base.specs.declared.answer.ReleaseAnswer.{ReleaseAnswer}
use Rattle.xp_base.specs.declared.answer.UnregisterAnswer.TheVariants.{Ok as UnregisterOk}
use Rattle.xp_base.specs.declared.layout.TheConstants.{CHANNELS}
use Rattle.xp_base.specs.declared.reason.Reason.{Reason}
use Rattle.xp_base.specs.declared.reason.Reason.TheVariants.{Unregistered}
use Rattle.xp_base.specs.declared.step.Answer.{Answer}
use Rattle.xp_base.specs.declared.step.Answer.TheVariants.{Word, Failed}
use Rattle.xp_base.specs.History.{Act, Begun, Answered, Noticed, Turn, NoticeKind, Delivered, Ended}
use Rattle.xp_script.specs.declared.command.Command.{Command}
use Rattle.xp_script.specs.declared.command.Command.TheVariants as commands
use Rattle.xp_script.specs.declared.part.Link.{Link}
use Rattle.xp_script.specs.declared.part.ScenarioPart.{ScenarioPart}
use Rattle.xp_protocol.specs.declared.refusal.TakeRefusal.{TakeRefusal}
use Rattle.xp_protocol.specs.declared.rule.OwnRule.TheVariants.{ReadEngaged, TakeDeactivation}
use Rattle.xp_protocol.specs.declared.rule.PeerRule.TheVariants.{ZeroMagic, ClearOldBit}
use Rattle.xp_protocol.specs.declared.rule.Rule.{Rule}
use Rattle.xp_protocol.specs.declared.rule.Rule.TheVariants.{Link as ForLink, Peer as ForPeer, Own}
use Rattle.xp_protocol.specs.Effects.{Effect, just, Note, Withdrawn}
use Rattle.xp_protocol.specs.Pulling.{found_by, take_refusal}
use Rattle.xp_protocol.specs.Releasing.{message_released, release_refusal}
use Rattle.xp_protocol.specs.State.{State, Up, Peer, End, Old, Size, Area, cold_peer, idle_end, link_of, is_connected, peer_at, peer_of, end_of, warm_end, warm_peer, first_met, opened_new, each, link_at, base_peer, first_peers, opened_peers, opened_state}
use Rattle.xp_protocol.specs.Linking.{down_notes, down_end, close_now, channel_closed, booted_end}
use Rattle.xp_protocol.specs.Peering.{booted_peer}
use Rattle.xp_protocol.specs.Rules.{Can, after_answer, peers_after}
use Rattle.xp_protocol.specs.Acts.{say, refused_send, send_begun, take_begun, release_held, release_begun, drain_refusal, drain_begun, register_begun, unregister_begun, end_begun, taken_by, take_answered, end_answered, below, first_number, notice_due, Aim, EndName, named_end, upcoming, current, aim_of, aim_by, aimed, with_aim, command_begun, MayAct, after_act, MayActs, after_acts}
use Rattle.xp_protocol.specs.Runs.{turn_counted, restart_comes, stop_comes, moment_by, is_over, start, May, acted, after_turn}
use Rattle.xp_protocol.proofs.Slots.{at_each, at_peer, at_slot}
use Rattle.xp_protocol.proofs.Frames.{wanted_at, idle_at}
use Rattle.xp_sound.specs.Told.{IsTold, AllTold}
use Rattle.xp_sound.proofs.Ends.{all_quiet, down_quiet, release_quiet}

-- ---- one end
-- what decides whether a notice is due there
abbrev pub IsQuietBy : ℕ → List ℕ → List ℕ → Type 0
IsQuietBy get waiting ended = (below get waiting ≡ None) × (first_number ended ≡ None)

abbrev pub HasNone : End → Type 0
HasNone e = IsQuietBy e.sides.send.remote_get e.sides.pending_notices e.ended

none_due : (e : End) → IsTold e → HasNone e
none_due e h = (h Delivered, h Ended)

is_told : (e : End) → HasNone e → IsTold e
is_told e h Delivered = h.0
is_told e h Ended = h.1

abbrev pub Leaves : End → Effect End (List Note) → Type 0
Leaves e f = HasNone e → HasNone f.local

either : (z : Bool) (e : End) (f g : Effect End (List Note)) → Leaves e f → Leaves e g → Leaves e (cond z f g)
either true e f g a b = a
either false e f g a b = b

closes_now : (o : Option Reason) (reason : Reason) (e : End) → Leaves e (close_now o reason e)
closes_now (Some first) reason e h = h
closes_now None reason e h = all_quiet HasNone (λ x d k. k) (down_notes reason e) (down_end reason e) (down_quiet reason e.sides.send.send e.sides.pull.take e.sides.releasing e.sides.draining) h

-- a command is begun
sends_begun : (o : Option SendAnswer) (payload : List ℕ) (wait notify : Bool) (e : End) → Leaves e (send_begun o payload wait notify e)
sends_begun None payload wait notify e h = h
sends_begun (Some a) payload wait notify e h = h

takes_begun : (o : Option TakeRefusal) (wait : Bool) (e : End) → Leaves e (take_begun o wait e)
takes_begun None wait e h = h
takes_begun (Some a) wait e h = h

releases_begun : (o : Option ReleaseAnswer) (number : ℕ) (e : End) → Leaves e (release_begun o number e)
releases_begun None number e h =
    let new = message_released number e.sides.ack in
    let stays = nat_eq e.sides.ack.front new.front in
    all_quiet HasNone (λ x d k. k) (release_held stays number new) (record e { sides = record e.sides { ack = new; releasing = not stays } }) (release_quiet stays number new) h
releases_begun (Some a) number e h = h

drains_begun : (o : Option DrainAnswer) (e : End) → Leaves e (drain_begun o e)
drains_begun None e h = h
drains_begun (Some a) e h = h

registers_begun : (o : Option Size) (z : Size) (e : End) → Leaves e (register_begun o z e)
registers_begun None z e h = h
registers_begun (Some first) z e h = h

unregisters : (o : Option Size) (e : End) → Leaves e (unregister_begun o e)
unregisters None e h = h
unregisters (Some z) e h =
    let f = say (Withdrawn UnregisterOk ∷ []) (record e { registration = None }) in
    either (f.local.shake.sent.open_request && not (is_some f.local.shake.reason)) f.local (channel_closed Unregistered f.local) (just f.local) (closes_now f.local.shake.reason Unregistered f.local) (λ x. x) h

begins : (e : End) (x : Command) → Leaves e (end_begun e x)
begins e (commands.Send q c payload wait notify) h = sends_begun (refused_send e payload) payload wait notify e h
begins e (commands.Take q c wait) h = takes_begun (take_refusal (link_of e)) wait e h
begins e (commands.Release q c number) h = releases_begun (release_refusal (link_of e) number e.sides.ack) number e h
begins e (commands.Drain q c) h = drains_begun (drain_refusal (link_of e)) e h
begins e (commands.Register q c entries limit) h = registers_begun e.registration (record { entries = entries; limit = limit }) e h
begins e (commands.Unregister q c) h = unregisters e.registration e h
begins e (commands.Connected q c) h = h
begins e (commands.Closed q c) h = h
begins e (commands.Net frame) h = h
begins e (commands.Frames count) h = h
begins e (commands.Deactivate q) h = h
begins e (commands.Activate q) h = h
begins e commands.Leave h = h
begins e (commands.Idle turns) h = h
begins e commands.Offline h = h
begins e commands.Online h = h

-- a command is answered
takes_found : (e : End) (b : Bool) (t : Option Bool) (empty : Option ℕ) (cache : List (List ℕ)) → Leaves e (taken_by (cond b (found_by t (record e.sides.pull { empty = empty; cache = cache })) None) e)
takes_found e false t empty cache h = h
takes_found e true None empty cache h = h
takes_found e true (Some wait) (Some put) cache h = h
takes_found e true (Some wait) None [] h = h
takes_found e true (Some wait) None (body ∷ rest) h = h

take_leaves : (o : Option TakeRefusal) (e : End) → Leaves e (take_answered o e)
take_leaves None e h = takes_found e (is_connected e) e.sides.pull.take e.sides.pull.empty e.sides.pull.cache h
take_leaves (Some a) e h = h

answers : (e : End) (x : Command) → Leaves e (end_answered e x)
answers e (commands.Send q c payload wait notify) h = h
answers e (commands.Take q c wait) h = take_leaves e.decided.take e h
answers e (commands.Release q c number) h = h
answers e (commands.Drain q c) h = h
answers e (commands.Register q c entries limit) h = h
answers e (commands.Unregister q c) h = h
answers e (commands.Connected q c) h = h
answers e (commands.Closed q c) h = h
answers e (commands.Net frame) h = h
answers e (commands.Frames count) h = h
answers e (commands.Deactivate q) h = h
answers e (commands.Activate q) h = h
answers e commands.Leave h = h
answers e (commands.Idle turns) h = h
answers e commands.Offline h = h
answers e commands.Online h = h

-- ---- all ends
-- no notice is due for a partner
abbrev pub IsToldPeer : Peer → Type 0
IsToldPeer p = (c : ℕ) → c < CHANNELS → HasNone (link_at p.links c)

abbrev pub AreTold : ℕ → List Peer → Type 0
AreTold count peers = (q : ℕ) → q < count → IsToldPeer (peer_at peers q)

none_of : (s : ScenarioPart) (st : State) → AllTold s st → AreTold s.count st.peers
none_of s st h q l c k = none_due (end_of st q c) (h q c l k)

all_told : (s : ScenarioPart) (st : State) → AreTold s.count st.peers → AllTold s st
all_told s st h q c l k = is_told (end_of st q c) (h q l c k)

cold_told : (area : Area) → IsToldPeer (cold_peer area)
cold_told area c l = subst HasNone (sym (idle_at c)) (refl, refl)

module _ (s : ScenarioPart) (st : State) (h : AreTold s.count st.peers) where
  abbrev IsAimTold : Option Aim → Type 0
  IsAimTold None = Unit {0}
  IsAimTold (Some y) = y.partner < s.count → y.channel < CHANNELS → HasNone y.effect.local

  begun_by : (x : Command) (o : Option EndName) → IsAimTold (aim_by st end_begun x o)
  begun_by x None = tt
  begun_by x (Some e) = λ l k. begins (end_of st e.partner e.channel) x (h e.partner l e.channel k)

  begun_aim : (o : Option Command) → IsAimTold (aim_of st end_begun o)
  begun_aim None = tt
  begun_aim (Some x) = begun_by x (named_end x)

  answered_by_end : (x : Command) (o : Option EndName) → IsAimTold (aim_by st end_answered x o)
  answered_by_end x None = tt
  answered_by_end x (Some e) = λ l k. answers (end_of st e.partner e.channel) x (h e.partner l e.channel k)

  answered_aim : (o : Option Command) → IsAimTold (aim_of st end_answered o)
  answered_aim None = tt
  answered_aim (Some x) = answered_by_end x (named_end x)

  aim_peers : (o : Option Aim) → IsAimTold o → AreTold s.count (with_aim o st).peers
  aim_peers None k q l = h q l
  aim_peers (Some y) k q l =
      at_peer IsToldPeer st.peers y.partner _ q (λ e c m.
      let low : y.partner < s.count = subst (λ (j : ℕ). j < s.count) e l in
      at_slot HasNone (peer_of st y.partner).links y.channel c y.effect.local idle_end (λ f. k low (subst (λ (j : ℕ). j < CHANNELS) f m)) (h y.partner low c m)) (h q l)

  aimed_told : (x : Act) → IsAimTold (aimed s st x) → AreTold s.count (after_act s st x).peers
  aimed_told x k q l = wanted_at IsToldPeer (command_begun s st x) (with_aim (aimed s st x) st).peers q (λ p y. y) (λ p y. y) (aim_peers (aimed s st x) k q l)

  -- none is given, since none is due
  none_given : (how : NoticeKind) (e : End) (number : ℕ) → HasNone e → notice_due how e ≡ Some number → ⊥
  none_given Delivered e number k f = absurd (let g : Some number ≡ None = sym f ∙ k.0 in cc)
  none_given Ended e number k f = absurd (let g : Some number ≡ None = sym f ∙ k.1 in cc)

  act_told : (x : Act) → MayAct s st x → AreTold s.count (after_act s st x).peers
  act_told Begun may = aimed_told Begun (begun_aim (upcoming s st))
  act_told Answered may = aimed_told Answered (answered_aim (current s st))
  act_told (Noticed q c number how) may = absurd (none_given how (end_of st q c) number (h q may.1.0 c may.1.1) may.1.2)

  -- a boot begins with nothing to tell
  booted_told : (p : Peer) → IsToldPeer (booted_peer p)
  booted_told p c l = at_each HasNone (λ i e. booted_end e) p.links c idle_end (refl, refl) (λ k. (refl, refl))

  moved_told : (b stops : Bool) → AreTold s.count (moment_by s b stops st).peers
  moved_told true stops q l = at_each IsToldPeer (λ i p. booted_peer p) st.peers q (cold_peer Old) (booted_told (peer_at st.peers q)) (λ k. cold_told Old)
  moved_told false true q l = h q l
  moved_told false false q l = h q l

acts_leave : (s : ScenarioPart) (st : State) (acts : List Act) → MayActs s st acts → AreTold s.count st.peers → AreTold s.count (after_acts s st acts).peers
acts_leave s st [] may h = h
acts_leave s st (a ∷ acts) may h = acts_leave s (after_act s st a) acts may.1 (act_told s st h a may.0)

pub acts_told : (s : ScenarioPart) (st : State) (acts : List Act) → MayActs s st acts → AllTold s st → AllTold s (after_acts s st acts)
acts_told s st acts may h = all_told s (after_acts s st acts) (acts_leave s st acts may (none_of s st h))

pub turn_told : (s : ScenarioPart) (st : State) (t : Turn) → May s st t → AllTold s (after_turn s st t)
turn_told s st t may =
    let x = turn_counted (acted s st t) in
    all_told s (after_turn s st t) (moved_told s x (none_of s x (λ q c l k how. may.noticed q c how l k)) (restart_comes s st.clock.puts x && not (is_over x)) (stop_comes s st.clock.puts x && not (is_over x)))

-- ---- the opening
base_told : (ls : List Link) → IsToldPeer (base_peer ls)
base_told [] = cold_told Old
base_told (l ∷ ls) = cold_told Old

first_told : (n : ℕ) (ls : List Link) (q : ℕ) → IsToldPeer (peer_at (first_peers n ls) q)
unfolding first_peers
first_told n ls q = by (cases_lt q n) where
  by : (q < n) ⊎ (n ≤ q) → IsToldPeer (peer_at (replicate n (base_peer ls)) q)
  by (inl l) = subst IsToldPeer (sym (get_or-replicate n q (base_peer ls) (cold_peer Old) l)) (base_told ls)
  by (inr l) = subst IsToldPeer (sym (get_or_past (replicate n (base_peer ls)) q (cold_peer Old) (omega (arith, length-replicate {A = Peer} n (base_peer ls), l)))) (cold_told Old)

warm_told : (new : Bool) (l : Link) (p : Peer) → IsToldPeer p → IsToldPeer (warm_peer new l p)
warm_told new l p h c k =
    at_slot HasNone (each (λ i e. first_met new e) 0 p.links) l.channel c (warm_end new l) idle_end (λ e. (refl, refl))
    (at_each HasNone (λ i e. first_met new e) p.links c idle_end (h c k) (λ m. (refl, refl)))

links_told : (new : ℕ → Bool) (ls : List Link) (peers : List Peer) → ((q : ℕ) → IsToldPeer (peer_at peers q)) → (q : ℕ) → IsToldPeer (peer_at (opened_peers new ls peers) q)
links_told new [] peers h q = h q
links_told new (l ∷ ls) peers h q =
    let x = warm_peer (new l.partner) l (peer_at peers l.partner) in
    links_told new ls (set peers l.partner x) (λ j. at_peer IsToldPeer peers l.partner x j (λ e. warm_told (new l.partner) l (peer_at peers l.partner) (h l.partner)) (h j)) q

pub start_told : (s : ScenarioPart) → AllTold s (start s)
start_told s =
    let x = opened_state s in
    all_told s (start s) (moved_told s x (λ q l. links_told (opened_new s) s.links (first_peers s.count s.links) (λ j. first_told s.count s.links j) q) (restart_comes s 0 x && not (is_over x)) (stop_comes s 0 x && not (is_over x)))

-- ---- a boot
-- a step after which a partition isn't up leaves all ends
boot_peers : (s : ScenarioPart) (st : State) (r : Rule) (a : Answer) → AreTold s.count st.peers → Can s st r → ((after_answer s st r a).life ≡ Up → ⊥) → AreTold s.count (peers_after s st r a)
boot_peers s st (ForLink k c m) a h can n = absurd (n can.0)
boot_peers s st (ForPeer k ZeroMagic) (Word w) h can n = λ q l. at_peer IsToldPeer st.peers k _ q (λ e c m. subst (λ (j : ℕ). HasNone (end_of st j c)) e (h q l c m)) (h q l)
boot_peers s st (ForPeer k ClearOldBit) (Word w) h can n = λ q l. at_peer IsToldPeer st.peers k _ q (λ e c m. subst (λ (j : ℕ). HasNone (end_of st j c)) e (h q l c m)) (h q l)
boot_peers s st (ForPeer k ZeroMagic) Failed h can n = λ q l. at_peer IsToldPeer st.peers k _ q (λ e c m. subst (λ (j : ℕ). HasNone (end_of st j c)) e (h q l c m)) (h q l)
boot_peers s st (ForPeer k ClearOldBit) Failed h can n = λ q l. at_peer IsToldPeer st.peers k _ q (λ e c m. subst (λ (j : ℕ). HasNone (end_of st j c)) e (h q l c m)) (h q l)
boot_peers s st (ForPeer k m) a h can n = absurd (n can.0)
boot_peers s st (Own ReadEngaged) (Word w) h can n = absurd (n can.0)
boot_peers s st (Own TakeDeactivation) (Word w) h can n = absurd (n can.0)
boot_peers s st (Own m) (Word w) h can n = h
boot_peers s st (Own m) Failed h can n = h

pub boot_told : (s : ScenarioPart) (st : State) (r : Rule) (a : Answer) → Can s st r → ((after_answer s st r a).life ≡ Up → ⊥) → AllTold s st → AllTold s (after_answer s st r a)
boot_told s st r a can n h = all_told s (after_answer s st r a) (boot_peers s st r a (none_of s st h) can n)
