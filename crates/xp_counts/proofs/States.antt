-- The counts of what a partition knows, after each step, each act, each turn, and from the opening on.
use Rattle.std.proofs.Common.{◌≡◌, ℕ, ◌+◌, ◌-◌, ◌*◌, ◌^◌, ◌<◌, ◌≤◌, Bool, true, false, ◌&&◌, not, cond, eqb, List, [], ◌∷◌, length, replicate, set, refl, ap, sym, ◌∙◌, subst, arith, add-one, Option, Some, None, inl, inr, ◌⊎◌}
use Rattle.std.specs.List.{AllByRecursion}
use Rattle.std.proofs.lemmas.Bool.{cases_lt}
use Rattle.std.proofs.lemmas.Nat.{mul-le}
use Rattle.std.proofs.Math.Nat.{mul-suc}
use Rattle.std.proofs.lemmas.List.{get_or_past, get_or-replicate, length-replicate}
use Rattle.xp_base.specs.declared.step.Answer.{Answer}
use Rattle.xp_base.specs.declared.step.Answer.TheVariants.{Word, Failed}
use Rattle.xp_base.specs.declared.step.CopyKind.{CopyKind}
use Rattle.xp_base.specs.declared.step.CopyKind.TheVariants.{Counters, Get, Entries, Page as PageCopy, Beat as BeatCopy, Record as RecordCopy, Args}
use Rattle.xp_base.specs.History.{Act, Begun, Answered, Noticed, Marked, Turn, NoticeKind}
use Rattle.xp_script.specs.declared.command.Command.{Command}
use Rattle.xp_script.specs.declared.command.Command.TheVariants as commands
use Rattle.xp_script.specs.declared.part.Link.{Link}
use Rattle.xp_script.specs.declared.part.ScenarioPart.{ScenarioPart}
use Rattle.xp_protocol.specs.declared.rule.RingRule.TheVariants.{ReadGet, WriteEntryWord, AcceptMessage}
use Rattle.xp_protocol.specs.declared.rule.LinkRule.TheVariants.{Ring, Pull, Acknowledge, SetFlag, ZeroGet, ZeroPut, StoreArgument, ReadArgument}
use Rattle.xp_protocol.specs.declared.rule.OwnRule.TheVariants.{ReadEngaged, TakeDeactivation, ReadStamp, ZeroMask, ZeroOffline, WriteStamp, StoreMask, TakeActivation, StoreBeat, StoreOffline}
use Rattle.xp_protocol.specs.declared.rule.Rule.{Rule}
use Rattle.xp_protocol.specs.declared.rule.Rule.TheVariants.{Link as ForLink, Peer as ForPeer, Own}
use Rattle.xp_protocol.specs.Effects.{Copied}
use Rattle.xp_protocol.specs.State.{State, Beats, Clock, Script, Copies, Peer, End, Old, cold_peer, idle_end, peer_at, peer_of, end_of, warm_end, warm_peer, first_met, opened_new, each, link_at, base_peer, first_peers, opened_peers, opened_state}
use Rattle.xp_protocol.specs.Peering.{or_zero, peer_read, deactivation_heard, booted_peer}
use Rattle.xp_protocol.specs.Rules.{here_of, mark_of, place_for, row_of, after_answer, peer_numbered, peer_answered, link_answered, beats_after, offline_by, puts_after, one_more, counted}
use Rattle.xp_protocol.specs.Decode.{rule_of}
use Rattle.xp_protocol.specs.Acts.{Aim, has_stored, EndName, named_end, upcoming, current, end_begun, end_answered, aim_of, aim_by, aimed, with_aim, command_begun, peers_wanted, after_act, after_acts}
use Rattle.xp_protocol.specs.Runs.{after_ruled, after_step, turn_counted, restart_comes, stop_comes, moment_by, moment, is_over, start, acted, after_turn, state_after}
use Rattle.xp_protocol.proofs.Slots.{at_each, at_peer, at_slot}
use Rattle.xp_protocol.proofs.Frames.{wanted_at, idle_at}
use Rattle.xp_counts.specs.declared.laws.TheConstants.{COUNTED_TURNS, MOST_CALLS}
use Rattle.xp_counts.specs.Counted.{IsEndCounted, IsPeerCounted, AreCopiesCounted, IsClockCounted, IsScriptCounted, IsBeatsCounted, AreCounted, calls_in, raised_by, HasCalls, IsBounded}
use Rattle.xp_counts.proofs.Ends.{idle_counted, warm_counted, linked, answers, notices, begins}
use Rattle.xp_counts.proofs.Peers.{more_peer, cold_counted, peered, numbered, failed, reasoned, freed, told, set_counted, booted}

more_copies : (a b : ℕ) (x : Copies) → a ≤ b → AreCopiesCounted a x → AreCopiesCounted b x
more_copies a b x l h = record {
  pages = omega (arith, h.pages, l);
  beats = omega (arith, h.beats, l);
  records = omega (arith, h.records, l);
  args = omega (arith, h.args, l);
  counters = omega (arith, h.counters, l);
  get = omega (arith, h.get, l);
  entries = omega (arith, h.entries, l);
}

more_clock : (a b : ℕ) (x : Clock) → a ≤ b → IsClockCounted a x → IsClockCounted b x
more_clock a b x l h = record { boots = omega (arith, h.boots, l); turns = omega (arith, h.turns, l); puts = omega (arith, h.puts, l); copies = more_copies a b x.copies l h.copies }

more_script : (a b : ℕ) (x : Script) → a ≤ b → IsScriptCounted a x → IsScriptCounted b x
more_script a b x l h = record { begun = omega (arith, h.begun, l); since = omega (arith, h.since, l) }

more_beats : (a b : ℕ) (x : Beats) → a ≤ b → IsBeatsCounted a x → IsBeatsCounted b x
more_beats a b x l h = record { offline = omega (arith, h.offline, l); stored_for = omega (arith, h.stored_for, l) }

pub more_counted : (a b : ℕ) (st : State) → a ≤ b → AreCounted a st → AreCounted b st
more_counted a b st l h = record { clock = more_clock a b st.clock l h.clock; beats = more_beats a b st.beats l h.beats; script = more_script a b st.script l h.script; peers = λ q. more_peer a b (peer_of st q) l (h.peers q) }

module _ (n : ℕ) where
  one_copy : (kind : CopyKind) (x : Copies) → AreCopiesCounted n x → AreCopiesCounted (n + 1) (one_more kind x)
  one_copy Args x h = let k = more_copies n (n + 1) x (omega arith) h in let l = h.args in record { pages = k.pages; beats = k.beats; records = k.records; args = omega (arith, l); counters = k.counters; get = k.get; entries = k.entries }
  one_copy Counters x h = let k = more_copies n (n + 1) x (omega arith) h in let l = h.counters in record { pages = k.pages; beats = k.beats; records = k.records; args = k.args; counters = omega (arith, l); get = k.get; entries = k.entries }
  one_copy Get x h = let k = more_copies n (n + 1) x (omega arith) h in let l = h.get in record { pages = k.pages; beats = k.beats; records = k.records; args = k.args; counters = k.counters; get = omega (arith, l); entries = k.entries }
  one_copy Entries x h = let k = more_copies n (n + 1) x (omega arith) h in let l = h.entries in record { pages = k.pages; beats = k.beats; records = k.records; args = k.args; counters = k.counters; get = k.get; entries = omega (arith, l) }
  one_copy RecordCopy x h = let k = more_copies n (n + 1) x (omega arith) h in let l = h.records in record { pages = k.pages; beats = k.beats; records = omega (arith, l); args = k.args; counters = k.counters; get = k.get; entries = k.entries }
  one_copy PageCopy x h = let k = more_copies n (n + 1) x (omega arith) h in let l = h.pages in record { pages = omega (arith, l); beats = k.beats; records = k.records; args = k.args; counters = k.counters; get = k.get; entries = k.entries }
  one_copy BeatCopy x h = let k = more_copies n (n + 1) x (omega arith) h in let l = h.beats in record { pages = k.pages; beats = omega (arith, l); records = k.records; args = k.args; counters = k.counters; get = k.get; entries = k.entries }
  one_copy kind x h = more_copies n (n + 1) x (omega arith) h

  copy_counted : (o : Option Copied) (x : Copies) → AreCopiesCounted n x → AreCopiesCounted (n + 1) (counted o x)
  copy_counted None x h = more_copies n (n + 1) x (omega arith) h
  copy_counted (Some y) x h = by (eqb y.word 0) where
    by : (b : Bool) → AreCopiesCounted (n + 1) (cond b (one_more y.kind x) x)
    by true = one_copy y.kind x h
    by false = more_copies n (n + 1) x (omega arith) h

  one_put : (r : Rule) (a : Answer) (puts : ℕ) → puts_after r a puts ≤ puts + 1
  one_put (ForLink q c (Ring AcceptMessage)) (Word w) puts = omega arith
  one_put (ForLink q c (Ring AcceptMessage)) Failed puts = omega arith
  one_put (ForLink q c (Ring ReadGet)) a puts = omega arith
  one_put (ForLink q c (Ring (WriteEntryWord f))) a puts = omega arith
  one_put (ForLink q c (Pull m)) a puts = omega arith
  one_put (ForLink q c Acknowledge) a puts = omega arith
  one_put (ForLink q c (SetFlag k)) a puts = omega arith
  one_put (ForLink q c ZeroGet) a puts = omega arith
  one_put (ForLink q c ZeroPut) a puts = omega arith
  one_put (ForLink q c (StoreArgument x)) a puts = omega arith
  one_put (ForLink q c (ReadArgument x)) a puts = omega arith
  one_put (ForPeer q m) a puts = omega arith
  one_put (Own m) a puts = omega arith

-- a command raises the offline count by one at most
offline_low : (o : Option Command) (count : ℕ) → or_zero (offline_by o count) ≤ count + 1
offline_low (Some commands.Offline) count = omega arith
offline_low (Some commands.Online) count = by (eqb count 0) where
  by : (b : Bool) → or_zero (cond b None (Some (count - 1))) ≤ count + 1
  by true = omega arith
  by false = omega arith
offline_low o count = omega arith

module _ (s : ScenarioPart) (st : State) (n : ℕ) (h : AreCounted n st) where
  up : (q : ℕ) → IsPeerCounted (n + 1) (peer_of st q)
  up q = more_peer n (n + 1) (peer_of st q) (omega arith) (h.peers q)

  -- ---- steps
  now : st.clock.turns + 1 ≤ n + 1
  now = let l = h.clock.turns in omega (arith, l)

  rule_peers : (r : Rule) (a : Answer) (q : ℕ) → IsPeerCounted (n + 1) (peer_of (after_answer s st r a) q)
  rule_peers (ForLink k c m) a q =
      let mark = mark_of s st (ForLink k c m) in
      let f = link_answered mark (place_for s c) (end_of st k c) m a in
      at_peer (IsPeerCounted (n + 1)) st.peers k _ q (λ e. set_counted (n + 1) (peer_of st k) _ c f.local refl refl refl refl (linked n mark (place_for s c) (end_of st k c) m a ((h.peers k).ends c)) (up k)) (up q)
  rule_peers (ForPeer k m) (Word w) q =
      let mark = mark_of s st (ForPeer k m) in
      let f = peer_answered (here_of s st k) mark (peer_of st k) m (Word w) in
      at_peer (IsPeerCounted (n + 1)) st.peers k _ q (λ e. reasoned n f.reason (n + 1) f.local (peered n (here_of s st k) (peer_numbered mark (peer_of st k)) m w now (numbered n mark (peer_of st k) (h.peers k)))) (up q)
  rule_peers (ForPeer k m) Failed q =
      let mark = mark_of s st (ForPeer k m) in
      let f = peer_answered (here_of s st k) mark (peer_of st k) m Failed in
      at_peer (IsPeerCounted (n + 1)) st.peers k _ q (λ e. reasoned n f.reason (n + 1) f.local (failed n (here_of s st k).turn mark (peer_of st k) now (h.peers k))) (up q)
  rule_peers (Own ReadEngaged) (Word w) q = at_each (IsPeerCounted (n + 1)) (λ i p. (peer_read w i p).local) st.peers q (cold_peer Old) (freed n w q (peer_of st q) (h.peers q)) (λ l. cold_counted n (n + 1) Old)
  rule_peers (Own TakeDeactivation) (Word w) q = at_each (IsPeerCounted (n + 1)) (λ i p. (deactivation_heard w i p).local) st.peers q (cold_peer Old) (told n w q (peer_of st q) (h.peers q)) (λ l. cold_counted n (n + 1) Old)
  rule_peers (Own ReadStamp) (Word w) q = up q
  rule_peers (Own ZeroMask) (Word w) q = up q
  rule_peers (Own ZeroOffline) (Word w) q = up q
  rule_peers (Own WriteStamp) (Word w) q = up q
  rule_peers (Own StoreMask) (Word w) q = up q
  rule_peers (Own TakeActivation) (Word w) q = up q
  rule_peers (Own StoreBeat) (Word w) q = up q
  rule_peers (Own StoreOffline) (Word w) q = up q
  rule_peers (Own m) Failed q = up q

  asked_low : (b : Bool) → or_zero (cond b (offline_by (current s st) st.beats.offline) None) ≤ n + 1
  asked_low true = let l = offline_low (current s st) st.beats.offline in let k = h.beats.offline in omega (arith, l, k)
  asked_low false = omega arith

  rule_beats : (r : Rule) (a : Answer) → IsBeatsCounted (n + 1) (beats_after s st r a)
  rule_beats (Own StoreOffline) (Word w) = let l = h.script.begun in record { offline = asked_low (st.script.doing && not (has_stored st)); stored_for = omega (arith, l) }
  rule_beats (Own StoreMask) (Word w) = let k = more_beats n (n + 1) st.beats (omega arith) h.beats in record { offline = k.offline; stored_for = k.stored_for }
  rule_beats (Own StoreBeat) (Word w) = let k = more_beats n (n + 1) st.beats (omega arith) h.beats in record { offline = k.offline; stored_for = k.stored_for }
  rule_beats (Own m) (Word w) = more_beats n (n + 1) st.beats (omega arith) h.beats
  rule_beats (Own m) Failed = more_beats n (n + 1) st.beats (omega arith) h.beats
  rule_beats (ForLink q c m) a = more_beats n (n + 1) st.beats (omega arith) h.beats
  rule_beats (ForPeer q m) a = more_beats n (n + 1) st.beats (omega arith) h.beats

  pub step_counted : (r : Rule) (a : Answer) → AreCounted (n + 1) (after_answer s st r a)
  step_counted r a =
      let k = more_clock n (n + 1) st.clock (omega arith) h.clock in
      let l = h.clock.puts in
      let p = one_put n r a st.clock.puts in
      record {
        clock = record { boots = k.boots; turns = k.turns; puts = omega (arith, l, p); copies = copy_counted n (row_of s st r).copy st.clock.copies h.clock.copies };
        beats = rule_beats r a;
        script = more_script n (n + 1) st.script (omega arith) h.script;
        peers = λ q. rule_peers r a q;
      }

  ruled_counted : (o : Option Rule) (a : Answer) → AreCounted (n + 1) (after_ruled s st o a)
  ruled_counted None a = more_counted n (n + 1) st (omega arith) h
  ruled_counted (Some r) a = step_counted r a

  pub made_counted : (o : Option Marked) → AreCounted (n + 1) (after_step s st o)
  made_counted None = more_counted n (n + 1) st (omega arith) h
  made_counted (Some x) = ruled_counted (rule_of s st x.step.op x.mark) x.step.answer

  -- ---- acts
  abbrev IsAimCounted : ℕ → Option Aim → Type 0
  IsAimCounted m None = Unit {0}
  IsAimCounted m (Some y) = IsEndCounted m y.effect.local

  begun_by : (x : Command) (o : Option EndName) → IsAimCounted (n + 1) (aim_by st end_begun x o)
  begun_by x None = tt
  begun_by x (Some e) = begins n (end_of st e.partner e.channel) x ((h.peers e.partner).ends e.channel)

  begun_aim : (o : Option Command) → IsAimCounted (n + 1) (aim_of st end_begun o)
  begun_aim None = tt
  begun_aim (Some x) = begun_by x (named_end x)

  answered_by_end : (x : Command) (o : Option EndName) → IsAimCounted (n + 1) (aim_by st end_answered x o)
  answered_by_end x None = tt
  answered_by_end x (Some e) = answers n (end_of st e.partner e.channel) x ((h.peers e.partner).ends e.channel)

  answered_aim : (o : Option Command) → IsAimCounted (n + 1) (aim_of st end_answered o)
  answered_aim None = tt
  answered_aim (Some x) = answered_by_end x (named_end x)

  aim_peers : (m : ℕ) (o : Option Aim) → ((q : ℕ) → IsPeerCounted m (peer_of st q)) → IsAimCounted m o → (q : ℕ) → IsPeerCounted m (peer_of (with_aim o st) q)
  aim_peers m None all k q = all q
  aim_peers m (Some y) all k q = at_peer (IsPeerCounted m) st.peers y.partner _ q (λ e. set_counted m (peer_of st y.partner) _ y.channel y.effect.local refl refl refl refl k (all y.partner)) (all q)

  aim_clock : (o : Option Aim) → (with_aim o st).clock ≡ st.clock
  aim_clock None = refl
  aim_clock (Some y) = refl

  aim_beats : (o : Option Aim) → (with_aim o st).beats ≡ st.beats
  aim_beats None = refl
  aim_beats (Some y) = refl

  wanted_counted : (m : ℕ) (o : Option Command) (peers : List Peer) (q : ℕ) → IsPeerCounted m (peer_at peers q) → IsPeerCounted m (peer_at (peers_wanted o peers) q)
  wanted_counted m o peers q k = wanted_at (IsPeerCounted m) o peers q (λ p x. record { count = x.count; cleared = x.cleared; since = x.since; ends = x.ends }) (λ p x. record { count = x.count; cleared = x.cleared; since = x.since; ends = x.ends }) k

  acted_by : (m : ℕ) (x : Act) → n ≤ m → IsAimCounted m (aimed s st x) → IsScriptCounted m (after_act s st x).script → AreCounted m (after_act s st x)
  acted_by m x l k script = record {
    clock = subst (λ (c : Clock). IsClockCounted m c) (sym (aim_clock (aimed s st x))) (more_clock n m st.clock l h.clock);
    beats = subst (λ (b : Beats). IsBeatsCounted m b) (sym (aim_beats (aimed s st x))) (more_beats n m st.beats l h.beats);
    script = script;
    peers = λ q. wanted_counted m (command_begun s st x) (with_aim (aimed s st x) st).peers q (aim_peers m (aimed s st x) (λ j. more_peer n m (peer_of st j) l (h.peers j)) k q);
  }

  pub act_begun : AreCounted (n + 1) (after_act s st Begun)
  act_begun = let a = h.script.begun in let b = h.clock.turns in acted_by (n + 1) Begun (omega arith) (begun_aim (upcoming s st)) (record { begun = omega (arith, a); since = omega (arith, b) })

  pub act_answered : AreCounted (n + 1) (after_act s st Answered)
  act_answered = let a = h.script.begun in let b = h.script.since in acted_by (n + 1) Answered (omega arith) (answered_aim (current s st)) (record { begun = omega (arith, a); since = omega (arith, b) })

  pub act_noticed : (q c number : ℕ) (how : NoticeKind) → AreCounted n (after_act s st (Noticed q c number how))
  act_noticed q c number how = acted_by n (Noticed q c number how) (omega arith) (notices n (end_of st q c) how number ((h.peers q).ends c)) h.script

  -- ---- the end of a turn
  moved : (m : ℕ) (b stops : Bool) (x : State) → IsClockCounted m (record x.clock { boots = x.clock.boots + 1 }) → AreCounted m x → AreCounted m (moment_by s b stops x)
  moved m true stops x c k = record {
    clock = c;
    beats = record { offline = omega arith; stored_for = omega arith };
    script = record { begun = omega arith; since = omega arith };
    peers = λ q. at_each (IsPeerCounted m) (λ i p. booted_peer p) x.peers q (cold_peer Old) (booted m (peer_at x.peers q)) (λ l. cold_counted m m Old);
  }
  moved m false true x c k = record { clock = k.clock; beats = k.beats; script = k.script; peers = k.peers }
  moved m false false x c k = k

  pub ended : (earlier : ℕ) → AreCounted (n + 1) (moment s earlier (turn_counted st))
  ended earlier =
      let x = turn_counted st in
      let k = more_counted n (n + 1) st (omega arith) h in
      let c = k.clock in
      let t = h.clock.turns in
      let b = h.clock.boots in
      moved (n + 1) (restart_comes s earlier x && not (is_over x)) (stop_comes s earlier x && not (is_over x)) x
      (record { boots = omega (arith, b); turns = omega (arith, t); puts = c.puts; copies = c.copies })
      (record { clock = record { boots = c.boots; turns = omega (arith, t); puts = c.puts; copies = c.copies }; beats = k.beats; script = k.script; peers = k.peers })

-- ---- turns
pub acts_counted : (s : ScenarioPart) (st : State) (acts : List Act) (n : ℕ) → AreCounted n st → AreCounted (n + calls_in acts) (after_acts s st acts)
acts_counted s st [] n h = more_counted n (n + 0) st (omega arith) h
acts_counted s st (Begun ∷ acts) n h = more_counted (n + 1 + calls_in acts) (n + (calls_in acts + 1)) (after_acts s (after_act s st Begun) acts) (omega arith) (acts_counted s (after_act s st Begun) acts (n + 1) (act_begun s st n h))
acts_counted s st (Answered ∷ acts) n h = more_counted (n + 1 + calls_in acts) (n + (calls_in acts + 1)) (after_acts s (after_act s st Answered) acts) (omega arith) (acts_counted s (after_act s st Answered) acts (n + 1) (act_answered s st n h))
acts_counted s st (Noticed q c number how ∷ acts) n h = acts_counted s (after_act s st (Noticed q c number how)) acts n (act_noticed s st n h q c number how)

pub turn_counts : (s : ScenarioPart) (st : State) (t : Turn) (n : ℕ) → AreCounted n st → AreCounted (n + raised_by t) (after_turn s st t)
turn_counts s st t n h =
    let a = acts_counted s st t.before n h in
    let b = made_counted s (after_acts s st t.before) (n + calls_in t.before) a t.made in
    let c = acts_counted s (after_step s (after_acts s st t.before) t.made) t.after (n + calls_in t.before + 1) b in
    let d = ended s (acted s st t) (n + calls_in t.before + 1 + calls_in t.after) c st.clock.puts in
    more_counted (n + calls_in t.before + 1 + calls_in t.after + 1) (n + raised_by t) (after_turn s st t) (omega arith) d

-- ---- the opening
base_counted : (ls : List Link) → IsPeerCounted 1 (base_peer ls)
base_counted [] = record { count = omega arith; cleared = λ turn e. absurd (cc); since = omega arith; ends = λ c. subst (λ (x : End). IsEndCounted 1 x) (sym (idle_at c)) (idle_counted 1) }
base_counted (l ∷ ls) = record { count = omega arith; cleared = λ turn e. absurd (cc); since = omega arith; ends = λ c. subst (λ (x : End). IsEndCounted 1 x) (sym (idle_at c)) (idle_counted 1) }

first_counted : (n : ℕ) (ls : List Link) (q : ℕ) → IsPeerCounted 1 (peer_at (first_peers n ls) q)
unfolding first_peers
first_counted n ls q = by (cases_lt q n) where
  by : (q < n) ⊎ (n ≤ q) → IsPeerCounted 1 (peer_at (replicate n (base_peer ls)) q)
  by (inl l) = subst (IsPeerCounted 1) (sym (get_or-replicate n q (base_peer ls) (cold_peer Old) l)) (base_counted ls)
  by (inr l) = subst (IsPeerCounted 1) (sym (get_or_past (replicate n (base_peer ls)) q (cold_peer Old) (omega (arith, length-replicate {A = Peer} n (base_peer ls), l)))) (cold_counted 0 1 Old)

met_counted : (new : Bool) (e : End) → IsEndCounted 1 e → IsEndCounted 1 (first_met new e)
met_counted new e h = h

warm_peer_counted : (new : Bool) (l : Link) (p : Peer) → IsPeerCounted 1 p → IsPeerCounted 1 (warm_peer new l p)
warm_peer_counted new l p h = record {
  count = omega arith;
  cleared = λ turn e. absurd (cc);
  since = h.since;
  ends = λ c. at_slot (λ (x : End). IsEndCounted 1 x) (each (λ i e. first_met new e) 0 p.links) l.channel c (warm_end new l) idle_end (λ e. warm_counted 1 new l)
      (at_each (λ (x : End). IsEndCounted 1 x) (λ i e. first_met new e) p.links c idle_end (met_counted new (link_at p.links c) (h.ends c)) (λ k. idle_counted 1));
}

links_counted : (new : ℕ → Bool) (ls : List Link) (peers : List Peer) → ((q : ℕ) → IsPeerCounted 1 (peer_at peers q)) → (q : ℕ) → IsPeerCounted 1 (peer_at (opened_peers new ls peers) q)
links_counted new [] peers h q = h q
links_counted new (l ∷ ls) peers h q = links_counted new ls (set peers l.partner (warm_peer (new l.partner) l (peer_at peers l.partner))) (λ j. at_peer (IsPeerCounted 1) peers l.partner (warm_peer (new l.partner) l (peer_at peers l.partner)) j (λ e. warm_peer_counted (new l.partner) l (peer_at peers l.partner) (h l.partner)) (h j)) q

opened_counted : (s : ScenarioPart) → AreCounted 1 (opened_state s)
opened_counted s = record {
  clock = record { boots = omega arith; turns = omega arith; puts = omega arith; copies = record { pages = omega arith; beats = omega arith; records = omega arith; args = omega arith; counters = omega arith; get = omega arith; entries = omega arith } };
  beats = record { offline = omega arith; stored_for = omega arith };
  script = record { begun = omega arith; since = omega arith };
  peers = λ q. links_counted (opened_new s) s.links (first_peers s.count s.links) (λ j. first_counted s.count s.links j) q;
}

pub start_counted : (s : ScenarioPart) → AreCounted 2 (start s)
start_counted s =
    let x = opened_state s in
    let h = opened_counted s in
    let k = more_counted 1 2 x (omega arith) h in
    moved s x 1 h 2 (restart_comes s 0 x && not (is_over x)) (stop_comes s 0 x && not (is_over x)) x (record { boots = omega arith; turns = omega arith; puts = omega arith; copies = k.clock.copies }) k

-- ---- the counts are bounded by the turns
act_turns : (s : ScenarioPart) (st : State) (acts : List Act) → (after_acts s st acts).clock.turns ≡ st.clock.turns
act_turns s st [] = refl
act_turns s st (a ∷ acts) = act_turns s (after_act s st a) acts ∙ by (aimed s st a) where
  by : (o : Option Aim) → (with_aim o st).clock.turns ≡ st.clock.turns
  by None = refl
  by (Some y) = refl

made_turns : (s : ScenarioPart) (st : State) (o : Option Marked) → (after_step s st o).clock.turns ≡ st.clock.turns
made_turns s st None = refl
made_turns s st (Some x) = by (rule_of s st x.step.op x.mark) where
  by : (o : Option Rule) → (after_ruled s st o x.step.answer).clock.turns ≡ st.clock.turns
  by None = refl
  by (Some r) = refl

moment_turns : (s : ScenarioPart) (b stops : Bool) (st : State) → (moment_by s b stops st).clock.turns ≡ st.clock.turns
moment_turns s true stops st = refl
moment_turns s false true st = refl
moment_turns s false false st = refl

turns_after : (s : ScenarioPart) (st : State) (t : Turn) → (after_turn s st t).clock.turns ≡ st.clock.turns + 1
turns_after s st t =
    let x = turn_counted (acted s st t) in
    moment_turns s (restart_comes s st.clock.puts x && not (is_over x)) (stop_comes s st.clock.puts x && not (is_over x)) x
    ∙ ap (λ (k : ℕ). k + 1) (act_turns s (after_step s (after_acts s st t.before) t.made) t.after ∙ (made_turns s (after_acts s st t.before) t.made ∙ act_turns s st t.before))

start_turns : (s : ScenarioPart) → (start s).clock.turns ≡ 0
start_turns s = let x = opened_state s in moment_turns s (restart_comes s 0 x && not (is_over x)) (stop_comes s 0 x && not (is_over x)) x

pub start_bounded : (s : ScenarioPart) (most : ℕ) → IsBounded most (start s)
start_bounded s most = more_counted 2 ((most + 2) * (start s).clock.turns + 2) (start s) (low ((most + 2) * (start s).clock.turns)) (start_counted s) where
  low : (x : ℕ) → 2 ≤ x + 2
  low x = omega arith

pub turn_bounded : (s : ScenarioPart) (st : State) (t : Turn) (most : ℕ) → HasCalls most t → IsBounded most st → IsBounded most (after_turn s st t)
turn_bounded s st t most few h =
    let n = (most + 2) * st.clock.turns + 2 in
    more_counted (n + raised_by t) ((most + 2) * (after_turn s st t).clock.turns + 2) (after_turn s st t) (subst (λ (k : ℕ). n + raised_by t ≤ (most + 2) * k + 2) (sym (turns_after s st t)) (one (most + 2) st.clock.turns (raised_by t) (omega (arith, few)))) (turn_counts s st t n h) where
      one : (a k r : ℕ) → r ≤ a → a * k + 2 + r ≤ a * (k + 1) + 2
      one a k r l = let e : a * (k + 1) ≡ a * k + a = ap (λ (j : ℕ). a * j) (add-one k) ∙ mul-suc a k in omega (arith, e, l)

bounded_from : (s : ScenarioPart) (st : State) (turns : List Turn) (most : ℕ) → AllByRecursion (HasCalls most) turns → IsBounded most st → IsBounded most (state_after s st turns)
bounded_from s st [] most few h = h
bounded_from s st (t ∷ turns) most few h = bounded_from s (after_turn s st t) turns most few.1 (turn_bounded s st t most few.0 h)

turns_from : (s : ScenarioPart) (st : State) (turns : List Turn) → (state_after s st turns).clock.turns ≡ st.clock.turns + length turns
turns_from s st [] = omega arith
turns_from s st (t ∷ turns) = let e = turns_from s (after_turn s st t) turns in let f = turns_after s st t in omega (arith, e, f)

pub history_bounded : (s : ScenarioPart) (turns : List Turn) (most : ℕ) → AllByRecursion (HasCalls most) turns → AreCounted ((most + 2) * length turns + 2) (state_after s (start s) turns)
history_bounded s turns most few =
    let e : (state_after s (start s) turns).clock.turns ≡ length turns = (let a = turns_from s (start s) turns in let b = start_turns s in omega (arith, a, b)) in
    subst (λ (k : ℕ). AreCounted ((most + 2) * k + 2) (state_after s (start s) turns)) e (bounded_from s (start s) turns most few (start_bounded s most))

pub counts_low : (st : State) (most : ℕ) → most ≤ MOST_CALLS → st.clock.turns ≤ COUNTED_TURNS → IsBounded most st → AreCounted (2 ^ 63) st
counts_low st most a b h = more_counted ((most + 2) * st.clock.turns + 2) (2 ^ 63) st (low most st.clock.turns a b) h where
  low : (m t : ℕ) → m ≤ MOST_CALLS → t ≤ COUNTED_TURNS → (m + 2) * t + 2 ≤ 2 ^ 63
  low m t a b = let e : m + 2 ≤ MOST_CALLS + 2 = omega (arith, a) in let f : (m + 2) * t ≤ (MOST_CALLS + 2) * COUNTED_TURNS = mul-le (m + 2) t (MOST_CALLS + 2) COUNTED_TURNS e b in omega (arith, f)
