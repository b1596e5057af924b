-- What a partition knows of the words that it stores, after each rule, each act and each moment.
use Rattle.std.proofs.lemmas.Bool.{eq-eqb}
use Rattle.std.proofs.Common.{◌≡◌, ℕ, ◌+◌, ◌^◌, ◌<◌, ◌≤◌, Bool, true, false, ◌&&◌, not, cond, eqb, ltb, length, set, refl, sym, ◌∙◌, subst, arith, Option, Some, None}
use Rattle.std.specs.Prelude.{slice_get, IsSome, ◌-◌}
use Rattle.xp_base.specs.declared.body.TheConstants.{LINE_BYTES}
use Rattle.xp_base.specs.declared.step.Answer.{Answer}
use Rattle.xp_base.specs.declared.step.Answer.TheVariants.{Word, Failed}
use Rattle.xp_base.specs.History.{Act, Begun, Answered, Noticed}
use Rattle.xp_script.specs.declared.command.Command.{Command}
use Rattle.xp_script.specs.declared.command.Command.TheVariants.{Offline, Online}
use Rattle.xp_script.specs.declared.part.ScenarioPart.{ScenarioPart}
use Rattle.xp_protocol.specs.declared.rule.OwnRule.TheVariants.{ReadEngaged, TakeDeactivation, ReadStamp, ZeroMask, ZeroOffline, WriteStamp, StoreMask, TakeActivation, StoreBeat, StoreOffline}
use Rattle.xp_protocol.specs.declared.rule.Rule.{Rule}
use Rattle.xp_protocol.specs.declared.rule.Rule.TheVariants.{Link, Peer as ForPeer, Own}
use Rattle.xp_protocol.specs.Parts.{script_in}
use Rattle.xp_protocol.specs.Peering.{peer_read, deactivation_heard, booted_peer, or_zero}
use Rattle.xp_protocol.specs.State.{State, Beats, Life, Booting, Up, Halted, Peer, Old, cold_peer, peer_of, end_of}
use Rattle.xp_protocol.specs.Rules.{Can, here_of, mark_of, place_for, after_answer, beats_after, offline_asked, offline_by, peer_numbered}
use Rattle.xp_protocol.specs.Acts.{Aim, MayAct, has_stored, after_act, command_begun, aimed, aim_of, aim_by, EndName, named_end, upcoming, current, end_begun, end_answered, with_aim}
use Rattle.xp_protocol.specs.Runs.{turned, restart_comes, stop_comes, moment_by, moment, is_over}
use Rattle.xp_protocol.proofs.Slots.{at_each, at_peer}
use Rattle.xp_protocol.proofs.Frames.{AreAll, rule_all, act_all, cold_all, wanted_at}
use Rattle.xp_written_words.proofs.Ends.{Backed, facts, IsBackedCommand, linked, answers, notices, begins}
use Rattle.xp_written_words.proofs.Peers.{IsBacked, IsShut, more_peer, peered, numbered, failed, freed, told, set_end, booted, shut_read, shut_told, cold_backed, opens, numbered_prepared}

-- 1 before the stamp of a boot is stored
abbrev pub booting : Life → ℕ
booting Booting = 1
booting Up = 0
booting Halted = 0

-- the offline count was raised by commands that were begun, each by one at most
pub record IsCounted (begun : ℕ) (x : Beats) : Type 0 where
  pub offline : x.offline ≤ x.stored_for
  pub stored_for : x.stored_for ≤ begun

-- the own stamp that stands is that of a boot that is over: of the present one, or of an earlier one
pub record Knows (su : ScenarioPart) (most stored : ℕ) (st : State) : Type 0 where
  pub all : AreAll su.count st.peers
  pub peers : (q : ℕ) → IsBacked most st.script.begun (peer_of st q)
  pub own : IsShut (peer_of st su.part)
  pub begun : st.script.begun ≤ length (script_in su st.clock.boots)
  pub beats : IsCounted st.script.begun st.beats
  pub stamp : st.stamp ≤ st.clock.boots
  pub read : (v : ℕ) → st.boot.read ≡ Some v → v + 1 ≤ st.clock.boots
  pub word : stored + booting st.life ≤ st.clock.boots

-- the offline count that a command stores is that of a command before it, or one more, or one less
one_less : (count : ℕ) (b : Bool) → or_zero (cond b None (Some (count - 1))) ≤ count + 1
one_less count true = omega arith
one_less count false = omega arith

asked_low : (o : Option Command) (count : ℕ) → or_zero (offline_by o count) ≤ count + 1
asked_low (Some Offline) count = omega arith
asked_low (Some Online) count = one_less count (eqb count 0)
asked_low o count = omega arith

behind : (x y : ℕ) → eqb x y ≡ false → x ≤ y → x + 1 ≤ y
behind x y e l = let n : x ≡ y → ⊥ = λ d. (let t : eqb x y ≡ true = eq-eqb x y d in absurd (cc)) in omega (arith, n, l)

module _ (su : ScenarioPart) (most word : ℕ) (st : State) (k : Knows su most word st) where
  stored_low : (b c : Bool) → has_stored st ≡ c → (let o = cond (b && not c) (offline_by (current su st) st.beats.offline) None in IsSome o → or_zero o ≤ st.script.begun)
  stored_low true false e i =
      let m = behind st.beats.stored_for st.script.begun e k.beats.stored_for in
      let a = asked_low (current su st) st.beats.offline in
      let o = k.beats.offline in
      omega (arith, m, a, o)
  stored_low true true e i = absurd (cc)
  stored_low false c e i = absurd (cc)

  pub offline_low : IsSome (offline_asked su st) → or_zero (offline_asked su st) ≤ st.script.begun
  offline_low = stored_low st.script.doing (has_stored st) refl

module _ (su : ScenarioPart) (most : ℕ) (line : LINE_BYTES ≤ most) (word : ℕ) (st : State) (k : Knows su most word st) where
  abbrev On : Peer → Type 0
  On p = IsBacked most st.script.begun p

  -- ---- rules
  linked_peer : (q c : ℕ) (x : _) → Backed most st.script.begun (facts x) → On (record (peer_of st q) { links = set (peer_of st q).links c x })
  linked_peer q c x new = record { read = (k.peers q).read; count = (k.peers q).count; ends = λ d. set_end most st.script.begun line (peer_of st q) c x new (k.peers q) d }

  rule_peers : (r : Rule) (a : Answer) → Can su st r → ((w : ℕ) → a ≡ Word w → w < 2 ^ 64) → (q : ℕ) → On (peer_of (after_answer su st r a) q)
  rule_peers (Link j c m) a can small q =
      at_peer On st.peers j _ q (λ e. linked_peer j c _ (linked most st.script.begun line (mark_of su st (Link j c m)) (place_for su c) (end_of st j c) m a can.1.1 ((k.peers j).ends c))) (k.peers q)
  rule_peers (ForPeer j m) (Word w) can small q =
      let mark = mark_of su st (ForPeer j m) in
      at_peer On st.peers j _ q (λ e. peered most st.script.begun line (here_of su st j) (peer_numbered mark (peer_of st j)) m w (λ d. numbered_prepared mark (peer_of st j) (opens (here_of su st j) (peer_of st j) m can.1.1 d)) (small w refl) (numbered most st.script.begun line mark (peer_of st j) (k.peers j))) (k.peers q)
  rule_peers (ForPeer j m) Failed can small q = at_peer On st.peers j _ q (λ e. failed most st.script.begun line (here_of su st j).turn (mark_of su st (ForPeer j m)) (peer_of st j) (k.peers j)) (k.peers q)
  rule_peers (Own ReadEngaged) (Word w) can small q = at_each On (λ i p. (peer_read w i p).local) st.peers q (cold_peer Old) (freed most st.script.begun line w q (peer_of st q) (k.peers q)) (λ l. cold_backed most st.script.begun line Old)
  rule_peers (Own TakeDeactivation) (Word w) can small q = at_each On (λ i p. (deactivation_heard w i p).local) st.peers q (cold_peer Old) (told most st.script.begun line w q (peer_of st q) (k.peers q)) (λ l. cold_backed most st.script.begun line Old)
  rule_peers (Own ReadStamp) (Word w) can small q = k.peers q
  rule_peers (Own ZeroMask) (Word w) can small q = k.peers q
  rule_peers (Own ZeroOffline) (Word w) can small q = k.peers q
  rule_peers (Own WriteStamp) (Word w) can small q = k.peers q
  rule_peers (Own StoreMask) (Word w) can small q = k.peers q
  rule_peers (Own TakeActivation) (Word w) can small q = k.peers q
  rule_peers (Own StoreBeat) (Word w) can small q = k.peers q
  rule_peers (Own StoreOffline) (Word w) can small q = k.peers q
  rule_peers (Own m) Failed can small q = k.peers q

  rule_own : (r : Rule) (a : Answer) → Can su st r → IsShut (peer_of (after_answer su st r a) su.part)
  rule_own (Link j c m) a can = at_peer IsShut st.peers j _ su.part (λ e. absurd (can.1.0.peer.1 (sym e))) k.own
  rule_own (ForPeer j m) (Word w) can = at_peer IsShut st.peers j _ su.part (λ e. absurd (can.1.0.other (sym e))) k.own
  rule_own (ForPeer j m) Failed can = at_peer IsShut st.peers j _ su.part (λ e. absurd (can.1.0.other (sym e))) k.own
  rule_own (Own ReadEngaged) (Word w) can = at_each IsShut (λ i p. (peer_read w i p).local) st.peers su.part (cold_peer Old) (shut_read w su.part (peer_of st su.part) k.own) (λ l. (refl, refl))
  rule_own (Own TakeDeactivation) (Word w) can = at_each IsShut (λ i p. (deactivation_heard w i p).local) st.peers su.part (cold_peer Old) (shut_told w su.part (peer_of st su.part) k.own) (λ l. (refl, refl))
  rule_own (Own ReadStamp) (Word w) can = k.own
  rule_own (Own ZeroMask) (Word w) can = k.own
  rule_own (Own ZeroOffline) (Word w) can = k.own
  rule_own (Own WriteStamp) (Word w) can = k.own
  rule_own (Own StoreMask) (Word w) can = k.own
  rule_own (Own TakeActivation) (Word w) can = k.own
  rule_own (Own StoreBeat) (Word w) can = k.own
  rule_own (Own StoreOffline) (Word w) can = k.own
  rule_own (Own m) Failed can = k.own

  -- the own heartbeat
  rule_beats : (r : Rule) (a : Answer) → Can su st r → IsCounted st.script.begun (beats_after su st r a)
  rule_beats (Own StoreOffline) (Word w) can = record { offline = offline_low su most word st k can.1; stored_for = omega arith }
  rule_beats (Own StoreMask) (Word w) can = record { offline = k.beats.offline; stored_for = k.beats.stored_for }
  rule_beats (Own StoreBeat) (Word w) can = record { offline = k.beats.offline; stored_for = k.beats.stored_for }
  rule_beats (Own ReadEngaged) (Word w) can = k.beats
  rule_beats (Own TakeDeactivation) (Word w) can = k.beats
  rule_beats (Own ReadStamp) (Word w) can = k.beats
  rule_beats (Own ZeroMask) (Word w) can = k.beats
  rule_beats (Own ZeroOffline) (Word w) can = k.beats
  rule_beats (Own WriteStamp) (Word w) can = k.beats
  rule_beats (Own TakeActivation) (Word w) can = k.beats
  rule_beats (Own m) Failed can = k.beats
  rule_beats (Link j c m) a can = k.beats
  rule_beats (ForPeer j m) a can = k.beats

  -- the stamp that a boot stores
  some_read : IsSome st.boot.read → or_zero st.boot.read + 1 ≤ st.clock.boots
  some_read h = by st.boot.read refl h where
    by : (o : Option ℕ) → st.boot.read ≡ o → IsSome o → or_zero o + 1 ≤ st.clock.boots
    by None e h = absurd (cc)
    by (Some v) e h = k.read v e

  lives_low : (b : Bool) → word + booting (cond b st.life Halted) ≤ st.clock.boots
  lives_low true = k.word
  lives_low false = let l = k.word in omega (arith, l)

  same_word : (v w : ℕ) → Some w ≡ Some v → w ≡ v
  same_word v w e = cc

  booting_word : st.life ≡ Booting → word + 1 ≤ st.clock.boots
  booting_word e = subst (λ (x : Life). word + booting x ≤ st.clock.boots) e k.word

  abbrev After : Rule → Answer → ℕ → Type 0
  After r a word' = Knows su most word' (after_answer su st r a)

  -- a rule that stores no stamp and reads none
  pub calm_rule : (r : Rule) (a : Answer) → Can su st r → (after_answer su st r a).stamp ≡ st.stamp → (after_answer su st r a).boot.read ≡ st.boot.read → (after_answer su st r a).life ≡ st.life → ((q : ℕ) → On (peer_of (after_answer su st r a) q)) → IsShut (peer_of (after_answer su st r a) su.part) → After r a word
  calm_rule r a can s b l peers own = record {
    all = rule_all su st r a k.all;
    peers = peers;
    own = own;
    begun = k.begun;
    beats = rule_beats r a can;
    stamp = subst (λ (x : ℕ). x ≤ st.clock.boots) (sym s) k.stamp;
    read = λ v e. k.read v (sym b ∙ e);
    word = subst (λ (x : Life). word + booting x ≤ st.clock.boots) (sym l) k.word;
  }

  pub known_rule : (r : Rule) (a : Answer) (word' : ℕ) → Can su st r → ((w : ℕ) → a ≡ Word w → w < 2 ^ 64) → (r ≡ Own ReadStamp → (w : ℕ) → a ≡ Word w → w ≡ word) → (r ≡ Own WriteStamp → (w : ℕ) → a ≡ Word w → word' ≡ or_zero st.boot.read + 1) → ((r ≡ Own WriteStamp → (w : ℕ) → a ≡ Word w → ⊥) → word' ≡ word) → After r a word'
  known_rule (Own WriteStamp) (Word w) word' can small reads writes keeps =
      let e = writes refl w refl in
      let l = some_read can.1.0 in
      record { all = k.all; peers = k.peers; own = k.own; begun = k.begun; beats = k.beats; stamp = l; read = λ v d. absurd (cc); word = omega (arith, e, l) }
  known_rule (Own ReadStamp) (Word w) word' can small reads writes keeps =
      let e = reads refl w refl in
      let d = keeps (λ x. absurd (cc)) in
      record {
        all = k.all;
        peers = k.peers;
        own = k.own;
        begun = k.begun;
        beats = k.beats;
        stamp = k.stamp;
        read = λ v x. (let z = same_word v w x in let l = booting_word can.0 in omega (arith, z, e, l));
        word = subst (λ (x : ℕ). x + booting (cond (ltb w 4294967295) st.life Halted) ≤ st.clock.boots) (sym d) (lives_low (ltb w 4294967295));
      }
  known_rule (Own ReadEngaged) (Word w) word' can small reads writes keeps = subst (After (Own ReadEngaged) (Word w)) (sym (keeps (λ x. absurd (cc)))) (calm_rule (Own ReadEngaged) (Word w) can refl refl refl (rule_peers (Own ReadEngaged) (Word w) can small) (rule_own (Own ReadEngaged) (Word w) can))
  known_rule (Own TakeDeactivation) (Word w) word' can small reads writes keeps = subst (After (Own TakeDeactivation) (Word w)) (sym (keeps (λ x. absurd (cc)))) (calm_rule (Own TakeDeactivation) (Word w) can refl refl refl (rule_peers (Own TakeDeactivation) (Word w) can small) (rule_own (Own TakeDeactivation) (Word w) can))
  known_rule (Own ZeroMask) (Word w) word' can small reads writes keeps = subst (After (Own ZeroMask) (Word w)) (sym (keeps (λ x. absurd (cc)))) (calm_rule (Own ZeroMask) (Word w) can refl refl refl k.peers k.own)
  known_rule (Own ZeroOffline) (Word w) word' can small reads writes keeps = subst (After (Own ZeroOffline) (Word w)) (sym (keeps (λ x. absurd (cc)))) (calm_rule (Own ZeroOffline) (Word w) can refl refl refl k.peers k.own)
  known_rule (Own StoreMask) (Word w) word' can small reads writes keeps = subst (After (Own StoreMask) (Word w)) (sym (keeps (λ x. absurd (cc)))) (calm_rule (Own StoreMask) (Word w) can refl refl refl k.peers k.own)
  known_rule (Own TakeActivation) (Word w) word' can small reads writes keeps = subst (After (Own TakeActivation) (Word w)) (sym (keeps (λ x. absurd (cc)))) (calm_rule (Own TakeActivation) (Word w) can refl refl refl k.peers k.own)
  known_rule (Own StoreBeat) (Word w) word' can small reads writes keeps = subst (After (Own StoreBeat) (Word w)) (sym (keeps (λ x. absurd (cc)))) (calm_rule (Own StoreBeat) (Word w) can refl refl refl k.peers k.own)
  known_rule (Own StoreOffline) (Word w) word' can small reads writes keeps = subst (After (Own StoreOffline) (Word w)) (sym (keeps (λ x. absurd (cc)))) (calm_rule (Own StoreOffline) (Word w) can refl refl refl k.peers k.own)
  known_rule (Own m) Failed word' can small reads writes keeps = subst (After (Own m) Failed) (sym (keeps (λ x w y. absurd (cc)))) (calm_rule (Own m) Failed can refl refl refl k.peers k.own)
  known_rule (Link j c m) a word' can small reads writes keeps = subst (After (Link j c m) a) (sym (keeps (λ x. absurd (cc)))) (calm_rule (Link j c m) a can refl refl refl (rule_peers (Link j c m) a can small) (rule_own (Link j c m) a can))
  known_rule (ForPeer j m) a word' can small reads writes keeps = subst (After (ForPeer j m) a) (sym (keeps (λ x. absurd (cc)))) (calm_rule (ForPeer j m) a can refl refl refl (rule_peers (ForPeer j m) a can small) (rule_own (ForPeer j m) a can))

  -- ---- acts
  module _ (lawful : (boot i : ℕ) (x : Command) → slice_get (script_in su boot) i ≡ Some x → IsBackedCommand most x) where
    abbrev AimBacked : ℕ → Option Aim → Type 0
    AimBacked b None = Unit {0}
    AimBacked b (Some y) = Backed most b (facts y.effect.local)

    begun_by : (x : Command) (o : Option EndName) → IsBackedCommand most x → AimBacked (st.script.begun + 1) (aim_by st end_begun x o)
    begun_by x None b = tt
    begun_by x (Some n) b = begins most st.script.begun line (end_of st n.partner n.channel) x b ((k.peers n.partner).ends n.channel)

    begun_aim : (o : Option Command) → upcoming su st ≡ o → AimBacked (st.script.begun + 1) (aim_of st end_begun o)
    begun_aim None e = tt
    begun_aim (Some x) e = begun_by x (named_end x) (lawful st.clock.boots st.script.begun x e)

    answered_by_end : (x : Command) (o : Option EndName) → AimBacked st.script.begun (aim_by st end_answered x o)
    answered_by_end x None = tt
    answered_by_end x (Some n) = answers most st.script.begun line (end_of st n.partner n.channel) x ((k.peers n.partner).ends n.channel)

    answered_aim : (o : Option Command) → AimBacked st.script.begun (aim_of st end_answered o)
    answered_aim None = tt
    answered_aim (Some x) = answered_by_end x (named_end x)

    -- how many commands were begun after an act
    abbrev begun_after : Act → ℕ
    begun_after Begun = st.script.begun + 1
    begun_after a = st.script.begun

    act_aim : (x : Act) → AimBacked (begun_after x) (aimed su st x)
    act_aim Begun = begun_aim (upcoming su st) refl
    act_aim Answered = answered_aim (current su st)
    act_aim (Noticed q c number how) = notices most st.script.begun line (end_of st q c) how number ((k.peers q).ends c)

    aim_peers : (b : ℕ) (o : Option Aim) → st.script.begun ≤ b → AimBacked b o → (q : ℕ) → IsBacked most b (peer_of (with_aim o st) q)
    aim_peers b None l h q = more_peer most st.script.begun b (peer_of st q) l (k.peers q)
    aim_peers b (Some y) l h q =
        let old : (j : ℕ) → IsBacked most b (peer_of st j) = λ j. more_peer most st.script.begun b (peer_of st j) l (k.peers j) in
        at_peer (λ (p : Peer). IsBacked most b p) st.peers y.partner _ q (λ e. record { read = (old y.partner).read; count = (old y.partner).count; ends = λ d. set_end most b line (peer_of st y.partner) y.channel y.effect.local h (old y.partner) d }) (old q)

    aim_own : (o : Option Aim) → IsShut (peer_of (with_aim o st) su.part)
    aim_own None = k.own
    aim_own (Some y) = at_peer IsShut st.peers y.partner _ su.part (λ e. subst (λ (j : ℕ). IsShut (peer_of st j)) e k.own) k.own

    -- what an aim leaves
    pub record Left (y : State) : Type 0 where
      pub beats : y.beats ≡ st.beats
      pub life : y.life ≡ st.life
      pub read : y.boot.read ≡ st.boot.read
      pub stamp : y.stamp ≡ st.stamp
      pub boots : y.clock.boots ≡ st.clock.boots

    aim_left : (o : Option Aim) → Left (with_aim o st)
    aim_left None = record { beats = refl; life = refl; read = refl; stamp = refl; boots = refl }
    aim_left (Some y) = record { beats = refl; life = refl; read = refl; stamp = refl; boots = refl }

    acted_peers : (x : Act) → st.script.begun ≤ begun_after x → (q : ℕ) → IsBacked most (begun_after x) (peer_of (after_act su st x) q)
    acted_peers x l q = wanted_at (λ (p : Peer). IsBacked most (begun_after x) p) (command_begun su st x) (with_aim (aimed su st x) st).peers q (λ p h. h) (λ p h. h) (aim_peers (begun_after x) (aimed su st x) l (act_aim x) q)

    acted_own : (x : Act) → IsShut (peer_of (after_act su st x) su.part)
    acted_own x = wanted_at IsShut (command_begun su st x) (with_aim (aimed su st x) st).peers su.part (λ p h. h) (λ p h. h) (aim_own (aimed su st x))

    more_beats : (b : ℕ) → st.script.begun ≤ b → IsCounted b st.beats
    more_beats b l = record { offline = k.beats.offline; stored_for = (let h = k.beats.stored_for in omega (arith, h, l)) }

    known_by : (x : Act) → begun_after x ≤ length (script_in su st.clock.boots) → st.script.begun ≤ begun_after x → (after_act su st x).script.begun ≡ begun_after x → Knows su most word (after_act su st x)
    known_by x few l e =
        let f = aim_left (aimed su st x) in
        record {
          all = act_all su st x k.all;
          peers = λ q. subst (λ (b : ℕ). IsBacked most b (peer_of (after_act su st x) q)) (sym e) (acted_peers x l q);
          own = acted_own x;
          begun = subst (λ (b : ℕ). b ≤ length (script_in su (after_act su st x).clock.boots)) (sym e) (subst (λ (n : ℕ). begun_after x ≤ length (script_in su n)) (sym f.boots) few);
          beats = subst (λ (b : Beats). IsCounted (after_act su st x).script.begun b) (sym f.beats) (subst (λ (n : ℕ). IsCounted n st.beats) (sym e) (more_beats (begun_after x) l));
          stamp = (let h = k.stamp in omega (arith, f.stamp, f.boots, h));
          read = λ v d. (let h = k.read v (sym f.read ∙ d) in omega (arith, f.boots, h));
          word = subst (λ (n : ℕ). word + booting (with_aim (aimed su st x) st).life ≤ n) (sym f.boots) (subst (λ (y : Life). word + booting y ≤ st.clock.boots) (sym f.life) k.word);
        }

    pub known_act : (x : Act) → MayAct su st x → Knows su most word (after_act su st x)
    known_act Begun may = known_by Begun (let l = may.1.1 in omega (arith, l)) (omega arith) refl
    known_act Answered may = known_by Answered k.begun (omega arith) refl
    known_act (Noticed q c number how) may = known_by (Noticed q c number how) k.begun (omega arith) refl

  -- ---- a moment
  life_low : (l : Life) → booting l ≤ 1
  life_low Booting = omega arith
  life_low Up = omega arith
  life_low Halted = omega arith

  known_by_moment : (turns : ℕ) (b stops : Bool) → Knows su most word (moment_by su b stops (turned turns st))
  known_by_moment turns true stops = record {
    all = cold_all st.peers k.all;
    peers = λ q. at_each (λ (p : Peer). IsBacked most 0 p) (λ j p. booted_peer p) st.peers q (cold_peer Old) (booted most 0 line st.script.begun (peer_of st q) (k.peers q)) (λ l. cold_backed most 0 line Old);
    own = at_each IsShut (λ j p. booted_peer p) st.peers su.part (cold_peer Old) (refl, refl) (λ l. (refl, refl));
    begun = omega arith;
    beats = record { offline = omega arith; stored_for = omega arith };
    stamp = omega arith;
    read = λ v e. absurd (cc);
    word = (let h = k.word in omega (arith, h));
  }
  known_by_moment turns false true = record { all = k.all; peers = k.peers; own = k.own; begun = k.begun; beats = k.beats; stamp = k.stamp; read = k.read; word = k.word }
  known_by_moment turns false false = record { all = k.all; peers = k.peers; own = k.own; begun = k.begun; beats = k.beats; stamp = k.stamp; read = k.read; word = k.word }

  pub known_moment : (earlier turns : ℕ) → Knows su most word (moment su earlier (turned turns st))
  known_moment earlier turns =
      let now = turned turns st in
      known_by_moment turns (restart_comes su earlier now && not (is_over now)) (stop_comes su earlier now && not (is_over now))
