-- No answer in a log tells a reason by which a word that was read is refused.
use Rattle.std.proofs.Common.{◌≡◌, ℕ, ◌+◌, ◌-◌, zero, suc, ◌<◌, Bool, true, false, cond, eqb, List, [], ◌∷◌, ◌++◌, refl, ap, sym, ◌∙◌, subst, append_assoc, Option, Some, None, inl, inr, ◌⊎◌}
use Rattle.std.specs.Prelude.{slice_get, nat_eq, nat_lt}
use Rattle.std.specs.List.{All, Contains}
use Rattle.std.proofs.lemmas.List.{append-nil}
use Rattle.std.proofs.lemmas.List.Elements.{All-nil, All-cons, All-contains}
use Rattle.std.proofs.lemmas.Bool.{eq-eqb, eqb-true}
use Rattle.xp_base.specs.declared.step.Op.{Op}
use Rattle.xp_base.specs.declared.step.Answer.{Answer}
use Rattle.xp_base.specs.declared.step.Answer.TheVariants.{Word, Failed}
use Rattle.xp_base.specs.Memory.{Memory, answer_of}
use Rattle.xp_base.specs.History.{Act, Begun, Answered, Noticed, Marked, Turn, Event, Poked, Turned, IsAnswer, IsAnswered, turns_of}
use Rattle.xp_base.proofs.HistoryLemmas.{turns_of-append}
use Rattle.xp_script.specs.declared.command.Command.{Command}
use Rattle.xp_script.specs.declared.command.Command.TheVariants as commands
use Rattle.xp_script.specs.declared.log.Entry.{Entry}
use Rattle.xp_script.specs.declared.log.LogAnswer.{LogAnswer}
use Rattle.xp_script.specs.declared.log.OnlineAnswer.TheVariants.{Ok as OnlineOk, NotOffline}
use Rattle.xp_script.specs.declared.log.LogAnswer.TheVariants.{Offline as OfflineAnswered, Online as OnlineAnswered, Deactivate as DeactivateAnswered, Activate as ActivateAnswered, Leave as LeaveAnswered, Idle as IdleAnswered}
use Rattle.xp_script.specs.declared.part.ScenarioPart.{ScenarioPart}
use Rattle.xp_script.specs.declared.scenario.Scenario.{Scenario}
use Rattle.xp_script.specs.Commands.{verb_of}
use Rattle.xp_script.specs.Lawful.{IsLawful}
use Rattle.xp_script.specs.Opening.{opening}
use Rattle.xp_script.specs.Parts.{part_of}
use Rattle.xp_protocol.specs.declared.rule.Rule.{Rule}
use Rattle.xp_protocol.specs.Acts.{has_stored, online_due, MayActs, EndName, named_end, current, upcoming, due, due_to, due_at, partition_due, end_due, all_gone, after_act, after_acts}
use Rattle.xp_protocol.specs.Logged.{begun_entry, last_answered, entries_act, entries_acts, entries_turn, entries_from}
use Rattle.xp_protocol.specs.Parts.{IsLawfulPart, IsLawfulCommand, script_in}
use Rattle.xp_protocol.specs.Promised.{memory_by}
use Rattle.xp_protocol.specs.Reached.{AreTurnsOf, ReachedWords, state_at}
use Rattle.xp_protocol.specs.Rules.{Can, op_of, row_of, owner, after_answer}
use Rattle.xp_protocol.specs.Runs.{May, MayMake, MayStep, start, after_ruled, after_step, after_turn, state_after}
use Rattle.xp_protocol.specs.State.{State, end_of}
use Rattle.xp_protocol.proofs.Lawful.{lawful_command}
use Rattle.xp_protocol.proofs.Named.{IsNamed, named_low}
use Rattle.xp_protocol.proofs.Undo.{within, owner_low}
use Rattle.xp_meetings.proofs.Always.{at_one, one_here, one_kept, answer_word, rule_at, failed_at}
use Rattle.xp_meetings.proofs.Parts.{Part, part_start, part_ruled, acts_state, from_state}
use Rattle.xp_meetings.proofs.Words.{Words, Agrees}
use Rattle.xp_promises.proofs.Before.{Before, Legal-prefix, before_step, is_part, part_at, at_step}
use Rattle.xp_records.specs.Answers.{entries_of}
use Rattle.xp_records.specs.Clean.{IsCleanAnswer}
use Rattle.xp_records.proofs.Answering.{due_clean}
use Rattle.xp_records.proofs.Reasons.{StrongAt, Strongs, acted}
use Rattle.xp_records.proofs.Cleaned.{Inv, strongs, lawful, inv_act, inv_rule, inv_failed, inv_moment, inv_first}

abbrev IsCleanIfGiven : Option LogAnswer → Type 0
IsCleanIfGiven None = Unit {0}
IsCleanIfGiven (Some a) = IsCleanAnswer a

abbrev LogClean : List Entry → Type 0
LogClean [] = Unit {0}
LogClean (x ∷ xs) = IsCleanIfGiven x.answer × LogClean xs

both_clean : (xs ys : List Entry) → LogClean xs → LogClean ys → LogClean (xs ++ ys)
both_clean [] ys h k = k
both_clean (x ∷ xs) ys h k = (h.0, both_clean xs ys h.1 k)

begun_clean : (boot number : ℕ) (o : Option Command) → LogClean (begun_entry boot number o)
begun_clean boot number None = tt
begun_clean boot number (Some x) = (tt, tt)

last_clean : (xs : List Entry) (a : Option LogAnswer) → IsCleanIfGiven a → LogClean xs → LogClean (last_answered xs a)
last_clean [] a c h = tt
last_clean (x ∷ []) a c h = (c, tt)
last_clean (x ∷ y ∷ more) a c h = (h.0, last_clean (y ∷ more) a c h.1)

given : (o : Option LogAnswer) → ((a : LogAnswer) → o ≡ Some a → IsCleanAnswer a) → IsCleanIfGiven o
given None h = tt
given (Some a) h = h a refl

told : (a b : LogAnswer) → Some a ≡ Some b → IsCleanAnswer a → IsCleanAnswer b
told a b e h = subst (λ (z : LogAnswer). IsCleanAnswer z) (let f : a ≡ b = cc in f) h

-- the end that a command names is one for another partition
abbrev IsApart : ℕ → Option EndName → Type 0
IsApart own None = Unit {0}
IsApart own (Some n) = n.partner ≡ own → ⊥

named_apart : (s : ScenarioPart) (x : Command) → IsLawfulCommand s x → IsApart s.part (named_end x)
named_apart s (commands.Register q c entries limit) h = h.0.1
named_apart s (commands.Unregister q c) h = h.1
named_apart s (commands.Connected q c) h = h.1
named_apart s (commands.Closed q c) h = h.1
named_apart s (commands.Send q c payload wait notify) h = h.0.1
named_apart s (commands.Take q c wait) h = h.1
named_apart s (commands.Release q c number) h = h.1
named_apart s (commands.Drain q c) h = h.1
named_apart s (commands.Net frame) h = tt
named_apart s (commands.Frames count) h = tt
named_apart s (commands.Deactivate q) h = tt
named_apart s (commands.Activate q) h = tt
named_apart s commands.Leave h = tt
named_apart s (commands.Idle turns) h = tt
named_apart s commands.Offline h = tt
named_apart s commands.Online h = tt

-- a command that names no end tells no reason
cond_clean : (b : Bool) (a : LogAnswer) → IsCleanAnswer a → IsCleanIfGiven (cond b (Some a) None)
cond_clean true a h = h
cond_clean false a h = tt

cond_clean_not : (b : Bool) (a : LogAnswer) → IsCleanAnswer a → IsCleanIfGiven (cond b None (Some a))
cond_clean_not true a h = tt
cond_clean_not false a h = h

partition_clean : (s : ScenarioPart) (st : State) (x : Command) → IsCleanIfGiven (partition_due s st x)
partition_clean s st (commands.Deactivate q) = tt
partition_clean s st (commands.Activate q) = tt
partition_clean s st commands.Leave = cond_clean (all_gone s.part 0 st.peers) LeaveAnswered tt
partition_clean s st (commands.Idle turns) = cond_clean_not (nat_lt st.clock.turns (st.script.since + turns)) IdleAnswered tt
partition_clean s st (commands.Register q c entries limit) = tt
partition_clean s st (commands.Unregister q c) = tt
partition_clean s st (commands.Connected q c) = tt
partition_clean s st (commands.Closed q c) = tt
partition_clean s st (commands.Send q c payload wait notify) = tt
partition_clean s st (commands.Take q c wait) = tt
partition_clean s st (commands.Release q c number) = tt
partition_clean s st (commands.Drain q c) = tt
partition_clean s st (commands.Net frame) = tt
partition_clean s st (commands.Frames count) = tt
partition_clean s st commands.Offline = cond_clean (has_stored st) OfflineAnswered tt
partition_clean s st commands.Online = online_clean (has_stored st) st.beats.offline where
  missing : (b : Bool) → IsCleanIfGiven (cond b (Some (OnlineAnswered NotOffline)) None)
  missing true = tt
  missing false = tt

  online_clean : (a : Bool) (count : ℕ) → IsCleanIfGiven (online_due a count)
  online_clean true count = tt
  online_clean false count = missing (nat_eq count 0)

module _ (su : ScenarioPart) (law : IsLawfulPart su) where
  named_clean : (st : State) → Strongs su.count su.part st → (x : Command) (o : Option EndName) → IsLawfulCommand su x → named_end x ≡ o → IsCleanIfGiven (due_at su st x o)
  named_clean st h x None l e = partition_clean su st x
  named_clean st h x (Some n) l e =
      let low = subst (λ (o : Option EndName). IsNamed su.count o) e (named_low su x l) in
      let far = subst (λ (o : Option EndName). IsApart su.part o) e (named_apart su x l) in
      given (end_due (end_of st n.partner n.channel) x) (λ a i. due_clean (verb_of x) (end_of st n.partner n.channel) (h.ends n.partner n.channel low.0 far low.1) a i)

  to_clean : (st : State) → Strongs su.count su.part st → (o : Option Command) (i : ℕ) → slice_get (script_in su st.clock.boots) i ≡ o → IsCleanIfGiven (due_to su st o)
  to_clean st h None i e = tt
  to_clean st h (Some x) i e = named_clean st h x (named_end x) (lawful_command su st.clock.boots i x law e) refl

  doing_clean : (b : Bool) (st : State) → Strongs su.count su.part st → IsCleanIfGiven (cond b (due_to su st (current su st)) None)
  doing_clean true st h = to_clean st h (current su st) (st.script.begun - 1) refl
  doing_clean false st h = tt

  act_clean : (st : State) → Strongs su.count su.part st → (a : Act) (xs : List Entry) → LogClean xs → LogClean (entries_act su st a xs)
  act_clean st h Begun xs k = both_clean xs (begun_entry st.clock.boots (st.script.begun + 1) (upcoming su st)) k (begun_clean st.clock.boots (st.script.begun + 1) (upcoming su st))
  act_clean st h Answered xs k = last_clean xs (due su st) (doing_clean st.script.doing st h) k
  act_clean st h (Noticed q c number how) xs k = k

  acts_clean : (st : State) (acts : List Act) (xs : List Entry) → Strongs su.count su.part st → MayActs su st acts → LogClean xs → LogClean (entries_acts su st acts xs)
  acts_clean st [] xs h may k = k
  acts_clean st (a ∷ more) xs h may k = acts_clean (after_act su st a) more (entries_act su st a xs) (acted su st h law a may.0) may.1 (act_clean st h a xs k)

  turn_clean : (st : State) (t : Turn) (xs : List Entry) → Strongs su.count su.part st → Strongs su.count su.part (after_step su (after_acts su st t.before) t.made) → May su st t → LogClean xs → LogClean (entries_turn su st t xs)
  turn_clean st t xs h later may k = acts_clean (after_step su (after_acts su st t.before) t.made) t.after (entries_acts su st t.before xs) later may.after (acts_clean st t.before xs h may.before k)

more_entries : (su : ScenarioPart) (st : State) (ts us : List Turn) (xs : List Entry) → entries_from su st (ts ++ us) xs ≡ entries_from su (state_after su st ts) us (entries_from su st ts xs)
more_entries su st [] us xs = refl
more_entries su st (t ∷ ts) us xs = more_entries su (after_turn su st t) ts us (entries_turn su st t xs)

module _ (s : Scenario) (law : IsLawful s) where
  -- all ends of a partition right after its step
  here_strongs : (w : Words) (σ : ℕ → Part) (p : ℕ) (k : Part) → p < s.count → Inv s law w (at_one σ p k) → Strongs s.count p k.state
  here_strongs w σ p k l i = subst (λ (y : Part). Strongs s.count p y.state) (one_here σ p k) (strongs s law w (at_one σ p k) p l i)

  word_strongs : (mem : Memory) (w : Words) (σ : ℕ → Part) (p : ℕ) (x : Part) (r : Rule) (a : Answer) → p < s.count → Agrees s.count mem w → Inv s law w (at_one σ p x) → Can (part_of s p) x.state r → IsAnswer mem (op_of (part_of s p) x.state r) a → Strongs s.count p (after_answer (part_of s p) x.state r a)
  word_strongs mem w σ p x r Failed l g i can h = here_strongs w σ p (part_ruled (part_of s p) x r Failed) l (failed_at (part_of s) s.count (is_part s law) (Inv s law) (inv_act s law) (inv_rule s law) (inv_failed s law) (inv_moment s law) w σ p x r l i can)
  word_strongs mem w σ p x r (Word v) l g i can h =
      let su = part_of s p in
      let low = owner_low su x.state r (lawful s law p l) can in
      let pl = within su x.state r (lawful s law p l) can in
      let y = row_of su x.state r in
      let e : v ≡ answer_word su x.state r w = h ∙ ap (λ (u : ℕ). answer_of y.kind u) (g.words (owner su x.state r) y.place low pl) in
      let k = rule_at (part_of s) s.count (is_part s law) (Inv s law) (inv_act s law) (inv_rule s law) (inv_failed s law) (inv_moment s law) w σ p x r l i can in
      subst (λ (u : ℕ). Strongs s.count p (after_answer su x.state r (Word u))) (sym e) (here_strongs _ σ p (part_ruled su x r (Word (answer_word su x.state r w))) l k)

  made_strongs : (mem : Memory) (w : Words) (σ : ℕ → Part) (p : ℕ) (x : Part) (o : Option Marked) → p < s.count → Agrees s.count mem w → Inv s law w (at_one σ p x) → MayMake (part_of s p) x.state o → IsAnswered mem o → Strongs s.count p (after_step (part_of s p) x.state o)
  made_strongs mem w σ p x None l g i may h = here_strongs w σ p x l i
  made_strongs mem w σ p x (Some y) l g i may h =
      let su = part_of s p in
      let k = word_strongs mem w σ p x may.rule y.step.answer l g i may.can (subst (λ (op : Op). IsAnswer mem op y.step.answer) may.op h) in
      subst (λ (o : Option Rule). Strongs s.count p (after_ruled su x.state o y.step.answer)) (sym may.decoded) k

  -- one turn more
  turn_more : (before rest : List Event) (p : ℕ) (t : Turn) (m : Memory) → ReachedWords s (before ++ Turned p t ∷ rest) m → LogClean (entries_of s before p) → LogClean (entries_turn (part_of s p) (state_at s before p) t (entries_of s before p))
  turn_more before rest p t m r k =
      let su = part_of s p in
      let b = before_step s law (Inv s law) (inv_act s law) (inv_rule s law) (inv_failed s law) (inv_moment s law) (inv_first s law) before rest p t m r in
      let answered = (Legal-prefix before (Turned p t ∷ rest) (opening s) m r.legal).1.0 in
      let σ = part_at s before in
      let state = from_state su (part_start su) (turns_of p before) in
      let acted_state = acts_state su (σ p) t.before in
      let later = made_strongs (memory_by (opening s) before) b.words σ p (at_step s before p t) t.made b.low b.agrees b.holds b.made answered in
      let now = strongs s law b.words σ p b.low b.now in
      let mid : Strongs s.count p (after_step su (after_acts su (σ p).state t.before) t.made) = subst (λ (st : State). Strongs s.count p (after_step su st t.made)) acted_state later in
      subst (λ (st : State). LogClean (entries_turn su st t (entries_of s before p))) state (turn_clean su (lawful s law p b.low) (σ p).state t (entries_of s before p) now mid b.may k)

  one_event : (before rest : List Event) (q : ℕ) (t : Turn) (m : Memory) (p : ℕ) → ReachedWords s (before ++ Turned q t ∷ rest) m → LogClean (entries_of s before p) → LogClean (entries_of s (before ++ Turned q t ∷ []) p)
  one_event before rest q t m p r k =
      let su = part_of s p in
      let turns = turns_of-append p before (Turned q t ∷ []) in
      let by_turns = subst (λ (ts : List Turn). LogClean (entries_from su (start su) ts [])) (sym turns) in
      by_turns (subst (λ (xs : List Entry). LogClean xs) (sym (more_entries su (start su) (turns_of p before) (turns_of p (Turned q t ∷ [])) [])) (by (eqb q p) refl))
    where
      by : (b : Bool) → eqb q p ≡ b → LogClean (entries_from (part_of s p) (state_at s before p) (cond b (t ∷ []) []) (entries_of s before p))
      by false e = k
      by true e = let same : q ≡ p = eqb-true q p e in subst (λ (j : ℕ). LogClean (entries_of s before j) → LogClean (entries_turn (part_of s j) (state_at s before j) t (entries_of s before j))) same (turn_more before rest q t m r) k

  no_poke : (es fs : List Event) (o i w n : ℕ) → AreTurnsOf n (es ++ Poked o i w ∷ fs) → ⊥
  no_poke [] fs o i w n h = h
  no_poke (Turned q t ∷ es) fs o i w n h = no_poke es fs o i w n h.1
  no_poke (Poked a b c ∷ es) fs o i w n h = h

  events : (before after : List Event) (m : Memory) (p : ℕ) → ReachedWords s (before ++ after) m → LogClean (entries_of s before p) → LogClean (entries_of s (before ++ after) p)
  events before [] m p r k = subst (λ (h : List Event). LogClean (entries_of s h p)) (sym (append-nil before)) k
  events before (Poked o i w ∷ rest) m p r k = absurd (no_poke before rest o i w s.count r.parts)
  events before (Turned q t ∷ rest) m p r k =
      let e : (before ++ Turned q t ∷ []) ++ rest ≡ before ++ Turned q t ∷ rest = append_assoc before (Turned q t ∷ []) rest in
      let one = one_event before rest q t m p r k in
      let more = events (before ++ Turned q t ∷ []) rest m p (subst (λ (h : List Event). ReachedWords s h m) (sym e) r) one in
      subst (λ (h : List Event). LogClean (entries_of s h p)) e more

  all_given : (xs : List Entry) → LogClean xs → All (λ (x : Entry). IsCleanIfGiven x.answer) xs
  all_given [] h = All-nil (λ (x : Entry). IsCleanIfGiven x.answer)
  all_given (x ∷ xs) h = All-cons (λ (y : Entry). IsCleanIfGiven y.answer) x xs h.0 (all_given xs h.1)

  pub answers_clean : (h : List Event) (m : Memory) → ReachedWords s h m → (p : ℕ) → p < s.count → (x : Entry) → Contains (entries_of s h p) x → (answer : LogAnswer) → x.answer ≡ Some answer → IsCleanAnswer answer
  answers_clean h m r p l x c answer e = subst (λ (o : Option LogAnswer). IsCleanIfGiven o) e (All-contains (λ (y : Entry). IsCleanIfGiven y.answer) (entries_of s h p) x (all_given (entries_of s h p) (events [] h m p r tt)) c)
