-- How a turn ends.
use Rattle.std.proofs.Common.{◌≡◌, ℕ, ◌+◌, ◌-◌, ◌^◌, ◌<◌, ◌≤◌, Bool, true, false, List, [], ◌∷◌, ◌++◌, refl, ap, sym, ◌∙◌, subst, arith, Option, Some, None}
use Rattle.std.specs.Prelude.{IfSome, IfNone, IsSome, is_some, if◌then◌else◌, nat_eq, nat_lt}
use Rattle.std.specs.List.{AllByRecursion}
use Rattle.std.proofs.lemmas.Bool.Decides.{nat_tests}
use Rattle.xp_base.specs.declared.layout.TheConstants.{CHANNELS}
use Rattle.xp_base.specs.History.{Act, Begun, Answered, Noticed}
use Rattle.xp_rounds.specs.Visit.{Visit}
use Rattle.xp_script.specs.declared.log.Entry.{Entry}
use Rattle.xp_script.specs.declared.log.LogAnswer.{LogAnswer}
use Rattle.xp_script.specs.declared.log.LogAnswer.TheVariants.{Idle as IdleAnswered}
use Rattle.xp_script.specs.declared.part.ScenarioPart.{ScenarioPart}
use Rattle.xp_protocol.specs.State.{State, Up}
use Rattle.xp_protocol.specs.Acts.{current, due, after_act, after_acts}
use Rattle.xp_protocol.specs.Logged.{entries_acts, last_answered}
use Rattle.xp_protocol.specs.Runs.{turn_counted, moment}
use Rattle.xp_counts.specs.Counted.{AreCounted, calls_in}
use Rattle.xp_counts.proofs.States.{more_counted, acts_counted}
use Rattle.xp_plan.specs.declared.errand.Errand.{Errand}
use Rattle.xp_plan.specs.Plan.{first_visit}
use Rattle.xp_sound.specs.Told.{AllTold}
use Rattle.xp_sound.proofs.Notices.{acts_told}
use Rattle.xp_windows.specs.Windows.{begins, answers}
use Rattle.xp_windows.proofs.Lives.{acts_life, acts_boots}
use Rattle.xp_partition.specs.declared.keeping.Keeping.{Keeping}
use Rattle.xp_partition.specs.declared.life.Life.{Life as KeptLife}
use Rattle.xp_partition.specs.declared.life.Life.TheVariants as lives
use Rattle.xp_partition.specs.declared.partition.Partition.{Partition}
use Rattle.xp_partition.specs.Life.{life_seen}
use Rattle.xp_partition.specs.Keeping.{state_of, records_at, IsKept}
use Rattle.xp_partition.specs.Partition.{IsPartition}
use Rattle.xp_partition.specs.Partners.{AreRoomy}
use Rattle.xp_acts.specs.Acts.{Acts, Gives, IsNotice}
use Rattle.xp_acts.specs.Noticing.{AreNoticed}
use Rattle.xp_acts.proofs.Composing.{acts_then, no_acts}
use Rattle.xp_node.specs.Journal.{with_answer}
use Rattle.xp_node.specs.Turning.{Idles, CanEnd, Told, Ends}
use Rattle.xp_node.proofs.Beginning.{partition_on}

-- what notices leave of the rest
abbrev AreNotices : List Act → Type 0
AreNotices acts = AllByRecursion IsNotice acts

notices_script : (s : ScenarioPart) (st : State) (acts : List Act) → AreNotices acts → (after_acts s st acts).script ≡ st.script
notices_script s st [] h = refl
notices_script s st (Begun ∷ more) h = absurd h.0
notices_script s st (Answered ∷ more) h = absurd h.0
notices_script s st (Noticed q c number how ∷ more) h = notices_script s (after_act s st (Noticed q c number how)) more h.1

notices_clock : (s : ScenarioPart) (st : State) (acts : List Act) → AreNotices acts → (after_acts s st acts).clock ≡ st.clock
notices_clock s st [] h = refl
notices_clock s st (Begun ∷ more) h = absurd h.0
notices_clock s st (Answered ∷ more) h = absurd h.0
notices_clock s st (Noticed q c number how ∷ more) h = notices_clock s (after_act s st (Noticed q c number how)) more h.1

notices_calls : (acts more : List Act) → AreNotices acts → calls_in (acts ++ more) ≡ calls_in more
notices_calls [] more h = refl
notices_calls (Begun ∷ acts) more h = absurd h.0
notices_calls (Answered ∷ acts) more h = absurd h.0
notices_calls (Noticed q c number how ∷ acts) more h = notices_calls acts more h.1

no_calls : (acts : List Act) → AreNotices acts → calls_in acts ≡ 0
no_calls [] h = refl
no_calls (Begun ∷ acts) h = absurd h.0
no_calls (Answered ∷ acts) h = absurd h.0
no_calls (Noticed q c number how ∷ acts) h = no_calls acts h.1

notices_answers : (acts more : List Act) → AreNotices acts → answers (acts ++ more) ≡ answers more
notices_answers [] more h = refl
notices_answers (Begun ∷ acts) more h = absurd h.0
notices_answers (Answered ∷ acts) more h = absurd h.0
notices_answers (Noticed q c number how ∷ acts) more h = notices_answers acts more h.1

notices_begins : (acts more : List Act) → AreNotices acts → begins (acts ++ more) ≡ begins more
notices_begins [] more h = refl
notices_begins (Begun ∷ acts) more h = absurd h.0
notices_begins (Answered ∷ acts) more h = absurd h.0
notices_begins (Noticed q c number how ∷ acts) more h = notices_begins acts more h.1

notices_entries : (s : ScenarioPart) (st : State) (acts more : List Act) (xs : List Entry) → AreNotices acts → entries_acts s st (acts ++ more) xs ≡ entries_acts s (after_acts s st acts) more xs
notices_entries s st [] more xs h = refl
notices_entries s st (Begun ∷ acts) more xs h = absurd h.0
notices_entries s st (Answered ∷ acts) more xs h = absurd h.0
notices_entries s st (Noticed q c number how ∷ acts) more xs h = notices_entries s (after_act s st (Noticed q c number how)) acts more xs h.1

-- turns that were waited for: the answer is due
idles_on : (s : ScenarioPart) (st to : State) → to.script ≡ st.script → to.clock ≡ st.clock → Idles s st → Idles s to
idles_on s st to a b i =
    record { turns = i.turns; doing = ap (λ x. x.doing) a ∙ i.doing; command = same ∙ i.command; over = rw (a, b) i.over }
  where
    same : current s to ≡ current s st
    same = rw (a, b) refl

idles_due : (s : ScenarioPart) (st : State) → Idles s st → IsSome (due s st)
idles_due s st i =
    rw i.doing (rw i.command (by (nat_lt st.clock.turns (st.script.since + i.turns)) refl))
  where
    by : (b : Bool) → nat_lt st.clock.turns (st.script.since + i.turns) ≡ b → is_some (if b then None else Some IdleAnswered) ≡ true
    by true e = absurd (late e)
      where
        late : nat_lt st.clock.turns (st.script.since + i.turns) ≡ true → ⊥
        late e = let over = i.over in grind (arith, nat_tests)
    by false e = refl

none_due : (s : ScenarioPart) (st : State) → st.script.doing ≡ false → due s st ≡ None
none_due s st e = rw e refl

-- whether it is up
pub is_up : (k : KeptLife) → life_seen k ≡ Up → k ≡ lives.Up
is_up lives.Booting e = absurd (cc)
is_up lives.Up e = refl
is_up (lives.Halted word) e = absurd (cc)

-- the notices, and then the answer
abbrev answered_acts : Option LogAnswer → List Act
answered_acts None = []
answered_acts (Some a) = Answered ∷ []

answered_few : (answer : Option LogAnswer) → calls_in (answered_acts answer) ≤ 1
answered_few None = omega arith
answered_few (Some a) = omega arith

answered_begins : (answer : Option LogAnswer) → begins (answered_acts answer) ≡ false
answered_begins None = refl
answered_begins (Some a) = refl

answered_true : (answer : Option LogAnswer) → IsSome answer → answers (answered_acts answer) ≡ true
answered_true None e = absurd (cc)
answered_true (Some a) e = refl

answered_lines : (s : ScenarioPart) (st : State) (answer : Option LogAnswer) (xs : List Entry) → (IsSome answer → answer ≡ due s st) → entries_acts s st (answered_acts answer) xs ≡ with_answer answer xs
answered_lines s st None xs e = refl
answered_lines s st (Some a) xs e = ap (λ (o : Option LogAnswer). last_answered xs o) (sym (e refl))

module _ (x mid y : Keeping) (answer : Option LogAnswer) (can : CanEnd x) (g : Gives x mid) (noticed : AreNoticed mid)
    (value : mid.life ≡ lives.Up → answer ≡ due mid.part (state_of mid)) (down : (mid.life ≡ lives.Up → ⊥) → answer ≡ None)
    (some : IfSome answer (λ a. Acts mid y (Answered ∷ []))) (none : IfNone answer (y ≡ mid)) where
  abbrev s : ScenarioPart
  s = x.part

  script : (state_of mid).script ≡ (state_of x).script
  script = ap (λ (z : State). z.script) g.acts.state ∙ notices_script s (state_of x) g.notices g.only

  clock : (state_of mid).clock ≡ (state_of x).clock
  clock = ap (λ (z : State). z.clock) g.acts.state ∙ notices_clock s (state_of x) g.notices g.only

  life : (state_of mid).life ≡ (state_of x).life
  life = ap (λ (z : State). z.life) g.acts.state ∙ acts_life s (state_of x) g.notices

  -- it is up where a command is in progress
  up : (state_of mid).script.doing ≡ true → mid.life ≡ lives.Up
  up d = is_up mid.life (life ∙ can.working (ap (λ z. z.doing) (sym script) ∙ d))

  second : (o : Option LogAnswer) → IfSome o (λ a. Acts mid y (Answered ∷ [])) → IfNone o (y ≡ mid) → Acts mid y (answered_acts o)
  second None h e = subst (λ (z : Keeping). Acts mid z []) (sym e) (no_acts mid g.acts.kept)
  second (Some a) h e = h

  last : Acts mid y (answered_acts answer)
  last = second answer some none

  acts : List Act
  acts = g.notices ++ answered_acts answer

  due_same : due mid.part (state_of mid) ≡ due s (state_of mid)
  due_same = ap (λ (z : ScenarioPart). due z (state_of mid)) g.acts.part

  -- no answer is due then
  none_then : (o : Option LogAnswer) → o ≡ answer → (d : Bool) → (state_of mid).script.doing ≡ d → IfSome o (λ a. Acts mid y (Answered ∷ [])) → IfNone o (y ≡ mid) → due s (state_of y) ≡ None
  none_then (Some a) e d i h n = none_due s (state_of y) (ap (λ (z : State). z.script.doing) h.state)
  none_then None e true i h n = ap (λ (z : Keeping). due s (state_of z)) n ∙ sym due_same ∙ sym (value (up i)) ∙ sym e
  none_then None e false i h n = ap (λ (z : Keeping). due s (state_of z)) n ∙ none_due s (state_of mid) i

  told_then : AllTold s (state_of y)
  told_then =
      let first : AllTold mid.part (state_of mid) = λ q c low few how. noticed q c how low few in
      let now = acts_told mid.part (state_of mid) (answered_acts answer) last.may first in
      subst (λ (z : ScenarioPart). AllTold z (state_of y)) g.acts.part (subst (λ (z : State). AllTold mid.part z) (sym last.state) now)

  idles_mid : Idles s (state_of x) → Idles s (state_of mid)
  idles_mid i = idles_on s (state_of x) (state_of mid) script clock i

  prompt_then : Idles s (state_of x) → answers (g.notices ++ answered_acts answer) ≡ true
  prompt_then i =
      let j = idles_mid i in
      let is : answer ≡ due s (state_of mid) = value (up j.doing) ∙ due_same in
      notices_answers g.notices (answered_acts answer) g.only ∙ answered_true answer (subst (λ (o : Option LogAnswer). IsSome o) (sym is) (idles_due s (state_of mid) j))

  -- an answer is the one that is due
  given_by : (k : KeptLife) → mid.life ≡ k → IsSome answer → answer ≡ due s (state_of mid)
  given_by lives.Up e some = value e ∙ due_same
  given_by lives.Booting e some = absurd (none_some (down (λ f. cc)) some)
    where
      none_some : answer ≡ None → IsSome answer → ⊥
      none_some f g = absurd (cc)
  given_by (lives.Halted word) e some = absurd (none_some (down (λ f. cc)) some)
    where
      none_some : answer ≡ None → IsSome answer → ⊥
      none_some f g = absurd (cc)

  pub told_by : Told x y answer
  told_by =
      let few = answered_few answer in
      let calls = notices_calls g.notices (answered_acts answer) g.only in
      let done = acts_then x mid y g.notices (answered_acts answer) g.acts last in
      let list = g.notices ++ answered_acts answer in
      record {
        acts = list;
        done = done;
        calls = omega (arith, few, calls);
        first = notices_begins g.notices (answered_acts answer) g.only ∙ answered_begins answer;
        told = told_then;
        none = none_then answer refl (state_of mid).script.doing refl some none;
        prompt = prompt_then;
        entries = λ xs. notices_entries s (state_of x) g.notices (answered_acts answer) xs g.only
            ∙ ap (λ (z : State). entries_acts s z (answered_acts answer) xs) (sym g.acts.state)
            ∙ answered_lines s (state_of mid) answer xs (given_by mid.life refl);
        counts = subst (λ (z : State). AreCounted (2 ^ 63 + 1) z) (sym done.state)
            (more_counted (2 ^ 63 + calls_in list) (2 ^ 63 + 1) (after_acts s (state_of x) list) (omega (arith, few, calls)) (acts_counted s (state_of x) list (2 ^ 63) can.counts));
      }

-- what the answer needs after the notices
pub noticed_kept : (x mid : Keeping) → Gives x mid → IsKept mid
noticed_kept x mid g = g.acts.kept

pub noticed_counts : (x mid : Keeping) → CanEnd x → Gives x mid → AreCounted (2 ^ 63) (state_of mid)
noticed_counts x mid can g =
    let none = no_calls g.notices g.only in
    subst (λ (z : State). AreCounted (2 ^ 63) z) (sym g.acts.state)
    (more_counted (2 ^ 63 + calls_in g.notices) (2 ^ 63) (after_acts x.part (state_of x) g.notices) (omega (arith, none)) (acts_counted x.part (state_of x) g.notices (2 ^ 63) can.counts))

pub ruleset telling = (told_by, noticed_kept, noticed_counts)

-- a turn is counted
kept_counted : (x y : Keeping) → y ≡ record x { clock = y.clock } → IsKept x → IsKept y
kept_counted x y e h = subst (λ (z : Keeping). IsKept z) (sym e) (record { lawful = h.lawful; count = h.count; standing = h.standing; own = h.own; partitions = h.partitions; boot = h.boot })

pub counted_by : (p x : Partition) → x.planner ≡ p.planner → x.keeping ≡ record p.keeping { clock = x.keeping.clock } → IsPartition p → IsPartition x
counted_by p x v e h =
    partition_on p x h (kept_counted p.keeping x.keeping e h.kept) (ap (λ (z : Keeping). z.part) e) v (λ r. subst (λ (z : Keeping). AreRoomy z.partners) (sym e) r)

pub ruleset counting = (counted_by)

-- and ends
pub told_partition : (p x : Partition) (answer : Option LogAnswer) → IsPartition p → x.planner ≡ p.planner → Told p.keeping x.keeping answer → (AreRoomy p.keeping.partners → AreRoomy x.keeping.partners) → IsPartition x
told_partition p x answer h v t roomy = partition_on p x h t.done.kept t.done.part v roomy

pub told_turns : (x y : Keeping) (answer : Option LogAnswer) → Told x y answer → y.clock.turns < 2 ^ 64 - 1
told_turns x y answer t = let low = t.counts.clock.turns in omega (arith, low)

pub told_boots : (x y : Keeping) (p : Partition) (answer : Option LogAnswer) → Told x y answer → state_of p.keeping ≡ turn_counted (state_of y) → p.keeping.clock.boots < 2 ^ 64 - 1
told_boots x y p answer t e =
    let low = t.counts.clock.boots in
    let same : p.keeping.clock.boots ≡ y.clock.boots = ap (λ (z : State). z.clock.boots) e in
    omega (arith, low, same)

pub ends_by : (old mid count new : Partition) (earlier : ℕ) (answer : Option LogAnswer) → Told old.keeping mid.keeping answer → mid.planner ≡ old.planner
    → state_of count.keeping ≡ turn_counted (state_of mid.keeping) → ((q c : ℕ) → records_at count.keeping q c ≡ records_at mid.keeping q c) → count.keeping.part ≡ mid.keeping.part → count.planner ≡ mid.planner
    → state_of new.keeping ≡ moment count.keeping.part earlier (state_of count.keeping) → ((q c : ℕ) → q < count.keeping.part.count → c < CHANNELS → records_at new.keeping q c ≡ records_at count.keeping q c) → new.keeping.part ≡ count.keeping.part
    → new.planner ≡ (if nat_eq new.keeping.clock.boots count.keeping.clock.boots then count.planner else first_visit count.keeping.part) → IsPartition new
    → Ends old.keeping.part (state_of old.keeping) earlier old new answer
ends_by old mid count new earlier answer t v1 st2 r2 p2 v2 st3 r3 p3 v3 h =
    let s = old.keeping.part in
    let st = state_of old.keeping in
    let now = after_acts s st t.acts in
    let part2 : count.keeping.part ≡ s = p2 ∙ t.done.part in
    let known : state_of count.keeping ≡ turn_counted now = st2 ∙ ap turn_counted t.done.state in
    let boots : count.keeping.clock.boots ≡ st.clock.boots = ap (λ (z : State). z.clock.boots) known ∙ acts_boots s st t.acts in
    record {
      acts = t.acts;
      calls = t.calls;
      first = t.first;
      may = t.done.may;
      told = subst (λ (z : State). AllTold s z) t.done.state t.told;
      none = subst (λ (z : State). due s z ≡ None) t.done.state t.none;
      prompt = t.prompt;
      entries = t.entries;
      state = st3 ∙ ap (λ (z : ScenarioPart). moment z earlier (state_of count.keeping)) part2 ∙ ap (λ (z : State). moment s earlier z) known;
      records = λ q c low few. r3 q c (subst (λ (z : ScenarioPart). q < z.count) (sym part2) low) few ∙ r2 q c ∙ t.done.records q c low few;
      visit = v3 ∙ ap (λ (z : ScenarioPart). if nat_eq new.keeping.clock.boots count.keeping.clock.boots then count.planner else first_visit z) part2
          ∙ ap (λ (z : Visit Errand). if nat_eq new.keeping.clock.boots count.keeping.clock.boots then z else first_visit s) (v2 ∙ v1)
          ∙ ap (λ (n : ℕ). if nat_eq new.keeping.clock.boots n then old.planner else first_visit s) boots;
      part = p3 ∙ part2;
      partition = h;
    }

pub ruleset ending = (told_partition, told_turns, told_boots, ends_by)
