-- A fact of the words and of all partitions that each act and each rule keeps holds after every history.
use Rattle.std.proofs.Common.{◌≡◌, ℕ, ◌+◌, ◌<◌, List, [], ◌∷◌, Bool, true, false, cond, eqb, refl, ap, sym, ◌∙◌, subst, Option, Some, None}
use Rattle.std.proofs.lemmas.Bool.{eq-eqb, eqb-true}
use Rattle.xp_base.specs.declared.step.Op.{Op}
use Rattle.xp_base.specs.declared.step.Answer.{Answer}
use Rattle.xp_base.specs.declared.step.Answer.TheVariants.{Word, Failed}
use Rattle.xp_base.specs.Memory.{Memory, answer_of}
use Rattle.xp_base.specs.History.{Act, Marked, Turn, Event, Poked, Turned, IsAnswer, IsAnswered, after_answer, Legal, turns_of}
use Rattle.xp_base.specs.History.{after_made as memory_made}
use Rattle.xp_script.specs.declared.part.ScenarioPart.{ScenarioPart}
use Rattle.xp_protocol.specs.State.{State}
use Rattle.xp_protocol.specs.declared.rule.Rule.{Rule}
use Rattle.xp_protocol.specs.Parts.{IsLawfulPart}
use Rattle.xp_protocol.specs.Rules.{Can, row_of, owner, op_of}
use Rattle.xp_protocol.specs.Acts.{MayAct, MayActs}
use Rattle.xp_protocol.specs.Runs.{MayMake, May, RunsFrom, after_step}
use Rattle.xp_protocol.specs.Reached.{AreTurnsOf}
use Rattle.xp_protocol.proofs.Undo.{within, owner_low}
use Rattle.xp_meetings.proofs.Words.{Words, does, Agrees, agrees}
use Rattle.xp_meetings.proofs.Parts.{Part, part_act, part_acts, part_step, part_moment, part_counted, part_turn, part_from, part_ruled, step_same, acts_state, turn_state}

-- p's setup is lawful, and is that of partition p among n
pub record IsPart (s : ScenarioPart) (n p : ℕ) : Type 0 where
  pub lawful : IsLawfulPart s
  pub part : s.part ≡ p
  pub count : s.count ≡ n

-- all partitions, one of them replaced
abbrev pub at_one : (ℕ → Part) → ℕ → Part → ℕ → Part
at_one σ q x = λ k. cond (eqb q k) x (σ k)

-- the words after a rule's step, and what it is answered
abbrev pub does_rule : ScenarioPart → State → Rule → Words → Words
does_rule s st r w = does (row_of s st r).kind (owner s st r) (row_of s st r).place w

abbrev pub answer_word : ScenarioPart → State → Rule → Words → ℕ
answer_word s st r w = answer_of (row_of s st r).kind (w (owner s st r) (row_of s st r).place)

pub one_here : (σ : ℕ → Part) (q : ℕ) (x : Part) → at_one σ q x q ≡ x
one_here σ q x = rw (eq-eqb q q refl) refl

kept_at : (b : Bool) (x y : Part) → (b ≡ true → x ≡ y) → cond b x y ≡ y
kept_at true x y h = h refl
kept_at false x y h = refl

pub one_kept : (σ : ℕ → Part) (q : ℕ) → at_one σ q (σ q) ≡ σ
one_kept σ q = λ i k. kept_at (eqb q k) (σ q) (σ k) (λ e. ap σ (eqb-true q k e)) i

twice_at : (b : Bool) (x y z : Part) → cond b y (cond b x z) ≡ cond b y z
twice_at true x y z = refl
twice_at false x y z = refl

one_twice : (σ : ℕ → Part) (q : ℕ) (x y : Part) → at_one (at_one σ q x) q y ≡ at_one σ q y
one_twice σ q x y = λ i k. twice_at (eqb q k) x y (σ k) i

runs_by : (su : ScenarioPart) (k k' : Part) (b : Bool) (t : Turn) (ts : List Turn) → (b ≡ true → k' ≡ part_turn su k t) → RunsFrom su k.state (cond b (t ∷ ts) ts) → RunsFrom su (cond b k' k).state ts
runs_by su k k' true t ts e r = let P : Part → Type 0 = λ x. RunsFrom su x.state ts in subst P (sym (e refl)) (subst (λ (x : State). RunsFrom su x ts) (sym (turn_state su k t)) r.1)
runs_by su k k' false t ts e r = r

pub after_by : (su : ScenarioPart) (k k' : Part) (b : Bool) (t : Turn) (ts : List Turn) → (b ≡ true → k' ≡ part_turn su k t) → part_from su (cond b k' k) ts ≡ part_from su k (cond b (t ∷ ts) ts)
after_by su k k' true t ts e = ap (λ (x : Part). part_from su x ts) (e refl)
after_by su k k' false t ts e = refl

pub may_by : (su : ScenarioPart) (st : State) (b : Bool) (t : Turn) (ts : List Turn) → b ≡ true → RunsFrom su st (cond b (t ∷ ts) ts) → May su st t
may_by su st b t ts e r = (subst (λ (c : Bool). RunsFrom su st (cond c (t ∷ ts) ts)) e r).0

module _ (s : ℕ → ScenarioPart) (n : ℕ) (lawful : (p : ℕ) → p < n → IsPart (s p) n p)
    (Inv : Words → (ℕ → Part) → Type 0)
    (keeps_act : (w : Words) (σ : ℕ → Part) (q : ℕ) (a : Act) → q < n → Inv w σ → MayAct (s q) (σ q).state a → Inv w (at_one σ q (part_act (s q) (σ q) a)))
    (keeps_rule : (w : Words) (σ : ℕ → Part) (q : ℕ) (r : Rule) → q < n → Inv w σ → Can (s q) (σ q).state r → Inv (does_rule (s q) (σ q).state r w) (at_one σ q (part_ruled (s q) (σ q) r (Word (answer_word (s q) (σ q).state r w)))))
    (keeps_failed : (w : Words) (σ : ℕ → Part) (q : ℕ) (r : Rule) → q < n → Inv w σ → Can (s q) (σ q).state r → Inv w (at_one σ q (part_ruled (s q) (σ q) r Failed)))
    (keeps_moment : (w : Words) (σ : ℕ → Part) (q earlier turns : ℕ) → q < n → Inv w σ → Inv w (at_one σ q (part_moment (s q) earlier turns (σ q)))) where
  -- a change of the partition that is followed apart
  moves_at : (w w' : Words) (σ : ℕ → Part) (q : ℕ) (x y : Part) → (Inv w (at_one σ q x) → Inv w' (at_one (at_one σ q x) q y)) → Inv w (at_one σ q x) → Inv w' (at_one σ q y)
  moves_at w w' σ q x y f i = subst (λ (τ : ℕ → Part). Inv w' τ) (one_twice σ q x y) (f i)

  act_at : (w : Words) (σ : ℕ → Part) (q : ℕ) (x : Part) (a : Act) → q < n → Inv w (at_one σ q x) → MayAct (s q) x.state a → Inv w (at_one σ q (part_act (s q) x a))
  act_at w σ q x a l i m =
      let e = one_here σ q x in
      let M : Part → Type 0 = λ y. MayAct (s q) y.state a in
      let P : Part → Type 0 = λ y. Inv w (at_one (at_one σ q x) q (part_act (s q) y a)) in
      moves_at w w σ q x (part_act (s q) x a) (λ j. subst P e (keeps_act w (at_one σ q x) q a l j (subst M (sym e) m))) i

  pub acts_at : (w : Words) (σ : ℕ → Part) (q : ℕ) (x : Part) (more : List Act) → q < n → Inv w (at_one σ q x) → MayActs (s q) x.state more → Inv w (at_one σ q (part_acts (s q) x more))
  acts_at w σ q x [] l i m = i
  acts_at w σ q x (a ∷ more) l i m = acts_at w σ q (part_act (s q) x a) more l (act_at w σ q x a l i m.0) m.1

  pub rule_at : (w : Words) (σ : ℕ → Part) (q : ℕ) (x : Part) (r : Rule) → q < n → Inv w (at_one σ q x) → Can (s q) x.state r → Inv (does_rule (s q) x.state r w) (at_one σ q (part_ruled (s q) x r (Word (answer_word (s q) x.state r w))))
  rule_at w σ q x r l i m =
      let e = one_here σ q x in
      let M : Part → Type 0 = λ y. Can (s q) y.state r in
      let P : Part → Type 0 = λ y. Inv (does_rule (s q) y.state r w) (at_one (at_one σ q x) q (part_ruled (s q) y r (Word (answer_word (s q) y.state r w)))) in
      moves_at w (does_rule (s q) x.state r w) σ q x (part_ruled (s q) x r (Word (answer_word (s q) x.state r w))) (λ j. subst P e (keeps_rule w (at_one σ q x) q r l j (subst M (sym e) m))) i

  pub failed_at : (w : Words) (σ : ℕ → Part) (q : ℕ) (x : Part) (r : Rule) → q < n → Inv w (at_one σ q x) → Can (s q) x.state r → Inv w (at_one σ q (part_ruled (s q) x r Failed))
  failed_at w σ q x r l i m =
      let e = one_here σ q x in
      let M : Part → Type 0 = λ y. Can (s q) y.state r in
      let P : Part → Type 0 = λ y. Inv w (at_one (at_one σ q x) q (part_ruled (s q) y r Failed)) in
      moves_at w w σ q x (part_ruled (s q) x r Failed) (λ j. subst P e (keeps_failed w (at_one σ q x) q r l j (subst M (sym e) m))) i

  pub moment_at : (w : Words) (σ : ℕ → Part) (q earlier : ℕ) (x : Part) → q < n → Inv w (at_one σ q x) → Inv w (at_one σ q (part_counted (s q) earlier x))
  moment_at w σ q earlier x l i =
      let P : Part → Type 0 = λ y. Inv w (at_one (at_one σ q x) q (part_counted (s q) earlier y)) in
      moves_at w w σ q x (part_counted (s q) earlier x) (λ j. subst P (one_here σ q x) (keeps_moment w (at_one σ q x) q earlier ((at_one σ q x q).state.clock.turns + 1) l j)) i

  -- the words and what is followed after a step
  abbrev pub After : Memory → (ℕ → Part) → Type 0
  After m σ = (w : Words) × Agrees n m w × Inv w σ

  owner_is : (q : ℕ) (x : Part) (r : Rule) → q < n → Can (s q) x.state r → owner (s q) x.state r < n
  owner_is q x r l c = let h = owner_low (s q) x.state r (lawful q l).lawful c in subst (λ (k : ℕ). owner (s q) x.state r < k) (lawful q l).count h

  answered : (m : Memory) (w : Words) (σ : ℕ → Part) (q : ℕ) (x : Part) (r : Rule) (a : Answer) → q < n → Agrees n m w → Inv w (at_one σ q x) → Can (s q) x.state r → IsAnswer m (op_of (s q) x.state r) a → After (after_answer m (op_of (s q) x.state r) a) (at_one σ q (part_ruled (s q) x r a))
  answered m w σ q x r Failed l g i c h = (w, g, failed_at w σ q x r l i c)
  answered m w σ q x r (Word v) l g i c h =
      let low = owner_is q x r l c in
      let pl = within (s q) x.state r (lawful q l).lawful c in
      let y = row_of (s q) x.state r in
      let e : v ≡ answer_word (s q) x.state r w = h ∙ ap (answer_of y.kind) (g.words _ _ low pl) in
      let P : ℕ → Type 0 = λ u. Inv (does_rule (s q) x.state r w) (at_one σ q (part_ruled (s q) x r (Word u))) in
      (does_rule (s q) x.state r w, agrees n m w y.kind (owner (s q) x.state r) y.place g low pl, subst P (sym e) (rule_at w σ q x r l i c))

  made_at : (m : Memory) (w : Words) (σ : ℕ → Part) (q : ℕ) (x : Part) (o : Option Marked) → q < n → Agrees n m w → Inv w (at_one σ q x) → MayMake (s q) x.state o → IsAnswered m o → After (memory_made m o) (at_one σ q (part_step (s q) x o))
  made_at m w σ q x None l g i c h = (w, g, i)
  made_at m w σ q x (Some y) l g i c h =
      let A : Op → Type 0 = λ op. IsAnswer m op y.step.answer in
      let P : Op → Type 0 = λ op. After (after_answer m op y.step.answer) (at_one σ q (part_ruled (s q) x c.rule y.step.answer)) in
      let Q : Part → Type 0 = λ z. After (after_answer m y.step.op y.step.answer) (at_one σ q z) in
      subst Q (sym (step_same (s q) x y c.rule c.decoded)) (subst P (sym c.op) (answered m w σ q x c.rule y.step.answer l g i c.can (subst A c.op h)))

  turn_at : (m : Memory) (w : Words) (σ : ℕ → Part) (q : ℕ) (t : Turn) → q < n → Agrees n m w → Inv w σ → May (s q) (σ q).state t → IsAnswered m t.made → After (memory_made m t.made) (at_one σ q (part_turn (s q) (σ q) t))
  turn_at m w σ q t l g i may h =
      let Q : (ℕ → Part) → Type 0 = λ τ. Inv w τ in
      let e = acts_state (s q) (σ q) t.before in
      let first = part_acts (s q) (σ q) t.before in
      let i1 = acts_at w σ q (σ q) t.before l (subst Q (sym (one_kept σ q)) i) may.before in
      let k = made_at m w σ q first t.made l g i1 (subst (λ (st : State). MayMake (s q) st t.made) (sym e) may.made) h in
      let j = acts_at k.0 σ q (part_step (s q) first t.made) t.after l k.2 (subst (λ (st : State). MayActs (s q) (after_step (s q) st t.made) t.after) (sym e) may.after) in
      (k.0, k.1, moment_at k.0 σ q (σ q).state.clock.puts (part_acts (s q) (part_step (s q) first t.made) t.after) l j)

  pub always : (h : List Event) (m m' : Memory) (w : Words) (σ : ℕ → Part) → AreTurnsOf n h → Legal m h m' → ((p : ℕ) → p < n → RunsFrom (s p) (σ p).state (turns_of p h)) → Agrees n m w → Inv w σ → After m' (λ p. part_from (s p) (σ p) (turns_of p h))
  always [] m m' w σ a legal runs g i = let P : Memory → Type 0 = λ x. After x σ in subst P (sym legal) (w, g, i)
  always (Poked owner index word ∷ h) m m' w σ a legal runs g i = absurd a
  always (Turned q t ∷ h) m m' w σ a legal runs g i =
      let may = may_by (s q) (σ q).state (eqb q q) t (turns_of q h) (eq-eqb q q refl) (runs q a.0) in
      let k = turn_at m w σ q t a.0 g i may legal.0 in
      let new = part_turn (s q) (σ q) t in
      let here : (p : ℕ) → eqb q p ≡ true → new ≡ part_turn (s p) (σ p) t = λ p e. ap (λ (x : ℕ). part_turn (s x) (σ x) t) (eqb-true q p e) in
      let r = always h (memory_made m t.made) m' k.0 (at_one σ q new) a.1 legal.1 (λ p l. runs_by (s p) (σ p) new (eqb q p) t (turns_of p h) (here p) (runs p l)) k.1 k.2 in
      let P : (ℕ → Part) → Type 0 = λ τ. After m' τ in
      subst P (λ j p. after_by (s p) (σ p) new (eqb q p) t (turns_of p h) (here p) j) r
