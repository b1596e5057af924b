-- Guest and host of every two partitions after every history: what is kept by each act, each step and each moment.
use Rattle.std.proofs.Common.{◌≡◌, ℕ, ◌<◌, Bool, true, false, cond, List, [], ◌∷◌, ◌++◌, length, refl, sym, ◌∙◌, subst, inl, inr, ◌⊎◌}
use Rattle.std.specs.Prelude.{is_some, ◌&&◌, not}
use Rattle.std.proofs.lemmas.Bool.{cases_eq, ne_eqb}
use Rattle.xp_base.specs.declared.layout.TheConstants.{SECOND}
use Rattle.xp_base.specs.declared.step.Answer.TheVariants.{Word, Failed}
use Rattle.xp_base.specs.Memory.{Memory}
use Rattle.xp_base.specs.History.{Act, Turn, Event, Turned, Legal, turns_of}
use Rattle.xp_script.specs.declared.part.Link.{Link as ScriptLink}
use Rattle.xp_script.specs.declared.scenario.Scenario.{Scenario}
use Rattle.xp_script.specs.Lawful.{IsLawful}
use Rattle.xp_script.specs.Opening.{opening}
use Rattle.xp_script.specs.Parts.{part_of, links_of}
use Rattle.xp_protocol.specs.declared.rule.Rule.{Rule}
use Rattle.xp_protocol.specs.Parts.{IsLawfulPart}
use Rattle.xp_protocol.specs.Peering.{is_copied}
use Rattle.xp_protocol.specs.Promised.{memory_by}
use Rattle.xp_protocol.specs.Reached.{ReachedWords, state_at}
use Rattle.xp_protocol.specs.Rules.{Can}
use Rattle.xp_protocol.specs.Runs.{turned, restart_comes, stop_comes, is_over}
use Rattle.xp_protocol.specs.State.{End, opening_life, opened_new, opened_state, end_of, peer_of}
use Rattle.xp_protocol.proofs.LawfulParts.{lawful_part}
use Rattle.xp_protocol.proofs.Opened.{opened_fact}
use Rattle.xp_meetings.proofs.Always.{at_one, one_here, does_rule, answer_word}
use Rattle.xp_meetings.proofs.Firsts.{Posture, warm_posture, base_posture, start_at, six_first, met_first}
use Rattle.xp_meetings.proofs.Opening.{opening_words, is_linked}
use Rattle.xp_meetings.proofs.Parts.{Part, part_opened, part_start, part_act, part_ruled, part_moment, from_state}
use Rattle.xp_meetings.proofs.Six.{Six, six}
use Rattle.xp_meetings.proofs.Starts.{starts}
use Rattle.xp_meetings.proofs.Words.{Words, Agrees}
use Rattle.xp_promises.proofs.Before.{Before, before_step, part_at, whole}
use Rattle.xp_invariants.proofs.Clear.{Clear, ClearAt, AllClear, clear_act, clear_rule, clear_failed, clear_moment}
use Rattle.xp_invariants.proofs.Copies.{Copies, rule_copies, act_copies, moment_copies}

pub record Standing (n : ℕ) (w : Words) (σ : ℕ → Part) : Type 0 where
  pub clear : AllClear n w σ
  pub copies : (p q c : ℕ) → p < n → q < n → (p ≡ q → ⊥) → Copies c (peer_of (σ p).state q)

-- a memory is the one that its history leads to
pub memory_is : (h : List Event) (a b : Memory) → Legal a h b → b ≡ memory_by a h
memory_is [] a b l = l
memory_is (e ∷ es) a b l = memory_is es _ b l.1

pub reached_by : (s : Scenario) (h : List Event) (m : Memory) → ReachedWords s h m → ReachedWords s h (memory_by (opening s) h)
reached_by s h m r = subst (λ (x : Memory). ReachedWords s h x) (memory_is h (opening s) m r.legal) r

module _ (s : Scenario) (law : IsLawful s) where
  pub lawful : (p : ℕ) → p < s.count → IsLawfulPart (part_of s p)
  lawful p l = lawful_part s p law l

  -- one partition moves
  copies_moved : (w : Words) (σ : ℕ → Part) (a : ℕ) (k : Part) → Standing s.count w σ → ((q c : ℕ) → q < s.count → (q ≡ a → ⊥) → Copies c (peer_of k.state q)) → (p q c : ℕ) → p < s.count → q < s.count → (p ≡ q → ⊥) → Copies c (peer_of (at_one σ a k p).state q)
  copies_moved w σ a k i here p q c l m d = by (cases_eq p a) where
    by : (p ≡ a) ⊎ (p ≡ a → ⊥) → Copies c (peer_of (at_one σ a k p).state q)
    by (inl e) =
        let P : Part → Type 0 = λ x. Copies c (peer_of x.state q) in
        subst (λ (j : ℕ). P (at_one σ a k j)) (sym e) (subst P (sym (one_here σ a k)) (here q c m (λ f. d (e ∙ sym f))))
    by (inr n) =
        let far : at_one σ a k p ≡ σ p = rw (ne_eqb a p (λ e. n (sym e))) refl in
        subst (λ (x : Part). Copies c (peer_of x.state q)) (sym far) (i.copies p q c l m d)

  module _ (w : Words) (σ : ℕ → Part) (a : ℕ) (la : a < s.count) (i : Standing s.count w σ) where
    partners : length (σ a).state.peers ≡ s.count
    partners = (i.clear.met.all a la).partners

    met_bit : (q : ℕ) → q < s.count → (q ≡ a → ⊥) → is_some (peer_of (σ a).state q).contact ≡ true → (peer_of (σ a).state q).engage.bit ≡ true
    met_bit q l n t = ((i.clear.met.both a q la l (λ e. n (sym e))).own.fit.active t).1

    own : (q c : ℕ) → q < s.count → (q ≡ a → ⊥) → Copies c (peer_of (σ a).state q)
    own q c l n = i.copies a q c la l (λ e. n (sym e))

    pub stands_act : (x : Act) → Standing s.count w (at_one σ a (part_act (part_of s a) (σ a) x))
    stands_act x = record { clear = clear_act s lawful w σ a la i.clear x; copies = copies_moved w σ a (part_act (part_of s a) (σ a) x) i (λ q c l n. act_copies c (part_of s a) (σ a).state q s.count partners l (met_bit q l n) (own q c l n) x) }

    pub stands_rule : (r : Rule) → Can (part_of s a) (σ a).state r → Standing s.count (does_rule (part_of s a) (σ a).state r w) (at_one σ a (part_ruled (part_of s a) (σ a) r (Word (answer_word (part_of s a) (σ a).state r w))))
    stands_rule r can = record { clear = clear_rule s lawful w σ a la i.clear r can; copies = copies_moved w σ a (part_ruled (part_of s a) (σ a) r (Word (answer_word (part_of s a) (σ a).state r w))) i (λ q c l n. rule_copies c (part_of s a) (σ a).state q s.count partners l (met_bit q l n) (own q c l n) r (Word (answer_word (part_of s a) (σ a).state r w)) can) }

    pub stands_failed : (r : Rule) → Can (part_of s a) (σ a).state r → Standing s.count w (at_one σ a (part_ruled (part_of s a) (σ a) r Failed))
    stands_failed r can = record { clear = clear_failed s lawful w σ a la i.clear r can; copies = copies_moved w σ a (part_ruled (part_of s a) (σ a) r Failed) i (λ q c l n. rule_copies c (part_of s a) (σ a).state q s.count partners l (met_bit q l n) (own q c l n) r Failed can) }

    pub stands_moment : (earlier turns : ℕ) → Standing s.count w (at_one σ a (part_moment (part_of s a) earlier turns (σ a)))
    stands_moment earlier turns =
        let su = part_of s a in
        let now = turned turns (σ a).state in
        let b = restart_comes su earlier now && not (is_over now) in
        let stops = stop_comes su earlier now && not (is_over now) in
        record { clear = clear_moment s lawful w σ a la i.clear earlier turns; copies = copies_moved w σ a (part_moment su earlier turns (σ a)) i (λ q c l n. moment_copies c su (σ a).state q s.count partners l (met_bit q l n) (own q c l n) turns b stops) }

  -- the opening
  clear_by : (b : Bool) (ls : List ScriptLink) (n : ℕ) → (let o = cond b warm_posture (base_posture ls) in Clear (opening_life ls) o.engage.area o.engage.bit o.engage.second o.engage.cleared (cond b SECOND 0) (cond b 1 0))
  clear_by true [] n = record { clear = λ x y. absurd (cc); up = λ x. refl; shows = λ x. refl }
  clear_by true (l ∷ ls) n = record { clear = λ x y. absurd (cc); up = λ x. refl; shows = λ x. refl }
  clear_by false [] n = record { clear = λ x y. refl; up = λ x. absurd (cc); shows = λ x. absurd (cc) }
  clear_by false (l ∷ ls) n = record { clear = λ x y. refl; up = λ x. refl; shows = λ x. absurd (cc) }

  clear_first : (p q : ℕ) → p < s.count → q < s.count → ClearAt (opening_life (links_of s p)) (peer_of (opened_state (part_of s p)) q) (six (opening_words s) p q)
  clear_first p q l m =
      let ls = links_of s p in
      let b = is_linked ls q in
      let P : Posture → Six → Type 0 = λ o z. Clear (opening_life ls) o.engage.area o.engage.bit o.engage.second o.engage.cleared z.magic z.bit in
      subst (λ (o : Posture). P o (six (opening_words s) p q)) (sym (start_at s.count (opened_new (part_of s p)) ls q m)) (subst (λ (z : Six). P (cond b warm_posture (base_posture ls)) z) (sym (six_first s law p q l m)) (clear_by b ls 0))

  copies_first : (p q c : ℕ) → Copies c (peer_of (opened_state (part_of s p)) q)
  copies_first p q c t =
      let none : is_copied (end_of (opened_state (part_of s p)) q c) ≡ false = opened_fact (part_of s p) q c (λ (e : End). is_copied e ≡ false) refl (λ new. refl) (λ new l. refl) in
      let z : false ≡ true = sym none ∙ t in
      absurd (cc)

  first : Standing s.count (opening_words s) (λ p. part_opened (part_of s p))
  first = record { clear = record { met = met_first s law; clear = λ p q l m d. clear_first p q l m }; copies = λ p q c l m d. copies_first p q c }

  start : Standing s.count (opening_words s) (λ p. part_start (part_of s p))
  start = starts s law (λ w σ. Standing s.count w σ) (λ w σ a earlier turns la i. stands_moment w σ a la i earlier turns) (opening_words s) first

  pub stands : (h : List Event) (m : Memory) → ReachedWords s h m → (w : Words) × Agrees s.count m w × Standing s.count w (part_at s h)
  stands = whole s law (Standing s.count) (λ w σ a x la i may. stands_act w σ a la i x) (λ w σ a r la i can. stands_rule w σ a la i r can) (λ w σ a r la i can. stands_failed w σ a la i r can) (λ w σ a earlier turns la i. stands_moment w σ a la i earlier turns) start

  pub before_stands : (before after : List Event) (p : ℕ) (t : Turn) (m : Memory) → ReachedWords s (before ++ Turned p t ∷ after) m → Before s (Standing s.count) before p t
  before_stands = before_step s law (Standing s.count) (λ w σ a x la i may. stands_act w σ a la i x) (λ w σ a r la i can. stands_rule w σ a la i r can) (λ w σ a r la i can. stands_failed w σ a la i r can) (λ w σ a earlier turns la i. stands_moment w σ a la i earlier turns) start

  pub known_at : (h : List Event) (p : ℕ) → (part_at s h p).state ≡ state_at s h p
  known_at h p = from_state (part_of s p) (part_start (part_of s p)) (turns_of p h)
