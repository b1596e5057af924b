-- Guest and host of every two partitions, in the words of the law.
use Rattle.std.proofs.Common.{◌≡◌, ℕ, ◌<◌, Bool, true, false, cond, List, [], ◌∷◌, ◌++◌, refl, ap, sym, ◌∙◌, subst, arith, Option, Some, None, inl, inr, ◌⊎◌}
use Rattle.std.specs.Prelude.{is_some}
use Rattle.std.specs.Int.{bit_at}
use Rattle.std.proofs.lemmas.Bool.{cases_eq}
use Rattle.std.proofs.lemmas.List.{append-nil, append_assoc}
use Rattle.xp_base.specs.declared.layout.TheConstants.{ENGAGED, PARTS, RECORD_WORDS}
use Rattle.xp_base.specs.declared.step.Answer.{Answer}
use Rattle.xp_base.specs.declared.step.Answer.TheVariants.{Word, Failed}
use Rattle.xp_base.specs.declared.step.Op.{Op}
use Rattle.xp_base.specs.Memory.{Memory}
use Rattle.xp_base.specs.History.{Event, Poked, Marked, Turn, Turned, IsAnswer, IsAnswered, after_answer, after_made}
use Rattle.xp_base.specs.Places.{Open, Record}
use Rattle.xp_script.specs.declared.part.ScenarioPart.{ScenarioPart}
use Rattle.xp_script.specs.declared.scenario.Scenario.{Scenario}
use Rattle.xp_script.specs.Lawful.{IsLawful}
use Rattle.xp_script.specs.Opening.{opening}
use Rattle.xp_script.specs.Parts.{part_of}
use Rattle.xp_protocol.specs.declared.rule.PeerRule.TheVariants.{ReadRecord, StoreEcho}
use Rattle.xp_protocol.specs.declared.rule.Rule.{Rule}
use Rattle.xp_protocol.specs.declared.rule.Rule.TheVariants.{Peer as ForPeer}
use Rattle.xp_protocol.specs.Decode.{rule_of}
use Rattle.xp_protocol.specs.Peering.{is_copied, read_place}
use Rattle.xp_protocol.specs.Promised.{known_acted, memory_by, word_of}
use Rattle.xp_protocol.specs.Reached.{ReachedWords, state_at}
use Rattle.xp_protocol.specs.Rules.{op_of, row_of, owner}
use Rattle.xp_protocol.specs.Runs.{MayStep, MayMake, May, after_turn}
use Rattle.xp_protocol.specs.State.{State, Up, Area, Off, Old, Ready, Leaving, end_of, peer_of}
use Rattle.xp_protocol.proofs.Undo.{within, owner_low}
use Rattle.xp_meetings.proofs.Both.{free_zeroed}
use Rattle.xp_meetings.proofs.Meets.{PairAt}
use Rattle.xp_meetings.proofs.Six.{six}
use Rattle.xp_meetings.proofs.Words.{Words, Agrees, agrees}
use Rattle.xp_promises.proofs.Before.{Before, part_at, at_step, split, memory-append}
use Rattle.xp_invariants.specs.Between.{ArePartners, HasBooted, IsStepBy, word_after, bit_after, engage_at}
use Rattle.xp_invariants.specs.Hosts.{magic_of, HasSeen, MayRecord, GuestAndHost}
use Rattle.xp_invariants.proofs.Clear.{ClearAt}
use Rattle.xp_invariants.proofs.HostStays.{turn_stays}
use Rattle.xp_invariants.proofs.OldBits.{Kept, old_act, old_rule, old_failed, old_moment}
use Rattle.xp_invariants.proofs.Onward.{next, own_turn, other_turn, step_state, onward}
use Rattle.xp_invariants.proofs.Recorded.{Changes, record_kept}
use Rattle.xp_invariants.proofs.Standing.{Standing, lawful, reached_by, stands, before_stands, known_at}

module _ (s : Scenario) (law : IsLawful s) (h : List Event) (m : Memory) (given : ReachedWords s h m) where
  reached : ReachedWords s h (memory_by (opening s) h)
  reached = reached_by s h m given

  abbrev words : Words
  words = (stands s law h (memory_by (opening s) h) reached).0

  tied : Agrees s.count (memory_by (opening s) h) words
  tied = (stands s law h (memory_by (opening s) h) reached).1

  now : Standing s.count words (part_at s h)
  now = (stands s law h (memory_by (opening s) h) reached).2

  low_part : (p : ℕ) → p < s.count → p < PARTS
  low_part p l = omega (arith, l, law.numbers.count.high)

  bit_is : (p q : ℕ) → q < s.count → bit_after s h p q ≡ bit_at (words q (Open ENGAGED)) p
  bit_is p q l = ap (λ (x : ℕ). bit_at x p) (tied.words q (Open ENGAGED) l (omega arith))

  module _ (p q : ℕ) (l : ArePartners s p q) where
    abbrev st : State
    st = (part_at s h p).state

    clear_now : ClearAt st.life (peer_of st q) (six words p q)
    clear_now = now.clear.clear p q l.first l.second l.apart

    bit_now : st.life ≡ Up → bit_after s h p q ≡ cond (peer_of st q).engage.bit 1 0
    bit_now up = bit_is p q l.second ∙ by (peer_of st q).engage.bit refl where
      by : (b : Bool) → (peer_of st q).engage.bit ≡ b → bit_at (words q (Open ENGAGED)) p ≡ cond b 1 0
      by true e = (now.clear.met.both p q l.first l.second l.apart).guest.set e
      by false e = clear_now.clear (clear_now.up up) e

    inside_now : (peer_of st q).engage.bit ≡ true → ((peer_of st q).engage.area ≡ Ready) ⊎ ((peer_of st q).engage.area ≡ Leaving)
    inside_now e = (now.clear.met.both p q l.first l.second l.apart).own.fit.inside e

    -- a partition that hasn't booted has no bit
    outside_now : (st.life ≡ Up → ⊥) → (peer_of st q).engage.bit ≡ false
    outside_now n = by (peer_of st q).engage.bit refl where
      old : (peer_of st q).engage.area ≡ Old
      old = (now.clear.met.both p q l.first l.second l.apart).own.down n

      by : (b : Bool) → (peer_of st q).engage.bit ≡ b → b ≡ false
      by false e = refl
      by true e = elim (inside_now e) [ inl d ↦ let z : Old ≡ Ready = sym old ∙ d in absurd (cc) | inr d ↦ let z : Old ≡ Leaving = sym old ∙ d in absurd (cc) ]

    cleared_now : (st.life ≡ Up → ⊥) → (peer_of st q).engage.cleared ≡ true → bit_after s h p q ≡ 0
    cleared_now n c = bit_is p q l.second ∙ clear_now.clear c (outside_now n)

    magic_now : st.life ≡ Up → word_after s h p (Record q 0) ≡ magic_of (peer_of st q).engage.area (peer_of st q).engage.second
    magic_now up = tied.words p (Record q 0) l.first (low_part q l.second, omega arith) ∙ by (peer_of st q).engage.area refl where
      both : PairAt words (part_at s h p) (part_at s h q) p q
      both = now.clear.met.both p q l.first l.second l.apart

      by : (x : Area) → (peer_of st q).engage.area ≡ x → words p (Record q 0) ≡ magic_of x (peer_of st q).engage.second
      by Ready e = clear_now.shows e
      by Old e = both.own.owns.magic (both.own.up up) (λ r. (let z : Old ≡ Ready = sym e ∙ r in absurd (cc)))
      by Off e = both.own.owns.magic (both.own.up up) (λ r. (let z : Off ≡ Ready = sym e ∙ r in absurd (cc)))
      by Leaving e = both.own.owns.magic (both.own.up up) (λ r. (let z : Leaving ≡ Ready = sym e ∙ r in absurd (cc)))

  -- the bit of a partition that boots
  old_now : (p q : ℕ) (before after : List Event) → ArePartners s p q → h ≡ before ++ after → (state_at s before p).clock.boots ≡ (state_at s h p).clock.boots → (HasBooted s h p → ⊥) → (engage_at s h p q).cleared ≡ false → bit_after s h p q ≡ bit_after s before p q
  old_now p q before after l e boots booting uncleared =
      let r : ReachedWords s (before ++ after) (memory_by (opening s) h) = subst (λ (es : List Event). ReachedWords s es (memory_by (opening s) h)) e reached in
      let there = (split s before after (memory_by (opening s) h) r).reached in
      let z = stands s law before (memory_by (opening s) before) there in
      let n = (part_at s before p).state.clock.boots in
      let v = bit_at (z.0 q (Open ENGAGED)) p in
      let first : Kept s law p q n v l.first l.second l.apart z.0 (part_at s before) = record { standing = z.2; old = (omega arith, λ b u c. refl) } in
      let k = onward s law (Kept s law p q n v l.first l.second l.apart) (old_act s law p q n v l.first l.second l.apart) (old_rule s law p q n v l.first l.second l.apart) (old_failed s law p q n v l.first l.second l.apart) (old_moment s law p q n v l.first l.second l.apart) before after (memory_by (opening s) h) r z.0 z.1 first in
      let at : (part_at s (before ++ after) p).state ≡ state_at s h p = ap (λ (es : List Event). (part_at s es p).state) (sym e) ∙ known_at s law h p in
      let old = k.2.old.1 (ap (λ (x : State). x.clock.boots) at ∙ sym boots ∙ ap (λ (x : State). x.clock.boots) (sym (known_at s law before p))) (λ u. booting (ap (λ (x : State). x.life) (sym at) ∙ u)) (ap (λ (x : State). (peer_of x q).engage.cleared) at ∙ uncleared) in
      ap (λ (x : ℕ). bit_at x p) (k.1.words q (Open ENGAGED) l.second (omega arith)) ∙ old ∙ sym (ap (λ (x : ℕ). bit_at x p) (z.1.words q (Open ENGAGED) l.second (omega arith)))

  -- the words of a record
  recorded : (p q f : ℕ) (before after : List Event) (a : ℕ) (t : Turn) → ArePartners s p q → h ≡ before ++ Turned a t ∷ after → 0 < f → f < RECORD_WORDS →
      (word_after s (before ++ Turned a t ∷ []) p (Record q f) ≡ word_after s before p (Record q f)) ⊎ MayRecord s before a p q f t
  recorded p q f before after a t l e some few =
      let b = before_stands s law before after a t (memory_by (opening s) h) (subst (λ (es : List Event). ReachedWords s es (memory_by (opening s) h)) e reached) in
      by b t.made refl b.made
    where
      pl_within : (q < PARTS) × (f < RECORD_WORDS)
      pl_within = (low_part q l.second, few)

      after_is : word_after s (before ++ Turned a t ∷ []) p (Record q f) ≡ word_of (after_made (memory_by (opening s) before) t.made) p (Record q f)
      after_is = ap (λ (x : Memory). word_of x p (Record q f)) (memory-append (opening s) before (Turned a t ∷ []))

      Goal : Type 0
      Goal = (word_after s (before ++ Turned a t ∷ []) p (Record q f) ≡ word_after s before p (Record q f)) ⊎ MayRecord s before a p q f t

      by : Before s (Standing s.count) before a t → (o : Option Marked) → t.made ≡ o → MayMake (part_of s a) (at_step s before a t).state o → Goal
      by b None made may = inl (after_is ∙ ap (λ (o : Option Marked). word_of (after_made (memory_by (opening s) before) o) p (Record q f)) made)
      by b (Some x) made may = answered x.step.answer refl where
        mem : Memory
        mem = memory_by (opening s) before

        su : ScenarioPart
        su = part_of s a

        known : State
        known = (at_step s before a t).state

        -- the word after the step
        step_is : (y : Answer) → x.step.answer ≡ y → word_after s (before ++ Turned a t ∷ []) p (Record q f) ≡ word_of (after_answer mem (op_of su known may.rule) y) p (Record q f)
        step_is y ans = after_is ∙ ap (λ (o : Option Marked). word_of (after_made mem o) p (Record q f)) made ∙ (λ i. word_of (after_answer mem (may.op i) (ans i)) p (Record q f))

        answered : (y : Answer) → x.step.answer ≡ y → Goal
        answered Failed ans = inl (step_is Failed ans)
        answered (Word v) ans =
            let words_now = agrees s.count mem b.words (row_of su known may.rule).kind (owner su known may.rule) (row_of su known may.rule).place b.agrees (owner_low su known may.rule (lawful s law a b.low) may.can) (within su known may.rule (lawful s law a b.low) may.can) in
            let w' = step_is (Word v) ans ∙ words_now.words p (Record q f) l.first pl_within in
            let old = b.agrees.words p (Record q f) l.first pl_within in
            elim (record_kept su known b.words p q f some may.rule may.can) [
              | inl same ↦ inl (w' ∙ same ∙ sym old)
              | inr c ↦ inr (changed c)
            ]
          where
            stepped : (r : Rule) → may.rule ≡ r → rule_of su (known_acted s before a t.before) x.step.op x.mark ≡ Some r
            stepped r same = ap (λ (st : State). rule_of su st x.step.op x.mark) (sym (step_state s before a t)) ∙ may.decoded ∙ ap (λ (z : Rule). Some z) same

            free : Changes su known may.rule p q f → ((peer_of (known_acted s before a t.before) q).engage.area ≡ Off) ⊎ ((f ≡ 2) × IsStepBy s before a t (ForPeer q StoreEcho))
            free c = elim c.free [
              | inl off ↦ inl (ap (λ (st : State). (peer_of st q).engage.area) (sym (step_state s before a t)) ∙ off)
              | inr echo ↦ inr (echo.0, record { step = x; made = made; ruled = stepped (ForPeer q StoreEcho) echo.1 })
            ]

            changed : Changes su known may.rule p q f → MayRecord s before a p q f t
            changed c =
                let own : a ≡ p = c.own in
                let P : ℕ → Type 0 = λ j. ((peer_of (known_acted s before j t.before) q).engage.area ≡ Off) ⊎ ((f ≡ 2) × IsStepBy s before j t (ForPeer q StoreEcho)) in
                record { own = own; free = subst P own (free c) }

  -- a host stays
  host_now : (p q : ℕ) (before after : List Event) (t : Turn) → ArePartners s p q → h ≡ before ++ Turned p t ∷ after → HasSeen s before after p q t → (engage_at s h q p).area ≡ Off → ⊥
  host_now p q before after t l e seen off = stays [] after refl base (ap (λ (es : List Event). (engage_at s es q p).area) (sym e) ∙ off) where
    mem : Memory
    mem = memory_by (opening s) h

    reached' : ReachedWords s (before ++ Turned p t ∷ after) mem
    reached' = subst (λ (es : List Event). ReachedWords s es mem) e reached

    Free : List Event → Type 0
    Free es = (engage_at s es q p).area ≡ Off

    -- right before the step
    b : Before s (Standing s.count) before p t
    b = before_stands s law before after p t mem reached'

    -- the magic is the word that stands
    magic_word : b.words q (Record p 0) ≡ seen.magic
    magic_word = magic_at seen.read.made b.made where
      x : Marked
      x = seen.read.step

      magic_at : t.made ≡ Some x → MayMake (part_of s p) (at_step s before p t).state t.made → b.words q (Record p 0) ≡ seen.magic
      magic_at made may =
          let known = (at_step s before p t).state in
          let step : MayStep (part_of s p) known x = subst (λ (o : Option Marked). MayMake (part_of s p) known o) made may in
          let ruled : rule_of (part_of s p) known x.step.op x.mark ≡ Some (ForPeer q ReadRecord) = ap (λ (st : State). rule_of (part_of s p) st x.step.op x.mark) (step_state s before p t) ∙ seen.read.ruled in
          let both : Some step.rule ≡ Some (ForPeer q ReadRecord) = sym step.decoded ∙ ruled in
          let same : step.rule ≡ ForPeer q ReadRecord = cc in
          let op : x.step.op ≡ op_of (part_of s p) known (ForPeer q ReadRecord) = step.op ∙ ap (λ (z : Rule). op_of (part_of s p) known z) same in
          let place : read_place (peer_of known q).engage.reading ≡ 0 = ap (λ (st : State). read_place (peer_of st q).engage.reading) (step_state s before p t) ∙ seen.first in
          let answers : IsAnswered (memory_by (opening s) before) (Some x) = subst (λ (o : Option Marked). IsAnswered (memory_by (opening s) before) o) made (next s before after p t mem reached').answered in
          let answered : IsAnswer (memory_by (opening s) before) (op_of (part_of s p) known (ForPeer q ReadRecord)) (Word seen.magic) = subst (λ (o : Op). IsAnswer (memory_by (opening s) before) o (Word seen.magic)) op (subst (λ (y : Answer). IsAnswer (memory_by (opening s) before) x.step.op y) seen.answered answers) in
          sym (answered ∙ ap (λ (n : ℕ). word_of (memory_by (opening s) before) q (Record p n)) place ∙ b.agrees.words q (Record p 0) l.second (low_part p l.first, omega arith))

    base : Free (before ++ Turned p t ∷ []) → ⊥
    base f =
        let there : state_at s (before ++ Turned p t ∷ []) q ≡ state_at s before q = other_turn s before p q t l.apart in
        let k = b.now.clear.met.both q p l.second l.first (λ d. l.apart (sym d)) in
        let area : (peer_of (part_at s before q).state p).engage.area ≡ Off = ap (λ (st : State). (peer_of st p).engage.area) (known_at s law before q ∙ sym there) ∙ f in
        let zero : b.words q (Record p 0) ≡ 0 = k.own.owns.magic (free_zeroed _ _ _ _ _ _ k.own area) (λ r. (let z : Off ≡ Ready = sym area ∙ r in absurd (cc))) in
        seen.some (sym magic_word ∙ zero)

    -- one turn more
    goes_on : (some es : List Event) (a : ℕ) (u : Turn) → after ≡ some ++ Turned a u ∷ es → (Free (before ++ Turned p t ∷ some) → ⊥) → Free (before ++ Turned p t ∷ (some ++ Turned a u ∷ [])) → ⊥
    goes_on some es a u d n f =
        let point = before ++ Turned p t ∷ some in
        let longer : (zs : List Event) → point ++ zs ≡ before ++ Turned p t ∷ (some ++ zs) = λ zs. append_assoc before (Turned p t ∷ some) zs in
        let whole : ReachedWords s (point ++ Turned a u ∷ es) mem = subst (λ (xs : List Event). ReachedWords s xs mem) (ap (λ (xs : List Event). before ++ Turned p t ∷ xs) d ∙ sym (longer (Turned a u ∷ es))) reached' in
        let k = next s point es a u mem whole in
        let bit = seen.stood some (Turned a u ∷ es) d in
        let f' : Free (point ++ Turned a u ∷ []) = subst Free (sym (longer (Turned a u ∷ []))) f in
        elim (cases_eq a q) [
          | inl e ↦
              let moved : (peer_of (after_turn (part_of s q) (state_at s point q) u) p).engage.area ≡ Off = ap (λ (st : State). (peer_of st p).engage.area) (sym (own_turn s point q u)) ∙ ap (λ (j : ℕ). (engage_at s (point ++ Turned j u ∷ []) q p).area) (sym e) ∙ f' in
              turn_stays (part_of s q) p (memory_by (opening s) point) (state_at s point q) u bit (subst (λ (j : ℕ). May (part_of s j) (state_at s point j) u) e k.may) k.answered n moved
          | inr o ↦ n (ap (λ (st : State). (peer_of st p).engage.area) (sym (other_turn s point a q u o)) ∙ f')
        ]

    stays : (some rest : List Event) → after ≡ some ++ rest → (Free (before ++ Turned p t ∷ some) → ⊥) → Free (before ++ Turned p t ∷ (some ++ rest)) → ⊥
    stays some [] d n f = n (subst (λ (xs : List Event). Free (before ++ Turned p t ∷ xs)) (append-nil some) f)
    stays some (Poked owner index word ∷ es) d n f =
        let point = before ++ Turned p t ∷ some in
        let whole : ReachedWords s (point ++ Poked owner index word ∷ es) mem = subst (λ (xs : List Event). ReachedWords s xs mem) (ap (λ (xs : List Event). before ++ Turned p t ∷ xs) d ∙ sym (append_assoc before (Turned p t ∷ some) (Poked owner index word ∷ es))) reached' in
        absurd (split s point (Poked owner index word ∷ es) mem whole).parts
    stays some (Turned a u ∷ es) d n f =
        let turn : Event = Turned a u in
        let new = goes_on some es a u d n in
        let shift : (some ++ turn ∷ []) ++ es ≡ some ++ turn ∷ es = append_assoc some (turn ∷ []) es in
        stays (some ++ turn ∷ []) es (d ∙ sym shift) new (subst (λ (xs : List Event). Free (before ++ Turned p t ∷ xs)) (sym shift) f)

pub guests_hosts : (s : Scenario) → IsLawful s → (h : List Event) (m : Memory) → ReachedWords s h m → GuestAndHost s h
guests_hosts s law h m r =
    let at : (p : ℕ) → (part_at s h p).state ≡ state_at s h p = λ p. known_at s law h p in
    record {
      bit = λ p q l. subst (λ (st : State). st.life ≡ Up → bit_after s h p q ≡ cond (peer_of st q).engage.bit 1 0) (at p) (bit_now s law h m r p q l);
      old_bit = old_now s law h m r;
      cleared_bit = λ p q l. subst (λ (st : State). (st.life ≡ Up → ⊥) → (peer_of st q).engage.cleared ≡ true → bit_after s h p q ≡ 0) (at p) (cleared_now s law h m r p q l);
      own_area = λ p q l. subst (λ (st : State). (peer_of st q).engage.bit ≡ true → ((peer_of st q).engage.area ≡ Ready) ⊎ ((peer_of st q).engage.area ≡ Leaving)) (at p) (inside_now s law h m r p q l);
      magic = λ p q l. subst (λ (st : State). st.life ≡ Up → word_after s h p (Record q 0) ≡ magic_of (peer_of st q).engage.area (peer_of st q).engage.second) (at p) (magic_now s law h m r p q l);
      reading = λ p q l. subst (λ (st : State). is_some (peer_of st q).engage.reading ≡ true → (peer_of st q).engage.bit ≡ true) (at p) (λ e. (((now s law h m r).clear.met.both p q l.first l.second l.apart).own.fit.reading e).1);
      copying = λ p q c l lc. subst (λ (st : State). is_copied (end_of st q c) ≡ true → (peer_of st q).engage.bit ≡ true) (at p) ((now s law h m r).copies p q c l.first l.second l.apart);
      contact = λ p q l. subst (λ (st : State). is_some (peer_of st q).contact ≡ true → (peer_of st q).engage.bit ≡ true) (at p) (λ e. (((now s law h m r).clear.met.both p q l.first l.second l.apart).own.fit.active e).1);
      host = host_now s law h m r;
      record_words = recorded s law h m r;
    }
