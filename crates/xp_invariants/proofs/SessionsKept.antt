-- Sessions, echoes and contacts, in the words of the law.
use Rattle.std.proofs.Common.{length, ◌≡◌, ℕ, ◌<◌, ◌≤◌, true, List, [], ◌∷◌, ◌++◌, refl, ap, sym, ◌∙◌, subst, arith, Option, Some, None}
use Rattle.std.specs.Prelude.{is_some}
use Rattle.std.proofs.lemmas.List.{append_assoc}
use Rattle.xp_base.specs.declared.layout.TheConstants.{PARTS, STAMP}
use Rattle.xp_base.specs.declared.step.Answer.{Answer}
use Rattle.xp_base.specs.declared.step.Answer.TheVariants.{Word, Failed}
use Rattle.xp_base.specs.declared.step.Op.{Op}
use Rattle.xp_base.specs.Memory.{Memory}
use Rattle.xp_base.specs.History.{Event, Marked, Turn, Turned, IsAnswer, IsAnswered, after_answer, after_made}
use Rattle.xp_base.specs.Places.{Open, Record}
use Rattle.xp_base.specs.Sessions.{session_word}
use Rattle.xp_script.specs.declared.part.ScenarioPart.{ScenarioPart}
use Rattle.xp_script.specs.declared.scenario.Scenario.{Scenario}
use Rattle.xp_script.specs.Lawful.{IsLawful}
use Rattle.xp_script.specs.Opening.{opening}
use Rattle.xp_script.specs.Parts.{part_of}
use Rattle.xp_protocol.specs.declared.rule.PeerRule.TheVariants.{OpenArea}
use Rattle.xp_protocol.specs.declared.rule.Rule.{Rule}
use Rattle.xp_protocol.specs.declared.rule.Rule.TheVariants.{Peer as ForPeer}
use Rattle.xp_protocol.specs.Decode.{rule_of}
use Rattle.xp_protocol.specs.Peering.{or_zero, session_next}
use Rattle.xp_protocol.specs.Promised.{memory_by}
use Rattle.xp_protocol.specs.Reached.{ReachedWords, state_at}
use Rattle.xp_protocol.specs.Rules.{Can, op_of, row_of, owner}
use Rattle.xp_protocol.specs.Runs.{MayStep, MayMake}
use Rattle.xp_protocol.specs.State.{State, Life, Up, Contact, Peer, peer_of}
use Rattle.xp_protocol.proofs.Undo.{within, owner_low}
use Rattle.xp_meetings.proofs.Always.{at_one, one_here, rule_at, does_rule}
use Rattle.xp_meetings.proofs.Meets.{PairAt, peer_cases}
use Rattle.xp_meetings.proofs.Parts.{Part, part_ruled, part_step, step_same}
use Rattle.xp_meetings.proofs.Touch.{touch, word_back}
use Rattle.xp_meetings.proofs.Words.{Words, Agrees, agrees}
use Rattle.xp_promises.proofs.Before.{Before, is_part, part_at, at_step, split, memory-append}
use Rattle.xp_invariants.specs.Between.{ArePartners, word_after}
use Rattle.xp_invariants.specs.Sessions.{Opens, session_opened, Sessions}
use Rattle.xp_invariants.proofs.Onward.{next, step_state, onward, turn_done, acts_done}
use Rattle.xp_invariants.proofs.Rising.{latest, HighAt, Risen, high_act, high_rule, high_failed, high_moment}
use Rattle.xp_invariants.proofs.Standing.{Standing, lawful, reached_by, stands, before_stands, stands_act, stands_rule, stands_failed, stands_moment, known_at}

module _ (s : Scenario) (law : IsLawful s) (h : List Event) (m : Memory) (given : ReachedWords s h m) where
  reached : ReachedWords s h (memory_by (opening s) h)
  reached = reached_by s h m given

  abbrev words : Words
  words = (stands s law h (memory_by (opening s) h) reached).0

  tied : Agrees s.count (memory_by (opening s) h) words
  tied = (stands s law h (memory_by (opening s) h) reached).1

  standing : Standing s.count words (part_at s h)
  standing = (stands s law h (memory_by (opening s) h) reached).2

  low_part : (p : ℕ) → p < s.count → p < PARTS
  low_part p l = omega (arith, l, law.numbers.count.high)

  module _ (p q : ℕ) (l : ArePartners s p q) where
    abbrev st : State
    st = (part_at s h p).state

    pair : PairAt words (part_at s h p) (part_at s h q) p q
    pair = standing.clear.met.both p q l.first l.second l.apart

    own_word : (f : ℕ) → f < 8 → word_after s h p (Record q f) ≡ words p (Record q f)
    own_word f k = tied.words p (Record q f) l.first (low_part q l.second, k)

    their_word : (f : ℕ) → f < 8 → word_after s h q (Record p f) ≡ words q (Record p f)
    their_word f k = tied.words q (Record p f) l.second (low_part p l.first, k)

    some_echo : (o : Option ℕ) → (or_zero o ≡ 0 → ⊥) → o ≡ Some (or_zero o)
    some_echo None n = absurd (n refl)
    some_echo (Some v) n = refl

    echo_now : (peer_of st q).engage.bit ≡ true → (word_after s h p (Record q 2) ≡ 0 → ⊥) → word_after s h p (Record q 2) ≡ word_after s h q (Record p 1)
    echo_now bit n =
        let o = (peer_of st q).engage.echo in
        let own : words p (Record q 2) ≡ or_zero o = pair.own.owns.echo (pair.own.fit.inside bit) in
        let some = some_echo o (λ z. n (own_word 2 (omega arith) ∙ own ∙ z)) in
        own_word 2 (omega arith) ∙ own ∙ sym (pair.guest.echo bit (or_zero o) some) ∙ sym (their_word 1 (omega arith))

    contact_now : (k : Contact) → (peer_of st q).contact ≡ Some k → ((peer_of st q).engage.bit ≡ true) × (word_after s h q (Record p 1) ≡ session_word k.theirs) × (word_after s h q (Record p 2) ≡ session_word k.own)
    contact_now k e =
        let f = pair.own.fit in
        let on : is_some (peer_of st q).contact ≡ true = ap (λ (o : Option Contact). is_some o) e in
        let a = f.active on in
        let t = touch _ _ k pair e in
        let made = f.made k e in
        let seen = pair.guest.shown a.1 a.3 in
        let theirs : session_word k.theirs ≡ words q (Record p 1) = ap session_word (sym t.one) ∙ word_back (words q (Record p 1)) in
        let own : session_word k.own ≡ words q (Record p 2) = ap session_word (ap (λ (z : Contact). z.own) made) ∙ sym seen in
        (a.1, their_word 1 (omega arith) ∙ sym theirs, their_word 2 (omega arith) ∙ sym own)

  -- a turn in which an area is opened
  module _ (p q : ℕ) (l : ArePartners s p q) (before after : List Event) (t : Turn) (r : ReachedWords s (before ++ Turned p t ∷ after) (memory_by (opening s) h)) (opens : Opens s before p q t) where
    abbrev mem : Memory
    mem = memory_by (opening s) before

    abbrev su : ScenarioPart
    su = part_of s p

    abbrev σ : ℕ → Part
    σ = part_at s before

    abbrev here : Part
    here = at_step s before p t

    abbrev known : State
    known = here.state

    abbrev x : Marked
    x = opens.step

    abbrev rule : Rule
    rule = ForPeer q OpenArea

    pub b : Before s (Standing s.count) before p t
    b = before_stands s law before after p t (memory_by (opening s) h) r

    step : MayStep su known x
    step = subst (λ (o : Option Marked). MayMake su known o) opens.made b.made

    ruled : rule_of su known x.step.op x.mark ≡ Some rule
    ruled = ap (λ (st : State). rule_of su st x.step.op x.mark) (step_state s before p t) ∙ opens.ruled

    is_rule : step.rule ≡ rule
    is_rule = let both : Some step.rule ≡ Some rule = sym step.decoded ∙ ruled in cc

    pub can : Can su known rule
    can = subst (λ (z : Rule). Can su known z) is_rule step.can

    -- the number of the session under which it is opened
    abbrev pub number : ℕ
    number = session_word (session_next known.stamp (peer_of known q).engage)

    pub number_is : number ≡ session_word (session_opened s before p q t)
    number_is = ap (λ (st : State). session_word (session_next st.stamp (peer_of st q).engage)) (step_state s before p t)

    -- the stamp of a partition that is up is its own word
    pub stamp_is : (w : Words) → Standing s.count w (at_one σ p here) → known.stamp ≡ w p (Open STAMP)
    stamp_is w i = subst (λ (k : Part). k.state.life ≡ Up → k.state.stamp ≡ w p (Open STAMP)) (one_here σ p here) ((i.clear.met.stamps p l.first).up) can.0

    -- what the step leaves
    op_is : x.step.op ≡ op_of su known rule
    op_is = step.op ∙ ap (λ (z : Rule). op_of su known z) is_rule

    stored : (y : Answer) → IsAnswer mem (op_of su known rule) y → y ≡ Word 0
    stored (Word v) e = ap (λ (n : ℕ). Word n) e
    stored Failed e = absurd (cc)

    answer_is : x.step.answer ≡ Word 0
    answer_is =
        let answers : IsAnswered mem (Some x) = subst (λ (o : Option Marked). IsAnswered mem o) opens.made (next s before after p t (memory_by (opening s) h) r).answered in
        stored x.step.answer (subst (λ (o : Op). IsAnswer mem o x.step.answer) op_is answers)

    part_is : part_step su here t.made ≡ part_ruled su here rule (Word 0)
    part_is = ap (λ (o : Option Marked). part_step su here o) opens.made ∙ step_same su here x rule ruled ∙ ap (λ (y : Answer). part_ruled su here rule y) answer_is

    abbrev pub words_then : Words
    words_then = does_rule su known rule b.words

    pub tied_then : Agrees s.count (memory_by (opening s) (before ++ Turned p t ∷ [])) words_then
    tied_then =
        let y = row_of su known rule in
        let z = agrees s.count mem b.words y.kind (owner su known rule) y.place b.agrees (owner_low su known rule (lawful s law p l.first) can) (within su known rule (lawful s law p l.first) can) in
        let e : memory_by (opening s) (before ++ Turned p t ∷ []) ≡ after_answer mem (op_of su known rule) (Word 0) = memory-append (opening s) before (Turned p t ∷ []) ∙ ap (λ (o : Option Marked). after_made mem o) opens.made ∙ (λ i. after_answer mem (op_is i) (answer_is i)) in
        subst (λ (k : Memory). Agrees s.count k words_then) (sym e) z

    standing_then : Standing s.count words_then (at_one σ p (part_ruled su here rule (Word 0)))
    standing_then = rule_at (part_of s) s.count (is_part s law) (Standing s.count) (λ w σ a x la i may. stands_act s law w σ a la i x) (λ w σ a r la i can. stands_rule s law w σ a la i r can) (λ w σ a r la i can. stands_failed s law w σ a la i r can) (λ w σ a earlier turns la i. stands_moment s law w σ a la i earlier turns) b.words σ p here rule l.first b.holds can

    high_then : HighAt s law p q number l.first l.second l.apart words_then (part_ruled su here rule (Word 0))
    high_then =
        let new = (part_ruled su here rule (Word 0)).state in
        let stamp = stamp_is b.words b.holds in
        let partners = subst (λ (k : Part). length k.state.peers ≡ s.count) (one_here σ p here) (b.holds.clear.met.all p l.first).partners in
        subst (λ (y : Life). number ≤ latest y (b.words p (Open STAMP)) (peer_of new q).engage.count) (sym can.0)
        (peer_cases (λ (j : ℕ) (z : Peer). number ≤ latest Up (b.words p (Open STAMP)) z.engage.count) known.peers q _ q partners l.second (omega (arith, stamp)) (λ n. absurd (n refl)))

    pub risen_then : Risen s law p q number l.first l.second l.apart words_then (at_one σ p (part_step su here t.made))
    risen_then =
        let P : Part → Type 0 = λ k. Risen s law p q number l.first l.second l.apart words_then (at_one σ p k) in
        let now = part_ruled su here rule (Word 0) in
        subst P (sym part_is) (record { standing = standing_then; high = subst (λ (k : Part). HighAt s law p q number l.first l.second l.apart words_then k) (sym (one_here σ p now)) high_then })

  rises : (p q : ℕ) (a b c : List Event) (t u : Turn) → (l : ArePartners s p q) → h ≡ (a ++ Turned p t ∷ b) ++ Turned p u ∷ c → Opens s a p q t → Opens s (a ++ Turned p t ∷ b) p q u → session_word (session_opened s a p q t) < session_word (session_opened s (a ++ Turned p t ∷ b) p q u)
  rises p q a b c t u l e first second =
      let top = memory_by (opening s) h in
      let point = a ++ Turned p t ∷ b in
      let r2 : ReachedWords s (point ++ Turned p u ∷ c) top = subst (λ (es : List Event). ReachedWords s es top) e reached in
      let r1 : ReachedWords s (a ++ Turned p t ∷ (b ++ Turned p u ∷ c)) top = subst (λ (es : List Event). ReachedWords s es top) (append_assoc a (Turned p t ∷ b) (Turned p u ∷ c)) r2 in
      let low = number p q l a (b ++ Turned p u ∷ c) t r1 first in
      let Inv : Words → (ℕ → Part) → Type 0 = λ w σ. Risen s law p q low l.first l.second l.apart w σ in
      let ka = high_act s law p q low l.first l.second l.apart in
      let kr = high_rule s law p q low l.first l.second l.apart in
      let kf = high_failed s law p q low l.first l.second l.apart in
      let km = high_moment s law p q low l.first l.second l.apart in
      let words1 = words_then p q l a (b ++ Turned p u ∷ c) t r1 first in
      let one = turn_done s law Inv ka kr kf km a (b ++ Turned p u ∷ c) p t top r1 words1 (risen_then p q l a (b ++ Turned p u ∷ c) t r1 first) in
      let split_at : (a ++ Turned p t ∷ []) ++ b ≡ point = append_assoc a (Turned p t ∷ []) b in
      let r3 : ReachedWords s ((a ++ Turned p t ∷ []) ++ b) (memory_by (opening s) point) = subst (λ (es : List Event). ReachedWords s es (memory_by (opening s) point)) (sym split_at) (split s point (Turned p u ∷ c) top r2).reached in
      let two = onward s law Inv ka kr kf km (a ++ Turned p t ∷ []) b (memory_by (opening s) point) r3 words1 (tied_then p q l a (b ++ Turned p u ∷ c) t r1 first) one in
      let there : Inv two.0 (part_at s point) = subst (λ (es : List Event). Inv two.0 (part_at s es)) split_at two.2 in
      let three = acts_done s law Inv ka kr kf km point c p u top r2 two.0 there in
      let here = at_step s point p u in
      let high : HighAt s law p q low l.first l.second l.apart two.0 here = subst (λ (k : Part). HighAt s law p q low l.first l.second l.apart two.0 k) (one_here (part_at s point) p here) three.high in
      let up : here.state.life ≡ Up = (can p q l point c u r2 second).0 in
      let stamp = stamp_is p q l point c u r2 second two.0 three.standing in
      let high' : low ≤ latest Up (two.0 p (Open STAMP)) (peer_of here.state q).engage.count = subst (λ (y : Life). low ≤ latest y (two.0 p (Open STAMP)) (peer_of here.state q).engage.count) up high in
      let below : low < number p q l point c u r2 second = omega (arith, high', stamp) in
      subst (λ (n : ℕ). n < session_word (session_opened s point p q u)) (number_is p q l a (b ++ Turned p u ∷ c) t r1 first) (subst (λ (n : ℕ). low < n) (number_is p q l point c u r2 second) below)

pub sessions_kept : (s : Scenario) → IsLawful s → (h : List Event) (m : Memory) → ReachedWords s h m → Sessions s h
sessions_kept s law h m r =
    let at : (p : ℕ) → (part_at s h p).state ≡ state_at s h p = λ p. known_at s law h p in
    record {
      rising = rises s law h m r;
      echo = λ p q l. subst (λ (st : State). (peer_of st q).engage.bit ≡ true → (word_after s h p (Record q 2) ≡ 0 → ⊥) → word_after s h p (Record q 2) ≡ word_after s h q (Record p 1)) (at p) (echo_now s law h m r p q l);
      contact = λ p q k l. subst (λ (st : State). (peer_of st q).contact ≡ Some k → ((peer_of st q).engage.bit ≡ true) × (word_after s h q (Record p 1) ≡ session_word k.theirs) × (word_after s h q (Record p 2) ≡ session_word k.own)) (at p) (contact_now s law h m r p q l k);
    }
