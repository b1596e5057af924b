-- An entry is kept until its message was acknowledged, and what is acknowledged was released.
use Rattle.xp_protocol.specs.State.{is_begun}
use Rattle.std.proofs.Common.{◌≡◌, ℕ, ◌+◌, ◌*◌, ◌%◌, ◌<◌, ◌≤◌, Bool, true, false, cond, eqb, List, [], ◌∷◌, ◌++◌, length, refl, ap, sym, ◌∙◌, subst, arith, inl, Option, Some}
use Rattle.std.specs.Prelude.{is_some, slice_get}
use Rattle.std.proofs.lemmas.Bool.{ne_eqb}
use Rattle.xp_base.specs.declared.session.Session.{Session}
use Rattle.xp_base.specs.declared.step.Op.{Op}
use Rattle.xp_base.specs.declared.step.OpKind.TheVariants.{Store}
use Rattle.xp_base.specs.declared.step.Answer.TheVariants.{Word, Failed}
use Rattle.xp_base.specs.declared.link.LinkState.TheVariants.{Connected}
use Rattle.xp_base.specs.Memory.{Memory}
use Rattle.xp_base.specs.History.{Act, Marked, Turn, Event, Turned, turns_of}
use Rattle.xp_base.specs.Places.{Entry, place_of, place_of-index_of}
use Rattle.xp_protocol.specs.declared.rule.RingRule.TheVariants.{WriteEntryWord}
use Rattle.xp_protocol.specs.declared.rule.LinkRule.TheVariants.{Ring, Acknowledge}
use Rattle.xp_protocol.specs.declared.rule.Rule.{Rule}
use Rattle.xp_protocol.specs.declared.rule.Rule.TheVariants.{Link}
use Rattle.xp_script.specs.declared.part.ScenarioPart.{ScenarioPart}
use Rattle.xp_script.specs.declared.scenario.Scenario.{Scenario}
use Rattle.xp_script.specs.Parts.{part_of}
use Rattle.xp_script.specs.Lawful.{IsLawful}
use Rattle.xp_protocol.specs.Records.{Recorded}
use Rattle.xp_protocol.specs.Effects.{with_notes}
use Rattle.xp_protocol.specs.State.{State, End, link_of, end_of}
use Rattle.xp_protocol.specs.Sending.{Sending, words_each, next_slot}
use Rattle.xp_protocol.specs.Rules.{Can, row_of, op_of}
use Rattle.xp_protocol.specs.Decode.{rule_of}
use Rattle.xp_protocol.specs.Acts.{MayAct, after_acts}
use Rattle.xp_protocol.specs.Logged.{noted_acts}
use Rattle.xp_protocol.specs.Runs.{MayMake, MayStep}
use Rattle.xp_protocol.specs.Reached.{ReachedWords}
use Rattle.xp_protocol.specs.Promised.{Reuse, HasRoom, IsReleased, IsLine, Name, name_of, exchanged, is_name, by_name, first_named, acked_of, known_acted, records_of, records_acted}
use Rattle.xp_protocol.proofs.LawfulParts.{lawful_part}
use Rattle.xp_protocol.proofs.Undo.{within}
use Rattle.xp_meetings.proofs.Words.{Words, Agrees}
use Rattle.xp_meetings.proofs.Both.{Side}
use Rattle.xp_meetings.proofs.Parts.{Part, part_opened, part_start, part_act, part_ruled, part_moment, acts_state, acts_books, from_state, from_books}
use Rattle.xp_meetings.proofs.Always.{at_one, one_here, does_rule, answer_word}
use Rattle.xp_meetings.proofs.Opening.{opening_words}
use Rattle.xp_promises.proofs.FlagUse.{copying}
use Rattle.xp_promises.proofs.Direction.{Out, Kept}
use Rattle.xp_promises.proofs.Ways.{out_of, in_of}
use Rattle.xp_promises.proofs.Books.{HasFirst, at, named, name_here}
use Rattle.xp_promises.proofs.Rests.{in_side}
use Rattle.xp_promises.proofs.Lines.{Area, five, control, View, view, Line, Fine, FineAt}
use Rattle.xp_promises.proofs.Steps.{Open, open_connected, sent_at, got_at}
use Rattle.xp_promises.proofs.Own.{facts, LiveIn, no_area}
use Rattle.xp_promises.proofs.Owns.{Owned, LocalAt, owned_act, owned_rule, owned_moment, owned_first}
use Rattle.xp_promises.proofs.Headline.{Joined, turned, apart, bound, Holds, act_kept, rule_kept, failed_kept, moment_kept, start_good}
use Rattle.xp_promises.proofs.Before.{Before, whole, before_step, part_at, at_step}

-- an end that is connected: its newest record is that of its connection, and both directions of it
pub record Joins (rs ss : List Recorded) (e : End) : Type 0 where
  pub own : Recorded
  pub more : List Recorded
  pub newest : rs ≡ own ∷ more
  pub put : e.sides.send.put ≡ length own.accepted
  pub known : e.sides.send.remote_get ≤ acked_of (first_named own ss)
  pub taken : e.sides.ack.front ≤ length own.taken

pub other_acked : (r : Recorded) (xs : List Recorded) → (by_name (exchanged (name_of r)) xs).acked ≡ acked_of (first_named r xs)
other_acked r [] = refl
other_acked r (x ∷ xs) = by (is_name (name_of x) (exchanged (name_of r))) (other_acked r xs) where
  by : (b : Bool) → (by_name (exchanged (name_of r)) xs).acked ≡ acked_of (first_named r xs) → (cond b x (by_name (exchanged (name_of r)) xs)).acked ≡ acked_of (cond b (Some x) (first_named r xs))
  by true h = refl
  by false h = h

module _ (u v : Session) (x y : Area) (q c : ℕ) (e : End) (opens : Open x y e) (b : End) where
  line_joins : (rs ss : List Recorded) → Line u v x y rs ss (view e) (view b) → HasFirst (at u v e.epoch) rs → Joins rs ss e
  line_joins [] ss l has = absurd has
  line_joins (z ∷ more) ss l has =
      let o = copying (control e) (control b) (five x.flags) (five y.flags) (opens.copy (control b) l.flags) l.flags in
      let n : named u v e.epoch (z ∷ more) ≡ z = name_here (at u v e.epoch) z more has in
      let a = subst (λ (k : Recorded). Kept (out_of x.ring.put x.ring.entry k e.sides.send) (in_of y.ring.get (named v u b.epoch ss) (in_side b))) n (sent_at x y q c e opens u v (z ∷ more) ss b l) in
      let g = subst (λ (k : Recorded). Kept (out_of y.ring.put y.ring.entry (named v u b.epoch ss) b.sides.send) (in_of x.ring.get k (in_side e))) n (got_at x y q c e opens u v (z ∷ more) ss b l) in
      let same : exchanged (name_of z) ≡ at v u b.epoch = ap exchanged has ∙ ap (λ (i : ℕ). at v u i) o.even in
      let acked : (named v u b.epoch ss).acked ≡ acked_of (first_named z ss) = ap (λ (k : Name). (by_name k ss).acked) (sym same) ∙ other_acked z ss in
      record { own = z; more = more; newest = refl; put = a.chain.put_count; known = omega (arith, a.chain, acked); taken = omega (arith, g.chain) }

-- an end in contact that is begun: what it knows as acknowledged, its partner has acknowledged
module _ (u v : Session) (x y : Area) (e b : End) where
  pub line_known : (rs ss : List Recorded) → Line u v x y rs ss (view e) (view b) → HasFirst (at u v e.epoch) rs → (own : Recorded) × (slice_get rs 0 ≡ Some own) × (e.sides.send.remote_get ≤ acked_of (first_named own ss))
  line_known [] ss l has = absurd has
  line_known (z ∷ more) ss l has = (z, refl, by e.shake.sent.open_complete refl) where
    same : (named v u e.epoch ss).acked ≡ acked_of (first_named z ss)
    same = ap (λ (k : Name). (by_name k ss).acked) (sym (ap exchanged has)) ∙ other_acked z ss

    by : (o : Bool) → e.shake.sent.open_complete ≡ o → e.sides.send.remote_get ≤ acked_of (first_named z ss)
    by true on =
        let w = l.rest.sends in
        let k = subst (λ (o : Out). Kept o (w.inn e.epoch)) (w.out_live on) (w.kept e.epoch) in
        omega (arith, k.chain, w.acked e.epoch, same)
    by false off = omega (arith, (l.rest.mine.out off).known)

pub fine_known : (i j : Side) (x y : Area) (rs ss : List Recorded) (e g : End) → is_some e.shake.meet ≡ true → is_begun e ≡ true → Fine i j x y rs ss e g → (own : Recorded) × (slice_get rs 0 ≡ Some own) × (e.sides.send.remote_get ≤ acked_of (first_named own ss))
fine_known i j x y rs ss e g on begun h =
    let r = h.room (inl on) in
    let l = subst (λ (a : View). Line r.own r.theirs x y rs ss a (view r.b)) (r.here on) r.line in
    line_known r.own r.theirs x y e r.b rs ss l (l.rest.mine.first begun)

fine_joins : (i j : Side) (x y : Area) (q c : ℕ) (rs ss : List Recorded) (e g : End) → link_of e ≡ Connected → Fine i j x y rs ss e g → Joins rs ss e
fine_joins i j x y q c rs ss e g on h =
    let opens = open_connected x y e on in
    let r = h.room (inl opens.on) in
    let l = subst (λ (a : View). Line r.own r.theirs x y rs ss a (view r.b)) (r.here opens.on) r.line in
    line_joins r.own r.theirs x y q c e opens r.b rs ss l (l.rest.mine.first opens.begun)

module _ (s : Scenario) (law : IsLawful s) where
  -- lines, and the records of all ends
  pub record Both (w : Words) (σ : ℕ → Part) : Type 0 where
    pub good : Holds s law w σ
    pub owned : (p : ℕ) → p < s.count → Owned s.count (σ p)

  owned_at : (σ : ℕ → Part) (a : ℕ) (k : Part) → ((p : ℕ) → p < s.count → Owned s.count (σ p)) → Owned s.count k → (p : ℕ) → p < s.count → Owned s.count (at_one σ a k p)
  owned_at σ a k h new p l = by (eqb a p) where
    by : (b : Bool) → Owned s.count (cond b k (σ p))
    by true = new
    by false = h p l

  pub both_act : (w : Words) (σ : ℕ → Part) (a : ℕ) (x : Act) → a < s.count → Both w σ → MayAct (part_of s a) (σ a).state x → Both w (at_one σ a (part_act (part_of s a) (σ a) x))
  both_act w σ a x la i may = record { good = act_kept s law w σ a x la i.good may; owned = owned_at σ a (part_act (part_of s a) (σ a) x) i.owned (owned_act (part_of s a) (lawful_part s a law la) (σ a) (i.owned a la) x may) }

  pub both_rule : (w : Words) (σ : ℕ → Part) (a : ℕ) (r : Rule) → a < s.count → Both w σ → Can (part_of s a) (σ a).state r → Both (does_rule (part_of s a) (σ a).state r w) (at_one σ a (part_ruled (part_of s a) (σ a) r (Word (answer_word (part_of s a) (σ a).state r w))))
  both_rule w σ a r la i can = record { good = rule_kept s law w σ a r la i.good can; owned = owned_at σ a (part_ruled (part_of s a) (σ a) r (Word (answer_word (part_of s a) (σ a).state r w))) i.owned (owned_rule (part_of s a) (lawful_part s a law la) (σ a) (i.owned a la) r (Word (answer_word (part_of s a) (σ a).state r w)) can) }

  pub both_failed : (w : Words) (σ : ℕ → Part) (a : ℕ) (r : Rule) → a < s.count → Both w σ → Can (part_of s a) (σ a).state r → Both w (at_one σ a (part_ruled (part_of s a) (σ a) r Failed))
  both_failed w σ a r la i can = record { good = failed_kept s law w σ a r la i.good can; owned = owned_at σ a (part_ruled (part_of s a) (σ a) r Failed) i.owned (owned_rule (part_of s a) (lawful_part s a law la) (σ a) (i.owned a la) r Failed can) }

  pub both_moment : (w : Words) (σ : ℕ → Part) (a earlier turns : ℕ) → a < s.count → Both w σ → Both w (at_one σ a (part_moment (part_of s a) earlier turns (σ a)))
  both_moment w σ a earlier turns la i = record { good = moment_kept s law w σ a earlier turns la i.good; owned = owned_at σ a (part_moment (part_of s a) earlier turns (σ a)) i.owned (owned_moment (part_of s a) (lawful_part s a law la) (σ a) (i.owned a la) earlier turns) }

  pub both_first : Both (opening_words s) (λ p. part_start (part_of s p))
  both_first = record { good = start_good s law; owned = λ p l. owned_moment (part_of s p) (lawful_part s p law l) (part_opened (part_of s p)) (owned_first (part_of s p)) 0 0 }

  pub whole_both : (h : List Event) (m : Memory) → ReachedWords s h m → (w : Words) × Agrees s.count m w × Both w (part_at s h)
  whole_both = whole s law Both both_act both_rule both_failed both_moment both_first

  pub before_both : (before after : List Event) (p : ℕ) (t : Turn) (m : Memory) → ReachedWords s (before ++ Turned p t ∷ after) m → Before s Both before p t
  before_both = before_step s law Both both_act both_rule both_failed both_moment both_first

  -- what is known and recorded right before a step
  step_state : (before : List Event) (p : ℕ) (t : Turn) → (at_step s before p t).state ≡ known_acted s before p t.before
  step_state before p t = acts_state (part_of s p) (part_at s before p) t.before ∙ ap (λ (st : State). after_acts (part_of s p) st t.before) (from_state (part_of s p) (part_start (part_of s p)) (turns_of p before))

  step_books : (before : List Event) (p : ℕ) (t : Turn) (q c : ℕ) → (at_step s before p t).books q c ≡ records_acted s before p t.before q c
  step_books before p t q c =
      acts_books (part_of s p) (part_at s before p) t.before q c
      ∙ (λ i. with_notes q c (noted_acts (part_of s p) (from_state (part_of s p) (part_start (part_of s p)) (turns_of p before) i) t.before q c) (from_books (part_of s p) (part_start (part_of s p)) (turns_of p before) q c i))

  other_books : (before : List Event) (p q c : ℕ) → (part_at s before q).books p c ≡ records_of s before q p c
  other_books before p q c = from_books (part_of s q) (part_start (part_of s q)) (turns_of q before) p c

  module _ (before : List Event) (p : ℕ) (t : Turn) (b : Before s Both before p t) (q c : ℕ) (l : Joined s law p q c) where
    abbrev su : ScenarioPart
    su = part_of s p

    abbrev part : Part
    part = at_step s before p t

    abbrev e : End
    e = end_of part.state q c

    joins_here : link_of e ≡ Connected → Joins (part.books q c) ((part_at s before q).books p c) e
    joins_here on =
        let σ = part_at s before in
        let there : at_one σ p part q ≡ σ q = rw (ne_eqb p q l.apart) refl in
        let P : Part → Part → Type 0 = λ y z. FineAt s.count (Joined s law) (turned s law) (apart s law) (bound s law) b.words y z p q c in
        fine_joins _ _ _ _ q c (part.books q c) ((σ q).books p c) e (end_of (σ q).state p c) on (subst (λ (z : Part). P part z) there (subst (λ (y : Part). P y (at_one σ p part q)) (one_here σ p part) (b.holds.good.fine p q c l)))

    pub joined : link_of e ≡ Connected → Joins (records_acted s before p t.before q c) (records_of s before q p c) (end_of (known_acted s before p t.before) q c)
    joined on = subst (λ (rs : List Recorded). Joins rs (records_of s before q p c) (end_of (known_acted s before p t.before) q c)) (step_books before p t q c) (subst (λ (ss : List Recorded). Joins (part.books q c) ss (end_of (known_acted s before p t.before) q c)) (other_books before p q c) (subst (λ (st : State). Joins (part.books q c) ((part_at s before q).books p c) (end_of st q c)) (step_state before p t) (joins_here on)))

    here_local : LocalAt (end_of (known_acted s before p t.before) q c) (records_acted s before p t.before q c)
    here_local =
        let own : Owned s.count part = subst (λ (y : Part). Owned s.count y) (one_here (part_at s before) p part) (b.holds.owned p l.first) in
        subst (λ (st : State). LocalAt (end_of st q c) (records_acted s before p t.before q c)) (step_state before p t) (subst (λ (rs : List Recorded). LocalAt e rs) (step_books before p t q c) (own.ends q c l.second l.channel))

    newest_is : (rs : List Recorded) (r : Recorded) (more : List Recorded) → rs ≡ r ∷ more → slice_get rs 0 ≡ Some r
    newest_is rs r more h = ap (λ (xs : List Recorded). slice_get xs 0) h

    abbrev x : Sending
    x = (end_of (known_acted s before p t.before) q c).sides.send

    has_room : (f index : ℕ) → link_of e ≡ Connected → x.put < x.remote_get + x.entries → f < words_each x → place_of index ≡ Entry q c (next_slot x + f) → HasRoom s before p t.before q c f index
    has_room f index on room field place =
        let j = joined on in
        record {
          own = j.own;
          recorded = newest_is (records_acted s before p t.before q c) j.own j.more j.newest;
          field = field;
          place = place ∙ ap (λ (n : ℕ). Entry q c (words_each x * (n % x.entries) + f)) j.put;
          room = omega (arith, j.put, j.known, room);
        }

    is_released : link_of e ≡ Connected → IsReleased s before p t.before q c (end_of (known_acted s before p t.before) q c).sides.ack.front
    is_released on =
        let j = joined on in
        let z = end_of (known_acted s before p t.before) q c in
        let on' : link_of z ≡ Connected = subst (λ (st : State). link_of (end_of st q c) ≡ Connected) (step_state before p t) on in
        let live : LiveIn (facts z) (j.own ∷ j.more) = subst (λ (rs : List Recorded). LiveIn (facts z) rs) j.newest (here_local.live (open_connected no_area no_area z on').begun) in
        record {
          own = j.own;
          recorded = newest_is (records_acted s before p t.before q c) j.own j.more j.newest;
          taken = j.taken;
          released = live.0.freed.below;
        }

  -- the rule of a step
  module _ (before : List Event) (p : ℕ) (t : Turn) (b : Before s Both before p t) (x : Marked) (made : t.made ≡ Some x) (rule : Rule) (is : rule_of (part_of s p) (known_acted s before p t.before) x.step.op x.mark ≡ Some rule) where
    step_now : MayStep (part_of s p) (known_acted s before p t.before) x
    step_now = subst (λ (st : State). MayStep (part_of s p) st x) (step_state before p t) (subst (λ (o : Option Marked). MayMake (part_of s p) (at_step s before p t).state o) made b.made)

    same_rule : step_now.rule ≡ rule
    same_rule = let both : Some step_now.rule ≡ Some rule = sym step_now.decoded ∙ is in cc

    pub rule_op : x.step.op ≡ op_of (part_of s p) (known_acted s before p t.before) rule
    rule_op = step_now.op ∙ ap (λ (r : Rule). op_of (part_of s p) (known_acted s before p t.before) r) same_rule

    pub rule_can : Can (part_of s p) (known_acted s before p t.before) rule
    rule_can = subst (λ (r : Rule). Can (part_of s p) (known_acted s before p t.before) r) same_rule step_now.can

  pub reuse : (h : List Event) (m : Memory) → ReachedWords s h m → Reuse s h
  reuse h m r = record { kept_until_acknowledged = kept; acknowledges_released = acknowledges }
    where
      here : (before after : List Event) (p : ℕ) (t : Turn) → h ≡ before ++ Turned p t ∷ after → Before s Both before p t
      here before after p t e = before_both before after p t m (subst (λ (es : List Event). ReachedWords s es m) e r)

      line_of : (p q c : ℕ) → p < s.count → q < s.count → (q ≡ p → ⊥) → c < 4 → IsLine s p q c
      line_of p q c a b n d = record { first = a; second = b; apart = λ e. n (sym e); channel = d }

      kept : (before after : List Event) (p : ℕ) (t : Turn) (x : Marked) (q c f : ℕ) → h ≡ before ++ Turned p t ∷ after → t.made ≡ Some x → rule_of (part_of s p) (known_acted s before p t.before) x.step.op x.mark ≡ Some (Link q c (Ring (WriteEntryWord f))) → HasRoom s before p t.before q c f x.step.op.index
      kept before after p t x q c f e made is =
          let b = here before after p t e in
          let st = known_acted s before p t.before in
          let can = rule_can before p t b x made (Link q c (Ring (WriteEntryWord f))) is in
          let op = rule_op before p t b x made (Link q c (Ring (WriteEntryWord f))) is in
          let l = line_of p q c b.low can.1.0.peer.0 can.1.0.peer.1 can.1.0.peer.2 in
          let pl = (row_of (part_of s p) st (Link q c (Ring (WriteEntryWord f)))).place in
          let place : place_of x.step.op.index ≡ pl = ap (λ (o : Op). place_of o.index) op ∙ place_of-index_of pl (within (part_of s p) st (Link q c (Ring (WriteEntryWord f))) (lawful_part s p law b.low) can) in
          has_room before p t b q c l f x.step.op.index (subst (λ (z : State). link_of (end_of z q c) ≡ Connected) (sym (step_state before p t)) can.1.1.0) can.1.1.1.1 can.1.1.1.3 place

      acknowledges : (before after : List Event) (p : ℕ) (t : Turn) (x : Marked) (q c get : ℕ) → h ≡ before ++ Turned p t ∷ after → t.made ≡ Some x → rule_of (part_of s p) (known_acted s before p t.before) x.step.op x.mark ≡ Some (Link q c Acknowledge) → x.step.op.kind ≡ Store get → IsReleased s before p t.before q c get
      acknowledges before after p t x q c get e made is kind =
          let b = here before after p t e in
          let st = known_acted s before p t.before in
          let can = rule_can before p t b x made (Link q c Acknowledge) is in
          let op = rule_op before p t b x made (Link q c Acknowledge) is in
          let l = line_of p q c b.low can.1.0.peer.0 can.1.0.peer.1 can.1.0.peer.2 in
          let both : Store (end_of st q c).sides.ack.front ≡ Store get = sym (ap (λ (o : Op). o.kind) op) ∙ kind in
          let same : (end_of st q c).sides.ack.front ≡ get = cc in
          subst (λ (g : ℕ). IsReleased s before p t.before q c g) same (is_released before p t b q c l (subst (λ (z : State). link_of (end_of z q c) ≡ Connected) (sym (step_state before p t)) can.1.1.0))

pub reuse_kept : (s : Scenario) → IsLawful s → (h : List Event) (m : Memory) → ReachedWords s h m → Reuse s h
reuse_kept s law h m r = reuse s law h m r
