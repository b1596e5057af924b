-- The causes of a send's answer over its steps, and where a send stands at its end: it goes on and has met no cause yet, or its answer is decided for the first that it met.
use Rattle.std.proofs.Common.{◌≡◌, ℕ, ◌+◌, ◌-◌, ◌≤◌, arith, Bool, true, false, not, ◌&&◌, ◌||◌, cond, eqb, ltb, List, [], ◌∷◌, ◌++◌, refl, ap, sym, ◌∙◌, Option, Some, None, inl, inr, ◌⊎◌}
use Rattle.std.specs.Prelude.{is_some}
use Rattle.std.proofs.lemmas.Bool.{cases_eq, eq-eqb, ne_eqb, ltb-true, cases_Bool}
use Rattle.std.proofs.lemmas.Bool.Decides.{nat_tests}
use Rattle.xp_base.specs.declared.step.OpKind.TheVariants.{Store}
use Rattle.xp_base.specs.declared.step.Answer.{Answer}
use Rattle.xp_base.specs.declared.step.Answer.TheVariants.{Word, Failed}
use Rattle.xp_base.specs.declared.answer.SendAnswer.{SendAnswer}
use Rattle.xp_base.specs.declared.answer.SendAnswer.TheVariants.{Ok as SendOk, Disconnecting, NoSlot}
use Rattle.xp_base.specs.declared.link.LinkState.{LinkState}
use Rattle.xp_base.specs.declared.link.LinkState.TheVariants.{Connected, Closing}
use Rattle.xp_base.specs.declared.reason.Reason.{Reason}
use Rattle.xp_base.specs.declared.reason.Reason.TheVariants.{BadCounters}
use Rattle.xp_protocol.specs.Effects.{Sent}
use Rattle.xp_protocol.specs.declared.rule.Rule.{Rule}
use Rattle.xp_protocol.specs.declared.rule.Rule.TheVariants.{Link}
use Rattle.xp_protocol.specs.declared.rule.LinkRule.TheVariants.{Ring}
use Rattle.xp_protocol.specs.declared.rule.RingRule.TheVariants.{ReadGet, AcceptMessage}
use Rattle.xp_protocol.specs.Sending.{Sending, Send, may_wait, is_bad_get, is_full, ring_effect, with_remote_get, send_over}
use Rattle.xp_protocol.specs.State.{End, state_by, link_of}
use Rattle.xp_protocol.specs.Linking.{by_send}
use Rattle.xp_protocol.specs.Acts.{first_of}
use Rattle.xp_records.specs.Answers.{Passed, SendRun, refused_first, full_told, first_full, closed_told, first_closed, accepted_told, last_accepted, first_cause}
use Rattle.xp_records.proofs.Flow.{Joint, FlowAt, Stays, Closes, Sends, calm_sends}

-- one step more
first_of_none : (o : Option SendAnswer) → first_of o None ≡ o
first_of_none None = refl
first_of_none (Some a) = refl

first_of_more : (a b c : Option SendAnswer) → first_of a (first_of b c) ≡ first_of (first_of a b) c
first_of_more None b c = refl
first_of_more (Some a) b c = refl

full_push : (q c : ℕ) (e : End) (ys : List Passed) (z : Passed) → first_full q c e (ys ++ z ∷ []) ≡ first_of (first_full q c e ys) (full_told q c e z.rule z.answer)
full_push q c e [] z = first_of_none (full_told q c e z.rule z.answer)
full_push q c e (y ∷ ys) z = ap (first_of (full_told q c e y.rule y.answer)) (full_push q c e ys z) ∙ first_of_more (full_told q c e y.rule y.answer) (first_full q c e ys) (full_told q c e z.rule z.answer)

closed_push : (ys : List Passed) (z : Passed) → first_closed (ys ++ z ∷ []) ≡ first_of (first_closed ys) (closed_told z.link)
closed_push [] z = first_of_none (closed_told z.link)
closed_push (y ∷ ys) z = ap (first_of (closed_told y.link)) (closed_push ys z) ∙ first_of_more (closed_told y.link) (first_closed ys) (closed_told z.link)

last_push : (q c : ℕ) (ys : List Passed) (z : Passed) → last_accepted q c (ys ++ z ∷ []) ≡ accepted_told q c z.rule z.kind
last_push q c [] z = refl
last_push q c (y ∷ []) z = refl
last_push q c (y ∷ x ∷ more) z = last_push q c (x ∷ more) z

abbrev pub with_step : SendRun → Passed → SendRun
with_step y z = record y { steps = y.steps ++ z ∷ [] }

abbrev pub full_now : SendRun → Option SendAnswer
full_now y = cond y.wait None (first_full y.partner y.channel y.beginning y.steps)

abbrev pub full_by : SendRun → Passed → Option SendAnswer
full_by y z = full_told y.partner y.channel y.beginning z.rule z.answer

abbrev pub IsUnfull : SendRun → Passed → Type 0
IsUnfull y z = cond y.wait None (full_by y z) ≡ None

stays_full : (b : Bool) (o t n : Option SendAnswer) (cause : SendAnswer) → cond b None o ≡ Some cause → n ≡ first_of o t → cond b None n ≡ Some cause
stays_full true o t n cause e f = absurd (cc)
stays_full false o t n cause e f = f ∙ ap (λ (x : Option SendAnswer). first_of x t) e

stays_unfull : (b : Bool) (o t n : Option SendAnswer) → cond b None o ≡ None → cond b None t ≡ None → n ≡ first_of o t → cond b None n ≡ None
stays_unfull true o t n e f g = refl
stays_unfull false o t n e f g = g ∙ (λ i. first_of (e i) (f i))

becomes_full : (b : Bool) (o t n : Option SendAnswer) (cause : SendAnswer) → b ≡ false → cond b None o ≡ None → t ≡ Some cause → n ≡ first_of o t → cond b None n ≡ Some cause
becomes_full true o t n cause w e f g = absurd (cc)
becomes_full false o t n cause w e f g = g ∙ (λ i. first_of (e i) (f i))

unfull_more : (y : SendRun) (z : Passed) → IsUnfull y z → full_now y ≡ None → full_now (with_step y z) ≡ None
unfull_more y z u n = stays_unfull y.wait (first_full y.partner y.channel y.beginning y.steps) (full_by y z) (first_full y.partner y.channel y.beginning (y.steps ++ z ∷ [])) n u (full_push y.partner y.channel y.beginning y.steps z)

-- a cause that further steps don't change
abbrev pub Firm : SendRun → SendAnswer → Type 0
Firm y cause =
    (refused_first y.beginning y.payload ≡ Some cause)
    ⊎ (((refused_first y.beginning y.payload ≡ None) × (full_now y ≡ Some cause))
    ⊎ ((refused_first y.beginning y.payload ≡ None) × (full_now y ≡ None) × (first_closed y.steps ≡ Some cause)))

pub firm_cause : (y : SendRun) (cause : SendAnswer) → Firm y cause → first_cause y ≡ Some cause
firm_cause y cause (inl e) = ap (λ (o : Option SendAnswer). first_of o (first_of (full_now y) (first_of (first_closed y.steps) (last_accepted y.partner y.channel y.steps)))) e
firm_cause y cause (inr (inl e)) = λ i. first_of (e.0 i) (first_of (e.1 i) (first_of (first_closed y.steps) (last_accepted y.partner y.channel y.steps)))
firm_cause y cause (inr (inr e)) = λ i. first_of (e.0 i) (first_of (e.1 i) (first_of (e.2 i) (last_accepted y.partner y.channel y.steps)))

pub firm_more : (y : SendRun) (z : Passed) (cause : SendAnswer) → IsUnfull y z → Firm y cause → Firm (with_step y z) cause
firm_more y z cause u (inl e) = inl e
firm_more y z cause u (inr (inl e)) = inr (inl (e.0, stays_full y.wait (first_full y.partner y.channel y.beginning y.steps) (full_by y z) (first_full y.partner y.channel y.beginning (y.steps ++ z ∷ [])) cause e.1 (full_push y.partner y.channel y.beginning y.steps z)))
firm_more y z cause u (inr (inr e)) = inr (inr (e.0, unfull_more y z u e.1, closed_push y.steps z ∙ ap (λ (o : Option SendAnswer). first_of o (closed_told z.link)) e.2))

-- a send that goes on, at its end
pub record Going (y : SendRun) (e : End) : Type 0 where
  pub undecided : e.decided.send ≡ None
  pub unrefused : refused_first y.beginning y.payload ≡ None
  pub unfull : full_now y ≡ None
  pub still_open : first_closed y.steps ≡ None
  pub sends : is_some e.sides.send.send ≡ true
  pub waits : may_wait e.sides.send.send ≡ y.wait
  pub put : e.sides.send.put ≡ y.beginning.sides.send.put
  pub entries : e.sides.send.entries ≡ y.beginning.sides.send.entries

-- one whose answer is decided
pub record Done (y : SendRun) (e : End) : Type 0 where
  pub none : e.sides.send.send ≡ None
  pub why : ((cause : SendAnswer) × (e.decided.send ≡ Some cause) × Firm y cause) ⊎ ((number : ℕ) × (e.decided.send ≡ Some (SendOk number)) × (first_cause y ≡ Some (SendOk number)))

abbrev pub Stage : SendRun → End → Type 0
Stage y e = Done y e ⊎ Going y e

-- the link of an end that is connected, and of one that closes
joint_link : (o : Option Reason) (a m s g : Bool) → m ≡ true → s ≡ true → g ≡ true → o ≡ None → state_by o a (m && (s && g)) ≡ Connected
joint_link o a m s g x y z n = rw (x, y, z, n) refl

pub link_joint : (e : End) → Joint e.shake.meet e.shake.reason e.shake.sent e.shake.got → link_of e ≡ Connected
link_joint e j = joint_link e.shake.reason e.shake.sent.open_request (is_some e.shake.meet) e.shake.sent.open_complete e.shake.got.open_complete j.0 j.1 j.2 j.3

link_closing : (e : End) (why : Reason) → e.shake.reason ≡ Some why → link_of e ≡ Closing why
link_closing e why n = rw n refl

some_sends : (e : End) → e.sides.send.send ≡ None → is_some e.sides.send.send ≡ true → ⊥
some_sends e n t = let z : is_some e.sides.send.send ≡ false = ap (λ (o : Option Send). is_some o) n in absurd (cc)

open_more : (y : SendRun) (z : Passed) (e : End) → z.link ≡ link_of e → link_of e ≡ Connected → first_closed y.steps ≡ None → first_closed (y.steps ++ z ∷ []) ≡ None
open_more y z e l c n = closed_push y.steps z ∙ (λ i. first_of (n i) (closed_told (l i))) ∙ ap (λ (x : LinkState). closed_told x) c

-- a step that leaves the send in progress, or closes its link
pub stage_moves : (y : SendRun) (z : Passed) (e x : End) → z.link ≡ link_of x → FlowAt x → Sends e x → IsUnfull y z → ((n : ℕ) → e.decided.send ≡ Some (SendOk n) → ⊥) → Stage y e → Stage (with_step y z) x
stage_moves y z e x l w s u nay (inl d) = by d.why where
  kept : (x.sides.send.send ≡ None) × (x.decided.send ≡ e.decided.send)
  kept = s.idle d.none

  by : ((cause : SendAnswer) × (e.decided.send ≡ Some cause) × Firm y cause) ⊎ ((number : ℕ) × (e.decided.send ≡ Some (SendOk number)) × (first_cause y ≡ Some (SendOk number))) → Stage (with_step y z) x
  by (inl g) = inl (record { none = kept.0; why = inl (g.0, kept.1 ∙ g.1, firm_more y z g.0 u g.2) })
  by (inr g) = absurd (nay g.0 g.1)
stage_moves y z e x l w s u nay (inr g) = by (s.going g.sends) where
  by : Stays e x ⊎ Closes x → Stage (with_step y z) x
  by (inl t) =
      let some : is_some x.sides.send.send ≡ true = ap (λ (o : Option Send). is_some o) t.send ∙ g.sends in
      inr (record {
        undecided = t.decided ∙ g.undecided;
        unrefused = g.unrefused;
        unfull = unfull_more y z u g.unfull;
        still_open = open_more y z x l (link_joint x (w.sends some)) g.still_open;
        sends = some;
        waits = ap (λ (o : Option Send). may_wait o) t.send ∙ g.waits;
        put = t.put ∙ g.put;
        entries = t.entries ∙ g.entries;
      })
  by (inr k) = inl (record {
    none = k.none;
    why = inl (Disconnecting k.why, k.decided, inr (inr (g.unrefused, unfull_more y z u g.unfull, closed_push y.steps z ∙ (λ i. first_of (g.still_open i) (closed_told (l i))) ∙ ap (λ (x : LinkState). closed_told x) (link_closing x k.why k.reason))));
  })

-- a get is loaded for the send
full_eqb : (put get entries : ℕ) → get ≤ put → eqb (put - get) entries ≡ eqb put (get + entries)
full_eqb put get entries l = by (cases_eq (put - get) entries) where
  by : (put - get ≡ entries) ⊎ (put - get ≡ entries → ⊥) → eqb (put - get) entries ≡ eqb put (get + entries)
  by (inl e) = eq-eqb (put - get) entries e ∙ sym (eq-eqb put (get + entries) (omega (arith, e, l)))
  by (inr n) = ne_eqb (put - get) entries n ∙ sym (ne_eqb put (get + entries) (λ f. n (omega (arith, f, l))))

bad_unfull : (x : Sending) (v : ℕ) → is_bad_get x v ≡ true → x.put ≡ x.remote_get + x.entries → eqb x.put (v + x.entries) ≡ false
bad_unfull x v b can = ne_eqb x.put (v + x.entries) (λ e. by (ltb v x.remote_get) (ltb x.put v) refl refl b e) where
  by : (a d : Bool) → ltb v x.remote_get ≡ a → ltb x.put v ≡ d → (a || d) ≡ true → x.put ≡ v + x.entries → ⊥
  by true d t u h e = absurd (omega (arith, ltb-true v x.remote_get t, e, can))
  by false true t u h e = absurd (omega (arith, ltb-true x.put v u, e))
  by false false t u h e = absurd (cc)

good_below : (x : Sending) (v : ℕ) → is_bad_get x v ≡ false → v ≤ x.put
good_below x v h = elim (cases_Bool (ltb x.put v)) [
  | inl t ↦ let z : is_bad_get x v ≡ true = rw t (or_true (ltb v x.remote_get)) in absurd (cc)
  | inr f ↦ grind (arith, nat_tests)
]
  where
    or_true : (a : Bool) → (a || true) ≡ true
    or_true true = refl
    or_true false = refl

full_parts : (a test : Bool) → (not a && test) ≡ true → (a ≡ false) × (test ≡ true)
full_parts true test e = absurd (cc)
full_parts false test e = (refl, e)

unfull_parts : (wait test : Bool) (a : SendAnswer) → (not wait && test) ≡ false → cond wait None (cond test (Some a) None) ≡ None
unfull_parts true test a e = refl
unfull_parts false test a e = rw e refl

module _ (y : SendRun) (z : Passed) (e : End) (k d v : ℕ) (rule : z.rule ≡ Some (Link k d (Ring ReadGet))) (answer : z.answer ≡ Word v) (here : (eqb k y.partner && eqb d y.channel) ≡ true) (can : e.sides.send.put ≡ e.sides.send.remote_get + e.sides.send.entries) (w : FlowAt e) (g : Going y e) where
  abbrev x : Sending
  x = e.sides.send

  told : full_by y z ≡ cond (eqb y.beginning.sides.send.put (v + y.beginning.sides.send.entries)) (Some (NoSlot y.beginning.sides.send.put v)) None
  told = (λ i. full_told y.partner y.channel y.beginning (rule i) (answer i)) ∙ ap (λ (b : Bool). cond (b && eqb y.beginning.sides.send.put (v + y.beginning.sides.send.entries)) (Some (NoSlot y.beginning.sides.send.put v)) None) here

  same_test : eqb x.put (v + x.entries) ≡ eqb y.beginning.sides.send.put (v + y.beginning.sides.send.entries)
  same_test = λ i. eqb (g.put i) (v + g.entries i)

  unfull_by : (not y.wait && eqb y.beginning.sides.send.put (v + y.beginning.sides.send.entries)) ≡ false → IsUnfull y z
  unfull_by h = ap (λ (o : Option SendAnswer). cond y.wait None o) told ∙ unfull_parts y.wait (eqb y.beginning.sides.send.put (v + y.beginning.sides.send.entries)) (NoSlot y.beginning.sides.send.put v) h

  no_and : (b : Bool) → (not b && false) ≡ false
  no_and true = refl
  no_and false = refl

  goes_on : (x : End) → z.link ≡ link_of x → FlowAt x → Sends e x → IsUnfull y z → Stage (with_step y z) x
  goes_on x l w s u = stage_moves y z e x l w s u (λ n h. (let f : None ≡ Some (SendOk n) = sym g.undecided ∙ h in absurd (cc))) (inr g)

  get_by : (bad full : Bool) → is_bad_get x v ≡ bad → is_full x v ≡ full → (let f = by_send e (cond bad (record { local = x; reason = Some (BadCounters v x.put); notes = [] }) (cond full (record { local = send_over (with_remote_get v x); reason = None; notes = Sent (NoSlot x.put v) ∷ [] }) (record { local = with_remote_get v x; reason = None; notes = [] }))) in z.link ≡ link_of f.local → FlowAt f.local → Stage (with_step y z) f.local)
  get_by true full b t l w' = goes_on e l w (calm_sends e e refl) (unfull_by (ap (λ (t : Bool). not y.wait && t) (sym same_test ∙ bad_unfull x v b can) ∙ no_and y.wait))
  get_by false false b t l w' =
      let h : (not (may_wait x.send) && eqb (x.put - v) x.entries) ≡ false = t in
      goes_on _ l w' (record { idle = λ n. absurd (some_sends e n g.sends); going = λ s. inl (record { send = refl; put = refl; entries = refl; decided = refl }) }) (unfull_by ((λ i. not (sym g.waits i) && sym same_test i) ∙ ap (λ (t : Bool). not (may_wait x.send) && t) (sym (full_eqb x.put v x.entries (good_below x v b))) ∙ h))
  get_by false true b t l w' =
      let p = full_parts (may_wait x.send) (eqb (x.put - v) x.entries) t in
      let is : eqb y.beginning.sides.send.put (v + y.beginning.sides.send.entries) ≡ true = sym same_test ∙ sym (full_eqb x.put v x.entries (good_below x v b)) ∙ p.1 in
      let full : full_by y z ≡ Some (NoSlot x.put v) = told ∙ ap (λ (t : Bool). cond t (Some (NoSlot y.beginning.sides.send.put v)) None) is ∙ ap (λ (n : ℕ). Some (NoSlot n v)) (sym g.put) in
      inl (record {
        none = refl;
        why = inl (NoSlot x.put v, refl, inr (inl (g.unrefused, becomes_full y.wait (first_full y.partner y.channel y.beginning y.steps) (full_by y z) (first_full y.partner y.channel y.beginning (y.steps ++ z ∷ [])) (NoSlot x.put v) (sym g.waits ∙ p.0) g.unfull full (full_push y.partner y.channel y.beginning y.steps z))));
      })

  pub stage_get : (let f = by_send e (ring_effect x ReadGet v) in z.link ≡ link_of f.local → FlowAt f.local → Stage (with_step y z) f.local)
  stage_get = get_by (is_bad_get x v) (is_full x v) refl refl

-- put is stored for the send
pub stage_put : (y : SendRun) (z : Passed) (e : End) (k d v : ℕ) → z.rule ≡ Some (Link k d (Ring AcceptMessage)) → z.kind ≡ Store (e.sides.send.put + 1) → (eqb k y.partner && eqb d y.channel) ≡ true → link_of e ≡ Connected → z.link ≡ link_of (by_send e (ring_effect e.sides.send AcceptMessage v)).local → Going y e → Stage (with_step y z) (by_send e (ring_effect e.sides.send AcceptMessage v)).local
stage_put y z e k d v rule kind here on l g =
    let number : e.sides.send.put + 1 - 1 ≡ e.sides.send.put = omega arith in
    let told : accepted_told y.partner y.channel z.rule z.kind ≡ Some (SendOk e.sides.send.put) = (λ i. accepted_told y.partner y.channel (rule i) (kind i)) ∙ ap (λ (t : Bool). cond t (Some (SendOk (e.sides.send.put + 1 - 1))) None) here ∙ ap (λ (n : ℕ). Some (SendOk n)) number in
    let none : full_by y z ≡ None = ap (λ (o : Option Rule). full_told y.partner y.channel y.beginning o z.answer) rule ∙ other z.answer in
    let unfull = unfull_more y z (ap (λ (o : Option SendAnswer). cond y.wait None o) none ∙ both y.wait) g.unfull in
    let open_still = open_more y z e l on g.still_open in
    let last : last_accepted y.partner y.channel (y.steps ++ z ∷ []) ≡ Some (SendOk e.sides.send.put) = last_push y.partner y.channel y.steps z ∙ told in
    inl (record { none = refl; why = inr (e.sides.send.put, refl, λ i. first_of (g.unrefused i) (first_of (unfull i) (first_of (open_still i) (last i)))) })
  where
    both : (b : Bool) → cond {A = Option SendAnswer} b None None ≡ None
    both true = refl
    both false = refl

    other : (a : Answer) → full_told y.partner y.channel y.beginning (Some (Link k d (Ring AcceptMessage))) a ≡ None
    other (Word w) = refl
    other Failed = refl
