-- What a channel owes to its partner is made at one errand: first a message request and a store of get,
-- in its first two turns; then the arguments that taken flags wait for are loaded, and then what stands
-- before a control flag is stored, and the flag goes out.
use Rattle.std.proofs.Common.{◌≡◌, ℕ, ◌+◌, ◌-◌, ◌*◌, ◌<◌, ◌≤◌, Bool, true, false, ◌&&◌, List, ◌∷◌, length, refl, ap, sym, ◌∙◌, subst, arith, inl, inr, ◌⊎◌, Option, Some, None}
use Rattle.std.specs.Prelude.{IsSome, is_some, not, nat_lt, if◌then◌else◌}
use Rattle.std.proofs.lemmas.Bool.{and_parts}
use Rattle.std.proofs.lemmas.Bool.Decides.{nat_tests}
use Rattle.xp_base.specs.declared.layout.TheConstants.{CHANNELS}
use Rattle.xp_base.specs.declared.link.Kind.{Kind}
use Rattle.xp_base.specs.declared.link.Kind.TheVariants.{CloseRequest, CloseReply, OpenRequest, OpenReply, OpenComplete, MsgRequest}
use Rattle.xp_base.specs.declared.step.Answer.{Answer}
use Rattle.xp_base.specs.declared.step.Answer.TheVariants.{Word, Failed}
use Rattle.xp_base.specs.History.{Turn}
use Rattle.xp_base.specs.Kinds.{has, without}
use Rattle.xp_script.specs.declared.part.ScenarioPart.{ScenarioPart}
use Rattle.xp_rounds.specs.declared.rounds.TheConstants.{VISIT_TURNS}
use Rattle.xp_rounds.specs.Visit.{Visit}
use Rattle.xp_rounds.proofs.Sources.{Paced}
use Rattle.xp_rounds.proofs.Duties.{Along, Duty, Moved, done}
use Rattle.xp_rounds.proofs.Spots.{Spot}
use Rattle.xp_protocol.specs.declared.contact.Size.{Size}
use Rattle.xp_protocol.specs.declared.rule.Argument.{Argument}
use Rattle.xp_protocol.specs.declared.rule.Argument.TheVariants.{Request, Reply, Code}
use Rattle.xp_protocol.specs.declared.rule.LinkRule.{LinkRule}
use Rattle.xp_protocol.specs.declared.rule.LinkRule.TheVariants.{Acknowledge, SetFlag, ZeroGet, ZeroPut, StoreArgument, ReadArgument}
use Rattle.xp_protocol.specs.declared.rule.Rule.{Rule}
use Rattle.xp_protocol.specs.declared.rule.Rule.TheVariants.{Link}
use Rattle.xp_protocol.specs.Effects.{Note, BySend, ByPull, Accepted, Sent, Heard, TakeRefused, Released, Drained}
use Rattle.xp_protocol.specs.Parts.{fails_at}
use Rattle.xp_protocol.specs.State.{State, Shake, End, end_of}
use Rattle.xp_protocol.specs.Linking.{hear, down_end, is_ended, kind_left, kind_got, with_argument, argument_stored, argument_read, release_notes, link_effect, kind_of, has_argument, request_of, owed, agreed}
use Rattle.xp_protocol.specs.Rules.{mark_of, link_answered, place_for}
use Rattle.xp_protocol.specs.Runs.{after_turn, is_failed}
use Rattle.xp_plan.specs.declared.errand.Errand.{Errand}
use Rattle.xp_plan.specs.declared.errand.Errand.TheVariants as errands
use Rattle.xp_plan.specs.EndSteps.{step_if, or_else, owes_store, store_at, message_at, argument_awaited, argument_step, control_owed, is_word, has_request, control_step, control_by, control_at, control_signal, signal_step, signal_at}
use Rattle.xp_plan.specs.Plan.{plan_of}
use Rattle.xp_windows.specs.Windows.{middle, At, IsRule, Steps, IsMet, MayLoad, IsStanding, SomeTurn}
use Rattle.xp_windows.proofs.Owing.{IsOwing, no, both, not_true, unreasoned, none_replied, there, owed_on}
use Rattle.xp_windows.proofs.Awaiting.{IsAwaited, awaited_on}
use Rattle.xp_windows.proofs.Held.{Held}
use Rattle.xp_windows.specs.Visited.{rule_made}
use Rattle.xp_windows.proofs.Places.{Turns, first_holds, asks, fits_signal}
use Rattle.xp_windows.proofs.Asked.{steps_by}
use Rattle.xp_windows.proofs.Copies.{whole}
use Rattle.xp_windows.proofs.Throughout.{asked_link}
use Rattle.xp_windows.proofs.Keeps.{ActsKeep, acts_keep}
use Rattle.xp_windows.proofs.Made.{Does, step_makes}
use Rattle.xp_windows.proofs.Settles.{SettleKeeps, hears_keep, channel, all_settles}
use Rattle.xp_windows.proofs.Rests.{acts_by}
use Rattle.xp_windows.proofs.Sober.{Sober, agreed_asked}
use Rattle.xp_windows.proofs.Looks.{Tied}
use Rattle.xp_windows.proofs.Facts.{Facts, Pacing, pacing_next, facts_mid}

-- how many arguments taken flags wait for
abbrev waits_one : Bool → Bool → ℕ
waits_one taken loaded = if taken && not loaded then 1 else 0

abbrev awaited : Shake → ℕ
awaited x = waits_one x.taken.open_request (is_some x.request) + waits_one x.taken.open_reply (is_some x.reply) + waits_one x.taken.close_request (is_some x.code)

one_few : (a b : Bool) → waits_one a b ≤ 1
one_few true true = omega arith
one_few true false = omega arith
one_few false b = omega arith

awaited_few : (x : Shake) → awaited x ≤ 3
awaited_few x =
    let a = one_few x.taken.open_request (is_some x.request) in
    let b = one_few x.taken.open_reply (is_some x.reply) in
    let c = one_few x.taken.close_request (is_some x.code) in
    omega (arith, a, b, c)

waits : (a b : Bool) → (a && not b) ≡ true → waits_one a b ≡ 1
waits true false e = refl
waits true true e = absurd (cc)
waits false b e = absurd (cc)

waits_not : (a b : Bool) → (a && not b) ≡ false → waits_one a b ≡ 0
waits_not true true e = refl
waits_not true false e = absurd (cc)
waits_not false b e = refl

loaded : (a : Bool) → waits_one a true ≡ 0
loaded true = refl
loaded false = refl

-- the first of them
abbrev Awaited : Shake → Argument → Type 0
Awaited x Request = waits_one x.taken.open_request (is_some x.request) ≡ 1
Awaited x Reply = waits_one x.taken.open_reply (is_some x.reply) ≡ 1
Awaited x Code = waits_one x.taken.close_request (is_some x.code) ≡ 1

first_awaited : (x : Shake) → (o : Option Argument) → argument_awaited x ≡ o → (o ≡ None → awaited x ≡ 0) × ((y : Argument) → o ≡ Some y → Awaited x y)
first_awaited x o e = by (x.taken.open_request && not (is_some x.request)) (x.taken.open_reply && not (is_some x.reply)) (x.taken.close_request && not (is_some x.code)) refl refl refl e where
  by : (a b c : Bool) → (x.taken.open_request && not (is_some x.request)) ≡ a → (x.taken.open_reply && not (is_some x.reply)) ≡ b → (x.taken.close_request && not (is_some x.code)) ≡ c → (if a then Some Request else (if b then Some Reply else step_if c Code)) ≡ o
      → (o ≡ None → awaited x ≡ 0) × ((y : Argument) → o ≡ Some y → Awaited x y)
  by true b c f g h i = (λ n. absurd (cc), λ y j. subst (λ (z : Argument). Awaited x z) (let k : Request ≡ y = cc in k) (waits x.taken.open_request (is_some x.request) f))
  by false true c f g h i = (λ n. absurd (cc), λ y j. subst (λ (z : Argument). Awaited x z) (let k : Reply ≡ y = cc in k) (waits x.taken.open_reply (is_some x.reply) g))
  by false false true f g h i = (λ n. absurd (cc), λ y j. subst (λ (z : Argument). Awaited x z) (let k : Code ≡ y = cc in k) (waits x.taken.close_request (is_some x.code) h))
  by false false false f g h i =
      (λ n. let a = waits_not x.taken.open_request (is_some x.request) f in let b = waits_not x.taken.open_reply (is_some x.reply) g in let c = waits_not x.taken.close_request (is_some x.code) h in omega (arith, a, b, c), λ y j. absurd (cc))

-- what else is to be made, by what was stored for this epoch
pub record Same (x y : Shake) : Type 0 where
  pub get_zero : y.get_zero ≡ x.get_zero
  pub put_zero : y.put_zero ≡ x.put_zero
  pub request_put : y.request_put ≡ x.request_put
  pub reply_put : y.reply_put ≡ x.reply_put
  pub code_put : y.code_put ≡ x.code_put

module _ (W : Shake → ℕ) (even : (x y : Shake) → Same x y → W y ≡ W x) where
  abbrev Left : ℕ → End → Type 0
  Left n e = (W e.shake + awaited e.shake ≤ n) × (e.shake.sent.close_reply ≡ false)

  same_left : (n : ℕ) (e y : End) → Same e.shake y.shake → awaited y.shake ≤ awaited e.shake → y.shake.sent.close_reply ≡ e.shake.sent.close_reply → Left n e → Left n y
  same_left n e y s a r h = let w = even e.shake y.shake s in let l = h.0 in (omega (arith, w, l, a), r ∙ h.1)

  alike : (x : Shake) → Same x x
  alike x = record { get_zero = refl; put_zero = refl; request_put = refl; reply_put = refl; code_put = refl }

  heard : (n : ℕ) (m : Note) (e : End) → Left n e → Left n (hear m e)
  heard n (BySend (Accepted number body asks)) e h = same_left n e (hear (BySend (Accepted number body asks)) e) (record { get_zero = refl; put_zero = refl; request_put = refl; reply_put = refl; code_put = refl }) (omega arith) refl h
  heard n (BySend (Sent a)) e h = h
  heard n (ByPull (Heard get)) e h = h
  heard n (ByPull (TakeRefused a)) e h = h
  heard n (Released a) e h = h
  heard n (Drained a) e h = h
  heard n m e h = h

  lefts : (n : ℕ) (k : Kind) (e : End) → Left n e → Left n (kind_left k e)
  lefts n OpenRequest e h = same_left n e (kind_left OpenRequest e) (record { get_zero = refl; put_zero = refl; request_put = refl; reply_put = refl; code_put = refl }) (omega arith) refl h
  lefts n OpenReply e h = same_left n e (kind_left OpenReply e) (record { get_zero = refl; put_zero = refl; request_put = refl; reply_put = refl; code_put = refl }) (omega arith) refl h
  lefts n OpenComplete e h = same_left n e (kind_left OpenComplete e) (record { get_zero = refl; put_zero = refl; request_put = refl; reply_put = refl; code_put = refl }) (omega arith) refl h
  lefts n CloseRequest e h = same_left n e (kind_left CloseRequest e) (record { get_zero = refl; put_zero = refl; request_put = refl; reply_put = refl; code_put = refl }) (omega arith) refl h
  lefts n CloseReply e h = same_left n e (kind_left CloseReply e) (record { get_zero = refl; put_zero = refl; request_put = refl; reply_put = refl; code_put = refl }) (omega arith) refl h
  lefts n MsgRequest e h = same_left n e (kind_left MsgRequest e) (record { get_zero = refl; put_zero = refl; request_put = refl; reply_put = refl; code_put = refl }) (omega arith) refl h

  gets : (n : ℕ) (k : Kind) (e : End) → Left n e → Left n (kind_got k e)
  gets n OpenRequest e h = same_left n e (kind_got OpenRequest e) (record { get_zero = refl; put_zero = refl; request_put = refl; reply_put = refl; code_put = refl }) (omega arith) refl h
  gets n OpenReply e h = same_left n e (kind_got OpenReply e) (record { get_zero = refl; put_zero = refl; request_put = refl; reply_put = refl; code_put = refl }) (omega arith) refl h
  gets n OpenComplete e h = same_left n e (kind_got OpenComplete e) (record { get_zero = refl; put_zero = refl; request_put = refl; reply_put = refl; code_put = refl }) (omega arith) refl h
  gets n CloseRequest e h = same_left n e (kind_got CloseRequest e) (record { get_zero = refl; put_zero = refl; request_put = refl; reply_put = refl; code_put = refl }) (omega arith) refl h
  gets n CloseReply e h = same_left n e (kind_got CloseReply e) (record { get_zero = refl; put_zero = refl; request_put = refl; reply_put = refl; code_put = refl }) (omega arith) refl h
  gets n MsgRequest e h = same_left n e (kind_got MsgRequest e) (record { get_zero = refl; put_zero = refl; request_put = refl; reply_put = refl; code_put = refl }) (omega arith) refl h

  ended : (e : End) → is_ended e ≡ true → e.shake.sent.close_reply ≡ false → ⊥
  ended e i h = let a = (and_parts e.shake.sent.close_reply e.shake.got.close_reply i).0 in let f : true ≡ false = sym a ∙ h in cc

  left_settle : (n : ℕ) → SettleKeeps (Left n)
  left_settle n = record {
    heard = heard n;
    down = λ reason e i h. same_left n e (down_end reason e) (record { get_zero = refl; put_zero = refl; request_put = refl; reply_put = refl; code_put = refl }) (omega arith) refl h;
    over = λ e i h. absurd (ended e i h.1);
    left = λ k e i j h. lefts n k e h;
    got = λ k e i j h. gets n k e h;
    dropped = λ e h. same_left n e (record e { shake = record e.shake { taken = without MsgRequest e.shake.taken } }) (record { get_zero = refl; put_zero = refl; request_put = refl; reply_put = refl; code_put = refl }) (omega arith) refl h;
    owing = λ e h. h;
    sized = λ e size i j h. same_left n e (let y = kind_got OpenRequest e in record y { shake = record y.shake { their_size = size } }) (record { get_zero = refl; put_zero = refl; request_put = refl; reply_put = refl; code_put = refl }) (omega arith) refl h;
  }

  left_acts : (n : ℕ) → ActsKeep (Left n)
  left_acts n = acts_by (Left n) (λ e y a b d h. subst (λ (z : Shake). (W z + awaited z ≤ n) × (z.sent.close_reply ≡ false)) (sym d) h) (λ reason e h. channel (Left n) (left_settle n) reason e h)

  -- an argument is loaded
  fewer : (y : Argument) (place w : ℕ) (e : End) → Awaited e.shake y → awaited (with_argument y place w e).shake + 1 ≤ awaited e.shake
  fewer Request place w e h = let l = loaded e.shake.taken.open_request in omega (arith, h, l)
  fewer Reply place w e h = let l = loaded e.shake.taken.open_reply in omega (arith, h, l)
  fewer Code place w e h = let l = loaded e.shake.taken.close_request in omega (arith, h, l)

  with_same : (y : Argument) (place w : ℕ) (e : End) → Same e.shake (with_argument y place w e).shake
  with_same Request place w e = record { get_zero = refl; put_zero = refl; request_put = refl; reply_put = refl; code_put = refl }
  with_same Reply place w e = record { get_zero = refl; put_zero = refl; request_put = refl; reply_put = refl; code_put = refl }
  with_same Code place w e = record { get_zero = refl; put_zero = refl; request_put = refl; reply_put = refl; code_put = refl }

  with_reply : (y : Argument) (place w : ℕ) (e : End) → (with_argument y place w e).shake.sent.close_reply ≡ e.shake.sent.close_reply
  with_reply Request place w e = refl
  with_reply Reply place w e = refl
  with_reply Code place w e = refl

  reads : (n : ℕ) (y : Argument) (place w : ℕ) (e : End) → Awaited e.shake y → Left (n + 1) e → Left n (argument_read y place w e).local
  reads n y place w e a h =
      let x = with_argument y place w e in
      let l = fewer y place w e a in
      let s = even e.shake x.shake (with_same y place w e) in
      let t = h.0 in
      all_settles (Left n) (left_settle n) x (omega (arith, l, s, t), with_reply y place w e ∙ h.1)

  -- what the errand makes of an end: the step that is waited for, or one less is left
  pub record Control (goal : LinkRule) (e : End) (o : Option LinkRule) : Type 0 where
    pub rule : LinkRule
    pub is : o ≡ Some rule
    pub fails : (s : ScenarioPart) (st : State) (q c : ℕ) → is_failed Failed ≡ fails_at s (mark_of s st (Link q c rule)) → (link_answered (mark_of s st (Link q c rule)) 0 e rule Failed).reason ≡ None → ⊥
    pub makes : (rule ≡ goal) ⊎ ((n place w : ℕ) → Left (n + 1) e → Left n (link_effect place e rule w).local)

  -- the arguments come first
  control : (goal : LinkRule) (e : End) → e.shake.sent.close_reply ≡ false → (argument_awaited e.shake ≡ None → Control goal e (control_at e)) → Control goal e (control_signal e)
  control goal e unreplied rest = by (argument_awaited e.shake) refl (first_awaited e.shake (argument_awaited e.shake) refl).1 where
    at : (o : Option Argument) → argument_awaited e.shake ≡ o → control_signal e ≡ or_else (argument_step o) (control_at e)
    at o f = ap (λ (b : Bool). or_else (if b then None else argument_step (argument_awaited e.shake)) (control_at e)) unreplied ∙ ap (λ (y : Option Argument). or_else (argument_step y) (control_at e)) f

    by : (o : Option Argument) → argument_awaited e.shake ≡ o → ((y : Argument) → argument_awaited e.shake ≡ Some y → Awaited e.shake y) → Control goal e (control_signal e)
    by None f a = let z = rest f in record { rule = z.rule; is = at None f ∙ z.is; fails = z.fails; makes = z.makes }
    by (Some y) f a = record { rule = ReadArgument y; is = at (Some y) f; fails = λ s st q c i j. absurd (cc); makes = inr (λ n place w h. reads n y place w e (a y f) h) }

  -- the first two turns of the errand
  signal : (goal : LinkRule) (used : ℕ) (e : End) → IsSome e.shake.meet → Control goal e (control_signal e) → (r : LinkRule) × (signal_at used e ≡ Some r)
      × ((s : ScenarioPart) (st : State) (q c : ℕ) → is_failed Failed ≡ fails_at s (mark_of s st (Link q c r)) → (link_answered (mark_of s st (Link q c r)) 0 e r Failed).reason ≡ None → ⊥)
      × (((r ≡ goal) ⊎ ((n place w : ℕ) → Left (n + 1) e → Left n (link_effect place e r w).local)) ⊎ ((used < 2) × ((n place w : ℕ) → Left n e → Left n (link_effect place e r w).local)))
  signal goal used e meet z = by (nat_lt used 2) e.shake.owes_message (owes_store e) refl refl refl where
    at : (b : Bool) → nat_lt used 2 ≡ b → signal_at used e ≡ (if b then or_else (message_at e) (or_else (store_at e) (control_signal e)) else control_signal e)
    at b f = ap (λ (d : Bool). if d then signal_step used e else None) meet ∙ ap (λ (d : Bool). if d then or_else (message_at e) (or_else (store_at e) (control_signal e)) else control_signal e) f

    low : nat_lt used 2 ≡ true → used < 2
    low f = grind (arith, nat_tests)

    by : (a b d : Bool) → nat_lt used 2 ≡ a → e.shake.owes_message ≡ b → owes_store e ≡ d → (r : LinkRule) × (signal_at used e ≡ Some r)
        × ((s : ScenarioPart) (st : State) (q c : ℕ) → is_failed Failed ≡ fails_at s (mark_of s st (Link q c r)) → (link_answered (mark_of s st (Link q c r)) 0 e r Failed).reason ≡ None → ⊥)
        × (((r ≡ goal) ⊎ ((n place w : ℕ) → Left (n + 1) e → Left n (link_effect place e r w).local)) ⊎ ((used < 2) × ((n place w : ℕ) → Left n e → Left n (link_effect place e r w).local)))
    by false b d f g i = (z.rule, at false f ∙ z.is, z.fails, inl z.makes)
    by true true d f g i = (SetFlag MsgRequest, at true f ∙ ap (λ (x : Bool). or_else (step_if x (SetFlag MsgRequest)) (or_else (store_at e) (control_signal e))) g, λ s st q c j k. absurd (cc), inr (low f, λ n place w h. same_left n e (record e { shake = record e.shake { owes_message = false } }) (record { get_zero = refl; put_zero = refl; request_put = refl; reply_put = refl; code_put = refl }) (omega arith) refl h))
    by true false true f g i = (
      Acknowledge,
      at true f ∙ ap (λ (x : Bool). or_else (step_if x (SetFlag MsgRequest)) (or_else (store_at e) (control_signal e))) g ∙ ap (λ (x : Bool). or_else (step_if x Acknowledge) (control_signal e)) i,
      λ s st q c j k. absurd (cc),
      inr (low f, λ n place w h. let y : End = record e { sides = record e.sides { local_get = e.sides.ack.front; releasing = false }; shake = record e.shake { owes_message = true } } in hears_keep (Left n) (left_settle n) (release_notes e.sides.releasing e.sides.ack.front) y (same_left n e y (record { get_zero = refl; put_zero = refl; request_put = refl; reply_put = refl; code_put = refl }) (omega arith) refl h)),
    )
    by true false false f g i = (z.rule, at true f ∙ ap (λ (x : Bool). or_else (step_if x (SetFlag MsgRequest)) (or_else (store_at e) (control_signal e))) g ∙ ap (λ (x : Bool). or_else (step_if x Acknowledge) (control_signal e)) i ∙ z.is, z.fails, inl z.makes)

-- the duty: what is left, and the two turns that may go before it, fit the errand
module _ (boot : ℕ) (C : State → Type 0) (s : ScenarioPart) (q c : ℕ) (x : Spot s.part s.count q) (low : c < CHANNELS) (goal : LinkRule) (W : Shake → ℕ) (even : (a b : Shake) → Same a b → W b ≡ W a) (met : (st : State) → C st → IsMet q st) (contact : (st : State) → C st → IsSome (end_of st q c).shake.meet)
    (unreplied : (st : State) → Facts st → C st → (end_of st q c).shake.sent.close_reply ≡ false) (some : (st : State) → C st → 1 ≤ W (end_of st q c).shake + awaited (end_of st q c).shake) (few : (a : Shake) → W a ≤ 4)
    (controls : (st : State) → Facts st → C st → argument_awaited (end_of st q c).shake ≡ None → Control W even goal (end_of st q c) (control_at (end_of st q c))) where
  abbrev IsAlong : Visit Errand → State → List Turn → Type 0
  IsAlong v st ts = Along (plan_of s) (middle s) (after_turn s) (rule_made s) s.count (Pacing boot C s q x) (pacing_next boot C s q x) v st ts

  abbrev Made : State → Turn → Type 0
  Made st t = Steps (At q c (IsRule goal)) s st t

  abbrev P : Unit {0} → State → List Turn → Type 0
  P ph st ts = SomeTurn Made s st ts

  abbrev More : State → ℕ
  More st = W (end_of st q c).shake + awaited (end_of st q c).shake

  abbrev Work : Unit {0} → ℕ → ℕ → State → Type 0
  Work ph n used st = More st + (2 - used) ≤ n + 1

  abbrev Moves : ℕ → ℕ → State → Turn → List Turn → Type 0
  Moves n used st t ts = Moved (plan_of s) (middle s) (after_turn s) (rule_made s) s.count (Pacing boot C s q x) (pacing_next boot C s q x) (Unit {0}) Work P tt n used st t ts

  mid_left : (v : Visit Errand) (st : State) (t : Turn) (ts : List Turn) → IsAlong v st (t ∷ ts) → Left W even (More st) (end_of (middle s st t) q c)
  mid_left v st t ts a = acts_keep (Left W even (More st)) s q c (left_acts W even (More st)) st t.before (omega arith, unreplied st a.more.facts a.more.run.holds.0)

  -- what is left after a step of which its word is known
  left_after : (v : Visit Errand) (st : State) (t : Turn) (ts : List Turn) (r : LinkRule) (n : ℕ) → IsAlong v st (t ∷ ts) → rule_made s (middle s st t) t ≡ Some (Link q c r)
      → ((s₁ : ScenarioPart) (y : State) (k d : ℕ) → is_failed Failed ≡ fails_at s₁ (mark_of s₁ y (Link k d r)) → (link_answered (mark_of s₁ y (Link k d r)) 0 (end_of (middle s st t) q c) r Failed).reason ≡ None → ⊥)
      → ((place w : ℕ) → Left W even n (link_effect place (end_of (middle s st t) q c) r w).local) → Left W even n (end_of (after_turn s st t) q c)
  left_after v st t ts r n a e fails makes =
      step_makes s q c (Left W even n) (left_acts W even n) st t r a.more.run.runs.0 (met (middle s st t) a.more.run.holds.1) (there (middle s st t) q c (contact (middle s st t) a.more.run.holds.1)) (met (after_turn s st t) (first_holds C s (after_turn s st t) ts a.more.run.holds.2)) e makes_by
    where
      makes_by : (y : Answer) → is_failed y ≡ fails_at s (mark_of s (middle s st t) (Link q c r)) → (Does s q c (middle s st t) r y).reason ≡ None → Left W even n (Does s q c (middle s st t) r y).local
      makes_by (Word w) f g = makes (place_for s c) w
      makes_by Failed f g = absurd (fails s (middle s st t) q c f g)

  asks_now : (v : Visit Errand) (st : State) (t : Turn) (ts : List Turn) (n used : ℕ) → IsAlong v st (t ∷ ts) → Work tt n used st → (o : Option Rule) × ((plan_of s).ask x.number (errands.Signal c) used (middle s st t) ≡ Some o) × (rule_made s (middle s st t) t ≡ o → P tt st (t ∷ ts) ⊎ Moves n used st t ts)
  asks_now v st t ts n used a w = (Some (Link q c z.0), asks s q x (errands.Signal c) used boot (middle s st t) a.more.run.up.1 ∙ asked_link q c (middle s st t) (signal_at used (end_of (middle s st t) q c)) z.0 (met (middle s st t) a.more.run.holds.1) z.1, λ f. by f z.3) where
    facts : Facts (middle s st t)
    facts = facts_mid s st t.before a.more.facts

    z : (r : LinkRule) × (signal_at used (end_of (middle s st t) q c) ≡ Some r)
        × ((s₁ : ScenarioPart) (y : State) (k d : ℕ) → is_failed Failed ≡ fails_at s₁ (mark_of s₁ y (Link k d r)) → (link_answered (mark_of s₁ y (Link k d r)) 0 (end_of (middle s st t) q c) r Failed).reason ≡ None → ⊥)
        × (((r ≡ goal) ⊎ ((m place k : ℕ) → Left W even (m + 1) (end_of (middle s st t) q c) → Left W even m (link_effect place (end_of (middle s st t) q c) r k).local)) ⊎ ((used < 2) × ((m place k : ℕ) → Left W even m (end_of (middle s st t) q c) → Left W even m (link_effect place (end_of (middle s st t) q c) r k).local)))
    z =
        let on = a.more.run.holds.1 in
        let e = end_of (middle s st t) q c in
        signal W even goal used e (contact (middle s st t) on) (control W even goal e (unreplied (middle s st t) facts on) (controls (middle s st t) facts on))

    last : 1 ≤ More (after_turn s st t)
    last = some (after_turn s st t) (first_holds C s (after_turn s st t) ts a.more.run.holds.2)

    moved : (m : ℕ) → Left W even m (end_of (after_turn s st t) q c) → m + (2 - (used + 1)) ≤ n → Moves n used st t ts
    moved m h l =
        let k = last in
        let g = h.0 in
        record { fewer = n - 1; low = omega (arith, g, k, l); phase = tt; work = omega (arith, g, k, l); lift = λ y. inr y }

    by : rule_made s (middle s st t) t ≡ Some (Link q c z.0) → ((z.0 ≡ goal) ⊎ ((m place k : ℕ) → Left W even (m + 1) (end_of (middle s st t) q c) → Left W even m (link_effect place (end_of (middle s st t) q c) z.0 k).local)) ⊎ ((used < 2) × ((m place k : ℕ) → Left W even m (end_of (middle s st t) q c) → Left W even m (link_effect place (end_of (middle s st t) q c) z.0 k).local)) → P tt st (t ∷ ts) ⊎ Moves n used st t ts
    by f (inl (inl e)) = inl (inl (steps_by (At q c (IsRule goal)) s st t (Link q c z.0) f (refl, refl, e)))
    by f (inl (inr g)) =
        let k = some st a.more.run.holds.0 in
        let y = left_after v st t ts z.0 (More st - 1) a f z.2 (λ place d. g (More st - 1) place d (let p : More st - 1 + 1 ≡ More st = omega (arith, k) in subst (λ (j : ℕ). Left W even j (end_of (middle s st t) q c)) (sym p) (mid_left v st t ts a))) in
        inr (moved (More st - 1) y (omega (arith, w, k)))
    by f (inr g) =
        let y = left_after v st t ts z.0 (More st) a f z.2 (λ place d. g.1 (More st) place d (mid_left v st t ts a)) in
        let u = g.0 in
        inr (moved (More st) y (omega (arith, w, u)))

  begins_by : (st : State) → Work tt 8 0 st
  begins_by st = let a = few (end_of st q c).shake in let b = awaited_few (end_of st q c).shake in omega (arith, a, b)

  duty : Duty (plan_of s) (middle s) (after_turn s) (rule_made s) s.count (Pacing boot C s q x) (pacing_next boot C s q x) x.number (errands.Signal c) 0 (λ _. Unit {0}) (Unit {0}) tt Work P
  duty = record {
    later = λ st t ts h. inr h;
    stays = λ v st t ts a long h. inr tt;
    fits = λ v st t ts a h. fits_signal s q x c boot (middle s st t) low a.more.run.up.1 (met (middle s st t) a.more.run.holds.1);
    begins = λ v st t ts a h. (8, omega arith, begins_by st);
    asks = λ ph n used v st t ts a long few w. asks_now v st t ts n used a w;
  }

  signalled : (v : Visit Errand) (st : State) (ts : List Turn) → VISIT_TURNS * s.count + VISIT_TURNS < length ts → Turns boot s v st ts → Paced (plan_of s) (whole s) v → Facts st → Tied s x.number q v st → Held C s st ts → SomeTurn Made s st ts
  signalled v st ts long y paced facts tied holds =
      done (plan_of s) (middle s) (after_turn s) (rule_made s) s.count (Pacing boot C s q x) (pacing_next boot C s q x) x.number (errands.Signal c) 0 (λ _. Unit {0}) (Unit {0}) tt Work P duty v st ts x.low (omega arith) (omega arith) (omega (arith, long))
      (record { ring = y.ring; places = y.places; follows = y.follows; more = record { run = record { runs = y.runs; up = y.up; holds = holds }; paced = paced; facts = facts; tied = tied } }) tt

-- an argument
awaits : (x : Argument) (y : Shake) → has (kind_of x) y.taken ≡ true → has_argument (kind_of x) y ≡ false → 1 ≤ awaited y
awaits Request y t m = let a = waits y.taken.open_request (is_some y.request) (ap (λ (b : Bool). b && not (is_some y.request)) t ∙ ap (λ (b : Bool). not b) m) in omega (arith, a)
awaits Reply y t m = let a = waits y.taken.open_reply (is_some y.reply) (ap (λ (b : Bool). b && not (is_some y.reply)) t ∙ ap (λ (b : Bool). not b) m) in omega (arith, a)
awaits Code y t m = let a = waits y.taken.close_request (is_some y.code) (ap (λ (b : Bool). b && not (is_some y.code)) t ∙ ap (λ (b : Bool). not b) m) in omega (arith, a)

module _ (boot : ℕ) (s : ScenarioPart) (q c : ℕ) (x : Spot s.part s.count q) (low : c < CHANNELS) (y : Argument) where
  abbrev Waits : State → Type 0
  Waits st = IsAwaited q c y st

  waited_for : (v : Visit Errand) (st : State) (ts : List Turn) → VISIT_TURNS * s.count + VISIT_TURNS < length ts → Turns boot s v st ts → Paced (plan_of s) (whole s) v → Facts st → Tied s x.number q v st → Held Waits s st ts → SomeTurn (Steps (At q c (IsRule (ReadArgument y))) s) s st ts
  waited_for v st ts long turns paced facts tied holds =
      signalled boot Waits s q c x low (ReadArgument y) (λ z. 0) (λ a b e. refl) (λ z h. h.met) (λ z h. h.contact) (λ z f h. h.unreplied) (λ z h. let g = awaits y (end_of z q c).shake h.taken h.missing in omega (arith, g)) (λ a. omega arith)
      (λ z f h e. absurd (let g = awaits y (end_of z q c).shake h.taken h.missing in let i = (first_awaited (end_of z q c).shake None e).0 refl in omega (arith, g, i))) v st ts long turns paced facts tied holds

  pub arguments_loaded : (v : Visit Errand) (st : State) (ts : List Turn) → VISIT_TURNS * s.count + VISIT_TURNS < length ts → Turns boot s v st ts → Paced (plan_of s) (whole s) v → Facts st → Tied s x.number q v st → Held (MayLoad q c) s st ts → has (kind_of y) (end_of st q c).shake.taken ≡ true → has_argument (kind_of y) (end_of st q c).shake ≡ false → SomeTurn (Steps (At q c (IsRule (ReadArgument y))) s) s st ts
  arguments_loaded v st ts long turns paced facts tied holds taken missing = by (awaited_on s q c y st ts turns.runs holds (taken, missing)) where
    by : SomeTurn (Steps (At q c (IsRule (ReadArgument y))) s) s st ts ⊎ Held Waits s st ts → SomeTurn (Steps (At q c (IsRule (ReadArgument y))) s) s st ts
    by (inl h) = h
    by (inr h) = waited_for v st ts long turns paced facts tied h

-- what stands before a control flag, under this registration
abbrev one : Bool → ℕ
one stored = if stored then 0 else 1

abbrev words_before : Kind → Option Size → Shake → ℕ
words_before OpenRequest size x = one x.get_zero + one x.put_zero + one (is_word (request_of size) x.request_put)
words_before OpenReply size x = one x.reply_put
words_before CloseRequest size x = one x.code_put
words_before k size x = 0

abbrev flag_left : Kind → Option Size → Shake → ℕ
flag_left k size x = words_before k size x + 1

flag_even : (k : Kind) (size : Option Size) (a b : Shake) → Same a b → flag_left k size b ≡ flag_left k size a
flag_even OpenRequest size a b e =
    let x = ap one e.get_zero in
    let y = ap one e.put_zero in
    let z = ap (λ (o : Option ℕ). one (is_word (request_of size) o)) e.request_put in
    omega (arith, x, y, z)
flag_even OpenReply size a b e = let x = ap one e.reply_put in omega (arith, x)
flag_even CloseRequest size a b e = let x = ap one e.code_put in omega (arith, x)
flag_even CloseReply size a b e = refl
flag_even OpenComplete size a b e = refl
flag_even MsgRequest size a b e = refl

one_least : (b : Bool) → one b ≤ 1
one_least true = omega arith
one_least false = omega arith

flag_few : (k : Kind) (size : Option Size) (a : Shake) → flag_left k size a ≤ 4
flag_few OpenRequest size a = let x = one_least a.get_zero in let y = one_least a.put_zero in let z = one_least (is_word (request_of size) a.request_put) in omega (arith, x, y, z)
flag_few OpenReply size a = let x = one_least a.reply_put in omega (arith, x)
flag_few CloseRequest size a = let x = one_least a.code_put in omega (arith, x)
flag_few CloseReply size a = omega arith
flag_few OpenComplete size a = omega arith
flag_few MsgRequest size a = omega arith

-- what is stored is left no more
word_is : (w : ℕ) → is_word w (Some w) ≡ true
word_is w = grind (arith, nat_tests)

module _ (size : Option Size) where
  abbrev Leaves : Kind → ℕ → End → Type 0
  Leaves k n e = Left (flag_left k size) (flag_even k size) n e

  stores_before : (k : Kind) (e y : End) (n : ℕ) → words_before k size y.shake + 1 ≤ words_before k size e.shake → awaited y.shake ≤ awaited e.shake → y.shake.sent.close_reply ≡ e.shake.sent.close_reply → Leaves k (n + 1) e → Leaves k n y
  stores_before k e y n l a r h = let g = h.0 in (omega (arith, g, l, a), r ∙ h.1)

  abbrev Makes : Kind → End → Type 0
  Makes k e = Control (flag_left k size) (flag_even k size) (SetFlag k) e (Some (control_step k e))

  opens_by : (a b d : Bool) (e : End) → e.registration ≡ size → e.shake.get_zero ≡ a → e.shake.put_zero ≡ b → has_request e ≡ d → Control (flag_left OpenRequest size) (flag_even OpenRequest size) (SetFlag OpenRequest) e (Some (if not a then ZeroGet else (if not b then ZeroPut else (if d then SetFlag OpenRequest else StoreArgument Request))))
  opens_by false b d e r f g h = record { rule = ZeroGet; is = refl; fails = λ s st q c i j. absurd (cc); makes = inr (λ n place w l. let z = ap one f in stores_before OpenRequest e (record e { shake = record e.shake { get_zero = true } }) n (omega (arith, z)) (omega arith) refl l) }
  opens_by true false d e r f g h = record { rule = ZeroPut; is = refl; fails = λ s st q c i j. absurd (cc); makes = inr (λ n place w l. let z = ap one g in stores_before OpenRequest e (record e { shake = record e.shake { put_zero = true } }) n (omega (arith, z)) (omega arith) refl l) }
  opens_by true true false e r f g h =
      record {
        rule = StoreArgument Request;
        is = refl;
        fails = λ s st q c i j. absurd (cc);
        makes = inr (λ n place w l.
            let a : one (is_word (request_of size) e.shake.request_put) ≡ 1 = ap (λ (z : Option Size). one (is_word (request_of z) e.shake.request_put)) (sym r) ∙ ap one h in
            let b : one (is_word (request_of size) (Some (request_of e.registration))) ≡ 0 = ap (λ (z : Option Size). one (is_word (request_of size) (Some (request_of z)))) r ∙ ap one (word_is (request_of size)) in
            stores_before OpenRequest e (argument_stored Request e) n (omega (arith, a, b)) (omega arith) refl l);
      }
  opens_by true true true e r f g h = record { rule = SetFlag OpenRequest; is = refl; fails = λ s st q c i j. absurd (cc); makes = inl refl }

  replies_by : (b : Bool) (e : End) → e.shake.reply_put ≡ b → Control (flag_left OpenReply size) (flag_even OpenReply size) (SetFlag OpenReply) e (Some (if b then SetFlag OpenReply else StoreArgument Reply))
  replies_by true e f = record { rule = SetFlag OpenReply; is = refl; fails = λ s st q c i j. absurd (cc); makes = inl refl }
  replies_by false e f = record { rule = StoreArgument Reply; is = refl; fails = λ s st q c i j. absurd (cc); makes = inr (λ n place w l. let z = ap one f in stores_before OpenReply e (argument_stored Reply e) n (omega (arith, z)) (omega arith) refl l) }

  closes_by : (b : Bool) (e : End) → e.shake.code_put ≡ b → Control (flag_left CloseRequest size) (flag_even CloseRequest size) (SetFlag CloseRequest) e (Some (if b then SetFlag CloseRequest else StoreArgument Code))
  closes_by true e f = record { rule = SetFlag CloseRequest; is = refl; fails = λ s st q c i j. absurd (cc); makes = inl refl }
  closes_by false e f = record { rule = StoreArgument Code; is = refl; fails = λ s st q c i j. absurd (cc); makes = inr (λ n place w l. let z = ap one f in stores_before CloseRequest e (argument_stored Code e) n (omega (arith, z)) (omega arith) refl l) }

  makes_by : (k : Kind) (e : End) → (k ≡ MsgRequest → ⊥) → (k ≡ OpenRequest → e.registration ≡ size) → Makes k e
  makes_by OpenRequest e n r = opens_by e.shake.get_zero e.shake.put_zero (has_request e) e (r refl) refl refl refl
  makes_by OpenReply e n r = replies_by e.shake.reply_put e refl
  makes_by CloseRequest e n r = closes_by e.shake.code_put e refl
  makes_by CloseReply e n r = record { rule = SetFlag CloseReply; is = refl; fails = λ s st q c i j. absurd (cc); makes = inl refl }
  makes_by OpenComplete e n r = record { rule = SetFlag OpenComplete; is = refl; fails = λ s st q c i j. absurd (cc); makes = inl refl }
  makes_by MsgRequest e n r = absurd (n refl)

-- no two control flags are owed at once
chosen : (e : End) (a b c d f : Bool) → owed CloseRequest e ≡ a → owed CloseReply e ≡ b → owed OpenRequest e ≡ c → owed OpenReply e ≡ d → owed OpenComplete e ≡ f → control_owed e ≡ (if a then Some CloseRequest else (if b then Some CloseReply else (if c then Some OpenRequest else (if d then Some OpenReply else step_if f OpenComplete))))
chosen e a b c d f g h i j k = rw (g, h, i, j, k) refl

control_is : (k : Kind) (e : End) → (k ≡ MsgRequest → ⊥) → Sober e.shake → owed k e ≡ true → control_owed e ≡ Some k
control_is CloseRequest e n h o = ap (λ (x : Bool). if x then Some CloseRequest else (if owed CloseReply e then Some CloseReply else (if owed OpenRequest e then Some OpenRequest else (if owed OpenReply e then Some OpenReply else step_if (owed OpenComplete e) OpenComplete)))) o
control_is CloseReply e n h o =
    let sent = (both e.shake.sent.close_request _ o).0 in
    let a = no (owed CloseRequest e) (λ g. not_true e.shake.sent.close_request (both (is_some e.shake.reason) _ g).1 sent) in
    chosen e false true (owed OpenRequest e) (owed OpenReply e) (owed OpenComplete e) a o refl refl refl
control_is OpenRequest e n h o =
    let z = both (is_some e.registration) _ o in
    let u = unreasoned e h (both (not (is_some e.shake.reason)) _ z.1).0 in
    chosen e false false true (owed OpenReply e) (owed OpenComplete e) (no (owed CloseRequest e) u.0) (no (owed CloseReply e) u.1) o refl refl
control_is OpenReply e n h o =
    let z = both (not (is_some e.shake.reason)) _ o in
    let u = unreasoned e h z.0 in
    let sent = agreed_asked e.shake (both (is_some (agreed e.shake)) _ z.1).0 in
    let c = no (owed OpenRequest e) (λ g. not_true e.shake.sent.open_request (both (not (is_some e.shake.reason)) _ (both (is_some e.registration) _ g).1).1 sent) in
    chosen e false false false true (owed OpenComplete e) (no (owed CloseRequest e) u.0) (no (owed CloseReply e) u.1) c o refl
control_is OpenComplete e n h o =
    let z = both (not (is_some e.shake.reason)) _ o in
    let u = unreasoned e h z.0 in
    let replied = (both e.shake.sent.open_reply _ z.1).0 in
    let c = no (owed OpenRequest e) (λ g. not_true e.shake.sent.open_request (both (not (is_some e.shake.reason)) _ (both (is_some e.registration) _ g).1).1 (h.order replied)) in
    let d = no (owed OpenReply e) (λ g. not_true e.shake.sent.open_reply (both (is_some (agreed e.shake)) _ (both (not (is_some e.shake.reason)) _ g).1).1 replied) in
    chosen e false false false false true (no (owed CloseRequest e) u.0) (no (owed CloseReply e) u.1) c d o
control_is MsgRequest e n h o = absurd (n refl)

module _ (boot : ℕ) (s : ScenarioPart) (q c : ℕ) (x : Spot s.part s.count q) (low : c < CHANNELS) (k : Kind) (size : Option Size) (other : k ≡ MsgRequest → ⊥) where
  abbrev Owes : State → Type 0
  Owes st = IsOwing q c k size st

  owing : (st : State) → Facts st → Owes st → Control (flag_left k size) (flag_even k size) (SetFlag k) (end_of st q c) (control_at (end_of st q c))
  owing st f h =
      let e = end_of st q c in
      let z = makes_by size k e other h.registration in
      record { rule = z.rule; is = ap (λ (o : Option Kind). control_by o e) (control_is k e other (f.sober q c) h.owed) ∙ z.is; fails = z.fails; makes = z.makes }

  owed_throughout : (v : Visit Errand) (st : State) (ts : List Turn) → VISIT_TURNS * s.count + VISIT_TURNS < length ts → Turns boot s v st ts → Paced (plan_of s) (whole s) v → Facts st → Tied s x.number q v st → Held Owes s st ts → SomeTurn (Steps (At q c (IsRule (SetFlag k))) s) s st ts
  owed_throughout v st ts long turns paced facts tied holds =
      signalled boot Owes s q c x low (SetFlag k) (flag_left k size) (flag_even k size) (λ z h. h.met) (λ z h. h.contact) (λ z f h. none_replied k (end_of z q c) other (f.sober q c) h.owed) (λ z h. omega arith) (flag_few k size) (λ z f h e. owing z f h) v st ts long turns paced facts tied holds

  pub flags_sent : (v : Visit Errand) (st : State) (ts : List Turn) → VISIT_TURNS * s.count + VISIT_TURNS < length ts → Turns boot s v st ts → Paced (plan_of s) (whole s) v → Facts st → Tied s x.number q v st → Held (IsStanding q c k size) s st ts → (k ≡ OpenRequest → is_some size ≡ true) → owed k (end_of st q c) ≡ true → SomeTurn (Steps (At q c (IsRule (SetFlag k))) s) s st ts
  flags_sent v st ts long turns paced facts tied holds some owes = by (owed_on s q c k size some v st ts other turns.follows turns.runs paced facts holds owes) where
    by : SomeTurn (Steps (At q c (IsRule (SetFlag k))) s) s st ts ⊎ Held Owes s st ts → SomeTurn (Steps (At q c (IsRule (SetFlag k))) s) s st ts
    by (inl h) = h
    by (inr h) = owed_throughout v st ts long turns paced facts tied h
