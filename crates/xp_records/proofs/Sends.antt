-- Each send of a partition is answered for the first cause that it met, whatever its turns do.
use Rattle.std.proofs.Common.{◌≡◌, ℕ, zero, suc, ◌+◌, ◌-◌, ◌<◌, arith, Bool, true, false, not, ◌&&◌, cond, eqb, ltb, List, [], ◌∷◌, length, get_or-set_same, refl, ap, sym, ◌∙◌, subst, Option, Some, None, inl, inr, ◌⊎◌}
use Rattle.std.specs.Prelude.{is_some, slice_get, IsSome}
use Rattle.std.proofs.lemmas.Bool.{cases_eq, eq-eqb, ne_eqb, and_parts, and_from}
use Rattle.xp_base.specs.declared.step.Op.{Op}
use Rattle.xp_base.specs.declared.step.OpKind.TheVariants.{Store}
use Rattle.xp_base.specs.declared.step.Answer.{Answer}
use Rattle.xp_base.specs.declared.step.Answer.TheVariants.{Word, Failed}
use Rattle.xp_base.specs.declared.answer.SendAnswer.{SendAnswer}
use Rattle.xp_base.specs.declared.answer.SendAnswer.TheVariants.{Ok as SendOk, TooBig}
use Rattle.xp_base.specs.declared.link.LinkState.{LinkState}
use Rattle.xp_base.specs.declared.link.LinkState.TheVariants.{Connected, Closing, Idle, Opening}
use Rattle.xp_base.specs.declared.reason.Reason.{Reason}
use Rattle.xp_base.specs.History.{Act, Begun, Answered, Noticed, NoticeKind, Delivered, Ended, Marked}
use Rattle.xp_script.specs.declared.command.Command.{Command}
use Rattle.xp_script.specs.declared.command.Command.TheVariants.{Send, Take, Release, Drain, Register, Unregister}
use Rattle.xp_script.specs.declared.command.Command.TheVariants as commands
use Rattle.xp_script.specs.declared.log.LogAnswer.{LogAnswer}
use Rattle.xp_script.specs.declared.log.LogAnswer.TheVariants.{Send as SendAnswered}
use Rattle.xp_script.specs.declared.part.ScenarioPart.{ScenarioPart}
use Rattle.xp_protocol.specs.declared.rule.LinkRule.{LinkRule}
use Rattle.xp_protocol.specs.declared.rule.LinkRule.TheVariants.{Ring, Pull, Acknowledge, SetFlag, ZeroGet, ZeroPut, StoreArgument, ReadArgument}
use Rattle.xp_protocol.specs.declared.rule.RingRule.TheVariants.{ReadGet, WriteEntryWord, AcceptMessage}
use Rattle.xp_protocol.specs.declared.rule.Rule.{Rule}
use Rattle.xp_protocol.specs.declared.rule.Rule.TheVariants.{Link, Peer as ForPeer, Own}
use Rattle.xp_protocol.specs.Parts.{script_in, IsLawfulPart}
use Rattle.xp_protocol.specs.Effects.{Effect, Note}
use Rattle.xp_protocol.specs.Sending.{Send as Sendable, ring_effect, link_refusal, may_wait}
use Rattle.xp_protocol.specs.State.{State, End, Peer, Size, Old, cold_peer, idle_end, peer_at, link_at, end_at, set_link, set_end, state_by, both_complete, link_of, end_of}
use Rattle.xp_protocol.specs.Linking.{by_send, link_can, acknowledged}
use Rattle.xp_protocol.specs.Rules.{Can, mark_of, place_for, link_answered, after_answer, op_of}
use Rattle.xp_protocol.specs.Acts.{Aim, EndName, first_of, too_long, limit_of, limit_by, registered_limit, refused_send, send_begun, end_begun, end_answered, named_end, upcoming, current, due, due_to, send_logged, aim_of, aim_by, aimed, with_aim, after_act, command_begun, end_noticed, is_stored, must_answer}
use Rattle.xp_protocol.specs.Runs.{MayStep, after_ruled, after_step}
use Rattle.xp_protocol.proofs.Lawful.{lawful_command}
use Rattle.xp_protocol.proofs.Named.{IsNamed, named_low}
use Rattle.xp_protocol.proofs.Frames.{AreAll, link_frame, aim_frame, wanted_at}
use Rattle.xp_records.specs.Answers.{Passed, SendRun, begun_send, answered_send, is_send, is_sending, passed, stepped, sends_step, limit_at, refused_first, full_told, first_cause}
use Rattle.xp_records.proofs.Flow.{FlowAt, RegisteredAt, Sends, calm_sends, face}
use Rattle.xp_records.proofs.Changes.{IsCalmly, linked_went, stored_face, IsNoSend, begin_kept, answer_kept}
use Rattle.xp_records.proofs.Parts.{Ordered, rule_sends, rule_orders}
use Rattle.xp_records.proofs.Causes.{with_step, full_by, Firm, firm_cause, Stage, stage_moves, stage_get, stage_put}

-- a send is refused at its beginning as its causes say
closing_limit : (z : Option Size) (r : Reason) (n : ℕ) → limit_at z (Closing r) n ≡ registered_limit z
closing_limit None r n = refl
closing_limit (Some z) r n = refl

idle_limit : (z : Option Size) (n : ℕ) → limit_at z Idle n ≡ registered_limit z
idle_limit None n = refl
idle_limit (Some z) n = refl

opening_limit : (z : Option Size) (n : ℕ) → limit_at z Opening n ≡ registered_limit z
opening_limit None n = refl
opening_limit (Some z) n = refl

connected_limit : (z : Option Size) (n : ℕ) → is_some z ≡ true → limit_at z Connected n ≡ Some n
connected_limit None n t = absurd (cc)
connected_limit (Some z) n t = refl

limit_same : (e : End) (o : Option Reason) (a b : Bool) → (b ≡ true → o ≡ None → is_some e.registration ≡ true) → limit_at e.registration (state_by o a b) e.sides.send.limit ≡ limit_by (b && not (is_some o)) e
limit_same e (Some r) a true h = closing_limit e.registration r e.sides.send.limit
limit_same e (Some r) a false h = closing_limit e.registration r e.sides.send.limit
limit_same e None a true h = connected_limit e.registration e.sides.send.limit (h refl refl)
limit_same e None true false h = opening_limit e.registration e.sides.send.limit
limit_same e None false false h = idle_limit e.registration e.sides.send.limit

refused_same : (e : End) (payload : List ℕ) → FlowAt e → RegisteredAt e → refused_first e payload ≡ refused_send e payload
refused_same e payload w r = ap (λ (o : Option ℕ). first_of (too_long o payload) (link_refusal (link_of e))) (limit_same e e.shake.reason e.shake.sent.open_request (both_complete e.shake) there) where
  there : both_complete e.shake ≡ true → e.shake.reason ≡ None → is_some e.registration ≡ true
  there t n =
      let a = and_parts (is_some e.shake.meet) (e.shake.sent.open_complete && e.shake.got.open_complete) t in
      let b = and_parts e.shake.sent.open_complete e.shake.got.open_complete a.1 in
      ap (λ (o : Option Size). is_some o) (r (w.sent_request (w.sent_reply b.0)) n)

-- an end with a send in progress, or with an answer of one
abbrev pub IsBusy : End → Type 0
IsBusy e = (is_some e.sides.send.send ≡ true) ⊎ (is_some e.decided.send ≡ true)

busy_not : (e : End) → e.sides.send.send ≡ None → is_some e.sides.send.send ≡ true → ⊥
busy_not e n t = let z : is_some e.sides.send.send ≡ false = ap (λ (o : Option Sendable). is_some o) n in absurd (cc)

busy_back : (e x : End) → Sends e x → IsBusy x → IsBusy e
busy_back e x s b = by e.sides.send.send refl where
  by : (o : Option Sendable) → e.sides.send.send ≡ o → IsBusy e
  by (Some y) i = inl (ap (λ (o : Option Sendable). is_some o) i)
  by None i = let k = s.idle i in next k b where
    next : (x.sides.send.send ≡ None) × (x.decided.send ≡ e.decided.send) → IsBusy x → IsBusy e
    next k (inl t) = let z : is_some x.sides.send.send ≡ false = ap (λ (o : Option Sendable). is_some o) k.0 in absurd (cc)
    next k (inr t) = inr (ap (λ (o : Option SendAnswer). is_some o) (sym k.1) ∙ t)

-- the command in progress is a send at an end
pub record SendsTo (su : ScenarioPart) (st : State) (q c : ℕ) : Type 0 where
  pub doing : st.script.doing ≡ true
  pub payload : List ℕ
  pub wait : Bool
  pub notify : Bool
  pub now : current su st ≡ Some (Send q c payload wait notify)

pub record Head (su : ScenarioPart) (st : State) (q c : ℕ) (xs : List SendRun) : Type 0 where
  pub sent : SendRun
  pub earlier : List SendRun
  pub sends_are : xs ≡ sent ∷ earlier
  pub partner : sent.partner ≡ q
  pub channel : sent.channel ≡ c
  pub unanswered : sent.answer ≡ None
  pub stage : Stage sent (end_of st q c)

abbrev pub Caused : SendRun → LogAnswer → Type 0
Caused x a = (cause : SendAnswer) × (first_cause x ≡ Some cause) × (a ≡ SendAnswered cause)

abbrev pub Each : List SendRun → Type 0
Each xs = (n : ℕ) (x : SendRun) → slice_get xs n ≡ Some x → (a : LogAnswer) → x.answer ≡ Some a → Caused x a

pub record SendsOf (su : ScenarioPart) (st : State) (xs : List SendRun) : Type 0 where
  pub busy : (q c : ℕ) → q < su.count → c < 4 → IsBusy (end_of st q c) → SendsTo su st q c
  pub head : st.script.doing ≡ true → (q c : ℕ) (payload : List ℕ) (wait notify : Bool) → current su st ≡ Some (Send q c payload wait notify) → Head su st q c xs
  pub each : Each xs

-- what becomes of an end by a rule: its send goes on, or its link closes; or a get is loaded for it, or its put is stored
abbrev GetHere : State → Rule → Answer → ℕ → ℕ → End → Type 0
GetHere st r a q c x = (v : ℕ) × (r ≡ Link q c (Ring ReadGet)) × (a ≡ Word v) × link_can (end_of st q c) (Ring ReadGet) × (x ≡ (by_send (end_of st q c) (ring_effect (end_of st q c).sides.send ReadGet v)).local)

abbrev PutHere : State → Rule → Answer → ℕ → ℕ → End → Type 0
PutHere st r a q c x = (v : ℕ) × (r ≡ Link q c (Ring AcceptMessage)) × (a ≡ Word v) × link_can (end_of st q c) (Ring AcceptMessage) × (x ≡ (by_send (end_of st q c) (ring_effect (end_of st q c).sides.send AcceptMessage v)).local)

abbrev Moves : State → Rule → Answer → ℕ → ℕ → End → Type 0
Moves st r a q c x = (Sends (end_of st q c) x × ((b : End) → full_told q c b (Some r) a ≡ None)) ⊎ (GetHere st r a q c x ⊎ PutHere st r a q c x)

full_other : (q c j d : ℕ) (b : End) (m : LinkRule) (a : Answer) → (j ≡ q → d ≡ c → ⊥) → full_told q c b (Some (Link j d m)) a ≡ None
full_other q c j d b (Ring ReadGet) (Word v) n = by (cases_eq j q) (cases_eq d c) where
  by : (j ≡ q) ⊎ (j ≡ q → ⊥) → (d ≡ c) ⊎ (d ≡ c → ⊥) → full_told q c b (Some (Link j d (Ring ReadGet))) (Word v) ≡ None
  by (inr x) y = rw (ne_eqb j q x) refl
  by (inl x) (inr y) = rw (eq-eqb j q x, ne_eqb d c y) refl
  by (inl x) (inl y) = absurd (n x y)
full_other q c j d b (Ring ReadGet) Failed n = refl
full_other q c j d b (Ring (WriteEntryWord f)) a n = refl
full_other q c j d b (Ring AcceptMessage) a n = refl
full_other q c j d b (Pull m) a n = refl
full_other q c j d b Acknowledge a n = refl
full_other q c j d b (SetFlag k) a n = refl
full_other q c j d b ZeroGet a n = refl
full_other q c j d b ZeroPut a n = refl
full_other q c j d b (StoreArgument x) a n = refl
full_other q c j d b (ReadArgument x) a n = refl

module _ (su : ScenarioPart) (law : IsLawfulPart su) (st : State) (h : Ordered su.count st) where
  -- at one end
  here_moves : (m : LinkRule) (a : Answer) (q c : ℕ) → q < su.count → c < 4 → link_can (end_of st q c) m → (let f = link_answered (mark_of su st (Link q c m)) (place_for su c) (end_of st q c) m a in Moves st (Link q c m) a q c f.local)
  here_moves (Ring ReadGet) (Word v) q c lq lc can = inr (inl (v, refl, refl, can, refl))
  here_moves (Ring AcceptMessage) (Word v) q c lq lc can = inr (inr (v, refl, refl, can, refl))
  here_moves Acknowledge (Word v) q c lq lc can = inl (calm_sends (end_of st q c) (acknowledged (end_of st q c)).local (stored_face q c (end_of st q c)), λ b. refl)
  here_moves (Ring (WriteEntryWord f)) a q c lq lc can = inl ((linked_went q c (mark_of su st (Link q c (Ring (WriteEntryWord f)))) (place_for su c) (end_of st q c) (Ring (WriteEntryWord f)) a (calmly a) can (h.flows q c lq lc)).sends, λ b. refl) where
    calmly : (a : Answer) → IsCalmly (Ring (WriteEntryWord f)) a
    calmly (Word v) = tt
    calmly Failed = tt
  here_moves (Ring ReadGet) Failed q c lq lc can = inl ((linked_went q c (mark_of su st (Link q c (Ring ReadGet))) (place_for su c) (end_of st q c) (Ring ReadGet) Failed tt can (h.flows q c lq lc)).sends, λ b. refl)
  here_moves (Ring AcceptMessage) Failed q c lq lc can = inl ((linked_went q c (mark_of su st (Link q c (Ring AcceptMessage))) (place_for su c) (end_of st q c) (Ring AcceptMessage) Failed tt can (h.flows q c lq lc)).sends, λ b. refl)
  here_moves Acknowledge Failed q c lq lc can = inl ((linked_went q c (mark_of su st (Link q c Acknowledge)) (place_for su c) (end_of st q c) Acknowledge Failed tt can (h.flows q c lq lc)).sends, λ b. refl)
  here_moves (Pull m) (Word v) q c lq lc can = inl ((linked_went q c (mark_of su st (Link q c (Pull m))) (place_for su c) (end_of st q c) (Pull m) (Word v) tt can (h.flows q c lq lc)).sends, λ b. refl)
  here_moves (Pull m) Failed q c lq lc can = inl ((linked_went q c (mark_of su st (Link q c (Pull m))) (place_for su c) (end_of st q c) (Pull m) Failed tt can (h.flows q c lq lc)).sends, λ b. refl)
  here_moves (SetFlag k) (Word v) q c lq lc can = inl ((linked_went q c (mark_of su st (Link q c (SetFlag k))) (place_for su c) (end_of st q c) (SetFlag k) (Word v) tt can (h.flows q c lq lc)).sends, λ b. refl)
  here_moves (SetFlag k) Failed q c lq lc can = inl ((linked_went q c (mark_of su st (Link q c (SetFlag k))) (place_for su c) (end_of st q c) (SetFlag k) Failed tt can (h.flows q c lq lc)).sends, λ b. refl)
  here_moves ZeroGet (Word v) q c lq lc can = inl ((linked_went q c (mark_of su st (Link q c ZeroGet)) (place_for su c) (end_of st q c) ZeroGet (Word v) tt can (h.flows q c lq lc)).sends, λ b. refl)
  here_moves ZeroGet Failed q c lq lc can = inl ((linked_went q c (mark_of su st (Link q c ZeroGet)) (place_for su c) (end_of st q c) ZeroGet Failed tt can (h.flows q c lq lc)).sends, λ b. refl)
  here_moves ZeroPut (Word v) q c lq lc can = inl ((linked_went q c (mark_of su st (Link q c ZeroPut)) (place_for su c) (end_of st q c) ZeroPut (Word v) tt can (h.flows q c lq lc)).sends, λ b. refl)
  here_moves ZeroPut Failed q c lq lc can = inl ((linked_went q c (mark_of su st (Link q c ZeroPut)) (place_for su c) (end_of st q c) ZeroPut Failed tt can (h.flows q c lq lc)).sends, λ b. refl)
  here_moves (StoreArgument x) (Word v) q c lq lc can = inl ((linked_went q c (mark_of su st (Link q c (StoreArgument x))) (place_for su c) (end_of st q c) (StoreArgument x) (Word v) tt can (h.flows q c lq lc)).sends, λ b. refl)
  here_moves (StoreArgument x) Failed q c lq lc can = inl ((linked_went q c (mark_of su st (Link q c (StoreArgument x))) (place_for su c) (end_of st q c) (StoreArgument x) Failed tt can (h.flows q c lq lc)).sends, λ b. refl)
  here_moves (ReadArgument x) (Word v) q c lq lc can = inl ((linked_went q c (mark_of su st (Link q c (ReadArgument x))) (place_for su c) (end_of st q c) (ReadArgument x) (Word v) tt can (h.flows q c lq lc)).sends, λ b. refl)
  here_moves (ReadArgument x) Failed q c lq lc can = inl ((linked_went q c (mark_of su st (Link q c (ReadArgument x))) (place_for su c) (end_of st q c) (ReadArgument x) Failed tt can (h.flows q c lq lc)).sends, λ b. refl)

  link_moves : (j d : ℕ) (m : LinkRule) (a : Answer) → Can su st (Link j d m) → (q c : ℕ) → q < su.count → c < 4 → Moves st (Link j d m) a q c (end_of (after_answer su st (Link j d m) a) q c)
  link_moves j d m a can q c lq lc = by (cases_eq j q) (cases_eq d c) where
    M : ℕ → ℕ → Type 0
    M x y = Moves st (Link x y m) a q c (end_of (after_answer su st (Link x y m) a) q c)

    other : (j ≡ q → d ≡ c → ⊥) → M j d
    other n =
        let same : end_of (after_answer su st (Link j d m) a) q c ≡ end_of st q c = link_frame (λ e ns. e ≡ end_of st q c) su st j d m a q c h.all can.1.0.peer.0 can.1.0.peer.2 (λ e g. absurd (n e g)) (λ o. refl) in
        inl (calm_sends (end_of st q c) _ (ap (λ (e : End). face e) same), λ b. full_other q c j d b m a n)

    here : link_can (end_of st q c) m → M q c
    here can' =
        let f = link_answered (mark_of su st (Link q c m)) (place_for su c) (end_of st q c) m a in
        let same : end_of (after_answer su st (Link q c m) a) q c ≡ f.local = link_frame (λ e ns. e ≡ f.local) su st q c m a q c h.all lq lc (λ e g. refl) (λ o. absurd (o refl refl)) in
        subst (λ (x : End). Moves st (Link q c m) a q c x) (sym same) (here_moves m a q c lq lc can')

    by : (j ≡ q) ⊎ (j ≡ q → ⊥) → (d ≡ c) ⊎ (d ≡ c → ⊥) → M j d
    by (inl e) (inl g) = subst (λ (x : ℕ). M x d) (sym e) (subst (λ (y : ℕ). M q y) (sym g) (here (subst (λ (x : ℕ). link_can (end_of st x c) m) e (subst (λ (y : ℕ). link_can (end_of st j y) m) g can.1.1))))
    by (inl e) (inr n) = other (λ x y. n y)
    by (inr n) b = other (λ x y. n x)

  rule_moves : (r : Rule) (a : Answer) → Can su st r → (q c : ℕ) → q < su.count → c < 4 → Moves st r a q c (end_of (after_answer su st r a) q c)
  rule_moves (Link j d m) a can q c lq lc = link_moves j d m a can q c lq lc
  rule_moves (ForPeer j m) a can q c lq lc = inl (rule_sends su law st h (ForPeer j m) a tt can q c lq lc, λ b. refl)
  rule_moves (Own m) a can q c lq lc = inl (rule_sends su law st h (Own m) a tt can q c lq lc, λ b. refl)

  moves_busy : (r : Rule) (a : Answer) (q c : ℕ) (x : End) → Moves st r a q c x → IsBusy x → IsBusy (end_of st q c)
  moves_busy r a q c x (inl k) b = busy_back (end_of st q c) x k.0 b
  moves_busy r a q c x (inr (inl g)) b = inl g.3.1.0
  moves_busy r a q c x (inr (inr g)) b = inl g.3.1.0

  -- a step of the send in progress
  both_none : (b : Bool) → cond {A = Option SendAnswer} b None None ≡ None
  both_none true = refl
  both_none false = refl

  next_stage : (r : Rule) (a : Answer) (q c : ℕ) (y : SendRun) (z : Passed) (x : End) → y.partner ≡ q → y.channel ≡ c → z.rule ≡ Some r → z.answer ≡ a → z.link ≡ link_of x → (r ≡ Link q c (Ring AcceptMessage) → z.kind ≡ Store ((end_of st q c).sides.send.put + 1)) → FlowAt (end_of st q c) → FlowAt x → ((n : ℕ) → (end_of st q c).decided.send ≡ Some (SendOk n) → ⊥) → Moves st r a q c x → Stage y (end_of st q c) → Stage (with_step y z) x
  next_stage r a q c y z x ep ec er ea el ek w w' nay (inl k) s =
      let none : full_by y z ≡ None = (λ i. full_told (ep i) (ec i) y.beginning (er i) (ea i)) ∙ k.1 y.beginning in
      stage_moves y z (end_of st q c) x el w' k.0 (ap (λ (o : Option SendAnswer). cond y.wait None o) none ∙ both_none y.wait) nay s
  next_stage r a q c y z x ep ec er ea el ek w w' nay (inr (inl g)) (inl d) = absurd (busy_not (end_of st q c) d.none g.3.1.0)
  next_stage r a q c y z x ep ec er ea el ek w w' nay (inr (inl g)) (inr s) =
      let here : (eqb q y.partner && eqb c y.channel) ≡ true = and_from (eqb q y.partner) (eqb c y.channel) (eq-eqb q y.partner (sym ep)) (eq-eqb c y.channel (sym ec)) in
      subst (λ (e : End). Stage (with_step y z) e) (sym g.4) (stage_get y z (end_of st q c) q c g.0 (er ∙ ap (λ (u : Rule). Some u) g.1) (ea ∙ g.2) here g.3.1.1 w s (el ∙ ap (λ (e : End). link_of e) g.4) (subst (λ (e : End). FlowAt e) g.4 w'))
  next_stage r a q c y z x ep ec er ea el ek w w' nay (inr (inr g)) (inl d) = absurd (busy_not (end_of st q c) d.none g.3.1.0)
  next_stage r a q c y z x ep ec er ea el ek w w' nay (inr (inr g)) (inr s) =
      let here : (eqb q y.partner && eqb c y.channel) ≡ true = and_from (eqb q y.partner) (eqb c y.channel) (eq-eqb q y.partner (sym ep)) (eq-eqb c y.channel (sym ec)) in
      subst (λ (e : End). Stage (with_step y z) e) (sym g.4) (stage_put y z (end_of st q c) q c g.0 (er ∙ ap (λ (u : Rule). Some u) g.1) (ek g.1) here g.3.0 (el ∙ ap (λ (e : End). link_of e) g.4) s)

-- no answer of an accepted message is still to be given
abbrev pub Unaccepted : ScenarioPart → State → Type 0
Unaccepted su st = (q c : ℕ) (payload : List ℕ) (wait notify : Bool) → st.script.doing ≡ true → current su st ≡ Some (Send q c payload wait notify) → (n : ℕ) → (end_of st q c).decided.send ≡ Some (SendOk n) → ⊥

pub due_send : (su : ScenarioPart) (st : State) (q c : ℕ) (payload : List ℕ) (wait notify : Bool) → st.script.doing ≡ true → current su st ≡ Some (Send q c payload wait notify) → due su st ≡ send_logged (end_of st q c).decided.send
due_send su st q c payload wait notify d e = λ i. cond (d i) (due_to su st (e i)) None

pub unaccepted : (su : ScenarioPart) (st : State) → must_answer su st ≡ false → Unaccepted su st
unaccepted su st calm q c payload wait notify d e n k =
    let t : must_answer su st ≡ true = ap (λ (o : Option LogAnswer). is_stored o) (due_send su st q c payload wait notify d e ∙ ap (λ (o : Option SendAnswer). send_logged o) k) in
    absurd (cc)

module _ (su : ScenarioPart) (law : IsLawfulPart su) (st : State) (h : Ordered su.count st) where
  -- what a rule makes of the sends
  sending_some : (o : Option Command) → is_send o ≡ true → (q c : ℕ) × (payload : List ℕ) × (wait notify : Bool) × (o ≡ Some (Send q c payload wait notify))
  sending_some None t = absurd (cc)
  sending_some (Some (Send q c payload wait notify)) t = (q, c, payload, wait, notify, refl)
  sending_some (Some (Take q c wait)) t = absurd (cc)
  sending_some (Some (Release q c number)) t = absurd (cc)
  sending_some (Some (Drain q c)) t = absurd (cc)
  sending_some (Some (Register q c entries limit)) t = absurd (cc)
  sending_some (Some (Unregister q c)) t = absurd (cc)
  sending_some (Some (commands.Connected k d)) t = absurd (cc)
  sending_some (Some (commands.Closed k d)) t = absurd (cc)
  sending_some (Some (commands.Net frame)) t = absurd (cc)
  sending_some (Some (commands.Frames count)) t = absurd (cc)
  sending_some (Some (commands.Deactivate k)) t = absurd (cc)
  sending_some (Some (commands.Activate k)) t = absurd (cc)
  sending_some (Some commands.Leave) t = absurd (cc)
  sending_some (Some (commands.Idle turns)) t = absurd (cc)
  sending_some (Some commands.Offline) t = absurd (cc)
  sending_some (Some commands.Online) t = absurd (cc)

  named_low_now : (q c : ℕ) (payload : List ℕ) (wait notify : Bool) → current su st ≡ Some (Send q c payload wait notify) → (q < su.count) × (c < 4)
  named_low_now q c payload wait notify e = named_low su (Send q c payload wait notify) (lawful_command su st.clock.boots (st.script.begun - 1) (Send q c payload wait notify) law e)

  module _ (x : Marked) (may : MayStep su st x) (calm : Unaccepted su st) (xs : List SendRun) (old : SendsOf su st xs) where
    abbrev r : Rule
    r = may.rule

    abbrev st' : State
    st' = after_answer su st r x.step.answer

    same_after : after_step su st (Some x) ≡ st'
    same_after = ap (λ (o : Option Rule). after_ruled su st o x.step.answer) may.decoded

    busy_rule : (q c : ℕ) → q < su.count → c < 4 → IsBusy (end_of st' q c) → SendsTo su st' q c
    busy_rule q c lq lc b =
        let k = old.busy q c lq lc (moves_busy su law st h r x.step.answer q c (end_of st' q c) (rule_moves su law st h r x.step.answer may.can q c lq lc) b) in
        record { doing = k.doing; payload = k.payload; wait = k.wait; notify = k.notify; now = k.now }

    head_rule : (q c : ℕ) (payload : List ℕ) (wait notify : Bool) → st.script.doing ≡ true → current su st ≡ Some (Send q c payload wait notify) → Head su st' q c (stepped su st x xs)
    head_rule q c payload wait notify d e =
        let o = old.head d q c payload wait notify e in
        let low = named_low_now q c payload wait notify e in
        let z = passed su st x o.sent.partner o.sent.channel in
        let link : z.link ≡ link_of (end_of st' q c) = λ i. link_of (end_of (same_after i) (o.partner i) (o.channel i)) in
        let kind : r ≡ Link q c (Ring AcceptMessage) → z.kind ≡ Store ((end_of st q c).sides.send.put + 1) = λ g. ap (λ (p : Op). p.kind) may.op ∙ ap (λ (u : Rule). (op_of su st u).kind) g in
        record {
          sent = with_step o.sent z;
          earlier = o.earlier;
          sends_are = ap (λ (ys : List SendRun). stepped su st x ys) o.sends_are;
          partner = o.partner;
          channel = o.channel;
          unanswered = o.unanswered;
          stage = next_stage su law st h r x.step.answer q c o.sent z (end_of st' q c) o.partner o.channel may.decoded refl link kind (h.flows q c low.0 low.1) (rule_orders su law st h r x.step.answer may.can q c low.0 low.1).flow (calm q c payload wait notify d e) (rule_moves su law st h r x.step.answer may.can q c low.0 low.1) o.stage;
        }

    each_stepped : (y : SendRun) (ys : List SendRun) → xs ≡ y ∷ ys → y.answer ≡ None → Each (stepped su st x xs)
    each_stepped y ys e n = subst Each (sym (ap (λ (zs : List SendRun). stepped su st x zs) e)) (by (subst Each e old.each)) where
      by : Each (y ∷ ys) → Each (with_step y (passed su st x y.partner y.channel) ∷ ys)
      by k zero w f a g = let z : None ≡ Some a = sym n ∙ ap (λ (o : Option SendRun). answer_in o) f ∙ g in absurd (cc)
        where
          answer_in : Option SendRun → Option LogAnswer
          answer_in None = None
          answer_in (Some u) = u.answer
      by k (suc m) w f a g = k (suc m) w f a g

    sends_by : (b : Bool) → is_sending su st ≡ b → SendsOf su st' (cond b (stepped su st x xs) xs)
    sends_by true t =
        let p = and_parts st.script.doing (is_send (current su st)) t in
        let k = sending_some (current su st) p.1 in
        let o = old.head p.0 k.0 k.1 k.2 k.3 k.4 k.5 in
        record { busy = busy_rule; head = λ d q c payload wait notify e. head_rule q c payload wait notify d e; each = each_stepped o.sent o.earlier o.sends_are o.unanswered }
    sends_by false t = record {
      busy = busy_rule;
      head = λ d q c payload wait notify e. (let z : is_sending su st ≡ true = λ i. d i && is_send (e i) in absurd (cc));
      each = old.each;
    }

    pub sends_made : SendsOf su (after_step su st (Some x)) (sends_step su st (Some x) xs)
    sends_made = subst (λ (s : State). SendsOf su s (sends_step su st (Some x) xs)) (sym same_after) (sends_by (is_sending su st) refl)

-- one end replaced
set_here : {n : ℕ} (peers : List Peer) (q c : ℕ) (x : End) → AreAll n peers → q < n → c < 4 → end_at (set_end peers q c x) q c ≡ x
set_here peers q c x all lq lc =
    ap (λ (p : Peer). link_at p.links c) (get_or-set_same peers q (set_link (peer_at peers q) c x) (cold_peer Old) (omega (arith, all.partners, lq)))
    ∙ get_or-set_same (peer_at peers q).links c x idle_end (omega (arith, all.channels q, lc))

set_other : {n : ℕ} (st : State) (y : Aim) (k d : ℕ) → AreAll n st.peers → y.partner < n → y.channel < 4 → (y.partner ≡ k → y.channel ≡ d → ⊥) → end_of (with_aim (Some y) st) k d ≡ end_of st k d
set_other st y k d all lp lc n = aim_frame (λ e ns. e ≡ end_of st k d) st y k d all lp lc (λ i j. absurd (n i j)) refl

none_some : {A : Type 0} (o : Option A) → (is_some o ≡ true → ⊥) → o ≡ None
none_some None f = refl
none_some (Some a) f = absurd (f refl)

-- a send that is refused isn't accepted
link_not : (l : LinkState) (n : ℕ) → link_refusal l ≡ Some (SendOk n) → ⊥
link_not (Closing why) n e = absurd (cc)
link_not Idle n e = absurd (cc)
link_not Opening n e = absurd (cc)
link_not Connected n e = absurd (cc)

long_not : (b : Bool) (length limit : ℕ) (l : LinkState) (n : ℕ) → first_of (cond b (Some (TooBig length limit)) None) (link_refusal l) ≡ Some (SendOk n) → ⊥
long_not true length limit l n e = absurd (cc)
long_not false length limit l n e = link_not l n e

refused_not : (z : Option ℕ) (payload : List ℕ) (l : LinkState) (n : ℕ) → first_of (too_long z payload) (link_refusal l) ≡ Some (SendOk n) → ⊥
refused_not None payload l n e = link_not l n e
refused_not (Some limit) payload l n e = long_not (ltb limit (length payload)) (length payload) limit l n e

-- an act leaves the clock
pub aim_boots : (st : State) (o : Option Aim) → (with_aim o st).clock.boots ≡ st.clock.boots
aim_boots st None = refl
aim_boots st (Some y) = refl

-- what the stage of a send sees
pub record SentFace : Type 0 where
  pub send : Option Sendable
  pub put : ℕ
  pub entries : ℕ
  pub decided : Option SendAnswer

abbrev pub face_sent : End → SentFace
face_sent e = record { send = e.sides.send.send; put = e.sides.send.put; entries = e.sides.send.entries; decided = e.decided.send }

busy_same : (e x : End) → face_sent x ≡ face_sent e → IsBusy x → IsBusy e
busy_same e x s (inl t) = inl (sym (ap (λ (z : SentFace). is_some z.send) s) ∙ t)
busy_same e x s (inr t) = inr (sym (ap (λ (z : SentFace). is_some z.decided) s) ∙ t)

stage_same : (y : SendRun) (e x : End) → face_sent x ≡ face_sent e → Stage y e → Stage y x
stage_same y e x s (inl d) = inl (record { none = ap (λ (z : SentFace). z.send) s ∙ d.none; why = by d.why }) where
  by : ((cause : SendAnswer) × (e.decided.send ≡ Some cause) × Firm y cause) ⊎ ((number : ℕ) × (e.decided.send ≡ Some (SendOk number)) × (first_cause y ≡ Some (SendOk number))) → ((cause : SendAnswer) × (x.decided.send ≡ Some cause) × Firm y cause) ⊎ ((number : ℕ) × (x.decided.send ≡ Some (SendOk number)) × (first_cause y ≡ Some (SendOk number)))
  by (inl g) = inl (g.0, ap (λ (z : SentFace). z.decided) s ∙ g.1, g.2)
  by (inr g) = inr (g.0, ap (λ (z : SentFace). z.decided) s ∙ g.1, g.2)
stage_same y e x s (inr g) = inr (record {
  undecided = ap (λ (z : SentFace). z.decided) s ∙ g.undecided;
  unrefused = g.unrefused;
  unfull = g.unfull;
  still_open = g.still_open;
  sends = ap (λ (z : SentFace). is_some z.send) s ∙ g.sends;
  waits = ap (λ (z : SentFace). may_wait z.send) s ∙ g.waits;
  put = ap (λ (z : SentFace). z.put) s ∙ g.put;
  entries = ap (λ (z : SentFace). z.entries) s ∙ g.entries;
})

pub both_now : (su : ScenarioPart) (st : State) (x y : Command) → current su st ≡ Some x → current su st ≡ Some y → x ≡ y
both_now su st x y a b = let z : Some x ≡ Some y = sym a ∙ b in cc

module _ (su : ScenarioPart) (law : IsLawfulPart su) (st : State) (h : Ordered su.count st) (xs : List SendRun) (old : SendsOf su st xs) where
  -- the end that a command names changes, and no other
  wanted_same : (P : End → Type 0) (x : Act) (q c : ℕ) → P (end_of (with_aim (aimed su st x) st) q c) → P (end_of (after_act su st x) q c)
  wanted_same P x q c k = wanted_at (λ (p : Peer). P (link_at p.links c)) (command_begun su st x) (with_aim (aimed su st x) st).peers q (λ p h. h) (λ p h. h) k

  named_sends : (f : End → Command → Effect End (List Note)) (x : Command) → ((e : End) → FlowAt e → Sends e (f e x).local) → (o : Option EndName) → IsNamed su.count o → (q c : ℕ) → Sends (end_of st q c) (end_of (with_aim (aim_by st f x o) st) q c)
  named_sends f x g None b q c = calm_sends (end_of st q c) (end_of st q c) refl
  named_sends f x g (Some n) b q c =
      let y : Aim = record { partner = n.partner; channel = n.channel; effect = f (end_of st n.partner n.channel) x } in
      aim_frame (λ e ns. Sends (end_of st q c) e) st y q c h.all b.0 b.1
      (λ i j. subst (λ (k : ℕ). Sends (end_of st k c) y.effect.local) i (subst (λ (k : ℕ). Sends (end_of st n.partner k) y.effect.local) j (g (end_of st n.partner n.channel) (h.flows n.partner n.channel b.0 b.1))))
      (calm_sends (end_of st q c) (end_of st q c) refl)

  low_named : (x : Command) (i : ℕ) → slice_get (script_in su st.clock.boots) i ≡ Some x → IsNamed su.count (named_end x)
  low_named x i e = named_low su x (lawful_command su st.clock.boots i x law e)

  -- a command is begun
  module _ (idle : st.script.doing ≡ false) where
    none_busy : (q c : ℕ) → q < su.count → c < 4 → IsBusy (end_of st q c) → ⊥
    none_busy q c lq lc b = let d = (old.busy q c lq lc b).doing in absurd (cc)

    abbrev begun : State
    begun = after_act su st Begun

    now_begun : (o : Option Command) → upcoming su st ≡ o → current su begun ≡ o
    now_begun o u = let e : st.script.begun + 1 - 1 ≡ st.script.begun = omega arith in (λ i. slice_get (script_in su (aim_boots st (aimed su st Begun) i)) (e i)) ∙ u

    plain_begun : (o : Option Command) → upcoming su st ≡ o → is_send o ≡ false → begun_send st o xs ≡ xs → ((q c : ℕ) → q < su.count → c < 4 → Sends (end_of st q c) (end_of (with_aim (aim_of st end_begun o) st) q c)) → SendsOf su begun (begun_send st (upcoming su st) xs) × Unaccepted su begun
    plain_begun o u nay same sends = (
      subst (λ (ys : List SendRun). SendsOf su begun ys) (sym (ap (λ (o : Option Command). begun_send st o xs) u ∙ same)) (record {
        busy = λ q c lq lc b. absurd (none_busy q c lq lc (busy_back (end_of st q c) (end_of begun q c) (wanted_same (λ e. Sends (end_of st q c) e) Begun q c (subst (λ (o : Option Command). Sends (end_of st q c) (end_of (with_aim (aim_of st end_begun o) st) q c)) (sym u) (sends q c lq lc))) b));
        head = λ d q c payload wait notify e. (let z : is_send o ≡ true = ap is_send (sym (now_begun o u) ∙ e) in absurd (cc));
        each = old.each;
      }),
      λ q c payload wait notify d e n k. (let z : is_send o ≡ true = ap is_send (sym (now_begun o u) ∙ e) in absurd (cc)),
    )

    other_begun : (x : Command) → upcoming su st ≡ Some x → IsNoSend x → is_send (Some x) ≡ false → begun_send st (Some x) xs ≡ xs → SendsOf su begun (begun_send st (upcoming su st) xs) × Unaccepted su begun
    other_begun x u is nay same = plain_begun (Some x) u nay same (λ q c lq lc. named_sends end_begun x (λ e w. (begin_kept q c e x is w).sends) (named_end x) (low_named x st.script.begun u) q c)

    -- a send
    module _ (q c : ℕ) (payload : List ℕ) (wait notify : Bool) (u : upcoming su st ≡ Some (Send q c payload wait notify)) where
      low : (q < su.count) × (c < 4)
      low = low_named (Send q c payload wait notify) st.script.begun u

      abbrev e : End
      e = end_of st q c

      abbrev f : Effect End (List Note)
      f = send_begun (refused_send e payload) payload wait notify e

      abbrev y : Aim
      y = record { partner = q; channel = c; effect = f }

      aim_is : with_aim (aimed su st Begun) st ≡ with_aim (Some y) st
      aim_is = ap (λ (o : Option Command). with_aim (aim_of st end_begun o) st) u

      here_is : end_of begun q c ≡ f.local
      here_is = wanted_same (λ x. x ≡ f.local) Begun q c (ap (λ (s : State). end_of s q c) aim_is ∙ set_here st.peers q c f.local h.all low.0 low.1)

      other_is : (k d : ℕ) → (q ≡ k → c ≡ d → ⊥) → end_of begun k d ≡ end_of st k d
      other_is k d n = wanted_same (λ x. x ≡ end_of st k d) Begun k d (ap (λ (s : State). end_of s k d) aim_is ∙ set_other st y k d h.all low.0 low.1 n)

      abbrev run : SendRun
      run = record { boot = st.clock.boots; number = st.script.begun + 1; partner = q; channel = c; payload = payload; wait = wait; beginning = e; steps = []; answer = None }

      unsent : e.sides.send.send ≡ None
      unsent = none_some e.sides.send.send (λ t. none_busy q c low.0 low.1 (inl t))

      undecided : e.decided.send ≡ None
      undecided = none_some e.decided.send (λ t. none_busy q c low.0 low.1 (inr t))

      begun_stage : (o : Option SendAnswer) → refused_send e payload ≡ o → Stage run (send_begun o payload wait notify e).local
      begun_stage (Some a) i = inl (record { none = unsent; why = inl (a, refl, inl (refused_same e payload (h.flows q c low.0 low.1) (h.registered q c low.0 low.1) ∙ i)) })
      begun_stage None i = inr (record { undecided = undecided; unrefused = refused_same e payload (h.flows q c low.0 low.1) (h.registered q c low.0 low.1) ∙ i; unfull = both wait; still_open = refl; sends = refl; waits = refl; put = refl; entries = refl }) where
        both : (b : Bool) → cond {A = Option SendAnswer} b None None ≡ None
        both true = refl
        both false = refl

      sends_now : (k d : ℕ) → q ≡ k → c ≡ d → SendsTo su begun k d
      sends_now k d i j = record { doing = refl; payload = payload; wait = wait; notify = notify; now = now_begun (Some (Send q c payload wait notify)) u ∙ (λ x. Some (Send (i x) (j x) payload wait notify)) }

      busy_begun : (k d : ℕ) → k < su.count → d < 4 → IsBusy (end_of begun k d) → SendsTo su begun k d
      busy_begun k d lk ld b = by (cases_eq q k) (cases_eq c d) where
        far : (q ≡ k → c ≡ d → ⊥) → SendsTo su begun k d
        far n = absurd (none_busy k d lk ld (subst IsBusy (other_is k d n) b))

        by : (q ≡ k) ⊎ (q ≡ k → ⊥) → (c ≡ d) ⊎ (c ≡ d → ⊥) → SendsTo su begun k d
        by (inl i) (inl j) = sends_now k d i j
        by (inl i) (inr m) = far (λ a z. m z)
        by (inr m) z = far (λ a z. m a)

      decided_not : (o : Option SendAnswer) → refused_send e payload ≡ o → (n : ℕ) → (send_begun o payload wait notify e).local.decided.send ≡ Some (SendOk n) → ⊥
      decided_not None i n k = let z : None ≡ Some (SendOk n) = sym undecided ∙ k in absurd (cc)
      decided_not (Some a) i n k = refused_not (limit_of e) payload (link_of e) n (i ∙ k)

      send_begins : SendsOf su begun (begun_send st (upcoming su st) xs) × Unaccepted su begun
      send_begins = (
        subst (λ (ys : List SendRun). SendsOf su begun ys) (sym (ap (λ (o : Option Command). begun_send st o xs) u)) (record {
          busy = busy_begun;
          head = λ d k b p w z e'. (let same = both_now su begun (Send q c payload wait notify) (Send k b p w z) (now_begun (Some (Send q c payload wait notify)) u) e' in let eq : q ≡ k = cc in let ec : c ≡ b = cc in record { sent = run; earlier = xs; sends_are = refl; partner = eq; channel = ec; unanswered = refl; stage = subst (λ (i : ℕ). Stage run (end_of begun i b)) eq (subst (λ (j : ℕ). Stage run (end_of begun q j)) ec (subst (λ (x : End). Stage run x) (sym here_is) (begun_stage (refused_send e payload) refl))) });
          each = each_more;
        }),
        λ k b p w z d e' n g. (let same = both_now su begun (Send q c payload wait notify) (Send k b p w z) (now_begun (Some (Send q c payload wait notify)) u) e' in let eq : q ≡ k = cc in let ec : c ≡ b = cc in decided_not (refused_send e payload) refl n (sym (ap (λ (x : End). x.decided.send) here_is) ∙ (λ i. (end_of begun (eq i) (ec i)).decided.send) ∙ g)),
      )
        where
          each_more : Each (run ∷ xs)
          each_more zero x i a g = let z : None ≡ Some a = ap (λ (o : Option SendRun). answer_in o) i ∙ g in absurd (cc)
            where
              answer_in : Option SendRun → Option LogAnswer
              answer_in None = None
              answer_in (Some w) = w.answer
          each_more (suc n) x i a g = old.each n x i a g

    pub begins : (o : Option Command) → upcoming su st ≡ o → SendsOf su begun (begun_send st (upcoming su st) xs) × Unaccepted su begun
    begins None u = plain_begun None u refl refl (λ q c lq lc. calm_sends (end_of st q c) (end_of st q c) refl)
    begins (Some (Send q c payload wait notify)) u = send_begins q c payload wait notify u
    begins (Some (Take q c wait)) u = other_begun (Take q c wait) u tt refl refl
    begins (Some (Release q c number)) u = other_begun (Release q c number) u tt refl refl
    begins (Some (Drain q c)) u = other_begun (Drain q c) u tt refl refl
    begins (Some (Register q c entries limit)) u = other_begun (Register q c entries limit) u tt refl refl
    begins (Some (Unregister q c)) u = other_begun (Unregister q c) u tt refl refl
    begins (Some (commands.Connected k d)) u = other_begun (commands.Connected k d) u tt refl refl
    begins (Some (commands.Closed k d)) u = other_begun (commands.Closed k d) u tt refl refl
    begins (Some (commands.Net frame)) u = other_begun (commands.Net frame) u tt refl refl
    begins (Some (commands.Frames count)) u = other_begun (commands.Frames count) u tt refl refl
    begins (Some (commands.Deactivate k)) u = other_begun (commands.Deactivate k) u tt refl refl
    begins (Some (commands.Activate k)) u = other_begun (commands.Activate k) u tt refl refl
    begins (Some commands.Leave) u = other_begun commands.Leave u tt refl refl
    begins (Some (commands.Idle turns)) u = other_begun (commands.Idle turns) u tt refl refl
    begins (Some commands.Offline) u = other_begun commands.Offline u tt refl refl
    begins (Some commands.Online) u = other_begun commands.Online u tt refl refl

  -- the command in progress is answered
  module _ (some : IsSome (due su st)) where
    is_doing : (b : Bool) (o : Option LogAnswer) → IsSome (cond b o None) → b ≡ true
    is_doing true o i = refl
    is_doing false o i = absurd (cc)

    doing : st.script.doing ≡ true
    doing = is_doing st.script.doing (due_to su st (current su st)) some

    abbrev answered : State
    answered = after_act su st Answered

    quiet : (is_send (current su st) ≡ false) → (q c : ℕ) → q < su.count → c < 4 → IsBusy (end_of st q c) → ⊥
    quiet nay q c lq lc b = let k = old.busy q c lq lc b in let z : is_send (current su st) ≡ true = ap is_send k.now in absurd (cc)

    plain_answered : (o : Option Command) → current su st ≡ o → is_send o ≡ false → answered_send o (due su st) xs ≡ xs → ((q c : ℕ) → q < su.count → c < 4 → Sends (end_of st q c) (end_of (with_aim (aim_of st end_answered o) st) q c)) → SendsOf su answered (answered_send (current su st) (due su st) xs)
    plain_answered o u nay same sends = subst (λ (ys : List SendRun). SendsOf su answered ys) (sym (ap (λ (o : Option Command). answered_send o (due su st) xs) u ∙ same)) (record {
      busy = λ q c lq lc b. absurd (quiet (ap is_send u ∙ nay) q c lq lc (busy_back (end_of st q c) (end_of answered q c) (wanted_same (λ e. Sends (end_of st q c) e) Answered q c (subst (λ (o : Option Command). Sends (end_of st q c) (end_of (with_aim (aim_of st end_answered o) st) q c)) (sym u) (sends q c lq lc))) b));
      head = λ d. absurd (cc);
      each = old.each;
    })

    other_answered : (x : Command) → current su st ≡ Some x → IsNoSend x → is_send (Some x) ≡ false → answered_send (Some x) (due su st) xs ≡ xs → SendsOf su answered (answered_send (current su st) (due su st) xs)
    other_answered x u is nay same = plain_answered (Some x) u nay same (λ q c lq lc. named_sends end_answered x (λ e w. (answer_kept q c e x is w).sends) (named_end x) (low_named x (st.script.begun - 1) u) q c)

    module _ (q c : ℕ) (payload : List ℕ) (wait notify : Bool) (u : current su st ≡ Some (Send q c payload wait notify)) where
      lows : (q < su.count) × (c < 4)
      lows = low_named (Send q c payload wait notify) (st.script.begun - 1) u

      head_now : Head su st q c xs
      head_now = old.head doing q c payload wait notify u

      due_is : due su st ≡ send_logged (end_of st q c).decided.send
      due_is = due_send su st q c payload wait notify doing u

      caused : (a : LogAnswer) → due su st ≡ Some a → Caused (record head_now.sent { answer = due su st }) a
      caused a g = by head_now.stage where
        told : (b : SendAnswer) → (end_of st q c).decided.send ≡ Some b → a ≡ SendAnswered b
        told b d = let z : Some a ≡ Some (SendAnswered b) = sym g ∙ due_is ∙ ap (λ (o : Option SendAnswer). send_logged o) d in cc

        by : Stage head_now.sent (end_of st q c) → Caused (record head_now.sent { answer = due su st }) a
        by (inl d) = why d.why where
          why : ((cause : SendAnswer) × ((end_of st q c).decided.send ≡ Some cause) × Firm head_now.sent cause) ⊎ ((number : ℕ) × ((end_of st q c).decided.send ≡ Some (SendOk number)) × (first_cause head_now.sent ≡ Some (SendOk number))) → Caused (record head_now.sent { answer = due su st }) a
          why (inl k) = (k.0, firm_cause head_now.sent k.0 k.2, told k.0 k.1)
          why (inr k) = (SendOk k.0, k.2, told (SendOk k.0) k.1)
        by (inr k) = let z : Some a ≡ None = sym g ∙ due_is ∙ ap (λ (o : Option SendAnswer). send_logged o) k.undecided in absurd (cc)

      none_left : (end_of st q c).sides.send.send ≡ None
      none_left = by head_now.stage where
        by : Stage head_now.sent (end_of st q c) → (end_of st q c).sides.send.send ≡ None
        by (inl d) = d.none
        by (inr k) = let z : due su st ≡ None = due_is ∙ ap (λ (o : Option SendAnswer). send_logged o) k.undecided in absurd (nothing (due su st) z some)
          where
            nothing : (o : Option LogAnswer) → o ≡ None → IsSome o → ⊥
            nothing None z i = absurd (cc)
            nothing (Some b) z i = absurd (cc)

      abbrev g : Effect End (List Note)
      g = end_answered (end_of st q c) (Send q c payload wait notify)

      abbrev aim : Aim
      aim = record { partner = q; channel = c; effect = g }

      aim_same : with_aim (aimed su st Answered) st ≡ with_aim (Some aim) st
      aim_same = ap (λ (o : Option Command). with_aim (aim_of st end_answered o) st) u

      busy_answered : (k d : ℕ) → k < su.count → d < 4 → IsBusy (end_of answered k d) → ⊥
      busy_answered k d lk ld b = by (cases_eq q k) (cases_eq c d) where
        here : q ≡ k → c ≡ d → ⊥
        here i j =
            let is : end_of answered q c ≡ g.local = wanted_same (λ x. x ≡ g.local) Answered q c (ap (λ (s : State). end_of s q c) aim_same ∙ set_here st.peers q c g.local h.all lows.0 lows.1) in
            gone (subst IsBusy is (subst (λ (x : ℕ). IsBusy (end_of answered x c)) (sym i) (subst (λ (x : ℕ). IsBusy (end_of answered k x)) (sym j) b)))
          where
            gone : IsBusy g.local → ⊥
            gone (inl t) = busy_not (end_of st q c) none_left t
            gone (inr t) = absurd (cc)

        far : (q ≡ k → c ≡ d → ⊥) → ⊥
        far n =
            let is : end_of answered k d ≡ end_of st k d = wanted_same (λ x. x ≡ end_of st k d) Answered k d (ap (λ (s : State). end_of s k d) aim_same ∙ set_other st aim k d h.all lows.0 lows.1 n) in
            let s = old.busy k d lk ld (subst IsBusy is b) in
            let same = both_now su st (Send q c payload wait notify) (Send k d s.payload s.wait s.notify) u s.now in
            let eq : q ≡ k = cc in
            let ec : c ≡ d = cc in
            n eq ec

        by : (q ≡ k) ⊎ (q ≡ k → ⊥) → (c ≡ d) ⊎ (c ≡ d → ⊥) → ⊥
        by (inl i) (inl j) = here i j
        by (inl i) (inr m) = far (λ a z. m z)
        by (inr m) z = far (λ a z. m a)

      each_cons : (y : SendRun) (ys : List SendRun) → ((a : LogAnswer) → y.answer ≡ Some a → Caused y a) → Each (head_now.sent ∷ ys) → Each (y ∷ ys)
      each_cons y ys new was zero x i a k = let d : y ≡ x = cc in subst (λ (z : SendRun). Caused z a) d (new a (ap (λ (z : SendRun). z.answer) d ∙ k))
      each_cons y ys new was (suc n) x i a k = was (suc n) x i a k

      send_answered : SendsOf su answered (answered_send (current su st) (due su st) xs)
      send_answered = record {
        busy = λ k d lk ld b. absurd (busy_answered k d lk ld b);
        head = λ d. absurd (cc);
        each = subst Each (sym ((λ i. answered_send (u i) (due su st) (head_now.sends_are i)))) (each_cons (record head_now.sent { answer = due su st }) head_now.earlier caused (subst Each head_now.sends_are old.each));
      }

    pub answers : (o : Option Command) → current su st ≡ o → SendsOf su answered (answered_send (current su st) (due su st) xs)
    answers None u = plain_answered None u refl refl (λ q c lq lc. calm_sends (end_of st q c) (end_of st q c) refl)
    answers (Some (Send q c payload wait notify)) u = send_answered q c payload wait notify u
    answers (Some (Take q c wait)) u = other_answered (Take q c wait) u tt refl refl
    answers (Some (Release q c number)) u = other_answered (Release q c number) u tt refl refl
    answers (Some (Drain q c)) u = other_answered (Drain q c) u tt refl refl
    answers (Some (Register q c entries limit)) u = other_answered (Register q c entries limit) u tt refl refl
    answers (Some (Unregister q c)) u = other_answered (Unregister q c) u tt refl refl
    answers (Some (commands.Connected k d)) u = other_answered (commands.Connected k d) u tt refl refl
    answers (Some (commands.Closed k d)) u = other_answered (commands.Closed k d) u tt refl refl
    answers (Some (commands.Net frame)) u = other_answered (commands.Net frame) u tt refl refl
    answers (Some (commands.Frames count)) u = other_answered (commands.Frames count) u tt refl refl
    answers (Some (commands.Deactivate k)) u = other_answered (commands.Deactivate k) u tt refl refl
    answers (Some (commands.Activate k)) u = other_answered (commands.Activate k) u tt refl refl
    answers (Some commands.Leave) u = other_answered commands.Leave u tt refl refl
    answers (Some (commands.Idle turns)) u = other_answered (commands.Idle turns) u tt refl refl
    answers (Some commands.Offline) u = other_answered commands.Offline u tt refl refl
    answers (Some commands.Online) u = other_answered commands.Online u tt refl refl

  -- a notice
  module _ (j d number : ℕ) (how : NoticeKind) (low : (j < su.count) × (d < 4)) where
    abbrev noticed : State
    noticed = after_act su st (Noticed j d number how)

    number_face : (how : NoticeKind) (e : End) → (e.sides.send.send ≡ (end_noticed how number e).local.sides.send.send) × (face_sent (end_noticed how number e).local ≡ face_sent e)
    number_face Delivered e = (refl, refl)
    number_face Ended e = (refl, refl)

    noticed_sent : (q c : ℕ) → face_sent (end_of noticed q c) ≡ face_sent (end_of st q c)
    noticed_sent q c =
        let y : Aim = record { partner = j; channel = d; effect = end_noticed how number (end_of st j d) } in
        aim_frame (λ e ns. face_sent e ≡ face_sent (end_of st q c)) st y q c h.all low.0 low.1 (λ i k. (number_face how (end_of st j d)).1 ∙ (λ x. face_sent (end_of st (i x) (k x)))) refl

    pub notices : SendsOf su noticed xs
    notices = record {
      busy = λ q c lq lc b. (let k = old.busy q c lq lc (busy_same (end_of st q c) (end_of noticed q c) (noticed_sent q c) b) in record { doing = k.doing; payload = k.payload; wait = k.wait; notify = k.notify; now = k.now });
      head = λ d q c payload wait notify e. (let o = old.head d q c payload wait notify e in record { sent = o.sent; earlier = o.earlier; sends_are = o.sends_are; partner = o.partner; channel = o.channel; unanswered = o.unanswered; stage = stage_same o.sent (end_of st q c) (end_of noticed q c) (noticed_sent q c) o.stage });
      each = old.each;
    }

    pub notices_calm : Unaccepted su st → Unaccepted su noticed
    notices_calm calm q c payload wait notify d e n k = calm q c payload wait notify d e n (sym (ap (λ (z : SentFace). z.decided) (noticed_sent q c)) ∙ k)
