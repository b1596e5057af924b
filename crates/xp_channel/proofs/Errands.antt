-- The argument that is loaded, and the control flag that is sent, are those of the plan.
use Rattle.std.proofs.Common.{◌≡◌, ℕ, Bool, true, false, refl, ap, ◌∙◌, sym, Option, Some, None}
use Rattle.std.specs.Prelude.{if◌then◌else◌, ◌&&◌, not, is_some}
use Rattle.xp_base.specs.declared.link.Kind.{Kind}
use Rattle.xp_base.specs.declared.link.Kind.TheVariants.{CloseRequest, CloseReply, OpenRequest, OpenReply, OpenComplete, MsgRequest}
use Rattle.xp_protocol.specs.declared.rule.Argument.{Argument}
use Rattle.xp_protocol.specs.declared.rule.Argument.TheVariants.{Request, Reply, Code}
use Rattle.xp_protocol.specs.declared.rule.LinkRule.{LinkRule}
use Rattle.xp_protocol.specs.declared.rule.LinkRule.TheVariants.{SetFlag, ZeroGet, ZeroPut, StoreArgument, ReadArgument}
use Rattle.xp_protocol.specs.State.{End}
use Rattle.xp_protocol.specs.Linking.{owed, request_of}
use Rattle.xp_plan.specs.EndSteps.{step_if, or_else, argument_step, argument_at, argument_awaited, control_owed, control_step, control_by, control_at, control_signal, is_word}
use Rattle.xp_channel.specs.Planned.{read_plan, flag_plan, flag_step, opening_step, is_stored, control_plan, read_first}

-- an argument
read_by : (sent a b c : Bool) → (if sent then None else argument_step (if a then Some Request else (if b then Some Reply else step_if c Code))) ≡ argument_step (if sent then None else (if a then Some Request else (if b then Some Reply else (if c then Some Code else None))))
read_by true a b c = refl
read_by false true b c = refl
read_by false false true c = refl
read_by false false false true = refl
read_by false false false false = refl

read_planned : (e : End) → argument_at e ≡ argument_step (read_plan e)
read_planned e = read_by e.shake.sent.close_reply (e.shake.taken.open_request && not (is_some e.shake.request)) (e.shake.taken.open_reply && not (is_some e.shake.reply)) (e.shake.taken.close_request && not (is_some e.shake.code))

-- a flag
flag_by : (a b c d f : Bool) → (if a then Some CloseRequest else (if b then Some CloseReply else (if c then Some OpenRequest else (if d then Some OpenReply else step_if f OpenComplete)))) ≡ (if a then Some CloseRequest else (if b then Some CloseReply else (if c then Some OpenRequest else (if d then Some OpenReply else (if f then Some OpenComplete else None)))))
flag_by true b c d f = refl
flag_by false true c d f = refl
flag_by false false true d f = refl
flag_by false false false true f = refl
flag_by false false false false true = refl
flag_by false false false false false = refl

flag_planned : (e : End) → control_owed e ≡ flag_plan e
flag_planned e = flag_by (owed CloseRequest e) (owed CloseReply e) (owed OpenRequest e) (owed OpenReply e) (owed OpenComplete e)

-- what is stored before it
word_by : (o : Option ℕ) (w : ℕ) → is_word w o ≡ is_stored o w
word_by None w = refl
word_by (Some v) w = refl

opening_by : (a b c d : Bool) → c ≡ d → (if not a then ZeroGet else (if not b then ZeroPut else (if c then SetFlag OpenRequest else StoreArgument Request))) ≡ (if a then (if b then (if d then SetFlag OpenRequest else StoreArgument Request) else ZeroPut) else ZeroGet)
opening_by false b c d h = refl
opening_by true false c d h = refl
opening_by true true c d h = ap (λ (x : Bool). if x then SetFlag OpenRequest else StoreArgument Request) h

step_planned : (k : Kind) (e : End) → control_step k e ≡ flag_step k e
step_planned OpenRequest e = opening_by e.shake.get_zero e.shake.put_zero (is_word (request_of e.registration) e.shake.request_put) (is_stored e.shake.request_put (request_of e.registration)) (word_by e.shake.request_put (request_of e.registration))
step_planned OpenReply e = refl
step_planned CloseRequest e = refl
step_planned CloseReply e = refl
step_planned OpenComplete e = refl
step_planned MsgRequest e = refl

control_made : (o : Option Kind) (e : End) → control_by o e ≡ control_plan o e
control_made None e = refl
control_made (Some k) e = ap (λ (r : LinkRule). Some r) (step_planned k e)

first_by : (o : Option Argument) (e : End) → or_else (argument_step o) (control_plan (flag_plan e) e) ≡ read_first o e
first_by None e = refl
first_by (Some x) e = refl

pub control_planned : (e : End) → control_signal e ≡ read_first (read_plan e) e
control_planned e =
    ap (λ (o : Option LinkRule). or_else o (control_at e)) (read_planned e)
    ∙ ap (λ (o : Option LinkRule). or_else (argument_step (read_plan e)) o) (ap (λ (o : Option Kind). control_by o e) (flag_planned e) ∙ control_made (flag_plan e) e)
    ∙ first_by (read_plan e) e
