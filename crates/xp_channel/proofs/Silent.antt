-- Notes that no record keeps, and notes one after the other.
use Rattle.std.proofs.Common.{◌≡◌, ℕ, List, [], ◌∷◌, ◌++◌, Bool, true, false, Option, Some, None, map, refl, ap, ◌∙◌}
use Rattle.xp_base.specs.declared.answer.SendAnswer.{SendAnswer}
use Rattle.xp_protocol.specs.declared.refusal.TakeRefusal.{TakeRefusal}
use Rattle.xp_base.specs.declared.answer.ReleaseAnswer.{ReleaseAnswer}
use Rattle.xp_base.specs.declared.answer.DrainAnswer.{DrainAnswer}
use Rattle.xp_base.specs.declared.answer.RegisterAnswer.{RegisterAnswer}
use Rattle.xp_base.specs.declared.answer.UnregisterAnswer.{UnregisterAnswer}
use Rattle.xp_protocol.specs.Effects.{Note, BySend, ByPull, Sent, Heard, TakeRefused, Released, Drained, Registered, Withdrawn, in_newest, with_note, with_notes}
use Rattle.xp_protocol.specs.Records.{Recorded}
use Rattle.xp_protocol.specs.State.{End}
use Rattle.xp_base.specs.declared.answer.SendAnswer.TheVariants.{Disconnecting}
use Rattle.xp_protocol.specs.declared.refusal.TakeRefusal.TheVariants.{Disconnecting as RefusedFor}
use Rattle.xp_base.specs.declared.answer.ReleaseAnswer.TheVariants.{NotConnected as ReleaseNotConnected}
use Rattle.xp_base.specs.declared.answer.DrainAnswer.TheVariants.{Disconnecting as DrainDisconnecting}
use Rattle.xp_base.specs.declared.reason.Reason.{Reason}
use Rattle.xp_protocol.specs.Sending.{Send, closed_send}
use Rattle.xp_protocol.specs.Pulling.{closed_take}
use Rattle.xp_protocol.specs.Linking.{hears, hear, closed_release, closed_drain, down_notes}

pub sent_silent : (a : SendAnswer) (rs : List Recorded) → in_newest (BySend (Sent a)) rs ≡ rs
sent_silent a [] = refl
sent_silent a (r ∷ rs) = refl

pub heard_silent : (get : ℕ) (rs : List Recorded) → in_newest (ByPull (Heard get)) rs ≡ rs
heard_silent get [] = refl
heard_silent get (r ∷ rs) = refl

pub took_silent : (a : TakeRefusal) (rs : List Recorded) → in_newest (ByPull (TakeRefused a)) rs ≡ rs
took_silent a [] = refl
took_silent a (r ∷ rs) = refl

pub released_silent : (a : ReleaseAnswer) (rs : List Recorded) → in_newest (Released a) rs ≡ rs
released_silent a [] = refl
released_silent a (r ∷ rs) = refl

pub drained_silent : (a : DrainAnswer) (rs : List Recorded) → in_newest (Drained a) rs ≡ rs
drained_silent a [] = refl
drained_silent a (r ∷ rs) = refl

pub registered_silent : (a : RegisterAnswer) (rs : List Recorded) → in_newest (Registered a) rs ≡ rs
registered_silent a [] = refl
registered_silent a (r ∷ rs) = refl

pub withdrawn_silent : (a : UnregisterAnswer) (rs : List Recorded) → in_newest (Withdrawn a) rs ≡ rs
withdrawn_silent a [] = refl
withdrawn_silent a (r ∷ rs) = refl

-- one list of notes after the other
pub with_notes_append : (q c : ℕ) (ns ms : List Note) (rs : List Recorded) → with_notes q c (ns ++ ms) rs ≡ with_notes q c ms (with_notes q c ns rs)
with_notes_append q c [] ms rs = refl
with_notes_append q c (n ∷ ns) ms rs = with_notes_append q c ns ms (with_note q c n rs)

pub hears_append : (ns ms : List Note) (e : End) → hears (ns ++ ms) e ≡ hears ms (hears ns e)
hears_append [] ms e = refl
hears_append (n ∷ ns) ms e = hears_append ns ms (hear n e)

-- what a connection that goes down notes is kept by no record
silent_send : (q c : ℕ) (reason : Reason) (s : Option Send) (ns : List Note) (rs : List Recorded) → with_notes q c (map BySend (closed_send reason s) ++ ns) rs ≡ with_notes q c ns rs
silent_send q c reason None ns rs = refl
silent_send q c reason (Some s) ns rs = ap (λ (xs : List Recorded). with_notes q c ns xs) (sent_silent (Disconnecting reason) rs)

silent_take : (q c : ℕ) (reason : Reason) (s : Option Bool) (ns : List Note) (rs : List Recorded) → with_notes q c (map ByPull (closed_take reason s) ++ ns) rs ≡ with_notes q c ns rs
silent_take q c reason None ns rs = refl
silent_take q c reason (Some s) ns rs = ap (λ (xs : List Recorded). with_notes q c ns xs) (took_silent (RefusedFor reason) rs)

silent_release : (q c : ℕ) (b : Bool) (ns : List Note) (rs : List Recorded) → with_notes q c (closed_release b ++ ns) rs ≡ with_notes q c ns rs
silent_release q c false ns rs = refl
silent_release q c true ns rs = ap (λ (xs : List Recorded). with_notes q c ns xs) (released_silent ReleaseNotConnected rs)

silent_drain : (q c : ℕ) (reason : Reason) (b : Bool) (rs : List Recorded) → with_notes q c (closed_drain reason b) rs ≡ rs
silent_drain q c reason false rs = refl
silent_drain q c reason true rs = drained_silent (DrainDisconnecting reason) rs

pub closed_notes : (q c : ℕ) (reason : Reason) (e : End) (rs : List Recorded) → with_notes q c (down_notes reason e) rs ≡ rs
closed_notes q c reason e rs =
    let a = closed_drain reason e.sides.draining in
    let b = closed_release e.sides.releasing ++ a in
    silent_send q c reason e.sides.send.send (map ByPull (closed_take reason e.sides.pull.take) ++ b) rs ∙ silent_take q c reason e.sides.pull.take b rs ∙ silent_release q c e.sides.releasing a rs ∙ silent_drain q c reason e.sides.draining rs

-- what a call notes, by what it answers
pub ruleset close_steps = (closed_notes, released_silent, drained_silent)

pub ruleset unregister_steps = (withdrawn_silent, with_notes_append)
