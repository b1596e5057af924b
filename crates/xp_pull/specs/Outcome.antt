-- What a call of the receiving side tells its caller: the partner's get that a copy of the counters
-- loaded, why the take is refused, or the reason to deactivate the partner.
use Rattle.std.specs.Prelude.{ℕ, List, [], ◌∷◌, Option, Some, None, Result, Ok, Err}
use Rattle.xp_base.specs.declared.reason.Reason.{Reason}
use Rattle.xp_protocol.specs.declared.refusal.TakeRefusal.{TakeRefusal}
use Rattle.xp_protocol.specs.Effects.{Effect, PullNote, Heard, TakeRefused}
use Rattle.xp_protocol.specs.Pulling.{Pulling}

-- the get among what a side notes, and the notes of a get alone
abbrev pub heard_in : List PullNote → Option ℕ
heard_in [] = None
heard_in (Heard get ∷ more) = Some get
heard_in (TakeRefused refusal ∷ more) = heard_in more

abbrev pub heard_notes : Option ℕ → List PullNote
heard_notes None = []
heard_notes (Some get) = Heard get ∷ []

abbrev pub refusal_notes : Option TakeRefusal → List PullNote
refusal_notes None = []
refusal_notes (Some refusal) = TakeRefused refusal ∷ []

abbrev pub reason_or : Option Reason → Option ℕ → Result (Option ℕ) Reason
reason_or None heard = Ok heard
reason_or (Some reason) heard = Err reason

abbrev pub outcome : Effect Pulling (List PullNote) → Result (Option ℕ) Reason
outcome f = reason_or f.reason (heard_in f.notes)

abbrev pub heard_of : Result (Option ℕ) Reason → Option ℕ
heard_of (Ok heard) = heard
heard_of (Err reason) = None
