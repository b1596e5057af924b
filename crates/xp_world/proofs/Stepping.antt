-- From the steps that a memory keeps to the turns that made them.
use Rattle.std.proofs.Common.{◌≡◌, ℕ, List, [], ◌∷◌, ◌++◌, map, Option, Some, None, refl, ap, sym, ◌∙◌, append_assoc, append-nil}
use Rattle.xp_base.specs.Memory.{Memory}
use Rattle.xp_base.specs.History.{Act, Marked, Turn, Event, Poked, Turned, Legal, after_made}
use Rattle.xp_fabric.specs.Steps.{PartStep, part_step, LegalSteps}
use Rattle.xp_protocol.specs.Reached.{AreTurnsOf}
use Rattle.xp_node.specs.Node.{steps_made}

-- the step of a turn, where it makes one
abbrev pub step_by : ℕ → Option Marked → List PartStep
step_by p made = map (part_step p) (steps_made made)

-- the steps of all turns, in their order
abbrev pub steps_in : List Event → List PartStep
steps_in [] = []
steps_in (Poked owner index word ∷ h) = steps_in h
steps_in (Turned p t ∷ h) = step_by p t.made ++ steps_in h

pub steps_in-push : (h : List Event) (p : ℕ) (t : Turn) → steps_in (h ++ Turned p t ∷ []) ≡ steps_in h ++ step_by p t.made
steps_in-push [] p t = append-nil (step_by p t.made)
steps_in-push (Poked owner index word ∷ h) p t = steps_in-push h p t
steps_in-push (Turned q u ∷ h) p t =
    ap (λ (xs : List PartStep). step_by q u.made ++ xs) (steps_in-push h p t) ∙ sym (append_assoc (step_by q u.made) (steps_in h) (step_by p t.made))

legal_turn : (p : ℕ) (before after : List Act) (o : Option Marked) (h : List Event) (m m' : Memory)
    → ((x : Memory) → LegalSteps x (steps_in h) m' → Legal x h m')
    → LegalSteps m (step_by p o ++ steps_in h) m' → Legal m (Turned p (record { before = before; made = o; after = after }) ∷ h) m'
legal_turn p before after None h m m' more legal = (tt, more m legal)
legal_turn p before after (Some x) h m m' more legal = (legal.0, more (after_made m (Some x)) legal.1)

-- where the steps are legal, the turns are
pub legal_events : (n : ℕ) (h : List Event) (m m' : Memory) → AreTurnsOf n h → LegalSteps m (steps_in h) m' → Legal m h m'
legal_events n [] m m' parts legal = legal
legal_events n (Poked owner index word ∷ h) m m' parts legal = absurd parts
legal_events n (Turned p t ∷ h) m m' parts legal =
    legal_turn p t.before t.after t.made h m m' (λ x. legal_events n h x m' parts.1) legal
