-- What the calls of a node come to in one turn.
use Rattle.std.proofs.Common.{◌≡◌, ℕ, ◌+◌, ◌<◌, ◌≤◌, Bool, true, false, ◌||◌, List, [], ◌∷◌, ◌++◌, map, Option, Some, None, refl, ap, sym, ◌∙◌, subst, arith, inl, inr, append-nil}
use Rattle.std.specs.Prelude.{is_some, IsTrue, IfSome}
use Rattle.xp_base.specs.Memory.{Memory}
use Rattle.xp_base.specs.declared.step.CopyMark.{CopyMark}
use Rattle.xp_base.specs.declared.step.Step.{Step}
use Rattle.xp_base.specs.declared.step.Answer.{Answer}
use Rattle.xp_base.specs.declared.step.OpKind.{OpKind}
use Rattle.xp_base.specs.declared.step.OpKind.TheVariants.{Load}
use Rattle.xp_base.specs.declared.step.Wanted.{Wanted}
use Rattle.xp_base.specs.History.{Marked}
use Rattle.xp_fabric.specs.Steps.{PartStep, part_step, step_of, LegalSteps}
use Rattle.xp_script.specs.declared.part.ScenarioPart.{ScenarioPart}
use Rattle.xp_protocol.specs.Parts.{fails_at}
use Rattle.xp_protocol.specs.State.{State, Life, Booting, Up, Halted}
use Rattle.xp_protocol.specs.Runs.{is_halted, is_done, has_ended}
use Rattle.xp_node.specs.Node.{NodeView, IsEnded, MakesTurn, IsStep, steps_made, answered_by, done_by, ended_up, ended_by, ended_of}
use Rattle.xp_world.specs.Turning.{TurnsOver, TurnsPlain, TurnsOnce, TakesTurn, TakesPlain}

-- a node tells how it has ended exactly where no turn comes any more
done_some : (done : Bool) → is_some (done_by done) ≡ done
done_some true = refl
done_some false = refl

up_some : (done : Bool) (read : Option ℕ) (life : Life) → is_some (ended_up done read life) ≡ (is_halted life || done)
up_some done read Halted = refl
up_some done read Booting = done_some done
up_some done read Up = done_some done

by_some : (stopped done : Bool) (st : State) → is_some (ended_by stopped done st) ≡ ((stopped || is_halted st.life) || done)
by_some true done st = refl
by_some false done st = up_some done st.boot.read st.life

ended_some : (n : NodeView) → is_some (ended_of n) ≡ has_ended n.part n.state
ended_some n = by_some n.state.stopped (is_done n.part n.state) n.state

pub is_over : (n : NodeView) → is_some (ended_of n) ≡ true → IsEnded n
is_over n e = subst IsTrue (sym (sym (ended_some n) ∙ e)) (cc)

pub goes_on : (n : NodeView) → is_some (ended_of n) ≡ false → IsEnded n → ⊥
goes_on n e h =
    let f : has_ended n.part n.state ≡ false = sym (ended_some n) ∙ e in
    absurd (cc)

-- a turn reads neither the step that waits nor the room
unfoldable pub same_turn : (old new : NodeView) (w : Option Wanted) (room : ℕ) (made : Option Marked) → old.room ≤ room → MakesTurn (record old { waiting = w; room = room }) new made → MakesTurn old new made
same_turn old new w room made low h = record {
  turn = h.turn;
  step = h.step;
  may = h.may;
  prompt = h.prompt;
  none = h.none;
  once = h.once;
  first = h.first;
  follows = h.follows;
  state = h.state;
  visit = h.visit;
  entries = h.entries;
  records = h.records;
  steps = h.steps;
  part = h.part;
  waiting = h.waiting;
  room = omega (arith, h.room, low);
}

-- a step that is to fail has a mark, so it is a load
load_by : (s : ScenarioPart) (kind : OpKind) (mark : Option CopyMark) → fails_at s mark ≡ true → IfSome mark (λ m. kind ≡ Load) → kind ≡ Load
load_by s kind None e h = absurd (cc)
load_by s kind (Some m) e h = h

pub fails_load : (s : ScenarioPart) (w : Wanted) → IsStep s w → fails_at s w.mark ≡ true → w.op.kind ≡ Load
fails_load s w step e = load_by s w.op.kind w.mark e step.load

pub made_step : (before after : List Step) (old mid new : NodeView) (w : Wanted) (a : Answer) → mid ≡ record old { waiting = Some w } → MakesTurn mid new (Some (answered_by w a)) → after ≡ before ++ step_of w.op a ∷ [] → TurnsOver old before new after
made_step before after old mid new w a e h steps =
    let at = subst (λ (x : NodeView). MakesTurn x new (Some (answered_by w a))) e h in
    let low : old.room ≤ old.room = omega arith in
    record { made = Some (answered_by w a); turns = same_turn old new (Some w) old.room (Some (answered_by w a)) low at; steps = steps }

pub made_none : (before : List Step) (old new : NodeView) → MakesTurn old new None → TurnsOver old before new before
made_none before old new h = record { made = None; turns = h; steps = sym (append-nil before) }

-- more room changes nothing of a turn
pub took : (p : ℕ) (before after : List PartStep) (old mid new : NodeView) → mid ≡ record old { room = mid.room } → old.room ≤ mid.room → TurnsPlain p mid before new after → TurnsPlain p old before new after
took p before after old mid new e low h =
    let at = subst (λ (x : NodeView). TurnsPlain p x before new after) e h in
    record { made = at.made; turns = same_turn old new old.waiting mid.room at.made low at.turns; steps = at.steps }

pub took_turn : (p : ℕ) (before after : List PartStep) (old mid new : NodeView) → is_some (ended_of old) ≡ false → mid ≡ record old { room = mid.room } → old.room ≤ mid.room → TurnsPlain p mid before new after → TakesPlain p old before new after
took_turn p before after old mid new none e low h = inr (goes_on old none, took p before after old mid new e low h)

pub stayed : (p : ℕ) (steps : List PartStep) (n : NodeView) → is_some (ended_of n) ≡ true → TakesPlain p n steps n steps
stayed p steps n e = inl (is_over n e, refl, refl)

pub running_on : (old mid : NodeView) → mid ≡ record old { room = mid.room } → is_some (ended_of old) ≡ false → IsEnded mid → ⊥
running_on old mid e none h = goes_on old none (subst IsEnded e h)

-- the turn of a node over a memory that was opened for it, and is closed after it
closed_by : (p : ℕ) (m m' : Memory) (n n' : NodeView) (made : Option Marked) → (IsEnded n → ⊥) → MakesTurn n n' made → LegalSteps m (map (part_step p) (steps_made made)) m' → TurnsOnce m n m' n'
closed_by p m m' n n' None running h legal = record { running = running; made = None; turns = h; answered = tt; words = legal }
closed_by p m m' n n' (Some x) running h legal = record { running = running; made = Some x; turns = h; answered = legal.0; words = legal.1 }

pub closed : (p : ℕ) (m m' : Memory) (n n' : NodeView) (before after : List PartStep) → before ≡ [] → TakesPlain p n before n' after → LegalSteps m after m' → TakesTurn m n m' n'
closed p m m' n n' before after none (inl h) legal =
    inl (record { ended = h.0; words = subst (λ (xs : List PartStep). LegalSteps m xs m') (h.1 ∙ none) legal; node = h.2 })
closed p m m' n n' before after none (inr h) legal =
    let steps : after ≡ map (part_step p) (steps_made h.1.made) =
    h.1.steps ∙ ap (λ (xs : List PartStep). xs ++ map (part_step p) (steps_made h.1.made)) none in
    inr (closed_by p m m' n n' h.1.made h.0 h.1.turns (subst (λ (xs : List PartStep). LegalSteps m xs m') steps legal))

pub ruleset answering = (fails_load)

pub ruleset turned = (made_step, made_none)

pub ruleset taken = (took_turn, stayed, running_on)
