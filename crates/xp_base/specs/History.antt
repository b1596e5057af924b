-- Histories: the turns of all partitions and what is poked from outside, in their order, and
-- which of them are legal.
use Rattle.std.specs.Prelude.{◌≡◌, ℕ, List, [], ◌∷◌, Option, Some, None, if◌then◌else◌, ◌==◌}
use Rattle.xp_base.specs.declared.step.Op.{Op}
use Rattle.xp_base.specs.declared.step.OpKind.TheVariants.{Load}
use Rattle.xp_base.specs.declared.step.Answer.{Answer}
use Rattle.xp_base.specs.declared.step.Answer.TheVariants.{Word, Failed}
use Rattle.xp_base.specs.declared.step.Step.{Step}
use Rattle.xp_base.specs.declared.step.CopyMark.{CopyMark}
use Rattle.xp_base.specs.Memory.{Memory, word_at, put_at, answer_of, memory_after}

-- what a notice says of a message: that the partner has acknowledged it, or that its
-- connection ended before
pub data NoticeKind : Type 0 where
  Delivered : NoticeKind
  Ended : NoticeKind

-- what a partition does beside its step: the next command of its script is begun, the one in
-- progress is answered, or the end for a partner and a channel gives the notice that is due: of
-- which message, and what it says
pub data Act : Type 0 where
  Begun : Act
  Answered : Act
  Noticed : (partner : ℕ) → (channel : ℕ) → (number : ℕ) → (kind : NoticeKind) → Act

-- a step, and the copy that it belongs to
pub record Marked : Type 0 where
  pub step : Step
  pub mark : Option CopyMark

-- a turn: acts, at most one step, acts
pub record Turn : Type 0 where
  pub before : List Act
  pub made : Option Marked
  pub after : List Act

-- a word is put from outside, or a partition takes a turn
pub data Event : Type 0 where
  Poked : (owner : ℕ) → (index : ℕ) → (word : ℕ) → Event
  Turned : (part : ℕ) → (turn : Turn) → Event

-- the memory gives this answer to the op; a load may fail instead
abbrev pub IsAnswer : Memory → Op → Answer → Type 0
IsAnswer m op (Word w) = w ≡ answer_of op.kind (word_at m op.owner op.index)
IsAnswer m op Failed = op.kind ≡ Load

-- the memory after an op that was answered so: a failed load changes nothing
abbrev pub after_answer : Memory → Op → Answer → Memory
after_answer m op (Word w) = memory_after m op
after_answer m op Failed = m

abbrev pub IsAnswered : Memory → Option Marked → Type 0
IsAnswered m None = Unit {0}
IsAnswered m (Some x) = IsAnswer m x.step.op x.step.answer

abbrev pub after_made : Memory → Option Marked → Memory
after_made m None = m
after_made m (Some x) = after_answer m x.step.op x.step.answer

abbrev pub CanHappen : Memory → Event → Type 0
CanHappen m (Poked owner index word) = Unit {0}
CanHappen m (Turned part turn) = IsAnswered m turn.made

abbrev pub happens : Memory → Event → Memory
happens m (Poked owner index word) = put_at m owner index word
happens m (Turned part turn) = after_made m turn.made

-- from old, this history leads to new
abbrev pub Legal : Memory → List Event → Memory → Type 0
Legal old [] new = new ≡ old
Legal old (e ∷ es) new = CanHappen old e × Legal (happens old e) es new

-- the turns of one partition, in their order
abbrev pub turns_of : ℕ → List Event → List Turn
turns_of p [] = []
turns_of p (Poked owner index word ∷ es) = turns_of p es
turns_of p (Turned q turn ∷ es) = if q == p then turn ∷ turns_of p es else turns_of p es
