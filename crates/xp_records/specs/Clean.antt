-- Nothing that was read is refused: none of the reasons that say so stands anywhere, neither at a
-- partner or an end, nor in a record or an answer; and no partition halts.
use Rattle.std.specs.Prelude.{◌≡◌, ℕ, ◌<◌, List, Option, Some, None}
use Rattle.std.specs.List.{Contains}
use Rattle.xp_base.specs.declared.answer.DrainAnswer.TheVariants.{Disconnecting as DrainDisconnecting}
use Rattle.xp_base.specs.declared.answer.SendAnswer.TheVariants.{Disconnecting}
use Rattle.xp_base.specs.declared.answer.TakeAnswer.TheVariants.{Disconnecting as TakeDisconnecting}
use Rattle.xp_base.specs.declared.reason.Reason.{Reason}
use Rattle.xp_base.specs.declared.reason.Reason.TheVariants.{BadVersion, BadMagic, BadArgs, BadCounters, BadLength, BadNumber, BadFlags}
use Rattle.xp_base.specs.History.{Event}
use Rattle.xp_script.specs.declared.log.Entry.{Entry}
use Rattle.xp_script.specs.declared.log.LogAnswer.{LogAnswer}
use Rattle.xp_script.specs.declared.log.LogAnswer.TheVariants.{Closed, Send, Take, Drain}
use Rattle.xp_script.specs.declared.scenario.Scenario.{Scenario}
use Rattle.xp_protocol.specs.declared.contact.Look.{Look}
use Rattle.xp_protocol.specs.declared.contact.Look.TheVariants.{BadVersion as BadLook}
use Rattle.xp_protocol.specs.Promised.{IsLine, IsRecord}
use Rattle.xp_protocol.specs.Reached.{state_at}
use Rattle.xp_protocol.specs.Records.{Recorded}
use Rattle.xp_protocol.specs.State.{Halted, end_of, peer_of}
use Rattle.xp_records.specs.Answers.{entries_of}

-- a reason that refuses no word that was read
abbrev pub IsClean : Reason → Type 0
IsClean (BadVersion word) = ⊥
IsClean (BadMagic word) = ⊥
IsClean (BadArgs word) = ⊥
IsClean (BadCounters get put) = ⊥
IsClean (BadLength word) = ⊥
IsClean (BadNumber wanted word) = ⊥
IsClean (BadFlags word) = ⊥
IsClean reason = Unit {0}

abbrev pub IsCleanIfAny : Option Reason → Type 0
IsCleanIfAny None = Unit {0}
IsCleanIfAny (Some reason) = IsClean reason

-- a look at a partner whose version isn't refused
abbrev pub IsAccepted : Look → Type 0
IsAccepted (BadLook word) = ⊥
IsAccepted look = Unit {0}

-- an answer tells no other reason
abbrev pub IsCleanAnswer : LogAnswer → Type 0
IsCleanAnswer (Closed reason) = IsClean reason
IsCleanAnswer (Send (Disconnecting reason)) = IsClean reason
IsCleanAnswer (Take (TakeDisconnecting reason)) = IsClean reason
IsCleanAnswer (Drain (DrainDisconnecting reason)) = IsClean reason
IsCleanAnswer answer = Unit {0}

-- a partition halts where the stamp of its last boot can't be raised
abbrev pub NoneHalts : Scenario → List Event → Type 0
NoneHalts s h = (p : ℕ) → p < s.count → (state_at s h p).life ≡ Halted → ⊥

pub record Clean (s : Scenario) (h : List Event) : Type 0 where
  pub looks : (p q : ℕ) → p < s.count → q < s.count → IsAccepted (peer_of (state_at s h p) q).look
  pub partners : (p q c : ℕ) → IsLine s p q c →
      IsCleanIfAny (peer_of (state_at s h p) q).engage.reason
  pub ends : (p q c : ℕ) → IsLine s p q c →
      IsCleanIfAny (end_of (state_at s h p) q c).shake.reason
  pub records : (p q c : ℕ) → IsLine s p q c → (r : Recorded) → IsRecord s h p q c r →
      IsCleanIfAny r.over
  pub answers : (p : ℕ) → p < s.count → (x : Entry) → Contains (entries_of s h p) x →
      (answer : LogAnswer) → x.answer ≡ Some answer → IsCleanAnswer answer
  pub none_halts : NoneHalts s h
