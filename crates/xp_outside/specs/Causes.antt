-- When a read or a write may answer a fault. Each object counts its own faults, and a fault is
-- answered only in a call in which that count rose, so that no code can make one up.
use Rattle.std.specs.Prelude.{◌≡◌, ℕ, ◌+◌, ◌-◌, ◌^◌, ◌<◌, ◌≤◌, min, Result, OnErr, OnOk, IfOk, IsErrOf, List, length}
use Rattle.xp_outside.specs.declared.sink.SinkFault.{SinkFault}
use Rattle.xp_outside.specs.declared.sink.SinkFault.TheVariants.{Failed, Memory}

-- a count of faults rose; it stands still at its type's end
abbrev pub Rose : ℕ → ℕ → Type 0
Rose before now = min (before + 1) (2 ^ 64 - 1) ≤ now

-- the cause of a read's fault: a fault is answered only where the count rose, and without a fault
-- the count stays
pub record HasCause {T E : Type 0} (before now : ℕ) (result : Result T E) : Type 0 where
  -- the count never falls
  pub later : before ≤ now
  pub failed : OnErr result (Rose before now)
  pub kept : OnOk result (now ≡ before)

-- the cause of a write's fault: to take none of a piece that isn't empty is a fault too, and every
-- other answer leaves the count
pub record WriteCause (before now : ℕ) (result : Result ℕ SinkFault) (piece : List ℕ) : Type 0 where
  -- the count never falls
  pub later : before ≤ now
  pub failed : IsErrOf result Failed → Rose before now
  pub memory : IsErrOf result Memory → now ≡ before
  pub none : IfOk result (λ n. n ≡ 0 → 0 < length piece → Rose before now)
  pub some : IfOk result (λ n. 0 < n → now ≡ before)
  pub empty : OnOk result (length piece ≡ 0 → now ≡ before)
