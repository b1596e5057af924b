-- What the sources and sinks in memory stand for. Their calls are counted from 1, and some of them
-- fail.
use Rattle.std.specs.Prelude.{ℕ, ◌+◌, ◌-◌, ◌^◌, min, List}

-- a source in memory
pub record SourceState : Type 0 where
  -- the bytes that are left
  pub left : List ℕ
  -- how many bytes a call gives at most
  pub largest : ℕ
  -- the numbers of the calls that fail
  pub failing : List ℕ
  -- how many calls were made
  pub calls : ℕ
  -- how many calls failed
  pub faults : ℕ

-- a sink in memory
pub record SinkState : Type 0 where
  -- the bytes that the sink holds
  pub held : List ℕ
  -- how many bytes a call takes at most
  pub largest : ℕ
  -- the numbers of the calls that fail
  pub failing : List ℕ
  -- how many calls were made, but for those that found no memory
  pub calls : ℕ
  -- how many calls failed
  pub faults : ℕ

-- the number of the call after so many; it stands still at its type's end
abbrev pub next_call : ℕ → ℕ
next_call calls = min (calls + 1) (2 ^ 64 - 1)
