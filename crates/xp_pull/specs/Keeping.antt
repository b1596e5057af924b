-- What a receiving side keeps true of its numbers, and when it has no step left.
use Rattle.xp_base.specs.declared.layout.TheConstants.{LINES}
use Rattle.std.specs.Prelude.{◌≡◌, ◌+◌, ◌<◌, ◌≤◌, false, [], length, None, ◌*◌, ◌%◌}
use Rattle.xp_protocol.specs.Parts.{IsRequestSize}
use Rattle.xp_protocol.specs.Pulling.{Pulling, words_each}

-- a copy that goes on lacks words of its run, which ends with what was put, and with the queue
pub record IsGoing (x : Pulling) : Type 0 where
  pub copied : length x.copied < words_each x * x.run
  pub put : x.pulled + x.run ≤ x.pulled_put
  pub round : x.pulled % x.entries + x.run ≤ x.entries

-- the cache has the bodies from the next one that is taken to the last one that was pulled; no more
-- are pulled than were put, nor put than the largest queue has
pub record IsKept (x : Pulling) : Type 0 where
  pub size : IsRequestSize x.entries x.limit
  pub cached : length x.cache + x.taken ≡ x.pulled
  pub put : x.pulled ≤ x.pulled_put
  pub room : x.pulled_put ≤ x.taken + LINES
  pub going : 0 < length x.copied → IsGoing x

-- no step is left to be made: no copy goes on or is owed, each entry that was put is pulled, and no
-- take is in progress
pub record NothingLeft (x : Pulling) : Type 0 where
  pub counters : x.counters ≡ None
  pub copied : x.copied ≡ []
  pub owed : x.owed ≡ false
  pub put : x.pulled_put ≤ x.pulled
  pub take : x.take ≡ None
