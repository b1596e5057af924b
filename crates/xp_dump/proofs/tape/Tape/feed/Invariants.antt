use Rattle.std.proofs.Common.{◌≡◌, ◌<◌, ◌≤◌, ◌-◌, ◌++◌, ℕ, List, length, take}
use Rattle.xp_dump.specs.Tapes.{IsTape, IsRead}
use Rattle.xp_dump.proofs.tape.Tape.feed.Given as goal

abbrev pub invariant-loop-at : goal.invariant-loop-at
invariant-loop-at l =
    record {
      tape : IsTape l.self;
      low : l.at ≤ length l.piece;
      read : (bytes : List ℕ) → IsRead bytes l.initial.self
          → IsRead (bytes ++ take l.at l.piece) l.self;
    }

abbrev pub decreases-loop-at : goal.decreases-loop-at
decreases-loop-at l = length l.piece - l.at
