-- What becomes of a visit within a turn.
use Rattle.std.specs.Prelude.{◌+◌, true, Option}
use Rattle.xp_rounds.specs.Ring.{Ring, after_turn}
use Rattle.xp_rounds.specs.Visit.{Plan, Visit, Found}
use Rattle.xp_protocol.specs.declared.rule.Rule.{Rule}
use Rattle.xp_protocol.specs.State.{State}
use Rattle.xp_plan.specs.declared.errand.Errand.{Errand}
use Rattle.xp_plan.specs.Plan.{asked}

-- the first errand that is left asks for the rule, where there is one
abbrev pub found_in : Visit Errand → Option Rule → Found Errand Rule
found_in v rule = record { rest = v.rest; used = v.used; turn = asked rule }

-- a place was come to just now, and its errands are given
abbrev pub entered : Plan State Errand Rule → Ring → State → Visit Errand
entered p r st = record { ring = r; rest = p.errands r.at st; used = 0 }

-- the first errand that is left had a turn
abbrev pub spent : Visit Errand → Visit Errand
spent v = record v { ring = after_turn true v.ring; used = v.used + 1 }
