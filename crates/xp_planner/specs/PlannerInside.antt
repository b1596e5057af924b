-- What a planner keeps of its visit.
use Rattle.std.specs.Prelude.{drop}
use Rattle.xp_rounds.specs.Visit.{Visit}
use Rattle.xp_plan.specs.declared.errand.Errand.{Errand}
use Rattle.xp_plan.specs.Plan.{errands_of}
use Rattle.xp_planner.specs.declared.planner.Planner.TheInside.{Inside}

abbrev pub view_of : Inside → Visit Errand
view_of x = record { ring = x.rounds; rest = drop x.at (errands_of x.agenda); used = x.used }
