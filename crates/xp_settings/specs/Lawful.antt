-- Which settings so far are lawful.
use Rattle.std.specs.Prelude.{ℕ, ◌≤◌, Option, Some, None, ⊤}
use Rattle.std.specs.List.{AllByRecursion}
use Rattle.xp_script.specs.declared.limits.TheConstants.{BUDGET_LIMIT}
use Rattle.xp_script.specs.Lawful.{IsLawfulCheck, AreLawfulMinors, AreLawfulWarms, IsLawfulFault, AreLawfulStops, AreLawfulRestarts, IsLawfulPoke}
use Rattle.xp_settings.specs.declared.settings.Settings.{Settings}

abbrev pub IsLawfulBudget : Option ℕ → Type 0
IsLawfulBudget None = ⊤
IsLawfulBudget (Some n) = (1 ≤ n) × (n ≤ BUDGET_LIMIT)

abbrev pub IsLawfulInterval : ℕ → Option ℕ → Type 0
IsLawfulInterval count None = ⊤
IsLawfulInterval count (Some n) = IsLawfulCheck count n

pub record AreLawful (count : ℕ) (s : Settings) : Type 0 where
  pub budget : IsLawfulBudget s.budget
  pub check : IsLawfulInterval count s.check
  pub minors : AreLawfulMinors count s.minors
  pub warms : AreLawfulWarms count s.minors s.warms
  pub faults : AllByRecursion (IsLawfulFault count) s.faults
  pub stops : AreLawfulStops count s.stops
  pub restarts : AreLawfulRestarts count s.restarts
  pub pokes : AllByRecursion (IsLawfulPoke count) s.pokes
