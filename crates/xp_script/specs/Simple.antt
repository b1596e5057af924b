-- A scenario that is made in code of its channels and its scripts alone.
use Rattle.std.specs.Prelude.{ℕ, List, [], ◌∷◌, length, Some}
use Rattle.xp_script.specs.declared.command.Command.{Command}
use Rattle.xp_script.specs.declared.schedule.Plan.TheVariants.{Rounds}
use Rattle.xp_script.specs.declared.setting.Warm.{Warm}
use Rattle.xp_script.specs.declared.scenario.Scenario.{Scenario}
use Rattle.xp_script.specs.Sizes.{default_budget}

-- each partition boots once
abbrev pub one_boot_each : List (List Command) → List (List (List Command))
one_boot_each [] = []
one_boot_each (script ∷ scripts) = (script ∷ []) ∷ one_boot_each scripts

-- no load fails, no partition stops or boots again; one line of rounds
abbrev pub simple : List Warm → List (List Command) → ℕ → Scenario
simple warms scripts rounds = record {
  count = length scripts;
  budget = default_budget (length scripts);
  check = 0;
  minors = [];
  warms = warms;
  faults = [];
  stops = [];
  restarts = [];
  pokes = [];
  scripts = one_boot_each scripts;
  schedule = Some (Rounds rounds ∷ []);
}
