-- The text of a scenario: the header, the settings by their kinds, the scripts by partition, and
-- the schedule.
use Rattle.std.specs.Prelude.{ℕ, ◌+◌, codes, List, [], ◌∷◌, ◌++◌, Option, Some, None}
use Rattle.std.specs.Fmt.{decimal}
use Rattle.xp_script.specs.declared.command.Command.{Command}
use Rattle.xp_script.specs.declared.setting.Minor.{Minor}
use Rattle.xp_script.specs.declared.setting.Warm.{Warm}
use Rattle.xp_script.specs.declared.setting.Fault.{Fault}
use Rattle.xp_script.specs.declared.setting.Stop.{Stop}
use Rattle.xp_script.specs.declared.setting.Restart.{Restart}
use Rattle.xp_script.specs.declared.setting.Poke.{Poke}
use Rattle.xp_script.specs.declared.schedule.Plan.{Plan}
use Rattle.xp_script.specs.declared.scenario.Scenario.{Scenario}
use Rattle.xp_print.specs.Lines.{line_text, written}
use Rattle.xp_print.specs.Words.{command_words, minor_words, warm_words, fault_words, stop_words, restart_words, poke_words, plan_words}

abbrev pub minor_lines : List Minor → List (List (List ℕ))
minor_lines [] = []
minor_lines (m ∷ more) = minor_words m ∷ minor_lines more

abbrev pub warm_lines : List Warm → List (List (List ℕ))
warm_lines [] = []
warm_lines (w ∷ more) = warm_words w ∷ warm_lines more

abbrev pub fault_lines : List Fault → List (List (List ℕ))
fault_lines [] = []
fault_lines (f ∷ more) = fault_words f ∷ fault_lines more

abbrev pub stop_lines : List Stop → List (List (List ℕ))
stop_lines [] = []
stop_lines (x ∷ more) = stop_words x ∷ stop_lines more

abbrev pub restart_lines : List Restart → List (List (List ℕ))
restart_lines [] = []
restart_lines (x ∷ more) = restart_words x ∷ restart_lines more

abbrev pub poke_lines : List Poke → List (List (List ℕ))
poke_lines [] = []
poke_lines (x ∷ more) = poke_words x ∷ poke_lines more

abbrev pub command_lines : List Command → List (List (List ℕ))
command_lines [] = []
command_lines (c ∷ more) = command_words c ∷ command_lines more

abbrev pub script_words : ℕ → List (List ℕ)
script_words p = codes "script" ∷ decimal p ∷ []

-- a script of partition p
abbrev pub script_text : ℕ → List Command → List ℕ
script_text p script = line_text (script_words p) ++ written (command_lines script)

-- the scripts of partition p, one for each boot
abbrev pub boots_text : ℕ → List (List Command) → List ℕ
boots_text p [] = []
boots_text p (script ∷ more) = script_text p script ++ boots_text p more

-- the scripts of partition p and of those after it
abbrev pub scripts_text : ℕ → List (List (List Command)) → List ℕ
scripts_text p [] = []
scripts_text p (boots ∷ more) = boots_text p boots ++ scripts_text (p + 1) more

abbrev pub plan_lines : List Plan → List (List (List ℕ))
plan_lines [] = []
plan_lines (p ∷ more) = plan_words p ∷ plan_lines more

abbrev pub schedule_text : Option (List Plan) → List ℕ
schedule_text None = []
schedule_text (Some plans) = line_text (codes "schedule" ∷ []) ++ written (plan_lines plans)

unfoldable pub header_text : List ℕ
header_text = line_text (codes "xpsim" ∷ codes "1" ∷ [])

-- the header, and how many partitions there are
unfoldable pub count_text : ℕ → List ℕ
count_text count =
    header_text ++ line_text (codes "partitions" ∷ decimal count ∷ [])

-- the settings that each text has
unfoldable pub numbers_text : ℕ → ℕ → List ℕ
numbers_text budget check =
    line_text (codes "budget" ∷ decimal budget ∷ [])
    ++ line_text (codes "check" ∷ decimal check ∷ [])

-- the other settings, by their kinds
unfoldable pub settings_text : Scenario → List ℕ
settings_text s =
    written (minor_lines s.minors) ++ (written (warm_lines s.warms)
    ++ (written (fault_lines s.faults) ++ (written (stop_lines s.stops)
    ++ (written (restart_lines s.restarts) ++ written (poke_lines s.pokes)))))

unfoldable pub text_of : Scenario → List ℕ
text_of s =
    count_text s.count ++ (numbers_text s.budget s.check
    ++ (settings_text s ++ (scripts_text 0 s.scripts ++ schedule_text s.schedule)))
