-- The scenario that a text spells, or its first fault.
use Rattle.std.specs.Prelude.{◌≡◌, ℕ, ◌+◌, List, [], ◌∷◌, length, Option, Some, None, Result, Ok, Err}
use Rattle.xp_script.specs.declared.scenario.Scenario.{Scenario}
use Rattle.xp_text.specs.declared.parts.TheConstants.{LINE_END}
use Rattle.xp_text.specs.Lines.{parts_of, line_of}
use Rattle.xp_forms.specs.declared.fault.LineCause.TheVariants as causes
use Rattle.xp_forms.specs.declared.fault.WordFault.{WordFault}
use Rattle.xp_forms.specs.declared.fault.LineError.{LineError}
use Rattle.xp_forms.specs.declared.fault.LineError.TheVariants as errors
use Rattle.xp_scenario.specs.declared.fault.What.{What}
use Rattle.xp_scenario.specs.declared.fault.ScenarioFault.{ScenarioFault}
use Rattle.xp_scenario.specs.declared.fault.ScenarioFault.TheVariants as faults
use Rattle.xp_scenario.specs.declared.draft.Draft.{Draft}
use Rattle.xp_scenario.specs.declared.draft.Section.{Section}
use Rattle.xp_scenario.specs.declared.draft.Section.TheVariants as sections
use Rattle.xp_scenario.specs.Drafts.{fresh, line_says}
use Rattle.xp_scenario.specs.Limits.{scenario_of, too_many}

-- the fault of a word, in the line of this number
abbrev pub at_line : {A : Type 0} → ℕ → Result A WordFault → Result A ScenarioFault
at_line n (Ok x) = Ok x
at_line n (Err e) = Err (faults.BadLine n e.column e.cause)

-- a section that is missing at the end of the text
abbrev pub ended : Section → ℕ → ℕ → Draft → Result Draft ScenarioFault
ended sections.Opening line column d = Err (faults.BadLine line column causes.Header)
ended sections.Counting line column d = Err (faults.BadLine line column causes.Order)
ended _ line column d = Ok d

infixl 10 ◌>>>◌
abbrev pub ◌>>>◌ : {A B : Type 0}
    → Result A ScenarioFault → (A → Result B ScenarioFault) → Result B ScenarioFault
(Ok x) >>> f = f x
(Err e) >>> f = Err e

-- what the lines from number n on say, to the end of the text
abbrev pub lines_say : ℕ → List (List ℕ) → Draft → Result Draft ScenarioFault
lines_say n [] d = Ok d
lines_say n (line ∷ []) d =
    at_line n (line_says d (line_of line)) >>> λ e. ended e.section n (1 + length line) e
lines_say n (line ∷ next ∷ more) d =
    at_line n (line_says d (line_of line)) >>> lines_say (n + 1) (next ∷ more)

-- a scenario, where it is within its limits
abbrev pub limited : Scenario → Option (What × ℕ) → Result Scenario ScenarioFault
limited s (Some much) = Err (faults.TooMany much.0 much.1)
limited s None = Ok s

-- the scenario that a text spells, or else its first fault
unfoldable pub scenario_in : List ℕ → Result Scenario ScenarioFault
scenario_in text =
    lines_say 1 (parts_of LINE_END text) fresh
    >>> λ d. limited (scenario_of d) (too_many (scenario_of d))

abbrev pub line_fault : ℕ → LineError → ScenarioFault
line_fault n errors.Memory = faults.Memory
line_fault n (errors.Fault f) = faults.BadLine n f.column f.cause

-- what the program gives; want of memory may stand in place of any answer
abbrev pub Tells : {X Y : Type 0}
    → (X → Y) → Result X ScenarioFault → Result Y ScenarioFault → Type 0
Tells view (Ok x) read = read ≡ Ok (view x)
Tells view (Err faults.Memory) read = Unit {0}
Tells view (Err (faults.BadLine line column cause)) read =
    read ≡ Err (faults.BadLine line column cause)
Tells view (Err (faults.TooMany what limit)) read = read ≡ Err (faults.TooMany what limit)
