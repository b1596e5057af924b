-- Which texts spell a scenario, and what is the first fault of one that doesn't: lines that are
-- right one after the other, and the first that isn't.
use Rattle.std.specs.Prelude.{◌≡◌, ℕ, ◌+◌, ◌⊎◌, List, [], ◌∷◌, ◌++◌, length, Option, Some, None, Result, Ok}
use Rattle.xp_script.specs.declared.scenario.Scenario.{Scenario}
use Rattle.xp_text.specs.declared.parts.TheConstants.{LINE_END}
use Rattle.xp_text.specs.Lines.{parts_of, line_of}
use Rattle.xp_forms.specs.declared.fault.LineCause.{LineCause}
use Rattle.xp_forms.specs.declared.fault.LineCause.TheVariants as causes
use Rattle.xp_forms.specs.Forms.{bad}
use Rattle.xp_scenario.specs.declared.fault.What.{What}
use Rattle.xp_scenario.specs.declared.draft.Draft.{Draft}
use Rattle.xp_scenario.specs.declared.draft.Section.{Section}
use Rattle.xp_scenario.specs.declared.draft.Section.TheVariants as sections
use Rattle.xp_scenario.specs.Drafts.{fresh, line_says}
use Rattle.xp_scenario.specs.Limits.{scenario_of, too_many}

-- the lines are right, one after the other, and lead from d to e
abbrev pub Lead : List (List ℕ) → Draft → Draft → Type 0
Lead [] d e = d ≡ e
Lead (bytes ∷ lines) d e = (m : Draft) × (line_says d (line_of bytes) ≡ Ok m) × Lead lines m e

-- what is missing where the lines end in this section
abbrev pub missing : Section → Option LineCause
missing sections.Opening = Some causes.Header
missing sections.Counting = Some causes.Order
missing sections.Settings = None
missing sections.Scripts = None
missing sections.Schedule = None

-- the text spells the scenario
pub record Spells (text : List ℕ) (s : Scenario) : Type 0 where
  pub draft : Draft
  pub right : Lead (parts_of LINE_END text) fresh draft
  pub whole : missing draft.section ≡ None
  pub within : too_many (scenario_of draft) ≡ None
  pub meaning : scenario_of draft ≡ s

-- the first wrong line: those before it are right
pub record IsWrongLine (text : List ℕ) (line column : ℕ) (cause : LineCause) : Type 0 where
  pub before : List (List ℕ)
  pub bytes : List ℕ
  pub after : List (List ℕ)
  pub lines : parts_of LINE_END text ≡ before ++ bytes ∷ after
  pub number : line ≡ length before + 1
  pub draft : Draft
  pub right : Lead before fresh draft
  pub wrong : line_says draft (line_of bytes) ≡ bad column cause

-- all lines are right, and a section is missing at the text's end
pub record IsCutShort (text : List ℕ) (line column : ℕ) (cause : LineCause) : Type 0 where
  pub before : List (List ℕ)
  pub bytes : List ℕ
  pub lines : parts_of LINE_END text ≡ before ++ bytes ∷ []
  pub number : line ≡ length before + 1
  pub behind : column ≡ 1 + length bytes
  pub draft : Draft
  pub right : Lead (parts_of LINE_END text) fresh draft
  pub lacks : missing draft.section ≡ Some cause

abbrev pub IsBadLine : List ℕ → ℕ → ℕ → LineCause → Type 0
IsBadLine text line column cause =
    IsWrongLine text line column cause ⊎ IsCutShort text line column cause

-- all lines are right, but a limit is passed
pub record Passes (text : List ℕ) (what : What) (limit : ℕ) : Type 0 where
  pub draft : Draft
  pub right : Lead (parts_of LINE_END text) fresh draft
  pub whole : missing draft.section ≡ None
  pub much : too_many (scenario_of draft) ≡ Some (what, limit)
