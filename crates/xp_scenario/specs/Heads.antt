-- The first words of lines.
use Rattle.std.specs.Prelude.{ℕ, if◌then◌else◌, codes, bytes_eq, List, Option, Some, None}
use Rattle.xp_commands.specs.Verbs.{verb_in}
use Rattle.xp_settings.specs.Words.{setting_word_in}
use Rattle.xp_scenario.specs.declared.head.Head.{Head}
use Rattle.xp_scenario.specs.declared.head.Head.TheVariants as heads
use Rattle.xp_scenario.specs.declared.head.PlanWord.{PlanWord}
use Rattle.xp_scenario.specs.declared.head.PlanWord.TheVariants as plans

unfoldable pub plan_word_in : List ℕ → Option PlanWord
plan_word_in word =
    if bytes_eq word (codes "turns") then Some plans.Turns
    else if bytes_eq word (codes "rounds") then Some plans.Rounds
    else None

abbrev pub section_word_in : List ℕ → Option Head
section_word_in word =
    if bytes_eq word (codes "xpsim") then Some heads.Xpsim
    else if bytes_eq word (codes "partitions") then Some heads.Partitions
    else if bytes_eq word (codes "script") then Some heads.Script
    else if bytes_eq word (codes "schedule") then Some heads.Schedule
    else None

abbrev pub or_else : {A : Type 0} → Option A → (A → Head) → Option Head → Option Head
or_else (Some x) head other = Some (head x)
or_else None head other = other

-- the first word of a line that a word is; no word is two of them
unfoldable pub head_in : List ℕ → Option Head
head_in word =
    or_else (verb_in word) heads.Command
    (or_else (setting_word_in word) heads.Setting
    (or_else (plan_word_in word) heads.Plan (section_word_in word)))
