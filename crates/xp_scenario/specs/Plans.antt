-- The forms of the lines of the schedule.
use Rattle.std.specs.Prelude.{ℕ}
use Rattle.xp_script.specs.declared.schedule.Plan.{Plan}
use Rattle.xp_script.specs.declared.schedule.Plan.TheVariants as plans
use Rattle.xp_forms.specs.Forms.{Form, ends, any}
use Rattle.xp_forms.specs.Forms.Slot.{Part}
use Rattle.xp_forms.specs.Forms.Form.{Field}
use Rattle.xp_scenario.specs.declared.head.PlanWord.{PlanWord}
use Rattle.xp_scenario.specs.declared.head.PlanWord.TheVariants as words

abbrev pub plan_form : ℕ → PlanWord → Form Plan
-- `turns P N`
plan_form count words.Turns = Field (Part count) λ p. Field any λ n. ends (plans.Turns p n)
-- `rounds N`
plan_form count words.Rounds = Field any λ n. ends (plans.Rounds n)
