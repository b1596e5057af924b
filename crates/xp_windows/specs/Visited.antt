-- What a node has to show for its windows: that its turns follow the plan, that it begins its
-- commands as soon as it can, and that it gives each answer that was due before a turn in that
-- turn. Notices are given in their turn in any case, since a turn that leaves one due isn't
-- permitted.
use Rattle.std.specs.Prelude.{◌≡◌, ◌<◌, true, false, if◌then◌else◌, nat_eq, ◌||◌, List, [], ◌∷◌, length, Option, None, Some, IsSome}
use Rattle.xp_base.specs.History.{Marked, Turn}
use Rattle.xp_script.specs.declared.part.ScenarioPart.{ScenarioPart}
use Rattle.xp_rounds.specs.Visit.{Visit, planned}
use Rattle.xp_protocol.specs.declared.rule.Rule.{Rule}
use Rattle.xp_protocol.specs.Parts.{script_in}
use Rattle.xp_protocol.specs.State.{State, Up}
use Rattle.xp_protocol.specs.Decode.{rule_of}
use Rattle.xp_protocol.specs.Acts.{due}
use Rattle.xp_protocol.specs.Runs.{start, after_turn}
use Rattle.xp_plan.specs.declared.errand.Errand.{Errand}
use Rattle.xp_plan.specs.Plan.{plan_of, first_visit}
use Rattle.xp_windows.specs.Windows.{middle, begins, answers}

-- which rule a step followed, in the state in which it was made
abbrev pub rule_by : ScenarioPart → State → Option Marked → Option Rule
rule_by s st None = None
rule_by s st (Some x) = rule_of s st x.step.op x.mark

abbrev pub rule_made : ScenarioPart → State → Turn → Option Rule
rule_made s st t = rule_by s st t.made

-- the visit after a turn; a boot begins its visits anew
abbrev pub visit_after : ScenarioPart → Visit Errand → State → Turn → Visit Errand
visit_after s v st t =
    if nat_eq (after_turn s st t).clock.boots st.clock.boots
    then (planned (plan_of s) v (middle s st t)).visit else first_visit s

-- each turn makes the planned step
abbrev pub FollowsFrom : ScenarioPart → Visit Errand → State → List Turn → Type 0
FollowsFrom s v st [] = Unit {0}
FollowsFrom s v st (t ∷ ts) =
    (rule_made s (middle s st t) t ≡ (planned (plan_of s) v (middle s st t)).rule)
    × FollowsFrom s (visit_after s v st t) (after_turn s st t) ts

-- a turn begins a command where none is in progress and one is left, and gives the answer that was
-- due before it
pub record IsPrompt (s : ScenarioPart) (st : State) (t : Turn) : Type 0 where
  pub begins : st.life ≡ Up → st.script.doing ≡ false →
      st.script.begun < length (script_in s st.clock.boots) → begins t.before ≡ true
  pub answers : IsSome (due s st) → (answers t.before || answers t.after) ≡ true

abbrev pub ArePrompt : ScenarioPart → State → List Turn → Type 0
ArePrompt s st [] = Unit {0}
ArePrompt s st (t ∷ ts) = IsPrompt s st t × ArePrompt s (after_turn s st t) ts

-- the turns of a partition that follows its plan from its first visit on
pub record Visited (s : ScenarioPart) (ts : List Turn) : Type 0 where
  pub follows : FollowsFrom s (first_visit s) (start s) ts
  pub prompt : ArePrompt s (start s) ts
