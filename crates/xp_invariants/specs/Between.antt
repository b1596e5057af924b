-- What is read of two partitions after a history.
use Rattle.std.specs.Prelude.{◌≡◌, ℕ, ◌<◌, List, Some}
use Rattle.std.specs.Int.{bit_at}
use Rattle.xp_base.specs.History.{Event, Marked, Turn}
use Rattle.xp_base.specs.Places.{Place}
use Rattle.xp_script.specs.declared.scenario.Scenario.{Scenario}
use Rattle.xp_script.specs.Opening.{opening}
use Rattle.xp_script.specs.Parts.{part_of}
use Rattle.xp_protocol.specs.declared.rule.Rule.{Rule}
use Rattle.xp_protocol.specs.Decode.{rule_of}
use Rattle.xp_protocol.specs.Promised.{engaged_at, known_acted, memory_by, word_of}
use Rattle.xp_protocol.specs.Reached.{state_at}
use Rattle.xp_protocol.specs.State.{Engage, Up, peer_of}

-- two partitions of the scenario
pub record ArePartners (s : Scenario) (p q : ℕ) : Type 0 where
  pub first : p < s.count
  pub second : q < s.count
  pub apart : p ≡ q → ⊥

-- a word of partition p, and the bit of p in q's engagement word
abbrev pub word_after : Scenario → List Event → ℕ → Place → ℕ
word_after s h p pl = word_of (memory_by (opening s) h) p pl

abbrev pub bit_after : Scenario → List Event → ℕ → ℕ → ℕ
bit_after s h p q = bit_at (engaged_at s h q) p

-- how p stands to q: p's own area for q, and p's bit at q
abbrev pub engage_at : Scenario → List Event → ℕ → ℕ → Engage
engage_at s h p q = (peer_of (state_at s h p) q).engage

-- p has booted; before, it boots, or it has halted in its boot
abbrev pub HasBooted : Scenario → List Event → ℕ → Type 0
HasBooted s h p = (state_at s h p).life ≡ Up

-- the step of turn t, which p makes next after a history, follows rule r
pub record IsStepBy (s : Scenario) (before : List Event) (p : ℕ) (t : Turn)
    (r : Rule) : Type 0 where
  pub step : Marked
  pub made : t.made ≡ Some step
  pub ruled : rule_of (part_of s p) (known_acted s before p t.before) step.step.op step.mark
      ≡ Some r
