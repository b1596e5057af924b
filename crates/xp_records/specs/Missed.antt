-- Why a partner is to be deactivated for a missed heartbeat: only for a check of it that was over
-- in that very turn, and for the words that this check read.
use Rattle.std.specs.Prelude.{◌≡◌, ℕ, ◌<◌, ◌⊎◌, ◌++◌, ◌∷◌, [], List, false, Some}
use Rattle.xp_base.specs.declared.reason.Reason.TheVariants.{NoHeartbeat}
use Rattle.xp_base.specs.declared.step.Answer.TheVariants.{Word}
use Rattle.xp_base.specs.History.{Event, Marked, Turn, turns_of}
use Rattle.xp_script.specs.declared.part.ScenarioPart.{ScenarioPart}
use Rattle.xp_script.specs.declared.scenario.Scenario.{Scenario}
use Rattle.xp_script.specs.Parts.{part_of}
use Rattle.xp_protocol.specs.declared.rule.PeerRule.TheVariants.{CheckBeat}
use Rattle.xp_protocol.specs.declared.rule.Rule.TheVariants.{Peer as ForPeer}
use Rattle.xp_protocol.specs.State.{State, Watch, peer_of}
use Rattle.xp_protocol.specs.Peering.{is_flagged, or_zero}
use Rattle.xp_protocol.specs.Decode.{rule_of}
use Rattle.xp_protocol.specs.Acts.{after_acts}
use Rattle.xp_protocol.specs.Runs.{start, after_turn, state_after}

-- such a check: the words that were loaded before its last one, the count of the check before it,
-- and that the own bit isn't in the mask, or that the count stood still though the partner isn't
-- offline
pub record IsMissed (part : ℕ) (x : Watch) (last now mask offline : ℕ) : Type 0 where
  pub words : x.words ≡ now ∷ mask ∷ []
  pub before : last ≡ or_zero x.last
  pub missed : (is_flagged mask part ≡ false) ⊎ ((offline ≡ 0) × (x.last ≡ Some now))

-- the step of a turn is the last load of such a check of partner q
pub record Misses (s : ScenarioPart) (q last now mask : ℕ) (st : State) (t : Turn) : Type 0 where
  pub step : Marked
  pub made : t.made ≡ Some step
  pub decoded : rule_of s (after_acts s st t.before) step.step.op step.mark
      ≡ Some (ForPeer q CheckBeat)
  pub offline : ℕ
  pub answer : step.step.answer ≡ Word offline
  pub check : IsMissed s.part (peer_of (after_acts s st t.before) q).watch last now mask offline

-- this stands as the reason to deactivate partner q
abbrev pub IsToLeave : State → ℕ → ℕ → ℕ → ℕ → Type 0
IsToLeave st q last now mask =
    (peer_of st q).engage.reason ≡ Some (NoHeartbeat last now mask)

-- after a turn it stands only where it stood before, or the turn made such a check
abbrev pub HeartbeatsMissed : Scenario → List Event → Type 0
HeartbeatsMissed s h =
    (p : ℕ) → p < s.count → (before later : List Turn) (t : Turn) →
    turns_of p h ≡ before ++ t ∷ later →
    (q last now mask : ℕ) →
    let su = part_of s p in
    let st = state_after su (start su) before in
    IsToLeave (after_turn su st t) q last now mask →
    IsToLeave st q last now mask ⊎ Misses su q last now mask st t
