-- What holds of two partitions that are in contact with each other.
use Rattle.std.specs.Prelude.{◌≡◌, ℕ, ◌<◌, List, Some}
use Rattle.xp_base.specs.History.{Event}
use Rattle.xp_script.specs.declared.scenario.Scenario.{Scenario}
use Rattle.xp_protocol.specs.State.{Contact, peer_of}
use Rattle.xp_protocol.specs.Reached.{state_at}

-- each of two partitions is in contact under the session of the other
abbrev pub SessionsAgree : Scenario → List Event → Type 0
SessionsAgree s h =
    (p q : ℕ) → p < s.count → q < s.count → (p ≡ q → ⊥) →
    (m k : Contact) → (peer_of (state_at s h p) q).contact ≡ Some m →
    (peer_of (state_at s h q) p).contact ≡ Some k → (m.own ≡ k.theirs) × (m.theirs ≡ k.own)
