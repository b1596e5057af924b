-- What two partitions in contact know of each other's version.
use Rattle.std.specs.Prelude.{◌≡◌, ℕ, ◌<◌, List, Some}
use Rattle.xp_base.specs.History.{Event}
use Rattle.xp_script.specs.declared.scenario.Scenario.{Scenario}
use Rattle.xp_script.specs.Opening.{version_word}
use Rattle.xp_script.specs.Settings.{minor_of}
use Rattle.xp_protocol.specs.State.{Contact, are_new, peer_of}
use Rattle.xp_protocol.specs.Reached.{state_at}

-- whether both versions know entries of several lines, by the version words of the scenario
abbrev pub VersionsKnown : Scenario → List Event → Type 0
VersionsKnown s h =
    (p q : ℕ) → p < s.count → q < s.count → (p ≡ q → ⊥) →
    (m : Contact) → (peer_of (state_at s h p) q).contact ≡ Some m →
    (peer_of (state_at s h p) q).both_new
    ≡ are_new (version_word (minor_of p s.minors)) (version_word (minor_of q s.minors))

-- two partitions in contact know the same of whether both versions know entries of several lines
abbrev pub VersionsAgree : Scenario → List Event → Type 0
VersionsAgree s h =
    (p q : ℕ) → p < s.count → q < s.count → (p ≡ q → ⊥) →
    (m k : Contact) → (peer_of (state_at s h p) q).contact ≡ Some m →
    (peer_of (state_at s h q) p).contact ≡ Some k →
    (peer_of (state_at s h p) q).both_new ≡ (peer_of (state_at s h q) p).both_new
