-- What a partition keeps, seen as the state that the definitions speak of, and what always holds of
-- it.
use Rattle.std.specs.Prelude.{◌≡◌, ◌≢◌, ℕ, ◌-◌, ◌^◌, ◌<◌, ◌≤◌, false, List, map, length, nat_lt}
use Rattle.xp_script.specs.declared.part.ScenarioPart.{ScenarioPart}
use Rattle.xp_protocol.specs.Parts.{IsLawfulPart}
use Rattle.xp_protocol.specs.Records.{Recorded}
use Rattle.xp_protocol.specs.State.{State}
use Rattle.xp_discover.specs.Booting.{Starting}
use Rattle.xp_partner.specs.Partner.{peer_seen, channel_of}
use Rattle.xp_partition.specs.declared.keeping.Keeping.{Keeping}
use Rattle.xp_partition.specs.declared.life.Life.TheVariants.{Booting}
use Rattle.xp_partition.specs.Life.{life_seen, boot_seen}
use Rattle.xp_partition.specs.Partners.{Partners, partner_at}
use Rattle.xp_partition.specs.Opening.{IsStanding}

abbrev pub state_of : Keeping → State
state_of x = record {
  stopped = x.stopped;
  life = life_seen x.life;
  boot = boot_seen x.life x.boot.boot;
  stamp = x.stamp;
  clock = x.clock;
  beats = x.beat;
  script = x.script;
  peers = map peer_seen x.partners.list;
}

-- the records of the connections of an end
abbrev pub records_at : Keeping → ℕ → ℕ → List Recorded
records_at x q c = (channel_of (partner_at x.partners.list q) c).records

abbrev pub part_in : Keeping → ScenarioPart
part_in x = x.part

-- the boot that goes on has done what is known of each partner: the own magic is 0 for those below
-- `zeroed`, and the own bit is cleared at those below `cleared`
pub record IsBooted (s : ScenarioPart) (x : Starting) (ps : Partners) : Type 0 where
  pub going : x.over ≡ false
  pub order : x.cleared ≤ x.zeroed
  pub zeroed : (q : ℕ) → q < s.count → q ≢ s.part
      → (partner_at ps.list q).standing.engage.zeroed ≡ nat_lt q x.zeroed
  pub cleared : (q : ℕ) → q < s.count → q ≢ s.part
      → (partner_at ps.list q).standing.engage.cleared ≡ nat_lt q x.cleared

-- what always holds
pub record IsKept (x : Keeping) : Type 0 where
  pub lawful : IsLawfulPart x.part
  pub count : length x.partners.list ≡ x.part.count
  pub standing : (q : ℕ) → q < x.part.count
      → IsStanding x.part x.stamp x.beat.mask q (partner_at x.partners.list q).standing
  pub own : x.boot.own ≡ x.part.part
  pub partitions : x.boot.count ≡ x.part.count
  pub boot : x.life ≡ Booting → IsBooted x.part x.boot x.partners

-- what always holds, and the turn that is made next can be counted
pub record CanAsk (x : Keeping) : Type 0 where
  pub kept : IsKept x
  pub turns : x.clock.turns < 2 ^ 64 - 1
