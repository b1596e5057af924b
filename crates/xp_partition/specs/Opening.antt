-- The partners of a partition that opens, while its links are connected one after the other.
use Rattle.std.specs.Prelude.{◌≡◌, ℕ, ◌<◌, ◌*◌, true, Bool, if◌then◌else◌, bit_or, List, [], ◌∷◌, map, length, Option, Some, None}
use Rattle.xp_base.specs.declared.layout.TheConstants.{CHANNELS}
use Rattle.xp_base.specs.Windows.{window_of}
use Rattle.xp_script.specs.declared.part.Link.{Link}
use Rattle.xp_script.specs.declared.part.ScenarioPart.{ScenarioPart}
use Rattle.xp_protocol.specs.declared.contact.Look.TheVariants.{Unseen}
use Rattle.xp_protocol.specs.State.{Size, Contact, new_watch, first_contact, first_met, each, base_engage, first_peers, opened_peers, opened_new, opening_stamp, link_mask, version_of, warm_engage}
use Rattle.xp_protocol.specs.Peering.{is_flagged}
use Rattle.xp_protocol.specs.Records.{Recorded, opened_record}
use Rattle.xp_protocol.specs.Logged.{is_at, opened_records}
use Rattle.xp_engage.specs.Partner.{Partner as Standing, new_partner as new_standing}
use Rattle.xp_partner.specs.Partner.{Partner, of_standing, rooms_of, peer_seen, channel_of}
use Rattle.xp_partner.specs.Opening.{warmed}
use Rattle.xp_partition.specs.Partners.{Partners, partner_at, with_partner, AreRoomy}

-- a partner that isn't in contact
abbrev pub cold_standing : ScenarioPart → ℕ → Standing
cold_standing s q =
    new_standing s.part q (version_of s s.part) (opening_stamp s.links) (base_engage s.links)
    (window_of s.count) s.check

abbrev pub cold_partner : ScenarioPart → ℕ → Partner
cold_partner s q = of_standing (cold_standing s q)

-- a partner that opens in contact: nothing else is known of it, and all its ends are in contact
pub record IsWarm (new : Bool) (x : Partner) : Type 0 where
  pub wanted : x.standing.wanted ≡ true
  pub look : x.standing.look ≡ Unseen
  pub seen : x.standing.flags_seen ≡ 0
  pub both_new : x.standing.both_new ≡ new
  pub engage : x.standing.engage ≡ warm_engage
  pub watch : x.standing.watch ≡ new_watch 0
  pub ends : each (λ c e. first_met new e) 0 (peer_seen x).links ≡ (peer_seen x).links

abbrev pub IsColdOrWarm : ScenarioPart → ℕ → Option Contact → Partner → Type 0
IsColdOrWarm s q None x = x ≡ cold_partner s q
IsColdOrWarm s q (Some m) x = (m ≡ first_contact) × IsWarm (opened_new s q) x

-- how the partition stands to a partner by its number, with the mask that was stored last
pub record IsStanding (s : ScenarioPart) (stamp mask q : ℕ) (x : Standing) : Type 0 where
  pub own : x.own ≡ s.part
  pub partner : x.partner ≡ q
  pub version : x.version ≡ version_of s s.part
  pub wait : x.wait ≡ 2 * window_of s.count
  pub checked : x.check ≡ s.check
  pub stamped : x.stamp ≡ stamp
  pub masked : x.masked ≡ is_flagged mask q

-- partner q of `y` is as in `x`, but warm, with one more of its channels connected
pub record IsWarmedAt (theirs window q c : ℕ) (size : Size) (x y : Partners) : Type 0 where
  pub whole : y ≡ with_partner q (partner_at y.list q) x
  pub partner : partner_at y.list q
      ≡ rooms_of (warmed theirs window c size (partner_at x.list q)) (partner_at y.list q)

-- the records of an end once more links are connected: where one of them is the end's own, the
-- record of that link alone
abbrev pub linked_records : List Link → ℕ → ℕ → List Recorded → List Recorded
linked_records [] q c records = records
linked_records (l ∷ ls) q c records =
    linked_records ls q c (if is_at l q c then opened_record l ∷ [] else records)

-- with the links that are still to be connected
pub record Opens (s : ScenarioPart) (more : List Link) (mask : ℕ) (x : Partners) : Type 0 where
  pub count : length x.list ≡ s.count
  pub stamp : (l : Link) (ls : List Link) → more ≡ l ∷ ls → opening_stamp s.links ≡ 1
  pub standing : (q : ℕ) → q < s.count
      → IsStanding s (opening_stamp s.links) mask q (partner_at x.list q).standing
  pub each_one : (q : ℕ) → q < s.count
      → IsColdOrWarm s q (partner_at x.list q).standing.contact (partner_at x.list q)
  pub four : (q : ℕ) → q < s.count → length (partner_at x.list q).channels ≡ CHANNELS
  pub recorded : (q : ℕ) → q < s.count → (c : ℕ) → c < CHANNELS
      → linked_records more q c (channel_of (partner_at x.list q) c).records
      ≡ opened_records s.links q c
  pub peers : opened_peers (opened_new s) more (map peer_seen x.list)
      ≡ opened_peers (opened_new s) s.links (first_peers s.count s.links)
  pub masks : bit_or mask (link_mask more) ≡ link_mask s.links
  pub roomy : AreRoomy x
