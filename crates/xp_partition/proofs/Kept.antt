-- What is kept holds at the opening, after a restart, and with more room.
use Rattle.std.proofs.Common.{◌≡◌, ℕ, ◌<◌, List, [], length, ap, sym, ◌∙◌, subst}
use Rattle.std.specs.Prelude.{nat_eq}
use Rattle.std.proofs.lemmas.Nat.Bits.{bit_at-zero}
use Rattle.xp_script.specs.declared.part.ScenarioPart.{ScenarioPart}
use Rattle.xp_protocol.specs.Parts.{IsLawfulPart}
use Rattle.xp_protocol.specs.State.{Beats, masked_beats, booted_engage, opening_life, opening_stamp}
use Rattle.xp_discover.specs.Booting.{Starting, first_start}
use Rattle.xp_plan.proofs.Visiting.{first_is}
use Rattle.xp_base.specs.declared.layout.TheConstants.{CHANNELS}
use Rattle.xp_protocol.specs.Logged.{opened_records}
use Rattle.xp_partner.specs.Partner.{Partner, channel_of}
use Rattle.xp_partition.specs.declared.keeping.Keeping.{Keeping}
use Rattle.xp_partition.specs.Life.{life_seen}
use Rattle.xp_partition.specs.Partners.{Partners, partner_at, AreRoomy, AreSameButRoom}
use Rattle.xp_partition.specs.Opening.{IsStanding, Opens}
use Rattle.xp_partition.specs.Keeping.{IsBooted, IsKept}
use Rattle.xp_partition.proofs.Begins.{mask_opened, boot_first, peers_opened, boot_opened, none_booted, peers_reserved, standing_reserved, booted_reserved}
use Rattle.xp_partition.proofs.Restarting.{IsBootedFrom, peers_booted, rooms_booted}
use Rattle.xp_partition.proofs.Recording.{all_records_booted}

pub standing_opened : (s : ScenarioPart) (mask stamp : ℕ) (ps : Partners) → stamp ≡ opening_stamp s.links → Opens s [] mask ps → (q : ℕ) → q < s.count → IsStanding s stamp mask q (partner_at ps.list q).standing
standing_opened s mask stamp ps e h q l = subst (λ (n : ℕ). IsStanding s n mask q (partner_at ps.list q).standing) (sym e) (h.standing q l)

pub kept_opened : (x : Keeping) (mask : ℕ) → IsLawfulPart x.part → Opens x.part [] mask x.partners → x.beat ≡ masked_beats mask → life_seen x.life ≡ opening_life x.part.links → x.stamp ≡ opening_stamp x.part.links → x.boot ≡ first_start x.part.part x.part.count → IsKept x
kept_opened x mask lawful h beat life stamp boot = record {
  lawful = lawful;
  count = h.count;
  standing = standing_opened x.part x.beat.mask x.stamp x.partners stamp (subst (λ (n : ℕ). Opens x.part [] n x.partners) (sym (ap (λ (y : Beats). y.mask) beat)) h);
  own = ap (λ (z : Starting). z.own) boot;
  partitions = ap (λ (z : Starting). z.count) boot;
  boot = boot_opened x.part x.boot mask x.partners x.life life boot h;
}

pub records_opened : (s : ScenarioPart) (mask : ℕ) (ps : Partners) → Opens s [] mask ps → (q c : ℕ) → q < s.count → c < CHANNELS → (channel_of (partner_at ps.list q) c).records ≡ opened_records s.links q c
records_opened s mask ps h q c k l = h.recorded q k c l

pub roomy_opened : (s : ScenarioPart) (mask : ℕ) (ps : Partners) → Opens s [] mask ps → AreRoomy ps
roomy_opened s mask ps h = h.roomy

pub ruleset opening = (mask_opened, boot_first, peers_opened, kept_opened, records_opened, roomy_opened, first_is)

-- a boot begins
standing_booted : (s : ScenarioPart) (stamp mask q : ℕ) (x y : Partner) → IsBootedFrom x y → IsStanding s stamp mask q x.standing → IsStanding s 0 0 q y.standing
standing_booted s stamp mask q x y e h = record {
  own = ap (λ (p : Partner). p.standing.own) e ∙ h.own;
  partner = ap (λ (p : Partner). p.standing.partner) e ∙ h.partner;
  version = ap (λ (p : Partner). p.standing.version) e ∙ h.version;
  wait = ap (λ (p : Partner). p.standing.wait) e ∙ h.wait;
  checked = ap (λ (p : Partner). p.standing.check) e ∙ h.checked;
  stamped = ap (λ (p : Partner). p.standing.stamp) e;
  masked = ap (λ (p : Partner). p.standing.masked) e ∙ ap (λ (n : ℕ). nat_eq n 1) (sym (bit_at-zero q));
}

pub kept_restarted : (x y : Keeping) → IsKept x → y.part ≡ x.part → y.stamp ≡ 0 → y.beat ≡ masked_beats 0 → y.boot ≡ first_start x.part.part x.part.count → length y.partners.list ≡ length x.partners.list
    → ((q : ℕ) → q < length x.partners.list → IsBootedFrom (partner_at x.partners.list q) (partner_at y.partners.list q)) → IsKept y
kept_restarted x y h part stamp beat boot count each =
    let at : (q : ℕ) → q < x.part.count → IsBootedFrom (partner_at x.partners.list q) (partner_at y.partners.list q) = λ q l. each q (subst (λ (n : ℕ). q < n) (sym h.count) l) in
    let engage : (q : ℕ) → q < x.part.count → (partner_at y.partners.list q).standing.engage ≡ booted_engage = λ q l. ap (λ (p : Partner). p.standing.engage) (at q l) in
    record {
      lawful = subst IsLawfulPart (sym part) h.lawful;
      count = count ∙ h.count ∙ ap (λ (s : ScenarioPart). s.count) (sym part);
      standing = subst (λ (s : ScenarioPart). (q : ℕ) → q < s.count → IsStanding s y.stamp y.beat.mask q (partner_at y.partners.list q).standing) (sym part)
          (subst (λ (n : ℕ). (q : ℕ) → q < x.part.count → IsStanding x.part n y.beat.mask q (partner_at y.partners.list q).standing) (sym stamp)
          (subst (λ (n : ℕ). (q : ℕ) → q < x.part.count → IsStanding x.part 0 n q (partner_at y.partners.list q).standing) (sym (ap (λ (z : Beats). z.mask) beat))
          (λ q l. standing_booted x.part x.stamp x.beat.mask q (partner_at x.partners.list q) (partner_at y.partners.list q) (at q l) (h.standing q l))));
      own = ap (λ (z : Starting). z.own) boot ∙ ap (λ (s : ScenarioPart). s.part) (sym part);
      partitions = ap (λ (z : Starting). z.count) boot ∙ ap (λ (s : ScenarioPart). s.count) (sym part);
      boot = λ i. subst (λ (s : ScenarioPart). IsBooted s y.boot y.partners) (sym part) (none_booted x.part y.boot y.partners boot engage);
    }

pub roomy_booted : (xs ys : List Partner) (touched : ℕ) → length ys ≡ length xs → ((q : ℕ) → q < length xs → IsBootedFrom (partner_at xs q) (partner_at ys q)) → AreRoomy (record { list = ys; touched = touched })
roomy_booted xs ys touched l h = λ q k f. rooms_booted (partner_at xs q) (partner_at ys q) (h q (subst (λ (n : ℕ). q < n) l k))

pub ruleset restarting = (kept_restarted, roomy_booted, peers_booted, all_records_booted, first_is)

-- more room
pub kept_reserved : (x : Keeping) (ps : Partners) → IsKept x → AreSameButRoom x.partners ps → IsKept (record x { partners = ps })
kept_reserved x ps h e = record {
  lawful = h.lawful;
  count = e.count ∙ h.count;
  standing = standing_reserved x.partners ps x.part.count x.part x.stamp x.beat.mask h.count e h.standing;
  own = h.own;
  partitions = h.partitions;
  boot = λ i. booted_reserved x.part x.boot x.partners ps h.count e (h.boot i);
}

pub ruleset reserving = (kept_reserved, peers_reserved)
