-- How the fields of a partner stand for what is seen of it, and what always holds of them: each end
-- is that of its channel.
use Rattle.xp_partner.specs.declared.partner.Partner.TheInside.{Inside}
use Rattle.xp_partner.specs.Partner.{Partner}
use Rattle.xp_partner.specs.Named.{AreNamed}

abbrev pub partner_seen : Inside → Partner
partner_seen x = record {
  standing = x.standing;
  paging = x.page;
  numbers = x.numbers;
  going = x.going;
  channels = x.ends;
}

abbrev pub IsSound : Inside → Type 0
IsSound x = AreNamed x.standing.own x.standing.partner x.ends
