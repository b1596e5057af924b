-- A partner that is lent to be changed.
use Rattle.std.specs.Prelude.{ℕ}
use Rattle.std.specs.Borrow.{Lends, MutBor, Fml}
use Rattle.xp_partner.specs.Partner.{Partner}
use Rattle.xp_partner.specs.contracts.partner.Partner.{the_row as partner_row}
use Rattle.xp_partition.specs.Partners.{Partners, with_partner}
use Rattle.xp_partition.specs.contracts.partners.Partners.{the_row}

abbrev pub LendsPartner : MutBor Partners → ℕ → MutBor Partner → Fml
LendsPartner x q r = Lends the_row partner_row x r (λ p. with_partner q p x.now)
