use Rattle.std.proofs.Common.{ℕ, ◌<◌, sym, subst}
use Rattle.xp_protocol.specs.Parts.{IsLawfulLink}
use Rattle.xp_partition.proofs.Opened.{link_listed}
use Rattle.xp_partition.proofs.partners.Partners.«open».Goals as goal

lawful : (c : goal.After-warm-arg-1) → IsLawfulLink c.args.part.now c.link-item.result
lawful c = link_listed c.args.part.now c.deref-link-items.result.now c.loop-link.link-index c.link-item.result c.requires (cc) c.loop-link-test.true c.link-item.is

pub warm-requires-clause-number : goal.warm-requires-clause-number
warm-requires-clause-number c = subst (λ (n : ℕ). c.link-item.result.partner < n) (sym c.loop-link.invariant.count) (lawful c).0.0

pub warm-requires-clause-channel : goal.warm-requires-clause-channel
warm-requires-clause-channel c = (lawful c).0.2

pub warm-requires-clause-size : goal.warm-requires-clause-size
warm-requires-clause-size c = (lawful c).1
