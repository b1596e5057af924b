use Rattle.std.proofs.Common.{◌≡◌, sym, subst}
use Rattle.std.specs.Prelude.{is_some, true}
use Rattle.xp_base.specs.declared.link.Kind.TheVariants.{OpenRequest}
use Rattle.xp_base.specs.Kinds.{Kinds}
use Rattle.xp_protocol.specs.State.{Shake}
use Rattle.xp_openclose.specs.Planned.{HasSizes}
use Rattle.xp_openclose.specs.HandshakeInside.{view_of}
use Rattle.xp_openclose.proofs.Sizes.{got_sizes}
use Rattle.xp_openclose.proofs.handshake.Handshake.mark_got.Goals as goal

pub invariant_of-self : goal.invariant_of-self
invariant_of-self c =
    let x = view_of c.self.inside in
    let closes : c.args.kind ≡ OpenRequest → is_some x.reason ≡ true = subst (λ (y : Shake). c.args.kind ≡ OpenRequest → is_some y.reason ≡ true) (sym c.self.view_is) c.requires in
    record { order = c.self.invariant.order; sizes = subst (λ (g : Kinds). HasSizes (record x { got = g; taken = c.without-self-inside.result })) (sym c.with-self-inside.ensures) (got_sizes c.args.kind x c.without-self-inside.result closes c.self.invariant.sizes); closing = c.self.invariant.closing }
