use Rattle.std.proofs.Common.{◌≡◌, sym, subst, Option}
use Rattle.std.specs.Prelude.{is_some, true}
use Rattle.xp_base.specs.Kinds.{Kinds}
use Rattle.xp_protocol.specs.State.{Shake, Size}
use Rattle.xp_protocol.specs.Linking.{owed_by}
use Rattle.xp_openclose.specs.Planned.{InOrder, HasSizes, size_after}
use Rattle.xp_openclose.specs.HandshakeInside.{view_of}
use Rattle.xp_openclose.proofs.Sizes.{sent_sizes, sent_closing}
use Rattle.xp_openclose.proofs.handshake.Handshake.mark_sent.Goals as goal

pub invariant_of-self : goal.invariant_of-self
invariant_of-self c =
    let x = view_of c.self.inside in
    let owed = subst (λ (y : Shake). owed_by c.args.kind (is_some c.args.registration) c.args.copying y ≡ true) (sym c.self.view_is) c.requires.owed in
    let s = sent_sizes c.args.kind c.args.registration c.args.copying x c.requires.control owed c.requires.size c.self.invariant.order c.self.invariant.sizes in
    let sizes = subst (λ (o : Option Size). HasSizes (record x { sent = c.with-self-inside.result; own_size = o })) (sym c.size_after-self-inside.ensures) (subst (λ (k : Kinds). HasSizes (record x { sent = k; own_size = size_after c.args.kind c.args.registration x.own_size })) (sym c.with-self-inside.ensures) s.1) in
    let closing = subst (λ (k : Kinds). k.close_request ≡ true → is_some x.reason ≡ true) (sym c.with-self-inside.ensures) (sent_closing c.args.kind (is_some c.args.registration) c.args.copying x owed c.self.invariant.closing) in
    record { order = subst (λ (k : Kinds). InOrder k) (sym c.with-self-inside.ensures) s.0; sizes = sizes; closing = closing }
