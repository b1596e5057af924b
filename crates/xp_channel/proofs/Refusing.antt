-- A channel closes for an open request that is refused: it makes no difference whether the request
-- is got before or after.
use Rattle.std.proofs.Common.{◌≡◌, ◌++◌, Bool, true, false, Option, Some, None, map, refl, ap, ◌∙◌, sym}
use Rattle.xp_base.specs.declared.link.Kind.TheVariants.{OpenRequest}
use Rattle.xp_base.specs.declared.reason.Reason.{Reason}
use Rattle.xp_protocol.specs.Effects.{BySend, ByPull, with_notes}
use Rattle.xp_protocol.specs.State.{End}
use Rattle.xp_protocol.specs.Sending.{Send, closed_send}
use Rattle.xp_protocol.specs.Pulling.{closed_take}
use Rattle.xp_protocol.specs.Linking.{hears, down_end, closed_release, closed_drain, close_now, channel_closed, kind_got, opened_notes}
use Rattle.xp_channel.specs.Channel.{Channel, kept}

down_got : (reason : Reason) (s : Option Send) (t : Option Bool) (r d : Bool) (e : End) → let notes = map BySend (closed_send reason s) ++ (map ByPull (closed_take reason t) ++ (closed_release r ++ closed_drain reason d)) in hears notes (kind_got OpenRequest e) ≡ kind_got OpenRequest (hears notes e)
down_got reason None None false false e = refl
down_got reason None None false true e = refl
down_got reason None None true false e = refl
down_got reason None None true true e = refl
down_got reason None (Some t) false false e = refl
down_got reason None (Some t) false true e = refl
down_got reason None (Some t) true false e = refl
down_got reason None (Some t) true true e = refl
down_got reason (Some s) None false false e = refl
down_got reason (Some s) None false true e = refl
down_got reason (Some s) None true false e = refl
down_got reason (Some s) None true true e = refl
down_got reason (Some s) (Some t) false false e = refl
down_got reason (Some s) (Some t) false true e = refl
down_got reason (Some s) (Some t) true false e = refl
down_got reason (Some s) (Some t) true true e = refl

now_got : (o : Option Reason) (reason : Reason) (e : End) → (close_now o reason (kind_got OpenRequest e)).local ≡ kind_got OpenRequest (close_now o reason e).local
now_got (Some first) reason e = refl
now_got None reason e = down_got reason e.sides.send.send e.sides.pull.take e.sides.releasing e.sides.draining (down_end reason e)

now_notes : (o : Option Reason) (reason : Reason) (e : End) → (close_now o reason (kind_got OpenRequest e)).notes ≡ (close_now o reason e).notes
now_notes (Some first) reason e = refl
now_notes None reason e = refl

closed_got : (reason : Reason) (e : End) → (channel_closed reason (kind_got OpenRequest e)).local ≡ kind_got OpenRequest (channel_closed reason e).local
closed_got reason e = now_got e.shake.reason reason e

pub refused : (reason : Reason) (x y z : Channel) → y ≡ record (kept (channel_closed reason x.end) x) { room = y.room } → z ≡ record y { end = kind_got OpenRequest y.end } → z ≡ record (kept (channel_closed reason (kind_got OpenRequest x.end)) x) { room = z.room }
refused reason x y z d e =
    let room = sym (ap (λ (w : Channel). w.room) e) in
    let notes = sym (now_notes x.end.shake.reason reason x.end) in
    e ∙ ap (λ (w : Channel). record w { end = kind_got OpenRequest w.end }) d
    ∙ (λ i. record x {
      end = sym (closed_got reason x.end) i;
      records = with_notes x.partner x.channel (opened_notes x.end ++ notes i) x.records;
      room = room i;
    })
