-- A command is begun at an end, or answered there.
use Rattle.std.proofs.Common.{◌≡◌, ℕ, ◌+◌, ◌<◌, List, length, map, set, refl, ap, sym, ◌∙◌, subst, Option, Some, None}
use Rattle.std.specs.Prelude.{IsSome}
use Rattle.xp_base.specs.declared.layout.TheConstants.{CHANNELS}
use Rattle.xp_script.specs.declared.log.LogAnswer.{LogAnswer}
use Rattle.xp_script.specs.declared.log.Verb.{Verb}
use Rattle.xp_protocol.specs.Effects.{Effect, Note}
use Rattle.xp_protocol.specs.State.{End}
use Rattle.xp_protocol.specs.Acts.{due_by, answered_by}
use Rattle.xp_channel.specs.Channel.{Channel, kept, called}
use Rattle.xp_channel.specs.Answering.{given, given_if}
use Rattle.xp_partner.specs.Named.{AreNamed}
use Rattle.xp_partner.specs.Partner.{Partner, peer_seen, channel_of, with_channel}
use Rattle.xp_partner.specs.Room.{HaveNotes, HaveNotesLeft}
use Rattle.xp_partition.specs.Partners.{Partners, partner_at}
use Rattle.xp_acts.specs.Becoming.{Becomes, AreNumbered}
use Rattle.xp_acts.specs.Ends.{peers_at, notes_at}
use Rattle.xp_acts.proofs.Becoming.{Touches, becomes_end}

-- an end of a partner becomes another one by an effect, and no more than a note is paid
pub record Calls (g : End → Effect End (List Note)) (c : ℕ) (p w : Partner) : Type 0 where
  pub whole : w ≡ with_channel c (channel_of w c) p
  pub end : channel_of w c ≡ called (kept (g (channel_of p c).end) (channel_of p c)) (channel_of w c)
  pub room : (n : ℕ) → HaveNotes (n + 1) p → HaveNotes n w
  pub left : (n : ℕ) → HaveNotesLeft (n + 1) p → HaveNotesLeft n w

pub put_known : (x : Partners) (t q c : ℕ) (g : End → Effect End (List Note)) (w : Partner) → q < length x.list → c < CHANNELS → AreNumbered x → Touches x q t
    → AreNamed (partner_at x.list q).standing.own (partner_at x.list q).standing.partner (partner_at x.list q).channels → Calls g c (partner_at x.list q) w
    → Becomes 1 x (peers_at q c (g (channel_of (partner_at x.list q) c).end) (map peer_seen x.list)) (notes_at q c (g (channel_of (partner_at x.list q) c).end)) (record { list = set x.list q w; touched = t })
put_known x t q c g w l k numbered touch names h =
    let p = partner_at x.list q in
    let f = g (channel_of p c).end in
    subst (λ (v : Partner). Becomes 1 x (peers_at q c f (map peer_seen x.list)) (notes_at q c f) (record { list = set x.list q v; touched = t })) (sym h.whole)
    (becomes_end x p.standing.own q c t f (channel_of w c) l k touch (subst (λ (n : ℕ). AreNamed p.standing.own n p.channels) (numbered q l) names)
    (ap (λ (z : Channel). z.end) h.end) (ap (λ (z : Channel). z.records) h.end)
    (λ n i. subst (HaveNotes n) h.whole (h.room n i)) (λ n i. subst (HaveNotesLeft n) h.whole (h.left n i)))

pub put_end : (x u : Partners) (q c : ℕ) (g : End → Effect End (List Note)) (p w : Partner) → q < length x.list → c < CHANNELS → AreNumbered x → u.list ≡ x.list → Touches x q u.touched
    → p ≡ partner_at u.list q → AreNamed p.standing.own p.standing.partner p.channels → Calls g c p w
    → Becomes 1 x (peers_at q c (g (channel_of (partner_at x.list q) c).end) (map peer_seen x.list)) (notes_at q c (g (channel_of (partner_at x.list q) c).end)) (record u { list = set u.list q w })
put_end x u q c g p w l k numbered same touch e names h =
    let at : p ≡ partner_at x.list q = e ∙ ap (λ (xs : List Partner). partner_at xs q) same in
    subst (λ (xs : List Partner). Becomes 1 x (peers_at q c (g (channel_of (partner_at x.list q) c).end) (map peer_seen x.list)) (notes_at q c (g (channel_of (partner_at x.list q) c).end)) (record { list = set xs q w; touched = u.touched })) (sym same)
    (put_known x u.touched q c g w l k numbered touch
    (subst (λ (y : Partner). AreNamed y.standing.own y.standing.partner y.channels) at names)
    (subst (λ (y : Partner). Calls g c y w) at h))

-- an answer that is due is given
given_due : (o : Option LogAnswer) (v : Verb) (e : End) → IsSome o → given_if o v e ≡ answered_by v e
given_due None v e h = absurd (cc)
given_due (Some a) v e h = refl

pub give_end : (x u : Partners) (q c : ℕ) (v : Verb) (p w : Partner) → q < length x.list → c < CHANNELS → AreNumbered x → u.list ≡ x.list → Touches x q u.touched
    → p ≡ partner_at u.list q → AreNamed p.standing.own p.standing.partner p.channels → Calls (given v) c p w → IsSome (due_by v (channel_of (partner_at x.list q) c).end)
    → Becomes 1 x (peers_at q c (answered_by v (channel_of (partner_at x.list q) c).end) (map peer_seen x.list)) (notes_at q c (answered_by v (channel_of (partner_at x.list q) c).end)) (record u { list = set u.list q w })
give_end x u q c v p w l k numbered same touch e names h due =
    let end = (channel_of (partner_at x.list q) c).end in
    subst (λ (f : Effect End (List Note)). Becomes 1 x (peers_at q c f (map peer_seen x.list)) (notes_at q c f) (record u { list = set u.list q w })) (given_due (due_by v end) v end due)
    (put_end x u q c (given v) p w l k numbered same touch e names h)
