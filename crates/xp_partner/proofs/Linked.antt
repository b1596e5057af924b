-- What a step at one end makes of a partner is what the definitions say of it.
use Rattle.std.proofs.Common.{◌≡◌, ℕ, ◌<◌, List, length, Option, Some, None, refl, ap, sym, ◌∙◌, map, set, get_or}
use Rattle.std.proofs.lemmas.List.{map-set}
use Rattle.std.proofs.Math.ListN.{get_or-map}
use Rattle.xp_base.specs.declared.layout.TheConstants.{CHANNELS}
use Rattle.xp_base.specs.declared.reason.Reason.{Reason}
use Rattle.xp_base.specs.declared.step.Answer.{Answer}
use Rattle.xp_base.specs.declared.step.Answer.TheVariants.{Word, Failed}
use Rattle.xp_base.specs.declared.step.CopyKind.{CopyKind}
use Rattle.xp_base.specs.declared.step.CopyMark.{CopyMark}
use Rattle.xp_base.specs.Places.{Entry, index_of}
use Rattle.xp_protocol.specs.declared.rule.LinkRule.{LinkRule}
use Rattle.xp_protocol.specs.Effects.{Effect, Note}
use Rattle.xp_protocol.specs.State.{End, Peer, link_at, set_link}
use Rattle.xp_protocol.specs.Linking.{link_effect}
use Rattle.xp_protocol.specs.Peering.{with_reason, end_reason}
use Rattle.xp_protocol.specs.Rules.{link_answered, numbered, end_failed, copy_error}
use Rattle.xp_engage.specs.Partner.{unmarked}
use Rattle.xp_channel.specs.Channel.{Channel, new_channel, kept, roomed}
use Rattle.xp_channel.specs.Planned.{answered, rule_mark}
use Rattle.xp_partner.specs.Named.{AreNamed}
use Rattle.xp_partner.specs.Partner.{Partner, peer_seen, channel_of, channel_at, end_seen, with_channel}
use Rattle.xp_partner.specs.Stepping.{link_made, link_effect_on, link_stepped, reason_by}

links_set : (xs : List Channel) (c : ℕ) (y : Channel) → map end_seen (set xs c y) ≡ set (map end_seen xs) c y.end
links_set xs c y = map-set end_seen xs c y

link_is : (xs : List Channel) (c : ℕ) → link_at (map end_seen xs) c ≡ (channel_at xs c).end
link_is xs c = get_or-map end_seen xs c (new_channel 0 0 0)

pub channel_known : (c : ℕ) (ch : Channel) (x : Partner) → peer_seen (with_channel c ch x) ≡ set_link (peer_seen x) c ch.end
channel_known c ch x = ap (λ (links : List End). record (peer_seen x) { links = links }) (links_set x.channels c ch)

-- a failed load ends the copy of its kind, whatever its number
same_failed : (mark : Option CopyMark) (e : End) → end_failed (unmarked mark) e ≡ end_failed mark e
same_failed None e = refl
same_failed (Some mark) e = refl

effect_by : (mark : Option CopyMark) (place : ℕ) (e : End) (m : LinkRule) (a : Answer) → (link_answered (unmarked mark) place e m a).local ≡ (link_answered mark place e m a).local
effect_by mark place e m (Word w) = refl
effect_by mark place e m Failed = same_failed mark e

reason_same : (mark : Option CopyMark) (place : ℕ) (e : End) (m : LinkRule) (a : Answer) → reason_by mark a (link_answered (unmarked mark) place e m a).reason ≡ (link_answered mark place e m a).reason
reason_same mark place e m (Word w) = refl
reason_same mark place e m Failed = refl

-- the end's effect is that of the partner
abbrev at_end : ℕ → ℕ → Option CopyMark → LinkRule → Answer → End → Effect End (List Note)
at_end own c mark m a e = link_answered mark (index_of (Entry own c 0)) e m a

answered_at : (own q c : ℕ) (mark : Option CopyMark) (m : LinkRule) (a : Answer) (x : Partner) → c < CHANNELS → AreNamed own q x.channels → unmarked mark ≡ rule_mark (channel_of x c) m → answered (channel_of x c) m a ≡ at_end own c (unmarked mark) m a (channel_of x c).end
answered_at own q c mark m a x l h e =
    let n = h.each c l in
    ap (λ (o : Option CopyMark). link_answered o (index_of (Entry (channel_of x c).own (channel_of x c).channel 0)) (channel_of x c).end m a) (sym e)
    ∙ ap (λ (k : ℕ). link_answered (unmarked mark) (index_of (Entry k (channel_of x c).channel 0)) (channel_of x c).end m a) n.own_number
    ∙ ap (λ (k : ℕ). at_end own k (unmarked mark) m a (channel_of x c).end) n.channel_number

abbrev made_by : ℕ → Option CopyMark → Partner → End → Option Reason → Peer
made_by c mark x e r = with_reason (end_reason x.standing.flags_seen r) (set_link (numbered mark c (peer_seen x)) c e)

pub link_known : (own q c : ℕ) (mark : Option CopyMark) (m : LinkRule) (a : Answer) (ch : Channel) (x : Partner) → c < CHANNELS → AreNamed own q x.channels → unmarked mark ≡ rule_mark (channel_of x c) m → ch ≡ roomed (kept (answered (channel_of x c) m a) (channel_of x c)) ch → peer_seen (link_stepped c mark m a ch x) ≡ link_made own c mark (peer_seen x) m a
link_known own q c mark m a ch x l h u e =
    let old = (channel_of x c).end in
    let ans = answered_at own q c mark m a x l h u in
    let r = reason_by mark a (answered (channel_of x c) m a).reason in
    ap (λ (links : List End). record (made_by c mark x ch.end r) { links = links }) (links_set x.channels c ch)
    ∙ ap (λ (y : End). made_by c mark x y r) (ap (λ (z : Channel). z.end) e ∙ ap (λ (f : Effect End (List Note)). f.local) ans ∙ effect_by mark (index_of (Entry own c 0)) old m a)
    ∙ ap (λ (o : Option Reason). made_by c mark x (at_end own c mark m a old).local o) (ap (λ (f : Effect End (List Note)). reason_by mark a f.reason) ans ∙ reason_same mark (index_of (Entry own c 0)) old m a)
    ∙ ap (λ (y : End). made_by c mark x (at_end own c mark m a y).local (at_end own c mark m a y).reason) (sym (link_is x.channels c))
