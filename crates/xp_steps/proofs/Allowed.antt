-- What a step that can be followed asks of what is kept.
use Rattle.std.proofs.Common.{◌≡◌, ℕ, ◌+◌, ◌-◌, ◌<◌, ◌≤◌, ◌^◌, Bool, true, length, refl, ap, sym, ◌∙◌, subst, arith, Option}
use Rattle.std.specs.Prelude.{◌||◌, nat_eq, nat_lt}
use Rattle.std.proofs.lemmas.Bool.{and_parts}
use Rattle.xp_base.specs.declared.layout.TheConstants.{CHANNELS, PARTS}
use Rattle.xp_base.specs.declared.step.Answer.{Answer}
use Rattle.xp_base.specs.declared.step.CopyKind.{CopyKind}
use Rattle.xp_base.specs.declared.step.CopyMark.{CopyMark}
use Rattle.xp_script.specs.declared.part.ScenarioPart.{ScenarioPart}
use Rattle.xp_protocol.specs.declared.rule.LinkRule.{LinkRule}
use Rattle.xp_protocol.specs.declared.rule.PeerRule.{PeerRule}
use Rattle.xp_protocol.specs.declared.rule.PeerRule.TheVariants.{AskActivation, TakeFlags, CloseArea, ZeroMagic, ClearOldBit, Prepare, OpenArea, SetEngagementBit, ReadRecord, StoreEcho, StoreSecond, ClearEngagementBit, LookAtPage, CheckBeat, ClearDeactivationBit, TellPartner}
use Rattle.xp_protocol.specs.declared.rule.OwnRule.{OwnRule}
use Rattle.xp_protocol.specs.declared.rule.OwnRule.TheVariants as owns
use Rattle.xp_protocol.specs.declared.rule.Rule.{Rule}
use Rattle.xp_protocol.specs.declared.rule.Rule.TheVariants.{Link, Peer as ForPeer, Own}
use Rattle.xp_protocol.specs.State.{State, Peer, Engage, End, Booting, Up, Halted, peer_of, end_of}
use Rattle.xp_protocol.specs.Peering.{Here, peer_can, is_prepared}
use Rattle.xp_protocol.specs.Linking.{link_can, link_row}
use Rattle.xp_protocol.specs.Rules.{life_for, peer_life, own_life, here_of, mark_of, begun_of}
use Rattle.xp_protocol.specs.Wanting.{mark_with}
use Rattle.xp_counts.specs.Counted.{AreCounted, ending}
use Rattle.xp_plan.proofs.Choices.{lt_is}
use Rattle.xp_engage.specs.Partner.{IsStorable, unmarked}
use Rattle.xp_channel.specs.Channel.{Channel}
use Rattle.xp_channel.specs.Planned.{MayFail, MayStep}
use Rattle.xp_channel.specs.Room.{HasRoom, IsCountable, needs_sides}
use Rattle.xp_partner.specs.Partner.{Partner, peer_seen, channel_of}
use Rattle.xp_partner.specs.Making.{MayTake}
use Rattle.xp_partner.specs.Room.{HasNotes}
use Rattle.xp_partner.proofs.Channels.{room_one}
use Rattle.xp_partition.specs.declared.keeping.Keeping.{Keeping}
use Rattle.xp_partition.specs.declared.life.Life.TheVariants as lives
use Rattle.xp_partition.specs.Life.{life_seen}
use Rattle.xp_partition.specs.Keeping.{state_of, IsKept}
use Rattle.xp_partition.specs.Partners.{partner_at, AllHaveNotes}
use Rattle.xp_partition.proofs.Asking.{peer_is, end_is}
use Rattle.xp_steps.specs.Changing.{MayLink, MayFollow}
use Rattle.xp_steps.specs.Stepping.{CanStep, HasSession}
use Rattle.xp_steps.proofs.Counts.{unmarked_for, begun_low}

-- counts
pub counted_below : (n : ℕ) → n ≤ 2 ^ 63 → n < 2 ^ 64 - 1
counted_below n h = let e : 2 ^ 63 ≡ 9223372036854775808 = refl in let f : 2 ^ 64 ≡ 18446744073709551616 = refl in omega (arith, h, e, f)

pub copies_low : (x : Keeping) (rule : Rule) → CanStep x rule → (kind : CopyKind) → begun_of kind x.clock.copies < 2 ^ 64 - 1
copies_low x rule h kind = counted_below (begun_of kind x.clock.copies) (begun_low (2 ^ 63) x.clock.copies h.counts.clock.copies kind)

pub puts_low : (x : Keeping) (rule : Rule) → CanStep x rule → x.clock.puts < 2 ^ 64 - 1
puts_low x rule h = counted_below x.clock.puts h.counts.clock.puts

pub turns_low : (x : Keeping) (rule : Rule) → CanStep x rule → x.clock.turns < 2 ^ 64 - 1
turns_low x rule h = counted_below x.clock.turns h.counts.clock.turns

more_below : (n m : ℕ) → n + m ≤ 2 ^ 63 → n < 2 ^ 64 - 1
more_below n m h = counted_below n (omega (arith, h))

end_counted : (st : State) (q c : ℕ) → AreCounted (2 ^ 63) st → IsCountable (end_of st q c)
end_counted st q c h =
    let k = (h.peers q).ends c in
    record { put = counted_below _ k.put; taken = counted_below _ k.taken; epoch = more_below (end_of st q c).epoch (ending (end_of st q c)) k.epochs; asked = counted_below _ k.closed_asked }

pub countable : (x : Keeping) (q c : ℕ) → AreCounted (2 ^ 63) (state_of x) → IsCountable (channel_of (partner_at x.partners.list q) c).end
countable x q c h = subst IsCountable (sym (end_is x q c)) (end_counted (state_of x) q c h)

-- partners by their numbers
pub within : (x : Keeping) (q : ℕ) → IsKept x → q < x.part.count → q < length x.partners.list
within x q k l = subst (λ (n : ℕ). q < n) (sym k.count) l

pub few : (x : Keeping) → IsKept x → length x.partners.list ≤ PARTS
few x k = subst (λ (n : ℕ). n ≤ PARTS) (sym k.count) k.lawful.count

part_low : (s : ScenarioPart) (q : ℕ) → s.count ≤ PARTS → q < s.count → q < PARTS
part_low s q h l = omega (arith, h, l)

pub link_partner : (x : Keeping) (q c : ℕ) (m : LinkRule) → CanStep x (Link q c m) → q < x.part.count
link_partner x q c m h = h.can.1.0.peer.0

pub link_channel : (x : Keeping) (q c : ℕ) (m : LinkRule) → CanStep x (Link q c m) → c < CHANNELS
link_channel x q c m h = h.can.1.0.peer.2

pub link_known : (x : Keeping) (q c : ℕ) (m : LinkRule) → CanStep x (Link q c m) → q < PARTS
link_known x q c m h = part_low x.part q h.kept.lawful.count (link_partner x q c m h)

pub link_within : (x : Keeping) (q c : ℕ) (m : LinkRule) → CanStep x (Link q c m) → q < length x.partners.list
link_within x q c m h = within x q h.kept (link_partner x q c m h)

pub peer_partner : (x : Keeping) (q : ℕ) (m : PeerRule) → CanStep x (ForPeer q m) → q < x.part.count
peer_partner x q m h = h.can.1.0.low

pub peer_known : (x : Keeping) (q : ℕ) (m : PeerRule) → CanStep x (ForPeer q m) → q < PARTS
peer_known x q m h = part_low x.part q h.kept.lawful.count (peer_partner x q m h)

pub peer_within : (x : Keeping) (q : ℕ) (m : PeerRule) → CanStep x (ForPeer q m) → q < length x.partners.list
peer_within x q m h = within x q h.kept (peer_partner x q m h)

-- what the step of a rule at an end asks
pub link_allowed : (x : Keeping) (q c : ℕ) (m : LinkRule) → CanStep x (Link q c m) → link_can (channel_of (partner_at x.partners.list q) c).end m
link_allowed x q c m h = subst (λ (e : End). link_can e m) (sym (end_is x q c)) h.can.1.1

pub link_room : (x : Keeping) (q c : ℕ) (m : LinkRule) → CanStep x (Link q c m) → AllHaveNotes 1 x.partners → HasRoom (channel_of (partner_at x.partners.list q) c)
link_room x q c m h r = room_one (channel_of (partner_at x.partners.list q) c) (r q (link_within x q c m h) c (link_channel x q c m h))

pub link_counts : (x : Keeping) (q c : ℕ) (m : LinkRule) → CanStep x (Link q c m) → IsCountable (channel_of (partner_at x.partners.list q) c).end
link_counts x q c m h = countable x q c h.counts

link_marked : (x : Keeping) (q c : ℕ) (m : LinkRule) (mark : Option CopyMark) → CanStep x (Link q c m) → mark ≡ mark_of x.part (state_of x) (Link q c m)
    → unmarked mark ≡ mark_with 0 (link_row (partner_at x.partners.list q).standing.own (partner_at x.partners.list q).standing.partner c (channel_of (partner_at x.partners.list q) c).end m).copy
link_marked x q c m mark h e =
    let k = h.kept.standing q (link_partner x q c m h) in
    let p = partner_at x.partners.list q in
    ap unmarked e
    ∙ unmarked_for (state_of x) (Link q c m) (link_row x.part.part q c (end_of (state_of x) q c) m).copy
    ∙ ap (λ (y : End). mark_with 0 (link_row x.part.part q c y m).copy) (sym (end_is x q c))
    ∙ ap (λ (n : ℕ). mark_with 0 (link_row n q c (channel_of p c).end m).copy) (sym k.own)
    ∙ ap (λ (n : ℕ). mark_with 0 (link_row p.standing.own n c (channel_of p c).end m).copy) (sym k.partner)

pub may_link : (x : Keeping) (q c : ℕ) (m : LinkRule) (mark : Option CopyMark) (a : Answer) → CanStep x (Link q c m) → mark ≡ mark_of x.part (state_of x) (Link q c m) → MayFail mark a → AllHaveNotes 1 x.partners
    → MayLink c m mark a (partner_at x.partners.list q)
may_link x q c m mark a h e f r = record {
  can = link_allowed x q c m h;
  marked = link_marked x q c m mark h e;
  load = f;
  counts = countable x q c h.counts;
  room = r q (link_within x q c m h) c (link_channel x q c m h);
  asks = subst (λ (y : End). MayStep y m) (sym (end_is x q c)) h.accepts;
}

-- and one for a partner
session_left : (x : Engage) → is_prepared x ≡ true → x.count < 2 ^ 32 - 1
session_left x h =
    let a = and_parts x.session_put _ h in
    let b = and_parts x.echo_put _ a.1 in
    let d = and_parts x.flags_put _ b.1 in
    let e = and_parts (nat_eq x.counters_put 255) _ d.1 in
    let f = and_parts (nat_lt x.count 4294967295) _ e.1 in
    lt_is x.count 4294967295 f.0

storable_by : (y : Here) (p : Peer) (m : PeerRule) (st : State) (q : ℕ) (x : Partner) → peer_seen x ≡ p → peer_of st q ≡ p → peer_can y p m → HasSession st (ForPeer q m) → IsStorable x.standing m
storable_by y p AskActivation st q x e f can session = tt
storable_by y p TakeFlags st q x e f can session = tt
storable_by y p CloseArea st q x e f can session = tt
storable_by y p ZeroMagic st q x e f can session = tt
storable_by y p ClearOldBit st q x e f can session = tt
storable_by y p (Prepare word) st q x e f can session = (can.1, subst (λ (z : Peer). z.engage.count < 2 ^ 32 - 1) (f ∙ sym e) session)
storable_by y p OpenArea st q x e f can session = subst (λ (z : Peer). z.engage.count < 2 ^ 32 - 1) (sym e) (session_left p.engage can.1)
storable_by y p SetEngagementBit st q x e f can session = tt
storable_by y p ReadRecord st q x e f can session = tt
storable_by y p StoreEcho st q x e f can session = tt
storable_by y p StoreSecond st q x e f can session = tt
storable_by y p ClearEngagementBit st q x e f can session = tt
storable_by y p LookAtPage st q x e f can session = tt
storable_by y p CheckBeat st q x e f can session = tt
storable_by y p ClearDeactivationBit st q x e f can session = tt
storable_by y p TellPartner st q x e f can session = tt

pub storable : (x : Keeping) (q : ℕ) (m : PeerRule) → CanStep x (ForPeer q m) → IsStorable (partner_at x.partners.list q).standing m
storable x q m h = storable_by (here_of x.part (state_of x) q) (peer_of (state_of x) q) m (state_of x) q (partner_at x.partners.list q) (peer_is x q) refl h.can.1.1 h.session

-- flags may be taken where there is room
left_of : (e : End) → e.shake.sent.open_complete ≡ true → needs_sides e ≡ true
left_of e h = ap (λ (b : Bool). b || e.shake.sent.open_reply) h

may_take : (z : Channel) → IsCountable z.end → HasNotes 1 z → MayTake z
may_take z c h = record { epoch = c.epoch; ready = λ k. h.ready (left_of z.end k); next = λ k. omega (arith, h.next k) }

pub may_follow : (x : Keeping) (q : ℕ) (m : PeerRule) → CanStep x (ForPeer q m) → AllHaveNotes 1 x.partners → MayFollow m (partner_at x.partners.list q)
may_follow x q m h r = record {
  storable = storable x q m h;
  flags = λ e c l. may_take (channel_of (partner_at x.partners.list q) c) (countable x q c h.counts) (r q (peer_within x q m h) c l);
}

-- the life in which a step is permitted
peer_lives : (m : PeerRule) → peer_life m ≡ Halted → ⊥
peer_lives AskActivation h = cc
peer_lives TakeFlags h = cc
peer_lives CloseArea h = cc
peer_lives ZeroMagic h = cc
peer_lives ClearOldBit h = cc
peer_lives (Prepare word) h = cc
peer_lives OpenArea h = cc
peer_lives SetEngagementBit h = cc
peer_lives ReadRecord h = cc
peer_lives StoreEcho h = cc
peer_lives StoreSecond h = cc
peer_lives ClearEngagementBit h = cc
peer_lives LookAtPage h = cc
peer_lives CheckBeat h = cc
peer_lives ClearDeactivationBit h = cc
peer_lives TellPartner h = cc

own_lives : (m : OwnRule) → own_life m ≡ Halted → ⊥
own_lives owns.ReadEngaged h = cc
own_lives owns.TakeDeactivation h = cc
own_lives owns.ReadStamp h = cc
own_lives owns.ZeroMask h = cc
own_lives owns.ZeroOffline h = cc
own_lives owns.WriteStamp h = cc
own_lives owns.StoreMask h = cc
own_lives owns.TakeActivation h = cc
own_lives owns.StoreBeat h = cc
own_lives owns.StoreOffline h = cc

never_halted : (r : Rule) → life_for r ≡ Halted → ⊥
never_halted (Link q c m) h = cc
never_halted (ForPeer q m) h = peer_lives m h
never_halted (Own m) h = own_lives m h

pub not_halted : (x : Keeping) (rule : Rule) (word : ℕ) → CanStep x rule → x.life ≡ lives.Halted word → ⊥
not_halted x rule word h e = never_halted rule (sym h.can.0 ∙ ap life_seen e)

pub up_boots_not : (x : Keeping) → (state_of x).life ≡ Up → x.life ≡ lives.Booting → ⊥
up_boots_not x h e = let b : Booting ≡ Up = sym (ap life_seen e) ∙ h in cc
