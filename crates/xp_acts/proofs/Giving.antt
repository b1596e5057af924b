-- One notice is given.
use Rattle.std.proofs.Common.{◌≡◌, ℕ, ◌+◌, ◌<◌, ◌≤◌, true, true≢false, List, [], ◌∷◌, length, map, set, refl, ap, sym, ◌∙◌, subst, arith, Option, Some, None}
use Rattle.std.specs.Prelude.{IfSome}
use Rattle.std.proofs.lemmas.List.{set-get_or}
use Rattle.xp_base.specs.declared.layout.TheConstants.{CHANNELS}
use Rattle.xp_base.specs.Masks.{has}
use Rattle.xp_base.specs.History.{NoticeKind, Delivered, Ended, Noticed}
use Rattle.xp_protocol.specs.Effects.{Effect, Note}
use Rattle.xp_protocol.specs.State.{End, Shake}
use Rattle.xp_protocol.specs.Acts.{below, first_number, without_first, notice_due, end_noticed, after_act, noted_act}
use Rattle.xp_channel.specs.Channel.{Channel, kept, called}
use Rattle.xp_channel.specs.Answering.{noticed, noticed_if}
use Rattle.xp_partner.specs.Named.{AreNamed}
use Rattle.xp_partner.specs.Partner.{Partner, peer_seen, channel_of, with_channel}
use Rattle.xp_partner.specs.Room.{HasNotesLeft, HaveNotes, HaveNotesLeft}
use Rattle.xp_partner.proofs.Channels.{fewer_notes, fewer_left, room_left}
use Rattle.xp_channel.specs.Room.{HasRoom}
use Rattle.xp_partition.specs.declared.keeping.Keeping.{Keeping}
use Rattle.xp_partition.specs.Life.{life_seen}
use Rattle.xp_partition.specs.Partners.{no_partner, partner_at, with_partner}
use Rattle.xp_partition.specs.Keeping.{state_of}
use Rattle.xp_partition.proofs.Asking.{end_is}
use Rattle.xp_partition.proofs.Roomy.{same_at, other_at, at_or}
use Rattle.xp_acts.specs.Becoming.{Becomes}
use Rattle.xp_acts.specs.Ends.{peers_at, notes_at}
use Rattle.xp_acts.specs.Noticing.{channel_in, waiting_at, ended_at, Notices, CanNoticeAt}
use Rattle.xp_acts.proofs.Becoming.{other_channel, once}
use Rattle.xp_acts.proofs.Begun.{numbered}
use Rattle.xp_acts.proofs.AtEnds.{Calls, put_known}

-- a number that waits is told, and isn't waiting any more
fewer_below : (get : ℕ) (xs : List ℕ) (n : ℕ) → below get xs ≡ Some n → length (without_first xs) + 1 ≡ length xs
fewer_below get [] n h = absurd (cc)
fewer_below get (x ∷ xs) n h = omega arith

fewer_first : (xs : List ℕ) (n : ℕ) → first_number xs ≡ Some n → length (without_first xs) + 1 ≡ length xs
fewer_first [] n h = absurd (cc)
fewer_first (x ∷ xs) n h = omega arith

-- no other notice falls due
none_more : (how other : NoticeKind) (n : ℕ) (e : End) → notice_due how e ≡ Some n → notice_due other e ≡ None → notice_due other (end_noticed how n e).local ≡ None
none_more Delivered Delivered n e h k = absurd (cc)
none_more Delivered Ended n e h k = k
none_more Ended Delivered n e h k = k
none_more Ended Ended n e h k = absurd (cc)

same_shake : (how : NoticeKind) (n : ℕ) (e : End) → (end_noticed how n e).local.shake ≡ e.shake
same_shake Delivered n e = refl
same_shake Ended n e = refl

-- what a notice that is due makes of an end
noticed_due : (how : NoticeKind) (n : ℕ) (e : End) → notice_due how e ≡ Some n → noticed how e ≡ end_noticed how n e
noticed_due how n e h = ap (λ (o : Option ℕ). noticed_if o how e) h

-- an end gives a notice, which pays for the number that doesn't wait any more
pub record Tells (how : NoticeKind) (c : ℕ) (p w : Partner) : Type 0 where
  pub calls : Calls (noticed how) c p w
  pub pays : (channel_of p c).room.calls + length (channel_of w c).end.sides.pending_notices
      ≤ (channel_of w c).room.calls + length (channel_of p c).end.sides.pending_notices

tells_end : (how : NoticeKind) (c n : ℕ) (p w : Partner) → notice_due how (channel_of p c).end ≡ Some n → Tells how c p w → (channel_of w c).end ≡ (end_noticed how n (channel_of p c).end).local
tells_end how c n p w h t = ap (λ (z : Channel). z.end) t.calls.end ∙ ap (λ (f : Effect End (List Note)). f.local) (noticed_due how n (channel_of p c).end h)

tells_room : (how : NoticeKind) (c n more : ℕ) (p w : Partner) → notice_due how (channel_of p c).end ≡ Some n → Tells how c p w
    → HasNotesLeft (more + length (channel_of p c).end.sides.pending_notices) (channel_of p c) → HasNotesLeft (more + length (channel_of w c).end.sides.pending_notices) (channel_of w c)
tells_room how c n more p w h t r =
    let sent : (channel_of w c).end.shake.sent.open_complete ≡ true → (channel_of p c).end.shake.sent.open_complete ≡ true =
    λ k. sym (ap (λ (e : End). e.shake.sent.open_complete) (tells_end how c n p w h t) ∙ ap (λ (s : Shake). s.sent.open_complete) (same_shake how n (channel_of p c).end)) ∙ k in
    record {
      ready = λ k. ap (λ (z : Channel). z.room.ready) t.calls.end ∙ r.ready (sent k);
      calls = λ k. omega (arith, t.pays, r.calls (sent k));
      ends = λ k. omega (arith, ap (λ (z : Channel). z.room.ends) t.calls.end, r.ends (sent k));
    }

tells_stays : (how other : NoticeKind) (c n : ℕ) (p w : Partner) → notice_due how (channel_of p c).end ≡ Some n → Tells how c p w → notice_due other (channel_of p c).end ≡ None → notice_due other (channel_of w c).end ≡ None
tells_stays how other c n p w h t k = ap (notice_due other) (tells_end how c n p w h t) ∙ none_more how other n (channel_of p c).end h k

-- what holds of each end of the partners then
module _ (x : Keeping) (q c : ℕ) (w : Partner) (can : CanNoticeAt q x) (low : c < CHANNELS)
    (names : AreNamed (partner_at x.partners.list q).standing.own (partner_at x.partners.list q).standing.partner (partner_at x.partners.list q).channels) where
  known : q < length x.partners.list
  known = subst (λ (n : ℕ). q < n) (sym can.can.kept.count) can.number

  pub at_channel : (P : ℕ → ℕ → Channel → Type 0) → w ≡ with_channel c (channel_of w c) (partner_at x.partners.list q) → P q c (channel_of w c) → ((i j : ℕ) → P i j (channel_in x i j)) → (i j : ℕ) → P i j (channel_of (partner_at (set x.partners.list q w) i) j)
  at_channel P whole new old i j = at_or (λ a. P a j (channel_of (partner_at (set x.partners.list q w) a) j)) q
      (subst (λ (p : Partner). P q j (channel_of p j)) (sym (same_at x.partners.list q w known)) here)
      (λ a d. subst (λ (p : Partner). P a j (channel_of p j)) (sym (other_at x.partners.list q a w d)) (old a j)) i where
        here : P q j (channel_of w j)
        here = at_or (λ b. P q b (channel_of w b)) c new
            (λ b d. subst (λ (p : Partner). P q b (channel_of p b)) (sym whole)
            (subst (λ (z : Channel). P q b z) (sym (other_channel (partner_at x.partners.list q).channels c b (channel_of w c) d)) (old q b))) j

  given_becomes : (how : NoticeKind) (n : ℕ) → notice_due how (channel_in x q c).end ≡ Some n → Tells how c (partner_at x.partners.list q) w
      → Becomes 1 x.partners (after_act x.part (state_of x) (Noticed q c n how)).peers (noted_act x.part (state_of x) (Noticed q c n how)) (with_partner q w x.partners)
  given_becomes how n h t =
      subst (λ (f : Effect End (List Note)). Becomes 1 x.partners (peers_at q c f (map peer_seen x.partners.list)) (notes_at q c f) (with_partner q w x.partners))
      (noticed_due how n (channel_in x q c).end h ∙ ap (end_noticed how n) (end_is x q c))
      (put_known x.partners x.partners.touched q c (noticed how) w known low (numbered x can.can.kept) (can.touched, λ i l d. refl) names t.calls)

  pub gives_notice : (how : NoticeKind) (n : ℕ) → notice_due how (channel_in x q c).end ≡ Some n → Tells how c (partner_at x.partners.list q) w → Notices x (record x { partners = with_partner q w x.partners })
  gives_notice how n h t = record {
    gives = record {
      notices = Noticed q c n how ∷ [];
      only = (tt, tt);
      acts = once 1 x (Noticed q c n how) (with_partner q w x.partners) x.script can.can.kept
          (ap life_seen can.can.up, (can.number, low, sym (ap (notice_due how) (end_is x q c)) ∙ h)) refl (given_becomes how n h t);
    };
    life = refl;
    touched = refl;
    untouched = λ i l f. other_at x.partners.list q i w (λ e. true≢false (sym can.touched ∙ (sym (ap (has x.partners.touched) e) ∙ f)));
    stays = λ i j other. at_channel (λ a b z. notice_due other (channel_in x a b).end ≡ None → notice_due other z.end ≡ None) t.calls.whole
        (tells_stays how other c n (partner_at x.partners.list q) w h t) (λ a b k. k) i j;
    room = λ i j more k. at_channel (λ a b z. HasNotesLeft (more + waiting_at x a b) (channel_in x a b) → HasNotesLeft (more + length z.end.sides.pending_notices) z) t.calls.whole
        (tells_room how c n more (partner_at x.partners.list q) w h t) (λ a b r. r) i j;
  }

-- room for the next notice
pub room_at : (q c : ℕ) (x : Keeping) → CanNoticeAt q x → c < CHANNELS → HasRoom (channel_in x q c)
room_at q c x h k = room_left (waiting_at x q c) (channel_in x q c)
    (subst (λ (n : ℕ). HasNotesLeft n (channel_in x q c)) (turned (waiting_at x q c)) (h.can.room q c h.number k)) where
      turned : (n : ℕ) → 1 + n ≡ n + 1
      turned n = omega arith

-- where nothing is given nothing changes
pub same_kept : (x : Keeping) (q : ℕ) (w : Partner) → w ≡ partner_at x.partners.list q → record x { partners = with_partner q w x.partners } ≡ x
same_kept x q w h = ap (λ (xs : List Partner). record x { partners = record x.partners { list = xs } })
    (ap (set x.partners.list q) h ∙ set-get_or x.partners.list q no_partner)

-- what an end tells of deliveries pays a note
delivered_end : (c n : ℕ) (p w : Partner) → notice_due Delivered (channel_of p c).end ≡ Some n → Calls (noticed Delivered) c p w → (channel_of w c).end.sides.pending_notices ≡ without_first (channel_of p c).end.sides.pending_notices
delivered_end c n p w h k = ap (λ (z : Channel). z.end.sides.pending_notices) k.end ∙ ap (λ (f : Effect End (List Note)). f.local.sides.pending_notices) (noticed_due Delivered n (channel_of p c).end h)

fewer_waiting : (c n : ℕ) (p w : Partner) → notice_due Delivered (channel_of p c).end ≡ Some n → Calls (noticed Delivered) c p w → length (channel_of w c).end.sides.pending_notices + 1 ≡ length (channel_of p c).end.sides.pending_notices
fewer_waiting c n p w h k =
    ap (λ (xs : List ℕ). length xs + 1) (delivered_end c n p w h k)
    ∙ fewer_below (channel_of p c).end.sides.send.remote_get (channel_of p c).end.sides.pending_notices n h

tells_delivered : (c n : ℕ) (p w : Partner) → notice_due Delivered (channel_of p c).end ≡ Some n → Calls (noticed Delivered) c p w → (channel_of p c).room.calls ≤ (channel_of w c).room.calls + 1 → Tells Delivered c p w
tells_delivered c n p w h k l = record { calls = k; pays = omega (arith, l, fewer_waiting c n p w h k) }

-- what it tells of ends of connections pays nothing
pub record Ends (c : ℕ) (p w : Partner) : Type 0 where
  pub whole : w ≡ with_channel c (channel_of w c) p
  pub end : channel_of w c ≡ kept (noticed Ended (channel_of p c).end) (channel_of p c)
  pub room : (n : ℕ) → HaveNotes n p → HaveNotes n w
  pub left : (n : ℕ) → HaveNotesLeft n p → HaveNotesLeft n w

ended_calls : (c : ℕ) (p w : Partner) → Ends c p w → Calls (noticed Ended) c p w
ended_calls c p w h = record {
  whole = h.whole;
  end = h.end ∙ ap (λ (z : Channel). called (kept (noticed Ended (channel_of p c).end) (channel_of p c)) z) (sym h.end);
  room = λ n i. h.room n (λ d k. fewer_notes n (channel_of p d) (i d k));
  left = λ n i. h.left n (λ d k. fewer_left n (channel_of p d) (i d k));
}

ended_end : (c n : ℕ) (p w : Partner) → notice_due Ended (channel_of p c).end ≡ Some n → Ends c p w → (channel_of w c).end ≡ (end_noticed Ended n (channel_of p c).end).local
ended_end c n p w h k = ap (λ (z : Channel). z.end) k.end ∙ ap (λ (f : Effect End (List Note)). f.local) (noticed_due Ended n (channel_of p c).end h)

tells_ended : (c n : ℕ) (p w : Partner) → notice_due Ended (channel_of p c).end ≡ Some n → Ends c p w → Tells Ended c p w
tells_ended c n p w h k =
    let same = ap (λ (e : End). length e.sides.pending_notices) (ended_end c n p w h k) in
    let calls = ap (λ (z : Channel). z.room.calls) k.end in
    record { calls = ended_calls c p w k; pays = omega (arith, same, calls) }

-- the partner that is lent, and what is told of it
pub record Lent (x : Keeping) (q c : ℕ) (p : Partner) : Type 0 where
  pub can : CanNoticeAt q x
  pub low : c < CHANNELS
  pub at : p ≡ partner_at x.partners.list q
  pub names : AreNamed p.standing.own p.standing.partner p.channels

told : (how : NoticeKind) (n : ℕ) (x : Keeping) (q c : ℕ) (p w : Partner) → Lent x q c p → notice_due how (channel_of p c).end ≡ Some n → Tells how c p w → Notices x (record x { partners = with_partner q w x.partners })
told how n x q c p w l h t = gives_notice x q c w l.can l.low
    (subst (λ (y : Partner). AreNamed y.standing.own y.standing.partner y.channels) l.at l.names) how n
    (subst (λ (y : Partner). notice_due how (channel_of y c).end ≡ Some n) l.at h)
    (subst (λ (y : Partner). Tells how c y w) l.at t)

pub delivers : (o : Option ℕ) (x : Keeping) (q c : ℕ) (p w : Partner) → Lent x q c p → o ≡ notice_due Delivered (channel_of p c).end → Calls (noticed Delivered) c p w → (channel_of p c).room.calls ≤ (channel_of w c).room.calls + 1
    → IfSome o (λ n. Notices x (record x { partners = with_partner q w x.partners }))
delivers None x q c p w l h k r = tt
delivers (Some n) x q c p w l h k r = told Delivered n x q c p w l (sym h) (tells_delivered c n p w (sym h) k r)

pub ends : (o : Option ℕ) (x : Keeping) (q c : ℕ) (p w : Partner) → Lent x q c p → o ≡ notice_due Ended (channel_of p c).end → Ends c p w
    → IfSome o (λ n. Notices x (record x { partners = with_partner q w x.partners }))
ends None x q c p w l h k = tt
ends (Some n) x q c p w l h k = told Ended n x q c p w l (sym h) (tells_ended c n p w (sym h) k)

-- one number fewer waits
at_put : (x : Keeping) (q c : ℕ) (p w : Partner) → Lent x q c p → channel_in (record x { partners = with_partner q w x.partners }) q c ≡ channel_of w c
at_put x q c p w l = ap (λ (y : Partner). channel_of y c) (same_at x.partners.list q w (subst (λ (n : ℕ). q < n) (sym l.can.can.kept.count) l.can.number))

pub fewer_delivered : (o : Option ℕ) (x : Keeping) (q c : ℕ) (p w : Partner) → Lent x q c p → o ≡ notice_due Delivered (channel_of p c).end → Calls (noticed Delivered) c p w
    → IfSome o (λ n. waiting_at (record x { partners = with_partner q w x.partners }) q c < waiting_at x q c)
fewer_delivered None x q c p w l h k = tt
fewer_delivered (Some n) x q c p w l h k =
    let new = ap (λ (z : Channel). length z.end.sides.pending_notices) (at_put x q c p w l) in
    let old = ap (λ (y : Partner). length (channel_of y c).end.sides.pending_notices) l.at in
    omega (arith, new, old, fewer_waiting c n p w (sym h) k)

pub fewer_ended : (o : Option ℕ) (x : Keeping) (q c : ℕ) (p w : Partner) → Lent x q c p → o ≡ notice_due Ended (channel_of p c).end → Ends c p w
    → IfSome o (λ n. ended_at (record x { partners = with_partner q w x.partners }) q c < ended_at x q c)
fewer_ended None x q c p w l h k = tt
fewer_ended (Some n) x q c p w l h k =
    let new = ap (λ (z : Channel). length z.end.ended) (at_put x q c p w l) in
    let old = ap (λ (y : Partner). length (channel_of y c).end.ended) l.at in
    let left = ap (λ (e : End). length e.ended) (ended_end c n p w (sym h) k) in
    omega (arith, new, old, left, fewer_first (channel_of p c).end.ended n (sym h))

pub ruleset giving = (same_kept, room_at)
