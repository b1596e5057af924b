-- Notices, one after the other.
use Rattle.std.proofs.Common.{◌≡◌, ℕ, ◌+◌, ◌<◌, ◌≤◌, Bool, false, true≢false, length, refl, ap, sym, ◌∙◌, subst, arith, Option, Some, None}
use Rattle.std.specs.Prelude.{not, is_some, IfSome}
use Rattle.xp_base.specs.declared.layout.TheConstants.{CHANNELS, LINES}
use Rattle.xp_base.specs.Masks.{has}
use Rattle.xp_base.specs.History.{NoticeKind, Delivered, Ended}
use Rattle.xp_script.specs.declared.part.ScenarioPart.{ScenarioPart}
use Rattle.xp_protocol.specs.State.{End}
use Rattle.xp_protocol.specs.Acts.{notice_due}
use Rattle.xp_channel.specs.Channel.{Channel}
use Rattle.xp_partner.specs.Room.{HasNotesLeft}
use Rattle.xp_partition.specs.declared.keeping.Keeping.{Keeping}
use Rattle.xp_partition.specs.declared.life.Life.TheVariants.{Up}
use Rattle.xp_partition.specs.Partners.{AllHaveNotesLeft, LeavesUntouched}
use Rattle.xp_partition.specs.Keeping.{IsKept}
use Rattle.xp_partition.proofs.Asking.{end_is}
use Rattle.xp_partition.proofs.Roomy.{at_or}
use Rattle.xp_acts.specs.Noticing.{channel_in, waiting_at, AreNoticed, AreNoticedButTouched, IsNoticedAt, AreFew, Notices, CanNotice, CanNoticeAt}
use Rattle.xp_acts.proofs.Composing.{gives_none, gives_then}

pub notices_none : (x : Keeping) → IsKept x → Notices x x
notices_none x h = record {
  gives = gives_none x h;
  life = refl;
  touched = refl;
  untouched = λ q l f. refl;
  stays = λ q c how k. k;
  room = λ q c more k r. r;
}

pub notices_then : (x y z : Keeping) → Notices x y → Notices y z → Notices x z
notices_then x y z a b = record {
  gives = gives_then x y z a.gives b.gives;
  life = b.life ∙ a.life;
  touched = b.touched ∙ a.touched;
  untouched = λ q l f. b.untouched q l (ap (λ (t : ℕ). has t q) a.touched ∙ f) ∙ a.untouched q l f;
  stays = λ q c how k. b.stays q c how (a.stays q c how k);
  room = λ q c more k r. b.room q c more k (a.room q c more k r);
}

pub part_same : (x y : Keeping) → Notices x y → y.part ≡ x.part
part_same x y h = h.gives.acts.part

pub still_can : (x y : Keeping) → Notices x y → CanNotice x → CanNotice y
still_can x y n h = record {
  kept = n.gives.acts.kept;
  up = n.life ∙ h.up;
  room = λ q c l k. n.room q c 1 k (h.room q c (subst (λ (s : ScenarioPart). q < s.count) (part_same x y n) l) k);
}

pub still_can_at : (q : ℕ) (x y : Keeping) → Notices x y → CanNoticeAt q x → CanNoticeAt q y
still_can_at q x y n h = record {
  can = still_can x y n h.can;
  number = subst (λ (s : ScenarioPart). q < s.count) (sym (part_same x y n)) h.number;
  touched = ap (λ (t : ℕ). has t q) n.touched ∙ h.touched;
}

-- one that was given
pub given_some : {A : Type 0} (P : Type 0) (o : Option A) (b : Bool) → is_some o ≡ not b → b ≡ false → IfSome o (λ a. P) → P
given_some P None b h f k = absurd (true≢false (sym (h ∙ ap not f)))
given_some P (Some a) b h f k = k

-- the channels of a partner, one after the other
abbrev pub AreToldBelow : ℕ → ℕ → Keeping → Type 0
AreToldBelow q n x = (c : ℕ) (how : NoticeKind) → c < n → notice_due how (channel_in x q c).end ≡ None

pub told_first : (q : ℕ) (x : Keeping) → AreToldBelow q 0 x
told_first q x = λ c how l. absurd (omega (arith, l))

pub told_next : (q n : ℕ) (x y : Keeping) → Notices x y → AreToldBelow q n x → ((how : NoticeKind) → notice_due how (channel_in y q n).end ≡ None) → AreToldBelow q (n + 1) y
told_next q n x y s h k = λ c how l. at_or (λ d. d < n + 1 → notice_due how (channel_in y q d).end ≡ None) n
    (λ i. k how)
    (λ d u i. s.stays q d how (h d how (below d u i))) c l where
      below : (d : ℕ) → (d ≡ n → ⊥) → d < n + 1 → d < n
      below d u i = grind (arith, u, i)

-- both kinds at one end
pub both_kinds : (q c : ℕ) (x y : Keeping) → Notices x y → notice_due Delivered (channel_in x q c).end ≡ None → notice_due Ended (channel_in y q c).end ≡ None → (how : NoticeKind) → notice_due how (channel_in y q c).end ≡ None
both_kinds q c x y s h k Delivered = s.stays q c Delivered h
both_kinds q c x y s h k Ended = k

-- the partners, one after the other
abbrev pub AllToldBelow : ℕ → Keeping → Type 0
AllToldBelow n x = (q c : ℕ) (how : NoticeKind) → q < n → c < CHANNELS → notice_due how (channel_in x q c).end ≡ None

pub all_first : (x : Keeping) → AllToldBelow 0 x
all_first x = λ q c how l. absurd (omega (arith, l))

pub all_next : (n : ℕ) (x y : Keeping) → Notices x y → AllToldBelow n x → IsNoticedAt n y → AllToldBelow (n + 1) y
all_next n x y s h k = λ q c how l m. at_or (λ p. p < n + 1 → notice_due how (channel_in y p c).end ≡ None) n
    (λ i. k c how m)
    (λ p u i. s.stays p c how (h p c how (below p u i) m)) q l where
      below : (p : ℕ) → (p ≡ n → ⊥) → p < n + 1 → p < n
      below p u i = grind (arith, u, i)

-- none falls due at a partner that wasn't touched
pub untouched_told : (n : ℕ) (x y : Keeping) → n < x.part.count → AreNoticedButTouched x → Notices x y → has y.partners.touched n ≡ false → IsNoticedAt n y
untouched_told n x y l h s f = λ c how k. s.stays n c how (ap (notice_due how) (end_is x n c) ∙ h n c how l k (sym (ap (λ (t : ℕ). has t n) s.touched) ∙ f))

pub all_told : (n : ℕ) (x : Keeping) → x.part.count ≤ n → AllToldBelow n x → AreNoticed x
all_told n x l h = λ q c how i k. sym (ap (notice_due how) (end_is x q c)) ∙ h q c how (omega (arith, i, l)) k

-- room for all of them, and for one note more
fewer : (n m : ℕ) (z : Channel) → n ≤ m → HasNotesLeft m z → HasNotesLeft n z
fewer n m z l h = record { ready = h.ready; calls = λ k. omega (arith, l, h.calls k); ends = h.ends }

few_at : (x : Keeping) (q c : ℕ) → AreFew x → q < x.part.count → c < CHANNELS → waiting_at x q c ≤ LINES
few_at x q c h l k = subst (λ (e : End). length e.sides.pending_notices ≤ LINES) (sym (end_is x q c)) (h q c l k)

pub can_first : (x : Keeping) → IsKept x → x.life ≡ Up → AreFew x → AllHaveNotesLeft (LINES + 1) x.partners → CanNotice x
can_first x h up few room = record {
  kept = h;
  up = up;
  room = λ q c l k. fewer (1 + waiting_at x q c) (LINES + 1) (channel_in x q c) (omega (arith, few_at x q c few l k)) (room q (subst (λ (n : ℕ). q < n) (sym h.count) l) c k);
}

pub notices_left : (x y : Keeping) → IsKept x → AreFew x → Notices x y → (notes : ℕ) → AllHaveNotesLeft (notes + LINES) x.partners → AllHaveNotesLeft notes y.partners
notices_left x y h few s n room = λ q l c k.
    let low : q < x.part.count = subst (λ (p : ScenarioPart). q < p.count) (part_same x y s) (subst (λ (m : ℕ). q < m) s.gives.acts.kept.count l) in
    fewer n (n + waiting_at y q c) (channel_in y q c) (omega arith)
    (s.room q c n k (fewer (n + waiting_at x q c) (n + LINES) (channel_in x q c) (omega (arith, few_at x q c few low k)) (room q (subst (λ (m : ℕ). q < m) (sym h.count) low) c k)))

pub notices_untouched : (x y : Keeping) → Notices x y → LeavesUntouched x.partners y.partners
notices_untouched x y s = record {
  same = λ q l f. s.untouched q l (sym (ap (λ (t : ℕ). has t q) s.touched) ∙ f);
  still = λ q l f. sym (ap (λ (t : ℕ). has t q) s.touched) ∙ f;
}

pub ruleset noticing = (notices_none, notices_then, still_can_at, still_can, told_first, told_next, both_kinds, all_first, all_next, untouched_told, all_told, can_first, notices_left, notices_untouched)
