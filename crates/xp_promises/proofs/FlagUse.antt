-- Where the partner's words may be copied, both ends have opened the same epoch.
use Rattle.std.proofs.Common.{◌≡◌, ◌+◌, Bool, true, false, ◌||◌, refl, ap, sym, arith, ⊎_elim}
use Rattle.xp_promises.proofs.FlagEnds.{Kinds, End, no_kinds, Ocomp, Owed}
use Rattle.xp_promises.proofs.FlagKept.{Even, Behind, Fitting, Sound, epochs}

abbrev pub Copying : End → Type 0
Copying e = (e.sent.ocomp ≡ true) × (e.got.ocomp ≡ true) × (e.sent.crep ≡ false)

even_of : (a b : End) (wa wb : Kinds) → Copying a → Sound a b wa wb → a.epoch ≡ b.epoch
even_of a b wa wb c h =
    ⊎_elim
    (λ (e : b.epoch ≡ a.epoch). sym e)
    (⊎_elim
    (λ (e : b.epoch ≡ a.epoch + 1). absurd (not_behind a b wb c (h.to_b.behind (sym e))))
    (λ (e : b.epoch + 1 ≡ a.epoch). absurd (not_ahead a b wa c (h.to_a.behind e))))
    (epochs a b h.to_a.near h.to_b.near)
  where
    not_behind : (a b : End) (w : Kinds) → Copying a → Behind a.sent w b.taken b.got a.got → ⊥
    not_behind a b w c h = grind arith

    not_ahead : (a b : End) (w : Kinds) → Copying a → Behind b.sent w a.taken a.got b.got → ⊥
    not_ahead a b w c h = grind arith

pub record Both (a b : End) : Type 0 where
  pub even : a.epoch ≡ b.epoch
  pub own : a.sent.ocomp ≡ true
  pub their : b.sent.ocomp ≡ true

pub copying : (a b : End) (wa wb : Kinds) → Copying a → Sound a b wa wb → Both a b
copying a b wa wb c h =
    let e = even_of a b wa wb c h in
    record { even = e; own = c.0; their = (h.to_a.even (sym e)).ocomp.got_sent c.1 }

-- an end without a reason hasn't sent a close reply
pub unclosed : (a b : End) (wa wb : Kinds) → a.reason ≡ false → Sound a b wa wb → a.sent.crep ≡ false
unclosed a b wa wb r h = by a.sent a.got a.reason r h.fit_a where
  by : (s g : Kinds) (z : Bool) → z ≡ false → Fitting s g z → s.crep ≡ false
  by s g z r f = grind arith

taken_none : (f : Kinds → Bool) (k : Kinds) → f no_kinds ≡ false → k ≡ no_kinds → f k ≡ true → ⊥
taken_none f k z e t = let g : f k ≡ f no_kinds = ap f e in absurd (cc)

not_both : (b : Bool) → b ≡ true → b ≡ false → ⊥
not_both b t f = absurd (cc)

-- a close reply that was taken comes after the close request
pub reply_after : (a b : End) (wa wb : Kinds) → a.taken.crep ≡ true → a.taken.creq ≡ false → Sound a b wa wb → a.got.creq ≡ true
reply_after a b wa wb t n h =
    ⊎_elim
    (λ (e : b.epoch ≡ a.epoch). even a.taken a.got b.sent b.got b.reason wa t n h.fit_b (h.to_a.even e))
    (⊎_elim
    (λ (e : b.epoch ≡ a.epoch + 1). (h.to_a.ahead e).closing.2)
    (λ (e : b.epoch + 1 ≡ a.epoch). absurd (none a.taken (h.to_a.behind e).no_taken t)))
    (epochs a b h.to_a.near h.to_b.near)
  where
    even : (taken got sent their_got : Kinds) (reason : Bool) (w : Kinds) → taken.crep ≡ true → taken.creq ≡ false → Fitting sent their_got reason → Even sent w taken got → got.creq ≡ true
    even taken got sent their_got reason w t n f h = grind arith

    none : (k : Kinds) → k ≡ no_kinds → k.crep ≡ true → ⊥
    none k e t = let f = ap (λ (x : Kinds). x.crep) e in absurd (cc)

-- a flag of a partner that was taken, or got in the same epoch, was sent in the epoch in which the partner is
pub sent_oreq : (a b : End) (wa wb : Kinds) → b.taken.oreq ≡ true → Sound a b wa wb → a.sent.oreq ≡ true
sent_oreq a b wa wb t h =
    ⊎_elim
    (λ (e : b.epoch ≡ a.epoch). (h.to_b.even (sym e)).oreq.taken_sent t)
    (⊎_elim
    (λ (e : b.epoch ≡ a.epoch + 1). absurd (taken_none (λ k. k.oreq) b.taken refl (h.to_b.behind (sym e)).no_taken t))
    (λ (e : b.epoch + 1 ≡ a.epoch). (h.to_b.ahead (sym e)).oreq.taken_sent t))
    (epochs a b h.to_a.near h.to_b.near)

pub sent_orep : (a b : End) (wa wb : Kinds) → b.taken.orep ≡ true → Sound a b wa wb → a.sent.orep ≡ true
sent_orep a b wa wb t h =
    ⊎_elim
    (λ (e : b.epoch ≡ a.epoch). (h.to_b.even (sym e)).orep.taken_sent t)
    (⊎_elim
    (λ (e : b.epoch ≡ a.epoch + 1). absurd (taken_none (λ k. k.orep) b.taken refl (h.to_b.behind (sym e)).no_taken t))
    (λ (e : b.epoch + 1 ≡ a.epoch). absurd (not_both b.taken.orep t (h.to_b.ahead (sym e)).orep.1)))
    (epochs a b h.to_a.near h.to_b.near)

pub sent_creq : (a b : End) (wa wb : Kinds) → b.taken.creq ≡ true → Sound a b wa wb → a.sent.creq ≡ true
sent_creq a b wa wb t h =
    ⊎_elim
    (λ (e : b.epoch ≡ a.epoch). (h.to_b.even (sym e)).creq.taken_sent t)
    (⊎_elim
    (λ (e : b.epoch ≡ a.epoch + 1). absurd (taken_none (λ k. k.creq) b.taken refl (h.to_b.behind (sym e)).no_taken t))
    (λ (e : b.epoch + 1 ≡ a.epoch). (h.to_b.ahead (sym e)).creq.taken_sent t))
    (epochs a b h.to_a.near h.to_b.near)

pub got_oreq : (a b : End) (wa wb : Kinds) → a.epoch ≡ b.epoch → b.got.oreq ≡ true → Sound a b wa wb → a.sent.oreq ≡ true
got_oreq a b wa wb e g h = (h.to_b.even e).oreq.got_sent g

-- an end that may send its open complete is in the epoch of its partner
pub opening_even : (a b : End) (wa wb : Kinds) → Owed Ocomp a → Sound a b wa wb → a.epoch ≡ b.epoch
opening_even a b wa wb o h =
    ⊎_elim
    (λ (e : b.epoch ≡ a.epoch). sym e)
    (⊎_elim
    (λ (e : b.epoch ≡ a.epoch + 1). absurd (not_both a.reason (h.fit_a.creq (h.to_b.behind (sym e)).closing.0) o.0))
    (λ (e : b.epoch + 1 ≡ a.epoch). absurd (taken_none (λ k. k.orep) a.got refl (h.to_a.behind e).no_got o.2)))
    (epochs a b h.to_a.near h.to_b.near)

-- an end that hasn't sent, or hasn't got, the open request hasn't opened its epoch
pub unopened_sent : (a : End) → a.sent.oreq ≡ false → Fitting a.sent a.got a.reason → a.sent.ocomp ≡ false
unopened_sent a o f = by a.sent a.got a.reason o f where
  by : (s g : Kinds) (z : Bool) → s.oreq ≡ false → Fitting s g z → s.ocomp ≡ false
  by s g z o f = grind arith

pub unopened_got : (a : End) → a.got.oreq ≡ false → Fitting a.sent a.got a.reason → a.sent.ocomp ≡ false
unopened_got a o f = by a.sent a.got a.reason o f where
  by : (s g : Kinds) (z : Bool) → g.oreq ≡ false → Fitting s g z → s.ocomp ≡ false
  by s g z o f = grind arith

pub not_refused : (a b : Bool) → (a || b) ≡ false → a ≡ false
not_refused true b h = absurd (cc)
not_refused false b h = refl

pub unreplied_sent : (a : End) → a.sent.oreq ≡ false → Fitting a.sent a.got a.reason → a.sent.orep ≡ false
unreplied_sent a o f = by a.sent a.got a.reason o f where
  by : (s g : Kinds) (z : Bool) → s.oreq ≡ false → Fitting s g z → s.orep ≡ false
  by s g z o f = grind arith

pub unreplied_got : (a : End) → a.got.oreq ≡ false → Fitting a.sent a.got a.reason → a.sent.orep ≡ false
unreplied_got a o f = by a.sent a.got a.reason o f where
  by : (s g : Kinds) (z : Bool) → g.oreq ≡ false → Fitting s g z → s.orep ≡ false
  by s g z o f = grind arith
