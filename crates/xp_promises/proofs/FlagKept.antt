-- Each flag of one end stands in one place at the other.
use Rattle.std.proofs.Common.{◌≡◌, ◌+◌, ◌≤◌, Bool, true, false, ◌&&◌, ◌||◌, ◌⊎◌, refl, sym, arith, ⊎_elim}
use Rattle.std.proofs.lemmas.Bool.{cases_Bool, cond-true, cond-false, and_from, and_left, or_left}
use Rattle.xp_promises.proofs.FlagEnds.{Kinds, Kind, Oreq, Orep, Ocomp, Creq, Crep, no_kinds, also, without, both, End, Owed, Next, refused, settled, handled, Move, Register, Unregister, Fault, Take, Send, Handle, next, own_word, their_word, May}

-- a flag: whether it is in the word, taken, handled; and sent
pub record Slot (w t g s : Bool) : Type 0 where
  pub word_sent : w ≡ true → s ≡ true
  pub taken_sent : t ≡ true → s ≡ true
  pub got_sent : g ≡ true → s ≡ true
  pub word_taken : w ≡ true → t ≡ false
  pub word_got : w ≡ true → g ≡ false
  pub taken_got : t ≡ true → g ≡ false
  pub some : s ≡ true → w ≡ false → t ≡ false → g ≡ true

pub slot_take : (w t g s : Bool) → Slot w t g s → Slot false (t || w) g s
slot_take true true g s h = grind arith
slot_take true false g s h = grind arith
slot_take false true g s h = grind arith
slot_take false false g s h = grind arith

slot_send : (w t g s : Bool) → s ≡ false → Slot w t g s → Slot true t g true
slot_send w t g s e h = grind arith

slot_handle : (w t g s : Bool) → t ≡ true → Slot w t g s → Slot w false true s
slot_handle w t g s e h = grind arith

-- the sent kinds are those in the word, taken and handled; what was sent first isn't left in the word
pub record Even (sent w taken got : Kinds) : Type 0 where
  pub oreq : Slot w.oreq taken.oreq got.oreq sent.oreq
  pub orep : Slot w.orep taken.orep got.orep sent.orep
  pub ocomp : Slot w.ocomp taken.ocomp got.ocomp sent.ocomp
  pub creq : Slot w.creq taken.creq got.creq sent.creq
  pub crep : Slot w.crep taken.crep got.crep sent.crep
  pub first_orep : w.oreq ≡ true → sent.orep ≡ true → w.orep ≡ true
  pub first_ocomp : w.orep ≡ true → sent.ocomp ≡ true → w.ocomp ≡ true
  pub first_creq1 : w.oreq ≡ true → sent.creq ≡ true → w.creq ≡ true
  pub first_creq2 : w.orep ≡ true → sent.creq ≡ true → w.creq ≡ true
  pub first_creq3 : w.ocomp ≡ true → sent.creq ≡ true → w.creq ≡ true
  pub first_crep : w.creq ≡ true → sent.crep ≡ true → w.crep ≡ true
  pub quiet1 : got.creq ≡ true → (w.oreq ≡ false) × (taken.oreq ≡ false)
  pub quiet2 : got.creq ≡ true → (w.orep ≡ false) × (taken.orep ≡ false)
  pub quiet3 : got.creq ≡ true → (w.ocomp ≡ false) × (taken.ocomp ≡ false)

-- the sender's epoch is one higher
pub record Ahead (sent w taken got their_sent : Kinds) : Type 0 where
  pub oreq : Slot w.oreq taken.oreq false sent.oreq
  pub orep : (w.orep ≡ false) × (taken.orep ≡ false) × (sent.orep ≡ false)
  pub ocomp : (w.ocomp ≡ false) × (taken.ocomp ≡ false) × (sent.ocomp ≡ false)
  pub creq : Slot w.creq taken.creq false sent.creq
  pub crep : Slot w.crep taken.crep false true
  pub unsent : sent.crep ≡ false
  pub first : w.crep ≡ true → (taken.oreq ≡ false) × (taken.creq ≡ false)
  pub first_creq : w.oreq ≡ true → sent.creq ≡ true → w.creq ≡ true
  pub closing : (their_sent.creq ≡ true) × (their_sent.crep ≡ true) × (got.creq ≡ true) × (got.crep ≡ false)

-- the sender's epoch is one lower
pub record Behind (sent w taken got their_got : Kinds) : Type 0 where
  pub no_word : w ≡ no_kinds
  pub no_taken : taken ≡ no_kinds
  pub no_got : got ≡ no_kinds
  pub closing : (sent.creq ≡ true) × (sent.crep ≡ true) × (their_got.creq ≡ true) × (their_got.crep ≡ false)

-- an end by itself
pub record Fitting (sent got : Kinds) (reason : Bool) : Type 0 where
  pub orep : sent.orep ≡ true → (sent.oreq ≡ true) × (got.oreq ≡ true)
  pub ocomp : sent.ocomp ≡ true → (sent.orep ≡ true) × (got.orep ≡ true)
  pub creq : sent.creq ≡ true → reason ≡ true
  pub got_creq : got.creq ≡ true → reason ≡ true
  pub crep : sent.crep ≡ true → (sent.creq ≡ true) × (got.creq ≡ true)
  pub got_crep : got.crep ≡ true → (sent.creq ≡ true) × (got.creq ≡ true)

pub record Half (a b : End) (w : Kinds) : Type 0 where
  pub near : a.epoch ≤ b.epoch + 1
  pub even : a.epoch ≡ b.epoch → Even a.sent w b.taken b.got
  pub ahead : a.epoch ≡ b.epoch + 1 → Ahead a.sent w b.taken b.got b.sent
  pub behind : a.epoch + 1 ≡ b.epoch → Behind a.sent w b.taken b.got a.got

pub record Sound (a b : End) (wa wb : Kinds) : Type 0 where
  pub to_b : Half a b wb
  pub to_a : Half b a wa
  pub fit_a : Fitting a.sent a.got a.reason
  pub fit_b : Fitting b.sent b.got b.reason
  pub open_a : (a.sent.crep && a.got.crep) ≡ false
  pub open_b : (b.sent.crep && b.got.crep) ≡ false

-- an end takes its word
take_even : (sent w taken got : Kinds) → Even sent w taken got → Even sent no_kinds (both taken w) got
take_even sent w taken got h = record {
  oreq = slot_take w.oreq taken.oreq got.oreq sent.oreq h.oreq;
  orep = slot_take w.orep taken.orep got.orep sent.orep h.orep;
  ocomp = slot_take w.ocomp taken.ocomp got.ocomp sent.ocomp h.ocomp;
  creq = slot_take w.creq taken.creq got.creq sent.creq h.creq;
  crep = slot_take w.crep taken.crep got.crep sent.crep h.crep;
  first_orep = grind arith;
  first_ocomp = grind arith;
  first_creq1 = grind arith;
  first_creq2 = grind arith;
  first_creq3 = grind arith;
  first_crep = grind arith;
  quiet1 = grind (arith, h.quiet1);
  quiet2 = grind (arith, h.quiet2);
  quiet3 = grind (arith, h.quiet3);
}

take_ahead : (sent w taken got theirs : Kinds) → Ahead sent w taken got theirs → Ahead sent no_kinds (both taken w) got theirs
take_ahead sent w taken got theirs h = record {
  oreq = slot_take w.oreq taken.oreq false sent.oreq h.oreq;
  orep = grind (arith, h.orep);
  ocomp = grind (arith, h.ocomp);
  creq = slot_take w.creq taken.creq false sent.creq h.creq;
  crep = slot_take w.crep taken.crep false true h.crep;
  unsent = h.unsent;
  first = grind arith;
  first_creq = grind arith;
  closing = h.closing;
}

take_behind : (sent w taken got theirs : Kinds) → Behind sent w taken got theirs → Behind sent no_kinds (both taken w) got theirs
take_behind sent w taken got theirs h = grind arith

pub take : (a b : End) (wa wb : Kinds) → Sound a b wa wb → Sound (next Take wa a) b no_kinds wb
take a b wa wb h = record {
  to_b = record { near = h.to_b.near; even = h.to_b.even; ahead = h.to_b.ahead; behind = h.to_b.behind };
  to_a = record {
    near = h.to_a.near;
    even = λ e. take_even b.sent wa a.taken a.got (h.to_a.even e);
    ahead = λ e. take_ahead b.sent wa a.taken a.got a.sent (h.to_a.ahead e);
    behind = λ e. take_behind b.sent wa a.taken a.got b.got (h.to_a.behind e);
  };
  fit_a = h.fit_a;
  fit_b = h.fit_b;
  open_a = h.open_a;
  open_b = h.open_b;
}

-- an end with its kind sent, before its epoch may end
abbrev pub sends : Kind → End → End
sends k e = record e { sent = also k e.sent }

even_oreq : (a b : End) (w : Kinds) → Owed Oreq a → Fitting a.sent a.got a.reason → Even a.sent w b.taken b.got → Even (also Oreq a.sent) (also Oreq w) b.taken b.got
even_oreq a b w o f h = grind arith

ahead_oreq : (a b : End) (w : Kinds) → Owed Oreq a → Fitting a.sent a.got a.reason → a.got ≡ no_kinds → Ahead a.sent w b.taken b.got b.sent → Ahead (also Oreq a.sent) (also Oreq w) b.taken b.got b.sent
ahead_oreq a b w o f g h = grind arith

even_orep : (a b : End) (w : Kinds) → Owed Orep a → Fitting a.sent a.got a.reason → Even a.sent w b.taken b.got → Even (also Orep a.sent) (also Orep w) b.taken b.got
even_orep a b w o f h = grind arith

ahead_orep : (a b : End) (w : Kinds) → Owed Orep a → Fitting a.sent a.got a.reason → a.got ≡ no_kinds → Ahead a.sent w b.taken b.got b.sent → Ahead (also Orep a.sent) (also Orep w) b.taken b.got b.sent
ahead_orep a b w o f g h = grind arith

even_ocomp : (a b : End) (w : Kinds) → Owed Ocomp a → Fitting a.sent a.got a.reason → Even a.sent w b.taken b.got → Even (also Ocomp a.sent) (also Ocomp w) b.taken b.got
even_ocomp a b w o f h = grind arith

ahead_ocomp : (a b : End) (w : Kinds) → Owed Ocomp a → Fitting a.sent a.got a.reason → a.got ≡ no_kinds → Ahead a.sent w b.taken b.got b.sent → Ahead (also Ocomp a.sent) (also Ocomp w) b.taken b.got b.sent
ahead_ocomp a b w o f g h = grind arith

even_creq : (a b : End) (w : Kinds) → Owed Creq a → Fitting a.sent a.got a.reason → Even a.sent w b.taken b.got → Even (also Creq a.sent) (also Creq w) b.taken b.got
even_creq a b w o f h = grind arith

ahead_creq : (a b : End) (w : Kinds) → Owed Creq a → Fitting a.sent a.got a.reason → a.got ≡ no_kinds → Ahead a.sent w b.taken b.got b.sent → Ahead (also Creq a.sent) (also Creq w) b.taken b.got b.sent
ahead_creq a b w o f g h = grind arith

even_crep : (a b : End) (w : Kinds) → Owed Crep a → Fitting a.sent a.got a.reason → Even a.sent w b.taken b.got → Even (also Crep a.sent) (also Crep w) b.taken b.got
even_crep a b w o f h = grind arith

ahead_crep : (a b : End) (w : Kinds) → Owed Crep a → Fitting a.sent a.got a.reason → a.got ≡ no_kinds → Ahead a.sent w b.taken b.got b.sent → Ahead (also Crep a.sent) (also Crep w) b.taken b.got b.sent
ahead_crep a b w o f g h = grind arith

behind_oreq : (a b : End) (w : Kinds) → Owed Oreq a → Fitting a.sent a.got a.reason → Behind a.sent w b.taken b.got a.got → ⊥
behind_oreq a b w o f h = grind arith

fit_send_oreq : (a : End) → Owed Oreq a → Fitting a.sent a.got a.reason → Fitting (also Oreq a.sent) a.got a.reason
fit_send_oreq a o f = grind arith

behind_orep : (a b : End) (w : Kinds) → Owed Orep a → Fitting a.sent a.got a.reason → Behind a.sent w b.taken b.got a.got → ⊥
behind_orep a b w o f h = grind arith

fit_send_orep : (a : End) → Owed Orep a → Fitting a.sent a.got a.reason → Fitting (also Orep a.sent) a.got a.reason
fit_send_orep a o f = grind arith

behind_ocomp : (a b : End) (w : Kinds) → Owed Ocomp a → Fitting a.sent a.got a.reason → Behind a.sent w b.taken b.got a.got → ⊥
behind_ocomp a b w o f h = grind arith

fit_send_ocomp : (a : End) → Owed Ocomp a → Fitting a.sent a.got a.reason → Fitting (also Ocomp a.sent) a.got a.reason
fit_send_ocomp a o f = grind arith

behind_creq : (a b : End) (w : Kinds) → Owed Creq a → Fitting a.sent a.got a.reason → Behind a.sent w b.taken b.got a.got → ⊥
behind_creq a b w o f h = grind arith

fit_send_creq : (a : End) → Owed Creq a → Fitting a.sent a.got a.reason → Fitting (also Creq a.sent) a.got a.reason
fit_send_creq a o f = grind arith

behind_crep : (a b : End) (w : Kinds) → Owed Crep a → Fitting a.sent a.got a.reason → Behind a.sent w b.taken b.got a.got → ⊥
behind_crep a b w o f h = grind arith

fit_send_crep : (a : End) → Owed Crep a → Fitting a.sent a.got a.reason → Fitting (also Crep a.sent) a.got a.reason
fit_send_crep a o f = grind arith

pub epochs : (a b : End) → b.epoch ≤ a.epoch + 1 → a.epoch ≤ b.epoch + 1 → (b.epoch ≡ a.epoch) ⊎ ((b.epoch ≡ a.epoch + 1) ⊎ (b.epoch + 1 ≡ a.epoch))
epochs a b x y = grind arith

-- oreq is sent
pub send_oreq : (a b : End) (wa wb : Kinds) → Owed Oreq a → Sound a b wa wb → Sound (next (Send Oreq) wa a) b wa (also Oreq wb)
send_oreq a b wa wb o h = rw h.open_a record {
  to_b = record {
    near = h.to_b.near;
    even = λ e. even_oreq a b wb o h.fit_a (h.to_b.even e);
    ahead = λ e. ahead_oreq a b wb o h.fit_a (h.to_a.behind (sym e)).no_got (h.to_b.ahead e);
    behind = λ e. absurd (behind_oreq a b wb o h.fit_a (h.to_b.behind e));
  };
  to_a = record {
    near = h.to_a.near;
    even = h.to_a.even;
    ahead = λ e. absurd (behind_oreq a b wb o h.fit_a (h.to_b.behind (sym e)));
    behind = h.to_a.behind;
  };
  fit_a = fit_send_oreq a o h.fit_a;
  fit_b = h.fit_b;
  open_a = h.open_a;
  open_b = h.open_b;
}

-- orep is sent
pub send_orep : (a b : End) (wa wb : Kinds) → Owed Orep a → Sound a b wa wb → Sound (next (Send Orep) wa a) b wa (also Orep wb)
send_orep a b wa wb o h = rw h.open_a record {
  to_b = record {
    near = h.to_b.near;
    even = λ e. even_orep a b wb o h.fit_a (h.to_b.even e);
    ahead = λ e. ahead_orep a b wb o h.fit_a (h.to_a.behind (sym e)).no_got (h.to_b.ahead e);
    behind = λ e. absurd (behind_orep a b wb o h.fit_a (h.to_b.behind e));
  };
  to_a = record {
    near = h.to_a.near;
    even = h.to_a.even;
    ahead = λ e. absurd (behind_orep a b wb o h.fit_a (h.to_b.behind (sym e)));
    behind = h.to_a.behind;
  };
  fit_a = fit_send_orep a o h.fit_a;
  fit_b = h.fit_b;
  open_a = h.open_a;
  open_b = h.open_b;
}

-- ocomp is sent
pub send_ocomp : (a b : End) (wa wb : Kinds) → Owed Ocomp a → Sound a b wa wb → Sound (next (Send Ocomp) wa a) b wa (also Ocomp wb)
send_ocomp a b wa wb o h = rw h.open_a record {
  to_b = record {
    near = h.to_b.near;
    even = λ e. even_ocomp a b wb o h.fit_a (h.to_b.even e);
    ahead = λ e. ahead_ocomp a b wb o h.fit_a (h.to_a.behind (sym e)).no_got (h.to_b.ahead e);
    behind = λ e. absurd (behind_ocomp a b wb o h.fit_a (h.to_b.behind e));
  };
  to_a = record {
    near = h.to_a.near;
    even = h.to_a.even;
    ahead = λ e. absurd (behind_ocomp a b wb o h.fit_a (h.to_b.behind (sym e)));
    behind = h.to_a.behind;
  };
  fit_a = fit_send_ocomp a o h.fit_a;
  fit_b = h.fit_b;
  open_a = h.open_a;
  open_b = h.open_b;
}

-- creq is sent
pub send_creq : (a b : End) (wa wb : Kinds) → Owed Creq a → Sound a b wa wb → Sound (next (Send Creq) wa a) b wa (also Creq wb)
send_creq a b wa wb o h = rw h.open_a record {
  to_b = record {
    near = h.to_b.near;
    even = λ e. even_creq a b wb o h.fit_a (h.to_b.even e);
    ahead = λ e. ahead_creq a b wb o h.fit_a (h.to_a.behind (sym e)).no_got (h.to_b.ahead e);
    behind = λ e. absurd (behind_creq a b wb o h.fit_a (h.to_b.behind e));
  };
  to_a = record {
    near = h.to_a.near;
    even = h.to_a.even;
    ahead = λ e. absurd (behind_creq a b wb o h.fit_a (h.to_b.behind (sym e)));
    behind = h.to_a.behind;
  };
  fit_a = fit_send_creq a o h.fit_a;
  fit_b = h.fit_b;
  open_a = h.open_a;
  open_b = h.open_b;
}

-- oreq is handled
even_got_oreq : (a b : End) (w : Kinds) → Next Oreq a → Fitting b.sent b.got b.reason → Even b.sent w a.taken a.got → Even b.sent w (without Oreq a.taken) (also Oreq a.got)
even_got_oreq a b w o f h = grind arith

ahead_got_oreq : (a b : End) (w : Kinds) → Next Oreq a → Ahead b.sent w a.taken a.got a.sent → ⊥
ahead_got_oreq a b w o h = grind arith

behind_got_oreq : (a b : End) (w : Kinds) → Next Oreq a → Behind b.sent w a.taken a.got b.got → ⊥
behind_got_oreq a b w o h = grind arith

-- orep is handled
even_got_orep : (a b : End) (w : Kinds) → Next Orep a → Fitting b.sent b.got b.reason → Even b.sent w a.taken a.got → Even b.sent w (without Orep a.taken) (also Orep a.got)
even_got_orep a b w o f h = grind arith

ahead_got_orep : (a b : End) (w : Kinds) → Next Orep a → Ahead b.sent w a.taken a.got a.sent → ⊥
ahead_got_orep a b w o h = grind arith

behind_got_orep : (a b : End) (w : Kinds) → Next Orep a → Behind b.sent w a.taken a.got b.got → ⊥
behind_got_orep a b w o h = grind arith

-- ocomp is handled
even_got_ocomp : (a b : End) (w : Kinds) → Next Ocomp a → Fitting b.sent b.got b.reason → Even b.sent w a.taken a.got → Even b.sent w (without Ocomp a.taken) (also Ocomp a.got)
even_got_ocomp a b w o f h = grind arith

ahead_got_ocomp : (a b : End) (w : Kinds) → Next Ocomp a → Ahead b.sent w a.taken a.got a.sent → ⊥
ahead_got_ocomp a b w o h = grind arith

behind_got_ocomp : (a b : End) (w : Kinds) → Next Ocomp a → Behind b.sent w a.taken a.got b.got → ⊥
behind_got_ocomp a b w o h = grind arith

-- creq is handled
even_got_creq : (a b : End) (w : Kinds) → Next Creq a → Fitting b.sent b.got b.reason → Even b.sent w a.taken a.got → Even b.sent w (without Creq a.taken) (also Creq a.got)
even_got_creq a b w o f h = grind arith

ahead_got_creq : (a b : End) (w : Kinds) → Next Creq a → Ahead b.sent w a.taken a.got a.sent → ⊥
ahead_got_creq a b w o h = grind arith

behind_got_creq : (a b : End) (w : Kinds) → Next Creq a → Behind b.sent w a.taken a.got b.got → ⊥
behind_got_creq a b w o h = grind arith

pub fine_even_oreq : (a b : End) (w : Kinds) → Next Oreq a → Fitting b.sent b.got b.reason → Even b.sent w a.taken a.got → refused Oreq a ≡ false
fine_even_oreq a b w o f h = grind arith

handled_fit_oreq : (a : End) → Fitting a.sent a.got a.reason → Fitting (handled Oreq a).sent (handled Oreq a).got (handled Oreq a).reason
handled_fit_oreq a f = grind arith

pub handle_oreq : (a b : End) (wa wb : Kinds) → Next Oreq a → Sound a b wa wb → Sound (next (Handle Oreq) wa a) b wa wb
handle_oreq a b wa wb o h = rw h.open_a record {
  to_b = record {
    near = h.to_b.near;
    even = h.to_b.even;
    ahead = h.to_b.ahead;
    behind = λ e. absurd (ahead_got_oreq a b wa o (h.to_a.ahead (sym e)));
  };
  to_a = record {
    near = h.to_a.near;
    even = λ e. even_got_oreq a b wa o h.fit_b (h.to_a.even e);
    ahead = λ e. absurd (ahead_got_oreq a b wa o (h.to_a.ahead e));
    behind = λ e. absurd (behind_got_oreq a b wa o (h.to_a.behind e));
  };
  fit_a = handled_fit_oreq a h.fit_a;
  fit_b = h.fit_b;
  open_a = h.open_a;
  open_b = h.open_b;
}

pub fine_oreq : (a b : End) (wa wb : Kinds) → Next Oreq a → Sound a b wa wb → refused Oreq a ≡ false
fine_oreq a b wa wb o h = ⊎_elim
    (λ (e : b.epoch ≡ a.epoch). fine_even_oreq a b wa o h.fit_b (h.to_a.even e))
    (⊎_elim
    (λ (e : b.epoch ≡ a.epoch + 1). absurd (ahead_got_oreq a b wa o (h.to_a.ahead e)))
    (λ (e : b.epoch + 1 ≡ a.epoch). absurd (behind_got_oreq a b wa o (h.to_a.behind e))))
    (epochs a b h.to_a.near h.to_b.near)

pub fine_even_orep : (a b : End) (w : Kinds) → Next Orep a → Fitting b.sent b.got b.reason → Even b.sent w a.taken a.got → refused Orep a ≡ false
fine_even_orep a b w o f h = grind arith

handled_fit_orep : (a : End) → Fitting a.sent a.got a.reason → Fitting (handled Orep a).sent (handled Orep a).got (handled Orep a).reason
handled_fit_orep a f = grind arith

pub handle_orep : (a b : End) (wa wb : Kinds) → Next Orep a → Sound a b wa wb → Sound (next (Handle Orep) wa a) b wa wb
handle_orep a b wa wb o h = rw h.open_a record {
  to_b = record {
    near = h.to_b.near;
    even = h.to_b.even;
    ahead = h.to_b.ahead;
    behind = λ e. absurd (ahead_got_orep a b wa o (h.to_a.ahead (sym e)));
  };
  to_a = record {
    near = h.to_a.near;
    even = λ e. even_got_orep a b wa o h.fit_b (h.to_a.even e);
    ahead = λ e. absurd (ahead_got_orep a b wa o (h.to_a.ahead e));
    behind = λ e. absurd (behind_got_orep a b wa o (h.to_a.behind e));
  };
  fit_a = handled_fit_orep a h.fit_a;
  fit_b = h.fit_b;
  open_a = h.open_a;
  open_b = h.open_b;
}

pub fine_orep : (a b : End) (wa wb : Kinds) → Next Orep a → Sound a b wa wb → refused Orep a ≡ false
fine_orep a b wa wb o h = ⊎_elim
    (λ (e : b.epoch ≡ a.epoch). fine_even_orep a b wa o h.fit_b (h.to_a.even e))
    (⊎_elim
    (λ (e : b.epoch ≡ a.epoch + 1). absurd (ahead_got_orep a b wa o (h.to_a.ahead e)))
    (λ (e : b.epoch + 1 ≡ a.epoch). absurd (behind_got_orep a b wa o (h.to_a.behind e))))
    (epochs a b h.to_a.near h.to_b.near)

pub fine_even_ocomp : (a b : End) (w : Kinds) → Next Ocomp a → Fitting b.sent b.got b.reason → Even b.sent w a.taken a.got → refused Ocomp a ≡ false
fine_even_ocomp a b w o f h = grind arith

handled_fit_ocomp : (a : End) → Fitting a.sent a.got a.reason → Fitting (handled Ocomp a).sent (handled Ocomp a).got (handled Ocomp a).reason
handled_fit_ocomp a f = grind arith

pub handle_ocomp : (a b : End) (wa wb : Kinds) → Next Ocomp a → Sound a b wa wb → Sound (next (Handle Ocomp) wa a) b wa wb
handle_ocomp a b wa wb o h = rw h.open_a record {
  to_b = record {
    near = h.to_b.near;
    even = h.to_b.even;
    ahead = h.to_b.ahead;
    behind = λ e. absurd (ahead_got_ocomp a b wa o (h.to_a.ahead (sym e)));
  };
  to_a = record {
    near = h.to_a.near;
    even = λ e. even_got_ocomp a b wa o h.fit_b (h.to_a.even e);
    ahead = λ e. absurd (ahead_got_ocomp a b wa o (h.to_a.ahead e));
    behind = λ e. absurd (behind_got_ocomp a b wa o (h.to_a.behind e));
  };
  fit_a = handled_fit_ocomp a h.fit_a;
  fit_b = h.fit_b;
  open_a = h.open_a;
  open_b = h.open_b;
}

pub fine_ocomp : (a b : End) (wa wb : Kinds) → Next Ocomp a → Sound a b wa wb → refused Ocomp a ≡ false
fine_ocomp a b wa wb o h = ⊎_elim
    (λ (e : b.epoch ≡ a.epoch). fine_even_ocomp a b wa o h.fit_b (h.to_a.even e))
    (⊎_elim
    (λ (e : b.epoch ≡ a.epoch + 1). absurd (ahead_got_ocomp a b wa o (h.to_a.ahead e)))
    (λ (e : b.epoch + 1 ≡ a.epoch). absurd (behind_got_ocomp a b wa o (h.to_a.behind e))))
    (epochs a b h.to_a.near h.to_b.near)

pub fine_even_creq : (a b : End) (w : Kinds) → Next Creq a → Fitting b.sent b.got b.reason → Even b.sent w a.taken a.got → refused Creq a ≡ false
fine_even_creq a b w o f h = grind arith

handled_fit_creq : (a : End) → Fitting a.sent a.got a.reason → Fitting (handled Creq a).sent (handled Creq a).got (handled Creq a).reason
handled_fit_creq a f = grind arith

pub handle_creq : (a b : End) (wa wb : Kinds) → Next Creq a → Sound a b wa wb → Sound (next (Handle Creq) wa a) b wa wb
handle_creq a b wa wb o h = rw h.open_a record {
  to_b = record {
    near = h.to_b.near;
    even = h.to_b.even;
    ahead = h.to_b.ahead;
    behind = λ e. absurd (ahead_got_creq a b wa o (h.to_a.ahead (sym e)));
  };
  to_a = record {
    near = h.to_a.near;
    even = λ e. even_got_creq a b wa o h.fit_b (h.to_a.even e);
    ahead = λ e. absurd (ahead_got_creq a b wa o (h.to_a.ahead e));
    behind = λ e. absurd (behind_got_creq a b wa o (h.to_a.behind e));
  };
  fit_a = handled_fit_creq a h.fit_a;
  fit_b = h.fit_b;
  open_a = h.open_a;
  open_b = h.open_b;
}

pub fine_creq : (a b : End) (wa wb : Kinds) → Next Creq a → Sound a b wa wb → refused Creq a ≡ false
fine_creq a b wa wb o h = ⊎_elim
    (λ (e : b.epoch ≡ a.epoch). fine_even_creq a b wa o h.fit_b (h.to_a.even e))
    (⊎_elim
    (λ (e : b.epoch ≡ a.epoch + 1). absurd (ahead_got_creq a b wa o (h.to_a.ahead e)))
    (λ (e : b.epoch + 1 ≡ a.epoch). absurd (behind_got_creq a b wa o (h.to_a.behind e))))
    (epochs a b h.to_a.near h.to_b.near)

-- the epoch ends at a: b is behind now
finish_to_b : (a b : End) (wa wb : Kinds) → a.sent.crep ≡ true → a.got.crep ≡ true → Fitting a.sent a.got a.reason → Fitting b.sent b.got b.reason → (b.sent.crep && b.got.crep) ≡ false → Even b.sent wa a.taken a.got → Even a.sent wb b.taken b.got → Ahead no_kinds wb b.taken b.got b.sent
finish_to_b a b wa wb s g f f' o h' h = grind arith

finish_to_a : (a b : End) (wa : Kinds) → a.sent.crep ≡ true → a.got.crep ≡ true → Fitting a.sent a.got a.reason → Fitting b.sent b.got b.reason → (b.sent.crep && b.got.crep) ≡ false → Even b.sent wa a.taken a.got → Behind b.sent wa a.taken no_kinds b.got
finish_to_a a b wa s g f f' o h = grind arith

-- a was behind, and comes to b's epoch
join_to_b : (a b : End) (wb : Kinds) → Behind a.sent wb b.taken b.got a.got → Even no_kinds wb b.taken b.got
join_to_b a b wb h = grind arith

join_to_a : (a b : End) (wa : Kinds) → a.taken.crep ≡ true → Fitting b.sent b.got b.reason → Ahead b.sent wa a.taken a.got a.sent → Even b.sent wa (without Crep a.taken) no_kinds
join_to_a a b wa t f h = grind arith

fit_none : Fitting no_kinds no_kinds false
fit_none = grind arith

-- the end as its epoch ends
abbrev pub ended : End → End
ended e = record e { epoch = e.epoch + 1; sent = no_kinds; got = no_kinds; reason = false }

finish : (a b : End) (wa wb : Kinds) → a.epoch ≡ b.epoch → a.sent.crep ≡ true → a.got.crep ≡ true → Fitting a.sent a.got a.reason → Fitting b.sent b.got b.reason → (b.sent.crep && b.got.crep) ≡ false → Even b.sent wa a.taken a.got → Even a.sent wb b.taken b.got → Sound (ended a) b wa wb
finish a b wa wb e s g f f' o h' h = record {
  to_b = record {
    near = omega arith;
    even = λ x. absurd (omega arith);
    ahead = λ x. finish_to_b a b wa wb s g f f' o h' h;
    behind = λ x. absurd (omega arith);
  };
  to_a = record {
    near = omega arith;
    even = λ x. absurd (omega arith);
    ahead = λ x. absurd (omega arith);
    behind = λ x. finish_to_a a b wa s g f f' o h';
  };
  fit_a = fit_none;
  fit_b = f';
  open_a = refl;
  open_b = o;
}

pub settled_yes : (e : End) → (e.sent.crep && e.got.crep) ≡ true → settled e ≡ ended e
settled_yes e x = cond-true (e.sent.crep && e.got.crep) (ended e) e x

pub settled_no : (e : End) → (e.sent.crep && e.got.crep) ≡ false → settled e ≡ e
settled_no e x = cond-false (e.sent.crep && e.got.crep) (ended e) e x

no_got_crep : (a b : End) (wa : Kinds) → a.got.crep ≡ true → Behind b.sent wa a.taken a.got b.got → ⊥
no_got_crep a b wa g h = grind arith

-- the closing reply is sent
pub send_crep : (a b : End) (wa wb : Kinds) → Owed Crep a → Sound a b wa wb → Sound (next (Send Crep) wa a) b wa (also Crep wb)
send_crep a b wa wb o h =
    ⊎_elim
    (λ (g : a.got.crep ≡ true). rw (settled_yes (sends Crep a) g) (finish (sends Crep a) b wa (also Crep wb) (same g) refl g (fit_send_crep a o h.fit_a) h.fit_b h.open_b (h.to_a.even (sym (same g))) (even_crep a b wb o h.fit_a (h.to_b.even (same g)))))
    (λ (g : a.got.crep ≡ false). rw (settled_no (sends Crep a) g) record {
      to_b = record {
        near = h.to_b.near;
        even = λ e. even_crep a b wb o h.fit_a (h.to_b.even e);
        ahead = λ e. ahead_crep a b wb o h.fit_a (h.to_a.behind (sym e)).no_got (h.to_b.ahead e);
        behind = λ e. absurd (behind_crep a b wb o h.fit_a (h.to_b.behind e));
      };
      to_a = record {
        near = h.to_a.near;
        even = h.to_a.even;
        ahead = λ e. absurd (behind_crep a b wb o h.fit_a (h.to_b.behind (sym e)));
        behind = h.to_a.behind;
      };
      fit_a = fit_send_crep a o h.fit_a;
      fit_b = h.fit_b;
      open_a = g;
      open_b = h.open_b;
    })
    (cases_Bool a.got.crep)
  where
    same : a.got.crep ≡ true → a.epoch ≡ b.epoch
    same g = ⊎_elim
        (λ (e : b.epoch ≡ a.epoch). sym e)
        (⊎_elim
        (λ (e : b.epoch ≡ a.epoch + 1). absurd (behind_crep a b wb o h.fit_a (h.to_b.behind (sym e))))
        (λ (e : b.epoch + 1 ≡ a.epoch). absurd (no_got_crep a b wa g (h.to_a.behind e))))
        (epochs a b h.to_a.near h.to_b.near)

even_got_crep : (a b : End) (w : Kinds) → Next Crep a → Fitting b.sent b.got b.reason → Even b.sent w a.taken a.got → Even b.sent w (without Crep a.taken) (also Crep a.got)
even_got_crep a b w o f h = grind arith

fit_got_crep : (a b : End) (w w' : Kinds) → Next Crep a → Fitting a.sent a.got a.reason → Fitting b.sent b.got b.reason → Even b.sent w a.taken a.got → Even a.sent w' b.taken b.got → Fitting a.sent (also Crep a.got) a.reason
fit_got_crep a b w w' o f f' h h' = grind arith

behind_got_crep : (a b : End) (w : Kinds) → Next Crep a → Behind b.sent w a.taken a.got b.got → ⊥
behind_got_crep a b w o h = grind arith

pub fine_even_crep : (a b : End) (w w' : Kinds) → Next Crep a → Fitting a.sent a.got a.reason → Fitting b.sent b.got b.reason → Even b.sent w a.taken a.got → Even a.sent w' b.taken b.got → refused Crep a ≡ false
fine_even_crep a b w w' o f f' h h' = grind arith

pub fine_ahead_crep : (a b : End) (w : Kinds) → Next Crep a → Ahead b.sent w a.taken a.got a.sent → refused Crep a ≡ false
fine_ahead_crep a b w o h = grind arith

-- a reason that only comes, and any registration
pub again : (a b : End) (wa wb : Kinds) (r reason : Bool) → (a.reason ≡ true → reason ≡ true) → Sound a b wa wb → Sound (record a { registered = r; reason = reason }) b wa wb
again a b wa wb r reason more h = record {
  to_b = record { near = h.to_b.near; even = h.to_b.even; ahead = h.to_b.ahead; behind = h.to_b.behind };
  to_a = record { near = h.to_a.near; even = h.to_a.even; ahead = h.to_a.ahead; behind = h.to_a.behind };
  fit_a = record { orep = h.fit_a.orep; ocomp = h.fit_a.ocomp; creq = λ x. more (h.fit_a.creq x); got_creq = λ x. more (h.fit_a.got_creq x); crep = h.fit_a.crep; got_crep = h.fit_a.got_crep };
  fit_b = h.fit_b;
  open_a = h.open_a;
  open_b = h.open_b;
}

-- the closing reply is handled
pub handle_crep : (a b : End) (wa wb : Kinds) → Next Crep a → Sound a b wa wb → Sound (next (Handle Crep) wa a) b wa wb
handle_crep a b wa wb o h =
    ⊎_elim
    (λ (e : b.epoch ≡ a.epoch).
    let even : Even b.sent wa (without Crep a.taken) (also Crep a.got) = even_got_crep a b wa o h.fit_b (h.to_a.even e) in
    let fit : Fitting a.sent (also Crep a.got) a.reason = fit_got_crep a b wa wb o h.fit_a h.fit_b (h.to_a.even e) (h.to_b.even (sym e)) in
    ⊎_elim
    (λ (s : a.sent.crep ≡ true). rw (settled_yes (handled Crep a) (and_from _ _ s refl)) (finish (handled Crep a) b wa wb (sym e) s refl fit h.fit_b h.open_b even (h.to_b.even (sym e))))
    (λ (s : a.sent.crep ≡ false). rw (settled_no (handled Crep a) (and_left _ _ s)) record {
      to_b = record { near = h.to_b.near; even = h.to_b.even; ahead = h.to_b.ahead; behind = λ x. absurd (omega arith) };
      to_a = record { near = h.to_a.near; even = λ x. even; ahead = λ x. absurd (omega arith); behind = λ x. absurd (omega arith) };
      fit_a = fit;
      fit_b = h.fit_b;
      open_a = and_left _ _ s;
      open_b = h.open_b;
    })
    (cases_Bool a.sent.crep))
    (⊎_elim
    (λ (e : b.epoch ≡ a.epoch + 1).
    let behind : Behind a.sent wb b.taken b.got a.got = h.to_b.behind (sym e) in
    rw (settled_yes (handled Crep a) (and_from _ _ behind.closing.1 refl)) record {
      to_b = record { near = omega arith; even = λ x. join_to_b a b wb behind; ahead = λ x. absurd (omega arith); behind = λ x. absurd (omega arith) };
      to_a = record { near = omega arith; even = λ x. join_to_a a b wa o.0 h.fit_b (h.to_a.ahead e); ahead = λ x. absurd (omega arith); behind = λ x. absurd (omega arith) };
      fit_a = fit_none;
      fit_b = h.fit_b;
      open_a = refl;
      open_b = h.open_b;
    })
    (λ (e : b.epoch + 1 ≡ a.epoch). absurd (behind_got_crep a b wa o (h.to_a.behind e))))
    (epochs a b h.to_a.near h.to_b.near)

pub fine_crep : (a b : End) (wa wb : Kinds) → Next Crep a → Sound a b wa wb → refused Crep a ≡ false
fine_crep a b wa wb o h = ⊎_elim
    (λ (e : b.epoch ≡ a.epoch). fine_even_crep a b wa wb o h.fit_a h.fit_b (h.to_a.even e) (h.to_b.even (sym e)))
    (⊎_elim
    (λ (e : b.epoch ≡ a.epoch + 1). fine_ahead_crep a b wa o (h.to_a.ahead e))
    (λ (e : b.epoch + 1 ≡ a.epoch). absurd (behind_got_crep a b wa o (h.to_a.behind e))))
    (epochs a b h.to_a.near h.to_b.near)

-- the reason and the registration
pub register : (a b : End) (wa wb : Kinds) → Sound a b wa wb → Sound (next Register wa a) b wa wb
register a b wa wb h = again a b wa wb true a.reason (λ x. x) h

pub unregister : (a b : End) (wa wb : Kinds) → Sound a b wa wb → Sound (next Unregister wa a) b wa wb
unregister a b wa wb h = again a b wa wb false _ (or_left _ _) h

pub fault : (a b : End) (wa wb : Kinds) → Sound a b wa wb → Sound (next Fault wa a) b wa wb
fault a b wa wb h = again a b wa wb a.registered true (λ x. refl) h

-- every move of the flags
pub flags_kept : (m : Move) (a b : End) (wa wb : Kinds) → May m a → Sound a b wa wb → Sound (next m wa a) b (own_word m wa) (their_word m wb)
flags_kept Register a b wa wb m h = register a b wa wb h
flags_kept Unregister a b wa wb m h = unregister a b wa wb h
flags_kept Fault a b wa wb m h = fault a b wa wb h
flags_kept Take a b wa wb m h = take a b wa wb h
flags_kept (Send Oreq) a b wa wb m h = send_oreq a b wa wb m h
flags_kept (Send Orep) a b wa wb m h = send_orep a b wa wb m h
flags_kept (Send Ocomp) a b wa wb m h = send_ocomp a b wa wb m h
flags_kept (Send Creq) a b wa wb m h = send_creq a b wa wb m h
flags_kept (Send Crep) a b wa wb m h = send_crep a b wa wb m h
flags_kept (Handle Oreq) a b wa wb m h = handle_oreq a b wa wb m h
flags_kept (Handle Orep) a b wa wb m h = handle_orep a b wa wb m h
flags_kept (Handle Ocomp) a b wa wb m h = handle_ocomp a b wa wb m h
flags_kept (Handle Creq) a b wa wb m h = handle_creq a b wa wb m h
flags_kept (Handle Crep) a b wa wb m h = handle_crep a b wa wb m h

pub first_flags : Sound (record { registered = true; epoch = 0; sent = no_kinds; got = no_kinds; taken = no_kinds; reason = false }) (record { registered = true; epoch = 0; sent = no_kinds; got = no_kinds; taken = no_kinds; reason = false }) no_kinds no_kinds
first_flags = grind arith
