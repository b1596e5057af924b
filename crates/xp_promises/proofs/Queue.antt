-- The flags between two ends are a queue: what was sent is what was got, what is taken, and what stands in the word, one after the other.
use Rattle.std.proofs.Common.{◌≡◌, ◌+◌, ℕ, Bool, true, false, cond, List, [], ◌∷◌, ◌++◌, ◌⊎◌, inl, inr, refl, ap, sym, ◌∙◌, arith}
use Rattle.xp_base.specs.declared.link.Kind.{Kind}
use Rattle.xp_base.specs.declared.link.Kind.TheVariants.{CloseRequest, CloseReply, OpenRequest, OpenReply, OpenComplete}
use Rattle.xp_base.specs.Kinds.{Kinds, has, no_kinds}
use Rattle.xp_protocol.specs.State.{End}
use Rattle.xp_protocol.specs.Promised.{those_in, sent_order, next_order, IsQueue, AreArguments}
use Rattle.xp_promises.proofs.FlagEnds.{Kinds as Five, no_kinds as no_five}
use Rattle.xp_promises.proofs.FlagKept.{Slot, Even, Ahead, Fitting, Sound, epochs}
use Rattle.xp_promises.proofs.Arguments.{Argued}
use Rattle.xp_promises.proofs.Lines.{Area, five, control, terms, fresh}
use Rattle.xp_base.specs.declared.session.Session.{Session}

-- where a flag is: not sent, in the word, taken, or got
pub record One (s g t w : Bool) : Type 0 where
  pub unsent : s ≡ false → (g ≡ false) × (t ≡ false) × (w ≡ false)
  pub some : s ≡ true → g ≡ false → t ≡ false → w ≡ true
  pub got : g ≡ true → (t ≡ false) × (w ≡ false)
  pub taken : t ≡ true → w ≡ false
  pub sent : (g ≡ true → s ≡ true) × (t ≡ true → s ≡ true) × (w ≡ true → s ≡ true)

-- one after the other: behind a flag that is taken none is got, and behind one in the word none is taken
abbrev pub InTurn : Kinds → Kinds → Kinds → Kinds → List Kind → Type 0
InTurn s g t w [] = Unit {0}
InTurn s g t w (k ∷ ks) = One (has k s) (has k g) (has k t) (has k w) × (has k t ≡ true → those_in g ks ≡ []) × (has k w ≡ true → (those_in g ks ≡ []) × (those_in t ks ≡ [])) × InTurn s g t w ks

module _ (k : Kind) (sent gone taken word : List Kind) (IH : sent ≡ gone ++ (taken ++ word)) where
  placed : (s g t w : Bool) → One s g t w → (t ≡ true → gone ≡ []) → (w ≡ true → (gone ≡ []) × (taken ≡ [])) → cond s (k ∷ sent) sent ≡ cond g (k ∷ gone) gone ++ (cond t (k ∷ taken) taken ++ cond w (k ∷ word) word)
  placed true true t w h a b = let f = h.got refl in rw (f.0, f.1) (ap (λ (ks : List Kind). k ∷ ks) IH)
  placed true false true w h a b = rw (h.taken refl) (ap (λ (ks : List Kind). k ∷ ks) (IH ∙ ap (λ (ks : List Kind). ks ++ (taken ++ word)) (a refl)) ∙ sym (ap (λ (ks : List Kind). ks ++ (k ∷ (taken ++ word))) (a refl)))
  placed true false false w h a b =
      let f = h.some refl refl refl in
      let e = b f in
      rw f (ap (λ (ks : List Kind). k ∷ ks) (IH ∙ (λ i. e.0 i ++ (e.1 i ++ word))) ∙ sym (λ i. e.0 i ++ (e.1 i ++ (k ∷ word))))
  placed false g t w h a b = let f = h.unsent refl in rw (f.0, f.1, f.2) IH

pub in_turn : (s g t w : Kinds) (ks : List Kind) → InTurn s g t w ks → those_in s ks ≡ those_in g ks ++ (those_in t ks ++ those_in w ks)
in_turn s g t w [] h = refl
in_turn s g t w (k ∷ ks) h = placed k (those_in s ks) (those_in g ks) (those_in t ks) (those_in w ks) (in_turn s g t w ks h.3) (has k s) (has k g) (has k t) (has k w) h.0 h.1 h.2

one_of : (w t g s : Bool) → Slot w t g s → One s g t w
one_of w t g s h = grind arith

-- what comes after a flag that isn't got yet isn't got, and what comes after one in the word isn't taken
record Order (w taken got : Five) : Type 0 where
  got_oreq : got.orep ≡ true → got.oreq ≡ true
  got_orep : got.ocomp ≡ true → got.orep ≡ true
  got_creq : got.crep ≡ true → got.creq ≡ true

module _ (sent w taken got their_got : Five) (reason : Bool) (h : Even sent w taken got) (f : Fitting sent their_got reason) (o : Order w taken got) where
  got_after_oreq : (got.oreq ≡ false) → (taken.oreq ≡ true) ⊎ (w.oreq ≡ true) → (got.orep ≡ false) × (got.ocomp ≡ false) × (got.creq ≡ false) × (got.crep ≡ false)
  got_after_oreq n d = grind arith

  got_after_orep : (got.orep ≡ false) → (taken.orep ≡ true) ⊎ (w.orep ≡ true) → (got.ocomp ≡ false) × (got.creq ≡ false) × (got.crep ≡ false)
  got_after_orep n d = grind arith

  got_after_ocomp : (taken.ocomp ≡ true) ⊎ (w.ocomp ≡ true) → (got.creq ≡ false) × (got.crep ≡ false)
  got_after_ocomp d = grind arith

  got_after_creq : (got.creq ≡ false) → got.crep ≡ false
  got_after_creq n = grind arith

  taken_after_oreq : w.oreq ≡ true → (taken.orep ≡ false) × (taken.ocomp ≡ false) × (taken.creq ≡ false) × (taken.crep ≡ false)
  taken_after_oreq d = grind arith

  taken_after_orep : w.orep ≡ true → (taken.ocomp ≡ false) × (taken.creq ≡ false) × (taken.crep ≡ false)
  taken_after_orep d = grind arith

  taken_after_ocomp : w.ocomp ≡ true → (taken.creq ≡ false) × (taken.crep ≡ false)
  taken_after_ocomp d = grind arith

  taken_after_creq : w.creq ≡ true → taken.crep ≡ false
  taken_after_creq d = grind arith

  not_got_taken : (t g : Bool) (w s : Bool) → Slot w t g s → t ≡ true → g ≡ false
  not_got_taken t g w s z d = grind arith

  not_got_word : (t g : Bool) (w s : Bool) → Slot w t g s → w ≡ true → g ≡ false
  not_got_word t g w s z d = grind arith

-- none of these is in the set
abbrev AreOut : Kinds → List Kind → Type 0
AreOut ks [] = Unit {0}
AreOut ks (k ∷ more) = (has k ks ≡ false) × AreOut ks more

none_in : (ks : Kinds) (more : List Kind) → AreOut ks more → those_in ks more ≡ []
none_in ks [] h = refl
none_in ks (k ∷ more) h = rw h.0 (none_in ks more h.1)

module _ (s g t w : Kinds) (their_got : Five) (reason : Bool) where
  module _ (h : Even (five s) (five w) (five t) (five g)) (f : Fitting (five s) their_got reason) (o : Order (five w) (five t) (five g)) where
    even_turn : InTurn s g t w sent_order
    even_turn =
        let a = got_after_oreq (five s) (five w) (five t) (five g) their_got reason h f o in
        let b = got_after_orep (five s) (five w) (five t) (five g) their_got reason h f o in
        let c = got_after_ocomp (five s) (five w) (five t) (five g) their_got reason h f o in
        let d = got_after_creq (five s) (five w) (five t) (five g) their_got reason h f o in
        let ta = taken_after_oreq (five s) (five w) (five t) (five g) their_got reason h f o in
        let tb = taken_after_orep (five s) (five w) (five t) (five g) their_got reason h f o in
        let tc = taken_after_ocomp (five s) (five w) (five t) (five g) their_got reason h f o in
        let td = taken_after_creq (five s) (five w) (five t) (five g) their_got reason h f o in
        let gt : (t g w s : Bool) → Slot w t g s → t ≡ true → g ≡ false = not_got_taken (five s) (five w) (five t) (five g) their_got reason h f o in
        let gw : (t g w s : Bool) → Slot w t g s → w ≡ true → g ≡ false = not_got_word (five s) (five w) (five t) (five g) their_got reason h f o in (
          one_of _ _ _ _ h.oreq,
          (λ e. (let k = a (gt _ _ _ _ h.oreq e) (inl e) in none_in g (OpenReply ∷ OpenComplete ∷ CloseRequest ∷ CloseReply ∷ []) (k.0, (k.1, (k.2, (k.3, tt)))))),
          (λ e. (let k = a (gw _ _ _ _ h.oreq e) (inr e) in let l = ta e in (none_in g (OpenReply ∷ OpenComplete ∷ CloseRequest ∷ CloseReply ∷ []) (k.0, (k.1, (k.2, (k.3, tt)))), none_in t (OpenReply ∷ OpenComplete ∷ CloseRequest ∷ CloseReply ∷ []) (l.0, (l.1, (l.2, (l.3, tt))))))),
          (
            one_of _ _ _ _ h.orep,
            (λ e. (let k = b (gt _ _ _ _ h.orep e) (inl e) in none_in g (OpenComplete ∷ CloseRequest ∷ CloseReply ∷ []) (k.0, (k.1, (k.2, tt))))),
            (λ e. (let k = b (gw _ _ _ _ h.orep e) (inr e) in let l = tb e in (none_in g (OpenComplete ∷ CloseRequest ∷ CloseReply ∷ []) (k.0, (k.1, (k.2, tt))), none_in t (OpenComplete ∷ CloseRequest ∷ CloseReply ∷ []) (l.0, (l.1, (l.2, tt)))))),
            (
              one_of _ _ _ _ h.ocomp,
              (λ e. (let k = c (inl e) in none_in g (CloseRequest ∷ CloseReply ∷ []) (k.0, (k.1, tt)))),
              (λ e. (let k = c (inr e) in let l = tc e in (none_in g (CloseRequest ∷ CloseReply ∷ []) (k.0, (k.1, tt)), none_in t (CloseRequest ∷ CloseReply ∷ []) (l.0, (l.1, tt))))),
              (
                one_of _ _ _ _ h.creq,
                (λ e. none_in g (CloseReply ∷ []) (d (gt _ _ _ _ h.creq e), tt)),
                (λ e. (none_in g (CloseReply ∷ []) (d (gw _ _ _ _ h.creq e), tt), none_in t (CloseReply ∷ []) (td e, tt))),
                (one_of _ _ _ _ h.crep, (λ e. refl), (λ e. (refl, refl)), tt),
              ),
            ),
          ),
        )

  -- the sender is in the next epoch
  module _ (their_sent : Five) (h : Ahead (five s) (five w) (five t) (five g) their_sent) where
    abbrev sent' : Kinds
    sent' = record s { close_reply = true }

    none_sent : (s t w : Bool) → (w ≡ false) × (t ≡ false) × (s ≡ false) → One s false t w
    none_sent s t w h = grind arith

    not_creq : (five w).oreq ≡ true → (five t).creq ≡ false
    not_creq e = grind arith

    ahead_turn : InTurn sent' no_kinds t w next_order
    ahead_turn = (
      one_of _ _ _ _ h.crep,
      (λ e. refl),
      (λ e. (refl, (let k = h.first e in none_in t (OpenRequest ∷ OpenReply ∷ OpenComplete ∷ CloseRequest ∷ []) (k.0, (h.orep.1, (h.ocomp.1, (k.1, tt))))))),
      (
        one_of _ _ _ _ h.oreq,
        (λ e. refl),
        (λ e. (refl, none_in t (OpenReply ∷ OpenComplete ∷ CloseRequest ∷ []) (h.orep.1, (h.ocomp.1, (not_creq e, tt))))),
        (
          none_sent _ _ _ h.orep,
          (λ e. refl),
          (λ e. absurd (both_ways (five w).orep e h.orep.0)),
          (
            none_sent _ _ _ h.ocomp,
            (λ e. refl),
            (λ e. absurd (both_ways (five w).ocomp e h.ocomp.0)),
            (one_of _ _ _ _ h.creq, (λ e. refl), (λ e. (refl, refl)), tt),
          ),
        ),
      ),
    )
      where
        both_ways : (b : Bool) → b ≡ true → b ≡ false → ⊥
        both_ways b e f = absurd (cc)

    ahead_queue : CloseReply ∷ those_in s sent_order ≡ those_in t next_order ++ those_in w next_order
    ahead_queue = ap (λ (ks : List Kind). CloseReply ∷ ks) (same s h.unsent) ∙ in_turn sent' no_kinds t w next_order ahead_turn where
      same : (s : Kinds) → s.close_reply ≡ false → those_in s sent_order ≡ those_in s (OpenRequest ∷ OpenReply ∷ OpenComplete ∷ CloseRequest ∷ [])
      same s e = rw e refl

all_out : (k : Kinds) → five k ≡ no_five → those_in k sent_order ≡ []
all_out k e = none_in k sent_order (ap (λ (f : Five). f.oreq) e, (ap (λ (f : Five). f.orep) e, (ap (λ (f : Five). f.ocomp) e, (ap (λ (f : Five). f.creq) e, (ap (λ (f : Five). f.crep) e, tt)))))

pub queue : (x y : Area) (e g : End) → Sound (control e) (control g) (five x.flags) (five y.flags) → Argued x.sheet y.sheet (terms e) (terms g) → IsQueue e g y.flags
queue x y e g h k = record {
  near = (h.to_b.near, h.to_a.near);
  even = λ d. in_turn e.shake.sent g.shake.got g.shake.taken y.flags sent_order (even_turn e.shake.sent g.shake.got g.shake.taken y.flags (five e.shake.got) (control e).reason (h.to_b.even d) h.fit_a order);
  ahead = λ d. ahead_queue e.shake.sent g.shake.got g.shake.taken y.flags (five e.shake.got) (control e).reason (five g.shake.sent) (h.to_b.ahead d);
  behind = λ d. (let b = h.to_b.behind d in (all_out g.shake.got b.no_got, all_out g.shake.taken b.no_taken, all_out y.flags b.no_word));
}
  where
    order : Order (five y.flags) (five g.shake.taken) (five g.shake.got)
    order = record { got_oreq = k.heard.reply_after; got_orep = k.heard.complete_after; got_creq = λ t. (h.fit_b.got_crep t).1 }

pub arguments : (x y : Area) (e g : End) (reply place : ℕ) → (x.sheet.reply ≡ true → reply ≡ place) → Argued x.sheet y.sheet (terms e) (terms g) → AreArguments e g x.sheet.request reply x.sheet.code place
arguments x y e g reply place right k = record {
  request_stands = λ t. k.mine.put_request _ (k.mine.asked t);
  reply_stands = λ t. right (k.mine.put_reply (k.mine.replied t));
  code_stands = λ t. (k.mine.put_code (k.mine.coded t)).1;
  request_loaded = k.heard.request;
  reply_loaded = k.heard.reply;
  code_loaded = k.heard.code;
  size = k.heard.sizes;
}

-- a partner that waits for the contact has got and taken nothing
pub waits : (x y : Kinds) (e : End) (u v : Session) → Sound (control e) (fresh u v).control (five x) (five y) → (e.epoch ≡ 0) × (those_in e.shake.sent sent_order ≡ those_in y sent_order)
waits x y e u v h =
    let even : e.epoch ≡ 0 = by (epochs (control e) (fresh u v).control h.to_a.near h.to_b.near) in
    (even, in_turn e.shake.sent no_kinds no_kinds y sent_order (even_turn e.shake.sent no_kinds no_kinds y (five e.shake.got) (control e).reason (h.to_b.even even) h.fit_a (record { got_oreq = λ t. absurd (cc); got_orep = λ t. absurd (cc); got_creq = λ t. absurd (cc) })))
  where
    by : (0 ≡ e.epoch) ⊎ ((0 ≡ e.epoch + 1) ⊎ (0 + 1 ≡ e.epoch)) → e.epoch ≡ 0
    by (inl d) = sym d
    by (inr (inl d)) = absurd (omega (arith, d))
    by (inr (inr d)) = (let k = (h.to_b.ahead (sym d)).closing.2 in absurd (cc))
