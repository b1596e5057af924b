-- Where each control flag between two ends is, in the words of the law.
use Rattle.std.proofs.Common.{◌≡◌, ℕ, ◌+◌, ◌<◌, ◌≤◌, Bool, true, false, ◌||◌, List, refl, ap, sym, ◌∙◌, subst, arith, Option, Some, None, inl, inr, ◌⊎◌}
use Rattle.std.specs.Prelude.{is_some}
use Rattle.std.proofs.lemmas.Bool.{eqb-true}
use Rattle.xp_base.specs.declared.layout.TheConstants.{PARTS, STAMP}
use Rattle.xp_base.specs.declared.link.Kind.{Kind}
use Rattle.xp_base.specs.declared.link.Kind.TheVariants.{CloseRequest, CloseReply, OpenRequest, OpenReply, OpenComplete, MsgRequest}
use Rattle.xp_base.specs.declared.session.Session.{Session}
use Rattle.xp_base.specs.Kinds.{Kinds, has, kinds_in}
use Rattle.xp_base.specs.Memory.{Memory}
use Rattle.xp_base.specs.History.{Event}
use Rattle.xp_base.specs.Places.{Place, IsWithin, Open, Flag, Args, Entry, index_of}
use Rattle.xp_script.specs.declared.scenario.Scenario.{Scenario}
use Rattle.xp_script.specs.Lawful.{IsLawful}
use Rattle.xp_script.specs.Opening.{opening}
use Rattle.xp_protocol.specs.Peering.{session_now}
use Rattle.xp_protocol.specs.Promised.{IsLine, memory_by}
use Rattle.xp_protocol.specs.Reached.{ReachedWords, state_at}
use Rattle.xp_protocol.specs.State.{State, Life, Booting, Up, Halted, Contact, End, Old, Ready, Replied, end_of, peer_of}
use Rattle.xp_meetings.proofs.Both.{Side}
use Rattle.xp_meetings.proofs.Meets.{left, right}
use Rattle.xp_meetings.proofs.Six.{six}
use Rattle.xp_meetings.proofs.Parts.{Part}
use Rattle.xp_meetings.proofs.Ties.{stamp_by}
use Rattle.xp_meetings.proofs.Words.{Words, Agrees}
use Rattle.xp_promises.proofs.Arguments.{SaidBy}
use Rattle.xp_promises.proofs.Before.{part_at}
use Rattle.xp_promises.proofs.FlagEnds.{Kinds as Five, no_kinds as no_five}
use Rattle.xp_promises.proofs.FlagKept.{Slot, Even, Ahead, Sound, epochs}
use Rattle.xp_promises.proofs.Headline.{Holds, Joined, turned, apart, bound}
use Rattle.xp_promises.proofs.Lines.{Area, area_at, five, control, terms, View, fresh, Room, FineAt}
use Rattle.xp_promises.proofs.Reuses.{whole_both}
use Rattle.xp_invariants.specs.Between.{word_after}
use Rattle.xp_invariants.specs.Flags.{flags_set, InContact, IsControl, IsPlaced, HasArguments, FlagPlaces}
use Rattle.xp_invariants.proofs.Standing.{reached_by, known_at}

placed_some : (w t g s : Bool) → Slot w t g s → s ≡ (w || (t || g))
placed_some true t g s h = h.word_sent refl
placed_some false true g s h = h.taken_sent refl
placed_some false false true s h = h.got_sent refl
placed_some false false false true h = let z : false ≡ true = h.some refl refl refl in absurd (cc)
placed_some false false false false h = refl

placed_by : (w t g s : Bool) → Slot w t g s → IsPlaced s w t g
placed_by w t g s h = record { some = placed_some w t g s h; word_alone = λ e. (h.word_taken e, h.word_got e); taken_alone = h.taken_got }

no_slot : IsPlaced false false false false
no_slot = record { some = refl; word_alone = λ e. absurd (cc); taken_alone = λ e. absurd (cc) }

unset : (s w t : Bool) → (w ≡ false) × (t ≡ false) × (s ≡ false) → IsPlaced s w t false
unset s w t h = subst (λ (x : Bool). IsPlaced x w t false) (sym h.2) (subst (λ (x : Bool). IsPlaced false x t false) (sym h.0) (subst (λ (x : Bool). IsPlaced false false x false) (sym h.1) no_slot))

-- kind by kind
even_placed : (sent word taken got : Kinds) (k : Kind) → IsControl k → Even (five sent) (five word) (five taken) (five got) → IsPlaced (has k sent) (has k word) (has k taken) (has k got)
even_placed sent word taken got OpenRequest c h = placed_by _ _ _ _ h.oreq
even_placed sent word taken got OpenReply c h = placed_by _ _ _ _ h.orep
even_placed sent word taken got OpenComplete c h = placed_by _ _ _ _ h.ocomp
even_placed sent word taken got CloseRequest c h = placed_by _ _ _ _ h.creq
even_placed sent word taken got CloseReply c h = placed_by _ _ _ _ h.crep
even_placed sent word taken got MsgRequest c h = absurd c

ahead_placed : (sent word taken : Kinds) (got theirs : Five) (k : Kind) → IsControl k → (k ≡ CloseReply → ⊥) → Ahead (five sent) (five word) (five taken) got theirs → IsPlaced (has k sent) (has k word) (has k taken) false
ahead_placed sent word taken got theirs OpenRequest c n h = placed_by _ _ _ _ h.oreq
ahead_placed sent word taken got theirs OpenReply c n h = unset _ _ _ h.orep
ahead_placed sent word taken got theirs OpenComplete c n h = unset _ _ _ h.ocomp
ahead_placed sent word taken got theirs CloseRequest c n h = placed_by _ _ _ _ h.creq
ahead_placed sent word taken got theirs CloseReply c n h = absurd (n refl)
ahead_placed sent word taken got theirs MsgRequest c n h = absurd c

out_of : (ks : Kinds) (k : Kind) → IsControl k → five ks ≡ no_five → has k ks ≡ false
out_of ks OpenRequest c e = ap (λ (f : Five). f.oreq) e
out_of ks OpenReply c e = ap (λ (f : Five). f.orep) e
out_of ks OpenComplete c e = ap (λ (f : Five). f.ocomp) e
out_of ks CloseRequest c e = ap (λ (f : Five). f.creq) e
out_of ks CloseReply c e = ap (λ (f : Five). f.crep) e
out_of ks MsgRequest c e = absurd c

fresh_placed : (sent word : Kinds) (k : Kind) → IsControl k → Even (five sent) (five word) no_five no_five → has k sent ≡ has k word
fresh_placed sent word OpenRequest c h = one (has OpenRequest word) _ h.oreq where
  one : (w s : Bool) → Slot w false false s → s ≡ w
  one true s h = h.word_sent refl
  one false true h = let z : false ≡ true = h.some refl refl refl in absurd (cc)
  one false false h = refl
fresh_placed sent word OpenReply c h = one (has OpenReply word) _ h.orep where
  one : (w s : Bool) → Slot w false false s → s ≡ w
  one true s h = h.word_sent refl
  one false true h = let z : false ≡ true = h.some refl refl refl in absurd (cc)
  one false false h = refl
fresh_placed sent word OpenComplete c h = one (has OpenComplete word) _ h.ocomp where
  one : (w s : Bool) → Slot w false false s → s ≡ w
  one true s h = h.word_sent refl
  one false true h = let z : false ≡ true = h.some refl refl refl in absurd (cc)
  one false false h = refl
fresh_placed sent word CloseRequest c h = one (has CloseRequest word) _ h.creq where
  one : (w s : Bool) → Slot w false false s → s ≡ w
  one true s h = h.word_sent refl
  one false true h = let z : false ≡ true = h.some refl refl refl in absurd (cc)
  one false false h = refl
fresh_placed sent word CloseReply c h = one (has CloseReply word) _ h.crep where
  one : (w s : Bool) → Slot w false false s → s ≡ w
  one true s h = h.word_sent refl
  one false true h = let z : false ≡ true = h.some refl refl refl in absurd (cc)
  one false false h = refl
fresh_placed sent word MsgRequest c h = absurd c

module _ (s : Scenario) (law : IsLawful s) (h : List Event) (m : Memory) (given : ReachedWords s h m) where
  reached : ReachedWords s h (memory_by (opening s) h)
  reached = reached_by s h m given

  abbrev words : Words
  words = (whole_both s law h (memory_by (opening s) h) reached).0

  tied : Agrees s.count (memory_by (opening s) h) words
  tied = (whole_both s law h (memory_by (opening s) h) reached).1

  good : Holds s law words (part_at s h)
  good = (whole_both s law h (memory_by (opening s) h) reached).2.good

  low_part : (o : ℕ) → o < s.count → o < PARTS
  low_part o lo = omega (arith, lo, law.numbers.count.high)

  module _ (p q c : ℕ) (l : IsLine s p q c) where
    abbrev a : Part
    a = part_at s h p

    abbrev b : Part
    b = part_at s h q

    abbrev mine : Area
    mine = area_at (words p) q c

    abbrev theirs : Area
    theirs = area_at (words q) p c

    abbrev e : End
    e = end_of a.state q c

    abbrev g : End
    g = end_of b.state p c

    abbrev i : Side
    i = left a.state.life (peer_of a.state q) (six words p q)

    abbrev j : Side
    j = right b.state.life (peer_of b.state p) (six words p q)

    f : FineAt s.count (Joined s law) (turned s law) (apart s law) (bound s law) words a b p q c
    f = good.fine p q c l

    word_is : (o : ℕ) (pl : Place) → o < s.count → IsWithin pl → word_after s h o pl ≡ words o pl
    word_is o pl lo within = tied.words o pl lo within

    flags_are : flags_set s h p q c ≡ theirs.flags
    flags_are = ap (λ (v : ℕ). kinds_in v c) (word_is q (Flag p) l.second (low_part p l.first))

    argument_is : (x : ℕ) → x < 4 → word_after s h p (Args q c x) ≡ words p (Args q c x)
    argument_is x lx = word_is p (Args q c x) l.first (low_part q l.second, l.channel, lx)

    module _ (here : InContact e) (there : InContact g) where
      room : Room i j mine theirs (a.books q c) (b.books p c) e g
      room = f.room (inl here)

      sound : Sound (control e) (control g) (five mine.flags) (five theirs.flags)
      sound = subst (λ (v : View). Sound v.control (control g) (five mine.flags) (five theirs.flags)) (room.here here) (subst (λ (v : View). Sound (control room.a) v.control (five mine.flags) (five theirs.flags)) (room.there there) room.line.flags)

      placed_now : (k : Kind) → e.epoch ≡ g.epoch → IsControl k → IsPlaced (has k e.shake.sent) (has k (flags_set s h p q c)) (has k g.shake.taken) (has k g.shake.got)
      placed_now k d i = subst (λ (w : Kinds). IsPlaced (has k e.shake.sent) (has k w) (has k g.shake.taken) (has k g.shake.got)) (sym flags_are) (even_placed e.shake.sent theirs.flags g.shake.taken g.shake.got k i (sound.to_b.even d))

      last_now : e.epoch ≡ g.epoch + 1 → IsPlaced true (has CloseReply (flags_set s h p q c)) (has CloseReply g.shake.taken) false × (g.shake.got.close_reply ≡ false) × (e.shake.sent.close_reply ≡ false)
      last_now d =
          let z = sound.to_b.ahead d in
          (subst (λ (w : Kinds). IsPlaced true (has CloseReply w) (has CloseReply g.shake.taken) false) (sym flags_are) (placed_by _ _ _ _ z.crep), z.closing.3, z.unsent)

      next_now : (k : Kind) → e.epoch ≡ g.epoch + 1 → IsControl k → (k ≡ CloseReply → ⊥) → IsPlaced (has k e.shake.sent) (has k (flags_set s h p q c)) (has k g.shake.taken) false
      next_now k d i n = subst (λ (w : Kinds). IsPlaced (has k e.shake.sent) (has k w) (has k g.shake.taken) false) (sym flags_are) (ahead_placed e.shake.sent theirs.flags g.shake.taken _ _ k i n (sound.to_b.ahead d))

      none_now : (k : Kind) → e.epoch + 1 ≡ g.epoch → IsControl k → (has k (flags_set s h p q c) ≡ false) × (has k g.shake.taken ≡ false)
      none_now k d i =
          let z = sound.to_b.behind d in
          (ap (λ (w : Kinds). has k w) flags_are ∙ out_of theirs.flags k i z.no_word, out_of g.shake.taken k i z.no_taken)

    -- an end in contact, whatever has become of its partner's
    said_now : InContact e → SaidBy mine.sheet (terms e)
    said_now here = let r = f.room (inl here) in subst (λ (v : View). SaidBy mine.sheet v.terms) (r.here here) r.line.argued.mine

    arguments_now : (k : Contact) → e.shake.meet ≡ Some k → HasArguments e (word_after s h p (Args q c 0)) (word_after s h p (Args q c 1)) (word_after s h p (Args q c 2)) (index_of (Entry q c 0))
    arguments_now k on =
        let z = said_now (ap (λ (o : Option Contact). is_some o) on) in
        record {
          asked = λ t. argument_is 0 (omega arith) ∙ z.put_request _ (z.asked t);
          replied = λ t. argument_is 1 (omega arith) ∙ eqb-true (words p (Args q c 1)) (index_of (Entry q c 0)) (z.put_reply (z.replied t));
          coded = λ t. argument_is 2 (omega arith) ∙ (z.put_code (z.coded t)).1;
        }

    -- what the partner in contact has loaded
    loaded_request : InContact g → (v : ℕ) → g.shake.request ≡ Some v → (g.shake.taken.open_request ≡ true) × (v ≡ word_after s h p (Args q c 0))
    loaded_request there v t =
        let r = f.room (inr there) in
        let k = r.line.argued.heard.request v (ap (λ (x : View). x.terms.request) (r.there there) ∙ t) in
        (ap (λ (x : View). x.terms.taken.oreq) (sym (r.there there)) ∙ k.0, k.1 ∙ sym (argument_is 0 (omega arith)))

    loaded_reply : InContact g → (v : Replied) → g.shake.reply ≡ Some v → (g.shake.taken.open_reply ≡ true) × (v.right ≡ true)
    loaded_reply there v t =
        let r = f.room (inr there) in
        let k = r.line.argued.heard.reply v (ap (λ (x : View). x.terms.reply) (r.there there) ∙ t) in
        (ap (λ (x : View). x.terms.taken.orep) (sym (r.there there)) ∙ k.0, k.1)

    loaded_code : InContact g → (v : ℕ) → g.shake.code ≡ Some v → (g.shake.taken.close_request ≡ true) × (v ≡ word_after s h p (Args q c 2))
    loaded_code there v t =
        let r = f.room (inr there) in
        let k = r.line.argued.heard.code v (ap (λ (x : View). x.terms.code) (r.there there) ∙ t) in
        (ap (λ (x : View). x.terms.taken.creq) (sym (r.there there)) ∙ k.0, k.1 ∙ sym (argument_is 2 (omega arith)))

    -- a partner that waits
    ready_stamp : (peer_of b.state p).engage.area ≡ Ready → stamp_by b.state.life (words q (Open STAMP)) ≡ b.state.stamp
    ready_stamp ready = by b.state.life refl where
      asleep : (b.state.life ≡ Up → ⊥) → stamp_by b.state.life (words q (Open STAMP)) ≡ b.state.stamp
      asleep n = let z : Old ≡ Ready = sym (f.both.their.down n) ∙ ready in absurd (cc)

      by : (y : Life) → b.state.life ≡ y → stamp_by b.state.life (words q (Open STAMP)) ≡ b.state.stamp
      by Up d = ap (λ (y : Life). stamp_by y (words q (Open STAMP))) d ∙ sym ((good.met.stamps q l.second).up d)
      by Booting d = asleep (λ u. (let z : Booting ≡ Up = sym d ∙ u in absurd (cc)))
      by Halted d = asleep (λ u. (let z : Halted ≡ Up = sym d ∙ u in absurd (cc)))

    awaited_now : (k : Kind) (x : Contact) → e.shake.meet ≡ Some x → (peer_of b.state p).engage.area ≡ Ready → (peer_of b.state p).contact ≡ None → session_now b.state.stamp (peer_of b.state p).engage ≡ x.theirs → IsControl k → has k e.shake.sent ≡ has k (flags_set s h p q c)
    awaited_now k x on ready alone session i =
        let here : InContact e = ap (λ (o : Option Contact). is_some o) on in
        let r = f.room (inl here) in
        let met : Some x ≡ Some (record { own = r.own; theirs = r.theirs }) = sym on ∙ ap (λ (v : View). v.meet) (sym (r.here here)) ∙ r.line.meet in
        let theirs_is : x.theirs ≡ r.theirs = one x _ met in
        let same : session_now (stamp_by b.state.life (words q (Open STAMP))) (peer_of b.state p).engage ≡ session_now b.state.stamp (peer_of b.state p).engage = ap (λ (n : ℕ). session_now n (peer_of b.state p).engage) (ready_stamp ready) in
        let late = r.their_late (record { ready = ready; alone = alone }) (same ∙ session ∙ theirs_is) in
        let sound = subst (λ (v : View). Sound v.control (fresh r.theirs r.own).control (five mine.flags) (five theirs.flags)) (r.here here) (subst (λ (v : View). Sound (control r.a) v.control (five mine.flags) (five theirs.flags)) late r.line.flags) in
        let even : e.epoch ≡ 0 = by r.theirs r.own sound (epochs (control e) (fresh r.theirs r.own).control sound.to_a.near sound.to_b.near) in
        fresh_placed e.shake.sent theirs.flags k i (sound.to_b.even even) ∙ ap (λ (w : Kinds). has k w) (sym flags_are)
      where
        one : (u v : Contact) → Some u ≡ Some v → u.theirs ≡ v.theirs
        one u v z = let t : u ≡ v = cc in ap (λ (y : Contact). y.theirs) t

        by : (u v : Session) → Sound (control e) (fresh u v).control (five mine.flags) (five theirs.flags) → (0 ≡ e.epoch) ⊎ ((0 ≡ e.epoch + 1) ⊎ (0 + 1 ≡ e.epoch)) → e.epoch ≡ 0
        by u v k (inl d) = sym d
        by u v k (inr (inl d)) = absurd (omega (arith, d))
        by u v k (inr (inr d)) = (let z = (k.to_b.ahead (sym d)).closing.2 in absurd (cc))

pub flags_kept : (s : Scenario) → IsLawful s → (h : List Event) (m : Memory) → ReachedWords s h m → FlagPlaces s h
flags_kept s law h m r = record {
  near = λ p q c l. (let P : State → State → Type 0 = λ a b. InContact (end_of a q c) → InContact (end_of b p c) → ((end_of a q c).epoch ≤ (end_of b p c).epoch + 1) × ((end_of b p c).epoch ≤ (end_of a q c).epoch + 1) in
      both p q P (λ here there. (let z = sound s law h m r p q c l here there in (z.to_b.near, z.to_a.near))));
  placed = λ p q c k l here there d i. (let P : State → State → Type 0 = λ a b. InContact (end_of a q c) → InContact (end_of b p c) → (end_of a q c).epoch ≡ (end_of b p c).epoch → IsPlaced (has k (end_of a q c).shake.sent) (has k (flags_set s h p q c)) (has k (end_of b p c).shake.taken) (has k (end_of b p c).shake.got) in
      both p q P (λ here there d. placed_now s law h m r p q c l here there k d i) here there d);
  last = λ p q c l. (let P : State → State → Type 0 = λ a b. InContact (end_of a q c) → InContact (end_of b p c) → (end_of a q c).epoch ≡ (end_of b p c).epoch + 1 → IsPlaced true (has CloseReply (flags_set s h p q c)) (has CloseReply (end_of b p c).shake.taken) false × ((end_of b p c).shake.got.close_reply ≡ false) × ((end_of a q c).shake.sent.close_reply ≡ false) in
      both p q P (λ here there d. last_now s law h m r p q c l here there d));
  next = λ p q c k l here there d i n. (let P : State → State → Type 0 = λ a b. InContact (end_of a q c) → InContact (end_of b p c) → (end_of a q c).epoch ≡ (end_of b p c).epoch + 1 → IsPlaced (has k (end_of a q c).shake.sent) (has k (flags_set s h p q c)) (has k (end_of b p c).shake.taken) false in
      both p q P (λ here there d. next_now s law h m r p q c l here there k d i n) here there d);
  none = λ p q c k l here there d i. (let P : State → State → Type 0 = λ a b. InContact (end_of a q c) → InContact (end_of b p c) → (end_of a q c).epoch + 1 ≡ (end_of b p c).epoch → (has k (flags_set s h p q c) ≡ false) × (has k (end_of b p c).shake.taken ≡ false) in
      both p q P (λ here there d. none_now s law h m r p q c l here there k d i) here there d);
  awaited = λ p q c k x l on w i. (let P : State → State → Type 0 = λ a b. (end_of a q c).shake.meet ≡ Some x → (peer_of b p).engage.area ≡ Ready → (peer_of b p).contact ≡ None → session_now b.stamp (peer_of b p).engage ≡ x.theirs → has k (end_of a q c).shake.sent ≡ has k (flags_set s h p q c) in
      both p q P (λ on ready alone session. awaited_now s law h m r p q c l k x on ready alone session i) on w.ready w.alone w.session);
  arguments = λ p q c x l. subst (λ (a : State). (end_of a q c).shake.meet ≡ Some x → HasArguments (end_of a q c) (word_after s h p (Args q c 0)) (word_after s h p (Args q c 1)) (word_after s h p (Args q c 2)) (index_of (Entry q c 0))) (at p) (arguments_now s law h m r p q c l x);
  request_loaded = λ p q c v l. subst (λ (b : State). InContact (end_of b p c) → (end_of b p c).shake.request ≡ Some v → ((end_of b p c).shake.taken.open_request ≡ true) × (v ≡ word_after s h p (Args q c 0))) (at q) (λ there. loaded_request s law h m r p q c l there v);
  reply_loaded = λ p q c v l. subst (λ (b : State). InContact (end_of b p c) → (end_of b p c).shake.reply ≡ Some v → ((end_of b p c).shake.taken.open_reply ≡ true) × (v.right ≡ true)) (at q) (λ there. loaded_reply s law h m r p q c l there v);
  code_loaded = λ p q c v l. subst (λ (b : State). InContact (end_of b p c) → (end_of b p c).shake.code ≡ Some v → ((end_of b p c).shake.taken.close_request ≡ true) × (v ≡ word_after s h p (Args q c 2))) (at q) (λ there. loaded_code s law h m r p q c l there v);
}
  where
    at : (p : ℕ) → (part_at s h p).state ≡ state_at s h p
    at p = known_at s law h p

    both : (p q : ℕ) (P : State → State → Type 0) → P (part_at s h p).state (part_at s h q).state → P (state_at s h p) (state_at s h q)
    both p q P x = subst (λ (a : State). P a (state_at s h q)) (at p) (subst (λ (b : State). P (part_at s h p).state b) (at q) x)
