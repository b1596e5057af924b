-- The line of a connection, in the words of the law.
use Rattle.std.proofs.Common.{◌≡◌, ℕ, ◌+◌, ◌*◌, ◌%◌, ◌<◌, ◌≤◌, Bool, true, false, List, [], ◌∷◌, ◌++◌, length, refl, ap, sym, ◌∙◌, subst, arith, Option, Some, None, inl, inr, ◌⊎◌}
use Rattle.std.specs.Prelude.{is_some, slice_get}
use Rattle.std.proofs.Math.ListN.{length-append}
use Rattle.std.proofs.Math.Nat.{mul_assoc, mul_comm}
use Rattle.xp_base.specs.declared.layout.TheConstants.{PARTS}
use Rattle.xp_base.specs.declared.step.Answer.{Answer}
use Rattle.xp_base.specs.declared.step.Answer.TheVariants.{Word, Failed}
use Rattle.xp_base.specs.Entries.{entry_words, lines}
use Rattle.xp_base.specs.Memory.{Memory}
use Rattle.xp_base.specs.History.{Event, Marked, Turn, Turned, after_answer, after_made, turns_of}
use Rattle.xp_base.specs.Places.{IsWithin, Counter, Entry}
use Rattle.xp_script.specs.declared.part.ScenarioPart.{ScenarioPart}
use Rattle.xp_script.specs.declared.scenario.Scenario.{Scenario}
use Rattle.xp_script.specs.Lawful.{IsLawful}
use Rattle.xp_script.specs.Opening.{opening}
use Rattle.xp_script.specs.Parts.{part_of}
use Rattle.xp_protocol.specs.Decode.{rule_of}
use Rattle.xp_protocol.specs.Promised.{IsLine, Name, name_of, exchanged, by_name, first_named, accepted_of, acked_of, records_of, memory_by, word_of, known_acted, size_got, size_sent}
use Rattle.xp_protocol.specs.Linking.{agreed}
use Rattle.xp_protocol.specs.Reached.{ReachedWords, state_at}
use Rattle.xp_protocol.specs.Records.{Recorded}
use Rattle.xp_protocol.specs.Rules.{op_of, row_of, owner}
use Rattle.xp_protocol.specs.Runs.{MayMake}
use Rattle.xp_protocol.specs.State.{State, Contact, End, end_of, peer_of, may_copy, is_begun}
use Rattle.xp_protocol.proofs.Undo.{within, owner_low}
use Rattle.xp_meetings.proofs.Both.{Side}
use Rattle.xp_meetings.proofs.Meets.{left, right}
use Rattle.xp_meetings.proofs.Parts.{Part, part_start, from_books}
use Rattle.xp_meetings.proofs.Six.{six}
use Rattle.xp_meetings.proofs.Words.{Words, Agrees, agrees}
use Rattle.xp_promises.proofs.Before.{Before, part_at, at_step, memory-append}
use Rattle.xp_promises.proofs.Books.{HasFirst, at, named, name_here}
use Rattle.xp_promises.proofs.Direction.{Out, In, Kept, Held}
use Rattle.xp_promises.proofs.FlagUse.{copying}
use Rattle.xp_promises.proofs.Headline.{Holds, Joined, turned, apart, bound, other_accepted}
use Rattle.xp_promises.proofs.Lines.{Area, area_at, five, control, View, view, Line, Room, FineAt}
use Rattle.xp_promises.proofs.Rests.{in_side}
use Rattle.xp_promises.proofs.Ring.{mod_less, within_times}
use Rattle.xp_promises.proofs.Reuses.{whole_both, other_acked}
use Rattle.xp_promises.proofs.Steps.{Open, open_copy, got_at}
use Rattle.xp_promises.proofs.Versions.{versions_kept}
use Rattle.xp_promises.proofs.Ways.{out_of, in_of}
use Rattle.xp_invariants.specs.Between.{word_after, IsStepBy}
use Rattle.xp_invariants.specs.Flags.{InContact}
use Rattle.xp_invariants.specs.Limits.{HaveOneLimit, Limits}
use Rattle.xp_invariants.specs.Lines.{get_word, put_word, message, IsReceived, HoldMessages, AreCopied, IsSent, IsCounterRule, StoresCounter, Lines}
use Rattle.xp_invariants.proofs.Agreed.{known_size, has_agreed, one_limit}
use Rattle.xp_invariants.proofs.Counted.{counter_kept}
use Rattle.xp_invariants.proofs.Judged.{judged}
use Rattle.xp_invariants.proofs.Onward.{step_state}
use Rattle.xp_invariants.proofs.Standing.{Standing, lawful, reached_by, before_stands, known_at}

-- a word of a slot is a word of the queue
queue_low : (n limit k f : ℕ) → 0 < n → n * lines limit ≤ 8 → f < entry_words limit → entry_words limit * (k % n) + f < 128
queue_low n limit k f some fits low =
    let a = within_times (entry_words limit) (k % n) f n (mod_less k n some) low in
    let b : entry_words limit * n ≡ 16 * (n * lines limit) = mul_assoc 16 (lines limit) n ∙ ap (λ (x : ℕ). 16 * x) (mul_comm (lines limit) n) in
    omega (arith, a, b, fits)

-- a receiver, by the direction that is kept
module _ (o : Out) (i : In) (k : Kept o i) (r : Recorded) (taken : i.taken ≡ r.taken) (acked : i.acked ≡ r.acked) where
  counts : length i.taken ≡ length r.taken
  counts = ap (λ (xs : List (List ℕ)). length xs) taken

  received_by : IsReceived i.pull r o.put o.accepted
  received_by = record {
    acked = omega (arith, k.chain, acked, counts);
    taken = omega (arith, k.chain, counts);
    pulled = k.chain.pulled_seen;
    seen = omega (arith, k.chain);
    put_count = omega (arith, k.chain);
    bodies = λ n l. ap (λ (xs : List (List ℕ)). message (xs ++ i.pull.cache) n) (sym taken) ∙ k.bodies.same n l;
    count = omega (arith, k.chain, counts, length-append r.taken i.pull.cache);
  }

  held_by : HoldMessages i.pull r.acked o.accepted o.entry
  held_by =
      let h : Held (entry_words i.pull.limit) i.pull.entries i.stored o.accepted o.entry = subst (λ (l : ℕ). Held (entry_words l) i.pull.entries i.stored o.accepted o.entry) (sym k.chain.same_limit) (subst (λ (n : ℕ). Held (entry_words o.send.limit) n i.stored o.accepted o.entry) (sym k.chain.same_entries) k.held) in
      record { at = λ n f le lt l. h.at n f (omega (arith, le, acked, k.chain)) lt l }

  copied_by : AreCopied i.pull o.accepted
  copied_by = record { at = k.copied.at }

  got_by : i.get ≡ r.acked
  got_by = omega (arith, k.chain, acked)

module _ (s : Scenario) (law : IsLawful s) (h : List Event) (m : Memory) (given : ReachedWords s h m) where
  reached : ReachedWords s h (memory_by (opening s) h)
  reached = reached_by s h m given

  abbrev words : Words
  words = (whole_both s law h (memory_by (opening s) h) reached).0

  tied : Agrees s.count (memory_by (opening s) h) words
  tied = (whole_both s law h (memory_by (opening s) h) reached).1

  good : Holds s law words (part_at s h)
  good = (whole_both s law h (memory_by (opening s) h) reached).2.good

  low_part : (o : ℕ) → o < s.count → o < PARTS
  low_part o lo = omega (arith, lo, law.numbers.count.high)

  module _ (p q c : ℕ) (l : IsLine s p q c) where
    abbrev a : Part
    a = part_at s h p

    abbrev b : Part
    b = part_at s h q

    abbrev x : Area
    x = area_at (words p) q c

    abbrev y : Area
    y = area_at (words q) p c

    abbrev e : End
    e = end_of a.state q c

    abbrev g : End
    g = end_of b.state p c

    abbrev rs : List Recorded
    rs = a.books q c

    abbrev ss : List Recorded
    ss = b.books p c

    abbrev i : Side
    i = left a.state.life (peer_of a.state q) (six words p q)

    abbrev j : Side
    j = right b.state.life (peer_of b.state p) (six words p q)

    f : FineAt s.count (Joined s law) (turned s law) (apart s law) (bound s law) words a b p q c
    f = good.fine p q c l

    own_counter : (n : ℕ) → n < 2 → word_after s h p (Counter q c n) ≡ words p (Counter q c n)
    own_counter n ln = tied.words p (Counter q c n) l.first (low_part q l.second, l.channel, ln)

    their_counter : (n : ℕ) → n < 2 → word_after s h q (Counter p c n) ≡ words q (Counter p c n)
    their_counter n ln = tied.words q (Counter p c n) l.second (low_part p l.first, l.channel, ln)

    newest_is : (zs : List Recorded) (z r : Recorded) (more : List Recorded) → zs ≡ z ∷ more → slice_get zs 0 ≡ Some r → z ≡ r
    newest_is zs z r more d t = let k : Some z ≡ Some r = ap (λ (us : List Recorded). slice_get us 0) (sym d) ∙ t in cc

    -- the partner's words may be copied
    module _ (may : may_copy e ≡ true) where
      opens : Open x y e
      opens = open_copy x y e may

      room : Room i j x y rs ss e g
      room = f.room (inl opens.on)

      line : Line room.own room.theirs x y rs ss (view e) (view room.b)
      line = subst (λ (v : View). Line room.own room.theirs x y rs ss v (view room.b)) (room.here opens.on) room.line

      abbrev mine_now : Recorded
      mine_now = named room.own room.theirs e.epoch rs

      abbrev theirs_now : Recorded
      theirs_now = named room.theirs room.own room.b.epoch ss

      kept : Kept (out_of y.ring.put y.ring.entry theirs_now room.b.sides.send) (in_of x.ring.get mine_now (in_side e))
      kept = got_at x y q c e opens room.own room.theirs rs ss room.b line

      even : e.epoch ≡ room.b.epoch
      even = (copying (control e) (control room.b) (five x.flags) (five y.flags) (opens.copy (control room.b) line.flags) line.flags).even

      -- the newest record is that of the connection
      mine_is : (r : Recorded) → slice_get rs 0 ≡ Some r → (mine_now ≡ r) × (name_of r ≡ at room.own room.theirs e.epoch)
      mine_is r t = by rs (line.rest.mine.first opens.begun) t where
        by : (zs : List Recorded) → HasFirst (at room.own room.theirs e.epoch) zs → slice_get zs 0 ≡ Some r → (named room.own room.theirs e.epoch zs ≡ r) × (name_of r ≡ at room.own room.theirs e.epoch)
        by [] has t = absurd has
        by (z ∷ more) has t =
            let same : z ≡ r = newest_is (z ∷ more) z r more refl t in
            (name_here (at room.own room.theirs e.epoch) z more has ∙ same, ap name_of (sym same) ∙ has)

      accepted_is : (r : Recorded) → slice_get rs 0 ≡ Some r → theirs_now.accepted ≡ accepted_of (first_named r ss)
      accepted_is r t =
          let same : exchanged (name_of r) ≡ at room.theirs room.own room.b.epoch = ap exchanged (mine_is r t).1 ∙ ap (λ (n : ℕ). at room.theirs room.own n) even in
          ap (λ (k : Name). (by_name k ss).accepted) (sym same) ∙ other_accepted r ss

      module _ (r : Recorded) (t : slice_get rs 0 ≡ Some r) where
        taken_is : mine_now.taken ≡ r.taken
        taken_is = ap (λ (z : Recorded). z.taken) (mine_is r t).0

        acked_is : mine_now.acked ≡ r.acked
        acked_is = ap (λ (z : Recorded). z.acked) (mine_is r t).0

        received_now : IsReceived e.sides.pull r (put_word s h q p c) (accepted_of (first_named r ss))
        received_now = subst (λ (n : ℕ). IsReceived e.sides.pull r n (accepted_of (first_named r ss))) (sym (their_counter 1 (omega arith))) (subst (λ (bs : List (List ℕ)). IsReceived e.sides.pull r y.ring.put bs) (accepted_is r t) (received_by _ _ kept r taken_is acked_is))

        got_now : get_word s h p q c ≡ r.acked
        got_now = own_counter 0 (omega arith) ∙ got_by _ _ kept r taken_is acked_is

        held_now : HoldMessages e.sides.pull r.acked (accepted_of (first_named r ss)) (λ k. word_after s h q (Entry p c k))
        held_now = subst (λ (bs : List (List ℕ)). HoldMessages e.sides.pull r.acked bs (λ k. word_after s h q (Entry p c k))) (accepted_is r t) now where
          k : Kept (out_of y.ring.put y.ring.entry theirs_now room.b.sides.send) (in_of x.ring.get mine_now (in_side e))
          k = kept

          held : HoldMessages e.sides.pull r.acked theirs_now.accepted y.ring.entry
          held = held_by _ _ kept r taken_is acked_is

          low : (n f : ℕ) → f < entry_words e.sides.pull.limit → entry_words e.sides.pull.limit * (n % e.sides.pull.entries) + f < 128
          low n f lw = queue_low e.sides.pull.entries e.sides.pull.limit n f (omega (arith, k.chain.some_entries, k.chain.same_entries)) (subst (λ (l : ℕ). e.sides.pull.entries * lines l ≤ 8) (sym k.chain.same_limit) (subst (λ (n : ℕ). n * lines room.b.sides.send.limit ≤ 8) (sym k.chain.same_entries) k.chain.fits)) lw

          now : HoldMessages e.sides.pull r.acked theirs_now.accepted (λ k. word_after s h q (Entry p c k))
          now = record { at = λ n f le lt lw. tied.words q (Entry p c (entry_words e.sides.pull.limit * (n % e.sides.pull.entries) + f)) l.second (low_part p l.first, l.channel, low n f lw) ∙ held.at n f le lt lw }

        copied_now : AreCopied e.sides.pull (accepted_of (first_named r ss))
        copied_now = subst (λ (bs : List (List ℕ)). AreCopied e.sides.pull bs) (accepted_is r t) (copied_by _ _ kept r taken_is acked_is)

      -- the sizes of both ends
      module _ (there : InContact g) where
        epoch_there : e.epoch ≡ g.epoch
        epoch_there = even ∙ ap (λ (v : View). v.control.epoch) (room.there there)

        completes : g.shake.sent.open_complete ≡ true
        completes = ap (λ (v : View). v.control.sent.ocomp) (sym (room.there there)) ∙ (copying (control e) (control room.b) (five x.flags) (five y.flags) (opens.copy (control room.b) line.flags) line.flags).their

        limits_now : HaveOneLimit e g
        limits_now = one_limit room.own room.theirs x y rs ss e g (subst (λ (v : View). Line room.own room.theirs x y rs ss (view e) v) (room.there there) line) epoch_there opens.opened completes

    -- an end in contact
    module _ (here : InContact e) where
      room_in : Room i j x y rs ss e g
      room_in = f.room (inl here)

      line_in : Line room_in.own room_in.theirs x y rs ss (view e) (view room_in.b)
      line_in = subst (λ (v : View). Line room_in.own room_in.theirs x y rs ss v (view room_in.b)) (room_in.here here) room_in.line

      line_there : InContact g → Line room_in.own room_in.theirs x y rs ss (view e) (view g)
      line_there there = subst (λ (v : View). Line room_in.own room_in.theirs x y rs ss (view e) v) (room_in.there there) line_in

      known_now : InContact g → e.epoch ≡ g.epoch → g.shake.got.open_request ≡ true → size_got g ≡ size_sent e
      known_now there = known_size room_in.own room_in.theirs x y rs ss e g (line_there there)

      -- what an end knows of the limit is true of its partner as it was, too
      replied_now : e.shake.sent.open_reply ≡ true → is_some (agreed e.shake) ≡ true
      replied_now = has_agreed room_in.own room_in.theirs x y rs ss e room_in.b line_in

      open_now : InContact g → e.epoch ≡ g.epoch → e.shake.sent.open_complete ≡ true → g.shake.sent.open_complete ≡ true → HaveOneLimit e g
      open_now there = one_limit room_in.own room_in.theirs x y rs ss e g (line_there there)

      abbrev record_in : Recorded
      record_in = named room_in.own room_in.theirs e.epoch rs

      sending : e.shake.sent.open_complete ≡ true → Kept (out_of x.ring.put x.ring.entry record_in e.sides.send) (line_in.rest.sends.inn e.epoch)
      sending on = subst (λ (o : Out). Kept o (line_in.rest.sends.inn e.epoch)) (line_in.rest.sends.out_live on) (line_in.rest.sends.kept e.epoch)

      getting : e.shake.sent.open_complete ≡ true → Kept (line_in.rest.gets.out e.epoch) (in_of x.ring.get record_in (in_side e))
      getting on = subst (λ (k : In). Kept (line_in.rest.gets.out e.epoch) k) (line_in.rest.gets.in_live on) (line_in.rest.gets.kept e.epoch)

      begun_by : e.shake.sent.open_complete ≡ true → is_begun e ≡ true
      begun_by on = rw on refl

      record_is : (r : Recorded) → e.shake.sent.open_complete ≡ true → slice_get rs 0 ≡ Some r → (record_in ≡ r) × (name_of r ≡ at room_in.own room_in.theirs e.epoch)
      record_is r on t = by rs (line_in.rest.mine.first (begun_by on)) t where
        by : (zs : List Recorded) → HasFirst (at room_in.own room_in.theirs e.epoch) zs → slice_get zs 0 ≡ Some r → (named room_in.own room_in.theirs e.epoch zs ≡ r) × (name_of r ≡ at room_in.own room_in.theirs e.epoch)
        by [] has t = absurd has
        by (z ∷ more) has t =
            let same : z ≡ r = newest_is (z ∷ more) z r more refl t in
            (name_here (at room_in.own room_in.theirs e.epoch) z more has ∙ same, ap name_of (sym same) ∙ has)

      recorded_now : (k : Contact) → e.shake.meet ≡ Some k → is_begun e ≡ true → (r : Recorded) × (slice_get rs 0 ≡ Some r) × (name_of r ≡ record { epoch = e.epoch; own = k.own; theirs = k.theirs })
      recorded_now k on begun = by rs (line_in.rest.mine.first begun) where
        both : Some k ≡ Some (record { own = room_in.own; theirs = room_in.theirs })
        both = sym on ∙ line_in.meet

        one : (u v : Contact) → Some u ≡ Some v → u ≡ v
        one u v z = cc

        by : (zs : List Recorded) → HasFirst (at room_in.own room_in.theirs e.epoch) zs → (r : Recorded) × (slice_get zs 0 ≡ Some r) × (name_of r ≡ record { epoch = e.epoch; own = k.own; theirs = k.theirs })
        by [] has = absurd has
        by (z ∷ more) has = (z, refl, has ∙ ap (λ (u : Contact). at u.own u.theirs e.epoch) (sym (one k _ both)))

      sent_now : (r : Recorded) → e.shake.sent.open_complete ≡ true → slice_get rs 0 ≡ Some r → IsSent e.sides.send r (put_word s h p q c) (acked_of (first_named r ss))
      sent_now r on t =
          let k = sending on in
          let z = record_is r on t in
          let accepted : length record_in.accepted ≡ length r.accepted = ap (λ (y : Recorded). length y.accepted) z.0 in
          let acked : (line_in.rest.sends.inn e.epoch).acked ≡ acked_of (first_named r ss) = line_in.rest.sends.acked e.epoch ∙ ap (λ (n : Name). (by_name n ss).acked) (sym (ap exchanged z.1)) ∙ other_acked r ss in
          record {
            put_word = own_counter 1 (omega arith) ∙ k.chain.put_word;
            put_count = k.chain.put_count ∙ accepted;
            known = omega (arith, k.chain, acked);
            room = k.chain.room;
          }

      counted_now : e.shake.sent.open_request ≡ true → (put_word s h p q c ≡ e.sides.send.put) × (get_word s h p q c ≡ e.sides.local_get)
      counted_now asked = by e.shake.sent.open_complete refl where
        by : (o : Bool) → e.shake.sent.open_complete ≡ o → (put_word s h p q c ≡ e.sides.send.put) × (get_word s h p q c ≡ e.sides.local_get)
        by true on = (own_counter 1 (omega arith) ∙ (sending on).chain.put_word, own_counter 0 (omega arith) ∙ (getting on).chain.get_word)
        by false off =
            let mine = line_in.rest.mine in
            let z = mine.ready asked in
            (own_counter 1 (omega arith) ∙ mine.put_word off z.1 ∙ sym (mine.out off).put, own_counter 0 (omega arith) ∙ mine.get_word off z.0 ∙ sym (mine.inn off).stored)

  -- the steps that store a counter
  stored_now : (p q c n : ℕ) (before after : List Event) (a : ℕ) (t : Turn) → IsLine s p q c → n < 2 → h ≡ before ++ Turned a t ∷ after → (word_after s (before ++ Turned a t ∷ []) p (Counter q c n) ≡ word_after s before p (Counter q c n)) ⊎ StoresCounter s before a p q c n t
  stored_now p q c n before after a t l few e = by b t.made refl b.made where
    mem : Memory
    mem = memory_by (opening s) before

    su : ScenarioPart
    su = part_of s a

    known : State
    known = (at_step s before a t).state

    Goal : Type 0
    Goal = (word_after s (before ++ Turned a t ∷ []) p (Counter q c n) ≡ word_after s before p (Counter q c n)) ⊎ StoresCounter s before a p q c n t

    b : Before s (Standing s.count) before a t
    b = before_stands s law before after a t (memory_by (opening s) h) (subst (λ (es : List Event). ReachedWords s es (memory_by (opening s) h)) e reached)

    inside : IsWithin (Counter q c n)
    inside = (low_part q l.second, l.channel, few)

    after_is : word_after s (before ++ Turned a t ∷ []) p (Counter q c n) ≡ word_of (after_made mem t.made) p (Counter q c n)
    after_is = ap (λ (x : Memory). word_of x p (Counter q c n)) (memory-append (opening s) before (Turned a t ∷ []))

    by : Before s (Standing s.count) before a t → (o : Option Marked) → t.made ≡ o → MayMake su known o → Goal
    by b None made may = inl (after_is ∙ ap (λ (o : Option Marked). word_of (after_made mem o) p (Counter q c n)) made)
    by b (Some x) made may = answered x.step.answer refl where
      step_is : (y : Answer) → x.step.answer ≡ y → word_after s (before ++ Turned a t ∷ []) p (Counter q c n) ≡ word_of (after_answer mem (op_of su known may.rule) y) p (Counter q c n)
      step_is y ans = after_is ∙ ap (λ (o : Option Marked). word_of (after_made mem o) p (Counter q c n)) made ∙ (λ i. word_of (after_answer mem (may.op i) (ans i)) p (Counter q c n))

      answered : (y : Answer) → x.step.answer ≡ y → Goal
      answered Failed ans = inl (step_is Failed ans)
      answered (Word v) ans =
          let now = agrees s.count mem b.words (row_of su known may.rule).kind (owner su known may.rule) (row_of su known may.rule).place b.agrees (owner_low su known may.rule (lawful s law a b.low) may.can) (within su known may.rule (lawful s law a b.low) may.can) in
          let w' = step_is (Word v) ans ∙ now.words p (Counter q c n) l.first inside in
          let old = b.agrees.words p (Counter q c n) l.first inside in
          elim (counter_kept su known b.words p q c n may.rule) [
            | inl same ↦ inl (w' ∙ same ∙ sym old)
            | inr z ↦ inr (stores z.0 z.1)
          ]
        where
          stores : a ≡ p → IsCounterRule q c n may.rule → StoresCounter s before a p q c n t
          stores own rule =
              let ruled : rule_of su (known_acted s before a t.before) x.step.op x.mark ≡ Some may.rule = ap (λ (st : State). rule_of su st x.step.op x.mark) (sym (step_state s before a t)) ∙ may.decoded in
              let step : IsStepBy s before a t may.rule = record { step = x; made = made; ruled = ruled } in
              record { own = own; rule = may.rule; counter = rule; step = subst (λ (k : ℕ). IsStepBy s before k t may.rule) own step }

pub lines_kept : (s : Scenario) → IsLawful s → (h : List Event) (m : Memory) → ReachedWords s h m → Lines s h
lines_kept s law h m r = record {
  recorded = λ p q c k l. (let P : State → List Recorded → List Recorded → Type 0 = λ a rs ss. (end_of a q c).shake.meet ≡ Some k → is_begun (end_of a q c) ≡ true → (r : Recorded) × (slice_get rs 0 ≡ Some r) × (name_of r ≡ record { epoch = (end_of a q c).epoch; own = k.own; theirs = k.theirs }) in
      all p q c P (λ on begun. recorded_now s law h m r p q c l (ap (λ (o : Option Contact). is_some o) on) k on begun));
  received = λ p q c l. (let P : State → List Recorded → List Recorded → Type 0 = λ a rs ss. may_copy (end_of a q c) ≡ true → (r : Recorded) → slice_get rs 0 ≡ Some r → IsReceived (end_of a q c).sides.pull r (put_word s h q p c) (accepted_of (first_named r ss)) in
      all p q c P (λ may z t. received_now s law h m r p q c l may z t));
  got = λ p q c l. (let P : State → List Recorded → List Recorded → Type 0 = λ a rs ss. may_copy (end_of a q c) ≡ true → (r : Recorded) → slice_get rs 0 ≡ Some r → get_word s h p q c ≡ r.acked in
      all p q c P (λ may z t. got_now s law h m r p q c l may z t));
  held = λ p q c l. (let P : State → List Recorded → List Recorded → Type 0 = λ a rs ss. may_copy (end_of a q c) ≡ true → (r : Recorded) → slice_get rs 0 ≡ Some r → HoldMessages (end_of a q c).sides.pull r.acked (accepted_of (first_named r ss)) (λ k. word_after s h q (Entry p c k)) in
      all p q c P (λ may z t. held_now s law h m r p q c l may z t));
  copied = λ p q c l. (let P : State → List Recorded → List Recorded → Type 0 = λ a rs ss. may_copy (end_of a q c) ≡ true → (r : Recorded) → slice_get rs 0 ≡ Some r → AreCopied (end_of a q c).sides.pull (accepted_of (first_named r ss)) in
      all p q c P (λ may z t. copied_now s law h m r p q c l may z t));
  sent = λ p q c l. (let P : State → List Recorded → List Recorded → Type 0 = λ a rs ss. InContact (end_of a q c) → (end_of a q c).shake.sent.open_complete ≡ true → (r : Recorded) → slice_get rs 0 ≡ Some r → IsSent (end_of a q c).sides.send r (put_word s h p q c) (acked_of (first_named r ss)) in
      all p q c P (λ here on z t. sent_now s law h m r p q c l here z on t));
  counted = λ p q c l. subst (λ (a : State). InContact (end_of a q c) → (end_of a q c).shake.sent.open_request ≡ true → (put_word s h p q c ≡ (end_of a q c).sides.send.put) × (get_word s h p q c ≡ (end_of a q c).sides.local_get)) (known_at s law h p) (λ here asked. counted_now s law h m r p q c l here asked);
  stored = λ p q c f before after a t l few e. stored_now s law h m r p q c f before after a t l few e;
}
  where
    books : (p q c : ℕ) → (part_at s h p).books q c ≡ records_of s h p q c
    books p q c = from_books (part_of s p) (part_start (part_of s p)) (turns_of p h) q c

    all : (p q c : ℕ) (P : State → List Recorded → List Recorded → Type 0) → P (part_at s h p).state ((part_at s h p).books q c) ((part_at s h q).books p c) → P (state_at s h p) (records_of s h p q c) (records_of s h q p c)
    all p q c P x =
        subst (λ (a : State). P a (records_of s h p q c) (records_of s h q p c)) (known_at s law h p)
        (subst (λ (rs : List Recorded). P (part_at s h p).state rs (records_of s h q p c)) (books p q c) (subst (λ (ss : List Recorded). P (part_at s h p).state ((part_at s h p).books q c) ss) (books q p c) x))

pub limits_kept : (s : Scenario) → IsLawful s → (h : List Event) (m : Memory) → ReachedWords s h m → Limits s h
limits_kept s law h m r = record {
  known = λ p q c l. (let P : State → State → Type 0 = λ a b. InContact (end_of a q c) → InContact (end_of b p c) → (end_of a q c).epoch ≡ (end_of b p c).epoch → (end_of b p c).shake.got.open_request ≡ true → size_got (end_of b p c) ≡ size_sent (end_of a q c) in
      both p q P (λ here there. known_now s law h m r p q c l here there));
  replied = λ p q c l. (let P : State → State → Type 0 = λ a b. InContact (end_of a q c) → (end_of a q c).shake.sent.open_reply ≡ true → is_some (agreed (end_of a q c).shake) ≡ true in
      both p q P (λ here. replied_now s law h m r p q c l here));
  open_limit = λ p q c l. (let P : State → State → Type 0 = λ a b. InContact (end_of a q c) → InContact (end_of b p c) → (end_of a q c).epoch ≡ (end_of b p c).epoch → (end_of a q c).shake.sent.open_complete ≡ true → (end_of b p c).shake.sent.open_complete ≡ true → HaveOneLimit (end_of a q c) (end_of b p c) in
      both p q P (λ here there. open_now s law h m r p q c l here there));
  one_limit = λ p q c l. (let P : State → State → Type 0 = λ a b. may_copy (end_of a q c) ≡ true → InContact (end_of b p c) → HaveOneLimit (end_of a q c) (end_of b p c) in
      both p q P (λ may there. limits_now s law h m r p q c l may there));
  versions = versions_kept s law h (memory_by (opening s) h) (reached s law h m r);
  judged = λ p q c l. judged s law p q c l.first l.second l.apart h m r;
}
  where
    both : (p q : ℕ) (P : State → State → Type 0) → P (part_at s h p).state (part_at s h q).state → P (state_at s h p) (state_at s h q)
    both p q P x = subst (λ (a : State). P a (state_at s h q)) (known_at s law h p) (subst (λ (b : State). P (part_at s h p).state b) (known_at s law h q) x)
