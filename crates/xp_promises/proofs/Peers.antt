-- What each step for one partner, or for all, leaves of the line of an end for it.
use Rattle.std.proofs.Common.{◌≡◌, ℕ, ◌+◌, ◌*◌, ◌<◌, Bool, true, false, not, ◌&&◌, ◌||◌, cond, eqb, List, [], ◌∷◌, ◌++◌, length, refl, sym, ◌∙◌, subst, arith, Option, Some, None, inl, inr}
use Rattle.std.specs.Prelude.{is_some, IsSome}
use Rattle.std.specs.Int.{bit_at}
use Rattle.std.proofs.lemmas.Bool.{eq-eqb, eqb-true, and_parts, cond_both}
use Rattle.xp_base.specs.Sessions.{session_word}
use Rattle.xp_base.specs.declared.reason.Reason.{Reason}
use Rattle.xp_base.specs.declared.reason.Reason.TheVariants.{OtherGoingDown, BadMagic, BadArgs}
use Rattle.xp_protocol.specs.declared.rule.AreaWord.{AreaWord}
use Rattle.xp_protocol.specs.declared.rule.AreaWord.TheVariants.{SessionWord, EchoWord, PlaceWord, ArgsWord, FlagWord, CounterWord}
use Rattle.xp_protocol.specs.declared.rule.PeerRule.{PeerRule}
use Rattle.xp_protocol.specs.declared.rule.PeerRule.TheVariants.{AskActivation, TakeFlags, CloseArea, ZeroMagic, ClearOldBit, Prepare, OpenArea, SetEngagementBit, ReadRecord, StoreEcho, StoreSecond, ClearEngagementBit, LookAtPage, CheckBeat, ClearDeactivationBit, TellPartner}
use Rattle.xp_protocol.specs.Records.{Recorded}
use Rattle.xp_protocol.specs.Effects.{Effect, Note, with_notes}
use Rattle.xp_protocol.specs.State.{End, Life, Booting, Up, Halted, Off, Ready, Reading, Contact, Peer, link_at}
use Rattle.xp_protocol.specs.Linking.{link_down, link_joined, link_finished, booted_end}
use Rattle.xp_protocol.specs.Peering.{or_zero, first_magic, second_magic, is_magic, is_left, is_flagged, area_left_for, area_off, same_peer, with_reason, contact_of, contact_made, try_contact, session_now, magic_read, session_read, echo_read, place_read, last_read, has_shown, is_wrong, record_read, read_place, say_reason, peer_failed, freed_engage, left_engage, page_read, judged, look_reason, Here, peer_can, peer_effect, peer_read, deactivation_heard, booted_peer, both_new_by}
use Rattle.xp_protocol.specs.Rules.{peer_life}
use Rattle.xp_protocol.specs.Runs.{is_halted}
use Rattle.xp_protocol.proofs.Slots.{at_each}
use Rattle.xp_protocol.proofs.Frames.{links_framed}
use Rattle.xp_base.specs.declared.step.CopyKind.{CopyKind}
use Rattle.xp_base.specs.declared.step.CopyKind.TheVariants.{Record as RecordCopy}
use Rattle.xp_base.specs.declared.step.CopyMark.{CopyMark}
use Rattle.xp_meetings.proofs.Ties.{known, stamp_by, word_now, word_next, is_seen}
use Rattle.xp_meetings.proofs.Both.{Side, both_zeroes, both_clears, both_magic, both_read, both_two, both_next, both_none, both_shown, both_seconds, both_closes, both_boots, both_again, both_halts, both_contact, both_enters, both_up}
use Rattle.xp_meetings.proofs.Six.{Six}
use Rattle.xp_meetings.proofs.Meets.{left, right, Pair, six_after, Loads, peer_kept, free_kept}
use Rattle.xp_meetings.proofs.Touch.{Opens}
use Rattle.xp_promises.proofs.FlagEnds.{no_kinds as no_five}
use Rattle.xp_promises.proofs.Lines.{Area, five, Fine}
use Rattle.xp_promises.proofs.Shakes.{goes_down, finishes, cold}
use Rattle.xp_promises.proofs.Contacts.{slides, writes, opens_line, echoes_line, meets_line}

seen_read : (a b : Bool) → b ≡ true → (a || b) ≡ true
seen_read true b d = refl
seen_read false b d = d

-- a guest that has seen less
less : (i i' j : Side) → (is_seen i'.x ≡ true → is_seen i.x ≡ true) → Opens j i' → Opens j i
less i i' j h (inl r) = inl r
less i i' j h (inr (inl n)) = inr (inl n)
less i i' j h (inr (inr s)) = inr (inr (h s))

one_more : (n : ℕ) → n < n + 1
one_more n = omega arith

module _ (q c : ℕ) (lc : c < 4) (lb : Life) (r : Peer) (y : Area) (rs ss : List Recorded) (g : End) where
  -- the line of partner p's end, under the life and the words of the engagement
  abbrev pub LineOf : Life → Peer → Six → Area → List Note → Type 0
  LineOf la p z x ns = Fine (left la p z) (right lb r z) x y (with_notes q c ns rs) ss (link_at p.links c) g

  slide_magic : (la : Life) (p : Peer) (z : Six) (x : Area) → p.engage.area ≡ Ready → p.engage.bit ≡ true → (z.their_magic ≡ 0 → ⊥) → LineOf la p z x [] → LineOf la (record p { engage = record p.engage { reading = Some (record { done = 1; after_echo = is_some p.engage.echo; magic = z.their_magic; echo = 0 }) } }) z x []
  slide_magic la p z x a b n h = slides (left la p z) (left la (record p { engage = record p.engage { reading = Some (record { done = 1; after_echo = is_some p.engage.echo; magic = z.their_magic; echo = 0 }) } }) z) (right lb r z) x y rs ss (link_at p.links c) g (record { ready = λ d. (d, refl, refl); waits = λ w. record { ready = w.ready; alone = w.alone }; bound = one_more (word_next (known (stamp_by la z.stamp) p.engage)); met = h.mine.met; opens = λ o. (o, refl, refl); their_opens = λ o. inr (inl n); blank = λ d e. (d, e) })
      (both_magic (left la p z) (right lb r z) h.both a b n) h

  slide_read : (la : Life) (p : Peer) (z : Six) (x : Area) (o : Reading) → p.engage.bit ≡ true → p.engage.reading ≡ Some o → LineOf la p z x [] → LineOf la (record p { engage = record p.engage { read = Some z.their_one; reading = Some (record o { done = 2 }) } }) z x []
  slide_read la p z x o b e h = slides (left la p z) (left la (record p { engage = record p.engage { read = Some z.their_one; reading = Some (record o { done = 2 }) } }) z) (right lb r z) x y rs ss (link_at p.links c) g (record { ready = λ d. (d, refl, refl); waits = λ w. record { ready = w.ready; alone = w.alone }; bound = one_more (word_next (known (stamp_by la z.stamp) p.engage)); met = h.mine.met; opens = λ o. (o, refl, refl); their_opens = λ k. less (left la p z) (left la (record p { engage = record p.engage { read = Some z.their_one; reading = Some (record o { done = 2 }) } }) z) (right lb r z) (λ d. seen) k; blank = λ d e. (d, e) })
      (both_read (left la p z) (right lb r z) h.both o b e) h
    where
      seen : is_seen (known (stamp_by la z.stamp) p.engage) ≡ true
      seen = rw e refl

  slide_two : (la : Life) (p : Peer) (z : Six) (x : Area) (o : Reading) → p.engage.reading ≡ Some o → o.done ≡ 2 → LineOf la p z x [] → LineOf la (record p { engage = record p.engage { reading = Some (record o { done = 3; echo = z.their_two }) } }) z x []
  slide_two la p z x o e t h = slides (left la p z) (left la (record p { engage = record p.engage { reading = Some (record o { done = 3; echo = z.their_two }) } }) z) (right lb r z) x y rs ss (link_at p.links c) g (record { ready = λ d. (d, refl, refl); waits = λ w. record { ready = w.ready; alone = w.alone }; bound = one_more (word_next (known (stamp_by la z.stamp) p.engage)); met = h.mine.met; opens = λ o. (o, refl, refl); their_opens = λ k. less (left la p z) (left la (record p { engage = record p.engage { reading = Some (record o { done = 3; echo = z.their_two }) } }) z) (right lb r z) (λ d. (rw e refl)) k; blank = λ d e. (d, e) })
      (both_two (left la p z) (right lb r z) h.both o e t) h

  slide_next : (la : Life) (p : Peer) (z : Six) (x : Area) (o : Reading) → p.engage.reading ≡ Some o → (o.done ≡ 1 → ⊥) → (o.done ≡ 2 → ⊥) → LineOf la p z x [] → LineOf la (record p { engage = record p.engage { reading = Some (record o { done = o.done + 1 }) } }) z x []
  slide_next la p z x o e n m h = slides (left la p z) (left la (record p { engage = record p.engage { reading = Some (record o { done = o.done + 1 }) } }) z) (right lb r z) x y rs ss (link_at p.links c) g (record { ready = λ d. (d, refl, refl); waits = λ w. record { ready = w.ready; alone = w.alone }; bound = one_more (word_next (known (stamp_by la z.stamp) p.engage)); met = h.mine.met; opens = λ o. (o, refl, refl); their_opens = λ k. less (left la p z) (left la (record p { engage = record p.engage { reading = Some (record o { done = o.done + 1 }) } }) z) (right lb r z) (λ d. (rw e refl)) k; blank = λ d e. (d, e) })
      (both_next (left la p z) (right lb r z) h.both o e n m) h

  slide_none : (la : Life) (p : Peer) (z : Six) (x : Area) → LineOf la p z x [] → LineOf la (record p { engage = record p.engage { reading = None } }) z x []
  slide_none la p z x h = slides (left la p z) (left la (record p { engage = record p.engage { reading = None } }) z) (right lb r z) x y rs ss (link_at p.links c) g (record { ready = λ d. (d, refl, refl); waits = λ w. record { ready = w.ready; alone = w.alone }; bound = one_more (word_next (known (stamp_by la z.stamp) p.engage)); met = h.mine.met; opens = λ o. (o, refl, refl); their_opens = λ k. less (left la p z) (left la (record p { engage = record p.engage { reading = None } }) z) (right lb r z) (λ d. seen_read (is_some p.engage.reading) (is_some p.engage.read) d) k; blank = λ d e. (d, e) })
      (both_none (left la p z) (right lb r z) h.both) h

  slide_shown : (la : Life) (p : Peer) (z : Six) (x : Area) (o : Reading) → p.engage.reading ≡ Some o → o.done ≡ 7 → o.after_echo ≡ true → o.echo ≡ word_now (known (stamp_by la z.stamp) p.engage) → LineOf la p z x [] → LineOf la (record p { engage = record p.engage { shown = true; reading = None } }) z x []
  slide_shown la p z x o e t s d h = slides (left la p z) (left la (record p { engage = record p.engage { shown = true; reading = None } }) z) (right lb r z) x y rs ss (link_at p.links c) g (record { ready = λ d. (d, refl, refl); waits = λ w. record { ready = w.ready; alone = w.alone }; bound = one_more (word_next (known (stamp_by la z.stamp) p.engage)); met = h.mine.met; opens = λ o. (o, refl, refl); their_opens = λ k. less (left la p z) (left la (record p { engage = record p.engage { shown = true; reading = None } }) z) (right lb r z) (λ d. seen_read (is_some p.engage.reading) (is_some p.engage.read) d) k; blank = λ d e. (d, e) })
      (both_shown (left la p z) (right lb r z) h.both o e t s d) h

  slide_seconds : (la : Life) (p : Peer) (z : Six) (x : Area) → p.engage.area ≡ Ready → is_some p.engage.echo ≡ true → LineOf la p z x [] → LineOf la (record p { engage = record p.engage { second = true } }) (record z { magic = second_magic }) x []
  slide_seconds la p z x a e h = slides (left la p z) (left la (record p { engage = record p.engage { second = true } }) (record z { magic = second_magic })) (right lb r z) x y rs ss (link_at p.links c) g (record { ready = λ d. (d, refl, refl); waits = λ w. record { ready = w.ready; alone = w.alone }; bound = one_more (word_next (known (stamp_by la z.stamp) p.engage)); met = h.mine.met; opens = λ o. (inl a, refl, refl); their_opens = λ k. less (left la p z) (left la (record p { engage = record p.engage { second = true } }) (record z { magic = second_magic })) (right lb r z) (λ d. d) k; blank = λ d e. (d, e) })
      (both_seconds (left la p z) (right lb r z) h.both second_magic a e) h

  no_contact : (o : Option Contact) → not (is_some o) ≡ true → o ≡ None
  no_contact None h = refl
  no_contact (Some m) h = absurd (cc)

  contact_line : (turn : ℕ) (p : Peer) (z : Six) (x : Area) → length p.links ≡ 4 → p.engage.area ≡ Ready → p.engage.bit ≡ true → LineOf Up p z x [] → LineOf Up (try_contact turn z.stamp p).local z x ((try_contact turn z.stamp p).notes c)
  contact_line turn p z x n ready inside h = by (p.engage.second && (p.engage.shown && not (is_some p.contact))) refl where
    by : (b : Bool) → (p.engage.second && (p.engage.shown && not (is_some p.contact))) ≡ b → (let f = cond b (contact_made turn z.stamp p) (same_peer p) in LineOf Up f.local z x (f.notes c))
    by false e = h
    by true e =
        let a = and_parts p.engage.second (p.engage.shown && not (is_some p.contact)) e in
        let d = and_parts p.engage.shown (not (is_some p.contact)) a.1 in
        let o = no_contact p.contact d.1 in
        let i = left Up p z in
        let j = right lb r z in
        let both = both_contact i j h.both o ready inside a.0 d.0 in
        let Q : End → List Note → Type 0 = λ e ns. Fine (left Up (contact_made turn z.stamp p).local z) j x y (with_notes q c ns rs) ss e g in
        links_framed Q (λ k e. link_joined p.both_new (contact_of z.stamp p.engage) e) (record p { contact = Some (contact_of z.stamp p.engage) }) c n lc (meets_line p.both_new i j x y rs ss (link_at p.links c) g h (record { ready = ready; alone = o }) both)

  left_line : (la : Life) (o : Option Reason) (p : Peer) (z : Six) (x : Area) → length p.links ≡ 4 → IsSome o → p.engage.area ≡ Ready → LineOf la p z x [] → (let f = area_left_for o p in LineOf la f.local (record z { magic = 0 }) x (f.notes c))
  left_line la None p z x n i a h = absurd (cc)
  left_line la (Some reason) p z x n i a h =
      let p' = record p { contact = None; engage = left_engage p.engage } in
      let z' = record z { magic = 0 } in
      let f = link_down reason (link_at p.links c) in
      let down = (goes_down x y q c reason (link_at p.links c)).by (left la p z) (right lb r z) rs ss g h in
      let Q : End → List Note → Type 0 = λ e ns. Fine (left la p' z') (right lb r z) x y (with_notes q c ns rs) ss e g in
      links_framed Q (λ k e. link_down reason e) p' c n lc
      (slides (left la p z) (left la p' z') (right lb r z) x y (with_notes q c f.notes rs) ss f.local g (record { ready = λ d. absurd (cc); waits = λ w. (let t = w.ready in absurd (cc)); bound = one_more (word_next (known (stamp_by la z.stamp) p.engage)); met = λ m d. absurd (cc); opens = λ k. shuts k; their_opens = λ k. less (left la p z) (left la p' z') (right lb r z) (λ d. seen_read (is_some p.engage.reading) (is_some p.engage.read) d) k; blank = λ d. absurd (cc) })
      (both_closes (left la p z) (right lb r z) h.both a) down)
    where
      shuts : Opens (left la (record p { contact = None; engage = left_engage p.engage }) (record z { magic = 0 })) (right lb r z) → Opens (left la p z) (right lb r z) × (z.one ≡ z.one) × (z.two ≡ z.two)
      shuts (inl t) = absurd (cc)
      shuts (inr (inl t)) = absurd (t refl)
      shuts (inr (inr t)) = (inr (inr t), refl, refl)

  magic_line : (la : Life) (p : Peer) (z : Six) (x : Area) (v : ℕ) → v ≡ z.their_magic → p.engage.area ≡ Ready → p.engage.bit ≡ true → LineOf la p z x [] → (let f = magic_read p v in LineOf la f.local z x (f.notes c))
  magic_line la p z x v e ready inside h = first (eqb v 0) refl where
    nonzero : eqb v 0 ≡ false → z.their_magic ≡ 0 → ⊥
    nonzero t d = let k : eqb v 0 ≡ true = eq-eqb v 0 (e ∙ d) in absurd (cc)

    second : (b : Bool) → eqb v 0 ≡ false → (let f = cond b (same_peer (record p { engage = record p.engage { reading = Some (record { done = 1; after_echo = is_some p.engage.echo; magic = v; echo = 0 }) } })) (say_reason (Some (BadMagic v)) p) in LineOf la f.local z x (f.notes c))
    second true t = subst (λ (k : ℕ). LineOf la (record p { engage = record p.engage { reading = Some (record { done = 1; after_echo = is_some p.engage.echo; magic = k; echo = 0 }) } }) z x []) (sym e) (slide_magic la p z x ready inside (nonzero t) h)
    second false t = h

    first : (b : Bool) → eqb v 0 ≡ b → (let f = cond b (say_reason (cond (is_some p.engage.echo) (Some (OtherGoingDown 0)) None) (record p { engage = record p.engage { back_off = p.engage.back_off || not (is_some p.engage.echo) } })) (cond (is_magic v) (same_peer (record p { engage = record p.engage { reading = Some (record { done = 1; after_echo = is_some p.engage.echo; magic = v; echo = 0 }) } })) (say_reason (Some (BadMagic v)) p)) in LineOf la f.local z x (f.notes c))
    first true t = h
    first false t = second (is_magic v) t

  last_line : (turn : ℕ) (p : Peer) (z : Six) (x : Area) (o : Reading) → length p.links ≡ 4 → p.engage.reading ≡ Some o → o.done ≡ 7 → p.engage.area ≡ Ready → p.engage.bit ≡ true → LineOf Up p z x [] → (let f = last_read turn z.stamp p o in LineOf Up f.local z x (f.notes c))
  last_line turn p z x o n i t ready inside h = by (has_shown z.stamp p.engage o) refl where
    by : (b : Bool) → has_shown z.stamp p.engage o ≡ b → (let f = cond b (try_contact turn z.stamp (record p { engage = record p.engage { shown = true; reading = None } })) (same_peer (record p { engage = record p.engage { reading = None } })) in LineOf Up f.local z x (f.notes c))
    by false k = slide_none Up p z x h
    by true k =
        let a = and_parts o.after_echo _ k in
        let d = and_parts (eqb o.magic second_magic) _ a.1 in
        contact_line turn (record p { engage = record p.engage { shown = true; reading = None } }) z x n ready inside (slide_shown Up p z x o i t a.0 (eqb-true o.echo (session_word (session_now z.stamp p.engage)) d.1) h)

  record_line : (hh : Here) (p : Peer) (z : Six) (x : Area) (o : Option Reading) (v : ℕ) → length p.links ≡ 4 → p.engage.reading ≡ o → (read_place o ≡ 0 → v ≡ z.their_magic) → (read_place o ≡ 1 → v ≡ z.their_one) → (read_place o ≡ 2 → v ≡ z.their_two) → p.engage.area ≡ Ready → p.engage.bit ≡ true → LineOf Up p z x [] → (let f = record_read (record hh { stamp = z.stamp }) p o v in LineOf Up f.local z x (f.notes c))
  record_line hh p z x None v n i a b d ready inside h = magic_line Up p z x v (a refl) ready inside h
  record_line hh p z x (Some o) v n i a b d ready inside h = one (eqb o.done 1) refl where
    P : Effect Peer (ℕ → List Note) → Type 0
    P f = LineOf Up f.local z x (f.notes c)

    place : (t : Bool) → eqb o.done 1 ≡ false → eqb o.done 2 ≡ false → P (cond t (say_reason (Some (BadArgs v)) (record p { engage = record p.engage { reading = None } })) (same_peer (record p { engage = record p.engage { reading = Some (record o { done = o.done + 1 }) } })))
    place true k m = slide_none Up p z x h
    place false k m = slide_next Up p z x o i (λ e. (let t = eq-eqb o.done 1 e in absurd (cc))) (λ e. (let t = eq-eqb o.done 2 e in absurd (cc))) h

    seven : (t : Bool) → eqb o.done 7 ≡ t → eqb o.done 1 ≡ false → eqb o.done 2 ≡ false → P (cond t (last_read hh.turn z.stamp p o) (place_read hh.part p o v))
    seven true t k m = last_line hh.turn p z x o n i (eqb-true o.done 7 t) ready inside h
    seven false t k m = place (is_wrong hh.part o.done v) k m

    two : (t : Bool) → eqb o.done 2 ≡ t → eqb o.done 1 ≡ false → P (cond t (echo_read p o v) (cond (eqb o.done 7) (last_read hh.turn z.stamp p o) (place_read hh.part p o v)))
    two true t k = let m = eqb-true o.done 2 t in subst (λ (j : ℕ). P (echo_read p o j)) (sym (d m)) (slide_two Up p z x o i m h)
    two false t k = seven (eqb o.done 7) refl k t

    one : (t : Bool) → eqb o.done 1 ≡ t → P (cond t (session_read p o v) (cond (eqb o.done 2) (echo_read p o v) (cond (eqb o.done 7) (last_read hh.turn z.stamp p o) (place_read hh.part p o v))))
    one true t = subst (λ (j : ℕ). P (session_read p o j)) (sym (b (eqb-true o.done 1 t))) (slide_read Up p z x o inside i h)
    one false t = two (eqb o.done 2) refl t

  -- words that are written before the own memory is open
  prepare_line : (hh : Here) (la : Life) (p : Peer) (z : Six) (x x' : Area) (w : AreaWord) → p.engage.area ≡ Off → ((w ≡ FlagWord → ⊥) → five x'.flags ≡ five x.flags) → (w ≡ FlagWord → five x'.flags ≡ no_five) → Pair la (peer_effect hh p (Prepare w) 0).local lb r (six_after (Prepare w) (known (stamp_by la z.stamp) p.engage) z) → LineOf la p z x [] → LineOf la (peer_effect hh p (Prepare w) 0).local (six_after (Prepare w) (known (stamp_by la z.stamp) p.engage) z) x' []
  prepare_line hh la p z x x' SessionWord o ks kf both h = writes (left la p z) (right lb r z) x y rs ss (link_at p.links c) g h o (left la (peer_effect hh p (Prepare SessionWord) 0).local (six_after (Prepare SessionWord) (known (stamp_by la z.stamp) p.engage) z)) x' o refl refl (λ k. k) (λ d. ks (λ e. absurd (cc)) ∙ h.mine.blank o d) both
  prepare_line hh la p z x x' EchoWord o ks kf both h = writes (left la p z) (right lb r z) x y rs ss (link_at p.links c) g h o (left la (peer_effect hh p (Prepare EchoWord) 0).local (six_after (Prepare EchoWord) (known (stamp_by la z.stamp) p.engage) z)) x' o refl refl (λ k. k) (λ d. ks (λ e. absurd (cc)) ∙ h.mine.blank o d) both
  prepare_line hh la p z x x' (PlaceWord t) o ks kf both h = writes (left la p z) (right lb r z) x y rs ss (link_at p.links c) g h o (left la (peer_effect hh p (Prepare (PlaceWord t)) 0).local z) x' o refl refl (λ k. k) (λ d. ks (λ e. absurd (cc)) ∙ h.mine.blank o d) both
  prepare_line hh la p z x x' (ArgsWord i j) o ks kf both h = writes (left la p z) (right lb r z) x y rs ss (link_at p.links c) g h o (left la (peer_effect hh p (Prepare (ArgsWord i j)) 0).local z) x' o refl refl (λ k. k) (λ d. ks (λ e. absurd (cc)) ∙ h.mine.blank o d) both
  prepare_line hh la p z x x' FlagWord o ks kf both h = writes (left la p z) (right lb r z) x y rs ss (link_at p.links c) g h o (left la (peer_effect hh p (Prepare FlagWord) 0).local z) x' o refl refl (λ k. k) (λ d. kf refl) both
  prepare_line hh la p z x x' (CounterWord i j) o ks kf both h = writes (left la p z) (right lb r z) x y rs ss (link_at p.links c) g h o (left la (peer_effect hh p (Prepare (CounterWord i j)) 0).local z) x' o refl refl (λ k. k) (λ d. ks (λ e. absurd (cc)) ∙ h.mine.blank o d) both

  -- the words of the own flags and counters after a step: they change before the own memory is open, and where flags are taken
  abbrev pub Wrote : PeerRule → Area → Area → Type 0
  Wrote (Prepare w) x x' = ((w ≡ FlagWord → ⊥) → five x'.flags ≡ five x.flags) × (w ≡ FlagWord → five x'.flags ≡ no_five)
  Wrote TakeFlags x x' = ⊥
  Wrote m x x' = x' ≡ x

  pub peer_line : (hh : Here) (la : Life) (p : Peer) (z : Six) (m : PeerRule) (v : ℕ) (x x' : Area) → length p.links ≡ 4 → la ≡ peer_life m → (la ≡ Up → hh.stamp ≡ z.stamp) → peer_can hh p m → Loads p z m v → Wrote m x x' → LineOf la p z x [] → (let f = peer_effect hh p m v in LineOf la f.local (six_after m (known (stamp_by la z.stamp) p.engage) z) x' (f.notes c))
  peer_line hh la p z AskActivation v x x' n u t can l e h = subst (λ (k : Area). LineOf la p z k []) (sym e) h
  peer_line hh la p z TakeFlags v x x' n u t can l e h = absurd e
  peer_line hh la p z CloseArea v x x' n u t can l e h = subst (λ (k : Area). let f = area_left_for p.engage.reason p in LineOf la f.local (record z { magic = 0 }) k (f.notes c)) (sym e) (left_line la p.engage.reason p z x n can.1 can.0 h)
  peer_line hh la p z ZeroMagic v x x' n u t can l e h =
      let p' = record p { engage = record p.engage { zeroed = true } } in
      let z' = record z { magic = 0 } in
      subst (λ (k : Area). LineOf la p' z' k []) (sym e)
      (slides (left la p z) (left la p' z') (right lb r z) x y rs ss (link_at p.links c) g (record { ready = λ d. (d, refl, refl); waits = λ w. record { ready = w.ready; alone = w.alone }; bound = one_more (word_next (known (stamp_by la z.stamp) p.engage)); met = h.mine.met; opens = λ k. (zeroed k, refl, refl); their_opens = λ k. less (left la p z) (left la p' z') (right lb r z) (λ d. d) k; blank = λ d b. (d, b) })
      (both_zeroes (left la p z) (right lb r z) h.both u) h)
    where
      zeroed : Opens (left la (record p { engage = record p.engage { zeroed = true } }) (record z { magic = 0 })) (right lb r z) → Opens (left la p z) (right lb r z)
      zeroed (inl t) = inl t
      zeroed (inr (inl t)) = absurd (t refl)
      zeroed (inr (inr t)) = inr (inr t)
  peer_line hh la p z ClearOldBit v x x' n u t can l e h =
      let p' = record p { engage = record p.engage { cleared = true } } in
      let z' = record z { bit = 0 } in
      subst (λ (k : Area). LineOf la p' z' k []) (sym e)
      (slides (left la p z) (left la p' z') (right lb r z) x y rs ss (link_at p.links c) g (record { ready = λ d. (d, refl, refl); waits = λ w. record { ready = w.ready; alone = w.alone }; bound = one_more (word_next (known (stamp_by la z.stamp) p.engage)); met = h.mine.met; opens = λ k. (k, refl, refl); their_opens = λ k. k; blank = λ d b. (d, b) })
      (both_clears (left la p z) (right lb r z) h.both u) h)
  peer_line hh la p z (Prepare w) v x x' n u t can l e h = prepare_line hh la p z x x' w can.0 e.0 e.1 (peer_kept lb r hh la p z (Prepare w) 0 u t can tt h.both) h
  peer_line hh la p z OpenArea v x x' n u t can l e h =
      let a = and_parts p.engage.session_put _ can.1 in
      let b = and_parts p.engage.echo_put _ a.1 in
      let d = and_parts p.engage.flags_put _ b.1 in
      subst (λ (k : Area). LineOf la (peer_effect hh p OpenArea v).local (record z { magic = first_magic }) k []) (sym e)
      (opens_line (left la p z) (right lb r z) x y rs ss (link_at p.links c) g h can.0 first_magic d.0 (peer_kept lb r hh la p z OpenArea v u t can l h.both))
  peer_line hh la p z SetEngagementBit v x x' n u t can l e h =
      let p' = (peer_effect hh p SetEngagementBit v).local in
      let z' = record z { bit = 1 } in
      subst (λ (k : Area). LineOf la p' z' k []) (sym e)
      (slides (left la p z) (left la p' z') (right lb r z) x y rs ss (link_at p.links c) g (record { ready = λ d. (d, refl, refl); waits = λ w. record { ready = w.ready; alone = w.alone }; bound = one_more (word_next (known (stamp_by la z.stamp) p.engage)); met = h.mine.met; opens = λ k. (k, refl, refl); their_opens = λ k. less (left la p z) (left la p' z') (right lb r z) (λ d. absurd (cc)) k; blank = λ d b. (d, b) })
      (both_enters (left la p z) (right lb r z) h.both can.0 can.2) h)
  peer_line hh la p z ReadRecord v x x' n u t can l e h =
      let P : Life → Area → ℕ → Type 0 = λ j k m. let f = record_read (record hh { stamp = m }) p p.engage.reading v in LineOf j f.local z k (f.notes c) in
      subst (λ (k : Area). P la k hh.stamp) (sym e) (subst (λ (m : ℕ). P la x m) (sym (t u)) (subst (λ (j : Life). P j x z.stamp) (sym u) (record_line hh p z x p.engage.reading v n refl l.0 l.1 l.2 can.0 can.2 (subst (λ (j : Life). LineOf j p z x []) u h))))
  peer_line hh la p z StoreEcho v x x' n u t can l e h =
      subst (λ (k : Area). LineOf la (peer_effect hh p StoreEcho v).local (record z { two = or_zero p.engage.read }) k []) (sym e)
      (echoes_line (left la p z) (right lb r z) x y rs ss (link_at p.links c) g h can.0 can.3 (peer_kept lb r hh la p z StoreEcho v u t can l h.both))
  peer_line hh la p z StoreSecond v x x' n u t can l e h =
      let i = h.both.own.fit.echo can.2 can.0 in
      let p' = record p { engage = record p.engage { second = true } } in
      let z' = record z { magic = second_magic } in
      let P : Life → Area → ℕ → Type 0 = λ j k m. let f = try_contact hh.turn m p' in LineOf j f.local z' k (f.notes c) in
      subst (λ (k : Area). P la k hh.stamp) (sym e) (subst (λ (m : ℕ). P la x m) (sym (t u)) (subst (λ (j : Life). P j x z.stamp) (sym u) (contact_line hh.turn p' z' x n can.0 i (subst (λ (j : Life). LineOf j p' z' x []) u (slide_seconds la p z x can.0 can.2 h)))))
  peer_line hh la p z ClearEngagementBit v x x' n u t can l e h =
      let p' = (peer_effect hh p ClearEngagementBit v).local in
      let z' = record z { bit = 0 } in
      subst (λ (k : Area). LineOf la p' z' k []) (sym e)
      (slides (left la p z) (left la p' z') (right lb r z) x y rs ss (link_at p.links c) g (record { ready = λ d. (d, refl, refl); waits = λ w. record { ready = w.ready; alone = w.alone }; bound = one_more (word_next (known (stamp_by la z.stamp) p.engage)); met = h.mine.met; opens = λ k. (k, refl, refl); their_opens = λ k. less (left la p z) (left la p' z') (right lb r z) (λ d. seen_left (is_some p.engage.reading) (is_some p.engage.read) d) k; blank = λ d b. (d, b) })
      (peer_kept lb r hh la p z ClearEngagementBit v u t can l h.both) h)
    where
      seen_left : (a b : Bool) → (a || false) ≡ true → (a || b) ≡ true
      seen_left true b d = refl
      seen_left false b d = absurd (cc)
  peer_line hh la p z LookAtPage v x x' n u t can l e h = subst (λ (k : Area). let f = page_read hh.version (p.paging ++ v ∷ []) v p in LineOf la f.local z k (f.notes c)) (sym e) (page_line (eqb (length (p.paging ++ v ∷ [])) 5)) where
    page_line : (b : Bool) → (let f : Effect Peer (ℕ → List Note) = cond b (record { local = record p { look = judged (p.paging ++ v ∷ []); paging = []; both_new = both_new_by hh.version (judged (p.paging ++ v ∷ [])) p.both_new }; reason = look_reason p.engage.echo (judged (p.paging ++ v ∷ [])) v; notes = λ c. [] }) (record { local = record p { paging = p.paging ++ v ∷ [] }; reason = None; notes = λ c. [] }) in LineOf la f.local z x (f.notes c))
    page_line true = h
    page_line false = h
  peer_line hh la p z CheckBeat v x x' n u t can l e h = subst (λ (k : Area). LineOf la (peer_effect hh p CheckBeat v).local z k []) (sym e) h
  peer_line hh la p z ClearDeactivationBit v x x' n u t can l e h = subst (λ (k : Area). LineOf la p z k []) (sym e) h
  peer_line hh la p z TellPartner v x x' n u t can l e h = subst (λ (k : Area). LineOf la p z k []) (sym e) h

  -- the own memory is free again
  pub free_line : (p : Peer) (z : Six) (v k : ℕ) (x : Area) → length p.links ≡ 4 → bit_at v k ≡ z.their_bit → LineOf Up p z x [] → (let f = peer_read v k p in LineOf Up f.local z x (f.notes c))
  free_line p z v k x n e h = by (is_left p.engage && not (is_flagged v k)) (free_kept lb r p z v k e h.both) where
    by : (b : Bool) → Pair Up (cond b (area_off p) (same_peer p)).local lb r z → (let f = cond b (area_off p) (same_peer p) in LineOf Up f.local z x (f.notes c))
    by false both = h
    by true both =
        let p' = record p { contact = None; engage = freed_engage p.engage } in
        let f = link_finished (link_at p.links c) in
        let Q : End → List Note → Type 0 = λ e ns. Fine (left Up p' z) (right lb r z) x y (with_notes q c ns rs) ss e g in
        links_framed Q (λ d e. link_finished e) p' c n lc
        (slides (left Up p z) (left Up p' z) (right lb r z) x y (with_notes q c f.notes rs) ss f.local g (record { ready = λ d. absurd (cc); waits = λ w. (let t = w.ready in absurd (cc)); bound = one_more (word_next (known z.stamp p.engage)); met = λ m d. absurd (cc); opens = λ t. opened t; their_opens = λ t. less (left Up p z) (left Up p' z) (right lb r z) (λ d. seen_left (is_some p.engage.reading) (is_some p.engage.read) d) t; blank = λ d b. absurd (cc) })
        both ((finishes x y q c (link_at p.links c)).by (left Up p z) (right lb r z) rs ss g h))
      where
        seen_left : (a b : Bool) → (a || false) ≡ true → (a || b) ≡ true
        seen_left true b d = refl
        seen_left false b d = absurd (cc)

        opened : Opens (left Up (record p { contact = None; engage = freed_engage p.engage }) z) (right lb r z) → Opens (left Up p z) (right lb r z) × (z.one ≡ z.one) × (z.two ≡ z.two)
        opened (inl t) = absurd (cc)
        opened (inr t) = (inr t, refl, refl)

  pub told_line : (la : Life) (p : Peer) (z : Six) (v k : ℕ) (x : Area) → LineOf la p z x [] → LineOf la (deactivation_heard v k p).local z x []
  told_line la p z v k x h = cond_both (is_some p.engage.echo && is_flagged v k) (with_reason (Some (OtherGoingDown v)) p) p (λ (t : Peer). LineOf la t z x []) (λ e. h) (λ e. h)

  pub failed_line : (turn : ℕ) (la : Life) (p : Peer) (z : Six) (x : Area) (mark : Option CopyMark) → LineOf la p z x [] → LineOf la (peer_failed turn mark p) z x []
  failed_line turn la p z x None h = h
  failed_line turn la p z x (Some mark) h = by mark.kind where
    by : (kind : CopyKind) → LineOf la (peer_failed turn (Some (record mark { kind = kind })) p) z x []
    by RecordCopy = slide_none la p z x h
    by kind = h

  boot_more : (a b : ℕ) → b < 4294967296 → a * 4294967296 + (b + 1) < (a + 1) * 4294967296 + (0 + 1) + 1
  boot_more a b l = omega (arith, l)

  again_more : (a b : ℕ) → b ≡ 0 → a * 4294967296 + (b + 1) < a * 4294967296 + (0 + 1) + 1
  again_more a b e = omega (arith, e)

  pub boot_line : (la : Life) → is_halted la ≡ false → (p : Peer) (z : Six) (x : Area) → length p.links ≡ 4 → LineOf la p z x [] → LineOf Booting (booted_peer p) z x []
  boot_line Halted d p z x n h = absurd (cc)
  boot_line Up d p z x n h =
      let p' = booted_peer p in
      let e' = booted_end (link_at p.links c) in
      at_each (λ (e : End). Fine (left Booting p' z) (right lb r z) x y rs ss e g) (λ d e. booted_end e) p.links c _
      (slides (left Up p z) (left Booting p' z) (right lb r z) x y rs ss e' g (record { ready = λ d. absurd (cc); waits = λ w. (let t = w.ready in absurd (cc)); bound = boot_more z.stamp p.engage.count h.both.own.fit.low; met = λ m d. absurd (cc); opens = λ t. opened t; their_opens = λ t. less (left Up p z) (left Booting p' z) (right lb r z) (λ d. absurd (cc)) t; blank = λ d b. absurd (cc) })
      (both_boots (left Up p z) (right lb r z) h.both) ((cold x y q c (link_at p.links c)).by (left Up p z) (right lb r z) rs ss g h))
      (λ l. absurd (omega (arith, l, lc, n)))
    where
      opened : Opens (left Booting (booted_peer p) z) (right lb r z) → Opens (left Up p z) (right lb r z) × (z.one ≡ z.one) × (z.two ≡ z.two)
      opened (inl t) = absurd (cc)
      opened (inr t) = (inr t, refl, refl)
  boot_line Booting d p z x n h =
      let p' = booted_peer p in
      let e' = booted_end (link_at p.links c) in
      at_each (λ (e : End). Fine (left Booting p' z) (right lb r z) x y rs ss e g) (λ d e. booted_end e) p.links c _
      (slides (left Booting p z) (left Booting p' z) (right lb r z) x y rs ss e' g (record { ready = λ d. absurd (cc); waits = λ w. (let t = w.ready in absurd (cc)); bound = again_more (z.stamp + 1) p.engage.count (h.both.own.zero refl); met = λ m d. absurd (cc); opens = λ t. opened t; their_opens = λ t. less (left Booting p z) (left Booting p' z) (right lb r z) (λ d. absurd (cc)) t; blank = λ d b. absurd (cc) })
      (both_again (left Booting p z) (right lb r z) h.both refl) ((cold x y q c (link_at p.links c)).by (left Booting p z) (right lb r z) rs ss g h))
      (λ l. absurd (omega (arith, l, lc, n)))
    where
      opened : Opens (left Booting (booted_peer p) z) (right lb r z) → Opens (left Booting p z) (right lb r z) × (z.one ≡ z.one) × (z.two ≡ z.two)
      opened (inl t) = absurd (cc)
      opened (inr t) = (inr t, refl, refl)

  -- the boot is over under one stamp more
  pub up_line : (p : Peer) (z : Six) (x : Area) → p.engage.zeroed ≡ true → LineOf Booting p z x [] → LineOf Up p (record z { stamp = z.stamp + 1 }) x []
  up_line p z x t h = slides (left Booting p z) (left Up p (record z { stamp = z.stamp + 1 })) (right lb r z) x y rs ss (link_at p.links c) g (record { ready = λ d. (d, refl, refl); waits = λ w. record { ready = w.ready; alone = w.alone }; bound = one_more (word_next (known (z.stamp + 1) p.engage)); met = h.mine.met; opens = λ k. (k, refl, refl); their_opens = λ k. k; blank = λ d b. (d, b) }) (both_up (left Booting p z) (right lb r z) h.both t) h

  pub halt_line : (p : Peer) (z : Six) (x : Area) → LineOf Booting p z x [] → LineOf Halted p z x []
  halt_line p z x h = slides (left Booting p z) (left Halted p z) (right lb r z) x y rs ss (link_at p.links c) g (record { ready = λ d. (d, refl, refl); waits = λ w. record { ready = w.ready; alone = w.alone }; bound = one_more (word_next (known (z.stamp + 1) p.engage)); met = h.mine.met; opens = λ k. (k, refl, refl); their_opens = λ k. k; blank = λ d b. (d, b) }) (both_halts (left Booting p z) (right lb r z) h.both refl) h
