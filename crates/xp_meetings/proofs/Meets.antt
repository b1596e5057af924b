-- Every two partitions, after each rule, each act and each moment: what fits together in each, its words for the other, and what it knows of the other's.
use Rattle.std.proofs.Common.{◌≡◌, ℕ, ◌+◌, ◌^◌, ◌<◌, Bool, true, false, not, ◌&&◌, cond, eqb, ◌||◌, ltb, List, [], ◌∷◌, ◌++◌, length, set, get_or-set_same, get_or-set_other, refl, ap, sym, ◌∙◌, subst, arith, Option, Some, None, inl, inr, ◌⊎◌}
use Rattle.xp_base.specs.declared.layout.TheConstants.{PARTS, STAMP, ENGAGED, DEACTIVATION}
use Rattle.std.specs.Prelude.{is_some, IsSome}
use Rattle.std.specs.Int.{bit_at}
use Rattle.std.proofs.lemmas.Bool.{cases_eq, ltb-true, eq-eqb, ne_eqb, eqb-true, and_parts, cond_both}
use Rattle.std.proofs.lemmas.Nat.Bits.{bit_at-lt}
use Rattle.xp_base.specs.declared.step.Answer.TheVariants.{Word, Failed}
use Rattle.xp_base.specs.declared.step.CopyMark.{CopyMark}
use Rattle.xp_base.specs.declared.step.CopyKind.{CopyKind}
use Rattle.xp_base.specs.declared.step.CopyKind.TheVariants.{Record as RecordCopy}
use Rattle.xp_base.specs.declared.step.OpKind.TheVariants.{Store, Or, And}
use Rattle.xp_base.specs.declared.reason.Reason.{Reason}
use Rattle.xp_base.specs.declared.reason.Reason.TheVariants.{OtherGoingDown, BadMagic, BadArgs}
use Rattle.xp_base.specs.Sessions.{session_word}
use Rattle.xp_base.specs.Places.{Open, Record}
use Rattle.xp_base.specs.History.{Act}
use Rattle.xp_protocol.specs.declared.rule.AreaWord.{AreaWord}
use Rattle.xp_protocol.specs.declared.rule.AreaWord.TheVariants.{SessionWord, EchoWord, PlaceWord, ArgsWord, FlagWord, CounterWord}
use Rattle.xp_protocol.specs.declared.rule.RecordField.TheVariants.{ArgsPlace, CountersPlace, FlagPlace, ChannelCount, Spare}
use Rattle.xp_protocol.specs.declared.rule.RingRule.TheVariants.{ReadGet, WriteEntryWord, AcceptMessage}
use Rattle.xp_protocol.specs.declared.rule.PullRule.TheVariants.{ReadCounters, ReadEntry}
use Rattle.xp_protocol.specs.declared.rule.LinkRule.{LinkRule}
use Rattle.xp_protocol.specs.declared.rule.LinkRule.TheVariants.{Ring, Pull, Acknowledge, SetFlag, ZeroGet, ZeroPut, StoreArgument, ReadArgument}
use Rattle.xp_protocol.specs.declared.rule.PeerRule.{PeerRule}
use Rattle.xp_protocol.specs.declared.rule.PeerRule.TheVariants.{AskActivation, TakeFlags, CloseArea, ZeroMagic, ClearOldBit, Prepare, OpenArea, SetEngagementBit, ReadRecord, StoreEcho, StoreSecond, ClearEngagementBit, LookAtPage, CheckBeat, ClearDeactivationBit, TellPartner}
use Rattle.xp_protocol.specs.declared.rule.OwnRule.TheVariants.{ReadEngaged, TakeDeactivation, ReadStamp, ZeroMask, ZeroOffline, WriteStamp, StoreMask, TakeActivation, StoreBeat, StoreOffline}
use Rattle.xp_protocol.specs.declared.rule.Rule.{Rule}
use Rattle.xp_protocol.specs.declared.rule.Rule.TheVariants.{Link, Peer as ForPeer, Own}
use Rattle.xp_script.specs.declared.part.ScenarioPart.{ScenarioPart}
use Rattle.xp_script.specs.declared.scenario.Scenario.{Scenario}
use Rattle.xp_protocol.specs.Parts.{IsLawfulPart}
use Rattle.xp_script.specs.Parts.{part_of}
use Rattle.xp_protocol.specs.Effects.{Effect, Note, all_but}
use Rattle.xp_protocol.specs.State.{State, Life, Booting, Up, Halted, Area, Old, Off, Ready, Leaving, Reading, Contact, Peer, cold_peer, peer_at, peer_of}
use Rattle.xp_protocol.specs.Peering.{or_zero, first_magic, second_magic, is_magic, is_left, is_flagged, is_bad_flags, flags_taken, area_left_for, area_off, area_place, same_peer, with_reason, contact_made, try_contact, session_now, session_next, magic_read, session_read, echo_read, place_read, last_read, has_shown, is_wrong, field_number, field_word, record_read, read_place, say_reason, peer_failed, page_read, any_copied, Here, peer_can, peer_effect, peer_read, deactivation_heard, booted_peer}
use Rattle.xp_protocol.specs.Rules.{Can, here_of, peer_life, mark_of, peer_numbered, after_answer}
use Rattle.xp_protocol.specs.Acts.{Aim, aimed, with_aim, after_act, command_begun}
use Rattle.xp_protocol.specs.Runs.{turned, restart_comes, stop_comes, moment_by, is_over, is_halted}
use Rattle.xp_protocol.proofs.Slots.{at_each, at_peer}
use Rattle.xp_protocol.proofs.Frames.{AreAll, cond_peer, rule_all, act_all, cold_all, wanted_at}
use Rattle.xp_meetings.proofs.Words.{Words, does, far}
use Rattle.xp_meetings.proofs.Parts.{Part, part_act, part_ruled, part_moment}
use Rattle.xp_meetings.proofs.Always.{at_one, one_here, does_rule, answer_word}
use Rattle.xp_meetings.proofs.Ties.{Known, known, stamp_by, word_next}
use Rattle.xp_meetings.proofs.Both.{Side, Both, both_turned, both_zeroes, both_clears, both_session, both_echo, both_flags, both_counter, both_opens, both_enters, both_magic, both_read, both_two, both_next, both_none, both_shown, both_echoes, both_seconds, both_leaves, both_closes, both_frees, both_boots, both_again, both_halts, both_up, both_contact}
use Rattle.xp_meetings.proofs.Six.{Six, six, six_away, six_else, six_here, six_stamp, stamp_at, six_bits, six_set, six_clear, or_bits, and_bits}

-- two partitions by how they stand to each other and by their words
abbrev pub left : Life → Peer → Six → Side
left life p z = record { life = life; x = known (stamp_by life z.stamp) p.engage; contact = p.contact; magic = z.magic; one = z.one; two = z.two; bit = z.bit }

abbrev pub right : Life → Peer → Six → Side
right life p z = record { life = life; x = known (stamp_by life z.their_stamp) p.engage; contact = p.contact; magic = z.their_magic; one = z.their_one; two = z.their_two; bit = z.their_bit }

abbrev pub Pair : Life → Peer → Life → Peer → Six → Type 0
Pair la p lb r z = Both (left la p z) (right lb r z)

abbrev pub PairAt : Words → Part → Part → ℕ → ℕ → Type 0
PairAt w k j p q = Pair k.state.life (peer_of k.state q) j.state.life (peer_of j.state p) (six w p q)

-- the words after a step for one partner
abbrev pub six_after : PeerRule → Known → Six → Six
six_after ZeroMagic x z = record z { magic = 0 }
six_after ClearOldBit x z = record z { bit = 0 }
six_after (Prepare SessionWord) x z = record z { one = word_next x }
six_after (Prepare EchoWord) x z = record z { two = 0 }
six_after OpenArea x z = record z { magic = first_magic }
six_after SetEngagementBit x z = record z { bit = 1 }
six_after StoreEcho x z = record z { two = or_zero x.read }
six_after StoreSecond x z = record z { magic = second_magic }
six_after ClearEngagementBit x z = record z { bit = 0 }
six_after CloseArea x z = record z { magic = 0 }
six_after m x z = z

-- the word of the partner's record that is read next
abbrev pub Loads : Peer → Six → PeerRule → ℕ → Type 0
Loads p z ReadRecord v = (read_place p.engage.reading ≡ 0 → v ≡ z.their_magic) × (read_place p.engage.reading ≡ 1 → v ≡ z.their_one) × (read_place p.engage.reading ≡ 2 → v ≡ z.their_two)
Loads p z m v = Unit {0}

module _ (lb : Life) (r : Peer) where
  not_true : (b : Bool) → not b ≡ true → b ≡ false
  not_true true h = absurd (cc)
  not_true false h = refl

  no_contact : (o : Option Contact) → is_some o ≡ false → o ≡ None
  no_contact None h = refl
  no_contact (Some m) h = absurd (cc)

  pub contact_kept : (turn : ℕ) (p : Peer) (z : Six) → p.engage.area ≡ Ready → p.engage.bit ≡ true → Pair Up p lb r z → Pair Up (try_contact turn z.stamp p).local lb r z
  contact_kept turn p z ready inside h = by (p.engage.second && (p.engage.shown && not (is_some p.contact))) refl where
    by : (b : Bool) → (p.engage.second && (p.engage.shown && not (is_some p.contact))) ≡ b → Pair Up (cond b (contact_made turn z.stamp p) (same_peer p)).local lb r z
    by false e = h
    by true e =
        let a = and_parts p.engage.second (p.engage.shown && not (is_some p.contact)) e in
        let c = and_parts p.engage.shown (not (is_some p.contact)) a.1 in
        both_contact (left Up p z) (right lb r z) h (no_contact p.contact (not_true (is_some p.contact) c.1)) ready inside a.0 c.0

  left_all : (la : Life) (o : Option Reason) (p : Peer) (z : Six) → IsSome o → p.engage.area ≡ Ready → Pair la p lb r z → Pair la (area_left_for o p).local lb r (record z { magic = 0 })
  left_all la None p z i e h = absurd (cc)
  left_all la (Some reason) p z i e h = both_closes (left la p z) (right lb r z) h e

  flags_kept : (la : Life) (p : Peer) (z : Six) (b : Bool) (v : ℕ) (f : Effect Peer (ℕ → List Note)) → f.local ≡ p → Pair la p lb r z → Pair la (cond b f (flags_taken v p)).local lb r z
  flags_kept la p z true v f e h = subst (λ (x : Peer). Pair la x lb r z) (sym e) h
  flags_kept la p z false v f e h = h

  magic_kept : (la : Life) (p : Peer) (z : Six) (v : ℕ) → v ≡ z.their_magic → p.engage.area ≡ Ready → p.engage.bit ≡ true → Pair la p lb r z → Pair la (magic_read p v).local lb r z
  magic_kept la p z v e ready inside h = first (eqb v 0) refl where
    nonzero : eqb v 0 ≡ false → z.their_magic ≡ 0 → ⊥
    nonzero t d = let k : eqb v 0 ≡ true = eq-eqb v 0 (e ∙ d) in absurd (cc)

    second : (b : Bool) → eqb v 0 ≡ false → Pair la (cond b (same_peer (record p { engage = record p.engage { reading = Some (record { done = 1; after_echo = is_some p.engage.echo; magic = v; echo = 0 }) } })) (say_reason (Some (BadMagic v)) p)).local lb r z
    second true t = subst (λ (x : ℕ). Pair la (record p { engage = record p.engage { reading = Some (record { done = 1; after_echo = is_some p.engage.echo; magic = x; echo = 0 }) } }) lb r z) (sym e) (both_magic (left la p z) (right lb r z) h ready inside (nonzero t))
    second false t = h

    first : (b : Bool) → eqb v 0 ≡ b → Pair la (cond b (say_reason (cond (is_some p.engage.echo) (Some (OtherGoingDown 0)) None) (record p { engage = record p.engage { back_off = p.engage.back_off || not (is_some p.engage.echo) } })) (cond (is_magic v) (same_peer (record p { engage = record p.engage { reading = Some (record { done = 1; after_echo = is_some p.engage.echo; magic = v; echo = 0 }) } })) (say_reason (Some (BadMagic v)) p))).local lb r z
    first true t = h
    first false t = second (is_magic v) t

  last_kept : (turn : ℕ) (p : Peer) (z : Six) (o : Reading) → p.engage.reading ≡ Some o → o.done ≡ 7 → p.engage.area ≡ Ready → p.engage.bit ≡ true → Pair Up p lb r z → Pair Up (last_read turn z.stamp p o).local lb r z
  last_kept turn p z o i g ready inside h = by (has_shown z.stamp p.engage o) refl where
    by : (b : Bool) → has_shown z.stamp p.engage o ≡ b → Pair Up (cond b (try_contact turn z.stamp (record p { engage = record p.engage { shown = true; reading = None } })) (same_peer (record p { engage = record p.engage { reading = None } }))).local lb r z
    by false t = both_none (left Up p z) (right lb r z) h
    by true t =
        let a = and_parts o.after_echo _ t in
        let c = and_parts (eqb o.magic second_magic) _ a.1 in
        contact_kept turn (record p { engage = record p.engage { shown = true; reading = None } }) z ready inside (both_shown (left Up p z) (right lb r z) h o i g a.0 (eqb-true o.echo (session_word (session_now z.stamp p.engage)) c.1))

  record_kept : (y : Here) (p : Peer) (z : Six) (o : Option Reading) (v : ℕ) → p.engage.reading ≡ o → (read_place o ≡ 0 → v ≡ z.their_magic) → (read_place o ≡ 1 → v ≡ z.their_one) → (read_place o ≡ 2 → v ≡ z.their_two) → p.engage.area ≡ Ready → p.engage.bit ≡ true → Pair Up p lb r z → Pair Up (record_read (record y { stamp = z.stamp }) p o v).local lb r z
  record_kept y p z None v i a b c ready inside h = magic_kept Up p z v (a refl) ready inside h
  record_kept y p z (Some o) v i a b c ready inside h = one (eqb o.done 1) refl where
    P : Effect Peer (ℕ → List Note) → Type 0
    P f = Pair Up f.local lb r z

    place : (t : Bool) → eqb o.done 1 ≡ false → eqb o.done 2 ≡ false → P (cond t (say_reason (Some (BadArgs v)) (record p { engage = record p.engage { reading = None } })) (same_peer (record p { engage = record p.engage { reading = Some (record o { done = o.done + 1 }) } })))
    place true n m = both_none (left Up p z) (right lb r z) h
    place false n m = both_next (left Up p z) (right lb r z) h o i (λ e. (let t = eq-eqb o.done 1 e in absurd (cc))) (λ e. (let t = eq-eqb o.done 2 e in absurd (cc)))

    seven : (t : Bool) → eqb o.done 7 ≡ t → eqb o.done 1 ≡ false → eqb o.done 2 ≡ false → P (cond t (last_read y.turn z.stamp p o) (place_read y.part p o v))
    seven true t n m = last_kept y.turn p z o i (eqb-true o.done 7 t) ready inside h
    seven false t n m = place (is_wrong y.part o.done v) n m

    two : (t : Bool) → eqb o.done 2 ≡ t → eqb o.done 1 ≡ false → P (cond t (echo_read p o v) (cond (eqb o.done 7) (last_read y.turn z.stamp p o) (place_read y.part p o v)))
    two true t n = let d = eqb-true o.done 2 t in subst (λ (x : ℕ). P (echo_read p o x)) (sym (c d)) (both_two (left Up p z) (right lb r z) h o i d)
    two false t n = seven (eqb o.done 7) refl n t

    one : (t : Bool) → eqb o.done 1 ≡ t → P (cond t (session_read p o v) (cond (eqb o.done 2) (echo_read p o v) (cond (eqb o.done 7) (last_read y.turn z.stamp p o) (place_read y.part p o v))))
    one true t = subst (λ (x : ℕ). P (session_read p o x)) (sym (b (eqb-true o.done 1 t))) (both_read (left Up p z) (right lb r z) h o inside i)
    one false t = two (eqb o.done 2) refl t

  prepare_kept : (y : Here) (la : Life) (p : Peer) (z : Six) (x : AreaWord) → p.engage.area ≡ Off → Pair la p lb r z → Pair la (peer_effect y p (Prepare x) 0).local lb r (six_after (Prepare x) (known (stamp_by la z.stamp) p.engage) z)
  prepare_kept y la p z SessionWord o h = both_session (left la p z) (right lb r z) h o
  prepare_kept y la p z EchoWord o h = both_echo (left la p z) (right lb r z) h o
  prepare_kept y la p z FlagWord o h = both_flags (left la p z) (right lb r z) h o
  prepare_kept y la p z (CounterWord c f) o h = both_counter (left la p z) (right lb r z) h o
  prepare_kept y la p z (ArgsWord c f) o h = both_counter (left la p z) (right lb r z) h o
  prepare_kept y la p z (PlaceWord x) o h = both_counter (left la p z) (right lb r z) h o

  page_kept : (own : ℕ) (la : Life) (p : Peer) (z : Six) (words : List ℕ) (v : ℕ) → Pair la p lb r z → Pair la (page_read own words v p).local lb r z
  page_kept own la p z words v h = cond_peer (λ (x : Peer). Pair la x lb r z) (eqb (length words) 5) _ _ h h

  pub peer_kept : (y : Here) (la : Life) (p : Peer) (z : Six) (m : PeerRule) (v : ℕ) → la ≡ peer_life m → (la ≡ Up → y.stamp ≡ z.stamp) → peer_can y p m → Loads p z m v → Pair la p lb r z → Pair la (peer_effect y p m v).local lb r (six_after m (known (stamp_by la z.stamp) p.engage) z)
  peer_kept y la p z AskActivation v u t can l h = h
  peer_kept y la p z TakeFlags v u t can l h = flags_kept la p z (is_bad_flags v) v _ refl h
  peer_kept y la p z CloseArea v u t can l h = left_all la p.engage.reason p z can.1 can.0 h
  peer_kept y la p z ZeroMagic v u t can l h = both_zeroes (left la p z) (right lb r z) h u
  peer_kept y la p z ClearOldBit v u t can l h = both_clears (left la p z) (right lb r z) h u
  peer_kept y la p z (Prepare x) v u t can l h = prepare_kept y la p z x can.0 h
  peer_kept y la p z OpenArea v u t can l h =
      let a = and_parts p.engage.session_put _ can.1 in
      let b = and_parts p.engage.echo_put _ a.1 in
      let c = and_parts p.engage.flags_put _ b.1 in
      let d = and_parts (eqb p.engage.counters_put 255) _ c.1 in
      both_opens (left la p z) (right lb r z) h first_magic can.0 a.0 b.0 (ltb-true p.engage.count 4294967295 (and_parts (ltb p.engage.count 4294967295) _ d.1).0)
  peer_kept y la p z SetEngagementBit v u t can l h = both_enters (left la p z) (right lb r z) h can.0 can.2
  peer_kept y la p z ReadRecord v u t can l h =
      let P : Life → ℕ → Type 0 = λ i n. Pair i (record_read (record y { stamp = n }) p p.engage.reading v).local lb r z in
      subst (λ (n : ℕ). P la n) (sym (t u)) (subst (λ (i : Life). P i z.stamp) (sym u) (record_kept y p z p.engage.reading v refl l.0 l.1 l.2 can.0 can.2 (subst (λ (i : Life). Pair i p lb r z) u h)))
  peer_kept y la p z StoreEcho v u t can l h = both_echoes (left la p z) (right lb r z) h can.0 can.2 can.3 can.4
  peer_kept y la p z StoreSecond v u t can l h =
      let i = h.own.fit.echo can.2 can.0 in
      let p' = record p { engage = record p.engage { second = true } } in
      let P : Life → ℕ → Type 0 = λ i n. Pair i (try_contact y.turn n p').local lb r (record z { magic = second_magic }) in
      subst (λ (n : ℕ). P la n) (sym (t u)) (subst (λ (i : Life). P i z.stamp) (sym u) (contact_kept y.turn p' (record z { magic = second_magic }) can.0 i (subst (λ (i : Life). Pair i p' lb r (record z { magic = second_magic })) u (both_seconds (left la p z) (right lb r z) h second_magic can.0 can.2))))
  peer_kept y la p z ClearEngagementBit v u t can l h = both_leaves (left la p z) (right lb r z) h (out p.contact h.own.fit.active h.own.fit.second can.2) (unread p.engage.reading can.1) (short can.2) where
    unread : (o : Option Reading) → (is_some o || (ltb 0 (length p.paging) || any_copied p.links)) ≡ false → o ≡ None
    unread None e = refl
    unread (Some t) e = absurd (cc)

    short : ((p.engage.area ≡ Ready) × (p.engage.reason ≡ None) × (p.engage.echo ≡ None) × (p.engage.back_off ≡ true)) ⊎ ((p.engage.area ≡ Leaving) × (p.engage.told ≡ true)) → ((p.engage.area ≡ Ready) × (p.engage.echo ≡ None)) ⊎ (p.engage.area ≡ Leaving)
    short (inl e) = inl (e.0, e.2)
    short (inr e) = inr e.0

    out : (o : Option Contact) → (is_some o ≡ true → (p.engage.area ≡ Ready) × (p.engage.bit ≡ true) × (p.engage.second ≡ true) × (p.engage.shown ≡ true)) → (p.engage.area ≡ Ready → p.engage.second ≡ true → is_some p.engage.echo ≡ true) → ((p.engage.area ≡ Ready) × (p.engage.reason ≡ None) × (p.engage.echo ≡ None) × (p.engage.back_off ≡ true)) ⊎ ((p.engage.area ≡ Leaving) × (p.engage.told ≡ true)) → o ≡ None
    out None a s e = refl
    out (Some m) a s (inl e) = let t = a refl in let y = s t.0 t.2 in absurd (cc)
    out (Some m) a s (inr e) = let t : Ready ≡ Leaving = sym (a refl).0 ∙ e.0 in absurd (cc)
  peer_kept y la p z LookAtPage v u t can l h = page_kept y.version la p z (p.paging ++ v ∷ []) v h
  peer_kept y la p z CheckBeat v u t can l h = h
  peer_kept y la p z ClearDeactivationBit v u t can l h = h
  peer_kept y la p z TellPartner v u t can l h = h

  -- a load of a copy failed
  pub ended_kept : (turn : ℕ) (la : Life) (p : Peer) (z : Six) (mark : Option CopyMark) → Pair la p lb r z → Pair la (peer_failed turn mark p) lb r z
  ended_kept turn la p z None h = h
  ended_kept turn la p z (Some mark) h = by mark.kind where
    by : (kind : CopyKind) → Pair la (peer_failed turn (Some (record mark { kind = kind })) p) lb r z
    by RecordCopy = both_none (left la p z) (right lb r z) h
    by kind = h

  -- the own engagement word was loaded: all that was left is free
  pub free_kept : (p : Peer) (z : Six) (v q : ℕ) → bit_at v q ≡ z.their_bit → Pair Up p lb r z → Pair Up (peer_read v q p).local lb r z
  free_kept p z v q e h = by (is_left p.engage && not (is_flagged v q)) refl where
    left_from : (x : Area) (b : Bool) → p.engage.area ≡ x → p.engage.bit ≡ b → is_left p.engage ≡ true → ((p.engage.area ≡ Old) ⊎ (p.engage.area ≡ Leaving)) × (p.engage.bit ≡ false)
    left_from Old b i j t = (inl i, outside b j) where
      outside : (b : Bool) → p.engage.bit ≡ b → p.engage.bit ≡ false
      outside false j = j
      outside true j = elim (h.own.fit.inside j) [ inl d ↦ let y : Old ≡ Ready = sym i ∙ d in absurd (cc) | inr d ↦ let y : Old ≡ Leaving = sym i ∙ d in absurd (cc) ]
    left_from Off b i j t = let y : is_left p.engage ≡ false = rw i refl in absurd (cc)
    left_from Ready b i j t = let y : is_left p.engage ≡ false = rw i refl in absurd (cc)
    left_from Leaving false i j t = (inr i, j)
    left_from Leaving true i j t = let y : is_left p.engage ≡ false = rw (i, j) refl in absurd (cc)

    clear : not (is_flagged v q) ≡ true → z.their_bit ≡ 0
    clear t = elim (cases_eq (bit_at v q) 1) [
      | inl d ↦ let y : is_flagged v q ≡ true = eq-eqb (bit_at v q) 1 d in absurd (cc)
      | inr d ↦ sym e ∙ omega (arith, bit_at-lt v q, d)
    ]

    by : (b : Bool) → (is_left p.engage && not (is_flagged v q)) ≡ b → Pair Up (cond b (area_off p) (same_peer p)).local lb r z
    by false t = h
    by true t =
        let a = and_parts (is_left p.engage) (not (is_flagged v q)) t in
        let o = left_from p.engage.area p.engage.bit refl refl a.0 in
        both_frees (left Up p z) (right lb r z) h refl o.1 o.0 (clear a.1)

  told_kept : (la : Life) (p : Peer) (z : Six) (v q : ℕ) → Pair la p lb r z → Pair la (deactivation_heard v q p).local lb r z
  told_kept la p z v q h = cond_both (is_some p.engage.echo && is_flagged v q) (with_reason (Some (OtherGoingDown v)) p) p (λ (x : Peer). Pair la x lb r z) (λ e. h) (λ e. h)

pub can_numbered : (y : Here) (mark : Option CopyMark) (p : Peer) (m : PeerRule) → peer_can y p m → peer_can y (peer_numbered mark p) m
can_numbered y None p m h = h
can_numbered y (Some mark) p AskActivation h = h
can_numbered y (Some mark) p TakeFlags h = h
can_numbered y (Some mark) p CloseArea h = h
can_numbered y (Some mark) p ZeroMagic h = h
can_numbered y (Some mark) p ClearOldBit h = h
can_numbered y (Some mark) p (Prepare x) h = h
can_numbered y (Some mark) p OpenArea h = h
can_numbered y (Some mark) p SetEngagementBit h = h
can_numbered y (Some mark) p ReadRecord h = h
can_numbered y (Some mark) p StoreEcho h = h
can_numbered y (Some mark) p StoreSecond h = h
can_numbered y (Some mark) p ClearEngagementBit h = h
can_numbered y (Some mark) p LookAtPage h = h
can_numbered y (Some mark) p CheckBeat h = h
can_numbered y (Some mark) p ClearDeactivationBit h = h
can_numbered y (Some mark) p TellPartner h = h

pub loads_numbered : (mark : Option CopyMark) (p : Peer) (z : Six) (m : PeerRule) (v : ℕ) → Loads p z m v → Loads (peer_numbered mark p) z m v
loads_numbered None p z m v h = h
loads_numbered (Some mark) p z AskActivation v h = h
loads_numbered (Some mark) p z TakeFlags v h = h
loads_numbered (Some mark) p z CloseArea v h = h
loads_numbered (Some mark) p z ZeroMagic v h = h
loads_numbered (Some mark) p z ClearOldBit v h = h
loads_numbered (Some mark) p z (Prepare x) v h = h
loads_numbered (Some mark) p z OpenArea v h = h
loads_numbered (Some mark) p z SetEngagementBit v h = h
loads_numbered (Some mark) p z ReadRecord v h = h
loads_numbered (Some mark) p z StoreEcho v h = h
loads_numbered (Some mark) p z StoreSecond v h = h
loads_numbered (Some mark) p z ClearEngagementBit v h = h
loads_numbered (Some mark) p z LookAtPage v h = h
loads_numbered (Some mark) p z CheckBeat v h = h
loads_numbered (Some mark) p z ClearDeactivationBit v h = h
loads_numbered (Some mark) p z TellPartner v h = h

numbered_kept : (y : Here) (la lb : Life) (mark : Option CopyMark) (p r : Peer) (z z' : Six) (m : PeerRule) (v : ℕ) → (Pair la (peer_numbered mark p) lb r z → Pair la (peer_effect y (peer_numbered mark p) m v).local lb r (six_after m (known (stamp_by la z.stamp) (peer_numbered mark p).engage) z)) → Pair la p lb r z → Pair la (peer_effect y (peer_numbered mark p) m v).local lb r (six_after m (known (stamp_by la z.stamp) p.engage) z)
numbered_kept y la lb None p r z z' m v f h = f h
numbered_kept y la lb (Some mark) p r z z' m v f h = f h

-- the stamp of a boot that is over is the own word, and so is the one that was read in a boot
pub record Stamped (st : State) (word : ℕ) : Type 0 where
  pub up : st.life ≡ Up → st.stamp ≡ word
  pub read : st.life ≡ Booting → (v : ℕ) → st.boot.read ≡ Some v → v ≡ word

-- all partitions
pub record Met (n : ℕ) (w : Words) (σ : ℕ → Part) : Type 0 where
  pub stamps : (p : ℕ) → p < n → Stamped (σ p).state (w p (Open STAMP))
  pub all : (p : ℕ) → p < n → AreAll n (σ p).state.peers
  pub both : (p q : ℕ) → p < n → q < n → (p ≡ q → ⊥) → PairAt w (σ p) (σ q) p q

module _ (n : ℕ) (w w' : Words) (σ : ℕ → Part) (a : ℕ) (k : Part) (met : Met n w σ) (all : AreAll n k.state.peers)
    (away : (p q : ℕ) → p < n → q < n → (p ≡ a → ⊥) → (q ≡ a → ⊥) → six w' p q ≡ six w p q)
    (here : (q : ℕ) → q < n → (q ≡ a → ⊥) → PairAt w' k (σ q) a q)
    (stamped : Stamped k.state (w' a (Open STAMP))) (still : (p : ℕ) → (p ≡ a → ⊥) → w' p (Open STAMP) ≡ w p (Open STAMP)) where
  kept_far : (p : ℕ) → (p ≡ a → ⊥) → at_one σ a k p ≡ σ p
  kept_far p d = rw (ne_eqb a p (λ e. d (sym e))) refl

  abbrev Goal : ℕ → ℕ → Type 0
  Goal p q = PairAt w' (at_one σ a k p) (at_one σ a k q) p q

  both_by : (p q : ℕ) → p < n → q < n → (p ≡ q → ⊥) → (p ≡ a) ⊎ (p ≡ a → ⊥) → (q ≡ a) ⊎ (q ≡ a → ⊥) → Goal p q
  both_by p q l m d (inl e) (inl f) = absurd (d (e ∙ sym f))
  both_by p q l m d (inl e) (inr g) =
      let P : ℕ → Type 0 = λ x. Goal x q in
      subst P (sym e) (subst (λ (y : Part). PairAt w' y (at_one σ a k q) a q) (sym (one_here σ a k)) (subst (λ (y : Part). PairAt w' k y a q) (sym (kept_far q g)) (here q m g)))
  both_by p q l m d (inr g) (inl f) =
      let P : ℕ → Type 0 = λ x. Goal p x in
      subst P (sym f) (subst (λ (y : Part). PairAt w' (at_one σ a k p) y p a) (sym (one_here σ a k)) (subst (λ (y : Part). PairAt w' y k p a) (sym (kept_far p g)) (both_turned _ _ (here p l g))))
  both_by p q l m d (inr g) (inr f) =
      subst (λ (y : Part). PairAt w' y (at_one σ a k q) p q) (sym (kept_far p g)) (subst (λ (y : Part). PairAt w' (σ p) y p q) (sym (kept_far q f)) (subst (λ (z : Six). Pair (σ p).state.life (peer_of (σ p).state q) (σ q).state.life (peer_of (σ q).state p) z) (sym (away p q l m g f)) (met.both p q l m d)))

  all_by : (p : ℕ) → p < n → (p ≡ a) ⊎ (p ≡ a → ⊥) → AreAll n (at_one σ a k p).state.peers
  all_by p l (inl e) = let P : ℕ → Type 0 = λ x. AreAll n (at_one σ a k x).state.peers in subst P (sym e) (subst (λ (j : Part). AreAll n j.state.peers) (sym (one_here σ a k)) all)
  all_by p l (inr d) = subst (λ (j : Part). AreAll n j.state.peers) (sym (kept_far p d)) (met.all p l)

  stamps_by : (p : ℕ) → p < n → (p ≡ a) ⊎ (p ≡ a → ⊥) → Stamped (at_one σ a k p).state (w' p (Open STAMP))
  stamps_by p l (inl e) = let P : ℕ → Type 0 = λ x. Stamped (at_one σ a k x).state (w' x (Open STAMP)) in subst P (sym e) (subst (λ (j : Part). Stamped j.state (w' a (Open STAMP))) (sym (one_here σ a k)) stamped)
  stamps_by p l (inr d) = subst (λ (j : Part). Stamped j.state (w' p (Open STAMP))) (sym (kept_far p d)) (subst (λ (v : ℕ). Stamped (σ p).state v) (sym (still p d)) (met.stamps p l))

  pub moved : Met n w' (at_one σ a k)
  moved = record { stamps = λ p l. stamps_by p l (cases_eq p a); all = λ p l. all_by p l (cases_eq p a); both = λ p q l m d. both_by p q l m d (cases_eq p a) (cases_eq q a) }

-- one partner is replaced
pub peer_cases : {n : ℕ} (P : ℕ → Peer → Type 0) (peers : List Peer) (k : ℕ) (x : Peer) (q : ℕ) → length peers ≡ n → k < n → P k x → ((q ≡ k → ⊥) → P q (peer_at peers q)) → P q (peer_at (set peers k x) q)
peer_cases P peers k x q n l new old = by (cases_eq q k) where
  by : (q ≡ k) ⊎ (q ≡ k → ⊥) → P q (peer_at (set peers k x) q)
  by (inl e) = subst (λ (j : ℕ). P j (peer_at (set peers k x) j)) (sym e) (subst (λ (y : Peer). P k y) (sym (get_or-set_same peers k x (cold_peer Old) (omega (arith, n, l)))) new)
  by (inr d) = subst (λ (y : Peer). P q y) (sym (get_or-set_other peers k q x (cold_peer Old) d)) (old d)

module _ (s : Scenario) (lawful : (p : ℕ) → p < s.count → IsLawfulPart (part_of s p)) where
  module _ (w : Words) (σ : ℕ → Part) (a : ℕ) (la : a < s.count) (met : Met s.count w σ) where
    abbrev su : ScenarioPart
    su = part_of s a

    abbrev st : State
    st = (σ a).state

    low : (k : ℕ) → k < s.count → k < PARTS
    low k l = omega (arith, l, (lawful a la).count)

    abbrev words_after : Rule → Words
    words_after r = does_rule su st r w

    old : (q : ℕ) → q < s.count → (q ≡ a → ⊥) → PairAt w (σ a) (σ q) a q
    old q l d = met.both a q la l (λ e. d (sym e))

    -- the words of others
    far_prepare : (k : ℕ) (x : AreaWord) (p q v : ℕ) → (p ≡ a → ⊥) → (q ≡ a → ⊥) → six (does (Store v) a (area_place k x) w) p q ≡ six w p q
    far_prepare k x p q v n o = six_away w (Store v) a (area_place k x) p q n o

    pub away : (r : Rule) (p q : ℕ) → p < s.count → q < s.count → (p ≡ a → ⊥) → (q ≡ a → ⊥) → six (words_after r) p q ≡ six w p q
    away (Link k d (Ring ReadGet)) p q lp lq n o = refl
    away (Link k d (Ring (WriteEntryWord f))) p q lp lq n o = refl
    away (Link k d (Ring AcceptMessage)) p q lp lq n o = refl
    away (Link k d (Pull ReadCounters)) p q lp lq n o = refl
    away (Link k d (Pull ReadEntry)) p q lp lq n o = refl
    away (Link k d Acknowledge) p q lp lq n o = refl
    away (Link k d (SetFlag j)) p q lp lq n o = refl
    away (Link k d ZeroGet) p q lp lq n o = refl
    away (Link k d ZeroPut) p q lp lq n o = refl
    away (Link k d (StoreArgument x)) p q lp lq n o = refl
    away (Link k d (ReadArgument x)) p q lp lq n o = refl
    away (ForPeer k AskActivation) p q lp lq n o = refl
    away (ForPeer k TakeFlags) p q lp lq n o = refl
    away (ForPeer k CloseArea) p q lp lq n o = six_away w (Store _) a (Record k 0) p q n o
    away (ForPeer k ZeroMagic) p q lp lq n o = six_away w (Store _) a (Record k 0) p q n o
    away (ForPeer k ClearOldBit) p q lp lq n o = six_bits w (And (all_but a)) k p q (and_bits w a k q p (low a la) (low p lp) n) (and_bits w a k p q (low a la) (low q lq) o) (λ x f. refl) (λ x f. refl) (λ x. refl)
    away (ForPeer k (Prepare x)) p q lp lq n o = far_prepare k x p q _ n o
    away (ForPeer k OpenArea) p q lp lq n o = six_away w (Store _) a (Record k 0) p q n o
    away (ForPeer k SetEngagementBit) p q lp lq n o = six_bits w (Or (2 ^ a)) k p q (or_bits w a k q p n) (or_bits w a k p q o) (λ x f. refl) (λ x f. refl) (λ x. refl)
    away (ForPeer k ReadRecord) p q lp lq n o = refl
    away (ForPeer k StoreEcho) p q lp lq n o = six_away w (Store _) a (Record k 2) p q n o
    away (ForPeer k StoreSecond) p q lp lq n o = six_away w (Store _) a (Record k 0) p q n o
    away (ForPeer k LookAtPage) p q lp lq n o = refl
    away (ForPeer k CheckBeat) p q lp lq n o = refl
    away (ForPeer k ClearDeactivationBit) p q lp lq n o = refl
    away (ForPeer k TellPartner) p q lp lq n o = refl
    away (ForPeer k ClearEngagementBit) p q lp lq n o = six_bits w (And (all_but a)) k p q (and_bits w a k q p (low a la) (low p lp) n) (and_bits w a k p q (low a la) (low q lq) o) (λ x f. refl) (λ x f. refl) (λ x. refl)
    away (Own ReadEngaged) p q lp lq n o = refl
    away (Own TakeDeactivation) p q lp lq n o = refl
    away (Own WriteStamp) p q lp lq n o = six_away w (Store _) a (Open STAMP) p q n o
    away (Own ReadStamp) p q lp lq n o = refl
    away (Own ZeroMask) p q lp lq n o = refl
    away (Own ZeroOffline) p q lp lq n o = refl
    away (Own StoreMask) p q lp lq n o = refl
    away (Own TakeActivation) p q lp lq n o = refl
    away (Own StoreBeat) p q lp lq n o = refl
    away (Own StoreOffline) p q lp lq n o = refl

    -- the own words for another partner
    prepare_else : (k : ℕ) (x : AreaWord) (v q : ℕ) → (q ≡ a → ⊥) → (q ≡ k → ⊥) → six (does (Store v) a (area_place k x) w) a q ≡ six w a q
    prepare_else k SessionWord v q n o = six_else w a k 1 v q n o
    prepare_else k EchoWord v q n o = six_else w a k 2 v q n o
    prepare_else k FlagWord v q n o = refl
    prepare_else k (CounterWord c f) v q n o = refl
    prepare_else k (ArgsWord c f) v q n o = refl
    prepare_else k (PlaceWord x) v q n o = six_else w a k (field_number x) v q n o

    bits_else : (k q : ℕ) (v : ℕ) → (q ≡ k → ⊥) → (j : _) → bit_at (does j k (Open ENGAGED) w q (Open ENGAGED)) a ≡ bit_at (w q (Open ENGAGED)) a
    bits_else k q v o j = ap (λ (x : ℕ). bit_at x a) (far j k (Open ENGAGED) w q (Open ENGAGED) (λ e. o (sym e)))

    pub peer_else : (k : ℕ) (m : PeerRule) (q : ℕ) → q < s.count → (q ≡ a → ⊥) → (q ≡ k → ⊥) → six (words_after (ForPeer k m)) a q ≡ six w a q
    peer_else k AskActivation q l n o = refl
    peer_else k TakeFlags q l n o = refl
    peer_else k CloseArea q l n o = six_else w a k 0 _ q n o
    peer_else k ZeroMagic q l n o = six_else w a k 0 _ q n o
    peer_else k ClearOldBit q l n o = six_bits w (And (all_but a)) k a q (bits_else k q 0 o (And (all_but a))) (and_bits w a k a q (low a la) (low q l) n) (λ x f. refl) (λ x f. refl) (λ x. refl)
    peer_else k (Prepare x) q l n o = prepare_else k x _ q n o
    peer_else k OpenArea q l n o = six_else w a k 0 _ q n o
    peer_else k SetEngagementBit q l n o = six_bits w (Or (2 ^ a)) k a q (bits_else k q 0 o (Or (2 ^ a))) (or_bits w a k a q n) (λ x f. refl) (λ x f. refl) (λ x. refl)
    peer_else k ReadRecord q l n o = refl
    peer_else k StoreEcho q l n o = six_else w a k 2 _ q n o
    peer_else k StoreSecond q l n o = six_else w a k 0 _ q n o
    peer_else k LookAtPage q l n o = refl
    peer_else k CheckBeat q l n o = refl
    peer_else k ClearDeactivationBit q l n o = refl
    peer_else k TellPartner q l n o = refl
    peer_else k ClearEngagementBit q l n o = six_bits w (And (all_but a)) k a q (bits_else k q 0 o (And (all_but a))) (and_bits w a k a q (low a la) (low q l) n) (λ x f. refl) (λ x f. refl) (λ x. refl)

    stamp_now : st.life ≡ Up → st.stamp ≡ stamp_by st.life (w a (Open STAMP))
    stamp_now u = (met.stamps a la).up u ∙ sym (ap (λ (y : Life). stamp_by y (w a (Open STAMP))) u)

    prepare_here : (k : ℕ) (x : AreaWord) → (k ≡ a → ⊥) → st.life ≡ Up → six (words_after (ForPeer k (Prepare x))) a k ≡ six_after (Prepare x) (known (stamp_by st.life (w a (Open STAMP))) (peer_of st k).engage) (six w a k)
    prepare_here k SessionWord n u = six_here w a k 1 (session_word (session_next st.stamp (peer_of st k).engage)) n ∙ ap (λ (t : ℕ). record (six w a k) { one = session_word (session_next t (peer_of st k).engage) }) (stamp_now u)
    prepare_here k EchoWord n u = six_here w a k 2 _ n
    prepare_here k FlagWord n u = refl
    prepare_here k (CounterWord c f) n u = refl
    prepare_here k (ArgsWord c f) n u = refl
    prepare_here k (PlaceWord ArgsPlace) n u = six_here w a k 3 (field_word k ArgsPlace) n
    prepare_here k (PlaceWord CountersPlace) n u = six_here w a k 4 (field_word k CountersPlace) n
    prepare_here k (PlaceWord FlagPlace) n u = six_here w a k 5 (field_word k FlagPlace) n
    prepare_here k (PlaceWord ChannelCount) n u = six_here w a k 6 (field_word k ChannelCount) n
    prepare_here k (PlaceWord Spare) n u = six_here w a k 7 (field_word k Spare) n

    pub peer_six : (k : ℕ) (m : PeerRule) → k < s.count → (k ≡ a → ⊥) → st.life ≡ peer_life m → six (words_after (ForPeer k m)) a k ≡ six_after m (known (stamp_by st.life (w a (Open STAMP))) (peer_of st k).engage) (six w a k)
    peer_six k AskActivation l n u = refl
    peer_six k TakeFlags l n u = refl
    peer_six k CloseArea l n u = six_here w a k 0 _ n
    peer_six k ZeroMagic l n u = six_here w a k 0 _ n
    peer_six k ClearOldBit l n u = six_clear w a k (low a la) (low k l) n
    peer_six k (Prepare x) l n u = prepare_here k x n u
    peer_six k OpenArea l n u = six_here w a k 0 _ n
    peer_six k SetEngagementBit l n u = six_set w a k n
    peer_six k ReadRecord l n u = refl
    peer_six k StoreEcho l n u = six_here w a k 2 _ n
    peer_six k StoreSecond l n u = six_here w a k 0 _ n
    peer_six k LookAtPage l n u = refl
    peer_six k CheckBeat l n u = refl
    peer_six k ClearDeactivationBit l n u = refl
    peer_six k TellPartner l n u = refl
    peer_six k ClearEngagementBit l n u = six_clear w a k (low a la) (low k l) n

    pub peer_loads : (k : ℕ) (m : PeerRule) → Loads (peer_of st k) (six w a k) m (answer_word su st (ForPeer k m) w)
    peer_loads k ReadRecord = (λ e. ap (λ (n : ℕ). w k (Record a n)) e, λ e. ap (λ (n : ℕ). w k (Record a n)) e, λ e. ap (λ (n : ℕ). w k (Record a n)) e)
    peer_loads k AskActivation = tt
    peer_loads k TakeFlags = tt
    peer_loads k CloseArea = tt
    peer_loads k ZeroMagic = tt
    peer_loads k ClearOldBit = tt
    peer_loads k (Prepare x) = tt
    peer_loads k OpenArea = tt
    peer_loads k SetEngagementBit = tt
    peer_loads k StoreEcho = tt
    peer_loads k StoreSecond = tt
    peer_loads k ClearEngagementBit = tt
    peer_loads k LookAtPage = tt
    peer_loads k CheckBeat = tt
    peer_loads k ClearDeactivationBit = tt
    peer_loads k TellPartner = tt

    -- how a stands to each after a step
    abbrev After : Rule → ℕ → Type 0
    After r q = Pair (after_answer su st r (Word (answer_word su st r w))).life (peer_of (after_answer su st r (Word (answer_word su st r w))) q) (σ q).state.life (peer_of (σ q).state a) (six (words_after r) a q)

    pub link_six : (k d : ℕ) (m : LinkRule) (q : ℕ) → six (words_after (Link k d m)) a q ≡ six w a q
    link_six k d (Ring ReadGet) q = refl
    link_six k d (Ring (WriteEntryWord f)) q = refl
    link_six k d (Ring AcceptMessage) q = refl
    link_six k d (Pull ReadCounters) q = refl
    link_six k d (Pull ReadEntry) q = refl
    link_six k d Acknowledge q = refl
    link_six k d (SetFlag j) q = refl
    link_six k d ZeroGet q = refl
    link_six k d ZeroPut q = refl
    link_six k d (StoreArgument x) q = refl
    link_six k d (ReadArgument x) q = refl

    ruled : (r : Rule) → Can su st r → (q : ℕ) → q < s.count → (q ≡ a → ⊥) → After r q
    ruled (Link k d m) can q l n =
        let P : Peer → Type 0 = λ p. Pair st.life p (σ q).state.life (peer_of (σ q).state a) (six (words_after (Link k d m)) a q) in
        let h : P (peer_of st q) = subst (λ (z : Six). Pair st.life (peer_of st q) (σ q).state.life (peer_of (σ q).state a) z) (sym (link_six k d m q)) (old q l n) in
        at_peer P st.peers k _ q (λ e. subst (λ (j : ℕ). P (peer_of st j)) e h) h
    ruled (ForPeer k m) can q l n =
        let r = ForPeer k m in
        let mark = mark_of su st r in
        let v = answer_word su st r w in
        let lk = can.1.0.low in
        let nk = can.1.0.other in
        let p = peer_of st k in
        let P : ℕ → Peer → Type 0 = λ j x. Pair st.life x (σ j).state.life (peer_of (σ j).state a) (six (words_after r) a j) in
        peer_cases P st.peers k _ q (met.all a la).partners lk
        (subst (λ (z : Six). Pair st.life (peer_effect (here_of su st k) (peer_numbered mark p) m v).local (σ k).state.life (peer_of (σ k).state a) z) (sym (peer_six k m lk nk can.0))
        (numbered_kept (here_of su st k) st.life (σ k).state.life mark p (peer_of (σ k).state a) (six w a k) (six w a k) m v (λ h. peer_kept (σ k).state.life (peer_of (σ k).state a) (here_of su st k) st.life (peer_numbered mark p) (six w a k) m v can.0 (λ u. (met.stamps a la).up u) (can_numbered (here_of su st k) mark p m can.1.1) (loads_numbered mark p (six w a k) m v (peer_loads k m)) h) (old k lk nk)))
        (λ o. subst (λ (z : Six). Pair st.life (peer_of st q) (σ q).state.life (peer_of (σ q).state a) z) (sym (peer_else k m q l n o)) (old q l n))
    ruled (Own ReadEngaged) can q l n =
        let P : Peer → Type 0 = λ p. Pair st.life p (σ q).state.life (peer_of (σ q).state a) (six w a q) in
        let u : st.life ≡ Up = can.0 in
        let v = w a (Open ENGAGED) in
        at_each P (λ j p. (peer_read v j p).local) st.peers q (cold_peer Old)
        (subst (λ (y : Life). Pair y (peer_read v q (peer_of st q)).local (σ q).state.life (peer_of (σ q).state a) (six w a q)) (sym u) (free_kept (σ q).state.life (peer_of (σ q).state a) (peer_of st q) (six w a q) v q refl (subst (λ (y : Life). Pair y (peer_of st q) (σ q).state.life (peer_of (σ q).state a) (six w a q)) u (old q l n))))
        (λ f. absurd (omega (arith, f, l, (met.all a la).partners)))
    ruled (Own TakeDeactivation) can q l n =
        let P : Peer → Type 0 = λ p. Pair st.life p (σ q).state.life (peer_of (σ q).state a) (six w a q) in
        let v = w a (Open DEACTIVATION) in
        at_each P (λ j p. (deactivation_heard v j p).local) st.peers q (cold_peer Old) (told_kept (σ q).state.life (peer_of (σ q).state a) st.life (peer_of st q) (six w a q) v q (old q l n)) (λ f. absurd (omega (arith, f, l, (met.all a la).partners)))
    ruled (Own StoreMask) can q l n = old q l n
    ruled (Own TakeActivation) can q l n = old q l n
    ruled (Own StoreBeat) can q l n = old q l n
    ruled (Own StoreOffline) can q l n = old q l n
    ruled (Own ZeroMask) can q l n = old q l n
    ruled (Own ZeroOffline) can q l n = old q l n
    ruled (Own ReadStamp) can q l n = halts (ltb (w a (Open STAMP)) 4294967295) where
      P : Life → Type 0
      P y = Pair y (peer_of st q) (σ q).state.life (peer_of (σ q).state a) (six w a q)

      halts : (b : Bool) → P (cond b st.life Halted)
      halts true = old q l n
      halts false = both_halts _ _ (subst P can.0 (old q l n)) refl
    ruled (Own WriteStamp) can q l n =
        let p = peer_of st q in
        let r = right (σ q).state.life (peer_of (σ q).state a) (six w a q) in
        let h = subst (λ (y : Life). Pair y p (σ q).state.life (peer_of (σ q).state a) (six w a q)) can.0 (old q l n) in
        let z = six w a q in
        let T : ℕ → Type 0 = λ n. Both (record { life = Up; x = known (n + 1) p.engage; contact = p.contact; magic = z.magic; one = z.one; two = z.two; bit = z.bit }) r in
        let e : or_zero st.boot.read ≡ w a (Open STAMP) = read_word st.boot.read refl can.1.0 in
        subst (λ (y : Six). Pair Up p (σ q).state.life (peer_of (σ q).state a) y) (sym (six_stamp w a (or_zero st.boot.read + 1) q n)) (subst T (sym e) (both_up _ _ h (can.1.3 q l n).0))
      where
        read_word : (o : Option ℕ) → st.boot.read ≡ o → IsSome o → or_zero o ≡ w a (Open STAMP)
        read_word None i d = absurd (cc)
        read_word (Some v) i d = (met.stamps a la).read can.0 v i

    -- the own stamps
    pub still : (r : Rule) (p : ℕ) → (p ≡ a → ⊥) → words_after r p (Open STAMP) ≡ w p (Open STAMP)
    still (Own WriteStamp) p n = far (Store _) a (Open STAMP) w p (Open STAMP) (λ e. n (sym e))
    still (Link k d (Ring ReadGet)) p n = refl
    still (Link k d (Ring (WriteEntryWord f))) p n = refl
    still (Link k d (Ring AcceptMessage)) p n = refl
    still (Link k d (Pull ReadCounters)) p n = refl
    still (Link k d (Pull ReadEntry)) p n = refl
    still (Link k d Acknowledge) p n = refl
    still (Link k d (SetFlag j)) p n = refl
    still (Link k d ZeroGet) p n = refl
    still (Link k d ZeroPut) p n = refl
    still (Link k d (StoreArgument x)) p n = refl
    still (Link k d (ReadArgument x)) p n = refl
    still (ForPeer k AskActivation) p n = refl
    still (ForPeer k TakeFlags) p n = refl
    still (ForPeer k CloseArea) p n = refl
    still (ForPeer k ZeroMagic) p n = refl
    still (ForPeer k ClearOldBit) p n = refl
    still (ForPeer k (Prepare SessionWord)) p n = refl
    still (ForPeer k (Prepare EchoWord)) p n = refl
    still (ForPeer k (Prepare (PlaceWord x))) p n = refl
    still (ForPeer k (Prepare (ArgsWord c f))) p n = refl
    still (ForPeer k (Prepare FlagWord)) p n = refl
    still (ForPeer k (Prepare (CounterWord c f))) p n = refl
    still (ForPeer k OpenArea) p n = refl
    still (ForPeer k SetEngagementBit) p n = refl
    still (ForPeer k ReadRecord) p n = refl
    still (ForPeer k StoreEcho) p n = refl
    still (ForPeer k StoreSecond) p n = refl
    still (ForPeer k ClearEngagementBit) p n = refl
    still (ForPeer k LookAtPage) p n = refl
    still (ForPeer k CheckBeat) p n = refl
    still (ForPeer k ClearDeactivationBit) p n = refl
    still (ForPeer k TellPartner) p n = refl
    still (Own ReadEngaged) p n = refl
    still (Own TakeDeactivation) p n = refl
    still (Own ReadStamp) p n = refl
    still (Own ZeroMask) p n = refl
    still (Own ZeroOffline) p n = refl
    still (Own StoreMask) p n = refl
    still (Own TakeActivation) p n = refl
    still (Own StoreBeat) p n = refl
    still (Own StoreOffline) p n = refl

    pub own_stamp : (r : Rule) → (r ≡ Own WriteStamp → ⊥) → words_after r a (Open STAMP) ≡ w a (Open STAMP)
    own_stamp (Own WriteStamp) n = absurd (n refl)
    own_stamp (Link k d (Ring ReadGet)) n = refl
    own_stamp (Link k d (Ring (WriteEntryWord f))) n = refl
    own_stamp (Link k d (Ring AcceptMessage)) n = refl
    own_stamp (Link k d (Pull ReadCounters)) n = refl
    own_stamp (Link k d (Pull ReadEntry)) n = refl
    own_stamp (Link k d Acknowledge) n = refl
    own_stamp (Link k d (SetFlag j)) n = refl
    own_stamp (Link k d ZeroGet) n = refl
    own_stamp (Link k d ZeroPut) n = refl
    own_stamp (Link k d (StoreArgument x)) n = refl
    own_stamp (Link k d (ReadArgument x)) n = refl
    own_stamp (ForPeer k AskActivation) n = refl
    own_stamp (ForPeer k TakeFlags) n = refl
    own_stamp (ForPeer k CloseArea) n = refl
    own_stamp (ForPeer k ZeroMagic) n = refl
    own_stamp (ForPeer k ClearOldBit) n = refl
    own_stamp (ForPeer k (Prepare SessionWord)) n = refl
    own_stamp (ForPeer k (Prepare EchoWord)) n = refl
    own_stamp (ForPeer k (Prepare (PlaceWord x))) n = refl
    own_stamp (ForPeer k (Prepare (ArgsWord c f))) n = refl
    own_stamp (ForPeer k (Prepare FlagWord)) n = refl
    own_stamp (ForPeer k (Prepare (CounterWord c f))) n = refl
    own_stamp (ForPeer k OpenArea) n = refl
    own_stamp (ForPeer k SetEngagementBit) n = refl
    own_stamp (ForPeer k ReadRecord) n = refl
    own_stamp (ForPeer k StoreEcho) n = refl
    own_stamp (ForPeer k StoreSecond) n = refl
    own_stamp (ForPeer k ClearEngagementBit) n = refl
    own_stamp (ForPeer k LookAtPage) n = refl
    own_stamp (ForPeer k CheckBeat) n = refl
    own_stamp (ForPeer k ClearDeactivationBit) n = refl
    own_stamp (ForPeer k TellPartner) n = refl
    own_stamp (Own ReadEngaged) n = refl
    own_stamp (Own TakeDeactivation) n = refl
    own_stamp (Own ReadStamp) n = refl
    own_stamp (Own ZeroMask) n = refl
    own_stamp (Own ZeroOffline) n = refl
    own_stamp (Own StoreMask) n = refl
    own_stamp (Own TakeActivation) n = refl
    own_stamp (Own StoreBeat) n = refl
    own_stamp (Own StoreOffline) n = refl

    stamped : (r : Rule) → Can su st r → Stamped (after_answer su st r (Word (answer_word su st r w))) (words_after r a (Open STAMP))
    stamped (Own WriteStamp) can = record { up = λ d. sym (stamp_at w a (or_zero st.boot.read + 1)); read = λ d. absurd (cc) }
    stamped (Own ReadStamp) can = by (ltb (w a (Open STAMP)) 4294967295) where
      same : (x y : ℕ) → Some x ≡ Some y → y ≡ x
      same x y e = cc

      by : (b : Bool) → Stamped (record st { life = cond b st.life Halted; boot = record st.boot { read = Some (w a (Open STAMP)) } }) (w a (Open STAMP))
      by true = record { up = λ d. (let z : Booting ≡ Up = sym can.0 ∙ d in absurd (cc)); read = λ d v e. same (w a (Open STAMP)) v e }
      by false = record { up = λ d. absurd (cc); read = λ d. absurd (cc) }
    stamped (Own ZeroMask) can = record { up = (met.stamps a la).up; read = (met.stamps a la).read }
    stamped (Own ZeroOffline) can = record { up = (met.stamps a la).up; read = (met.stamps a la).read }
    stamped (Own m) can = record { up = (met.stamps a la).up; read = (met.stamps a la).read }
    stamped (Link k d m) can = subst (λ (v : ℕ). Stamped (after_answer su st (Link k d m) (Word (answer_word su st (Link k d m) w))) v) (sym (own_stamp (Link k d m) (λ e. absurd (cc)))) (record { up = (met.stamps a la).up; read = (met.stamps a la).read })
    stamped (ForPeer k m) can = subst (λ (v : ℕ). Stamped (after_answer su st (ForPeer k m) (Word (answer_word su st (ForPeer k m) w))) v) (sym (own_stamp (ForPeer k m) (λ e. absurd (cc)))) (record { up = (met.stamps a la).up; read = (met.stamps a la).read })

    failed_stamped : (r : Rule) → Stamped (after_answer su st r Failed) (w a (Open STAMP))
    failed_stamped (Link k d m) = record { up = (met.stamps a la).up; read = (met.stamps a la).read }
    failed_stamped (ForPeer k m) = record { up = (met.stamps a la).up; read = (met.stamps a la).read }
    failed_stamped (Own m) = record { up = (met.stamps a la).up; read = (met.stamps a la).read }

    pub keeps_rule : (r : Rule) → Can su st r → Met s.count (does_rule su st r w) (at_one σ a (part_ruled su (σ a) r (Word (answer_word su st r w))))
    keeps_rule r can = moved s.count w (does_rule su st r w) σ a (part_ruled su (σ a) r (Word (answer_word su st r w))) met (rule_all su st r (Word (answer_word su st r w)) (met.all a la)) (λ p q lp lq n o. away r p q lp lq n o) (λ q l n. ruled r can q l n) (stamped r can) (λ p n. still r p n)

    failed_ruled : (r : Rule) (q : ℕ) → q < s.count → (q ≡ a → ⊥) → Pair (after_answer su st r Failed).life (peer_of (after_answer su st r Failed) q) (σ q).state.life (peer_of (σ q).state a) (six w a q)
    failed_ruled (Link k d m) q l n =
        let P : Peer → Type 0 = λ p. Pair st.life p (σ q).state.life (peer_of (σ q).state a) (six w a q) in
        at_peer P st.peers k _ q (λ e. subst (λ (j : ℕ). P (peer_of st j)) e (old q l n)) (old q l n)
    failed_ruled (ForPeer k m) q l n =
        let P : Peer → Type 0 = λ p. Pair st.life p (σ q).state.life (peer_of (σ q).state a) (six w a q) in
        at_peer P st.peers k _ q (λ e. subst (λ (j : ℕ). P (peer_failed (here_of su st k).turn (mark_of su st (ForPeer k m)) (peer_of st j))) e (ended_kept (σ q).state.life (peer_of (σ q).state a) (here_of su st k).turn st.life (peer_of st q) (six w a q) (mark_of su st (ForPeer k m)) (old q l n))) (old q l n)
    failed_ruled (Own m) q l n = old q l n

    pub keeps_failed : (r : Rule) → Can su st r → Met s.count w (at_one σ a (part_ruled su (σ a) r Failed))
    keeps_failed r can = moved s.count w w σ a (part_ruled su (σ a) r Failed) met (rule_all su st r Failed (met.all a la)) (λ p q lp lq n o. refl) (λ q l n. failed_ruled r q l n) (failed_stamped r) (λ p n. refl)

    aimed_at : (x : Option Aim) (q : ℕ) → q < s.count → (q ≡ a → ⊥) → Pair (with_aim x st).life (peer_of (with_aim x st) q) (σ q).state.life (peer_of (σ q).state a) (six w a q)
    aimed_at None q l n = old q l n
    aimed_at (Some y) q l n =
        let P : Peer → Type 0 = λ p. Pair st.life p (σ q).state.life (peer_of (σ q).state a) (six w a q) in
        at_peer P st.peers y.partner _ q (λ e. subst (λ (j : ℕ). P (peer_of st j)) e (old q l n)) (old q l n)

    aimed_stamped : (x : Option Aim) → Stamped (with_aim x st) (w a (Open STAMP))
    aimed_stamped None = met.stamps a la
    aimed_stamped (Some y) = record { up = (met.stamps a la).up; read = (met.stamps a la).read }

    wanted_kept : (x : Act) (q : ℕ) → (let y = with_aim (aimed su st x) st in Pair y.life (peer_of y q) (σ q).state.life (peer_of (σ q).state a) (six w a q)) → (let y = after_act su st x in Pair y.life (peer_of y q) (σ q).state.life (peer_of (σ q).state a) (six w a q))
    wanted_kept x q h =
        let y = with_aim (aimed su st x) st in
        wanted_at (λ (p : Peer). Pair y.life p (σ q).state.life (peer_of (σ q).state a) (six w a q)) (command_begun su st x) y.peers q (λ p k. k) (λ p k. k) h

    acted_stamped : (x : Act) → Stamped (after_act su st x) (w a (Open STAMP))
    acted_stamped x = let t = aimed_stamped (aimed su st x) in record { up = t.up; read = t.read }

    pub keeps_act : (x : Act) → Met s.count w (at_one σ a (part_act su (σ a) x))
    keeps_act x = moved s.count w w σ a (part_act su (σ a) x) met (act_all su st x (met.all a la)) (λ p q lp lq n o. refl) (λ q l n. wanted_kept x q (aimed_at (aimed su st x) q l n)) (acted_stamped x) (λ p n. refl)

    boots_by : (life : Life) → is_halted life ≡ false → (lb : Life) (r p : Peer) (z : Six) → Pair life p lb r z → Pair Booting (booted_peer p) lb r z
    boots_by Up d lb r p z h = both_boots _ _ h
    boots_by Booting d lb r p z h = both_again _ _ h refl
    boots_by Halted d lb r p z h = absurd (cc)

    moment_at : (turns : ℕ) (b stops : Bool) → (b ≡ true → is_halted st.life ≡ false) → (q : ℕ) → q < s.count → (q ≡ a → ⊥) → (let y = moment_by su b stops (turned turns st) in Pair y.life (peer_of y q) (σ q).state.life (peer_of (σ q).state a) (six w a q))
    moment_at turns true stops d q l n =
        let P : Peer → Type 0 = λ p. Pair Booting p (σ q).state.life (peer_of (σ q).state a) (six w a q) in
        at_each P (λ j p. booted_peer p) st.peers q (cold_peer Old) (boots_by st.life (d refl) (σ q).state.life (peer_of (σ q).state a) (peer_of st q) (six w a q) (old q l n)) (λ f. absurd (omega (arith, f, l, (met.all a la).partners)))
    moment_at turns false true d q l n = old q l n
    moment_at turns false false d q l n = old q l n

    moment_stamped : (turns : ℕ) (b stops : Bool) → Stamped (moment_by su b stops (turned turns st)) (w a (Open STAMP))
    moment_stamped turns true stops = record { up = λ d. absurd (cc); read = λ d v e. absurd (cc) }
    moment_stamped turns false true = record { up = (met.stamps a la).up; read = (met.stamps a la).read }
    moment_stamped turns false false = record { up = (met.stamps a la).up; read = (met.stamps a la).read }

    -- a partition that restarts hasn't halted
    pub awake : (x y : Bool) (life : Life) → (x && not (y || is_halted life)) ≡ true → is_halted life ≡ false
    awake x y Booting e = refl
    awake x y Up e = refl
    awake true true Halted e = absurd (cc)
    awake true false Halted e = absurd (cc)
    awake false y Halted e = absurd (cc)

    moment_all : (turns : ℕ) (b stops : Bool) → AreAll s.count (moment_by su b stops (turned turns st)).peers
    moment_all turns true stops = cold_all st.peers (met.all a la)
    moment_all turns false true = met.all a la
    moment_all turns false false = met.all a la

    pub keeps_moment : (earlier turns : ℕ) → Met s.count w (at_one σ a (part_moment su earlier turns (σ a)))
    keeps_moment earlier turns =
        let now = turned turns st in
        let b = restart_comes su earlier now && not (is_over now) in
        let stops = stop_comes su earlier now && not (is_over now) in
        moved s.count w w σ a (part_moment su earlier turns (σ a)) met (moment_all turns b stops) (λ p q lp lq n o. refl) (λ q l n. moment_at turns b stops (awake (restart_comes su earlier now) st.stopped st.life) q l n) (moment_stamped turns b stops) (λ p n. refl)
