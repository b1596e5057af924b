-- Each rule, each act and each moment keeps all directions.
use Rattle.std.proofs.Common.{ltb, ◌≡◌, ℕ, ◌+◌, ◌<◌, Bool, true, false, not, ◌&&◌, cond, eqb, List, [], ◌∷◌, ◌++◌, refl, ap, sym, ◌∙◌, subst, Option, Some, None, inl, inr, ◌⊎◌, arith, ◌||◌}
use Rattle.std.specs.Prelude.{is_some, slice_get, slice_index, ◌-◌}
use Rattle.xp_base.specs.declared.step.Answer.{Answer}
use Rattle.xp_base.specs.declared.step.Answer.TheVariants.{Word, Failed}
use Rattle.xp_base.specs.declared.reason.Reason.{Reason}
use Rattle.xp_base.specs.declared.reason.Reason.TheVariants.{OtherGoingDown, BadFlags, Unloading}
use Rattle.xp_base.specs.declared.step.OpKind.TheVariants.{Store, Take as TakeWord, Or}
use Rattle.xp_base.specs.declared.step.CopyMark.{CopyMark}
use Rattle.xp_base.specs.declared.link.Kind.{Kind}
use Rattle.xp_base.specs.Entries.{message_word}
use Rattle.xp_base.specs.Kinds.{kinds_in, spare_in, flag, IsFlagWord}
use Rattle.xp_base.proofs.KindLemmas.{IsFlagWord-set}
use Rattle.std.proofs.Common.{zero, suc, bit_or, ◌^◌}
use Rattle.std.proofs.lemmas.Bool.{eq-eqb, eqb-true, and_parts, lt-ltb}
use Rattle.xp_base.specs.Places.{Place, Record, Open as OpenWord, Counter, Entry, Flag, Args, index_of}
use Rattle.xp_base.specs.History.{Act, Begun, Answered, Noticed}
use Rattle.xp_script.specs.declared.command.Command.{Command}
use Rattle.xp_script.specs.declared.command.Command.TheVariants.{Send as SendCommand, Take, Release, Drain, Register, Unregister}
use Rattle.xp_script.specs.declared.command.Command.TheVariants as commands
use Rattle.xp_protocol.specs.declared.rule.RingRule.TheVariants.{ReadGet, WriteEntryWord, AcceptMessage}
use Rattle.xp_protocol.specs.declared.rule.PullRule.TheVariants.{ReadCounters, ReadEntry}
use Rattle.xp_protocol.specs.declared.rule.LinkRule.{LinkRule}
use Rattle.xp_protocol.specs.declared.rule.LinkRule.TheVariants.{Ring, Pull, Acknowledge, SetFlag, ZeroGet, ZeroPut, StoreArgument, ReadArgument}
use Rattle.xp_protocol.specs.declared.rule.AreaWord.TheVariants.{SessionWord, EchoWord, PlaceWord, ArgsWord, FlagWord, CounterWord}
use Rattle.xp_protocol.specs.declared.rule.Argument.{Argument}
use Rattle.xp_protocol.specs.declared.rule.Argument.TheVariants.{Request, Reply, Code}
use Rattle.xp_protocol.specs.declared.rule.AreaWord.{AreaWord}
use Rattle.xp_protocol.specs.declared.rule.PeerRule.{PeerRule}
use Rattle.xp_protocol.specs.declared.rule.PeerRule.TheVariants.{AskActivation, TakeFlags, CloseArea, ZeroMagic, ClearOldBit, Prepare, OpenArea, SetEngagementBit, ReadRecord, StoreEcho, StoreSecond, ClearEngagementBit, LookAtPage, CheckBeat, ClearDeactivationBit, TellPartner}
use Rattle.xp_protocol.specs.declared.rule.OwnRule.TheVariants.{ReadEngaged, TakeDeactivation, ReadStamp, ZeroMask, ZeroOffline, WriteStamp, StoreMask, TakeActivation, StoreBeat, StoreOffline}
use Rattle.xp_protocol.specs.declared.rule.Rule.{Rule}
use Rattle.xp_protocol.specs.declared.rule.Rule.TheVariants.{Link, Peer as ForPeer, Own}
use Rattle.xp_script.specs.declared.part.ScenarioPart.{ScenarioPart}
use Rattle.xp_script.specs.declared.scenario.Scenario.{Scenario}
use Rattle.xp_protocol.specs.Parts.{script_in, IsLawfulPart, IsLawfulCommand}
use Rattle.xp_script.specs.Parts.{part_of}
use Rattle.xp_protocol.specs.Promised.{IsUnrefused}
use Rattle.xp_protocol.specs.Effects.{Effect, Note, with_notes}
use Rattle.xp_protocol.specs.Sending.{payload_of, next_slot}
use Rattle.xp_protocol.specs.Pulling.{counters_word}
use Rattle.xp_protocol.specs.State.{Reading, State, End, Contact, Old, link_at, end_of, peer_of, Peer, Watch}
use Rattle.xp_protocol.specs.Linking.{argument_word, argument_field, link_can, link_effect, flags_got, link_down}
use Rattle.xp_protocol.specs.Peering.{is_ready, last_read, Here, left_engage, is_wrong, failed_reason, look_reason, judged, has_shown, fails_for, field_number, say_reason, end_reason, with_flags, watch_reason, beat_reason, is_still}
use Rattle.xp_protocol.specs.State.{set_link}
use Rattle.xp_protocol.specs.Rules.{numbered}
use Rattle.xp_protocol.specs.declared.contact.Look.{Look}
use Rattle.xp_protocol.specs.declared.contact.Look.TheVariants.{Unseen, Good as GoodLook, Absent, BadVersion}
use Rattle.xp_protocol.specs.declared.rule.RecordField.{RecordField}
use Rattle.xp_protocol.specs.declared.rule.RecordField.TheVariants.{ArgsPlace, CountersPlace, FlagPlace, ChannelCount, Spare}
use Rattle.xp_base.specs.declared.reason.Reason.TheVariants.{BadArgs, NoHeartbeat, Reactivating, CopyError}
use Rattle.xp_base.specs.Sessions.{session_of}
use Rattle.xp_protocol.specs.Peering.{links_reason, try_contact, contact_made, record_read, read_place, is_magic, first_magic, second_magic, is_flagged, is_left, area_left_for, area_off, same_peer, peer_effect, peer_read, deactivation_heard, with_reason, is_bad_flags, flags_taken}
use Rattle.std.proofs.lemmas.Bool.{cond_both, cases_eq}
use Rattle.xp_protocol.specs.Rules.{copy_error, Can, mark_of, place_for, link_answered, after_answer, noted_rule}
use Rattle.xp_protocol.specs.Acts.{Aim, MayAct, after_act, command_begun, state_unwanted, upcoming, current, aimed, aim_of, aim_by, EndName, named_end, with_aim, noted_aim, end_begun, end_answered, end_noticed}
use Rattle.xp_protocol.specs.Runs.{turned as turned_at, restart_comes, stop_comes, moment_by, is_over, is_halted}
use Rattle.xp_protocol.proofs.Lawful.{lawful_command}
use Rattle.xp_protocol.proofs.Named.{IsNamed, named_low}
use Rattle.xp_protocol.proofs.Frames.{links_framed, link_frame, peer_frame, aim_frame, wanted_at}
use Rattle.xp_meetings.proofs.Words.{Words, does}
use Rattle.xp_meetings.proofs.Parts.{Part, part_act, part_ruled, part_moment}
use Rattle.xp_meetings.proofs.Always.{at_one, does_rule, answer_word}
use Rattle.xp_promises.proofs.Rests.{Data}
use Rattle.xp_promises.proofs.Lines.{IsMagical, first_clean, Area, five, data_at, sheet_at, area_at, quiet, Fine, Step, in_contact, calm_contact, ring_contact, Good, moved}
use Rattle.xp_promises.proofs.FlagEnds.{no_kinds as no_five}
use Rattle.xp_promises.proofs.Peers.{LineOf, Wrote, peer_line, free_line, told_line, failed_line, boot_line, up_line, halt_line}
use Rattle.xp_meetings.proofs.Ties.{known, stamp_by}
use Rattle.xp_meetings.proofs.Both.{Side}
use Rattle.xp_meetings.proofs.Six.{Six, six, six_stamp}
use Rattle.xp_meetings.proofs.Touch.{IsWaiting}
use Rattle.xp_meetings.proofs.Meets.{left, right, six_after, Loads, can_numbered, loads_numbered, peer_cases, peer_else, peer_six, peer_loads, link_six, awake}
use Rattle.xp_meetings.proofs.Meets.{away as away_six, keeps_rule as met_rule, keeps_failed as met_failed, keeps_act as met_act, keeps_moment as met_moment}
use Rattle.xp_protocol.proofs.Slots.{at_peer, at_each}
use Rattle.std.proofs.lemmas.Bool.{ne_eqb}
use Rattle.std.specs.Int.{bit_at}
use Rattle.std.specs.Prelude.{◌≤◌}
use Rattle.std.specs.Prelude.{IsSome, length}
use Rattle.xp_protocol.specs.State.{Life, Booting, Up, Halted, cold_peer}
use Rattle.xp_protocol.specs.Peering.{booted_peer, peer_failed, or_zero}
use Rattle.xp_protocol.specs.Rules.{here_of, peer_numbered, peer_answered}
use Rattle.xp_promises.proofs.Fields.{RightAt, Right, Stands, map_stands, not_wrong, low_store, place_store, magic_store, prepared_all, peer_stands, numbered_stands, failed_stands, freed_stands, told_stands, booted_stands}
use Rattle.xp_promises.proofs.Steps.{Open, open_connected, open_copy, ringed, read_get, write_word, accept, read_counters, read_entry, acknowledge, load_failed, answers, notices}
use Rattle.xp_promises.proofs.Shakes.{flagged, unflagged, flag_sends, flag_said, takes_flags, zeroes_put, zeroes_get, takes_clean, down_clean, sheeted, stored_sheet, stores, IsLoaded, reads}
use Rattle.xp_promises.proofs.Places.{Other, put_here, get_here, entry_here, counter_other, entry_other, area_here, area_same, area_far, flag_here, flag_channel, flag_owner, flag_partner, taken_here, taken_else, with_sheet, sheet_here, sheet_other}
use Rattle.xp_promises.proofs.Registers.{HasBytes, begins}

-- the same step, its words told in another form
shift : (x y x' y' x'' y'' : Area) (q c : ℕ) (e : End) (f : Effect End (List Note)) → x'' ≡ x' → y'' ≡ y' → Step x y x' y' q c e f → Step x y x'' y'' q c e f
shift x y x' y' x'' y'' q c e f i j step = subst (λ (v : Area). Step x y v y'' q c e f) (sym i) (subst (λ (v : Area). Step x y x' v q c e f) (sym j) step)

-- words of flags, after one is set and after all are taken
pub zero_word : IsFlagWord 0
zero_word = record { within = omega arith; spare = spare } where
  spare : (c : ℕ) → c < 4 → spare_in 0 c ≡ 0
  spare zero l = refl
  spare (suc zero) l = refl
  spare (suc (suc zero)) l = refl
  spare (suc (suc (suc zero))) l = refl
  spare (suc (suc (suc (suc c)))) l = absurd (omega (arith, l))

taken_word : (w : Words) (a k p q : ℕ) → IsFlagWord (w p (Flag q)) → IsFlagWord (does TakeWord a (Flag k) w p (Flag q))
taken_word w a k p q h = cond_both (eqb k q && eqb a p) 0 (w p (Flag q)) IsFlagWord (λ e. zero_word) (λ e. h)

flagged_word : (w : Words) (a k d : ℕ) (j : Kind) → d < 4 → (p q : ℕ) → IsFlagWord (w p (Flag q)) → IsFlagWord (does (Or (flag d j)) k (Flag a) w p (Flag q))
flagged_word w a k d j low p q h = cond_both (eqb a q && eqb k p) (bit_or (w k (Flag a)) (flag d j)) (w p (Flag q)) IsFlagWord (λ e. here e) (λ e. h) where
  here : (eqb a q && eqb k p) ≡ true → IsFlagWord (bit_or (w k (Flag a)) (flag d j))
  here e =
      let z = and_parts (eqb a q) (eqb k p) e in
      let i = eqb-true a q z.0 in
      let o = eqb-true k p z.1 in
      IsFlagWord-set (w k (Flag a)) d j low (subst (λ (y : ℕ). IsFlagWord (w k (Flag y))) (sym i) (subst (λ (y : ℕ). IsFlagWord (w y (Flag q))) (sym o) h))

unspoilt : (v : ℕ) → IsFlagWord v → is_bad_flags v ≡ false
unspoilt v h = rw (lt-ltb v (2 ^ 32) h.within, eq-eqb (spare_in v 0) 0 (h.spare 0 (omega arith)), eq-eqb (spare_in v 1) 0 (h.spare 1 (omega arith)), eq-eqb (spare_in v 2) 0 (h.spare 2 (omega arith)), eq-eqb (spare_in v 3) 0 (h.spare 3 (omega arith))) refl

module _ (s : Scenario) (lawful : (p : ℕ) → p < s.count → IsLawfulPart (part_of s p))
    (line : ℕ → ℕ → ℕ → Type 0) (mirror : (p q c : ℕ) → line p q c → line q p c) (apart : (p q c : ℕ) → line p q c → p ≡ q → ⊥) (low : (p q c : ℕ) → line p q c → (q < s.count) × (c < 4)) (bound : (p q c : ℕ) → line p q c → (p < s.count) × (q < s.count))
    (each_line : (p q c : ℕ) → p < s.count → q < s.count → (p ≡ q → ⊥) → c < 4 → line p q c) where
  module _ (w : Words) (σ : ℕ → Part) (a : ℕ) (la : a < s.count) (good : Good s.count line mirror apart bound w σ) where
    abbrev su : ScenarioPart
    su = part_of s a

    abbrev st : State
    st = (σ a).state

    abbrev words_after : Rule → Words
    words_after r = does_rule su st r w

    abbrev mine : ℕ → ℕ → Area
    mine q c = area_at (w a) q c

    abbrev theirs : ℕ → ℕ → Area
    theirs q c = area_at (w q) a c

    -- a step at one end: what its word is, and what it leaves of the words
    abbrev LinkStep : ℕ → ℕ → LinkRule → Type 0
    LinkStep q c m = let r = Link q c m in Step (mine q c) (theirs q c) (area_at (words_after r a) q c) (area_at (words_after r q) a c) q c (end_of st q c) (link_answered (mark_of su st r) (place_for su c) (end_of st q c) m (Word (answer_word su st r w)))

    -- a store in the own words that a direction reads
    stored : (q c : ℕ) (m : LinkRule) (pl : Place) (v : ℕ) (d : Data) → (q ≡ a → ⊥) → data_at (does (Store v) a pl w a) q c ≡ d → does (Store v) a pl w a (Flag q) ≡ w a (Flag q) → sheet_at (does (Store v) a pl w a) q c ≡ sheet_at (w a) q c → (f : Effect End (List Note)) →
        Step (mine q c) (theirs q c) (ringed (mine q c) d) (theirs q c) q c (end_of st q c) f → Step (mine q c) (theirs q c) (area_at (does (Store v) a pl w a) q c) (area_at (does (Store v) a pl w q) a c) q c (end_of st q c) f
    stored q c m pl v d n e g s f step = shift (mine q c) (theirs q c) (ringed (mine q c) d) (theirs q c) (area_at (does (Store v) a pl w a) q c) (area_at (does (Store v) a pl w q) a c) q c (end_of st q c) f (area_here w a q c (does (Store v) a pl w a) d e g s) (area_far w (Store v) a pl q a c n) step

    link_here : (q c : ℕ) (m : LinkRule) → (q ≡ a → ⊥) → link_can (end_of st q c) m → LinkStep q c m
    link_here q c (Ring ReadGet) n h = let o = open_connected (mine q c) (theirs q c) (end_of st q c) h.0 in calm_contact _ _ q c (end_of st q c) _ o.on (read_get (mine q c) (theirs q c) q c (end_of st q c) o)
    link_here q c (Ring (WriteEntryWord f)) n h =
        let e = end_of st q c in
        let o = open_connected (mine q c) (theirs q c) e h.0 in
        let v = message_word e.sides.send.put (payload_of e.sides.send.send) f in
        stored q c (Ring (WriteEntryWord f)) (Entry q c (next_slot e.sides.send + f)) v _ n (entry_here w a q c (next_slot e.sides.send + f) v) refl refl (link_effect (place_for su c) e (Ring (WriteEntryWord f)) 0)
        (ring_contact (mine q c) (theirs q c) _ q c e (link_effect (place_for su c) e (Ring (WriteEntryWord f)) 0) o.on (write_word (mine q c) (theirs q c) q c e o f h.1.3 h.1.1))
    link_here q c (Ring AcceptMessage) n h =
        let e = end_of st q c in
        let o = open_connected (mine q c) (theirs q c) e h.0 in
        stored q c (Ring AcceptMessage) (Counter q c 1) (e.sides.send.put + 1) _ n (put_here w a q c (e.sides.send.put + 1)) refl refl (link_effect (place_for su c) e (Ring AcceptMessage) 0)
        (ring_contact (mine q c) (theirs q c) _ q c e (link_effect (place_for su c) e (Ring AcceptMessage) 0) o.on (accept (mine q c) (theirs q c) q c e o h.1.1))
    link_here q c (Pull ReadCounters) n h =
        let e = end_of st q c in
        let mark = mark_of su st (Link q c (Pull ReadCounters)) in
        let o = open_copy (mine q c) (theirs q c) e h.0 in
        let new = read_counters (mine q c) (theirs q c) q c e o e.sides.pull.counters (answer_word su st (Link q c (Pull ReadCounters)) w)
        (λ d. ap (λ (y : Option ℕ). w q (Counter a c (counters_word y))) d) (λ g d. ap (λ (y : Option ℕ). w q (Counter a c (counters_word y))) d) in
        calm_contact _ _ q c e _ o.on (record { by = λ u v rs ss b l. new.by u v rs ss b (record { meet = l.meet; their_meet = l.their_meet; flags = l.flags; rest = l.rest; argued = l.argued }) })
    link_here q c (Pull ReadEntry) n h =
        let e = end_of st q c in
        let mark = mark_of su st (Link q c (Pull ReadEntry)) in
        let o = open_copy (mine q c) (theirs q c) e h.0 in
        let new = read_entry (mine q c) (theirs q c) q c e o h.1.0 h.1.2 in
        calm_contact _ _ q c e _ o.on (record { by = λ u v rs ss b l. new.by u v rs ss b (record { meet = l.meet; their_meet = l.their_meet; flags = l.flags; rest = l.rest; argued = l.argued }) })
    link_here q c Acknowledge n h =
        let e = end_of st q c in
        let o = open_connected (mine q c) (theirs q c) e h.0 in
        stored q c Acknowledge (Counter q c 0) e.sides.ack.front _ n (get_here w a q c e.sides.ack.front) refl refl (link_effect (place_for su c) e Acknowledge 0)
        (ring_contact (mine q c) (theirs q c) _ q c e (link_effect (place_for su c) e Acknowledge 0) o.on (acknowledge (mine q c) (theirs q c) q c e o))
    link_here q c (SetFlag k) n h =
        let e = end_of st q c in
        shift (mine q c) (theirs q c) (mine q c) (flagged (theirs q c) k) _ _ q c e (link_effect (place_for su c) e (SetFlag k) 0) (flag_owner w a q c k a q c n) (flag_here w a q c k)
        (in_contact (mine q c) (theirs q c) (mine q c) (flagged (theirs q c) k) q c e (link_effect (place_for su c) e (SetFlag k) 0) h.0 (flag_sends (mine q c) (theirs q c) q c e k h.1 h.2) (λ d. d) (λ u v rs ss b l. flag_said (mine q c) (theirs q c) q c e k u v rs ss b l))
    link_here q c ZeroGet n h =
        let e = end_of st q c in
        stored q c ZeroGet (Counter q c 0) 0 _ n (get_here w a q c 0) refl refl (link_effect (place_for su c) e ZeroGet 0) (ring_contact (mine q c) (theirs q c) _ q c e (link_effect (place_for su c) e ZeroGet 0) h.0 (zeroes_get (mine q c) (theirs q c) q c e h.2))
    link_here q c ZeroPut n h =
        let e = end_of st q c in
        stored q c ZeroPut (Counter q c 1) 0 _ n (put_here w a q c 0) refl refl (link_effect (place_for su c) e ZeroPut 0) (ring_contact (mine q c) (theirs q c) _ q c e (link_effect (place_for su c) e ZeroPut 0) h.0 (zeroes_put (mine q c) (theirs q c) q c e h.2))
    link_here q c (StoreArgument k) n h =
        let e = end_of st q c in
        let v = argument_word q c e k in
        let z = stored_sheet k e (mine q c).sheet in
        shift (mine q c) (theirs q c) (sheeted (mine q c) z) (theirs q c) _ _ q c e (link_effect (place_for su c) e (StoreArgument k) 0) (sheet_here w a q c k v ∙ same q c k) (area_far w (Store v) a (Args q c (argument_field k)) q a c n)
        (in_contact (mine q c) (theirs q c) (sheeted (mine q c) z) (theirs q c) q c e (link_effect (place_for su c) e (StoreArgument k) 0) h.0 (stores (mine q c) (theirs q c) q c e k h.1) (λ d. d) (λ u v rs ss b l. inl (λ d. d)))
      where
        same : (q c : ℕ) (k : Argument) → record (mine q c) { sheet = with_sheet k q c (argument_word q c (end_of st q c) k) (mine q c).sheet } ≡ sheeted (mine q c) (stored_sheet k (end_of st q c) (mine q c).sheet)
        same q c Request = refl
        same q c Reply = let x = eq-eqb (index_of (Entry q c 0)) (index_of (Entry q c 0)) refl in λ i. sheeted (mine q c) (record (mine q c).sheet { reply = x i })
        same q c Code = refl
    link_here q c (ReadArgument k) n h =
        let e = end_of st q c in
        calm_contact (mine q c) (theirs q c) q c e _ h.0 (reads (mine q c) (theirs q c) q c e k (place_for su c) (answer_word su st (Link q c (ReadArgument k)) w) (is q c k) h.1)
      where
        is : (q c : ℕ) (k : Argument) → IsLoaded k (theirs q c) (place_for su c) (answer_word su st (Link q c (ReadArgument k)) w)
        is q c Request = refl
        is q c Reply = refl
        is q c Code = refl

    -- the words of another end
    link_mine : (k d : ℕ) (m : LinkRule) (q c : ℕ) → (k ≡ a → ⊥) → Other k d q c → area_at (words_after (Link k d m) a) q c ≡ mine q c
    link_mine k d (Ring ReadGet) q c n o = refl
    link_mine k d (Ring (WriteEntryWord f)) q c n o = area_same (words_after (Link k d (Ring (WriteEntryWord f))) a) (w a) q c (entry_other w a k d (next_slot (end_of st k d).sides.send + f) (message_word (end_of st k d).sides.send.put (payload_of (end_of st k d).sides.send.send) f) q c o) refl refl
    link_mine k d (Ring AcceptMessage) q c n o = area_same (words_after (Link k d (Ring AcceptMessage)) a) (w a) q c (counter_other w a k d 1 ((end_of st k d).sides.send.put + 1) q c o) refl refl
    link_mine k d (Pull ReadCounters) q c n o = refl
    link_mine k d (Pull ReadEntry) q c n o = refl
    link_mine k d Acknowledge q c n o = area_same (words_after (Link k d Acknowledge) a) (w a) q c (counter_other w a k d 0 (end_of st k d).sides.ack.front q c o) refl refl
    link_mine k d (SetFlag j) q c n o = flag_owner w a k d j a q c n
    link_mine k d ZeroGet q c n o = area_same (words_after (Link k d ZeroGet) a) (w a) q c (counter_other w a k d 0 0 q c o) refl refl
    link_mine k d ZeroPut q c n o = area_same (words_after (Link k d ZeroPut) a) (w a) q c (counter_other w a k d 1 0 q c o) refl refl
    link_mine k d (StoreArgument x) q c n o = sheet_other w a k d (argument_field x) (argument_word k d (end_of st k d) x) q c o
    link_mine k d (ReadArgument x) q c n o = refl

    flags_theirs : (k d : ℕ) (j : Kind) (q c : ℕ) → Other k d q c → (k ≡ q) ⊎ (k ≡ q → ⊥) → area_at (words_after (Link k d (SetFlag j)) q) a c ≡ theirs q c
    flags_theirs k d j q c o (inr n) = flag_owner w a k d j q a c n
    flags_theirs k d j q c o (inl e) = subst (λ (x : ℕ). area_at (words_after (Link k d (SetFlag j)) x) a c ≡ theirs x c) e (flag_channel w a k d j c (λ f. o e (sym f)))

    link_theirs : (k d : ℕ) (m : LinkRule) (q c : ℕ) → (q ≡ a → ⊥) → Other k d q c → area_at (words_after (Link k d m) q) a c ≡ theirs q c
    link_theirs k d (Ring ReadGet) q c n o = refl
    link_theirs k d (Ring (WriteEntryWord f)) q c n o = area_far w (Store _) a (Entry k d _) q a c n
    link_theirs k d (Ring AcceptMessage) q c n o = area_far w (Store _) a (Counter k d 1) q a c n
    link_theirs k d (Pull ReadCounters) q c n o = refl
    link_theirs k d (Pull ReadEntry) q c n o = refl
    link_theirs k d Acknowledge q c n o = area_far w (Store _) a (Counter k d 0) q a c n
    link_theirs k d (SetFlag j) q c n o = flags_theirs k d j q c o (cases_eq k q)
    link_theirs k d ZeroGet q c n o = area_far w (Store 0) a (Counter k d 0) q a c n
    link_theirs k d ZeroPut q c n o = area_far w (Store 0) a (Counter k d 1) q a c n
    link_theirs k d (StoreArgument x) q c n o = area_far w (Store _) a (Args k d (argument_field x)) q a c n
    link_theirs k d (ReadArgument x) q c n o = refl

    -- the words of lines that a has no part in
    away : (r : Rule) (p q c : ℕ) → (p ≡ a → ⊥) → (q ≡ a → ⊥) → area_at (words_after r p) q c ≡ area_at (w p) q c
    away (Link k d (Ring ReadGet)) p q c n o = refl
    away (Link k d (Ring (WriteEntryWord f))) p q c n o = area_far w (Store _) a (Entry k d _) p q c n
    away (Link k d (Ring AcceptMessage)) p q c n o = area_far w (Store _) a (Counter k d 1) p q c n
    away (Link k d (Pull ReadCounters)) p q c n o = refl
    away (Link k d (Pull ReadEntry)) p q c n o = refl
    away (Link k d Acknowledge) p q c n o = area_far w (Store _) a (Counter k d 0) p q c n
    away (Link k d (SetFlag j)) p q c n o = flag_partner w a k d j p q c (λ e. o (sym e))
    away (Link k d ZeroGet) p q c n o = area_far w (Store 0) a (Counter k d 0) p q c n
    away (Link k d ZeroPut) p q c n o = area_far w (Store 0) a (Counter k d 1) p q c n
    away (Link k d (StoreArgument x)) p q c n o = area_far w (Store _) a (Args k d (argument_field x)) p q c n
    away (Link k d (ReadArgument x)) p q c n o = refl
    away (ForPeer k AskActivation) p q c n o = refl
    away (ForPeer k TakeFlags) p q c n o = area_far w TakeWord a (Flag k) p q c n
    away (ForPeer k CloseArea) p q c n o = refl
    away (ForPeer k ZeroMagic) p q c n o = refl
    away (ForPeer k ClearOldBit) p q c n o = refl
    away (ForPeer k (Prepare SessionWord)) p q c n o = refl
    away (ForPeer k (Prepare EchoWord)) p q c n o = refl
    away (ForPeer k (Prepare (PlaceWord x))) p q c n o = refl
    away (ForPeer k (Prepare FlagWord)) p q c n o = area_far w (Store 0) a (Flag k) p q c n
    away (ForPeer k (Prepare (CounterWord d f))) p q c n o = area_far w (Store 0) a (Counter k d f) p q c n
    away (ForPeer k (Prepare (ArgsWord d f))) p q c n o = area_far w (Store 0) a (Args k d f) p q c n
    away (ForPeer k OpenArea) p q c n o = refl
    away (ForPeer k SetEngagementBit) p q c n o = refl
    away (ForPeer k ReadRecord) p q c n o = refl
    away (ForPeer k StoreEcho) p q c n o = refl
    away (ForPeer k StoreSecond) p q c n o = refl
    away (ForPeer k ClearEngagementBit) p q c n o = refl
    away (ForPeer k LookAtPage) p q c n o = refl
    away (ForPeer k CheckBeat) p q c n o = refl
    away (ForPeer k ClearDeactivationBit) p q c n o = refl
    away (ForPeer k TellPartner) p q c n o = refl
    away (Own ReadEngaged) p q c n o = refl
    away (Own TakeDeactivation) p q c n o = refl
    away (Own WriteStamp) p q c n o = refl
    away (Own ReadStamp) p q c n o = refl
    away (Own ZeroMask) p q c n o = refl
    away (Own ZeroOffline) p q c n o = refl
    away (Own StoreMask) p q c n o = refl
    away (Own TakeActivation) p q c n o = refl
    away (Own StoreBeat) p q c n o = refl
    away (Own StoreOffline) p q c n o = refl

    -- how a and another stand to each other
    abbrev my_side : ℕ → Side
    my_side q = left st.life (peer_of st q) (six w a q)

    abbrev their_side : ℕ → Side
    their_side q = right (σ q).state.life (peer_of (σ q).state a) (six w a q)

    -- what becomes of an end keeps it, with its words as they are
    abbrev Stays : ℕ → ℕ → End → List Note → Type 0
    Stays q c e ns = Fine (my_side q) (their_side q) (mine q c) (theirs q c) (with_notes q c ns ((σ a).books q c)) ((σ q).books a c) e (end_of (σ q).state a c)

    stays_by : (k c : ℕ) → line a k c → (f : Effect End (List Note)) → Step (mine k c) (theirs k c) (mine k c) (theirs k c) k c (end_of st k c) f → Stays k c f.local f.notes
    stays_by k c l f step = step.by (my_side k) (their_side k) ((σ a).books k c) ((σ k).books a c) (end_of (σ k).state a c) (good.fine a k c l)

    far_of : (q c : ℕ) → line a q c → q ≡ a → ⊥
    far_of q c l e = apart a q c l (sym e)

    -- what a rule does to the ends of a's lines
    abbrev After : Rule → Answer → Words → ℕ → ℕ → Type 0
    After r x v q c = Fine (left (after_answer su st r x).life (peer_of (after_answer su st r x) q) (six v a q)) (right (σ q).state.life (peer_of (σ q).state a) (six v a q)) (area_at (v a) q c) (area_at (v q) a c) (with_notes q c (noted_rule su st r x q c) ((σ a).books q c)) ((σ q).books a c) (end_of (after_answer su st r x) q c) (end_of (σ q).state a c)

    -- the same where the two stand to each other as they did
    abbrev Kept : Rule → Answer → Words → ℕ → ℕ → Type 0
    Kept r x v q c = Fine (my_side q) (their_side q) (area_at (v a) q c) (area_at (v q) a c) (with_notes q c (noted_rule su st r x q c) ((σ a).books q c)) ((σ q).books a c) (end_of (after_answer su st r x) q c) (end_of (σ q).state a c)

    lifted : (r : Rule) (x : Answer) (v : Words) (q c : ℕ) → left (after_answer su st r x).life (peer_of (after_answer su st r x) q) (six w a q) ≡ my_side q → six v a q ≡ six w a q → Kept r x v q c → After r x v q c
    lifted r x v q c e f h =
        let B : Side → Six → Type 0 = λ i z. Fine i (right (σ q).state.life (peer_of (σ q).state a) z) (area_at (v a) q c) (area_at (v q) a c) (with_notes q c (noted_rule su st r x q c) ((σ a).books q c)) ((σ q).books a c) (end_of (after_answer su st r x) q c) (end_of (σ q).state a c) in
        subst (λ (z : Six). B (left (after_answer su st r x).life (peer_of (after_answer su st r x) q) z) z) (sym f) (subst (λ (i : Side). B i (six w a q)) (sym e) h)

    link_side : (k d : ℕ) (m : LinkRule) (x : Answer) (q : ℕ) → left (after_answer su st (Link k d m) x).life (peer_of (after_answer su st (Link k d m) x) q) (six w a q) ≡ my_side q
    link_side k d m x q = at_peer (λ (p : Peer). left st.life p (six w a q) ≡ my_side q) st.peers k _ q (λ e. ap (λ (j : ℕ). left st.life (peer_of st j) (six w a q)) (sym e)) refl

    linked : (k d : ℕ) (m : LinkRule) → Can su st (Link k d m) → (q c : ℕ) → line a q c → Kept (Link k d m) (Word (answer_word su st (Link k d m) w)) (words_after (Link k d m)) q c
    linked k d m can q c l =
        let r = Link k d m in
        let f = link_answered (mark_of su st r) (place_for su d) (end_of st k d) m (Word (answer_word su st r w)) in
        let Q : ℕ → ℕ → Type 0 = λ j i. line a j i → Fine (my_side j) (their_side j) (area_at (words_after r a) j i) (area_at (words_after r j) a i) (with_notes j i f.notes ((σ a).books j i)) ((σ j).books a i) f.local (end_of (σ j).state a i) in
        let own : Q k d = λ i. (link_here k d m (far_of k d i) can.1.1).by (my_side k) (their_side k) ((σ a).books k d) ((σ k).books a d) (end_of (σ k).state a d) (good.fine a k d i) in
        let R : End → List Note → Type 0 = λ e ns. Fine (my_side q) (their_side q) (area_at (words_after r a) q c) (area_at (words_after r q) a c) (with_notes q c ns ((σ a).books q c)) ((σ q).books a c) e (end_of (σ q).state a c) in
        link_frame R su st k d m (Word (answer_word su st r w)) q c (good.met.all a la) can.1.0.peer.0 can.1.0.peer.2
        (λ e g. subst (λ (j : ℕ). Q j c) e (subst (λ (i : ℕ). Q k i) g own) l)
        (λ o. subst (λ (x : Area). Fine (my_side q) (their_side q) x (area_at (words_after r q) a c) ((σ a).books q c) ((σ q).books a c) (end_of st q c) (end_of (σ q).state a c)) (sym (link_mine k d m q c can.1.0.peer.1 o))
        (subst (λ (y : Area). Fine (my_side q) (their_side q) (mine q c) y ((σ a).books q c) ((σ q).books a c) (end_of st q c) (end_of (σ q).state a c)) (sym (link_theirs k d m q c (far_of q c l) o)) (good.fine a q c l)))

    busy : (k : ℕ) → IsSome (peer_of st k).contact → IsWaiting (my_side k) → ⊥
    busy k h z = none (peer_of st k).contact h z.alone where
      none : (o : Option Contact) → IsSome o → o ≡ None → ⊥
      none None h e = absurd (cc)
      none (Some m) h e = absurd (cc)

    took : (k : ℕ) → Can su st (ForPeer k TakeFlags) → (q c : ℕ) → line a q c → Kept (ForPeer k TakeFlags) (Word (answer_word su st (ForPeer k TakeFlags) w)) (words_after (ForPeer k TakeFlags)) q c
    took k can q c l =
        let r = ForPeer k TakeFlags in
        let v = answer_word su st r w in
        let f = peer_effect (here_of su st k) (peer_of st k) TakeFlags v in
        let R : ℕ → End → List Note → Type 0 = λ j e ns. Fine (my_side j) (their_side j) (area_at (words_after r a) j c) (area_at (words_after r j) a c) (with_notes j c ns ((σ a).books j c)) ((σ j).books a c) e (end_of (σ j).state a c) in
        let by : ℕ → End → Effect End (List Note) = λ d e. flags_got (kinds_in v d) e in
        let P : line a k c → Bool → Type 0 = λ i z. let g : Effect Peer (ℕ → List Note) = cond z (record { local = peer_of st k; reason = Some (BadFlags v); notes = λ c. [] }) (flags_taken v (peer_of st k)) in R k (link_at g.local.links c) (g.notes c) in
        let T : Area → Area → Type 0 = λ x y. (i : line a k c) → Fine (my_side k) (their_side k) x y (with_notes k c (by c (end_of st k c)).notes ((σ a).books k c)) ((σ k).books a c) (by c (end_of st k c)).local (end_of (σ k).state a c) in
        let step : T (area_at (words_after r a) k c) (area_at (words_after r k) a c) = λ i. (subst (λ (x : Area). T x (area_at (words_after r k) a c)) (sym (taken_here w a k c)) (subst (λ (y : Area). T (unflagged (mine k c)) y) (sym (area_far w TakeWord a (Flag k) k a c (far_of k c i))) (λ i. takes_flags (mine k c) (theirs k c) k c (end_of st k c) (my_side k) (their_side k) (λ z. busy k can.1.1.0 z) ((σ a).books k c) ((σ k).books a c) (end_of (σ k).state a c) (good.fine a k c i)))) i in
        peer_frame (R q) su st k TakeFlags (Word v) q c (good.met.all a la) can.1.0.low
        (λ e. subst (λ (j : ℕ). line a j c → R j (link_at f.local.links c) (f.notes c)) e (λ i. subst (P i) (sym (unspoilt v (good.words a k c i))) (links_framed (R k) by (peer_of st k) c ((good.met.all a la).channels k) (low a k c i).1 (step i))) l)
        (λ o. subst (λ (x : Area). Fine (my_side q) (their_side q) x (area_at (words_after r q) a c) ((σ a).books q c) ((σ q).books a c) (end_of st q c) (end_of (σ q).state a c)) (sym (taken_else w a k q c o))
        (subst (λ (y : Area). Fine (my_side q) (their_side q) (mine q c) y ((σ a).books q c) ((σ q).books a c) (end_of st q c) (end_of (σ q).state a c)) (sym (area_far w TakeWord a (Flag k) q a c (far_of q c l))) (good.fine a q c l)))

    take_side : (k : ℕ) (v q : ℕ) → left (after_answer su st (ForPeer k TakeFlags) (Word v)).life (peer_of (after_answer su st (ForPeer k TakeFlags) (Word v)) q) (six w a q) ≡ my_side q
    take_side k v q = at_peer (λ (p : Peer). left st.life p (six w a q) ≡ my_side q) st.peers k _ q (λ e. by (is_bad_flags v) ∙ ap (λ (j : ℕ). left st.life (peer_of st j) (six w a q)) (sym e)) refl where
      by : (b : Bool) → left st.life (with_reason (cond b (record { local = peer_of st k; reason = Some (BadFlags v); notes = λ c. [] }) (flags_taken v (peer_of st k))).reason (cond b (record { local = peer_of st k; reason = Some (BadFlags v); notes = λ c. [] }) (flags_taken v (peer_of st k))).local) (six w a q) ≡ left st.life (peer_of st k) (six w a q)
      by true = refl
      by false = refl

    wrote_word : (k c : ℕ) (x : AreaWord) → (let v = area_at (words_after (ForPeer k (Prepare x)) a) k c in ((x ≡ FlagWord → ⊥) → five v.flags ≡ five (mine k c).flags) × (x ≡ FlagWord → five v.flags ≡ no_five))
    wrote_word k c SessionWord = (λ n. refl, (λ e. absurd (cc)))
    wrote_word k c EchoWord = (λ n. refl, (λ e. absurd (cc)))
    wrote_word k c (PlaceWord x) = (λ n. refl, (λ e. absurd (cc)))
    wrote_word k c (ArgsWord d f) = (λ n. refl, (λ e. absurd (cc)))
    wrote_word k c FlagWord = (λ n. absurd (n refl), (λ e. ap (λ (x : Area). five x.flags) (taken_here w a k c)))
    wrote_word k c (CounterWord d f) = (λ n. refl, (λ e. absurd (cc)))

    wrote : (k c : ℕ) (lc : c < 4) (m : PeerRule) → (m ≡ TakeFlags → ⊥) → Wrote k c lc (σ k).state.life (peer_of (σ k).state a) (theirs k c) ((σ a).books k c) ((σ k).books a c) (end_of (σ k).state a c) m (mine k c) (area_at (words_after (ForPeer k m) a) k c)
    wrote k c lc TakeFlags n = n refl
    wrote k c lc (Prepare x) n = wrote_word k c x
    wrote k c lc AskActivation n = refl
    wrote k c lc CloseArea n = refl
    wrote k c lc ZeroMagic n = refl
    wrote k c lc ClearOldBit n = refl
    wrote k c lc OpenArea n = refl
    wrote k c lc SetEngagementBit n = refl
    wrote k c lc ReadRecord n = refl
    wrote k c lc StoreEcho n = refl
    wrote k c lc StoreSecond n = refl
    wrote k c lc ClearEngagementBit n = refl
    wrote k c lc LookAtPage n = refl
    wrote k c lc CheckBeat n = refl
    wrote k c lc ClearDeactivationBit n = refl
    wrote k c lc TellPartner n = refl

    peer_theirs : (k : ℕ) (m : PeerRule) (q c : ℕ) → (q ≡ a → ⊥) → (m ≡ TakeFlags → ⊥) → area_at (words_after (ForPeer k m) q) a c ≡ theirs q c
    peer_theirs k TakeFlags q c n t = absurd (t refl)
    peer_theirs k (Prepare SessionWord) q c n t = refl
    peer_theirs k (Prepare EchoWord) q c n t = refl
    peer_theirs k (Prepare (PlaceWord x)) q c n t = refl
    peer_theirs k (Prepare FlagWord) q c n t = area_far w (Store 0) a (Flag k) q a c n
    peer_theirs k (Prepare (CounterWord d f)) q c n t = area_far w (Store 0) a (Counter k d f) q a c n
    peer_theirs k (Prepare (ArgsWord d f)) q c n t = area_far w (Store 0) a (Args k d f) q a c n
    peer_theirs k AskActivation q c n t = refl
    peer_theirs k CloseArea q c n t = refl
    peer_theirs k ZeroMagic q c n t = refl
    peer_theirs k ClearOldBit q c n t = refl
    peer_theirs k OpenArea q c n t = refl
    peer_theirs k SetEngagementBit q c n t = refl
    peer_theirs k ReadRecord q c n t = refl
    peer_theirs k StoreEcho q c n t = refl
    peer_theirs k StoreSecond q c n t = refl
    peer_theirs k ClearEngagementBit q c n t = refl
    peer_theirs k LookAtPage q c n t = refl
    peer_theirs k CheckBeat q c n t = refl
    peer_theirs k ClearDeactivationBit q c n t = refl
    peer_theirs k TellPartner q c n t = refl

    peer_mine : (k : ℕ) (m : PeerRule) (q c : ℕ) → (q ≡ k → ⊥) → (m ≡ TakeFlags → ⊥) → area_at (words_after (ForPeer k m) a) q c ≡ mine q c
    peer_mine k TakeFlags q c o t = absurd (t refl)
    peer_mine k (Prepare SessionWord) q c o t = refl
    peer_mine k (Prepare EchoWord) q c o t = refl
    peer_mine k (Prepare (PlaceWord x)) q c o t = refl
    peer_mine k (Prepare FlagWord) q c o t = taken_else w a k q c (λ e. o (sym e))
    peer_mine k (Prepare (CounterWord d f)) q c o t = area_same (words_after (ForPeer k (Prepare (CounterWord d f))) a) (w a) q c (counter_other w a k d f 0 q c (λ e g. o (sym e))) refl refl
    peer_mine k (Prepare (ArgsWord d f)) q c o t = sheet_other w a k d f 0 q c (λ e g. o (sym e))
    peer_mine k AskActivation q c o t = refl
    peer_mine k CloseArea q c o t = refl
    peer_mine k ZeroMagic q c o t = refl
    peer_mine k ClearOldBit q c o t = refl
    peer_mine k OpenArea q c o t = refl
    peer_mine k SetEngagementBit q c o t = refl
    peer_mine k ReadRecord q c o t = refl
    peer_mine k StoreEcho q c o t = refl
    peer_mine k StoreSecond q c o t = refl
    peer_mine k ClearEngagementBit q c o t = refl
    peer_mine k LookAtPage q c o t = refl
    peer_mine k CheckBeat q c o t = refl
    peer_mine k ClearDeactivationBit q c o t = refl
    peer_mine k TellPartner q c o t = refl

    numbered_links : (mark : Option CopyMark) (p : Peer) → length p.links ≡ 4 → length (peer_numbered mark p).links ≡ 4
    numbered_links None p n = n
    numbered_links (Some mark) p n = n

    numbered_known : (n : ℕ) (mark : Option CopyMark) (p : Peer) → known n (peer_numbered mark p).engage ≡ known n p.engage
    numbered_known n None p = refl
    numbered_known n (Some mark) p = refl

    numbered_line : (k c : ℕ) (lc : c < 4) (mark : Option CopyMark) → Stays k c (end_of st k c) [] → LineOf k c lc (σ k).state.life (peer_of (σ k).state a) (theirs k c) ((σ a).books k c) ((σ k).books a c) (end_of (σ k).state a c) st.life (peer_numbered mark (peer_of st k)) (six w a k) (mine k c) []
    numbered_line k c lc None h = h
    numbered_line k c lc (Some mark) h = h

    -- a step for one partner
    peered : (k : ℕ) (m : PeerRule) → (m ≡ TakeFlags → ⊥) → Can su st (ForPeer k m) → (q c : ℕ) → line a q c → After (ForPeer k m) (Word (answer_word su st (ForPeer k m) w)) (words_after (ForPeer k m)) q c
    peered k m t can q c l =
        let r = ForPeer k m in
        let mark = mark_of su st r in
        let v = answer_word su st r w in
        let p = peer_of st k in
        let f = peer_answered (here_of su st k) mark p m (Word v) in
        let wa = words_after r in
        let lk = can.1.0.low in
        let nk = can.1.0.other in
        let P : ℕ → Peer → Type 0 = λ j x. line a j c → Fine (left st.life x (six wa a j)) (right (σ j).state.life (peer_of (σ j).state a) (six wa a j)) (area_at (wa a) j c) (area_at (wa j) a c) (with_notes j c (cond (eqb k j) (f.notes c) []) ((σ a).books j c)) ((σ j).books a c) (link_at x.links c) (end_of (σ j).state a c) in
        let H : Six → Area → Type 0 = λ z y. Fine (left st.life f.local z) (right (σ k).state.life (peer_of (σ k).state a) z) (area_at (wa a) k c) y (with_notes k c (f.notes c) ((σ a).books k c)) ((σ k).books a c) (link_at f.local.links c) (end_of (σ k).state a c) in
        let here : line a k c → H (six wa a k) (area_at (wa k) a c) = λ i.
        (let lc = (low a k c i).1 in
        let z = peer_line k c lc (σ k).state.life (peer_of (σ k).state a) (theirs k c) ((σ a).books k c) ((σ k).books a c) (end_of (σ k).state a c) (here_of su st k) st.life (peer_numbered mark p) (six w a k) m v (mine k c) (area_at (wa a) k c) (numbered_links mark p ((good.met.all a la).channels k)) can.0 (λ u. (good.met.stamps a la).up u) (can_numbered (here_of su st k) mark p m can.1.1) (loads_numbered mark p (six w a k) m v (peer_loads s lawful w σ a la good.met k m)) (wrote k c lc m t) (numbered_line k c lc mark (good.fine a k c i)) in
        subst (λ (y : Area). H (six wa a k) y) (sym (peer_theirs k m k c nk t)) (subst (λ (y : Six). H y (theirs k c)) (ap (λ (n : _). six_after m n (six w a k)) (numbered_known (stamp_by st.life (w a (OpenWord 4))) mark p) ∙ sym (peer_six s lawful w σ a la good.met k m lk nk can.0)) z)) in
        peer_cases P st.peers k (with_reason f.reason f.local) q (good.met.all a la).partners lk
        (λ i. rw (eq-eqb k k refl) (here i))
        (λ o i. rw (ne_eqb k q (λ e. o (sym e))) (by o i)) l
      where
        by : (q ≡ k → ⊥) → line a q c → Fine (left st.life (peer_of st q) (six (words_after (ForPeer k m)) a q)) (right (σ q).state.life (peer_of (σ q).state a) (six (words_after (ForPeer k m)) a q)) (area_at (words_after (ForPeer k m) a) q c) (area_at (words_after (ForPeer k m) q) a c) ((σ a).books q c) ((σ q).books a c) (end_of st q c) (end_of (σ q).state a c)
        by o i =
            let T : Six → Area → Area → Type 0 = λ z x y. Fine (left st.life (peer_of st q) z) (right (σ q).state.life (peer_of (σ q).state a) z) x y ((σ a).books q c) ((σ q).books a c) (end_of st q c) (end_of (σ q).state a c) in
            subst (λ (z : Six). T z (area_at (words_after (ForPeer k m) a) q c) (area_at (words_after (ForPeer k m) q) a c)) (sym (peer_else s lawful w σ a la good.met k m q (bound a q c i).1 (far_of q c i) o))
            (subst (λ (x : Area). T (six w a q) x (area_at (words_after (ForPeer k m) q) a c)) (sym (peer_mine k m q c o t)) (subst (λ (y : Area). T (six w a q) (mine q c) y) (sym (peer_theirs k m q c (far_of q c i) t)) (good.fine a q c i)))

    -- a step for all partners
    past : (q c : ℕ) → line a q c → length st.peers ≤ q → ⊥
    past q c l f = absurd (omega (arith, f, (low a q c l).0, (good.met.all a la).partners))

    freed : (q c v : ℕ) (l : line a q c) → st.life ≡ Up → v ≡ w a (OpenWord 12) → After (Own ReadEngaged) (Word v) w q c
    freed q c v l u e =
        let f = peer_read v q (peer_of st q) in
        let B : Life → Peer → Type 0 = λ y p. Fine (left y p (six w a q)) (their_side q) (mine q c) (theirs q c) (with_notes q c (f.notes c) ((σ a).books q c)) ((σ q).books a c) (link_at p.links c) (end_of (σ q).state a c) in
        let lc = (low a q c l).1 in
        at_each (λ (p : Peer). B st.life p) (λ j p. (peer_read v j p).local) st.peers q (cold_peer Old)
        (subst (λ (y : Life). B y f.local) (sym u) (free_line q c lc (σ q).state.life (peer_of (σ q).state a) (theirs q c) ((σ a).books q c) ((σ q).books a c) (end_of (σ q).state a c) (peer_of st q) (six w a q) v q (mine q c) ((good.met.all a la).channels q) (ap (λ (n : ℕ). bit_at n q) e) (subst (λ (y : Life). Fine (left y (peer_of st q) (six w a q)) (their_side q) (mine q c) (theirs q c) ((σ a).books q c) ((σ q).books a c) (end_of st q c) (end_of (σ q).state a c)) u (good.fine a q c l))))
        (λ f. absurd (past q c l f))

    ruled : (r : Rule) → Can su st r → (q c : ℕ) → line a q c → After r (Word (answer_word su st r w)) (words_after r) q c
    ruled (Link k d m) can q c l = lifted (Link k d m) (Word (answer_word su st (Link k d m) w)) (words_after (Link k d m)) q c (link_side k d m (Word (answer_word su st (Link k d m) w)) q) (link_six s lawful w σ a la good.met k d m q) (linked k d m can q c l)
    ruled (ForPeer k TakeFlags) can q c l = lifted (ForPeer k TakeFlags) (Word (answer_word su st (ForPeer k TakeFlags) w)) (words_after (ForPeer k TakeFlags)) q c (take_side k (answer_word su st (ForPeer k TakeFlags) w) q) refl (took k can q c l)
    ruled (ForPeer k AskActivation) can q c l = peered k AskActivation (λ e. absurd (cc)) can q c l
    ruled (ForPeer k CloseArea) can q c l = peered k CloseArea (λ e. absurd (cc)) can q c l
    ruled (ForPeer k ZeroMagic) can q c l = peered k ZeroMagic (λ e. absurd (cc)) can q c l
    ruled (ForPeer k ClearOldBit) can q c l = peered k ClearOldBit (λ e. absurd (cc)) can q c l
    ruled (ForPeer k (Prepare x)) can q c l = peered k (Prepare x) (λ e. absurd (cc)) can q c l
    ruled (ForPeer k OpenArea) can q c l = peered k OpenArea (λ e. absurd (cc)) can q c l
    ruled (ForPeer k SetEngagementBit) can q c l = peered k SetEngagementBit (λ e. absurd (cc)) can q c l
    ruled (ForPeer k ReadRecord) can q c l = peered k ReadRecord (λ e. absurd (cc)) can q c l
    ruled (ForPeer k StoreEcho) can q c l = peered k StoreEcho (λ e. absurd (cc)) can q c l
    ruled (ForPeer k StoreSecond) can q c l = peered k StoreSecond (λ e. absurd (cc)) can q c l
    ruled (ForPeer k ClearEngagementBit) can q c l = peered k ClearEngagementBit (λ e. absurd (cc)) can q c l
    ruled (ForPeer k LookAtPage) can q c l = peered k LookAtPage (λ e. absurd (cc)) can q c l
    ruled (ForPeer k CheckBeat) can q c l = peered k CheckBeat (λ e. absurd (cc)) can q c l
    ruled (ForPeer k ClearDeactivationBit) can q c l = peered k ClearDeactivationBit (λ e. absurd (cc)) can q c l
    ruled (ForPeer k TellPartner) can q c l = peered k TellPartner (λ e. absurd (cc)) can q c l
    ruled (Own ReadEngaged) can q c l = freed q c _ l can.0 refl
    ruled (Own TakeDeactivation) can q c l =
        let v = w a (OpenWord 13) in
        at_each (λ (p : Peer). Fine (left st.life p (six w a q)) (their_side q) (mine q c) (theirs q c) ((σ a).books q c) ((σ q).books a c) (link_at p.links c) (end_of (σ q).state a c)) (λ j p. (deactivation_heard v j p).local) st.peers q (cold_peer Old)
        (told_line q c (low a q c l).1 (σ q).state.life (peer_of (σ q).state a) (theirs q c) ((σ a).books q c) ((σ q).books a c) (end_of (σ q).state a c) st.life (peer_of st q) (six w a q) v q (mine q c) (good.fine a q c l))
        (λ f. absurd (past q c l f))
    ruled (Own StoreMask) can q c l = good.fine a q c l
    ruled (Own TakeActivation) can q c l = good.fine a q c l
    ruled (Own StoreBeat) can q c l = good.fine a q c l
    ruled (Own StoreOffline) can q c l = good.fine a q c l
    ruled (Own ZeroMask) can q c l = good.fine a q c l
    ruled (Own ZeroOffline) can q c l = good.fine a q c l
    ruled (Own ReadStamp) can q c l = halts (ltb (w a (OpenWord 4)) 4294967295) where
      P : Life → Type 0
      P y = Fine (left y (peer_of st q) (six w a q)) (their_side q) (mine q c) (theirs q c) ((σ a).books q c) ((σ q).books a c) (end_of st q c) (end_of (σ q).state a c)

      halts : (b : Bool) → P (cond b st.life Halted)
      halts true = good.fine a q c l
      halts false = halt_line q c (low a q c l).1 (σ q).state.life (peer_of (σ q).state a) (theirs q c) ((σ a).books q c) ((σ q).books a c) (end_of (σ q).state a c) (peer_of st q) (six w a q) (mine q c) (subst P can.0 (good.fine a q c l))
    ruled (Own WriteStamp) can q c l =
        let v = or_zero st.boot.read in
        let e : v ≡ w a (OpenWord 4) = read_word st.boot.read refl can.1.0 in
        let T : Six → Type 0 = λ z. Fine (left Up (peer_of st q) z) (right (σ q).state.life (peer_of (σ q).state a) z) (mine q c) (theirs q c) ((σ a).books q c) ((σ q).books a c) (end_of st q c) (end_of (σ q).state a c) in
        let one = up_line q c (low a q c l).1 (σ q).state.life (peer_of (σ q).state a) (theirs q c) ((σ a).books q c) ((σ q).books a c) (end_of (σ q).state a c) (peer_of st q) (six w a q) (mine q c) (can.1.3 q (bound a q c l).1 (far_of q c l)).0
        (subst (λ (y : Life). Fine (left y (peer_of st q) (six w a q)) (their_side q) (mine q c) (theirs q c) ((σ a).books q c) ((σ q).books a c) (end_of st q c) (end_of (σ q).state a c)) can.0 (good.fine a q c l)) in
        subst T (sym (six_stamp w a (v + 1) q (far_of q c l))) (subst (λ (n : ℕ). T (record (six w a q) { stamp = n + 1 })) (sym e) one)
      where
        read_word : (o : Option ℕ) → st.boot.read ≡ o → IsSome o → or_zero o ≡ w a (OpenWord 4)
        read_word None i d = absurd (cc)
        read_word (Some v) i d = (good.met.stamps a la).read can.0 v i

    -- words of flags stay such
    clean : (r : Rule) → Can su st r → (p q c : ℕ) → line p q c → IsFlagWord (words_after r p (Flag q))
    clean (Link k d (Ring ReadGet)) can p q c l = good.words p q c l
    clean (Link k d (Ring (WriteEntryWord f))) can p q c l = good.words p q c l
    clean (Link k d (Ring AcceptMessage)) can p q c l = good.words p q c l
    clean (Link k d (Pull ReadCounters)) can p q c l = good.words p q c l
    clean (Link k d (Pull ReadEntry)) can p q c l = good.words p q c l
    clean (Link k d Acknowledge) can p q c l = good.words p q c l
    clean (Link k d (SetFlag j)) can p q c l = flagged_word w a k d j can.1.0.peer.2 p q (good.words p q c l)
    clean (Link k d ZeroGet) can p q c l = good.words p q c l
    clean (Link k d ZeroPut) can p q c l = good.words p q c l
    clean (Link k d (StoreArgument x)) can p q c l = good.words p q c l
    clean (Link k d (ReadArgument x)) can p q c l = good.words p q c l
    clean (ForPeer k AskActivation) can p q c l = good.words p q c l
    clean (ForPeer k TakeFlags) can p q c l = taken_word w a k p q (good.words p q c l)
    clean (ForPeer k CloseArea) can p q c l = good.words p q c l
    clean (ForPeer k ZeroMagic) can p q c l = good.words p q c l
    clean (ForPeer k ClearOldBit) can p q c l = good.words p q c l
    clean (ForPeer k (Prepare SessionWord)) can p q c l = good.words p q c l
    clean (ForPeer k (Prepare EchoWord)) can p q c l = good.words p q c l
    clean (ForPeer k (Prepare (PlaceWord x))) can p q c l = good.words p q c l
    clean (ForPeer k (Prepare (ArgsWord d f))) can p q c l = good.words p q c l
    clean (ForPeer k (Prepare FlagWord)) can p q c l = taken_word w a k p q (good.words p q c l)
    clean (ForPeer k (Prepare (CounterWord d f))) can p q c l = good.words p q c l
    clean (ForPeer k OpenArea) can p q c l = good.words p q c l
    clean (ForPeer k SetEngagementBit) can p q c l = good.words p q c l
    clean (ForPeer k ReadRecord) can p q c l = good.words p q c l
    clean (ForPeer k StoreEcho) can p q c l = good.words p q c l
    clean (ForPeer k StoreSecond) can p q c l = good.words p q c l
    clean (ForPeer k ClearEngagementBit) can p q c l = good.words p q c l
    clean (ForPeer k LookAtPage) can p q c l = good.words p q c l
    clean (ForPeer k CheckBeat) can p q c l = good.words p q c l
    clean (ForPeer k ClearDeactivationBit) can p q c l = good.words p q c l
    clean (ForPeer k TellPartner) can p q c l = good.words p q c l
    clean (Own ReadEngaged) can p q c l = good.words p q c l
    clean (Own TakeDeactivation) can p q c l = good.words p q c l
    clean (Own WriteStamp) can p q c l = good.words p q c l
    clean (Own ReadStamp) can p q c l = good.words p q c l
    clean (Own ZeroMask) can p q c l = good.words p q c l
    clean (Own ZeroOffline) can p q c l = good.words p q c l
    clean (Own StoreMask) can p q c l = good.words p q c l
    clean (Own TakeActivation) can p q c l = good.words p q c l
    clean (Own StoreBeat) can p q c l = good.words p q c l
    clean (Own StoreOffline) can p q c l = good.words p q c l

    -- magics stay such
    record_word : (k v p q : ℕ) → IsMagical v → IsMagical (w p (Record q 0)) → IsMagical (does (Store v) a (Record k 0) w p (Record q 0))
    record_word k v p q new h = cond_both (eqb k q && eqb a p) v (w p (Record q 0)) IsMagical (λ e. new) (λ e. h)

    magical : (r : Rule) → Can su st r → (p q c : ℕ) → line p q c → IsMagical (words_after r p (Record q 0))
    magical (Link k d (Ring ReadGet)) can p q c l = good.magics p q c l
    magical (Link k d (Ring (WriteEntryWord f))) can p q c l = good.magics p q c l
    magical (Link k d (Ring AcceptMessage)) can p q c l = good.magics p q c l
    magical (Link k d (Pull ReadCounters)) can p q c l = good.magics p q c l
    magical (Link k d (Pull ReadEntry)) can p q c l = good.magics p q c l
    magical (Link k d Acknowledge) can p q c l = good.magics p q c l
    magical (Link k d (SetFlag j)) can p q c l = good.magics p q c l
    magical (Link k d ZeroGet) can p q c l = good.magics p q c l
    magical (Link k d ZeroPut) can p q c l = good.magics p q c l
    magical (Link k d (StoreArgument x)) can p q c l = good.magics p q c l
    magical (Link k d (ReadArgument x)) can p q c l = good.magics p q c l
    magical (ForPeer k AskActivation) can p q c l = good.magics p q c l
    magical (ForPeer k TakeFlags) can p q c l = good.magics p q c l
    magical (ForPeer k CloseArea) can p q c l = record_word k 0 p q refl (good.magics p q c l)
    magical (ForPeer k ZeroMagic) can p q c l = record_word k 0 p q refl (good.magics p q c l)
    magical (ForPeer k ClearOldBit) can p q c l = good.magics p q c l
    magical (ForPeer k (Prepare SessionWord)) can p q c l = good.magics p q c l
    magical (ForPeer k (Prepare EchoWord)) can p q c l = good.magics p q c l
    magical (ForPeer k (Prepare FlagWord)) can p q c l = good.magics p q c l
    magical (ForPeer k (Prepare (CounterWord d f))) can p q c l = good.magics p q c l
    magical (ForPeer k (Prepare (ArgsWord d f))) can p q c l = good.magics p q c l
    magical (ForPeer k (Prepare (PlaceWord ArgsPlace))) can p q c l = good.magics p q c l
    magical (ForPeer k (Prepare (PlaceWord CountersPlace))) can p q c l = good.magics p q c l
    magical (ForPeer k (Prepare (PlaceWord FlagPlace))) can p q c l = good.magics p q c l
    magical (ForPeer k (Prepare (PlaceWord ChannelCount))) can p q c l = good.magics p q c l
    magical (ForPeer k (Prepare (PlaceWord Spare))) can p q c l = good.magics p q c l
    magical (ForPeer k LookAtPage) can p q c l = good.magics p q c l
    magical (ForPeer k CheckBeat) can p q c l = good.magics p q c l
    magical (ForPeer k ClearDeactivationBit) can p q c l = good.magics p q c l
    magical (ForPeer k TellPartner) can p q c l = good.magics p q c l
    magical (ForPeer k OpenArea) can p q c l = record_word k first_magic p q refl (good.magics p q c l)
    magical (ForPeer k SetEngagementBit) can p q c l = good.magics p q c l
    magical (ForPeer k ReadRecord) can p q c l = good.magics p q c l
    magical (ForPeer k StoreEcho) can p q c l = good.magics p q c l
    magical (ForPeer k StoreSecond) can p q c l = record_word k second_magic p q refl (good.magics p q c l)
    magical (ForPeer k ClearEngagementBit) can p q c l = good.magics p q c l
    magical (Own ReadEngaged) can p q c l = good.magics p q c l
    magical (Own TakeDeactivation) can p q c l = good.magics p q c l
    magical (Own WriteStamp) can p q c l = good.magics p q c l
    magical (Own ReadStamp) can p q c l = good.magics p q c l
    magical (Own ZeroMask) can p q c l = good.magics p q c l
    magical (Own ZeroOffline) can p q c l = good.magics p q c l
    magical (Own StoreMask) can p q c l = good.magics p q c l
    magical (Own TakeActivation) can p q c l = good.magics p q c l
    magical (Own StoreBeat) can p q c l = good.magics p q c l
    magical (Own StoreOffline) can p q c l = good.magics p q c l

    -- nothing is refused
    abbrev CleanAt : Peer → Type 0
    CleanAt p = IsUnrefused p.engage.reason

    old : (q c : ℕ) → line a q c → CleanAt (peer_of st q)
    old q c l = good.clean a q c l

    line_at : (k c : ℕ) → k < s.count → (k ≡ a → ⊥) → c < 4 → line a k c
    line_at k c lk n lc = each_line a k c la lk (λ e. n (sym e)) lc

    ready_clean : (b : Bool) (o : Option Reason) → IsUnrefused o → IsUnrefused (cond b o None)
    ready_clean true o h = h
    ready_clean false o h = tt

    with_clean : (o : Option Reason) (p : Peer) → CleanAt p → IsUnrefused o → CleanAt (with_reason o p)
    with_clean o p h k = first_clean p.engage.reason _ h (ready_clean (is_ready p.engage.area) o k)

    end_clean : (seen : ℕ) (o : Option Reason) → IsUnrefused o → IsUnrefused (end_reason seen o)
    end_clean seen None h = tt
    end_clean seen (Some (BadFlags w)) h = absurd h
    end_clean seen (Some r) h = h

    clean_link : (k d : ℕ) (m : LinkRule) (x : Answer) → k < s.count → (k ≡ a → ⊥) → d < 4 → IsUnrefused (link_answered (mark_of su st (Link k d m)) (place_for su d) (end_of st k d) m x).reason → (q c : ℕ) → line a q c → CleanAt (peer_of (after_answer su st (Link k d m) x) q)
    clean_link k d m x lk n ld new q c l =
        let f = link_answered (mark_of su st (Link k d m)) (place_for su d) (end_of st k d) m x in
        at_peer CleanAt st.peers k _ q (λ e. with_clean (end_reason (peer_of st k).flags_seen f.reason) (set_link (numbered (mark_of su st (Link k d m)) d (peer_of st k)) d f.local) (old k d (line_at k d lk n ld)) (end_clean (peer_of st k).flags_seen f.reason new)) (old q c l)

    links_clean : (f : ℕ → End → Effect End (List Note)) (p : Peer) → ((c : ℕ) → c < 4 → IsUnrefused (f c (link_at p.links c)).reason) → IsUnrefused (links_reason f p)
    links_clean f p each = first_clean (f 0 (link_at p.links 0)).reason _ (each 0 (omega arith)) (first_clean (f 1 (link_at p.links 1)).reason _ (each 1 (omega arith)) (first_clean (f 2 (link_at p.links 2)).reason _ (each 2 (omega arith)) (each 3 (omega arith))))

    abbrev CleanFor : Effect Peer (ℕ → List Note) → Type 0
    CleanFor f = CleanAt f.local × IsUnrefused f.reason

    either : (b : Bool) (f g : Effect Peer (ℕ → List Note)) → CleanFor f → CleanFor g → CleanFor (cond b f g)
    either true f g h k = h
    either false f g h k = k

    contact_clean : (turn n : ℕ) (p : Peer) → CleanAt p → CleanFor (try_contact turn n p)
    contact_clean turn n p h = either (p.engage.second && (p.engage.shown && not (is_some p.contact))) (contact_made turn n p) (same_peer p) (h, tt) (h, tt)

    maybe_clean : (b : Bool) → IsUnrefused (cond b (Some (OtherGoingDown 0)) None)
    maybe_clean true = tt
    maybe_clean false = tt

    magic_clean : (x y : Bool) (f g n : Effect Peer (ℕ → List Note)) → (x || y) ≡ true → CleanFor f → CleanFor g → CleanFor (cond x f (cond y g n))
    magic_clean true y f g n t h k = h
    magic_clean false true f g n t h k = k
    magic_clean false false f g n t h k = absurd (cc)

    last_clean : (turn n : ℕ) (p : Peer) (r : Reading) → CleanAt p → CleanFor (last_read turn n p r)
    last_clean turn n p r h = either (has_shown n p.engage r) _ _ (contact_clean turn n (record p { engage = record p.engage { shown = true; reading = None } }) h) (h, tt)

    record_clean : (y : Here) (p : Peer) (o : Option Reading) (v : ℕ) → (read_place o ≡ 0 → IsMagical v) → is_wrong y.part (read_place o) v ≡ false → CleanAt p → CleanFor (record_read y p o v)
    record_clean y p None v mg ok h = magic_clean (eqb v 0) (is_magic v) _ _ _ (mg refl) (h, maybe_clean (is_some p.engage.echo)) (h, tt)
    record_clean y p (Some r) v mg ok h =
        let P : Bool → Type 0 = λ b. CleanFor (cond b (say_reason (Some (BadArgs v)) (record p { engage = record p.engage { reading = None } })) (same_peer (record p { engage = record p.engage { reading = Some (record r { done = r.done + 1 }) } }))) in
        either (eqb r.done 1) _ _ (h, tt) (either (eqb r.done 2) _ _ (h, tt) (either (eqb r.done 7) _ _ (last_clean y.turn y.stamp p r h) (subst P (sym ok) (h, tt))))

    look_clean : (o : Option ℕ) (l : Look) (n : ℕ) → IsUnrefused (look_reason o l n)
    look_clean None l n = tt
    look_clean (Some echo) Unseen n = tt
    look_clean (Some echo) Absent n = tt
    look_clean (Some echo) (BadVersion word) n = tt
    look_clean (Some echo) (GoodLook version) n = by (eqb (session_of echo).stamp n) where
      by : (b : Bool) → IsUnrefused (cond b None (Some (Reactivating (session_of echo).stamp n)))
      by true = tt
      by false = tt

    still_clean : (last now mask : ℕ) (b : Bool) → IsUnrefused (cond b (Some (NoHeartbeat last now mask)) None)
    still_clean last now mask true = tt
    still_clean last now mask false = tt

    watch_clean : (part : ℕ) (words : List ℕ) (x : Watch) → IsUnrefused (watch_reason part words x)
    watch_clean part words x = by (eqb (length words) 3) where
      by : (b : Bool) → IsUnrefused (cond b (beat_reason part x.last words) None)
      by true = still_clean (or_zero x.last) (slice_index words 0) (slice_index words 1) (is_still part x.last words)
      by false = tt

    left_clean : (o : Option Reason) (p : Peer) → CleanAt p → CleanFor (area_left_for o p)
    left_clean None p h = (h, tt)
    left_clean (Some reason) p h = (h, links_clean (λ c e. link_down reason e) (record p { contact = None; engage = left_engage p.engage }) (λ c l. down_clean reason (link_at p.links c)))

    clean_peer : (y : Here) (p : Peer) (m : PeerRule) (v : ℕ) (z : Six) → Loads p z m v → (m ≡ ReadRecord → is_wrong y.part (read_place p.engage.reading) v ≡ false) → IsMagical z.their_magic → (m ≡ TakeFlags → ⊥) → CleanAt p → CleanFor (peer_effect y p m v)
    clean_peer y p TakeFlags v z ld ok mg n h = absurd (n refl)
    clean_peer y p AskActivation v z ld ok mg n h = (h, tt)
    clean_peer y p CloseArea v z ld ok mg n h = left_clean p.engage.reason p h
    clean_peer y p ZeroMagic v z ld ok mg n h = (h, tt)
    clean_peer y p ClearOldBit v z ld ok mg n h = (h, tt)
    clean_peer y p (Prepare SessionWord) v z ld ok mg n h = (h, tt)
    clean_peer y p (Prepare EchoWord) v z ld ok mg n h = (h, tt)
    clean_peer y p (Prepare FlagWord) v z ld ok mg n h = (h, tt)
    clean_peer y p (Prepare (CounterWord c f)) v z ld ok mg n h = (h, tt)
    clean_peer y p (Prepare (ArgsWord c f)) v z ld ok mg n h = (h, tt)
    clean_peer y p OpenArea v z ld ok mg n h = (h, tt)
    clean_peer y p SetEngagementBit v z ld ok mg n h = (h, tt)
    clean_peer y p ReadRecord v z ld ok mg n h = record_clean y p p.engage.reading v (λ e. subst (λ (k : ℕ). IsMagical k) (sym (ld.0 e)) mg) (ok refl) h
    clean_peer y p StoreEcho v z ld ok mg n h = (h, tt)
    clean_peer y p StoreSecond v z ld ok mg n h = contact_clean y.turn y.stamp (record p { engage = record p.engage { second = true } }) h
    clean_peer y p ClearEngagementBit v z ld ok mg n h = (h, tt)
    clean_peer y p (Prepare (PlaceWord x)) v z ld ok mg n h = (h, tt)
    clean_peer y p LookAtPage v z ld ok mg n h = let words = p.paging ++ v ∷ [] in either (eqb (length words) 5) _ _ (h, look_clean p.engage.echo (judged words) v) (h, tt)
    clean_peer y p CheckBeat v z ld ok mg n h = (h, watch_clean y.part (p.watch.words ++ v ∷ []) p.watch)
    clean_peer y p ClearDeactivationBit v z ld ok mg n h = (h, tt)
    clean_peer y p TellPartner v z ld ok mg n h = (h, tt)

    numbered_clean : (mark : Option CopyMark) (p : Peer) → CleanAt p → CleanAt (peer_numbered mark p)
    numbered_clean None p h = h
    numbered_clean (Some mark) p h = h

    taken_clean : (k : ℕ) → k < s.count → (k ≡ a → ⊥) → CleanFor (peer_effect (here_of su st k) (peer_of st k) TakeFlags (w a (Flag k)))
    taken_clean k lk n =
        let v = w a (Flag k) in
        let l = line_at k 0 lk n (omega arith) in
        let by : ℕ → End → Effect End (List Note) = λ d e. flags_got (kinds_in v d) e in
        let P : Bool → Type 0 = λ z. CleanFor (cond z (record { local = peer_of st k; reason = Some (BadFlags v); notes = λ c. [] }) (flags_taken v (peer_of st k))) in
        subst P (sym (unspoilt v (good.words a k 0 l))) (old k 0 l, end_clean (with_flags v (peer_of st k)).flags_seen (links_reason by (peer_of st k)) (links_clean by (peer_of st k) (λ c lc. takes_clean (mine k c) (theirs k c) k c (end_of st k c) (my_side k) (their_side k) ((σ a).books k c) ((σ k).books a c) (end_of (σ k).state a c) (good.fine a k c (line_at k c lk n lc)))))

    -- the words of records that say where the memory is
    rights : (r : Rule) → (p q : ℕ) (z : RecordField) → RightAt (w p) q z → RightAt (words_after r p) q z
    rights (Link k d (Ring ReadGet)) p q z h = h
    rights (Link k d (Ring (WriteEntryWord f))) p q z h = h
    rights (Link k d (Ring AcceptMessage)) p q z h = h
    rights (Link k d (Pull ReadCounters)) p q z h = h
    rights (Link k d (Pull ReadEntry)) p q z h = h
    rights (Link k d Acknowledge) p q z h = h
    rights (Link k d (SetFlag j)) p q z h = h
    rights (Link k d ZeroGet) p q z h = h
    rights (Link k d ZeroPut) p q z h = h
    rights (Link k d (StoreArgument x)) p q z h = h
    rights (Link k d (ReadArgument x)) p q z h = h
    rights (ForPeer k AskActivation) p q z h = h
    rights (ForPeer k TakeFlags) p q z h = h
    rights (ForPeer k CloseArea) p q z h = low_store w a k 0 0 p q z (omega arith) h
    rights (ForPeer k ZeroMagic) p q z h = low_store w a k 0 0 p q z (omega arith) h
    rights (ForPeer k ClearOldBit) p q z h = h
    rights (ForPeer k (Prepare SessionWord)) p q z h = low_store w a k 1 _ p q z (omega arith) h
    rights (ForPeer k (Prepare EchoWord)) p q z h = low_store w a k 2 0 p q z (omega arith) h
    rights (ForPeer k (Prepare FlagWord)) p q z h = h
    rights (ForPeer k (Prepare (PlaceWord y))) p q z h = place_store w a k p q y z h
    rights (ForPeer k (Prepare (CounterWord d f))) p q z h = h
    rights (ForPeer k (Prepare (ArgsWord d f))) p q z h = h
    rights (ForPeer k OpenArea) p q z h = low_store w a k 0 first_magic p q z (omega arith) h
    rights (ForPeer k SetEngagementBit) p q z h = h
    rights (ForPeer k ReadRecord) p q z h = h
    rights (ForPeer k StoreEcho) p q z h = low_store w a k 2 _ p q z (omega arith) h
    rights (ForPeer k StoreSecond) p q z h = low_store w a k 0 second_magic p q z (omega arith) h
    rights (ForPeer k ClearEngagementBit) p q z h = h
    rights (ForPeer k LookAtPage) p q z h = h
    rights (ForPeer k CheckBeat) p q z h = h
    rights (ForPeer k ClearDeactivationBit) p q z h = h
    rights (ForPeer k TellPartner) p q z h = h
    rights (Own ReadEngaged) p q z h = h
    rights (Own TakeDeactivation) p q z h = h
    rights (Own ReadStamp) p q z h = h
    rights (Own ZeroMask) p q z h = h
    rights (Own ZeroOffline) p q z h = h
    rights (Own WriteStamp) p q z h = h
    rights (Own StoreMask) p q z h = h
    rights (Own TakeActivation) p q z h = h
    rights (Own StoreBeat) p q z h = h
    rights (Own StoreOffline) p q z h = h

    own_stands : (k : ℕ) → k < s.count → (k ≡ a → ⊥) → Stands (RightAt (w a) k) (Right (w k) a) (peer_of st k)
    own_stands k lk n = good.stands a k 0 (line_at k 0 lk n (omega arith))

    moved_right : (k p q : ℕ) → Right (w a) k → p ≡ a → k ≡ q → Right (w p) q
    moved_right k p q h e d = subst (λ (x : ℕ). Right (w x) q) (sym e) (subst (λ (j : ℕ). Right (w a) j) d h)

    shows : (r : Rule) → Can su st r → (p q c : ℕ) → line p q c → (words_after r p (Record q 0) ≡ 0 → ⊥) → Right (w p) q
    shows (Link k d (Ring ReadGet)) can p q c l = good.shown p q c l
    shows (Link k d (Ring (WriteEntryWord f))) can p q c l = good.shown p q c l
    shows (Link k d (Ring AcceptMessage)) can p q c l = good.shown p q c l
    shows (Link k d (Pull ReadCounters)) can p q c l = good.shown p q c l
    shows (Link k d (Pull ReadEntry)) can p q c l = good.shown p q c l
    shows (Link k d Acknowledge) can p q c l = good.shown p q c l
    shows (Link k d (SetFlag j)) can p q c l = good.shown p q c l
    shows (Link k d ZeroGet) can p q c l = good.shown p q c l
    shows (Link k d ZeroPut) can p q c l = good.shown p q c l
    shows (Link k d (StoreArgument x)) can p q c l = good.shown p q c l
    shows (Link k d (ReadArgument x)) can p q c l = good.shown p q c l
    shows (ForPeer k AskActivation) can p q c l = good.shown p q c l
    shows (ForPeer k TakeFlags) can p q c l = good.shown p q c l
    shows (ForPeer k CloseArea) can p q c l = magic_store w a k 0 p q (λ e d n. absurd (n refl)) (good.shown p q c l)
    shows (ForPeer k ZeroMagic) can p q c l = magic_store w a k 0 p q (λ e d n. absurd (n refl)) (good.shown p q c l)
    shows (ForPeer k ClearOldBit) can p q c l = good.shown p q c l
    shows (ForPeer k (Prepare SessionWord)) can p q c l = good.shown p q c l
    shows (ForPeer k (Prepare EchoWord)) can p q c l = good.shown p q c l
    shows (ForPeer k (Prepare FlagWord)) can p q c l = good.shown p q c l
    shows (ForPeer k (Prepare (PlaceWord ArgsPlace))) can p q c l = good.shown p q c l
    shows (ForPeer k (Prepare (PlaceWord CountersPlace))) can p q c l = good.shown p q c l
    shows (ForPeer k (Prepare (PlaceWord FlagPlace))) can p q c l = good.shown p q c l
    shows (ForPeer k (Prepare (PlaceWord ChannelCount))) can p q c l = good.shown p q c l
    shows (ForPeer k (Prepare (PlaceWord Spare))) can p q c l = good.shown p q c l
    shows (ForPeer k (Prepare (CounterWord d f))) can p q c l = good.shown p q c l
    shows (ForPeer k (Prepare (ArgsWord d f))) can p q c l = good.shown p q c l
    shows (ForPeer k OpenArea) can p q c l = magic_store w a k first_magic p q (λ e d n. moved_right k p q (prepared_all (RightAt (w a) k) (Right (w k) a) (peer_of st k) can.1.1.1 (own_stands k can.1.0.low can.1.0.other)) e d) (good.shown p q c l)
    shows (ForPeer k SetEngagementBit) can p q c l = good.shown p q c l
    shows (ForPeer k ReadRecord) can p q c l = good.shown p q c l
    shows (ForPeer k StoreEcho) can p q c l = good.shown p q c l
    shows (ForPeer k StoreSecond) can p q c l = magic_store w a k second_magic p q (λ e d n. moved_right k p q ((own_stands k can.1.0.low can.1.0.other).1 can.1.1.0) e d) (good.shown p q c l)
    shows (ForPeer k ClearEngagementBit) can p q c l = good.shown p q c l
    shows (ForPeer k LookAtPage) can p q c l = good.shown p q c l
    shows (ForPeer k CheckBeat) can p q c l = good.shown p q c l
    shows (ForPeer k ClearDeactivationBit) can p q c l = good.shown p q c l
    shows (ForPeer k TellPartner) can p q c l = good.shown p q c l
    shows (Own ReadEngaged) can p q c l = good.shown p q c l
    shows (Own TakeDeactivation) can p q c l = good.shown p q c l
    shows (Own ReadStamp) can p q c l = good.shown p q c l
    shows (Own ZeroMask) can p q c l = good.shown p q c l
    shows (Own ZeroOffline) can p q c l = good.shown p q c l
    shows (Own WriteStamp) can p q c l = good.shown p q c l
    shows (Own StoreMask) can p q c l = good.shown p q c l
    shows (Own TakeActivation) can p q c l = good.shown p q c l
    shows (Own StoreBeat) can p q c l = good.shown p q c l
    shows (Own StoreOffline) can p q c l = good.shown p q c l

    -- what is known of the partner of a step, and of every other
    word_loaded : (k : ℕ) (m : PeerRule) → m ≡ ReadRecord → answer_word su st (ForPeer k m) w ≡ w k (Record a (read_place (peer_of st k).engage.reading))
    word_loaded k m e = subst (λ (y : PeerRule). answer_word su st (ForPeer k y) w ≡ w k (Record a (read_place (peer_of st k).engage.reading))) (sym e) refl

    numbered_reading : (mark : Option CopyMark) (p : Peer) → (peer_numbered mark p).engage.reading ≡ p.engage.reading
    numbered_reading None p = refl
    numbered_reading (Some mark) p = refl

    peer_right : (k : ℕ) (m : PeerRule) → Can su st (ForPeer k m) → let f = peer_answered (here_of su st k) (mark_of su st (ForPeer k m)) (peer_of st k) m (Word (answer_word su st (ForPeer k m) w)) in Stands (RightAt (words_after (ForPeer k m) a) k) (Right (words_after (ForPeer k m) k) a) (with_reason f.reason f.local)
    peer_right k m can =
        let r = ForPeer k m in
        let mark = mark_of su st r in
        let wa = words_after r in
        let old = map_stands (RightAt (w a) k) (RightAt (wa a) k) (Right (w k) a) (Right (wa k) a) (peer_of st k) (λ z h. rights r a k z h) (λ h z. rights r k a z (h z)) (own_stands k can.1.0.low can.1.0.other) in
        peer_stands (RightAt (wa a) k) (Right (wa k) a) (here_of su st k) (peer_numbered mark (peer_of st k)) m (answer_word su st r w) (can_numbered (here_of su st k) mark (peer_of st k) m can.1.1)
        (λ x e. written k m x e)
        (λ e i n z. rights r k a z (good.shown k a 0 (mirror a k 0 (line_at k 0 can.1.0.low can.1.0.other (omega arith))) (λ d. n (word_loaded k m e ∙ ap (λ (o : Option Reading). w k (Record a (read_place o))) (sym (numbered_reading mark (peer_of st k)) ∙ i) ∙ d)) z))
        (numbered_stands (RightAt (wa a) k) (Right (wa k) a) mark (peer_of st k) old)
      where
        written : (k : ℕ) (m : PeerRule) (x : RecordField) → m ≡ Prepare (PlaceWord x) → RightAt (words_after (ForPeer k m) a) k x
        written k m x e = subst (λ (y : PeerRule). RightAt (words_after (ForPeer k y) a) k x) (sym e) (rw (eq-eqb (field_number x) (field_number x) refl, eq-eqb k k refl, eq-eqb a a refl) refl)

    stands_rule : (r : Rule) → Can su st r → (q c : ℕ) → line a q c → Stands (RightAt (words_after r a) q) (Right (words_after r q) a) (peer_of (after_answer su st r (Word (answer_word su st r w))) q)
    stands_rule r can q c l = by r can (map_stands (RightAt (w a) q) (RightAt (words_after r a) q) (Right (w q) a) (Right (words_after r q) a) (peer_of st q) (λ z h. rights r a q z h) (λ h z. rights r q a z (h z)) (good.stands a q c l)) where
      by : (r : Rule) → Can su st r → Stands (RightAt (words_after r a) q) (Right (words_after r q) a) (peer_of st q) → Stands (RightAt (words_after r a) q) (Right (words_after r q) a) (peer_of (after_answer su st r (Word (answer_word su st r w))) q)
      by (Link k d m) can h = at_peer (λ (p : Peer). Stands (RightAt (words_after (Link k d m) a) q) (Right (words_after (Link k d m) q) a) p) st.peers k _ q (λ e. subst (λ (j : ℕ). Stands (RightAt (words_after (Link k d m) a) q) (Right (words_after (Link k d m) q) a) (peer_of st j)) e h) h
      by (ForPeer k m) can h =
          let f = peer_answered (here_of su st k) (mark_of su st (ForPeer k m)) (peer_of st k) m (Word (answer_word su st (ForPeer k m) w)) in
          peer_cases (λ (j : ℕ) (p : Peer). Stands (RightAt (words_after (ForPeer k m) a) j) (Right (words_after (ForPeer k m) j) a) p) st.peers k (with_reason f.reason f.local) q (good.met.all a la).partners can.1.0.low (peer_right k m can) (λ o. h)
      by (Own ReadEngaged) can h = at_each (λ (p : Peer). Stands (RightAt (w a) q) (Right (w q) a) p) (λ j p. (peer_read (w a (OpenWord 12)) j p).local) st.peers q (cold_peer Old) (freed_stands (RightAt (w a) q) (Right (w q) a) (is_left (peer_of st q).engage && not (is_flagged (w a (OpenWord 12)) q)) (peer_of st q) h) (λ f. absurd (past q c l f))
      by (Own TakeDeactivation) can h = at_each (λ (p : Peer). Stands (RightAt (w a) q) (Right (w q) a) p) (λ j p. (deactivation_heard (w a (OpenWord 13)) j p).local) st.peers q (cold_peer Old) (told_stands (RightAt (w a) q) (Right (w q) a) (is_some (peer_of st q).engage.echo && is_flagged (w a (OpenWord 13)) q) (w a (OpenWord 13)) (peer_of st q) h) (λ f. absurd (past q c l f))
      by (Own ReadStamp) can h = h
      by (Own ZeroMask) can h = h
      by (Own ZeroOffline) can h = h
      by (Own WriteStamp) can h = h
      by (Own StoreMask) can h = h
      by (Own TakeActivation) can h = h
      by (Own StoreBeat) can h = h
      by (Own StoreOffline) can h = h

    right_read : (k : ℕ) (m : PeerRule) → Can su st (ForPeer k m) → m ≡ ReadRecord → is_wrong a (read_place (peer_numbered (mark_of su st (ForPeer k m)) (peer_of st k)).engage.reading) (answer_word su st (ForPeer k m) w) ≡ false
    right_read k m can e =
        let W : ℕ → Option Reading → Type 0 = λ v o. is_wrong a (read_place o) v ≡ false in
        subst (λ (o : Option Reading). W (answer_word su st (ForPeer k m) w) o) (sym (numbered_reading (mark_of su st (ForPeer k m)) (peer_of st k))) (subst (λ (v : ℕ). W v (peer_of st k).engage.reading) (sym (word_loaded k m e)) (by (peer_of st k).engage.reading refl))
      where
        by : (o : Option Reading) → (peer_of st k).engage.reading ≡ o → is_wrong a (read_place o) (w k (Record a (read_place o))) ≡ false
        by None i = refl
        by (Some r) i = not_wrong (w k) a r.done ((own_stands k can.1.0.low can.1.0.other).2 (ap (λ (o : Option Reading). is_some o) i))

    clean_for : (k : ℕ) (m : PeerRule) → Can su st (ForPeer k m) → (m ≡ TakeFlags) ⊎ (m ≡ TakeFlags → ⊥) → (q c : ℕ) → line a q c → CleanAt (peer_of (after_answer su st (ForPeer k m) (Word (answer_word su st (ForPeer k m) w))) q)
    clean_for k m can (inl e) q c l =
        let P : PeerRule → Type 0 = λ y. CleanAt (peer_of (after_answer su st (ForPeer k y) (Word (answer_word su st (ForPeer k y) w))) q) in
        let t = taken_clean k can.1.0.low can.1.0.other in
        subst P (sym e) (at_peer CleanAt st.peers k _ q (λ d. (let f = peer_effect (here_of su st k) (peer_of st k) TakeFlags (w a (Flag k)) in with_clean f.reason f.local t.0 t.1)) (old q c l))
    clean_for k m can (inr n) q c l =
        let p = peer_numbered (mark_of su st (ForPeer k m)) (peer_of st k) in
        let ld = loads_numbered (mark_of su st (ForPeer k m)) (peer_of st k) (six w a k) m (answer_word su st (ForPeer k m) w) (peer_loads s lawful w σ a la good.met k m) in
        let t = clean_peer (here_of su st k) p m (answer_word su st (ForPeer k m) w) (six w a k) ld (λ e. right_read k m can e) (good.magics k a 0 (mirror a k 0 (line_at k 0 can.1.0.low can.1.0.other (omega arith)))) n (numbered_clean (mark_of su st (ForPeer k m)) (peer_of st k) (old k 0 (line_at k 0 can.1.0.low can.1.0.other (omega arith)))) in
        at_peer CleanAt st.peers k _ q (λ d. (let f = peer_effect (here_of su st k) p m (answer_word su st (ForPeer k m) w) in with_clean f.reason f.local t.0 t.1)) (old q c l)

    is_take : (m : PeerRule) → (m ≡ TakeFlags) ⊎ (m ≡ TakeFlags → ⊥)
    is_take TakeFlags = inl refl
    is_take AskActivation = inr (λ e. absurd (cc))
    is_take CloseArea = inr (λ e. absurd (cc))
    is_take ZeroMagic = inr (λ e. absurd (cc))
    is_take ClearOldBit = inr (λ e. absurd (cc))
    is_take (Prepare x) = inr (λ e. absurd (cc))
    is_take OpenArea = inr (λ e. absurd (cc))
    is_take SetEngagementBit = inr (λ e. absurd (cc))
    is_take ReadRecord = inr (λ e. absurd (cc))
    is_take StoreEcho = inr (λ e. absurd (cc))
    is_take StoreSecond = inr (λ e. absurd (cc))
    is_take ClearEngagementBit = inr (λ e. absurd (cc))
    is_take LookAtPage = inr (λ e. absurd (cc))
    is_take CheckBeat = inr (λ e. absurd (cc))
    is_take ClearDeactivationBit = inr (λ e. absurd (cc))
    is_take TellPartner = inr (λ e. absurd (cc))

    off_clean : (b : Bool) (p : Peer) → CleanAt p → CleanAt (cond b (area_off p) (same_peer p)).local
    off_clean true p h = tt
    off_clean false p h = h

    told_clean : (b : Bool) (v : ℕ) (p : Peer) → CleanAt p → CleanAt (cond b (with_reason (Some (OtherGoingDown v)) p) p)
    told_clean true v p h = with_clean (Some (OtherGoingDown v)) p h tt
    told_clean false v p h = h

    clean_rule : (r : Rule) → Can su st r → (q c : ℕ) → line a q c → CleanAt (peer_of (after_answer su st r (Word (answer_word su st r w))) q)
    clean_rule (Link k d m) can q c l =
        let i = line_at k d can.1.0.peer.0 can.1.0.peer.1 can.1.0.peer.2 in
        clean_link k d m (Word (answer_word su st (Link k d m) w)) can.1.0.peer.0 can.1.0.peer.1 can.1.0.peer.2 ((link_here k d m (far_of k d i) can.1.1).clean (my_side k) (their_side k) ((σ a).books k d) ((σ k).books a d) (end_of (σ k).state a d) (good.fine a k d i)) q c l
    clean_rule (ForPeer k m) can q c l = clean_for k m can (is_take m) q c l
    clean_rule (Own ReadEngaged) can q c l = at_each CleanAt (λ j p. (peer_read (w a (OpenWord 12)) j p).local) st.peers q (cold_peer Old) (off_clean (is_left (peer_of st q).engage && not (is_flagged (w a (OpenWord 12)) q)) (peer_of st q) (old q c l)) (λ f. tt)
    clean_rule (Own TakeDeactivation) can q c l = at_each CleanAt (λ j p. (deactivation_heard (w a (OpenWord 13)) j p).local) st.peers q (cold_peer Old) (told_clean (is_some (peer_of st q).engage.echo && is_flagged (w a (OpenWord 13)) q) (w a (OpenWord 13)) (peer_of st q) (old q c l)) (λ f. tt)
    clean_rule (Own WriteStamp) can q c l = old q c l
    clean_rule (Own ReadStamp) can q c l = old q c l
    clean_rule (Own ZeroMask) can q c l = old q c l
    clean_rule (Own ZeroOffline) can q c l = old q c l
    clean_rule (Own StoreMask) can q c l = old q c l
    clean_rule (Own TakeActivation) can q c l = old q c l
    clean_rule (Own StoreBeat) can q c l = old q c l
    clean_rule (Own StoreOffline) can q c l = old q c l

    pub keeps_rule : (r : Rule) → Can su st r → Good s.count line mirror apart bound (does_rule su st r w) (at_one σ a (part_ruled su (σ a) r (Word (answer_word su st r w))))
    keeps_rule r can = moved s.count line mirror apart bound w (does_rule su st r w) σ a (part_ruled su (σ a) r (Word (answer_word su st r w))) good (met_rule s lawful w σ a la good.met r can) (λ p q c n o. away r p q c n o) (λ p q lp lq n o. away_six s lawful w σ a la good.met r p q lp lq n o) (λ q c l. ruled r can q c l) (λ p q c l. clean r can p q c l) (λ p q c l. magical r can p q c l) (λ q c l. clean_rule r can q c l) (λ p q z h. rights r p q z h) (λ q c l. stands_rule r can q c l) (λ p q c l n z. rights r p q z (shows r can p q c l n z))

    -- loads that fail
    failed_open : (k d : ℕ) (mark : Option CopyMark) → (mark ≡ None) ⊎ Open (mine k d) (theirs k d) (end_of st k d) → Open (mine k d) (theirs k d) (end_of st k d) ⊎ (mark ≡ None)
    failed_open k d mark (inl n) = inr n
    failed_open k d mark (inr o) = inl o

    abbrev FailedStep : ℕ → ℕ → LinkRule → Type 0
    FailedStep k d m = Step (mine k d) (theirs k d) (mine k d) (theirs k d) k d (end_of st k d) (link_answered (mark_of su st (Link k d m)) (place_for su d) (end_of st k d) m Failed)

    error_clean : (mark : Option CopyMark) → IsUnrefused (copy_error mark)
    error_clean None = tt
    error_clean (Some mark) = tt

    failed_by : (k d : ℕ) (m : LinkRule) → (mark_of su st (Link k d m) ≡ None) ⊎ Open (mine k d) (theirs k d) (end_of st k d) → FailedStep k d m
    failed_by k d m o = load_failed (mine k d) (theirs k d) k d (end_of st k d) (mark_of su st (Link k d m)) (link_answered (mark_of su st (Link k d m)) (place_for su d) (end_of st k d) m Failed).reason (error_clean (mark_of su st (Link k d m))) o (failed_open k d (mark_of su st (Link k d m)) o)

    failed_step : (k d : ℕ) (m : LinkRule) → link_can (end_of st k d) m → FailedStep k d m
    failed_step k d (Ring m) h = failed_by k d (Ring m) (inr (open_connected (mine k d) (theirs k d) (end_of st k d) h.0))
    failed_step k d (Pull m) h = failed_by k d (Pull m) (inr (open_copy (mine k d) (theirs k d) (end_of st k d) h.0))
    failed_step k d Acknowledge h = failed_by k d Acknowledge (inl refl)
    failed_step k d (SetFlag j) h = failed_by k d (SetFlag j) (inl refl)
    failed_step k d ZeroGet h = failed_by k d ZeroGet (inl refl)
    failed_step k d ZeroPut h = failed_by k d ZeroPut (inl refl)
    failed_step k d (StoreArgument x) h = failed_by k d (StoreArgument x) (inl refl)
    failed_step k d (ReadArgument x) h = quiet (mine k d) (theirs k d) k d (end_of st k d) _ refl tt tt

    failed_link : (k d : ℕ) (m : LinkRule) → Can su st (Link k d m) → (q c : ℕ) → line a q c → Kept (Link k d m) Failed w q c
    failed_link k d m can q c l =
        let f = link_answered (mark_of su st (Link k d m)) (place_for su d) (end_of st k d) m Failed in
        let Q : ℕ → ℕ → Type 0 = λ j i. line a j i → Stays j i f.local f.notes in
        let own : Q k d = λ i. stays_by k d i f (failed_step k d m can.1.1) in
        link_frame (Stays q c) su st k d m Failed q c (good.met.all a la) can.1.0.peer.0 can.1.0.peer.2
        (λ e g. subst (λ (j : ℕ). Q j c) e (subst (λ (i : ℕ). Q k i) g own) l) (λ o. good.fine a q c l)

    failed_ruled : (r : Rule) → Can su st r → (q c : ℕ) → line a q c → After r Failed w q c
    failed_ruled (Link k d m) can q c l = lifted (Link k d m) Failed w q c (link_side k d m Failed q) refl (failed_link k d m can q c l)
    failed_ruled (ForPeer k m) can q c l =
        let f = peer_answered (here_of su st k) (mark_of su st (ForPeer k m)) (peer_of st k) m Failed in
        let P : ℕ → Peer → Type 0 = λ j x. line a j c → Fine (left st.life x (six w a j)) (their_side j) (mine j c) (theirs j c) (with_notes j c (cond (eqb k j) [] []) ((σ a).books j c)) ((σ j).books a c) (link_at x.links c) (end_of (σ j).state a c) in
        peer_cases P st.peers k (with_reason f.reason f.local) q (good.met.all a la).partners can.1.0.low
        (λ i. rw (eq-eqb k k refl) (failed_line k c (low a k c i).1 (σ k).state.life (peer_of (σ k).state a) (theirs k c) ((σ a).books k c) ((σ k).books a c) (end_of (σ k).state a c) (here_of su st k).turn st.life (peer_of st k) (six w a k) (mine k c) (mark_of su st (ForPeer k m)) (good.fine a k c i)))
        (λ o i. rw (ne_eqb k q (λ e. o (sym e))) (good.fine a q c i)) l
    failed_ruled (Own m) can q c l = good.fine a q c l

    stopped_clean : (turn : ℕ) (mark : Option CopyMark) (p : Peer) → CleanAt p → CleanAt (peer_failed turn mark p)
    stopped_clean turn None p h = h
    stopped_clean turn (Some mark) p h = h

    stop_clean : (mark : Option CopyMark) (p : Peer) → IsUnrefused (failed_reason mark p)
    stop_clean None p = tt
    stop_clean (Some mark) p = ready_clean (fails_for mark.kind p.engage.echo) (Some (CopyError mark.kind mark.number)) tt

    failed_clean : (r : Rule) → Can su st r → (q c : ℕ) → line a q c → CleanAt (peer_of (after_answer su st r Failed) q)
    failed_clean (Link k d m) can q c l = clean_link k d m Failed can.1.0.peer.0 can.1.0.peer.1 can.1.0.peer.2 (error_clean (mark_of su st (Link k d m))) q c l
    failed_clean (ForPeer k m) can q c l =
        let mark = mark_of su st (ForPeer k m) in
        at_peer CleanAt st.peers k _ q (λ d. with_clean (failed_reason mark (peer_of st k)) (peer_failed (here_of su st k).turn mark (peer_of st k)) (stopped_clean (here_of su st k).turn mark (peer_of st k) (old k 0 (line_at k 0 can.1.0.low can.1.0.other (omega arith)))) (stop_clean mark (peer_of st k))) (old q c l)
    failed_clean (Own m) can q c l = old q c l

    failed_right : (r : Rule) → Can su st r → (q c : ℕ) → line a q c → Stands (RightAt (w a) q) (Right (w q) a) (peer_of (after_answer su st r Failed) q)
    failed_right (Link k d m) can q c l = at_peer (λ (p : Peer). Stands (RightAt (w a) q) (Right (w q) a) p) st.peers k _ q (λ e. subst (λ (j : ℕ). Stands (RightAt (w a) q) (Right (w q) a) (peer_of st j)) e (good.stands a q c l)) (good.stands a q c l)
    failed_right (ForPeer k m) can q c l =
        let mark = mark_of su st (ForPeer k m) in
        at_peer (λ (p : Peer). Stands (RightAt (w a) q) (Right (w q) a) p) st.peers k _ q (λ e. failed_stands (RightAt (w a) q) (Right (w q) a) (here_of su st k).turn mark (peer_of st k) (subst (λ (j : ℕ). Stands (RightAt (w a) q) (Right (w q) a) (peer_of st j)) e (good.stands a q c l))) (good.stands a q c l)
    failed_right (Own m) can q c l = good.stands a q c l

    pub keeps_failed : (r : Rule) → Can su st r → Good s.count line mirror apart bound w (at_one σ a (part_ruled su (σ a) r Failed))
    keeps_failed r can = moved s.count line mirror apart bound w w σ a (part_ruled su (σ a) r Failed) good (met_failed s lawful w σ a la good.met r can) (λ p q c n o. refl) (λ p q lp lq n o. refl) (λ q c l. failed_ruled r can q c l) good.words good.magics (λ q c l. failed_clean r can q c l) (λ p q z h. h) (λ q c l. failed_right r can q c l) good.shown

    -- a turn is over, and where it is planned the partition restarts
    moment_here : (q c : ℕ) → line a q c → (turns : ℕ) (b stops : Bool) → (b ≡ true → is_halted st.life ≡ false) → (let y = moment_by su b stops (turned_at turns st) in Fine (left y.life (peer_of y q) (six w a q)) (their_side q) (mine q c) (theirs q c) ((σ a).books q c) ((σ q).books a c) (end_of y q c) (end_of (σ q).state a c))
    moment_here q c l turns true stops d =
        at_each (λ (p : Peer). Fine (left Booting p (six w a q)) (their_side q) (mine q c) (theirs q c) ((σ a).books q c) ((σ q).books a c) (link_at p.links c) (end_of (σ q).state a c)) (λ j p. booted_peer p) st.peers q (cold_peer Old)
        (boot_line q c (low a q c l).1 (σ q).state.life (peer_of (σ q).state a) (theirs q c) ((σ a).books q c) ((σ q).books a c) (end_of (σ q).state a c) st.life (d refl) (peer_of st q) (six w a q) (mine q c) ((good.met.all a la).channels q) (good.fine a q c l))
        (λ f. absurd (past q c l f))
    moment_here q c l turns false true d = good.fine a q c l
    moment_here q c l turns false false d = good.fine a q c l

    moment_clean : (q c : ℕ) → line a q c → (turns : ℕ) (b stops : Bool) → CleanAt (peer_of (moment_by su b stops (turned_at turns st)) q)
    moment_clean q c l turns true stops = at_each CleanAt (λ j p. booted_peer p) st.peers q (cold_peer Old) tt (λ f. tt)
    moment_clean q c l turns false true = old q c l
    moment_clean q c l turns false false = old q c l

    moment_right : (q c : ℕ) → line a q c → (turns : ℕ) (b stops : Bool) → Stands (RightAt (w a) q) (Right (w q) a) (peer_of (moment_by su b stops (turned_at turns st)) q)
    moment_right q c l turns true stops = at_each (λ (p : Peer). Stands (RightAt (w a) q) (Right (w q) a) p) (λ j p. booted_peer p) st.peers q (cold_peer Old) (booted_stands (RightAt (w a) q) (Right (w q) a) (peer_of st q)) (λ f. absurd (past q c l f))
    moment_right q c l turns false true = good.stands a q c l
    moment_right q c l turns false false = good.stands a q c l

    pub keeps_moment : (earlier turns : ℕ) → Good s.count line mirror apart bound w (at_one σ a (part_moment su earlier turns (σ a)))
    keeps_moment earlier turns =
        let now = turned_at turns st in
        let b = restart_comes su earlier now && not (is_over now) in
        let stops = stop_comes su earlier now && not (is_over now) in
        moved s.count line mirror apart bound w w σ a (part_moment su earlier turns (σ a)) good (met_moment s lawful w σ a la good.met earlier turns) (λ p q c n o. refl) (λ p q lp lq n o. refl) (λ q c l. moment_here q c l turns b stops (awake s lawful w σ a la good.met (restart_comes su earlier now) st.stopped st.life)) good.words good.magics (λ q c l. moment_clean q c l turns b stops) (λ p q z h. h) (λ q c l. moment_right q c l turns b stops) good.shown

    -- acts: what each aims at keeps its end
    abbrev AimFine : Option Aim → Type 0
    AimFine None = Unit {0}
    AimFine (Some y) = (y.partner < s.count) × (y.channel < 4) × (line a y.partner y.channel → Stays y.partner y.channel y.effect.local y.effect.notes)

    acted : (x : Option Aim) → AimFine x → (q c : ℕ) → line a q c → Stays q c (end_of (with_aim x st) q c) (noted_aim x q c)
    acted None h q c l = good.fine a q c l
    acted (Some y) h q c l =
        let Q : ℕ → ℕ → Type 0 = λ j i. line a j i → Stays j i y.effect.local y.effect.notes in
        aim_frame (Stays q c) st y q c (good.met.all a la) h.0 h.1 (λ e g. subst (λ (j : ℕ). Q j c) e (subst (λ (i : ℕ). Q y.partner i) g h.2) l) (good.fine a q c l)

    aim_side : (x : Option Aim) (q : ℕ) → left (with_aim x st).life (peer_of (with_aim x st) q) (six w a q) ≡ my_side q
    aim_side None q = refl
    aim_side (Some y) q = at_peer (λ (p : Peer). left st.life p (six w a q) ≡ my_side q) st.peers y.partner _ q (λ e. ap (λ (j : ℕ). left st.life (peer_of st j) (six w a q)) (sym e)) refl

    aim_lifted : (x : Option Aim) (q c : ℕ) → Stays q c (end_of (with_aim x st) q c) (noted_aim x q c) → Fine (left (with_aim x st).life (peer_of (with_aim x st) q) (six w a q)) (their_side q) (mine q c) (theirs q c) (with_notes q c (noted_aim x q c) ((σ a).books q c)) ((σ q).books a c) (end_of (with_aim x st) q c) (end_of (σ q).state a c)
    aim_lifted x q c h = subst (λ (i : Side). Fine i (their_side q) (mine q c) (theirs q c) (with_notes q c (noted_aim x q c) ((σ a).books q c)) ((σ q).books a c) (end_of (with_aim x st) q c) (end_of (σ q).state a c)) (sym (aim_side x q)) h

    bytes_of : (e : End) (x : Command) → IsLawfulCommand su x → HasBytes (mine 0 0) (mine 0 0) 0 0 e x
    bytes_of e (SendCommand q c payload wait notify) h = h.2
    bytes_of e (Register q c entries limit) h = h.1
    bytes_of e (commands.Take q c wait) h = tt
    bytes_of e (commands.Release q c number) h = tt
    bytes_of e (commands.Drain q c) h = tt
    bytes_of e (commands.Unregister q c) h = tt
    bytes_of e (commands.Connected q c) h = tt
    bytes_of e (commands.Closed q c) h = tt
    bytes_of e (commands.Net frame) h = tt
    bytes_of e (commands.Frames count) h = tt
    bytes_of e (commands.Deactivate q) h = tt
    bytes_of e (commands.Activate q) h = tt
    bytes_of e commands.Leave h = tt
    bytes_of e (commands.Idle turns) h = tt
    bytes_of e commands.Offline h = tt
    bytes_of e commands.Online h = tt

    begun_by : (x : Command) → IsLawfulCommand su x → (o : Option EndName) → IsNamed s.count o → AimFine (aim_by st end_begun x o)
    begun_by x h None b = tt
    begun_by x h (Some n) b =
        let q = n.partner in
        let c = n.channel in
        (b.0, b.1, λ l. stays_by q c l (end_begun (end_of st q c) x) (begins (mine q c) (theirs q c) q c (end_of st q c) x (bytes_of (end_of st q c) x h)))

    begun_aim : (o : Option Command) (i : ℕ) → slice_get (script_in su st.clock.boots) i ≡ o → AimFine (aim_of st end_begun o)
    begun_aim None i e = tt
    begun_aim (Some x) i e = let h = lawful_command su st.clock.boots i x (lawful a la) e in begun_by x h (named_end x) (named_low su x h)

    answered_by_end : (x : Command) (o : Option EndName) → IsNamed s.count o → AimFine (aim_by st end_answered x o)
    answered_by_end x None b = tt
    answered_by_end x (Some n) b =
        let q = n.partner in
        let c = n.channel in
        (b.0, b.1, λ l. stays_by q c l (end_answered (end_of st q c) x) (answers (mine q c) (theirs q c) q c (end_of st q c) x))

    answered_aim : (o : Option Command) (i : ℕ) → slice_get (script_in su st.clock.boots) i ≡ o → AimFine (aim_of st end_answered o)
    answered_aim None i e = tt
    answered_aim (Some x) i e = answered_by_end x (named_end x) (named_low su x (lawful_command su st.clock.boots i x (lawful a la) e))

    act_aim : (x : Act) → MayAct su st x → AimFine (aimed su st x)
    act_aim Begun may = begun_aim (upcoming su st) st.script.begun refl
    act_aim Answered may = answered_aim (current su st) (st.script.begun - 1) refl
    act_aim (Noticed q c number how) may = (may.1.0, may.1.1, λ l. stays_by q c l (end_noticed how number (end_of st q c)) (notices (mine q c) (theirs q c) q c (end_of st q c) how number))

    aim_clean : (x : Option Aim) → AimFine x → (q c : ℕ) → line a q c → CleanAt (peer_of (with_aim x st) q)
    aim_clean None h q c l = old q c l
    aim_clean (Some y) h q c l = at_peer CleanAt st.peers y.partner _ q (λ d. subst (λ (j : ℕ). CleanAt (peer_of st j)) d (old q c l)) (old q c l)

    aim_right : (x : Option Aim) (q c : ℕ) → line a q c → Stands (RightAt (w a) q) (Right (w q) a) (peer_of (with_aim x st) q)
    aim_right None q c l = good.stands a q c l
    aim_right (Some y) q c l = at_peer (λ (p : Peer). Stands (RightAt (w a) q) (Right (w q) a) p) st.peers y.partner _ q (λ d. subst (λ (j : ℕ). Stands (RightAt (w a) q) (Right (w q) a) (peer_of st j)) d (good.stands a q c l)) (good.stands a q c l)

    -- a partner that isn't wanted any more, or wanted again, keeps its ends
    wanted_fine : (x : Act) (q c : ℕ) → (let y = with_aim (aimed su st x) st in Fine (left y.life (peer_of y q) (six w a q)) (their_side q) (mine q c) (theirs q c) (with_notes q c (noted_aim (aimed su st x) q c) ((σ a).books q c)) ((σ q).books a c) (end_of y q c) (end_of (σ q).state a c)) → (let y = after_act su st x in Fine (left y.life (peer_of y q) (six w a q)) (their_side q) (mine q c) (theirs q c) (with_notes q c (noted_aim (aimed su st x) q c) ((σ a).books q c)) ((σ q).books a c) (end_of y q c) (end_of (σ q).state a c))
    wanted_fine x q c h =
        let y = with_aim (aimed su st x) st in
        wanted_at (λ (p : Peer). Fine (left y.life p (six w a q)) (their_side q) (mine q c) (theirs q c) (with_notes q c (noted_aim (aimed su st x) q c) ((σ a).books q c)) ((σ q).books a c) (link_at p.links c) (end_of (σ q).state a c)) (command_begun su st x) y.peers q (λ p k. k) (λ p k. k) h

    wanted_clean : (x : Act) (q : ℕ) → CleanAt (peer_of (with_aim (aimed su st x) st) q) → CleanAt (peer_of (after_act su st x) q)
    wanted_clean x q h = wanted_at CleanAt (command_begun su st x) (with_aim (aimed su st x) st).peers q (λ p k. with_clean (Some Unloading) (record p { wanted = false; engage = record p.engage { state = state_unwanted p.engage.area p.engage.state } }) k tt) (λ p k. k) h

    wanted_right : (x : Act) (q : ℕ) → Stands (RightAt (w a) q) (Right (w q) a) (peer_of (with_aim (aimed su st x) st) q) → Stands (RightAt (w a) q) (Right (w q) a) (peer_of (after_act su st x) q)
    wanted_right x q h = wanted_at (λ (p : Peer). Stands (RightAt (w a) q) (Right (w q) a) p) (command_begun su st x) (with_aim (aimed su st x) st).peers q (λ p k. k) (λ p k. k) h

    pub keeps_act : (x : Act) → MayAct su st x → Good s.count line mirror apart bound w (at_one σ a (part_act su (σ a) x))
    keeps_act x may = moved s.count line mirror apart bound w w σ a (part_act su (σ a) x) good (met_act s lawful w σ a la good.met x) (λ p q c n o. refl) (λ p q lp lq n o. refl) (λ q c l. wanted_fine x q c (aim_lifted (aimed su st x) q c (acted (aimed su st x) (act_aim x may) q c l))) good.words good.magics (λ q c l. wanted_clean x q (aim_clean (aimed su st x) (act_aim x may) q c l)) (λ p q z h. h) (λ q c l. wanted_right x q (aim_right (aimed su st x) q c l)) good.shown
