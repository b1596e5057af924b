-- The word that stands after each step fits its place.
use Rattle.std.proofs.Common.{◌≡◌, ℕ, zero, suc, ◌+◌, ◌%◌, ◌^◌, ◌<◌, ◌≤◌, Bool, true, false, ◌&&◌, ◌||◌, cond, bit_or, List, [], ◌∷◌, length, refl, ap, sym, ◌∙◌, subst, arith, Option, Some, None}
use Rattle.std.specs.Prelude.{IsSome, nat_lt}
use Rattle.std.specs.Int.{bit_at}
use Rattle.std.proofs.lemmas.Bool.{cond_both}
use Rattle.std.proofs.lemmas.Bool.Decides.{nat_tests}
use Rattle.std.proofs.lemmas.Nat.{mod_below, or_lt, pow_pos, pow_below}
use Rattle.std.proofs.lemmas.Nat.Bits.{bit_at_or, bit_at-pow_other, bit_at-zero}
use Rattle.xp_base.specs.declared.layout.TheConstants.{VERSION_AT, STAMP, MASK, ACTIVATION, ENGAGED, DEACTIVATION}
use Rattle.xp_base.specs.declared.link.Kind.{Kind}
use Rattle.xp_base.specs.declared.reason.Reason.{Reason}
use Rattle.xp_base.specs.Kinds.{flag}
use Rattle.xp_base.specs.Places.{Place, Open, Record, Flag, Args, Counter, Entry, index_of}
use Rattle.xp_base.proofs.KindLemmas.{IsFlagWord-set}
use Rattle.xp_page.specs.declared.grammar.Allowed.{Allowed}
use Rattle.xp_page.specs.declared.grammar.Allowed.TheVariants.{Others, Between}
use Rattle.xp_page.specs.Grammar.{allows}
use Rattle.xp_dump_table.specs.declared.layout.Layout.TheVariants.{Newer}
use Rattle.xp_dump_table.specs.declared.layout.Field.TheVariants as fields
use Rattle.xp_dump_table.specs.Layouts.{place_of}
use Rattle.xp_dump_table.specs.Table.{open_row}
use Rattle.xp_script.specs.declared.scenario.Scenario.{Scenario}
use Rattle.xp_script.specs.declared.part.ScenarioPart.{ScenarioPart}
use Rattle.xp_script.specs.declared.limits.TheConstants.{COMMAND_LIMIT}
use Rattle.xp_script.specs.Lawful.{IsLawful}
use Rattle.xp_script.specs.Parts.{part_of}
use Rattle.xp_script.specs.Settings.{minor_of}
use Rattle.xp_script.specs.Sizes.{longest_limit}
use Rattle.xp_protocol.specs.declared.rule.Argument.TheVariants.{Request, Reply, Code}
use Rattle.xp_protocol.specs.declared.rule.AreaWord.TheVariants.{SessionWord, EchoWord, PlaceWord, ArgsWord, FlagWord, CounterWord}
use Rattle.xp_protocol.specs.declared.rule.RecordField.TheVariants.{ArgsPlace, CountersPlace, FlagPlace, ChannelCount, Spare}
use Rattle.xp_protocol.specs.declared.rule.RingRule.TheVariants.{ReadGet, WriteEntryWord, AcceptMessage}
use Rattle.xp_protocol.specs.declared.rule.PullRule.TheVariants.{ReadCounters, ReadEntry}
use Rattle.xp_protocol.specs.declared.rule.LinkRule.TheVariants.{Ring, Pull, Acknowledge, SetFlag, ZeroGet, ZeroPut, StoreArgument, ReadArgument}
use Rattle.xp_protocol.specs.declared.rule.PeerRule.TheVariants.{AskActivation, TakeFlags, CloseArea, ZeroMagic, ClearOldBit, Prepare, OpenArea, SetEngagementBit, ReadRecord, StoreEcho, StoreSecond, ClearEngagementBit, LookAtPage, CheckBeat, ClearDeactivationBit, TellPartner}
use Rattle.xp_protocol.specs.declared.rule.OwnRule.TheVariants.{ReadEngaged, TakeDeactivation, ReadStamp, ZeroMask, ZeroOffline, WriteStamp, StoreMask, TakeActivation, StoreBeat, StoreOffline}
use Rattle.xp_protocol.specs.declared.rule.Rule.{Rule}
use Rattle.xp_protocol.specs.declared.rule.Rule.TheVariants.{Link, Peer as ForPeer, Own}
use Rattle.xp_protocol.specs.Parts.{script_in}
use Rattle.xp_protocol.specs.Sending.{Send, payload_of, next_slot}
use Rattle.xp_protocol.specs.State.{State, End, Peer, Engage, Size, peer_at, peer_of, end_of}
use Rattle.xp_protocol.specs.Linking.{request_of, code_of}
use Rattle.xp_protocol.specs.Peering.{is_masked, is_off, is_prepared, mask_from, or_zero, session_next, field_word}
use Rattle.xp_base.specs.Entries.{message_word}
use Rattle.xp_base.specs.Sessions.{session_word}
use Rattle.xp_protocol.specs.Rules.{Can, row_of, owner}
use Rattle.xp_protocol.proofs.Undo.{within, owner_low}
use Rattle.xp_protocol.proofs.LawfulParts.{lawful_part}
use Rattle.xp_meetings.proofs.Words.{Words}
use Rattle.xp_written_words.proofs.Fits.{Fits, AllFit, part_at, stepped, IsOthers, others_allowed, allowed_others, others_or, others_and, others_zero, mask_small, flags_word, flags_allowed, word_small, entry_allowed, request_allowed, request_small, own_place, code_allowed, zero_fits}
use Rattle.xp_written_words.proofs.Ends.{Backed, facts, IsSizeTo}
use Rattle.xp_written_words.proofs.Peers.{IsShut}
use Rattle.xp_written_words.proofs.Parts.{Knows, offline_low}

-- ---- the mask of the partners for which the own memory is open
mask_low : (q : ℕ) (peers : List Peer) → mask_from q peers < 2 ^ (q + length peers)
mask_low q [] = pow_pos (q + 0)
mask_low q (p ∷ ps) =
    let e : q + 1 + length ps ≡ q + suc (length ps) = omega arith in
    or_lt (q + suc (length ps)) (cond (is_masked p) (2 ^ q) 0) (mask_from (q + 1) ps)
    (cond_both (is_masked p) (2 ^ q) 0 (λ (v : ℕ). v < 2 ^ (q + suc (length ps))) (λ d. pow_below q (q + suc (length ps)) (omega arith)) (λ d. pow_pos (q + suc (length ps))))
    (subst (λ (k : ℕ). mask_from (q + 1) ps < 2 ^ k) e (mask_low (q + 1) ps))

one_bit : (b : Bool) (q j : ℕ) → (b ≡ true → j ≡ q → ⊥) → bit_at (cond b (2 ^ q) 0) j ≡ 0
one_bit true q j d = bit_at-pow_other q j (d refl)
one_bit false q j d = bit_at-zero j

both_bits : (x y j : ℕ) → bit_at x j ≡ 0 → bit_at y j ≡ 0 → bit_at (bit_or x y) j ≡ 0
both_bits x y j h k = omega (arith, bit_at_or x y j, h, k)

mask_below : (q : ℕ) (peers : List Peer) (j : ℕ) → j < q → bit_at (mask_from q peers) j ≡ 0
mask_below q [] j l = bit_at-zero j
mask_below q (p ∷ ps) j l = both_bits (cond (is_masked p) (2 ^ q) 0) (mask_from (q + 1) ps) j (one_bit (is_masked p) q j (λ d e. absurd (omega (arith, l, e)))) (mask_below (q + 1) ps j (omega (arith, l)))

not_masked : (b : Bool) → b ≡ false → b ≡ true → ⊥
not_masked b f t = absurd (cc)

mask_without : (q : ℕ) (peers : List Peer) (i : ℕ) → is_masked (peer_at peers i) ≡ false → bit_at (mask_from q peers) (q + i) ≡ 0
mask_without q [] i h = bit_at-zero (q + i)
mask_without q (p ∷ ps) zero h = both_bits (cond (is_masked p) (2 ^ q) 0) (mask_from (q + 1) ps) (q + 0) (one_bit (is_masked p) q (q + 0) (λ t e. not_masked (is_masked p) h t)) (mask_below (q + 1) ps (q + 0) (omega arith))
mask_without q (p ∷ ps) (suc i) h =
    let e : q + 1 + i ≡ q + suc i = omega arith in
    both_bits (cond (is_masked p) (2 ^ q) 0) (mask_from (q + 1) ps) (q + suc i) (one_bit (is_masked p) q (q + suc i) (λ t d. absurd (omega (arith, d)))) (subst (λ (j : ℕ). bit_at (mask_from (q + 1) ps) j ≡ 0) e (mask_without (q + 1) ps i h))

and_first : (a b : Bool) → a ≡ false → (a && b) ≡ false
and_first true b e = absurd (cc)
and_first false b e = refl

and_last : (a b c : Bool) → c ≡ false → (a && (b && c)) ≡ false
and_last true true c e = e
and_last true false c e = refl
and_last false b c e = refl

prepared_shut : (x : Engage) → x.session_put ≡ false → is_prepared x ≡ false
prepared_shut x e = and_first x.session_put _ e

shut_masked : (p : Peer) → IsShut p → is_masked p ≡ false
shut_masked p h = ap (λ (b : Bool). b || (is_off p.engage.area && (p.wanted && is_prepared p.engage))) h.0 ∙ and_last (is_off p.engage.area) p.wanted (is_prepared p.engage) (prepared_shut p.engage h.1)

mask_others : (n o : ℕ) (peers : List Peer) → length peers ≡ n → IsShut (peer_at peers o) → IsOthers n o (mask_from 0 peers)
mask_others n o peers e h =
    let a : 0 + length peers ≡ n = omega (arith, e) in
    let b : 0 + o ≡ o = omega arith in
    record {
      low = subst (λ (k : ℕ). mask_from 0 peers < 2 ^ k) a (mask_low 0 peers);
      bit = subst (λ (j : ℕ). bit_at (mask_from 0 peers) j ≡ 0) b (mask_without 0 peers o (shut_masked (peer_at peers o) h));
    }

stamp_allowed : (v : ℕ) → v ≤ 4294967295 → allows (Between 0 4294967295) v ≡ true
stamp_allowed v h = grind (arith, nat_tests)

module _ (s : Scenario) (law : IsLawful s) where
  abbrev pub minor : ℕ → ℕ
  minor p = minor_of p s.minors

  abbrev n : ℕ
  n = s.count

  high : s.count ≤ 64
  high = law.numbers.count.high

  abbrev At : ℕ → Place → ℕ → Type 0
  At o pl v = Fits n (minor o) o pl v

  -- a mask of other partitions
  open_others : (x o v : ℕ) → (open_row (part_at n (minor o) o) x).allowed ≡ Others n o → (x ≡ VERSION_AT → ⊥) → IsOthers n o v → At o (Open x) v
  open_others x o v e d h = record { small = mask_small n v high h.low; allowed = subst (λ (y : Allowed). allows y v ≡ true) (sym e) (others_allowed n o v h); exact = λ z. absurd (d z) }

  was_others : (x o v : ℕ) → (open_row (part_at n (minor o) o) x).allowed ≡ Others n o → At o (Open x) v → IsOthers n o v
  was_others x o v e f = allowed_others n o v (subst (λ (y : Allowed). allows y v ≡ true) e f.allowed)

  pub mask_fits : (o v : ℕ) → IsOthers n o v → At o (Open MASK) v
  mask_fits o v h = open_others MASK o v refl (λ e. absurd (omega (arith, e))) h

  pub activation_fits : (o v : ℕ) → IsOthers n o v → At o (Open ACTIVATION) v
  activation_fits o v h = open_others ACTIVATION o v refl (λ e. absurd (omega (arith, e))) h

  pub engaged_fits : (o v : ℕ) → IsOthers n o v → At o (Open ENGAGED) v
  engaged_fits o v h = open_others ENGAGED o v refl (λ e. absurd (omega (arith, e))) h

  pub deactivation_fits : (o v : ℕ) → IsOthers n o v → At o (Open DEACTIVATION) v
  deactivation_fits o v h = open_others DEACTIVATION o v refl (λ e. absurd (omega (arith, e))) h

  module _ (w : Words) (a : ℕ) (la : a < s.count) (st : State) (fit : AllFit s.count minor w) (k : Knows (part_of s a) (longest_limit (minor a)) (w a (Open STAMP)) st) (few : st.clock.boots ≤ 64) (short : length (script_in (part_of s a) st.clock.boots) ≤ COMMAND_LIMIT) where
    abbrev su : ScenarioPart
    su = part_of s a

    abbrev pub FitsAfter : Rule → Type 0
    FitsAfter r = At (owner su st r) (row_of su st r).place (stepped (row_of su st r).kind (w (owner su st r) (row_of su st r).place))

    old : (r : Rule) → Can su st r → At (owner su st r) (row_of su st r).place (w (owner su st r) (row_of su st r).place)
    old r can = let lawful = lawful_part s a law la in fit (owner su st r) (row_of su st r).place (owner_low su st r lawful can) (within su st r lawful can)

    abbrev e_of : ℕ → ℕ → End
    e_of q c = end_of st q c

    ends : (q c : ℕ) → Backed (longest_limit (minor a)) st.script.begun (facts (e_of q c))
    ends q c = (k.peers q).ends c

    longest : (m : ℕ) → longest_limit m ≤ 1008
    longest m = by (nat_lt 1 m) where
      by : (b : Bool) → cond b 1008 112 ≤ 1008
      by true = omega arith
      by false = omega arith

    entry_fits : (q c f : ℕ) → Can su st (Link q c (Ring (WriteEntryWord f))) → FitsAfter (Link q c (Ring (WriteEntryWord f)))
    entry_fits q c f can = by (e_of q c).sides.send.send refl can.1.1.1.0 where
      by : (o : Option Send) → (e_of q c).sides.send.send ≡ o → IsSome o → At a (Entry q c (next_slot (e_of q c).sides.send + f)) (message_word (e_of q c).sides.send.put (payload_of o) f)
      by None e h = absurd (cc)
      by (Some y) e h =
          let x = (e_of q c).sides.send in
          let b = ends q c in
          let m = b.message y e in
          let few_puts = b.puts in
          let few_begun = k.begun in
          let long = longest (minor a) in
          let limit = b.limit in
          let len = m.1 in
          record {
            small = word_small x.put y.payload f (omega (arith, few_puts, few_begun, short)) (omega (arith, len, limit, long)) m.0;
            allowed = entry_allowed n (minor a) a x.limit (x.put % x.entries) x.put y.payload f b.limit m.1 can.1.1.1.3;
            exact = tt;
          }

    counted : (q c f v : ℕ) → v ≤ COMMAND_LIMIT + 1 → At a (Counter q c f) v
    counted q c f v l = record { small = omega (arith, l); allowed = refl; exact = tt }

    request_fits : (q c : ℕ) (o : Option Size) → ((z : Size) → o ≡ Some z → IsSizeTo (longest_limit (minor a)) z) → At a (Args q c 0) (request_of o)
    request_fits q c None h = zero_fits n (minor a) a (Args q c 0) tt
    request_fits q c (Some z) h = let size = (h z refl).0 in record { small = request_small z size; allowed = request_allowed z size; exact = tt }

    reply_fits : (q c : ℕ) → q < 64 → c < 4 → At a (Args q c 1) (index_of (Entry q c 0))
    reply_fits q c lq lc = record { small = omega (arith, lq, lc); allowed = own_place (place_of Newer (fields.Entry q c 0)) (index_of (Entry q c 0)) (omega arith); exact = tt }

    code_fits : (q c : ℕ) (o : Option Reason) → At a (Args q c 2) (code_of o)
    code_fits q c None = zero_fits n (minor a) a (Args q c 2) tt
    code_fits q c (Some r) = let l = code_allowed r in record { small = l.0; allowed = l.1; exact = tt }

    flag_fits : (q c : ℕ) (j : Kind) → c < 4 → At q (Flag a) (w q (Flag a)) → At q (Flag a) (bit_or (w q (Flag a)) (flag c j))
    flag_fits q c j lc f =
        let h = IsFlagWord-set (w q (Flag a)) c j lc (flags_word (w q (Flag a)) f.allowed) in
        let l = h.within in
        record { small = omega (arith, l); allowed = flags_allowed (bit_or (w q (Flag a)) (flag c j)) h; exact = tt }

    session_fits : (q : ℕ) → At a (Record q 1) (session_word (session_next st.stamp (peer_of st q).engage))
    session_fits q =
        let c = (k.peers q).count in
        let t = k.stamp in
        record { small = omega (arith, c, t, few); allowed = refl; exact = tt }

    echo_fits : (q : ℕ) (o : Option ℕ) → ((v : ℕ) → o ≡ Some v → v < 2 ^ 64) → At a (Record q 2) (or_zero o)
    echo_fits q None h = zero_fits n (minor a) a (Record q 2) tt
    echo_fits q (Some v) h = record { small = h v refl; allowed = refl; exact = tt }

    stamp_fits : (o : Option ℕ) → IsSome o → ((v : ℕ) → o ≡ Some v → v + 1 ≤ st.clock.boots) → At a (Open STAMP) (or_zero o + 1)
    stamp_fits None s h = absurd (cc)
    stamp_fits (Some v) s h = let l = h v refl in record { small = omega (arith, l, few); allowed = stamp_allowed (v + 1) (omega (arith, l, few)); exact = λ e. absurd (omega (arith, e)) }

    peer_low : (q : ℕ) → q < s.count → q < 64
    peer_low q l = omega (arith, l, high)

    pub good : (r : Rule) → Can su st r → FitsAfter r
    good (Link q c (Ring ReadGet)) can = old (Link q c (Ring ReadGet)) can
    good (Link q c (Ring (WriteEntryWord f))) can = entry_fits q c f can
    good (Link q c (Ring AcceptMessage)) can = let b = (ends q c).puts in let g = k.begun in counted q c 1 ((e_of q c).sides.send.put + 1) (omega (arith, b, g, short))
    good (Link q c (Pull ReadCounters)) can = old (Link q c (Pull ReadCounters)) can
    good (Link q c (Pull ReadEntry)) can = old (Link q c (Pull ReadEntry)) can
    good (Link q c Acknowledge) can = let b = (ends q c).gets in let g = k.begun in counted q c 0 (e_of q c).sides.ack.front (omega (arith, b, g, short))
    good (Link q c (SetFlag j)) can = flag_fits q c j can.1.0.peer.2 (old (Link q c (SetFlag j)) can)
    good (Link q c ZeroGet) can = zero_fits n (minor a) a (Counter q c 0) tt
    good (Link q c ZeroPut) can = zero_fits n (minor a) a (Counter q c 1) tt
    good (Link q c (StoreArgument Request)) can = request_fits q c (e_of q c).registration (ends q c).size
    good (Link q c (StoreArgument Reply)) can = reply_fits q c (peer_low q can.1.0.peer.0) can.1.0.peer.2
    good (Link q c (StoreArgument Code)) can = code_fits q c (e_of q c).shake.reason
    good (Link q c (ReadArgument x)) can = old (Link q c (ReadArgument x)) can
    good (ForPeer q AskActivation) can = activation_fits q _ (others_or n q (w q (Open ACTIVATION)) a la (λ e. can.1.0.other (sym e)) (was_others ACTIVATION q _ refl (old (ForPeer q AskActivation) can)))
    good (ForPeer q TakeFlags) can = zero_fits n (minor a) a (Flag q) tt
    good (ForPeer q CloseArea) can = zero_fits n (minor a) a (Record q 0) tt
    good (ForPeer q ZeroMagic) can = zero_fits n (minor a) a (Record q 0) tt
    good (ForPeer q ClearOldBit) can = engaged_fits q _ (others_and n q (w q (Open ENGAGED)) _ (was_others ENGAGED q _ refl (old (ForPeer q ClearOldBit) can)))
    good (ForPeer q (Prepare SessionWord)) can = session_fits q
    good (ForPeer q (Prepare EchoWord)) can = zero_fits n (minor a) a (Record q 2) tt
    good (ForPeer q (Prepare FlagWord)) can = zero_fits n (minor a) a (Flag q) tt
    good (ForPeer q (Prepare (PlaceWord ArgsPlace))) can = let l = peer_low q can.1.0.low in record { small = omega (arith, l); allowed = own_place (place_of Newer (fields.Args q 0 0)) (field_word q ArgsPlace) (omega arith); exact = tt }
    good (ForPeer q (Prepare (PlaceWord CountersPlace))) can = let l = peer_low q can.1.0.low in record { small = omega (arith, l); allowed = own_place (place_of Newer (fields.Counter q 0 0)) (field_word q CountersPlace) (omega arith); exact = tt }
    good (ForPeer q (Prepare (PlaceWord FlagPlace))) can = let l = peer_low q can.1.0.low in record { small = omega (arith, l); allowed = own_place (place_of Newer (fields.Flag q)) (field_word q FlagPlace) (omega arith); exact = tt }
    good (ForPeer q (Prepare (PlaceWord ChannelCount))) can = record { small = omega arith; allowed = refl; exact = tt }
    good (ForPeer q (Prepare (PlaceWord Spare))) can = record { small = omega arith; allowed = refl; exact = tt }
    good (ForPeer q (Prepare (ArgsWord c f))) can = zero_fits n (minor a) a (Args q c f) tt
    good (ForPeer q (Prepare (CounterWord c f))) can = zero_fits n (minor a) a (Counter q c f) tt
    good (ForPeer q OpenArea) can = record { small = omega arith; allowed = refl; exact = tt }
    good (ForPeer q SetEngagementBit) can = engaged_fits q _ (others_or n q (w q (Open ENGAGED)) a la (λ e. can.1.0.other (sym e)) (was_others ENGAGED q _ refl (old (ForPeer q SetEngagementBit) can)))
    good (ForPeer q ReadRecord) can = old (ForPeer q ReadRecord) can
    good (ForPeer q StoreEcho) can = echo_fits q (peer_of st q).engage.read (k.peers q).read
    good (ForPeer q StoreSecond) can = record { small = omega arith; allowed = refl; exact = tt }
    good (ForPeer q ClearEngagementBit) can = engaged_fits q _ (others_and n q (w q (Open ENGAGED)) _ (was_others ENGAGED q _ refl (old (ForPeer q ClearEngagementBit) can)))
    good (ForPeer q LookAtPage) can = old (ForPeer q LookAtPage) can
    good (ForPeer q CheckBeat) can = old (ForPeer q CheckBeat) can
    good (ForPeer q ClearDeactivationBit) can = deactivation_fits a _ (others_and n a (w a (Open DEACTIVATION)) _ (was_others DEACTIVATION a _ refl (old (ForPeer q ClearDeactivationBit) can)))
    good (ForPeer q TellPartner) can = deactivation_fits q _ (others_or n q (w q (Open DEACTIVATION)) a la (λ e. can.1.0.other (sym e)) (was_others DEACTIVATION q _ refl (old (ForPeer q TellPartner) can)))
    good (Own ReadEngaged) can = old (Own ReadEngaged) can
    good (Own TakeDeactivation) can = deactivation_fits a 0 (others_zero n a)
    good (Own ReadStamp) can = old (Own ReadStamp) can
    good (Own ZeroMask) can = mask_fits a 0 (others_zero n a)
    good (Own ZeroOffline) can = record { small = omega arith; allowed = refl; exact = λ e. absurd (omega (arith, e)) }
    good (Own WriteStamp) can = stamp_fits st.boot.read can.1.0 k.read
    good (Own StoreMask) can = mask_fits a (mask_from 0 st.peers) (mask_others n a st.peers k.all.partners k.own)
    good (Own TakeActivation) can = activation_fits a 0 (others_zero n a)
    good (Own StoreBeat) can = record { small = mod_below (st.beats.count + 1) (2 ^ 64) (omega arith); allowed = refl; exact = λ e. absurd (omega (arith, e)) }
    good (Own StoreOffline) can = let l = offline_low (part_of s a) (longest_limit (minor a)) (w a (Open STAMP)) st k can.1 in let b = k.begun in record { small = omega (arith, l, b, short); allowed = refl; exact = λ e. absurd (omega (arith, e)) }
