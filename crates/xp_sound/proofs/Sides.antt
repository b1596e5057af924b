-- The sides of an end, and the numbers that wait for their notices, whatever changes them.
use Rattle.std.proofs.Common.{◌≡◌, ℕ, ◌+◌, ◌-◌, ◌*◌, ◌%◌, ◌^◌, ◌<◌, ◌≤◌, Bool, true, false, ◌&&◌, ◌||◌, cond, nat_eq, nat_lt, bit_or, List, [], ◌∷◌, ◌++◌, length, length-append, refl, arith, mul-le-mul_left, Option, Some, None}
use Rattle.std.proofs.lemmas.Bool.Decides.{nat_tests}
use Rattle.std.proofs.lemmas.Nat.{or_lt, pow_below, pow_pos}
use Rattle.xp_base.specs.declared.layout.TheConstants.{LINES}
use Rattle.xp_base.specs.declared.body.TheConstants.{BODY_BYTES}
use Rattle.xp_base.specs.declared.reason.Reason.{Reason}
use Rattle.xp_base.specs.Entries.{lines, entry_words}
use Rattle.xp_protocol.specs.declared.rule.RingRule.TheVariants.{WriteEntryWord, AcceptMessage}
use Rattle.xp_protocol.specs.declared.rule.PullRule.TheVariants.{ReadEntry}
use Rattle.xp_protocol.specs.Parts.{IsRequestSize}
use Rattle.xp_protocol.specs.Sending.{Sending, Send, new_sending, words_each, send_over, with_remote_get, ring_can}
use Rattle.xp_protocol.specs.Pulling.{Pulling, new_pulling, words_each as pulled_words_each, lesser, run_there, run_now, run_fault, run_copied, entry_pulled, pull_can}
use Rattle.xp_protocol.specs.Linking.{entries_in, limit_in, asked_more}
use Rattle.xp_protocol.specs.Acts.{below}
use Rattle.xp_protocol.specs.State.{Size}
use Rattle.xp_plan.specs.Sound.{IsPulling}
use Rattle.xp_plan.proofs.Words.{has_words}
use Rattle.xp_sound.specs.Consistent.{HasSize, IsWriting, AreRising}

-- ---- sizes
-- the size that a word says, where it is one that requests may have
pub said_size : (a b : ℕ) → (nat_lt 0 a && (nat_lt a (LINES + 1) && (nat_lt b (BODY_BYTES + 1) && nat_lt (a * lines b) (LINES + 1)))) ≡ true → IsRequestSize a b
said_size a b e = by (a * lines b) e where
  by : (n : ℕ) → (nat_lt 0 a && (nat_lt a (LINES + 1) && (nat_lt b (BODY_BYTES + 1) && nat_lt n (LINES + 1)))) ≡ true → (0 < a) × (a ≤ LINES) × (b ≤ BODY_BYTES) × (n ≤ LINES)
  by n f = (grind (arith, nat_tests), grind (arith, nat_tests), grind (arith, nat_tests), grind (arith, nat_tests))

lesser_low : (a b : ℕ) → (lesser a b ≤ a) × (lesser a b ≤ b)
lesser_low a b = (grind (arith, nat_tests), grind (arith, nat_tests))

fewer_lines : (a b : ℕ) → a ≤ b → lines a ≤ lines b
fewer_lines a b l = omega (arith, l)

-- a lesser limit needs no more lines
shorter : (entries a b : ℕ) → a ≤ b → IsRequestSize entries b → IsRequestSize entries a
shorter entries a b l z =
    let few : entries * lines a ≤ entries * lines b = mul-le-mul_left entries (fewer_lines a b l) in
    let short = z.2 in
    let all = z.3 in
    (z.0, z.1, omega (arith, l, short), omega (arith, few, all))

pub agreed_sizes : (own theirs : Option Size) → HasSize own → HasSize theirs →
    IsRequestSize (entries_in own) (lesser (limit_in own) (limit_in theirs)) × IsRequestSize (entries_in theirs) (lesser (limit_in own) (limit_in theirs))
agreed_sizes None theirs a b = absurd a
agreed_sizes (Some x) None a b = absurd b
agreed_sizes (Some x) (Some y) a b = let l = lesser_low x.limit y.limit in (shorter x.entries (lesser x.limit y.limit) x.limit l.0 a, shorter y.entries (lesser x.limit y.limit) y.limit l.1 b)

-- ---- the sending side
pub new_send : (entries limit : ℕ) → IsRequestSize entries limit → IsWriting (new_sending entries limit)
new_send entries limit z = record {
  sending = record { size = z; get = omega arith; room = omega arith; words = pow_pos (entry_words limit) };
  room = λ l. absurd (omega (arith, l));
}

pub no_words : (o : Option Send) (x : Sending) → IsWriting x → IsWriting (record x { send = o; written_words = 0 })
no_words o x h = record {
  sending = record { size = h.sending.size; get = h.sending.get; room = h.sending.room; words = pow_pos (words_each x) };
  room = λ l. absurd (omega (arith, l));
}

pub with_get : (get : ℕ) (x : Sending) → x.remote_get ≤ get → get ≤ x.put → IsWriting x → IsWriting (with_remote_get get x)
with_get get x l m h = let r = h.sending.room in record {
  sending = record { size = h.sending.size; get = m; room = omega (arith, r, l); words = h.sending.words };
  room = λ k. let w = h.room k in omega (arith, w, l);
}

-- a get that isn't refused lies between the known one and put
pub good_get : (get low put : ℕ) → (nat_lt get low || nat_lt put get) ≡ false → (low ≤ get) × (get ≤ put)
good_get get low put e = (grind (arith, nat_tests), grind (arith, nat_tests))

pub word_written : (f : ℕ) (x : Sending) → ring_can x (WriteEntryWord f) → IsWriting x → IsWriting (record x { written_words = bit_or x.written_words (2 ^ f) })
word_written f x can h = record {
  sending = record { size = h.sending.size; get = h.sending.get; room = h.sending.room; words = or_lt (words_each x) x.written_words (2 ^ f) h.sending.words (pow_below f (words_each x) can.3) };
  room = λ l. can.1;
}

-- a message is accepted only where there is room for it
pub room_left : (x : Sending) → ring_can x AcceptMessage → IsWriting x → x.put < x.remote_get + x.entries
room_left x can h =
    let some = pow_below 0 (words_each x) (has_words x.limit) in
    let all = can.1 in
    h.room (omega (arith, some, all))

pub accepted : (x : Sending) → ring_can x AcceptMessage → IsWriting x → IsWriting (record (send_over x) { put = x.put + 1 })
accepted x can h =
    let l = room_left x can h in
    let g = h.sending.get in
    record {
      sending = record { size = h.sending.size; get = omega (arith, g); room = omega (arith, l); words = pow_pos (words_each x) };
      room = λ k. absurd (omega (arith, k));
    }

-- ---- the receiving side
-- what its soundness rests on
abbrev pub IsPulledBy : ℕ → ℕ → ℕ → List ℕ → ℕ → Type 0
IsPulledBy entries limit pulled copied run = IsRequestSize entries limit × (0 < length copied → (length copied < entry_words limit * run) × (run ≤ entries - pulled % entries))

pub pulled_by : (x : Pulling) → IsPulling x → IsPulledBy x.entries x.limit x.pulled x.copied x.run
pulled_by x h = (h.size, λ l. ((h.run l).words, (h.run l).entries))

pub pulls_by : (x : Pulling) → IsPulledBy x.entries x.limit x.pulled x.copied x.run → IsPulling x
pulls_by x h = record { size = h.0; run = λ l. record { words = (h.1 l).0; entries = (h.1 l).1 } }

-- where no entry is being copied
pub no_copy : (entries limit pulled : ℕ) (run : ℕ) → IsRequestSize entries limit → IsPulledBy entries limit pulled [] run
no_copy entries limit pulled run z = (z, λ l. absurd (omega (arith, l)))

pub new_pull : (entries limit : ℕ) → IsRequestSize entries limit → IsPulling (new_pulling entries limit)
new_pull entries limit z = pulls_by (new_pulling entries limit) (no_copy entries limit 0 0 z)

run_low : (x : Pulling) → IsPulling x → run_now x ≤ x.entries - x.pulled % x.entries
run_low x h = by (nat_eq (length x.copied) 0) test where
  test : nat_eq (length x.copied) 0 ≡ false → 0 < length x.copied
  test e = grind (arith, nat_tests)

  by : (b : Bool) → (b ≡ false → 0 < length x.copied) → cond b (run_there x) x.run ≤ x.entries - x.pulled % x.entries
  by true t = (lesser_low (x.pulled_put - x.pulled) (x.entries - x.pulled % x.entries)).1
  by false t = (h.run (t refl)).entries

-- one more word of an entry is copied
pub entry_copied : (x : Pulling) (w : ℕ) → pull_can x ReadEntry → IsPulling x → IsPulling (entry_pulled (x.copied ++ w ∷ []) x).local
entry_copied x w can h = by (nat_eq (length words) (pulled_words_each x * run_now x)) test (run_fault x.limit x.pulled (run_now x) words) where
  words : List ℕ
  words = x.copied ++ w ∷ []

  more : length words ≡ length x.copied + 1
  more = length-append x.copied (w ∷ [])

  test : nat_eq (length words) (pulled_words_each x * run_now x) ≡ false → length words < pulled_words_each x * run_now x
  test e = below_all (length x.copied) (length words) (pulled_words_each x * run_now x) can.2 more e where
    below_all : (a b n : ℕ) → a < n → b ≡ a + 1 → nat_eq b n ≡ false → b < n
    below_all a b n l m f = grind (arith, nat_tests)

  by : (b : Bool) → (b ≡ false → length words < pulled_words_each x * run_now x) → (o : Option Reason) → IsPulling (cond b (run_copied o (run_now x) words x) (record { local = record x { copied = words; run = run_now x }; reason = None; notes = [] })).local
  by true t None = pulls_by _ (no_copy x.entries x.limit (x.pulled + run_now x) 0 h.size)
  by true t (Some reason) = pulls_by _ (no_copy x.entries x.limit x.pulled 0 h.size)
  by false t o = pulls_by _ (h.size, λ l. (t refl, run_low x h))

-- ---- the numbers that wait
pub lower : (low less high : ℕ) (xs : List ℕ) → less ≤ low → AreRising low high xs → AreRising less high xs
lower low less high [] l h = tt
lower low less high (x ∷ xs) l h = let k = h.0 in (omega (arith, l, k), h.1, h.2)

pub without_one : (high number : ℕ) (xs : List ℕ) → AreRising 0 high (number ∷ xs) → AreRising 0 high xs
without_one high number xs h = lower (number + 1) 0 high xs (omega arith) h.2

one_more : (low high : ℕ) (xs : List ℕ) → low ≤ high → AreRising low high xs → AreRising low (high + 1) (xs ++ high ∷ [])
one_more low high [] l h = (l, omega arith, tt)
one_more low high (x ∷ xs) l h = let k = h.1 in (h.0, omega (arith, k), one_more (x + 1) high xs (omega (arith, k)) h.2)

higher : (low high : ℕ) (xs : List ℕ) → AreRising low high xs → AreRising low (high + 1) xs
higher low high [] h = tt
higher low high (x ∷ xs) h = let k = h.1 in (h.0, omega (arith, k), higher (x + 1) high xs h.2)

pub asked : (put : ℕ) (asks : Bool) (xs : List ℕ) → AreRising 0 put xs → AreRising 0 (put + 1) (asked_more put asks xs)
asked put true xs h = one_more 0 put xs (omega arith) h
asked put false xs h = higher 0 put xs h

-- there are no more of them than numbers in their range
pub fewer : (low high : ℕ) (xs : List ℕ) → low ≤ high → AreRising low high xs → length xs + low ≤ high
fewer low high [] l h = omega (arith, l)
fewer low high (x ∷ xs) l h = let a = h.0 in let b = h.1 in let k = fewer (x + 1) high xs (omega (arith, b)) h.2 in omega (arith, a, k)

-- where none of them lies below a get, their range begins with it
pub none_below : (get high : ℕ) (xs : List ℕ) → below get xs ≡ None → AreRising 0 high xs → AreRising get high xs
none_below get high [] e h = tt
none_below get high (x ∷ xs) e h = (by (nat_lt x get) test e, h.1, h.2) where
  test : nat_lt x get ≡ false → get ≤ x
  test f = grind (arith, nat_tests)

  by : (b : Bool) → (b ≡ false → get ≤ x) → cond b (Some x) None ≡ None → get ≤ x
  by true t f = absurd (cc)
  by false t f = t refl

-- so one more may wait where none of them does and a message is accepted
pub number_left : (x : Sending) (xs : List ℕ) → ring_can x AcceptMessage → IsWriting x → AreRising 0 x.put xs → below x.remote_get xs ≡ None → length xs < LINES
number_left x xs can h rising told =
    let few = fewer x.remote_get x.put xs h.sending.get (none_below x.remote_get x.put xs told rising) in
    let room = room_left x can h in
    let lines = h.sending.size.1 in
    omega (arith, few, room, lines)

pub one_longer : (put : ℕ) (asks : Bool) (xs : List ℕ) → length xs < LINES → length (asked_more put asks xs) ≤ LINES
one_longer put true xs l = omega (arith, l, length-append xs (put ∷ []))
one_longer put false xs l = omega (arith, l)
