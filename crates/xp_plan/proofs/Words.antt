-- The words of a queue that a message's entry, and a run of entries, have.
use Rattle.std.proofs.Common.{◌≡◌, ℕ, zero, suc, ◌+◌, ◌-◌, ◌*◌, ◌%◌, ◌^◌, ◌<◌, ◌≤◌, Bool, true, false, refl, sym, ap, ◌∙◌, subst, arith, length, bit_and, ⊎_elim, mul-le-mul_left}
use Rattle.std.specs.Prelude.{if◌then◌else◌, nat_eq}
use Rattle.std.specs.Int.{trailing_ones, w128}
use Rattle.std.proofs.lemmas.Bool.{cases_lt}
use Rattle.std.proofs.lemmas.Bool.Decides.{nat_tests}
use Rattle.std.proofs.lemmas.Nat.Bits.{bit_at-trailing_ones, and_pow, bit_at_ones, same_from_bits_below}
use Rattle.std.proofs.Math.Nat.{mod-lt}
use Rattle.xp_base.specs.declared.layout.TheConstants.{QUEUE_WORDS}
use Rattle.xp_base.specs.Entries.{entry_words}
use Rattle.xp_protocol.specs.Parts.{IsRequestSize}
use Rattle.xp_protocol.specs.Pulling.{Pulling, words_each, first_slot, run_now, run_there, lesser}
use Rattle.xp_plan.specs.Sound.{IsPulling}

power_some : (w : ℕ) → 0 < w → 1 < 2 ^ w
power_some zero h = absurd (omega (arith, h))
power_some (suc zero) h = omega arith
power_some (suc (suc w)) h = omega (arith, power_some (suc w) (omega arith))

power_below : (f w : ℕ) → f < w → 2 ^ f < 2 ^ w
power_below zero w h = power_some w h
power_below (suc f) zero h = absurd (omega (arith, h))
power_below (suc f) (suc w) h = omega (arith, power_below f w (omega (arith, h)))

power_most : (w : ℕ) → w ≤ 128 → 2 ^ w ≤ 2 ^ 128
power_most w h = ⊎_elim {C = 2 ^ w ≤ 2 ^ 128} (λ (l : w < 128). let p = power_below w 128 l in omega (arith, p)) (λ (le : 128 ≤ w). let e : w ≡ 128 = omega (arith, h, le) in subst (λ (k : ℕ). 2 ^ k ≤ 2 ^ 128) (sym e) (omega arith)) (cases_lt w 128)

-- the lowest word that wasn't stored
pub missing : (n words : ℕ) → words ≤ 128 → n < 2 ^ words - 1 → (trailing_ones w128 n < words) × (bit_and n (2 ^ trailing_ones w128 n) ≡ 0)
missing n words few h =
    let m = power_most words few in
    let t = bit_at-trailing_ones w128 n (omega (arith, h, m)) in
    let low : trailing_ones w128 n < words = ⊎_elim {C = trailing_ones w128 n < words} (λ l. l)
    (λ (le : words ≤ trailing_ones w128 n).
    let e : n ≡ 2 ^ words - 1 = same_from_bits_below words n (2 ^ words - 1) (omega (arith, h)) (omega (arith, h)) (λ i l. t.2 i (omega (arith, l, le)) ∙ sym (bit_at_ones words i l)) in
    absurd (omega (arith, h, e)))
    (cases_lt (trailing_ones w128 n) words) in
    (low, and_pow n (trailing_ones w128 n) ∙ ap (λ x. x * 2 ^ trailing_ones w128 n) t.1 ∙ omega arith)

-- an entry has a word, and all entries fit the queue
pub has_words : (limit : ℕ) → 0 < entry_words limit
has_words limit = omega arith

pub all_fit : (entries limit : ℕ) → IsRequestSize entries limit → entry_words limit * entries ≤ QUEUE_WORDS
all_fit entries limit h = let p = h.3 in omega (arith, p)

within : (words entries k f : ℕ) → k < entries → f < words → words * entries ≤ QUEUE_WORDS → words * k + f < QUEUE_WORDS
within words entries k f low few all = let p : words * (k + 1) ≤ words * entries = mul-le-mul_left words (omega (arith, low)) in omega (arith, p, few, all)

one_fits : (words entries : ℕ) → 0 < entries → words * entries ≤ QUEUE_WORDS → words ≤ QUEUE_WORDS
one_fits words entries some all = let p : words * 1 ≤ words * entries = mul-le-mul_left words (omega (arith, some)) in omega (arith, p, all)

pub slot_low : (entries limit : ℕ) → IsRequestSize entries limit → (entry_words limit ≤ 128) × ((n f : ℕ) → f < entry_words limit → entry_words limit * (n % entries) + f < QUEUE_WORDS)
slot_low entries limit h =
    let all = all_fit entries limit h in
    (one_fits (entry_words limit) entries h.0 all, λ n f l. within (entry_words limit) entries (n % entries) f (mod-lt n h.0) l all)

-- a run that goes on, and one that begins
some_lesser : (a b : ℕ) → 0 < a → 0 < b → 0 < lesser a b
some_lesser a b p q = grind (arith, nat_tests)

fits_to_end : (words entries k run n : ℕ) → k < entries → run ≤ entries - k → n < words * run → words * entries ≤ QUEUE_WORDS → words * k + n < QUEUE_WORDS
fits_to_end words entries k run n low few l all =
    let p : words * (k + run) ≤ words * entries = mul-le-mul_left words (omega (arith, low, few)) in
    omega (arith, p, l, all)

none_of : (words run : ℕ) → 0 < words → 0 < run → 0 < words * run
none_of words run p q = let m : words * 1 ≤ words * run = mul-le-mul_left words (omega (arith, q)) in omega (arith, m, p)

pub run_low : (x : Pulling) → IsPulling x → x.pulled < x.pulled_put → (first_slot x + length x.copied < QUEUE_WORDS) × (length x.copied < words_each x * run_now x)
run_low x h more = by (nat_eq (length x.copied) 0) test where
  low : x.pulled % x.entries < x.entries
  low = mod-lt x.pulled h.size.0

  all : words_each x * x.entries ≤ QUEUE_WORDS
  all = all_fit x.entries x.limit h.size

  test : (nat_eq (length x.copied) 0 ≡ true → length x.copied ≡ 0) × (nat_eq (length x.copied) 0 ≡ false → 0 < length x.copied)
  test = (λ e. grind (arith, nat_tests), λ e. grind (arith, nat_tests))

  by : (b : Bool) → (b ≡ true → length x.copied ≡ 0) × (b ≡ false → 0 < length x.copied) → (first_slot x + length x.copied < QUEUE_WORDS) × (length x.copied < words_each x * (if b then run_there x else x.run))
  by true t =
      let e = t.0 refl in
      let w = has_words x.limit in
      let l = low in
      let run = some_lesser (x.pulled_put - x.pulled) (x.entries - x.pulled % x.entries) (omega (arith, more)) (omega (arith, l)) in
      let p = within (words_each x) x.entries (x.pulled % x.entries) 0 low w all in
      let q = none_of (words_each x) (run_there x) w run in
      (omega (arith, p, e), omega (arith, q, e))
  by false t = let r = h.run (t.1 refl) in (fits_to_end (words_each x) x.entries (x.pulled % x.entries) x.run (length x.copied) low r.entries r.words all, r.words)
