-- Which word fits a place of a partition: it has 64 bits, the row of the place in the table of dumps allows it, and the version word is the scenario's.
use Rattle.std.proofs.Common.{◌≡◌, ℕ, zero, suc, ◌+◌, ◌-◌, ◌*◌, ◌/◌, ◌%◌, ◌^◌, ◌<◌, ◌≤◌, Bool, true, false, ◌&&◌, ◌||◌, cond, eqb, bit_or, bit_and, List, length, refl, ap, sym, ◌∙◌, subst, arith, inl, inr, ◌⊎◌}
use Rattle.std.specs.Prelude.{nat_lt, nat_le, ◌==◌}
use Rattle.std.specs.Int.{bit_at}
use Rattle.std.proofs.lemmas.Bool.{cond_both, and_parts, eqb-true, eq-eqb, cases_eq, ltb-true}
use Rattle.std.proofs.lemmas.Bool.Decides.{nat_tests}
use Rattle.std.proofs.lemmas.Nat.{or_lt, and_le_l, pow_pos, pow_below}
use Rattle.std.proofs.lemmas.Nat.Bits.{bit_at_or, bit_at_and, bit_at-pow_other, bit_at-zero}
use Rattle.std.proofs.Math.Nat.{div-lt_iff_lt-mul}
use Rattle.byteorder.specs.Numbers.{little_from-lt}
use Rattle.xp_base.specs.declared.layout.TheConstants.{VERSION_AT, BUFFER_WORDS}
use Rattle.xp_base.specs.declared.step.OpKind.{OpKind}
use Rattle.xp_base.specs.declared.step.OpKind.TheVariants.{Load, Store, Or, And, Take}
use Rattle.xp_base.specs.declared.reason.Reason.{Reason}
use Rattle.xp_base.specs.declared.reason.Reason.TheVariants.{Unregistered, PartnerClosed, UnequalSizes, CopyError, NoHeartbeat, Reactivating, OtherGoingDown, Unloading, BadVersion, BadMagic, BadArgs, BadCounters, BadLength, BadNumber, BadFlags}
use Rattle.xp_base.specs.Reasons.{reason_code}
use Rattle.xp_base.specs.Entries.{lines, entry_words, message_word}
use Rattle.xp_base.specs.Kinds.{IsFlagWord, spare_in}
use Rattle.xp_base.specs.Places.{Place, Open, Record, Flag, Args, Counter, Entry, Pool, Beyond, IsWithin}
use Rattle.xp_page.specs.declared.grammar.Allowed.TheVariants.{Others, Request, Length as LengthWord, FlagBits as Flags, ZeroOr, Between}
use Rattle.xp_page.specs.declared.grammar.PageCause.TheVariants.{Length as LengthCause}
use Rattle.xp_page.specs.Grammar.{allows, row, any, are_entries, no_spare}
use Rattle.xp_page.specs.Reading.{row_at}
use Rattle.xp_dump_table.specs.declared.layout.Layout.TheVariants.{Newer}
use Rattle.xp_dump_table.specs.declared.layout.Field.{Field}
use Rattle.xp_dump_table.specs.declared.layout.Field.TheVariants as fields
use Rattle.xp_dump_table.specs.declared.table.Part.{Part}
use Rattle.xp_dump_table.specs.Table.{row_of, entry_row, has_lines, args_table, record_table}
use Rattle.xp_script.specs.Lawful.{AreBytes}
use Rattle.xp_script.specs.Opening.{version_word}
use Rattle.xp_script.specs.Sizes.{longest_limit}
use Rattle.xp_protocol.specs.Parts.{IsRequestSize}
use Rattle.xp_protocol.specs.State.{Size, request_word}
use Rattle.xp_meetings.proofs.Words.{Words, same, same_told, write, does}

abbrev pub field_of : Place → Field
field_of (Open k) = fields.Open k
field_of (Record q f) = fields.Record q f
field_of (Flag q) = fields.Flag q
field_of (Args q c f) = fields.Args q c f
field_of (Counter q c f) = fields.Counter q c f
field_of (Entry q c w) = fields.Entry q c w
field_of (Pool b f) = fields.Pool (BUFFER_WORDS * b + f)
field_of Beyond = fields.Pool 0

-- partition o of n, of this minor version
abbrev pub part_at : ℕ → ℕ → ℕ → Part
part_at n minor o = record { layout = Newer; owner = o; count = n; version = version_word minor }

abbrev pub Exact : ℕ → Place → ℕ → Type 0
Exact minor (Open k) v = k ≡ VERSION_AT → v ≡ version_word minor
Exact minor pl v = Unit {0}

pub record Fits (n minor o : ℕ) (pl : Place) (v : ℕ) : Type 0 where
  pub small : v < 2 ^ 64
  pub allowed : allows (row_of (part_at n minor o) (field_of pl)).allowed v ≡ true
  pub exact : Exact minor pl v

-- all words of n partitions
abbrev pub AllFit : ℕ → (ℕ → ℕ) → Words → Type 0
AllFit n minor w = (p : ℕ) (x : Place) → p < n → IsWithin x → Fits n (minor p) p x (w p x)

-- the word after a step on it
abbrev pub stepped : OpKind → ℕ → ℕ
stepped Load x = x
stepped (Store v) x = v
stepped (Or v) x = bit_or x v
stepped (And v) x = bit_and x v
stepped Take x = 0

pub write_fits : (n : ℕ) (minor : ℕ → ℕ) (w : Words) (o : ℕ) (pl : Place) (v : ℕ) → Fits n (minor o) o pl v → AllFit n minor w → AllFit n minor (write w o pl v)
write_fits n minor w o pl v new old p x lp lx = cond_both (same pl x && eqb o p) v (w p x) (λ (t : ℕ). Fits n (minor p) p x t)
    (λ e. (let z = and_parts (same pl x) (eqb o p) e in subst (λ (k : ℕ). Fits n (minor k) k x v) (eqb-true o p z.1) (subst (λ (y : Place). Fits n (minor o) o y v) (same_told pl x z.0) new))) (λ e. old p x lp lx)

pub does_fits : (n : ℕ) (minor : ℕ → ℕ) (w : Words) (k : OpKind) (o : ℕ) (pl : Place) → Fits n (minor o) o pl (stepped k (w o pl)) → AllFit n minor w → AllFit n minor (does k o pl w)
does_fits n minor w Load o pl new old = old
does_fits n minor w (Store v) o pl new old = write_fits n minor w o pl v new old
does_fits n minor w (Or v) o pl new old = write_fits n minor w o pl (bit_or (w o pl) v) new old
does_fits n minor w (And v) o pl new old = write_fits n minor w o pl (bit_and (w o pl) v) new old
does_fits n minor w Take o pl new old = write_fits n minor w o pl 0 new old

-- ---- masks of other partitions
low_of : (v p : ℕ) → 0 < p → v / p ≡ 0 → v < p
low_of v p h e = let one : v < 1 * p = (div-lt_iff_lt-mul {k = p} {x = v} {y = 1} h).0 (omega (arith, e)) in omega (arith, one)

none_of : (v p : ℕ) → 0 < p → v < p → v / p ≡ 0
none_of v p h l = let one : v / p < 1 = (div-lt_iff_lt-mul {k = p} {x = v} {y = 1} h).1 (omega (arith, l)) in omega (arith, one)

pub record IsOthers (n o v : ℕ) : Type 0 where
  pub low : v < 2 ^ n
  pub bit : bit_at v o ≡ 0

pub others_allowed : (n o v : ℕ) → IsOthers n o v → allows (Others n o) v ≡ true
others_allowed n o v h = λ i. (none_of v (2 ^ n) (pow_pos n) h.low i == 0) && (h.bit i == 0)

pub allowed_others : (n o v : ℕ) → allows (Others n o) v ≡ true → IsOthers n o v
allowed_others n o v e = let a = and_parts (v / 2 ^ n == 0) (bit_at v o == 0) e in record { low = low_of v (2 ^ n) (pow_pos n) (eqb-true (v / 2 ^ n) 0 a.0); bit = eqb-true (bit_at v o) 0 a.1 }

pub others_or : (n o v q : ℕ) → q < n → (q ≡ o → ⊥) → IsOthers n o v → IsOthers n o (bit_or v (2 ^ q))
others_or n o v q l d h = record {
  low = or_lt n v (2 ^ q) h.low (pow_below q n l);
  bit = omega (arith, bit_at_or v (2 ^ q) o, bit_at-pow_other q o (λ e. d (sym e)), h.bit);
}

pub others_and : (n o v x : ℕ) → IsOthers n o v → IsOthers n o (bit_and v x)
others_and n o v x h = record {
  low = omega (arith, and_le_l v x, h.low);
  bit = omega (arith, bit_at_and v x o, h.bit);
}

pub others_zero : (n o : ℕ) → IsOthers n o 0
others_zero n o = record { low = pow_pos n; bit = bit_at-zero o }

-- a mask of at most 64 partitions has 64 bits
pub mask_small : (n v : ℕ) → n ≤ 64 → v < 2 ^ n → v < 2 ^ 64
mask_small n v l h = by (cases_eq n 64) where
  by : (n ≡ 64) ⊎ (n ≡ 64 → ⊥) → v < 2 ^ 64
  by (inl e) = subst (λ (k : ℕ). v < 2 ^ k) e h
  by (inr d) = let less : 2 ^ n < 2 ^ 64 = pow_below n 64 (omega (arith, l, d)) in omega (arith, less, h)

-- ---- flag words
four_and : (a b c d : Bool) → a ≡ true → b ≡ true → c ≡ true → d ≡ true → (a && (b && (c && d))) ≡ true
four_and a b c d h i j k = λ n. h n && (i n && (j n && k n))

pub flags_word : (v : ℕ) → allows Flags v ≡ true → IsFlagWord v
flags_word v e =
    let a = and_parts (nat_lt v (256 ^ 4)) (no_spare v) e in
    let b = and_parts (spare_in v 0 == 0) _ a.1 in
    let c = and_parts (spare_in v 1 == 0) _ b.1 in
    let d = and_parts (spare_in v 2 == 0) (spare_in v 3 == 0) c.1 in
    record { within = ltb-true v (256 ^ 4) a.0; spare = λ k l. spares v k (eqb-true (spare_in v 0) 0 b.0) (eqb-true (spare_in v 1) 0 c.0) (eqb-true (spare_in v 2) 0 d.0) (eqb-true (spare_in v 3) 0 d.1) l } where
      spares : (v k : ℕ) → spare_in v 0 ≡ 0 → spare_in v 1 ≡ 0 → spare_in v 2 ≡ 0 → spare_in v 3 ≡ 0 → k < 4 → spare_in v k ≡ 0
      spares v zero a b c d l = a
      spares v (suc zero) a b c d l = b
      spares v (suc (suc zero)) a b c d l = c
      spares v (suc (suc (suc zero))) a b c d l = d
      spares v (suc (suc (suc (suc k)))) a b c d l = absurd (omega (arith, l))

below_true : (a b : ℕ) → a < b → nat_lt a b ≡ true
below_true a b h = grind (arith, nat_tests)

pub flags_allowed : (v : ℕ) → IsFlagWord v → allows Flags v ≡ true
flags_allowed v h =
    let low : nat_lt v (256 ^ 4) ≡ true = below_true v (256 ^ 4) h.within in
    let spare : no_spare v ≡ true = four_and (spare_in v 0 == 0) (spare_in v 1 == 0) (spare_in v 2 == 0) (spare_in v 3 == 0) (eq-eqb (spare_in v 0) 0 (h.spare 0 (omega arith))) (eq-eqb (spare_in v 1) 0 (h.spare 1 (omega arith))) (eq-eqb (spare_in v 2) 0 (h.spare 2 (omega arith))) (eq-eqb (spare_in v 3) 0 (h.spare 3 (omega arith))) in
    λ i. low i && spare i

-- ---- the words of an entry
pub word_small : (k : ℕ) (payload : List ℕ) (f : ℕ) → k < 2 ^ 64 → length payload ≤ 1008 → AreBytes payload → message_word k payload f < 2 ^ 64
word_small k payload f low short bytes = cond_both (f == 0) (65536 + length payload) _ (λ n. n < 2 ^ 64) (λ e. omega (arith, short)) (λ e. cond_both (f == 1) k _ (λ n. n < 2 ^ 64) (λ d. low) (λ d. little_from-lt (8 * (f - 2)) 8 payload bytes))

one_line : (limit : ℕ) → limit ≤ 112 → entry_words limit ≡ 16
one_line limit h = omega (arith, h)

first_of_line : (m f : ℕ) → f < 16 → (16 * m + f) % 16 ≡ 0 → f ≡ 0
first_of_line m f l e = omega (arith, l, e)

length_allowed : (n : ℕ) → n ≤ 112 → allows LengthWord (65536 + n) ≡ true
length_allowed n h = grind (arith, nat_tests)

longest_one : (minor : ℕ) → nat_lt (48 + minor) 50 ≡ true → longest_limit minor ≡ 112
longest_one minor h = let l = ltb-true (48 + minor) 50 h in rw (not_above minor (omega (arith, l))) refl where
  not_above : (minor : ℕ) → minor ≤ 1 → nat_lt 1 minor ≡ false
  not_above minor l = grind (arith, nat_tests)

pub entry_allowed : (n minor o limit m k : ℕ) (payload : List ℕ) (f : ℕ) → limit ≤ longest_limit minor → length payload ≤ limit → f < entry_words limit → allows (entry_row (part_at n minor o) (entry_words limit * m + f)).allowed (message_word k payload f) ≡ true
entry_allowed n minor o limit m k payload f l short low = by (nat_lt (48 + minor) 50) refl where
  slot : ℕ
  slot = entry_words limit * m + f

  first : nat_lt (48 + minor) 50 ≡ true → slot % 16 ≡ 0 → f ≡ 0
  first t e =
      let one = longest_one minor t in
      let w : entry_words limit ≡ 16 = one_line limit (omega (arith, one, l)) in
      first_of_line m f (omega (arith, low, w)) (ap (λ (x : ℕ). (x * m + f) % 16) (sym w) ∙ e)

  here : (b : Bool) → nat_lt (48 + minor) 50 ≡ true → (slot % 16 == 0) ≡ b → allows (cond b (row LengthWord LengthCause) any).allowed (message_word k payload f) ≡ true
  here false t e = refl
  here true t e =
      let z = first t (eqb-true (slot % 16) 0 e) in
      let one = longest_one minor t in
      subst (λ (x : ℕ). allows LengthWord (message_word k payload x) ≡ true) (sym z) (length_allowed (length payload) (omega (arith, one, l, short)))

  by : (b : Bool) → nat_lt (48 + minor) 50 ≡ b → allows (cond (b && (slot % 16 == 0)) (row LengthWord LengthCause) any).allowed (message_word k payload f) ≡ true
  by false t = refl
  by true t = here (slot % 16 == 0) t refl

-- ---- the word of a request
pub request_allowed : (z : Size) → IsRequestSize z.entries z.limit → allows Request (request_word z) ≡ true
request_allowed z h =
    let e : request_word z / 65536 ≡ z.entries = omega (arith, h.2) in
    let l : request_word z % 65536 ≡ z.limit = omega (arith, h.2) in
    let entries : are_entries z.entries z.limit ≡ true = sized z.entries z.limit h in
    or_right (request_word z == 0) _ (ap (λ (x : ℕ). are_entries x (request_word z % 65536)) e ∙ ap (are_entries z.entries) l ∙ entries) where
      or_right : (a b : Bool) → b ≡ true → (a || b) ≡ true
      or_right true b t = refl
      or_right false b t = t

      sized : (entries limit : ℕ) → IsRequestSize entries limit → are_entries entries limit ≡ true
      sized entries limit h = four_and (nat_le limit 1008) (nat_le 1 entries) (nat_le entries 8) (nat_le (entries * lines limit) 8) (at_most limit 1008 h.2) (at_most 1 entries h.0) (at_most entries 8 h.1) (at_most (entries * lines limit) 8 h.3) where
        at_most : (a b : ℕ) → a ≤ b → nat_le a b ≡ true
        at_most a b h = grind (arith, nat_tests)

pub request_small : (z : Size) → IsRequestSize z.entries z.limit → request_word z < 2 ^ 64
request_small z h = omega (arith, h.1, h.2)

-- an own place, or 0
pub own_place : (x w : ℕ) → w ≡ x → allows (ZeroOr x) w ≡ true
own_place x w e = let t = eq-eqb w x e in by (w == 0) (w == x) t where
  by : (a b : Bool) → b ≡ true → (a || b) ≡ true
  by true b t = refl
  by false b t = t

-- the number of a reason
pub code_allowed : (r : Reason) → (reason_code r < 2 ^ 64) × (allows (Between 0 15) (reason_code r) ≡ true)
code_allowed Unregistered = (omega arith, refl)
code_allowed (PartnerClosed code) = (omega arith, refl)
code_allowed (UnequalSizes own theirs) = (omega arith, refl)
code_allowed (CopyError kind number) = (omega arith, refl)
code_allowed (NoHeartbeat last now mask) = (omega arith, refl)
code_allowed (Reactivating old new) = (omega arith, refl)
code_allowed (OtherGoingDown word) = (omega arith, refl)
code_allowed Unloading = (omega arith, refl)
code_allowed (BadVersion word) = (omega arith, refl)
code_allowed (BadMagic word) = (omega arith, refl)
code_allowed (BadArgs word) = (omega arith, refl)
code_allowed (BadCounters get put) = (omega arith, refl)
code_allowed (BadLength word) = (omega arith, refl)
code_allowed (BadNumber wanted word) = (omega arith, refl)
code_allowed (BadFlags word) = (omega arith, refl)

-- 0 fits each place behind the open words
pub zero_args : (q c f : ℕ) → allows (row_at (args_table Newer q c) f).allowed 0 ≡ true
zero_args q c zero = refl
zero_args q c (suc zero) = refl
zero_args q c (suc (suc zero)) = refl
zero_args q c (suc (suc (suc zero))) = refl
zero_args q c (suc (suc (suc (suc f)))) = refl

pub zero_record : (q f : ℕ) → allows (row_at (record_table Newer q) f).allowed 0 ≡ true
zero_record q zero = refl
zero_record q (suc zero) = refl
zero_record q (suc (suc zero)) = refl
zero_record q (suc (suc (suc zero))) = refl
zero_record q (suc (suc (suc (suc zero)))) = refl
zero_record q (suc (suc (suc (suc (suc zero))))) = refl
zero_record q (suc (suc (suc (suc (suc (suc zero)))))) = refl
zero_record q (suc (suc (suc (suc (suc (suc (suc zero))))))) = refl
zero_record q (suc (suc (suc (suc (suc (suc (suc (suc f)))))))) = refl

pub zero_entry : (part : Part) (w : ℕ) → allows (entry_row part w).allowed 0 ≡ true
zero_entry part w = by (has_lines part.layout part.version && (w % 16 == 0)) where
  by : (b : Bool) → allows (cond b (row LengthWord LengthCause) any).allowed 0 ≡ true
  by true = refl
  by false = refl

abbrev pub IsBehind : Place → Type 0
IsBehind (Open k) = ⊥
IsBehind pl = Unit {0}

pub zero_fits : (n minor o : ℕ) (pl : Place) → IsBehind pl → Fits n minor o pl 0
zero_fits n minor o (Open k) h = absurd h
zero_fits n minor o (Record q f) h = record { small = omega arith; allowed = zero_record q f; exact = tt }
zero_fits n minor o (Flag q) h = record { small = omega arith; allowed = refl; exact = tt }
zero_fits n minor o (Args q c f) h = record { small = omega arith; allowed = zero_args q c f; exact = tt }
zero_fits n minor o (Counter q c f) h = record { small = omega arith; allowed = refl; exact = tt }
zero_fits n minor o (Entry q c w) h = record { small = omega arith; allowed = zero_entry (part_at n minor o) w; exact = tt }
zero_fits n minor o (Pool b f) h = record { small = omega arith; allowed = refl; exact = tt }
zero_fits n minor o Beyond h = record { small = omega arith; allowed = refl; exact = tt }
