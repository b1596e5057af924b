-- Fields and their places: each field of a layout has one place, and each place one field.
use Rattle.std.proofs.Common.{◌≡◌, ℕ, ◌<◌, ◌≤◌, true, refl, arith, inl, inr, if◌then◌else◌, nat_lt, false}
use Rattle.std.proofs.lemmas.Bool.{cases_lt}
use Rattle.std.proofs.lemmas.Bool.Decides.{nat_tests}
use Rattle.xp_dump_table.specs.declared.layout.Layout.{Layout}
use Rattle.xp_dump_table.specs.declared.layout.Layout.TheVariants.{Older, Newer}
use Rattle.xp_dump_table.specs.declared.layout.Field.{Field}
use Rattle.xp_dump_table.specs.declared.layout.Field.TheVariants.{Open, Record, Flag, Args, Counter, Entry, Pool}
use Rattle.xp_dump_table.specs.Layouts.{flags_at, args_at, counters_at, entries_at, pool_at, words_of, IsField, place_of, field_of}
use Rattle.xp_base.specs.declared.layout.TheConstants.{OPEN_WORDS}
use Rattle.xp_dump_table.specs.Table.{has_room}

pub field_of-place_of : (l : Layout) (field : Field) → IsField l field
    → field_of l (place_of l field) ≡ field
unfolding field_of
field_of-place_of Older (Open n) h = grind (arith, nat_tests)
field_of-place_of Older (Record q f) h = grind (arith, nat_tests)
field_of-place_of Older (Flag q) h = grind (arith, nat_tests)
field_of-place_of Older (Args q c f) h = grind (arith, nat_tests)
field_of-place_of Older (Counter q c f) h = grind (arith, nat_tests)
field_of-place_of Older (Entry q c f) h = grind (arith, nat_tests)
field_of-place_of Older (Pool w) h = grind (arith, nat_tests)
field_of-place_of Newer (Open n) h = grind (arith, nat_tests)
field_of-place_of Newer (Record q f) h = grind (arith, nat_tests)
field_of-place_of Newer (Flag q) h = grind (arith, nat_tests)
field_of-place_of Newer (Args q c f) h = grind (arith, nat_tests)
field_of-place_of Newer (Counter q c f) h = grind (arith, nat_tests)
field_of-place_of Newer (Entry q c f) h = grind (arith, nat_tests)
field_of-place_of Newer (Pool w) h = grind (arith, nat_tests)

pub record Stands (l : Layout) (i : ℕ) (field : Field) : Type 0 where
  pub within : IsField l field
  pub place : place_of l field ≡ i

-- the field of a choice, by the test that makes it
by_test : (l : Layout) (i x y : ℕ) (a b : Field) → (x < y → Stands l i a) → (y ≤ x → Stands l i b)
    → Stands l i (if nat_lt x y then a else b)
by_test l i x y a b p q = elim (cases_lt x y) [
  | inl low ↦ let t : nat_lt x y ≡ true = grind (arith, nat_tests) in rw t (p low)
  | inr high ↦ let t : nat_lt x y ≡ false = grind (arith, nat_tests) in rw t (q high)
]

pub field_stands : (l : Layout) (i : ℕ) → i < words_of l → Stands l i (field_of l i)
unfolding field_of
field_stands l i h =
    by_test l i i OPEN_WORDS _ _ (λ low. record { within = low; place = refl })
    (λ a. by_test l i i (flags_at l) _ _
    (λ low. record { within = (omega arith, omega arith); place = omega arith })
    (λ b. by_test l i i (args_at l) _ _
    (λ low. record { within = omega arith; place = omega arith })
    (λ c. by_test l i i (counters_at l) _ _
    (λ low. record { within = (omega arith, omega arith, omega arith); place = omega arith })
    (λ d. by_test l i i (entries_at l) _ _
    (λ low. record { within = (omega arith, omega arith, omega arith); place = omega arith })
    (λ e. by_test l i i (pool_at l) _ _
    (λ low. record { within = (omega arith, omega arith, omega arith); place = omega arith })
    (λ f. record { within = omega arith; place = omega arith }))))))

pub place_within : (l : Layout) (field : Field) → IsField l field → place_of l field < words_of l
place_within l (Open n) h = omega arith
place_within l (Record q f) h = omega arith
place_within l (Flag q) h = omega arith
place_within l (Args q c f) h = omega arith
place_within l (Counter q c f) h = omega arith
place_within l (Entry q c f) h = omega arith
place_within l (Pool w) h = omega arith

-- what the older layout has room for, the newer one has too
pub in_newer : (field : Field) → IsField Older field → IsField Newer field
in_newer (Open n) h = h
in_newer (Record q f) h = (omega arith, h.1)
in_newer (Flag q) h = omega arith
in_newer (Args q c f) h = (omega arith, h.1, h.2)
in_newer (Counter q c f) h = (omega arith, h.1, h.2)
in_newer (Entry q c f) h = (omega arith, h.1, h.2)
in_newer (Pool w) h = h

pub has_room-in_older : (field : Field) → IsField Older field → has_room field ≡ true
has_room-in_older (Open n) h = refl
has_room-in_older (Record q f) h = grind (arith, nat_tests)
has_room-in_older (Flag q) h = grind (arith, nat_tests)
has_room-in_older (Args q c f) h = grind (arith, nat_tests)
has_room-in_older (Counter q c f) h = grind (arith, nat_tests)
has_room-in_older (Entry q c f) h = grind (arith, nat_tests)
has_room-in_older (Pool w) h = refl

pub in_older : (field : Field) → IsField Newer field → has_room field ≡ true → IsField Older field
in_older (Open n) h r = h
in_older (Record q f) h r = (grind (arith, nat_tests), h.1)
in_older (Flag q) h r = grind (arith, nat_tests)
in_older (Args q c f) h r = (grind (arith, nat_tests), h.1, h.2)
in_older (Counter q c f) h r = (grind (arith, nat_tests), h.1, h.2)
in_older (Entry q c f) h r = (grind (arith, nat_tests), h.1, h.2)
in_older (Pool w) h r = h
