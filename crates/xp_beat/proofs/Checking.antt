-- A check shows a heartbeat exactly where there is one.
use Rattle.std.proofs.Common.{◌≡◌, ◌≢◌, ℕ, Bool, true, false, not, ◌&&◌, ◌||◌, refl, sym, arith, ap, ◌∙◌, Option, Some, None, [], ◌∷◌}
use Rattle.std.specs.Prelude.{◌↔◌, nat_eq, if◌then◌else◌}
use Rattle.std.specs.Int.{bit_at}
use Rattle.std.proofs.lemmas.Bool.Decides.{nat_tests}
use Rattle.xp_protocol.specs.Peering.{is_still, is_count, or_zero}
use Rattle.xp_beat.specs.declared.check.BeatAnswer.{BeatAnswer}
use Rattle.xp_beat.specs.declared.check.BeatAnswer.TheVariants.{Alive, NoHeartbeat}
use Rattle.xp_beat.specs.Checking.{beat_answer, HasBeat}

-- the tests of a check, and what they say
same_count : (now v : ℕ) → nat_eq v now ≡ true → Some v ≡ Some now
same_count now v e = ap Some (equal v now e) where
  equal : (a b : ℕ) → nat_eq a b ≡ true → a ≡ b
  equal a b e = grind (arith, nat_tests)

count_is : (now : ℕ) (last : Option ℕ) → is_count now last ≡ true → last ≡ Some now
count_is now None e = absurd (cc)
count_is now (Some v) e = same_count now v e

is_the_count : (now : ℕ) (last : Option ℕ) → last ≡ Some now → is_count now last ≡ true
is_the_count now None e = absurd (cc)
is_the_count now (Some v) e = let f : v ≡ now = cc in equal v now f where
  equal : (a b : ℕ) → a ≡ b → nat_eq a b ≡ true
  equal a b e = grind (arith, nat_tests)

one_is : (n : ℕ) → nat_eq n 1 ≡ true → n ≡ 1
one_is n e = grind (arith, nat_tests)

is_one : (n : ℕ) → n ≡ 1 → nat_eq n 1 ≡ true
is_one n e = grind (arith, nat_tests)

zero_is : (n : ℕ) → nat_eq n 0 ≡ true → n ≡ 0
zero_is n e = grind (arith, nat_tests)

is_zero : (n : ℕ) → n ≡ 0 → nat_eq n 0 ≡ true
is_zero n e = grind (arith, nat_tests)

module _ (own : ℕ) (last : Option ℕ) (now mask offline : ℕ) where
  heard : nat_eq (bit_at mask own) 1 ≡ true → (nat_eq offline 0 ≡ true → is_count now last ≡ false) → HasBeat own last now mask offline
  heard a b = record {
    for_it = one_is (bit_at mask own) a;
    goes_on = λ z e. let t = is_the_count now last e in let f = b (is_zero offline z) in absurd (cc);
  }

  alive_is : (x y z : Bool) → nat_eq (bit_at mask own) 1 ≡ x → nat_eq offline 0 ≡ y → is_count now last ≡ z → (if not x || (y && z) then NoHeartbeat (or_zero last) now mask else Alive) ≡ Alive → HasBeat own last now mask offline
  alive_is false y z a b c e = absurd (cc)
  alive_is true true true a b c e = absurd (cc)
  alive_is true true false a b c e = heard a (λ t. c)
  alive_is true false z a b c e = heard a (λ t. absurd (cc))

  is_alive : (x y z : Bool) → nat_eq (bit_at mask own) 1 ≡ x → nat_eq offline 0 ≡ y → is_count now last ≡ z → HasBeat own last now mask offline → (if not x || (y && z) then NoHeartbeat (or_zero last) now mask else Alive) ≡ Alive
  is_alive false y z a b c h = let t = is_one (bit_at mask own) h.for_it in absurd (cc)
  is_alive true true true a b c h = absurd (h.goes_on (zero_is offline b) (count_is now last c))
  is_alive true true false a b c h = refl
  is_alive true false z a b c h = refl

  pub alive_exactly : beat_answer own last now mask offline ≡ Alive ↔ HasBeat own last now mask offline
  alive_exactly = (alive_is (nat_eq (bit_at mask own) 1) (nat_eq offline 0) (is_count now last) refl refl refl, is_alive (nat_eq (bit_at mask own) 1) (nat_eq offline 0) (is_count now last) refl refl refl)

pub ruleset checking = (alive_exactly)
