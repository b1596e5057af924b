-- The numbers whose delivery is asked for at one end: what its record has as asked and as delivered, and what is still to be told.
use Rattle.std.proofs.Common.{◌≡◌, ℕ, zero, suc, ◌+◌, ◌-◌, ◌<◌, ◌≤◌, List, [], ◌∷◌, ◌++◌, length, refl, ap, sym, ◌∙◌, subst, arith, Some, inl, inr, ◌⊎◌}
use Rattle.std.specs.List.{slice_get, All}
use Rattle.std.proofs.lemmas.Option.{get_or_from_slice_get, slice_get_within}
use Rattle.std.proofs.lemmas.List.{append_assoc}
use Rattle.std.proofs.lemmas.List.Elements.{All-nil, All-push, All-weaker}
use Rattle.xp_protocol.specs.Promised.{AreRising}
use Rattle.xp_meetings.proofs.Gets.{get_both}

-- the known get, and put
pub record Told (asked delivered due : List ℕ) (known put : ℕ) : Type 0 where
  pub whole : asked ≡ delivered ++ due
  pub rising : AreRising asked
  pub accepted : All (λ (k : ℕ). k < put) asked
  pub acknowledged : All (λ (k : ℕ). k < known) delivered

pub told_none : (known put : ℕ) → Told [] [] [] known put
told_none known put = record { whole = refl; rising = λ i j a b l e f. absurd (cc); accepted = All-nil (λ (k : ℕ). k < put); acknowledged = All-nil (λ (k : ℕ). k < known) }

-- one number more, above all others
listed_below : (xs : List ℕ) (n i a : ℕ) → All (λ (k : ℕ). k < n) xs → slice_get xs i ≡ Some a → a < n
listed_below xs n i a h e = subst (λ (k : ℕ). k < n) (get_or_from_slice_get xs i a a e) (h i a (slice_get_within xs i a e))

one_number : (n i a : ℕ) → slice_get (n ∷ []) i ≡ Some a → (i ≡ 0) × (n ≡ a)
one_number n zero a e = (refl, cc)
one_number n (suc i) a e = absurd (cc)

rising_more : (xs : List ℕ) (n : ℕ) → All (λ (k : ℕ). k < n) xs → AreRising xs → AreRising (xs ++ n ∷ [])
rising_more xs n h rising i j a b l e f = by (get_both xs (n ∷ []) i a e) (get_both xs (n ∷ []) j b f)
  where
    by : (slice_get xs i ≡ Some a) ⊎ ((length xs ≤ i) × (slice_get (n ∷ []) (i - length xs) ≡ Some a)) → (slice_get xs j ≡ Some b) ⊎ ((length xs ≤ j) × (slice_get (n ∷ []) (j - length xs) ≡ Some b)) → a < b
    by (inl x) (inl y) = rising i j a b l x y
    by (inl x) (inr y) = omega (arith, listed_below xs n i a h x, (one_number n (j - length xs) b y.1).1)
    by (inr x) (inl y) = absurd (omega (arith, x.0, slice_get_within xs j b y, l))
    by (inr x) (inr y) = absurd (omega (arith, x.0, y.0, l, (one_number n (i - length xs) a x.1).0, (one_number n (j - length xs) b y.1).0))

below_next : (n : ℕ) (xs : List ℕ) → All (λ (k : ℕ). k < n) xs → All (λ (k : ℕ). k < n + 1) xs
below_next n xs h = All-weaker (λ (k : ℕ). k < n) (λ (k : ℕ). k < n + 1) (λ k l. omega (arith, l)) xs h

-- a higher get becomes known
pub told_known : (asked delivered due : List ℕ) (old new put : ℕ) → old ≤ new → Told asked delivered due old put → Told asked delivered due new put
told_known asked delivered due old new put l h = record { whole = h.whole; rising = h.rising; accepted = h.accepted; acknowledged = All-weaker (λ (k : ℕ). k < old) (λ (k : ℕ). k < new) (λ k m. omega (arith, l, m)) delivered h.acknowledged }

-- a message is accepted, whose send asks for no notice, or for one
pub told_unasked : (asked delivered due : List ℕ) (known put : ℕ) → Told asked delivered due known put → Told asked delivered due known (put + 1)
told_unasked asked delivered due known put h = record { whole = h.whole; rising = h.rising; accepted = below_next put asked h.accepted; acknowledged = h.acknowledged }

pub told_asked : (asked delivered due : List ℕ) (known put : ℕ) → Told asked delivered due known put → Told (asked ++ put ∷ []) delivered (due ++ put ∷ []) known (put + 1)
told_asked asked delivered due known put h = record {
  whole = ap (λ (xs : List ℕ). xs ++ put ∷ []) h.whole ∙ append_assoc delivered due (put ∷ []);
  rising = rising_more asked put h.accepted h.rising;
  accepted = All-push (λ (k : ℕ). k < put + 1) asked put (below_next put asked h.accepted) (omega arith);
  acknowledged = h.acknowledged;
}

-- the lowest number is told
pub told_one : (asked delivered : List ℕ) (number : ℕ) (more : List ℕ) (known put : ℕ) → number < known → Told asked delivered (number ∷ more) known put → Told asked (delivered ++ number ∷ []) more known put
told_one asked delivered number more known put l h = record {
  whole = h.whole ∙ sym (append_assoc delivered (number ∷ []) more);
  rising = h.rising;
  accepted = h.accepted;
  acknowledged = All-push (λ (k : ℕ). k < known) delivered number h.acknowledged l;
}
