-- The numbers that wait for a notice are told as ended one after the other, the lowest first.
use Rattle.std.proofs.Common.{◌≡◌, ℕ, List, [], ◌∷◌, ◌++◌, Some, map, append_assoc, ap, ◌∙◌}
use Rattle.xp_protocol.specs.Acts.{first_number}
use Rattle.xp_protocol.specs.Effects.{ToldOver, in_newest, with_notes}
use Rattle.xp_protocol.specs.Records.{Recorded}
use Rattle.xp_ack.specs.Ack.{numbers_left}

pub left_numbers : (xs ns : List ℕ) (n : ℕ) → first_number ns ≡ Some n → (xs ++ n ∷ []) ++ numbers_left (first_number ns) ns ≡ xs ++ ns
left_numbers xs [] n h = absurd (cc)
left_numbers xs (m ∷ more) n h = let k : n ≡ m = cc in append_assoc xs (n ∷ []) more ∙ ap (λ (z : ℕ). xs ++ (z ∷ more)) k

pub left_notes : (q c : ℕ) (ns : List ℕ) (n : ℕ) (rs : List Recorded) → first_number ns ≡ Some n → with_notes q c (map ToldOver (numbers_left (first_number ns) ns)) (in_newest (ToldOver n) rs) ≡ with_notes q c (map ToldOver ns) rs
left_notes q c [] n rs h = absurd (cc)
left_notes q c (m ∷ more) n rs h = let k : n ≡ m = cc in ap (λ (z : ℕ). with_notes q c (map ToldOver more) (in_newest (ToldOver z) rs)) k
