-- The words of all partitions in one row.
use Rattle.std.proofs.Common.{◌≡◌, ℕ, zero, suc, ◌*◌, List, [], ◌∷◌, ◌++◌, length, take, drop, refl, ap, sym, ◌∙◌, arith}
use Rattle.std.specs.List.{concat}
use Rattle.std.proofs.lemmas.List.{take-append-drop, length-drop}
use Rattle.xp_base.specs.declared.layout.TheConstants.{PART_WORDS}
use Rattle.xp_base.specs.Memory.{Memory}
use Rattle.xp_base.specs.Rows.{rows}
use Rattle.xp_page.specs.Reading.{bytes_of_words}
use Rattle.xp_dump.specs.declared.writer.TheConstants.{NEWER_HEADER}
use Rattle.xp_dump.specs.Grammar.{dump_bytes}

pub concat-rows : (size n : ℕ) (ws : List ℕ) → length ws ≡ size * n → concat (rows size n ws) ≡ ws
unfolding rows
concat-rows size zero [] e = refl
concat-rows size zero (w ∷ ws) e = absurd (omega arith)
concat-rows size (suc n) ws e =
    let rest : length (drop size ws) ≡ size * n = omega (arith, length-drop size ws) in
    ap (λ (r : List ℕ). take size ws ++ r) (concat-rows size n (drop size ws) rest)
    ∙ take-append-drop size ws

joined : (a b : ℕ) (ws : List ℕ) → bytes_of_words (a ∷ b ∷ [])
    ++ bytes_of_words ws ≡ bytes_of_words (a ∷ b ∷ ws)
unfolding bytes_of_words
joined a b ws = refl

pub dumped : (m : Memory) (flat first second third : List ℕ) (count : ℕ) → first ≡ []
    → second ≡ first ++ bytes_of_words (NEWER_HEADER ∷ count ∷ []) → third ≡ second
    ++ bytes_of_words flat
    → count ≡ length m → length flat ≡ PART_WORDS * length m → rows PART_WORDS (length m) flat ≡ m
    → third ≡ dump_bytes m
dumped m flat first second third count e f g h k r =
    let all : flat ≡ concat m = sym (concat-rows PART_WORDS (length m) flat k) ∙ ap concat r in
    g ∙ ap (λ (s : List ℕ). s ++ bytes_of_words flat)
    (f ∙ ap (λ (s : List ℕ). s ++ bytes_of_words (NEWER_HEADER ∷ count ∷ [])) e)
    ∙ joined NEWER_HEADER count flat ∙ ap (λ (n : ℕ). bytes_of_words (NEWER_HEADER ∷ n ∷ flat)) h
    ∙ ap (λ (ws : List ℕ). bytes_of_words (NEWER_HEADER ∷ length m ∷ ws)) all
