-- The words of a whole dump.
use Rattle.std.proofs.Common.{◌≡◌, ℕ, ◌+◌, ◌*◌, ◌<◌, ◌≤◌, true, List, length, ap, sym, ◌∙◌, subst, arith}
use Rattle.std.proofs.lemmas.Bool.Decides.{nat_tests}
use Rattle.std.proofs.Math.Nat.{mul-le-mul_left}
use Rattle.xp_base.specs.declared.layout.TheConstants.{PART_WORDS}
use Rattle.xp_base.specs.Memory.{Memory}
use Rattle.xp_page.specs.Reading.{word_in}
use Rattle.xp_dump_table.specs.declared.layout.Layout.{Layout}
use Rattle.xp_dump_table.specs.declared.layout.Layout.TheVariants.{Older, Newer}
use Rattle.xp_dump_table.specs.Layouts.{words_of, place_of, field_of}
use Rattle.xp_dump_table.specs.Table.{memory_word}
use Rattle.xp_dump_table.proofs.Fields.{field_stands, place_within, in_older}
use Rattle.xp_dump.specs.declared.parts.Parts.{Parts}
use Rattle.xp_dump.specs.declared.stage.Stage.{Stage}
use Rattle.xp_dump.specs.declared.stage.Stage.TheVariants.{Words}
use Rattle.xp_dump.specs.declared.tape.Tape.{Tape}
use Rattle.xp_dump.specs.Grammar.{Numbered, number_of, IsFine, IsDump, AreWordsOf}
use Rattle.xp_dump.specs.Parts.{AreKept, known, taken_in}
use Rattle.xp_dump.specs.Stages.{Follows, is_whole}
use Rattle.xp_dump.specs.Tapes.{IsRead}
use Rattle.xp_dump.proofs.Memories.{known_before, older_same, told}
use Rattle.xp_dump.proofs.Taking.{follows_allowed, whole_total}

-- each word of a partition is one of those that came
came_before : (l : Layout) (o j count : ℕ) → o < count → j < words_of l
    → number_of l o j < 2 + words_of l * count
came_before l o j count h low =
    let next : o + 1 ≤ count = omega arith in
    let rows : words_of l * (o + 1) ≤ words_of l * count = mul-le-mul_left (words_of l) next in
    omega arith

told_whole : (l : Layout) (f : Numbered) (n o i count : ℕ) → n ≡ 2 + words_of l * count → o < count
    → i < PART_WORDS → told l f n o i ≡ memory_word l (λ j. f (number_of l o j)) i
told_whole Newer f n o i count e h low =
    let before = came_before Newer o i count h low in
    known_before f n (number_of Newer o i) (omega (arith, before))
told_whole Older f n o i count e h low =
    older_same (λ j. known f n (number_of Older o j)) (λ j. f (number_of Older o j))
    (field_of Newer i)
    (λ room.
    let stands = field_stands Newer i low in
    let within = place_within Older (field_of Newer i)
    (in_older (field_of Newer i) stands.within room) in
    let before = came_before Older o (place_of Older (field_of Newer i)) count h within in
    known_before f n (number_of Older o (place_of Older (field_of Newer i)))
    (omega (arith, before)))

kept_words : (f : Numbered) (p : Parts) → AreKept f p → p.owner ≡ length p.words
    → AreWordsOf f p.words
kept_words f p k all =
    let first = k.last all in
    let n : taken_in p ≡ 2 + words_of p.layout * length p.words =
    ap (λ (o : ℕ). 2 + words_of p.layout * o + p.index) all ∙ (omega arith) in
    record {
      count = k.count;
      sized = k.sized;
      words = λ o i h low.
          k.words o i h low ∙ told_whole p.layout f (taken_in p) o i (length p.words) n h low
          ∙ ap (λ (l : Layout). memory_word l (λ j. f (number_of l o j)) i) k.layout;
    }

fine : (bytes : List ℕ) (t : Tape) → t.filled < 8 → IsRead bytes t → IsFine bytes
fine bytes t low r =
    let size = r.size in
    record {
      allowed = λ k h. follows_allowed (word_in bytes) t.stage r.follows k (omega arith);
      within = r.within;
    }

pub whole_dump : (bytes : List ℕ) (t : Tape) (p : Parts) (words : Memory) → t.filled < 8
    → IsRead bytes t → t.stage ≡ Words p → is_whole t.stage ≡ true → words ≡ p.words
    → IsDump bytes words
whole_dump bytes t p words low r e whole same =
    let f : Numbered = word_in bytes in
    let kept : AreKept f p = subst (Follows f) e r.follows in
    let all : p.owner ≡ length p.words = let w : is_whole (Words p) ≡ true =
    subst (λ (s : Stage). is_whole s ≡ true) e whole in grind (arith, nat_tests) in
    let size = r.size in
    let within = r.within in
    let total_is = whole_total f t.stage r.follows whole in
    subst (IsDump bytes) (sym same)
    (record { fine = fine bytes t low r; whole = omega arith; told = kept_words f p kept all })
