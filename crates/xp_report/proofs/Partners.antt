-- The numbers of the partitions of a set, one written after the other.
use Rattle.std.proofs.Common.{◌≡◌, refl, sym, ap, ◌∙◌, ℕ, suc, ◌+◌, ◌-◌, ◌<◌, ◌≤◌, Bool, true, false, List, [], ◌∷◌, ◌++◌, map, append-nil, append_assoc, arith}
use Rattle.std.specs.Fmt.{decimal}
use Rattle.std.specs.List.{join_with_byte}
use Rattle.xp_base.specs.declared.layout.TheConstants.{PARTS}
use Rattle.xp_base.specs.Masks.{has}
use Rattle.xp_report.specs.Device.{members, partner_text, partners_text}

-- each behind a comma but the first of all
abbrev pub partner_texts : Bool → List ℕ → List ℕ
partner_texts first [] = []
partner_texts first (q ∷ more) = partner_text first q ++ partner_texts false more

joined_after : (q : ℕ) (more : List ℕ) → decimal q ++ partner_texts false more ≡ join_with_byte 44 (map decimal (q ∷ more))
unfolding partner_text
joined_after q [] = append-nil (decimal q)
joined_after q (p ∷ more) = ap (λ (text : List ℕ). decimal q ++ (44 ∷ text)) (joined_after p more)

joined : (qs : List ℕ) → partner_texts true qs ≡ join_with_byte 44 (map decimal qs)
unfolding partner_text
joined [] = refl
joined (q ∷ more) = joined_after q more

-- what is left to write from a partition on
unfoldable pub left_from : Bool → ℕ → ℕ → List ℕ
left_from first set q = partner_texts first (members set q (PARTS - q))

pub left_at_first : (set : ℕ) → left_from true set 0 ≡ partners_text set
unfolding left_from partners_text
left_at_first set = joined (members set 0 PARTS)

put_first : (first : Bool) (set q n more : ℕ) → n ≡ suc more → has set q ≡ true → partner_texts first (members set q n) ≡ partner_text first q ++ partner_texts false (members set (q + 1) more)
unfolding members
put_first first set q n more e h = rw (e, h) refl

skip_first : (first : Bool) (set q n more : ℕ) → n ≡ suc more → has set q ≡ false → partner_texts first (members set q n) ≡ partner_texts first (members set (q + 1) more)
unfolding members
skip_first first set q n more e h = rw (e, h) refl

none_left : (first : Bool) (set q n : ℕ) → n ≡ 0 → partner_texts first (members set q n) ≡ []
unfolding members
none_left first set q n e = rw e refl

pub left_put : (first : Bool) (set q : ℕ) → q < PARTS → has set q ≡ true → left_from first set q ≡ partner_text first q ++ left_from false set (q + 1)
unfolding left_from
left_put first set q l h = put_first first set q (PARTS - q) (PARTS - (q + 1)) (grind arith) h

pub left_skip : (first : Bool) (set q : ℕ) → q < PARTS → has set q ≡ false → left_from first set q ≡ left_from first set (q + 1)
unfolding left_from
left_skip first set q l h = skip_first first set q (PARTS - q) (PARTS - (q + 1)) (grind arith) h

pub left_none : (first : Bool) (set q : ℕ) → PARTS ≤ q → left_from first set q ≡ []
unfolding left_from
left_none first set q l = none_left first set q (PARTS - q) (grind arith)

-- a partition is written, or isn't a member
pub step_put : (before after all : List ℕ) (first : Bool) (set q : ℕ) → after ≡ before ++ partner_text first q → q < PARTS → has set q ≡ true → before ++ left_from first set q ≡ all → after ++ left_from false set (q + 1) ≡ all
step_put before after all first set q e l h was =
    ap (λ (text : List ℕ). text ++ left_from false set (q + 1)) e
    ∙ append_assoc before (partner_text first q) (left_from false set (q + 1))
    ∙ sym (ap (λ (text : List ℕ). before ++ text) (left_put first set q l h))
    ∙ was

pub step_skip : (before all : List ℕ) (first : Bool) (set q : ℕ) → q < PARTS → has set q ≡ false → before ++ left_from first set q ≡ all → before ++ left_from first set (q + 1) ≡ all
step_skip before all first set q l h was =
    sym (ap (λ (text : List ℕ). before ++ text) (left_skip first set q l h)) ∙ was
