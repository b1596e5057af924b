-- Records in the order in which they were begun: end by end, and partner by partner.
use Rattle.std.proofs.Common.{◌≡◌, refl, sym, ap, ◌∙◌, ℕ, suc, ◌+◌, ◌-◌, ◌<◌, ◌≤◌, List, [], ◌∷◌, ◌++◌, map, reverse, append-nil, append_assoc, arith}
use Rattle.std.proofs.lemmas.List.{reverse-reverse, reverse-append, map-append}
use Rattle.xp_base.specs.declared.layout.TheConstants.{CHANNELS}
use Rattle.xp_protocol.specs.Records.{Recorded}
use Rattle.xp_node.specs.Node.{NodeView, records_at}
use Rattle.xp_report.specs.Begun.{begun_at, begun_from, begun_with}

map-reverse : {X Y : Type 0} (f : X → Y) (xs : List X) → map f (reverse xs) ≡ reverse (map f xs)
map-reverse f [] = refl
map-reverse f (x ∷ xs) =
    ap (map f) (reverse-append (x ∷ []) xs)
    ∙ map-append f (reverse xs) (x ∷ [])
    ∙ ap (λ ys. ys ++ f x ∷ []) (map-reverse f xs)
    ∙ sym (reverse-append (f x ∷ []) (map f xs))

-- what an end lends is what was begun there
pub lent_at : {X : Type 0} (f : X → Recorded) (xs : List X) (n : NodeView) (q c : ℕ) → map f (reverse xs) ≡ records_at n q c → map f xs ≡ begun_at n q c
lent_at f xs n q c e =
    sym (reverse-reverse (map f xs)) ∙ ap reverse (sym (map-reverse f xs) ∙ e)

from_more : (n : NodeView) (q c k m : ℕ) → k ≡ suc m → begun_from n q c k ≡ begun_at n q c ++ begun_from n q (c + 1) m
unfolding begun_from
from_more n q c k m e = rw e refl

from_none : (n : NodeView) (q c k : ℕ) → k ≡ 0 → begun_from n q c k ≡ []
unfolding begun_from
from_none n q c k e = rw e refl

pub begun_more : (n : NodeView) (q c : ℕ) → c < CHANNELS → begun_from n q c (CHANNELS - c) ≡ begun_at n q c ++ begun_from n q (c + 1) (CHANNELS - (c + 1))
begun_more n q c l = from_more n q c (CHANNELS - c) (CHANNELS - (c + 1)) (omega arith)

pub begun_none : (n : NodeView) (q c : ℕ) → CHANNELS ≤ c → begun_from n q c (CHANNELS - c) ≡ []
begun_none n q c l = from_none n q c (CHANNELS - c) (omega arith)

pub begun_all : (n : NodeView) (q : ℕ) → begun_from n q 0 (CHANNELS - 0) ≡ begun_with n q
unfolding begun_with
begun_all n q = refl

-- the records of one more end are listed
pub next_begun : (before after all : List Recorded) (n : NodeView) (q c : ℕ) → c < CHANNELS → after ≡ before ++ begun_at n q c → before ++ begun_from n q c (CHANNELS - c) ≡ all → after ++ begun_from n q (c + 1) (CHANNELS - (c + 1)) ≡ all
next_begun before after all n q c l e was =
    let left = begun_from n q (c + 1) (CHANNELS - (c + 1)) in
    ap (λ (xs : List Recorded). xs ++ left) e
    ∙ append_assoc before (begun_at n q c) left
    ∙ sym (ap (λ (xs : List Recorded). before ++ xs) (begun_more n q c l))
    ∙ was

pub last_begun : (before all : List Recorded) (n : NodeView) (q c : ℕ) → CHANNELS ≤ c → before ++ begun_from n q c (CHANNELS - c) ≡ all → before ≡ all
last_begun before all n q c l was =
    sym (append-nil before)
    ∙ sym (ap (λ (xs : List Recorded). before ++ xs) (begun_none n q c l))
    ∙ was
