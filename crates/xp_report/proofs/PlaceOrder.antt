-- The order of records is one, and it is that of their places.
use Rattle.std.proofs.Common.{◌≡◌, ap, ◌∙◌, List, map}
use Rattle.std.specs.Cmp.{IsStrictWeakOrder, IsTotalOrder}
use Rattle.std.specs.List.Sorted.{IsSortedBy, IsStableBy}
use Rattle.std.proofs.lemmas.Cmp.{on_total, then_total, nat_cmp_total}
use Rattle.std.proofs.lemmas.List.Sorted.{ranks_by}
use Rattle.xp_base.specs.Sessions.{session_word}
use Rattle.xp_protocol.specs.Records.{Recorded}
use Rattle.xp_report.specs.Order.{record_cmp, comes_first, as_printed}
use Rattle.xp_report.proofs.Sorting.{sorted_is, map-in_order, in_order-sorted, in_order-stable}

record_total : IsTotalOrder record_cmp
unfolding record_cmp
record_total =
    then_total (on_total (λ r. session_word r.own) nat_cmp_total)
    (then_total (on_total (λ r. session_word r.theirs) nat_cmp_total)
    (then_total (on_total (λ r. r.channel) nat_cmp_total) (on_total (λ r. r.epoch) nat_cmp_total)))

first_is_order : IsStrictWeakOrder comes_first
first_is_order = ranks_by record_total (λ r. r)

pub printed-sorted : (records : List Recorded) → IsSortedBy comes_first (as_printed records)
printed-sorted records = in_order-sorted comes_first first_is_order records

pub printed-stable : (records : List Recorded) → IsStableBy comes_first records (as_printed records)
printed-stable records = in_order-stable comes_first first_is_order records

-- what is seen of a list that is sorted stably by what is seen of its items
pub seen_sorted : {X : Type 0} (f : X → Recorded) (xs ys : List X) → IsSortedBy (λ x y. comes_first (f x) (f y)) ys → IsStableBy (λ x y. comes_first (f x) (f y)) xs ys → map f ys ≡ as_printed (map f xs)
seen_sorted f xs ys up stable =
    ap (map f) (sorted_is (λ x y. comes_first (f x) (f y)) (ranks_by record_total f) xs ys up stable)
    ∙ map-in_order f comes_first xs
