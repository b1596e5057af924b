-- Sums over records: end by end, and partner by partner.
use Rattle.std.proofs.Common.{◌≡◌, refl, sym, ap, ◌∙◌, ℕ, suc, ◌+◌, ◌-◌, ◌<◌, ◌≤◌, List, [], ◌∷◌, ◌++◌, zero-add, add-zero, add_assoc, arith}
use Rattle.xp_base.specs.declared.layout.TheConstants.{CHANNELS}
use Rattle.xp_protocol.specs.Records.{Recorded}
use Rattle.xp_node.specs.Node.{NodeView}
use Rattle.xp_report.specs.declared.summary.Totals.{Totals}
use Rattle.xp_report.specs.Begun.{begun_at, begun_from, begun_with}
use Rattle.xp_report.specs.Summary.{no_totals, plus, record_totals, records_totals, partners_totals}
use Rattle.xp_report.proofs.Begins.{begun_more, begun_none, begun_all}

plus_none : (t : Totals) → plus t no_totals ≡ t
plus_none t = λ i. record {
  accepted = add-zero t.accepted i;
  taken = add-zero t.taken i;
  acked = add-zero t.acked i;
  delivered = add-zero t.delivered i;
}

none_plus : (t : Totals) → plus no_totals t ≡ t
none_plus t = λ i. record {
  accepted = zero-add t.accepted i;
  taken = zero-add t.taken i;
  acked = zero-add t.acked i;
  delivered = zero-add t.delivered i;
}

plus_assoc : (t u v : Totals) → plus (plus t u) v ≡ plus t (plus u v)
plus_assoc t u v = λ i. record {
  accepted = add_assoc t.accepted u.accepted v.accepted i;
  taken = add_assoc t.taken u.taken v.taken i;
  acked = add_assoc t.acked u.acked v.acked i;
  delivered = add_assoc t.delivered u.delivered v.delivered i;
}

records_totals-append : (xs ys : List Recorded) → records_totals (xs ++ ys) ≡ plus (records_totals xs) (records_totals ys)
records_totals-append [] ys = sym (none_plus (records_totals ys))
records_totals-append (r ∷ xs) ys =
    ap (plus (record_totals r)) (records_totals-append xs ys)
    ∙ sym (plus_assoc (record_totals r) (records_totals xs) (records_totals ys))

-- one part of what is left is counted
counts_next : (t left all u v : Totals) → left ≡ plus u v → plus t left ≡ all → plus t (plus u v) ≡ all
counts_next t left all u v e was = sym (ap (plus t) e) ∙ was

part_counted : (t left all u v : Totals) → left ≡ plus u v → plus t left ≡ all → plus (plus t u) v ≡ all
part_counted t left all u v e was = plus_assoc t u v ∙ counts_next t left all u v e was

-- the records of an end
abbrev pub ends_left : NodeView → ℕ → ℕ → Totals
ends_left n q c = records_totals (begun_from n q c (CHANNELS - c))

ends_more : (n : NodeView) (q c : ℕ) → c < CHANNELS → ends_left n q c ≡ plus (records_totals (begun_at n q c)) (ends_left n q (c + 1))
ends_more n q c l =
    ap records_totals (begun_more n q c l)
    ∙ records_totals-append (begun_at n q c) (begun_from n q (c + 1) (CHANNELS - (c + 1)))

pub end_counted : (t all : Totals) (n : NodeView) (q c : ℕ) → c < CHANNELS → plus t (ends_left n q c) ≡ all → plus (plus t (records_totals (begun_at n q c))) (ends_left n q (c + 1)) ≡ all
end_counted t all n q c l was = part_counted t (ends_left n q c) all (records_totals (begun_at n q c)) (ends_left n q (c + 1)) (ends_more n q c l) was

pub first_end : (n : NodeView) (q : ℕ) → ends_left n q 0 ≡ records_totals (begun_with n q)
first_end n q = ap records_totals (begun_all n q)

pub ends_done : (t all : Totals) (n : NodeView) (q c : ℕ) → CHANNELS ≤ c → plus t (ends_left n q c) ≡ all → t ≡ all
ends_done t all n q c l was =
    sym (plus_none t) ∙ sym (ap (λ xs. plus t (records_totals xs)) (begun_none n q c l)) ∙ was

-- the records with a partner
abbrev pub partners_left : NodeView → ℕ → Totals
partners_left n q = partners_totals n q (n.part.count - q)

totals_more : (n : NodeView) (q k m : ℕ) → k ≡ suc m → partners_totals n q k ≡ plus (records_totals (begun_with n q)) (partners_totals n (q + 1) m)
unfolding partners_totals
totals_more n q k m e = rw e refl

totals_none : (n : NodeView) (q k : ℕ) → k ≡ 0 → partners_totals n q k ≡ no_totals
unfolding partners_totals
totals_none n q k e = rw e refl

partners_more : (n : NodeView) (q : ℕ) → q < n.part.count → partners_left n q ≡ plus (records_totals (begun_with n q)) (partners_left n (q + 1))
partners_more n q l = totals_more n q (n.part.count - q) (n.part.count - (q + 1)) (omega arith)

pub partner_counted : (t all : Totals) (n : NodeView) (q : ℕ) → q < n.part.count → plus t (partners_left n q) ≡ all → plus (plus t (records_totals (begun_with n q))) (partners_left n (q + 1)) ≡ all
partner_counted t all n q l was = part_counted t (partners_left n q) all (records_totals (begun_with n q)) (partners_left n (q + 1)) (partners_more n q l) was

pub partners_done : (t all : Totals) (n : NodeView) (q : ℕ) → n.part.count ≤ q → plus t (partners_left n q) ≡ all → t ≡ all
partners_done t all n q l was =
    sym (plus_none t)
    ∙ sym (ap (plus t) (totals_none n q (n.part.count - q) (omega arith)))
    ∙ was
