-- The lines of connections, partner by partner.
use Rattle.std.proofs.Common.{◌≡◌, refl, sym, ap, ◌∙◌, ℕ, suc, ◌+◌, ◌-◌, ◌<◌, ◌≤◌, List, [], ◌++◌, append_assoc, append-nil, arith}
use Rattle.xp_node.specs.Node.{NodeView}
use Rattle.xp_report.specs.Links.{records_text}
use Rattle.xp_report.specs.Order.{as_printed}
use Rattle.xp_report.specs.Begun.{begun_with}
use Rattle.xp_report.specs.Report.{partners_text}

text_more : (n : NodeView) (q k m : ℕ) → k ≡ suc m → partners_text n q k ≡ records_text (as_printed (begun_with n q)) ++ partners_text n (q + 1) m
unfolding partners_text
text_more n q k m e = rw e refl

text_none : (n : NodeView) (q k : ℕ) → k ≡ 0 → partners_text n q k ≡ []
unfolding partners_text
text_none n q k e = rw e refl

-- the lines of one more partner are written
pub next_partner : (before after all : List ℕ) (n : NodeView) (q count : ℕ) → q < count → after ≡ before ++ records_text (as_printed (begun_with n q)) → before ++ partners_text n q (count - q) ≡ all → after ++ partners_text n (q + 1) (count - (q + 1)) ≡ all
next_partner before after all n q count l e was =
    let left = partners_text n (q + 1) (count - (q + 1)) in
    ap (λ (text : List ℕ). text ++ left) e
    ∙ append_assoc before (records_text (as_printed (begun_with n q))) left
    ∙ sym (ap (λ (text : List ℕ). before ++ text) (text_more n q (count - q) (count - (q + 1)) (omega arith)))
    ∙ was

pub last_partner : (before all : List ℕ) (n : NodeView) (q count : ℕ) → count ≤ q → before ++ partners_text n q (count - q) ≡ all → before ≡ all
last_partner before all n q count l was =
    sym (append-nil before)
    ∙ sym (ap (λ (text : List ℕ). before ++ text) (text_none n q (count - q) (omega arith)))
    ∙ was
