use Rattle.std.proofs.Common.{◌≡◌, sym, ap, ◌∙◌, ℕ, List, ◌++◌, append-nil, string_bytes}
use Rattle.xp_base.specs.Masks.{has}
use Rattle.xp_report.specs.Device.{partners_text}
use Rattle.xp_report.proofs.Partners.{left_at_first, left_none, step_put, step_skip}
use Rattle.xp_report.proofs.device.write_partners.Goals as goal
use Rattle.xp_report.proofs.device.write_partners.Goals.{then-contains+in_ok-write_partner, else-contains}

pub loop-q-init : goal.loop-q-init
loop-q-init c = ap (λ (text : List ℕ). string_bytes c.args.out.now ++ text) (left_at_first c.args.set)

pub loop-q-preserved : goal.loop-q-preserved
loop-q-preserved c =
    let set = c.args.set in
    let q = c.loop-q.q in
    let all = string_bytes c.args.out.now ++ partners_text set in
    let member : c.contains.result ≡ has set q = c.contains.ensures ∙ ap (λ (k : ℕ). has set k) c.known.ensures in
    elim c.if-contains.branch [
      | then-contains+in_ok-write_partner w ↦
          rw (w.first-is, w.out-is)
          (step_put (string_bytes c.loop-q.out) (string_bytes w.write_partner.new.out) all c.loop-q.first set q
          w.in_ok-write_partner.ensures c.loop-q-test.true (sym member ∙ w.if-contains.true) c.loop-q.invariant)
      | else-contains w ↦
          rw (w.first-is, w.out-is)
          (step_skip (string_bytes c.loop-q.out) all c.loop-q.first set q
          c.loop-q-test.true (sym member ∙ w.if-contains.false) c.loop-q.invariant)
    ]

pub returns : goal.returns
returns c =
    sym (append-nil (string_bytes c.loop-q.out))
    ∙ sym (ap (λ (text : List ℕ). string_bytes c.loop-q.out ++ text) (left_none c.loop-q.first c.args.set c.loop-q.q c.loop-q-test.false))
    ∙ c.loop-q.invariant
