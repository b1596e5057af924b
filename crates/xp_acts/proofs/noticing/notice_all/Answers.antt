use Rattle.std.proofs.Common.{◌<◌, ℕ, subst, arith}
use Rattle.xp_acts.specs.Noticing.{IsNoticedAt}
use Rattle.xp_acts.proofs.Given.{notices_then, all_next, untouched_told}
use Rattle.xp_acts.proofs.noticing.notice_all.Goals as goal

pub notice_at-requires-clause-untouched : goal.notice_at-requires-clause-untouched
notice_at-requires-clause-untouched c =
    let x = c.args.keeping.now in
    let low : c.known.result < x.part.count = omega (arith, c.known.ensures, c.loop-number-test.true, c.len-number-end.ensures, c.requires.can.kept.count) in
    untouched_told c.known.result x c.loop-number.keeping low c.requires.touched c.loop-number.invariant.0

pub loop-number-preserved : goal.loop-number-preserved
loop-number-preserved c = (
  notices_then c.args.keeping.now c.loop-number.keeping c.notice_at.new.keeping c.loop-number.invariant.0 c.notice_at.ensures.notices,
  all_next c.loop-number.number c.loop-number.keeping c.notice_at.new.keeping c.notice_at.ensures.notices c.loop-number.invariant.1
      (subst (λ (q : ℕ). IsNoticedAt q c.notice_at.new.keeping) c.known.ensures c.notice_at.ensures.noticed),
)
