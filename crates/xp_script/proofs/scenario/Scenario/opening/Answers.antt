use Rattle.std.proofs.Common.{◌≡◌, ◌+◌, ◌-◌, ap, sym, ◌∙◌}
use Rattle.xp_script.specs.Opening.{opened_from, open_part}
use Rattle.xp_script.proofs.Openings.{opened_from-more, opened_from-end}
use Rattle.xp_script.proofs.scenario.Scenario.opening.Goals as goal

pub loop-number-preserved : goal.loop-number-preserved
loop-number-preserved c =
    let s = c.args.self.now in
    let p = c.loop-number.number in
    let put : c.put_links.new.words ≡ open_part s p c.loop-number.words =
    cc (c.put_links.ensures.words, c.put_booted.ensures.words, c.put_page.ensures.words, c.in_ok-links.ensures, c.known-part.ensures, c.get-count.ensures.value, c.of.ensures) in
    let more = opened_from-more s p s.count c.loop-number.words (rw c.get-count.ensures.value at c.loop-number-test.true) in record {
      words = ap (opened_from s (p + 1) (s.count - (p + 1))) put ∙ sym more ∙ c.loop-number.invariant.words;
      count = c.put_links.ensures.count ∙ c.put_booted.ensures.count ∙ c.put_page.ensures.count ∙ c.loop-number.invariant.count;
    }

pub returns-clause-words : goal.returns-clause-words
returns-clause-words c =
    let s = c.args.self.now in
    sym (opened_from-end s c.loop-number.number s.count c.loop-number.words (rw c.get-count.ensures.value at c.loop-number-test.false)) ∙ c.loop-number.invariant.words
