use Rattle.std.proofs.Common.{◌≡◌, ◌-◌, length}
use Rattle.xp_script.specs.Opening.{opened_from, opening}
use Rattle.xp_script.proofs.scenario.Scenario.opening.Given as goal

abbrev pub invariant-loop-number : goal.invariant-loop-number
invariant-loop-number l = record {
  words : opened_from l.self l.number (l.self.count - l.number) l.words ≡ opening l.self;
  count : length l.words ≡ l.self.count;
}
