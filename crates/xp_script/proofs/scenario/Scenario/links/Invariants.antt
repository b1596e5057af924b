use Rattle.std.proofs.Common.{◌≡◌, ◌++◌, ◌-◌}
use Rattle.xp_script.specs.Parts.{links_from}
use Rattle.xp_script.proofs.scenario.Scenario.links.Given as goal

abbrev pub invariant-loop-partner : goal.invariant-loop-partner
invariant-loop-partner l = l.list.items ++ links_from l.part l.partner (l.self.count - l.partner) l.self.warms ≡ links_from l.part 0 l.self.count l.self.warms
