use Rattle.std.proofs.Common.{◌≡◌, drop}
use Rattle.xp_script.specs.Parts.{link_in}
use Rattle.xp_script.proofs.part.link_on.Given as goal

abbrev pub invariant-loop-warm : goal.invariant-loop-warm
invariant-loop-warm l = link_in l.part l.partner l.channel (drop l.warm-index l.warms) ≡ link_in l.part l.partner l.channel l.warms
