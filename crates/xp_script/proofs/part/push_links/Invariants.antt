use Rattle.std.proofs.Common.{◌≡◌, ◌++◌, ◌-◌}
use Rattle.xp_base.specs.declared.layout.TheConstants.{CHANNELS}
use Rattle.xp_script.specs.Parts.{links_to}
use Rattle.xp_script.proofs.part.push_links.Given as goal

abbrev pub invariant-loop-channel : goal.invariant-loop-channel
invariant-loop-channel l = l.links.items ++ links_to l.part l.partner l.channel (CHANNELS - l.channel) l.warms ≡ l.initial.links.items ++ links_to l.part l.partner 0 CHANNELS l.warms
