use Rattle.std.proofs.Common.{◌≡◌, ◌-◌, ◌++◌, string_bytes}
use Rattle.xp_report.specs.Report.{links_text, partners_text}
use Rattle.xp_report.proofs.text.write_links.Given as goal

abbrev pub invariant-loop-partner : goal.invariant-loop-partner
invariant-loop-partner l = string_bytes l.out ++ partners_text l.node l.partner (l.node.part.count - l.partner) ≡ string_bytes l.initial.out ++ links_text l.node
