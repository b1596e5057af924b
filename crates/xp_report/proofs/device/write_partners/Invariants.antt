use Rattle.std.proofs.Common.{◌≡◌, ◌++◌, string_bytes}
use Rattle.xp_report.specs.Device.{partners_text}
use Rattle.xp_report.proofs.Partners.{left_from}
use Rattle.xp_report.proofs.device.write_partners.Given as goal

abbrev pub invariant-loop-q : goal.invariant-loop-q
invariant-loop-q l = string_bytes l.out ++ left_from l.first l.set l.q ≡ string_bytes l.initial.out ++ partners_text l.set
