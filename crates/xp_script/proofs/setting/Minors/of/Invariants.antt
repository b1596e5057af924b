use Rattle.std.proofs.Common.{◌≡◌, drop}
use Rattle.xp_script.specs.Settings.{minor_of}
use Rattle.xp_script.proofs.setting.Minors.of.Given as goal

abbrev pub invariant-loop-minor : goal.invariant-loop-minor
invariant-loop-minor l = minor_of l.part (drop l.minor-index l.minor-items) ≡ minor_of l.part l.minor-items
