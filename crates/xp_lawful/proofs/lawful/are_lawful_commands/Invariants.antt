use Rattle.std.proofs.Common.{◌↔◌, drop}
use Rattle.std.specs.List.{AllByRecursion}
use Rattle.xp_script.specs.Lawful.{IsLawfulCommand}
use Rattle.xp_lawful.proofs.lawful.are_lawful_commands.Given as goal

abbrev pub invariant-loop-command : goal.invariant-loop-command
invariant-loop-command l = AllByRecursion (IsLawfulCommand l.count l.own l.minor) (drop l.command-index l.commands) ↔ AllByRecursion (IsLawfulCommand l.count l.own l.minor) l.commands
