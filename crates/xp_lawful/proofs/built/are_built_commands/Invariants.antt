use Rattle.std.proofs.Common.{◌↔◌, drop}
use Rattle.std.specs.List.{AllByRecursion}
use Rattle.xp_lawful.specs.Built.{IsBuiltCommand}
use Rattle.xp_lawful.proofs.built.are_built_commands.Given as goal

abbrev pub invariant-loop-command : goal.invariant-loop-command
invariant-loop-command l = AllByRecursion IsBuiltCommand (drop l.command-index l.commands) ↔ AllByRecursion IsBuiltCommand l.commands
