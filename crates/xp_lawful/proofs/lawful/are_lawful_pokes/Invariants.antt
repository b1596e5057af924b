use Rattle.std.proofs.Common.{◌↔◌, drop}
use Rattle.std.specs.List.{AllByRecursion}
use Rattle.xp_script.specs.Lawful.{IsLawfulPoke}
use Rattle.xp_lawful.proofs.lawful.are_lawful_pokes.Given as goal

abbrev pub invariant-loop-poke : goal.invariant-loop-poke
invariant-loop-poke l = AllByRecursion (IsLawfulPoke l.count) (drop l.poke-index l.pokes) ↔ AllByRecursion (IsLawfulPoke l.count) l.pokes
