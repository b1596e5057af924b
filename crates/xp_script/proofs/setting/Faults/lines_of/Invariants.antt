use Rattle.std.proofs.Common.{◌≡◌, ◌++◌, drop}
use Rattle.std.specs.List.{filter}
use Rattle.xp_script.specs.Parts.{is_fault_of}
use Rattle.xp_script.proofs.setting.Faults.lines_of.Given as goal

abbrev pub invariant-loop-fault : goal.invariant-loop-fault
invariant-loop-fault l = l.list.items ++ filter (is_fault_of l.part) (drop l.fault-index l.fault-items) ≡ filter (is_fault_of l.part) l.fault-items
