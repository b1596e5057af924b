-- What contracts see of the ports.
use Rattle.std.specs.Prelude.{List, length}
use Rattle.xp_base.specs.declared.step.Step.{Step}
use Rattle.xp_fabric.specs.declared.plain.PlainPort.{PlainPort}
use Rattle.xp_fabric.specs.declared.shared.Port.{Port}
use Rattle.xp_fabric.specs.Openings.{Opening, Loan, SharedTable}
use Rattle.xp_fabric.specs.Steps.{steps_from}

abbrev pub plain_opening : PlainPort → Opening
plain_opening p = record {
  words = p.memory.now.opening;
  memory = Loan p.memory.ghost_name p.before.value.history;
}

-- the steps that were made since the port was lent
abbrev pub plain_history : PlainPort → List Step
plain_history p = steps_from (length p.before.value.history) p.memory.now.history

abbrev pub shared_opening : Port → Opening
shared_opening p = record { words = p.memory.now.opening; memory = SharedTable p.memory.now.table }
