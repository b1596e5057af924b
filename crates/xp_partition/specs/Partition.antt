-- What always holds of a whole partition.
use Rattle.xp_plan.specs.Plan.{IsVisit}
use Rattle.xp_partition.specs.declared.partition.Partition.{Partition}
use Rattle.xp_partition.specs.Keeping.{IsKept}
use Rattle.xp_partition.specs.Partners.{AreRoomy}

pub record IsPartition (x : Partition) : Type 0 where
  pub kept : IsKept x.keeping
  pub visit : IsVisit x.keeping.part x.planner
  pub roomy : AreRoomy x.keeping.partners
