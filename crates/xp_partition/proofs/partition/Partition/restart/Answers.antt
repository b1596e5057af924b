use Rattle.xp_partition.proofs.Recording.{all_records_booted}
use Rattle.xp_partition.proofs.partition.Partition.restart.Goals as goal

pub returns-clause-records : goal.returns-clause-records
returns-clause-records c = λ q d l. all_records_booted _ _ _ c.requires.partition.kept.count c.boot.ensures.each q d l
