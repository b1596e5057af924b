use Rattle.xp_script.specs.Parts.{part_of}
use Rattle.xp_protocol.specs.Runs.{start, state_after}
use Rattle.xp_records.proofs.Gathered.{all_promised}
use Rattle.xp_records.proofs.records.all_promised.Goals as goal

pub returns : goal.returns
returns c = all_promised (λ s law p l ts runs. c.plans_few.ensures.boots (part_of s p) (state_after (part_of s p) (start (part_of s p)) ts) (c.plans_few.ensures.lawful s p law l) (c.boots_planned.ensures.history (part_of s p) ts runs))
