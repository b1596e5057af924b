use Rattle.xp_base.specs.declared.layout.TheConstants.{PART_WORDS}
use Rattle.xp_fabric.proofs.RuleLemmas.{opens}
use Rattle.xp_fabric.proofs.shared.SharedMemory.open.Goals as goal

pub of_words-requires : goal.of_words-requires
of_words-requires c = opens PART_WORDS c.args.words.now c.flat.result.now c.flat.ensures.rows c.flat.ensures.length
