use Rattle.std.proofs.Common.{◌≡◌, length}
use Rattle.std.specs.Mem.Slots.{slots_items}
use Rattle.xp_base.specs.declared.layout.TheConstants.{PART_WORDS}
use Rattle.xp_fabric.proofs.Closing.{SomeWordsPut}
use Rattle.xp_fabric.proofs.shared.put_words.Given as goal

abbrev pub invariant-loop-place : goal.invariant-loop-place
invariant-loop-place l = SomeWordsPut PART_WORDS (slots_items l.closed.words) (length l.fn.into) l.place l.into × (length l.into ≡ length l.fn.into)
