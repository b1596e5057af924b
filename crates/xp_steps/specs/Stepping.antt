-- Which steps of a partition can be followed, and all that the answer of one leaves.
use Rattle.std.specs.Prelude.{◌≡◌, ℕ, ◌+◌, ◌-◌, ◌^◌, ◌<◌, Some}
use Rattle.xp_base.specs.declared.layout.TheConstants.{CHANNELS}
use Rattle.xp_base.specs.declared.step.Answer.{Answer}
use Rattle.xp_protocol.specs.declared.rule.PeerRule.TheVariants.{Prepare}
use Rattle.xp_protocol.specs.declared.rule.Rule.{Rule}
use Rattle.xp_protocol.specs.declared.rule.Rule.TheVariants.{Link, Peer as ForPeer}
use Rattle.xp_protocol.specs.Effects.{with_notes}
use Rattle.xp_protocol.specs.State.{State, Booting, peer_of, end_of}
use Rattle.xp_protocol.specs.Rules.{Can, after_answer, noted_rule}
use Rattle.xp_counts.specs.Counted.{AreCounted}
use Rattle.xp_plan.specs.PeerSteps.{boot_at}
use Rattle.xp_channel.specs.Planned.{MayStep}
use Rattle.xp_partition.specs.declared.keeping.Keeping.{Keeping}
use Rattle.xp_partition.specs.Keeping.{state_of, records_at, IsKept}
use Rattle.xp_partition.specs.Partners.{AllHaveNotes, AllHaveNotesLeft, LeavesUntouched}

-- where a message is accepted whose send asks for a notice, there is a place for its number
abbrev pub MayAccept : State → Rule → Type 0
MayAccept st (Link q c m) = MayStep (end_of st q c) m
MayAccept st r = Unit {0}

-- where the own memory is prepared there is a session left, under which it is opened
abbrev pub HasSession : State → Rule → Type 0
HasSession st (ForPeer q (Prepare word)) = (peer_of st q).engage.count < 2 ^ 32 - 1
HasSession st r = Unit {0}

-- the rules permit the step, and in a boot it is the one that comes next
pub record CanStep (x : Keeping) (rule : Rule) : Type 0 where
  pub kept : IsKept x
  pub can : Can x.part (state_of x) rule
  pub counts : AreCounted (2 ^ 63) (state_of x)
  pub accepts : MayAccept (state_of x) rule
  pub session : HasSession (state_of x) rule
  pub boot : (state_of x).life ≡ Booting → boot_at x.part.part (state_of x) ≡ Some rule

-- what is kept when the step has answered: what is known is what the definitions say, and so is
-- what is recorded at each end; a note is spent of the room at each of them at most
pub record IsStepped (x : Keeping) (rule : Rule) (a : Answer) (y : Keeping) : Type 0 where
  pub state : state_of y ≡ after_answer x.part (state_of x) rule a
  pub records : (q c : ℕ) → q < x.part.count → c < CHANNELS → records_at y q c
      ≡ with_notes q c (noted_rule x.part (state_of x) rule a q c) (records_at x q c)
  pub part : y.part ≡ x.part
  pub kept : IsKept y
  pub left : (notes : ℕ) → AllHaveNotes (notes + 1) x.partners
      → AllHaveNotesLeft notes y.partners
  pub untouched : LeavesUntouched x.partners y.partners
