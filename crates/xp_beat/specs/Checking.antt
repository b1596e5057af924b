-- What a check of a partner's heartbeat shows.
use Rattle.std.specs.Prelude.{◌≡◌, ℕ, if◌then◌else◌, [], ◌∷◌, Option, Some, None}
use Rattle.std.specs.Int.{bit_at}
use Rattle.xp_base.specs.declared.reason.Reason.{Reason}
use Rattle.xp_base.specs.declared.reason.Reason.TheVariants as reasons
use Rattle.xp_protocol.specs.Peering.{is_still, or_zero}
use Rattle.xp_beat.specs.declared.check.BeatAnswer.{BeatAnswer}
use Rattle.xp_beat.specs.declared.check.BeatAnswer.TheVariants.{Alive, NoHeartbeat}

-- the heartbeat is for the own partition, and where the partner isn't offline its count is another
-- one than that of the last check
pub record HasBeat (own : ℕ) (last : Option ℕ) (now mask offline : ℕ) : Type 0 where
  pub for_it : bit_at mask own ≡ 1
  pub goes_on : offline ≡ 0 → last ≡ Some now → ⊥

abbrev pub beat_answer : ℕ → Option ℕ → ℕ → ℕ → ℕ → BeatAnswer
beat_answer own last now mask offline =
    if is_still own last (now ∷ mask ∷ offline ∷ []) then NoHeartbeat (or_zero last) now mask
    else Alive

abbrev pub answer_reason : BeatAnswer → Option Reason
answer_reason Alive = None
answer_reason (NoHeartbeat last now mask) = Some (reasons.NoHeartbeat last now mask)
