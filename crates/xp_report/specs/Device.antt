-- The texts of the network device's answers.
use Rattle.std.specs.Prelude.{ℕ, zero, suc, ◌+◌, if◌then◌else◌, Bool, true, false, List, [], ◌∷◌, map, codes}
use Rattle.std.specs.Fmt.{decimal}
use Rattle.std.specs.List.{join_with_byte}
use Rattle.xp_base.specs.declared.answer.DropCause.{DropCause}
use Rattle.xp_base.specs.declared.answer.DropCause.TheVariants as causes
use Rattle.xp_base.specs.declared.answer.TransmitAnswer.{TransmitAnswer}
use Rattle.xp_base.specs.declared.answer.TransmitAnswer.TheVariants as answers
use Rattle.xp_base.specs.declared.layout.TheConstants.{PARTS}
use Rattle.xp_base.specs.Masks.{has}
use Rattle.xp_base.specs.Show.{◌⧺◌}

-- the partitions of a set among some that follow one another, ascending: from the first, so many
unfoldable pub members : ℕ → ℕ → ℕ → List ℕ
members set q zero = []
members set q (suc more) =
    if has set q then (q ∷ members set (q + 1) more) else (members set (q + 1) more)

-- the number of a partition, behind a comma where it isn't the first
unfoldable pub partner_text : Bool → ℕ → List ℕ
partner_text true q = decimal q
partner_text false q = codes "," ⧺ decimal q

-- the numbers of the partitions of a set, ascending, with a comma between each two
unfoldable pub partners_text : ℕ → List ℕ
partners_text set = join_with_byte 44 (map decimal (members set 0 PARTS))

-- a frame was sent to some partners
unfoldable pub queued_text : ℕ → List ℕ
queued_text to = codes "queued " ⧺ partners_text to

abbrev pub cause_text : DropCause → List ℕ
cause_text causes.Multicast = codes "multicast"
cause_text causes.NoPartner = codes "no-partner"
cause_text causes.Refused = codes "refused"

unfoldable pub transmit_text : TransmitAnswer → List ℕ
transmit_text (answers.Queued to) = queued_text to
transmit_text (answers.Dropped cause) = codes "dropped " ⧺ cause_text cause
transmit_text (answers.NoBuffer in_use) = codes "no-buffer " ⧺ decimal in_use
