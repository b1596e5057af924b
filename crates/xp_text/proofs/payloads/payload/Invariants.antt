use Rattle.std.proofs.Common.{◌≡◌, length}
use Rattle.xp_text.specs.Lines.{parts_of}
use Rattle.xp_text.specs.Payloads.{pieces_in, behind_bytes}
use Rattle.xp_text.proofs.payloads.payload.Given as goal

abbrev pub invariant-loop-bytes : goal.invariant-loop-bytes
invariant-loop-bytes l = behind_bytes l.bytes.items (pieces_in (parts_of 43 l.rest)) ≡ pieces_in (parts_of 43 l.fn.word)

abbrev pub decreases-loop-bytes : goal.decreases-loop-bytes
decreases-loop-bytes l = length l.rest
