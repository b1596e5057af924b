use Rattle.std.proofs.Common.{◌≡◌, ◌≤◌, length}
use Rattle.std.specs.Option.{option_map}
use Rattle.xp_text.specs.declared.payloads.TheConstants.{JOINER}
use Rattle.xp_text.specs.Lines.{parts_of}
use Rattle.xp_text.specs.Payloads.{pieces_in}
use Rattle.xp_text.proofs.LengthLemmas.{length_after}
use Rattle.xp_text.proofs.lengths.payload_len.Given as goal

abbrev pub invariant-loop-piece : goal.invariant-loop-piece
invariant-loop-piece l = record {
  total : length_after l.len (pieces_in (parts_of JOINER l.rest)) ≡ option_map length (pieces_in (parts_of JOINER l.fn.word));
  within : l.len ≤ l.most;
}

abbrev pub decreases-loop-piece : goal.decreases-loop-piece
decreases-loop-piece l = length l.rest
