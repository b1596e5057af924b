use Rattle.std.proofs.Common.{◌≡◌, ◌+◌, ◌≤◌, length}
use Rattle.xp_text.specs.Lines.{parts_of}
use Rattle.xp_scenario.specs.Drafts.{fresh}
use Rattle.xp_scenario.specs.Text.{lines_say}
use Rattle.xp_scenario.proofs.text.draft_of.Given as goal

abbrev pub invariant-loop-error : goal.invariant-loop-error
invariant-loop-error l = record {
  lines : lines_say l.number (parts_of 10 l.rest) l.draft ≡ lines_say 1 (parts_of 10 l.fn.text) fresh;
  fits : l.number + length l.rest ≤ 1 + length l.fn.text;
}

abbrev pub decreases-loop-error : goal.decreases-loop-error
decreases-loop-error l = length l.rest
