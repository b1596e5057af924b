use Rattle.std.proofs.Common.{◌≡◌, ◌+◌, drop}
use Rattle.std.specs.List.{prefix_len}
use Rattle.xp_text.specs.Lines.{is_blank}
use Rattle.xp_text.proofs.line.blank_len.Given as goal

abbrev pub invariant-loop-place : goal.invariant-loop-place
invariant-loop-place l = l.place + prefix_len is_blank (drop l.place l.bytes) ≡ prefix_len is_blank l.bytes
