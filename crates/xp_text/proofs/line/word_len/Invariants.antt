use Rattle.std.proofs.Common.{◌≡◌, ◌+◌, drop}
use Rattle.std.specs.List.{prefix_len}
use Rattle.xp_text.specs.Lines.{is_solid}
use Rattle.xp_text.proofs.line.word_len.Given as goal

abbrev pub invariant-loop-place : goal.invariant-loop-place
invariant-loop-place l = l.place + prefix_len is_solid (drop l.place l.bytes) ≡ prefix_len is_solid l.bytes
