use Rattle.std.proofs.Common.{◌≡◌, drop}
use Rattle.xp_forms.specs.Forms.{is_ascii}
use Rattle.xp_forms.proofs.fields.is_ascii.Given as goal

abbrev pub invariant-loop-byte : goal.invariant-loop-byte
invariant-loop-byte l = is_ascii (drop l.byte-index l.word) ≡ is_ascii l.word
