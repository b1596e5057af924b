-- How a copy is counted by its mark: where its first word is loaded.
use Rattle.std.specs.Prelude.{ℕ, ◌+◌, if◌then◌else◌, nat_eq, Option, Some, None}
use Rattle.xp_base.specs.declared.step.CopyMark.{CopyMark}
use Rattle.xp_protocol.specs.State.{Copies}
use Rattle.xp_protocol.specs.Rules.{begun_of, one_more}

abbrev pub counted_by : Option CopyMark → Copies → Copies
counted_by None x = x
counted_by (Some mark) x = if nat_eq mark.word 0 then one_more mark.kind x else x

-- the number of a copy: of a new one where its first word is loaded, and else of the one that goes
-- on
abbrev pub number_by : CopyMark → ℕ → Copies → ℕ
number_by mark going x = if nat_eq mark.word 0 then begun_of mark.kind x + 1 else going

abbrev pub numbered_by : CopyMark → ℕ → Copies → CopyMark
numbered_by mark going x = record mark { number = number_by mark going x }
