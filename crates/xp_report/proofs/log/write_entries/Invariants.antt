use Rattle.std.proofs.Common.{◌≡◌, ◌++◌, drop, string_bytes}
use Rattle.xp_report.specs.Log.{entries_text}
use Rattle.xp_report.proofs.log.write_entries.Given as goal

abbrev pub invariant-loop-entry : goal.invariant-loop-entry
invariant-loop-entry l = string_bytes l.out ++ entries_text (drop l.entry-index l.entries) ≡ string_bytes l.initial.out ++ entries_text l.entries
