use Rattle.std.proofs.Common.{◌≡◌, ◌≤◌, ◌+◌, ◌++◌, drop, string_bytes}
use Rattle.xp_print.specs.Payloads.{runs_from, runs_text, payload_word}
use Rattle.xp_print.proofs.payload.write_payload.Given as goal

abbrev pub invariant-loop-next : goal.invariant-loop-next
invariant-loop-next l = record {
  text : string_bytes l.out ++ runs_text l.before (runs_from l.count l.byte (drop l.next-index l.next-items))
      ≡ string_bytes l.initial.out ++ payload_word l.bytes;
  count : l.count ≤ l.next-index + 1;
}
