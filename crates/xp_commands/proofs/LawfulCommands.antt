-- A line of a command says a lawful command.
use Rattle.std.proofs.Common.{◌≢◌, ℕ, ◌<◌, ◌≤◌, true, arith, None}
use Rattle.xp_base.specs.declared.layout.TheConstants.{CHANNELS}
use Rattle.xp_script.specs.declared.limits.TheConstants.{DEVICE_CHANNEL}
use Rattle.xp_script.specs.declared.log.Verb.{Verb}
use Rattle.xp_script.specs.declared.log.Verb.TheVariants as verbs
use Rattle.xp_script.specs.Lawful.{IsWord, IsEnd, IsMessageEnd, IsLawfulCommand}
use Rattle.xp_forms.specs.Values.{SaysOnly}
use Rattle.xp_commands.specs.declared.command.Owner.{Owner}
use Rattle.xp_commands.specs.Commands.{command_form}

-- the partition whose script it is, where payloads are kept
abbrev pub keeper : ℕ → ℕ → ℕ → Owner
keeper count part minor = record { count = count; part = part; minor = minor; keeps = true }

pub is_word : (n : ℕ) → n ≤ 18446744073709551615 → IsWord n
is_word n le = omega arith

end_of : (count own q c : ℕ) → (q < count) × (q ≢ own) → c < CHANNELS → IsEnd count own q c
end_of count own q c h k = record { partner = h.0; other = h.1; channel = k }

message_end : (count own q c : ℕ) → (q < count) × (q ≢ own) → (c < CHANNELS) × (c ≢ DEVICE_CHANNEL) → IsMessageEnd count own q c
message_end count own q c h k = record { end = end_of count own q c h k.0; message = k.1 }

pub lawful_command : (count own minor : ℕ) (verb : Verb) → SaysOnly None (IsLawfulCommand count own minor) (command_form (keeper count own minor) verb)
lawful_command count own minor verbs.Register =
    λ q hq _. λ c hc _. ((λ n hn _. ((λ l hl _. (end_of count own q c hq hc, record { some = hn.0; few = hn.1; short = hl.0; room = hl.1 })), tt)), tt)
lawful_command count own minor verbs.Unregister = λ q hq _. λ c hc _. end_of count own q c hq hc
lawful_command count own minor verbs.Connected = λ q hq _. λ c hc _. end_of count own q c hq hc
lawful_command count own minor verbs.Closed = λ q hq _. λ c hc _. end_of count own q c hq hc
lawful_command count own minor verbs.Drain = λ q hq _. λ c hc _. end_of count own q c hq hc
lawful_command count own minor verbs.Send = λ q hq _. λ c hc _. λ bytes hb.
    let e = message_end count own q c hq hc in
    (((e, hb.high, hb.each), (e, hb.high, hb.each)), ((e, hb.high, hb.each), (e, hb.high, hb.each)))
lawful_command count own minor verbs.Take = λ q hq _. λ c hc _. let e = message_end count own q c hq hc in (e, e)
lawful_command count own minor verbs.Release = λ q hq _. λ c hc _. λ n hn _. (message_end count own q c hq hc, is_word n hn.1)
lawful_command count own minor verbs.Net = λ bytes hb. (hb.low, hb.high, hb.each)
lawful_command count own minor verbs.Frames = λ n hn _. is_word n hn.1
lawful_command count own minor verbs.Deactivate = λ q hq _. hq
lawful_command count own minor verbs.Activate = λ q hq _. hq
lawful_command count own minor verbs.Leave = tt
lawful_command count own minor verbs.Idle = λ n hn _. hn
lawful_command count own minor verbs.Offline = tt
lawful_command count own minor verbs.Online = tt
