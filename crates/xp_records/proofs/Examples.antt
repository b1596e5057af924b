-- What the causes of a send say of single runs, each computed.
use Rattle.std.proofs.Common.{◌≡◌, ℕ, Bool, true, false, List, [], ◌∷◌, refl, Some, None}
use Rattle.xp_base.specs.declared.answer.SendAnswer.TheVariants.{Ok as SendOk, TooBig, Disconnecting, NotConnected, NoSlot}
use Rattle.xp_base.specs.declared.link.LinkState.{LinkState}
use Rattle.xp_base.specs.declared.link.LinkState.TheVariants.{Connected, Closing}
use Rattle.xp_base.specs.declared.reason.Reason.TheVariants.{Unloading}
use Rattle.xp_base.specs.declared.step.Answer.TheVariants.{Word}
use Rattle.xp_base.specs.declared.step.OpKind.TheVariants.{Load, Store}
use Rattle.xp_script.specs.declared.part.Link.{Link as Line}
use Rattle.xp_protocol.specs.declared.rule.Rule.TheVariants.{Link}
use Rattle.xp_protocol.specs.declared.rule.LinkRule.TheVariants.{Ring}
use Rattle.xp_protocol.specs.declared.rule.RingRule.TheVariants.{ReadGet, AcceptMessage}
use Rattle.xp_protocol.specs.State.{End, idle_end, warm_end}
use Rattle.xp_records.specs.Answers.{Passed, SendRun, first_cause}

-- an end that is connected to partner 1 on channel 0, with a queue of 2 entries of 1 byte that holds 2 messages
abbrev line : Line
line = record { partner = 1; channel = 0; entries = 2; limit = 1 }

abbrev warm : End
warm = warm_end false line

abbrev filled : End
filled = record warm { sides = record warm.sides { send = record warm.sides.send { put = 2 } } }

abbrev run : End → List ℕ → Bool → List Passed → SendRun
run e payload wait steps = record { boot = 1; number = 1; partner = 1; channel = 0; payload = payload; wait = wait; beginning = e; steps = steps; answer = None }

abbrev loads : ℕ → ℕ → LinkState → Passed
loads c get link = record { rule = Some (Link 1 c (Ring ReadGet)); kind = Load; answer = Word get; link = link }

abbrev puts : ℕ → Passed
puts put = record { rule = Some (Link 1 0 (Ring AcceptMessage)); kind = Store put; answer = Word 0; link = Connected }

abbrev closes : Passed
closes = record { rule = None; kind = Load; answer = Word 0; link = Closing Unloading }

too_long : first_cause (run warm (7 ∷ 8 ∷ []) true []) ≡ Some (TooBig 2 1)
too_long = refl

not_connected : first_cause (run idle_end (7 ∷ 8 ∷ []) true []) ≡ Some NotConnected
not_connected = refl

goes_on : first_cause (run filled (7 ∷ []) false (loads 0 1 Connected ∷ [])) ≡ None
goes_on = refl

full : first_cause (run filled (7 ∷ []) false (loads 0 0 Connected ∷ closes ∷ [])) ≡ Some (NoSlot 2 0)
full = refl

full_elsewhere : first_cause (run filled (7 ∷ []) false (loads 2 0 Connected ∷ [])) ≡ None
full_elsewhere = refl

waits : first_cause (run filled (7 ∷ []) true (loads 0 0 Connected ∷ closes ∷ [])) ≡ Some (Disconnecting Unloading)
waits = refl

accepted : first_cause (run filled (7 ∷ []) false (loads 0 1 Connected ∷ puts 3 ∷ [])) ≡ Some (SendOk 2)
accepted = refl
