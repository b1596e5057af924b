-- The rules can be followed: a partition that has booted again and one that is up make a contact anew, each fed with what the other's record shows.
use Rattle.std.proofs.Common.{◌≡◌, ℕ, ◌<◌, true, List, [], ◌∷◌, refl, arith, Some}
use Rattle.xp_base.specs.declared.layout.TheConstants.{SIGNATURE, VERSION, VARIABLES_AT, RECORDS_AT, ARGS_AT, COUNTERS_AT, FLAGS_AT}
use Rattle.xp_base.specs.Windows.{back_off_of}
use Rattle.xp_protocol.specs.declared.rule.AreaWord.TheVariants.{SessionWord, EchoWord, PlaceWord, ArgsWord, FlagWord, CounterWord}
use Rattle.xp_protocol.specs.declared.rule.RecordField.TheVariants.{ArgsPlace, CountersPlace, FlagPlace, ChannelCount, Spare}
use Rattle.xp_protocol.specs.declared.rule.PeerRule.{PeerRule}
use Rattle.xp_protocol.specs.declared.rule.PeerRule.TheVariants.{ZeroMagic, ClearOldBit, Prepare, OpenArea, SetEngagementBit, ReadRecord, StoreEcho, StoreSecond, LookAtPage, AskActivation, ClearDeactivationBit}
use Rattle.xp_protocol.specs.State.{Peer, Off, cold_peer}
use Rattle.xp_protocol.specs.Peering.{first_magic, second_magic, Here, peer_can, peer_effect, peer_read, booted_peer}

-- a step for a partner, and the word that it is answered
record Made : Type 0 where
  rule : PeerRule
  answer : ℕ

abbrev made : PeerRule → ℕ → Made
made r v = record { rule = r; answer = v }

-- of partition 0 in turn 1, where the mask has the partner's bit
abbrev here : ℕ → Here
here stamp = record { part = 0; version = VERSION; turn = 1; wait = back_off_of 2; check = 0; masked = true; stamp = stamp; read = true }

abbrev Runs : ℕ → Peer → List Made → Type 0
Runs t p [] = Unit {0}
Runs t p (x ∷ more) = peer_can (here t) p x.rule × Runs t (peer_effect (here t) p x.rule x.answer).local more

abbrev after : ℕ → Peer → List Made → Peer
after t p [] = p
after t p (x ∷ more) = after t (peer_effect (here t) p x.rule x.answer).local more

-- the own memory is opened; the partner's session is `theirs`, the own one `own`: the first copy shows no echo yet, the second the own session
abbrev engages : ℕ → ℕ → List Made
engages own theirs =
    made (Prepare SessionWord) 0 ∷ made (Prepare EchoWord) 0 ∷ made (Prepare FlagWord) 0
    ∷ made (Prepare (PlaceWord ArgsPlace)) 0 ∷ made (Prepare (PlaceWord CountersPlace)) 0 ∷ made (Prepare (PlaceWord FlagPlace)) 0 ∷ made (Prepare (PlaceWord ChannelCount)) 0 ∷ made (Prepare (PlaceWord Spare)) 0
    ∷ made (Prepare (ArgsWord 0 0)) 0 ∷ made (Prepare (ArgsWord 0 1)) 0 ∷ made (Prepare (ArgsWord 0 2)) 0 ∷ made (Prepare (ArgsWord 0 3)) 0
    ∷ made (Prepare (ArgsWord 1 0)) 0 ∷ made (Prepare (ArgsWord 1 1)) 0 ∷ made (Prepare (ArgsWord 1 2)) 0 ∷ made (Prepare (ArgsWord 1 3)) 0
    ∷ made (Prepare (ArgsWord 2 0)) 0 ∷ made (Prepare (ArgsWord 2 1)) 0 ∷ made (Prepare (ArgsWord 2 2)) 0 ∷ made (Prepare (ArgsWord 2 3)) 0
    ∷ made (Prepare (ArgsWord 3 0)) 0 ∷ made (Prepare (ArgsWord 3 1)) 0 ∷ made (Prepare (ArgsWord 3 2)) 0 ∷ made (Prepare (ArgsWord 3 3)) 0
    ∷ made (Prepare (CounterWord 0 0)) 0 ∷ made (Prepare (CounterWord 0 1)) 0 ∷ made (Prepare (CounterWord 1 0)) 0 ∷ made (Prepare (CounterWord 1 1)) 0
    ∷ made (Prepare (CounterWord 2 0)) 0 ∷ made (Prepare (CounterWord 2 1)) 0 ∷ made (Prepare (CounterWord 3 0)) 0 ∷ made (Prepare (CounterWord 3 1)) 0
    ∷ made ClearDeactivationBit 0 ∷ made OpenArea 0 ∷ made LookAtPage SIGNATURE ∷ made LookAtPage VERSION ∷ made LookAtPage VARIABLES_AT ∷ made LookAtPage RECORDS_AT ∷ made LookAtPage 1 ∷ made AskActivation 0 ∷ made SetEngagementBit 0 ∷ made ReadRecord first_magic ∷ made ReadRecord theirs ∷ made ReadRecord 0 ∷ made ReadRecord ARGS_AT ∷ made ReadRecord COUNTERS_AT ∷ made ReadRecord FLAGS_AT ∷ made ReadRecord 4 ∷ made ReadRecord 0 ∷ made StoreEcho 0 ∷ made StoreSecond 0
    ∷ made ReadRecord second_magic ∷ made ReadRecord theirs ∷ made ReadRecord own ∷ made ReadRecord ARGS_AT ∷ made ReadRecord COUNTERS_AT ∷ made ReadRecord FLAGS_AT ∷ made ReadRecord 4 ∷ made ReadRecord 0 ∷ []

abbrev low : (c f : ℕ) → Type 0
low c f = (c < 4) × (f < 2)

l0 : low 0 0
l0 = (omega arith, omega arith)

l1 : low 0 1
l1 = (omega arith, omega arith)

l2 : low 1 0
l2 = (omega arith, omega arith)

l3 : low 1 1
l3 = (omega arith, omega arith)

l4 : low 2 0
l4 = (omega arith, omega arith)

l5 : low 2 1
l5 = (omega arith, omega arith)

l6 : low 3 0
l6 = (omega arith, omega arith)

l7 : low 3 1
l7 = (omega arith, omega arith)

-- one has booted again, so its stamp is 2: its partner's bit was clear
abbrev free : Peer
free = (peer_read 0 1 (after 0 (booted_peer (cold_peer Off)) (made ZeroMagic 0 ∷ made ClearOldBit 0 ∷ []))).local

comes : Runs 2 free (engages 8589934593 4294967297)
comes = ((refl, tt), ((refl, tt), ((refl, tt), ((refl, tt), ((refl, tt), ((refl, tt), ((refl, tt), ((refl, tt), ((refl, (omega arith, omega arith)), ((refl, (omega arith, omega arith)), ((refl, (omega arith, omega arith)), ((refl, (omega arith, omega arith)), ((refl, (omega arith, omega arith)), ((refl, (omega arith, omega arith)), ((refl, (omega arith, omega arith)), ((refl, (omega arith, omega arith)), ((refl, (omega arith, omega arith)), ((refl, (omega arith, omega arith)), ((refl, (omega arith, omega arith)), ((refl, (omega arith, omega arith)), ((refl, (omega arith, omega arith)), ((refl, (omega arith, omega arith)), ((refl, (omega arith, omega arith)), ((refl, (omega arith, omega arith)), ((refl, l0), ((refl, l1), ((refl, l2), ((refl, l3), ((refl, l4), ((refl, l5), ((refl, l6), ((refl, l7), (refl, ((refl, refl, refl, refl), (omega arith, (omega arith, (omega arith, (omega arith, (omega arith, ((refl, refl, refl, λ e. refl), ((refl, refl, refl, refl, refl, tt), ((refl, refl, refl, refl, refl, omega arith), ((refl, refl, refl, refl, refl, omega arith), ((refl, refl, refl, refl, refl, omega arith), ((refl, refl, refl, refl, refl, omega arith), ((refl, refl, refl, refl, refl, omega arith), ((refl, refl, refl, refl, refl, omega arith), ((refl, refl, refl, refl, refl, omega arith), ((refl, refl, refl, refl, refl, omega arith), ((refl, refl, refl, refl, refl), ((refl, refl, refl), ((refl, refl, refl, refl, refl, omega arith), ((refl, refl, refl, refl, refl, omega arith), ((refl, refl, refl, refl, refl, omega arith), ((refl, refl, refl, refl, refl, omega arith), ((refl, refl, refl, refl, refl, omega arith), ((refl, refl, refl, refl, refl, omega arith), ((refl, refl, refl, refl, refl, omega arith), ((refl, refl, refl, refl, refl, omega arith), tt)))))))))))))))))))))))))))))))))))))))))))))))))))))))))))

came : (after 2 free (engages 8589934593 4294967297)).contact ≡ Some (record { own = record { stamp = 2; count = 1 }; theirs = record { stamp = 1; count = 1 } })
came = refl

-- the other is in its first boot
also_comes : Runs 1 (cold_peer Off) (engages 4294967297 8589934593)
also_comes = ((refl, tt), ((refl, tt), ((refl, tt), ((refl, tt), ((refl, tt), ((refl, tt), ((refl, tt), ((refl, tt), ((refl, (omega arith, omega arith)), ((refl, (omega arith, omega arith)), ((refl, (omega arith, omega arith)), ((refl, (omega arith, omega arith)), ((refl, (omega arith, omega arith)), ((refl, (omega arith, omega arith)), ((refl, (omega arith, omega arith)), ((refl, (omega arith, omega arith)), ((refl, (omega arith, omega arith)), ((refl, (omega arith, omega arith)), ((refl, (omega arith, omega arith)), ((refl, (omega arith, omega arith)), ((refl, (omega arith, omega arith)), ((refl, (omega arith, omega arith)), ((refl, (omega arith, omega arith)), ((refl, (omega arith, omega arith)), ((refl, l0), ((refl, l1), ((refl, l2), ((refl, l3), ((refl, l4), ((refl, l5), ((refl, l6), ((refl, l7), (refl, ((refl, refl, refl, refl), (omega arith, (omega arith, (omega arith, (omega arith, (omega arith, ((refl, refl, refl, λ e. refl), ((refl, refl, refl, refl, refl, tt), ((refl, refl, refl, refl, refl, omega arith), ((refl, refl, refl, refl, refl, omega arith), ((refl, refl, refl, refl, refl, omega arith), ((refl, refl, refl, refl, refl, omega arith), ((refl, refl, refl, refl, refl, omega arith), ((refl, refl, refl, refl, refl, omega arith), ((refl, refl, refl, refl, refl, omega arith), ((refl, refl, refl, refl, refl, omega arith), ((refl, refl, refl, refl, refl), ((refl, refl, refl), ((refl, refl, refl, refl, refl, omega arith), ((refl, refl, refl, refl, refl, omega arith), ((refl, refl, refl, refl, refl, omega arith), ((refl, refl, refl, refl, refl, omega arith), ((refl, refl, refl, refl, refl, omega arith), ((refl, refl, refl, refl, refl, omega arith), ((refl, refl, refl, refl, refl, omega arith), ((refl, refl, refl, refl, refl, omega arith), tt)))))))))))))))))))))))))))))))))))))))))))))))))))))))))))

also_came : (after 1 (cold_peer Off) (engages 4294967297 8589934593)).contact ≡ Some (record { own = record { stamp = 1; count = 1 }; theirs = record { stamp = 2; count = 1 } })
also_came = refl
