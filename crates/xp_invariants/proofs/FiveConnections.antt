-- That one line can have five connections: two epochs of one contact, one of a contact that was lost and made anew, and one after a restart of each side.
-- One end is run through all of it, fed with what its partner's words show; each part begins where the one before ends.
use Rattle.std.proofs.Common.{◌≡◌, ℕ, ◌+◌, true, false, List, [], ◌∷◌, ◌++◌, refl, arith, Option, Some, None, inr}
use Rattle.std.specs.Prelude.{map}
use Rattle.xp_base.specs.declared.layout.TheConstants.{SIGNATURE, VERSION, VARIABLES_AT, RECORDS_AT, ARGS_AT, COUNTERS_AT, FLAGS_AT}
use Rattle.xp_base.specs.declared.reason.Reason.{Reason}
use Rattle.xp_base.specs.declared.reason.Reason.TheVariants.{CopyError, Reactivating, Unregistered}
use Rattle.xp_base.specs.declared.session.Session.{Session}
use Rattle.xp_base.specs.declared.step.CopyKind.TheVariants.{Page as PageCopy}
use Rattle.xp_base.specs.declared.link.Kind.TheVariants.{CloseRequest, CloseReply, OpenRequest, OpenReply, OpenComplete}
use Rattle.xp_base.specs.declared.link.LinkState.TheVariants.{Connected}
use Rattle.xp_base.specs.Kinds.{Kinds, no_kinds}
use Rattle.xp_base.specs.Sessions.{session_word}
use Rattle.xp_base.specs.Windows.{back_off_of}
use Rattle.xp_script.specs.declared.part.Link.{Link}
use Rattle.xp_protocol.specs.declared.contact.Look.TheVariants.{Good}
use Rattle.xp_protocol.specs.declared.rule.AreaWord.TheVariants.{SessionWord, EchoWord, PlaceWord, ArgsWord, FlagWord, CounterWord}
use Rattle.xp_protocol.specs.declared.rule.Argument.TheVariants.{Request, Reply, Code}
use Rattle.xp_protocol.specs.declared.rule.LinkRule.{LinkRule}
use Rattle.xp_protocol.specs.declared.rule.LinkRule.TheVariants.{SetFlag, ZeroGet, ZeroPut, StoreArgument, ReadArgument}
use Rattle.xp_protocol.specs.declared.rule.PeerRule.{PeerRule}
use Rattle.xp_protocol.specs.declared.rule.PeerRule.TheVariants.{AskActivation, CloseArea, ZeroMagic, ClearOldBit, Prepare, OpenArea, SetEngagementBit, ReadRecord, StoreEcho, StoreSecond, ClearEngagementBit, LookAtPage, CheckBeat, ClearDeactivationBit, TellPartner}
use Rattle.xp_protocol.specs.declared.rule.RecordField.TheVariants.{ArgsPlace, CountersPlace, FlagPlace, ChannelCount, Spare}
use Rattle.xp_protocol.specs.Acts.{register_begun, unregister_begun}
use Rattle.xp_protocol.specs.Effects.{Effect, just, and_then, Note, with_notes}
use Rattle.xp_protocol.specs.Linking.{link_can, link_effect, flags_got, settled}
use Rattle.xp_protocol.specs.Peering.{first_magic, second_magic, Here, with_reason, peer_can, peer_effect, peer_read, deactivation_heard, peer_failed, failed_reason, booted_peer}
use Rattle.xp_protocol.specs.Promised.{Name, name_of}
use Rattle.xp_protocol.specs.Records.{opened_record}
use Rattle.xp_protocol.specs.State.{Contact, End, Peer, Size, Off, Ready, cold_peer, first_contact, idle_end, idle_links, link_of, new_watch, none_going, set_link, warm_end, warm_engage, warm_peer}

-- what an end does, or what comes to it
data Step : Type 0 where
  Does : LinkRule → ℕ → Step  -- a step at the end, and its answer
  Takes : Kinds → Step
  Registers : Step
  Unregisters : Step

abbrev size : Size
size = record { entries = 8; limit = 112 }

abbrev answered : End → Effect End (List Note)
answered e = just (record e { decided = record e.decided { register = None; unregister = None } })

-- of partition 0, whose partner is 1
abbrev stepped : Step → End → Effect End (List Note)
stepped (Does m v) e = link_effect 2128 e m v
stepped (Takes ks) e = flags_got ks e
stepped Registers e = and_then (register_begun e.registration size e) answered
stepped Unregisters e = and_then (unregister_begun e.registration e) answered

abbrev MayStep : Step → End → Type 0
MayStep (Does m v) e = link_can e m
MayStep x e = Unit {0}

abbrev Steps : List Step → End → Type 0
Steps [] e = Unit {0}
Steps (x ∷ xs) e = MayStep x e × Steps xs (stepped x e).local

abbrev ends_as : List Step → End → End
ends_as [] e = e
ends_as (x ∷ xs) e = ends_as xs (stepped x e).local

abbrev notes : List Step → End → List Note
notes [] e = []
notes (x ∷ xs) e = (stepped x e).notes ++ notes xs (stepped x e).local

abbrev asked : Kinds
asked = record no_kinds { open_request = true; open_reply = true }

abbrev completed : Kinds
completed = record no_kinds { open_complete = true }

abbrev closed_by : Kinds
closed_by = record no_kinds { close_request = true; close_reply = true }

abbrev line : Link
line = record { partner = 1; channel = 0; entries = 8; limit = 112 }

abbrev first : End
first = warm_end false line

abbrev closing : List Step
closing = Unregisters ∷ Does (StoreArgument Code) 0 ∷ Does (SetFlag CloseRequest) 0 ∷ Takes closed_by ∷ Does (ReadArgument Code) 2 ∷ Does (SetFlag CloseReply) 0 ∷ []

closing_may : Steps closing first
unfolding settled
closing_may = (tt, ((refl, refl), ((refl, refl, refl), (tt, ((refl, refl, refl), ((refl, refl, tt), tt))))))

-- an end that is in a contact, and not registered or registered; and one that is connected
abbrev fresh : ℕ → Contact → Option Size → List Reason → End
fresh epoch m o closed = record idle_end { registration = o; epoch = epoch; shake = record idle_end.shake { meet = Some m }; closed = closed }

abbrev connected : ℕ → Contact → List Reason → End
connected epoch m closed = record first { epoch = epoch; shake = record first.shake { meet = Some m }; closed = closed }

-- the first connection is over
closed_is : ends_as closing first ≡ fresh 1 first_contact None (Unregistered ∷ [])
unfolding settled
closed_is = refl

abbrev opens : List Step
opens = Does ZeroGet 0 ∷ Does ZeroPut 0 ∷ Does (StoreArgument Request) 0 ∷ Does (SetFlag OpenRequest) 0 ∷ Takes asked ∷ Does (ReadArgument Request) 524400 ∷ Does (StoreArgument Reply) 0 ∷ Does (SetFlag OpenReply) 0 ∷ Does (ReadArgument Reply) 2128 ∷ Does (SetFlag OpenComplete) 0 ∷ Takes completed ∷ []

abbrev reopens : List Step
reopens = Registers ∷ opens

-- in whatever contact and epoch
module _ (epoch : ℕ) (m : Contact) (closed : List Reason) where
  opens_may : Steps opens (fresh epoch m (Some size) closed)
  unfolding settled
  opens_may = ((refl, refl, refl), ((refl, refl, refl), ((refl, refl), ((refl, refl, (refl, refl, refl)), (tt, ((refl, refl, refl), ((refl, refl), ((refl, refl, refl), ((refl, refl, refl), ((refl, refl, tt), (tt, tt)))))))))))

  reopens_may : Steps reopens (fresh epoch m None closed)
  unfolding settled
  reopens_may = (tt, ((refl, refl, refl), ((refl, refl, refl), ((refl, refl), ((refl, refl, (refl, refl, refl)), (tt, ((refl, refl, refl), ((refl, refl), ((refl, refl, refl), ((refl, refl, refl), ((refl, refl, tt), (tt, tt))))))))))))

  opens_is : ends_as opens (fresh epoch m (Some size) closed) ≡ connected epoch m closed
  unfolding settled
  opens_is = refl

  reopens_is : ends_as reopens (fresh epoch m None closed) ≡ connected epoch m closed
  unfolding settled
  reopens_is = refl

  stands : link_of (connected epoch m closed) ≡ Connected
  stands = refl

-- what is done for the partner, or what comes of it
data Move : Type 0 where
  For : PeerRule → ℕ → Move  -- a step for the partner, and its answer
  Fails : ℕ → Move  -- a load of a look fails
  Frees : Move  -- the own engagement word is loaded, without the partner's bit
  Hears : Move  -- the own deactivation word is taken, with the partner's bit
  Restarts : Move
  Waits : Move  -- as many turns go by as backing off lasts

-- in which turn and under which stamp
record Now : Type 0 where
  turn : ℕ
  stamp : ℕ
  peer : Peer

abbrev here : Now → Here
here k = record { part = 0; version = VERSION; turn = k.turn; wait = back_off_of 2; check = 0; masked = true; stamp = k.stamp; read = true }

abbrev with_effect : Now → Effect Peer (ℕ → List Note) → Now
with_effect k f = record k { peer = with_reason f.reason f.local }

abbrev moved : Move → Now → Now
moved (For m v) k = with_effect k (peer_effect (here k) k.peer m v)
moved (Fails n) k = let mark = Some (record { kind = PageCopy; number = n; word = 0 }) in record k { peer = with_reason (failed_reason mark k.peer) (peer_failed k.turn mark k.peer) }
moved Frees k = with_effect k (peer_read 0 1 k.peer)
moved Hears k = with_effect k (deactivation_heard 2 1 k.peer)
moved Restarts k = record k { stamp = k.stamp + 1; peer = booted_peer k.peer }
moved Waits k = record k { turn = k.turn + back_off_of 2 }

abbrev MayMove : Move → Now → Type 0
MayMove (For m v) k = peer_can (here k) k.peer m
MayMove x k = Unit {0}

abbrev Moves : List Move → Now → Type 0
Moves [] k = Unit {0}
Moves (x ∷ xs) k = MayMove x k × Moves xs (moved x k)

abbrev leads_to : List Move → Now → Now
leads_to [] k = k
leads_to (x ∷ xs) k = leads_to xs (moved x k)

-- what is noted of the end of channel 0
abbrev heard : Move → Now → List Note
heard (For m v) k = (peer_effect (here k) k.peer m v).notes 0
heard Frees k = (peer_read 0 1 k.peer).notes 0
heard x k = []

abbrev said : List Move → Now → List Note
said [] k = []
said (x ∷ xs) k = heard x k ++ said xs (moved x k)

-- a partner in contact: how often the own area was opened in this boot, in which turn the own bit was cleared last, in which one contact was made, the sessions, and the end of channel 0
abbrev meeting : Session → Session → Contact
meeting own theirs = record { own = own; theirs = theirs }

abbrev session : ℕ → ℕ → Session
session stamp count = record { stamp = stamp; count = count }

abbrev meets : ℕ → Option ℕ → ℕ → Contact → End → Peer
meets count cleared since m e =
    let o = fresh 0 m None [] in
    record (cold_peer Ready) {
      look = Good VERSION;
      contact = Some m;
      engage = record warm_engage { count = count; session_put = true; echo_put = true; flags_put = true; places_put = 248; args_put = 65535; counters_put = 255; read = Some (session_word m.theirs); echo = Some (session_word m.theirs); cleared_at = cleared; deactivation_cleared = true };
      links = e ∷ o ∷ o ∷ o ∷ [];
      watch = new_watch since;
    }

-- the contact is lost, since a load fails, and made anew
abbrev lost_from : Now
lost_from = record { turn = 5000; stamp = 1; peer = set_link (warm_peer false line (cold_peer Off)) 0 (connected 1 first_contact (Unregistered ∷ [])) }

abbrev lost : List Move
lost = Fails 1 ∷ For CloseArea 0 ∷ For TellPartner 0 ∷ For ClearEngagementBit 0 ∷ Frees ∷ Waits ∷ For (Prepare SessionWord) 0 ∷ For (Prepare EchoWord) 0 ∷ For (Prepare FlagWord) 0 ∷ For (Prepare (PlaceWord ArgsPlace)) 0 ∷ For (Prepare (PlaceWord CountersPlace)) 0 ∷ For (Prepare (PlaceWord FlagPlace)) 0 ∷ For (Prepare (PlaceWord ChannelCount)) 0 ∷ For (Prepare (PlaceWord Spare)) 0 ∷ For (Prepare (ArgsWord 0 0)) 0 ∷ For (Prepare (ArgsWord 0 1)) 0 ∷ For (Prepare (ArgsWord 0 2)) 0 ∷ For (Prepare (ArgsWord 0 3)) 0 ∷ For (Prepare (ArgsWord 1 0)) 0 ∷ For (Prepare (ArgsWord 1 1)) 0 ∷ For (Prepare (ArgsWord 1 2)) 0 ∷ For (Prepare (ArgsWord 1 3)) 0 ∷ For (Prepare (ArgsWord 2 0)) 0 ∷ For (Prepare (ArgsWord 2 1)) 0 ∷ For (Prepare (ArgsWord 2 2)) 0 ∷ For (Prepare (ArgsWord 2 3)) 0 ∷ For (Prepare (ArgsWord 3 0)) 0 ∷ For (Prepare (ArgsWord 3 1)) 0 ∷ For (Prepare (ArgsWord 3 2)) 0 ∷ For (Prepare (ArgsWord 3 3)) 0 ∷ For (Prepare (CounterWord 0 0)) 0 ∷ For (Prepare (CounterWord 0 1)) 0 ∷ For (Prepare (CounterWord 1 0)) 0 ∷ For (Prepare (CounterWord 1 1)) 0 ∷ For (Prepare (CounterWord 2 0)) 0 ∷ For (Prepare (CounterWord 2 1)) 0 ∷ For (Prepare (CounterWord 3 0)) 0 ∷ For (Prepare (CounterWord 3 1)) 0 ∷ For ClearDeactivationBit 0 ∷ For OpenArea 0 ∷ For LookAtPage SIGNATURE ∷ For LookAtPage VERSION ∷ For LookAtPage VARIABLES_AT ∷ For LookAtPage RECORDS_AT ∷ For LookAtPage 1 ∷ For AskActivation 0 ∷ For SetEngagementBit 0 ∷ For ReadRecord first_magic ∷ For ReadRecord 4294967298 ∷ For ReadRecord 0 ∷ For ReadRecord ARGS_AT ∷ For ReadRecord COUNTERS_AT ∷ For ReadRecord FLAGS_AT ∷ For ReadRecord 4 ∷ For ReadRecord 0 ∷ For StoreEcho 0 ∷ For StoreSecond 0 ∷ For ReadRecord second_magic ∷ For ReadRecord 4294967298 ∷ For ReadRecord 4294967298 ∷ For ReadRecord ARGS_AT ∷ For ReadRecord COUNTERS_AT ∷ For ReadRecord FLAGS_AT ∷ For ReadRecord 4 ∷ For ReadRecord 0 ∷ []

lost_may : Moves lost lost_from
unfolding idle_links none_going
lost_may = (tt, ((refl, refl), ((refl, refl), ((refl, refl, inr (refl, refl)), (tt, (tt, ((refl, tt), ((refl, tt), ((refl, tt), ((refl, tt), ((refl, tt), ((refl, tt), ((refl, tt), ((refl, tt), ((refl, (omega arith, omega arith)), ((refl, (omega arith, omega arith)), ((refl, (omega arith, omega arith)), ((refl, (omega arith, omega arith)), ((refl, (omega arith, omega arith)), ((refl, (omega arith, omega arith)), ((refl, (omega arith, omega arith)), ((refl, (omega arith, omega arith)), ((refl, (omega arith, omega arith)), ((refl, (omega arith, omega arith)), ((refl, (omega arith, omega arith)), ((refl, (omega arith, omega arith)), ((refl, (omega arith, omega arith)), ((refl, (omega arith, omega arith)), ((refl, (omega arith, omega arith)), ((refl, (omega arith, omega arith)), ((refl, (omega arith, omega arith)), ((refl, (omega arith, omega arith)), ((refl, (omega arith, omega arith)), ((refl, (omega arith, omega arith)), ((refl, (omega arith, omega arith)), ((refl, (omega arith, omega arith)), ((refl, (omega arith, omega arith)), ((refl, (omega arith, omega arith)), (refl, ((refl, refl, refl, refl), (omega arith, (omega arith, (omega arith, (omega arith, (omega arith, ((refl, refl, refl, λ e. refl), ((refl, refl, refl, refl, refl, omega arith), ((refl, refl, refl, refl, refl, omega arith), ((refl, refl, refl, refl, refl, omega arith), ((refl, refl, refl, refl, refl, omega arith), ((refl, refl, refl, refl, refl, omega arith), ((refl, refl, refl, refl, refl, omega arith), ((refl, refl, refl, refl, refl, omega arith), ((refl, refl, refl, refl, refl, omega arith), ((refl, refl, refl, refl, refl, omega arith), ((refl, refl, refl, refl, refl), ((refl, refl, refl), ((refl, refl, refl, refl, refl, omega arith), ((refl, refl, refl, refl, refl, omega arith), ((refl, refl, refl, refl, refl, omega arith), ((refl, refl, refl, refl, refl, omega arith), ((refl, refl, refl, refl, refl, omega arith), ((refl, refl, refl, refl, refl, omega arith), ((refl, refl, refl, refl, refl, omega arith), ((refl, refl, refl, refl, refl, omega arith), tt)))))))))))))))))))))))))))))))))))))))))))))))))))))))))))))))))

lost_is : (leads_to lost lost_from).peer ≡ meets 2 (Some 5000) (5000 + back_off_of 2) (meeting (session 1 2) (session 1 2)) (fresh 0 (meeting (session 1 2) (session 1 2)) (Some size) (Unregistered ∷ CopyError PageCopy 1 ∷ []))
unfolding idle_links none_going
lost_is = refl

-- the partition restarts, and makes contact again
abbrev booted_from : Now
booted_from = record { turn = 10000; stamp = 1; peer = meets 2 (Some 5000) (5000 + back_off_of 2) (meeting (session 1 2) (session 1 2)) (connected 0 (meeting (session 1 2) (session 1 2)) (Unregistered ∷ CopyError PageCopy 1 ∷ [])) }

abbrev booted : List Move
booted = Restarts ∷ For ZeroMagic 0 ∷ For ClearOldBit 0 ∷ Frees ∷ For (Prepare SessionWord) 0 ∷ For (Prepare EchoWord) 0 ∷ For (Prepare FlagWord) 0 ∷ For (Prepare (PlaceWord ArgsPlace)) 0 ∷ For (Prepare (PlaceWord CountersPlace)) 0 ∷ For (Prepare (PlaceWord FlagPlace)) 0 ∷ For (Prepare (PlaceWord ChannelCount)) 0 ∷ For (Prepare (PlaceWord Spare)) 0 ∷ For (Prepare (ArgsWord 0 0)) 0 ∷ For (Prepare (ArgsWord 0 1)) 0 ∷ For (Prepare (ArgsWord 0 2)) 0 ∷ For (Prepare (ArgsWord 0 3)) 0 ∷ For (Prepare (ArgsWord 1 0)) 0 ∷ For (Prepare (ArgsWord 1 1)) 0 ∷ For (Prepare (ArgsWord 1 2)) 0 ∷ For (Prepare (ArgsWord 1 3)) 0 ∷ For (Prepare (ArgsWord 2 0)) 0 ∷ For (Prepare (ArgsWord 2 1)) 0 ∷ For (Prepare (ArgsWord 2 2)) 0 ∷ For (Prepare (ArgsWord 2 3)) 0 ∷ For (Prepare (ArgsWord 3 0)) 0 ∷ For (Prepare (ArgsWord 3 1)) 0 ∷ For (Prepare (ArgsWord 3 2)) 0 ∷ For (Prepare (ArgsWord 3 3)) 0 ∷ For (Prepare (CounterWord 0 0)) 0 ∷ For (Prepare (CounterWord 0 1)) 0 ∷ For (Prepare (CounterWord 1 0)) 0 ∷ For (Prepare (CounterWord 1 1)) 0 ∷ For (Prepare (CounterWord 2 0)) 0 ∷ For (Prepare (CounterWord 2 1)) 0 ∷ For (Prepare (CounterWord 3 0)) 0 ∷ For (Prepare (CounterWord 3 1)) 0 ∷ For ClearDeactivationBit 0 ∷ For OpenArea 0 ∷ For LookAtPage SIGNATURE ∷ For LookAtPage VERSION ∷ For LookAtPage VARIABLES_AT ∷ For LookAtPage RECORDS_AT ∷ For LookAtPage 1 ∷ For AskActivation 0 ∷ For SetEngagementBit 0 ∷ For ReadRecord first_magic ∷ For ReadRecord 4294967299 ∷ For ReadRecord 0 ∷ For ReadRecord ARGS_AT ∷ For ReadRecord COUNTERS_AT ∷ For ReadRecord FLAGS_AT ∷ For ReadRecord 4 ∷ For ReadRecord 0 ∷ For StoreEcho 0 ∷ For StoreSecond 0 ∷ For ReadRecord second_magic ∷ For ReadRecord 4294967299 ∷ For ReadRecord 8589934593 ∷ For ReadRecord ARGS_AT ∷ For ReadRecord COUNTERS_AT ∷ For ReadRecord FLAGS_AT ∷ For ReadRecord 4 ∷ For ReadRecord 0 ∷ []

booted_may : Moves booted booted_from
unfolding idle_links none_going
booted_may = (tt, (refl, (refl, (tt, ((refl, tt), ((refl, tt), ((refl, tt), ((refl, tt), ((refl, tt), ((refl, tt), ((refl, tt), ((refl, tt), ((refl, (omega arith, omega arith)), ((refl, (omega arith, omega arith)), ((refl, (omega arith, omega arith)), ((refl, (omega arith, omega arith)), ((refl, (omega arith, omega arith)), ((refl, (omega arith, omega arith)), ((refl, (omega arith, omega arith)), ((refl, (omega arith, omega arith)), ((refl, (omega arith, omega arith)), ((refl, (omega arith, omega arith)), ((refl, (omega arith, omega arith)), ((refl, (omega arith, omega arith)), ((refl, (omega arith, omega arith)), ((refl, (omega arith, omega arith)), ((refl, (omega arith, omega arith)), ((refl, (omega arith, omega arith)), ((refl, (omega arith, omega arith)), ((refl, (omega arith, omega arith)), ((refl, (omega arith, omega arith)), ((refl, (omega arith, omega arith)), ((refl, (omega arith, omega arith)), ((refl, (omega arith, omega arith)), ((refl, (omega arith, omega arith)), ((refl, (omega arith, omega arith)), (refl, ((refl, refl, refl, refl), (omega arith, (omega arith, (omega arith, (omega arith, (omega arith, ((refl, refl, refl, λ e. refl), ((refl, refl, refl, refl, refl, tt), ((refl, refl, refl, refl, refl, omega arith), ((refl, refl, refl, refl, refl, omega arith), ((refl, refl, refl, refl, refl, omega arith), ((refl, refl, refl, refl, refl, omega arith), ((refl, refl, refl, refl, refl, omega arith), ((refl, refl, refl, refl, refl, omega arith), ((refl, refl, refl, refl, refl, omega arith), ((refl, refl, refl, refl, refl, omega arith), ((refl, refl, refl, refl, refl), ((refl, refl, refl), ((refl, refl, refl, refl, refl, omega arith), ((refl, refl, refl, refl, refl, omega arith), ((refl, refl, refl, refl, refl, omega arith), ((refl, refl, refl, refl, refl, omega arith), ((refl, refl, refl, refl, refl, omega arith), ((refl, refl, refl, refl, refl, omega arith), ((refl, refl, refl, refl, refl, omega arith), ((refl, refl, refl, refl, refl, omega arith), tt)))))))))))))))))))))))))))))))))))))))))))))))))))))))))))))))

booted_is : (leads_to booted booted_from).peer ≡ meets 1 None 10000 (meeting (session 2 1) (session 1 3)) (fresh 0 (meeting (session 2 1) (session 1 3)) None [])
unfolding idle_links none_going
booted_is = refl

-- its partner restarts: a look shows another stamp, and contact is made again
abbrev rebooted_from : Now
rebooted_from = record { turn = 15000; stamp = 2; peer = meets 1 None 10000 (meeting (session 2 1) (session 1 3)) (connected 0 (meeting (session 2 1) (session 1 3)) []) }

abbrev rebooted : List Move
rebooted = For LookAtPage SIGNATURE ∷ For LookAtPage VERSION ∷ For LookAtPage VARIABLES_AT ∷ For LookAtPage RECORDS_AT ∷ For LookAtPage 2 ∷ For CloseArea 0 ∷ For TellPartner 0 ∷ For ClearEngagementBit 0 ∷ Frees ∷ Waits ∷ For (Prepare SessionWord) 0 ∷ For (Prepare EchoWord) 0 ∷ For (Prepare FlagWord) 0 ∷ For (Prepare (PlaceWord ArgsPlace)) 0 ∷ For (Prepare (PlaceWord CountersPlace)) 0 ∷ For (Prepare (PlaceWord FlagPlace)) 0 ∷ For (Prepare (PlaceWord ChannelCount)) 0 ∷ For (Prepare (PlaceWord Spare)) 0 ∷ For (Prepare (ArgsWord 0 0)) 0 ∷ For (Prepare (ArgsWord 0 1)) 0 ∷ For (Prepare (ArgsWord 0 2)) 0 ∷ For (Prepare (ArgsWord 0 3)) 0 ∷ For (Prepare (ArgsWord 1 0)) 0 ∷ For (Prepare (ArgsWord 1 1)) 0 ∷ For (Prepare (ArgsWord 1 2)) 0 ∷ For (Prepare (ArgsWord 1 3)) 0 ∷ For (Prepare (ArgsWord 2 0)) 0 ∷ For (Prepare (ArgsWord 2 1)) 0 ∷ For (Prepare (ArgsWord 2 2)) 0 ∷ For (Prepare (ArgsWord 2 3)) 0 ∷ For (Prepare (ArgsWord 3 0)) 0 ∷ For (Prepare (ArgsWord 3 1)) 0 ∷ For (Prepare (ArgsWord 3 2)) 0 ∷ For (Prepare (ArgsWord 3 3)) 0 ∷ For (Prepare (CounterWord 0 0)) 0 ∷ For (Prepare (CounterWord 0 1)) 0 ∷ For (Prepare (CounterWord 1 0)) 0 ∷ For (Prepare (CounterWord 1 1)) 0 ∷ For (Prepare (CounterWord 2 0)) 0 ∷ For (Prepare (CounterWord 2 1)) 0 ∷ For (Prepare (CounterWord 3 0)) 0 ∷ For (Prepare (CounterWord 3 1)) 0 ∷ For ClearDeactivationBit 0 ∷ For OpenArea 0 ∷ For LookAtPage SIGNATURE ∷ For LookAtPage VERSION ∷ For LookAtPage VARIABLES_AT ∷ For LookAtPage RECORDS_AT ∷ For LookAtPage 2 ∷ For AskActivation 0 ∷ For SetEngagementBit 0 ∷ For ReadRecord first_magic ∷ For ReadRecord 8589934593 ∷ For ReadRecord 0 ∷ For ReadRecord ARGS_AT ∷ For ReadRecord COUNTERS_AT ∷ For ReadRecord FLAGS_AT ∷ For ReadRecord 4 ∷ For ReadRecord 0 ∷ For StoreEcho 0 ∷ For StoreSecond 0 ∷ For ReadRecord second_magic ∷ For ReadRecord 8589934593 ∷ For ReadRecord 8589934594 ∷ For ReadRecord ARGS_AT ∷ For ReadRecord COUNTERS_AT ∷ For ReadRecord FLAGS_AT ∷ For ReadRecord 4 ∷ For ReadRecord 0 ∷ []

rebooted_may : Moves rebooted rebooted_from
unfolding idle_links none_going
rebooted_may = (omega arith, (omega arith, (omega arith, (omega arith, (omega arith, ((refl, refl), ((refl, refl), ((refl, refl, inr (refl, refl)), (tt, (tt, ((refl, tt), ((refl, tt), ((refl, tt), ((refl, tt), ((refl, tt), ((refl, tt), ((refl, tt), ((refl, tt), ((refl, (omega arith, omega arith)), ((refl, (omega arith, omega arith)), ((refl, (omega arith, omega arith)), ((refl, (omega arith, omega arith)), ((refl, (omega arith, omega arith)), ((refl, (omega arith, omega arith)), ((refl, (omega arith, omega arith)), ((refl, (omega arith, omega arith)), ((refl, (omega arith, omega arith)), ((refl, (omega arith, omega arith)), ((refl, (omega arith, omega arith)), ((refl, (omega arith, omega arith)), ((refl, (omega arith, omega arith)), ((refl, (omega arith, omega arith)), ((refl, (omega arith, omega arith)), ((refl, (omega arith, omega arith)), ((refl, (omega arith, omega arith)), ((refl, (omega arith, omega arith)), ((refl, (omega arith, omega arith)), ((refl, (omega arith, omega arith)), ((refl, (omega arith, omega arith)), ((refl, (omega arith, omega arith)), ((refl, (omega arith, omega arith)), ((refl, (omega arith, omega arith)), (refl, ((refl, refl, refl, refl), (omega arith, (omega arith, (omega arith, (omega arith, (omega arith, ((refl, refl, refl, λ e. refl), ((refl, refl, refl, refl, refl, omega arith), ((refl, refl, refl, refl, refl, omega arith), ((refl, refl, refl, refl, refl, omega arith), ((refl, refl, refl, refl, refl, omega arith), ((refl, refl, refl, refl, refl, omega arith), ((refl, refl, refl, refl, refl, omega arith), ((refl, refl, refl, refl, refl, omega arith), ((refl, refl, refl, refl, refl, omega arith), ((refl, refl, refl, refl, refl, omega arith), ((refl, refl, refl, refl, refl), ((refl, refl, refl), ((refl, refl, refl, refl, refl, omega arith), ((refl, refl, refl, refl, refl, omega arith), ((refl, refl, refl, refl, refl, omega arith), ((refl, refl, refl, refl, refl, omega arith), ((refl, refl, refl, refl, refl, omega arith), ((refl, refl, refl, refl, refl, omega arith), ((refl, refl, refl, refl, refl, omega arith), ((refl, refl, refl, refl, refl, omega arith), tt)))))))))))))))))))))))))))))))))))))))))))))))))))))))))))))))))))))

rebooted_is : (leads_to rebooted rebooted_from).peer ≡ meets 2 (Some 15000) (15000 + back_off_of 2) (meeting (session 2 2) (session 2 1)) (fresh 0 (meeting (session 2 2) (session 2 1)) (Some size) (Reactivating 1 2 ∷ []))
unfolding idle_links none_going
rebooted_is = refl

-- the names of the records of all of it: five connections, the newest first
abbrev all_notes : List Note
all_notes =
    notes closing first ++ (notes reopens (fresh 1 first_contact None (Unregistered ∷ [])) ++ (said lost lost_from ++ (notes opens (fresh 0 (meeting (session 1 2) (session 1 2)) (Some size) (Unregistered ∷ CopyError PageCopy 1 ∷ []))
    ++ (said booted booted_from ++ (notes reopens (fresh 0 (meeting (session 2 1) (session 1 3)) None []) ++ (said rebooted rebooted_from ++ notes opens (fresh 0 (meeting (session 2 2) (session 2 1)) (Some size) (Reactivating 1 2 ∷ []))))))))

abbrev named : ℕ → Session → Session → Name
named epoch own theirs = record { epoch = epoch; own = own; theirs = theirs }

five : map name_of (with_notes 1 0 all_notes (opened_record line ∷ [])) ≡ named 0 (session 2 2) (session 2 1) ∷ named 0 (session 2 1) (session 1 3) ∷ named 0 (session 1 2) (session 1 2) ∷ named 1 (session 1 1) (session 1 1) ∷ named 0 (session 1 1) (session 1 1) ∷ []
unfolding settled idle_links none_going
five = refl
