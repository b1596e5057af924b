-- Which rule a step follows, in the state in which it is made: by whose word it is, what it does
-- with it, where it stands and which copy it belongs to.
use Rattle.xp_base.specs.declared.layout.TheConstants.{PARTS, CHANNELS, STAMP, BEAT, MASK, OFFLINE, ACTIVATION, ENGAGED, DEACTIVATION}
use Rattle.std.specs.Prelude.{ℕ, zero, suc, ◌+◌, Bool, true, false, if◌then◌else◌, ◌==◌, List, [], ◌∷◌, Option, Some, None, ◌-◌}
use Rattle.xp_base.specs.declared.step.Op.{Op}
use Rattle.xp_base.specs.declared.step.OpKind.{OpKind}
use Rattle.xp_base.specs.declared.step.OpKind.TheVariants.{Load, Store, Or, And, Take}
use Rattle.xp_base.specs.declared.step.CopyMark.{CopyMark}
use Rattle.xp_base.specs.declared.step.CopyKind.{CopyKind}
use Rattle.xp_base.specs.declared.step.CopyKind.TheVariants.{Get, Counters, Entries, Page as PageCopy, Beat as BeatCopy, Record as RecordCopy, Args as ArgsCopy}
use Rattle.xp_base.specs.declared.link.Kind.{Kind}
use Rattle.xp_base.specs.declared.link.Kind.TheVariants.{CloseRequest, CloseReply, OpenRequest, OpenReply, OpenComplete, MsgRequest}
use Rattle.xp_base.specs.Kinds.{flag}
use Rattle.xp_protocol.specs.Effects.{all_but}
use Rattle.xp_base.specs.Places.{Place, Open, Record, Args, Counter, Entry, Flag, place_of}
use Rattle.xp_protocol.specs.declared.rule.RingRule.TheVariants.{ReadGet, WriteEntryWord, AcceptMessage}
use Rattle.xp_protocol.specs.declared.rule.PullRule.TheVariants.{ReadCounters, ReadEntry}
use Rattle.xp_protocol.specs.declared.rule.LinkRule.TheVariants.{Ring, Pull, Acknowledge, SetFlag, ZeroGet, ZeroPut, StoreArgument, ReadArgument}
use Rattle.xp_protocol.specs.declared.rule.AreaWord.TheVariants.{SessionWord, EchoWord, PlaceWord, ArgsWord, FlagWord, CounterWord}
use Rattle.xp_protocol.specs.declared.rule.RecordField.TheVariants.{ArgsPlace, CountersPlace, FlagPlace, ChannelCount, Spare}
use Rattle.xp_protocol.specs.declared.rule.PeerRule.TheVariants.{AskActivation, TakeFlags, CloseArea, ZeroMagic, ClearOldBit, Prepare, OpenArea, SetEngagementBit, ReadRecord, StoreEcho, StoreSecond, ClearEngagementBit, LookAtPage, CheckBeat, ClearDeactivationBit, TellPartner}
use Rattle.xp_protocol.specs.declared.rule.OwnRule.TheVariants.{ReadEngaged, TakeDeactivation, ReadStamp, ZeroMask, ZeroOffline, WriteStamp, StoreMask, TakeActivation, StoreBeat, StoreOffline}
use Rattle.xp_protocol.specs.declared.rule.Argument.{Argument}
use Rattle.xp_protocol.specs.declared.rule.Argument.TheVariants.{Request, Reply, Code}
use Rattle.xp_protocol.specs.declared.rule.Rule.{Rule}
use Rattle.xp_protocol.specs.declared.rule.Rule.TheVariants.{Link, Peer, Own}
use Rattle.xp_script.specs.declared.part.ScenarioPart.{ScenarioPart}
use Rattle.xp_protocol.specs.Sending.{next_slot}
use Rattle.xp_protocol.specs.State.{State, Life, Booting, Up, Halted, Area, Off, Ready, peer_of, end_of}

-- a store in an own word. The magic of the own record is stored while the memory is open, the other
-- words of the record and all others before
abbrev pub magic_stored : Life → Area → ℕ → ℕ → Option Rule
magic_stored Booting area v q = Some (Peer q ZeroMagic)
magic_stored Up Off v q = Some (Peer q OpenArea)
magic_stored Up Ready v q = if v == 0 then Some (Peer q CloseArea) else Some (Peer q StoreSecond)
magic_stored life area v q = None

abbrev pub echo_stored : Area → ℕ → Option Rule
echo_stored Off q = Some (Peer q (Prepare EchoWord))
echo_stored area q = Some (Peer q StoreEcho)

-- counters are stored as 0 before the channel is open, and as what they count from then on
abbrev pub put_stored : Bool → ℕ → ℕ → Option Rule
put_stored true q c = Some (Link q c (Ring AcceptMessage))
put_stored false q c = Some (Link q c ZeroPut)

abbrev pub get_stored : Bool → ℕ → ℕ → Option Rule
get_stored true q c = Some (Link q c Acknowledge)
get_stored false q c = Some (Link q c ZeroGet)

-- the counters are among the words that are stored before the memory is open, and else an end's
abbrev pub counter_stored : Area → Bool → ℕ → ℕ → ℕ → Option Rule
counter_stored Off complete q c f = Some (Peer q (Prepare (CounterWord c f)))
counter_stored area complete q c f =
    if f == 1 then put_stored complete q c else get_stored complete q c

abbrev pub field_stored : ℕ → ℕ → Option Rule
field_stored q f =
    if f == 3 then Some (Peer q (Prepare (PlaceWord ArgsPlace)))
    else (if f == 4 then Some (Peer q (Prepare (PlaceWord CountersPlace)))
    else (if f == 5 then Some (Peer q (Prepare (PlaceWord FlagPlace)))
    else (if f == 6 then Some (Peer q (Prepare (PlaceWord ChannelCount)))
    else Some (Peer q (Prepare (PlaceWord Spare))))))

abbrev pub record_stored : Life → Area → ℕ → ℕ → ℕ → Option Rule
record_stored life area v q f =
    if f == 0 then magic_stored life area v q
    else (if f == 1 then Some (Peer q (Prepare SessionWord))
    else (if f == 2 then echo_stored area q else field_stored q f))

abbrev pub mask_stored : Life → Option Rule
mask_stored Up = Some (Own StoreMask)
mask_stored life = Some (Own ZeroMask)

abbrev pub offline_stored : Life → Option Rule
offline_stored Up = Some (Own StoreOffline)
offline_stored life = Some (Own ZeroOffline)

-- arguments by their words
abbrev pub argument_at : (Argument → Option Rule) → ℕ → Option Rule
argument_at make f =
    if f == 0 then make Request
    else (if f == 1 then make Reply else (if f == 2 then make Code else None))

abbrev pub args_stored : Area → ℕ → ℕ → ℕ → Option Rule
args_stored Off q c f = Some (Peer q (Prepare (ArgsWord c f)))
args_stored area q c f = argument_at (λ x. Some (Link q c (StoreArgument x))) f

abbrev pub own_store : State → ℕ → Place → Option Rule
own_store st v (Entry q c w) =
    Some (Link q c (Ring (WriteEntryWord (w - next_slot (end_of st q c).sides.send))))
own_store st v (Counter q c f) =
    counter_stored (peer_of st q).engage.area (end_of st q c).shake.sent.open_complete q c f
own_store st v (Args q c f) = args_stored (peer_of st q).engage.area q c f
own_store st v (Record q f) = record_stored st.life (peer_of st q).engage.area v q f
own_store st v (Flag q) = Some (Peer q (Prepare FlagWord))
own_store st v (Open o) =
    if o == STAMP then Some (Own WriteStamp)
    else (if o == MASK then mask_stored st.life
    else (if o == OFFLINE then offline_stored st.life
    else (if o == BEAT then Some (Own StoreBeat) else None)))
own_store st v pl = None

-- an own word is taken, or loaded
abbrev pub own_take : Place → Option Rule
own_take (Flag q) = Some (Peer q TakeFlags)
own_take (Open o) =
    if o == DEACTIVATION then Some (Own TakeDeactivation)
    else (if o == ACTIVATION then Some (Own TakeActivation) else None)
own_take pl = None

abbrev pub own_load : Place → Option Rule
own_load (Open o) =
    if o == ENGAGED then Some (Own ReadEngaged)
    else (if o == STAMP then Some (Own ReadStamp) else None)
own_load pl = None

-- one flag is set in the partner's flag word, of one of the n channels from c on
abbrev pub all_kinds : List Kind
all_kinds = CloseRequest ∷ CloseReply ∷ OpenRequest ∷ OpenReply ∷ OpenComplete ∷ MsgRequest ∷ []

abbrev pub kind_set : ℕ → ℕ → ℕ → List Kind → Option Rule
kind_set q v c [] = None
kind_set q v c (k ∷ ks) = if v == flag c k then Some (Link q c (SetFlag k)) else kind_set q v c ks

abbrev pub or_else : Option Rule → Option Rule → Option Rule
or_else None later = later
or_else (Some r) later = Some r

abbrev pub flag_set : ℕ → ℕ → ℕ → ℕ → Option Rule
flag_set q v c zero = None
flag_set q v c (suc n) = or_else (kind_set q v c all_kinds) (flag_set q v (c + 1) n)

abbrev pub or_at : ℕ → ℕ → Place → Option Rule
or_at q v (Flag p) = flag_set q v 0 CHANNELS
or_at q v (Open o) =
    if o == ACTIVATION then Some (Peer q AskActivation)
    else (if o == ENGAGED then Some (Peer q SetEngagementBit) else Some (Peer q TellPartner))
or_at q v pl = None

-- a load of a copy of the partner's words
abbrev pub load_at : ℕ → CopyKind → Place → Option Rule
load_at q ArgsCopy (Args p c f) = argument_at (λ x. Some (Link q c (ReadArgument x))) f
load_at q Get (Counter p c f) = Some (Link q c (Ring ReadGet))
load_at q Counters (Counter p c f) = Some (Link q c (Pull ReadCounters))
load_at q Entries (Entry p c w) = Some (Link q c (Pull ReadEntry))
load_at q PageCopy (Open o) = Some (Peer q LookAtPage)
load_at q BeatCopy (Open o) = Some (Peer q CheckBeat)
load_at q RecordCopy (Record p f) = Some (Peer q ReadRecord)
load_at q k pl = None

abbrev pub load_marked : ℕ → Option CopyMark → Place → Option Rule
load_marked q (Some mark) pl = load_at q mark.kind pl
load_marked q None pl = None

-- the bit of one of the n partners from q on is cleared in the own deactivation word
abbrev pub bit_cleared : ℕ → ℕ → ℕ → Option Rule
bit_cleared v q zero = None
bit_cleared v q (suc n) =
    if v == all_but q then Some (Peer q ClearDeactivationBit) else bit_cleared v (q + 1) n

abbrev pub own_clear : ℕ → Place → Option Rule
own_clear v (Open o) = bit_cleared v 0 PARTS
own_clear v pl = None

abbrev pub own_rule : State → OpKind → Place → Option Rule
own_rule st (Store v) pl = own_store st v pl
own_rule st Take pl = own_take pl
own_rule st Load pl = own_load pl
own_rule st (And v) pl = own_clear v pl
own_rule st k pl = None

-- a bit is cleared in the partner's engagement word
abbrev pub and_at : Life → ℕ → Option Rule
and_at Booting q = Some (Peer q ClearOldBit)
and_at Up q = Some (Peer q ClearEngagementBit)
and_at Halted q = None

abbrev pub partner_rule : State → ℕ → OpKind → Place → Option CopyMark → Option Rule
partner_rule st q Load pl mark = load_marked q mark pl
partner_rule st q (Or v) pl mark = or_at q v pl
partner_rule st q (And v) pl mark = and_at st.life q
partner_rule st q k pl mark = None

abbrev pub rule_at : State → Bool → ℕ → OpKind → Place → Option CopyMark → Option Rule
rule_at st true q k pl mark = own_rule st k pl
rule_at st false q k pl mark = partner_rule st q k pl mark

abbrev pub rule_of : ScenarioPart → State → Op → Option CopyMark → Option Rule
rule_of s st op mark = rule_at st (op.owner == s.part) op.owner op.kind (place_of op.index) mark
