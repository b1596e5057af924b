-- What the rules promise of every history, of each connection by its two records.
use Rattle.std.specs.Prelude.{◌≡◌, ℕ, ◌+◌, ◌*◌, ◌%◌, ◌<◌, ◌≤◌, Bool, true, false, is_some, ◌||◌, ◌⊎◌, ◌&&◌, if◌then◌else◌, nat_eq, List, [], ◌∷◌, ◌++◌, length, slice_get, Option, Some, None}
use Rattle.xp_base.specs.declared.layout.TheConstants.{PARTS, CHANNELS, ENGAGED, VERSION_AT}
use Rattle.std.specs.List.{Contains}
use Rattle.std.specs.Int.{bit_at}
use Rattle.xp_base.specs.declared.layout.Region.{Region}
use Rattle.xp_base.specs.declared.layout.Region.TheVariants.{Open, Area, Pool}
use Rattle.xp_base.specs.declared.session.Session.{Session}
use Rattle.xp_base.specs.History.{Act, Marked, Turn, NoticeKind, Event, Turned, happens, turns_of}
use Rattle.xp_protocol.specs.declared.rule.RingRule.TheVariants.{WriteEntryWord}
use Rattle.xp_protocol.specs.declared.rule.LinkRule.TheVariants.{Ring, Acknowledge}
use Rattle.xp_protocol.specs.declared.rule.Rule.TheVariants.{Link}
use Rattle.xp_script.specs.declared.scenario.Scenario.{Scenario}
use Rattle.xp_protocol.specs.Records.{Recorded, blank_record}
use Rattle.xp_base.specs.declared.link.Kind.{Kind}
use Rattle.xp_base.specs.declared.link.Kind.TheVariants.{CloseRequest, CloseReply, OpenRequest, OpenReply, OpenComplete}
use Rattle.xp_base.specs.Kinds.{Kinds, has, kinds_in}
use Rattle.xp_base.specs.Memory.{Memory, word_at, answer_of}
use Rattle.xp_base.specs.Places.{Place, Open as OpenWord, Flag, Args, Entry, index_of, place_of, region_of}
use Rattle.xp_base.specs.Entries.{entry_words}
use Rattle.xp_protocol.specs.Linking.{code_of, entries_in, limit_in, agreed}
use Rattle.xp_protocol.specs.Parts.{IsRequestSize}
use Rattle.xp_protocol.specs.Pulling.{is_copying}
use Rattle.xp_protocol.specs.Acts.{after_acts, MayActs, notice_due}
use Rattle.xp_protocol.specs.Peering.{session_now}
use Rattle.xp_protocol.specs.State.{State, Contact, Ready, End, Size, Replied, request_word, is_begun, end_of, peer_of}
use Rattle.xp_base.specs.declared.reason.Reason.{Reason}
use Rattle.xp_base.specs.declared.reason.Reason.TheVariants.{BadMagic, BadFlags, BadArgs, BadCounters, BadLength, BadNumber, UnequalSizes}
use Rattle.xp_protocol.specs.Effects.{Note, Over, with_notes}
use Rattle.xp_base.specs.declared.step.OpKind.TheVariants.{Store}
use Rattle.xp_base.specs.declared.step.Answer.{Answer}
use Rattle.xp_base.specs.declared.step.Answer.TheVariants.{Word, Failed}
use Rattle.xp_protocol.specs.declared.rule.Rule.{Rule}
use Rattle.xp_protocol.specs.Rules.{Can, row_of, owner, noted_rule, after_answer}
use Rattle.xp_protocol.specs.Decode.{rule_of}
use Rattle.xp_protocol.specs.Logged.{noted_acts, records_after}
use Rattle.xp_script.specs.Parts.{part_of}
use Rattle.xp_script.specs.Opening.{opening, version_word}
use Rattle.xp_script.specs.Settings.{minor_of}
use Rattle.xp_protocol.specs.Reached.{state_at, ReachedWords}

-- the records of p's connections to q on channel c after a history, the newest first
abbrev pub records_of : Scenario → List Event → ℕ → ℕ → ℕ → List Recorded
records_of s h p q c = records_after (part_of s p) (turns_of p h) q c

-- two records of the ends of p and q for one channel are of one connection: the epochs agree, and
-- the sessions are exchanged
abbrev pub is_session : Session → Session → Bool
is_session a b = nat_eq a.stamp b.stamp && nat_eq a.count b.count

-- the name of a connection at one end: its epoch and the sessions of both ends; the other end has
-- the sessions exchanged
pub record Name : Type 0 where
  pub epoch : ℕ
  pub own : Session
  pub theirs : Session

abbrev pub name_of : Recorded → Name
name_of r = record { epoch = r.epoch; own = r.own; theirs = r.theirs }

abbrev pub exchanged : Name → Name
exchanged k = record { epoch = k.epoch; own = k.theirs; theirs = k.own }

abbrev pub is_meeting : Session → Session → Name → Bool
is_meeting u v k = is_session u k.own && is_session v k.theirs

abbrev pub is_name : Name → Name → Bool
is_name j k = nat_eq j.epoch k.epoch && is_meeting j.own j.theirs k

abbrev pub same_name : Recorded → Recorded → Bool
same_name r x = is_name (name_of x) (exchanged (name_of r))

abbrev pub first_named : Recorded → List Recorded → Option Recorded
first_named r [] = None
first_named r (x ∷ xs) = if same_name r x then Some x else first_named r xs

-- the partner's record of the connection that record r of p is of
abbrev pub other : Scenario → List Event → ℕ → ℕ → ℕ → Recorded → Option Recorded
other s h p q c r = first_named r (records_of s h q p c)

abbrev pub accepted_of : Option Recorded → List (List ℕ)
accepted_of None = []
accepted_of (Some r) = r.accepted

abbrev pub acked_of : Option Recorded → ℕ
acked_of None = 0
acked_of (Some r) = r.acked

-- a record of p
pub record IsRecord (s : Scenario) (h : List Event) (p q c : ℕ) (r : Recorded) : Type 0 where
  pub low : p < s.count
  pub number : ℕ
  pub listed : slice_get (records_of s h p q c) number ≡ Some r

-- Prefix: what was taken is what the partner's sends were told was accepted, in that order, as far
-- as it was taken
abbrev pub IsPrefixOf : List (List ℕ) → List (List ℕ) → Type 0
IsPrefixOf front whole = (rest : List (List ℕ)) × (whole ≡ front ++ rest)

-- a line: a channel of two partitions, whether it opens connected or not
pub record IsLine (s : Scenario) (p q c : ℕ) : Type 0 where
  pub first : p < s.count
  pub second : q < s.count
  pub apart : p ≡ q → ⊥
  pub channel : c < CHANNELS

-- the record of a connection by its name, and the promise for each name at a line: what the one end
-- took in a connection is a prefix of what the other end's sends were accepted in it
abbrev pub by_name : Name → List Recorded → Recorded
by_name k [] = blank_record 0 0
by_name k (r ∷ rs) = if is_name (name_of r) k then r else by_name k rs

abbrev pub NamePrefix : Scenario → List Event → Type 0
NamePrefix s h =
    (p q c : ℕ) → IsLine s p q c → (k : Name) →
    IsPrefixOf (by_name (exchanged k) (records_of s h q p c)).taken
    (by_name k (records_of s h p q c)).accepted

-- what is proved of each line: the promise for each name, and so for each record of either end
abbrev pub LinePrefix : Scenario → List Event → Type 0
LinePrefix s h =
    (p q c : ℕ) → IsLine s p q c → (r : Recorded) → IsRecord s h p q c r →
    IsPrefixOf r.taken (accepted_of (other s h p q c r))

-- nothing that was read is refused, no magic, flag, argument, counter or entry: no partner is to be
-- deactivated for one, and no channel in contact closes for one
abbrev pub IsUnrefused : Option Reason → Type 0
IsUnrefused (Some (BadMagic word)) = ⊥
IsUnrefused (Some (BadFlags word)) = ⊥
IsUnrefused (Some (BadArgs word)) = ⊥
IsUnrefused (Some (BadCounters get put)) = ⊥
IsUnrefused (Some (BadLength word)) = ⊥
IsUnrefused (Some (BadNumber wanted word)) = ⊥
IsUnrefused reason = Unit {0}

-- the state in which a turn's step is made: after the turn's first acts; and the word that the step
-- loads or takes
abbrev pub known_acted : Scenario → List Event → ℕ → List Act → State
known_acted s h p acts = after_acts (part_of s p) (state_at s h p) acts

abbrev pub word_of : Memory → ℕ → Place → ℕ
word_of m p pl = word_at m p (index_of pl)

abbrev pub word_answered : Scenario → Memory → ℕ → State → Rule → ℕ
word_answered s m p st r =
    let x = row_of (part_of s p) st r in
    answer_of x.kind (word_of m (owner (part_of s p) st r) x.place)

-- the reason that stands for partner q after a step is none that refuses what was read
abbrev pub IsUnrefusedBy : Scenario → ℕ → ℕ → State → Rule → Answer → Type 0
IsUnrefusedBy s p q st r a =
    IsUnrefused (peer_of (after_answer (part_of s p) st r a) q).engage.reason

-- of each state after a turn, and of each step in one, whether it is answered by the word or fails
pub record NothingRefused (s : Scenario) (h : List Event) (m : Memory) : Type 0 where
  pub partners : (p q c : ℕ) → IsLine s p q c →
      IsUnrefused (peer_of (state_at s h p) q).engage.reason
  pub channels : (p q c : ℕ) → IsLine s p q c → is_some (end_of (state_at s h p) q c).shake.meet
      ≡ true → IsUnrefused (end_of (state_at s h p) q c).shake.reason
  pub steps :
      (p q c : ℕ) → IsLine s p q c → (acts : List Act) (r : Rule) →
      MayActs (part_of s p) (state_at s h p) acts → Can (part_of s p) (known_acted s h p acts) r →
      IsUnrefusedBy s p q (known_acted s h p acts) r
      (Word (word_answered s m p (known_acted s h p acts) r))
      × IsUnrefusedBy s p q (known_acted s h p acts) r Failed

-- the queue of control flags from an end to its partner's: the flags of one epoch in the order in
-- which they are sent, and that in which they are handled where the close request of an epoch was
-- got: its close reply, and then the flags of the next
abbrev pub those_in : Kinds → List Kind → List Kind
those_in ks [] = []
those_in ks (k ∷ more) = if has k ks then k ∷ those_in ks more else those_in ks more

abbrev pub sent_order : List Kind
sent_order = OpenRequest ∷ OpenReply ∷ OpenComplete ∷ CloseRequest ∷ CloseReply ∷ []

abbrev pub next_order : List Kind
next_order = CloseReply ∷ OpenRequest ∷ OpenReply ∷ OpenComplete ∷ CloseRequest ∷ []

-- end e sends to g, in whose own memory stand the flags of the word: the epochs differ by one at
-- most. In one epoch what was sent is what was got, what is taken, and what stands in the word, one
-- after the other. Where the sender is in the next epoch, the close reply of the last comes first,
-- and nothing of the new one is got. Where the sender is in the epoch before, nothing is under way
pub record IsQueue (e g : End) (word : Kinds) : Type 0 where
  pub near : (e.epoch ≤ g.epoch + 1) × (g.epoch ≤ e.epoch + 1)
  pub even : e.epoch ≡ g.epoch → those_in e.shake.sent sent_order ≡ those_in g.shake.got sent_order
      ++ (those_in g.shake.taken sent_order ++ those_in word sent_order)
  pub ahead : e.epoch ≡ g.epoch + 1 → CloseReply ∷ those_in e.shake.sent sent_order
      ≡ those_in g.shake.taken next_order ++ those_in word next_order
  pub behind : e.epoch + 1 ≡ g.epoch → (those_in g.shake.got sent_order ≡ [])
      × (those_in g.shake.taken sent_order ≡ []) × (those_in word sent_order ≡ [])

-- the words of an end's arguments are those of the flags that it has sent; what its partner has
-- loaded of a flag that is taken is that word; and a size that was got in the same epoch is the
-- end's
abbrev pub size_asked : Option Size → Size
size_asked o = record { entries = entries_in o; limit = limit_in o }

abbrev pub size_sent : End → Size
size_sent e = size_asked e.shake.own_size

abbrev pub size_got : End → Size
size_got e = size_asked e.shake.their_size

pub record AreArguments (e g : End) (request reply code place : ℕ) : Type 0 where
  pub request_stands : e.shake.sent.open_request ≡ true → request ≡ request_word (size_sent e)
  pub reply_stands : e.shake.sent.open_reply ≡ true → reply ≡ place
  pub code_stands : e.shake.sent.close_request ≡ true → code ≡ code_of e.shake.reason
  pub request_loaded : (v : ℕ) → g.shake.request ≡ Some v → (g.shake.taken.open_request ≡ true)
      × (v ≡ request)
  pub reply_loaded : (v : Replied) → g.shake.reply ≡ Some v → (g.shake.taken.open_reply ≡ true)
      × (v.right ≡ true)
  pub code_loaded : (v : ℕ) → g.shake.code ≡ Some v → (g.shake.taken.close_request ≡ true)
      × (v ≡ code)
  pub size : e.epoch ≡ g.epoch → g.shake.got.open_request ≡ true → size_got g ≡ size_sent e

-- an end in contact: the size of its epoch may be asked for, and is that of its registration as
-- long as it doesn't close; once its open reply was sent a limit is agreed, and once its open
-- complete was sent both sides have it, with the entries that each end asked for; and once its
-- close reply was sent no copy of its channel goes on
pub record IsSettled (e : End) : Type 0 where
  pub size : e.shake.sent.open_request ≡ true →
      IsRequestSize (size_sent e).entries (size_sent e).limit
  pub registered : e.shake.sent.open_request ≡ true → e.shake.reason ≡ None → e.registration
      ≡ Some (size_sent e)
  pub copies : e.shake.sent.close_reply ≡ true → is_copying e.sides.pull ≡ false
  pub limit : e.shake.sent.open_reply ≡ true → is_some (agreed e.shake) ≡ true
  pub entries : e.shake.sent.open_complete ≡ true →
      (e.sides.send.entries ≡ (size_sent e).entries) × (e.sides.pull.entries ≡ (size_got e).entries)
  pub limits : e.shake.sent.open_complete ≡ true →
      (agreed e.shake ≡ Some e.sides.send.limit) × (agreed e.shake ≡ Some e.sides.pull.limit)

-- of each end in contact, of each two, and of one whose partner waits for it under the session of
-- the contact: then all that was sent stands in the word
pub record FlagsInOrder (s : Scenario) (h : List Event) (m : Memory) : Type 0 where
  pub settled : (p q c : ℕ) → IsLine s p q c → is_some (end_of (state_at s h p) q c).shake.meet
      ≡ true → IsSettled (end_of (state_at s h p) q c)
  pub queue :
      (p q c : ℕ) → IsLine s p q c → is_some (end_of (state_at s h p) q c).shake.meet ≡ true →
      is_some (end_of (state_at s h q) p c).shake.meet ≡ true →
      IsQueue (end_of (state_at s h p) q c) (end_of (state_at s h q) p c)
      (kinds_in (word_of m q (Flag p)) c)
  pub arguments : (p q c : ℕ) → IsLine s p q c → is_some (end_of (state_at s h p) q c).shake.meet
      ≡ true → is_some (end_of (state_at s h q) p c).shake.meet ≡ true →
      AreArguments (end_of (state_at s h p) q c) (end_of (state_at s h q) p c)
      (word_of m p (Args q c 0)) (word_of m p (Args q c 1)) (word_of m p (Args q c 2))
      (index_of (Entry q c 0))
  pub waiting : (p q c : ℕ) → IsLine s p q c → (k : Contact) →
      (end_of (state_at s h p) q c).shake.meet ≡ Some k → (peer_of (state_at s h q) p).engage.area
      ≡ Ready → (peer_of (state_at s h q) p).contact ≡ None →
      session_now (state_at s h q).stamp (peer_of (state_at s h q) p).engage ≡ k.theirs →
      ((end_of (state_at s h p) q c).epoch ≡ 0)
      × (those_in (end_of (state_at s h p) q c).shake.sent sent_order
      ≡ those_in (kinds_in (word_of m q (Flag p)) c) sent_order)

-- a connection that is over for unequal sizes, or for an argument that was refused, leaves its
-- channel unregistered, whatever rule ends it
abbrev pub is_withdrawal : Note → Bool
is_withdrawal (Over (UnequalSizes own theirs)) = true
is_withdrawal (Over (BadArgs word)) = true
is_withdrawal note = false

abbrev pub are_withdrawals : List Note → Bool
are_withdrawals [] = false
are_withdrawals (note ∷ more) = is_withdrawal note || are_withdrawals more

abbrev pub Withdraws : Scenario → Type 0
Withdraws s =
    (h : List Event) (m : Memory) → ReachedWords s h m → (p q c : ℕ) → IsLine s p q c →
    (acts : List Act) (r : Rule) (a : Answer) → Can (part_of s p) (known_acted s h p acts) r →
    are_withdrawals (noted_rule (part_of s p) (known_acted s h p acts) r a q c) ≡ true →
    (end_of (after_answer (part_of s p) (known_acted s h p acts) r a) q c).registration ≡ None

-- the memory after a history, and the word in which bit p says that partition p may touch what the
-- partition has for it
abbrev pub memory_by : Memory → List Event → Memory
memory_by m [] = m
memory_by m (e ∷ es) = memory_by (happens m e) es

abbrev pub engaged_at : Scenario → List Event → ℕ → ℕ
engaged_at s h q = word_of (memory_by (opening s) h) q (OpenWord ENGAGED)

-- partition p may touch a word of this region where the owner's engagement word is `engaged`
abbrev pub IsOpenTo : ℕ → ℕ → Option Region → Type 0
IsOpenTo p engaged None = ⊥
IsOpenTo p engaged (Some Open) = Unit {0}
IsOpenTo p engaged (Some (Area q)) = (q ≡ p) × (bit_at engaged p ≡ 1)
IsOpenTo p engaged (Some Pool) = bit_at engaged p ≡ 1

-- Guarded: a word of another partition's channel memory is touched only by whom it is for, and only
-- while the own engagement bit stands there right before the step; and an engagement bit changes by
-- steps of the partition that it is of alone
pub record Guarded (s : Scenario) (h : List Event) : Type 0 where
  pub touched : (before after : List Event) (p : ℕ) (t : Turn) (x : Marked) → h ≡ before
      ++ Turned p t ∷ after → t.made ≡ Some x → (x.step.op.owner ≡ p → ⊥) →
      IsOpenTo p (engaged_at s before x.step.op.owner) (region_of (place_of x.step.op.index))
  pub engaged : (before after : List Event) (p : ℕ) (t : Turn) (q bit : ℕ) → h ≡ before
      ++ Turned p t ∷ after → q < s.count → bit < PARTS → (bit ≡ p → ⊥) →
      bit_at (engaged_at s (before ++ Turned p t ∷ []) q) bit ≡ bit_at (engaged_at s before q) bit

-- the records of p's connections to q on channel c after the first acts of p's next turn
abbrev pub records_acted : Scenario → List Event → ℕ → List Act → ℕ → ℕ → List Recorded
records_acted s h p acts q c =
    with_notes q c (noted_acts (part_of s p) (state_at s h p) acts q c) (records_of s h p q c)

-- word f of the next message is stored at this index: it stands in the slot of the message after
-- all accepted ones of the newest connection, as the slot's word f, and the partner has
-- acknowledged the message that stood there before
pub record HasRoom (s : Scenario) (h : List Event) (p : ℕ) (acts : List Act)
    (q c f index : ℕ) : Type 0 where
  pub own : Recorded
  pub recorded : slice_get (records_acted s h p acts q c) 0 ≡ Some own
  pub field : f < entry_words (end_of (known_acted s h p acts) q c).sides.send.limit
  pub place :
      place_of index
      ≡ Entry q c (entry_words (end_of (known_acted s h p acts) q c).sides.send.limit
      * (length own.accepted % (end_of (known_acted s h p acts) q c).sides.send.entries) + f)
  pub room :
      length own.accepted
      < (end_of (known_acted s h p acts) q c).sides.send.entries + acked_of (other s h p q c own)

-- a get that is stored: all messages of the newest connection below it were taken, and released in
-- it
pub record IsReleased (s : Scenario) (h : List Event) (p : ℕ) (acts : List Act)
    (q c get : ℕ) : Type 0 where
  pub own : Recorded
  pub recorded : slice_get (records_acted s h p acts q c) 0 ≡ Some own
  pub taken : get ≤ length own.taken
  pub released : (number : ℕ) → number < get → Contains own.released number

-- Reuse: an entry is kept until its message was acknowledged, and what is acknowledged was released
pub record Reuse (s : Scenario) (h : List Event) : Type 0 where
  pub kept_until_acknowledged :
      (before after : List Event) (p : ℕ) (t : Turn) (x : Marked) (q c f : ℕ) →
      h ≡ before ++ Turned p t ∷ after → t.made ≡ Some x →
      rule_of (part_of s p) (known_acted s before p t.before) x.step.op x.mark
      ≡ Some (Link q c (Ring (WriteEntryWord f))) →
      HasRoom s before p t.before q c f x.step.op.index
  pub acknowledges_released :
      (before after : List Event) (p : ℕ) (t : Turn) (x : Marked) (q c get : ℕ) →
      h ≡ before ++ Turned p t ∷ after → t.made ≡ Some x →
      rule_of (part_of s p) (known_acted s before p t.before) x.step.op x.mark
      ≡ Some (Link q c Acknowledge) → x.step.op.kind ≡ Store get →
      IsReleased s before p t.before q c get

-- Notices: of the numbers that were asked for in a connection, which rise, it is told of the first,
-- in their order, that they were delivered; and where it is told of any that the connection ended
-- first, it is told of exactly all others. Of each it is told once at most. Where the connection is
-- over, it is told of all
abbrev pub AreRising : List ℕ → Type 0
AreRising numbers =
    (i j a b : ℕ) → i < j → slice_get numbers i ≡ Some a → slice_get numbers j ≡ Some b → a < b

abbrev pub AreFirstOf : List ℕ → List ℕ → Type 0
AreFirstOf front whole = (rest : List ℕ) × (whole ≡ front ++ rest)

pub record AreNotices (r : Recorded) : Type 0 where
  pub rising : AreRising r.asked
  pub told : AreFirstOf (r.delivered ++ r.ended) r.asked
  pub ended : (r.ended ≡ []) ⊎ (r.asked ≡ r.delivered ++ r.ended)
  pub over : is_some r.over ≡ true → r.asked ≡ r.delivered ++ r.ended

-- of each record; each number that was told as delivered in a connection that goes on in its
-- contact was acknowledged by the partner; and after each turn no notice is due: none of a number
-- that the partner is known to have acknowledged, and none of one whose connection ended
pub record Notices (s : Scenario) (h : List Event) : Type 0 where
  pub told : (p q c : ℕ) → IsLine s p q c → (r : Recorded) → IsRecord s h p q c r → AreNotices r
  pub acknowledged : (p q c k : ℕ) → IsLine s p q c →
      is_some (end_of (state_at s h p) q c).shake.meet ≡ true →
      is_begun (end_of (state_at s h p) q c) ≡ true → (r : Recorded) →
      slice_get (records_of s h p q c) 0 ≡ Some r → Contains r.delivered k →
      k < acked_of (other s h p q c r)
  pub prompt : (p q c : ℕ) → IsLine s p q c → (how : NoticeKind) →
      notice_due how (end_of (state_at s h p) q c) ≡ None

pub record KeepsPrefixes (s : Scenario) (h : List Event) : Type 0 where
  pub names : NamePrefix s h
  pub records : LinePrefix s h

-- the version word of a partition stands as the scenario says, since no rule stores there. So both
-- ends of a channel know at any time the same of both versions, and of how many lines their entries
-- may have
abbrev pub VersionsStand : Scenario → Memory → Type 0
VersionsStand s m =
    (p : ℕ) → p < s.count → word_of m p (OpenWord VERSION_AT) ≡ version_word (minor_of p s.minors)
