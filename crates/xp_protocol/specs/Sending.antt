-- The sending side of a channel: what it knows, and its steps, each by three clauses: when it is
-- permitted, its word, and what becomes of it.
use Rattle.xp_base.specs.declared.layout.TheConstants.{QUEUE_WORDS}
use Rattle.std.specs.Prelude.{◌≡◌, ℕ, ◌+◌, ◌-◌, ◌%◌, ◌<◌, Bool, true, false, not, ◌&&◌, ◌||◌, if◌then◌else◌, nat_lt, nat_eq, bit_or, bit_and, ◌^◌, List, [], ◌∷◌, length, Option, Some, None, IsSome, ◌*◌}
use Rattle.xp_base.specs.declared.step.CopyKind.TheVariants.{Get}
use Rattle.xp_base.specs.declared.answer.SendAnswer.{SendAnswer}
use Rattle.xp_base.specs.declared.answer.SendAnswer.TheVariants.{Ok as SendOk, TooBig, Disconnecting, NotConnected, NoSlot}
use Rattle.xp_base.specs.declared.link.LinkState.{LinkState}
use Rattle.xp_base.specs.declared.link.LinkState.TheVariants.{Idle, Opening, Connected, Closing}
use Rattle.xp_base.specs.declared.reason.Reason.{Reason}
use Rattle.xp_base.specs.declared.reason.Reason.TheVariants.{BadCounters}
use Rattle.xp_base.specs.Places.{Counter, Entry}
use Rattle.xp_base.specs.Entries.{message_word, entry_words}
use Rattle.xp_protocol.specs.Effects.{Effect, Row, store, load_copy, SendNote, Accepted, Sent}
use Rattle.xp_protocol.specs.declared.rule.RingRule.{RingRule}
use Rattle.xp_protocol.specs.declared.rule.RingRule.TheVariants.{ReadGet, WriteEntryWord, AcceptMessage}

-- a send in progress
pub record Send : Type 0 where
  pub payload : List ℕ
  pub wait : Bool
  pub notify : Bool

pub record Sending : Type 0 where
  pub entries : ℕ
  pub limit : ℕ
  pub put : ℕ  -- how many messages were accepted
  pub remote_get : ℕ  -- the partner's get that was loaded last in this connection, 0 before
  pub send : Option Send
  pub written_words : ℕ  -- a bit for each word of the next entry that was stored

abbrev pub new_sending : ℕ → ℕ → Sending
new_sending entries limit =
    record {
      entries = entries;
      limit = limit;
      put = 0;
      remote_get = 0;
      send = None;
      written_words = 0;
    }

-- the words of an entry, and the first word of the next one among the words of the channel
abbrev pub words_each : Sending → ℕ
words_each x = entry_words x.limit

abbrev pub next_slot : Sending → ℕ
next_slot x = words_each x * (x.put % x.entries)

abbrev pub payload_of : Option Send → List ℕ
payload_of None = []
payload_of (Some s) = s.payload

abbrev pub may_wait : Option Send → Bool
may_wait None = true
may_wait (Some s) = s.wait

-- why a send is refused at its beginning, by the payload's length and the state of the link
abbrev pub link_refusal : LinkState → Option SendAnswer
link_refusal (Closing reason) = Some (Disconnecting reason)
link_refusal Idle = Some NotConnected
link_refusal Opening = Some NotConnected
link_refusal Connected = None

abbrev pub send_refusal : LinkState → List ℕ → Sending → Option SendAnswer
send_refusal state payload x =
    if nat_lt x.limit (length payload) then Some (TooBig (length payload) x.limit)
    else link_refusal state

abbrev pub begun_unless : Option SendAnswer → Send → Sending → Sending
begun_unless None s x = record x { send = Some s; written_words = 0 }
begun_unless (Some answer) s x = x

-- a send is begun, unless it is refused
abbrev pub send_begun : LinkState → Send → Sending → Sending
send_begun state s x = begun_unless (send_refusal state s.payload x) s x

-- a get that the partner can't have stored: below the known one, or above put
abbrev pub is_bad_get : Sending → ℕ → Bool
is_bad_get x get = nat_lt get x.remote_get || nat_lt x.put get

-- a get that was loaded shows a send that may not wait that the queue is full
abbrev pub is_full : Sending → ℕ → Bool
is_full x get = not (may_wait x.send) && nat_eq (x.put - get) x.entries

-- a get becomes known
abbrev pub with_remote_get : ℕ → Sending → Sending
with_remote_get get x = record x { remote_get = get }

-- the send in progress is over
abbrev pub send_over : Sending → Sending
send_over x = record x { send = None; written_words = 0 }

-- the number of a message that was accepted is asked for, where its send asks for a notice
abbrev pub wants_notice : Option Send → Bool
wants_notice None = false
wants_notice (Some s) = s.notify

-- a get is loaded where the queue looks full by the one that is known; a word is stored where there
-- is room by it
abbrev pub ring_can : Sending → RingRule → Type 0
ring_can x ReadGet = IsSome x.send × (x.put ≡ x.remote_get + x.entries)
ring_can x (WriteEntryWord f) =
    IsSome x.send × (x.put < x.remote_get + x.entries) × (next_slot x + f < QUEUE_WORDS)
    × (f < words_each x) × (bit_and x.written_words (2 ^ f) ≡ 0)
ring_can x AcceptMessage = IsSome x.send × (x.written_words ≡ 2 ^ words_each x - 1)

abbrev pub ring_row : ℕ → ℕ → ℕ → Sending → RingRule → Row
ring_row part q c x ReadGet = load_copy (Counter part c 0) Get 0
ring_row part q c x (WriteEntryWord f) =
    store (Entry q c (next_slot x + f)) (message_word x.put (payload_of x.send) f)
ring_row part q c x AcceptMessage = store (Counter q c 1) (x.put + 1)

-- a get that shows a full queue ends a send that may not wait
abbrev pub get_loaded : Sending → ℕ → Effect Sending (List SendNote)
get_loaded x w =
    if is_full x w then record {
      local = send_over (with_remote_get w x);
      reason = None;
      notes = Sent (NoSlot x.put w) ∷ [];
    }
    else record { local = with_remote_get w x; reason = None; notes = [] }

abbrev pub ring_effect : Sending → RingRule → ℕ → Effect Sending (List SendNote)
ring_effect x ReadGet w =
    if is_bad_get x w then record { local = x; reason = Some (BadCounters w x.put); notes = [] }
    else get_loaded x w
ring_effect x (WriteEntryWord f) w =
    record {
      local = record x { written_words = bit_or x.written_words (2 ^ f) };
      reason = None;
      notes = [];
    }
ring_effect x AcceptMessage w =
    record {
      local = record (send_over x) { put = x.put + 1 };
      reason = None;
      notes = Accepted x.put (payload_of x.send) (wants_notice x.send) ∷ Sent (SendOk x.put)
          ∷ [];
    }

-- the connection goes down: the send in progress is over
abbrev pub closed_send : Reason → Option Send → List SendNote
closed_send reason None = []
closed_send reason (Some s) = Sent (Disconnecting reason) ∷ []

abbrev pub send_closed : Reason → Sending → Effect Sending (List SendNote)
send_closed reason x =
    record { local = send_over x; reason = None; notes = closed_send reason x.send }
