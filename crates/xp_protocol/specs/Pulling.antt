-- The receiving side of a channel: what it knows, and its steps, each by three clauses: when it is
-- permitted, its word, and what becomes of it.
use Rattle.std.specs.Prelude.{ℕ, ◌+◌, ◌%◌, ◌<◌, Bool, false, not, ◌&&◌, ◌||◌, if◌then◌else◌, nat_lt, nat_eq, List, [], ◌∷◌, ◌++◌, length, slice_index, Option, Some, None, is_some, zero, suc, ◌-◌, ◌*◌, drop}
use Rattle.xp_base.specs.declared.layout.TheConstants.{QUEUE_WORDS}
use Rattle.xp_base.specs.declared.step.CopyKind.{CopyKind}
use Rattle.xp_base.specs.declared.step.CopyKind.TheVariants.{Counters, Entries}
use Rattle.xp_base.specs.declared.answer.TakeAnswer.{TakeAnswer}
use Rattle.xp_base.specs.declared.answer.TakeAnswer.TheVariants.{Taken, Empty, Disconnecting, NotConnected}
use Rattle.xp_protocol.specs.declared.refusal.TakeRefusal.{TakeRefusal}
use Rattle.xp_protocol.specs.declared.refusal.TakeRefusal.TheVariants.{Disconnecting as RefusedFor, NotConnected as RefusedUnconnected}
use Rattle.xp_base.specs.declared.link.LinkState.{LinkState}
use Rattle.xp_base.specs.declared.link.LinkState.TheVariants.{Idle, Opening, Connected, Closing}
use Rattle.xp_base.specs.declared.reason.Reason.{Reason}
use Rattle.xp_base.specs.declared.reason.Reason.TheVariants.{BadCounters, BadLength, BadNumber}
use Rattle.xp_base.specs.Places.{Counter, Entry}
use Rattle.xp_base.specs.Entries.{body_of, entry_words}
use Rattle.xp_protocol.specs.Effects.{Effect, first_reason, Row, load_copy, PullNote, Heard, TakeRefused}
use Rattle.xp_protocol.specs.declared.rule.PullRule.{PullRule}
use Rattle.xp_protocol.specs.declared.rule.PullRule.TheVariants.{ReadCounters, ReadEntry}

pub record Pulling : Type 0 where
  pub entries : ℕ  -- the partner's
  pub limit : ℕ
  pub pulled_put : ℕ  -- the partner's put that was loaded last
  pub pulled : ℕ  -- how many entries were copied whole
  pub taken : ℕ
  pub cache : List (List ℕ)  -- the bodies that were pulled and not taken
  pub counters : Option ℕ  -- a copy of the counters that goes on, and its get
  pub copied : List ℕ  -- the words so far of the run of entries that is being copied
  pub run : ℕ  -- how many entries it has, 0 where no copy goes on
  pub known : ℕ  -- the get that a copy of the counters loaded last, 0 before
  pub owed : Bool  -- whether a copy of the counters is owed
  pub take : Option Bool  -- a take in progress, and whether it may wait
  pub empty : Option ℕ  -- the put that showed the take in progress an empty queue

abbrev pub new_pulling : ℕ → ℕ → Pulling
new_pulling entries limit = record {
  entries = entries;
  limit = limit;
  pulled_put = 0;
  pulled = 0;
  taken = 0;
  cache = [];
  counters = None;
  copied = [];
  run = 0;
  known = 0;
  owed = false;
  take = None;
  empty = None;
}

-- the counters of the sender at the same end, by which a receiver's copy is tested: the partner's
-- get as last loaded, the own put, and the number below which all were released
pub record SenderCounters : Type 0 where
  pub remote_get : ℕ
  pub put : ℕ
  pub front : ℕ

-- why a take is refused at its beginning, by the state of the link
abbrev pub take_refusal : LinkState → Option TakeRefusal
take_refusal (Closing reason) = Some (RefusedFor reason)
take_refusal Idle = Some RefusedUnconnected
take_refusal Opening = Some RefusedUnconnected
take_refusal Connected = None

abbrev pub refused_take : TakeRefusal → TakeAnswer
refused_take (RefusedFor reason) = Disconnecting reason
refused_take RefusedUnconnected = NotConnected

-- the words of an entry, and the first word of the next one among the words of the partner's
-- channel
abbrev pub words_each : Pulling → ℕ
words_each x = entry_words x.limit

abbrev pub first_slot : Pulling → ℕ
first_slot x = words_each x * (x.pulled % x.entries)

-- a run ends with the last message that was put, or with the queue: its length is fixed at its
-- first load
abbrev pub lesser : ℕ → ℕ → ℕ
lesser a b = if nat_lt a b then a else b

abbrev pub run_there : Pulling → ℕ
run_there x = lesser (x.pulled_put - x.pulled) (x.entries - x.pulled % x.entries)

abbrev pub run_now : Pulling → ℕ
run_now x = if nat_eq (length x.copied) 0 then run_there x else x.run

abbrev pub pull_can : Pulling → PullRule → Type 0
pull_can x ReadCounters = Unit {0}
pull_can x ReadEntry =
    (x.pulled < x.pulled_put) × (first_slot x + length x.copied < QUEUE_WORDS)
    × (length x.copied < words_each x * run_now x)

-- a get and a put that the partner can't have stored
abbrev pub is_bad_counter : SenderCounters → ℕ → Bool
is_bad_counter b get = nat_lt get b.remote_get || nat_lt b.put get

abbrev pub is_bad_put : SenderCounters → Pulling → ℕ → Bool
is_bad_put b x put = nat_lt put x.pulled_put || nat_lt (b.front + x.entries) put

-- a put that was loaded shows a take that may not wait that the queue is empty
abbrev pub must_not_wait : Option Bool → Bool
must_not_wait None = false
must_not_wait (Some wait) = not wait

abbrev pub shown_empty : Pulling → ℕ → Option ℕ
shown_empty x put = if must_not_wait x.take && nat_eq put x.taken then Some put else x.empty

-- a copy of the counters hears its get, and then its put
abbrev pub get_pulled : SenderCounters → Pulling → ℕ → Effect Pulling (List PullNote)
get_pulled b x w =
    if is_bad_counter b w
    then record {
      local = record x { owed = false };
      reason = Some (BadCounters w b.put);
      notes = [];
    }
    else record {
      local = record x { counters = Some w; known = w; owed = false };
      reason = None;
      notes = Heard w ∷ [];
    }

abbrev pub put_pulled : SenderCounters → ℕ → Pulling → ℕ → Effect Pulling (List PullNote)
put_pulled b get x w =
    if is_bad_put b x w then record {
      local = record x { counters = None };
      reason = Some (BadCounters get w);
      notes = [];
    }
    else record {
      local = record x { counters = None; pulled_put = w; empty = shown_empty x w };
      reason = None;
      notes = [];
    }

abbrev pub counters_pulled : SenderCounters → Option ℕ → Pulling → ℕ →
    Effect Pulling (List PullNote)
counters_pulled b None x w = get_pulled b x w
counters_pulled b (Some get) x w = put_pulled b get x w

-- what is wrong with the words of an entry that is to have this number: first its length, then its
-- number
abbrev pub entry_fault : ℕ → ℕ → List ℕ → Option Reason
entry_fault limit number words =
    if nat_lt (slice_index words 0) 65536 || nat_lt (65536 + limit) (slice_index words 0)
    then Some (BadLength (slice_index words 0))
    else (if nat_eq (slice_index words 1) number then None
    else Some (BadNumber number (slice_index words 1)))

-- the words of b entries from a number on: what is wrong with the first of them that is refused,
-- and their bodies
abbrev pub run_fault : ℕ → ℕ → ℕ → List ℕ → Option Reason
run_fault limit number zero words = None
run_fault limit number (suc b) words =
    first_reason (entry_fault limit number words)
    (run_fault limit (number + 1) b (drop (entry_words limit) words))

abbrev pub run_bodies : ℕ → ℕ → List ℕ → List (List ℕ)
run_bodies limit zero words = []
run_bodies limit (suc b) words = body_of words ∷ run_bodies limit b (drop (entry_words limit) words)

-- a run was copied whole: where one of its entries is refused, none is pulled
abbrev pub run_copied : Option Reason → ℕ → List ℕ → Pulling → Effect Pulling (List PullNote)
run_copied None b words x =
    record {
      local = record x {
        copied = [];
        run = 0;
        pulled = x.pulled + b;
        cache = x.cache
            ++ run_bodies x.limit b words;
      };
      reason = None;
      notes = [];
    }
run_copied (Some reason) b words x =
    record { local = record x { copied = []; run = 0 }; reason = Some reason; notes = [] }

abbrev pub run_loaded : ℕ → List ℕ → Pulling → Effect Pulling (List PullNote)
run_loaded b words x =
    if nat_eq (length words) (words_each x * b)
    then run_copied (run_fault x.limit x.pulled b words) b words x
    else record { local = record x { copied = words; run = b }; reason = None; notes = [] }

abbrev pub entry_pulled : List ℕ → Pulling → Effect Pulling (List PullNote)
entry_pulled words x = run_loaded (run_now x) words x

-- which load of its copy comes next
abbrev pub counters_word : Option ℕ → ℕ
counters_word None = 0
counters_word (Some get) = 1

abbrev pub pull_row : ℕ → ℕ → Pulling → PullRule → Row
pull_row part c x ReadCounters =
    load_copy (Counter part c (counters_word x.counters)) Counters (counters_word x.counters)
pull_row part c x ReadEntry =
    load_copy (Entry part c (first_slot x + length x.copied)) Entries (length x.copied)

abbrev pub pull_effect : SenderCounters → Pulling → PullRule → ℕ → Effect Pulling (List PullNote)
pull_effect b x ReadCounters w = counters_pulled b x.counters x w
pull_effect b x ReadEntry w = entry_pulled (x.copied ++ w ∷ []) x

-- a copy is over, since a load of it failed
abbrev pub owed_after : Option ℕ → Bool → Bool
owed_after None owed = false
owed_after (Some get) owed = owed

abbrev pub pull_failed : CopyKind → Pulling → Pulling
pull_failed Counters x = record x { counters = None; owed = owed_after x.counters x.owed }
pull_failed Entries x = record x { copied = []; run = 0 }
pull_failed kind x = x

-- a copy goes on
abbrev pub is_copying : Pulling → Bool
is_copying x = is_some x.counters || nat_lt 0 (length x.copied)

-- the connection goes down: the copies and the take in progress are over
abbrev pub closed_take : Reason → Option Bool → List PullNote
closed_take reason None = []
closed_take reason (Some wait) = TakeRefused (RefusedFor reason) ∷ []

abbrev pub pull_closed : Reason → Pulling → Effect Pulling (List PullNote)
pull_closed reason x =
    record {
      local = record x {
        counters = None;
        copied = [];
        run = 0;
        owed = false;
        take = None;
        empty = None;
      };
      reason = None;
      notes = closed_take reason x.take;
    }

-- the answer of the take in progress that is due: the queue was shown empty, or the next message is
-- there
abbrev pub first_taken : ℕ → List (List ℕ) → Option TakeAnswer
first_taken number [] = None
first_taken number (body ∷ more) = Some (Taken number body)

abbrev pub found : ℕ → Option ℕ → List (List ℕ) → Option TakeAnswer
found number (Some put) cache = Some (Empty put)
found number None cache = first_taken number cache

abbrev pub found_by : Option Bool → Pulling → Option TakeAnswer
found_by None x = None
found_by (Some wait) x = found x.taken x.empty x.cache

abbrev pub take_due : Pulling → Option TakeAnswer
take_due x = found_by x.take x

-- the next message is taken
abbrev pub cache_taken : List (List ℕ) → List (List ℕ)
cache_taken [] = []
cache_taken (b ∷ bs) = bs

abbrev pub message_taken : Pulling → Pulling
message_taken x = record x { taken = x.taken + 1; cache = cache_taken x.cache; take = None }

-- the take in progress is answered
abbrev pub take_answered : Option ℕ → Pulling → Pulling
take_answered None x = message_taken x
take_answered (Some put) x = record x { take = None; empty = None }
