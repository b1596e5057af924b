-- The line: one direction of a connection, from the sender's counters and entries to the messages
-- that its partner has taken.
use Rattle.std.specs.Prelude.{◌≡◌, ℕ, ◌+◌, ◌*◌, ◌%◌, ◌<◌, ◌≤◌, ◌⊎◌, true, List, [], ◌∷◌, ◌++◌, length, slice_get, slice_index, slice_index_or, Some}
use Rattle.xp_base.specs.Entries.{entry_words, message_word}
use Rattle.xp_base.specs.History.{Event, Turn, Turned}
use Rattle.xp_base.specs.Places.{Counter, Entry}
use Rattle.xp_script.specs.declared.scenario.Scenario.{Scenario}
use Rattle.xp_protocol.specs.declared.rule.AreaWord.TheVariants.{CounterWord}
use Rattle.xp_protocol.specs.declared.rule.LinkRule.TheVariants.{Ring, Acknowledge, ZeroGet, ZeroPut}
use Rattle.xp_protocol.specs.declared.rule.PeerRule.TheVariants.{Prepare}
use Rattle.xp_protocol.specs.declared.rule.RingRule.TheVariants.{AcceptMessage}
use Rattle.xp_protocol.specs.declared.rule.Rule.{Rule}
use Rattle.xp_protocol.specs.declared.rule.Rule.TheVariants.{Link, Peer}
use Rattle.xp_protocol.specs.Promised.{IsLine, accepted_of, acked_of, name_of, other, records_of}
use Rattle.xp_protocol.specs.Pulling.{Pulling}
use Rattle.xp_protocol.specs.Records.{Recorded}
use Rattle.xp_protocol.specs.Sending.{Sending}
use Rattle.xp_protocol.specs.State.{Contact, is_begun, may_copy}
use Rattle.xp_invariants.specs.Between.{IsStepBy, word_after}
use Rattle.xp_invariants.specs.Flags.{end_at, InContact}

-- the counter words of p for a channel to q
abbrev pub get_word : Scenario → List Event → ℕ → ℕ → ℕ → ℕ
get_word s h p q c = word_after s h p (Counter q c 0)

abbrev pub put_word : Scenario → List Event → ℕ → ℕ → ℕ → ℕ
put_word s h p q c = word_after s h p (Counter q c 1)

-- message k of those that were accepted
abbrev pub message : List (List ℕ) → ℕ → List ℕ
message bodies k = slice_index_or bodies k []

-- what a receiver has taken, pulled and seen, by its record r of the connection and by what its
-- partner has put and had accepted
pub record IsReceived (x : Pulling) (r : Recorded) (put : ℕ)
    (accepted : List (List ℕ)) : Type 0 where
  pub acked : r.acked ≤ length r.taken
  pub taken : length r.taken ≤ x.pulled
  pub pulled : x.pulled ≤ x.pulled_put
  pub seen : x.pulled_put ≤ put
  pub put_count : put ≡ length accepted
  pub bodies : (k : ℕ) → k < x.pulled → message (r.taken ++ x.cache) k ≡ message accepted k
  pub count : length (r.taken ++ x.cache) ≡ x.pulled

-- the slots of the messages from `acked` on hold them
pub record HoldMessages (x : Pulling) (acked : ℕ) (accepted : List (List ℕ))
    (entry : ℕ → ℕ) : Type 0 where
  pub at : (k f : ℕ) → acked ≤ k → k < length accepted → f < entry_words x.limit →
      entry (entry_words x.limit * (k % x.entries) + f) ≡ message_word k (message accepted k) f

-- the words that were copied so far, of a run from the next message on, are those of its messages
pub record AreCopied (x : Pulling) (accepted : List (List ℕ)) : Type 0 where
  pub at : (j f : ℕ) → f < entry_words x.limit → entry_words x.limit * j + f < length x.copied →
      slice_index x.copied (entry_words x.limit * j + f)
      ≡ message_word (x.pulled + j) (message accepted (x.pulled + j)) f

-- what a sender has put and knows as acknowledged
pub record IsSent (x : Sending) (r : Recorded) (put acked : ℕ) : Type 0 where
  pub put_word : put ≡ x.put
  pub put_count : x.put ≡ length r.accepted
  pub known : x.remote_get ≤ acked
  pub room : x.put ≤ x.remote_get + x.entries

-- the rules that store counter f of p's end for q and channel c: 0 is get, 1 is put
abbrev pub IsCounterRule : ℕ → ℕ → ℕ → Rule → Type 0
IsCounterRule q c f (Link k d Acknowledge) = (k ≡ q) × (d ≡ c) × (0 ≡ f)
IsCounterRule q c f (Link k d (Ring AcceptMessage)) = (k ≡ q) × (d ≡ c) × (1 ≡ f)
IsCounterRule q c f (Link k d ZeroGet) = (k ≡ q) × (d ≡ c) × (0 ≡ f)
IsCounterRule q c f (Link k d ZeroPut) = (k ≡ q) × (d ≡ c) × (1 ≡ f)
IsCounterRule q c f (Peer k (Prepare (CounterWord d g))) = (k ≡ q) × (d ≡ c) × (g ≡ f)
IsCounterRule q c f r = ⊥

pub record StoresCounter (s : Scenario) (before : List Event) (a p q c f : ℕ)
    (t : Turn) : Type 0 where
  pub own : a ≡ p
  pub rule : Rule
  pub counter : IsCounterRule q c f rule
  pub step : IsStepBy s before p t rule

-- how p's end of a line, with its record and its counter words, agrees with its partner's
pub record Lines (s : Scenario) (h : List Event) : Type 0 where
  -- an end in contact that is begun has a record of its connection, and that is its newest one
  pub recorded : (p q c : ℕ) (m : Contact) → IsLine s p q c →
      (end_at s h p q c).shake.meet ≡ Some m → is_begun (end_at s h p q c) ≡ true →
      (r : Recorded) × (slice_get (records_of s h p q c) 0 ≡ Some r)
      × (name_of r ≡ record {
        epoch = (end_at s h p q c).epoch;
        own = m.own;
        theirs = m.theirs;
      })
  -- where p may copy the words of q: what p has acknowledged, taken, pulled and seen, and what q
  -- has put and had accepted, follow each other
  pub received : (p q c : ℕ) → IsLine s p q c → may_copy (end_at s h p q c) ≡ true →
      (r : Recorded) → slice_get (records_of s h p q c) 0 ≡ Some r →
      IsReceived (end_at s h p q c).sides.pull r (put_word s h q p c)
      (accepted_of (other s h p q c r))
  -- the own get is what was acknowledged, and the slots from it on hold q's messages
  pub got : (p q c : ℕ) → IsLine s p q c → may_copy (end_at s h p q c) ≡ true → (r : Recorded) →
      slice_get (records_of s h p q c) 0 ≡ Some r → get_word s h p q c ≡ r.acked
  pub held : (p q c : ℕ) → IsLine s p q c → may_copy (end_at s h p q c) ≡ true → (r : Recorded) →
      slice_get (records_of s h p q c) 0 ≡ Some r →
      HoldMessages (end_at s h p q c).sides.pull r.acked (accepted_of (other s h p q c r))
      (λ k. word_after s h q (Entry p c k))
  -- the words that were copied so far are those of q's messages
  pub copied : (p q c : ℕ) → IsLine s p q c → may_copy (end_at s h p q c) ≡ true →
      (r : Recorded) → slice_get (records_of s h p q c) 0 ≡ Some r →
      AreCopied (end_at s h p q c).sides.pull (accepted_of (other s h p q c r))
  -- where p's end has opened its epoch: it has put what it was told was accepted, the get that it
  -- knows is at most what its partner has acknowledged, and its put is at most that get and its
  -- entries
  pub sent : (p q c : ℕ) → IsLine s p q c → InContact (end_at s h p q c) →
      (end_at s h p q c).shake.sent.open_complete ≡ true → (r : Recorded) →
      slice_get (records_of s h p q c) 0 ≡ Some r →
      IsSent (end_at s h p q c).sides.send r (put_word s h p q c) (acked_of (other s h p q c r))
  -- from its open request on the counter words of an end are those of its epoch
  pub counted : (p q c : ℕ) → IsLine s p q c → InContact (end_at s h p q c) →
      (end_at s h p q c).shake.sent.open_request ≡ true →
      (put_word s h p q c ≡ (end_at s h p q c).sides.send.put)
      × (get_word s h p q c ≡ (end_at s h p q c).sides.local_get)
  -- a turn leaves each counter word of p as it is, unless p makes in it a step that stores it
  pub stored : (p q c f : ℕ) (before after : List Event) (a : ℕ) (t : Turn) → IsLine s p q c →
      f < 2 → h ≡ before ++ Turned a t ∷ after →
      (word_after s (before ++ Turned a t ∷ []) p (Counter q c f)
      ≡ word_after s before p (Counter q c f)) ⊎ StoresCounter s before a p q c f t
