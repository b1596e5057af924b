-- The counts of what a partition knows, and how far all of them go. A count is what the partition
-- raises by itself; a word that it loaded is none.
use Rattle.std.specs.Prelude.{◌≡◌, ℕ, ◌+◌, ◌*◌, ◌≤◌, if◌then◌else◌, List, [], ◌∷◌, length, Some}
use Rattle.xp_base.specs.History.{Act, Begun, Answered, Noticed, Turn}
use Rattle.xp_protocol.specs.State.{State, Beats, Clock, Script, Copies, Peer, End, peer_of, link_at}

-- 1 where the close reply was sent: the epoch is over as soon as the partner's was got
abbrev pub ending : End → ℕ
ending e = if e.shake.sent.close_reply then 1 else 0

-- the counts of an end
pub record EndCounts : Type 0 where
  pub epochs : ℕ  -- that are over, or end with the partner's close reply
  pub put : ℕ
  pub remote_get : ℕ
  pub taken : ℕ
  pub held : ℕ  -- of the messages that are held or were released, the number after the last one
  pub local_get : ℕ
  pub closed : ℕ  -- connections that ended in this boot, or end with the partner's close reply
  pub closed_asked : ℕ

abbrev pub counts_of : End → EndCounts
counts_of e =
    record {
      epochs = e.epoch + ending e;
      put = e.sides.send.put;
      remote_get = e.sides.send.remote_get;
      taken = e.sides.pull.taken;
      held = e.sides.ack.front + length e.sides.ack.released_from_front;
      local_get = e.sides.local_get;
      closed = length e.closed + ending e;
      closed_asked = e.closed_asked;
    }

-- each of these counts is n at most
pub record AreEndCounts (n : ℕ) (x : EndCounts) : Type 0 where
  pub epochs : x.epochs ≤ n
  pub put : x.put ≤ n
  pub remote_get : x.remote_get ≤ n
  pub taken : x.taken ≤ n
  pub held : x.held ≤ n
  pub local_get : x.local_get ≤ n
  pub closed : x.closed ≤ n
  pub closed_asked : x.closed_asked ≤ n

abbrev pub IsEndCounted : ℕ → End → Type 0
IsEndCounted n e = AreEndCounts n (counts_of e)

-- each count of a partner is n at most: how many times the own memory was opened for it in this
-- boot, the turn in which the own bit was cleared last, that of the contact or of the last check of
-- its heartbeat, and the counts of the ends
pub record IsPeerCounted (n : ℕ) (p : Peer) : Type 0 where
  pub count : p.engage.count ≤ n
  pub cleared : (turn : ℕ) → p.engage.cleared_at ≡ Some turn → turn ≤ n
  pub since : p.watch.since ≤ n
  pub ends : (c : ℕ) → IsEndCounted n (link_at p.links c)

-- the copies of each kind that were begun are n at most
pub record AreCopiesCounted (n : ℕ) (x : Copies) : Type 0 where
  pub pages : x.pages ≤ n
  pub beats : x.beats ≤ n
  pub records : x.records ≤ n
  pub args : x.args ≤ n
  pub counters : x.counters ≤ n
  pub get : x.get ≤ n
  pub entries : x.entries ≤ n

-- what counts over all boots is n at most
pub record IsClockCounted (n : ℕ) (x : Clock) : Type 0 where
  pub boots : x.boots ≤ n
  pub turns : x.turns ≤ n
  pub puts : x.puts ≤ n
  pub copies : AreCopiesCounted n x.copies

-- the counts of a boot's script are n at most
pub record IsScriptCounted (n : ℕ) (x : Script) : Type 0 where
  pub begun : x.begun ≤ n
  pub since : x.since ≤ n

-- the same of the own heartbeat, whose count begins anew after the last one that a word can have
pub record IsBeatsCounted (n : ℕ) (x : Beats) : Type 0 where
  pub offline : x.offline ≤ n
  pub stored_for : x.stored_for ≤ n

-- each count of what a partition knows is n at most
pub record AreCounted (n : ℕ) (st : State) : Type 0 where
  pub clock : IsClockCounted n st.clock
  pub beats : IsBeatsCounted n st.beats
  pub script : IsScriptCounted n st.script
  pub peers : (q : ℕ) → IsPeerCounted n (peer_of st q)

-- how many commands some acts begin or answer. A notice raises no count
abbrev pub calls_in : List Act → ℕ
calls_in [] = 0
calls_in (Begun ∷ more) = calls_in more + 1
calls_in (Answered ∷ more) = calls_in more + 1
calls_in (Noticed q c number how ∷ more) = calls_in more

-- by how much a turn raises the counts at most: each beginning and each answer by 1, its step by 1,
-- and by 1 that it is counted, and what comes at its moment
abbrev pub raised_by : Turn → ℕ
raised_by t = calls_in t.before + calls_in t.after + 2

-- a turn begins and answers so many commands at most
abbrev pub HasCalls : ℕ → Turn → Type 0
HasCalls most t = calls_in t.before + calls_in t.after ≤ most

-- the counts are bounded by the turns that were made, each of which begins and answers so many
-- commands at most
abbrev pub IsBounded : ℕ → State → Type 0
IsBounded most st = AreCounted ((most + 2) * st.clock.turns + 2) st
