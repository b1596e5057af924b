-- What always holds of what a partition knows, as far as the plan rests on it: the sizes of the
-- queues, the words and entries that were stored and loaded so far, and which flags stand before
-- which.
use Rattle.std.specs.Prelude.{◌≡◌, ℕ, ◌+◌, ◌-◌, ◌*◌, ◌%◌, ◌^◌, ◌<◌, ◌≤◌, true, length, is_some}
use Rattle.xp_base.specs.declared.layout.TheConstants.{CHANNELS, RECORD_WORDS}
use Rattle.xp_script.specs.declared.part.ScenarioPart.{ScenarioPart}
use Rattle.xp_protocol.specs.Parts.{IsRequestSize}
use Rattle.xp_protocol.specs.Sending.{Sending, words_each}
use Rattle.xp_protocol.specs.Pulling.{Pulling, words_each as pulled_words_each}
use Rattle.xp_protocol.specs.State.{State, Peer, End, is_connected, link_at, peer_of}
use Rattle.xp_protocol.specs.Peering.{CHECK_WORDS, read_place}

-- messages fit the queue, and not all words of the next entry were stored in vain
pub record IsSending (x : Sending) : Type 0 where
  pub size : IsRequestSize x.entries x.limit
  pub get : x.remote_get ≤ x.put
  pub room : x.put ≤ x.remote_get + x.entries
  pub words : x.written_words < 2 ^ words_each x

-- a run of entries that is being copied ends with the queue at the latest
pub record IsRun (x : Pulling) : Type 0 where
  pub words : length x.copied < pulled_words_each x * x.run
  pub entries : x.run ≤ x.entries - x.pulled % x.entries

pub record IsPulling (x : Pulling) : Type 0 where
  pub size : IsRequestSize x.entries x.limit
  pub run : 0 < length x.copied → IsRun x

-- the sides of a connected end. No open complete is sent before its open request, and no close
-- reply without a reason to close
pub record IsSoundEnd (e : End) : Type 0 where
  pub send : is_connected e ≡ true → IsSending e.sides.send
  pub pull : is_connected e ≡ true → IsPulling e.sides.pull
  pub order : e.shake.sent.open_complete ≡ true → e.shake.sent.open_request ≡ true
  pub closing : e.shake.sent.close_reply ≡ true → is_some e.shake.reason ≡ true

-- a copy that goes on has loads left
pub record IsSoundPeer (p : Peer) : Type 0 where
  pub page : length p.paging < 5
  pub beat : length p.watch.words < CHECK_WORDS
  pub words : read_place p.engage.reading < RECORD_WORDS
  pub ends : (c : ℕ) → c < CHANNELS → IsSoundEnd (link_at p.links c)

pub record IsSound (s : ScenarioPart) (st : State) : Type 0 where
  pub few : length st.peers ≤ s.count
  pub peers : (q : ℕ) → q < s.count → IsSoundPeer (peer_of st q)
