-- What always holds of what a partition knows, whatever it loads: at each end of a channel, for
-- each partner, and of all partners. It says more than what the plan rests on, so that each
-- permitted step keeps it.
use Rattle.std.specs.Prelude.{◌≡◌, ℕ, ◌+◌, ◌<◌, ◌≤◌, Bool, true, false, is_some, List, [], ◌∷◌, length, Option, Some, None}
use Rattle.xp_base.specs.declared.layout.TheConstants.{LINES, RECORD_WORDS}
use Rattle.xp_base.specs.declared.reason.Reason.{Reason}
use Rattle.xp_base.specs.Kinds.{Kinds}
use Rattle.xp_script.specs.declared.part.ScenarioPart.{ScenarioPart}
use Rattle.xp_protocol.specs.Parts.{IsRequestSize}
use Rattle.xp_protocol.specs.Sending.{Sending}
use Rattle.xp_protocol.specs.Pulling.{Pulling}
use Rattle.xp_protocol.specs.State.{State, Peer, End, Shake, Size, Reading, link_at, peer_at}
use Rattle.xp_protocol.specs.Peering.{CHECK_WORDS, read_place}
use Rattle.xp_plan.specs.Sound.{IsSending, IsPulling}

-- a size is there, and requests may have it
abbrev pub HasSize : Option Size → Type 0
HasSize None = ⊥
HasSize (Some size) = IsRequestSize size.entries size.limit

-- what the handshake of an epoch has of flags, sizes and a reason to close
pub record Flagged : Type 0 where
  pub sent : Kinds
  pub heard : Bool  -- whether the partner's open request was handled
  pub reason : Option Reason
  pub own_size : Option Size
  pub their_size : Option Size

abbrev pub flagged : Shake → Flagged
flagged x =
    record {
      sent = x.sent;
      heard = x.got.open_request;
      reason = x.reason;
      own_size = x.own_size;
      their_size = x.their_size;
    }

-- flags are sent in their order: an open reply after both open requests, and nothing that closes
-- without a reason. The sizes of the requests that were sent and handled are there
pub record IsOrdered (x : Flagged) : Type 0 where
  pub own : x.sent.open_request ≡ true → HasSize x.own_size
  pub theirs : x.heard ≡ true → x.reason ≡ None → HasSize x.their_size
  pub asked : x.sent.open_reply ≡ true → x.sent.open_request ≡ true
  pub heard : x.sent.open_reply ≡ true → x.heard ≡ true
  pub complete : x.sent.open_complete ≡ true → x.sent.open_request ≡ true
  pub request : x.sent.close_request ≡ true → is_some x.reason ≡ true
  pub reply : x.sent.close_reply ≡ true → is_some x.reason ≡ true

-- words of the next entry are stored only where the queue has room for it
pub record IsWriting (x : Sending) : Type 0 where
  pub sending : IsSending x
  pub room : 0 < x.written_words → x.put < x.remote_get + x.entries

-- numbers that rise, the first of them not below `low`, and all of them below `high`
abbrev pub AreRising : ℕ → ℕ → List ℕ → Type 0
AreRising low high [] = Unit {0}
AreRising low high (number ∷ more) =
    (low ≤ number) × (number < high) × AreRising (number + 1) high more

-- an end: its registration has a size that requests may have, and the numbers that wait for their
-- notices are those of messages that were accepted, each once. No more of them wait than a queue
-- has lines, and none before the open complete
pub record IsConsistentBy (size : Option Size) (x : Flagged) (sender : Sending)
    (receiver : Pulling) (waiting : List ℕ) : Type 0 where
  pub registration : is_some size ≡ true → HasSize size
  pub order : IsOrdered x
  pub send : IsWriting sender
  pub pull : IsPulling receiver
  pub rising : AreRising 0 sender.put waiting
  pub few : length waiting ≤ LINES
  pub none : x.sent.open_complete ≡ false → waiting ≡ []

abbrev pub IsConsistentEnd : End → Type 0
IsConsistentEnd e =
    IsConsistentBy e.registration (flagged e.shake) e.sides.send e.sides.pull
    e.sides.pending_notices

-- a partner: a copy of its page, its heartbeat or its record that goes on has loads left
pub record IsConsistentWith (paging beat : List ℕ) (reading : Option Reading) (links : List End)
    : Type 0 where
  pub page : length paging < 5
  pub check : length beat < CHECK_WORDS
  pub words : read_place reading < RECORD_WORDS
  pub ends : (c : ℕ) → IsConsistentEnd (link_at links c)

abbrev pub IsConsistentPeer : Peer → Type 0
IsConsistentPeer p = IsConsistentWith p.paging p.watch.words p.engage.reading p.links

-- all partners, of which there are as many as partitions at most
pub record AreConsistent (count : ℕ) (all : List Peer) : Type 0 where
  pub few : length all ≤ count
  pub peers : (q : ℕ) → IsConsistentPeer (peer_at all q)

abbrev pub IsConsistent : ScenarioPart → State → Type 0
IsConsistent s st = AreConsistent s.count st.peers
