-- The queue of control flags from an end to its partner's: each flag that was sent is in one place,
-- in the partner's word, taken and not handled, or handled; and its argument is the one that was
-- stored for it.
use Rattle.std.specs.Prelude.{◌≡◌, ℕ, ◌+◌, ◌≤◌, Bool, true, false, ◌||◌, is_some, List, Some, None}
use Rattle.xp_base.specs.declared.link.Kind.{Kind}
use Rattle.xp_base.specs.declared.link.Kind.TheVariants.{CloseReply, MsgRequest}
use Rattle.xp_base.specs.Kinds.{Kinds, has, kinds_in}
use Rattle.xp_base.specs.History.{Event}
use Rattle.xp_base.specs.Places.{Flag, Args, Entry, index_of}
use Rattle.xp_script.specs.declared.scenario.Scenario.{Scenario}
use Rattle.xp_protocol.specs.Linking.{code_of}
use Rattle.xp_protocol.specs.Peering.{session_now}
use Rattle.xp_protocol.specs.Promised.{IsLine, size_sent}
use Rattle.xp_protocol.specs.Reached.{state_at}
use Rattle.xp_protocol.specs.State.{Contact, End, Ready, Replied, end_of, peer_of, request_word}
use Rattle.xp_invariants.specs.Between.{word_after}

-- an end of p, and the flags that p has set there in its partner's word
abbrev pub end_at : Scenario → List Event → ℕ → ℕ → ℕ → End
end_at s h p q c = end_of (state_at s h p) q c

abbrev pub flags_set : Scenario → List Event → ℕ → ℕ → ℕ → Kinds
flags_set s h p q c = kinds_in (word_after s h q (Flag p)) c

abbrev pub InContact : End → Type 0
InContact e = is_some e.shake.meet ≡ true

-- all flags but message requests are of an epoch, and are sent once in it
abbrev pub IsControl : Kind → Type 0
IsControl MsgRequest = ⊥
IsControl k = Unit {0}

-- a flag is in one place exactly where it was sent
pub record IsPlaced (sent word taken got : Bool) : Type 0 where
  pub some : sent ≡ (word || (taken || got))
  pub word_alone : word ≡ true → (taken ≡ false) × (got ≡ false)
  pub taken_alone : taken ≡ true → got ≡ false

-- a partner waits for a contact: its area is open under the session of the contact
pub record IsAwaited (s : Scenario) (h : List Event) (p q : ℕ) (k : Contact) : Type 0 where
  pub ready : (peer_of (state_at s h q) p).engage.area ≡ Ready
  pub alone : (peer_of (state_at s h q) p).contact ≡ None
  pub session : session_now (state_at s h q).stamp (peer_of (state_at s h q) p).engage ≡ k.theirs

-- an argument is that of its flag: the size for which the open request asks, the place of the own
-- entries, the code of the reason
pub record HasArguments (e : End) (request reply code place : ℕ) : Type 0 where
  pub asked : e.shake.sent.open_request ≡ true → request ≡ request_word (size_sent e)
  pub replied : e.shake.sent.open_reply ≡ true → reply ≡ place
  pub coded : e.shake.sent.close_request ≡ true → code ≡ code_of e.shake.reason

-- of p's end of a line, which sends, and q's, which gets
pub record FlagPlaces (s : Scenario) (h : List Event) : Type 0 where
  -- two ends in contact are in one epoch, or in two that follow each other
  pub near : (p q c : ℕ) → IsLine s p q c → InContact (end_at s h p q c) →
      InContact (end_at s h q p c) →
      ((end_at s h p q c).epoch ≤ (end_at s h q p c).epoch + 1)
      × ((end_at s h q p c).epoch ≤ (end_at s h p q c).epoch + 1)
  -- in one epoch, each flag that was sent is in one place
  pub placed : (p q c : ℕ) (k : Kind) → IsLine s p q c → InContact (end_at s h p q c) →
      InContact (end_at s h q p c) → (end_at s h p q c).epoch ≡ (end_at s h q p c).epoch →
      IsControl k →
      IsPlaced (has k (end_at s h p q c).shake.sent) (has k (flags_set s h p q c))
      (has k (end_at s h q p c).shake.taken) (has k (end_at s h q p c).shake.got)
  -- where the sender is in the next epoch: of the epoch before, the close reply alone isn't
  -- handled, and it wasn't sent in the next one; the other flags are those of the next one
  pub last : (p q c : ℕ) → IsLine s p q c → InContact (end_at s h p q c) →
      InContact (end_at s h q p c) → (end_at s h p q c).epoch ≡ (end_at s h q p c).epoch + 1 →
      IsPlaced true (has CloseReply (flags_set s h p q c))
      (has CloseReply (end_at s h q p c).shake.taken) false
      × ((end_at s h q p c).shake.got.close_reply ≡ false)
      × ((end_at s h p q c).shake.sent.close_reply ≡ false)
  pub next : (p q c : ℕ) (k : Kind) → IsLine s p q c → InContact (end_at s h p q c) →
      InContact (end_at s h q p c) → (end_at s h p q c).epoch ≡ (end_at s h q p c).epoch + 1 →
      IsControl k → (k ≡ CloseReply → ⊥) →
      IsPlaced (has k (end_at s h p q c).shake.sent) (has k (flags_set s h p q c))
      (has k (end_at s h q p c).shake.taken) false
  -- where the sender is in the epoch before, nothing of it is under way
  pub none : (p q c : ℕ) (k : Kind) → IsLine s p q c → InContact (end_at s h p q c) →
      InContact (end_at s h q p c) → (end_at s h p q c).epoch + 1 ≡ (end_at s h q p c).epoch →
      IsControl k → (has k (flags_set s h p q c) ≡ false)
      × (has k (end_at s h q p c).shake.taken ≡ false)
  -- where the partner still waits for the contact, each flag that was sent is in the word
  pub awaited : (p q c : ℕ) (k : Kind) (m : Contact) → IsLine s p q c →
      (end_at s h p q c).shake.meet ≡ Some m → IsAwaited s h p q m → IsControl k →
      has k (end_at s h p q c).shake.sent ≡ has k (flags_set s h p q c)
  -- the argument words of an end in contact are those of the flags that it has sent, whatever has
  -- become of its partner
  pub arguments : (p q c : ℕ) (m : Contact) → IsLine s p q c →
      (end_at s h p q c).shake.meet ≡ Some m →
      HasArguments (end_at s h p q c) (word_after s h p (Args q c 0))
      (word_after s h p (Args q c 1)) (word_after s h p (Args q c 2)) (index_of (Entry q c 0))
  -- an argument that was loaded is of a flag that is taken and not handled, and is the word of the
  -- partner, whatever has become of the partner's end
  pub request_loaded : (p q c v : ℕ) → IsLine s p q c → InContact (end_at s h q p c) →
      (end_at s h q p c).shake.request ≡ Some v →
      ((end_at s h q p c).shake.taken.open_request ≡ true) × (v ≡ word_after s h p (Args q c 0))
  pub reply_loaded : (p q c : ℕ) (v : Replied) → IsLine s p q c → InContact (end_at s h q p c) →
      (end_at s h q p c).shake.reply ≡ Some v →
      ((end_at s h q p c).shake.taken.open_reply ≡ true) × (v.right ≡ true)
  pub code_loaded : (p q c v : ℕ) → IsLine s p q c → InContact (end_at s h q p c) →
      (end_at s h q p c).shake.code ≡ Some v →
      ((end_at s h q p c).shake.taken.close_request ≡ true) × (v ≡ word_after s h p (Args q c 2))
