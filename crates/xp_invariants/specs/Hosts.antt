-- Guest and host: what a partition's bit at another says of the area that the partition has for it,
-- and of the area that the other has for the partition.
use Rattle.std.specs.Prelude.{◌≡◌, ℕ, ◌<◌, ◌⊎◌, Bool, true, false, if◌then◌else◌, is_some, List, [], ◌∷◌, ◌++◌}
use Rattle.xp_base.specs.declared.layout.TheConstants.{CHANNELS, FIRST, SECOND, RECORD_WORDS}
use Rattle.xp_base.specs.declared.step.Answer.TheVariants.{Word}
use Rattle.xp_base.specs.History.{Event, Turn, Turned}
use Rattle.xp_base.specs.Places.{Record}
use Rattle.xp_script.specs.declared.scenario.Scenario.{Scenario}
use Rattle.xp_protocol.specs.declared.rule.PeerRule.TheVariants.{ReadRecord, StoreEcho}
use Rattle.xp_protocol.specs.declared.rule.Rule.TheVariants.{Peer}
use Rattle.xp_protocol.specs.Peering.{is_copied, read_place}
use Rattle.xp_protocol.specs.Promised.{known_acted}
use Rattle.xp_protocol.specs.Reached.{state_at}
use Rattle.xp_protocol.specs.State.{Area, Off, Ready, Leaving, end_of, peer_of}
use Rattle.xp_invariants.specs.Between.{ArePartners, HasBooted, IsStepBy, word_after, bit_after, engage_at}

-- the magic of the own record for a partner: none but in an area that is open to it
abbrev pub magic_of : Area → Bool → ℕ
magic_of Ready second = if second then SECOND else FIRST
magic_of area second = 0

-- p read a magic in q's record, in turn t after a history, and p's bit has stood at q ever since
pub record HasSeen (s : Scenario) (before after : List Event) (p q : ℕ) (t : Turn) : Type 0 where
  pub read : IsStepBy s before p t (Peer q ReadRecord)
  pub first : read_place (peer_of (known_acted s before p t.before) q).engage.reading ≡ 0
  pub magic : ℕ
  pub answered : read.step.step.answer ≡ Word magic
  pub some : magic ≡ 0 → ⊥
  pub stood : (some rest : List Event) → after ≡ some ++ rest →
      bit_after s (before ++ Turned p t ∷ some) p q ≡ 1

-- a turn of partition a may change word f of p's record for q: a is p, and its area for q is free,
-- or it stores its echo
pub record MayRecord (s : Scenario) (before : List Event) (a p q f : ℕ) (t : Turn) : Type 0 where
  pub own : a ≡ p
  pub free : ((peer_of (known_acted s before p t.before) q).engage.area ≡ Off)
      ⊎ ((f ≡ 2) × IsStepBy s before p t (Peer q StoreEcho))

-- of every two partitions p and q, after a history
pub record GuestAndHost (s : Scenario) (h : List Event) : Type 0 where
  -- once p has booted, its bit stands at q exactly where p has entered
  pub bit : (p q : ℕ) → ArePartners s p q → HasBooted s h p →
      bit_after s h p q ≡ (if (engage_at s h p q).bit then 1 else 0)
  -- while p boots, its bit is as it was in that boot before, until p clears it
  pub old_bit : (p q : ℕ) (before after : List Event) → ArePartners s p q → h ≡ before ++ after →
      (state_at s before p).clock.boots ≡ (state_at s h p).clock.boots → (HasBooted s h p → ⊥) →
      (engage_at s h p q).cleared ≡ false → bit_after s h p q ≡ bit_after s before p q
  -- once p has cleared its bit in a boot, the bit is clear until p has booted
  pub cleared_bit : (p q : ℕ) → ArePartners s p q → (HasBooted s h p → ⊥) →
      (engage_at s h p q).cleared ≡ true → bit_after s h p q ≡ 0
  -- p has entered only while its own area for q is open or being left
  pub own_area : (p q : ℕ) → ArePartners s p q → (engage_at s h p q).bit ≡ true →
      ((engage_at s h p q).area ≡ Ready) ⊎ ((engage_at s h p q).area ≡ Leaving)
  -- once p has booted, its record for q has a magic exactly where the area is open
  pub magic : (p q : ℕ) → ArePartners s p q → HasBooted s h p →
      word_after s h p (Record q 0) ≡ magic_of (engage_at s h p q).area (engage_at s h p q).second
  -- a copy of q's record or of its words for a channel, and contact, mean that p has entered
  pub reading : (p q : ℕ) → ArePartners s p q → is_some (engage_at s h p q).reading ≡ true →
      (engage_at s h p q).bit ≡ true
  pub copying : (p q c : ℕ) → ArePartners s p q → c < CHANNELS →
      is_copied (end_of (state_at s h p) q c) ≡ true → (engage_at s h p q).bit ≡ true
  pub contact : (p q : ℕ) → ArePartners s p q →
      is_some (peer_of (state_at s h p) q).contact ≡ true → (engage_at s h p q).bit ≡ true
  -- where p has read a magic and its bit still stands, q's area for p isn't free
  pub host : (p q : ℕ) (before after : List Event) (t : Turn) → ArePartners s p q →
      h ≡ before ++ Turned p t ∷ after → HasSeen s before after p q t →
      (engage_at s h q p).area ≡ Off → ⊥
  -- of a record, the words but the magic change while the area is free, and the echo where it is
  -- stored
  pub record_words : (p q f : ℕ) (before after : List Event) (a : ℕ) (t : Turn) →
      ArePartners s p q → h ≡ before ++ Turned a t ∷ after → 0 < f → f < RECORD_WORDS →
      (word_after s (before ++ Turned a t ∷ []) p (Record q f) ≡ word_after s before p (Record q f))
      ⊎ MayRecord s before a p q f t
