-- Sessions: under which of them an area is opened, and what an echo and a contact say of the record
-- that the partner has now.
use Rattle.std.specs.Prelude.{◌≡◌, ℕ, ◌<◌, true, List, ◌∷◌, ◌++◌, Some}
use Rattle.xp_base.specs.declared.session.Session.{Session}
use Rattle.xp_base.specs.History.{Event, Turn, Turned}
use Rattle.xp_base.specs.Places.{Record}
use Rattle.xp_base.specs.Sessions.{session_word}
use Rattle.xp_script.specs.declared.scenario.Scenario.{Scenario}
use Rattle.xp_protocol.specs.declared.rule.PeerRule.TheVariants.{OpenArea}
use Rattle.xp_protocol.specs.declared.rule.Rule.TheVariants.{Peer}
use Rattle.xp_protocol.specs.Peering.{session_next}
use Rattle.xp_protocol.specs.Promised.{known_acted}
use Rattle.xp_protocol.specs.Reached.{state_at}
use Rattle.xp_protocol.specs.State.{Contact, peer_of}
use Rattle.xp_invariants.specs.Between.{ArePartners, IsStepBy, word_after, engage_at}

-- in turn t after a history p opens its area for q, and under which session
abbrev pub Opens : Scenario → List Event → ℕ → ℕ → Turn → Type 0
Opens s before p q t = IsStepBy s before p t (Peer q OpenArea)

abbrev pub session_opened : Scenario → List Event → ℕ → ℕ → Turn → Session
session_opened s before p q t =
    session_next (known_acted s before p t.before).stamp
    (peer_of (known_acted s before p t.before) q).engage

-- of every two partitions p and q, after a history
pub record Sessions (s : Scenario) (h : List Event) : Type 0 where
  -- the sessions under which an area is opened rise, over all boots
  pub rising : (p q : ℕ) (a b c : List Event) (t u : Turn) → ArePartners s p q →
      h ≡ (a ++ Turned p t ∷ b) ++ Turned p u ∷ c → Opens s a p q t →
      Opens s (a ++ Turned p t ∷ b) p q u →
      session_word (session_opened s a p q t)
      < session_word (session_opened s (a ++ Turned p t ∷ b) p q u)
  -- while p's bit stands at q, an echo in p's record is the session in q's
  pub echo : (p q : ℕ) → ArePartners s p q → (engage_at s h p q).bit ≡ true →
      (word_after s h p (Record q 2) ≡ 0 → ⊥) →
      word_after s h p (Record q 2) ≡ word_after s h q (Record p 1)
  -- where p is in contact with q, p's bit stands, and q's record has its session of the
  -- contact, and p's as its echo
  pub contact : (p q : ℕ) (k : Contact) → ArePartners s p q →
      (peer_of (state_at s h p) q).contact ≡ Some k →
      ((engage_at s h p q).bit ≡ true) × (word_after s h q (Record p 1) ≡ session_word k.theirs)
      × (word_after s h q (Record p 2) ≡ session_word k.own)
