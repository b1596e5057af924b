-- Which rules change the words of a record but its magic.
use Rattle.std.proofs.Common.{◌≡◌, ℕ, ◌<◌, Bool, true, false, ◌&&◌, cond, eqb, refl, ap, sym, subst, arith, inl, inr, ◌⊎◌}
use Rattle.std.proofs.lemmas.Bool.{eqb-true, ne_eqb, and_parts}
use Rattle.xp_base.specs.Places.{Record}
use Rattle.xp_script.specs.declared.part.ScenarioPart.{ScenarioPart}
use Rattle.xp_protocol.specs.declared.rule.AreaWord.TheVariants.{SessionWord, EchoWord, PlaceWord, ArgsWord, FlagWord, CounterWord}
use Rattle.xp_protocol.specs.declared.rule.RingRule.TheVariants.{ReadGet, WriteEntryWord, AcceptMessage}
use Rattle.xp_protocol.specs.declared.rule.PullRule.TheVariants.{ReadCounters, ReadEntry}
use Rattle.xp_protocol.specs.declared.rule.LinkRule.TheVariants.{Ring, Pull, Acknowledge, SetFlag, ZeroGet, ZeroPut, StoreArgument, ReadArgument}
use Rattle.xp_protocol.specs.declared.rule.PeerRule.TheVariants.{AskActivation, TakeFlags, CloseArea, ZeroMagic, ClearOldBit, Prepare, OpenArea, SetEngagementBit, ReadRecord, StoreEcho, StoreSecond, ClearEngagementBit, LookAtPage, CheckBeat, ClearDeactivationBit, TellPartner}
use Rattle.xp_protocol.specs.declared.rule.OwnRule.TheVariants.{ReadEngaged, TakeDeactivation, ReadStamp, ZeroMask, ZeroOffline, WriteStamp, StoreMask, TakeActivation, StoreBeat, StoreOffline}
use Rattle.xp_protocol.specs.declared.rule.Rule.{Rule}
use Rattle.xp_protocol.specs.declared.rule.Rule.TheVariants.{Link, Peer as ForPeer, Own}
use Rattle.xp_protocol.specs.Peering.{field_number, field_word, session_next, or_zero}
use Rattle.xp_base.specs.Sessions.{session_word}
use Rattle.xp_protocol.specs.Rules.{Can}
use Rattle.xp_protocol.specs.State.{State, Off, peer_of}
use Rattle.xp_meetings.proofs.Always.{does_rule}
use Rattle.xp_meetings.proofs.Words.{Words, write}

-- a rule may change word f of p's record for q
pub record Changes (su : ScenarioPart) (st : State) (r : Rule) (p q f : ℕ) : Type 0 where
  pub own : su.part ≡ p
  pub free : ((peer_of st q).engage.area ≡ Off) ⊎ ((f ≡ 2) × (r ≡ ForPeer q StoreEcho))

-- a store in an own record
record_written : (w : Words) (a k g v p q f : ℕ) → (write w a (Record k g) v p (Record q f) ≡ w p (Record q f)) ⊎ ((a ≡ p) × (k ≡ q) × (g ≡ f))
record_written w a k g v p q f = by ((eqb g f && eqb k q) && eqb a p) refl where
  by : (b : Bool) → ((eqb g f && eqb k q) && eqb a p) ≡ b → (cond b v (w p (Record q f)) ≡ w p (Record q f)) ⊎ ((a ≡ p) × (k ≡ q) × (g ≡ f))
  by false e = inl refl
  by true e = let x = and_parts (eqb g f && eqb k q) (eqb a p) e in let y = and_parts (eqb g f) (eqb k q) x.0 in inr (eqb-true a p x.1, eqb-true k q y.1, eqb-true g f y.0)

-- a store of a magic leaves the other words
magic_written : (w : Words) (a k v p q f : ℕ) → 0 < f → write w a (Record k 0) v p (Record q f) ≡ w p (Record q f)
magic_written w a k v p q f l = rw (ne_eqb 0 f (λ e. omega (arith, e, l))) refl

module _ (su : ScenarioPart) (st : State) (w : Words) (p q f : ℕ) (some : 0 < f) where
  abbrev Kept : Rule → Type 0
  Kept r = (does_rule su st r w p (Record q f) ≡ w p (Record q f)) ⊎ Changes su st r p q f

  prepared : (k g v : ℕ) (r : Rule) → (peer_of st k).engage.area ≡ Off → (write w su.part (Record k g) v p (Record q f) ≡ w p (Record q f)) ⊎ Changes su st r p q f
  prepared k g v r off = by (record_written w su.part k g v p q f) where
    by : (write w su.part (Record k g) v p (Record q f) ≡ w p (Record q f)) ⊎ ((su.part ≡ p) × (k ≡ q) × (g ≡ f)) → (write w su.part (Record k g) v p (Record q f) ≡ w p (Record q f)) ⊎ Changes su st r p q f
    by (inl e) = inl e
    by (inr x) = inr (record { own = x.0; free = inl (subst (λ (j : ℕ). (peer_of st j).engage.area ≡ Off) x.1 off) })

  echoed : (k v : ℕ) → (write w su.part (Record k 2) v p (Record q f) ≡ w p (Record q f)) ⊎ Changes su st (ForPeer k StoreEcho) p q f
  echoed k v = by (record_written w su.part k 2 v p q f) where
    by : (write w su.part (Record k 2) v p (Record q f) ≡ w p (Record q f)) ⊎ ((su.part ≡ p) × (k ≡ q) × (2 ≡ f)) → (write w su.part (Record k 2) v p (Record q f) ≡ w p (Record q f)) ⊎ Changes su st (ForPeer k StoreEcho) p q f
    by (inl e) = inl e
    by (inr x) = inr (record { own = x.0; free = inr (sym x.2, ap (λ (j : ℕ). ForPeer j StoreEcho) x.1) })

  pub record_kept : (r : Rule) → Can su st r → Kept r
  record_kept (Link k c (Ring ReadGet)) can = inl refl
  record_kept (Link k c (Ring (WriteEntryWord j))) can = inl refl
  record_kept (Link k c (Ring AcceptMessage)) can = inl refl
  record_kept (Link k c (Pull ReadCounters)) can = inl refl
  record_kept (Link k c (Pull ReadEntry)) can = inl refl
  record_kept (Link k c Acknowledge) can = inl refl
  record_kept (Link k c (SetFlag j)) can = inl refl
  record_kept (Link k c ZeroGet) can = inl refl
  record_kept (Link k c ZeroPut) can = inl refl
  record_kept (Link k c (StoreArgument x)) can = inl refl
  record_kept (Link k c (ReadArgument x)) can = inl refl
  record_kept (ForPeer k AskActivation) can = inl refl
  record_kept (ForPeer k TakeFlags) can = inl refl
  record_kept (ForPeer k CloseArea) can = inl (magic_written w su.part k 0 p q f some)
  record_kept (ForPeer k ZeroMagic) can = inl (magic_written w su.part k 0 p q f some)
  record_kept (ForPeer k ClearOldBit) can = inl refl
  record_kept (ForPeer k (Prepare SessionWord)) can = prepared k 1 (session_word (session_next st.stamp (peer_of st k).engage)) (ForPeer k (Prepare SessionWord)) can.1.1.0
  record_kept (ForPeer k (Prepare EchoWord)) can = prepared k 2 0 (ForPeer k (Prepare EchoWord)) can.1.1.0
  record_kept (ForPeer k (Prepare FlagWord)) can = inl refl
  record_kept (ForPeer k (Prepare (PlaceWord x))) can = prepared k (field_number x) (field_word k x) (ForPeer k (Prepare (PlaceWord x))) can.1.1.0
  record_kept (ForPeer k (Prepare (ArgsWord c g))) can = inl refl
  record_kept (ForPeer k (Prepare (CounterWord c g))) can = inl refl
  record_kept (ForPeer k OpenArea) can = inl (magic_written w su.part k _ p q f some)
  record_kept (ForPeer k SetEngagementBit) can = inl refl
  record_kept (ForPeer k ReadRecord) can = inl refl
  record_kept (ForPeer k StoreEcho) can = echoed k (or_zero (peer_of st k).engage.read)
  record_kept (ForPeer k StoreSecond) can = inl (magic_written w su.part k _ p q f some)
  record_kept (ForPeer k ClearEngagementBit) can = inl refl
  record_kept (ForPeer k LookAtPage) can = inl refl
  record_kept (ForPeer k CheckBeat) can = inl refl
  record_kept (ForPeer k ClearDeactivationBit) can = inl refl
  record_kept (ForPeer k TellPartner) can = inl refl
  record_kept (Own ReadEngaged) can = inl refl
  record_kept (Own TakeDeactivation) can = inl refl
  record_kept (Own ReadStamp) can = inl refl
  record_kept (Own ZeroMask) can = inl refl
  record_kept (Own ZeroOffline) can = inl refl
  record_kept (Own WriteStamp) can = inl refl
  record_kept (Own StoreMask) can = inl refl
  record_kept (Own TakeActivation) can = inl refl
  record_kept (Own StoreBeat) can = inl refl
  record_kept (Own StoreOffline) can = inl refl
