-- Which rules store a counter.
use Rattle.std.proofs.Common.{◌≡◌, ℕ, Bool, true, false, ◌&&◌, cond, eqb, refl, inl, inr, ◌⊎◌}
use Rattle.std.proofs.lemmas.Bool.{eqb-true, and_parts}
use Rattle.xp_base.specs.Places.{Counter}
use Rattle.xp_script.specs.declared.part.ScenarioPart.{ScenarioPart}
use Rattle.xp_protocol.specs.declared.rule.AreaWord.TheVariants.{SessionWord, EchoWord, PlaceWord, ArgsWord, FlagWord, CounterWord}
use Rattle.xp_protocol.specs.declared.rule.RingRule.TheVariants.{ReadGet, WriteEntryWord, AcceptMessage}
use Rattle.xp_protocol.specs.declared.rule.PullRule.TheVariants.{ReadCounters, ReadEntry}
use Rattle.xp_protocol.specs.declared.rule.LinkRule.TheVariants.{Ring, Pull, Acknowledge, SetFlag, ZeroGet, ZeroPut, StoreArgument, ReadArgument}
use Rattle.xp_protocol.specs.declared.rule.PeerRule.TheVariants.{AskActivation, TakeFlags, CloseArea, ZeroMagic, ClearOldBit, Prepare, OpenArea, SetEngagementBit, ReadRecord, StoreEcho, StoreSecond, ClearEngagementBit, LookAtPage, CheckBeat, ClearDeactivationBit, TellPartner}
use Rattle.xp_protocol.specs.declared.rule.OwnRule.TheVariants.{ReadEngaged, TakeDeactivation, ReadStamp, ZeroMask, ZeroOffline, WriteStamp, StoreMask, TakeActivation, StoreBeat, StoreOffline}
use Rattle.xp_protocol.specs.declared.rule.Rule.{Rule}
use Rattle.xp_protocol.specs.declared.rule.Rule.TheVariants.{Link, Peer as ForPeer, Own}
use Rattle.xp_protocol.specs.State.{State}
use Rattle.xp_meetings.proofs.Always.{does_rule}
use Rattle.xp_meetings.proofs.Words.{Words, write}
use Rattle.xp_invariants.specs.Lines.{IsCounterRule}

counter_written : (w : Words) (a k d g v p q c f : ℕ) → (write w a (Counter k d g) v p (Counter q c f) ≡ w p (Counter q c f)) ⊎ ((a ≡ p) × (k ≡ q) × (d ≡ c) × (g ≡ f))
counter_written w a k d g v p q c f = by ((eqb g f && (eqb d c && eqb k q)) && eqb a p) refl where
  by : (b : Bool) → ((eqb g f && (eqb d c && eqb k q)) && eqb a p) ≡ b → (cond b v (w p (Counter q c f)) ≡ w p (Counter q c f)) ⊎ ((a ≡ p) × (k ≡ q) × (d ≡ c) × (g ≡ f))
  by false e = inl refl
  by true e =
      let x = and_parts (eqb g f && (eqb d c && eqb k q)) (eqb a p) e in
      let y = and_parts (eqb g f) (eqb d c && eqb k q) x.0 in
      let z = and_parts (eqb d c) (eqb k q) y.1 in
      inr (eqb-true a p x.1, eqb-true k q z.1, eqb-true d c z.0, eqb-true g f y.0)

module _ (su : ScenarioPart) (st : State) (w : Words) (p q c f : ℕ) where
  abbrev Kept : Rule → Type 0
  Kept r = (does_rule su st r w p (Counter q c f) ≡ w p (Counter q c f)) ⊎ ((su.part ≡ p) × IsCounterRule q c f r)

  stored : (k d g v : ℕ) (r : Rule) → ((k ≡ q) × (d ≡ c) × (g ≡ f) → IsCounterRule q c f r) → (write w su.part (Counter k d g) v p (Counter q c f) ≡ w p (Counter q c f)) ⊎ ((su.part ≡ p) × IsCounterRule q c f r)
  stored k d g v r is = by (counter_written w su.part k d g v p q c f) where
    by : (write w su.part (Counter k d g) v p (Counter q c f) ≡ w p (Counter q c f)) ⊎ ((su.part ≡ p) × (k ≡ q) × (d ≡ c) × (g ≡ f)) → (write w su.part (Counter k d g) v p (Counter q c f) ≡ w p (Counter q c f)) ⊎ ((su.part ≡ p) × IsCounterRule q c f r)
    by (inl e) = inl e
    by (inr x) = inr (x.0, is (x.1, x.2, x.3))

  pub counter_kept : (r : Rule) → Kept r
  counter_kept (Link k d (Ring ReadGet)) = inl refl
  counter_kept (Link k d (Ring (WriteEntryWord j))) = inl refl
  counter_kept (Link k d (Ring AcceptMessage)) = stored k d 1 _ (Link k d (Ring AcceptMessage)) (λ x. x)
  counter_kept (Link k d (Pull ReadCounters)) = inl refl
  counter_kept (Link k d (Pull ReadEntry)) = inl refl
  counter_kept (Link k d Acknowledge) = stored k d 0 _ (Link k d Acknowledge) (λ x. x)
  counter_kept (Link k d (SetFlag j)) = inl refl
  counter_kept (Link k d ZeroGet) = stored k d 0 0 (Link k d ZeroGet) (λ x. x)
  counter_kept (Link k d ZeroPut) = stored k d 1 0 (Link k d ZeroPut) (λ x. x)
  counter_kept (Link k d (StoreArgument x)) = inl refl
  counter_kept (Link k d (ReadArgument x)) = inl refl
  counter_kept (ForPeer k AskActivation) = inl refl
  counter_kept (ForPeer k TakeFlags) = inl refl
  counter_kept (ForPeer k CloseArea) = inl refl
  counter_kept (ForPeer k ZeroMagic) = inl refl
  counter_kept (ForPeer k ClearOldBit) = inl refl
  counter_kept (ForPeer k (Prepare SessionWord)) = inl refl
  counter_kept (ForPeer k (Prepare EchoWord)) = inl refl
  counter_kept (ForPeer k (Prepare FlagWord)) = inl refl
  counter_kept (ForPeer k (Prepare (PlaceWord x))) = inl refl
  counter_kept (ForPeer k (Prepare (ArgsWord d g))) = inl refl
  counter_kept (ForPeer k (Prepare (CounterWord d g))) = stored k d g 0 (ForPeer k (Prepare (CounterWord d g))) (λ x. x)
  counter_kept (ForPeer k OpenArea) = inl refl
  counter_kept (ForPeer k SetEngagementBit) = inl refl
  counter_kept (ForPeer k ReadRecord) = inl refl
  counter_kept (ForPeer k StoreEcho) = inl refl
  counter_kept (ForPeer k StoreSecond) = inl refl
  counter_kept (ForPeer k ClearEngagementBit) = inl refl
  counter_kept (ForPeer k LookAtPage) = inl refl
  counter_kept (ForPeer k CheckBeat) = inl refl
  counter_kept (ForPeer k ClearDeactivationBit) = inl refl
  counter_kept (ForPeer k TellPartner) = inl refl
  counter_kept (Own ReadEngaged) = inl refl
  counter_kept (Own TakeDeactivation) = inl refl
  counter_kept (Own ReadStamp) = inl refl
  counter_kept (Own ZeroMask) = inl refl
  counter_kept (Own ZeroOffline) = inl refl
  counter_kept (Own WriteStamp) = inl refl
  counter_kept (Own StoreMask) = inl refl
  counter_kept (Own TakeActivation) = inl refl
  counter_kept (Own StoreBeat) = inl refl
  counter_kept (Own StoreOffline) = inl refl
