-- The version word of each partition stands: no rule stores there.
use Rattle.std.proofs.Common.{◌≡◌, ℕ, ◌<◌, List, refl, ◌∙◌, arith}
use Rattle.xp_base.specs.declared.layout.TheConstants.{VERSION_AT}
use Rattle.xp_base.specs.Memory.{Memory}
use Rattle.xp_base.specs.History.{Event}
use Rattle.xp_base.specs.Places.{Open}
use Rattle.xp_protocol.specs.declared.rule.AreaWord.TheVariants.{SessionWord, EchoWord, PlaceWord, ArgsWord, FlagWord, CounterWord}
use Rattle.xp_protocol.specs.declared.rule.RingRule.TheVariants.{ReadGet, WriteEntryWord, AcceptMessage}
use Rattle.xp_protocol.specs.declared.rule.PullRule.TheVariants.{ReadCounters, ReadEntry}
use Rattle.xp_protocol.specs.declared.rule.LinkRule.TheVariants.{Ring, Pull, Acknowledge, SetFlag, ZeroGet, ZeroPut, StoreArgument, ReadArgument}
use Rattle.xp_protocol.specs.declared.rule.PeerRule.TheVariants.{AskActivation, TakeFlags, CloseArea, ZeroMagic, ClearOldBit, Prepare, OpenArea, SetEngagementBit, ReadRecord, StoreEcho, StoreSecond, ClearEngagementBit, LookAtPage, CheckBeat, ClearDeactivationBit, TellPartner}
use Rattle.xp_protocol.specs.declared.rule.OwnRule.TheVariants.{ReadEngaged, TakeDeactivation, ReadStamp, ZeroMask, ZeroOffline, WriteStamp, StoreMask, TakeActivation, StoreBeat, StoreOffline}
use Rattle.xp_protocol.specs.declared.rule.Rule.{Rule}
use Rattle.xp_protocol.specs.declared.rule.Rule.TheVariants.{Link, Peer as ForPeer, Own}
use Rattle.xp_script.specs.declared.part.ScenarioPart.{ScenarioPart}
use Rattle.xp_script.specs.declared.scenario.Scenario.{Scenario}
use Rattle.xp_script.specs.Lawful.{IsLawful}
use Rattle.xp_script.specs.Opening.{version_word}
use Rattle.xp_script.specs.Parts.{part_of}
use Rattle.xp_script.specs.Settings.{minor_of}
use Rattle.xp_protocol.specs.Promised.{VersionsStand}
use Rattle.xp_protocol.specs.Reached.{ReachedWords}
use Rattle.xp_protocol.specs.State.{State}
use Rattle.xp_meetings.proofs.Always.{does_rule}
use Rattle.xp_meetings.proofs.Opening.{opening_version}
use Rattle.xp_meetings.proofs.Parts.{Part}
use Rattle.xp_meetings.proofs.Words.{Words}
use Rattle.xp_promises.proofs.Before.{whole}

pub version_kept : (su : ScenarioPart) (st : State) (r : Rule) (w : Words) (q : ℕ) → does_rule su st r w q (Open VERSION_AT) ≡ w q (Open VERSION_AT)
version_kept su st (Link k c (Ring ReadGet)) w q = refl
version_kept su st (Link k c (Ring (WriteEntryWord f))) w q = refl
version_kept su st (Link k c (Ring AcceptMessage)) w q = refl
version_kept su st (Link k c (Pull ReadCounters)) w q = refl
version_kept su st (Link k c (Pull ReadEntry)) w q = refl
version_kept su st (Link k c Acknowledge) w q = refl
version_kept su st (Link k c (SetFlag j)) w q = refl
version_kept su st (Link k c ZeroGet) w q = refl
version_kept su st (Link k c ZeroPut) w q = refl
version_kept su st (Link k c (StoreArgument x)) w q = refl
version_kept su st (Link k c (ReadArgument x)) w q = refl
version_kept su st (ForPeer k AskActivation) w q = refl
version_kept su st (ForPeer k TakeFlags) w q = refl
version_kept su st (ForPeer k CloseArea) w q = refl
version_kept su st (ForPeer k ZeroMagic) w q = refl
version_kept su st (ForPeer k ClearOldBit) w q = refl
version_kept su st (ForPeer k (Prepare SessionWord)) w q = refl
version_kept su st (ForPeer k (Prepare EchoWord)) w q = refl
version_kept su st (ForPeer k (Prepare (PlaceWord x))) w q = refl
version_kept su st (ForPeer k (Prepare (ArgsWord c f))) w q = refl
version_kept su st (ForPeer k (Prepare FlagWord)) w q = refl
version_kept su st (ForPeer k (Prepare (CounterWord c f))) w q = refl
version_kept su st (ForPeer k OpenArea) w q = refl
version_kept su st (ForPeer k SetEngagementBit) w q = refl
version_kept su st (ForPeer k ReadRecord) w q = refl
version_kept su st (ForPeer k StoreEcho) w q = refl
version_kept su st (ForPeer k StoreSecond) w q = refl
version_kept su st (ForPeer k ClearEngagementBit) w q = refl
version_kept su st (ForPeer k LookAtPage) w q = refl
version_kept su st (ForPeer k CheckBeat) w q = refl
version_kept su st (ForPeer k ClearDeactivationBit) w q = refl
version_kept su st (ForPeer k TellPartner) w q = refl
version_kept su st (Own ReadEngaged) w q = refl
version_kept su st (Own TakeDeactivation) w q = refl
version_kept su st (Own ReadStamp) w q = refl
version_kept su st (Own ZeroMask) w q = refl
version_kept su st (Own ZeroOffline) w q = refl
version_kept su st (Own WriteStamp) w q = refl
version_kept su st (Own StoreMask) w q = refl
version_kept su st (Own TakeActivation) w q = refl
version_kept su st (Own StoreBeat) w q = refl
version_kept su st (Own StoreOffline) w q = refl

module _ (s : Scenario) (law : IsLawful s) where
  Stand : Words → (ℕ → Part) → Type 0
  Stand w σ = (p : ℕ) → p < s.count → w p (Open VERSION_AT) ≡ version_word (minor_of p s.minors)

  stand : (h : List Event) (m : Memory) → ReachedWords s h m → VersionsStand s m
  unfolding Stand
  stand h m r =
      let k =
      whole s law Stand
      (λ w σ a x la i may. i)
      (λ w σ a x la i can p l. version_kept (part_of s a) (σ a).state x w p ∙ i p l)
      (λ w σ a x la i can. i)
      (λ w σ a earlier turns la i. i)
      (λ p l. opening_version s p l) h m r in
      λ p l. k.1.words p (Open VERSION_AT) l (omega arith) ∙ k.2 p l

pub versions_kept : (s : Scenario) → IsLawful s → (h : List Event) (m : Memory) → ReachedWords s h m → VersionsStand s m
versions_kept s law h m r = stand s law h m r
