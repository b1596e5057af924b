-- A step that is wanted is on a word of the layout, and one with a mark is a load.
use Rattle.std.proofs.Common.{◌≡◌, refl, Option, Some, None}
use Rattle.std.specs.Prelude.{IfSome}
use Rattle.xp_base.specs.declared.step.OpKind.{OpKind}
use Rattle.xp_base.specs.declared.step.OpKind.TheVariants.{Load}
use Rattle.xp_script.specs.declared.part.ScenarioPart.{ScenarioPart}
use Rattle.xp_protocol.specs.declared.rule.LinkRule.TheVariants as links
use Rattle.xp_protocol.specs.declared.rule.RingRule.TheVariants as rings
use Rattle.xp_protocol.specs.declared.rule.PullRule.TheVariants as pulls
use Rattle.xp_protocol.specs.declared.rule.PeerRule.TheVariants as peers
use Rattle.xp_protocol.specs.declared.rule.OwnRule.TheVariants as owns
use Rattle.xp_protocol.specs.declared.rule.Rule.{Rule}
use Rattle.xp_protocol.specs.declared.rule.Rule.TheVariants.{Link, Peer as ForPeer, Own}
use Rattle.xp_protocol.specs.Effects.{Copied, Row}
use Rattle.xp_protocol.specs.Parts.{IsLawfulPart}
use Rattle.xp_protocol.specs.State.{State}
use Rattle.xp_protocol.specs.Rules.{Can, row_of, mark_for, wanted_of}
use Rattle.xp_protocol.proofs.Undo.{index_low, within, owner_low}
use Rattle.xp_node.specs.Node.{IsStep}

-- a word that belongs to a copy is loaded
abbrev IsLoaded : Row → Type 0
IsLoaded x = IfSome x.copy (λ _. x.kind ≡ Load)

loads : (s : ScenarioPart) (st : State) (r : Rule) → IsLoaded (row_of s st r)
loads s st (Link q c (links.Ring rings.ReadGet)) = refl
loads s st (Link q c (links.Ring (rings.WriteEntryWord f))) = tt
loads s st (Link q c (links.Ring rings.AcceptMessage)) = tt
loads s st (Link q c (links.Pull pulls.ReadCounters)) = refl
loads s st (Link q c (links.Pull pulls.ReadEntry)) = refl
loads s st (Link q c links.Acknowledge) = tt
loads s st (Link q c (links.SetFlag k)) = tt
loads s st (Link q c links.ZeroGet) = tt
loads s st (Link q c links.ZeroPut) = tt
loads s st (Link q c (links.StoreArgument x)) = tt
loads s st (Link q c (links.ReadArgument x)) = refl
loads s st (ForPeer q peers.AskActivation) = tt
loads s st (ForPeer q peers.TakeFlags) = tt
loads s st (ForPeer q peers.CloseArea) = tt
loads s st (ForPeer q peers.ZeroMagic) = tt
loads s st (ForPeer q peers.ClearOldBit) = tt
loads s st (ForPeer q (peers.Prepare x)) = tt
loads s st (ForPeer q peers.OpenArea) = tt
loads s st (ForPeer q peers.SetEngagementBit) = tt
loads s st (ForPeer q peers.ReadRecord) = refl
loads s st (ForPeer q peers.StoreEcho) = tt
loads s st (ForPeer q peers.StoreSecond) = tt
loads s st (ForPeer q peers.ClearEngagementBit) = tt
loads s st (ForPeer q peers.LookAtPage) = refl
loads s st (ForPeer q peers.CheckBeat) = refl
loads s st (ForPeer q peers.ClearDeactivationBit) = tt
loads s st (ForPeer q peers.TellPartner) = tt
loads s st (Own owns.ReadEngaged) = tt
loads s st (Own owns.TakeDeactivation) = tt
loads s st (Own owns.ReadStamp) = tt
loads s st (Own owns.ZeroMask) = tt
loads s st (Own owns.ZeroOffline) = tt
loads s st (Own owns.WriteStamp) = tt
loads s st (Own owns.StoreMask) = tt
loads s st (Own owns.TakeActivation) = tt
loads s st (Own owns.StoreBeat) = tt
loads s st (Own owns.StoreOffline) = tt

marked : (st : State) (r : Rule) (copy : Option Copied) (kind : OpKind) → IfSome copy (λ _. kind ≡ Load) → IfSome (mark_for st r copy) (λ _. kind ≡ Load)
marked st r None kind h = tt
marked st r (Some x) kind h = h

pub wanted_step : (s : ScenarioPart) (st : State) (r : Rule) → IsLawfulPart s → Can s st r → IsStep s (wanted_of s st r)
wanted_step s st r lawful can = record {
  owner = owner_low s st r lawful can;
  index = index_low (row_of s st r).place (within s st r lawful can);
  load = marked st r (row_of s st r).copy (row_of s st r).kind (loads s st r);
}
