-- What the answer of a step leaves, whatever the rule.
use Rattle.std.proofs.Common.{◌≡◌, ℕ, ◌<◌, length, refl, ap, sym, ◌∙◌, subst, arith, Option, None}
use Rattle.xp_base.specs.declared.layout.TheConstants.{PARTS}
use Rattle.xp_base.specs.declared.step.Answer.{Answer}
use Rattle.xp_base.specs.declared.step.Answer.TheVariants.{Word, Failed}
use Rattle.xp_base.specs.declared.step.CopyMark.{CopyMark}
use Rattle.xp_script.specs.declared.part.ScenarioPart.{ScenarioPart}
use Rattle.xp_protocol.specs.declared.rule.PeerRule.{PeerRule}
use Rattle.xp_protocol.specs.declared.rule.OwnRule.{OwnRule}
use Rattle.xp_protocol.specs.declared.rule.OwnRule.TheVariants as owns
use Rattle.xp_protocol.specs.declared.rule.Rule.{Rule}
use Rattle.xp_protocol.specs.declared.rule.Rule.TheVariants.{Peer as ForPeer, Own}
use Rattle.xp_protocol.specs.Rules.{mark_of}
use Rattle.xp_discover.specs.declared.boot.BootStep.{BootStep}
use Rattle.xp_discover.specs.declared.boot.BootStep.TheVariants as steps
use Rattle.xp_discover.specs.Booting.{rule_for}
use Rattle.xp_channel.specs.Planned.{MayFail}
use Rattle.xp_partner.specs.Room.{HaveTurnRoom}
use Rattle.xp_partition.specs.declared.keeping.Keeping.{Keeping}
use Rattle.xp_partition.specs.declared.life.Life.TheVariants as lives
use Rattle.xp_partition.specs.Partners.{AreRoomy}
use Rattle.xp_partition.specs.Keeping.{state_of, IsKept}
use Rattle.xp_steps.specs.Stepping.{CanStep, IsStepped}
use Rattle.xp_steps.proofs.Allowed.{few, link_known, link_channel, peer_known, not_halted}
use Rattle.xp_steps.proofs.Wants.{Next, next_of}

-- partners that weren't touched keep their room
pub roomy_after : (x : Keeping) (rule : Rule) (a : Answer) (y : Keeping) → IsKept x → IsStepped x rule a y → AreRoomy x.partners → AreRoomy y.partners
roomy_after x rule a y k h r = λ q l f.
    let same : length y.partners.list ≡ length x.partners.list = h.kept.count ∙ ap (λ (s : ScenarioPart). s.count) h.part ∙ sym k.count in
    let i : q < length x.partners.list = subst (λ (n : ℕ). q < n) same l in
    let low : q < PARTS = let m = few x k in omega (arith, i, m) in
    subst HaveTurnRoom (sym (h.untouched.same q low f)) (r q i (h.untouched.still q low f))

pub kept_before : (x : Keeping) (rule : Rule) → CanStep x rule → IsKept x
kept_before x rule h = h.kept

pub ruleset stepped = (roomy_after, kept_before)

-- a step that answers a word
pub by_word : (x y : Keeping) (rule : Rule) (a : Answer) (w : ℕ) → a ≡ Word w → IsStepped x rule (Word w) y → IsStepped x rule a y
by_word x y rule a w e h = subst (λ (b : Answer). IsStepped x rule b y) (sym e) h

none_fails : (a : Answer) → MayFail None a → a ≡ Failed → ⊥
none_fails (Word w) h e = cc
none_fails Failed h e = cc

own_unmarked : (x : Keeping) (m : OwnRule) → mark_of x.part (state_of x) (Own m) ≡ None
own_unmarked x owns.ReadEngaged = refl
own_unmarked x owns.TakeDeactivation = refl
own_unmarked x owns.ReadStamp = refl
own_unmarked x owns.ZeroMask = refl
own_unmarked x owns.ZeroOffline = refl
own_unmarked x owns.WriteStamp = refl
own_unmarked x owns.StoreMask = refl
own_unmarked x owns.TakeActivation = refl
own_unmarked x owns.StoreBeat = refl
own_unmarked x owns.StoreOffline = refl

pub own_answers : (x : Keeping) (m : OwnRule) (mark : Option CopyMark) (a : Answer) → mark ≡ mark_of x.part (state_of x) (Own m) → MayFail mark a → a ≡ Failed → ⊥
own_answers x m mark a e h = none_fails a (subst (λ (o : Option CopyMark). MayFail o a) (e ∙ own_unmarked x m) h)

boot_unmarked : (x : Keeping) (q : ℕ) (m : PeerRule) → CanStep x (ForPeer q m) → x.life ≡ lives.Booting → mark_of x.part (state_of x) (ForPeer q m) ≡ None
boot_unmarked x q m h l = by n.step n.ruled where
  n : Next x (ForPeer q m)
  n = next_of x (ForPeer q m) h l

  by : (p : BootStep) → rule_for p ≡ ForPeer q m → mark_of x.part (state_of x) (ForPeer q m) ≡ None
  by steps.ReadStamp g = absurd (cc)
  by steps.ZeroMask g = absurd (cc)
  by steps.ZeroOffline g = absurd (cc)
  by (steps.ZeroMagic r) g = ap (λ (rule : Rule). mark_of x.part (state_of x) rule) (sym g)
  by (steps.ClearOldBit r) g = ap (λ (rule : Rule). mark_of x.part (state_of x) rule) (sym g)
  by steps.WriteStamp g = absurd (cc)

pub boot_answers : (x : Keeping) (q : ℕ) (m : PeerRule) (mark : Option CopyMark) (a : Answer) → CanStep x (ForPeer q m) → x.life ≡ lives.Booting → mark ≡ mark_of x.part (state_of x) (ForPeer q m) → MayFail mark a → a ≡ Failed → ⊥
boot_answers x q m mark a h l e f = none_fails a (subst (λ (o : Option CopyMark). MayFail o a) (e ∙ boot_unmarked x q m h l) f)

pub ruleset following = (link_known, link_channel, peer_known, not_halted, by_word, own_answers, boot_answers)
