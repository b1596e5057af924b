-- What a partition has done of a boot, and what it does next: it reads its stamp, clears its own
-- words, then for each partner its magic and its engagement bit, and stores its new stamp.
use Rattle.std.specs.Prelude.{◌≡◌, ℕ, ◌+◌, ◌<◌, Bool, true, false, is_some, if◌then◌else◌, nat_eq, nat_le, nat_lt, [], length, Option, Some, None}
use Rattle.xp_base.specs.declared.step.Wanted.{Wanted}
use Rattle.xp_protocol.specs.declared.rule.Rule.{Rule}
use Rattle.xp_protocol.specs.declared.rule.Rule.TheVariants as rules
use Rattle.xp_protocol.specs.declared.rule.PeerRule.TheVariants as peers
use Rattle.xp_protocol.specs.declared.rule.OwnRule.TheVariants as own
use Rattle.xp_protocol.specs.Effects.{Row}
use Rattle.xp_protocol.specs.Wanting.{wanted_at}
use Rattle.xp_protocol.specs.State.{State, Boot, Booting, masked_beats, no_boot, peer_of, cold_peer, Old}
use Rattle.xp_protocol.specs.Peering.{Mine, peer_row, own_row, or_zero}
use Rattle.xp_script.specs.declared.part.ScenarioPart.{ScenarioPart}
use Rattle.xp_discover.specs.declared.boot.BootAnswer.{BootAnswer}
use Rattle.xp_discover.specs.declared.boot.BootAnswer.TheVariants.{Booted, Halted}
use Rattle.xp_discover.specs.declared.boot.BootStep.{BootStep}
use Rattle.xp_discover.specs.declared.boot.BootStep.TheVariants.{ReadStamp, ZeroMask, ZeroOffline, ZeroMagic, ClearOldBit, WriteStamp}

-- the own magic was stored as 0 for all partners below `zeroed`, and the own bit was cleared at all
-- below `cleared`
pub record Starting : Type 0 where
  pub own : ℕ
  pub count : ℕ
  pub boot : Boot
  pub zeroed : ℕ
  pub cleared : ℕ
  pub over : Bool

abbrev pub first_start : ℕ → ℕ → Starting
first_start own count = record {
  own = own;
  count = count;
  boot = no_boot;
  zeroed = 0;
  cleared = 0;
  over = false;
}

-- the first partner from this number on
abbrev pub partner_from : ℕ → ℕ → ℕ
partner_from own q = if nat_eq q own then q + 1 else q

-- what comes next
abbrev pub partner_step : Starting → BootStep
partner_step x =
    if nat_lt (partner_from x.own x.cleared) x.count
    then (if nat_le x.zeroed (partner_from x.own x.cleared)
    then ZeroMagic (partner_from x.own x.cleared) else ClearOldBit (partner_from x.own x.cleared))
    else WriteStamp

abbrev pub boot_step : Starting → Option BootStep
boot_step x =
    if x.over then None
    else (if is_some x.boot.read
    then (if x.boot.mask then (if x.boot.offline then Some (partner_step x)
    else Some ZeroOffline) else Some ZeroMask)
    else Some ReadStamp)

-- the rule of the protocol that a step follows
abbrev pub rule_for : BootStep → Rule
rule_for ReadStamp = rules.Own own.ReadStamp
rule_for ZeroMask = rules.Own own.ZeroMask
rule_for ZeroOffline = rules.Own own.ZeroOffline
rule_for (ZeroMagic q) = rules.Peer q peers.ZeroMagic
rule_for (ClearOldBit q) = rules.Peer q peers.ClearOldBit
rule_for WriteStamp = rules.Own own.WriteStamp

-- of the partition as a whole, the rules of a boot read no more than the boot
abbrev pub booting : Boot → Mine
booting boot = record { boot = boot; beats = masked_beats 0; begun = 0; offline = None }

-- a step as the rule has it
abbrev pub own_wanted : ℕ → Row → Wanted
own_wanted own x = wanted_at own own x

abbrev pub step_wanted : Starting → BootStep → Wanted
step_wanted x ReadStamp = own_wanted x.own (own_row (booting x.boot) [] own.ReadStamp)
step_wanted x ZeroMask = own_wanted x.own (own_row (booting x.boot) [] own.ZeroMask)
step_wanted x ZeroOffline = own_wanted x.own (own_row (booting x.boot) [] own.ZeroOffline)
step_wanted x (ZeroMagic q) = wanted_at x.own q (peer_row x.own 0 q (cold_peer Old) peers.ZeroMagic)
step_wanted x (ClearOldBit q) =
    wanted_at x.own q (peer_row x.own 0 q (cold_peer Old) peers.ClearOldBit)
step_wanted x WriteStamp = own_wanted x.own (own_row (booting x.boot) [] own.WriteStamp)

abbrev pub wanted_for : Starting → Option BootStep → Option Wanted
wanted_for x None = None
wanted_for x (Some m) = Some (step_wanted x m)

-- a stamp that can't be raised halts the partition
abbrev pub LAST_STAMP : ℕ
LAST_STAMP = 4294967295

abbrev pub stamp_read : ℕ → Starting → Starting
stamp_read w x =
    if nat_lt w LAST_STAMP then record x { boot = record x.boot { read = Some w } }
    else record x { over = true }

-- what becomes of the boot when a step has answered
abbrev pub booted_on : Starting → BootStep → ℕ → Starting
booted_on x ReadStamp w = stamp_read w x
booted_on x ZeroMask w = record x { boot = record x.boot { mask = true } }
booted_on x ZeroOffline w = record x { boot = record x.boot { offline = true } }
booted_on x (ZeroMagic q) w = record x { zeroed = q + 1 }
booted_on x (ClearOldBit q) w = record x { cleared = q + 1 }
booted_on x WriteStamp w = record x { over = true }

abbrev pub boot_after : Starting → Option BootStep → ℕ → Starting
boot_after x None w = x
boot_after x (Some m) w = booted_on x m w

-- the answer of a boot
abbrev pub step_answer : Starting → BootStep → ℕ → Option BootAnswer
step_answer x ReadStamp w = if nat_lt w LAST_STAMP then None else Some (Halted w)
step_answer x WriteStamp w = Some (Booted (or_zero x.boot.read + 1))
step_answer x m w = None

abbrev pub boot_answer : Starting → Option BootStep → ℕ → Option BootAnswer
boot_answer x None w = None
boot_answer x (Some m) w = step_answer x m w

-- a partition that is in this boot
pub record IsBootOf (x : Starting) (s : ScenarioPart) (st : State) : Type 0 where
  pub part : s.part ≡ x.own
  pub count : s.count ≡ x.count
  pub partners : length st.peers ≡ x.count
  pub life : st.life ≡ Booting
  pub boot : st.boot ≡ x.boot
  pub zeroed : (q : ℕ) → q < x.zeroed → (q ≡ x.own → ⊥) → (peer_of st q).engage.zeroed ≡ true
  pub cleared : (q : ℕ) → q < x.cleared → (q ≡ x.own → ⊥) → (peer_of st q).engage.cleared ≡ true
