-- Which step for the partner comes next, by the plan of a partition's turns: it is left where there
-- is a reason, else the own memory for it is prepared, the own bit set, the partner
-- answered, and its record read.
use Rattle.std.specs.Prelude.{ℕ, ◌+◌, Bool, ◌&&◌, Option, Some, None, nat_eq, nat_le}
use Rattle.xp_base.specs.declared.step.Wanted.{Wanted}
use Rattle.xp_protocol.specs.declared.rule.PeerRule.{PeerRule}
use Rattle.xp_protocol.specs.declared.rule.Rule.{Rule}
use Rattle.xp_protocol.specs.declared.rule.Rule.TheVariants.{Peer, Own, Link}
use Rattle.xp_plan.specs.EndSteps.{or_else}
use Rattle.xp_plan.specs.PeerSteps.{prepare_at, engage_at, answer_at, record_at, leave_at}
use Rattle.xp_engage.specs.Partner.{Partner, alone, alone_by, here, step_wanted}

-- a step for the partner; the mask is stored by the partition
abbrev pub for_partner : Option Rule → Option PeerRule
for_partner None = None
for_partner (Some (Peer q m)) = Some m
for_partner (Some (Own m)) = None
for_partner (Some (Link q c m)) = None

-- a check of the partner's heartbeat is begun by the first step of an errand, where it is due
abbrev pub check_begins : ℕ → ℕ → Partner → Bool
check_begins used turn x = nat_eq used 0 && nat_le (x.watch.since + x.check) turn

-- the step for the partner that comes next in a turn. `copying` says whether another copy of the
-- partner's words goes on than that of its record
abbrev pub partner_next : ℕ → Bool → Partner → Option PeerRule
partner_next turn copying x =
    or_else (leave_at (alone_by copying x))
    (or_else (for_partner (prepare_at x.masked x.partner (alone x)))
    (or_else (engage_at (here turn x) (alone x))
    (or_else (answer_at (alone_by copying x)) (record_at 0 (alone x)))))

abbrev pub wanted_for : Partner → Option PeerRule → Option Wanted
wanted_for x None = None
wanted_for x (Some m) = Some (step_wanted x m)
