-- The numbers that wait for a notice lie below put.
use Rattle.std.proofs.Common.{◌≡◌, ℕ, ◌+◌, ◌<◌, ◌≤◌, Bool, true, false, List, [], ◌∷◌, ◌++◌, arith}
use Rattle.std.specs.Prelude.{if◌then◌else◌}
use Rattle.xp_ack.specs.Ack.{AllBelow, numbers_left}
use Rattle.xp_protocol.specs.declared.rule.RingRule.{RingRule}
use Rattle.xp_protocol.specs.declared.rule.RingRule.TheVariants.{ReadGet, WriteEntryWord, AcceptMessage}
use Rattle.std.specs.Prelude.{Option, Some, None}
use Rattle.xp_base.specs.declared.answer.SendAnswer.TheVariants.{NoSlot}
use Rattle.xp_base.specs.declared.reason.Reason.TheVariants.{BadCounters}
use Rattle.xp_protocol.specs.Effects.{Effect, SendNote, Sent}
use Rattle.xp_protocol.specs.Sending.{Sending, ring_effect, is_bad_get, is_full, send_over, with_remote_get}

pub below_more : (a b : ℕ) (xs : List ℕ) → a ≤ b → AllBelow a xs → AllBelow b xs
below_more a b [] h k = tt
below_more a b (x ∷ xs) h k = let l = k.0 in (omega (arith, h, l), below_more a b xs h k.1)

pub below_append : (b : ℕ) (xs : List ℕ) (x : ℕ) → AllBelow b xs → x < b → AllBelow b (xs ++ x ∷ [])
below_append b [] x k h = (h, tt)
below_append b (y ∷ xs) x k h = (k.0, below_append b xs x k.1 h)

pub below_ring : (x : Sending) (m : RingRule) (w : ℕ) (xs : List ℕ) → AllBelow x.put xs → AllBelow (ring_effect x m w).local.put xs
below_ring x ReadGet w xs k = by (is_bad_get x w) (is_full x w) where
  by : (b c : Bool) → let f : Effect Sending (List SendNote) = if b then record { local = x; reason = Some (BadCounters w x.put); notes = [] } else (if c then record { local = send_over (with_remote_get w x); reason = None; notes = Sent (NoSlot x.put w) ∷ [] } else record { local = with_remote_get w x; reason = None; notes = [] }) in AllBelow f.local.put xs
  by true c = k
  by false true = k
  by false false = k
below_ring x (WriteEntryWord f) w xs k = k
below_ring x AcceptMessage w xs k = below_more x.put (x.put + 1) xs (omega arith) k

pub below_left : (b : ℕ) (o : Option ℕ) (xs : List ℕ) → AllBelow b xs → AllBelow b (numbers_left o xs)
below_left b None xs k = k
below_left b (Some n) [] k = tt
below_left b (Some n) (x ∷ xs) k = k.1
