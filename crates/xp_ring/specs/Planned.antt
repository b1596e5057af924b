-- The step of a send in progress that comes next, as a rule and as it is wanted.
use Rattle.std.specs.Prelude.{ℕ, ◌-◌, ◌^◌, if◌then◌else◌, nat_lt, nat_le, Option, Some, None}
use Rattle.std.specs.Int.{trailing_ones, w128}
use Rattle.xp_base.specs.declared.step.Wanted.{Wanted}
use Rattle.xp_protocol.specs.declared.rule.RingRule.{RingRule}
use Rattle.xp_protocol.specs.declared.rule.RingRule.TheVariants.{ReadGet, WriteEntryWord, AcceptMessage}
use Rattle.xp_protocol.specs.Sending.{Sending, Send, words_each, ring_row}
use Rattle.xp_protocol.specs.Wanting.{wanted_at}

-- a send in progress loads the partner's get while the queue looks full by the get that was loaded
-- last, then stores the words of its entry, and then put
abbrev pub next_step : Sending → RingRule
next_step x =
    if nat_le x.entries (x.put - x.remote_get) then ReadGet
    else (if nat_lt x.written_words (2 ^ words_each x - 1)
    then WriteEntryWord (trailing_ones w128 x.written_words) else AcceptMessage)

abbrev pub plan_of : Option Send → Sending → Option RingRule
plan_of None x = None
plan_of (Some s) x = Some (next_step x)

abbrev pub send_plan : Sending → Option RingRule
send_plan x = plan_of x.send x

-- a rule's step, its copy being without a number
abbrev pub wanted_for : ℕ → ℕ → ℕ → Sending → Option RingRule → Option Wanted
wanted_for own partner channel x None = None
wanted_for own partner channel x (Some m) =
    Some (wanted_at own partner (ring_row own partner channel x m))
