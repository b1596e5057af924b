-- The numbers of a scenario that depend on others: its default budget, and the size that a queue
-- may have.
use Rattle.std.specs.Prelude.{ℕ, ◌*◌, ◌/◌, ◌≤◌, nat_lt, if◌then◌else◌}
use Rattle.xp_base.specs.declared.layout.TheConstants.{PARTS, LINES, FIRST_MINOR}
use Rattle.xp_base.specs.declared.body.TheConstants.{BODY_BYTES, LINE_BYTES}
use Rattle.xp_base.specs.Entries.{lines}
use Rattle.xp_script.specs.declared.limits.TheConstants.{FEWEST_PARTS, DEFAULT_BUDGET, DEFAULT_BUDGET_PARTS, TURN_LIMIT}

-- a scenario may have so many partitions
pub record IsCount (count : ℕ) : Type 0 where
  pub low : FEWEST_PARTS ≤ count
  pub high : count ≤ PARTS

-- the budget of a scenario that sets none: many partitions share the turns that there may be
abbrev pub default_budget : ℕ → ℕ
default_budget count =
    if nat_lt DEFAULT_BUDGET_PARTS count then TURN_LIMIT / count else DEFAULT_BUDGET

-- the longest payload that a partition of a minor version may allow: what an entry of one line
-- holds, or any body
abbrev pub longest_limit : ℕ → ℕ
longest_limit minor = if nat_lt FIRST_MINOR minor then BODY_BYTES else LINE_BYTES

-- a queue may hold so many entries for payloads to this limit, where `longest` is the longest
pub record IsSize (longest entries limit : ℕ) : Type 0 where
  pub some : 1 ≤ entries
  pub few : entries ≤ LINES
  pub short : limit ≤ longest
  pub room : entries * lines limit ≤ LINES
