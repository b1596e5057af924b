-- Tests of the setting lines so far.
use Rattle.std.specs.Prelude.{ℕ, Bool, ◌||◌, nat_eq, nat_le, min, List, count_by}
use Rattle.std.specs.List.{list_any}
use Rattle.xp_script.specs.declared.limits.TheConstants.{RESTART_LIMIT}
use Rattle.xp_script.specs.declared.setting.Minor.{Minor}
use Rattle.xp_script.specs.declared.setting.Warm.{Warm}
use Rattle.xp_script.specs.declared.setting.Stop.{Stop}
use Rattle.xp_script.specs.declared.setting.Restart.{Restart}
use Rattle.xp_script.specs.Settings.{joins, minor_of}
use Rattle.xp_script.specs.Sizes.{longest_limit}
use Rattle.xp_script.specs.Lawful.{is_minor_of, is_stop_of, is_restart_of}

-- a line gives p its minor version
unfoldable pub has_minor : ℕ → List Minor → Bool
has_minor p minors = list_any (is_minor_of p) minors

-- a line joins p and q, in either order, on channel c
unfoldable pub has_warm : ℕ → ℕ → ℕ → List Warm → Bool
has_warm p q c warms = list_any (joins p q c) warms

abbrev pub is_end : ℕ → Warm → Bool
is_end p w = nat_eq w.first p || nat_eq w.second p

-- a line joins p to another partition
unfoldable pub has_end : ℕ → List Warm → Bool
has_end p warms = list_any (is_end p) warms

-- a line stops p
unfoldable pub has_stop : ℕ → List Stop → Bool
has_stop p stops = list_any (is_stop_of p) stops

-- as many lines restart p as may
unfoldable pub has_restarts : ℕ → List Restart → Bool
has_restarts p restarts = nat_le RESTART_LIMIT (count_by (is_restart_of p) restarts)

-- the longest payload that both partitions may allow on a channel between them
abbrev pub longest_between : ℕ → ℕ → List Minor → ℕ
longest_between p q minors = longest_limit (min (minor_of p minors) (minor_of q minors))
