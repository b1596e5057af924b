-- What a partition is told of a scenario.
use Rattle.std.specs.Prelude.{ℕ, zero, suc, ◌+◌, Bool, ◌||◌, if◌then◌else◌, nat_eq, List, [], ◌∷◌, ◌++◌, filter, Option, Some, None}
use Rattle.std.specs.List.{list_any}
use Rattle.xp_base.specs.declared.layout.TheConstants.{CHANNELS}
use Rattle.xp_script.specs.declared.setting.Minor.{Minor}
use Rattle.xp_script.specs.declared.setting.Warm.{Warm}
use Rattle.xp_script.specs.declared.setting.Fault.{Fault}
use Rattle.xp_script.specs.declared.setting.Moment.{Moment}
use Rattle.xp_script.specs.declared.setting.Stop.{Stop}
use Rattle.xp_script.specs.declared.setting.Restart.{Restart}
use Rattle.xp_script.specs.declared.part.Link.{Link}
use Rattle.xp_script.specs.declared.part.ScenarioPart.{ScenarioPart}
use Rattle.xp_script.specs.declared.scenario.Scenario.{Scenario}
use Rattle.xp_script.specs.Settings.{joins}
use Rattle.xp_script.specs.Lawful.{is_stop_of, is_restart_of, boots_of}

-- a line as its end p sees it, whose other end is q
abbrev pub link_to : ℕ → ℕ → Warm → Link
link_to q c w = record { partner = q; channel = c; entries = w.entries; limit = w.limit }

-- the first line that joins p and q on channel c
abbrev pub link_in : ℕ → ℕ → ℕ → List Warm → List Link
link_in p q c [] = []
link_in p q c (w ∷ ws) = if joins p q c w then link_to q c w ∷ [] else link_in p q c ws

-- the links of p to partner q, on channel c and the n - 1 channels after it
abbrev pub links_to : ℕ → ℕ → ℕ → ℕ → List Warm → List Link
links_to p q c zero ws = []
links_to p q c (suc n) ws = link_in p q c ws ++ links_to p q (c + 1) n ws

-- the links of p to partner q and the n - 1 partners after it
unfoldable pub links_from : ℕ → ℕ → ℕ → List Warm → List Link
links_from p q zero ws = []
links_from p q (suc n) ws = links_to p q 0 CHANNELS ws ++ links_from p (q + 1) n ws

-- the links of p, by partner and channel
abbrev pub links_of : Scenario → ℕ → List Link
links_of s p = links_from p 0 s.count s.warms

-- the link is to partner q
abbrev pub is_link_to : ℕ → Link → Bool
is_link_to q l = nat_eq l.partner q

-- the line says the minor version of p, or of a partner of its links
abbrev pub is_minor_for : ℕ → List Link → Minor → Bool
is_minor_for p links m = nat_eq m.part p || list_any (is_link_to m.part) links

-- the fault is one of p
abbrev pub is_fault_of : ℕ → Fault → Bool
is_fault_of p f = nat_eq f.part p

-- when p stops: the first line that names it says so
abbrev pub stop_of : ℕ → List Stop → Option Moment
stop_of p [] = None
stop_of p (x ∷ xs) = if is_stop_of p x then Some x.moment else stop_of p xs

-- when p restarts
abbrev pub restarts_of : ℕ → List Restart → List Moment
restarts_of p [] = []
restarts_of p (x ∷ xs) = if is_restart_of p x then x.moment ∷ restarts_of p xs else restarts_of p xs

-- p's part of the scenario
abbrev pub part_of : Scenario → ℕ → ScenarioPart
part_of s p = record {
  part = p;
  count = s.count;
  budget = s.budget;
  check = s.check;
  minors = filter (is_minor_for p (links_of s p)) s.minors;
  links = links_of s p;
  faults = filter (is_fault_of p) s.faults;
  stop = stop_of p s.stops;
  restarts = restarts_of p s.restarts;
  scripts = boots_of s p;
}
