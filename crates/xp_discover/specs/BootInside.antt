-- What a boot keeps, seen as what it has done.
use Rattle.std.specs.Prelude.{◌≡◌, ℕ, ◌≤◌, ◌<◌, Some}
use Rattle.xp_base.specs.declared.layout.TheConstants.{PARTS}
use Rattle.xp_discover.specs.declared.boot.Boot.TheInside.{Inside}
use Rattle.xp_discover.specs.Booting.{Starting, LAST_STAMP}

abbrev pub start_of : Inside → Starting
start_of x = record {
  own = x.own;
  count = x.count;
  boot = record { read = x.read; mask = x.mask; offline = x.offline };
  zeroed = x.zeroed;
  cleared = x.cleared;
  over = x.over;
}

pub record IsInRange (x : Inside) : Type 0 where
  pub count : x.count ≤ PARTS
  pub own : x.own < x.count
  pub zeroed : x.zeroed ≤ x.count
  pub cleared : x.cleared ≤ x.zeroed
  pub read : (w : ℕ) → x.read ≡ Some w → w < LAST_STAMP
