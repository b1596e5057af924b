use Rattle.std.proofs.Common.{◌≡◌, ◌++◌, ◌-◌, string_bytes}
use Rattle.xp_listing.specs.declared.entries.TheConstants.{AREA_ENTRIES}
use Rattle.xp_listing.specs.Listing.{each, entry_line}
use Rattle.xp_listing.proofs.entries.write_entries.Given as goal

abbrev pub invariant-loop-i : goal.invariant-loop-i
invariant-loop-i l = string_bytes l.out
    ++ each (entry_line l.words l.fn.owner) l.i (AREA_ENTRIES - l.i) ≡ string_bytes l.initial.out
    ++ each (entry_line l.words l.fn.owner) 0 AREA_ENTRIES
