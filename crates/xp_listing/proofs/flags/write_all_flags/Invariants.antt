use Rattle.std.proofs.Common.{◌≡◌, ◌++◌, ◌-◌, string_bytes}
use Rattle.xp_listing.specs.declared.area.TheConstants.{AREA_CHANNELS}
use Rattle.xp_listing.specs.Listing.{each, flags_line}
use Rattle.xp_listing.proofs.flags.write_all_flags.Given as goal

abbrev pub invariant-loop-i : goal.invariant-loop-i
invariant-loop-i l = string_bytes l.out
    ++ each (flags_line l.words l.fn.owner) l.i (AREA_CHANNELS - l.i) ≡ string_bytes l.initial.out
    ++ each (flags_line l.words l.fn.owner) 0 AREA_CHANNELS
