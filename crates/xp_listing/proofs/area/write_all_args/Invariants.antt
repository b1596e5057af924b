use Rattle.std.proofs.Common.{◌≡◌, ◌++◌, ◌-◌, string_bytes}
use Rattle.xp_listing.specs.declared.area.TheConstants.{AREA_CHANNELS}
use Rattle.xp_listing.specs.Listing.{each, args_line}
use Rattle.xp_listing.proofs.area.write_all_args.Given as goal

abbrev pub invariant-loop-i : goal.invariant-loop-i
invariant-loop-i l = string_bytes l.out
    ++ each (args_line l.words l.fn.owner) l.i (AREA_CHANNELS - l.i) ≡ string_bytes l.initial.out
    ++ each (args_line l.words l.fn.owner) 0 AREA_CHANNELS
