use Rattle.std.proofs.Common.{◌≡◌, ◌++◌, ◌-◌, string_bytes}
use Rattle.xp_base.specs.declared.layout.TheConstants.{PARTS}
use Rattle.xp_listing.specs.Listing.{each, record_line}
use Rattle.xp_listing.proofs.area.write_records.Given as goal

abbrev pub invariant-loop-partner : goal.invariant-loop-partner
invariant-loop-partner l = string_bytes l.out
    ++ each (record_line l.words l.fn.owner) l.partner
    (PARTS - l.partner) ≡ string_bytes l.initial.out
    ++ each (record_line l.words l.fn.owner) 0 PARTS
