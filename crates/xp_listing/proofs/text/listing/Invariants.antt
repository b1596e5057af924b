use Rattle.std.proofs.Common.{◌≡◌, ◌++◌, ◌-◌, length, string_bytes}
use Rattle.xp_listing.specs.Listing.{each, part_text}
use Rattle.xp_listing.proofs.text.listing.Given as goal

abbrev pub invariant-loop-owner : goal.invariant-loop-owner
invariant-loop-owner l = string_bytes l.out
    ++ each (part_text l.words) l.owner (length l.words - l.owner) ≡ string_bytes l.initial.out
    ++ each (part_text l.words) 0 (length l.words)
