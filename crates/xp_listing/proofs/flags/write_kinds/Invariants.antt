use Rattle.std.proofs.Common.{◌≡◌, ◌++◌, drop, string_bytes}
use Rattle.xp_listing.specs.Listing.{kind_names}
use Rattle.xp_listing.proofs.flags.write_kinds.Given as goal

abbrev pub invariant-loop-kind : goal.invariant-loop-kind
invariant-loop-kind l = string_bytes l.out
    ++ kind_names l.fn.flags (drop l.kind-index l.kind-items) ≡ string_bytes l.initial.out
    ++ kind_names l.fn.flags l.kind-items
