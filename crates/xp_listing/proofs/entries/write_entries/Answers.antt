use Rattle.std.proofs.Common.{◌≡◌, ℕ, ◌++◌, ◌∙◌, ap, sym, string_bytes, true, List, [], nat_lt, arith}
use Rattle.std.proofs.lemmas.Bool.Decides.{nat_tests}
use Rattle.xp_base.specs.declared.layout.TheConstants.{LINES_VERSION, VERSION_AT}
use Rattle.xp_base.specs.Memory.{word_at}
use Rattle.xp_listing.specs.declared.entries.TheConstants.{AREA_ENTRIES}
use Rattle.xp_listing.specs.Listing.{each, entry_line}
use Rattle.xp_listing.proofs.Each.{next_line, all_lines, if_true}
use Rattle.xp_listing.proofs.entries.write_entries.Goals as goal

pub loop-i-preserved : goal.loop-i-preserved
loop-i-preserved c =
    next_line (entry_line c.args.words.now c.args.owner) c.loop-i.i AREA_ENTRIES
    (string_bytes c.loop-i.out)
    (string_bytes c.write_entry.new.out) _ c.loop-i-test.true c.loop-i.invariant
    c.in_ok-write_entry.ensures

pub returns : goal.returns
returns c =
    let version = c.at.ensures in
    let below = c.if-at-ge-LINES_VERSION.false in
    let old : nat_lt (word_at c.args.words.now c.args.owner VERSION_AT) LINES_VERSION ≡ true =
    grind (arith, nat_tests) in
    all_lines (entry_line c.args.words.now c.args.owner) c.loop-i.i AREA_ENTRIES
    (string_bytes c.loop-i.out) _ (omega arith) c.loop-i.invariant
    ∙ ap (λ (t : List ℕ). string_bytes c.args.out.now ++ t)
    (sym (if_true (nat_lt (word_at c.args.words.now c.args.owner VERSION_AT) LINES_VERSION)
    (each (entry_line c.args.words.now c.args.owner) 0 AREA_ENTRIES) [] old))
