use Rattle.std.proofs.Common.{ℕ, ◌++◌, ◌∙◌, ap, string_bytes, arith}
use Rattle.xp_base.specs.declared.layout.TheConstants.{PARTS}
use Rattle.xp_listing.specs.Listing.{record_line}
use Rattle.xp_listing.proofs.Each.{next_line, all_lines}
use Rattle.xp_listing.proofs.area.write_records.Goals as goal

pub loop-partner-preserved : goal.loop-partner-preserved
loop-partner-preserved c =
    next_line (record_line c.args.words.now c.args.owner) c.loop-partner.partner PARTS
    (string_bytes c.loop-partner.out)
    (string_bytes c.write_record.new.out) _ c.loop-partner-test.true c.loop-partner.invariant
    (c.in_ok-write_record.ensures
    ∙ ap (λ (q : ℕ). string_bytes c.loop-partner.out
    ++ record_line c.args.words.now c.args.owner q) c.known.ensures)

pub returns : goal.returns
returns c = all_lines (record_line c.args.words.now c.args.owner) c.loop-partner.partner PARTS
    (string_bytes c.loop-partner.out) _ (omega arith) c.loop-partner.invariant
