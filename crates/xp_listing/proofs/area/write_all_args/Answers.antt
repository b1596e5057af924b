use Rattle.std.proofs.Common.{string_bytes, arith}
use Rattle.xp_listing.specs.declared.area.TheConstants.{AREA_CHANNELS}
use Rattle.xp_listing.specs.Listing.{args_line}
use Rattle.xp_listing.proofs.Each.{next_line, all_lines}
use Rattle.xp_listing.proofs.area.write_all_args.Goals as goal

pub loop-i-preserved : goal.loop-i-preserved
loop-i-preserved c =
    next_line (args_line c.args.words.now c.args.owner) c.loop-i.i AREA_CHANNELS
    (string_bytes c.loop-i.out)
    (string_bytes c.write_args.new.out) _ c.loop-i-test.true c.loop-i.invariant
    c.in_ok-write_args.ensures

pub returns : goal.returns
returns c = all_lines (args_line c.args.words.now c.args.owner) c.loop-i.i AREA_CHANNELS
    (string_bytes c.loop-i.out) _ (omega arith) c.loop-i.invariant
