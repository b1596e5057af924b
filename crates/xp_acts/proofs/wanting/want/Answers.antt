use Rattle.std.proofs.Common.{◌<◌, length, arith}
use Rattle.xp_acts.proofs.Wants.{wants_one}
use Rattle.xp_acts.proofs.wanting.want.Goals as goal

pub returns-then-get-len : goal.returns-then-get-len
returns-then-get-len c =
    let low : c.args.number < length c.args.partners.now.list = omega (arith, c.if-get-len.true, c.get.ensures.value, c.len.ensures) in
    wants_one c.args.wanted c.args.partners.now c.want_known.new.partners c.args.number low c.want_known.ensures.list (c.want_known.ensures.here, c.want_known.ensures.others)
