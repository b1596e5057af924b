use Rattle.std.proofs.Common.{◌-◌, ◌∙◌, arith}
use Rattle.xp_channel.proofs.Settling.{settle_end, settle_reason}
use Rattle.xp_channel.proofs.end.ChannelEnd.+settle.Goals as goal

pub returns-clause-end : goal.returns-clause-end
returns-clause-end t c = settle_end c.args.fuel (c.args.fuel - 1) c.args.self.now c.handle_next-first.new.self c.settle-later.new.self (omega (arith, c.if-fuel-eq0.false)) c.handle_next-first.ensures.end c.settle-later.ensures.end

pub returns-clause-reason : goal.returns-clause-reason
returns-clause-reason t c = c.first_of.ensures ∙ settle_reason c.args.fuel (c.args.fuel - 1) c.args.self.now c.handle_next-first.new.self c.handle_next-first.result c.settle-later.result (omega (arith, c.if-fuel-eq0.false)) c.handle_next-first.ensures.end c.handle_next-first.ensures.reason c.settle-later.ensures.reason
