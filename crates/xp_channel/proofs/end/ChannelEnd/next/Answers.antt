use Rattle.std.proofs.Common.{sym, subst}
use Rattle.xp_base.specs.declared.step.Wanted.{Wanted}
use Rattle.xp_channel.specs.Permitted.{IsPermitted}
use Rattle.xp_channel.proofs.Permitted.{permitted}
use Rattle.xp_channel.proofs.end.ChannelEnd.next.Goals as goal

pub returns-clause-permitted : goal.returns-clause-permitted
returns-clause-permitted c = λ s st own same up usable.
    subst (λ (w : Wanted). IsPermitted s st c.args.self.now.partner c.args.self.now.channel w) (sym c.wanted.ensures) (permitted c.args.self.now c.in_ok-rule.rule c.in_ok-rule.ensures.can s st own same up usable)
