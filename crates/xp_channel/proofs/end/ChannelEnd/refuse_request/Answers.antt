use Rattle.xp_base.specs.declared.reason.Reason.TheVariants.{BadArgs}
use Rattle.xp_channel.proofs.Refusing.{refused}
use Rattle.xp_channel.proofs.end.ChannelEnd.refuse_request.Goals as goal

pub returns-clause-end : goal.returns-clause-end
returns-clause-end c = refused (BadArgs c.args.word) c.args.self.now c.close_channel.new.self c.mark_refused.new.self c.close_channel.ensures.end c.mark_refused.ensures.end
