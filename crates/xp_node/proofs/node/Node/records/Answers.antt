use Rattle.std.proofs.Common.{ap, ◌∙◌}
use Rattle.xp_channel.specs.Channel.{Channel}
use Rattle.xp_partner.specs.Partner.{Partner, channel_of}
use Rattle.xp_node.proofs.Shown.{records_shown}
use Rattle.xp_node.proofs.node.Node.records.Goals as goal

pub returns : goal.returns
returns c =
    c.records.ensures ∙ ap (λ (x : Channel). x.records) c.end.ensures ∙ ap (λ (p : Partner). (channel_of p c.args.channel).records) c.at-partner.ensures
    ∙ records_shown c.self.inside c.args.self.now c.args.partner c.args.channel c.self.view_is c.requires.idle c.requires.partner c.get-number.ensures.range c.self.invariant
