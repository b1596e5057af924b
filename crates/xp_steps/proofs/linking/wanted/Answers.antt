use Rattle.std.proofs.Common.{ap, ◌∙◌, Some}
use Rattle.xp_base.specs.declared.step.CopyMark.{CopyMark}
use Rattle.xp_steps.proofs.Wants.{link_numbered}
use Rattle.xp_steps.proofs.linking.wanted.Goals as goal

pub returns : goal.returns
returns c =
    ap (λ (mark : CopyMark). record c.wanted_link-wanted.result { mark = Some mark }) c.numbered-mark.ensures
    ∙ link_numbered c.args.keeping.now c.args.number c.args.channel c.args.rule c.at-partner.result.now c.wanted_link-wanted.result c.in-Some.mark c.link_number-going.result c.requires.can c.at-partner.ensures c.wanted_link-wanted.ensures c.in-Some.is c.link_number-going.ensures
