use Rattle.std.proofs.Common.{ap, sym, ◌∙◌, subst}
use Rattle.xp_script.specs.declared.log.Verb.{Verb}
use Rattle.xp_protocol.specs.Acts.{due_by, answered_by}
use Rattle.xp_partner.specs.Partner.{channel_of}
use Rattle.xp_partition.specs.Partners.{partner_at}
use Rattle.xp_acts.specs.Ends.{BecomesAt}
use Rattle.xp_acts.proofs.Begun.{countable}
use Rattle.xp_acts.proofs.Answered.{current_end, current_room, due_end, answered_end, if_some}
use Rattle.xp_acts.proofs.answering.give.Goals as goal

pub answer-requires-clause-partner : goal.answer-requires-clause-partner
answer-requires-clause-partner c =
    (current_end c.args.keeping.now c.in_ok-command.command.now (record { partner = c.in-Some.end.partner; channel = c.in-Some.end.channel }) c.requires.kept c.in_ok-command.ensures c.in-Some.ensures).0

pub answer-requires-clause-channel : goal.answer-requires-clause-channel
answer-requires-clause-channel c =
    (current_end c.args.keeping.now c.in_ok-command.command.now (record { partner = c.in-Some.end.partner; channel = c.in-Some.end.channel }) c.requires.kept c.in_ok-command.ensures c.in-Some.ensures).1

pub answer-requires-clause-room : goal.answer-requires-clause-room
answer-requires-clause-room c =
    current_room c.args.keeping.now c.in-Some.end.partner c.in-Some.end.channel c.requires.room
    (current_end c.args.keeping.now c.in_ok-command.command.now (record { partner = c.in-Some.end.partner; channel = c.in-Some.end.channel }) c.requires.kept c.in_ok-command.ensures c.in-Some.ensures)

pub answer-requires-clause-counts : goal.answer-requires-clause-counts
answer-requires-clause-counts c = countable c.args.keeping.now c.in-Some.end.partner c.in-Some.end.channel c.requires.counts

pub returns-in-Some-clause-value : goal.returns-in-Some-clause-value
returns-in-Some-clause-value c =
    let x = c.args.keeping.now in
    c.answer.ensures.value
    ∙ ap (λ (v : Verb). due_by v (channel_of (partner_at x.partners.list c.in-Some.end.partner) c.in-Some.end.channel).end) c.verb-verb.ensures
    ∙ due_end x c.in_ok-command.command.now c.in-Some.end.partner c.in-Some.end.channel (sym c.in_ok-command.ensures) (sym c.in-Some.ensures)

pub returns-in-Some-clause-some : goal.returns-in-Some-clause-some
returns-in-Some-clause-some c =
    let x = c.args.keeping.now in
    if_some _ _ c.answer.result
    (λ b. answered_end x c.in_ok-command.command.now c.in-Some.end.partner c.in-Some.end.channel c.answer.new.partners (sym c.in_ok-command.ensures) (sym c.in-Some.ensures)
    (subst (λ (v : Verb). BecomesAt x.partners c.in-Some.end (answered_by v) c.answer.new.partners) c.verb-verb.ensures b))
    c.answer.ensures.some
