use Rattle.std.proofs.Common.{ℕ, ap, ◌∙◌, Some}
use Rattle.xp_discover.specs.declared.boot.BootAnswer.{BootAnswer}
use Rattle.xp_discover.specs.Booting.{first_start}
use Rattle.xp_steps.proofs.Boots.{went_on, went_up}
use Rattle.xp_steps.proofs.booting.step.Goals as goal

pub returns-in-None : goal.returns-in-None
returns-in-None c = went_on c.args.keeping.now c.args.rule c.args.word c.feed.new.self c.feed.result c.requires.can c.requires.boots c.feed.ensures.boot c.feed.ensures.answer c.in-None.is

pub returns-in-Some-Booted : goal.returns-in-Some-Booted
returns-in-Some-Booted c =
    went_up c.args.keeping.now c.args.rule c.args.word c.in-Some-Booted.stamp c.new-keeping.result c.feed.result c.tell_all.new.partners c.requires.can c.requires.boots
    (c.new-keeping.ensures ∙ ap (λ (n : ℕ). first_start c.args.keeping.now.part.part n) c.get.ensures.value)
    c.feed.ensures.answer
    (c.in-Some-Booted.is ∙ ap (λ (b : BootAnswer). Some b) c.in-Some-Booted.field-0-is)
    c.tell_all.ensures
