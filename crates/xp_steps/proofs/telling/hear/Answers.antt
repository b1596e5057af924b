use Rattle.std.proofs.Common.{sym, subst}
use Rattle.xp_steps.specs.declared.telling.OwnWord.{OwnWord}
use Rattle.xp_steps.specs.Telling.{IsTold}
use Rattle.xp_steps.proofs.Told.{told_stamp}
use Rattle.xp_steps.proofs.telling.hear.Goals as goal

pub returns-in-Stamp : goal.returns-in-Stamp
returns-in-Stamp c = subst (λ (word : OwnWord). IsTold word c.args.number c.args.partner.now c.set_stamp.new.self) (sym c.in-Stamp.is) (told_stamp c.in-Stamp.stamp c.args.number c.args.partner.now c.set_stamp.new.self c.names.ensures c.set_stamp.ensures)
