use Rattle.std.proofs.Common.{refl}
use Rattle.xp_lawful.proofs.lawful.are_lawful_restarts.Goals as goal

pub returns-then-is_each_restart_lawful : goal.returns-then-is_each_restart_lawful
returns-then-is_each_restart_lawful c =
    let each = c.if-is_each_restart_lawful.ensures.0 refl in
    ((λ t. record { each = each; few = c.are_few_restarts_each.ensures.0 t }), (λ h. c.are_few_restarts_each.ensures.1 h.few))
