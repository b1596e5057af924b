use Rattle.std.proofs.Common.{refl}
use Rattle.xp_lawful.proofs.lawful.are_lawful_minors.Goals as goal

pub returns-then-is_each_minor_lawful : goal.returns-then-is_each_minor_lawful
returns-then-is_each_minor_lawful c =
    let each = c.if-is_each_minor_lawful.ensures.0 refl in
    ((λ t. record { each = each; one = c.is_one_minor_each.ensures.0 t }), (λ h. c.is_one_minor_each.ensures.1 h.one))
