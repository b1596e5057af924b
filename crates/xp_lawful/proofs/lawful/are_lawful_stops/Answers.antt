use Rattle.std.proofs.Common.{refl}
use Rattle.xp_lawful.proofs.lawful.are_lawful_stops.Goals as goal

pub returns-then-is_each_stop_lawful : goal.returns-then-is_each_stop_lawful
returns-then-is_each_stop_lawful c =
    let each = c.if-is_each_stop_lawful.ensures.0 refl in
    ((λ t. record { each = each; one = c.is_one_stop_each.ensures.0 t }), (λ h. c.is_one_stop_each.ensures.1 h.one))
