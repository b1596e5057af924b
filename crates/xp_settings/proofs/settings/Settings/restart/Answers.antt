use Rattle.std.proofs.Common.{sym, ◌∙◌}
use Rattle.xp_settings.specs.Settings.{restart_line}
use Rattle.xp_settings.proofs.settings.Settings.restart.Goals as goal

pub returns-in-Ok : goal.returns-in-Ok
returns-in-Ok c =
    let told = c.in-Ok.ensures (restart_line c.in_ok-part.part) in
    let test = sym c.has_restarts.ensures ∙ c.if-has_restarts.false in
    rw (c.in_ok-part.ensures, test) told

pub returns-in-Err : goal.returns-in-Err
returns-in-Err c =
    let told = c.in-Err.ensures (restart_line c.in_ok-part.part) in
    let test = sym c.has_restarts.ensures ∙ c.if-has_restarts.false in
    rw (c.in_ok-part.ensures, test) told
