use Rattle.std.proofs.Common.{◌≡◌, ℕ, ap, subst, ◌∙◌}
use Rattle.std.proofs.lemmas.Result.{on_ok_weaker}
use Rattle.xp_base.specs.Windows.{window_of}
use Rattle.xp_protocol.specs.State.{size_of, version_of}
use Rattle.xp_partition.specs.Opening.{IsWarmedAt}
use Rattle.xp_partition.proofs.Opened.{warm_opens}
use Rattle.xp_partition.proofs.partners.Partners.warm.Goals as goal

pub returns : goal.returns
returns c =
    let part = c.args.part.now in
    let link = c.args.link in
    let touched = c.touch.new.self in
    let warmed = c.warm_at.new.self in
    let theirs : c.version-theirs.result ≡ version_of part link.partner = c.version-theirs.ensures in
    let window : c.window-window.result ≡ window_of part.count = c.window-window.ensures ∙ ap window_of c.get.ensures.value in
    on_ok_weaker c.warm_at.result
    (λ (h : IsWarmedAt c.version-theirs.result c.window-window.result link.partner link.channel (size_of link) touched warmed).
    warm_opens part link c.args.self.now touched warmed c.requires.lawful c.requires.number c.requires.channel c.touch.ensures.list c.touch.ensures.here c.touch.ensures.others
    (subst (λ (n : ℕ). IsWarmedAt n (window_of part.count) link.partner link.channel (size_of link) touched warmed) theirs
    (subst (λ (n : ℕ). IsWarmedAt c.version-theirs.result n link.partner link.channel (size_of link) touched warmed) window h)))
    c.warm_at.ensures
