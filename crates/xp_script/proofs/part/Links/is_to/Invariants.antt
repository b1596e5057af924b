use Rattle.std.proofs.Common.{◌≡◌, drop}
use Rattle.std.specs.List.{list_any}
use Rattle.xp_script.specs.Parts.{is_link_to}
use Rattle.xp_script.proofs.part.Links.is_to.Given as goal

abbrev pub invariant-loop-link : goal.invariant-loop-link
invariant-loop-link l = list_any (is_link_to l.partner) (drop l.link-index l.link-items) ≡ list_any (is_link_to l.partner) l.link-items
