use Rattle.std.proofs.Common.{◌≡◌, ℕ, ap, sym, subst, [], ◌∙◌}
use Rattle.xp_rounds.specs.Ring.{at_start}
use Rattle.xp_rounds.specs.Visit.{Visit}
use Rattle.xp_discover.specs.Booting.{first_start}
use Rattle.xp_plan.specs.declared.errand.Errand.{Errand}
use Rattle.xp_plan.specs.Plan.{IsVisit, first_visit}
use Rattle.xp_plan.proofs.Visiting.{first_is}
use Rattle.xp_partition.proofs.Kept.{kept_opened}
use Rattle.xp_partition.proofs.partition.Partition.«open».Goals as goal

abbrev first_of : ℕ → ℕ → Visit Errand
first_of own count = record { ring = at_start own count; rest = []; used = 0 }

pub returns-clause-partition : goal.returns-clause-partition
returns-clause-partition c =
    let opens = c.in_ok-partners.ensures in
    let visit : c.new-4.result ≡ first_visit c.args.part = c.new-4.ensures ∙ ap (first_of c.args.part.part) c.get-count.ensures.value in
    record {
      kept = kept_opened _ _ c.requires opens c.masked.ensures c.opening_life-life.ensures c.opening_stamp-stamp.ensures (c.new.ensures ∙ ap (first_start c.args.part.part) c.get-count.ensures.value);
      visit = subst (IsVisit c.args.part) (sym visit) (first_is c.args.part c.requires);
      roomy = opens.roomy;
    }
