use Rattle.std.proofs.Common.{◌≡◌, [], ◌∷◌, ◌++◌, ap, ◌∙◌}
use Rattle.xp_fabric.specs.Views.{PassView}
use Rattle.xp_threads.proofs.JobLemmas.{parted_none, parted_push}
use Rattle.xp_threads.proofs.jobs.parts_of.Goals as goal

pub loop-job-init : goal.loop-job-init
loop-job-init c = parted_none c.args.jobs.items c.new-nodes.result.items c.new-passes.result.items c.new-nodes.ensures.items c.new-passes.ensures.items

pub loop-job-preserved : goal.loop-job-preserved
loop-job-preserved c =
    let j = c.in-Some.job in
    let ej : c.loop-job.jobs.items ≡ c.pop.new.self.items ++ j ∷ [] = rw c.in-Some.is at c.pop.ensures.items in
    parted_push c.args.jobs.items c.loop-job.jobs.items c.pop.new.self.items c.loop-job.nodes.items c.push.new.self.items c.loop-job.passes.items c.push-in-Some.new.self.items j
    ej c.in_ok-push.ensures.items (c.in_ok-push-2.ensures.items ∙ ap (λ (p : PassView). c.loop-job.passes.items ++ p ∷ []) c.pass.ensures) c.if-refused.false c.loop-job.invariant
