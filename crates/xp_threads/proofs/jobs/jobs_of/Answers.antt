use Rattle.std.proofs.Common.{◌≡◌, [], ◌∷◌, ◌++◌}
use Rattle.xp_threads.proofs.JobLemmas.{jobs_none, jobs_push, last_pass}
use Rattle.xp_threads.proofs.jobs.jobs_of.Goals as goal

pub loop-node-init : goal.loop-node-init
loop-node-init c =
    jobs_none c.args.memory.now c.args.nodes.items c.args.passes.items c.new-jobs.result.items c.requires.nodes c.requires.count c.requires.passes c.requires.fresh c.new-jobs.ensures.items

pub job_of-requires : goal.job_of-requires
job_of-requires c =
    let p = c.in-Some-pop.pass in
    let ep : c.loop-node.passes.items ≡ c.pop-in-Some.new.self.items ++ p ∷ [] = rw c.in-Some-pop.is at c.pop-in-Some.ensures.items in
    last_pass c.args.memory.now c.args.nodes.items c.loop-node.nodes.items c.loop-node.passes.items c.pop-in-Some.new.self.items c.loop-node.jobs.items p ep c.loop-node.invariant

pub loop-node-preserved : goal.loop-node-preserved
loop-node-preserved c =
    let n = c.in-Some.node in
    let p = c.in-Some-pop.pass in
    let en : c.loop-node.nodes.items ≡ c.pop.new.self.items ++ n ∷ [] = rw c.in-Some.is at c.pop.ensures.items in
    let ep : c.loop-node.passes.items ≡ c.pop-in-Some.new.self.items ++ p ∷ [] = rw c.in-Some-pop.is at c.pop-in-Some.ensures.items in
    jobs_push c.args.memory.now c.args.nodes.items c.loop-node.nodes.items c.pop.new.self.items c.loop-node.passes.items c.pop-in-Some.new.self.items c.loop-node.jobs.items c.push.new.self.items n p c.job_of.result
    en ep c.in_ok-push.ensures.items c.job_of.ensures.node c.job_of.ensures.pass c.job_of.ensures.memory c.loop-node.invariant
