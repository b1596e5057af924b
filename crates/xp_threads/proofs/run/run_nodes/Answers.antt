use Rattle.std.proofs.Common.{◌≡◌, ◌≤◌, List, ◌++◌, take, drop, ap, sym, subst, ◌∙◌, length, arith}
use Rattle.std.proofs.lemmas.Result.{IfOk-weaker}
use Rattle.xp_threads.specs.declared.jobs.Job.{Job}
use Rattle.xp_threads.specs.Jobs.{EachReady, EachDone, AreParted, AreDone}
use Rattle.xp_threads.proofs.JobLemmas.{all_done, each_ready}
use Rattle.xp_threads.proofs.Places.{taken_all}
use Rattle.xp_threads.proofs.run.run_nodes.Goals as goal

pub do_all-requires-after_bounds : goal.do_all-requires-after_bounds
do_all-requires-after_bounds g c κs within =
    subst EachReady (sym c.as_mut_slice.ensures.value) (each_ready c.args.memory.now c.args.nodes.items c.in_ok-jobs.jobs.items c.in_ok-jobs.ensures.each)

pub returns-clause-done : goal.returns-clause-done
returns-clause-done g c =
    let m = c.args.memory.now in
    let olds = c.args.nodes.items in
    let jobs = c.in_ok-jobs.jobs in
    let js = jobs.items in
    let js' = c.do_all.new.jobs in
    let value = c.as_mut_slice.ensures.value in
    let alike : length js' ≡ length js = c.do_all.ensures.count ∙ ap length value in
    let len = jobs.ok.0 in
    let short : length js ≤ jobs.len = omega (arith, len) in
    let done : EachDone js js' = subst (λ (l : List Job). EachDone l js') value c.do_all.ensures.each in
    let written = take jobs.len (js' ++ drop (length js') js) in
    let whole : written ≡ js' = taken_all jobs.len js' js alike short in
    IfOk-weaker c.parts_of.result (λ parts. AreParted written parts.0.items parts.1.items) (λ parts. AreDone m olds parts.0.items parts.1.items)
    (λ parts parted. all_done m olds parts.0.items parts.1.items js js' alike c.in_ok-jobs.ensures.count c.in_ok-jobs.ensures.each done (subst (λ (l : List Job). AreParted l parts.0.items parts.1.items) whole parted)) c.parts_of.ensures.each
