-- Jobs that are made, done and taken apart.
use Rattle.std.proofs.Common.{◌≡◌, ◌⊎◌, ℕ, suc, ◌+◌, ◌<◌, ◌≤◌, false, List, [], ◌∷◌, ◌++◌, length, get_or, Some, refl, ap, sym, subst, ◌∙◌, ⊎_elim, arith}
use Rattle.std.specs.Prelude.{slice_get}
use Rattle.std.proofs.lemmas.Option.{slice_get_within, slice_get-get_or, slice_get_read, get_or_from_slice_get, same_Some}
use Rattle.xp_base.specs.declared.step.Step.{Step}
use Rattle.xp_fabric.specs.Passes.{IsPassOf, AllPasses, AreFresh}
use Rattle.xp_fabric.specs.Views.{SharedView, PassView}
use Rattle.xp_node.specs.Node.{NodeView}
use Rattle.xp_threads.specs.declared.jobs.Job.{Job}
use Rattle.xp_threads.specs.Working.{Works}
use Rattle.xp_threads.specs.Jobs.{IsReadyToRun, AreReady, IsReadyJob, IsDoneJob, EachReady, EachDone, IsJobOf, AreReadyJobs, IsPartedFrom, AreParted, IsDone, AreDone}
use Rattle.xp_threads.proofs.Places.{at_push, get_last, get_front, length-push}

-- some jobs are made, and these nodes and passes are left
pub record SomeJobs (m : SharedView) (olds ns : List NodeView) (ps : List PassView) (js : List Job) : Type 0 where
  pub nodes : (k : ℕ) (n : NodeView) → slice_get ns k ≡ Some n → (slice_get olds k ≡ Some n) × IsReadyToRun (length m.opening) k n
  pub passes : (k : ℕ) (p : PassView) → slice_get ps k ≡ Some p → IsPassOf m k p × (p.history ≡ [])
  pub alike : length ns ≡ length ps
  pub count : length ns + length js ≡ length m.opening
  pub jobs : AreReadyJobs m olds js

-- some jobs are taken apart, and these are left
pub record SomeParted (js rest : List Job) (ns : List NodeView) (ps : List PassView) : Type 0 where
  pub jobs : (t : ℕ) (j : Job) → slice_get rest t ≡ Some j → slice_get js t ≡ Some j
  pub nodes : length rest + length ns ≡ length js
  pub passes : length rest + length ps ≡ length js
  pub each : AreParted js ns ps

pub jobs_none : (m : SharedView) (ns : List NodeView) (ps : List PassView) (js : List Job) → AreReady (length m.opening) ns → length ns ≡ length m.opening → AllPasses m ps → AreFresh m.table ps → js ≡ [] → SomeJobs m ns ns ps js
jobs_none m ns ps js ready count passes fresh none =
    let zero_jobs : length js ≡ 0 = ap length none in
    record {
      nodes = λ k n e. (e, ready k n e);
      passes = λ k p e. (passes.each k p e, (fresh k p e).history);
      alike = count ∙ sym passes.count;
      count = omega (arith, count, zero_jobs);
      jobs = λ t j e. (let low = slice_get_within js t j e in absurd (omega (arith, low, zero_jobs)));
    }

-- the last pass that is left is one of the memory
pub last_pass : (m : SharedView) (olds ns : List NodeView) (ps ps' : List PassView) (js : List Job) (p : PassView) → ps ≡ ps' ++ p ∷ [] → SomeJobs m olds ns ps js → p.table ≡ m.table
last_pass m olds ns ps ps' js p ep h = (h.passes (length ps') p (subst (λ (l : List PassView). slice_get l (length ps') ≡ Some p) (sym ep) (get_last ps' p))).0.table

module _ (m : SharedView) (olds : List NodeView) where
  pub jobs_push : (ns ns' : List NodeView) (ps ps' : List PassView) (js js' : List Job) (n : NodeView) (p : PassView) (j : Job)
      → ns ≡ ns' ++ n ∷ [] → ps ≡ ps' ++ p ∷ [] → js' ≡ js ++ j ∷ [] → j.node ≡ n → j.port.pass ≡ p → j.port.memory.now ≡ m
      → SomeJobs m olds ns ps js → SomeJobs m olds ns' ps' js'
  jobs_push ns ns' ps ps' js js' n p j en ep ej jn jp jm h =
      let nl : length ns ≡ suc (length ns') = ap length en ∙ length-push ns' n in
      let pl : length ps ≡ suc (length ps') = ap length ep ∙ length-push ps' p in
      let jl : length js' ≡ suc (length js) = ap length ej ∙ length-push js j in
      let alike : length ns' ≡ length ps' = omega (arith, h.alike, nl, pl) in
      let count : length ns' + length js' ≡ length m.opening = omega (arith, h.count, nl, jl) in
      let k = length ns' in
      let node = h.nodes k n (subst (λ (l : List NodeView). slice_get l k ≡ Some n) (sym en) (get_last ns' n)) in
      let pass = h.passes k p (subst (λ (l : List PassView). slice_get l k ≡ Some p) (sym ep) (subst (λ (i : ℕ). slice_get (ps' ++ p ∷ []) i ≡ Some p) (sym alike) (get_last ps' p))) in
      let ready : IsReadyJob k j = record {
        node = subst (λ (x : NodeView). IsReadyToRun (length j.port.memory.now.opening) k x) (sym jn) (subst (λ (v : SharedView). IsReadyToRun (length v.opening) k n) (sym jm) node.1);
        part = ap (λ (x : PassView). x.part) jp ∙ pass.0.part;
        history = ap (λ (x : PassView). x.history) jp ∙ pass.1;
      } in
      let place : k + length js + 1 ≡ length m.opening = omega (arith, h.count, nl) in
      let own : IsJobOf m olds (length js) j = record { k = k; place = place; node = node.0 ∙ ap (λ (x : NodeView). Some x) (sym jn); ready = ready; memory = jm } in
      record {
        nodes = λ i x e. h.nodes i x (subst (λ (l : List NodeView). slice_get l i ≡ Some x) (sym en) (get_front ns' (n ∷ []) i x e));
        passes = λ i x e. h.passes i x (subst (λ (l : List PassView). slice_get l i ≡ Some x) (sym ep) (get_front ps' (p ∷ []) i x e));
        alike = alike;
        count = count;
        jobs = λ t x e. ⊎_elim (h.jobs t x)
            (λ (z : (t ≡ length js) × (j ≡ x)). subst (λ (i : ℕ). IsJobOf m olds i x) (sym z.0) (subst (IsJobOf m olds (length js)) z.1 own))
            (at_push js j t x (subst (λ (l : List Job). slice_get l t ≡ Some x) ej e));
      }

pub parted_none : (js : List Job) (ns : List NodeView) (ps : List PassView) → ns ≡ [] → ps ≡ [] → SomeParted js js ns ps
parted_none js ns ps en ep =
    let nl : length ns ≡ 0 = ap length en in
    let pl : length ps ≡ 0 = ap length ep in
    record {
      jobs = λ t j e. e;
      nodes = omega (arith, nl);
      passes = omega (arith, pl);
      each = λ k n p a b. (let low = slice_get_within ns k n a in absurd (omega (arith, low, nl)));
    }

pub parted_push : (js left left' : List Job) (ns ns' : List NodeView) (ps ps' : List PassView) (j : Job)
    → left ≡ left' ++ j ∷ [] → ns' ≡ ns ++ j.node ∷ [] → ps' ≡ ps ++ j.port.pass ∷ [] → j.refused ≡ false
    → SomeParted js left ns ps → SomeParted js left' ns' ps'
parted_push js left left' ns ns' ps ps' j ej en ep kept h =
    let jl : length left ≡ suc (length left') = ap length ej ∙ length-push left' j in
    let nl : length ns' ≡ suc (length ns) = ap length en ∙ length-push ns j.node in
    let pl : length ps' ≡ suc (length ps) = ap length ep ∙ length-push ps j.port.pass in
    let alike : length ps ≡ length ns = omega (arith, h.nodes, h.passes) in
    let place : length ns + length left' + 1 ≡ length js = omega (arith, h.nodes, jl) in
    let at = h.jobs (length left') j (subst (λ (l : List Job). slice_get l (length left') ≡ Some j) (sym ej) (get_last left' j)) in
    let own : IsPartedFrom js (length ns) j.node j.port.pass = record { t = length left'; place = place; job = j; is = at; node = refl; pass = refl; kept = kept } in
    record {
      jobs = λ t x e. h.jobs t x (subst (λ (l : List Job). slice_get l t ≡ Some x) (sym ej) (get_front left' (j ∷ []) t x e));
      nodes = omega (arith, h.nodes, jl, nl);
      passes = omega (arith, h.passes, jl, pl);
      each = λ k n p a b. ⊎_elim
          (λ (a' : slice_get ns k ≡ Some n). ⊎_elim
          (λ (b' : slice_get ps k ≡ Some p). h.each k n p a' b')
          (λ (b' : (k ≡ length ps) × (j.port.pass ≡ p)). let low = slice_get_within ns k n a' in let z = b'.0 in absurd (omega (arith, low, z, alike)))
          (at_push ps j.port.pass k p (subst (λ (l : List PassView). slice_get l k ≡ Some p) ep b)))
          (λ (a' : (k ≡ length ns) × (j.node ≡ n)). ⊎_elim
          (λ (b' : slice_get ps k ≡ Some p). let low = slice_get_within ps k p b' in let z = a'.0 in absurd (omega (arith, low, z, alike)))
          (λ (b' : (k ≡ length ps) × (j.port.pass ≡ p)).
          subst (λ (i : ℕ). IsPartedFrom js i n p) (sym a'.0)
          (subst (λ (x : NodeView). IsPartedFrom js (length ns) x p) a'.1
          (subst (λ (x : PassView). IsPartedFrom js (length ns) j.node x) b'.1 own)))
          (at_push ps j.port.pass k p (subst (λ (l : List PassView). slice_get l k ≡ Some p) ep b)))
          (at_push ns j.node k n (subst (λ (l : List NodeView). slice_get l k ≡ Some n) en a));
    }

-- a job that was ready and is done leaves its node finished
done_by : (m : SharedView) (olds : List NodeView) (t k : ℕ) (j j' : Job) (old new : NodeView) (p : PassView) → IsJobOf m olds t j → IsDoneJob j j' → k + t + 1 ≡ length m.opening → slice_get olds k ≡ Some old → j'.node ≡ new → j'.port.pass ≡ p → j'.refused ≡ false → IsDone m k old new p
done_by m olds t k j j' old new p r d place was en ep kept =
    let rp = r.place in
    let same : r.k ≡ k = omega (arith, rp, place) in
    let memory : j'.port.memory.now ≡ m = d.memory ∙ r.memory in
    let pass : IsPassOf m k j'.port.pass = record {
      part = d.part ∙ r.ready.part ∙ same;
      table = j'.port.of_memory ∙ ap (λ (v : SharedView). v.table) memory;
    } in
    let first : j.node ≡ old = same_Some j.node old (sym r.node ∙ (ap (slice_get olds) same ∙ was)) in
    let works : Works old [] j'.node j'.port.pass.history =
    subst (λ (n : NodeView). Works n [] j'.node j'.port.pass.history) first (subst (λ (xs : List Step). Works j.node xs j'.node j'.port.pass.history) r.ready.history d.works) in
    let done : IsDone m k old j'.node j'.port.pass = record { pass = pass; works = works; finished = d.finished kept; within = d.within } in
    subst (λ (n : NodeView). IsDone m k old n p) en (subst (λ (x : PassView). IsDone m k old j'.node x) ep done)

pub all_done : (m : SharedView) (olds news : List NodeView) (ps : List PassView) (js js' : List Job) → length js' ≡ length js → length js ≡ length m.opening → AreReadyJobs m olds js
    → EachDone js js' → AreParted js' news ps → AreDone m olds news ps
all_done m olds news ps js js' alike count ready done parted k old new p was a b =
    let q = parted k new p a b in
    let t = q.t in
    let j' = q.job in
    let qp = q.place in
    let within = slice_get_within js' t j' q.is in
    let low : t < length js = omega (arith, within, alike) in
    let j = get_or js t j' in
    let r = ready t j (slice_get-get_or js t j' low) in
    let d : IsDoneJob j j' = subst (IsDoneJob j) (get_or_from_slice_get js' t j' j' q.is) (done t j' low).1 in
    done_by m olds t k j j' old new p r d (omega (arith, qp, alike, count)) was q.node q.pass q.kept

pub each_ready : (m : SharedView) (olds : List NodeView) (js : List Job) → AreReadyJobs m olds js → EachReady js
each_ready m olds js ready t d low e = let r = ready t d (slice_get_read js (length js) t d refl low e) in (r.k, r.ready)
