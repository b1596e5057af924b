-- The jobs of a run, before and after their threads.
use Rattle.std.specs.Prelude.{◌≡◌, ℕ, ◌+◌, ◌<◌, ◌≤◌, false, List, [], length, Some, slice_get, slice_index_or}
use Rattle.xp_fabric.specs.Passes.{IsPassOf}
use Rattle.xp_fabric.specs.Views.{SharedView, PassView}
use Rattle.xp_node.specs.Node.{NodeView}
use Rattle.xp_world.specs.World.{IsReadyNode}
use Rattle.xp_threads.specs.declared.jobs.Job.{Job}
use Rattle.xp_threads.specs.Working.{Works, IsFinished, IsWithin}

-- node k is of partition k among so many, no step waits, and it may make turns up to its budget
pub record IsReadyToRun (among k : ℕ) (n : NodeView) : Type 0 where
  pub ready : IsReadyNode among k n
  pub budget : n.state.clock.turns ≤ n.part.budget

abbrev pub AreReady : ℕ → List NodeView → Type 0
AreReady among ns = (k : ℕ) (n : NodeView) → slice_get ns k ≡ Some n → IsReadyToRun among k n

-- a job that is to be done: the node of partition k, with a port that has made no step
pub record IsReadyJob (k : ℕ) (j : Job) : Type 0 where
  pub node : IsReadyToRun (length j.port.memory.now.opening) k j.node
  pub part : j.port.pass.part ≡ k
  pub history : j.port.pass.history ≡ []

-- a job that is done: the node has finished, unless memory was refused, and made no more turns than
-- it may, and the port has made the steps of its turns
pub record IsDoneJob (old new : Job) : Type 0 where
  pub memory : new.port.memory.now ≡ old.port.memory.now
  pub part : new.port.pass.part ≡ old.port.pass.part
  pub works : Works old.node old.port.pass.history new.node new.port.pass.history
  pub finished : new.refused ≡ false → IsFinished new.node
  pub within : IsWithin new.node

-- what a thread is given for each job, and what it leaves
abbrev pub EachReady : List Job → Type 0
EachReady js =
    (t : ℕ) (d : Job) → t < length js → d ≡ slice_index_or js t d → (k : ℕ) × IsReadyJob k d

abbrev pub EachDone : List Job → List Job → Type 0
EachDone js js' = (t : ℕ) (d : Job) → t < length js
    → (slice_index_or js' t d ≡ slice_index_or js' t d)
    × IsDoneJob (slice_index_or js t d) (slice_index_or js' t d)

-- the job at place t is that of node k, where the last nodes come first
pub record IsJobOf (m : SharedView) (ns : List NodeView) (t : ℕ) (j : Job) : Type 0 where
  pub k : ℕ
  pub place : k + t + 1 ≡ length m.opening
  pub node : slice_get ns k ≡ Some j.node
  pub ready : IsReadyJob k j
  pub memory : j.port.memory.now ≡ m

abbrev pub AreReadyJobs : SharedView → List NodeView → List Job → Type 0
AreReadyJobs m ns js = (t : ℕ) (j : Job) → slice_get js t ≡ Some j → IsJobOf m ns t j

-- node k and pass k are those of one job, where the last jobs come first; memory wasn't refused to it
pub record IsPartedFrom (js : List Job) (k : ℕ) (n : NodeView) (p : PassView) : Type 0 where
  pub t : ℕ
  pub place : k + t + 1 ≡ length js
  pub job : Job
  pub is : slice_get js t ≡ Some job
  pub node : job.node ≡ n
  pub pass : job.port.pass ≡ p
  pub kept : job.refused ≡ false

abbrev pub AreParted : List Job → List NodeView → List PassView → Type 0
AreParted js ns ps = (k : ℕ) (n : NodeView) (p : PassView)
    → slice_get ns k ≡ Some n → slice_get ps k ≡ Some p → IsPartedFrom js k n p

-- node k has finished within its budget, and its pass has made the steps of its turns
pub record IsDone (m : SharedView) (k : ℕ) (old new : NodeView) (p : PassView) : Type 0 where
  pub pass : IsPassOf m k p
  pub works : Works old [] new p.history
  pub finished : IsFinished new
  pub within : IsWithin new

abbrev pub AreDone : SharedView → List NodeView → List NodeView → List PassView → Type 0
AreDone m olds news ps = (k : ℕ) (old new : NodeView) (p : PassView)
    → slice_get olds k ≡ Some old → slice_get news k ≡ Some new → slice_get ps k ≡ Some p
    → IsDone m k old new p
