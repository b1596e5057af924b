-- How a turn begins: what its calls need, and what they come to.
use Rattle.std.proofs.Common.{◌≡◌, ℕ, ◌+◌, ◌*◌, ◌-◌, ◌^◌, ◌<◌, ◌≤◌, List, [], ◌∷◌, ◌++◌, refl, ap, sym, ◌∙◌, subst, arith, Option, Some, None}
use Rattle.std.specs.Prelude.{IfSome, IfNone}
use Rattle.xp_base.specs.declared.layout.TheConstants.{LINES}
use Rattle.xp_base.specs.History.{Begun}
use Rattle.xp_rounds.specs.Visit.{Visit, planned}
use Rattle.xp_script.specs.declared.log.Entry.{Entry}
use Rattle.xp_script.specs.declared.part.ScenarioPart.{ScenarioPart}
use Rattle.xp_protocol.specs.declared.rule.LinkRule.TheVariants as links
use Rattle.xp_protocol.specs.declared.rule.RingRule.TheVariants as rings
use Rattle.xp_protocol.specs.declared.rule.Rule.{Rule}
use Rattle.xp_protocol.specs.declared.rule.Rule.TheVariants.{Link, Peer as ForPeer, Own}
use Rattle.xp_protocol.specs.Parts.{IsLawfulPart}
use Rattle.xp_protocol.specs.State.{State}
use Rattle.xp_protocol.specs.Rules.{Can}
use Rattle.xp_protocol.specs.Acts.{upcoming, after_acts, MayAct}
use Rattle.xp_protocol.specs.Logged.{begun_entry}
use Rattle.xp_counts.specs.Counted.{AreCounted, calls_in}
use Rattle.xp_counts.proofs.States.{more_counted, acts_counted}
use Rattle.xp_counts.proofs.Planned.{few_begun}
use Rattle.xp_plan.specs.declared.errand.Errand.{Errand}
use Rattle.xp_plan.specs.Plan.{plan_of, IsVisit}
use Rattle.xp_plan.specs.PeerSteps.{boot_at}
use Rattle.xp_plan.proofs.Permits.{permits}
use Rattle.xp_sound.specs.Consistent.{IsConsistent}
use Rattle.xp_sound.specs.Told.{AllTold}
use Rattle.xp_sound.proofs.States.{sound, acts_keep, has_room}
use Rattle.xp_sound.proofs.Notices.{acts_told}
use Rattle.xp_partition.specs.declared.keeping.Keeping.{Keeping}
use Rattle.xp_partition.specs.declared.partition.Partition.{Partition}
use Rattle.xp_partition.specs.Keeping.{state_of, records_at, IsKept}
use Rattle.xp_partition.specs.Partition.{IsPartition}
use Rattle.xp_partition.specs.Partners.{Partners, AreRoomy, AllHaveNotes}
use Rattle.xp_acts.specs.Acts.{Acts}
use Rattle.xp_acts.specs.Commands.{CanLog}
use Rattle.xp_acts.proofs.Composing.{no_acts}
use Rattle.xp_steps.specs.Stepping.{MayAccept, CanStep}
use Rattle.xp_steps.proofs.Planned.{planned_session, planned_boot}
use Rattle.xp_node.specs.Turning.{CanTurn, begun_acts, Began, Begins}

-- the next command is begun, or none
pub began_by : (x y : Keeping) (entry : Option Entry) → IsKept x → IfSome entry (λ e. Acts x y (Begun ∷ [])) → IfSome entry (λ e. begun_entry x.clock.boots (x.script.begun + 1) (upcoming x.part (state_of x)) ≡ e ∷ []) → IfNone entry (y ≡ x) → IfNone entry (MayAct x.part (state_of x) Begun → ⊥) → Began x y entry
began_by x y None kept some line none may = subst (λ (z : Keeping). Began x z None) (sym none) (record { acts = no_acts x kept; entries = λ xs. refl; prompt = λ m. absurd (may m) })
began_by x y (Some e) kept some line none may = record { acts = some; entries = λ xs. ap (λ (ys : List Entry). xs ++ ys) line; prompt = λ m. refl }

-- fewer notes need no more room
pub fewer_notes : (m n : ℕ) (x : Partners) → m ≤ n → AllHaveNotes n x → AllHaveNotes m x
fewer_notes m n x l h q low c few = let r = h q low c few in record { ready = r.ready; calls = λ b. omega (arith, l, r.calls b); ends = r.ends; next = r.next }

pub ruleset began = (began_by, fewer_notes)

-- what a turn needs that may be begun
pub turn_kept : (p : Partition) → CanTurn p → IsKept p.keeping
turn_kept p t = t.idle.partition.kept

pub turn_counts : (p : Partition) → CanTurn p → AreCounted (2 ^ 63) (state_of p.keeping)
turn_counts p t = more_counted ((2 + 2) * p.keeping.clock.turns + 2) (2 ^ 63) (state_of p.keeping) (omega (arith, t.turns)) t.idle.rests.bounded

pub turn_log : (p : Partition) → CanTurn p → CanLog p.keeping
turn_log p t =
    let few = few_begun p.keeping.part (state_of p.keeping) t.idle.few t.idle.rests.planned in
    record { boots = omega (arith, few.0); begun = omega (arith, few.1) }

pub turn_room : (p : Partition) → CanTurn p → AllHaveNotes (LINES + 3) p.keeping.partners
turn_room p t q low c few = let r = t.room q low c few in record { ready = r.ready; calls = r.calls; ends = r.ends; next = r.next }

-- a partition of which another thing is kept
pub partition_on : (p x : Partition) → IsPartition p → IsKept x.keeping → x.keeping.part ≡ p.keeping.part → x.planner ≡ p.planner → (AreRoomy p.keeping.partners → AreRoomy x.keeping.partners) → IsPartition x
partition_on p x h kept part visit roomy =
    record {
      kept = kept;
      visit = subst (λ (s : ScenarioPart). IsVisit s x.planner) (sym part) (subst (λ (v : Visit Errand). IsVisit p.keeping.part v) (sym visit) h.visit);
      roomy = roomy h.roomy;
    }

pub begun_partition : (p : Partition) (y : Keeping) (entry : Option Entry) → CanTurn p → Began p.keeping y entry → (AreRoomy p.keeping.partners → AreRoomy y.partners) → IsPartition (record p { keeping = y })
begun_partition p y entry t b roomy = partition_on p (record p { keeping = y }) t.idle.partition b.acts.kept b.acts.part refl roomy

begun_few : (entry : Option Entry) → calls_in (begun_acts entry) ≤ 1
begun_few None = omega arith
begun_few (Some e) = omega arith

begun_low : (p : Partition) (y : Keeping) (entry : Option Entry) → CanTurn p → state_of y ≡ after_acts p.keeping.part (state_of p.keeping) (begun_acts entry) → AreCounted (2 ^ 31) (state_of y)
begun_low p y entry t e =
    let n = (2 + 2) * p.keeping.clock.turns + 2 in
    let acts = begun_acts entry in
    let x = acts_counted p.keeping.part (state_of p.keeping) acts n t.idle.rests.bounded in
    subst (λ (z : State). AreCounted (2 ^ 31) z) (sym e) (more_counted (n + calls_in acts) (2 ^ 31) (after_acts p.keeping.part (state_of p.keeping) acts) (omega (arith, t.turns, begun_few entry)) x)

pub begun_turns : (p : Partition) (y : Keeping) (entry : Option Entry) → CanTurn p → Began p.keeping y entry → y.clock.turns < 2 ^ 64 - 1
begun_turns p y entry t b = let low = (begun_low p y entry t b.acts.state).clock.turns in omega (arith, low)

pub begins_by : (old new : Partition) (y : Keeping) (entry : Option Entry) (rule : Option Rule) → Began old.keeping y entry → rule ≡ (planned (plan_of y.part) old.planner (state_of y)).rule → new.planner ≡ (planned (plan_of y.part) old.planner (state_of y)).visit → new.keeping ≡ y → IsPartition new → Begins old.keeping.part (state_of old.keeping) old new entry rule
begins_by old new y entry rule b r v e h =
    let s = old.keeping.part in
    record {
      may = b.acts.may;
      state = ap state_of e ∙ b.acts.state;
      records = λ q c low few. ap (λ (z : Keeping). records_at z q c) e ∙ b.acts.records q c low few;
      entries = b.entries;
      prompt = b.prompt;
      follows = r ∙ ap (λ (z : ScenarioPart). (planned (plan_of z) old.planner (state_of y)).rule) b.acts.part ∙ ap (λ (z : Keeping). (planned (plan_of s) old.planner (state_of z)).rule) (sym e);
      visit = v ∙ ap (λ (z : ScenarioPart). (planned (plan_of z) old.planner (state_of y)).visit) b.acts.part ∙ ap (λ (z : Keeping). (planned (plan_of s) old.planner (state_of z)).visit) (sym e);
      part = ap (λ (z : Keeping). z.part) e ∙ b.acts.part;
      partition = h;
    }

accepts : (s : ScenarioPart) (st : State) (r : Rule) → IsConsistent s st → AllTold s st → Can s st r → MayAccept st r
accepts s st (Link q c (links.Ring rings.AcceptMessage)) h told can = λ wants. has_room s st h told q c can
accepts s st (Link q c (links.Ring rings.ReadGet)) h told can = tt
accepts s st (Link q c (links.Ring (rings.WriteEntryWord f))) h told can = tt
accepts s st (Link q c (links.Pull m)) h told can = tt
accepts s st (Link q c links.Acknowledge) h told can = tt
accepts s st (Link q c (links.SetFlag k)) h told can = tt
accepts s st (Link q c links.ZeroGet) h told can = tt
accepts s st (Link q c links.ZeroPut) h told can = tt
accepts s st (Link q c (links.StoreArgument x)) h told can = tt
accepts s st (Link q c (links.ReadArgument x)) h told can = tt
accepts s st (ForPeer q m) h told can = tt
accepts s st (Own m) h told can = tt

-- the planned step can be made
module _ (p x : Partition) (entry : Option Entry) (rule : Option Rule) (t : CanTurn p) (b : Begins p.keeping.part (state_of p.keeping) p x entry rule) where
  lawful : IsLawfulPart p.keeping.part
  lawful = t.idle.partition.kept.lawful

  pub consistent_then : IsConsistent p.keeping.part (state_of x.keeping)
  consistent_then = subst (λ (z : State). IsConsistent p.keeping.part z) (sym b.state) (acts_keep p.keeping.part lawful (state_of p.keeping) (begun_acts entry) t.idle.rests.consistent)

  pub told_then : AllTold p.keeping.part (state_of x.keeping)
  told_then = subst (λ (z : State). AllTold p.keeping.part z) (sym b.state) (acts_told p.keeping.part (state_of p.keeping) (begun_acts entry) b.may t.idle.rests.told)

  pub low_then : AreCounted (2 ^ 31) (state_of x.keeping)
  low_then = begun_low p x.keeping entry t b.state

  can_make : (r : Rule) → rule ≡ Some r → CanStep x.keeping r
  can_make r e =
      let s = p.keeping.part in
      let st = state_of x.keeping in
      let is : (planned (plan_of s) p.planner st).rule ≡ Some r = sym b.follows ∙ e in
      let can : Can s st r = permits s lawful st (sound s st consistent_then) p.planner t.idle.partition.visit r is in
      record {
        kept = b.partition.kept;
        can = subst (λ (z : ScenarioPart). Can z st r) (sym b.part) can;
        counts = more_counted (2 ^ 31) (2 ^ 63) st (omega arith) low_then;
        accepts = accepts s st r consistent_then told_then can;
        session = planned_session s st p.planner t.idle.partition.visit r is can;
        boot = λ boots. subst (λ (z : ScenarioPart). boot_at z.part st ≡ Some r) (sym b.part) (planned_boot s st p.planner t.idle.partition.visit r is boots);
      }

pub can_by : (p x : Partition) (entry : Option Entry) (rule : Option Rule) → CanTurn p → Begins p.keeping.part (state_of p.keeping) p x entry rule → IfSome rule (λ r. CanStep x.keeping r)
can_by p x entry None t b = tt
can_by p x entry (Some r) t b = can_make p x entry (Some r) t b r refl

pub ruleset beginning = (turn_kept, turn_counts, turn_log, turn_room, begun_partition, begun_turns, begins_by, can_by)
