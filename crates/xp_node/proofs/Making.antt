-- How the step of a turn is made.
use Rattle.std.proofs.Common.{◌≡◌, ℕ, ◌<◌, refl, ap, sym, ◌∙◌, Option, Some, None}
use Rattle.xp_base.specs.declared.layout.TheConstants.{CHANNELS}
use Rattle.xp_base.specs.declared.step.Answer.{Answer}
use Rattle.xp_base.specs.declared.step.Answer.TheVariants.{Word, Failed}
use Rattle.xp_base.specs.declared.step.CopyMark.{CopyMark}
use Rattle.xp_base.specs.declared.step.Wanted.{Wanted}
use Rattle.xp_script.specs.declared.part.ScenarioPart.{ScenarioPart}
use Rattle.xp_protocol.specs.declared.rule.Rule.{Rule}
use Rattle.xp_protocol.specs.Parts.{fails_at}
use Rattle.xp_protocol.specs.Effects.{with_notes}
use Rattle.xp_protocol.specs.Rules.{wanted_of, after_answer, noted_rule}
use Rattle.xp_protocol.specs.Decode.{rule_of}
use Rattle.xp_protocol.specs.Runs.{after_ruled, is_failed}
use Rattle.xp_protocol.specs.Logged.{noted_ruled}
use Rattle.xp_protocol.proofs.Undo.{undo}
use Rattle.xp_channel.specs.Planned.{MayFail}
use Rattle.xp_partition.specs.declared.partition.Partition.{Partition}
use Rattle.xp_partition.specs.Keeping.{state_of, records_at, IsKept}
use Rattle.xp_partition.specs.Partition.{IsPartition}
use Rattle.xp_partition.specs.Partners.{AreRoomy}
use Rattle.xp_steps.specs.Stepping.{CanStep}
use Rattle.xp_node.specs.Node.{answered_by}
use Rattle.xp_node.specs.Turning.{Makes}
use Rattle.xp_node.proofs.Beginning.{partition_on, fewer_notes}

-- only a load of a copy fails
pub may_fail : (s : ScenarioPart) (mark : Option CopyMark) (a : Answer) → is_failed a ≡ fails_at s mark → MayFail mark a
may_fail s mark (Word w) e = tt
may_fail s None Failed e = absurd (cc)
may_fail s (Some mark) Failed e = refl

pub mark_is : (w v : Wanted) → w ≡ v → w.mark ≡ v.mark
mark_is w v e = ap (λ (z : Wanted). z.mark) e

pub makes_by : (p x : Partition) (r : Rule) (w : Wanted) (a : Answer) → IsPartition p → CanStep p.keeping r → w ≡ wanted_of p.keeping.part (state_of p.keeping) r → is_failed a ≡ fails_at p.keeping.part w.mark → state_of x.keeping ≡ after_answer p.keeping.part (state_of p.keeping) r a → ((q c : ℕ) → q < p.keeping.part.count → c < CHANNELS → records_at x.keeping q c ≡ with_notes q c (noted_rule p.keeping.part (state_of p.keeping) r a q c) (records_at p.keeping q c)) → x.keeping.part ≡ p.keeping.part → IsKept x.keeping → (AreRoomy p.keeping.partners → AreRoomy x.keeping.partners) → x.planner ≡ p.planner → Makes p.keeping.part (state_of p.keeping) p x (Some r) (Some (answered_by w a))
makes_by p x r w a h can e fails state records part kept roomy visit =
    let s = p.keeping.part in
    let st = state_of p.keeping in
    let decoded : rule_of s st w.op w.mark ≡ Some r = ap (λ (z : Wanted). rule_of s st z.op z.mark) e ∙ undo s st r can.kept.lawful can.can in
    record {
      may = record {
        rule = r;
        decoded = decoded;
        op = ap (λ (z : Wanted). z.op) e;
        mark = ap (λ (z : Wanted). z.mark) e;
        can = can.can;
        fails = fails;
      };
      follows = decoded;
      state = state ∙ ap (λ (o : Option Rule). after_ruled s st o a) (sym decoded);
      records = λ q c low few. records q c low few ∙ ap (λ (o : Option Rule). with_notes q c (noted_ruled s st o a q c) (records_at p.keeping q c)) (sym decoded);
      visit = visit;
      part = part;
      partition = partition_on p x h kept part visit roomy;
    }

pub makes_none : (p : Partition) → IsPartition p → Makes p.keeping.part (state_of p.keeping) p p None None
makes_none p h = record { may = tt; follows = refl; state = refl; records = λ q c low few. refl; visit = refl; part = refl; partition = h }

pub ruleset making = (may_fail, mark_is, makes_by, fewer_notes)
