use Rattle.std.proofs.Common.{◌∙◌, ap, subst}
use Rattle.xp_script.specs.declared.scenario.Scenario.{Scenario}
use Rattle.xp_generator.specs.Generated.{generated}
use Rattle.xp_report.specs.Summary.{summary_of}
use Rattle.xp_tool.specs.Command.{Leads}
use Rattle.xp_tool.proofs.product.summarize_generated.Goals as goal

pub returns-in-Ok-clause-made : goal.returns-in-Ok-clause-made
returns-in-Ok-clause-made c = record {
  done = subst (λ (s : Scenario). Leads s c.in_ok-world.world) c.in_ok-scenario.ensures.generated c.in_ok-world.ensures.leads;
  text = c.in-Ok.ensures ∙ ap (summary_of c.args.n) c.deref.ensures.value;
}
