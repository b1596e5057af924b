use Rattle.xp_scenario.proofs.LawfulScenarios.{told_lawful}
use Rattle.xp_scenario.proofs.Spellings.{is_found, is_told, is_bad, is_much, spelled_again, each_bad, passes_again}
use Rattle.xp_scenario.proofs.text.parse.Goals as goal

pub returns-clause-lawful : goal.returns-clause-lawful
returns-clause-lawful c = told_lawful c.args.text.now c.read.result c.read.ensures

pub returns-clause-found : goal.returns-clause-found
returns-clause-found c = is_found c.args.text.now c.read.result c.read.ensures

pub returns-clause-each_found : goal.returns-clause-each_found
returns-clause-each_found c = λ s h. is_told c.args.text.now c.read.result _ (spelled_again c.args.text.now s h) c.read.ensures

pub returns-clause-bad : goal.returns-clause-bad
returns-clause-bad c = λ line column cause e. is_bad c.args.text.now c.read.result line column cause e c.read.ensures

pub returns-clause-each_bad : goal.returns-clause-each_bad
returns-clause-each_bad c = λ line column cause h. is_told c.args.text.now c.read.result _ (each_bad c.args.text.now line column cause h) c.read.ensures

pub returns-clause-much : goal.returns-clause-much
returns-clause-much c = λ what limit e. is_much c.args.text.now c.read.result what limit e c.read.ensures

pub returns-clause-each_much : goal.returns-clause-each_much
returns-clause-each_much c = λ what limit h. is_told c.args.text.now c.read.result _ (passes_again c.args.text.now what limit h) c.read.ensures
