-- What the top call needs to know of each command. A new command adds a case to each lemma.
use Rattle.std.proofs.Common.{◌≡◌, ℕ, ◌↔◌, inl, inr, Bool, true, false, List, Option, Some, None, Result, Ok, Err, IsSome, refl, subst, arith}
use Rattle.xp_script.specs.declared.scenario.Scenario.{Scenario}
use Rattle.xp_lawful.specs.Built.{IsBuilt}
use Rattle.xp_scenario.specs.declared.fault.ScenarioFault.{ScenarioFault}
use Rattle.xp_scenario.specs.declared.fault.ScenarioFault.TheVariants as faults
use Rattle.xp_scenario.specs.Pokes.{poke_in}
use Rattle.xp_scenario.specs.Text.{scenario_in}
use Rattle.xp_tool.specs.declared.command.ToolCommand.{ToolCommand}
use Rattle.xp_tool.specs.declared.command.ToolCommand.TheVariants.{Replay, Run, Dump, Decode, Gen, Big}
use Rattle.xp_tool.specs.declared.product.Product.{Product}
use Rattle.xp_tool.specs.declared.product.Product.TheVariants.{Replayed, Ran, Told, Generated}
use Rattle.xp_tool.specs.declared.status.InputFault.{InputFault}
use Rattle.xp_tool.specs.declared.status.InputFault.TheVariants.{BadLine, TooMany, Unbuilt, Page, Trailing}
use Rattle.xp_base.specs.Memory.{Memory}
use Rattle.xp_page.specs.Reading.{word_in}
use Rattle.xp_dump.specs.Grammar.{IsDump, word_allowed}
use Rattle.xp_generator.specs.Generated.{generated}
use Rattle.xp_tool.specs.Command.{Does, IsReplay, IsRun, IsTold, IsGenerated, IsGeneratedReplay, IsRefused, IsNoScenario, IsNoRun, IsNotBuilt, IsNoDump, LeavesWorld, end_of, needs_threads}
use Rattle.xp_tool.specs.Plain.{only_plain}

abbrev Spelled : Type 0
Spelled = Result Scenario ScenarioFault

same_ok : (s t : Scenario) → (x y : Spelled) → x ≡ Ok s → y ≡ Ok t → x ≡ y → s ≡ t
same_ok s t x y p q e = cc

no_both : (s : Scenario) (fault : ScenarioFault) (x : Spelled) → x ≡ Ok s → x ≡ Err fault → ⊥
no_both s fault x p q = absurd cc

-- an input whose scenario was replayed has no fault
replay_good : (input : List ℕ) (made : Product) (fault : InputFault) → IsReplay input made → IsNoScenario input fault → ⊥
replay_good input (Replayed world) (BadLine line column cause) d r =
    absurd (no_both d.scenario (faults.BadLine line column cause) (scenario_in input) d.spelled r)
replay_good input (Replayed world) (TooMany what limit) d r =
    absurd (no_both d.scenario (faults.TooMany what limit) (scenario_in input) d.spelled r)
replay_good input (Replayed world) Unbuilt d r =
    let same : d.scenario ≡ r.scenario = same_ok d.scenario r.scenario (scenario_in input) (scenario_in input) d.spelled r.spelled refl in
    r.unbuilt (subst (λ (s : Scenario). IsBuilt s) same d.leads.built)
replay_good input (Replayed world) (Page fault) d r = r
replay_good input (Replayed world) (Trailing offset) d r = r
replay_good input (Ran world) fault d r = absurd d
replay_good input (Told words) fault d r = absurd d
replay_good input (Generated scenario) fault d r = absurd d

some_none : (o : Option (ℕ × ℕ)) (x : ℕ × ℕ) → o ≡ None → o ≡ Some x → ⊥
some_none o x p q = absurd cc

-- an input whose scenario was run has no fault
run_good : (input : List ℕ) (made : Product) (fault : InputFault) → IsRun input made → IsNoRun input fault → ⊥
run_good input (Ran world) (BadLine line column cause) d (inl r) =
    absurd (no_both d.scenario (faults.BadLine line column cause) (scenario_in input) d.spelled r)
run_good input (Ran world) (BadLine line column cause) d (inr r) = some_none (poke_in input) (line, column) d.unpoked r.place
run_good input (Ran world) (TooMany what limit) d r =
    absurd (no_both d.scenario (faults.TooMany what limit) (scenario_in input) d.spelled r)
run_good input (Ran world) Unbuilt d r =
    let u = r.1 in
    let same : d.scenario ≡ u.scenario = same_ok d.scenario u.scenario (scenario_in input) (scenario_in input) d.spelled u.spelled refl in
    u.unbuilt (subst (λ (s : Scenario). IsBuilt s) same d.built)
run_good input (Ran world) (Page fault) d r = r
run_good input (Ran world) (Trailing offset) d r = r
run_good input (Replayed world) fault d r = absurd d
run_good input (Told words) fault d r = absurd d
run_good input (Generated scenario) fault d r = absurd d

both_ways : (b : Bool) → b ≡ true → b ≡ false → ⊥
both_ways true e f = cc
both_ways false e f = cc

-- a dump has no fault
dump_good : (input : List ℕ) (words : Memory) (fault : InputFault) → IsDump input words → IsNoDump input fault → ⊥
dump_good input words (BadLine line column cause) d r = r
dump_good input words (TooMany what limit) d r = r
dump_good input words Unbuilt d r = r
dump_good input words (Page fault) d (inl bad) =
    both_ways (word_allowed (word_in input) bad.word) (d.fine.allowed bad.word bad.whole) bad.refused
dump_good input words (Page fault) d (inr cut) = let short = cut.short in let whole = d.whole in omega (arith, short, whole)
dump_good input words (Trailing offset) d r = let past = r.past in let whole = d.whole in omega (arith, past, whole)

told_good : (input : List ℕ) (made : Product) (fault : InputFault) → IsTold input made → IsNoDump input fault → ⊥
told_good input (Replayed world) fault d r = d
told_good input (Ran world) fault d r = d
told_good input (Told words) fault d r = dump_good input words fault d r
told_good input (Generated scenario) fault d r = d

-- a number whose scenario was replayed has no fault
big_good : (n : ℕ) (made : Product) (fault : InputFault) → IsGeneratedReplay n made → IsNotBuilt (generated n) fault → ⊥
big_good n (Replayed world) (BadLine line column cause) d r = r
big_good n (Replayed world) (TooMany what limit) d r = r
big_good n (Replayed world) Unbuilt d r = r d.built
big_good n (Replayed world) (Page fault) d r = r
big_good n (Replayed world) (Trailing offset) d r = r
big_good n (Ran world) fault d r = d
big_good n (Told words) fault d r = d
big_good n (Generated scenario) fault d r = d

-- what is done of an input isn't refused
pub done_good : (c : ToolCommand) (input : List ℕ) (made : Product) (fault : InputFault) → Does c input made → IsRefused c input fault → ⊥
done_good Replay input made fault d r = replay_good input made fault d r
done_good Run input made fault d r = run_good input made fault d r
done_good Dump input made fault d r = replay_good input made fault d r
done_good Decode input made fault d r = told_good input made fault d r
done_good (Gen n) input made fault d r = r
done_good (Big n) input made fault d r = big_good n made fault d r

replay_leaves : (input : List ℕ) (made : Product) → IsReplay input made → IsSome (end_of made)
replay_leaves input (Replayed world) d = refl
replay_leaves input (Ran world) d = absurd d
replay_leaves input (Told words) d = absurd d
replay_leaves input (Generated scenario) d = absurd d

run_leaves : (input : List ℕ) (made : Product) → IsRun input made → IsSome (end_of made)
run_leaves input (Replayed world) d = absurd d
run_leaves input (Ran world) d = refl
run_leaves input (Told words) d = absurd d
run_leaves input (Generated scenario) d = absurd d

told_leaves : (input : List ℕ) (made : Product) → IsTold input made → IsSome (end_of made) → ⊥
told_leaves input (Replayed world) d e = d
told_leaves input (Ran world) d e = d
told_leaves input (Told words) d e = cc
told_leaves input (Generated scenario) d e = d

gen_leaves : (n : ℕ) (made : Product) → IsGenerated n made → IsSome (end_of made) → ⊥
gen_leaves n (Replayed world) d e = d
gen_leaves n (Ran world) d e = d
gen_leaves n (Told words) d e = d
gen_leaves n (Generated scenario) d e = cc

big_leaves : (n : ℕ) (made : Product) → IsGeneratedReplay n made → IsSome (end_of made)
big_leaves n (Replayed world) d = refl
big_leaves n (Ran world) d = absurd d
big_leaves n (Told words) d = absurd d
big_leaves n (Generated scenario) d = absurd d

-- what is done leaves a world where its command leaves one
pub leaves : (c : ToolCommand) (input : List ℕ) (made : Product) → Does c input made → IsSome (end_of made) ↔ LeavesWorld c
leaves Replay input made d = ((λ x. tt), λ x. replay_leaves input made d)
leaves Run input made d = ((λ x. tt), λ x. run_leaves input made d)
leaves Dump input made d = ((λ x. tt), λ x. replay_leaves input made d)
leaves Decode input made d = ((λ x. told_leaves input made d x), λ x. absurd x)
leaves (Gen n) input made d = ((λ x. gen_leaves n made d x), λ x. absurd x)
leaves (Big n) input made d = ((λ x. tt), λ x. big_leaves n made d)

-- without threads the command is a plain one, or there is none
pub same_plain : (o : Option ToolCommand) → needs_threads o ≡ false → only_plain o ≡ o
same_plain None e = refl
same_plain (Some Replay) e = refl
same_plain (Some Run) e = cc
same_plain (Some Dump) e = refl
same_plain (Some Decode) e = refl
same_plain (Some (Gen n)) e = refl
same_plain (Some (Big n)) e = refl

-- the command that needs threads is the run
pub is_run : (o : Option ToolCommand) → needs_threads o ≡ true → o ≡ Some Run
is_run None e = cc
is_run (Some Replay) e = cc
is_run (Some Run) e = refl
is_run (Some Dump) e = cc
is_run (Some Decode) e = cc
is_run (Some (Gen n)) e = cc
is_run (Some (Big n)) e = cc
