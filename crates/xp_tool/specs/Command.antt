-- What each command of the program means. A new command adds a case to each definition of this
-- page, and changes no clause of the top call.
use Rattle.std.specs.Prelude.{◌≡◌, ℕ, ◌⊎◌, List, [], Bool, true, false, not, Option, Some, None, Ok, Err}
use Rattle.xp_dump.specs.Grammar.{dump_bytes, IsDump, IsPast, IsCut}
use Rattle.xp_dump.specs.Grammar.{IsRefused as HasBadWord}
use Rattle.xp_listing.specs.Listing.{listing_of}
use Rattle.xp_generator.specs.Generated.{generated}
use Rattle.xp_print.specs.Text.{text_of as printed}
use Rattle.xp_script.specs.declared.scenario.Scenario.{Scenario}
use Rattle.xp_lawful.specs.Built.{IsBuilt}
use Rattle.xp_report.specs.Report.{report_of}
use Rattle.xp_report.specs.Summary.{summary_of}
use Rattle.xp_forms.specs.declared.fault.LineCause.{LineCause}
use Rattle.xp_forms.specs.declared.fault.LineCause.TheVariants.{PokeInRun}
use Rattle.xp_scenario.specs.declared.fault.ScenarioFault.TheVariants as faults
use Rattle.xp_scenario.specs.Pokes.{poke_in}
use Rattle.xp_scenario.specs.Text.{scenario_in}
use Rattle.xp_threads.specs.Running.{RanThreads}
use Rattle.xp_world.specs.declared.world.World.{World}
use Rattle.xp_world.specs.World.{Replayed, IsReady}
use Rattle.xp_tool.specs.declared.command.TheConstants.{SCENARIO_LIMIT, DUMP_LIMIT}
use Rattle.xp_tool.specs.declared.command.ToolCommand.{ToolCommand}
use Rattle.xp_tool.specs.declared.command.ToolCommand.TheVariants.{Replay, Run, Dump, Decode, Gen, Big}
use Rattle.xp_tool.specs.declared.product.Product.{Product}
use Rattle.xp_tool.specs.declared.product.Product.TheVariants as product
use Rattle.xp_tool.specs.declared.status.InputFault.{InputFault}
use Rattle.xp_tool.specs.declared.status.InputFault.TheVariants.{BadLine, TooMany, Unbuilt, Page, Trailing}

-- the command needs no threads
abbrev pub is_plain : ToolCommand → Bool
is_plain Replay = true
is_plain Run = false
is_plain Dump = true
is_plain Decode = true
is_plain (Gen n) = true
is_plain (Big n) = true

-- there is a command, and it needs threads
abbrev pub needs_threads : Option ToolCommand → Bool
needs_threads None = false
needs_threads (Some command) = not (is_plain command)

-- how many bytes the command reads at most; none where it reads nothing
abbrev pub limit_of : ToolCommand → Option ℕ
limit_of Replay = Some SCENARIO_LIMIT
limit_of Run = Some SCENARIO_LIMIT
limit_of Dump = Some SCENARIO_LIMIT
limit_of Decode = Some DUMP_LIMIT
limit_of (Gen n) = None
limit_of (Big n) = None

-- the rules of today can run the scenario, and the world is what its replay leaves
pub record Leads (scenario : Scenario) (world : World) : Type 0 where
  pub built : IsBuilt scenario
  pub replayed : Replayed scenario world
  pub ready : IsReady world

-- the rules of today can't run the scenario, and this fault says so
abbrev pub IsNotBuilt : Scenario → InputFault → Type 0
IsNotBuilt scenario (BadLine line column cause) = ⊥
IsNotBuilt scenario (TooMany what limit) = ⊥
IsNotBuilt scenario Unbuilt = IsBuilt scenario → ⊥
IsNotBuilt scenario (Page fault) = ⊥
IsNotBuilt scenario (Trailing offset) = ⊥

-- the input spells a scenario, and the world is what its replay leaves
pub record Replays (input : List ℕ) (world : World) : Type 0 where
  pub scenario : Scenario
  pub spelled : scenario_in input ≡ Ok scenario
  pub leads : Leads scenario world

-- the input spells a scenario that the rules of today can't run
pub record IsUnbuilt (input : List ℕ) : Type 0 where
  pub scenario : Scenario
  pub spelled : scenario_in input ≡ Ok scenario
  pub unbuilt : IsBuilt scenario → ⊥

-- the input spells no scenario that can be run, and this fault says where and why
abbrev pub IsNoScenario : List ℕ → InputFault → Type 0
IsNoScenario input (BadLine line column cause) =
    scenario_in input ≡ Err (faults.BadLine line column cause)
IsNoScenario input (TooMany what limit) = scenario_in input ≡ Err (faults.TooMany what limit)
IsNoScenario input Unbuilt = IsUnbuilt input
IsNoScenario input (Page fault) = ⊥
IsNoScenario input (Trailing offset) = ⊥

-- the input spells a scenario that pokes no word and can be run, and the world is what its
-- partitions leave as threads
pub record Runs (input : List ℕ) (world : World) : Type 0 where
  pub scenario : Scenario
  pub spelled : scenario_in input ≡ Ok scenario
  pub unpoked : poke_in input ≡ None
  pub built : IsBuilt scenario
  pub ran : RanThreads scenario world
  pub ready : IsReady world

-- the input spells a scenario, and the first of its lines that poke a word stands here
pub record IsPokedAt (input : List ℕ) (line column : ℕ) (cause : LineCause) : Type 0 where
  pub scenario : Scenario
  pub spelled : scenario_in input ≡ Ok scenario
  pub place : poke_in input ≡ Some (line, column)
  pub is : cause ≡ PokeInRun

-- the input spells no scenario that can be run in threads, and this fault says where and why. A line
-- that pokes a word yields to every other fault of the text
abbrev pub IsNoRun : List ℕ → InputFault → Type 0
IsNoRun input (BadLine line column cause) =
    (scenario_in input ≡ Err (faults.BadLine line column cause)) ⊎ IsPokedAt input line column cause
IsNoRun input (TooMany what limit) = scenario_in input ≡ Err (faults.TooMany what limit)
IsNoRun input Unbuilt = (poke_in input ≡ None) × IsUnbuilt input
IsNoRun input (Page fault) = ⊥
IsNoRun input (Trailing offset) = ⊥

-- the input is no dump, and this fault says where and why: its first word that isn't allowed, or
-- its end where bytes are missing, or the first byte behind a whole dump
abbrev pub IsNoDump : List ℕ → InputFault → Type 0
IsNoDump input (BadLine line column cause) = ⊥
IsNoDump input (TooMany what limit) = ⊥
IsNoDump input Unbuilt = ⊥
IsNoDump input (Page fault) = HasBadWord input fault ⊎ IsCut input fault
IsNoDump input (Trailing offset) = IsPast input offset

-- the input isn't in the command's grammar, or can't be run, and this fault says where and why
abbrev pub IsRefused : ToolCommand → List ℕ → InputFault → Type 0
IsRefused Replay input fault = IsNoScenario input fault
IsRefused Run input fault = IsNoRun input fault
IsRefused Dump input fault = IsNoScenario input fault
IsRefused Decode input fault = IsNoDump input fault
IsRefused (Gen n) input fault = ⊥
IsRefused (Big n) input fault = IsNotBuilt (generated n) fault

-- the product is a world that the input's scenario leads to
abbrev pub IsReplay : List ℕ → Product → Type 0
IsReplay input (product.Replayed world) = Replays input world
IsReplay input (product.Ran world) = ⊥
IsReplay input (product.Told words) = ⊥
IsReplay input (product.Generated scenario) = ⊥

-- the product is a world that the input's partitions leave as threads
abbrev pub IsRun : List ℕ → Product → Type 0
IsRun input (product.Replayed world) = ⊥
IsRun input (product.Ran world) = Runs input world
IsRun input (product.Told words) = ⊥
IsRun input (product.Generated scenario) = ⊥

-- the product is the words that the input tells as a dump
abbrev pub IsTold : List ℕ → Product → Type 0
IsTold input (product.Replayed world) = ⊥
IsTold input (product.Ran world) = ⊥
IsTold input (product.Told words) = IsDump input words
IsTold input (product.Generated scenario) = ⊥

-- the product is the scenario of the number
abbrev pub IsGenerated : ℕ → Product → Type 0
IsGenerated n (product.Replayed world) = ⊥
IsGenerated n (product.Ran world) = ⊥
IsGenerated n (product.Told words) = ⊥
IsGenerated n (product.Generated scenario) = scenario ≡ generated n

-- the product is a world that the scenario of the number leads to
abbrev pub IsGeneratedReplay : ℕ → Product → Type 0
IsGeneratedReplay n (product.Replayed world) = Leads (generated n) world
IsGeneratedReplay n (product.Ran world) = ⊥
IsGeneratedReplay n (product.Told words) = ⊥
IsGeneratedReplay n (product.Generated scenario) = ⊥

-- what the command makes of its input
abbrev pub Does : ToolCommand → List ℕ → Product → Type 0
Does Replay input made = IsReplay input made
Does Run input made = IsRun input made
Does Dump input made = IsReplay input made
Does Decode input made = IsTold input made
Does (Gen n) input made = IsGenerated n made
Does (Big n) input made = IsGeneratedReplay n made

-- the text that the command writes of its product, and none of what another command makes
abbrev pub text_of : ToolCommand → Product → List ℕ
text_of Replay (product.Replayed world) = report_of world.nodes.items
text_of Run (product.Ran world) = report_of world.nodes.items
text_of Dump (product.Replayed world) = dump_bytes world.words
text_of Decode (product.Told words) = listing_of words
text_of (Gen n) (product.Generated scenario) = printed scenario
text_of (Big n) (product.Replayed world) = summary_of n world.nodes.items
text_of command made = []

-- the world that is left of a product
abbrev pub end_of : Product → Option World
end_of (product.Replayed world) = Some world
end_of (product.Ran world) = Some world
end_of (product.Told words) = None
end_of (product.Generated scenario) = None

-- the command leaves a world
abbrev pub LeavesWorld : ToolCommand → Type 0
LeavesWorld Replay = Unit {0}
LeavesWorld Run = Unit {0}
LeavesWorld Dump = Unit {0}
LeavesWorld Decode = ⊥
LeavesWorld (Gen n) = ⊥
LeavesWorld (Big n) = Unit {0}
