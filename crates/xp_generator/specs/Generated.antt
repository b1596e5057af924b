-- The scenario of a number: partitions in a ring, each of which sends to the next and takes from
-- the one before it.
use Rattle.std.specs.Prelude.{ℕ, suc, zero, ◌+◌, ◌-◌, ◌*◌, ◌%◌, true, ◌==◌, if◌then◌else◌, List, [], ◌∷◌, ◌++◌, replicate, Some}
use Rattle.xp_base.specs.declared.body.TheConstants.{LINE_BYTES}
use Rattle.xp_script.specs.declared.command.Command.{Command}
use Rattle.xp_script.specs.declared.command.Command.TheVariants.{Register, Connected, Send, Take, Release, Drain}
use Rattle.xp_script.specs.declared.schedule.Plan.TheVariants.{Rounds}
use Rattle.xp_script.specs.declared.scenario.Scenario.{Scenario}
use Rattle.xp_generator.specs.declared.generator.TheConstants.{BUDGET, ENTRIES}

abbrev pub count_of : ℕ → ℕ
count_of n = 2 + n % 7

-- how many messages each partition sends
abbrev pub messages_of : ℕ → ℕ
messages_of n = 100 + 10 * (n % 10)

-- the neighbours of p in the ring
abbrev pub next_of : ℕ → ℕ → ℕ
next_of count p = if p + 1 == count then 0 else p + 1

abbrev pub previous_of : ℕ → ℕ → ℕ
previous_of count p = if p == 0 then count - 1 else p - 1

-- the payload of message k of partition p
abbrev pub payload_of : ℕ → ℕ → ℕ → List ℕ
payload_of n p k = replicate ((n + 7 * k + 13 * p) % 113) ((n + k + 31 * p) % 256)

-- a partition registers with its neighbours, of which there may be one alone, and waits for them
abbrev pub opening : ℕ → ℕ → List Command
opening next previous =
    if previous == next then Register next 0 ENTRIES LINE_BYTES ∷ Connected next 0 ∷ []
    else Register next 0 ENTRIES LINE_BYTES ∷ Register previous 0 ENTRIES LINE_BYTES
    ∷ Connected next 0 ∷ Connected previous 0 ∷ []

-- a partition sends message k, and takes and releases one
abbrev pub exchange : ℕ → ℕ → ℕ → ℕ → ℕ → List Command
exchange n p next previous k =
    Send next 0 (payload_of n p k) true true ∷ Take previous 0 true ∷ Release previous 0 k ∷ []

-- the exchanges of the first messages
abbrev pub exchanges : ℕ → ℕ → ℕ → ℕ → ℕ → List Command
exchanges n p next previous zero = []
exchanges n p next previous (suc k) =
    exchanges n p next previous k ++ exchange n p next previous k

abbrev pub script_between : ℕ → ℕ → ℕ → ℕ → List Command
script_between n p next previous =
    (opening next previous ++ exchanges n p next previous (messages_of n)) ++ Drain next 0 ∷ []

-- the script of partition p among `count`
abbrev pub script_of : ℕ → ℕ → ℕ → List Command
script_of n count p = script_between n p (next_of count p) (previous_of count p)

-- the scripts of the first partitions
abbrev pub scripts_of : ℕ → ℕ → ℕ → List (List (List Command))
scripts_of n count zero = []
scripts_of n count (suc p) = scripts_of n count p ++ (script_of n count p ∷ []) ∷ []

abbrev pub generated : ℕ → Scenario
generated n = record {
  count = count_of n;
  budget = BUDGET;
  check = 0;
  minors = [];
  warms = [];
  faults = [];
  stops = [];
  restarts = [];
  pokes = [];
  scripts = scripts_of n (count_of n) (count_of n);
  schedule = Some (Rounds BUDGET ∷ []);
}
