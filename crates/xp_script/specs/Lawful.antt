-- Which scenarios are lawful: those that a text of the language spells, since every number is in
-- its range, no line stands twice that may stand once, and no limit is passed.
use Rattle.std.specs.Prelude.{◌≡◌, ◌≢◌, ℕ, ◌*◌, ◌^◌, ◌<◌, ◌≤◌, Bool, false, nat_eq, List, [], ◌∷◌, length, slice_index, slice_index_or, count_by, ⊤}
use Rattle.std.specs.List.{list_any, AllByRecursion}
use Rattle.xp_base.specs.declared.layout.TheConstants.{CHANNELS, PART_WORDS, FIRST_MINOR, LAST_MINOR}
use Rattle.xp_base.specs.declared.body.TheConstants.{SEND_BYTES}
use Rattle.xp_base.specs.declared.frame.TheConstants.{HEADER_BYTES, FRAME_BYTES}
use Rattle.xp_base.specs.Windows.{window_of}
use Rattle.xp_script.specs.declared.limits.TheConstants.{BUDGET_LIMIT, CHECK_WINDOWS, CHECK_LIMIT, RESTART_LIMIT, DEVICE_CHANNEL, IDLE_LIMIT, COMMAND_LIMIT, PAYLOAD_BYTES_LIMIT, TURN_LIMIT, SETTING_LIMIT, SCRIPT_LIMIT}
use Rattle.xp_script.specs.declared.setting.Minor.{Minor}
use Rattle.xp_script.specs.declared.setting.Warm.{Warm}
use Rattle.xp_script.specs.declared.setting.Fault.{Fault}
use Rattle.xp_script.specs.declared.setting.Moment.{Moment}
use Rattle.xp_script.specs.declared.setting.Moment.TheVariants.{Put, Turn}
use Rattle.xp_script.specs.declared.setting.Stop.{Stop}
use Rattle.xp_script.specs.declared.setting.Restart.{Restart}
use Rattle.xp_script.specs.declared.setting.Poke.{Poke}
use Rattle.xp_script.specs.declared.command.Command.{Command}
use Rattle.xp_script.specs.declared.command.Command.TheVariants as commands
use Rattle.xp_script.specs.declared.schedule.Plan.{Plan}
use Rattle.xp_script.specs.declared.schedule.Plan.TheVariants.{Turns, Rounds}
use Rattle.xp_script.specs.declared.scenario.Scenario.{Scenario}
use Rattle.xp_script.specs.Sizes.{IsCount, IsSize, longest_limit}
use Rattle.xp_script.specs.Settings.{joins, minor_of}
use Rattle.xp_script.specs.Totals.{command_count, payload_bytes, turn_count, plans_of, setting_count}

-- a number of 64 bits
abbrev pub IsWord : ℕ → Type 0
IsWord n = n < 2 ^ 64

-- each number of the list is a byte
abbrev pub AreBytes : List ℕ → Type 0
AreBytes bytes = (i : ℕ) → slice_index bytes i < 2 ^ 8

-- ---- settings

-- no heartbeat checks, or an interval of four windows or more
pub record IsLawfulCheck (count check : ℕ) : Type 0 where
  pub low : check ≢ 0 → CHECK_WINDOWS * window_of count ≤ check
  pub high : check ≤ CHECK_LIMIT

pub record IsLawfulMinor (count : ℕ) (m : Minor) : Type 0 where
  pub part : m.part < count
  pub low : FIRST_MINOR ≤ m.version
  pub high : m.version ≤ LAST_MINOR

-- two different partitions, and a size that both may register
pub record IsLawfulWarm (count : ℕ) (minors : List Minor) (w : Warm) : Type 0 where
  pub first : w.first < count
  pub second : w.second < count
  pub different : w.first ≢ w.second
  pub channel : w.channel < CHANNELS
  pub first_size : IsSize (longest_limit (minor_of w.first minors)) w.entries w.limit
  pub second_size : IsSize (longest_limit (minor_of w.second minors)) w.entries w.limit

pub record IsLawfulFault (count : ℕ) (f : Fault) : Type 0 where
  pub part : f.part < count
  pub low : 1 ≤ f.copy
  pub copy : IsWord f.copy
  pub load : IsWord f.load

-- messages count from 1, turns from 0
abbrev pub IsLawfulMoment : Moment → Type 0
IsLawfulMoment (Put k) = (1 ≤ k) × IsWord k
IsLawfulMoment (Turn t) = IsWord t

abbrev pub IsLawfulStop : ℕ → Stop → Type 0
IsLawfulStop count x = (x.part < count) × IsLawfulMoment x.moment

abbrev pub IsLawfulRestart : ℕ → Restart → Type 0
IsLawfulRestart count x = (x.part < count) × IsLawfulMoment x.moment

pub record IsLawfulPoke (count : ℕ) (x : Poke) : Type 0 where
  pub turn : IsWord x.turn
  pub owner : x.owner < count
  pub index : x.index < PART_WORDS
  pub word : IsWord x.word

-- both lines are of one pair and channel
abbrev pub join_the_same : Warm → Warm → Bool
join_the_same v w = joins v.first v.second v.channel w

-- which lines name partition p
abbrev pub is_minor_of : ℕ → Minor → Bool
is_minor_of p m = nat_eq m.part p

abbrev pub is_stop_of : ℕ → Stop → Bool
is_stop_of p x = nat_eq x.part p

abbrev pub is_restart_of : ℕ → Restart → Bool
is_restart_of p x = nat_eq x.part p

-- at most one line says the minor version of a partition
pub record AreLawfulMinors (count : ℕ) (minors : List Minor) : Type 0 where
  pub each : AllByRecursion (IsLawfulMinor count) minors
  pub one : (p : ℕ) → p < count → count_by (is_minor_of p) minors ≤ 1

-- no later line is of the pair and channel of an earlier one
abbrev pub AreDistinctWarms : List Warm → Type 0
AreDistinctWarms [] = ⊤
AreDistinctWarms (w ∷ ws) = (list_any (join_the_same w) ws ≡ false) × AreDistinctWarms ws

pub record AreLawfulWarms (count : ℕ) (minors : List Minor) (warms : List Warm) : Type 0 where
  pub each : AllByRecursion (IsLawfulWarm count minors) warms
  pub one : AreDistinctWarms warms

-- a partition stops at most once
pub record AreLawfulStops (count : ℕ) (stops : List Stop) : Type 0 where
  pub each : AllByRecursion (IsLawfulStop count) stops
  pub one : (p : ℕ) → p < count → count_by (is_stop_of p) stops ≤ 1

pub record AreLawfulRestarts (count : ℕ) (restarts : List Restart) : Type 0 where
  pub each : AllByRecursion (IsLawfulRestart count) restarts
  pub few : (p : ℕ) → p < count → count_by (is_restart_of p) restarts ≤ RESTART_LIMIT

-- ---- commands of a script of partition `own` with this minor version, among `count` partitions

-- q is another partition
abbrev pub IsPeer : ℕ → ℕ → ℕ → Type 0
IsPeer count own q = (q < count) × (q ≢ own)

-- q is another partition, and c a channel
pub record IsEnd (count own q c : ℕ) : Type 0 where
  pub partner : q < count
  pub other : q ≢ own
  pub channel : c < CHANNELS

-- q is another partition, and c a channel on which scripts send and take
pub record IsMessageEnd (count own q c : ℕ) : Type 0 where
  pub end : IsEnd count own q c
  pub message : c ≢ DEVICE_CHANNEL

abbrev pub IsLawfulCommand : ℕ → ℕ → ℕ → Command → Type 0
IsLawfulCommand count own minor (commands.Register q c entries limit) =
    IsEnd count own q c × IsSize (longest_limit minor) entries limit
IsLawfulCommand count own minor (commands.Unregister q c) = IsEnd count own q c
IsLawfulCommand count own minor (commands.Connected q c) = IsEnd count own q c
IsLawfulCommand count own minor (commands.Closed q c) = IsEnd count own q c
IsLawfulCommand count own minor (commands.Send q c payload wait notify) =
    IsMessageEnd count own q c × (length payload ≤ SEND_BYTES) × AreBytes payload
IsLawfulCommand count own minor (commands.Take q c wait) = IsMessageEnd count own q c
IsLawfulCommand count own minor (commands.Release q c number) =
    IsMessageEnd count own q c × IsWord number
IsLawfulCommand count own minor (commands.Drain q c) = IsEnd count own q c
IsLawfulCommand count own minor (commands.Net frame) =
    (HEADER_BYTES ≤ length frame) × (length frame ≤ FRAME_BYTES) × AreBytes frame
IsLawfulCommand count own minor (commands.Frames frames) = IsWord frames
IsLawfulCommand count own minor (commands.Deactivate q) = IsPeer count own q
IsLawfulCommand count own minor (commands.Activate q) = IsPeer count own q
IsLawfulCommand count own minor commands.Leave = ⊤
IsLawfulCommand count own minor (commands.Idle turns) = (1 ≤ turns) × (turns ≤ IDLE_LIMIT)
IsLawfulCommand count own minor commands.Offline = ⊤
IsLawfulCommand count own minor commands.Online = ⊤

abbrev pub AreLawfulCommands : ℕ → ℕ → ℕ → List Command → Type 0
AreLawfulCommands count own minor script = AllByRecursion (IsLawfulCommand count own minor) script

abbrev pub AreLawfulBoots : ℕ → ℕ → ℕ → List (List Command) → Type 0
AreLawfulBoots count own minor boots = AllByRecursion (AreLawfulCommands count own minor) boots

-- the scripts of a partition, one for each boot
abbrev pub boots_of : Scenario → ℕ → List (List Command)
boots_of s p = slice_index_or s.scripts p []

-- ---- schedule

abbrev pub IsLawfulPlan : ℕ → Plan → Type 0
IsLawfulPlan count (Turns p n) = (p < count) × IsWord n
IsLawfulPlan count (Rounds n) = IsWord n

-- ---- the whole

pub record HasLawfulNumbers (s : Scenario) : Type 0 where
  pub count : IsCount s.count
  pub budget_low : 1 ≤ s.budget
  pub budget_high : s.budget ≤ BUDGET_LIMIT
  pub check : IsLawfulCheck s.count s.check

pub record HasLawfulSettings (s : Scenario) : Type 0 where
  pub minors : AreLawfulMinors s.count s.minors
  pub warms : AreLawfulWarms s.count s.minors s.warms
  pub faults : AllByRecursion (IsLawfulFault s.count) s.faults
  pub stops : AreLawfulStops s.count s.stops
  pub restarts : AreLawfulRestarts s.count s.restarts
  pub pokes : AllByRecursion (IsLawfulPoke s.count) s.pokes

-- the scripts of partition p
pub record HasLawfulBoots (s : Scenario) (p : ℕ) : Type 0 where
  pub commands : AreLawfulBoots s.count p (minor_of p s.minors) (boots_of s p)
  pub few : length (boots_of s p) ≤ SCRIPT_LIMIT

pub record HasLawfulScripts (s : Scenario) : Type 0 where
  pub parts : length s.scripts ≡ s.count
  pub boots : (p : ℕ) → p < s.count → HasLawfulBoots s p

pub record IsWithinLimits (s : Scenario) : Type 0 where
  pub commands : command_count s.scripts ≤ COMMAND_LIMIT
  pub bytes : payload_bytes s.scripts ≤ PAYLOAD_BYTES_LIMIT
  pub turns : turn_count s.count (plans_of s.schedule) ≤ TURN_LIMIT
  pub budgets : s.count * s.budget ≤ TURN_LIMIT
  pub settings : setting_count s ≤ SETTING_LIMIT

pub record IsLawful (s : Scenario) : Type 0 where
  pub numbers : HasLawfulNumbers s
  pub settings : HasLawfulSettings s
  pub scripts : HasLawfulScripts s
  pub plans : AllByRecursion (IsLawfulPlan s.count) (plans_of s.schedule)
  pub limits : IsWithinLimits s
