-- The words of each line.
use Rattle.std.specs.Prelude.{ℕ, Bool, true, false, codes, List, [], ◌∷◌}
use Rattle.std.specs.Fmt.{decimal}
use Rattle.xp_base.specs.Reasons.{copy_text}
use Rattle.xp_script.specs.declared.command.Command.{Command}
use Rattle.xp_script.specs.declared.command.Command.TheVariants as commands
use Rattle.xp_script.specs.declared.setting.Minor.{Minor}
use Rattle.xp_script.specs.declared.setting.Warm.{Warm}
use Rattle.xp_script.specs.declared.setting.Fault.{Fault}
use Rattle.xp_script.specs.declared.setting.Moment.{Moment}
use Rattle.xp_script.specs.declared.setting.Moment.TheVariants.{Put, Turn}
use Rattle.xp_script.specs.declared.setting.Stop.{Stop}
use Rattle.xp_script.specs.declared.setting.Restart.{Restart}
use Rattle.xp_script.specs.declared.setting.Poke.{Poke}
use Rattle.xp_script.specs.declared.schedule.Plan.{Plan}
use Rattle.xp_script.specs.declared.schedule.Plan.TheVariants.{Turns, Rounds}
use Rattle.xp_print.specs.Payloads.{payload_word}

-- ---- commands

-- the optional words
abbrev pub waits : Bool → List (List ℕ) → List (List ℕ)
waits true more = more
waits false more = codes "nowait" ∷ more

abbrev pub notifies : Bool → List (List ℕ)
notifies true = codes "notify" ∷ []
notifies false = []

abbrev pub command_words : Command → List (List ℕ)
command_words (commands.Register q c n l) =
    codes "register" ∷ decimal q ∷ decimal c
    ∷ codes "entries" ∷ decimal n ∷ codes "limit" ∷ decimal l ∷ []
command_words (commands.Unregister q c) = codes "unregister" ∷ decimal q ∷ decimal c ∷ []
command_words (commands.Connected q c) = codes "connected" ∷ decimal q ∷ decimal c ∷ []
command_words (commands.Closed q c) = codes "closed" ∷ decimal q ∷ decimal c ∷ []
command_words (commands.Send q c payload wait notify) =
    codes "send" ∷ decimal q ∷ decimal c ∷ payload_word payload ∷ waits wait (notifies notify)
command_words (commands.Take q c wait) = codes "take" ∷ decimal q ∷ decimal c ∷ waits wait []
command_words (commands.Release q c n) = codes "release" ∷ decimal q ∷ decimal c ∷ decimal n ∷ []
command_words (commands.Drain q c) = codes "drain" ∷ decimal q ∷ decimal c ∷ []
command_words (commands.Net frame) = codes "net" ∷ payload_word frame ∷ []
command_words (commands.Frames n) = codes "frames" ∷ decimal n ∷ []
command_words (commands.Deactivate q) = codes "deactivate" ∷ decimal q ∷ []
command_words (commands.Activate q) = codes "activate" ∷ decimal q ∷ []
command_words commands.Leave = codes "leave" ∷ []
command_words (commands.Idle n) = codes "idle" ∷ decimal n ∷ []
command_words commands.Offline = codes "offline" ∷ []
command_words commands.Online = codes "online" ∷ []

-- ---- settings

abbrev pub minor_words : Minor → List (List ℕ)
minor_words m = codes "minor" ∷ decimal m.part ∷ decimal m.version ∷ []

abbrev pub warm_words : Warm → List (List ℕ)
warm_words w =
    codes "warm" ∷ decimal w.first ∷ decimal w.second ∷ decimal w.channel
    ∷ codes "entries" ∷ decimal w.entries ∷ codes "limit" ∷ decimal w.limit ∷ []

abbrev pub fault_words : Fault → List (List ℕ)
fault_words f =
    codes "fault" ∷ decimal f.part ∷ copy_text f.kind ∷ decimal f.copy
    ∷ codes "at" ∷ decimal f.load ∷ []

abbrev pub moment_words : Moment → List (List ℕ)
moment_words (Put k) = codes "put" ∷ decimal k ∷ []
moment_words (Turn t) = codes "turn" ∷ decimal t ∷ []

abbrev pub stop_words : Stop → List (List ℕ)
stop_words x = codes "stop" ∷ decimal x.part ∷ moment_words x.moment

abbrev pub restart_words : Restart → List (List ℕ)
restart_words x = codes "restart" ∷ decimal x.part ∷ moment_words x.moment

abbrev pub poke_words : Poke → List (List ℕ)
poke_words x =
    codes "poke" ∷ decimal x.turn ∷ decimal x.owner ∷ decimal x.index ∷ decimal x.word ∷ []

-- ---- the schedule

abbrev pub plan_words : Plan → List (List ℕ)
plan_words (Turns p n) = codes "turns" ∷ decimal p ∷ decimal n ∷ []
plan_words (Rounds n) = codes "rounds" ∷ decimal n ∷ []
