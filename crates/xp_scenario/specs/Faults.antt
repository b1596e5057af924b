-- The words by which faults of texts are told.
use Rattle.std.specs.Prelude.{ℕ, List, codes}
use Rattle.xp_scenario.specs.declared.fault.What.{What}
use Rattle.xp_scenario.specs.declared.fault.What.TheVariants as whats

abbrev pub what_text : What → List ℕ
what_text whats.Commands = codes "commands"
what_text whats.PayloadBytes = codes "payload-bytes"
what_text whats.Turns = codes "turns"
what_text whats.Settings = codes "settings"
what_text whats.Scripts = codes "scripts"
