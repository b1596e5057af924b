-- Scripts, one command after the other.
use Rattle.std.specs.Prelude.{ℕ, ◌-◌, List, [], ◌∷◌, ◌++◌, length, slice_index_or, slice_set}
use Rattle.xp_script.specs.declared.command.Command.{Command}

-- a script of p begins
abbrev pub script_begun : ℕ → List (List (List Command)) → List (List (List Command))
script_begun p scripts = slice_set scripts p (slice_index_or scripts p [] ++ [] ∷ [])

-- a command more in the last script
abbrev pub in_last : Command → List (List Command) → List (List Command)
in_last c boots =
    slice_set boots (length boots - 1) (slice_index_or boots (length boots - 1) [] ++ c ∷ [])

-- a command more in the last script of p
abbrev pub command_added : ℕ → Command → List (List (List Command)) → List (List (List Command))
command_added p c scripts = slice_set scripts p (in_last c (slice_index_or scripts p []))
