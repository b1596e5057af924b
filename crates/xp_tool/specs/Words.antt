-- Which words are a command, and what the parser of command lines reads them by.
use Rattle.std.specs.Prelude.{ℕ, ◌==◌, ◌&&◌, nat_le, if◌then◌else◌, List, [], ◌∷◌, length, codes, map, Bool, true, false, Option, Some, None, option_and_then, string_bytes, bytes_eq}
use Rattle.std.specs.declared.string.String.{String}
use Rattle.std.specs.declared.alloc.Global.{Global}
use Rattle.clap.specs.Simple.{App, new_app, new_shape, new_rule, with_rule}
use Rattle.clap.specs.Walk.{Row, Rule, first_of}
use Rattle.xp_text.specs.Numbers.{digits_of}
use Rattle.xp_tool.specs.declared.command.ToolCommand.{ToolCommand}
use Rattle.xp_tool.specs.declared.command.ToolCommand.TheVariants.{Replay, Run, Dump, Decode, Gen, Big}
use Rattle.xp_tool.specs.declared.words.TheConstants.{NUMBER_DIGITS}

-- the command of a name alone
abbrev pub named_of : List ℕ → Option ToolCommand
named_of name =
    if bytes_eq (codes "replay") name then Some Replay
    else (if bytes_eq (codes "run") name then Some Run
    else (if bytes_eq (codes "dump") name then Some Dump
    else (if bytes_eq (codes "decode") name then Some Decode else None)))

-- the command of a name and a number
abbrev pub numbered_of : List ℕ → ℕ → Option ToolCommand
numbered_of name n =
    if bytes_eq (codes "gen") name then Some (Gen n)
    else (if bytes_eq (codes "big") name then Some (Big n) else None)

-- the number that a word of a few digits spells
abbrev pub number_of : List ℕ → Option ℕ
number_of word =
    if nat_le 1 (length word) && nat_le (length word) NUMBER_DIGITS then digits_of word else None

-- the command of a name, and of the word behind it where there is one
abbrev pub command_met : List ℕ → Option (List ℕ) → Option ToolCommand
command_met name None = named_of name
command_met name (Some word) = option_and_then (numbered_of name) (number_of word)

-- the command that some texts are: its name, and its number where it takes one
abbrev pub spelled_by : List (List ℕ) → Option ToolCommand
spelled_by [] = None
spelled_by (name ∷ []) = command_met name None
spelled_by (name ∷ word ∷ []) = command_met name (Some word)
spelled_by (name ∷ word ∷ other ∷ more) = None

-- the command that some words are
abbrev pub command_of : List (String Global) → Option ToolCommand
command_of words = spelled_by (map string_bytes words)

-- how the parser of command lines calls a command's number
abbrev pub number_id : List ℕ
number_id = codes "N"

-- the command that was met, if one was, by its name and what was found behind it
abbrev pub command_in : Option (List ℕ × List Row) → Option ToolCommand
command_in None = None
command_in (Some met) = command_met met.0 (first_of number_id met.1)

-- the word begins with a hyphen
abbrev pub is_flag : List ℕ → Bool
is_flag [] = false
is_flag (first ∷ rest) = first == 45

-- a command that takes a number, which has to stand
abbrev pub number_rule : Rule
number_rule = record (new_rule number_id) { required = true }

abbrev pub numbered_app : List ℕ → App
numbered_app name = with_rule (new_app name) number_rule

-- the program has each command as a subcommand, and neither flags nor help
abbrev pub grammar_app : App
grammar_app = record {
  top = record (new_shape (codes "xpsim")) {
    is_leaf = false;
    no_binary_name = true;
    disable_help_flag = true;
    disable_help_subcommand = true;
    subcommand_required = true;
  };
  subs = new_shape (codes "replay") ∷ new_shape (codes "run") ∷ new_shape (codes "dump")
      ∷ new_shape (codes "decode") ∷ (numbered_app (codes "gen")).top
      ∷ (numbered_app (codes "big")).top ∷ [];
}
