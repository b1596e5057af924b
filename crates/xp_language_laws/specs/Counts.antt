-- How many commands the lines of a text say, and how many bytes of payloads, by their words alone.
use Rattle.std.specs.Prelude.{ℕ, List, [], ◌∷◌, length, Option, Some, None, sum_by}
use Rattle.std.specs.Option.{unwrap_or}
use Rattle.xp_script.specs.declared.log.Verb.{Verb}
use Rattle.xp_script.specs.declared.log.Verb.TheVariants as verbs
use Rattle.xp_text.specs.Lines.{Word, line_of}
use Rattle.xp_text.specs.Payloads.{payload_of}
use Rattle.xp_commands.specs.Verbs.{verb_in}

-- how many bytes a word spells
abbrev pub spelled_by : Word → ℕ
spelled_by w = length (unwrap_or (payload_of w.bytes) [])

-- how many bytes a command sends, by the words after its own
abbrev pub sent : Verb → List Word → ℕ
sent verbs.Send (partner ∷ channel ∷ payload ∷ words) = spelled_by payload
sent verbs.Net (frame ∷ words) = spelled_by frame
sent _ _ = 0

abbrev pub sent_by : Option Verb → List Word → ℕ
sent_by None words = 0
sent_by (Some verb) words = sent verb words

abbrev pub words_bytes : List Word → ℕ
words_bytes [] = 0
words_bytes (w ∷ words) = sent_by (verb_in w.bytes) words

abbrev pub one_if_some : Option Verb → ℕ
one_if_some None = 0
one_if_some (Some verb) = 1

abbrev pub words_commands : List Word → ℕ
words_commands [] = 0
words_commands (w ∷ words) = one_if_some (verb_in w.bytes)

-- the bytes of payloads and frames on a line
abbrev pub line_bytes : List ℕ → ℕ
line_bytes bytes = words_bytes (line_of bytes).words

-- 1 where a line begins with a command's word
abbrev pub line_commands : List ℕ → ℕ
line_commands bytes = words_commands (line_of bytes).words

abbrev pub bytes_in : List (List ℕ) → ℕ
bytes_in lines = sum_by line_bytes lines

abbrev pub commands_in : List (List ℕ) → ℕ
commands_in lines = sum_by line_commands lines
