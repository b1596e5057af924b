-- Where a text writes memory from outside.
use Rattle.std.specs.Prelude.{ℕ, ◌+◌, codes, List, [], ◌∷◌, Option, Some, None}
use Rattle.xp_text.specs.declared.parts.TheConstants.{LINE_END}
use Rattle.xp_text.specs.Lines.{Line, parts_of, line_of, accepted}

-- the place of a line that begins with the word, in the line of this number, or else another place
abbrev pub placed : ℕ → Option Line → Option (ℕ × ℕ) → Option (ℕ × ℕ)
placed n (Some line) other = Some (n, line.last)
placed n None other = other

-- the first line, from number n on, that begins with `poke`
abbrev pub poke_from : ℕ → List (List ℕ) → Option (ℕ × ℕ)
poke_from n [] = None
poke_from n (bytes ∷ lines) =
    placed n (accepted (codes "poke") (line_of bytes)) (poke_from (n + 1) lines)

unfoldable pub poke_in : List ℕ → Option (ℕ × ℕ)
poke_in text = poke_from 1 (parts_of LINE_END text)
