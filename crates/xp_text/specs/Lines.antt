-- The lines of a text, and the words of a line with their columns.
use Rattle.std.specs.Prelude.{◌≡◌, ℕ, ◌+◌, Bool, true, false, ◌||◌, not, ◌==◌, if◌then◌else◌, List, [], ◌∷◌, length, bytes_eq, Option, Some, None}
use Rattle.std.specs.List.{take_while}
use Rattle.xp_text.specs.declared.line.TheConstants.{COMMENT}

-- a byte more at the head of the first part
abbrev pub grown : ℕ → List (List ℕ) → List (List ℕ)
grown b [] = []
grown b (part ∷ parts) = (b ∷ part) ∷ parts

-- the parts between the separators: one more than there are separators, and each may be empty
unfoldable pub parts_of : ℕ → List ℕ → List (List ℕ)
parts_of separator [] = [] ∷ []
parts_of separator (b ∷ bs) =
    if b == separator then [] ∷ parts_of separator bs else grown b (parts_of separator bs)

-- a space, a tab or a CR
abbrev pub is_blank : ℕ → Bool
is_blank b = b == 32 || (b == 9 || b == 13)

abbrev pub is_solid : ℕ → Bool
is_solid b = not (is_blank b)

-- a word: the column of its first byte, from 1, and its bytes
pub record Word : Type 0 where
  pub column : ℕ
  pub bytes : List ℕ

-- The words of bytes, of which the first stands in column k; `inside`: a word that began before
-- goes on there. A word begins at a byte that is no blank and stands in no other word, and ends
-- before the next blank. A `#` there begins a comment, which has no words.
unfoldable pub words_from : Bool → ℕ → List ℕ → List Word
words_from inside k [] = []
words_from inside k (b ∷ bs) =
    if is_blank b then words_from false (k + 1) bs
    else if inside then words_from true (k + 1) bs
    else if b == COMMENT then []
    else record { column = k; bytes = take_while is_solid (b ∷ bs) } ∷ words_from true (k + 1) bs

-- the bytes begin with so many blanks and then this word, and these bytes stand after it
abbrev pub StandsFirst : List ℕ → ℕ → List ℕ → List ℕ → Type 0
StandsFirst bytes blanks word rest =
    (k : ℕ) → words_from false k bytes
    ≡ record { column = k + blanks; bytes = word }
    ∷ words_from false (k + blanks + length word) rest

-- the part of a line that isn't read yet: its words, the column one past the line's last byte, and
-- the column of the last word that was read
pub record Line : Type 0 where
  pub words : List Word
  pub end : ℕ
  pub last : ℕ

abbrev pub line_of : List ℕ → Line
line_of bytes = record { words = words_from false 1 bytes; end = 1 + length bytes; last = 1 }

-- the bytes of the next word
abbrev pub first_bytes : List Word → Option (List ℕ)
first_bytes [] = None
first_bytes (w ∷ ws) = Some w.bytes

-- the line after a word in this column, with these words left
abbrev pub after_word : Line → List Word → ℕ → Line
after_word line words column = record { words = words; end = line.end; last = column }

-- the line after this word, where it stands next
abbrev pub accepted_from : List ℕ → Line → List Word → Option Line
accepted_from word line [] = None
accepted_from word line (w ∷ ws) =
    if bytes_eq w.bytes word then Some (after_word line ws w.column) else None

unfoldable pub accepted : List ℕ → Line → Option Line
accepted word line = accepted_from word line line.words
