-- Lines of words.
use Rattle.std.specs.Prelude.{◌≡◌, ℕ, List, [], ◌∷◌, ◌++◌, Result, OnOk, String, string_bytes}

-- unless memory is wanting, the text is appended
abbrev pub Appends : {T E A : Type 0} → Result T E → String A → String A → List ℕ → Type 0
Appends result old new text = OnOk result (string_bytes new ≡ string_bytes old ++ text)

-- a line: its words with a space between them, and its end
abbrev pub line_text : List (List ℕ) → List ℕ
line_text [] = 10 ∷ []
line_text (w ∷ []) = w ++ 10 ∷ []
line_text (w ∷ v ∷ ws) = w ++ 32 ∷ line_text (v ∷ ws)

-- lines of words, one after the other
abbrev pub written : List (List (List ℕ)) → List ℕ
written [] = []
written (words ∷ lines) = line_text words ++ written lines
