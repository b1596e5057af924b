-- What it is to append a text, and what ends each line.
use Rattle.std.specs.Prelude.{◌≡◌, ℕ, List, [], ◌∷◌, ◌++◌, Result, OnOk, String, string_bytes}

-- unless memory is wanting, the text is appended
abbrev pub Appends : {T E A : Type 0} → Result T E → String A → String A → List ℕ → Type 0
Appends result old new text = OnOk result (string_bytes new ≡ string_bytes old ++ text)

-- each line ends with this
abbrev pub line_end : List ℕ
line_end = 10 ∷ []
