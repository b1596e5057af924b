-- The word of a payload: each greatest run of four or more equal bytes is its number, `*` and the
-- byte, other bytes are digits, and `+` stands on each side of a run inside the word.
use Rattle.std.specs.Prelude.{ℕ, ◌+◌, nat_lt, if◌then◌else◌, ◌==◌, List, [], ◌∷◌, ◌++◌, replicate, codes}
use Rattle.std.specs.Fmt.{decimal}
use Rattle.hex.specs.Hex.{encode_lower}
use Rattle.xp_base.specs.Show.{◌⧺◌}
use Rattle.xp_print.specs.declared.payload.TheConstants.{SHORTEST_RUN}
use Rattle.xp_print.specs.declared.payload.Before.{Before}
use Rattle.xp_print.specs.declared.payload.Before.TheVariants as before

-- equal bytes in a row: how many, and which
pub record Run : Type 0 where
  pub count : ℕ
  pub byte : ℕ

abbrev pub run_of : ℕ → ℕ → Run
run_of n b = record { count = n; byte = b }

-- the greatest runs of n bytes b and of the bytes after them
abbrev pub runs_from : ℕ → ℕ → List ℕ → List Run
runs_from n b [] = run_of n b ∷ []
runs_from n b (c ∷ cs) = if c == b then runs_from (n + 1) b cs else run_of n b ∷ runs_from 1 c cs

-- a run of few bytes is digits, one of more is a piece of its own
abbrev pub after : Run → Before
after r = if nat_lt r.count SHORTEST_RUN then before.Digits else before.Piece

abbrev pub digits_text : Before → List ℕ → List ℕ
digits_text before.Piece digits = codes "+" ++ digits
digits_text _ digits = digits

abbrev pub piece_text : Before → List ℕ → List ℕ
piece_text before.Nothing piece = piece
piece_text _ piece = codes "+" ++ piece

-- the text of a run, by what stands before it
unfoldable pub run_text : Before → Run → List ℕ
run_text what r =
    if nat_lt r.count SHORTEST_RUN then digits_text what (encode_lower (replicate r.count r.byte))
    else piece_text what (decimal r.count ⧺ codes "*" ⧺ encode_lower (r.byte ∷ []))

abbrev pub runs_text : Before → List Run → List ℕ
runs_text what [] = []
runs_text what (r ∷ rs) = run_text what r ++ runs_text (after r) rs

unfoldable pub payload_word : List ℕ → List ℕ
payload_word [] = codes "-"
payload_word (b ∷ bs) = runs_text before.Nothing (runs_from 1 b bs)
