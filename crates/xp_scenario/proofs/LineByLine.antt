-- A text is read line by line.
use Rattle.std.proofs.Common.{◌≡◌, ℕ, ◌+◌, ◌<◌, List, [], ◌∷◌, length, sym, ap, ◌∙◌, arith, Result, Ok, Err}
use Rattle.xp_text.specs.Lines.{parts_of, line_of}
use Rattle.xp_text.proofs.PayloadLemmas.{some_part}
use Rattle.xp_forms.specs.declared.fault.WordFault.{WordFault}
use Rattle.xp_forms.specs.declared.fault.LineError.{LineError}
use Rattle.xp_forms.specs.declared.fault.LineError.TheVariants as errors
use Rattle.xp_scenario.specs.declared.fault.ScenarioFault.{ScenarioFault}
use Rattle.xp_scenario.specs.declared.draft.Draft.{Draft}
use Rattle.xp_forms.specs.Forms.{Fails}
use Rattle.xp_scenario.specs.Drafts.{line_says}
use Rattle.xp_scenario.specs.Text.{◌>>>◌, at_line, ended, lines_say, line_fault, Tells}

-- one line more is right
pub goes_on : (n : ℕ) (d e : Draft) (bytes rest more : List ℕ) (total : Result Draft ScenarioFault) → parts_of 10 rest ≡ bytes ∷ parts_of 10 more → line_says d (line_of bytes) ≡ Ok e → lines_say n (parts_of 10 rest) d ≡ total → lines_say (n + 1) (parts_of 10 more) e ≡ total
goes_on n d e bytes rest more total p h so_far = go (parts_of 10 more) (some_part 10 more) (sym (ap (λ (ls : List (List ℕ)). lines_say n ls d) p) ∙ so_far)
  where
    go : (ls : List (List ℕ)) → 0 < length ls → lines_say n (bytes ∷ ls) d ≡ total → lines_say (n + 1) ls e ≡ total
    go [] lt g = absurd (omega arith)
    go (next ∷ ls) lt g = sym (ap (λ (r : Result Draft WordFault). at_line n r >>> lines_say (n + 1) (next ∷ ls)) h) ∙ g

-- a line is wrong
pub fails : (n : ℕ) (d : Draft) (bytes : List ℕ) (ls : List (List ℕ)) (error : LineError) (total : Result Draft ScenarioFault) → Fails error (line_says d (line_of bytes)) → lines_say n (bytes ∷ ls) d ≡ total → Tells (λ (x : Draft). x) (Err (line_fault n error)) total
fails n d bytes ls errors.Memory total h so_far = tt
fails n d bytes [] (errors.Fault f) total h so_far = sym so_far ∙ ap (λ (r : Result Draft WordFault). at_line n r >>> λ e. ended e.section n (1 + length bytes) e) h
fails n d bytes (next ∷ ls) (errors.Fault f) total h so_far = sym so_far ∙ ap (λ (r : Result Draft WordFault). at_line n r >>> lines_say (n + 1) (next ∷ ls)) h

-- the last line is right
pub ends_there : (n : ℕ) (d e : Draft) (bytes rest : List ℕ) (total : Result Draft ScenarioFault) → parts_of 10 rest ≡ bytes ∷ [] → line_says d (line_of bytes) ≡ Ok e → lines_say n (parts_of 10 rest) d ≡ total → total ≡ ended e.section n (1 + length bytes) e
ends_there n d e bytes rest total p h so_far =
    sym so_far ∙ ap (λ (ls : List (List ℕ)). lines_say n ls d) p ∙ ap (λ (r : Result Draft WordFault). at_line n r >>> λ x. ended x.section n (1 + length bytes) x) h
