-- How far a reader is, and what the words that came say of it.
use Rattle.std.specs.Prelude.{◌≡◌, ℕ, ◌+◌, ◌*◌, ◌<◌, ◌≤◌, Bool, true, false, ◌==◌, if◌then◌else◌, Result, Ok, Err, length}
use Rattle.xp_base.specs.Rows.{blank}
use Rattle.xp_base.specs.declared.layout.TheConstants.{PART_WORDS}
use Rattle.xp_page.specs.declared.grammar.PageCause.{PageCause}
use Rattle.xp_page.specs.declared.grammar.PageCause.TheVariants.{Signature, Value}
use Rattle.xp_dump_table.specs.declared.layout.Layout.{Layout}
use Rattle.xp_dump_table.specs.declared.layout.Layout.TheVariants.{Older, Newer}
use Rattle.xp_dump_table.specs.Layouts.{room, words_of}
use Rattle.xp_dump.specs.declared.writer.TheConstants.{OLDER_HEADER, NEWER_HEADER}
use Rattle.xp_dump.specs.declared.fault.DumpFault.{DumpFault}
use Rattle.xp_dump.specs.declared.fault.DumpFault.TheVariants.{Page, Trailing, Memory}
use Rattle.xp_dump.specs.declared.parts.Parts.{Parts}
use Rattle.xp_dump.specs.declared.stage.Stage.{Stage}
use Rattle.xp_dump.specs.declared.stage.Stage.TheVariants.{Header, Count, Words}
use Rattle.xp_dump.specs.Grammar.{Numbered, is_header, is_count, layout_of, word_allowed, cause_at}
use Rattle.xp_dump.specs.Parts.{AreKept, taken_in}

-- a fault of the word that begins at word k
abbrev pub refused_at : ℕ → PageCause → DumpFault
refused_at k cause = Page (record { offset = 8 * k; cause = cause })

-- after the header
abbrev pub header_put : ℕ → Result Stage DumpFault
header_put w = if w == OLDER_HEADER then Ok (Count Older)
    else (if w == NEWER_HEADER then Ok (Count Newer) else Err (refused_at 0 Signature))

-- the partitions before their first word
abbrev pub opened : Layout → ℕ → Parts
opened l count = record {
  layout = l;
  words = blank PART_WORDS count;
  owner = 0;
  index = 0;
  version = 0;
}

-- how many words came before
abbrev pub taken : Stage → ℕ
taken Header = 0
taken (Count l) = 1
taken (Words p) = taken_in p

-- all words came
abbrev pub is_whole : Stage → Bool
is_whole Header = false
is_whole (Count l) = false
is_whole (Words p) = p.owner == length p.words

-- the next word has a place, where there is one
pub record IsPlaced (p : Parts) : Type 0 where
  pub owner : p.owner ≤ length p.words
  pub count : length p.words ≤ room p.layout
  pub index : p.index < words_of p.layout

abbrev pub IsReady : Stage → Type 0
IsReady Header = Unit {0}
IsReady (Count l) = Unit {0}
IsReady (Words p) = IsPlaced p

-- the stage is that of these words, as far as they came
abbrev pub Follows : Numbered → Stage → Type 0
Follows f Header = Unit {0}
Follows f (Count l) = (is_header (f 0) ≡ true) × (l ≡ layout_of (f 0))
Follows f (Words p) = AreKept f p

-- word k isn't allowed; want of memory may stand in place of that
abbrev pub IsRefusedAt : Numbered → ℕ → DumpFault → Type 0
IsRefusedAt f k (Page fault) = (word_allowed f k ≡ false)
    × (fault ≡ record { offset = 8 * k; cause = cause_at f k })
IsRefusedAt f k (Trailing offset) = ⊥
IsRefusedAt f k Memory = Unit {0}

-- the words before were allowed, and this stage takes its place
pub record Steps (f : Numbered) (old new : Stage) : Type 0 where
  pub follows : Follows f new
  pub more : taken new ≡ taken old + 1

-- the number of partitions isn't allowed, or there was no memory for their words
abbrev pub IsCountFault : Layout → ℕ → DumpFault → Type 0
IsCountFault l w (Page fault) = (is_count l w ≡ false)
    × (fault ≡ record { offset = 8; cause = Value })
IsCountFault l w (Trailing offset) = ⊥
IsCountFault l w Memory = Unit {0}
