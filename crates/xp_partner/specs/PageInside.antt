-- How the fields of a look that goes on stand for its words.
use Rattle.std.specs.Prelude.{◌<◌, ℕ, List, take}
use Rattle.xp_partner.specs.declared.page.PageCopy.TheInside.{Inside}

abbrev pub words_seen : Inside → List ℕ
words_seen x = take x.done x.words

abbrev pub IsShort : Inside → Type 0
IsShort x = x.done < 5
