use Rattle.std.proofs.Common.{◌≡◌, ℕ, ◌+◌, ◌*◌, ◌/◌, ◌%◌, ◌<◌, length, get_or}
use Rattle.xp_base.specs.declared.layout.TheConstants.{LINES, LINE_WORDS}
use Rattle.xp_base.specs.Memory.{word_at}
use Rattle.xp_base.specs.Places.{index_of, Entry}
use Rattle.xp_listing.specs.Listing.{partner_at, channel_at}
use Rattle.xp_listing.proofs.entries.words_of_entry.Given as goal

abbrev pub invariant-loop-field : goal.invariant-loop-field
invariant-loop-field l =
    record {
      size : length l.entry ≡ LINE_WORDS;
      told : (k : ℕ) → k < l.field
          → get_or l.entry k 0 ≡ word_at l.words l.fn.owner
          (index_of (Entry (partner_at (l.fn.i / LINES)) (channel_at (l.fn.i / LINES))
          (LINE_WORDS * (l.fn.i % LINES) + k)));
    }
