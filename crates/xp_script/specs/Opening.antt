-- The words that the partitions open with: words by place, all others 0.
use Rattle.std.specs.Prelude.{ℕ, zero, suc, ◌+◌, ◌-◌, ◌*◌, ◌^◌, bit_or, List, [], ◌∷◌, ◌++◌}
use Rattle.xp_base.specs.declared.layout.TheConstants.{PART_WORDS, CHANNELS, OPEN_WORDS, VARIABLES_AT, STAMP, BEAT, MASK, ENGAGED, SIGNATURE, SECOND, VERSION_BASE, SIGNATURE_AT, VERSION_AT, PART_AT, VARIABLES_PLACE_AT, PARTS_MASK_AT, RECORDS_PLACE_AT, REQUEST_ENTRY}
use Rattle.xp_base.specs.Memory.{Memory, put_at}
use Rattle.xp_base.specs.Rows.{blank}
use Rattle.xp_base.specs.Places.{Place, Open, Record, Flag, Args, Counter, Entry, index_of}
use Rattle.xp_base.specs.Sessions.{session_word}
use Rattle.xp_script.specs.declared.part.Link.{Link}
use Rattle.xp_script.specs.declared.scenario.Scenario.{Scenario}
use Rattle.xp_script.specs.Settings.{minor_of}
use Rattle.xp_script.specs.Parts.{links_of}

-- a partition that opens booted has stamp 1, and session 1.1 with each partner in contact
abbrev pub first_session_word : ℕ
first_session_word = session_word (record { stamp = 1; count = 1 })

-- the version word of a partition: 3.1 or 3.2
abbrev pub version_word : ℕ → ℕ
version_word minor = VERSION_BASE + minor

-- the page of p: signature, version, own number, place of the variables, mask of the partitions,
-- place of the records
abbrev pub page_words : ℕ → ℕ → ℕ → List (Place × ℕ)
page_words count minor p =
    (Open SIGNATURE_AT, SIGNATURE)
    ∷ (Open VERSION_AT, version_word minor)
    ∷ (Open PART_AT, p)
    ∷ (Open VARIABLES_PLACE_AT, VARIABLES_AT)
    ∷ (Open PARTS_MASK_AT, 2 ^ count - 1)
    ∷ (Open RECORDS_PLACE_AT, OPEN_WORDS)
    ∷ []

-- a bit for each partner that has a link
abbrev pub partner_mask : List Link → ℕ
partner_mask [] = 0
partner_mask (l ∷ ls) = bit_or (2 ^ l.partner) (partner_mask ls)

-- a partition with a link opens booted: its stamp, its heartbeat count, its heartbeat mask, and its
-- partners' engagement bits
abbrev pub booted_words : List Link → List (Place × ℕ)
booted_words [] = []
booted_words (l ∷ ls) =
    (Open STAMP, 1)
    ∷ (Open BEAT, 1)
    ∷ (Open MASK, partner_mask (l ∷ ls))
    ∷ (Open ENGAGED, partner_mask (l ∷ ls))
    ∷ []

-- the record for a partner in contact, and the request and reply of the channel
abbrev pub link_words : Link → List (Place × ℕ)
link_words l =
    (Record l.partner 0, SECOND)
    ∷ (Record l.partner 1, first_session_word)
    ∷ (Record l.partner 2, first_session_word)
    ∷ (Record l.partner 3, index_of (Args l.partner 0 0))
    ∷ (Record l.partner 4, index_of (Counter l.partner 0 0))
    ∷ (Record l.partner 5, index_of (Flag l.partner))
    ∷ (Record l.partner 6, CHANNELS)
    ∷ (Args l.partner l.channel 0, l.limit + REQUEST_ENTRY * l.entries)
    ∷ (Args l.partner l.channel 1, index_of (Entry l.partner l.channel 0))
    ∷ []

abbrev pub all_link_words : List Link → List (Place × ℕ)
all_link_words [] = []
all_link_words (l ∷ ls) = link_words l ++ all_link_words ls

-- words are put, one after the other
abbrev pub put_words : Memory → ℕ → List (Place × ℕ) → Memory
put_words m p [] = m
put_words m p ((pl, w) ∷ more) = put_words (put_at m p (index_of pl) w) p more

abbrev pub open_part : Scenario → ℕ → Memory → Memory
open_part s p m =
    let paged = put_words m p (page_words s.count (minor_of p s.minors) p) in
    let booted = put_words paged p (booted_words (links_of s p)) in
    put_words booted p (all_link_words (links_of s p))

-- the words of the n partitions from p on
unfoldable pub opened_from : Scenario → ℕ → ℕ → Memory → Memory
opened_from s p zero m = m
opened_from s p (suc n) m = opened_from s (p + 1) n (open_part s p m)

abbrev pub opening : Scenario → Memory
opening s = opened_from s 0 s.count (blank PART_WORDS s.count)
