use Rattle.std.proofs.Common.{◌≡◌, ℕ, ◌*◌, ◌<◌, List, length, slice_index, take, drop, ◌∙◌, sym, arith}
use Rattle.std.proofs.lemmas.List.{ext_get_or}
use Rattle.byteorder.specs.Endian.{little_from}
use Rattle.xp_page.specs.Reading.{words_in}
use Rattle.xp_page.proofs.ReadLemmas.{words_in-at, length-words_in, word_in-part}
use Rattle.xp_page.proofs.entry.payload_at.Goals as goal

same_words : (bytes dst : List ℕ) → length dst ≡ 14
    → ((k : ℕ) → k < length dst
    → slice_index dst k ≡ little_from 0 8 (drop (8 * k) (take 112 (drop 16 bytes))))
    → dst ≡ words_in bytes 2 14
same_words bytes dst e h =
    ext_get_or 0 dst (words_in bytes 2 14) (omega (arith, length-words_in bytes 2 14))
    (λ k low. h k low ∙ word_in-part bytes 2 14 k (omega arith)
    ∙ sym (words_in-at bytes 2 14 k (omega arith)))

pub returns : goal.returns
returns c = same_words c.args.bytes.now c.read_u64_into.new.dst
    (omega arith) c.read_u64_into.ensures
