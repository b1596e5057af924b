use Rattle.std.proofs.Common.{◌≡◌, ◌-◌, ◌*◌, length, take, drop, ap, ◌∙◌}
use Rattle.std.proofs.lemmas.List.{take_rest}
use Rattle.byteorder.specs.Endian.{little_from}
use Rattle.xp_page.proofs.ReadLemmas.{word_in-drop}
use Rattle.xp_page.proofs.reading.word_at.Goals as goal

pub returns : goal.returns
returns c =
    let read : c.read_u64.result ≡ little_from 0 8
    (take (length c.args.bytes.now - 8 * c.args.k) (drop (8 * c.args.k) c.args.bytes.now)) =
    c.read_u64.ensures in
    read ∙ ap (little_from 0 8) (take_rest c.args.bytes.now (8 * c.args.k))
    ∙ word_in-drop c.args.bytes.now c.args.k
