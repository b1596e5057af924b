use Rattle.std.proofs.Common.{◌≡◌, ℕ, List, ◌++◌, ◌<◌, ◌∙◌, ap, length, string_bytes, codes, Vec, Global, arith}
use Rattle.xp_listing.specs.Listing.{each, part_text, line_end}
use Rattle.xp_listing.proofs.Each.{next_line, all_lines}
use Rattle.xp_listing.proofs.text.listing.Goals as goal

pub loop-owner-preserved : goal.loop-owner-preserved
loop-owner-preserved c =
    let count = c.count-owner-end.ensures.value in
    let low : c.loop-owner.owner < length c.args.words.now = omega arith in
    next_line (part_text c.args.words.now) c.loop-owner.owner (length c.args.words.now)
    (string_bytes c.loop-owner.out)
    (string_bytes c.write_part.new.out) _ low c.loop-owner.invariant
    (c.in_ok-write_part.ensures
    ∙ ap (λ (q : ℕ). string_bytes c.loop-owner.out
    ++ part_text c.args.words.now q) c.known.ensures)

pub returns : goal.returns
returns c =
    let count = c.count-owner-end.ensures.value in
    let all : c.loop-owner.owner ≡ length c.args.words.now = omega arith in
    let lines = all_lines (part_text c.args.words.now) c.loop-owner.owner (length c.args.words.now)
    (string_bytes c.loop-owner.out) _ all c.loop-owner.invariant in
    ap (λ (v : Vec ℕ Global). v.items) c.into_bytes.ensures.value ∙ lines
    ∙ ap (λ (s : List ℕ). s ++ each (part_text c.args.words.now) 0 (length c.args.words.now))
    (c.in_ok-writeln.ensures.bytes
    ∙ ap (λ (s : List ℕ). s ++ (codes "listing 1" ++ line_end)) c.new-out.ensures.bytes)
