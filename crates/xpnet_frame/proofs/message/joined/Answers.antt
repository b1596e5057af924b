use Rattle.std.proofs.Common.{◌≡◌, ◌+◌, ◌∙◌, ap, sym, ◌++◌, List, ℕ, length, take, arith}
use Rattle.xpnet_frame.proofs.message.joined.Goals as goal

pub returns : goal.returns
returns c =
    let whole : 0 + length c.args.header.now ≡ 22 = omega arith in
    let first : take 22 c.put.new.bytes ≡ c.args.header.now =
    ap (λ (n : ℕ). take n c.put.new.bytes) (sym whole) ∙ c.put.ensures in
    c.whole.ensures ∙ c.put-2.ensures ∙ ap (λ (h : List ℕ). h ++ c.args.payload.now) first
