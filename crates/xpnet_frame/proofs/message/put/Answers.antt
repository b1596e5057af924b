use Rattle.std.proofs.Common.{arith, ◌∙◌, ap, ◌++◌, take, List, ℕ}
use Rattle.std.proofs.lemmas.Slice.{take-put_mid}
use Rattle.xpnet_frame.proofs.message.put.Goals as goal

pub returns : goal.returns
returns c =
    take-put_mid c.args.at _ c.args.bytes.now c.copy_from_slice.new.self _ (omega arith)
    (omega arith) ∙ ap (λ (p : List ℕ). take c.args.at c.args.bytes.now
    ++ p) c.copy_from_slice.ensures.after
