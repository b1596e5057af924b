use Rattle.std.proofs.Common.{◌+◌, arith}
use Rattle.std.proofs.lemmas.Result.{err_from_is_err_and}
use Rattle.xp_dump.proofs.Feeding.{read_on, piece_fault, eight_more, one_more}
use Rattle.xp_dump.proofs.tape.Tape.feed.Goals as goal

pub returns-in_err-take_word-clause-step : goal.returns-in_err-take_word-clause-step
returns-in_err-take_word-clause-step c bytes r =
    let before = c.loop-at.invariant.read bytes r in
    let fault = c.in_err-take_word.ensures.step _ before in
    let p = err_from_is_err_and c.from_residual.result c.from_residual.ensures.1 in
    rw (p.1, p.2) (piece_fault bytes c.args.piece.now _ c.loop-at.at (c.loop-at.at + 8) _
    (eight_more c.args.piece.now c.loop-at.at) fault)

pub loop-at-preserved-then-piece-at-ge-WORD_BYTES :
    goal.loop-at-preserved-then-piece-at-ge-WORD_BYTES
loop-at-preserved-then-piece-at-ge-WORD_BYTES c =
    let step = c.in_ok-take_word.ensures.step in
    let read = c.loop-at.invariant.read in
    record {
      tape = c.in_ok-take_word.ensures.tape;
      low = omega arith;
      read = λ bytes r.
          read_on bytes c.args.piece.now _ c.loop-at.at (c.loop-at.at + 8) c.take_word.new.self
          (eight_more c.args.piece.now c.loop-at.at) (step _ (read bytes r));
    }

pub returns-in_err-take_byte-clause-step : goal.returns-in_err-take_byte-clause-step
returns-in_err-take_byte-clause-step c bytes r =
    let before = c.loop-at.invariant.read bytes r in
    let fault = c.in_err-take_byte.ensures.step _ before in
    let p = err_from_is_err_and c.from_residual-in_err-take_byte.result
    c.from_residual-in_err-take_byte.ensures.1 in
    rw (p.1, p.2) (piece_fault bytes c.args.piece.now _ c.loop-at.at (c.loop-at.at + 1) _
    (one_more c.args.piece.now c.loop-at.at c.loop-at-test.true) fault)
