use Rattle.xp_dump.proofs.Steps.{opened_placed, count_step, word_step}
use Rattle.xp_dump.proofs.stage.Stage.put.Goals as goal

pub returns-in_ok-parts-in-Count-clause-ready : goal.returns-in_ok-parts-in-Count-clause-ready
returns-in_ok-parts-in-Count-clause-ready c =
    opened_placed _ _ _ c.in_ok-parts-in-Count.ensures.ok.0 c.in_ok-parts-in-Count.ensures.ok.1

pub returns-in_ok-parts-in-Count-clause-step : goal.returns-in_ok-parts-in-Count-clause-step
returns-in_ok-parts-in-Count-clause-step c f h e =
    count_step f c.args.self.now c.in-Count.layout c.args.word c.in_ok-parts-in-Count.parts
    c.in-Count.is c.in_ok-parts-in-Count.ensures.ok.0 c.in_ok-parts-in-Count.ensures.ok.1 h e

pub returns-in-Words-clause-step : goal.returns-in-Words-clause-step
returns-in-Words-clause-step c f h e =
    word_step f c.args.self.now c.in-Words.parts c.put_word.new.parts c.args.word c.put_word.result
    c.in-Words.is c.requires.going c.put_word.ensures.ok c.put_word.ensures.err h e
