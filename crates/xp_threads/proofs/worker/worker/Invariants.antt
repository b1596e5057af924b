use Rattle.xp_threads.specs.Working.{Goes}
use Rattle.xp_threads.proofs.worker.worker.Given as goal

abbrev pub invariant-loop-turn : goal.invariant-loop-turn
invariant-loop-turn g l = Goes l.fn.node l.fn.port.pass.history l.fn.port.pass.part l.fn.port.memory.now l.turn l.node l.port.pass.history l.port.pass.part l.port.memory.now
