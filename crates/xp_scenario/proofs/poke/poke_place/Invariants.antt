use Rattle.std.proofs.Common.{◌≡◌, ◌+◌, ◌≤◌, length}
use Rattle.xp_text.specs.declared.parts.TheConstants.{LINE_END}
use Rattle.xp_text.specs.Lines.{parts_of}
use Rattle.xp_scenario.specs.Pokes.{poke_from}
use Rattle.xp_scenario.proofs.poke.poke_place.Given as goal

abbrev pub invariant-loop-more : goal.invariant-loop-more
invariant-loop-more l = record {
  lines : poke_from l.number (parts_of LINE_END l.rest) ≡ poke_from 1 (parts_of LINE_END l.fn.text);
  fits : l.number + length l.rest ≤ 1 + length l.fn.text;
}

abbrev pub decreases-loop-more : goal.decreases-loop-more
decreases-loop-more l = length l.rest
