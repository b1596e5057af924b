use Rattle.std.proofs.Common.{◌≡◌, length}
use Rattle.xp_world.specs.World.{AreNew}
use Rattle.xp_world.proofs.world.new_nodes.Given as goal

abbrev pub invariant-loop-number : goal.invariant-loop-number
invariant-loop-number l = record {
  nodes : AreNew l.scenario l.nodes.items;
  count : length l.nodes.items ≡ l.number;
}
