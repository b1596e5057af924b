use Rattle.std.proofs.Common.{◌≡◌, ℕ, ◌+◌, List, [], ◌∷◌, ◌++◌, length, ap, sym, ◌∙◌, subst}
use Rattle.std.proofs.lemmas.List.{length_push}
use Rattle.xp_script.specs.Parts.{part_of}
use Rattle.xp_node.specs.Node.{NodeView}
use Rattle.xp_world.specs.World.{IsNewNode, AreNew}
use Rattle.xp_world.proofs.Each.{each_after_push}
use Rattle.xp_world.proofs.world.new_nodes.Goals as goal

pub loop-number-preserved : goal.loop-number-preserved
loop-number-preserved c =
    let s = c.args.scenario.now in
    let old = c.loop-number.nodes.items in
    let n = c.in_ok-node.node in
    let place : c.known.result ≡ length old = c.known.ensures ∙ sym c.loop-number.invariant.count in
    let new : IsNewNode s (length old) n = record {
      node = record {
        part = c.in_ok-node.ensures.part ∙ ap (part_of s) place;
        made = c.in_ok-node.ensures.made;
      };
      waiting = c.in_ok-node.ensures.waiting;
    } in
    let items = c.in_ok-push.ensures.items in
    let all : AreNew s (old ++ n ∷ []) = each_after_push old (IsNewNode s) n c.loop-number.invariant.nodes new in record {
      nodes = subst (λ (ns : List NodeView). AreNew s ns) (sym items) all;
      count = ap length items ∙ length_push old n ∙ ap (λ (k : ℕ). k + 1) c.loop-number.invariant.count;
    }
