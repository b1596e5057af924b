use Rattle.std.proofs.Common.{◌≡◌, List, [], ◌∷◌, ◌++◌, ap, subst, ◌∙◌, append_assoc}
use Rattle.xp_base.specs.declared.layout.TheConstants.{PART_WORDS}
use Rattle.xp_fabric.specs.Passes.{AreOfTable}
use Rattle.xp_fabric.specs.Views.{PassView}
use Rattle.xp_fabric.proofs.PassLemmas.{table-split}
use Rattle.xp_fabric.proofs.RuleLemmas.{joins}
use Rattle.xp_fabric.proofs.shared.joined.Goals as goal

pub loop-pass-init : goal.loop-pass-init
loop-pass-init c =
    let last = c.in-Some.last in
    let whole : c.args.passes.items ≡ c.pop.new.self.items ++ last ∷ [] = rw c.in-Some.is at c.pop.ensures.items in
    record {
      joined = last ∷ [];
      whole = whole;
      table = c.into_seat-seat.ensures.table ∙ table-split c.args.shared.now.table_id c.pop.new.self.items last [] (subst (AreOfTable c.args.shared.now.table_id) whole c.requires.table);
      seat = c.into_seat-seat.ensures.seat;
      loads = (c.into_seat-seat.ensures.loads, tt);
    }

pub join_seat-requires : goal.join_seat-requires
join_seat-requires c =
    let pass = c.in-Some-pop.pass in
    let t = c.args.shared.now.table_id in
    let inv = c.loop-pass.invariant in
    let last : c.loop-pass.passes.items ≡ c.pop-in-loop-pass.new.self.items ++ pass ∷ [] = rw c.in-Some-pop.is at c.pop-in-loop-pass.ensures.items in
    let whole : c.args.passes.items ≡ c.pop-in-loop-pass.new.self.items ++ pass ∷ inv.joined =
    inv.whole ∙ (ap (λ (l : List PassView). l ++ inv.joined) last ∙ append_assoc c.pop-in-loop-pass.new.self.items (pass ∷ []) inv.joined) in (
      inv.table,
      c.into_seat.ensures.table ∙ table-split t c.pop-in-loop-pass.new.self.items pass inv.joined (subst (AreOfTable t) whole c.requires.table),
      ap (λ (me : _). me.1) c.into_seat.ensures.seat,
      c.requires.words,
      joins PART_WORDS c.args.shared.now.key c.loop-pass.seat.id c.loop-pass.seat.me.0 c.into_seat.result.id c.into_seat.result.me.0,
    )
