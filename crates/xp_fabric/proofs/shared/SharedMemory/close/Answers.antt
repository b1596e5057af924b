use Rattle.std.proofs.Common.{◌≡◌, ℕ, ap, sym, subst, ◌∙◌}
use Rattle.atomic_table.specs.Table.{Final, Seen}
use Rattle.std.specs.Mem.Slots.{slots_items}
use Rattle.xp_base.specs.declared.layout.TheConstants.{PART_WORDS}
use Rattle.xp_base.specs.Memory.{Memory}
use Rattle.xp_base.specs.Rows.{rows}
use Rattle.xp_fabric.specs.Rule.{View, HistoryHolds}
use Rattle.xp_fabric.specs.Passes.{Merges, joined_view}
use Rattle.xp_fabric.proofs.PassLemmas.{merges, tables-each}
use Rattle.xp_fabric.proofs.shared.SharedMemory.close.Goals as goal

pub joined-seat-requires-clause-table : goal.joined-seat-requires-clause-table
joined-seat-requires-clause-table c =
    tables-each c.self.inside.table.shared.table_id c.args.passes.items (λ k p e. (c.requires.passes.each k p e).table ∙ ap (λ (m : _). m.table) (sym c.self.view_is))

pub returns-clause-merged : goal.returns-clause-merged
returns-clause-merged c =
    let key = c.self.inside.table.shared.key in
    let m = c.args.self.opening in
    let ps = c.args.passes.items in
    let id = c.joined-seat.result.id in
    let is : key ≡ m = ap (λ (v : _). v.opening) c.self.view_is in
    let closed = c.close_with-closed.result in
    let seen = subst (λ (v : View). Final (Seen (HistoryHolds PART_WORDS key) id v) (slots_items closed.words) (slots_items closed.slots)) (ap (λ (me : _). me.0) c.joined-seat.ensures.seat) c.close_with-closed.ensures.values.2 in
    let final = subst (λ (k : Memory). Final (Seen (HistoryHolds PART_WORDS k) id (joined_view ps)) (slots_items closed.words) (slots_items closed.slots)) is seen in
    subst (Merges m ps) (sym (c.put_words.ensures.words ∙ ap (λ (k : ℕ). rows PART_WORDS k (slots_items closed.words)) c.requires.count))
    (merges PART_WORDS m ps (slots_items closed.words) (slots_items closed.slots) id c.requires.passes.count (λ k p e. (c.requires.passes.each k p e).part) c.joined-seat.ensures.loads final)
