use Rattle.std.proofs.Common.{◌≡◌, ℕ, suc, ◌+◌, ◌-◌, ◌<◌, [], ◌∷◌, ◌++◌, ap, sym, subst, ◌∙◌, length, arith}
use Rattle.xp_fabric.specs.Passes.{AreFresh}
use Rattle.xp_fabric.specs.Rule.{part_steps, fresh_parts, first_part, other_parts}
use Rattle.xp_base.specs.declared.layout.TheConstants.{PART_WORDS}
use Rattle.xp_fabric.proofs.RuleLemmas.{splits}
use Rattle.xp_fabric.proofs.PassLemmas.{fresh-push, length-push}
use Rattle.xp_fabric.proofs.shared.passes_of.Goals as goal

pub split_seat-own-requires : goal.split_seat-own-requires
split_seat-own-requires c = (c.loop-number.invariant.table, c.requires.words, splits PART_WORDS c.args.shared.now.key c.loop-number.seat.id c.loop-number.seat.me.0)

one_less : (n count : ℕ) → n < count → count - n ≡ suc (count - (n + 1))
one_less n count h = omega arith

next_is : (n : ℕ) → suc n ≡ n + 1
next_is n = omega arith

pub new-requires : goal.new-requires
new-requires c =
    let n = c.loop-number.number in
    let left = one_less n c.args.count c.loop-number-test.true in
    c.split_seat-own.ensures.4 ∙ (ap (λ (me : _). (first_part me.0, [])) c.loop-number.invariant.seat
    ∙ (ap (λ (k : ℕ). (first_part (fresh_parts n k), [])) left ∙ ap (λ (p : ℕ). (part_steps p [] ∷ [], [])) (sym c.known.ensures)))

pub loop-number-preserved : goal.loop-number-preserved
loop-number-preserved c =
    let n = c.loop-number.number in
    let t = c.args.shared.now.table_id in
    let inv = c.loop-number.invariant in
    let left = one_less n c.args.count c.loop-number-test.true in
    let items : c.push.new.self.items ≡ c.loop-number.passes.items ++ c.new.result ∷ [] = c.in_ok-push.ensures.items in
    record {
      table = c.split_seat-own.ensures.0 ∙ inv.table;
      seat = c.split_seat-own.ensures.2 ∙ (ap (λ (me : _). (other_parts me.0, me.1)) inv.seat ∙ (ap (λ (k : ℕ). (other_parts (fresh_parts n k), [])) left ∙ ap (λ (k : ℕ). (fresh_parts k (c.args.count - (n + 1)), [])) (next_is n)));
      count = ap length items ∙ (length-push c.loop-number.passes.items c.new.result ∙ (ap suc inv.count ∙ next_is n));
      each = subst (AreFresh t) (sym items) (fresh-push t c.loop-number.passes.items c.new.result inv.each record { part = c.new.ensures.part ∙ (c.known.ensures ∙ sym inv.count); table = c.new.ensures.table ∙ (c.split_seat-own.ensures.3 ∙ inv.table); history = c.new.ensures.history });
    }
