-- How the mark of a copy stands for the step that begins it or goes on with it.
use Rattle.std.proofs.Common.{◌≡◌, ℕ, ◌≤◌, refl, ap, sym, ◌∙◌, arith, Option, Some, None}
use Rattle.xp_base.specs.declared.step.CopyKind.{CopyKind}
use Rattle.xp_base.specs.declared.step.CopyKind.TheVariants.{Counters, Get, Entries, Page, Beat, Record as RecordCopies, Args, Buffer}
use Rattle.xp_base.specs.declared.step.CopyMark.{CopyMark}
use Rattle.xp_base.specs.declared.step.Wanted.{Wanted}
use Rattle.xp_script.specs.declared.part.ScenarioPart.{ScenarioPart}
use Rattle.xp_protocol.specs.declared.rule.Rule.{Rule}
use Rattle.xp_protocol.specs.Effects.{Copied}
use Rattle.xp_protocol.specs.State.{State, Copies}
use Rattle.xp_protocol.specs.Rules.{begun_of, going_at, mark_for, row_of, wanted_of, partner_of, counted}
use Rattle.xp_protocol.specs.Wanting.{mark_with, wanted_at}
use Rattle.xp_engage.specs.Partner.{unmarked}
use Rattle.xp_counts.specs.Counted.{AreCopiesCounted}
use Rattle.xp_steps.specs.Counting.{counted_by, numbered_by}

pub unmarked_for : (st : State) (r : Rule) (o : Option Copied) → unmarked (mark_for st r o) ≡ mark_with 0 o
unmarked_for st r None = refl
unmarked_for st r (Some x) = refl

pub counted_for : (st : State) (r : Rule) (o : Option Copied) (x : Copies) → counted_by (mark_for st r o) x ≡ counted o x
counted_for st r None x = refl
counted_for st r (Some y) x = refl

pub begun_low : (n : ℕ) (x : Copies) → AreCopiesCounted n x → (kind : CopyKind) → begun_of kind x ≤ n
begun_low n x h Counters = h.counters
begun_low n x h Get = h.get
begun_low n x h Entries = h.entries
begun_low n x h Page = h.pages
begun_low n x h Beat = h.beats
begun_low n x h RecordCopies = h.records
begun_low n x h Args = h.args
begun_low n x h Buffer = omega arith

-- a step that is wanted without a number, with the number of its copy
numbered_for : (s : ScenarioPart) (st : State) (r : Rule) (mark : CopyMark) (o : Option Copied) → mark_with 0 o ≡ Some mark → Some (numbered_by mark (going_at st r mark.kind) st.clock.copies) ≡ mark_for st r o
numbered_for s st r mark None h = absurd (cc)
numbered_for s st r mark (Some x) h =
    let e : record { kind = x.kind; number = 0; word = x.word } ≡ mark = some_is (record { kind = x.kind; number = 0; word = x.word }) mark h in
    ap (λ (m : CopyMark). Some (numbered_by m (going_at st r m.kind) st.clock.copies)) (sym e) where
      some_is : (a b : CopyMark) → Some a ≡ Some b → a ≡ b
      some_is a b k = ap (either a) k where
        either : CopyMark → Option CopyMark → CopyMark
        either d None = d
        either d (Some m) = m

pub wanted_numbered : (s : ScenarioPart) (st : State) (r : Rule) (w : Wanted) (mark : CopyMark) → w ≡ wanted_at s.part (partner_of s r) (row_of s st r) → w.mark ≡ Some mark
    → record w { mark = Some (numbered_by mark (going_at st r mark.kind) st.clock.copies) } ≡ wanted_of s st r
wanted_numbered s st r w mark e h =
    ap (λ (z : Wanted). record z { mark = Some (numbered_by mark (going_at st r mark.kind) st.clock.copies) }) e
    ∙ ap (λ (o : Option CopyMark). record (wanted_at s.part (partner_of s r) (row_of s st r)) { mark = o }) (numbered_for s st r mark (row_of s st r).copy (ap (λ (z : Wanted). z.mark) (sym e) ∙ h))

none_for : (st : State) (r : Rule) (o : Option Copied) → mark_with 0 o ≡ None → mark_with 0 o ≡ mark_for st r o
none_for st r None h = refl
none_for st r (Some x) h = absurd (cc)

pub wanted_unmarked : (s : ScenarioPart) (st : State) (r : Rule) (w : Wanted) → w ≡ wanted_at s.part (partner_of s r) (row_of s st r) → w.mark ≡ None → w ≡ wanted_of s st r
wanted_unmarked s st r w e h =
    e ∙ ap (λ (o : Option CopyMark). record (wanted_at s.part (partner_of s r) (row_of s st r)) { mark = o }) (none_for st r (row_of s st r).copy (ap (λ (z : Wanted). z.mark) (sym e) ∙ h))
