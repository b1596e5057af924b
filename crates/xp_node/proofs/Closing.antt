-- When a turn can end: after its beginning, where it makes no step, and after its step.
use Rattle.std.proofs.Common.{◌≡◌, ℕ, ◌+◌, ◌^◌, ◌<◌, true, ap, sym, ◌∙◌, subst, arith, Option, Some}
use Rattle.xp_base.specs.declared.layout.TheConstants.{LINES}
use Rattle.xp_base.specs.History.{Marked}
use Rattle.xp_script.specs.declared.log.Entry.{Entry}
use Rattle.xp_script.specs.declared.part.ScenarioPart.{ScenarioPart}
use Rattle.xp_protocol.specs.declared.rule.Rule.{Rule}
use Rattle.xp_protocol.specs.State.{State, Up, end_of}
use Rattle.xp_protocol.specs.Rules.{after_answer}
use Rattle.xp_protocol.specs.Acts.{notice_due}
use Rattle.xp_protocol.specs.Runs.{after_step, after_ruled}
use Rattle.xp_counts.specs.Counted.{AreCounted}
use Rattle.xp_counts.proofs.States.{more_counted, made_counted}
use Rattle.xp_sound.specs.Consistent.{IsConsistent}
use Rattle.xp_sound.specs.Told.{AllTold}
use Rattle.xp_sound.proofs.States.{made_keeps, few_wait}
use Rattle.xp_sound.proofs.Notices.{boot_told}
use Rattle.xp_partner.specs.Partner.{Partner, channel_of}
use Rattle.xp_partition.specs.declared.keeping.Keeping.{Keeping}
use Rattle.xp_partition.specs.declared.partition.Partition.{Partition}
use Rattle.xp_partition.specs.declared.life.Life.TheVariants as lives
use Rattle.xp_partition.specs.Keeping.{state_of}
use Rattle.xp_partition.specs.Partners.{partner_at, AllHaveNotes, AllHaveNotesLeft, LeavesUntouched}
use Rattle.xp_partition.proofs.Asking.{end_is}
use Rattle.xp_partition.proofs.Noting.{all_notes_left, all_fewer_left}
use Rattle.xp_node.specs.Turning.{CanTurn, CanEnd, Begins, Makes, begun_acts}
use Rattle.xp_node.proofs.Beginning.{consistent_then, told_then, low_then}
use Rattle.xp_node.proofs.Ending.{is_up}
use Rattle.xp_node.proofs.Resting.{working_acts, working_step}

-- after its beginning
module _ (p x : Partition) (entry : Option Entry) (rule : Option Rule) (t : CanTurn p) (b : Begins p.keeping.part (state_of p.keeping) p x entry rule) where
  told_here : AllTold x.keeping.part (state_of x.keeping)
  told_here = subst (λ (s : ScenarioPart). AllTold s (state_of x.keeping)) (sym b.part) (told_then p x entry rule t b)

  consistent_here : IsConsistent x.keeping.part (state_of x.keeping)
  consistent_here = subst (λ (s : ScenarioPart). IsConsistent s (state_of x.keeping)) (sym b.part) (consistent_then p x entry rule t b)

  working_here : (state_of x.keeping).script.doing ≡ true → (state_of x.keeping).life ≡ Up
  working_here = subst (λ (st : State). st.script.doing ≡ true → st.life ≡ Up) (sym b.state)
      (working_acts p.keeping.part (state_of p.keeping) (begun_acts entry) b.may t.idle.rests.up)

  pub can_end_begun : AllHaveNotes (LINES + 2) x.keeping.partners → CanEnd x.keeping
  can_end_begun room = record {
    kept = b.partition.kept;
    counts = more_counted (2 ^ 31) (2 ^ 63) (state_of x.keeping) (omega arith) (low_then p x entry rule t b);
    up = λ down q c how low few. told_here q c low few how;
    touched = λ q c how low few none. told_here q c low few how;
    few = λ q c low few. few_wait x.keeping.part (state_of x.keeping) consistent_here q c;
    room = all_fewer_left (LINES + 1) (LINES + 2) x.keeping.partners (omega arith) (all_notes_left (LINES + 2) x.keeping.partners room);
    working = working_here;
  }

-- the ends of a partner that is as before are as before
end_same : (x y : Keeping) (q c : ℕ) → partner_at y.partners.list q ≡ partner_at x.partners.list q → end_of (state_of y) q c ≡ end_of (state_of x) q c
end_same x y q c e = sym (end_is y q c) ∙ ap (λ (p : Partner). (channel_of p c).end) e ∙ end_is x q c

-- after its step
module _ (p x y : Partition) (entry : Option Entry) (rule : Rule) (made : Marked) (t : CanTurn p) (b : Begins p.keeping.part (state_of p.keeping) p x entry (Some rule)) (m : Makes x.keeping.part (state_of x.keeping) x y (Some rule) (Some made)) where
  consistent_made : IsConsistent x.keeping.part (state_of y.keeping)
  consistent_made = subst (λ (st : State). IsConsistent x.keeping.part st) (sym m.state)
      (made_keeps x.keeping.part (state_of x.keeping) (consistent_here p x entry (Some rule) t b) (told_here p x entry (Some rule) t b) (Some made) m.may)

  counted_made : AreCounted (2 ^ 63) (state_of y.keeping)
  counted_made = subst (λ (st : State). AreCounted (2 ^ 63) st) (sym m.state)
      (more_counted (2 ^ 31 + 1) (2 ^ 63) (after_step x.keeping.part (state_of x.keeping) (Some made)) (omega arith)
      (made_counted x.keeping.part (state_of x.keeping) (2 ^ 31) (low_then p x entry (Some rule) t b) (Some made)))

  answered : state_of y.keeping ≡ after_answer x.keeping.part (state_of x.keeping) m.may.rule made.step.answer
  answered = m.state ∙ ap (λ (o : Option Rule). after_ruled x.keeping.part (state_of x.keeping) o made.step.answer) m.may.decoded

  -- where it isn't up then, the step made no notice due
  told_down : (y.keeping.life ≡ lives.Up → ⊥) → AllTold x.keeping.part (state_of y.keeping)
  told_down down = subst (λ (st : State). AllTold x.keeping.part st) (sym answered)
      (boot_told x.keeping.part (state_of x.keeping) m.may.rule made.step.answer m.may.can
      (λ e. down (is_up y.keeping.life (ap (λ (st : State). st.life) answered ∙ e)))
      (told_here p x entry (Some rule) t b))

  in_part : (q : ℕ) → q < y.keeping.part.count → q < x.keeping.part.count
  in_part q low = subst (λ (s : ScenarioPart). q < s.count) m.part low

  pub can_end_made : AllHaveNotesLeft (LINES + 1) y.keeping.partners → LeavesUntouched x.keeping.partners y.keeping.partners → CanEnd y.keeping
  can_end_made left untouched = record {
    kept = m.partition.kept;
    counts = counted_made;
    up = λ down q c how low few. told_down down q c (in_part q low) few how;
    touched = λ q c how low few none.
        let within = in_part q low in
        let most = b.partition.kept.lawful.count in
        ap (notice_due how) (end_same x.keeping y.keeping q c (untouched.same q (omega (arith, within, most)) none))
        ∙ told_here p x entry (Some rule) t b q c within few how;
    few = λ q c low few. few_wait x.keeping.part (state_of y.keeping) consistent_made q c;
    room = left;
    working = subst (λ (st : State). st.script.doing ≡ true → st.life ≡ Up) (sym m.state)
        (working_step x.keeping.part (state_of x.keeping) (Some made) m.may (working_here p x entry (Some rule) t b));
  }
