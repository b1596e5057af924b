-- A channel is registered, and its registration is withdrawn, at any moment; and each command that is begun.
use Rattle.std.proofs.Common.{◌≡◌, ℕ, ◌+◌, Bool, true, false, not, ◌&&◌, cond, List, [], ◌∷◌, refl, ap, sym, ◌∙◌, subst, Option, Some, None}
use Rattle.std.specs.Prelude.{is_some}
use Rattle.std.proofs.lemmas.Bool.{and_parts}
use Rattle.xp_base.specs.declared.reason.Reason.TheVariants.{Unregistered}
use Rattle.xp_script.specs.declared.command.Command.{Command}
use Rattle.xp_script.specs.declared.command.Command.TheVariants.{Send as SendCommand, Take, Release, Drain, Register, Unregister}
use Rattle.xp_script.specs.declared.command.Command.TheVariants as commands
use Rattle.xp_base.specs.declared.answer.RegisterAnswer.TheVariants.{Ok as RegisterOk, Already}
use Rattle.xp_base.specs.declared.answer.UnregisterAnswer.TheVariants.{Ok as UnregisterOk, NotRegistered}
use Rattle.xp_base.specs.declared.reason.Reason.{Reason}
use Rattle.xp_script.specs.Lawful.{AreBytes}
use Rattle.xp_protocol.specs.Parts.{IsRequestSize}
use Rattle.xp_protocol.specs.Records.{Recorded}
use Rattle.xp_protocol.specs.Effects.{Effect, just, and_then, Note, Registered, Withdrawn, with_notes}
use Rattle.xp_protocol.specs.Pulling.{take_refusal}
use Rattle.xp_protocol.specs.Releasing.{release_refusal}
use Rattle.xp_protocol.specs.State.{End, Size, Contact, link_of, is_begun}
use Rattle.xp_protocol.specs.Linking.{down_notes, down_end, close_now, open_notes, channel_closed}
use Rattle.xp_protocol.specs.Acts.{say, refused_send, drain_refusal, register_begun, unregister_begun, end_begun}
use Rattle.xp_meetings.proofs.Parts.{notes_more}
use Rattle.xp_promises.proofs.FlagEnds.{End as Control}
use Rattle.xp_promises.proofs.FlagKept.{Sound, again}
use Rattle.xp_promises.proofs.Arguments.{Sheet, Argued, registers_terms, unregisters_terms, withdraws_terms}
use Rattle.xp_promises.proofs.Books.{names, grown_none, ArePlain, plain_both}
use Rattle.xp_promises.proofs.Rests.{parts}
use Rattle.xp_promises.proofs.Lines.{Area, five, control, terms, View, view, Step, Went, Lives, calm_contact, gone}
use Rattle.xp_promises.proofs.Steps.{stay, silent_notes, view_hears, said, send_begins, take_begins, release_begins, drain_begins}
use Rattle.xp_promises.proofs.Shakes.{down_silent, reasoned, meet_reasoned, reasoned_plain, closed_kept, closed_clean}

one_size : (z k : Size) → Some z ≡ Some k → z ≡ k
one_size z k e = cc

not_some : (o : Option Reason) → not (is_some o) ≡ true → o ≡ None
not_some None h = refl
not_some (Some r) h = absurd (cc)

module _ (x y : Area) (q c : ℕ) (e : End) where
  -- it is registered
  abbrev now : Size → End
  now z = record e { registration = Some z }

  abbrev ok : List Note
  ok = Registered RegisterOk ∷ []

  registers : (z : Size) → IsRequestSize z.entries z.limit → e.registration ≡ None → Lives x y x y q c e (say ok (now z))
  registers z size none = record {
    by = λ u v rs ss b l.
        subst (λ (zs : List Recorded). Went u v x y rs zs ss (view (now z)) (view b) None) (sym (silent_notes q c ok rs (tt, tt)))
        (record {
          line = record { meet = l.meet; their_meet = l.their_meet; flags = again (control e) (control b) (five x.flags) (five y.flags) true (is_some e.shake.reason) (λ d. d) l.flags; rest = l.rest; argued = registers_terms x.sheet y.sheet (terms e) (terms b) l.argued z none size };
          others = λ k d. refl;
          apart = grown_none u v (names rs);
          clean = tt;
        });
  }

  register_begins : (z : Size) → IsRequestSize z.entries z.limit → (o : Option Size) → e.registration ≡ o → Step x y x y q c e (register_begun o z e)
  register_begins z size (Some first) r = said x y q c e e (Registered Already ∷ []) (tt, tt) refl
  register_begins z size None r = by (is_some e.shake.meet) refl where
    by : (b : Bool) → is_some e.shake.meet ≡ b → Step x y x y q c e (say ok (now z))
    by true on = calm_contact x y q c e (say ok (now z)) on (registers z size r)
    by false off = gone x y q c e (say ok (now z)) off (λ h k d. subst (λ (s : Size). IsRequestSize s.entries s.limit) (one_size z k d) size) (tt, tt) tt

  -- its registration is withdrawn
  abbrev gone_notes : List Note
  gone_notes = Withdrawn UnregisterOk ∷ []

  abbrev without : End
  without = (say gone_notes (record e { registration = None })).local

  abbrev over : Bool → Effect End (List Note)
  over b = and_then (say gone_notes (record e { registration = None })) (λ s. cond b (channel_closed Unregistered s) (just s))

  argued_withdrawn : (x y : Sheet) (v : View) (o : Option Reason) → e.shake.reason ≡ o → o ≡ None → Argued x y (terms e) v.terms → Argued x y (terms (close_now o Unregistered without).local) v.terms
  argued_withdrawn x y v (Some r) h n k = absurd (cc)
  argued_withdrawn x y v None h n k = subst (λ (z : View). Argued x y z.terms v.terms) (sym (view_hears (down_notes Unregistered without) (down_end Unregistered without) (down_silent Unregistered without))) (withdraws_terms x y (terms e) v.terms k Unregistered tt h)

  withdraws : (b : Bool) → (e.shake.sent.open_request && not (is_some e.shake.reason)) ≡ b → Lives x y x y q c e (over b)
  withdraws false d = record {
    by = λ u v rs ss b l.
        subst (λ (zs : List Recorded). Went u v x y rs zs ss (view without) (view b) None) (sym (silent_notes q c gone_notes rs (tt, tt)))
        (record {
          line = record { meet = l.meet; their_meet = l.their_meet; flags = again (control e) (control b) (five x.flags) (five y.flags) false (is_some e.shake.reason) (λ d. d) l.flags; rest = l.rest; argued = unregisters_terms x.sheet y.sheet (terms e) (terms b) l.argued (λ s n. free s n) };
          others = λ k d. refl;
          apart = grown_none u v (names rs);
          clean = tt;
        });
  } where
    free : e.shake.sent.open_request ≡ true → e.shake.reason ≡ None → ⊥
    free s n = let t : (true && not false) ≡ false = (λ i. sym s i && not (is_some (sym n i))) ∙ d in absurd (cc)
  withdraws true d = record {
    by = λ u v rs ss b l.
        let p = and_parts e.shake.sent.open_request (not (is_some e.shake.reason)) d in
        let none = not_some e.shake.reason p.1 in
        let g = channel_closed Unregistered without in
        let k = closed_kept u v x.ring y.ring q c rs ss Unregistered without (parts b) l.meet l.rest in
        subst (λ (zs : List Recorded). Went u v x y rs zs ss (view g.local) (view b) g.reason) (sym (notes_more q c gone_notes g.notes rs))
        (subst (λ (zs : List Recorded). Went u v x y rs (with_notes q c g.notes zs) ss (view g.local) (view b) g.reason) (sym (silent_notes q c gone_notes rs (tt, tt)))
        (record {
          line = record {
            meet = meet_reasoned Unregistered without e.shake.reason ∙ l.meet;
            their_meet = l.their_meet;
            flags = subst (λ (z : Control). Sound z (control b) (five x.flags) (five y.flags)) (sym (reasoned Unregistered without e.shake.reason refl)) (again (control e) (control b) (five x.flags) (five y.flags) false true (λ t. refl) l.flags);
            rest = k.rest;
            argued = argued_withdrawn x.sheet y.sheet (view b) e.shake.reason refl none l.argued;
          };
          others = k.others;
          apart = k.apart;
          clean = closed_clean Unregistered without;
        }));
  }

  no_record : (b : Bool) (m : Option Contact) → is_some m ≡ false → ArePlain (open_notes b m e.epoch)
  no_record true m off = tt
  no_record false None off = tt
  no_record false (Some m) off = absurd (cc)

  unregistered : (o : Option Reason) → (close_now o Unregistered without).local.registration ≡ None
  unregistered (Some r) = refl
  unregistered None = ap (λ (v : View). v.terms.registration) (view_hears (down_notes Unregistered without) (down_end Unregistered without) (down_silent Unregistered without))

  away : (b : Bool) → is_some e.shake.meet ≡ false → Step x y x y q c e (over b)
  away false off = gone x y q c e (over false) off (λ h z d. absurd (cc)) (tt, tt) tt
  away true off =
      gone x y q c e (over true) (ap (λ (o : Option Contact). is_some o) (meet_reasoned Unregistered without e.shake.reason) ∙ off) (λ h z d. (let t : None ≡ Some z = sym (unregistered e.shake.reason) ∙ d in absurd (cc)))
      (tt, plain_both (open_notes (is_begun e) e.shake.meet e.epoch) _ (no_record (is_begun e) e.shake.meet off) (reasoned_plain Unregistered without e.shake.reason)) (closed_clean Unregistered without)

  unregister_begins : (o : Option Size) → Step x y x y q c e (unregister_begun o e)
  unregister_begins None = said x y q c e e (Withdrawn NotRegistered ∷ []) (tt, tt) refl
  unregister_begins (Some z) = by (is_some e.shake.meet) refl where
    by : (b : Bool) → is_some e.shake.meet ≡ b → Step x y x y q c e (over (e.shake.sent.open_request && not (is_some e.shake.reason)))
    by true on = calm_contact x y q c e (over (e.shake.sent.open_request && not (is_some e.shake.reason))) on (withdraws (e.shake.sent.open_request && not (is_some e.shake.reason)) refl)
    by false off = away (e.shake.sent.open_request && not (is_some e.shake.reason)) off

  -- what a lawful command has: a payload of bytes, a size that may be asked for
  abbrev pub HasBytes : Command → Type 0
  HasBytes (SendCommand k d payload wait notify) = AreBytes payload
  HasBytes (Register k d entries limit) = IsRequestSize entries limit
  HasBytes z = Unit {0}

  pub begins : (z : Command) → HasBytes z → Step x y x y q c e (end_begun e z)
  begins (SendCommand k d payload wait notify) bytes = send_begins x y q c e payload wait notify bytes (refused_send e payload) refl
  begins (Take k d wait) bytes = take_begins x y q c e wait (take_refusal (link_of e)) refl
  begins (Release k d number) bytes = release_begins x y q c e number (release_refusal (link_of e) number e.sides.ack) refl
  begins (Drain k d) bytes = drain_begins x y q c e (drain_refusal (link_of e))
  begins (Register k d entries limit) size = register_begins (record { entries = entries; limit = limit }) size e.registration refl
  begins (Unregister k d) bytes = unregister_begins e.registration
  begins (commands.Connected k d) bytes = stay x y q c e
  begins (commands.Closed k d) bytes = said x y q c e (record e { closed_asked = e.closed_asked + 1 }) [] tt refl
  begins (commands.Net frame) bytes = stay x y q c e
  begins (commands.Frames count) bytes = stay x y q c e
  begins (commands.Deactivate k) bytes = stay x y q c e
  begins (commands.Activate k) bytes = stay x y q c e
  begins commands.Leave bytes = stay x y q c e
  begins (commands.Idle turns) bytes = stay x y q c e
  begins commands.Offline bytes = stay x y q c e
  begins commands.Online bytes = stay x y q c e
