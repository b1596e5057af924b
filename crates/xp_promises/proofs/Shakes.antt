-- Flags that are sent, taken and handled keep a line, and so do reasons, and epochs that end.
use Rattle.std.proofs.Common.{◌≡◌, ℕ, ◌+◌, zero, suc, Bool, true, false, not, ◌&&◌, ◌||◌, cond, List, [], ◌∷◌, map, ◌++◌, refl, ap, sym, ◌∙◌, subst, arith, Option, Some, None, inl, inr, ◌⊎◌}
use Rattle.std.specs.Prelude.{is_some, nat_eq}
use Rattle.xp_base.specs.declared.link.Kind.{Kind}
use Rattle.xp_base.specs.declared.link.Kind.TheVariants.{CloseRequest, CloseReply, OpenRequest, OpenReply, OpenComplete, MsgRequest}
use Rattle.xp_base.specs.declared.reason.Reason.{Reason}
use Rattle.xp_base.specs.declared.reason.Reason.TheVariants.{PartnerClosed, UnequalSizes, BadArgs}
use Rattle.xp_base.specs.Kinds.{has as kind_has}
use Rattle.xp_base.specs.Kinds.{Kinds, also, without, no_kinds, next_of}
use Rattle.xp_protocol.specs.Records.{Recorded, blank_record, has_begun}
use Rattle.xp_protocol.specs.Effects.{first_reason, Effect, just, and_then, Note, BySend, ByPull, with_notes, ToldOver}
use Rattle.xp_protocol.specs.Sending.{closed_send, new_sending}
use Rattle.xp_protocol.specs.Pulling.{closed_take, new_pulling}
use Rattle.xp_protocol.specs.Releasing.{new_releasing}
use Rattle.xp_protocol.specs.State.{End, Contact, is_connected, is_begun, any_kind}
use Rattle.xp_protocol.specs.Linking.{hears, down_notes, down_end, close_now, link_closed, link_down, closed_release, closed_drain, over_note, over_notes, link_finished, open_notes, opened_notes, epoch_over, is_ended, booted_end, kind_got, handled, well_handled, kind_refused, refused, handled_next, settle, joined_notes, connection_noted, settled as all_settled, with_taken, flags_got, with_sent, control_sent, flag_sent, owed, IsReady, channel_closed, changed, unequal, are_unequal, request_handled, reply_handled, code_handled, is_request, has_argument, kept_for, argument_stored, with_argument, argument_read, request_of, code_of, kind_of, limit_in, agreed, agreed_by, end_sent, parted}
use Rattle.xp_base.specs.declared.session.Session.{Session}
use Rattle.xp_protocol.specs.Promised.{IsUnrefused, size_sent, Name, name_of}
use Rattle.xp_meetings.proofs.Parts.{notes_more}
use Rattle.xp_promises.proofs.FlagEnds.{End as Control, Oreq, Orep, Ocomp, Creq, Crep, Owed, Next, settled, Take, Send, Handle, no_kinds as no_five}
use Rattle.xp_meetings.proofs.Both.{Side}
use Rattle.xp_meetings.proofs.Touch.{IsWaiting}
use Rattle.xp_promises.proofs.FlagKept.{Sound, flags_kept, again, settled_yes, settled_no as settled_kept, fine_oreq, fine_orep, fine_ocomp, fine_creq, fine_crep}
use Rattle.xp_promises.proofs.FlagUse.{unopened_sent, unreplied_sent, unreplied_got, not_refused, reply_after, sent_oreq, sent_orep, sent_creq, got_oreq, opening_even, unopened_got}
use Rattle.xp_promises.proofs.Arguments.{Sheet, Argued, kept_some, takes_terms, closes_terms, sends_oreq, sends_orep, sends_ocomp, sends_creq, sends_crep, agreed_sizes, request_is, code_is, gets_oreq, gets_orep, gets_ocomp, gets_creq, gets_crep, ends_terms, stores_request, stores_reply, stores_code, reads_request, reads_reply, reads_code}
use Rattle.xp_protocol.specs.State.{Replied, size_in}
use Rattle.xp_protocol.specs.Pulling.{is_copying}
use Rattle.xp_protocol.specs.declared.rule.Argument.{Argument}
use Rattle.xp_protocol.specs.declared.rule.Argument.TheVariants.{Request, Reply, Code}
use Rattle.xp_promises.proofs.Books.{core, at, names, Grown, grown_none, grown_by, grown_one, grown_then, has, first_has, names_more, below_missing, HasFirst, Others, ArePlain, plain_both, plain_notes, name_other}
use Rattle.xp_promises.proofs.Ways.{InSide}
use Rattle.xp_promises.proofs.Rests.{Data, Parts, parts, Rest, noted, begun_by, requests, went_over, book_begun, opens, next_parts, leaves_epoch, put_zeroed, get_zeroed, in_side, sides_anew}
use Rattle.xp_promises.proofs.Lines.{Area, five, control, View, view, met, Line, Room, Fine, Step, Went, Lives, in_contact, then_lives, gone, first_clean, turned_flags, terms, HasSize}
use Rattle.xp_promises.proofs.Steps.{AreSilent, silent_both, silent_notes, silent_plain, view_hears, stays, open_connected, connected, owed_set, ringed}

-- the connection goes down: only answers are noted
pub down_silent : (reason : Reason) (e : End) → AreSilent (down_notes reason e)
down_silent reason e = silent_both _ _ (send_by e.sides.send.send) (silent_both _ _ (take_by e.sides.pull.take) (silent_both _ _ (release_by e.sides.releasing) (drain_by e.sides.draining))) where
  send_by : (o : _) → AreSilent (map BySend (closed_send reason o))
  send_by None = tt
  send_by (Some s) = (tt, tt)

  take_by : (o : _) → AreSilent (map ByPull (closed_take reason o))
  take_by None = tt
  take_by (Some s) = (tt, tt)

  release_by : (b : Bool) → AreSilent (closed_release b)
  release_by true = (tt, tt)
  release_by false = tt

  drain_by : (b : Bool) → AreSilent (closed_drain reason b)
  drain_by true = (tt, tt)
  drain_by false = tt

-- a reason is given, where none stands
pub reasoned : (reason : Reason) (e : End) (o : Option Reason) → e.shake.reason ≡ o → control (close_now o reason e).local ≡ record (control e) { reason = true }
reasoned reason e (Some r) h = let with_reason : Bool → Control = λ b. record (control e) { reason = b } in ap with_reason (ap (λ (z : Option Reason). is_some z) h)
reasoned reason e None h = ap (λ (v : View). v.control) (view_hears (down_notes reason e) (down_end reason e) (down_silent reason e))

pub argued_reasoned : (x y : Sheet) (reason : Reason) → IsUnrefused (Some reason) → (e : End) (v : View) (o : Option Reason) → e.shake.reason ≡ o → Argued x y (terms e) v.terms → Argued x y (terms (close_now o reason e).local) v.terms
argued_reasoned x y reason clean e v (Some r) h k = k
argued_reasoned x y reason clean e v None h k = subst (λ (z : View). Argued x y z.terms v.terms) (sym (view_hears (down_notes reason e) (down_end reason e) (down_silent reason e))) (closes_terms x y (terms e) v.terms k reason clean h)

or_true : (b : Bool) → (b || true) ≡ true
or_true true = refl
or_true false = refl

begun_reason : (e : End) → is_some e.shake.reason ≡ true → is_begun e ≡ true
begun_reason e h = rw h (or_true (any_kind e.shake.sent))

rest_reasoned : (u v : Session) (x y : Data) (q c : ℕ) (rs ss : List Recorded) (reason : Reason) (e : End) (r : Parts) (o : Option Reason) → e.shake.reason ≡ o → HasFirst (at u v e.epoch) rs → Rest u v x y rs ss (record (parts e) { begun = true }) r → Rest u v x y (with_notes q c (close_now o reason e).notes rs) ss (parts (close_now o reason e).local) r
rest_reasoned u v x y q c rs ss reason e r (Some first) stands has h = subst (λ (b : Bool). Rest u v x y rs ss (record (parts e) { begun = b }) r) (sym (begun_reason e (ap (λ (o : Option Reason). is_some o) stands))) h
rest_reasoned u v x y q c rs ss reason e r None stands has h =
    let ns = down_notes reason e in
    let silent = down_silent reason e in
    subst (λ (zs : List Recorded). Rest u v x y zs ss (parts (hears ns (down_end reason e))) r) (sym (silent_notes q c ns rs silent))
    (subst (λ (w : View). Rest u v x y rs ss w.parts r) (sym (view_hears ns (down_end reason e) silent))
    (went_over u v x y rs ss (record (parts e) { begun = true }) r (is_begun (down_end reason e)) (or_true (any_kind e.shake.sent)) has h))

-- an end that isn't begun hasn't opened its epoch
unopened : (e : End) → is_begun e ≡ false → e.shake.sent.open_complete ≡ false
unopened e h = by e.shake.sent (is_some e.shake.reason) h where
  by : (k : Kinds) (b : Bool) → (any_kind k || b) ≡ false → k.open_complete ≡ false
  by k b h = grind arith

-- the record of the epoch, where it isn't there
record Booked (u v : Session) (x y : Data) (rs zs ss : List Recorded) (e : End) (r : Parts) : Type 0 where
  rest : Rest u v x y zs ss (record (parts e) { begun = true }) r
  first : HasFirst (at u v e.epoch) zs
  others : Others u v rs zs
  apart : Grown u v (names rs) (names zs)

books : (u v : Session) (x y : Data) (q c : ℕ) (rs ss : List Recorded) (e : End) (r : Parts) → e.shake.meet ≡ met u v → Rest u v x y rs ss (parts e) r → Booked u v x y rs (with_notes q c (opened_notes e) rs) ss e r
books u v x y q c rs ss e r on h = by (is_begun e) refl e.shake.meet on where
  contact_name : Option Contact → Name
  contact_name None = at u v e.epoch
  contact_name (Some m) = record { epoch = e.epoch; own = m.own; theirs = m.theirs }

  by : (b : Bool) → is_begun e ≡ b → (m : Option Contact) → m ≡ met u v → Booked u v x y rs (with_notes q c (open_notes b m e.epoch) rs) ss e r
  by true d m on = record { rest = subst (λ (b : Bool). Rest u v x y rs ss (record (parts e) { begun = b }) r) d h; first = h.mine.first d; others = λ k w. refl; apart = grown_none u v (names rs) }
  by false d None on = absurd (cc)
  by false d (Some m) on =
      let z = has_begun e.epoch m.own m.theirs false (blank_record q c) in
      let name : name_of z ≡ at u v e.epoch = ap contact_name on in
      record { rest = book_begun u v x y rs ss (parts e) r z (unopened e d) name refl refl refl d h; first = name; apart = subst (λ (k : Name). Grown u v (names rs) (k ∷ names rs)) (sym name) (grown_one u v e.epoch (names rs) (below_missing u v e.epoch (names rs) (h.mine.fresh d))); others = λ k w. ap core (name_other u v e.epoch z rs name k w) }

told_plain : (numbers : List ℕ) → ArePlain (map ToldOver numbers)
told_plain [] = tt
told_plain (x ∷ xs) = (tt, told_plain xs)

over_plain : (e : End) → ArePlain (over_notes e)
over_plain e = plain_both (over_note e.shake.reason) (map ToldOver e.sides.pending_notices) (by e.shake.reason) (told_plain e.sides.pending_notices) where
  by : (o : Option Reason) → ArePlain (over_note o)
  by None = tt
  by (Some r) = (tt, tt)

rest_ended : (u v : Session) (x y : Data) (q c : ℕ) (rs ss : List Recorded) (e : End) (r : Parts) → Rest u v x y rs ss (parts e) r → Rest u v x y (with_notes q c (epoch_over e).notes rs) ss (parts (epoch_over e).local) r
rest_ended u v x y q c rs ss e r h =
    let s = new_sending e.sides.send.entries e.sides.send.limit in
    let i : InSide = record { pull = new_pulling e.sides.pull.entries e.sides.pull.limit; ack = new_releasing; stored = 0 } in
    noted u v x y rs _ ss (next_parts (parts e) s i) r (plain_notes q c (over_notes e) rs (over_plain e))
    (leaves_epoch u v x y rs ss (parts e) r s i (record { put = refl; known = refl; next = refl; stored = refl }) (record { stored = refl; front = refl; later = refl; count = refl; cache = refl; pulled = refl; seen = refl; copied = refl }) h)

-- what a change of an end leaves of the rest, whatever the flags are
pub record Kept (u v : Session) (x y : Data) (q c : ℕ) (rs ss : List Recorded) (f : Effect End (List Note)) (r : Parts) : Type 0 where
  pub rest : Rest u v x y (with_notes q c f.notes rs) ss (parts f.local) r
  pub others : Others u v rs (with_notes q c f.notes rs)
  pub apart : Grown u v (names rs) (names (with_notes q c f.notes rs))

-- what a flag that is handled leaves of the contact
pub meet_reasoned : (reason : Reason) (e : End) (o : Option Reason) → (close_now o reason e).local.shake.meet ≡ e.shake.meet
meet_reasoned reason e (Some r) = refl
meet_reasoned reason e None = ap (λ (v : View). v.meet) (view_hears (down_notes reason e) (down_end reason e) (down_silent reason e))

pub reasoned_plain : (reason : Reason) (e : End) (o : Option Reason) → ArePlain (close_now o reason e).notes
reasoned_plain reason e (Some r) = tt
reasoned_plain reason e None = silent_plain (down_notes reason e) (down_silent reason e)

-- the channel closes for a reason
pub closed_kept : (u v : Session) (x y : Data) (q c : ℕ) (rs ss : List Recorded) (reason : Reason) (e : End) (r : Parts) → e.shake.meet ≡ met u v → Rest u v x y rs ss (parts e) r → Kept u v x y q c rs ss (channel_closed reason e) r
closed_kept u v x y q c rs ss reason e r on h =
    let z = books u v x y q c rs ss e r on h in
    let f = close_now e.shake.reason reason e in
    let zs = with_notes q c (opened_notes e) rs in
    let more = sym (notes_more q c (opened_notes e) f.notes rs) in
    let n = plain_notes q c f.notes zs (reasoned_plain reason e e.shake.reason) in
    record {
      rest = subst (λ (ws : List Recorded). Rest u v x y ws ss (parts f.local) r) more (rest_reasoned u v x y q c zs ss reason e r e.shake.reason refl z.first z.rest);
      others = subst (λ (ws : List Recorded). Others u v rs ws) more (λ j w. n.core j ∙ z.others j w);
      apart = subst (λ (ws : List Recorded). Grown u v (names rs) (names ws)) more (grown_then u v (names rs) (names zs) _ z.apart (grown_by u v (names zs) _ n.names));
    }

pub closed_clean : (reason : Reason) (e : End) → IsUnrefused (channel_closed reason e).reason
closed_clean reason e = by e.shake.reason where
  by : (o : Option Reason) → IsUnrefused (close_now o reason e).reason
  by (Some r) = tt
  by None = tt

pub closes : (x y : Area) (q c : ℕ) (reason : Reason) → IsUnrefused (Some reason) → (e : End) → Lives x y x y q c e (channel_closed reason e)
closes x y q c reason clean e = record {
  by = λ u v rs ss b l.
      let k = closed_kept u v x.ring y.ring q c rs ss reason e (parts b) l.meet l.rest in
      record {
        line = record {
          meet = meet_reasoned reason e e.shake.reason ∙ l.meet;
          their_meet = l.their_meet;
          flags = subst (λ (z : Control). Sound z (control b) (five x.flags) (five y.flags)) (sym (reasoned reason e e.shake.reason refl)) (again (control e) (control b) (five x.flags) (five y.flags) (is_some e.registration) true (λ d. refl) l.flags);
          rest = k.rest;
          argued = argued_reasoned x.sheet y.sheet reason clean e (view b) e.shake.reason refl l.argued;
        };
        others = k.others;
        apart = k.apart;
        clean = closed_clean reason e;
      };
}

unequals : (x y : Area) (q c : ℕ) (e : End) → Lives x y x y q c e (unequal e)
unequals x y q c e = by (are_unequal e) where
  by : (b : Bool) → Lives x y x y q c e (cond b (channel_closed (UnequalSizes (limit_in e.shake.own_size) (limit_in e.shake.their_size)) e) (just e))
  by true = closes x y q c (UnequalSizes (limit_in e.shake.own_size) (limit_in e.shake.their_size)) tt e
  by false = stays x y q c e

-- a flag changes an end, and where that ends its epoch, it ends, or it closes for unequal sizes: what of it keeps the flags, the arguments, and the rest
then_changed : (x y y' : Area) (q c : ℕ) (e : End) (f : Effect End (List Note)) → y'.ring ≡ y.ring → y'.sheet ≡ y.sheet → f.local.shake.meet ≡ e.shake.meet →
    ((b : Control) → Sound (control e) b (five x.flags) (five y.flags) → Sound (settled (control f.local)) b (five x.flags) (five y'.flags)) →
    ((u v : Session) (rs ss : List Recorded) (b : End) → Line u v x y rs ss (view e) (view b) → Kept u v x.ring y.ring q c rs ss f (parts b)) →
    ((u v : Session) (rs ss : List Recorded) (b : End) → Line u v x y rs ss (view e) (view b) → Argued x.sheet y.sheet (terms f.local) (terms b)) → IsUnrefused f.reason → Lives x y x y' q c e (and_then f changed)
then_changed x y y' q c e f same sheet meet flags rest argued clean = by (is_ended f.local) refl where
  by : (z : Bool) → is_ended f.local ≡ z → Lives x y x y' q c e (and_then f (λ s. cond z (epoch_over s) (unequal s)))
  by false d = then_lives x y x y' x y' q c e f (λ s. unequal s) (record {
    by = λ u v rs ss b l.
        let k = rest u v rs ss b l in
        record {
          line = record {
            meet = meet ∙ l.meet;
            their_meet = l.their_meet;
            flags = subst (λ (z : Control). Sound z (control b) (five x.flags) (five y'.flags)) (settled_kept (control f.local) d) (flags (control b) l.flags);
            rest = subst (λ (z : Data). Rest u v x.ring z (with_notes q c f.notes rs) ss (parts f.local) (parts b)) (sym same) k.rest;
            argued = subst (λ (z : Sheet). Argued x.sheet z (terms f.local) (terms b)) (sym sheet) (argued u v rs ss b l);
          };
          others = k.others;
          apart = k.apart;
          clean = clean;
        };
  }) (unequals x y' q c f.local)
  by true d = record {
    by = λ u v rs ss b l.
        let zs = with_notes q c f.notes rs in
        let k = rest u v rs ss b l in
        let z = rest_ended u v x.ring y.ring q c zs ss f.local (parts b) k.rest in
        let n = plain_notes q c (over_notes f.local) zs (over_plain f.local) in
        let s = subst (λ (z : Control). Sound z (control b) (five x.flags) (five y'.flags)) (settled_yes (control f.local) d) (flags (control b) l.flags) in
        let s' = again _ (control b) (five x.flags) (five y'.flags) (is_some (kept_for f.local.shake.reason f.local.registration)) false (λ t. t) s in
        let none : f.local.epoch + 1 ≡ b.epoch → b.shake.got.open_request ≡ true → ⊥ = λ i g. (let t : false ≡ true = got_oreq (control (epoch_over f.local).local) (control b) (five x.flags) (five y'.flags) i g s' in absurd (cc)) in
        subst (λ (ws : List Recorded). Went u v x y' rs ws ss (view (epoch_over f.local).local) (view b) (first_reason f.reason None)) (sym (notes_more q c f.notes (over_notes f.local) rs))
        (record {
          line = record {
            meet = meet ∙ l.meet;
            their_meet = l.their_meet;
            flags = s';
            rest = subst (λ (d : Data). Rest u v x.ring d (with_notes q c (over_notes f.local) zs) ss (parts (epoch_over f.local).local) (parts b)) (sym same) z;
            argued = subst (λ (w : Sheet). Argued x.sheet w (terms (epoch_over f.local).local) (terms b)) (sym sheet) (ends_terms x.sheet y.sheet (terms f.local) (terms b) (argued u v rs ss b l) (kept_for f.local.shake.reason f.local.registration) (λ w t. kept_some f.local.shake.reason f.local.registration w t) none);
          };
          others = λ j w. n.core j ∙ k.others j w;
          apart = grown_then u v (names rs) (names zs) _ k.apart (grown_by u v (names zs) _ n.names);
          clean = first_clean f.reason None clean tt;
        });
  }

-- a flag is sent
abbrev pub stored_sheet : Argument → End → Sheet → Sheet
stored_sheet Request e z = record z { request = request_of e.registration }
stored_sheet Reply e z = record z { reply = true }
stored_sheet Code e z = record z { code = code_of e.shake.reason }

abbrev pub flagged : Area → Kind → Area
flagged y k = record y { flags = also k y.flags }

owed_oreq : (e : End) → owed OpenRequest e ≡ true → Owed Oreq (control e)
owed_oreq e h = by (is_some e.registration) (is_some e.shake.reason) e.shake.sent.open_request h where
  by : (a b d : Bool) → (a && (not b && not d)) ≡ true → (a ≡ true) × (b ≡ false) × (d ≡ false)
  by a b d h = grind arith

-- an agreed limit: both open requests are there
agreed_both : (s g new : Bool) (own their : ℕ) → is_some (cond (s && g) (agreed_by new own their) None) ≡ true → (s ≡ true) × (g ≡ true) × (is_some (agreed_by new own their) ≡ true)
agreed_both true true new own their h = (refl, refl, h)
agreed_both true false new own their h = absurd (cc)
agreed_both false g new own their h = absurd (cc)

pub owed_agreed : (e : End) → owed OpenReply e ≡ true → (e.shake.sent.open_request ≡ true) × (e.shake.got.open_request ≡ true) × (is_some (agreed_by e.shake.both_new (limit_in e.shake.own_size) (limit_in e.shake.their_size)) ≡ true)
owed_agreed e h = agreed_both e.shake.sent.open_request e.shake.got.open_request e.shake.both_new _ _ (by (is_some e.shake.reason) (is_some (agreed e.shake)) e.shake.sent.open_reply h) where
  by : (a t z : Bool) → (not a && (t && not z)) ≡ true → t ≡ true
  by a t z h = grind arith

owed_orep : (e : End) → owed OpenReply e ≡ true → Owed Orep (control e)
owed_orep e h = let k = owed_agreed e h in by (is_some e.shake.reason) (is_some (agreed e.shake)) e.shake.sent.open_reply h k.0 k.1 where
  by : (a t z : Bool) → (not a && (t && not z)) ≡ true → e.shake.sent.open_request ≡ true → e.shake.got.open_request ≡ true → (a ≡ false) × (e.shake.sent.open_request ≡ true) × (e.shake.got.open_request ≡ true) × (z ≡ false)
  by false true false h s g = (refl, s, g, refl)
  by true t z h s g = absurd (cc)
  by false false z h s g = absurd (cc)
  by false true true h s g = absurd (cc)

owed_ocomp : (e : End) → owed OpenComplete e ≡ true → Owed Ocomp (control e)
owed_ocomp e h = by (is_some e.shake.reason) e.shake.sent.open_reply e.shake.got.open_reply e.shake.sent.open_complete h where
  by : (a b d z : Bool) → (not a && (b && (d && not z))) ≡ true → (a ≡ false) × (b ≡ true) × (d ≡ true) × (z ≡ false)
  by a b d z h = grind arith

owed_creq : (e : End) → owed CloseRequest e ≡ true → Owed Creq (control e)
owed_creq e h = by (is_some e.shake.reason) e.shake.sent.close_request h where
  by : (a z : Bool) → (a && not z) ≡ true → (a ≡ true) × (z ≡ false)
  by a z h = grind arith

owed_crep : (e : End) → owed CloseReply e ≡ true → Owed Crep (control e)
owed_crep e h = by e.shake.sent.close_request e.shake.got.close_request e.shake.sent.close_reply (not (is_copying e.sides.pull)) h where
  by : (a b z t : Bool) → (a && (b && (not z && t))) ≡ true → (a ≡ true) × (b ≡ true) × (z ≡ false)
  by a b z t h = grind arith

owed_idle : (e : End) → owed CloseReply e ≡ true → is_copying e.sides.pull ≡ false
owed_idle e h = by e.shake.sent.close_request e.shake.got.close_request e.shake.sent.close_reply (is_copying e.sides.pull) h where
  by : (a b z t : Bool) → (a && (b && (not z && not t))) ≡ true → t ≡ false
  by a b z t h = grind arith

sent_begun : (k : Kind) → (k ≡ MsgRequest → ⊥) → (s : Kinds) (r : Bool) → (any_kind (also k s) || r) ≡ true
sent_begun OpenRequest n s r = grind arith
sent_begun OpenReply n s r = grind arith
sent_begun OpenComplete n s r = grind arith
sent_begun CloseRequest n s r = grind arith
sent_begun CloseReply n s r = grind arith
sent_begun MsgRequest n s r = absurd (n refl)

module _ (x y : Area) (q c : ℕ) (e : End) where
  -- the record of the epoch is there, and a kind more was sent in it
  rest_sent : (t : Bool) → t ≡ true → (u v : Session) (rs ss : List Recorded) (b : End) → Line u v x y rs ss (view e) (view b) → Rest u v x.ring y.ring (with_notes q c (opened_notes e) rs) ss (record (parts e) { begun = t }) (parts b) × Others u v rs (with_notes q c (opened_notes e) rs) × Grown u v (names rs) (names (with_notes q c (opened_notes e) rs))
  rest_sent t is u v rs ss b l =
      let z = books u v x.ring y.ring q c rs ss e (parts b) l.meet l.rest in
      (begun_by u v x.ring y.ring (with_notes q c (opened_notes e) rs) ss (record (parts e) { begun = true }) (parts b) t is z.first z.rest, z.others, z.apart)

  -- only the flag and the record
  only_sent : (k : Kind) → (u v : Session) (rs ss : List Recorded) (b : End) → parts (with_sent k e).local ≡ record (parts e) { begun = is_begun (with_sent k e).local } → is_begun (with_sent k e).local ≡ true → Line u v x y rs ss (view e) (view b) → Kept u v x.ring y.ring q c rs ss (with_sent k e) (parts b)
  only_sent k u v rs ss b same is l =
      let z = rest_sent (is_begun (with_sent k e).local) is u v rs ss b l in
      record { rest = subst (λ (p : Parts). Rest u v x.ring y.ring (with_notes q c (opened_notes e) rs) ss p (parts b)) (sym same) z.0; others = z.1; apart = z.2 }

  pub sends_flag : (k : Kind) → owed k e ≡ true → IsReady k e → (k ≡ MsgRequest → ⊥) → Lives x y x (flagged y k) q c e (and_then (with_sent k e) changed)
  sends_flag OpenRequest o ready n =
      let d = owed_oreq e o in
      then_changed x y (flagged y OpenRequest) q c e (with_sent OpenRequest e) refl refl refl (λ b s. flags_kept (Send Oreq) (control e) b (five x.flags) (five y.flags) d s)
      (λ u v rs ss b l.
      let t = is_begun (with_sent OpenRequest e).local in
      let z = rest_sent t (sent_begun OpenRequest n e.shake.sent (is_some e.shake.reason)) u v rs ss b l in
      record { rest = requests u v x.ring y.ring (with_notes q c (opened_notes e) rs) ss (record (parts e) { begun = t }) (parts b) ready.0 ready.1 z.0; others = z.1; apart = z.2 })
      (λ u v rs ss b l. sends_oreq x.sheet y.sheet (terms e) (terms b) l.argued d.0 ready.2 (λ i g. (let t = got_oreq (control e) (control b) (five x.flags) (five y.flags) i g l.flags in let f = d.2 in absurd (cc))) (unreplied_sent (control e) d.2 l.flags.fit_a) (unopened_sent (control e) d.2 l.flags.fit_a)) tt
  sends_flag OpenReply o ready n = then_changed x y (flagged y OpenReply) q c e (with_sent OpenReply e) refl refl refl (λ b s. flags_kept (Send Orep) (control e) b (five x.flags) (five y.flags) (owed_orep e o) s) (λ u v rs ss b l. only_sent OpenReply u v rs ss b refl (sent_begun OpenReply n e.shake.sent (is_some e.shake.reason)) l) (λ u v rs ss b l. sends_orep x.sheet y.sheet (terms e) (terms b) l.argued ready (owed_agreed e o).2) tt
  sends_flag OpenComplete o ready n =
      let d = owed_ocomp e o in
      then_changed x y (flagged y OpenComplete) q c e (with_sent OpenComplete e) refl refl refl (λ b s. flags_kept (Send Ocomp) (control e) b (five x.flags) (five y.flags) d s)
      (λ u v rs ss b l.
      let z = books u v x.ring y.ring q c rs ss e (parts b) l.meet l.rest in
      let own = l.flags.fit_a.orep d.1 in
      let zeros = z.rest.mine.ready own.0 in
      let even = opening_even (control e) (control b) (five x.flags) (five y.flags) d l.flags in
      let asked = got_oreq (control b) (control e) (five y.flags) (five x.flags) (sym even) own.1 (turned_flags (control e) (control b) (five x.flags) (five y.flags) l.flags) in
      let sizes = agreed_sizes x.sheet y.sheet (terms e) (terms b) l.argued even own.0 own.1 asked in
      let zs = with_notes q c (opened_notes e) rs in
      let anew = (end_sent OpenComplete e).sides in
      let inn : InSide = record (in_side e) { pull = anew.pull } in
      let i = z.rest.mine.inn d.3 in
      let rest = sides_anew u v x.ring y.ring zs ss (record (parts e) { begun = true }) (parts b) anew.send inn d.3 (record { put = refl; known = refl; next = refl; stored = refl }) (record { stored = i.stored; front = i.front; later = i.later; count = refl; cache = refl; pulled = refl; seen = refl; copied = refl }) z.rest in
      record { rest = opens u v x.ring y.ring zs ss (record (parts e) { begun = true; send = anew.send; inn = inn }) (parts b) (is_begun (with_sent OpenComplete e).local) (sent_begun OpenComplete n e.shake.sent (is_some e.shake.reason)) d.3 zeros.0 zeros.1 z.first even sizes.own sizes.their (λ t. sizes.fit t (l.flags.fit_b.orep (l.flags.fit_b.ocomp t).0).1) rest; others = z.others; apart = z.apart })
      (λ u v rs ss b l. sends_ocomp x.sheet y.sheet (terms e) (terms b) l.argued) tt
  sends_flag CloseRequest o ready n = then_changed x y (flagged y CloseRequest) q c e (with_sent CloseRequest e) refl refl refl (λ b s. flags_kept (Send Creq) (control e) b (five x.flags) (five y.flags) (owed_creq e o) s) (λ u v rs ss b l. only_sent CloseRequest u v rs ss b refl (sent_begun CloseRequest n e.shake.sent (is_some e.shake.reason)) l) (λ u v rs ss b l. sends_creq x.sheet y.sheet (terms e) (terms b) l.argued ready) tt
  sends_flag CloseReply o ready n = then_changed x y (flagged y CloseReply) q c e (with_sent CloseReply e) refl refl refl (λ b s. flags_kept (Send Crep) (control e) b (five x.flags) (five y.flags) (owed_crep e o) s) (λ u v rs ss b l. only_sent CloseReply u v rs ss b refl (sent_begun CloseReply n e.shake.sent (is_some e.shake.reason)) l) (λ u v rs ss b l. sends_crep x.sheet y.sheet (terms e) (terms b) l.argued (owed_idle e o)) tt
  sends_flag MsgRequest o ready n = absurd (n refl)

-- which kind is handled next
next_oreq : (b : Bool) (s : Kinds) → next_of b s ≡ Some OpenRequest → (s.open_request ≡ true) × ((b && s.close_reply) ≡ false)
next_oreq true s h = grind arith
next_oreq false s h = grind arith

next_orep : (b : Bool) (s : Kinds) → next_of b s ≡ Some OpenReply → (s.open_reply ≡ true) × ((b && s.close_reply) ≡ false) × (s.open_request ≡ false)
next_orep true s h = grind arith
next_orep false s h = grind arith

next_ocomp : (b : Bool) (s : Kinds) → next_of b s ≡ Some OpenComplete → (s.open_complete ≡ true) × ((b && s.close_reply) ≡ false) × (s.open_request ≡ false) × (s.open_reply ≡ false)
next_ocomp true s h = grind arith
next_ocomp false s h = grind arith

next_creq : (b : Bool) (s : Kinds) → next_of b s ≡ Some CloseRequest → (s.close_request ≡ true) × ((b && s.close_reply) ≡ false) × (s.open_request ≡ false) × (s.open_reply ≡ false) × (s.open_complete ≡ false)
next_creq true s h = grind arith
next_creq false s h = grind arith

next_crep : (b : Bool) (s : Kinds) → next_of b s ≡ Some CloseReply → (s.close_reply ≡ true) × (b ≡ false → s.close_request ≡ false)
next_crep true s h = grind arith
next_crep false s h = grind arith

settled_no : (e : Control) → (e.sent.crep && e.got.crep) ≡ false → settled e ≡ e
settled_no e h = rw h refl

got_before : (a b d : Bool) → (a || (not b || d)) ≡ false → b ≡ true
got_before a b d h = grind arith

module _ (x y : Area) (q c : ℕ) where
  module _ (e : End) where
    abbrev now : Option Kind
    now = next_of e.shake.got.close_request e.shake.taken

    -- a close reply comes after the close request
    crep_next : now ≡ Some CloseReply → (b : Control) → Sound (control e) b (five x.flags) (five y.flags) → Next Crep (control e)
    crep_next h b s =
        let n = next_crep e.shake.got.close_request e.shake.taken h in
        let g : e.shake.got.close_request ≡ true = by e.shake.got.close_request refl n.1 (λ d. reply_after (control e) b (five x.flags) (five y.flags) n.0 d s) in
        (n.0, (g, g))
      where
        by : (z : Bool) → e.shake.got.close_request ≡ z → (z ≡ false → e.shake.taken.close_request ≡ false) → (e.shake.taken.close_request ≡ false → e.shake.got.close_request ≡ true) → e.shake.got.close_request ≡ true
        by true d f g = d
        by false d f g = g (f refl)

    same_rest : (u v : Session) (rs ss : List Recorded) (b e' : End) → Rest u v x.ring y.ring rs ss (parts e') (parts b) → Kept u v x.ring y.ring q c rs ss (just e') (parts b)
    same_rest u v rs ss b e' h = record { rest = h; others = λ j w. refl; apart = grown_none u v (names rs) }

    message : (b : Bool) → is_connected e ≡ b → (let e' = record e { shake = record e.shake { taken = without MsgRequest e.shake.taken } } in Lives x y x y q c e (and_then (cond b (just (record e' { sides = record e'.sides { pull = record e'.sides.pull { owed = true } } })) (just e')) changed))
    message true m =
        let e' = record e { shake = record e.shake { taken = without MsgRequest e.shake.taken } } in
        then_changed x y y q c e (just (record e' { sides = record e'.sides { pull = record e'.sides.pull { owed = true } } })) refl refl refl (λ b s. subst (λ (k : Control). Sound k b (five x.flags) (five y.flags)) (sym (settled_no (control e) s.open_a)) s)
        (λ u v rs ss b l. same_rest u v rs ss b (record e' { sides = record e'.sides { pull = record e'.sides.pull { owed = true } } }) ((owed_set x y q c e' (open_connected x y e' (connected e' m))).by u v rs ss b (record { meet = l.meet; their_meet = l.their_meet; flags = l.flags; rest = l.rest; argued = l.argued })).line.rest)
        (λ u v rs ss b l. l.argued) tt
    message false m =
        let e' = record e { shake = record e.shake { taken = without MsgRequest e.shake.taken } } in
        then_changed x y y q c e (just e') refl refl refl (λ b s. subst (λ (k : Control). Sound k b (five x.flags) (five y.flags)) (sym (settled_no (control e) s.open_a)) s) (λ u v rs ss b l. same_rest u v rs ss b e' l.rest) (λ u v rs ss b l. l.argued) tt

    -- an open request is handled with the size that its word has
    request : (h : now ≡ Some OpenRequest) (o : Option ℕ) → e.shake.request ≡ o → is_some o ≡ true → Lives x y x y q c e (and_then (request_handled o (kind_got OpenRequest e)) changed)
    request h None r some = absurd (cc)
    request h (Some w) r some =
        let n = next_oreq e.shake.got.close_request e.shake.taken h in
        let e' = kind_got OpenRequest e in
        let e'' = record e' { shake = record e'.shake { their_size = Some (size_in w) } } in
        let is : (u v : Session) (rs ss : List Recorded) (b : End) → Line u v x y rs ss (view e) (view b) → (size_in w ≡ size_sent b) × (is_request w ≡ true) = λ u v rs ss b l. request_is x.sheet y.sheet (terms e) (terms b) l.argued w r (sent_oreq (control b) (control e) (five y.flags) (five x.flags) n.0 (turned_flags (control e) (control b) (five x.flags) (five y.flags) l.flags)) in
        let good = then_changed x y y q c e (just e'') refl refl refl (λ b s. flags_kept (Handle Oreq) (control e) b (five x.flags) (five y.flags) n s)
        (λ u v rs ss b l. same_rest u v rs ss b e'' l.rest)
        (λ u v rs ss b l.
        let fine = not_refused _ _ (fine_oreq (control e) (control b) (five x.flags) (five y.flags) n l.flags) in
        gets_oreq x.sheet y.sheet (terms e) (terms b) l.argued (size_in w) (is u v rs ss b l).0 (unreplied_got (control e) fine l.flags.fit_a) (unopened_got (control e) fine l.flags.fit_a)) tt in
        record {
          by = λ u v rs ss b l.
              let P : Bool → Type 0 = λ z. let f = and_then (cond z (just e'') (channel_closed (BadArgs w) e')) changed in Went u v x y rs (with_notes q c f.notes rs) ss (view f.local) (view b) f.reason in
              subst P (sym (is u v rs ss b l).1) (good.by u v rs ss b l);
        }

    reply : (h : now ≡ Some OpenReply) (o : Option Replied) → e.shake.reply ≡ o → is_some o ≡ true → Lives x y x y q c e (and_then (reply_handled o (kind_got OpenReply e)) changed)
    reply h None r some = absurd (cc)
    reply h (Some w) r some =
        let n = next_orep e.shake.got.close_request e.shake.taken h in
        let e' = kind_got OpenReply e in
        let good = then_changed x y y q c e (just e') refl refl refl (λ b s. flags_kept (Handle Orep) (control e) b (five x.flags) (five y.flags) n s) (λ u v rs ss b l. same_rest u v rs ss b e' l.rest) (λ u v rs ss b l. gets_orep x.sheet y.sheet (terms e) (terms b) l.argued (got_before e.shake.got.open_reply e.shake.got.open_request e.shake.got.close_request (fine_orep (control e) (control b) (five x.flags) (five y.flags) n l.flags))) tt in
        record {
          by = λ u v rs ss b l.
              let P : Bool → Type 0 = λ z. let f = and_then (cond z (just e') (channel_closed (BadArgs w.word) e')) changed in Went u v x y rs (with_notes q c f.notes rs) ss (view f.local) (view b) f.reason in
              subst P (sym (l.argued.hears.reply w r).1) (good.by u v rs ss b l);
        }

    code : (h : now ≡ Some CloseRequest) (o : Option ℕ) → e.shake.code ≡ o → is_some o ≡ true → Lives x y x y q c e (and_then (code_handled o (kind_got CloseRequest e)) changed)
    code h None r some = absurd (cc)
    code h (Some w) r some =
        let n = next_creq e.shake.got.close_request e.shake.taken h in
        let e' = kind_got CloseRequest e in
        let good = then_changed x y y q c e (channel_closed (PartnerClosed w) e') refl refl (meet_reasoned (PartnerClosed w) e' e.shake.reason)
        (λ b s. subst (λ (k : Control). Sound (settled k) b (five x.flags) (five y.flags)) (sym (reasoned (PartnerClosed w) e' e.shake.reason refl)) (flags_kept (Handle Creq) (control e) b (five x.flags) (five y.flags) n s))
        (λ u v rs ss b l. closed_kept u v x.ring y.ring q c rs ss (PartnerClosed w) e' (parts b) l.meet l.rest)
        (λ u v rs ss b l. argued_reasoned x.sheet y.sheet (PartnerClosed w) tt e' (view b) e.shake.reason refl (gets_creq x.sheet y.sheet (terms e) (terms b) l.argued)) (closed_clean (PartnerClosed w) e') in
        record {
          by = λ u v rs ss b l.
              let P : Bool → Type 0 = λ z. let f = and_then (cond z (channel_closed (PartnerClosed w) e') (channel_closed (BadArgs w) e')) changed in Went u v x y rs (with_notes q c f.notes rs) ss (view f.local) (view b) f.reason in
              subst P (sym (code_is x.sheet y.sheet (terms e) (terms b) l.argued w r (sent_creq (control b) (control e) (five y.flags) (five x.flags) n.0 (turned_flags (control e) (control b) (five x.flags) (five y.flags) l.flags)))) (good.by u v rs ss b l);
        }

    well : (k : Kind) → now ≡ Some k → has_argument k e.shake ≡ true → Lives x y x y q c e (and_then (well_handled k e) changed)
    well OpenRequest h some = request h e.shake.request refl some
    well OpenReply h some = reply h e.shake.reply refl some
    well OpenComplete h some = then_changed x y y q c e (well_handled OpenComplete e) refl refl refl (λ b s. flags_kept (Handle Ocomp) (control e) b (five x.flags) (five y.flags) (next_ocomp e.shake.got.close_request e.shake.taken h) s) (λ u v rs ss b l. same_rest u v rs ss b (kind_got OpenComplete e) l.rest) (λ u v rs ss b l. gets_ocomp x.sheet y.sheet (terms e) (terms b) l.argued (got_before e.shake.got.open_complete e.shake.got.open_reply e.shake.got.close_request (fine_ocomp (control e) (control b) (five x.flags) (five y.flags) (next_ocomp e.shake.got.close_request e.shake.taken h) l.flags))) tt
    well CloseRequest h some = code h e.shake.code refl some
    well CloseReply h some = then_changed x y y q c e (well_handled CloseReply e) refl refl refl (λ b s. flags_kept (Handle Crep) (control e) b (five x.flags) (five y.flags) (crep_next h b s) s) (λ u v rs ss b l. same_rest u v rs ss b (kind_got CloseReply e) l.rest) (λ u v rs ss b l. gets_crep x.sheet y.sheet (terms e) (terms b) l.argued) tt
    well MsgRequest h some = message (is_connected e) refl

    -- no flag that is handled is refused
    pub never : (k : Kind) → now ≡ Some k → (b : Control) → Sound (control e) b (five x.flags) (five y.flags) → refused k e ≡ false
    never OpenRequest h b s = fine_oreq (control e) b (five x.flags) (five y.flags) (next_oreq e.shake.got.close_request e.shake.taken h) s
    never OpenReply h b s = fine_orep (control e) b (five x.flags) (five y.flags) (next_orep e.shake.got.close_request e.shake.taken h) s
    never OpenComplete h b s = fine_ocomp (control e) b (five x.flags) (five y.flags) (next_ocomp e.shake.got.close_request e.shake.taken h) s
    never CloseRequest h b s = fine_creq (control e) b (five x.flags) (five y.flags) (next_creq e.shake.got.close_request e.shake.taken h) s
    never CloseReply h b s = fine_crep (control e) b (five x.flags) (five y.flags) (crep_next h b s) s
    never MsgRequest h b s = refl

    handles : (k : Kind) → now ≡ Some k → has_argument k e.shake ≡ true → Lives x y x y q c e (and_then (handled k e) changed)
    handles k h some = record {
      by = λ u v rs ss b l.
          let P : Bool → Type 0 = λ z. let f = and_then (cond z (kind_refused k e) (well_handled k e)) changed in Went u v x y rs (with_notes q c f.notes rs) ss (view f.local) (view b) f.reason in
          subst P (sym (never k h (control b) l.flags)) ((well k h some).by u v rs ss b l);
    }

    nexts : (o : Option Kind) → now ≡ o → Lives x y x y q c e (handled_next o e)
    nexts None h = stays x y q c e
    nexts (Some k) h = by (has_argument k e.shake) refl where
      by : (z : Bool) → has_argument k e.shake ≡ z → Lives x y x y q c e (cond z (and_then (handled k e) changed) (just e))
      by true some = handles k h some
      by false none = stays x y q c e

  pub settles : (n : ℕ) (e : End) → Lives x y x y q c e (settle n e)
  settles zero e = stays x y q c e
  settles (suc n) e =
      let o = next_of e.shake.got.close_request e.shake.taken in
      then_lives x y x y x y q c e (handled_next o e) (settle n) (nexts e o refl) (settles n (handled_next o e).local)

  joined_plain : (b : Bool) → ArePlain (joined_notes b)
  joined_plain true = (tt, tt)
  joined_plain false = tt

  connection_lives : (e : End) → Lives x y x y q c e (connection_noted e)
  connection_lives e = record {
    by = λ u v rs ss b l.
        (let n = plain_notes q c (joined_notes (is_connected e)) rs (joined_plain (is_connected e)) in
        record { line = record { meet = l.meet; their_meet = l.their_meet; flags = l.flags; rest = noted u v x.ring y.ring rs _ ss (parts e) (parts b) n l.rest; argued = l.argued }; others = λ j w. n.core j; apart = grown_by u v (names rs) _ n.names; clean = tt });
  }

  pub settles_all : (e : End) → Lives x y x y q c e (all_settled e)
  unfolding all_settled
  settles_all e =
      let z = (settle 6 e).local in
      then_lives x y x y x y q c e (settle 6 e) connection_noted (settles 6 e) (connection_lives z)

-- a flag is set in the partner's word
sends_control : (x y : Area) (q c : ℕ) (e : End) (k : Kind) → owed k e ≡ true → IsReady k e → (k ≡ MsgRequest → ⊥) → Lives x y x (flagged y k) q c e (control_sent k e)
sends_control x y q c e k o ready n = then_lives x y x (flagged y k) x (flagged y k) q c e (and_then (with_sent k e) changed) all_settled (sends_flag x y q c e k o ready n) (settles_all x (flagged y k) q c (and_then (with_sent k e) changed).local)

pub flag_sends : (x y : Area) (q c : ℕ) (e : End) (k : Kind) → owed k e ≡ true → IsReady k e → Lives x y x (flagged y k) q c e (flag_sent k e)
flag_sends x y q c e MsgRequest o ready = record { by = λ u v rs ss b l. record { line = record { meet = l.meet; their_meet = l.their_meet; flags = l.flags; rest = l.rest; argued = l.argued }; others = λ k d. refl; apart = grown_none u v (names rs); clean = tt } }
flag_sends x y q c e OpenRequest o ready = sends_control x y q c e OpenRequest o ready (λ d. absurd (cc))
flag_sends x y q c e OpenReply o ready = sends_control x y q c e OpenReply o ready (λ d. absurd (cc))
flag_sends x y q c e OpenComplete o ready = sends_control x y q c e OpenComplete o ready (λ d. absurd (cc))
flag_sends x y q c e CloseRequest o ready = sends_control x y q c e CloseRequest o ready (λ d. absurd (cc))
flag_sends x y q c e CloseReply o ready = sends_control x y q c e CloseReply o ready (λ d. absurd (cc))

-- the own word of flags is taken
abbrev pub unflagged : Area → Area
unflagged x = record x { flags = no_kinds }

taking : (x y : Area) (u v : Session) (e : End) (rs ss : List Recorded) (b : End) → Line u v x y rs ss (view e) (view b) → Line u v (unflagged x) y rs ss (view (with_taken x.flags e)) (view b)
taking x y u v e rs ss b l = record { meet = l.meet; their_meet = l.their_meet; flags = flags_kept Take (control e) (control b) (five x.flags) (five y.flags) tt l.flags; rest = l.rest; argued = takes_terms x.sheet y.sheet (terms e) (terms b) l.argued (five x.flags) }

module _ (x y : Area) (e : End) (i j : Side) (busy : IsWaiting i → ⊥) (off : is_some e.shake.meet ≡ false) (rs ss : List Recorded) (g : End) (h : Fine i j x y rs ss e g) where
  taken_room : Room i j x y rs ss e g → Room i j (unflagged x) y rs ss e g
  taken_room r = record { own = r.own; theirs = r.theirs; a = with_taken x.flags r.a; b = r.b; here = λ d. absurd (cc); there = r.there; late = λ w. absurd (busy w); their_late = r.their_late; line = taking x y r.own r.theirs r.a rs ss r.b r.line }

  takes_away : Fine i j (unflagged x) y rs ss e g
  unfolding taken_room
  takes_away = record {
    both = h.both;
    mine = record { met = h.mine.met; size = h.mine.size; own_used = h.mine.own_used; their_used = h.mine.their_used; unused = h.mine.unused; echoed = h.mine.echoed; blank = λ o p. refl; flags = λ o. inl refl };
    theirs = h.theirs;
    room = λ d. taken_room (h.room d);
    late = λ w. absurd (busy w);
    their_late = λ w u z. (let r = h.their_late w u z in record { room = taken_room r.room; own = r.own; theirs = r.theirs });
    sends = h.sends;
    gets = h.gets;
    apart = h.apart;
    their_apart = h.their_apart;
  }

pub takes_flags : (x y : Area) (q c : ℕ) (e : End) (i j : Side) → (IsWaiting i → ⊥) → (rs ss : List Recorded) (g : End) → Fine i j x y rs ss e g → Fine i j (unflagged x) y (with_notes q c (flags_got x.flags e).notes rs) ss (flags_got x.flags e).local g
takes_flags x y q c e i j busy = by (is_some e.shake.meet) refl where
  by : (b : Bool) → is_some e.shake.meet ≡ b → (rs ss : List Recorded) (g : End) → Fine i j x y rs ss e g → (let f = cond b (and_then (just (with_taken x.flags e)) all_settled) (just e) in Fine i j (unflagged x) y (with_notes q c f.notes rs) ss f.local g)
  by true on rs ss g h = (in_contact x y (unflagged x) y q c e (and_then (just (with_taken x.flags e)) all_settled) on (then_lives x y (unflagged x) y (unflagged x) y q c e (just (with_taken x.flags e)) all_settled (record { by = λ u v rs ss b l. record { line = taking x y u v e rs ss b l; others = λ k d. refl; apart = grown_none u v (names rs); clean = tt } }) (settles_all (unflagged x) y q c (with_taken x.flags e))) (λ d. refl) (λ u v rs ss b l. inl (λ d. d))).by i j rs ss g h
  by false off rs ss g h = takes_away x y e i j busy off rs ss g h

pub takes_clean : (x y : Area) (q c : ℕ) (e : End) (i j : Side) (rs ss : List Recorded) (g : End) → Fine i j x y rs ss e g → IsUnrefused (flags_got x.flags e).reason
takes_clean x y q c e i j rs ss g h = by (is_some e.shake.meet) refl where
  by : (b : Bool) → is_some e.shake.meet ≡ b → IsUnrefused (cond b (and_then (just (with_taken x.flags e)) all_settled) (just e)).reason
  by true on = (in_contact x y (unflagged x) y q c e (and_then (just (with_taken x.flags e)) all_settled) on (then_lives x y (unflagged x) y (unflagged x) y q c e (just (with_taken x.flags e)) all_settled (record { by = λ u v rs ss b l. record { line = taking x y u v e rs ss b l; others = λ k d. refl; apart = grown_none u v (names rs); clean = tt } }) (settles_all (unflagged x) y q c (with_taken x.flags e))) (λ d. refl) (λ u v rs ss b l. inl (λ d. d))).clean i j rs ss g h
  by false off = tt

-- a control flag is set under a name that stands in the own records
has_more : (u v : Session) (q c : ℕ) (xs ys : List Note) (rs : List Recorded) → has u v (names (with_notes q c xs rs)) ≡ true → has u v (names (with_notes q c (xs ++ ys) rs)) ≡ true
has_more u v q c xs ys rs h = subst (λ (zs : List Recorded). has u v (names zs) ≡ true) (sym (notes_more q c xs ys rs)) (names_more q c ys (with_notes q c xs rs) u v h)

control_said : (x y : Area) (q c : ℕ) (e : End) (k : Kind) (u v : Session) (rs ss : List Recorded) (b : End) → Line u v x y rs ss (view e) (view b) → has u v (names (with_notes q c (control_sent k e).notes rs)) ≡ true
control_said x y q c e k u v rs ss b l =
    let z = books u v x.ring y.ring q c rs ss e (parts b) l.meet l.rest in
    has_more u v q c ((and_then (with_sent k e) changed).notes) _ rs (has_more u v q c (opened_notes e) (changed (with_sent k e).local).notes rs (first_has u v e.epoch (with_notes q c (opened_notes e) rs) z.first))

pub flag_said : (x y : Area) (q c : ℕ) (e : End) (k : Kind) (u v : Session) (rs ss : List Recorded) (b : End) → Line u v x y rs ss (view e) (view b) → (five y.flags ≡ no_five → five (flagged y k).flags ≡ no_five) ⊎ (has u v (names (with_notes q c (flag_sent k e).notes rs)) ≡ true)
flag_said x y q c e MsgRequest u v rs ss b l = inl (λ d. d)
flag_said x y q c e OpenRequest u v rs ss b l = inr (control_said x y q c e OpenRequest u v rs ss b l)
flag_said x y q c e OpenReply u v rs ss b l = inr (control_said x y q c e OpenReply u v rs ss b l)
flag_said x y q c e OpenComplete u v rs ss b l = inr (control_said x y q c e OpenComplete u v rs ss b l)
flag_said x y q c e CloseRequest u v rs ss b l = inr (control_said x y q c e CloseRequest u v rs ss b l)
flag_said x y q c e CloseReply u v rs ss b l = inr (control_said x y q c e CloseReply u v rs ss b l)

-- counters are stored as 0 before the open request
pub zeroes_put : (x y : Area) (q c : ℕ) (e : End) → e.shake.sent.open_complete ≡ false → Lives x y (ringed x (record x.ring { put = 0 })) y q c e (just (record e { shake = record e.shake { put_zero = true } }))
zeroes_put x y q c e o = record { by = λ u v rs ss b l. record { line = record { meet = l.meet; their_meet = l.their_meet; flags = l.flags; rest = put_zeroed u v x.ring y.ring rs ss (parts e) (parts b) o l.rest; argued = l.argued }; others = λ k d. refl; apart = grown_none u v (names rs); clean = tt } }

pub zeroes_get : (x y : Area) (q c : ℕ) (e : End) → e.shake.sent.open_complete ≡ false → Lives x y (ringed x (record x.ring { get = 0 })) y q c e (just (record e { shake = record e.shake { get_zero = true } }))
zeroes_get x y q c e o = record { by = λ u v rs ss b l. record { line = record { meet = l.meet; their_meet = l.their_meet; flags = l.flags; rest = get_zeroed u v x.ring y.ring rs ss (parts e) (parts b) o l.rest; argued = l.argued }; others = λ k d. refl; apart = grown_none u v (names rs); clean = tt } }

-- arguments are stored before their flags
abbrev pub sheeted : Area → Sheet → Area
sheeted x z = record x { sheet = z }

not_two : {A : Type 0} (b : Bool) → b ≡ true → b ≡ false → A
not_two b t f = absurd (cc)

pub stores : (x y : Area) (q c : ℕ) (e : End) (k : Argument) → owed (kind_of k) e ≡ true → Lives x y (sheeted x (stored_sheet k e x.sheet)) y q c e (just (argument_stored k e))
stores x y q c e Request o = record {
  by = λ u v rs ss b l.
      let d = owed_oreq e o in
      let none : b.shake.taken.open_request ≡ true → ⊥ = λ t. not_two e.shake.sent.open_request (sent_oreq (control e) (control b) (five x.flags) (five y.flags) t l.flags) d.2 in
      record { line = record { meet = l.meet; their_meet = l.their_meet; flags = l.flags; rest = l.rest; argued = stores_request x.sheet y.sheet (terms e) (terms b) l.argued none d.2 (request_of e.registration) }; others = λ k d. refl; apart = grown_none u v (names rs); clean = tt };
}
stores x y q c e Reply o = record { by = λ u v rs ss b l. record { line = record { meet = l.meet; their_meet = l.their_meet; flags = l.flags; rest = l.rest; argued = stores_reply x.sheet y.sheet (terms e) (terms b) l.argued }; others = λ k d. refl; apart = grown_none u v (names rs); clean = tt } }
stores x y q c e Code o = record {
  by = λ u v rs ss b l.
      let d = owed_creq e o in
      let none : b.shake.taken.close_request ≡ true → ⊥ = λ t. not_two e.shake.sent.close_request (sent_creq (control e) (control b) (five x.flags) (five y.flags) t l.flags) d.1 in
      record { line = record { meet = l.meet; their_meet = l.their_meet; flags = l.flags; rest = l.rest; argued = stores_code x.sheet y.sheet (terms e) (terms b) l.argued none d.0 }; others = λ k d. refl; apart = grown_none u v (names rs); clean = tt };
}

-- an argument of a flag that was taken is loaded
abbrev pub IsLoaded : Argument → Area → ℕ → ℕ → Type 0
IsLoaded Request y place w = w ≡ y.sheet.request
IsLoaded Reply y place w = nat_eq w place ≡ y.sheet.reply
IsLoaded Code y place w = w ≡ y.sheet.code

loads : (x y : Area) (q c : ℕ) (e : End) (k : Argument) (place w : ℕ) → IsLoaded k y place w → kind_has (kind_of k) e.shake.taken ≡ true → Lives x y x y q c e (just (with_argument k place w e))
loads x y q c e Request place w is t = subst (λ (n : ℕ). Lives x y x y q c e (just (with_argument Request place n e))) (sym is) (record { by = λ u v rs ss b l. record { line = record { meet = l.meet; their_meet = l.their_meet; flags = l.flags; rest = l.rest; argued = reads_request x.sheet y.sheet (terms e) (terms b) l.argued t }; others = λ k d. refl; apart = grown_none u v (names rs); clean = tt } })
loads x y q c e Reply place w is t = record {
  by = λ u v rs ss b l.
      let S : Bool → Type 0 = λ z. Argued x.sheet y.sheet (record (terms e) { reply = Some (record { word = w; right = z }) }) (terms b) in
      record { line = record { meet = l.meet; their_meet = l.their_meet; flags = l.flags; rest = l.rest; argued = subst S (sym is) (reads_reply x.sheet y.sheet (terms e) (terms b) l.argued w t (sent_orep (control b) (control e) (five y.flags) (five x.flags) t (turned_flags (control e) (control b) (five x.flags) (five y.flags) l.flags))) }; others = λ k d. refl; apart = grown_none u v (names rs); clean = tt };
}
loads x y q c e Code place w is t = subst (λ (n : ℕ). Lives x y x y q c e (just (with_argument Code place n e))) (sym is) (record { by = λ u v rs ss b l. record { line = record { meet = l.meet; their_meet = l.their_meet; flags = l.flags; rest = l.rest; argued = reads_code x.sheet y.sheet (terms e) (terms b) l.argued t }; others = λ k d. refl; apart = grown_none u v (names rs); clean = tt } })

pub reads : (x y : Area) (q c : ℕ) (e : End) (k : Argument) (place w : ℕ) → IsLoaded k y place w → kind_has (kind_of k) e.shake.taken ≡ true → Lives x y x y q c e (argument_read k place w e)
reads x y q c e k place w is t = then_lives x y x y x y q c e (just (with_argument k place w e)) all_settled (loads x y q c e k place w is t) (settles_all x y q c (with_argument k place w e))

-- the contact is lost: the connection goes down, and later it is over
closed_plain : (reason : Reason) (e : End) → ArePlain (link_closed reason e).notes
closed_plain reason e = by (is_begun e) e.shake.reason where
  by : (b : Bool) (o : Option Reason) → ArePlain (cond b (close_now o reason e) (just e)).notes
  by true (Some r) = tt
  by true None = silent_plain (down_notes reason e) (down_silent reason e)
  by false o = tt

down_size : (reason : Reason) (e : End) → HasSize e → HasSize (link_down reason e).local
down_size reason e h = by (is_begun e) e.shake.reason where
  closed : (b : Bool) (o : Option Reason) → (cond b (close_now o reason e) (just e)).local.registration ≡ e.registration
  closed true (Some r) = refl
  closed true None = ap (λ (v : View). v.terms.registration) (view_hears (down_notes reason e) (down_end reason e) (down_silent reason e))
  closed false o = refl

  by : (b : Bool) (o : Option Reason) → HasSize (and_then (cond b (close_now o reason e) (just e)) (λ x. just (parted x))).local
  by b o z d = h z (sym (closed b o) ∙ d)

pub down_clean : (reason : Reason) (e : End) → IsUnrefused (link_down reason e).reason
down_clean reason e = by (is_begun e) e.shake.reason where
  by : (b : Bool) (o : Option Reason) → IsUnrefused (first_reason (cond b (close_now o reason e) (just e)).reason None)
  by true (Some r) = tt
  by true None = tt
  by false o = tt

pub goes_down : (x y : Area) (q c : ℕ) (reason : Reason) (e : End) → Step x y x y q c e (link_down reason e)
goes_down x y q c reason e = gone x y q c e (link_down reason e) refl (down_size reason e) (plain_both (link_closed reason e).notes [] (closed_plain reason e) tt) (down_clean reason e)

pub finishes : (x y : Area) (q c : ℕ) (e : End) → Step x y x y q c e (link_finished e)
finishes x y q c e = gone x y q c e (link_finished e) refl (λ h z d. h z (kept_some e.shake.reason e.registration z d)) (over_plain e) tt

pub cold : (x y : Area) (q c : ℕ) (e : End) → Step x y x y q c e (just (booted_end e))
cold x y q c e = gone x y q c e (just (booted_end e)) refl (λ h z d. absurd (cc)) tt tt
