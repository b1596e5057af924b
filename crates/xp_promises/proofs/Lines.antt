-- The line between two ends of a channel. What it says of an end is said of how the end is, or how it was when its contact was lost.
use Rattle.std.proofs.Common.{◌≡◌, ℕ, ◌<◌, Bool, true, false, eqb, ◌||◌, List, ◌+◌, ◌*◌, refl, ap, sym, ◌∙◌, subst, arith, Option, Some, None, inl, inr, ◌⊎◌}
use Rattle.std.specs.Prelude.{is_some, nat_eq}
use Rattle.std.proofs.lemmas.Bool.{cases_eq, ne_eqb}
use Rattle.xp_base.specs.Kinds.{Kinds, kinds_in, IsFlagWord}
use Rattle.xp_base.specs.Places.{Place, Record, Counter, Entry, Flag, Args, index_of}
use Rattle.xp_protocol.specs.Peering.{is_magic}
use Rattle.xp_protocol.specs.Records.{Recorded}
use Rattle.xp_protocol.specs.Effects.{Effect, Note, with_notes, and_then, first_reason}
use Rattle.xp_base.specs.declared.reason.Reason.{Reason}
use Rattle.xp_protocol.specs.State.{End, Contact, end_of}
use Rattle.xp_meetings.proofs.Words.{Words}
use Rattle.xp_meetings.proofs.Parts.{Part, notes_more}
use Rattle.xp_meetings.proofs.Always.{at_one, one_here}
use Rattle.xp_promises.proofs.FlagEnds.{Kinds as Five, End as Control, no_kinds as no_five}
use Rattle.xp_promises.proofs.FlagKept.{Sound}
use Rattle.xp_base.specs.declared.session.Session.{Session}
use Rattle.std.proofs.lemmas.Bool.{and_parts, cases_Bool}
use Rattle.xp_protocol.specs.Promised.{IsUnrefused, size_sent, size_got, Name, exchanged, is_session, is_meeting, by_name, IsPrefixOf}
use Rattle.xp_promises.proofs.Direction.{taken_prefix}
use Rattle.xp_promises.proofs.Fields.{RightAt, Right, Stands, map_stands}
use Rattle.xp_protocol.specs.declared.rule.RecordField.{RecordField}
use Rattle.xp_promises.proofs.Ways.{InSide, Way}
use Rattle.xp_protocol.specs.Sending.{Sending}
use Rattle.xp_promises.proofs.Books.{Core, at, named, names, has, Apart, Grown, grown_then, Same, Others, ArePlain, plain_notes, session_is}
use Rattle.xp_base.specs.Sessions.{session_word, session_of}
use Rattle.xp_protocol.specs.State.{idle_end, Off, Ready, peer_of}
use Rattle.xp_protocol.specs.Linking.{joined_end}
use Rattle.xp_meetings.proofs.Ties.{word_now, word_next}
use Rattle.xp_meetings.proofs.Both.{Side, Both, both_turned}
use Rattle.xp_meetings.proofs.Six.{Six, six}
use Rattle.xp_meetings.proofs.Meets.{left, right, Met}
use Rattle.xp_meetings.proofs.Touch.{now, IsWaiting, Opens, Touch, touch}
use Rattle.xp_promises.proofs.Rests.{Data, Parts, parts, Rest, noted}
use Rattle.xp_promises.proofs.Rests.{turned as rest_turned, out_size, in_size}
use Rattle.xp_promises.proofs.Arguments.{Sheet, Terms, Argued}
use Rattle.xp_promises.proofs.Arguments.{turned as argued_turned}
use Rattle.xp_protocol.specs.Parts.{IsRequestSize}
use Rattle.xp_protocol.specs.State.{Size}
use Rattle.xp_protocol.specs.Pulling.{is_copying}

-- the words of an end: those that directions read, the flags that its partner has set, and its arguments
pub record Area : Type 0 where
  pub ring : Data
  pub flags : Kinds
  pub sheet : Sheet

abbrev pub data_at : (Place → ℕ) → ℕ → ℕ → Data
data_at w q c = record { put = w (Counter q c 1); get = w (Counter q c 0); entry = λ k. w (Entry q c k) }

abbrev pub sheet_at : (Place → ℕ) → ℕ → ℕ → Sheet
sheet_at w q c = record { request = w (Args q c 0); reply = nat_eq (w (Args q c 1)) (index_of (Entry q c 0)); code = w (Args q c 2) }

abbrev pub area_at : (Place → ℕ) → ℕ → ℕ → Area
area_at w q c = record { ring = data_at w q c; flags = kinds_in (w (Flag q)) c; sheet = sheet_at w q c }

-- what flags read of an end
abbrev pub five : Kinds → Five
five s = record { oreq = s.open_request; orep = s.open_reply; ocomp = s.open_complete; creq = s.close_request; crep = s.close_reply }

abbrev pub control : End → Control
control e = record { registered = is_some e.registration; epoch = e.epoch; sent = five e.shake.sent; got = five e.shake.got; taken = five e.shake.taken; reason = is_some e.shake.reason }

-- what arguments and sizes read of it
abbrev pub terms : End → Terms
terms e = record { epoch = e.epoch; sent = five e.shake.sent; got = five e.shake.got; taken = five e.shake.taken; new = e.shake.both_new; reason = e.shake.reason; registration = e.registration; own = size_sent e; their = size_got e; sending = out_size e.sides.send; pulling = in_size e.sides.pull; request = e.shake.request; reply = e.shake.reply; code = e.shake.code; request_put = e.shake.request_put; reply_put = e.shake.reply_put; code_put = e.shake.code_put; copying = is_copying e.sides.pull }

pub record View : Type 0 where
  pub meet : Option Contact
  pub control : Control
  pub parts : Parts
  pub terms : Terms

abbrev pub view : End → View
view e = record { meet = e.shake.meet; control = control e; parts = parts e; terms = terms e }

abbrev pub met : Session → Session → Option Contact
met u v = Some (record { own = u; theirs = v })

-- two ends in one contact, of the sessions u and v
pub record Line (u v : Session) (x y : Area) (rs ss : List Recorded) (a b : View) : Type 0 where
  pub meet : a.meet ≡ met u v
  pub their_meet : b.meet ≡ met v u
  pub flags : Sound a.control b.control (five x.flags) (five y.flags)
  pub rest : Rest u v x.ring y.ring rs ss a.parts b.parts
  pub argued : Argued x.sheet y.sheet a.terms b.terms

pub turned_flags : (a b : Control) (u v : Five) → Sound a b u v → Sound b a v u
turned_flags a b u v h = record { to_b = h.to_a; to_a = h.to_b; fit_a = h.fit_b; fit_b = h.fit_a; open_a = h.open_b; open_b = h.open_a }

pub turned : (u v : Session) (x y : Area) (rs ss : List Recorded) (a b : View) → Line u v x y rs ss a b → Line v u y x ss rs b a
turned u v x y rs ss a b h = record { meet = h.their_meet; their_meet = h.meet; flags = turned_flags a.control b.control (five x.flags) (five y.flags) h.flags; rest = rest_turned u v x.ring y.ring rs ss a.parts b.parts h.rest; argued = argued_turned x.sheet y.sheet a.terms b.terms h.argued }

-- an end that has just come into a contact, or that will: what it knows of the versions counts later
abbrev pub fresh : Session → Session → View
fresh u v = view (joined_end false (record { own = u; theirs = v }) idle_end)

-- the contact of two ends, of which each is in it still, or left it, or hasn't come yet: then it waits for it under the room's session, and is fresh
pub record Room (i j : Side) (x y : Area) (rs ss : List Recorded) (e g : End) : Type 0 where
  pub own : Session
  pub theirs : Session
  pub a : End
  pub b : End
  pub here : is_some e.shake.meet ≡ true → view a ≡ view e
  pub there : is_some g.shake.meet ≡ true → view b ≡ view g
  pub late : IsWaiting i → now i ≡ own → view a ≡ fresh own theirs
  pub their_late : IsWaiting j → now j ≡ theirs → view b ≡ fresh theirs own
  pub line : Line own theirs x y rs ss (view a) (view b)

pub record RoomOf (i j : Side) (x y : Area) (rs ss : List Recorded) (e g : End) (u v : Session) : Type 0 where
  pub room : Room i j x y rs ss e g
  pub own : room.own ≡ u
  pub theirs : room.theirs ≡ v

-- an end is registered for a size that may be asked for, if it is
abbrev pub HasSize : End → Type 0
HasSize e = (z : Size) → e.registration ≡ Some z → IsRequestSize z.entries z.limit

-- what the sessions of one of two partitions say of names: its own ones were used, and those of its partner's names that are its own; one under which it waits is new;
-- and flags in its word were set under the sessions that its record shows
pub record Named (i j : Side) (x : Area) (ks ls : List Name) (e : End) : Type 0 where
  pub met : (m : Contact) → e.shake.meet ≡ Some m → i.contact ≡ Some m
  pub size : HasSize e
  pub own_used : (u v : Session) → has u v ks ≡ true → session_word u < word_next i.x
  pub their_used : (v u : Session) → has v u ls ≡ true → session_word u < word_next i.x
  pub unused : IsWaiting i → (u v : Session) → has u v ks ≡ true → session_word u ≡ word_now i.x → ⊥
  pub echoed : i.x.area ≡ Ready → (v u : Session) → has v u ls ≡ true → session_word u ≡ word_now i.x → i.x.echo ≡ Some (session_word v)
  pub blank : i.x.area ≡ Off → i.x.flags_put ≡ true → five x.flags ≡ no_five
  pub flags : Opens i j → (five x.flags ≡ no_five) ⊎ (has (session_of i.two) (session_of i.one) ls ≡ true)

-- what was taken in a connection is a prefix of what was accepted in it
abbrev pub Front : List Recorded → List Recorded → Name → Type 0
Front rs ss k = IsPrefixOf (by_name (exchanged k) ss).taken (by_name k rs).accepted

-- two ends: the contact that one of them is in at least, or that one waits for and the other was in; and all connections that ever were
pub record Fine (i j : Side) (x y : Area) (rs ss : List Recorded) (e g : End) : Type 0 where
  pub both : Both i j
  pub mine : Named i j x (names rs) (names ss) e
  pub theirs : Named j i y (names ss) (names rs) g
  pub room : (is_some e.shake.meet ≡ true) ⊎ (is_some g.shake.meet ≡ true) → Room i j x y rs ss e g
  pub late : IsWaiting i → (v : Session) → has v (now i) (names ss) ≡ true → RoomOf i j x y rs ss e g (now i) v
  pub their_late : IsWaiting j → (u : Session) → has u (now j) (names rs) ≡ true → RoomOf i j x y rs ss e g u (now j)
  pub sends : (k : Name) → Front rs ss k
  pub gets : (k : Name) → Front ss rs k
  pub apart : Apart (names rs)
  pub their_apart : Apart (names ss)

other_way : {A B : Type 0} → A ⊎ B → B ⊎ A
other_way (inl a) = inr a
other_way (inr b) = inl b

room_turned : (i j : Side) (x y : Area) (rs ss : List Recorded) (e g : End) → Room i j x y rs ss e g → Room j i y x ss rs g e
room_turned i j x y rs ss e g r = record { own = r.theirs; theirs = r.own; a = r.b; b = r.a; here = r.there; there = r.here; late = r.their_late; their_late = r.late; line = turned r.own r.theirs x y rs ss (view r.a) (view r.b) r.line }

fine_turned : (i j : Side) (x y : Area) (rs ss : List Recorded) (e g : End) → Fine i j x y rs ss e g → Fine j i y x ss rs g e
unfolding room_turned
fine_turned i j x y rs ss e g h = record {
  both = both_turned i j h.both;
  mine = h.theirs;
  theirs = h.mine;
  room = λ d. room_turned i j x y rs ss e g (h.room (other_way d));
  late = λ w u z. (let r = h.their_late w u z in record { room = room_turned i j x y rs ss e g r.room; own = r.theirs; theirs = r.own });
  their_late = λ w v z. (let r = h.late w v z in record { room = room_turned i j x y rs ss e g r.room; own = r.theirs; theirs = r.own });
  sends = h.gets;
  gets = h.sends;
  apart = h.their_apart;
  their_apart = h.apart;
}

pub first_clean : (a b : Option Reason) → IsUnrefused a → IsUnrefused b → IsUnrefused (first_reason a b)
first_clean None b h k = k
first_clean (Some r) b h k = h

-- what becomes of an end keeps the line, and refuses nothing
pub record Step (x y x' y' : Area) (q c : ℕ) (e : End) (f : Effect End (List Note)) : Type 0 where
  pub by : (i j : Side) (rs ss : List Recorded) (g : End) → Fine i j x y rs ss e g → Fine i j x' y' (with_notes q c f.notes rs) ss f.local g
  pub clean : (i j : Side) (rs ss : List Recorded) (g : End) → Fine i j x y rs ss e g → IsUnrefused f.reason

-- a contact goes on: the line, and the records of other contacts as they were
pub record Went (u v : Session) (x y : Area) (rs rs' ss : List Recorded) (a b : View) (reason : Option Reason) : Type 0 where
  pub line : Line u v x y rs' ss a b
  pub others : Others u v rs rs'
  pub apart : Grown u v (names rs) (names rs')
  pub clean : IsUnrefused reason

pub record Lives (x y x' y' : Area) (q c : ℕ) (e : End) (f : Effect End (List Note)) : Type 0 where
  pub by : (u v : Session) (rs ss : List Recorded) (b : End) → Line u v x y rs ss (view e) (view b) → Went u v x' y' rs (with_notes q c f.notes rs) ss (view f.local) (view b) f.reason

-- a name is one of the contact, or it isn't
meeting_is : (u v : Session) (k : Name) → is_meeting u v k ≡ true → at u v k.epoch ≡ k
meeting_is u v k h = let p = and_parts (is_session u k.own) (is_session v k.theirs) h in λ i. record { epoch = k.epoch; own = session_is u k.own p.0 i; theirs = session_is v k.theirs p.1 i }

way_front : (u v : Session) (put : ℕ) (entry : ℕ → ℕ) (get : ℕ) (rs ss : List Recorded) (ea eb : ℕ) (oa ob : Bool) (s : Sending) (i : InSide) → Way u v put entry get rs ss ea eb oa ob s i → (e : ℕ) → Front rs ss (at u v e)
way_front u v put entry get rs ss ea eb oa ob s i w e =
    let t = taken_prefix (w.out e) (w.inn e) (w.kept e) in
    subst (λ (xs : List (List ℕ)). IsPrefixOf xs (named u v e rs).accepted) (w.taken e) (subst (λ (ys : List (List ℕ)). IsPrefixOf (w.inn e).taken ys) (w.accepted e) t)

-- the records of one end change: the names of the contact by its line, the others as they were
module _ (u v : Session) (x y : Area) (rs rs' ss : List Recorded) (a b : View) (reason : Option Reason) (w : Went u v x y rs rs' ss a b reason) where
  front_sends : ((k : Name) → Front rs ss k) → (k : Name) → Front rs' ss k
  front_sends old k = by (cases_Bool (is_meeting u v k)) where
    by : (is_meeting u v k ≡ true) ⊎ (is_meeting u v k ≡ false) → Front rs' ss k
    by (inl t) = subst (λ (n : Name). Front rs' ss n) (meeting_is u v k t) (way_front u v _ _ _ rs' ss _ _ _ _ _ _ w.line.rest.sends k.epoch)
    by (inr f) = subst (λ (z : Core). IsPrefixOf (by_name (exchanged k) ss).taken z.accepted) (sym (w.others k f)) (old k)

  front_gets : ((k : Name) → Front ss rs k) → (k : Name) → Front ss rs' k
  front_gets old k = by (cases_Bool (is_meeting u v (exchanged k))) where
    by : (is_meeting u v (exchanged k) ≡ true) ⊎ (is_meeting u v (exchanged k) ≡ false) → Front ss rs' k
    by (inl t) = subst (λ (n : Name). Front ss rs' n) (ap exchanged (meeting_is u v (exchanged k) t)) (way_front v u _ _ _ ss rs' _ _ _ _ _ _ w.line.rest.gets k.epoch)
    by (inr f) = subst (λ (z : Core). IsPrefixOf z.taken (by_name k ss).accepted) (sym (w.others (exchanged k) f)) (old k)

pub no_wait : (i : Side) (m : Contact) → i.contact ≡ Some m → IsWaiting i → ⊥
no_wait i m e w = let z : None ≡ Some m = sym w.alone ∙ e in absurd (cc)

next_less : (a b : ℕ) → a * 4294967296 + b < a * 4294967296 + (b + 1)
next_less a b = omega arith

-- an end in contact goes on: flags in the own word are taken at most, and those in the partner's are set under a name that stands in the own records
module _ (x y x' y' : Area) (q c : ℕ) (e : End) (f : Effect End (List Note)) (on : is_some e.shake.meet ≡ true) (l : Lives x y x' y' q c e f) (fewer : five x.flags ≡ no_five → five x'.flags ≡ no_five)
    (said : (u v : Session) (rs ss : List Recorded) (b : End) → Line u v x y rs ss (view e) (view b) → (five y.flags ≡ no_five → five y'.flags ≡ no_five) ⊎ (has u v (names (with_notes q c f.notes rs)) ≡ true)) where
  module _ (i j : Side) (rs ss : List Recorded) (g : End) (h : Fine i j x y rs ss e g) where
    abbrev rs' : List Recorded
    rs' = with_notes q c f.notes rs

    line_now : (r : Room i j x y rs ss e g) → Line r.own r.theirs x y rs ss (view e) (view r.b)
    line_now r = subst (λ (a : View). Line r.own r.theirs x y rs ss a (view r.b)) (r.here on) r.line

    went : (r : Room i j x y rs ss e g) → Went r.own r.theirs x' y' rs rs' ss (view f.local) (view r.b) f.reason
    went r = l.by r.own r.theirs rs ss r.b (line_now r)

    first : Room i j x y rs ss e g
    first = h.room (inl on)

    abbrev m : Contact
    m = record { own = first.own; theirs = first.theirs }

    in_it : i.contact ≡ Some m
    in_it = h.mine.met m (line_now first).meet

    t : Touch i j m
    t = touch i j m h.both in_it

    next : (r : Room i j x y rs ss e g) → Room i j x' y' rs' ss f.local g
    next r = record { own = r.own; theirs = r.theirs; a = f.local; b = r.b; here = λ d. refl; there = r.there; late = λ w d. absurd (no_wait i m in_it w); their_late = r.their_late; line = (went r).line }

    gr : Grown first.own first.theirs (names rs) (names rs')
    gr = (went first).apart

    used : (u v : Session) → (has u v (names rs) ≡ true) ⊎ ((u ≡ first.own) × (v ≡ first.theirs)) → session_word u < word_next i.x
    used u v (inl z) = h.mine.own_used u v z
    used u v (inr p) = subst (λ (k : Session). session_word k < word_next i.x) (sym (p.0 ∙ t.own)) (next_less i.x.stamp i.x.count)

    their_used : (v u : Session) → (has v u (names rs) ≡ true) ⊎ ((v ≡ first.own) × (u ≡ first.theirs)) → session_word u < word_next j.x
    their_used v u (inl z) = h.theirs.their_used v u z
    their_used v u (inr p) = subst (λ (k : Session). session_word k < word_next j.x) (sym p.1) t.bound

    their_echo : j.x.area ≡ Ready → (v u : Session) → (has v u (names rs) ≡ true) ⊎ ((v ≡ first.own) × (u ≡ first.theirs)) → session_word u ≡ word_now j.x → j.x.echo ≡ Some (session_word v)
    their_echo r v u (inl z) d = h.theirs.echoed r v u z d
    their_echo r v u (inr p) d = t.echo r ∙ ap (λ (k : Session). Some (session_word k)) (sym p.0)

    my_flags : (five x.flags ≡ no_five) ⊎ (has (session_of i.two) (session_of i.one) (names ss) ≡ true) → (five x'.flags ≡ no_five) ⊎ (has (session_of i.two) (session_of i.one) (names ss) ≡ true)
    my_flags (inl z) = inl (fewer z)
    my_flags (inr z) = inr z

    set_flags : (five y.flags ≡ no_five → five y'.flags ≡ no_five) ⊎ (has first.own first.theirs (names rs') ≡ true) → (five y.flags ≡ no_five) ⊎ (has (session_of j.two) (session_of j.one) (names rs) ≡ true) → (five y'.flags ≡ no_five) ⊎ (has (session_of j.two) (session_of j.one) (names rs') ≡ true)
    set_flags d (inr z) = inr (gr.old (session_of j.two) (session_of j.one) z)
    set_flags (inl k) (inl z) = inl (k z)
    set_flags (inr d) (inl z) = inr (subst (λ (u : Session). has u (session_of j.one) (names rs') ≡ true) (sym t.two) (subst (λ (v : Session). has first.own v (names rs') ≡ true) (sym t.one) d))

    comes : (u : Session) → IsWaiting j → (has u (now j) (names rs) ≡ true) ⊎ ((u ≡ first.own) × (now j ≡ first.theirs)) → RoomOf i j x' y' rs' ss f.local g u (now j)
    unfolding next
    comes u w (inl z) = let r = h.their_late w u z in record { room = next r.room; own = r.own; theirs = r.theirs }
    comes u w (inr p) = record { room = next first; own = sym p.0; theirs = sym p.1 }

    goes_on : Fine i j x' y' rs' ss f.local g
    goes_on = record {
      both = h.both;
      mine = record { met = λ k d. h.mine.met k ((line_now first).meet ∙ sym (went first).line.meet ∙ d); size = (went first).line.argued.mine.lawful; own_used = λ u v z. used u v (gr.new u v z); their_used = h.mine.their_used; unused = λ w. absurd (no_wait i m in_it w); echoed = h.mine.echoed; blank = λ o p. fewer (h.mine.blank o p); flags = λ o. my_flags (h.mine.flags o) };
      theirs = record { met = h.theirs.met; size = h.theirs.size; own_used = h.theirs.own_used; their_used = λ v u z. their_used v u (gr.new v u z); unused = h.theirs.unused; echoed = λ r v u z d. their_echo r v u (gr.new v u z) d; blank = λ o. absurd (t.standing o); flags = λ o. set_flags (said first.own first.theirs rs ss first.b (line_now first)) (h.theirs.flags o) };
      room = λ d. next first;
      late = λ w. absurd (no_wait i m in_it w);
      their_late = λ w u z. comes u w (gr.new u (now j) z);
      sends = front_sends first.own first.theirs x' y' rs rs' ss (view f.local) (view first.b) f.reason (went first) h.sends;
      gets = front_gets first.own first.theirs x' y' rs rs' ss (view f.local) (view first.b) f.reason (went first) h.gets;
      apart = gr.apart h.apart;
      their_apart = h.their_apart;
    }

  pub in_contact : Step x y x' y' q c e f
  in_contact = record { by = λ i j rs ss g h. goes_on i j rs ss g h; clean = λ i j rs ss g h. (went i j rs ss g h (first i j rs ss g h)).clean }

-- the same where no flag changes: the words are as they were, or those of the own directions change
pub calm_contact : (x y : Area) (q c : ℕ) (e : End) (f : Effect End (List Note)) → is_some e.shake.meet ≡ true → Lives x y x y q c e f → Step x y x y q c e f
calm_contact x y q c e f on l = in_contact x y x y q c e f on l (λ d. d) (λ u v rs ss b z. inl (λ d. d))

pub ring_contact : (x y : Area) (d : Data) (q c : ℕ) (e : End) (f : Effect End (List Note)) → is_some e.shake.meet ≡ true → Lives x y (record x { ring = d }) y q c e f → Step x y (record x { ring = d }) y q c e f
ring_contact x y d q c e f on l = in_contact x y (record x { ring = d }) y q c e f on l (λ d. d) (λ u v rs ss b z. inl (λ d. d))

pub then_lives : (x y x' y' x'' y'' : Area) (q c : ℕ) (e : End) (f : Effect End (List Note)) (h : End → Effect End (List Note)) → Lives x y x' y' q c e f → Lives x' y' x'' y'' q c f.local (h f.local) → Lives x y x'' y'' q c e (and_then f h)
then_lives x y x' y' x'' y'' q c e f h first second = record {
  by = λ u v rs ss b l.
      let one = first.by u v rs ss b l in
      let two = second.by u v (with_notes q c f.notes rs) ss b one.line in
      subst (λ (zs : List Recorded). Went u v x'' y'' rs zs ss (view (h f.local).local) (view b) (first_reason f.reason (h f.local).reason)) (sym (notes_more q c f.notes (h f.local).notes rs)) (record { line = two.line; others = λ k d. two.others k d ∙ one.others k d; apart = grown_then u v (names rs) (names (with_notes q c f.notes rs)) _ one.apart two.apart; clean = first_clean f.reason (h f.local).reason one.clean two.clean });
}

line_noted : (u v : Session) (x y : Area) (rs rs' ss : List Recorded) (a b : View) → Same rs rs' → Line u v x y rs ss a b → Line u v x y rs' ss a b
line_noted u v x y rs rs' ss a b same h = record { meet = h.meet; their_meet = h.their_meet; flags = h.flags; rest = noted u v x.ring y.ring rs rs' ss a.parts b.parts same h.rest; argued = h.argued }

same_sends : (rs rs' ss : List Recorded) → Same rs rs' → ((k : Name) → Front rs ss k) → (k : Name) → Front rs' ss k
same_sends rs rs' ss same old k = subst (λ (z : Core). IsPrefixOf (by_name (exchanged k) ss).taken z.accepted) (sym (same.core k)) (old k)

same_gets : (rs rs' ss : List Recorded) → Same rs rs' → ((k : Name) → Front ss rs k) → (k : Name) → Front ss rs' k
same_gets rs rs' ss same old k = subst (λ (z : Core). IsPrefixOf z.taken (by_name k ss).accepted) (sym (same.core (exchanged k))) (old k)

-- plain notes, and an end whose contact is the same or is lost
named_noted : (i j : Side) (x : Area) (ks ks' ls : List Name) (e e' : End) → ks' ≡ ks → ((m : Contact) → e'.shake.meet ≡ Some m → e.shake.meet ≡ Some m) → (HasSize e → HasSize e') → Named i j x ks ls e → Named i j x ks' ls e'
named_noted i j x ks ks' ls e e' n met size h = subst (λ (zs : List Name). Named i j x zs ls e') (sym n) (record { met = λ m d. h.met m (met m d); size = size h.size; own_used = h.own_used; their_used = h.their_used; unused = h.unused; echoed = h.echoed; blank = h.blank; flags = h.flags })

their_noted : (i j : Side) (x : Area) (ks ls ls' : List Name) (e : End) → ls' ≡ ls → Named i j x ks ls e → Named i j x ks ls' e
their_noted i j x ks ls ls' e n h = subst (λ (zs : List Name). Named i j x ks zs e) (sym n) h

module _ (x y : Area) (q c : ℕ) (e : End) (f : Effect End (List Note)) (met : (m : Contact) → f.local.shake.meet ≡ Some m → e.shake.meet ≡ Some m) (on : is_some f.local.shake.meet ≡ true → is_some e.shake.meet ≡ true) (seen : is_some f.local.shake.meet ≡ true → view e ≡ view f.local) (size : HasSize e → HasSize f.local) (plain : ArePlain f.notes) (clean : IsUnrefused f.reason) where
  module _ (i j : Side) (rs ss : List Recorded) (g : End) (h : Fine i j x y rs ss e g) where
    abbrev zs : List Recorded
    zs = with_notes q c f.notes rs

    z : Same rs zs
    z = plain_notes q c f.notes rs plain

    kept_room : Room i j x y rs ss e g → Room i j x y zs ss f.local g
    kept_room r = record { own = r.own; theirs = r.theirs; a = r.a; b = r.b; here = λ d. r.here (on d) ∙ seen d; there = r.there; late = r.late; their_late = r.their_late; line = line_noted r.own r.theirs x y rs zs ss (view r.a) (view r.b) z r.line }

    as_was : (is_some f.local.shake.meet ≡ true) ⊎ (is_some g.shake.meet ≡ true) → (is_some e.shake.meet ≡ true) ⊎ (is_some g.shake.meet ≡ true)
    as_was (inl d) = inl (on d)
    as_was (inr d) = inr d

    stays_fine : Fine i j x y zs ss f.local g
    unfolding kept_room
    stays_fine = record {
      both = h.both;
      mine = named_noted i j x (names rs) (names zs) (names ss) e f.local z.names met size h.mine;
      theirs = their_noted j i y (names ss) (names rs) (names zs) g z.names h.theirs;
      room = λ d. kept_room (h.room (as_was d));
      late = λ w v d. (let r = h.late w v d in record { room = kept_room r.room; own = r.own; theirs = r.theirs });
      their_late = λ w u d. (let r = h.their_late w u (subst (λ (ks : List Name). has u (now j) ks ≡ true) z.names d) in record { room = kept_room r.room; own = r.own; theirs = r.theirs });
      sends = same_sends rs zs ss z h.sends;
      gets = same_gets rs zs ss z h.gets;
      apart = subst (λ (ks : List Name). Apart ks) (sym z.names) h.apart;
      their_apart = h.their_apart;
    }

  kept_step : Step x y x y q c e f
  kept_step = record { by = λ i j rs ss g h. stays_fine i j rs ss g h; clean = λ i j rs ss g h. clean }

-- nothing changes that a line reads
pub quiet : (x y : Area) (q c : ℕ) (e : End) (f : Effect End (List Note)) → view f.local ≡ view e → ArePlain f.notes → IsUnrefused f.reason → Step x y x y q c e f
quiet x y q c e f same plain clean =
    let meet : f.local.shake.meet ≡ e.shake.meet = ap (λ (k : View). k.meet) same in
    kept_step x y q c e f (λ m d. sym meet ∙ d) (λ d. ap (λ (o : Option Contact). is_some o) (sym meet) ∙ d) (λ d. sym same) (λ h z d. h z (sym (ap (λ (k : View). k.terms.registration) same) ∙ d)) plain clean

-- the contact is lost, or was: all stays as it was
pub gone : (x y : Area) (q c : ℕ) (e : End) (f : Effect End (List Note)) → is_some f.local.shake.meet ≡ false → (HasSize e → HasSize f.local) → ArePlain f.notes → IsUnrefused f.reason → Step x y x y q c e f
gone x y q c e f off size plain clean = kept_step x y q c e f (λ m d. (let t : is_some f.local.shake.meet ≡ true = ap (λ (o : Option Contact). is_some o) d in absurd (cc))) (λ d. absurd (cc)) (λ d. absurd (cc)) size plain clean

-- a magic, or none
abbrev pub IsMagical : ℕ → Type 0
IsMagical v = (eqb v 0 || is_magic v) ≡ true

-- all lines of all partitions
module _ (n : ℕ) (line : ℕ → ℕ → ℕ → Type 0) (mirror : (p q c : ℕ) → line p q c → line q p c) (apart : (p q c : ℕ) → line p q c → p ≡ q → ⊥) (bound : (p q c : ℕ) → line p q c → (p < n) × (q < n)) where
  abbrev pub FineAt : Words → Part → Part → ℕ → ℕ → ℕ → Type 0
  FineAt w k j p q c = Fine (left k.state.life (peer_of k.state q) (six w p q)) (right j.state.life (peer_of j.state p) (six w p q)) (area_at (w p) q c) (area_at (w q) p c) (k.books q c) (j.books p c) (end_of k.state q c) (end_of j.state p c)

  pub record Good (w : Words) (σ : ℕ → Part) : Type 0 where
    pub met : Met n w σ
    pub fine : (p q c : ℕ) → line p q c → FineAt w (σ p) (σ q) p q c
    pub words : (p q c : ℕ) → line p q c → IsFlagWord (w p (Flag q))
    pub magics : (p q c : ℕ) → line p q c → IsMagical (w p (Record q 0))
    pub clean : (p q c : ℕ) → line p q c → IsUnrefused (peer_of (σ p).state q).engage.reason
    pub stands : (p q c : ℕ) → line p q c → Stands (RightAt (w p) q) (Right (w q) p) (peer_of (σ p).state q)
    pub shown : (p q c : ℕ) → line p q c → (w p (Record q 0) ≡ 0 → ⊥) → Right (w p) q

  -- one partition moves
  module _ (w w' : Words) (σ : ℕ → Part) (a : ℕ) (k : Part) (good : Good w σ) (met : Met n w' (at_one σ a k))
      (away : (p q c : ℕ) → (p ≡ a → ⊥) → (q ≡ a → ⊥) → area_at (w' p) q c ≡ area_at (w p) q c)
      (away_six : (p q : ℕ) → p < n → q < n → (p ≡ a → ⊥) → (q ≡ a → ⊥) → six w' p q ≡ six w p q)
      (here : (q c : ℕ) → line a q c → FineAt w' k (σ q) a q c)
      (words : (p q c : ℕ) → line p q c → IsFlagWord (w' p (Flag q))) (magics : (p q c : ℕ) → line p q c → IsMagical (w' p (Record q 0))) (clean : (q c : ℕ) → line a q c → IsUnrefused (peer_of k.state q).engage.reason)
      (rights : (p q : ℕ) (x : RecordField) → RightAt (w p) q x → RightAt (w' p) q x) (stands : (q c : ℕ) → line a q c → Stands (RightAt (w' a) q) (Right (w' q) a) (peer_of k.state q))
      (shown : (p q c : ℕ) → line p q c → (w' p (Record q 0) ≡ 0 → ⊥) → Right (w' p) q) where
    kept_far : (p : ℕ) → (p ≡ a → ⊥) → at_one σ a k p ≡ σ p
    kept_far p d = rw (ne_eqb a p (λ e. d (sym e))) refl

    fine_here : (q c : ℕ) → line a q c → FineAt w' k (at_one σ a k q) a q c
    fine_here q c l = subst (λ (j : Part). FineAt w' k j a q c) (sym (kept_far q (λ e. apart a q c l (sym e)))) (here q c l)

    fine_there : (p c : ℕ) → line p a c → FineAt w' (at_one σ a k p) k p a c
    fine_there p c l =
        let d : p ≡ a → ⊥ = apart p a c l in
        subst (λ (j : Part). FineAt w' j k p a c) (sym (kept_far p d)) (fine_turned _ _ _ _ _ _ _ _ (here p c (mirror p a c l)))

    fine_far : (p q c : ℕ) → (p ≡ a → ⊥) → (q ≡ a → ⊥) → line p q c → FineAt w' (σ p) (σ q) p q c
    fine_far p q c d f l =
        let b = bound p q c l in
        let T : Six → Area → Area → Type 0 = λ z x y. Fine (left (σ p).state.life (peer_of (σ p).state q) z) (right (σ q).state.life (peer_of (σ q).state p) z) x y ((σ p).books q c) ((σ q).books p c) (end_of (σ p).state q c) (end_of (σ q).state p c) in
        subst (λ (z : Six). T z (area_at (w' p) q c) (area_at (w' q) p c)) (sym (away_six p q b.0 b.1 d f)) (subst (λ (x : Area). T (six w p q) x (area_at (w' q) p c)) (sym (away p q c d f)) (subst (λ (y : Area). T (six w p q) (area_at (w p) q c) y) (sym (away q p c f d)) (good.fine p q c l)))

    fine_by : (p q c : ℕ) → line p q c → (p ≡ a) ⊎ (p ≡ a → ⊥) → (q ≡ a) ⊎ (q ≡ a → ⊥) → FineAt w' (at_one σ a k p) (at_one σ a k q) p q c
    fine_by p q c l (inl e) f =
        let P : ℕ → Type 0 = λ x. FineAt w' (at_one σ a k x) (at_one σ a k q) x q c in
        subst P (sym e) (subst (λ (j : Part). FineAt w' j (at_one σ a k q) a q c) (sym (one_here σ a k)) (fine_here q c (subst (λ (x : ℕ). line x q c) e l)))
    fine_by p q c l (inr d) (inl f) =
        let P : ℕ → Type 0 = λ x. FineAt w' (at_one σ a k p) (at_one σ a k x) p x c in
        subst P (sym f) (subst (λ (j : Part). FineAt w' (at_one σ a k p) j p a c) (sym (one_here σ a k)) (fine_there p c (subst (λ (x : ℕ). line p x c) f l)))
    fine_by p q c l (inr d) (inr f) =
        subst (λ (i : Part). FineAt w' i (at_one σ a k q) p q c) (sym (kept_far p d)) (subst (λ (j : Part). FineAt w' (σ p) j p q c) (sym (kept_far q f)) (fine_far p q c d f l))

    clean_by : (p q c : ℕ) → line p q c → (p ≡ a) ⊎ (p ≡ a → ⊥) → IsUnrefused (peer_of (at_one σ a k p).state q).engage.reason
    clean_by p q c l (inl e) = subst (λ (x : ℕ). IsUnrefused (peer_of (at_one σ a k x).state q).engage.reason) (sym e) (subst (λ (i : Part). IsUnrefused (peer_of i.state q).engage.reason) (sym (one_here σ a k)) (clean q c (subst (λ (x : ℕ). line x q c) e l)))
    clean_by p q c l (inr d) = subst (λ (i : Part). IsUnrefused (peer_of i.state q).engage.reason) (sym (kept_far p d)) (good.clean p q c l)

    stands_by : (p q c : ℕ) → line p q c → (p ≡ a) ⊎ (p ≡ a → ⊥) → Stands (RightAt (w' p) q) (Right (w' q) p) (peer_of (at_one σ a k p).state q)
    stands_by p q c l (inl e) =
        subst (λ (x : ℕ). Stands (RightAt (w' x) q) (Right (w' q) x) (peer_of (at_one σ a k x).state q)) (sym e) (subst (λ (i : Part). Stands (RightAt (w' a) q) (Right (w' q) a) (peer_of i.state q)) (sym (one_here σ a k)) (stands q c (subst (λ (x : ℕ). line x q c) e l)))
    stands_by p q c l (inr d) =
        subst (λ (i : Part). Stands (RightAt (w' p) q) (Right (w' q) p) (peer_of i.state q)) (sym (kept_far p d)) (map_stands (RightAt (w p) q) (RightAt (w' p) q) (Right (w q) p) (Right (w' q) p) (peer_of (σ p).state q) (λ x h. rights p q x h) (λ h x. rights q p x (h x)) (good.stands p q c l))

    pub moved : Good w' (at_one σ a k)
    moved = record { met = met; fine = λ p q c l. fine_by p q c l (cases_eq p a) (cases_eq q a); words = words; magics = magics; clean = λ p q c l. clean_by p q c l (cases_eq p a); stands = λ p q c l. stands_by p q c l (cases_eq p a); shown = shown }
