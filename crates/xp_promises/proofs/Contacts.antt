-- Contacts that are made anew: what each step of the engagement leaves of a line.
use Rattle.std.proofs.Common.{◌≡◌, ℕ, ◌+◌, ◌*◌, ◌<◌, Bool, true, false, ◌||◌, List, [], refl, ap, sym, ◌∙◌, subst, arith, Option, Some, None, inl, inr, ◌⊎◌}
use Rattle.std.specs.Prelude.{is_some}
use Rattle.std.proofs.lemmas.Bool.{cases_Bool}
use Rattle.xp_base.specs.declared.session.Session.{Session}
use Rattle.xp_base.specs.Sessions.{session_word, session_of}
use Rattle.xp_protocol.specs.Records.{Recorded}
use Rattle.xp_protocol.specs.Peering.{or_zero}
use Rattle.xp_protocol.specs.State.{End, Contact, Off, Ready, idle_end}
use Rattle.xp_protocol.specs.Linking.{joined_end}
use Rattle.xp_meetings.proofs.Ties.{word_now, word_next, contact_by, opens, echoes}
use Rattle.xp_meetings.proofs.Both.{Side, Both, both_turned}
use Rattle.xp_meetings.proofs.Touch.{now, IsWaiting, Opens, Touch, touch, shut, word_back, session_back}
use Rattle.xp_base.specs.declared.layout.TheConstants.{LINES}
use Rattle.xp_base.specs.declared.body.TheConstants.{LINE_BYTES}
use Rattle.xp_promises.proofs.Direction.{Out, In, NewOut, NewIn, new_kept}
use Rattle.xp_promises.proofs.FlagEnds.{Kinds as Five, End as Control, no_kinds as no_five}
use Rattle.xp_promises.proofs.FlagKept.{Sound, again}
use Rattle.xp_promises.proofs.Arguments.{Sheet, SaidBy, HeardBy, registered_terms}
use Rattle.xp_promises.proofs.Books.{named, names, has, has_none, named_none, Below, below_more}
use Rattle.xp_promises.proofs.Ways.{out_of, in_of, Way}
use Rattle.xp_promises.proofs.Rests.{Data, parts, in_side, Mine}
use Rattle.xp_promises.proofs.Lines.{Area, five, terms, View, HasSize, view, met, Line, fresh, Room, RoomOf, Fine, no_wait}

some_of : {A : Type 0} (o : Option A) → is_some o ≡ true → (x : A) × (o ≡ Some x)
some_of None h = absurd (cc)
some_of (Some x) h = (x, refl)

-- how a partition stands to its partner changes, and the line doesn't
pub record Slide (i i' j : Side) (e : End) : Type 0 where
  pub ready : i'.x.area ≡ Ready → (i.x.area ≡ Ready) × (now i' ≡ now i) × (i'.x.echo ≡ i.x.echo)
  pub waits : IsWaiting i' → IsWaiting i
  pub bound : word_next i.x < word_next i'.x + 1
  pub met : (m : Contact) → e.shake.meet ≡ Some m → i'.contact ≡ Some m
  pub opens : Opens i' j → Opens i j × (i'.one ≡ i.one) × (i'.two ≡ i.two)
  pub their_opens : Opens j i' → Opens j i
  pub blank : i'.x.area ≡ Off → i'.x.flags_put ≡ true → (i.x.area ≡ Off) × (i.x.flags_put ≡ true)

less_more : (a b c : ℕ) → a < b → b < c + 1 → a < c
less_more a b c h k = omega (arith, h, k)

module _ (i i' j : Side) (x y : Area) (rs ss : List Recorded) (e g : End) (s : Slide i i' j e) (both : Both i' j) (h : Fine i j x y rs ss e g) where
  slid_room : Room i j x y rs ss e g → Room i' j x y rs ss e g
  slid_room r = record { own = r.own; theirs = r.theirs; a = r.a; b = r.b; here = r.here; there = r.there; late = λ w d. r.late (s.waits w) (sym (s.ready w.ready).1 ∙ d); their_late = r.their_late; line = r.line }

  flags_by : Opens i j × (i'.one ≡ i.one) × (i'.two ≡ i.two) → (five x.flags ≡ no_five) ⊎ (has (session_of i'.two) (session_of i'.one) (names ss) ≡ true)
  flags_by o = by (h.mine.flags o.0) where
    by : (five x.flags ≡ no_five) ⊎ (has (session_of i.two) (session_of i.one) (names ss) ≡ true) → (five x.flags ≡ no_five) ⊎ (has (session_of i'.two) (session_of i'.one) (names ss) ≡ true)
    by (inl z) = inl z
    by (inr z) = inr (subst (λ (a : ℕ). has (session_of a) (session_of i'.one) (names ss) ≡ true) (sym o.2) (subst (λ (b : ℕ). has (session_of i.two) (session_of b) (names ss) ≡ true) (sym o.1) z))

  pub slides : Fine i' j x y rs ss e g
  unfolding slid_room
  slides = record {
    both = both;
    mine = record {
      met = s.met;
      size = h.mine.size;
      own_used = λ u v z. less_more (session_word u) (word_next i.x) (word_next i'.x) (h.mine.own_used u v z) s.bound;
      their_used = λ v u z. less_more (session_word u) (word_next i.x) (word_next i'.x) (h.mine.their_used v u z) s.bound;
      unused = λ w u v z d. h.mine.unused (s.waits w) u v z (d ∙ ap session_word (s.ready w.ready).1);
      echoed = λ r v u z d. (let k = s.ready r in k.2 ∙ h.mine.echoed k.0 v u z (d ∙ ap session_word k.1));
      blank = λ o p. (let k = s.blank o p in h.mine.blank k.0 k.1);
      flags = λ o. flags_by (s.opens o);
    };
    theirs = record { met = h.theirs.met; size = h.theirs.size; own_used = h.theirs.own_used; their_used = h.theirs.their_used; unused = h.theirs.unused; echoed = h.theirs.echoed; blank = h.theirs.blank; flags = λ o. h.theirs.flags (s.their_opens o) };
    room = λ d. slid_room (h.room d);
    late = λ w v d. (let k = (s.ready w.ready).1 in let r = h.late (s.waits w) v (subst (λ (u : Session). has v u (names ss) ≡ true) k d) in record { room = slid_room r.room; own = r.own ∙ sym k; theirs = r.theirs });
    their_late = λ w u d. (let r = h.their_late w u d in record { room = slid_room r.room; own = r.own; theirs = r.theirs });
    sends = h.sends;
    gets = h.gets;
    apart = h.apart;
    their_apart = h.their_apart;
  }

-- while the own memory is free nobody is in contact, or waits for one that was
module _ (i j : Side) (x y : Area) (rs ss : List Recorded) (e g : End) (h : Fine i j x y rs ss e g) (off : i.x.area ≡ Off) where
  off_ready : i.x.area ≡ Ready → ⊥
  off_ready r = let z : Off ≡ Ready = sym off ∙ r in absurd (cc)

  no_room : (is_some e.shake.meet ≡ true) ⊎ (is_some g.shake.meet ≡ true) → ⊥
  no_room (inl d) = let m = some_of e.shake.meet d in off_ready (touch i j m.0 h.both (h.mine.met m.0 m.1)).ready
  no_room (inr d) = let m = some_of g.shake.meet d in (touch j i m.0 (both_turned i j h.both) (h.theirs.met m.0 m.1)).standing off

  seen_by : (a b : Bool) → b ≡ true → (a || b) ≡ true
  seen_by true b d = refl
  seen_by false b d = d

  no_late : IsWaiting j → (u : Session) → has u (now j) (names rs) ≡ true → ⊥
  no_late w u d =
      let k = h.theirs.echoed w.ready u (now j) d refl in
      let some : is_some j.x.echo ≡ true = ap (λ (o : Option ℕ). is_some o) k in
      let bit = h.both.their.fit.echo some w.ready in
      h.both.host.standing (seen_by (is_some j.x.reading) (is_some j.x.read) (h.both.their.fit.known bit some)) off

  -- its words are written
  pub writes : (i' : Side) (x' : Area) → i'.x.area ≡ Off → i'.contact ≡ i.contact → word_next i'.x ≡ word_next i.x → (Opens j i' → Opens j i) → (i'.x.flags_put ≡ true → five x'.flags ≡ no_five) → Both i' j → Fine i' j x' y rs ss e g
  writes i' x' off' same bound seen blank both = record {
    both = both;
    mine = record {
      met = λ m d. same ∙ h.mine.met m d;
      size = h.mine.size;
      own_used = λ u v z. subst (λ (n : ℕ). session_word u < n) (sym bound) (h.mine.own_used u v z);
      their_used = λ v u z. subst (λ (n : ℕ). session_word u < n) (sym bound) (h.mine.their_used v u z);
      unused = λ w. absurd (no_off w.ready);
      echoed = λ r. absurd (no_off r);
      blank = λ o p. blank p;
      flags = λ o. absurd (shut i' j both off' o);
    };
    theirs = record { met = h.theirs.met; size = h.theirs.size; own_used = h.theirs.own_used; their_used = h.theirs.their_used; unused = h.theirs.unused; echoed = h.theirs.echoed; blank = h.theirs.blank; flags = λ o. h.theirs.flags (seen o) };
    room = λ d. absurd (no_room d);
    late = λ w. absurd (no_off w.ready);
    their_late = λ w u d. absurd (no_late w u d);
    sends = h.sends;
    gets = h.gets;
    apart = h.apart;
    their_apart = h.their_apart;
  } where
    no_off : i'.x.area ≡ Ready → ⊥
    no_off r = let z : Off ≡ Ready = sym off' ∙ r in absurd (cc)

  -- it is opened under a new session
  same_less : (a b : ℕ) → a < b → a ≡ b → ⊥
  same_less a b l d = absurd (omega (arith, l, d))

  abbrev opened : ℕ → Side
  opened v = record i { x = opens i.x; magic = v }

  more : (a b c : ℕ) → a < b * 4294967296 + (c + 1) → a < b * 4294967296 + (c + 1 + 1)
  more a b c l = omega (arith, l)

  pub opens_line : (v : ℕ) → i.x.flags_put ≡ true → Both (opened v) j → Fine (opened v) j x y rs ss e g
  opens_line v put both = record {
    both = both;
    mine = record {
      met = h.mine.met;
      size = h.mine.size;
      own_used = λ u k z. more (session_word u) i.x.stamp i.x.count (h.mine.own_used u k z);
      their_used = λ k u z. more (session_word u) i.x.stamp i.x.count (h.mine.their_used k u z);
      unused = λ w u k z d. same_less (session_word u) (word_next i.x) (h.mine.own_used u k z) d;
      echoed = λ r k u z d. absurd (same_less (session_word u) (word_next i.x) (h.mine.their_used k u z) d);
      blank = λ o p. absurd (cc);
      flags = λ o. inl (h.mine.blank off put);
    };
    theirs = record { met = h.theirs.met; size = h.theirs.size; own_used = h.theirs.own_used; their_used = h.theirs.their_used; unused = h.theirs.unused; echoed = h.theirs.echoed; blank = h.theirs.blank; flags = λ o. h.theirs.flags o };
    room = λ d. absurd (no_room d);
    late = λ w k d. absurd (same_less (word_next i.x) (word_next i.x) (h.mine.their_used k (now (opened v)) d) refl);
    their_late = λ w u d. absurd (no_late w u d);
    sends = h.sends;
    gets = h.gets;
    apart = h.apart;
    their_apart = h.their_apart;
  }

-- the echo is stored: nobody was in contact under this session
module _ (i j : Side) (x y : Area) (rs ss : List Recorded) (e g : End) (h : Fine i j x y rs ss e g) (ready : i.x.area ≡ Ready) (none : i.x.echo ≡ None) where
  abbrev echoed : Side
  echoed = record i { x = echoes i.x; two = or_zero i.x.read }

  echo_room : Room i j x y rs ss e g → Room echoed j x y rs ss e g
  echo_room r = record { own = r.own; theirs = r.theirs; a = r.a; b = r.b; here = r.here; there = r.there; late = λ w d. r.late (record { ready = w.ready; alone = w.alone }) d; their_late = r.their_late; line = r.line }

  no_echo : (v u : Session) → has v u (names ss) ≡ true → session_word u ≡ word_now i.x → ⊥
  no_echo v u z d = let k : None ≡ Some (session_word v) = sym none ∙ h.mine.echoed ready v u z d in absurd (cc)

  none_set : (five x.flags ≡ no_five) ⊎ (has (session_of i.two) (session_of i.one) (names ss) ≡ true) → five x.flags ≡ no_five
  none_set (inl z) = z
  none_set (inr z) = absurd (no_echo (session_of i.two) (session_of i.one) z (word_back i.one ∙ h.both.own.owns.session (inl ready)))

  pub echoes_line : Both echoed j → Fine echoed j x y rs ss e g
  unfolding echo_room
  echoes_line both = record {
    both = both;
    mine = record { met = h.mine.met; size = h.mine.size; own_used = h.mine.own_used; their_used = h.mine.their_used; unused = λ w. h.mine.unused (record { ready = w.ready; alone = w.alone }); echoed = λ r v u z d. absurd (no_echo v u z d); blank = h.mine.blank; flags = λ o. inl (none_set (h.mine.flags (inl ready))) };
    theirs = record { met = h.theirs.met; size = h.theirs.size; own_used = h.theirs.own_used; their_used = h.theirs.their_used; unused = h.theirs.unused; echoed = h.theirs.echoed; blank = h.theirs.blank; flags = λ o. h.theirs.flags o };
    room = λ d. echo_room (h.room d);
    late = λ w v d. (let r = h.late (record { ready = w.ready; alone = w.alone }) v d in record { room = echo_room r.room; own = r.own; theirs = r.theirs });
    their_late = λ w u d. (let r = h.their_late w u d in record { room = echo_room r.room; own = r.own; theirs = r.theirs });
    sends = h.sends;
    gets = h.gets;
    apart = h.apart;
    their_apart = h.their_apart;
  }

-- a line of two ends in a contact in which nothing happened
abbrev joined : Session → Session → End
joined u v = joined_end false (record { own = u; theirs = v }) idle_end

abbrev fresh_control : Control
fresh_control = record { registered = false; epoch = 0; sent = no_five; got = no_five; taken = no_five; reason = false }

fresh_sound : Sound fresh_control fresh_control no_five no_five
fresh_sound = grind arith

-- records of which none is under these sessions
record Unused (u v : Session) (rs : List Recorded) : Type 0 where
  accepted : (k : ℕ) → (named u v k rs).accepted ≡ []
  taken : (k : ℕ) → (named u v k rs).taken ≡ []
  acked : (k : ℕ) → (named u v k rs).acked ≡ 0
  below : Below u v 0 (names rs)

unused_by : (u v : Session) (rs : List Recorded) → has u v (names rs) ≡ false → Unused u v rs
unused_by u v rs h = record { accepted = λ k. ap (λ (r : Recorded). r.accepted) (named_none u v k rs h); taken = λ k. ap (λ (r : Recorded). r.taken) (named_none u v k rs h); acked = λ k. ap (λ (r : Recorded). r.acked) (named_none u v k rs h); below = has_none u v (names rs) h }

fresh_way : (u v : Session) (put : ℕ) (entry : ℕ → ℕ) (get : ℕ) (rs ss : List Recorded) → Unused u v rs → Unused v u ss → Way u v put entry get rs ss 0 0 false false (joined u v).sides.send (in_side (joined v u))
fresh_way u v put entry get rs ss own their =
    let s = (joined u v).sides.send in
    let i = in_side (joined v u) in
    let out : ℕ → Out = λ k. out_of 0 entry (named u v k rs) s in
    let inn : ℕ → In = λ k. in_of 0 (named v u k ss) i in
    let new_out : (k : ℕ) → NewOut LINES LINE_BYTES (out k) = λ k. record { entries = refl; size = refl; word = refl; put = refl; known = refl; accepted = own.accepted k; next = refl; stored = refl } in
    let new_in : (k : ℕ) → NewIn LINES LINE_BYTES (inn k) = λ k. record { entries = refl; size = refl; word = refl; acked = their.acked k; stored = refl; front = refl; later = refl; count = refl; taken = their.taken k; cache = refl; pulled = refl; seen = refl; copied = refl } in
    record { n = λ k. LINES; limit = λ k. LINE_BYTES; out = out; inn = inn; kept = λ k. new_kept LINES LINE_BYTES (out k) (inn k) (omega arith) (omega arith) (omega arith) (new_out k) (new_in k); out_live = λ d. absurd (cc); in_live = λ d. absurd (cc); new = λ k d. (new_out k, new_in k); accepted = λ k. refl; taken = λ k. refl; acked = λ k. refl }

fresh_mine : (u v : Session) (x : Data) (rs : List Recorded) → Below u v 0 (names rs) → Mine u v x rs (parts (joined u v))
fresh_mine u v x rs unused = record {
  first = λ d. absurd (cc);
  below = below_more u v 0 1 (names rs) (omega arith) unused;
  fresh = λ d. unused;
  ready = λ d. absurd (cc);
  out = λ d. record { put = refl; known = refl; next = refl; stored = refl };
  inn = λ d. record { stored = refl; front = refl; later = refl; count = refl; cache = refl; pulled = refl; seen = refl; copied = refl };
  put_word = λ d i. absurd (cc);
  get_word = λ d i. absurd (cc);
}

fresh_said : (x : Sheet) → SaidBy x (terms idle_end)
fresh_said x = record { put_request = λ v e. absurd (cc); put_reply = λ t. absurd (cc); put_code = λ t. absurd (cc); asked = λ t. absurd (cc); replied = λ t. absurd (cc); coded = λ t. absurd (cc); size = λ t. absurd (cc); lawful = λ z e. absurd (cc); stands = λ t. absurd (cc); idle = λ t. absurd (cc); clean = tt; limit = λ t. absurd (cc); sides = λ t. absurd (cc) }

fresh_heard : (x : Sheet) → HeardBy x (terms idle_end) (terms idle_end)
fresh_heard x = record { request = λ v e. absurd (cc); reply = λ v e. absurd (cc); code = λ v e. absurd (cc); sizes = λ e g. absurd (cc); reply_after = λ t. absurd (cc); complete_after = λ t. absurd (cc) }

pub fresh_line : (u v : Session) (x y : Area) (rs ss : List Recorded) → has u v (names rs) ≡ false → has v u (names ss) ≡ false → five x.flags ≡ no_five → five y.flags ≡ no_five → Line u v x y rs ss (fresh u v) (fresh v u)
fresh_line u v x y rs ss no_own no_their no_flags their_none =
    let a = unused_by u v rs no_own in
    let b = unused_by v u ss no_their in
    let S : Five → Five → Type 0 = λ k l. Sound fresh_control fresh_control k l in
    record {
      meet = refl;
      their_meet = refl;
      flags = subst (λ (k : Five). S k (five y.flags)) (sym no_flags) (subst (λ (k : Five). S no_five k) (sym their_none) fresh_sound);
      rest = record {
        sends = fresh_way u v x.ring.put x.ring.entry y.ring.get rs ss a b;
        gets = fresh_way v u y.ring.put y.ring.entry x.ring.get ss rs b a;
        mine = fresh_mine u v x.ring rs a.below;
        theirs = fresh_mine v u y.ring ss b.below;
      };
      argued = record { mine = fresh_said x.sheet; theirs = fresh_said y.sheet; heard = fresh_heard x.sheet; hears = fresh_heard y.sheet };
    }

-- a channel that is registered when the contact is made, which knows the versions of both
pub registered : (new : Bool) (u v : Session) (x y : Area) (rs ss : List Recorded) (e : End) (b : View) → HasSize e → Line u v x y rs ss (fresh u v) b → Line u v x y rs ss (view (joined_end new (record { own = u; theirs = v }) e)) b
registered new u v x y rs ss e b size l = record {
  meet = l.meet;
  their_meet = l.their_meet;
  flags = again fresh_control b.control (five x.flags) (five y.flags) (is_some e.registration) false (λ d. d) l.flags;
  rest = l.rest;
  argued = registered_terms x.sheet y.sheet (fresh u v).terms b.terms l.argued new e.registration size refl refl;
}

-- a contact is made
module _ (new : Bool) (i j : Side) (x y : Area) (rs ss : List Recorded) (e g : End) (h : Fine i j x y rs ss e g) (w : IsWaiting i) where
  abbrev m : Contact
  m = contact_by i.x

  abbrev meets : Side
  meets = record i { contact = Some m }

  abbrev joins : End
  joins = joined_end new m e

  abbrev u : Session
  u = now i

  abbrev v : Session
  v = m.theirs

  module _ (both : Both meets j) where
    t : Touch meets j m
    t = touch meets j m both refl

    -- the partner is in contact: it is this one
    there : is_some g.shake.meet ≡ true → RoomOf i j x y rs ss e g u v
    there d =
        let k = some_of g.shake.meet d in
        let s = touch j i k.0 (both_turned i j h.both) (h.theirs.met k.0 k.1) in
        let r = h.room (inr d) in
        let same : Some k.0 ≡ met r.theirs r.own = sym k.1 ∙ ap (λ (z : _). z.meet) (sym (r.there d)) ∙ r.line.their_meet in
        let one : k.0 ≡ record { own = r.theirs; theirs = r.own } = got k.0 _ same in
        record { room = r; own = sym (ap (λ (z : Contact). z.theirs) one) ∙ s.named w.ready; theirs = sym (ap (λ (z : Contact). z.own) one) ∙ s.own ∙ sym (t.named s.ready) }
      where
        got : (a b : Contact) → Some a ≡ Some b → a ≡ b
        got a b z = cc

    -- the second comes into a contact in which the first was already
    second : RoomOf i j x y rs ss e g u v → Room meets j x y rs ss joins g
    second k =
        let r = k.room in
        let l = subst (λ (a : View). Line r.own r.theirs x y rs ss a (view r.b)) (r.late w (sym k.own)) r.line in
        record { own = r.own; theirs = r.theirs; a = joined_end new (record { own = r.own; theirs = r.theirs }) e; b = r.b; here = λ d n. view (joined_end new (record { own = k.own n; theirs = k.theirs n }) e); there = r.there; late = λ z. absurd (no_wait meets m refl z); their_late = r.their_late; line = registered new r.own r.theirs x y rs ss e (view r.b) h.mine.size l }

    -- the first comes
    none_of_mine : has u v (names rs) ≡ false
    none_of_mine = by (cases_Bool (has u v (names rs))) where
      by : (has u v (names rs) ≡ true) ⊎ (has u v (names rs) ≡ false) → has u v (names rs) ≡ false
      by (inl d) = absurd (h.mine.unused w u v d refl)
      by (inr d) = d

    one_now : session_of i.one ≡ u
    one_now = ap session_of (h.both.own.owns.session (inl w.ready)) ∙ back where
      back : session_of (word_now i.x) ≡ u
      back = session_back u h.both.own.fit.low

    two_now : session_of i.two ≡ v
    two_now = ap session_of (h.both.own.owns.echo (inl w.ready))

    first : is_some g.shake.meet ≡ false → has v u (names ss) ≡ false → Room meets j x y rs ss joins g
    first away none = record {
      own = u;
      theirs = v;
      a = joins;
      b = joined v u;
      here = λ d. refl;
      there = λ d. absurd (cc);
      late = λ z. absurd (no_wait meets m refl z);
      their_late = λ z d. refl;
      line = registered new u v x y rs ss e (fresh v u) h.mine.size (fresh_line u v x y rs ss none_of_mine none (mine (h.mine.flags (inl w.ready))) (theirs (h.theirs.flags (inr (inr t.seen)))));
    } where
      mine : (five x.flags ≡ no_five) ⊎ (has (session_of i.two) (session_of i.one) (names ss) ≡ true) → five x.flags ≡ no_five
      mine (inl z) = z
      mine (inr z) = let k : has v u (names ss) ≡ true = subst (λ (a : Session). has a u (names ss) ≡ true) two_now (subst (λ (b : Session). has (session_of i.two) b (names ss) ≡ true) one_now z) in absurd (cc)

      theirs : (five y.flags ≡ no_five) ⊎ (has (session_of j.two) (session_of j.one) (names rs) ≡ true) → five y.flags ≡ no_five
      theirs (inl z) = z
      theirs (inr z) = let k : has u v (names rs) ≡ true = subst (λ (a : Session). has a v (names rs) ≡ true) (t.two) (subst (λ (b : Session). has (session_of j.two) b (names rs) ≡ true) t.one z) in absurd (h.mine.unused w u v k refl)

    comes : (is_some g.shake.meet ≡ true) ⊎ (is_some g.shake.meet ≡ false) → (has v u (names ss) ≡ true) ⊎ (has v u (names ss) ≡ false) → Room meets j x y rs ss joins g
    comes (inl d) k = second (there d)
    comes (inr d) (inl k) = second (h.late w v k)
    comes (inr d) (inr k) = first d k

    none_late : IsWaiting j → (a : Session) → has a (now j) (names rs) ≡ true → ⊥
    none_late z a d =
        let k = h.theirs.echoed z.ready a (now j) d refl in
        let same : Some (session_word a) ≡ Some (session_word u) = sym k ∙ t.echo z.ready in
        h.mine.unused w a (now j) d (got (session_word a) (session_word u) same)
      where
        got : (a b : ℕ) → Some a ≡ Some b → a ≡ b
        got a b z = cc

    pub meets_line : Fine meets j x y rs ss joins g
    meets_line = record {
      both = both;
      mine = record { met = λ k d. d; size = h.mine.size; own_used = h.mine.own_used; their_used = h.mine.their_used; unused = λ z. absurd (no_wait meets m refl z); echoed = h.mine.echoed; blank = h.mine.blank; flags = λ o. h.mine.flags o };
      theirs = record { met = h.theirs.met; size = h.theirs.size; own_used = h.theirs.own_used; their_used = h.theirs.their_used; unused = h.theirs.unused; echoed = h.theirs.echoed; blank = h.theirs.blank; flags = λ o. h.theirs.flags o };
      room = λ d. comes (cases_Bool (is_some g.shake.meet)) (cases_Bool (has v u (names ss)));
      late = λ z. absurd (no_wait meets m refl z);
      their_late = λ z a d. absurd (none_late z a d);
      sends = h.sends;
      gets = h.gets;
      apart = h.apart;
      their_apart = h.their_apart;
    }
