-- The promise of prefixes, of every history and every epoch.
use Rattle.std.proofs.Common.{◌≡◌, ℕ, ◌<◌, Bool, true, false, ◌&&◌, cond, List, [], ◌∷◌, ◌++◌, refl, ap, sym, ◌∙◌, subst, arith, Some}
use Rattle.std.specs.Prelude.{slice_get, is_some, nat_eq, nat_lt, Option}
use Rattle.xp_base.specs.Memory.{Memory, answer_of}
use Rattle.xp_base.specs.History.{Act, Event, turns_of}
use Rattle.xp_base.specs.declared.layout.TheConstants.{PARTS}
use Rattle.xp_base.specs.Places.{Place, IsWithin, Open as OpenWord, Record, Flag, Args, Entry, index_of}
use Rattle.xp_promises.proofs.Arguments.{Argued, Sheet, SaidBy, HeardBy, agreed_size}
use Rattle.xp_protocol.specs.Pulling.{lesser}
use Rattle.xp_protocol.specs.Linking.{agreed, agreed_by, limit_in}
use Rattle.xp_promises.proofs.Contacts.{fresh_line, registered}
use Rattle.xp_base.specs.Kinds.{Kinds, kinds_in, no_kinds, IsFlagWord}
use Rattle.xp_script.specs.declared.part.Link.{Link}
use Rattle.xp_script.specs.declared.scenario.Scenario.{Scenario}
use Rattle.xp_protocol.specs.Parts.{IsLawfulPart, IsRequestSize}
use Rattle.xp_script.specs.Parts.{part_of}
use Rattle.xp_script.specs.Opening.{opening}
use Rattle.xp_script.specs.Lawful.{IsLawful}
use Rattle.xp_protocol.specs.Records.{Recorded, opened_record, blank_record, first_session}
use Rattle.xp_protocol.specs.State.{State, Contact, Ready, End, Size, opened_state, opened_new, end_of, warm_end, first_met, size_of}
use Rattle.xp_protocol.specs.Reached.{ReachedWords, state_at}
use Rattle.xp_protocol.specs.Promised.{those_in, sent_order, word_answered, known_acted, Withdraws, IsSettled, IsQueue, AreArguments, FlagsInOrder, word_of, IsUnrefused, NothingRefused, records_of, Name, exchanged, by_name, is_name, name_of, IsLine, IsPrefixOf, accepted_of, first_named, KeepsPrefixes}
use Rattle.xp_protocol.proofs.LawfulParts.{lawful_part}
use Rattle.xp_meetings.proofs.Starts.{starts}
use Rattle.xp_meetings.proofs.Parts.{Part, part_opened, part_start, part_act, part_acts, part_ruled, part_moment, part_from, acts_state, from_state, from_books}
use Rattle.xp_meetings.proofs.Words.{Words, Agrees}
use Rattle.xp_meetings.proofs.Always.{IsPart, at_one, does_rule, answer_word, one_here, one_kept, acts_at, rule_at, failed_at, always}
use Rattle.xp_meetings.proofs.Links.{HasLink, line, listed, found, mirror, mirrored, start_end, start_records}
use Rattle.std.proofs.Common.{◌||◌, None, inl, inr, ◌⊎◌, ◌+◌, ◌*◌}
use Rattle.std.proofs.lemmas.Bool.{eq-eqb, eqb-true}
use Rattle.xp_base.specs.declared.session.Session.{Session}
use Rattle.xp_base.specs.Sessions.{session_word}
use Rattle.xp_script.specs.declared.setting.Warm.{Warm}
use Rattle.xp_script.specs.Parts.{links_of, link_in}
use Rattle.xp_script.specs.Settings.{joins}
use Rattle.xp_protocol.specs.Logged.{opened_records}
use Rattle.xp_protocol.specs.State.{Life, Up, Booting, Halted, Old, opening_life, Contact, Ready, idle_end, first_contact, peer_of}
use Rattle.xp_protocol.proofs.Opened.{opened_or, no_records}
use Rattle.xp_meetings.proofs.Ties.{known, stamp_by}
use Rattle.xp_meetings.proofs.Both.{Side, Both}
use Rattle.xp_meetings.proofs.Six.{Six, six}
use Rattle.xp_meetings.proofs.Touch.{now, IsWaiting}
use Rattle.xp_meetings.proofs.Meets.{left, right}
use Rattle.xp_meetings.proofs.Opening.{is_linked, linked_by, linked_both, opening_stamped, linked_stamp, linked_life, opening_words, agrees_opening, counter_zero, flag_zero, opening_magic, opening_right, opening_request, opening_reply}
use Rattle.xp_promises.proofs.Fields.{RightAt, Right, Stands}
use Rattle.xp_protocol.specs.declared.rule.RecordField.{RecordField}
use Rattle.xp_protocol.specs.Peering.{field_number}
use Rattle.xp_protocol.specs.State.{Engage}
use Rattle.std.specs.Int.{bit_at}
use Rattle.std.proofs.lemmas.Nat.Bits.{bit_at-zero}
use Rattle.xp_meetings.proofs.Firsts.{Posture, posture, warm_posture, base_posture, start_at, linked_met, met_first}
use Rattle.xp_promises.proofs.Direction.{NewOut, NewIn, new_kept}
use Rattle.xp_promises.proofs.FlagEnds.{Kinds as Five, End as Control, no_kinds as no_five}
use Rattle.xp_promises.proofs.FlagKept.{Sound}
use Rattle.xp_promises.proofs.Ways.{out_of, in_of, Way}
use Rattle.xp_promises.proofs.Rests.{Data, parts, Mine}
use Rattle.xp_promises.proofs.Lines.{fresh, HasSize, turned as line_turned, IsMagical, View, FineAt, Area, area_at, five, control, terms, view, Line, Room, Named, Front, Fine, Good}
use Rattle.xp_promises.proofs.Books.{at, named, names, has, meeting_at, Apart, found_self}
use Rattle.xp_promises.proofs.Places.{no_flags}
use Rattle.xp_meetings.proofs.Touch.{now, IsWaiting}
use Rattle.xp_promises.proofs.Queue.{queue, arguments, waits}
use Rattle.xp_promises.proofs.Withdrawn.{rule_withdraws}
use Rattle.xp_protocol.proofs.Frames.{AreAll, act_all}
use Rattle.xp_protocol.specs.Acts.{after_act, after_acts, MayAct, MayActs}
use Rattle.xp_script.specs.declared.part.ScenarioPart.{ScenarioPart}
use Rattle.xp_protocol.specs.Peering.{session_now}
use Rattle.xp_protocol.specs.Rules.{Can, row_of, owner, after_answer}
use Rattle.xp_protocol.proofs.Undo.{within, owner_low}
use Rattle.xp_base.specs.declared.step.Answer.TheVariants.{Word, Failed}
use Rattle.xp_protocol.specs.declared.rule.LinkRule.{LinkRule}
use Rattle.xp_protocol.specs.declared.rule.PeerRule.{PeerRule}
use Rattle.xp_protocol.specs.declared.rule.Rule.{Rule}
use Rattle.xp_protocol.specs.declared.rule.Rule.TheVariants.{Link as LinkOf, Peer as ForPeer}
use Rattle.xp_promises.proofs.Moves.{zero_word, keeps_act, keeps_rule, keeps_failed, keeps_moment}

all_four : (T : List Recorded → List Recorded → End → End → Type 0) (rs rs' ss ss' : List Recorded) (e e' g g' : End) → rs ≡ rs' → ss ≡ ss' → e ≡ e' → g ≡ g' → T rs ss e g → T rs' ss' e' g'
all_four T rs rs' ss ss' e e' g g' a b c d t =
    subst (λ (x : List Recorded). T x ss' e' g') a (subst (λ (x : List Recorded). T rs x e' g') b (subst (λ (x : End). T rs ss x g') c (subst (λ (x : End). T rs ss e x) d t)))

-- both ends are connected from the opening in epoch 0
abbrev warm_five : Five
warm_five = record no_five { oreq = true; orep = true; ocomp = true }

abbrev warm_control : Control
warm_control = record { registered = true; epoch = 0; sent = warm_five; got = warm_five; taken = no_five; reason = false }

warm_sound : Sound warm_control warm_control no_five no_five
warm_sound = grind arith

-- the records of the opening: nothing is in them, under whatever name
nothing : {A : Type 0} (f : Recorded → A) (a : A) (l : Link) → f (opened_record l) ≡ a → f (blank_record 0 0) ≡ a → (k : Name) → f (by_name k (opened_record l ∷ [])) ≡ a
nothing f a l h k n = by (is_name (name_of (opened_record l)) n) where
  by : (b : Bool) → f (cond b (opened_record l) (blank_record 0 0)) ≡ a
  by true = h
  by false = k

abbrev first_at : ℕ → List Recorded → Recorded
first_at e rs = named first_session first_session e rs

-- a direction at the opening
module _ (new their_new : Bool) (l m : Link) (x y : Data) (size : IsRequestSize l.entries l.limit) (ne : m.entries ≡ l.entries) (nl : m.limit ≡ l.limit) (zx : x.put ≡ 0) (zy : y.get ≡ 0) where
  first_out : (e : ℕ) → NewOut l.entries l.limit (out_of x.put x.entry (first_at e (opened_record l ∷ [])) (warm_end new l).sides.send)
  first_out e = record { entries = refl; size = refl; word = zx; put = refl; known = refl; next = refl; stored = refl; accepted = nothing (λ r. r.accepted) [] l refl refl (at first_session first_session e) }

  first_in : (e : ℕ) → NewIn l.entries l.limit (in_of y.get (first_at e (opened_record m ∷ [])) (parts (warm_end their_new m)).inn)
  first_in e = record { entries = ne; size = nl; word = zy; stored = refl; front = refl; later = refl; count = refl; cache = refl; pulled = refl; seen = refl; copied = refl; taken = nothing (λ r. r.taken) [] m refl refl (at first_session first_session e); acked = nothing (λ r. r.acked) 0 m refl refl (at first_session first_session e) }

  first_way : Way first_session first_session x.put x.entry y.get (opened_record l ∷ []) (opened_record m ∷ []) 0 0 true true (warm_end new l).sides.send (parts (warm_end their_new m)).inn
  first_way = record {
    n = λ e. l.entries;
    limit = λ e. l.limit;
    out = λ e. out_of x.put x.entry (first_at e (opened_record l ∷ [])) (warm_end new l).sides.send;
    inn = λ e. in_of y.get (first_at e (opened_record m ∷ [])) (parts (warm_end their_new m)).inn;
    kept = λ e. new_kept l.entries l.limit _ _ size.0 size.1 size.3 (first_out e) (first_in e);
    out_live = λ d. refl;
    in_live = λ d. refl;
    new = λ e h. (first_out e, first_in e);
    accepted = λ e. refl;
    taken = λ e. refl;
    acked = λ e. refl;
  }

first_mine : (new : Bool) (l : Link) (x : Data) → Mine first_session first_session x (opened_record l ∷ []) (parts (warm_end new l))
first_mine new l x = record { first = λ d. refl; below = (λ d. omega arith, tt); fresh = λ d. absurd (cc); ready = λ d. (refl, refl); out = λ d. absurd (cc); inn = λ d. absurd (cc); put_word = λ d. absurd (cc); get_word = λ d. absurd (cc) }

-- the arguments at the opening
equal_agreed : (new : Bool) (n : ℕ) → is_some (agreed_by new n n) ≡ true
equal_agreed true n = refl
equal_agreed false n = rw (eq-eqb n n refl) refl

lesser_same : (n : ℕ) → lesser n n ≡ n
lesser_same n = by (nat_lt n n) where
  by : (b : Bool) → cond b n n ≡ n
  by true = refl
  by false = refl

first_said : (x : Sheet) (new : Bool) (l : Link) → IsRequestSize l.entries l.limit → x.request ≡ l.limit + 65536 * l.entries → x.reply ≡ true → SaidBy x (terms (warm_end new l))
first_said x new l size request reply = record {
  put_request = λ v e. request ∙ (let k : l.limit + 65536 * l.entries ≡ v = cc in k);
  put_reply = λ t. reply;
  put_code = λ t. absurd (cc);
  asked = λ t. refl;
  replied = λ t. refl;
  coded = λ t. absurd (cc);
  size = λ t. size;
  lawful = λ z e. (let k : size_of l ≡ z = cc in subst (λ (m : Size). IsRequestSize m.entries m.limit) k size);
  stands = λ t e. refl;
  idle = λ t. absurd (cc);
  clean = tt;
  limit = λ t. equal_agreed new l.limit;
  sides = λ t. (same, same);
} where
  same : size_of l ≡ agreed_size (size_of l) (size_of l) (size_of l)
  same i = record { entries = l.entries; limit = sym (lesser_same l.limit) i }

first_heard : (x : Sheet) (new their_new : Bool) (l m : Link) → size_of m ≡ size_of l → HeardBy x (terms (warm_end new l)) (terms (warm_end their_new m))
first_heard x new their_new l m same = record { request = λ v e. absurd (cc); reply = λ v e. absurd (cc); code = λ v e. absurd (cc); sizes = λ e g. same; reply_after = λ t. refl; complete_after = λ t. refl }

first_front : (l m : Link) (k : Name) → Front (opened_record l ∷ []) (opened_record m ∷ []) k
first_front l m k = ((by_name k (opened_record l ∷ [])).accepted, λ i. sym (nothing (λ r. r.taken) [] m refl refl (exchanged k)) i ++ (by_name k (opened_record l ∷ [])).accepted)

-- what lasts of a line: the promise by names, and that each name is there once
record Lasting (rs ss : List Recorded) : Type 0 where
  sends : (k : Name) → Front rs ss k
  gets : (k : Name) → Front ss rs k
  apart : Apart (names rs)

-- the partner's record of a record's connection, and so the promise for each record
pub other_accepted : (r : Recorded) (xs : List Recorded) → (by_name (exchanged (name_of r)) xs).accepted ≡ accepted_of (first_named r xs)
other_accepted r [] = refl
other_accepted r (x ∷ xs) = by (is_name (name_of x) (exchanged (name_of r))) (other_accepted r xs) where
  by : (b : Bool) → (by_name (exchanged (name_of r)) xs).accepted ≡ accepted_of (first_named r xs) → (cond b x (by_name (exchanged (name_of r)) xs)).accepted ≡ accepted_of (cond b (Some x) (first_named r xs))
  by true h = refl
  by false h = h

record_front : (rs ss : List Recorded) → Lasting rs ss → (i : ℕ) (r : Recorded) → slice_get rs i ≡ Some r → IsPrefixOf r.taken (accepted_of (first_named r ss))
record_front rs ss h i r e =
    let t = h.gets (exchanged (name_of r)) in
    subst (λ (bs : List (List ℕ)). IsPrefixOf r.taken bs) (other_accepted r ss) (subst (λ (z : Recorded). IsPrefixOf z.taken (by_name (exchanged (name_of r)) ss).accepted) (found_self rs i r h.apart e) t)

-- an agreed limit is the lesser one
agreed_there : (s g new : Bool) (own their : ℕ) → s ≡ true → g ≡ true → cond (s && g) (agreed_by new own their) None ≡ agreed_by new own their
agreed_there s g new own their d e = rw (d, e) refl

agreed_is : (new : Bool) (own their : ℕ) → is_some (agreed_by new own their) ≡ true → agreed_by new own their ≡ Some (lesser own their)
agreed_is new own their h = by (new || nat_eq own their) h where
  by : (b : Bool) → is_some (cond b (Some (lesser own their)) None) ≡ true → cond b (Some (lesser own their)) None ≡ Some (lesser own their)
  by true t = refl
  by false t = absurd (cc)

module _ (s : Scenario) (law : IsLawful s) where
  abbrev pub Joined : ℕ → ℕ → ℕ → Type 0
  Joined p q c = IsLine s p q c

  pub turned : (p q c : ℕ) → Joined p q c → Joined q p c
  turned p q c h = record { first = h.second; second = h.first; apart = λ e. h.apart (sym e); channel = h.channel }

  pub apart : (p q c : ℕ) → Joined p q c → p ≡ q → ⊥
  apart p q c h = h.apart

  low : (p q c : ℕ) → Joined p q c → (q < s.count) × (c < 4)
  low p q c h = (h.second, h.channel)

  pub bound : (p q c : ℕ) → Joined p q c → (p < s.count) × (q < s.count)
  bound p q c h = (h.first, h.second)

  lawful : (p : ℕ) → p < s.count → IsLawfulPart (part_of s p)
  lawful p l = lawful_part s p law l

  -- the opening
  abbrev new_at : ℕ → ℕ → Bool
  new_at p q = opened_new (part_of s p) q

  abbrev first_area : ℕ → ℕ → ℕ → Area
  first_area p q c = area_at (opening_words s p) q c

  first_flags : (p q c : ℕ) → kinds_in (opening_words s p (Flag q)) c ≡ no_kinds
  first_flags p q c = ap (λ (v : ℕ). kinds_in v c) (flag_zero s p q) ∙ no_flags c

  reply_right : (p q c : ℕ) (l : Link) → p < s.count → HasLink s p q c l → (first_area p q c).sheet.reply ≡ true
  reply_right p q c l low h = eq-eqb (opening_words s p (Args q c 1)) (index_of (Entry q c 0)) (opening_reply s p q c l low h)

  first_line : (p q c : ℕ) (l : Link) → p < s.count → q < s.count → HasLink s p q c l → Line first_session first_session (first_area p q c) (first_area q p c) (opened_record l ∷ []) (opened_record (mirror p l) ∷ []) (view (warm_end (new_at p q) l)) (view (warm_end (new_at q p) (mirror p l)))
  first_line p q c l lp lq h =
      let z = (line s p q c l law h).size in
      let S : Kinds → Kinds → Type 0 = λ u v. Sound (control (warm_end (new_at p q) l)) (control (warm_end (new_at q p) (mirror p l))) (five u) (five v) in
      record {
        meet = refl;
        their_meet = refl;
        flags = subst (λ (u : Kinds). S u (first_area q p c).flags) (sym (first_flags p q c)) (subst (λ (v : Kinds). S no_kinds v) (sym (first_flags q p c)) warm_sound);
        rest = record {
          sends = first_way (new_at p q) (new_at q p) l (mirror p l) (first_area p q c).ring (first_area q p c).ring z refl refl (counter_zero s p q c 1) (counter_zero s q p c 0);
          gets = first_way (new_at q p) (new_at p q) (mirror p l) l (first_area q p c).ring (first_area p q c).ring z refl refl (counter_zero s q p c 1) (counter_zero s p q c 0);
          mine = first_mine (new_at p q) l (first_area p q c).ring;
          theirs = first_mine (new_at q p) (mirror p l) (first_area q p c).ring;
        };
        argued = (let back = mirrored s p q c l law h in record {
          mine = first_said (first_area p q c).sheet (new_at p q) l z (opening_request s p q c l lp h) (reply_right p q c l lp h);
          theirs = first_said (first_area q p c).sheet (new_at q p) (mirror p l) z (opening_request s q p c (mirror p l) lq back) (reply_right q p c (mirror p l) lq back);
          heard = first_heard (first_area p q c).sheet (new_at p q) (new_at q p) l (mirror p l) refl;
          hears = first_heard (first_area q p c).sheet (new_at q p) (new_at p q) (mirror p l) l refl;
        });
      }

  abbrev sp : ℕ → ℕ → Side
  sp p q = left (opening_life (links_of s p)) (peer_of (opened_state (part_of s p)) q) (six (opening_words s) p q)

  abbrev sq : ℕ → ℕ → Side
  sq p q = right (opening_life (links_of s q)) (peer_of (opened_state (part_of s q)) p) (six (opening_words s) p q)

  both_at : (p q c : ℕ) → Joined p q c → Both (sp p q) (sq p q)
  both_at p q c h = (met_first s law).both p q h.first h.second h.apart

  five_zero : (p q c : ℕ) → five (first_area p q c).flags ≡ no_five
  five_zero p q c = ap (λ (k : Kinds). five k) (first_flags p q c)

  abbrev T : ℕ → ℕ → ℕ → List Recorded → List Recorded → End → End → Type 0
  T p q c rs ss e g = Fine (sp p q) (sq p q) (first_area p q c) (first_area q p c) rs ss e g

  -- a line without a link
  no_name : (i j : Side) (x : Area) → five x.flags ≡ no_five → Named i j x [] [] idle_end
  no_name i j x z = record { met = λ m e. absurd (cc); size = λ k e. absurd (cc); own_used = λ u v e. absurd (cc); their_used = λ v u e. absurd (cc); unused = λ w u v e. absurd (cc); echoed = λ r v u e. absurd (cc); blank = λ o p. z; flags = λ o. inl z }

  nobody : (false ≡ true) ⊎ (false ≡ true) → ⊥
  nobody (inl d) = absurd (cc)
  nobody (inr d) = absurd (cc)

  idle_fine : (p q c : ℕ) → Joined p q c → T p q c [] [] idle_end idle_end
  idle_fine p q c h = record {
    both = both_at p q c h;
    mine = no_name (sp p q) (sq p q) (first_area p q c) (five_zero p q c);
    theirs = no_name (sq p q) (sp p q) (first_area q p c) (five_zero q p c);
    room = λ d. absurd (nobody d);
    late = λ w v d. absurd (cc);
    their_late = λ w u d. absurd (cc);
    sends = λ k. ([], refl);
    gets = λ k. ([], refl);
    apart = tt;
    their_apart = tt;
  }

  -- a line with a link
  linked_posture : (p q : ℕ) → q < s.count → is_linked (links_of s p) q ≡ true → posture (peer_of (opened_state (part_of s p)) q) ≡ warm_posture
  linked_posture p q l t = start_at s.count (opened_new (part_of s p)) (links_of s p) q l ∙ ap (λ (b : Bool). cond b warm_posture (base_posture (links_of s p))) t

  one_name : (u v : Session) → has u v (at first_session first_session 0 ∷ []) ≡ true → (u ≡ first_session) × (v ≡ first_session)
  one_name u v h = meeting_at u v first_session first_session 0 (or_none _ h) where
    or_none : (b : Bool) → (b || false) ≡ true → b ≡ true
    or_none true h = refl
    or_none false h = absurd (cc)

  abbrev Warm_named : Posture → Side → Area → End → Type 0
  Warm_named o j x e = (life : Life) (z : Six) → stamp_by life z.stamp ≡ 1 → Named (record { life = life; x = known (stamp_by life z.stamp) o.engage; contact = o.contact; magic = z.magic; one = z.one; two = z.two; bit = z.bit }) j x (at first_session first_session 0 ∷ []) (at first_session first_session 0 ∷ []) e

  warm_named : (j : Side) (x : Area) (new : Bool) (l : Link) → IsRequestSize l.entries l.limit → five x.flags ≡ no_five → Warm_named warm_posture j x (warm_end new l)
  warm_named j x new l size zero life z one = record {
    met = λ m e. e;
    size = λ k e. (let same : size_of l ≡ k = cc in subst (λ (m : Size). IsRequestSize m.entries m.limit) same size);
    own_used = λ u v h. subst (λ (k : Session). session_word k < stamp_by life z.stamp * 4294967296 + 2) (sym (one_name u v h).0) (omega (arith, one));
    their_used = λ v u h. subst (λ (k : Session). session_word k < stamp_by life z.stamp * 4294967296 + 2) (sym (one_name v u h).1) (omega (arith, one));
    unused = λ w. (let a = w.alone in absurd (cc));
    echoed = λ r v u h d. ap (λ (k : Session). Some (session_word k)) (sym (one_name v u h).0);
    blank = λ o p. zero;
    flags = λ o. inl zero;
  }

  alone : (o : Posture) → o ≡ warm_posture → o.contact ≡ None → ⊥
  alone o e n = let t : Some first_contact ≡ None = sym (ap (λ (x : Posture). x.contact) e) ∙ n in absurd (cc)

  linked_fine : (p q c : ℕ) (l : Link) → Joined p q c → HasLink s p q c l → T p q c (opened_record l ∷ []) (opened_record (mirror p l) ∷ []) (warm_end (new_at p q) l) (warm_end (new_at q p) (mirror p l))
  linked_fine p q c l h k =
      let back = mirrored s p q c l law k in
      let size = (line s p q c l law k).size in
      let has = linked_by (links_of s p) q k.number l k.listed k.partner in
      let has_back = linked_by (links_of s q) p back.number (mirror p l) back.listed back.partner in
      let mine = linked_posture p q h.second has in
      let theirs = linked_posture q p h.first has_back in
      let stamp = ap (λ (y : Life). stamp_by y (six (opening_words s) p q).stamp) (linked_life (links_of s p) q has) ∙ opening_stamped s p h.first ∙ linked_stamp (links_of s p) q has in
      let their_stamp = ap (λ (y : Life). stamp_by y (six (opening_words s) p q).their_stamp) (linked_life (links_of s q) p has_back) ∙ opening_stamped s q h.second ∙ linked_stamp (links_of s q) p has_back in
      let z = six (opening_words s) p q in
      let turned : Six = record { magic = z.their_magic; one = z.their_one; two = z.their_two; bit = z.their_bit; their_magic = z.magic; their_one = z.one; their_two = z.two; their_bit = z.bit; stamp = z.their_stamp; their_stamp = z.stamp } in
      let W : Posture → Area → Side → End → Type 0 = λ o x j e. Warm_named o j x e in
      let a : Named (sp p q) (sq p q) (first_area p q c) _ _ (warm_end (new_at p q) l) = subst (λ (o : Posture). Warm_named o (sq p q) (first_area p q c) (warm_end (new_at p q) l)) (sym mine) (warm_named (sq p q) (first_area p q c) (new_at p q) l size (five_zero p q c)) (opening_life (links_of s p)) z stamp in
      let b : Named (sq p q) (sp p q) (first_area q p c) _ _ (warm_end (new_at q p) (mirror p l)) = subst (λ (o : Posture). Warm_named o (sp p q) (first_area q p c) (warm_end (new_at q p) (mirror p l))) (sym theirs) (warm_named (sp p q) (first_area q p c) (new_at q p) (mirror p l) size (five_zero q p c)) (opening_life (links_of s q)) turned their_stamp in
      record {
        both = both_at p q c h;
        mine = a;
        theirs = b;
        room = λ d. record { own = first_session; theirs = first_session; a = warm_end (new_at p q) l; b = warm_end (new_at q p) (mirror p l); here = λ i. refl; there = λ i. refl; late = λ w. absurd (alone (posture (peer_of (opened_state (part_of s p)) q)) mine w.alone); their_late = λ w. absurd (alone (posture (peer_of (opened_state (part_of s q)) p)) theirs w.alone); line = first_line p q c l h.first h.second k };
        late = λ w. absurd (alone (posture (peer_of (opened_state (part_of s p)) q)) mine w.alone);
        their_late = λ w. absurd (alone (posture (peer_of (opened_state (part_of s q)) p)) theirs w.alone);
        sends = λ n. first_front l (mirror p l) n;
        gets = λ n. first_front (mirror p l) l n;
        apart = (tt, tt);
        their_apart = (tt, tt);
      }

  -- a line without a link of two partitions that have one: both ends are in contact, and nothing happened
  abbrev Met_named : Posture → Side → Area → End → Type 0
  Met_named o j x e = (life : Life) (z : Six) → Named (record { life = life; x = known (stamp_by life z.stamp) o.engage; contact = o.contact; magic = z.magic; one = z.one; two = z.two; bit = z.bit }) j x [] [] e

  met_named : (j : Side) (x : Area) (new : Bool) → five x.flags ≡ no_five → Met_named warm_posture j x (first_met new idle_end)
  met_named j x new zero life z = record { met = λ m e. e; size = λ k e. absurd (cc); own_used = λ u v e. absurd (cc); their_used = λ v u e. absurd (cc); unused = λ w u v e. absurd (cc); echoed = λ r v u e. absurd (cc); blank = λ o p. zero; flags = λ o. inl zero }

  no_size : HasSize idle_end
  no_size z e = absurd (cc)

  met_line : (p q c : ℕ) → Line first_session first_session (first_area p q c) (first_area q p c) [] [] (view (first_met (new_at p q) idle_end)) (view (first_met (new_at q p) idle_end))
  met_line p q c =
      let u = first_session in
      let x = first_area p q c in
      let y = first_area q p c in
      let one = registered (new_at p q) u u x y [] [] idle_end (fresh u u) no_size (fresh_line u u x y [] [] refl refl (five_zero p q c) (five_zero q p c)) in
      let mine = view (first_met (new_at p q) idle_end) in
      line_turned u u y x [] [] (view (first_met (new_at q p) idle_end)) mine (registered (new_at q p) u u y x [] [] idle_end mine no_size (line_turned u u x y [] [] mine (fresh u u) one))

  met_fine : (p q c : ℕ) → Joined p q c → is_linked (links_of s p) q ≡ true → is_linked (links_of s q) p ≡ true → T p q c [] [] (first_met (new_at p q) idle_end) (first_met (new_at q p) idle_end)
  met_fine p q c h there back =
      let mine = linked_posture p q h.second there in
      let theirs = linked_posture q p h.first back in
      let z = six (opening_words s) p q in
      let turned : Six = record { magic = z.their_magic; one = z.their_one; two = z.their_two; bit = z.their_bit; their_magic = z.magic; their_one = z.one; their_two = z.two; their_bit = z.bit; stamp = z.their_stamp; their_stamp = z.stamp } in
      let a : Named (sp p q) (sq p q) (first_area p q c) [] [] (first_met (new_at p q) idle_end) = subst (λ (o : Posture). Met_named o (sq p q) (first_area p q c) (first_met (new_at p q) idle_end)) (sym mine) (met_named (sq p q) (first_area p q c) (new_at p q) (five_zero p q c)) (opening_life (links_of s p)) z in
      let b : Named (sq p q) (sp p q) (first_area q p c) [] [] (first_met (new_at q p) idle_end) = subst (λ (o : Posture). Met_named o (sp p q) (first_area q p c) (first_met (new_at q p) idle_end)) (sym theirs) (met_named (sp p q) (first_area q p c) (new_at q p) (five_zero q p c)) (opening_life (links_of s q)) turned in
      record {
        both = both_at p q c h;
        mine = a;
        theirs = b;
        room = λ d. record { own = first_session; theirs = first_session; a = first_met (new_at p q) idle_end; b = first_met (new_at q p) idle_end; here = λ i. refl; there = λ i. refl; late = λ w. absurd (alone (posture (peer_of (opened_state (part_of s p)) q)) mine w.alone); their_late = λ w. absurd (alone (posture (peer_of (opened_state (part_of s q)) p)) theirs w.alone); line = met_line p q c };
        late = λ w. absurd (alone (posture (peer_of (opened_state (part_of s p)) q)) mine w.alone);
        their_late = λ w. absurd (alone (posture (peer_of (opened_state (part_of s q)) p)) theirs w.alone);
        sends = λ k. ([], refl);
        gets = λ k. ([], refl);
        apart = tt;
        their_apart = tt;
      }

  -- a channel of two partitions has a link, or none
  no_link : (p q c : ℕ) → link_in p q c s.warms ≡ [] → (i : ℕ) (l : Link) → slice_get (links_of s p) i ≡ Some l → l.partner ≡ q → l.channel ≡ c → ⊥
  no_link p q c none i l e f g =
      let k : link_in p q c s.warms ≡ l ∷ [] = subst (λ (x : ℕ). link_in p x c s.warms ≡ l ∷ []) f (subst (λ (y : ℕ). link_in p l.partner y s.warms ≡ l ∷ []) g (found s p i l e).0.only) in
      let z : [] ≡ l ∷ [] = sym none ∙ k in
      absurd (cc)

  idle_start : (p q c : ℕ) → link_in p q c s.warms ≡ [] → is_linked (links_of s p) q ≡ false → end_of (opened_state (part_of s p)) q c ≡ idle_end
  idle_start p q c none away = elim (opened_or (part_of s p) q c) [
    | inl e ↦ e
    | inr (inl o) ↦ let t = linked_by (links_of s p) q o.number o.link o.listed o.partner in absurd (cc)
    | inr (inr o) ↦ absurd (no_link p q c none o.at.number o.link o.at.listed o.at.partner o.at.channel)
  ]

  met_start : (p q c : ℕ) → Joined p q c → link_in p q c s.warms ≡ [] → is_linked (links_of s p) q ≡ true → end_of (opened_state (part_of s p)) q c ≡ first_met (new_at p q) idle_end
  met_start p q c h none there = elim (opened_or (part_of s p) q c) [
    | inl e ↦ let t = linked_met (part_of s p) q c h.second h.channel there in let f = ap (λ (x : End). is_some x.shake.meet) e in absurd (cc)
    | inr (inl o) ↦ o.is
    | inr (inr o) ↦ absurd (no_link p q c none o.at.number o.link o.at.listed o.at.partner o.at.channel)
  ]

  idle_records : (p q c : ℕ) → link_in p q c s.warms ≡ [] → opened_records (links_of s p) q c ≡ []
  idle_records p q c none = no_records (links_of s p) q c (λ i l e f g. no_link p q c none i l e f g)

  linked_or : (p q c : ℕ) (ws : List Warm) → (link_in p q c ws ≡ []) ⊎ ((l : Link) × (link_in p q c ws ≡ l ∷ []) × (l.partner ≡ q) × (l.channel ≡ c))
  linked_or p q c [] = inl refl
  linked_or p q c (w ∷ ws) = by (joins p q c w) (linked_or p q c ws) where
    by : (b : Bool) → (link_in p q c ws ≡ []) ⊎ ((l : Link) × (link_in p q c ws ≡ l ∷ []) × (l.partner ≡ q) × (l.channel ≡ c)) → (let m : Link = record { partner = q; channel = c; entries = w.entries; limit = w.limit } in (cond b (m ∷ []) (link_in p q c ws) ≡ []) ⊎ ((l : Link) × (cond b (m ∷ []) (link_in p q c ws) ≡ l ∷ []) × (l.partner ≡ q) × (l.channel ≡ c)))
    by true h = inr (record { partner = q; channel = c; entries = w.entries; limit = w.limit }, refl, refl, refl)
    by false h = h

  first_fine : (p q c : ℕ) → Joined p q c → T p q c ((part_opened (part_of s p)).books q c) ((part_opened (part_of s q)).books p c) (end_of (opened_state (part_of s p)) q c) (end_of (opened_state (part_of s q)) p c)
  first_fine p q c h = by (linked_or p q c s.warms) (linked_or q p c s.warms) where
    none_back : link_in p q c s.warms ≡ [] → (l : Link) × (link_in q p c s.warms ≡ l ∷ []) × (l.partner ≡ p) × (l.channel ≡ c) → ⊥
    none_back none k =
        let i = listed s q p c k.0 k.1 h.first h.channel in
        let back = mirrored s q p c k.0 law (record { number = i.0; listed = i.1; partner = k.2; channel = k.3 }) in
        no_link p q c none back.number (mirror q k.0) back.listed back.partner back.channel

    by : (link_in p q c s.warms ≡ []) ⊎ ((l : Link) × (link_in p q c s.warms ≡ l ∷ []) × (l.partner ≡ q) × (l.channel ≡ c)) → (link_in q p c s.warms ≡ []) ⊎ ((l : Link) × (link_in q p c s.warms ≡ l ∷ []) × (l.partner ≡ p) × (l.channel ≡ c)) → T p q c ((part_opened (part_of s p)).books q c) ((part_opened (part_of s q)).books p c) (end_of (opened_state (part_of s p)) q c) (end_of (opened_state (part_of s q)) p c)
    by (inl none) (inl their) = unlinked (is_linked (links_of s p) q) refl where
      unlinked : (b : Bool) → is_linked (links_of s p) q ≡ b → T p q c ((part_opened (part_of s p)).books q c) ((part_opened (part_of s q)).books p c) (end_of (opened_state (part_of s p)) q c) (end_of (opened_state (part_of s q)) p c)
      unlinked false t = all_four (T p q c) _ _ _ _ _ _ _ _ (sym (idle_records p q c none)) (sym (idle_records q p c their)) (sym (idle_start p q c none t)) (sym (idle_start q p c their (linked_both s law q p ∙ t))) (idle_fine p q c h)
      unlinked true t = let r = linked_both s law q p ∙ t in all_four (T p q c) _ _ _ _ _ _ _ _ (sym (idle_records p q c none)) (sym (idle_records q p c their)) (sym (met_start p q c h none t)) (sym (met_start q p c (turned p q c h) their r)) (met_fine p q c h t r)
    by (inl none) (inr k) = absurd (none_back none k)
    by (inr k) o =
        let i = listed s p q c k.0 k.1 h.second h.channel in
        let link : HasLink s p q c k.0 = record { number = i.0; listed = i.1; partner = k.2; channel = k.3 } in
        let back = mirrored s p q c k.0 law link in
        all_four (T p q c) _ _ _ _ _ _ _ _ (sym (start_records s p q c k.0 link)) (sym (start_records s q p c (mirror p k.0) back)) (sym (start_end s p q c k.0 law link)) (sym (start_end s q p c (mirror p k.0) law back)) (linked_fine p q c k.0 h link)

  first_clean : (p q : ℕ) → q < s.count → IsUnrefused (peer_of (opened_state (part_of s p)) q).engage.reason
  first_clean p q l = subst (λ (o : Posture). IsUnrefused o.engage.reason) (sym (start_at s.count (opened_new (part_of s p)) (links_of s p) q l)) (by (is_linked (links_of s p) q)) where
    by : (b : Bool) → IsUnrefused (cond b warm_posture (base_posture (links_of s p))).engage.reason
    by true = tt
    by false = base (links_of s p)
      where
        base : (ls : List Link) → IsUnrefused (base_posture ls).engage.reason
        base [] = tt
        base (l ∷ ls) = tt

  first_magical : (p q : ℕ) → p < s.count → IsMagical (opening_words s p (Record q 0))
  first_magical p q l = subst (λ (v : ℕ). IsMagical v) (sym (opening_magic s p q l)) (by (is_linked (links_of s p) q)) where
    by : (b : Bool) → IsMagical (cond b 4921945407791255640 0)
    by true = refl
    by false = refl

  abbrev StandsBy : ℕ → ℕ → Engage → Type 0
  StandsBy p q x = ((y : RecordField) → bit_at x.places_put (field_number y) ≡ 1 → RightAt (opening_words s p) q y) × (x.area ≡ Ready → Right (opening_words s p) q) × (is_some x.reading ≡ true → Right (opening_words s q) p)

  first_stands : (p q : ℕ) → q < s.count → p < s.count → Stands (RightAt (opening_words s p) q) (Right (opening_words s q) p) (peer_of (opened_state (part_of s p)) q)
  first_stands p q lq lp =
      subst (λ (o : Posture). StandsBy p q o.engage) (sym (start_at s.count (opened_new (part_of s p)) (links_of s p) q lq)) (by (is_linked (links_of s p) q) refl)
    where
      none : (n : ℕ) → bit_at 0 n ≡ 1 → ⊥
      none n e = omega (arith, bit_at-zero n, e)

      base : (ls : List Link) → StandsBy p q (base_posture ls).engage
      base [] = (λ y e. absurd (none (field_number y) e), λ e. absurd (cc), λ e. absurd (cc))
      base (l ∷ ls) = (λ y e. absurd (none (field_number y) e), λ e. absurd (cc), λ e. absurd (cc))

      by : (b : Bool) → is_linked (links_of s p) q ≡ b → StandsBy p q (cond b warm_posture (base_posture (links_of s p))).engage
      by true t = (λ y e. absurd (none (field_number y) e), λ e. opening_right s p q lp t, λ e. absurd (cc))
      by false t = base (links_of s p)

  first_shown : (p q : ℕ) → p < s.count → (opening_words s p (Record q 0) ≡ 0 → ⊥) → Right (opening_words s p) q
  first_shown p q l n = by (is_linked (links_of s p) q) refl where
    by : (b : Bool) → is_linked (links_of s p) q ≡ b → Right (opening_words s p) q
    by true t = opening_right s p q l t
    by false t = absurd (n (opening_magic s p q l ∙ ap (λ (b : Bool). cond b 4921945407791255640 0) t))

  every : (p q c : ℕ) → p < s.count → q < s.count → (p ≡ q → ⊥) → c < 4 → Joined p q c
  every p q c lp lq n lc = record { first = lp; second = lq; apart = n; channel = lc }

  pub first_good : Good s.count Joined turned apart bound (opening_words s) (λ p. part_opened (part_of s p))
  first_good = record { met = met_first s law; fine = first_fine; words = λ p q c l. subst (λ (v : ℕ). IsFlagWord v) (sym (flag_zero s p q)) zero_word; magics = λ p q c l. first_magical p q l.first; clean = λ p q c l. first_clean p q (low p q c l).0; stands = λ p q c l. first_stands p q (low p q c l).0 l.first; shown = λ p q c l. first_shown p q l.first }

  pub start_good : Good s.count Joined turned apart bound (opening_words s) (λ p. part_start (part_of s p))
  start_good = starts s law (λ w σ. Good s.count Joined turned apart bound w σ) (λ w σ a earlier turns la i. keeps_moment s lawful Joined turned apart low bound every w σ a la i earlier turns) (opening_words s) first_good

  -- each line after a history
  ends : (h : List Event) (m : Memory) → ReachedWords s h m → (w : Words) × Agrees s.count m w × Good s.count Joined turned apart bound w (λ p. part_from (part_of s p) (part_start (part_of s p)) (turns_of p h))
  ends h m r =
      always (part_of s) s.count (λ p l. record { lawful = lawful p l; part = refl; count = refl }) (λ w σ. Good s.count Joined turned apart bound w σ)
      (λ w σ a x la i may. keeps_act s lawful Joined turned apart low bound every w σ a la i x may)
      (λ w σ a r la i can. keeps_rule s lawful Joined turned apart low bound every w σ a la i r can)
      (λ w σ a r la i can. keeps_failed s lawful Joined turned apart low bound every w σ a la i r can)
      (λ w σ a earlier turns la i. keeps_moment s lawful Joined turned apart low bound every w σ a la i earlier turns)
      h (opening s) m (opening_words s) (λ p. part_start (part_of s p)) r.parts r.legal r.runs (agrees_opening s law) start_good

  abbrev part_at : List Event → ℕ → Part
  part_at h p = part_from (part_of s p) (part_start (part_of s p)) (turns_of p h)

  is_known : (h : List Event) (p : ℕ) → (part_at h p).state ≡ state_at s h p
  is_known h p = from_state (part_of s p) (part_start (part_of s p)) (turns_of p h)

  reached : (h : List Event) (m : Memory) → ReachedWords s h m → (p q c : ℕ) → Joined p q c → Lasting (records_of s h p q c) (records_of s h q p c)
  reached h m r p q c l =
      let z = (ends h m r).2.fine p q c l in
      let f : (p q : ℕ) → (part_at h p).books q c ≡ records_of s h p q c = λ p q. from_books (part_of s p) (part_start (part_of s p)) (turns_of p h) q c in
      subst (λ (xs : List Recorded). Lasting (records_of s h p q c) xs) (f q p) (subst (λ (ys : List Recorded). Lasting ys ((part_at h q).books p c)) (f p q) (record { sends = z.sends; gets = z.gets; apart = z.apart }))

  -- no flag and no argument is refused
  channel_clean : (w : Words) (a b : Part) (p q c : ℕ) → FineAt s.count Joined turned apart bound w a b p q c → is_some (end_of a.state q c).shake.meet ≡ true → IsUnrefused (end_of a.state q c).shake.reason
  channel_clean w a b p q c h on = let r = h.room (inl on) in subst (λ (v : View). IsUnrefused v.terms.reason) (r.here on) r.line.argued.mine.clean

  end_settled : (w : Words) (a b : Part) (p q c : ℕ) → FineAt s.count Joined turned apart bound w a b p q c → is_some (end_of a.state q c).shake.meet ≡ true → IsSettled (end_of a.state q c)
  end_settled w a b p q c h on =
      let r = h.room (inl on) in
      let e = end_of a.state q c in
      let l = subst (λ (v : View). Line r.own r.theirs (area_at (w p) q c) (area_at (w q) p c) (a.books q c) (b.books p c) v (view r.b)) (r.here on) r.line in
      let k = l.argued.mine in
      let there : e.shake.sent.open_reply ≡ true → agreed e.shake ≡ agreed_by e.shake.both_new (limit_in e.shake.own_size) (limit_in e.shake.their_size) = λ t. (let f = l.flags.fit_a.orep t in agreed_there e.shake.sent.open_request e.shake.got.open_request e.shake.both_new _ _ f.0 f.1) in
      let settled : e.shake.sent.open_complete ≡ true → agreed e.shake ≡ Some (lesser (limit_in e.shake.own_size) (limit_in e.shake.their_size)) = λ t. (let o = (l.flags.fit_a.ocomp t).0 in there o ∙ agreed_is e.shake.both_new _ _ (k.limit o)) in
      record {
        size = k.size;
        registered = k.stands;
        copies = k.idle;
        limit = λ t. ap (λ (o : Option ℕ). is_some o) (there t) ∙ k.limit t;
        entries = λ t. (ap (λ (z : Size). z.entries) (k.sides t).0, ap (λ (z : Size). z.entries) (k.sides t).1);
        limits = λ t. (settled t ∙ ap (λ (z : Size). Some z.limit) (sym (k.sides t).0), settled t ∙ ap (λ (z : Size). Some z.limit) (sym (k.sides t).1));
      }

  -- the same of a step in a turn
  abbrev pub Holds : Words → (ℕ → Part) → Type 0
  Holds w σ = Good s.count Joined turned apart bound w σ

  is_part : (p : ℕ) → p < s.count → IsPart (part_of s p) s.count p
  is_part p l = record { lawful = lawful p l; part = refl; count = refl }

  pub act_kept : (w : Words) (σ : ℕ → Part) (a : ℕ) (x : Act) → a < s.count → Holds w σ → MayAct (part_of s a) (σ a).state x → Holds w (at_one σ a (part_act (part_of s a) (σ a) x))
  act_kept w σ a x la i may = keeps_act s lawful Joined turned apart low bound every w σ a la i x may

  pub rule_kept : (w : Words) (σ : ℕ → Part) (a : ℕ) (r : Rule) → a < s.count → Holds w σ → Can (part_of s a) (σ a).state r → Holds (does_rule (part_of s a) (σ a).state r w) (at_one σ a (part_ruled (part_of s a) (σ a) r (Word (answer_word (part_of s a) (σ a).state r w))))
  rule_kept w σ a r la i can = keeps_rule s lawful Joined turned apart low bound every w σ a la i r can

  pub failed_kept : (w : Words) (σ : ℕ → Part) (a : ℕ) (r : Rule) → a < s.count → Holds w σ → Can (part_of s a) (σ a).state r → Holds w (at_one σ a (part_ruled (part_of s a) (σ a) r Failed))
  failed_kept w σ a r la i can = keeps_failed s lawful Joined turned apart low bound every w σ a la i r can

  pub moment_kept : (w : Words) (σ : ℕ → Part) (a earlier turns : ℕ) → a < s.count → Holds w σ → Holds w (at_one σ a (part_moment (part_of s a) earlier turns (σ a)))
  moment_kept w σ a earlier turns la i = keeps_moment s lawful Joined turned apart low bound every w σ a la i earlier turns

  module _ (h : List Event) (m : Memory) (r : ReachedWords s h m) (p q c : ℕ) (l : Joined p q c) (acts : List Act) (rule : Rule) where
    abbrev su : ScenarioPart
    su = part_of s p

    abbrev acted : Part
    acted = part_acts su (part_at h p) acts

    is_acted : acted.state ≡ known_acted s h p acts
    is_acted = acts_state su (part_at h p) acts ∙ ap (λ (st : State). after_acts su st acts) (is_known h p)

    good_acted : MayActs su (part_at h p).state acts → Holds (ends h m r).0 (at_one (part_at h) p acted)
    good_acted may = acts_at (part_of s) s.count is_part Holds act_kept rule_kept failed_kept moment_kept (ends h m r).0 (part_at h) p (part_at h p) acts l.first (subst (λ (σ : ℕ → Part). Holds (ends h m r).0 σ) (sym (one_kept (part_at h) p)) (ends h m r).2) may

    told_is : (st : State) → Can su st rule → answer_word su st rule (ends h m r).0 ≡ word_answered s m p st rule
    told_is st can = ap (λ (v : ℕ). answer_of (row_of su st rule).kind v) (sym ((ends h m r).1.words (owner su st rule) (row_of su st rule).place (owner_low su st rule (lawful p l.first) can) (within su st rule (lawful p l.first) can)))

    step_clean : MayActs su (state_at s h p) acts → Can su (known_acted s h p acts) rule → (let st = known_acted s h p acts in IsUnrefused (peer_of (after_answer su st rule (Word (word_answered s m p st rule))) q).engage.reason × IsUnrefused (peer_of (after_answer su st rule Failed) q).engage.reason)
    step_clean may can =
        let i = good_acted (subst (λ (st : State). MayActs su st acts) (sym (is_known h p)) may) in
        let can' = subst (λ (st : State). Can su st rule) (sym is_acted) can in
        let a = rule_at (part_of s) s.count is_part Holds act_kept rule_kept failed_kept moment_kept (ends h m r).0 (part_at h) p acted rule l.first i can' in
        let b = failed_at (part_of s) s.count is_part Holds act_kept rule_kept failed_kept moment_kept (ends h m r).0 (part_at h) p acted rule l.first i can' in
        let P : Part → Type 0 = λ x. IsUnrefused (peer_of x.state q).engage.reason in
        let x = subst P (one_here (part_at h) p (part_ruled su acted rule (Word (answer_word su acted.state rule (ends h m r).0)))) (a.clean p q c l) in
        let y = subst P (one_here (part_at h) p (part_ruled su acted rule Failed)) (b.clean p q c l) in
        let F : State → ℕ → Type 0 = λ st v. IsUnrefused (peer_of (after_answer su st rule (Word v)) q).engage.reason in
        let z = subst (λ (st : State). F st (answer_word su st rule (ends h m r).0)) is_acted x in
        (subst (λ (v : ℕ). F (known_acted s h p acts) v) (told_is (known_acted s h p acts) can) z, subst (λ (st : State). IsUnrefused (peer_of (after_answer su st rule Failed) q).engage.reason) is_acted y)

  pub refuses_nothing : (h : List Event) (m : Memory) → ReachedWords s h m → NothingRefused s h m
  refuses_nothing h m r =
      let e = ends h m r in
      record {
        partners = λ p q c l. subst (λ (st : State). IsUnrefused (peer_of st q).engage.reason) (is_known h p) (e.2.clean p q c l);
        channels = λ p q c l. subst (λ (st : State). is_some (end_of st q c).shake.meet ≡ true → IsUnrefused (end_of st q c).shake.reason) (is_known h p) (λ on. channel_clean e.0 (part_at h p) (part_at h q) p q c (e.2.fine p q c l) on);
        steps = λ p q c l acts rule may can. step_clean h m r p q c l acts rule may can;
      }

  -- the flags and the arguments of two ends in contact
  module _ (h : List Event) (m : Memory) (r : ReachedWords s h m) (p q c : ℕ) (l : Joined p q c) where
    abbrev words : Words
    words = (ends h m r).0

    abbrev mine : Area
    mine = area_at (words p) q c

    abbrev theirs : Area
    theirs = area_at (words q) p c

    word_is : (o : ℕ) (pl : Place) → o < s.count → IsWithin pl → word_of m o pl ≡ words o pl
    word_is o pl lo within = (ends h m r).1.words o pl lo within

    low_part : (o : ℕ) → o < s.count → o < PARTS
    low_part o lo = omega (arith, lo, law.numbers.count.high)

    module _ (e g : End) (here : is_some e.shake.meet ≡ true) (there : is_some g.shake.meet ≡ true) (i j : Side) (rs ss : List Recorded) (f : Fine i j mine theirs rs ss e g) where
      room_now : Room i j mine theirs rs ss e g
      room_now = f.room (inl here)

      sound_now : Sound (control e) (control g) (five mine.flags) (five theirs.flags)
      sound_now = subst (λ (v : View). Sound v.control (control g) (five mine.flags) (five theirs.flags)) (room_now.here here) (subst (λ (v : View). Sound (control room_now.a) v.control (five mine.flags) (five theirs.flags)) (room_now.there there) room_now.line.flags)

      argued_now : Argued mine.sheet theirs.sheet (terms e) (terms g)
      argued_now = subst (λ (v : View). Argued mine.sheet theirs.sheet v.terms (terms g)) (room_now.here here) (subst (λ (v : View). Argued mine.sheet theirs.sheet (terms room_now.a) v.terms) (room_now.there there) room_now.line.argued)

      queue_now : IsQueue e g (kinds_in (word_of m q (Flag p)) c)
      queue_now = subst (λ (v : ℕ). IsQueue e g (kinds_in v c)) (sym (word_is q (Flag p) l.second (low_part p l.first))) (queue mine theirs e g sound_now argued_now)

      arguments_now : AreArguments e g (word_of m p (Args q c 0)) (word_of m p (Args q c 1)) (word_of m p (Args q c 2)) (index_of (Entry q c 0))
      arguments_now =
          let at : (x : ℕ) → x < 4 → word_of m p (Args q c x) ≡ words p (Args q c x) = λ x lx. word_is p (Args q c x) l.first (low_part q l.second, l.channel, lx) in
          let z = arguments mine theirs e g (words p (Args q c 1)) (index_of (Entry q c 0)) (λ t. eqb-true (words p (Args q c 1)) (index_of (Entry q c 0)) t) argued_now in
          subst (λ (a : ℕ). AreArguments e g a (word_of m p (Args q c 1)) (word_of m p (Args q c 2)) (index_of (Entry q c 0))) (sym (at 0 (omega arith)))
          (subst (λ (b : ℕ). AreArguments e g (words p (Args q c 0)) b (word_of m p (Args q c 2)) (index_of (Entry q c 0))) (sym (at 1 (omega arith)))
          (subst (λ (d : ℕ). AreArguments e g (words p (Args q c 0)) (words p (Args q c 1)) d (index_of (Entry q c 0))) (sym (at 2 (omega arith))) z))

    waiting_now : (e g : End) (k : Contact) → e.shake.meet ≡ Some k → (i j : Side) (rs ss : List Recorded) → Fine i j mine theirs rs ss e g → IsWaiting j → now j ≡ k.theirs → (e.epoch ≡ 0) × (those_in e.shake.sent sent_order ≡ those_in (kinds_in (word_of m q (Flag p)) c) sent_order)
    waiting_now e g k on i j rs ss f w same =
        let here : is_some e.shake.meet ≡ true = ap (λ (o : Option Contact). is_some o) on in
        let r = f.room (inl here) in
        let met : Some k ≡ Some (record { own = r.own; theirs = r.theirs }) = sym on ∙ ap (λ (v : View). v.meet) (sym (r.here here)) ∙ r.line.meet in
        let one : k ≡ record { own = r.own; theirs = r.theirs } = got k _ met in
        let late = r.their_late w (same ∙ ap (λ (x : Contact). x.theirs) one) in
        let sound = subst (λ (v : View). Sound v.control (fresh r.theirs r.own).control (five mine.flags) (five theirs.flags)) (r.here here) (subst (λ (v : View). Sound (control r.a) v.control (five mine.flags) (five theirs.flags)) late r.line.flags) in
        let z = waits mine.flags theirs.flags e r.theirs r.own sound in
        (z.0, z.1 ∙ ap (λ (v : ℕ). those_in (kinds_in v c) sent_order) (sym (word_is q (Flag p) l.second (low_part p l.first))))
      where
        got : (a b : Contact) → Some a ≡ Some b → a ≡ b
        got a b z = cc

  -- a partition whose own memory is open is up, and its stamp is the one of its own word
  ready_stamp : (w : Words) (σ : ℕ → Part) → Good s.count Joined turned apart bound w σ → (p q c : ℕ) → Joined p q c → (peer_of (σ q).state p).engage.area ≡ Ready → stamp_by (σ q).state.life (w q (OpenWord 4)) ≡ (σ q).state.stamp
  ready_stamp w σ g p q c l ready = by (σ q).state.life refl where
    asleep : ((σ q).state.life ≡ Up → ⊥) → stamp_by (σ q).state.life (w q (OpenWord 4)) ≡ (σ q).state.stamp
    asleep n = let z : Old ≡ Ready = sym ((g.fine p q c l).both.their.down n) ∙ ready in absurd (cc)

    by : (y : Life) → (σ q).state.life ≡ y → stamp_by (σ q).state.life (w q (OpenWord 4)) ≡ (σ q).state.stamp
    by Up e = ap (λ (y : Life). stamp_by y (w q (OpenWord 4))) e ∙ sym ((g.met.stamps q l.second).up e)
    by Booting e = asleep (λ u. (let z : Booting ≡ Up = sym e ∙ u in absurd (cc)))
    by Halted e = asleep (λ u. (let z : Halted ≡ Up = sym e ∙ u in absurd (cc)))

  session_same : (h : List Event) (m : Memory) (r : ReachedWords s h m) (p q c : ℕ) → Joined p q c → (peer_of (part_at h q).state p).engage.area ≡ Ready → now (right (part_at h q).state.life (peer_of (part_at h q).state p) (six (ends h m r).0 p q)) ≡ session_now (part_at h q).state.stamp (peer_of (part_at h q).state p).engage
  session_same h m r p q c l ready = ap (λ (n : ℕ). session_now n (peer_of (part_at h q).state p).engage) (ready_stamp (ends h m r).0 (part_at h) (ends h m r).2 p q c l ready)

  pub in_order : (h : List Event) (m : Memory) → ReachedWords s h m → FlagsInOrder s h m
  in_order h m r = record {
    waiting = λ p q c l k. (let P : State → State → Type 0 = λ a b. (end_of a q c).shake.meet ≡ Some k → (peer_of b p).engage.area ≡ Ready → (peer_of b p).contact ≡ None → session_now b.stamp (peer_of b p).engage ≡ k.theirs → ((end_of a q c).epoch ≡ 0) × (those_in (end_of a q c).shake.sent sent_order ≡ those_in (kinds_in (word_of m q (Flag p)) c) sent_order) in
        subst (λ (a : State). P a (state_at s h q)) (is_known h p) (subst (λ (b : State). P (part_at h p).state b) (is_known h q) (λ on ready alone same. waiting_now h m r p q c l (end_of (part_at h p).state q c) (end_of (part_at h q).state p c) k on _ _ _ _ ((ends h m r).2.fine p q c l) (record { ready = ready; alone = alone }) (session_same h m r p q c l ready ∙ same))));
    settled = λ p q c l. subst (λ (a : State). is_some (end_of a q c).shake.meet ≡ true → IsSettled (end_of a q c)) (is_known h p) (λ on. end_settled ((ends h m r).0) (part_at h p) (part_at h q) p q c ((ends h m r).2.fine p q c l) on);
    queue = λ p q c l. (let P : State → State → Type 0 = λ a b. is_some (end_of a q c).shake.meet ≡ true → is_some (end_of b p c).shake.meet ≡ true → IsQueue (end_of a q c) (end_of b p c) (kinds_in (word_of m q (Flag p)) c) in
        subst (λ (a : State). P a (state_at s h q)) (is_known h p) (subst (λ (b : State). P (part_at h p).state b) (is_known h q) (λ here there. queue_now h m r p q c l (end_of (part_at h p).state q c) (end_of (part_at h q).state p c) here there _ _ _ _ ((ends h m r).2.fine p q c l))));
    arguments = λ p q c l. (let P : State → State → Type 0 = λ a b. is_some (end_of a q c).shake.meet ≡ true → is_some (end_of b p c).shake.meet ≡ true → AreArguments (end_of a q c) (end_of b p c) (word_of m p (Args q c 0)) (word_of m p (Args q c 1)) (word_of m p (Args q c 2)) (index_of (Entry q c 0)) in
        subst (λ (a : State). P a (state_at s h q)) (is_known h p) (subst (λ (b : State). P (part_at h p).state b) (is_known h q) (λ here there. arguments_now h m r p q c l (end_of (part_at h p).state q c) (end_of (part_at h q).state p c) here there _ _ _ _ ((ends h m r).2.fine p q c l))));
  }

  acts_all : {n : ℕ} (u : ScenarioPart) (st : State) (acts : List Act) → AreAll n st.peers → AreAll n (after_acts u st acts).peers
  acts_all u st [] h = h
  acts_all u st (x ∷ more) h = acts_all u (after_act u st x) more (act_all u st x h)

  pub withdraws : Withdraws s
  withdraws h m r p q c l acts rule a can t =
      let all = subst (λ (st : State). AreAll s.count st.peers) (is_known h p) ((ends h m r).2.met.all p l.first) in
      rule_withdraws (part_of s p) (known_acted s h p acts) rule a q c (acts_all (part_of s p) (state_at s h p) acts all) (λ k d m e. link_low k d m e) (λ k m e. peer_low k m e) l.second l.channel t
    where
      link_low : (k d : ℕ) (m : LinkRule) → rule ≡ LinkOf k d m → (k < s.count) × (d < 4)
      link_low k d m e = let z = subst (λ (y : Rule). Can (part_of s p) (known_acted s h p acts) y) e can in (z.1.0.peer.0, z.1.0.peer.2)

      peer_low : (k : ℕ) (m : PeerRule) → rule ≡ ForPeer k m → k < s.count
      peer_low k m e = let z = subst (λ (y : Rule). Can (part_of s p) (known_acted s h p acts) y) e can in z.1.0.low

  pub promises : (h : List Event) (m : Memory) → ReachedWords s h m → KeepsPrefixes s h
  promises h m r = record {
    names = λ p q c l k. (reached h m r p q c l).sends k;
    records = λ p q c l z is. record_front (records_of s h p q c) (records_of s h q p c) (reached h m r p q c l) is.number z is.listed;
  }

pub kept : (s : Scenario) → IsLawful s → (h : List Event) (m : Memory) → ReachedWords s h m → KeepsPrefixes s h
kept s law h m r = promises s law h m r

pub none_refused : (s : Scenario) → IsLawful s → (h : List Event) (m : Memory) → ReachedWords s h m → NothingRefused s h m
none_refused s law h m r = refuses_nothing s law h m r

pub flags_in_turn : (s : Scenario) → IsLawful s → (h : List Event) (m : Memory) → ReachedWords s h m → FlagsInOrder s h m
flags_in_turn s law h m r = in_order s law h m r

pub none_survives : (s : Scenario) → IsLawful s → Withdraws s
none_survives s law = withdraws s law
