-- A copy of a partner's record is begun and over in the visit to it: its errand has turns for the rest
-- of one that was cut, and for a whole one.
use Rattle.std.proofs.Common.{◌≡◌, ℕ, ◌+◌, ◌-◌, ◌*◌, ◌<◌, ◌≤◌, Bool, true, false, ◌&&◌, ◌||◌, List, ◌∷◌, length, refl, ap, sym, ◌∙◌, subst, arith, inl, inr, ◌⊎◌, Option, Some, None}
use Rattle.std.specs.Prelude.{IsSome, is_some, not, nat_lt, nat_eq, if◌then◌else◌}
use Rattle.std.proofs.lemmas.Bool.Decides.{nat_tests}
use Rattle.xp_base.specs.declared.layout.TheConstants.{RECORD_WORDS}
use Rattle.xp_base.specs.declared.reason.Reason.{Reason}
use Rattle.xp_base.specs.declared.step.Answer.{Answer}
use Rattle.xp_base.specs.declared.step.Answer.TheVariants.{Word, Failed}
use Rattle.xp_base.specs.History.{Marked, Turn}
use Rattle.xp_script.specs.declared.part.ScenarioPart.{ScenarioPart}
use Rattle.xp_rounds.specs.declared.rounds.TheConstants.{VISIT_TURNS}
use Rattle.xp_rounds.specs.Visit.{Visit}
use Rattle.xp_rounds.proofs.Sources.{Paced}
use Rattle.xp_rounds.proofs.Duties.{Along, Moved}
use Rattle.xp_rounds.proofs.Asides.{Duty, done}
use Rattle.xp_rounds.proofs.Spots.{Spot}
use Rattle.xp_protocol.specs.declared.contact.Contact.{Contact}
use Rattle.xp_protocol.specs.declared.contact.PartnerState.{PartnerState}
use Rattle.xp_protocol.specs.declared.contact.PartnerState.TheVariants.{Activating}
use Rattle.xp_protocol.specs.declared.rule.PeerRule.{PeerRule}
use Rattle.xp_protocol.specs.declared.rule.PeerRule.TheVariants.{AskActivation, TakeFlags, CloseArea, ZeroMagic, ClearOldBit, Prepare, OpenArea, SetEngagementBit, ReadRecord, StoreEcho, StoreSecond, ClearEngagementBit, LookAtPage, CheckBeat, ClearDeactivationBit, TellPartner}
use Rattle.xp_protocol.specs.declared.rule.Rule.{Rule}
use Rattle.xp_protocol.specs.declared.rule.Rule.TheVariants.{Peer as ForPeer}
use Rattle.xp_protocol.specs.Effects.{Effect, Note}
use Rattle.xp_protocol.specs.State.{State, Old, Off, Ready, Leaving, Area, Peer, PeerGoing, Reading, cold_peer, peer_of}
use Rattle.xp_protocol.specs.Peering.{Here, place_read, last_read, read_place, is_left, is_bad_flags, is_magic, is_wrong, has_shown, peer_can, peer_effect, record_read, contact_made, same_peer, with_reason}
use Rattle.xp_protocol.specs.Rules.{here_of, mark_of, peer_answered, peer_numbered}
use Rattle.xp_protocol.specs.Runs.{after_step, after_turn}
use Rattle.xp_protocol.proofs.Frames.{cond_peer}
use Rattle.xp_plan.specs.declared.errand.Errand.{Errand}
use Rattle.xp_plan.specs.declared.errand.Errand.TheVariants as errands
use Rattle.xp_plan.specs.EndSteps.{step_if}
use Rattle.xp_plan.specs.PeerSteps.{for_peer, is_open_to, is_activating, may_read, record_at}
use Rattle.xp_plan.specs.Plan.{asked, plan_of}
use Rattle.xp_windows.specs.Windows.{middle, Changes, Steps, IsFor, IsUp, IsActivating, BeginsRecord, EndsRecord, SomeTurn, SomeFrom}
use Rattle.xp_windows.proofs.Held.{Held}
use Rattle.xp_windows.specs.Visited.{rule_by, rule_made}
use Rattle.xp_windows.proofs.Places.{Turns, first_holds, asks}
use Rattle.xp_windows.proofs.Copies.{whole}
use Rattle.xp_windows.proofs.Lives.{on_turn}
use Rattle.xp_windows.proofs.PeerFrames.{ActsLeave, acts_leave}
use Rattle.xp_windows.proofs.Engaged.{Stands}
use Rattle.xp_windows.proofs.Looks.{Tied}
use Rattle.xp_windows.proofs.Facts.{Facts, Pacing, pacing_next, facts_mid, apart_fits, unjoined, fits_record, in_range, made_for}
use Rattle.xp_windows.proofs.PeerFrames.{Awaits, turn_awaits}
use Rattle.xp_windows.proofs.Engages.{opens_to}
use Rattle.xp_windows.proofs.Replies.{not_activating}

-- what a load makes of a copy that had so many words: it is over, or has one more. Only its first word
-- can say that the own bit is to go
pub record Goes (n : ℕ) (p : Peer) : Type 0 where
  pub reading : Reading
  pub is : p.engage.reading ≡ Some reading
  pub done : reading.done ≡ n + 1
  pub back : p.engage.back_off ≡ false

abbrev pub Loaded : ℕ → Peer → Type 0
Loaded n p = ((p.engage.reading ≡ None) × (0 < n → p.engage.back_off ≡ false)) ⊎ Goes n p

-- which word of the record comes
on_loaded : (n : ℕ) (x y : Effect Peer (ℕ → List Note)) (b : Bool) → Loaded n x.local → Loaded n y.local → Loaded n (if b then x else y).local
on_loaded n x y true h i = h
on_loaded n x y false h i = i

over : (n : ℕ) (p : Peer) → p.engage.reading ≡ None → p.engage.back_off ≡ false → Loaded n p
over n p e b = inl (e, λ l. b)

contact_loaded : (n turn stamp : ℕ) (b : Bool) (p : Peer) → p.engage.reading ≡ None → p.engage.back_off ≡ false → Loaded n (if b then contact_made turn stamp p else same_peer p).local
contact_loaded n turn stamp true p e b = inl (e, λ l. b)
contact_loaded n turn stamp false p e b = inl (e, λ l. b)

session_loaded : (b : Bool) (p : Peer) (r : Reading) (w : ℕ) (rest : Effect Peer (ℕ → List Note)) → nat_eq r.done 1 ≡ b → p.engage.back_off ≡ false → Loaded r.done rest.local → Loaded r.done (if b then same_peer (record p { engage = record p.engage { read = Some w; reading = Some (record r { done = 2 }) } }) else rest).local
session_loaded true p r w rest e b h = inr (record { reading = record r { done = 2 }; is = refl; done = (let d : r.done ≡ 1 = grind (arith, nat_tests) in omega (arith, d)); back = b })
session_loaded false p r w rest e b h = h

echo_loaded : (b : Bool) (p : Peer) (r : Reading) (w : ℕ) (rest : Effect Peer (ℕ → List Note)) → nat_eq r.done 2 ≡ b → p.engage.back_off ≡ false → Loaded r.done rest.local → Loaded r.done (if b then same_peer (record p { engage = record p.engage { reading = Some (record r { done = 3; echo = w }) } }) else rest).local
echo_loaded true p r w rest e b h = inr (record { reading = record r { done = 3; echo = w }; is = refl; done = (let d : r.done ≡ 2 = grind (arith, nat_tests) in omega (arith, d)); back = b })
echo_loaded false p r w rest e b h = h

place_loaded : (y : Here) (p : Peer) (r : Reading) (w : ℕ) → p.engage.back_off ≡ false → Loaded r.done (place_read y.part p r w).local
place_loaded y p r w b = on_loaded r.done _ _ (is_wrong y.part r.done w) (over r.done (record p { engage = record p.engage { reading = None } }) refl b) (inr (record { reading = record r { done = r.done + 1 }; is = refl; done = refl; back = b }))

last_loaded : (y : Here) (p : Peer) (r : Reading) → p.engage.back_off ≡ false → Loaded r.done (last_read y.turn y.stamp p r).local
last_loaded y p r b = on_loaded r.done _ _ (has_shown y.stamp p.engage r) (contact_loaded r.done y.turn y.stamp (p.engage.second && (true && not (is_some p.contact))) (record p { engage = record p.engage { shown = true; reading = None } }) refl b) (over r.done (record p { engage = record p.engage { reading = None } }) refl b)

word_loaded : (y : Here) (p : Peer) (o : Option Reading) (w : ℕ) → p.engage.reading ≡ o → p.engage.back_off ≡ false → Loaded (read_place o) (record_read y p o w).local
word_loaded y p None w i b =
    on_loaded 0 _ _ (nat_eq w 0) (inl (i, λ l. absurd (omega (arith, l))))
    (on_loaded 0 _ _ (is_magic w) (inr (record { reading = record { done = 1; after_echo = is_some p.engage.echo; magic = w; echo = 0 }; is = refl; done = refl; back = b })) (over 0 p i b))
word_loaded y p (Some r) w i b =
    session_loaded (nat_eq r.done 1) p r w _ refl b (echo_loaded (nat_eq r.done 2) p r w _ refl b
    (on_loaded r.done (last_read y.turn y.stamp p r) (place_read y.part p r w) (nat_eq r.done 7) (last_loaded y p r b) (place_loaded y p r w b)))

read_loaded : (s : ScenarioPart) (st : State) (q : ℕ) (a : Answer) → (peer_of st q).engage.back_off ≡ false → let f = peer_answered (here_of s st q) (mark_of s st (ForPeer q ReadRecord)) (peer_of st q) ReadRecord a in Loaded (read_place (peer_of st q).engage.reading) (with_reason f.reason f.local)
read_loaded s st q (Word w) b = given (record_read (here_of s st q) (peer_numbered (mark_of s st (ForPeer q ReadRecord)) (peer_of st q)) (peer_of st q).engage.reading w) (word_loaded (here_of s st q) (peer_numbered (mark_of s st (ForPeer q ReadRecord)) (peer_of st q)) (peer_of st q).engage.reading w refl b) where
  given : (f : Effect Peer (ℕ → List Note)) → Loaded (read_place (peer_of st q).engage.reading) f.local → Loaded (read_place (peer_of st q).engage.reading) (with_reason f.reason f.local)
  given f (inl h) = inl h
  given f (inr g) = inr (record { reading = g.reading; is = g.is; done = g.done; back = g.back })
read_loaded s st q Failed b = inl (refl, λ l. b)

-- the own bit isn't to go: that stands until a word of the record is loaded
abbrev Steady : Peer → Type 0
Steady p = (p.engage.area ≡ Ready) × (p.engage.back_off ≡ false)

abbrev Unreasoned : Peer → PeerRule → Type 0
Unreasoned p m = p.engage.reason ≡ None

off_not : (a : Area) → a ≡ Ready → a ≡ Off → ⊥
off_not a e f = let g : Ready ≡ Off = sym e ∙ f in cc

leaving_not : (a : Area) → a ≡ Ready → a ≡ Leaving → ⊥
leaving_not a e f = let g : Ready ≡ Leaving = sym e ∙ f in cc

reason_not : (o : Option Reason) → o ≡ None → IsSome o → ⊥
reason_not None e h = cc
reason_not (Some r) e h = absurd (cc)

left_not : (a : Area) (bit : Bool) → a ≡ Ready → is_left (record (cold_peer Old).engage { area = a; bit = bit }) ≡ true → ⊥
left_not Ready bit e f = cc
left_not Off bit e f = cc
left_not Old bit e f = absurd (cc)
left_not Leaving bit e f = absurd (cc)

contact_steady : (b : Bool) (turn stamp : ℕ) (p : Peer) → Steady p → Steady (if b then contact_made turn stamp p else same_peer p).local
contact_steady true turn stamp p h = h
contact_steady false turn stamp p h = h

steady_steps : (y : Here) (p : Peer) (g : PeerGoing) (m : PeerRule) (w : ℕ) → peer_can y p m → Unreasoned p m → Steady p → (m ≡ ReadRecord) ⊎ Steady (peer_effect y (record p { numbers = g }) m w).local
steady_steps y p g AskActivation w can n h = inr h
steady_steps y p g TakeFlags w can n h = inr (cond_peer Steady (is_bad_flags w) _ _ h h)
steady_steps y p g CloseArea w can n h = absurd (reason_not p.engage.reason n can.1)
steady_steps y p g ZeroMagic w can n h = inr h
steady_steps y p g ClearOldBit w can n h = inr h
steady_steps y p g (Prepare x) w can n h = absurd (off_not p.engage.area h.0 can.0)
steady_steps y p g OpenArea w can n h = absurd (off_not p.engage.area h.0 can.0)
steady_steps y p g SetEngagementBit w can n h = inr (h.0, refl)
steady_steps y p g ReadRecord w can n h = inl refl
steady_steps y p g StoreEcho w can n h = inr (h.0, refl)
steady_steps y p g StoreSecond w can n h = inr (contact_steady (true && (p.engage.shown && not (is_some p.contact))) y.turn y.stamp (record p { numbers = g; engage = record p.engage { second = true } }) h)
steady_steps y p g ClearEngagementBit w can n h = inr (h.0, refl)
steady_steps y p g LookAtPage w can n h = inr (cond_peer Steady _ _ _ h h)
steady_steps y p g CheckBeat w can n h = inr h
steady_steps y p g ClearDeactivationBit w can n h = absurd (off_not p.engage.area h.0 can)
steady_steps y p g TellPartner w can n h = absurd (leaving_not p.engage.area h.0 can.0)

steady_awaits : Awaits Unreasoned Steady ReadRecord
steady_awaits = record {
  acts = record { linked = λ p links h. h; unwanted = λ p h. h; wanted = λ p h. h };
  linked = λ p links going h. h;
  reasoned = λ o p h. h;
  ended = λ turn kind p m k h. inr h;
  freed = λ p l h. left_not p.engage.area p.engage.bit h.0 l;
  steps = steady_steps;
}

-- how far a copy is
abbrev Is : Option Reading → Bool → Peer → Type 0
Is o b p = (p.engage.reading ≡ o) × (p.engage.back_off ≡ b)

is_acts : (o : Option Reading) (b : Bool) → ActsLeave (Is o b)
is_acts o b = record { linked = λ p links h. h; unwanted = λ p h. h; wanted = λ p h. h }

reads_by : (a b d e f : Bool) → a ≡ true → b ≡ true → d ≡ true → e ≡ false → f ≡ false → (a && (b && (d && (not e && not f)))) ≡ true
reads_by true true true false false i j k l m = refl
reads_by true true true false true i j k l m = absurd (cc)
reads_by true true true true f i j k l m = absurd (cc)
reads_by true true false e f i j k l m = absurd (cc)
reads_by true false d e f i j k l m = absurd (cc)
reads_by false b d e f i j k l m = absurd (cc)

activates : (z : PartnerState) → z ≡ Activating → is_activating z ≡ true
activates z e = ap (λ (y : PartnerState). is_activating y) e

no_contact : (o : Option Contact) → o ≡ None → is_some o ≡ false
no_contact None e = refl
no_contact (Some c) e = absurd (cc)

either : (a b : Bool) → (a ≡ true) ⊎ (b ≡ true) → (a || b) ≡ true
either true b h = refl
either false b (inl e) = absurd (cc)
either false b (inr e) = e

less : (a b : ℕ) → a < b → nat_lt a b ≡ true
less a b h = grind (arith, nat_tests)

module _ (boot : ℕ) (s : ScenarioPart) (q : ℕ) (x : Spot s.part s.count q) where
  abbrev C : State → Type 0
  C st = IsActivating q st

  abbrev IsAlong : Visit Errand → State → List Turn → Type 0
  IsAlong v st ts = Along (plan_of s) (middle s) (after_turn s) (rule_made s) s.count (Pacing boot C s q x) (pacing_next boot C s q x) v st ts

  abbrev Begun : State → Turn → Type 0
  Begun st t = Changes BeginsRecord ReadRecord s q st t

  abbrev Over : State → Turn → Type 0
  Over st t = Changes EndsRecord ReadRecord s q st t

  abbrev P : Bool → State → List Turn → Type 0
  P false st ts = SomeFrom Begun Over s st ts
  P true st ts = SomeTurn Over s st ts

  abbrev Due : State → Type 0
  Due st = Steady (peer_of st q)

  abbrev Work : Bool → ℕ → ℕ → State → Type 0
  Work false n used st = (n + used ≡ 14) × (used < 8) × Due st × ((r : Reading) → (peer_of st q).engage.reading ≡ Some r → used < r.done)
  Work true n used st = (n + used ≡ 14) × Due st × ((r : Reading) × ((peer_of st q).engage.reading ≡ Some r) × (7 ≤ n + r.done))

  abbrev Moves : Bool → ℕ → ℕ → State → Turn → List Turn → Type 0
  Moves ph n used st t ts = Moved (plan_of s) (middle s) (after_turn s) (rule_made s) s.count (Pacing boot C s q x) (pacing_next boot C s q x) Bool Work P ph n used st t ts

  -- the state before the step
  mid_is : (st : State) (t : Turn) → Is (peer_of st q).engage.reading (peer_of st q).engage.back_off (peer_of (middle s st t) q)
  mid_is st t = acts_leave (Is (peer_of st q).engage.reading (peer_of st q).engage.back_off) s q (is_acts (peer_of st q).engage.reading (peer_of st q).engage.back_off) st t.before (refl, refl)

  mid_stands : (v : Visit Errand) (st : State) (t : Turn) (ts : List Turn) → IsAlong v st (t ∷ ts) → Stands (peer_of (middle s st t) q)
  mid_stands v st t ts a = (facts_mid s st t.before a.more.facts).stands q

  -- what the errand asks for
  asks_for : (used : ℕ) (v : Visit Errand) (st : State) (t : Turn) (ts : List Turn) → IsAlong v st (t ∷ ts) → (peer_of (middle s st t) q).engage.back_off ≡ false → (is_some (peer_of (middle s st t) q).engage.reading ≡ true) ⊎ (used < 8) → (plan_of s).ask x.number errands.Record used (middle s st t) ≡ Some (Some (ForPeer q ReadRecord))
  asks_for used v st t ts a back h = asks s q x errands.Record used boot (middle s st t) a.more.run.up.1 ∙ ap (λ (o : Option PeerRule). asked (for_peer q o)) given where
    read : may_read (peer_of (middle s st t) q) ≡ true
    read =
        let c = a.more.run.holds.1 in
        let e = (mid_stands v st t ts a).active c.state in
        let y = peer_of (middle s st t) q in
        reads_by (is_open_to y.engage) y.engage.bit (is_activating y.engage.state) (is_some y.contact) y.engage.back_off (opens_to y e.0 c.free) e.1 (activates y.engage.state c.state) (no_contact y.contact e.2) back

    more : (is_some (peer_of (middle s st t) q).engage.reading ≡ true) ⊎ (used < 8) → (is_some (peer_of (middle s st t) q).engage.reading || nat_lt used RECORD_WORDS) ≡ true
    more (inl e) = either (is_some (peer_of (middle s st t) q).engage.reading) (nat_lt used RECORD_WORDS) (inl e)
    more (inr l) = either (is_some (peer_of (middle s st t) q).engage.reading) (nat_lt used RECORD_WORDS) (inr (less used RECORD_WORDS l))

    given : record_at used (peer_of (middle s st t) q) ≡ Some ReadRecord
    given = ap (λ (b : Bool). step_if (b && (is_some (peer_of (middle s st t) q).engage.reading || nat_lt used RECORD_WORDS)) ReadRecord) read ∙ ap (λ (b : Bool). step_if b ReadRecord) (more h)

  -- a load of the record
  abbrev At : State → Option Reading
  At st = (peer_of st q).engage.reading

  loaded : (v : Visit Errand) (st : State) (t : Turn) (ts : List Turn) → IsAlong v st (t ∷ ts) → (peer_of (middle s st t) q).engage.back_off ≡ false → rule_made s (middle s st t) t ≡ Some (ForPeer q ReadRecord) → Loaded (read_place (At (middle s st t))) (peer_of (after_step s (middle s st t) t.made) q)
  loaded v st t ts a back e =
      let ready = ((mid_stands v st t ts a).active a.more.run.holds.1.state).0 in
      made_for s (middle s st t) t.made q ReadRecord (Loaded (read_place (At (middle s st t)))) a.more.run.runs.0.made e (in_range (middle s st t) q ready) (λ b i. read_loaded s (middle s st t) q b back)

  later_is : (v : Visit Errand) (st : State) (t : Turn) (ts : List Turn) → IsAlong v st (t ∷ ts) → (o : Option Reading) (b : Bool) → Is o b (peer_of (after_step s (middle s st t) t.made) q) → Is o b (peer_of (after_turn s st t) q)
  later_is v st t ts a o b h =
      let later = first_holds (IsUp boot) s (after_turn s st t) ts a.more.run.up.2 in
      on_turn s st t (later.boot ∙ sym a.more.run.up.0.boot) (λ (y : State). Is o b (peer_of y q)) (λ y g. g) (acts_leave (Is o b) s q (is_acts o b) (after_step s (middle s st t) t.made) t.after h)

  later_ready : (v : Visit Errand) (st : State) (t : Turn) (ts : List Turn) → IsAlong v st (t ∷ ts) → (peer_of (after_turn s st t) q).engage.area ≡ Ready
  later_ready v st t ts a =
      let y = pacing_next boot C s q x v st t ts a.follows.0 a.more in
      ((y.facts.stands q).active (first_holds C s (after_turn s st t) ts a.more.run.holds.2).state).0

  changed : (E : Peer → Peer → Type 0) (st : State) (t : Turn) → rule_made s (middle s st t) t ≡ Some (ForPeer q ReadRecord) → E (peer_of (middle s st t) q) (peer_of (after_step s (middle s st t) t.made) q) → Changes E ReadRecord s q st t
  changed E st t e h = by t.made refl e where
    by : (o : Option Marked) → t.made ≡ o → rule_by s (middle s st t) o ≡ Some (ForPeer q ReadRecord) → Changes E ReadRecord s q st t
    by None f g = absurd (cc)
    by (Some z) f g = record { step = z; made = f; decoded = g; is = h }

  none_some : (o : Option Reading) → (o ≡ None) ⊎ ((r : Reading) × (o ≡ Some r))
  none_some None = inl refl
  none_some (Some r) = inr (r, refl)

  place_at : (st : State) (t : Turn) (r : Reading) → At (middle s st t) ≡ Some r → read_place (At (middle s st t)) ≡ r.done
  place_at st t r e = ap (λ (o : Option Reading). read_place o) e

  -- the first word of a copy that is begun
  begins_now : (v : Visit Errand) (st : State) (t : Turn) (ts : List Turn) (n used : ℕ) → IsAlong v st (t ∷ ts) → (peer_of (middle s st t) q).engage.back_off ≡ false → n + used ≡ 14 → used < 8 → At (middle s st t) ≡ None → rule_made s (middle s st t) t ≡ Some (ForPeer q ReadRecord) → P false st (t ∷ ts) ⊎ Moves false n used st t ts
  begins_now v st t ts n used a back sum few none e = by (subst (λ (o : Option Reading). Loaded (read_place o) (peer_of (after_step s (middle s st t) t.made) q)) none (loaded v st t ts a back e)) where
    begun : Begun st t
    begun = changed BeginsRecord st t e none

    by : Loaded 0 (peer_of (after_step s (middle s st t) t.made) q) → P false st (t ∷ ts) ⊎ Moves false n used st t ts
    by (inl y) = inl (inl (begun, inl (changed EndsRecord st t e y.0)))
    by (inr g) =
        let z = later_is v st t ts a (Some g.reading) false (g.is, g.back) in
        let d = g.done in
        inr (record { fewer = n - 1; low = omega (arith, sum, few); phase = true; work = (omega (arith, sum, few), (later_ready v st t ts a, z.1), (g.reading, z.0, omega (arith, sum, few, d))); lift = λ h. inl (begun, inr h) })

  -- a word of a copy that was cut
  ends_first : (v : Visit Errand) (st : State) (t : Turn) (ts : List Turn) (n used : ℕ) (r : Reading) → IsAlong v st (t ∷ ts) → (peer_of (middle s st t) q).engage.back_off ≡ false → n + used ≡ 14 → used < r.done → At (middle s st t) ≡ Some r → rule_made s (middle s st t) t ≡ Some (ForPeer q ReadRecord) → P false st (t ∷ ts) ⊎ Moves false n used st t ts
  ends_first v st t ts n used r a back sum few is e = by (loaded v st t ts a back e) where
    low : r.done < 8
    low = ((facts_mid s st t.before a.more.facts).placed q r is).1

    place : read_place (At (middle s st t)) ≡ r.done
    place = place_at st t r is

    by : Loaded (read_place (At (middle s st t))) (peer_of (after_step s (middle s st t) t.made) q) → P false st (t ∷ ts) ⊎ Moves false n used st t ts
    by (inl y) =
        let p = place in
        let l = low in
        let z = later_is v st t ts a None false (y.0, y.1 (omega (arith, few, p))) in
        inr (record { fewer = n - 1; low = omega (arith, sum, few, l); phase = false; work = (omega (arith, sum, few, l), omega (arith, few, l), (later_ready v st t ts a, z.1), λ k f. absurd (let g : None ≡ Some k = sym z.0 ∙ f in cc)); lift = λ h. inr h })
    by (inr g) =
        let p = place in
        let l = low in
        let d = g.done in
        let z = later_is v st t ts a (Some g.reading) false (g.is, g.back) in
        inr (record { fewer = n - 1; low = omega (arith, sum, few, l); phase = false; work = (omega (arith, sum, few, l), omega (arith, few, l), (later_ready v st t ts a, z.1), λ k f. subst (λ (y : Reading). used + 1 < y.done) (same g.reading k (sym z.0 ∙ f)) (omega (arith, d, p, few))); lift = λ h. inr h })
      where
        same : (y k : Reading) → Some y ≡ Some k → y ≡ k
        same y k f = cc

  -- a later word of the copy
  goes_on : (v : Visit Errand) (st : State) (t : Turn) (ts : List Turn) (n used : ℕ) (r : Reading) → IsAlong v st (t ∷ ts) → (peer_of (middle s st t) q).engage.back_off ≡ false → n + used ≡ 14 → 7 ≤ n + r.done → At (middle s st t) ≡ Some r → rule_made s (middle s st t) t ≡ Some (ForPeer q ReadRecord) → P true st (t ∷ ts) ⊎ Moves true n used st t ts
  goes_on v st t ts n used r a back sum enough is e = by (loaded v st t ts a back e) where
    place : read_place (At (middle s st t)) ≡ r.done
    place = place_at st t r is

    by : Loaded (read_place (At (middle s st t))) (peer_of (after_step s (middle s st t) t.made) q) → P true st (t ∷ ts) ⊎ Moves true n used st t ts
    by (inl y) = inl (inl (changed EndsRecord st t e y.0))
    by (inr g) =
        let p = place in
        let d = g.done in
        let z = later_is v st t ts a (Some g.reading) false (g.is, g.back) in
        let l = ((pacing_next boot C s q x v st t ts a.follows.0 a.more).facts.placed q g.reading z.0).1 in
        inr (record { fewer = n - 1; low = omega (arith, sum, enough, d, p, l); phase = true; work = (omega (arith, sum, enough, d, p, l), (later_ready v st t ts a, z.1), (g.reading, z.0, omega (arith, enough, d, p, l))); lift = λ h. inr h })

  asks_now : (ph : Bool) (n used : ℕ) (v : Visit Errand) (st : State) (t : Turn) (ts : List Turn) → IsAlong v st (t ∷ ts) → Work ph n used st
      → (o : Option Rule) × ((plan_of s).ask x.number errands.Record used (middle s st t) ≡ Some o) × (rule_made s (middle s st t) t ≡ o → P ph st (t ∷ ts) ⊎ Moves ph n used st t ts)
  asks_now false n used v st t ts a w = by (none_some (At (middle s st t))) where
    back : (peer_of (middle s st t) q).engage.back_off ≡ false
    back = (mid_is st t).1 ∙ w.2.1

    by : (At (middle s st t) ≡ None) ⊎ ((r : Reading) × (At (middle s st t) ≡ Some r)) → (o : Option Rule) × ((plan_of s).ask x.number errands.Record used (middle s st t) ≡ Some o) × (rule_made s (middle s st t) t ≡ o → P false st (t ∷ ts) ⊎ Moves false n used st t ts)
    by (inl none) = (Some (ForPeer q ReadRecord), asks_for used v st t ts a back (inr w.1), λ e. begins_now v st t ts n used a back w.0 w.1 none e)
    by (inr y) = (Some (ForPeer q ReadRecord), asks_for used v st t ts a back (inr w.1), λ e. ends_first v st t ts n used y.0 a back w.0 (w.3 y.0 (sym (mid_is st t).0 ∙ y.1)) y.1 e)
  asks_now true n used v st t ts a w =
      let back = (mid_is st t).1 ∙ w.1.1 in
      let is = (mid_is st t).0 ∙ w.2.1 in
      (Some (ForPeer q ReadRecord), asks_for used v st t ts a back (inl (ap (λ (o : Option Reading). is_some o) is)), λ e. goes_on v st t ts n used w.2.0 a back w.0 w.2.2 is e)

  -- before the errand comes
  stays : (v : Visit Errand) (st : State) (t : Turn) (ts : List Turn) → IsAlong v st (t ∷ ts) → Due st → P false st (t ∷ ts) ⊎ Due (after_turn s st t)
  stays v st t ts a h =
      let later = first_holds (IsUp boot) s (after_turn s st t) ts a.more.run.up.2 in
      or (turn_awaits Unreasoned Steady ReadRecord steady_awaits s q st t (later.boot ∙ sym a.more.run.up.0.boot) a.more.run.runs.0 (λ m e. a.more.run.holds.1.free) h)
    where
      back : (peer_of (middle s st t) q).engage.back_off ≡ false
      back = (mid_is st t).1 ∙ h.1

      ruled : Steps (IsFor q ReadRecord) s st t → rule_made s (middle s st t) t ≡ Some (ForPeer q ReadRecord)
      ruled y = ap (λ (o : Option Marked). rule_by s (middle s st t) o) y.made ∙ y.decoded ∙ ap (λ (r : Rule). Some r) y.is

      steady : (o : Option Reading) → Is o false (peer_of (after_step s (middle s st t) t.made) q) → Due (after_turn s st t)
      steady o i = (later_ready v st t ts a, (later_is v st t ts a o false i).1)

      by : rule_made s (middle s st t) t ≡ Some (ForPeer q ReadRecord) → (At (middle s st t) ≡ None) ⊎ ((r : Reading) × (At (middle s st t) ≡ Some r)) → Loaded (read_place (At (middle s st t))) (peer_of (after_step s (middle s st t) t.made) q) → P false st (t ∷ ts) ⊎ Due (after_turn s st t)
      by e d (inr g) = inr (steady (Some g.reading) (g.is, g.back))
      by e (inl none) (inl y) = inl (inl (changed BeginsRecord st t e none, inl (changed EndsRecord st t e y.0)))
      by e (inr k) (inl y) =
          let p = place_at st t k.0 k.1 in
          let l = ((facts_mid s st t.before a.more.facts).placed q k.0 k.1).0 in
          inr (steady None (y.0, y.1 (omega (arith, p, l))))

      or : Steps (IsFor q ReadRecord) s st t ⊎ Due (after_turn s st t) → P false st (t ∷ ts) ⊎ Due (after_turn s st t)
      or (inl y) = by (ruled y) (none_some (At (middle s st t))) (loaded v st t ts a back (ruled y))
      or (inr y) = inr y

  begins_by : (v : Visit Errand) (st : State) (t : Turn) (ts : List Turn) → IsAlong v st (t ∷ ts) → Due st → Work false 14 0 st
  begins_by v st t ts a h = (refl, omega arith, h, λ r e. (a.more.facts.placed q r e).0)

  duty : Duty (plan_of s) (middle s) (after_turn s) (rule_made s) s.count (Pacing boot C s q x) (pacing_next boot C s q x) x.number errands.Record 0 (λ _ _. Unit {0}) Due Bool false Work P
  duty = record {
    later = λ st t ts h. inr h;
    aside = λ v st t ts a h. inr tt;
    stays = λ v st t ts a long h. stays v st t ts a h;
    fits = λ v st t ts a h. apart_fits s q x errands.Record boot (middle s st t) a.more.run.up.1 (unjoined (peer_of (middle s st t) q) ((mid_stands v st t ts a).active a.more.run.holds.1.state).2) (fits_record s);
    begins = λ v st t ts a free h. (14, omega arith, begins_by v st t ts a h);
    asks = λ ph n used v st t ts a free long few w. asks_now ph n used v st t ts a w;
  }

  pub records_read : (v : Visit Errand) (st : State) (ts : List Turn) → VISIT_TURNS * s.count + VISIT_TURNS < length ts → Turns boot s v st ts → Paced (plan_of s) (whole s) v → Facts st → Tied s x.number q v st → Held C s st ts → SomeFrom Begun Over s st ts
  records_read v st ts long y paced facts tied holds = by (peer_of st q).engage.back_off refl where
    by : (b : Bool) → (peer_of st q).engage.back_off ≡ b → SomeFrom Begun Over s st ts
    by true e = absurd (not_activating boot s q x v st ts long y paced facts tied holds e)
    by false e =
        done (plan_of s) (middle s) (after_turn s) (rule_made s) s.count (Pacing boot C s q x) (pacing_next boot C s q x) x.number errands.Record 0 (λ _ _. Unit {0}) Due Bool false Work P duty v st ts x.low (omega arith) (omega arith) (omega (arith, long))
        (record { ring = y.ring; places = y.places; follows = y.follows; more = record { run = record { runs = y.runs; up = y.up; holds = holds }; paced = paced; facts = facts; tied = tied } }) (((facts.stands q).active (first_holds C s st ts holds).state).0, e)
