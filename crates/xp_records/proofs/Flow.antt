-- An end by itself, whatever changes it: in which order the flags of its epoch are sent and got, what stands only after them, what is noted, and what becomes of the send in progress.
use Rattle.std.proofs.Common.{◌≡◌, ℕ, Bool, true, false, ◌||◌, List, [], ◌∷◌, ◌++◌, refl, ap, sym, ◌∙◌, subst, append_assoc, Option, Some, None, inl, inr, ◌⊎◌}
use Rattle.std.specs.Prelude.{is_some}
use Rattle.std.proofs.lemmas.List.{append-nil}
use Rattle.xp_base.specs.declared.answer.SendAnswer.{SendAnswer}
use Rattle.xp_base.specs.declared.answer.SendAnswer.TheVariants.{Disconnecting}
use Rattle.xp_base.specs.declared.reason.Reason.{Reason}
use Rattle.xp_base.specs.Kinds.{Kinds}
use Rattle.xp_protocol.specs.Records.{Recorded}
use Rattle.xp_protocol.specs.Effects.{Effect, and_then, Accepted, Sent, Note, BySend, ByPull, Began, Joined, Taken, Freed, Acked, Told, ToldOver, Over, Released, Drained, Registered, Withdrawn, with_note, with_notes}
use Rattle.xp_protocol.specs.Sending.{Sending, Send, new_sending}
use Rattle.xp_protocol.specs.Pulling.{Pulling, new_pulling}
use Rattle.xp_protocol.specs.State.{End, Contact, any_kind}
use Rattle.xp_protocol.specs.Promised.{size_sent}
use Rattle.xp_meetings.proofs.Parts.{notes_more}

-- connected, in its parts
abbrev pub Joint : Option Contact → Option Reason → Kinds → Kinds → Type 0
Joint meet reason sent got = (is_some meet ≡ true) × (sent.open_complete ≡ true) × (got.open_complete ≡ true) × (reason ≡ None)

abbrev pub begun_by : Option Reason → Kinds → Bool
begun_by reason sent = any_kind sent || is_some reason

pub record Flow (meet : Option Contact) (reason : Option Reason) (sent got : Kinds) (pending : List ℕ) (send : Sending) (pull : Pulling) : Type 0 where
  pub sent_reply : sent.open_complete ≡ true → sent.open_reply ≡ true
  pub sent_request : sent.open_reply ≡ true → sent.open_request ≡ true
  pub got_reply : got.open_complete ≡ true → got.open_reply ≡ true
  pub got_request : got.open_reply ≡ true → got.open_request ≡ true
  pub close_request : sent.close_request ≡ true → is_some reason ≡ true
  pub close_reply : sent.close_reply ≡ true → sent.close_request ≡ true
  pub away : meet ≡ None → begun_by reason sent ≡ true → is_some reason ≡ true
  pub unbegun : begun_by reason sent ≡ false → pending ≡ []
  pub sends : is_some send.send ≡ true → Joint meet reason sent got
  pub agreed : sent.open_reply ≡ true → got.open_request ≡ true
  pub fresh_send : sent.open_complete ≡ false → send ≡ new_sending send.entries send.limit
  pub fresh_pull : sent.open_complete ≡ false → pull ≡ new_pulling pull.entries pull.limit

abbrev pub FlowAt : End → Type 0
FlowAt e = Flow e.shake.meet e.shake.reason e.shake.sent e.shake.got e.sides.pending_notices e.sides.send e.sides.pull

-- the size of an epoch is that of the registration, as long as the channel doesn't close
abbrev pub RegisteredAt : End → Type 0
RegisteredAt e = e.shake.sent.open_request ≡ true → e.shake.reason ≡ None → e.registration ≡ Some (size_sent e)

-- the numbers that notes tell as delivered, and as ended
abbrev pub told_by : Note → List ℕ
told_by (Told n) = n ∷ []
told_by x = []

abbrev pub told_in : List Note → List ℕ
told_in [] = []
told_in (x ∷ xs) = told_by x ++ told_in xs

abbrev pub over_by : Note → List ℕ
over_by (ToldOver n) = n ∷ []
over_by x = []

abbrev pub over_in : List Note → List ℕ
over_in [] = []
over_in (x ∷ xs) = over_by x ++ over_in xs

-- the gets that notes store
abbrev pub acks_by : Note → List ℕ
acks_by (Acked get) = get ∷ []
acks_by x = []

abbrev pub acks_in : List Note → List ℕ
acks_in [] = []
acks_in (x ∷ xs) = acks_by x ++ acks_in xs

pub acks_more : (xs ys : List Note) → acks_in (xs ++ ys) ≡ acks_in xs ++ acks_in ys
acks_more [] ys = refl
acks_more (x ∷ xs) ys = ap (λ (ns : List ℕ). acks_by x ++ ns) (acks_more xs ys) ∙ sym (append_assoc (acks_by x) (acks_in xs) (acks_in ys))

pub told_more : (xs ys : List Note) → told_in (xs ++ ys) ≡ told_in xs ++ told_in ys
told_more [] ys = refl
told_more (x ∷ xs) ys = ap (λ (ns : List ℕ). told_by x ++ ns) (told_more xs ys) ∙ sym (append_assoc (told_by x) (told_in xs) (told_in ys))

pub over_more : (xs ys : List Note) → over_in (xs ++ ys) ≡ over_in xs ++ over_in ys
over_more [] ys = refl
over_more (x ∷ xs) ys = ap (λ (ns : List ℕ). over_by x ++ ns) (over_more xs ys) ∙ sym (append_assoc (over_by x) (over_in xs) (over_in ys))

-- no number is told as ended in a record without a reason
abbrev pub IsExplained : Recorded → Type 0
IsExplained r = (r.ended ≡ []) ⊎ (is_some r.over ≡ true)

abbrev pub AreExplained : List Recorded → Type 0
AreExplained [] = Unit {0}
AreExplained (r ∷ rs) = IsExplained r × AreExplained rs

over_some : (r : Recorded) (reason : Reason) → IsExplained r → is_some (Some reason) ≡ true
over_some r reason h = refl

note_explained : (q c : ℕ) (x : Note) (rs : List Recorded) → over_by x ≡ [] → AreExplained rs → AreExplained (with_note q c x rs)
note_explained q c (Began epoch own theirs) rs z h = (inl refl, h)
note_explained q c (BySend (Accepted n body true)) [] z h = tt
note_explained q c (BySend (Accepted n body true)) (r ∷ rs) z h = h
note_explained q c (BySend (Accepted n body false)) [] z h = tt
note_explained q c (BySend (Accepted n body false)) (r ∷ rs) z h = h
note_explained q c (BySend (Sent a)) [] z h = tt
note_explained q c (BySend (Sent a)) (r ∷ rs) z h = h
note_explained q c (ByPull a) [] z h = tt
note_explained q c (ByPull a) (r ∷ rs) z h = h
note_explained q c Joined [] z h = tt
note_explained q c Joined (r ∷ rs) z h = h
note_explained q c (Taken body) [] z h = tt
note_explained q c (Taken body) (r ∷ rs) z h = h
note_explained q c (Freed n) [] z h = tt
note_explained q c (Freed n) (r ∷ rs) z h = h
note_explained q c (Acked n) [] z h = tt
note_explained q c (Acked n) (r ∷ rs) z h = h
note_explained q c (Told n) [] z h = tt
note_explained q c (Told n) (r ∷ rs) z h = h
note_explained q c (ToldOver n) rs z h = absurd (cc)
note_explained q c (Over reason) [] z h = tt
note_explained q c (Over reason) (r ∷ rs) z h = (inr refl, h.1)
note_explained q c (Released a) [] z h = tt
note_explained q c (Released a) (r ∷ rs) z h = h
note_explained q c (Drained a) [] z h = tt
note_explained q c (Drained a) (r ∷ rs) z h = h
note_explained q c (Registered a) [] z h = tt
note_explained q c (Registered a) (r ∷ rs) z h = h
note_explained q c (Withdrawn a) [] z h = tt
note_explained q c (Withdrawn a) (r ∷ rs) z h = h

none_both : (xs ys : List ℕ) → xs ++ ys ≡ [] → (xs ≡ []) × (ys ≡ [])
none_both [] ys h = (refl, h)
none_both (x ∷ xs) ys h = absurd (cc)

pub plain_explained : (q c : ℕ) (xs : List Note) (rs : List Recorded) → over_in xs ≡ [] → AreExplained rs → AreExplained (with_notes q c xs rs)
plain_explained q c [] rs z h = h
plain_explained q c (x ∷ xs) rs z h = let k = none_both (over_by x) (over_in xs) z in plain_explained q c xs (with_note q c x rs) k.1 (note_explained q c x rs k.0 h)

-- what becomes of the send in progress: it goes on, or the link closes and it is answered so
pub record Stays (e e' : End) : Type 0 where
  pub send : e'.sides.send.send ≡ e.sides.send.send
  pub put : e'.sides.send.put ≡ e.sides.send.put
  pub entries : e'.sides.send.entries ≡ e.sides.send.entries
  pub decided : e'.decided.send ≡ e.decided.send

pub record Closes (e' : End) : Type 0 where
  pub why : Reason
  pub reason : e'.shake.reason ≡ Some why
  pub unended : e'.shake.sent.close_reply ≡ false
  pub none : e'.sides.send.send ≡ None
  pub decided : e'.decided.send ≡ Some (Disconnecting why)

abbrev pub Goes : End → End → Type 0
Goes e e' = Stays e e' ⊎ Closes e'

-- what no send is in progress for
abbrev pub Idles : End → End → Type 0
Idles e e' = e.sides.send.send ≡ None → (e'.sides.send.send ≡ None) × (e'.decided.send ≡ e.decided.send)

abbrev pub Remains : End → End → Type 0
Remains e e' = (r : Reason) → e.shake.reason ≡ Some r → e.shake.sent.close_reply ≡ false → (e'.shake.reason ≡ Some r) × (e'.shake.sent.close_reply ≡ false)

pub record Sends (e e' : End) : Type 0 where
  pub idle : Idles e e'
  pub going : is_some e.sides.send.send ≡ true → Goes e e'

pub sends_then : (e f g : End) → Sends e f → Sends f g → Remains f g → Sends e g
sends_then e f g a b r = record {
  idle = λ z. (let x = a.idle z in let y = b.idle x.0 in (y.0, y.1 ∙ x.1));
  going = λ z. by z (a.going z);
} where
  by : is_some e.sides.send.send ≡ true → Goes e f → Goes e g
  by z (inl s) = next (b.going (ap (λ (o : Option Send). is_some o) s.send ∙ z)) where
    next : Goes f g → Goes e g
    next (inl t) = inl (record { send = t.send ∙ s.send; put = t.put ∙ s.put; entries = t.entries ∙ s.entries; decided = t.decided ∙ s.decided })
    next (inr k) = inr k
  by z (inr k) = let x = r k.why k.reason k.unended in let y = b.idle k.none in inr (record { why = k.why; reason = x.0; unended = x.1; none = y.0; decided = y.1 ∙ k.decided })

-- what the notes of a change say of the numbers that were asked for
pub record Tells (q c : ℕ) (e : End) (f : Effect End (List Note)) : Type 0 where
  pub ended : f.local.ended ≡ e.ended ++ over_in f.notes
  pub told : told_in f.notes ≡ []
  pub acked : acks_in f.notes ≡ []
  pub pending : e.sides.pending_notices ≡ [] → (f.local.sides.pending_notices ≡ []) × (over_in f.notes ≡ [])
  pub explained : (rs : List Recorded) → AreExplained rs → AreExplained (with_notes q c f.notes rs)

pub tells_then : (q c : ℕ) (e : End) (f : Effect End (List Note)) (h : End → Effect End (List Note)) → Tells q c e f → Tells q c f.local (h f.local) → Tells q c e (and_then f h)
tells_then q c e f h a b =
    let g = h f.local in
    record {
      ended = b.ended ∙ ap (λ (ns : List ℕ). ns ++ over_in g.notes) a.ended ∙ append_assoc e.ended (over_in f.notes) (over_in g.notes) ∙ ap (λ (ns : List ℕ). e.ended ++ ns) (sym (over_more f.notes g.notes));
      told = told_more f.notes g.notes ∙ (λ i. a.told i ++ b.told i);
      acked = acks_more f.notes g.notes ∙ (λ i. a.acked i ++ b.acked i);
      pending = λ z. (let x = a.pending z in let y = b.pending x.0 in (y.0, over_more f.notes g.notes ∙ (λ i. x.1 i ++ y.1 i)));
      explained = λ rs k. subst AreExplained (sym (notes_more q c f.notes g.notes rs)) (b.explained (with_notes q c f.notes rs) (a.explained rs k));
    }

-- what a change keeps, of an end at which the order stands
pub record Kept (q c : ℕ) (e : End) (f : Effect End (List Note)) : Type 0 where
  pub flow : FlowAt f.local
  pub registered : RegisteredAt e → RegisteredAt f.local
  pub tells : Tells q c e f
  pub sends : Sends e f.local
  pub remains : Remains e f.local
  pub meet : f.local.shake.meet ≡ e.shake.meet

pub kept_then : (q c : ℕ) (e : End) (f : Effect End (List Note)) (h : End → Effect End (List Note)) → Kept q c e f → Kept q c f.local (h f.local) → Kept q c e (and_then f h)
kept_then q c e f h a b = record {
  flow = b.flow;
  registered = λ z. b.registered (a.registered z);
  tells = tells_then q c e f h a.tells b.tells;
  sends = sends_then e f.local (h f.local).local a.sends b.sends b.remains;
  remains = λ r x y. (let k = a.remains r x y in b.remains r k.0 k.1);
  meet = b.meet ∙ a.meet;
}

-- a change that none of this sees
pub record Face : Type 0 where
  pub meet : Option Contact
  pub ended : List ℕ
  pub pending : List ℕ
  pub reason : Option Reason
  pub closed : Bool
  pub send : Option Send
  pub put : ℕ
  pub entries : ℕ
  pub decided : Option SendAnswer

abbrev pub face : End → Face
face e = record { meet = e.shake.meet; ended = e.ended; pending = e.sides.pending_notices; reason = e.shake.reason; closed = e.shake.sent.close_reply; send = e.sides.send.send; put = e.sides.send.put; entries = e.sides.send.entries; decided = e.decided.send }

abbrev pub ArePlain : List Note → Type 0
ArePlain ns = (told_in ns ≡ []) × (over_in ns ≡ []) × (acks_in ns ≡ [])

pub calm_sends : (e e' : End) → face e' ≡ face e → Sends e e'
calm_sends e e' s = record {
  idle = λ z. (ap (λ (x : Face). x.send) s ∙ z, ap (λ (x : Face). x.decided) s);
  going = λ z. inl (record { send = ap (λ (x : Face). x.send) s; put = ap (λ (x : Face). x.put) s; entries = ap (λ (x : Face). x.entries) s; decided = ap (λ (x : Face). x.decided) s });
}

pub calm_tells : (q c : ℕ) (e : End) (f : Effect End (List Note)) → f.local.ended ≡ e.ended → f.local.sides.pending_notices ≡ e.sides.pending_notices → ArePlain f.notes → Tells q c e f
calm_tells q c e f a b n = record {
  ended = a ∙ sym (append-nil e.ended) ∙ ap (λ (ns : List ℕ). e.ended ++ ns) (sym n.1);
  told = n.0;
  acked = n.2;
  pending = λ z. (b ∙ z, n.1);
  explained = λ rs h. plain_explained q c f.notes rs n.1 h;
}

pub calm : (q c : ℕ) (e : End) (f : Effect End (List Note)) → FlowAt f.local → (RegisteredAt e → RegisteredAt f.local) → face f.local ≡ face e → ArePlain f.notes → Kept q c e f
calm q c e f w r s n = record {
  flow = w;
  registered = r;
  tells = calm_tells q c e f (ap (λ (x : Face). x.ended) s) (ap (λ (x : Face). x.pending) s) n;
  sends = calm_sends e f.local s;
  remains = λ y a b. (ap (λ (x : Face). x.reason) s ∙ a, ap (λ (x : Face). x.closed) s ∙ b);
  meet = ap (λ (x : Face). x.meet) s;
}
