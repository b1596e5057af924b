-- What one flag, one argument or one reason sets going at an end keeps the order of its epoch.
use Rattle.std.proofs.Common.{◌≡◌, ℕ, zero, suc, Bool, true, false, ◌&&◌, ◌||◌, not, cond, List, [], ◌∷◌, ◌++◌, map, refl, ap, sym, ◌∙◌, subst, Option, Some, None, inl, inr, ◌⊎◌}
use Rattle.std.specs.Prelude.{is_some}
use Rattle.std.proofs.lemmas.Bool.{and_parts}
use Rattle.xp_base.specs.declared.link.Kind.{Kind}
use Rattle.xp_base.specs.declared.link.Kind.TheVariants.{CloseRequest, CloseReply, OpenRequest, OpenReply, OpenComplete, MsgRequest}
use Rattle.xp_base.specs.declared.answer.SendAnswer.TheVariants.{Disconnecting}
use Rattle.xp_base.specs.declared.reason.Reason.{Reason}
use Rattle.xp_base.specs.declared.reason.Reason.TheVariants.{UnequalSizes, BadArgs, PartnerClosed}
use Rattle.xp_base.specs.Kinds.{without, next_of}
use Rattle.xp_protocol.specs.Records.{Recorded}
use Rattle.xp_protocol.specs.Effects.{Effect, just, and_then, Sent, TakeRefused, Note, BySend, ByPull, ToldOver, Released, Drained, Registered, Withdrawn, with_notes}
use Rattle.xp_protocol.specs.Sending.{Sending, Send, send_over, closed_send}
use Rattle.xp_protocol.specs.Pulling.{Pulling, pull_closed, closed_take}
use Rattle.xp_protocol.specs.State.{End, Replied, Contact, nothing_decided, is_begun, is_connected, any_kind, size_in}
use Rattle.xp_protocol.specs.Linking.{hear, hears, down_notes, down_end, closed_release, closed_drain, close_now, over_note, over_notes, open_notes, opened_notes, channel_closed, epoch_over, is_ended, unequal, are_unequal, changed, request_handled, reply_handled, code_handled, is_request, is_code, kind_got, kind_refused, refused, well_handled, handled, has_argument, handled_next, settle, settled as all_settled, joined_notes, connection_noted, limit_in}
use Rattle.xp_promises.proofs.Steps.{AreSilent, silent_hears}
use Rattle.xp_promises.proofs.Shakes.{down_silent}
use Rattle.xp_promises.proofs.Own.{or_true}
use Rattle.xp_records.proofs.Flow.{Joint, FlowAt, told_in, over_in, acks_in, AreExplained, Tells, calm_tells, Kept, kept_then, ArePlain, calm}

-- an end whose close reply was sent has a reason
pub replied_reason : (e : End) → FlowAt e → e.shake.sent.close_reply ≡ true → is_some e.shake.reason ≡ true
replied_reason e w t = w.close_request (w.close_reply t)

not_some : (o : Option Reason) → o ≡ None → is_some o ≡ true → ⊥
not_some o e t = let z : is_some o ≡ false = ap (λ (x : Option Reason). is_some x) e in absurd (cc)

unreplied : (e : End) → FlowAt e → e.shake.reason ≡ None → e.shake.sent.close_reply ≡ false
unreplied e w n = by e.shake.sent.close_reply refl where
  by : (b : Bool) → e.shake.sent.close_reply ≡ b → b ≡ false
  by true t = absurd (not_some e.shake.reason n (replied_reason e w t))
  by false t = refl

-- connected, by its parts
pub joint_of : (o : Option Reason) (m s g : Bool) → ((m && (s && g)) && not (is_some o)) ≡ true → (m ≡ true) × (s ≡ true) × (g ≡ true) × (o ≡ None)
joint_of None true true true h = (refl, refl, refl, refl)
joint_of None false s g h = absurd (cc)
joint_of None true false g h = absurd (cc)
joint_of None true true false h = absurd (cc)
joint_of (Some r) m s g h = absurd (never (m && (s && g)) h) where
  never : (b : Bool) → (b && false) ≡ true → ⊥
  never true h = absurd (cc)
  never false h = absurd (cc)

pub joint_at : (e : End) → is_connected e ≡ true → Joint e.shake.meet e.shake.reason e.shake.sent e.shake.got
joint_at e h = joint_of e.shake.reason (is_some e.shake.meet) e.shake.sent.open_complete e.shake.got.open_complete h

-- the open complete was sent, or wasn't
pub complete_not : (b : Bool) → b ≡ true → b ≡ false → ⊥
complete_not b t f = let z : true ≡ false = sym t ∙ f in absurd (cc)

-- a reason
pub down_clear : (reason : Reason) (e : End) → (λ (z : End). record z { decided = nothing_decided }) (hears (down_notes reason e) (down_end reason e)) ≡ record (down_end reason e) { decided = nothing_decided }
down_clear reason e = silent_hears (λ (z : End). record z { decided = nothing_decided }) (λ z d. refl) (down_notes reason e) (down_end reason e) (down_silent reason e)

down_flow : (reason : Reason) (e : End) → FlowAt e → FlowAt (down_end reason e)
down_flow reason e w = record {
  sent_reply = w.sent_reply;
  sent_request = w.sent_request;
  got_reply = w.got_reply;
  got_request = w.got_request;
  close_request = λ t. refl;
  close_reply = w.close_reply;
  away = λ m b. refl;
  unbegun = λ z. (let t = or_true (any_kind e.shake.sent) in absurd (cc));
  sends = λ t. absurd (cc);
  agreed = w.agreed;
  fresh_send = λ t. ap (λ (x : Sending). send_over x) (w.fresh_send t);
  fresh_pull = λ t. ap (λ (x : Pulling). (pull_closed reason x).local) (w.fresh_pull t);
}

tail_decided : (reason : Reason) (o : Option Bool) (a b : Bool) (z : End) → (hears (map ByPull (closed_take reason o) ++ (closed_release a ++ closed_drain reason b)) z).decided.send ≡ z.decided.send
tail_decided reason None true true z = refl
tail_decided reason None true false z = refl
tail_decided reason None false true z = refl
tail_decided reason None false false z = refl
tail_decided reason (Some x) true true z = refl
tail_decided reason (Some x) true false z = refl
tail_decided reason (Some x) false true z = refl
tail_decided reason (Some x) false false z = refl

decided_by : (reason : Reason) (o : Option Send) (e : End) (z : End) → (hears (map BySend (closed_send reason o) ++ (map ByPull (closed_take reason e.sides.pull.take) ++ (closed_release e.sides.releasing ++ closed_drain reason e.sides.draining))) z).decided.send ≡ (hears (map BySend (closed_send reason o)) z).decided.send
decided_by reason None e z = tail_decided reason e.sides.pull.take e.sides.releasing e.sides.draining z
decided_by reason (Some s) e z = tail_decided reason e.sides.pull.take e.sides.releasing e.sides.draining (hear (BySend (Sent (Disconnecting reason))) z)

pub silent_plain : (xs : List Note) → AreSilent xs → ArePlain xs
silent_plain [] h = (refl, refl, refl)
silent_plain (BySend (Sent a) ∷ xs) h = silent_plain xs h.1
silent_plain (ByPull (TakeRefused a) ∷ xs) h = silent_plain xs h.1
silent_plain (Released a ∷ xs) h = silent_plain xs h.1
silent_plain (Drained a ∷ xs) h = silent_plain xs h.1
silent_plain (Registered a ∷ xs) h = silent_plain xs h.1
silent_plain (Withdrawn a ∷ xs) h = silent_plain xs h.1
silent_plain (x ∷ xs) h = absurd h.0

pub opened_plain : (b : Bool) (m : Option Contact) (n : ℕ) → ArePlain (open_notes b m n)
opened_plain true m n = (refl, refl, refl)
opened_plain false None n = (refl, refl, refl)
opened_plain false (Some m) n = (refl, refl, refl)

-- the numbers that an epoch's end tells
tolds_over : (ns : List ℕ) → over_in (map ToldOver ns) ≡ ns
tolds_over [] = refl
tolds_over (n ∷ ns) = ap (λ (xs : List ℕ). n ∷ xs) (tolds_over ns)

pub over_over : (o : Option Reason) (ns : List ℕ) → over_in (over_note o ++ map ToldOver ns) ≡ ns
over_over None ns = tolds_over ns
over_over (Some reason) ns = tolds_over ns

tolds_told : (ns : List ℕ) → told_in (map ToldOver ns) ≡ []
tolds_told [] = refl
tolds_told (n ∷ ns) = tolds_told ns

over_told : (o : Option Reason) (ns : List ℕ) → told_in (over_note o ++ map ToldOver ns) ≡ []
over_told None ns = tolds_told ns
over_told (Some reason) ns = tolds_told ns

tolds_acked : (ns : List ℕ) → acks_in (map ToldOver ns) ≡ []
tolds_acked [] = refl
tolds_acked (n ∷ ns) = tolds_acked ns

over_acked : (o : Option Reason) (ns : List ℕ) → acks_in (over_note o ++ map ToldOver ns) ≡ []
over_acked None ns = tolds_acked ns
over_acked (Some reason) ns = tolds_acked ns

tolds_none : (q c : ℕ) (ns : List ℕ) → with_notes q c (map ToldOver ns) [] ≡ []
tolds_none q c [] = refl
tolds_none q c (n ∷ ns) = tolds_none q c ns

tolds_explained : (q c : ℕ) (ns : List ℕ) (r : Recorded) (more : List Recorded) → is_some r.over ≡ true → AreExplained more → AreExplained (with_notes q c (map ToldOver ns) (r ∷ more))
tolds_explained q c [] r more t h = (inr t, h)
tolds_explained q c (n ∷ ns) r more t h = tolds_explained q c ns (record r { ended = r.ended ++ n ∷ [] }) more t h

over_explained : (q c : ℕ) (o : Option Reason) (ns : List ℕ) (rs : List Recorded) → (is_some o ≡ true) ⊎ (ns ≡ []) → AreExplained rs → AreExplained (with_notes q c (over_note o ++ map ToldOver ns) rs)
over_explained q c (Some reason) ns [] k h = subst AreExplained (sym (tolds_none q c ns)) tt
over_explained q c (Some reason) ns (r ∷ rs) k h = tolds_explained q c ns (record r { over = Some reason }) rs refl h.1
over_explained q c None ns rs (inl t) h = absurd (cc)
over_explained q c None ns rs (inr e) h = subst (λ (xs : List ℕ). AreExplained (with_notes q c (map ToldOver xs) rs)) (sym e) h

module _ (q c : ℕ) where
  abbrev pub Keeps : End → Effect End (List Note) → Type 0
  Keeps e f = FlowAt e → Kept q c e f

  pub then_keeps : (e : End) (f : Effect End (List Note)) (h : End → Effect End (List Note)) → Keeps e f → Keeps f.local (h f.local) → Keeps e (and_then f h)
  then_keeps e f h a b w = let k = a w in kept_then q c e f h k (b k.flow)

  pub either : (z : Bool) (e : End) (f g : Effect End (List Note)) → (z ≡ true → Keeps e f) → (z ≡ false → Keeps e g) → Keeps e (cond z f g)
  either true e f g a b = a refl
  either false e f g a b = b refl

  pub stays : (e : End) → Keeps e (just e)
  stays e w = calm q c e (just e) w (λ z. z) refl (refl, refl, refl)

  -- a reason
  opens : (e : End) → Keeps e (record { local = e; reason = None; notes = opened_notes e })
  opens e w = calm q c e (record { local = e; reason = None; notes = opened_notes e }) w (λ z. z) refl (opened_plain (is_begun e) e.shake.meet e.epoch)

  closes_none : (reason : Reason) (e : End) → e.shake.reason ≡ None → Keeps e (close_now None reason e)
  closes_none reason e i w =
      let d = (close_now None reason e).local in
      let same = down_clear reason e in
      let stands : d.shake.reason ≡ Some reason = ap (λ (z : End). z.shake.reason) same in
      let none : d.sides.send.send ≡ None = ap (λ (z : End). z.sides.send.send) same in
      let says = decided_by reason e.sides.send.send e (down_end reason e) in
      record {
        flow = subst (λ (z : End). FlowAt z) (sym same) (down_flow reason e w);
        registered = λ z t n. absurd (not_some d.shake.reason n (ap (λ (o : Option Reason). is_some o) stands));
        tells = calm_tells q c e (close_now None reason e) (ap (λ (z : End). z.ended) same) (ap (λ (z : End). z.sides.pending_notices) same) (silent_plain (down_notes reason e) (down_silent reason e));
        sends = record {
          idle = λ z. (none, says ∙ ap (λ (o : Option Send). (hears (map BySend (closed_send reason o)) (down_end reason e)).decided.send) z);
          going = λ t. inr (record { why = reason; reason = stands; unended = ap (λ (z : End). z.shake.sent.close_reply) same ∙ unreplied e w i; none = none; decided = says ∙ told e.sides.send.send t });
        };
        remains = λ r a b. absurd (not_some e.shake.reason i (ap (λ (o : Option Reason). is_some o) a));
        meet = ap (λ (z : End). z.shake.meet) same;
      }
    where
      told : (o : Option Send) → is_some o ≡ true → (hears (map BySend (closed_send reason o)) (down_end reason e)).decided.send ≡ Some (Disconnecting reason)
      told None t = absurd (cc)
      told (Some s) t = refl

  pub closes_now : (o : Option Reason) (reason : Reason) (e : End) → e.shake.reason ≡ o → Keeps e (close_now o reason e)
  closes_now (Some r) reason e i = stays e
  closes_now None reason e i = closes_none reason e i

  pub closes : (reason : Reason) (e : End) → Keeps e (channel_closed reason e)
  closes reason e = then_keeps e (record { local = e; reason = None; notes = opened_notes e }) (λ x. close_now x.shake.reason reason x) (opens e) (closes_now e.shake.reason reason e refl)

  -- the epoch is over
  pub over_tells : (e : End) (f : Effect End (List Note)) → f.notes ≡ over_notes e → f.local.ended ≡ e.ended ++ e.sides.pending_notices → f.local.sides.pending_notices ≡ [] → (is_some e.shake.reason ≡ true) ⊎ (e.sides.pending_notices ≡ []) → Tells q c e f
  over_tells e f notes ended none why =
      let all : over_in f.notes ≡ e.sides.pending_notices = ap over_in notes ∙ over_over e.shake.reason e.sides.pending_notices in
      record {
        ended = ended ∙ ap (λ (ns : List ℕ). e.ended ++ ns) (sym all);
        told = ap told_in notes ∙ over_told e.shake.reason e.sides.pending_notices;
        acked = ap acks_in notes ∙ over_acked e.shake.reason e.sides.pending_notices;
        pending = λ z. (none, all ∙ z);
        explained = λ rs h. subst (λ (ns : List Note). AreExplained (with_notes q c ns rs)) (sym notes) (over_explained q c e.shake.reason e.sides.pending_notices rs why h);
      }

  epochs : (e : End) → is_ended e ≡ true → Keeps e (epoch_over e)
  epochs e t w =
      let reply : e.shake.sent.close_reply ≡ true = (and_parts e.shake.sent.close_reply e.shake.got.close_reply t).0 in
      let why = replied_reason e w reply in
      record {
        flow = record { sent_reply = λ z. absurd (cc); sent_request = λ z. absurd (cc); got_reply = λ z. absurd (cc); got_request = λ z. absurd (cc); close_request = λ z. absurd (cc); close_reply = λ z. absurd (cc); away = λ m z. absurd (cc); unbegun = λ z. refl; sends = λ z. absurd (cc); agreed = λ z. absurd (cc); fresh_send = λ z. refl; fresh_pull = λ z. refl };
        registered = λ z a b. absurd (cc);
        tells = over_tells e (epoch_over e) refl refl refl (inl why);
        sends = record { idle = λ z. (refl, refl); going = λ z. absurd (not_some e.shake.reason (w.sends z).3 why) };
        remains = λ r a b. absurd (cc);
        meet = refl;
      }

  pub changes : (e : End) → Keeps e (changed e)
  changes e = either (is_ended e) e (epoch_over e) (unequal e) (epochs e) (λ f. either (are_unequal e) e (channel_closed (UnequalSizes (limit_in e.shake.own_size) (limit_in e.shake.their_size)) e) (just e) (λ t. closes (UnequalSizes (limit_in e.shake.own_size) (limit_in e.shake.their_size)) e) (λ t. stays e))

  -- a flag is handled
  three : (a b z : Bool) → (a || (not b || z)) ≡ false → b ≡ true
  three false true z h = refl
  three false false z h = absurd (cc)
  three true b z h = absurd (cc)

  got : (k : Kind) (e : End) → (k ≡ MsgRequest → ⊥) → refused k e ≡ false → Keeps e (just (kind_got k e))
  got MsgRequest e m n w = absurd (m refl)
  got CloseRequest e m n w = calm q c e (just (kind_got CloseRequest e)) (record { sent_reply = w.sent_reply; sent_request = w.sent_request; got_reply = w.got_reply; got_request = w.got_request; close_request = w.close_request; close_reply = w.close_reply; away = w.away; unbegun = w.unbegun; sends = w.sends; agreed = w.agreed; fresh_send = w.fresh_send; fresh_pull = w.fresh_pull }) (λ z. z) refl (refl, refl, refl)
  got CloseReply e m n w = calm q c e (just (kind_got CloseReply e)) (record { sent_reply = w.sent_reply; sent_request = w.sent_request; got_reply = w.got_reply; got_request = w.got_request; close_request = w.close_request; close_reply = w.close_reply; away = w.away; unbegun = w.unbegun; sends = w.sends; agreed = w.agreed; fresh_send = w.fresh_send; fresh_pull = w.fresh_pull }) (λ z. z) refl (refl, refl, refl)
  got OpenRequest e m n w = calm q c e (just (kind_got OpenRequest e)) (record { sent_reply = w.sent_reply; sent_request = w.sent_request; got_reply = w.got_reply; got_request = λ t. refl; close_request = w.close_request; close_reply = w.close_reply; away = w.away; unbegun = w.unbegun; sends = w.sends; agreed = λ t. refl; fresh_send = w.fresh_send; fresh_pull = w.fresh_pull }) (λ z. z) refl (refl, refl, refl)
  got OpenReply e m n w =
      let asked : e.shake.got.open_request ≡ true = three e.shake.got.open_reply e.shake.got.open_request e.shake.got.close_request n in
      calm q c e (just (kind_got OpenReply e)) (record { sent_reply = w.sent_reply; sent_request = w.sent_request; got_reply = λ t. refl; got_request = λ t. asked; close_request = w.close_request; close_reply = w.close_reply; away = w.away; unbegun = w.unbegun; sends = w.sends; agreed = w.agreed; fresh_send = w.fresh_send; fresh_pull = w.fresh_pull }) (λ z. z) refl (refl, refl, refl)
  got OpenComplete e m n w =
      let replied : e.shake.got.open_reply ≡ true = three e.shake.got.open_complete e.shake.got.open_reply e.shake.got.close_request n in
      calm q c e (just (kind_got OpenComplete e)) (record { sent_reply = w.sent_reply; sent_request = w.sent_request; got_reply = λ t. replied; got_request = w.got_request; close_request = w.close_request; close_reply = w.close_reply; away = w.away; unbegun = w.unbegun; sends = λ t. (let j = w.sends t in (j.0, j.1, refl, j.3)); agreed = w.agreed; fresh_send = w.fresh_send; fresh_pull = w.fresh_pull }) (λ z. z) refl (refl, refl, refl)

  -- with the open request that is handled the partner's size is known
  sized : (e : End) (v : ℕ) → Keeps e (just (record e { shake = record e.shake { their_size = Some (size_in v) } }))
  sized e v w = calm q c e (just (record e { shake = record e.shake { their_size = Some (size_in v) } })) w (λ z. z) refl (refl, refl, refl)

  requests : (o : Option ℕ) (e : End) → Keeps e (request_handled o e)
  requests None e = stays e
  requests (Some v) e = either (is_request v) e (just (record e { shake = record e.shake { their_size = Some (size_in v) } })) (channel_closed (BadArgs v) e) (λ y. sized e v) (λ y. closes (BadArgs v) e)

  replies : (o : Option Replied) (e : End) → Keeps e (reply_handled o e)
  replies None e = stays e
  replies (Some x) e = either x.right e (just e) (channel_closed (BadArgs x.word) e) (λ t. stays e) (λ t. closes (BadArgs x.word) e)

  codes : (o : Option ℕ) (e : End) → Keeps e (code_handled o e)
  codes None e = stays e
  codes (Some v) e = either (is_code v) e (channel_closed (PartnerClosed v) e) (channel_closed (BadArgs v) e) (λ t. closes (PartnerClosed v) e) (λ t. closes (BadArgs v) e)

  messages : (e : End) → Keeps e (well_handled MsgRequest e)
  messages e =
      let z : End = record e { shake = record e.shake { taken = without MsgRequest e.shake.taken } } in
      let f : Effect End (List Note) = just (record z { sides = record z.sides { pull = record z.sides.pull { owed = true } } }) in
      either (is_connected z) e f (just z) (λ t w. calm q c e f (record { sent_reply = w.sent_reply; sent_request = w.sent_request; got_reply = w.got_reply; got_request = w.got_request; close_request = w.close_request; close_reply = w.close_reply; away = w.away; unbegun = w.unbegun; sends = w.sends; agreed = w.agreed; fresh_send = w.fresh_send; fresh_pull = λ n. absurd (complete_not e.shake.sent.open_complete (joint_at e t).1 n) }) (λ y. y) refl (refl, refl, refl)) (λ t w. calm q c e (just z) w (λ y. y) refl (refl, refl, refl))

  after_got : (k : Kind) (e : End) (f : Effect End (List Note)) → (k ≡ MsgRequest → ⊥) → refused k e ≡ false → Keeps (kind_got k e) f → Keeps e f
  after_got k e f m n h = then_keeps e (just (kind_got k e)) (λ x. f) (got k e m n) h

  well : (k : Kind) (e : End) → refused k e ≡ false → Keeps e (well_handled k e)
  well MsgRequest e n = messages e
  well OpenRequest e n = after_got OpenRequest e (request_handled e.shake.request (kind_got OpenRequest e)) (λ z. absurd (cc)) n (requests e.shake.request (kind_got OpenRequest e))
  well OpenReply e n = after_got OpenReply e (reply_handled e.shake.reply (kind_got OpenReply e)) (λ z. absurd (cc)) n (replies e.shake.reply (kind_got OpenReply e))
  well CloseRequest e n = after_got CloseRequest e (code_handled e.shake.code (kind_got CloseRequest e)) (λ z. absurd (cc)) n (codes e.shake.code (kind_got CloseRequest e))
  well OpenComplete e n = got OpenComplete e (λ z. absurd (cc)) n
  well CloseReply e n = got CloseReply e (λ z. absurd (cc)) n

  left_kept : (k : Kind) (e : End) → Keeps e (kind_refused k e)
  left_kept MsgRequest e w = calm q c e (kind_refused MsgRequest e) w (λ z. z) refl (refl, refl, refl)
  left_kept OpenRequest e w = calm q c e (kind_refused OpenRequest e) w (λ z. z) refl (refl, refl, refl)
  left_kept OpenReply e w = calm q c e (kind_refused OpenReply e) w (λ z. z) refl (refl, refl, refl)
  left_kept CloseRequest e w = calm q c e (kind_refused CloseRequest e) w (λ z. z) refl (refl, refl, refl)
  left_kept OpenComplete e w = calm q c e (kind_refused OpenComplete e) w (λ z. z) refl (refl, refl, refl)
  left_kept CloseReply e w = calm q c e (kind_refused CloseReply e) w (λ z. z) refl (refl, refl, refl)

  handles : (k : Kind) (e : End) → Keeps e (handled k e)
  handles k e = either (refused k e) e (kind_refused k e) (well_handled k e) (λ t. left_kept k e) (well k e)

  nexts : (o : Option Kind) (e : End) → Keeps e (handled_next o e)
  nexts None e = stays e
  nexts (Some k) e = either (has_argument k e.shake) e (and_then (handled k e) changed) (just e) (λ t. then_keeps e (handled k e) changed (handles k e) (changes (handled k e).local)) (λ t. stays e)

  settles : (n : ℕ) (e : End) → Keeps e (settle n e)
  settles zero e = stays e
  settles (suc n) e = let o = next_of e.shake.got.close_request e.shake.taken in then_keeps e (handled_next o e) (settle n) (nexts o e) (settles n (handled_next o e).local)

  joined_plain : (b : Bool) → ArePlain (joined_notes b)
  joined_plain true = (refl, refl, refl)
  joined_plain false = (refl, refl, refl)

  notes_join : (e : End) → Keeps e (connection_noted e)
  notes_join e w = calm q c e (connection_noted e) w (λ z. z) refl (joined_plain (is_connected e))

  pub settles_all : (e : End) → Keeps e (all_settled e)
  unfolding all_settled
  settles_all e = then_keeps e (settle 6 e) connection_noted (settles 6 e) (notes_join (settle 6 e).local)

  pub changes_then : (e : End) → Keeps e (and_then (changed e) all_settled)
  changes_then e = then_keeps e (changed e) all_settled (changes e) (settles_all (changed e).local)
