-- Which reasons an end keeps, tells and gives, whatever changes it: the one for which it closes, those
-- for which its connections ended, and those of the answers that are decided. A reason that its
-- handshake gives stands until the epoch ends, and that ends only once its close reply was sent.
use Rattle.std.proofs.Common.{◌≡◌, ℕ, ◌+◌, ◌*◌, zero, suc, Bool, true, false, ◌&&◌, ◌||◌, not, cond, List, [], ◌∷◌, ◌++◌, map, length, refl, ap, sym, ◌∙◌, subst, Option, Some, None, inl, inr, ◌⊎◌}
use Rattle.std.specs.Prelude.{is_some, nat_lt, nat_eq, slice_index, drop}
use Rattle.xp_base.specs.Entries.{entry_words}
use Rattle.std.proofs.lemmas.Bool.{and_parts}
use Rattle.xp_base.specs.declared.answer.DrainAnswer.{DrainAnswer}
use Rattle.xp_base.specs.declared.answer.DrainAnswer.TheVariants.{Disconnecting as DrainDisconnecting}
use Rattle.xp_base.specs.declared.answer.SendAnswer.{SendAnswer}
use Rattle.xp_base.specs.declared.answer.SendAnswer.TheVariants.{Disconnecting, NoSlot}
use Rattle.xp_base.specs.declared.link.Kind.{Kind}
use Rattle.xp_base.specs.declared.link.LinkState.TheVariants.{Connected}
use Rattle.xp_base.specs.declared.link.Kind.TheVariants.{CloseRequest, CloseReply, OpenRequest, OpenReply, OpenComplete, MsgRequest}
use Rattle.xp_base.specs.declared.reason.Reason.{Reason}
use Rattle.xp_base.specs.declared.reason.Reason.TheVariants.{BadVersion, NoHeartbeat, BadMagic, BadArgs, BadCounters, BadLength, BadNumber, BadFlags, UnequalSizes, PartnerClosed}
use Rattle.xp_base.specs.declared.step.Answer.{Answer}
use Rattle.xp_base.specs.declared.step.Answer.TheVariants.{Word, Failed}
use Rattle.xp_base.specs.declared.step.CopyMark.{CopyMark}
use Rattle.xp_base.specs.Kinds.{Kinds, next_of}
use Rattle.xp_protocol.specs.declared.refusal.TakeRefusal.{TakeRefusal}
use Rattle.xp_protocol.specs.declared.refusal.TakeRefusal.TheVariants.{Disconnecting as RefusedFor}
use Rattle.xp_protocol.specs.declared.rule.Argument.{Argument}
use Rattle.xp_protocol.specs.declared.rule.Argument.TheVariants.{Request, Reply, Code}
use Rattle.xp_protocol.specs.declared.rule.LinkRule.{LinkRule}
use Rattle.xp_protocol.specs.declared.rule.LinkRule.TheVariants.{Ring, Pull, Acknowledge, SetFlag, ZeroGet, ZeroPut, StoreArgument, ReadArgument}
use Rattle.xp_protocol.specs.declared.rule.PullRule.{PullRule}
use Rattle.xp_protocol.specs.declared.rule.PullRule.TheVariants.{ReadCounters, ReadEntry}
use Rattle.xp_protocol.specs.declared.rule.RingRule.{RingRule}
use Rattle.xp_protocol.specs.declared.rule.RingRule.TheVariants.{ReadGet, WriteEntryWord, AcceptMessage}
use Rattle.xp_protocol.specs.Effects.{Effect, just, and_then, first_reason, SendNote, Accepted, Sent, PullNote, Heard, TakeRefused, Note, BySend, ByPull, Over, ToldOver, Released, Drained}
use Rattle.xp_protocol.specs.Promised.{IsUnrefused}
use Rattle.xp_protocol.specs.Sending.{Send, Sending, ring_effect, closed_send, send_over, with_remote_get, is_bad_get, is_full}
use Rattle.xp_protocol.specs.Pulling.{Pulling, SenderCounters, pull_effect, closed_take, entry_fault, run_fault, run_copied, run_now, words_each, counters_pulled, is_bad_counter, is_bad_put, shown_empty}
use Rattle.xp_protocol.specs.State.{Contact, End, Replied, is_begun, is_connected, link_of, both_complete, state_by}
use Rattle.xp_protocol.specs.Linking.{hear, hears, by_send, by_pull, sender_counters, release_notes, closed_release, closed_drain, down_notes, down_end, close_now, link_closed, parted, link_down, over_note, over_notes, closed_more, link_finished, open_notes, opened_notes, channel_closed, epoch_over, is_ended, are_unequal, unequal, changed, limit_in, kind_left, kind_got, is_request, request_handled, reply_handled, is_code, code_handled, refused, kind_refused, well_handled, handled, has_argument, handled_next, settle, joined_notes, connection_noted, settled as all_settled, with_taken, flags_got, end_sent, with_sent, control_sent, flag_sent, with_argument, argument_stored, copy_failed, acknowledged, booted_end, link_joined, link_effect, link_can}
use Rattle.xp_protocol.specs.Rules.{end_failed, copy_error, link_answered}
use Rattle.xp_records.specs.Clean.{IsClean, IsCleanIfAny}

-- no version is refused
abbrev pub IsVersed : Reason → Type 0
IsVersed (BadVersion word) = ⊥
IsVersed reason = Unit {0}

abbrev pub IsVersedIfAny : Option Reason → Type 0
IsVersedIfAny None = Unit {0}
IsVersedIfAny (Some reason) = IsVersed reason

-- what an end gives as a reason to deactivate its partner: neither a version, nor a heartbeat that is
-- missed
abbrev pub IsGiven : Reason → Type 0
IsGiven (BadVersion word) = ⊥
IsGiven (NoHeartbeat last now mask) = ⊥
IsGiven reason = Unit {0}

abbrev pub IsGivenIfAny : Option Reason → Type 0
IsGivenIfAny None = Unit {0}
IsGivenIfAny (Some reason) = IsGiven reason

versed_given : (r : Reason) → IsGiven r → IsVersed r
versed_given (BadVersion w) h = absurd h
versed_given r h = tt

pub given_versed : (o : Option Reason) → IsGivenIfAny o → IsVersedIfAny o
given_versed None h = tt
given_versed (Some r) h = versed_given r h

pub first_given : (a b : Option Reason) → IsGivenIfAny a → IsGivenIfAny b → IsGivenIfAny (first_reason a b)
first_given None b h k = k
first_given (Some r) b h k = h

pub clean_by : (r : Reason) → IsVersed r → IsUnrefused (Some r) → IsClean r
clean_by (BadVersion w) v u = absurd v
clean_by (BadMagic w) v u = absurd u
clean_by (BadArgs w) v u = absurd u
clean_by (BadCounters a b) v u = absurd u
clean_by (BadLength w) v u = absurd u
clean_by (BadNumber a b) v u = absurd u
clean_by (BadFlags w) v u = absurd u
clean_by r v u = tt

pub clean_versed : (r : Reason) → IsClean r → IsVersed r
clean_versed (BadVersion w) h = absurd h
clean_versed r h = tt

pub first_versed : (a b : Option Reason) → IsVersedIfAny a → IsVersedIfAny b → IsVersedIfAny (first_reason a b)
first_versed None b h k = k
first_versed (Some r) b h k = h

-- what an end shows of reasons
pub record Face : Type 0 where
  pub reason : Option Reason
  pub reply : Bool
  pub request : Bool
  pub closed : List Reason
  pub send : Option SendAnswer
  pub take : Option TakeRefusal
  pub drain : Option DrainAnswer
  pub meet : Option Contact

abbrev pub face : End → Face
face e = record {
  reason = e.shake.reason;
  reply = e.shake.sent.close_reply;
  request = e.shake.sent.close_request;
  closed = e.closed;
  send = e.decided.send;
  take = e.decided.take;
  drain = e.decided.drain;
  meet = e.shake.meet;
}

-- a reason is clean, or it is the one for which the end closes, in an epoch whose close reply wasn't sent
abbrev pub Fair : Option Reason → Bool → Reason → Type 0
Fair o b r = IsClean r ⊎ (IsVersed r × (o ≡ Some r) × (b ≡ false))

abbrev pub FairSend : Option Reason → Bool → Option SendAnswer → Type 0
FairSend o b (Some (Disconnecting r)) = Fair o b r
FairSend o b a = Unit {0}

abbrev pub FairTake : Option Reason → Bool → Option TakeRefusal → Type 0
FairTake o b (Some (RefusedFor r)) = Fair o b r
FairTake o b a = Unit {0}

abbrev pub FairDrain : Option Reason → Bool → Option DrainAnswer → Type 0
FairDrain o b (Some (DrainDisconnecting r)) = Fair o b r
FairDrain o b a = Unit {0}

abbrev pub AreClean : List Reason → Type 0
AreClean [] = Unit {0}
AreClean (r ∷ rs) = IsClean r × AreClean rs

pub record Held (x : Face) : Type 0 where
  pub reply : x.reply ≡ true → x.request ≡ true
  pub request : x.request ≡ true → is_some x.reason ≡ true
  pub reason : (r : Reason) → x.reason ≡ Some r → Fair x.reason x.reply r
  pub closed : AreClean x.closed
  pub send : FairSend x.reason x.reply x.send
  pub take : FairTake x.reason x.reply x.take
  pub drain : FairDrain x.reason x.reply x.drain

-- and the reason for which it closes is clean
abbrev pub Strong : Face → Type 0
Strong x = Held x × IsCleanIfAny x.reason

-- the reasons for which connections are over, as notes tell them
abbrev pub OversClean : List Note → Type 0
OversClean [] = Unit {0}
OversClean (Over r ∷ xs) = IsClean r × OversClean xs
OversClean (x ∷ xs) = OversClean xs

pub overs_both : (xs ys : List Note) → OversClean xs → OversClean ys → OversClean (xs ++ ys)
overs_both [] ys h k = k
overs_both (Over r ∷ xs) ys h k = (h.0, overs_both xs ys h.1 k)
overs_both (x ∷ xs) ys h k = overs_both xs ys h k

-- what a change does
pub record Blames (e : End) (f : Effect End (List Note)) : Type 0 where
  pub held : Held (face e) → Held (face f.local)
  pub overs : Held (face e) → OversClean f.notes
  pub gives : IsGivenIfAny f.reason
  pub meet : f.local.shake.meet ≡ e.shake.meet

calm : (e : End) (f : Effect End (List Note)) → face f.local ≡ face e → OversClean f.notes → IsGivenIfAny f.reason → Blames e f
calm e f same notes gives = record { held = λ h. subst (λ (x : Face). Held x) (sym same) h; overs = λ h. notes; gives = gives; meet = ap (λ (x : Face). x.meet) same }

then_blames : (e : End) (f : Effect End (List Note)) (h : End → Effect End (List Note)) → Blames e f → Blames f.local (h f.local) → Blames e (and_then f h)
then_blames e f h a b = record {
  held = λ z. b.held (a.held z);
  overs = λ z. overs_both f.notes (h f.local).notes (a.overs z) (b.overs (a.held z));
  gives = first_given f.reason (h f.local).reason a.gives b.gives;
  meet = b.meet ∙ a.meet;
}

either : (z : Bool) (e : End) (f g : Effect End (List Note)) → (z ≡ true → Blames e f) → (z ≡ false → Blames e g) → Blames e (cond z f g)
either true e f g a b = a refl
either false e f g a b = b refl

stays : (e : End) → Blames e (just e)
stays e = calm e (just e) refl tt tt

-- what notes of sides decide
abbrev FairNote : Option Reason → Bool → Note → Type 0
FairNote o b (BySend (Sent (Disconnecting r))) = Fair o b r
FairNote o b (ByPull (TakeRefused (RefusedFor r))) = Fair o b r
FairNote o b (Drained (DrainDisconnecting r)) = Fair o b r
FairNote o b x = Unit {0}

abbrev FairNotes : Option Reason → Bool → List Note → Type 0
FairNotes o b [] = Unit {0}
FairNotes o b (x ∷ xs) = FairNote o b x × FairNotes o b xs

fair_both : (o : Option Reason) (b : Bool) (xs ys : List Note) → FairNotes o b xs → FairNotes o b ys → FairNotes o b (xs ++ ys)
fair_both o b [] ys h k = k
fair_both o b (x ∷ xs) ys h k = (h.0, fair_both o b xs ys h.1 k)

pub with_send : (x : Face) (a : Option SendAnswer) → FairSend x.reason x.reply a → Held x → Held (record x { send = a })
with_send x a f h = record { reply = h.reply; request = h.request; reason = h.reason; closed = h.closed; send = f; take = h.take; drain = h.drain }

pub with_take : (x : Face) (a : Option TakeRefusal) → FairTake x.reason x.reply a → Held x → Held (record x { take = a })
with_take x a f h = record { reply = h.reply; request = h.request; reason = h.reason; closed = h.closed; send = h.send; take = f; drain = h.drain }

pub with_drain : (x : Face) (a : Option DrainAnswer) → FairDrain x.reason x.reply a → Held x → Held (record x { drain = a })
with_drain x a f h = record { reply = h.reply; request = h.request; reason = h.reason; closed = h.closed; send = h.send; take = h.take; drain = f }

sent_fair : (o : Option Reason) (b : Bool) (a : SendAnswer) → FairNote o b (BySend (Sent a)) → FairSend o b (Some a)
sent_fair o b (Disconnecting r) h = h
sent_fair o b a h = tt

refused_fair : (o : Option Reason) (b : Bool) (a : TakeRefusal) → FairNote o b (ByPull (TakeRefused a)) → FairTake o b (Some a)
refused_fair o b (RefusedFor r) h = h
refused_fair o b a h = tt

drained_fair : (o : Option Reason) (b : Bool) (a : DrainAnswer) → FairNote o b (Drained a) → FairDrain o b (Some a)
drained_fair o b (DrainDisconnecting r) h = h
drained_fair o b a h = tt

pub hear_held : (n : Note) (e : End) → FairNote e.shake.reason e.shake.sent.close_reply n → Held (face e) → Held (face (hear n e))
hear_held (BySend (Accepted k body asks)) e f h = h
hear_held (BySend (Sent a)) e f h = with_send (face e) (Some a) (sent_fair e.shake.reason e.shake.sent.close_reply a f) h
hear_held (ByPull (Heard get)) e f h = h
hear_held (ByPull (TakeRefused a)) e f h = with_take (face e) (Some a) (refused_fair e.shake.reason e.shake.sent.close_reply a f) h
hear_held (Drained a) e f h = with_drain (face e) (Some a) (drained_fair e.shake.reason e.shake.sent.close_reply a f) h
hear_held (Released a) e f h = h
hear_held n e f h = h

-- the reason, what was sent, and the contact
record Root : Type 0 where
  reason : Option Reason
  reply : Bool
  meet : Option Contact

abbrev root : End → Root
root e = record { reason = e.shake.reason; reply = e.shake.sent.close_reply; meet = e.shake.meet }

hear_root : (n : Note) (e : End) → root (hear n e) ≡ root e
hear_root (BySend (Accepted k body asks)) e = refl
hear_root (BySend (Sent a)) e = refl
hear_root (ByPull (Heard get)) e = refl
hear_root (ByPull (TakeRefused a)) e = refl
hear_root (Drained a) e = refl
hear_root (Released a) e = refl
hear_root n e = refl

hears_root : (ns : List Note) (e : End) → root (hears ns e) ≡ root e
hears_root [] e = refl
hears_root (n ∷ ns) e = hears_root ns (hear n e) ∙ hear_root n e

pub hears_held : (ns : List Note) (e : End) → FairNotes e.shake.reason e.shake.sent.close_reply ns → Held (face e) → Held (face (hears ns e))
hears_held [] e f h = h
hears_held (n ∷ ns) e f h = hears_held ns (hear n e) (subst (λ (x : Root). FairNotes x.reason x.reply ns) (sym (hear_root n e)) f.1) (hear_held n e f.0 h)

-- notes that decide nothing, as those of answers
abbrev AreSober : List Note → Type 0
AreSober [] = Unit {0}
AreSober (Over r ∷ xs) = ⊥
AreSober (x ∷ xs) = AreSober xs

sober_overs : (xs : List Note) → AreSober xs → OversClean xs
sober_overs [] h = tt
sober_overs (Over r ∷ xs) h = absurd h
sober_overs (x ∷ xs) h = sober_overs xs h

sober_both : (xs ys : List Note) → AreSober xs → AreSober ys → AreSober (xs ++ ys)
sober_both [] ys h k = k
sober_both (Over r ∷ xs) ys h k = absurd h
sober_both (x ∷ xs) ys h k = sober_both xs ys h k

-- a reason comes
down_fair : (o : Option Reason) (b : Bool) (reason : Reason) → Fair o b reason → (e : End) → FairNotes o b (down_notes reason e)
down_fair o b reason f e = fair_both o b (map BySend (closed_send reason e.sides.send.send)) (map ByPull (closed_take reason e.sides.pull.take) ++ (closed_release e.sides.releasing ++ closed_drain reason e.sides.draining)) (sends e.sides.send.send) (fair_both o b (map ByPull (closed_take reason e.sides.pull.take)) (closed_release e.sides.releasing ++ closed_drain reason e.sides.draining) (takes e.sides.pull.take) (fair_both o b (closed_release e.sides.releasing) (closed_drain reason e.sides.draining) (releases e.sides.releasing) (drains e.sides.draining))) where
  sends : (z : Option Send) → FairNotes o b (map BySend (closed_send reason z))
  sends None = tt
  sends (Some s) = (f, tt)

  takes : (z : Option Bool) → FairNotes o b (map ByPull (closed_take reason z))
  takes None = tt
  takes (Some wait) = (f, tt)

  releases : (z : Bool) → FairNotes o b (closed_release z)
  releases true = (tt, tt)
  releases false = tt

  drains : (z : Bool) → FairNotes o b (closed_drain reason z)
  drains true = (f, tt)
  drains false = tt

down_sober : (reason : Reason) (e : End) → AreSober (down_notes reason e)
down_sober reason e = sober_both (map BySend (closed_send reason e.sides.send.send)) (map ByPull (closed_take reason e.sides.pull.take) ++ (closed_release e.sides.releasing ++ closed_drain reason e.sides.draining)) (sends e.sides.send.send) (sober_both (map ByPull (closed_take reason e.sides.pull.take)) (closed_release e.sides.releasing ++ closed_drain reason e.sides.draining) (takes e.sides.pull.take) (sober_both (closed_release e.sides.releasing) (closed_drain reason e.sides.draining) (releases e.sides.releasing) (drains e.sides.draining))) where
  sends : (z : Option Send) → AreSober (map BySend (closed_send reason z))
  sends None = tt
  sends (Some s) = tt

  takes : (z : Option Bool) → AreSober (map ByPull (closed_take reason z))
  takes None = tt
  takes (Some wait) = tt

  releases : (z : Bool) → AreSober (closed_release z)
  releases true = tt
  releases false = tt

  drains : (z : Bool) → AreSober (closed_drain reason z)
  drains true = tt
  drains false = tt

-- without a reason everything is clean
none_clean : (o : Option Reason) (b : Bool) (r : Reason) → o ≡ None → Fair o b r → IsClean r
none_clean o b r e (inl h) = h
none_clean o b r e (inr h) = absurd (let z : None ≡ Some r = sym e ∙ h.1 in cc)

send_by : (o p : Option Reason) (b d : Bool) (a : Option SendAnswer) → ((r : Reason) → Fair o b r → IsClean r) → FairSend o b a → FairSend p d a
send_by o p b d (Some (Disconnecting r)) n h = inl (n r h)
send_by o p b d (Some a) n h = tt
send_by o p b d None n h = tt

take_by : (o p : Option Reason) (b d : Bool) (a : Option TakeRefusal) → ((r : Reason) → Fair o b r → IsClean r) → FairTake o b a → FairTake p d a
take_by o p b d (Some (RefusedFor r)) n h = inl (n r h)
take_by o p b d (Some a) n h = tt
take_by o p b d None n h = tt

drain_by : (o p : Option Reason) (b d : Bool) (a : Option DrainAnswer) → ((r : Reason) → Fair o b r → IsClean r) → FairDrain o b a → FairDrain p d a
drain_by o p b d (Some (DrainDisconnecting r)) n h = inl (n r h)
drain_by o p b d (Some a) n h = tt
drain_by o p b d None n h = tt

unreplied : (x : Face) → Held x → x.reason ≡ None → x.reply ≡ false
unreplied x h e = by x.reply refl where
  by : (b : Bool) → x.reply ≡ b → b ≡ false
  by false t = refl
  by true t = absurd (let a = h.request (h.reply t) in let z : false ≡ true = ap (λ (o : Option Reason). is_some o) (sym e) ∙ a in cc)

closes_none : (reason : Reason) (e : End) → IsVersed reason → e.shake.reason ≡ None → Blames e (close_now None reason e)
closes_none reason e v i = record {
  held = λ h.
      let b = e.shake.sent.close_reply in
      let none = unreplied (face e) h i in
      let clean : (r : Reason) → Fair e.shake.reason b r → IsClean r = λ r f. none_clean e.shake.reason b r i f in
      let new : Fair (Some reason) b reason = inr (v, refl, none) in
      let now : Held (face (down_end reason e)) = record {
        reply = h.reply;
        request = λ t. refl;
        reason = λ r f. (let same : reason ≡ r = cc in subst (λ (z : Reason). Fair (Some reason) b z) same new);
        closed = h.closed;
        send = send_by e.shake.reason (Some reason) b b e.decided.send clean h.send;
        take = take_by e.shake.reason (Some reason) b b e.decided.take clean h.take;
        drain = drain_by e.shake.reason (Some reason) b b e.decided.drain clean h.drain;
      } in
      hears_held (down_notes reason e) (down_end reason e) (down_fair (Some reason) b reason new e) now;
  overs = λ h. sober_overs (down_notes reason e) (down_sober reason e);
  gives = tt;
  meet = ap (λ (x : Root). x.meet) (hears_root (down_notes reason e) (down_end reason e));
}

closes_now : (o : Option Reason) (reason : Reason) (e : End) → IsVersed reason → e.shake.reason ≡ o → Blames e (close_now o reason e)
closes_now (Some r) reason e v i = stays e
closes_now None reason e v i = closes_none reason e v i

opened_sober : (b : Bool) (m : Option Contact) (n : ℕ) → AreSober (open_notes b m n)
opened_sober true m n = tt
opened_sober false None n = tt
opened_sober false (Some m) n = tt

pub opened_clean : (e : End) → OversClean (opened_notes e)
opened_clean e = sober_overs (opened_notes e) (opened_sober (is_begun e) e.shake.meet e.epoch)

opens : (e : End) → Blames e (record { local = e; reason = None; notes = opened_notes e })
opens e = calm e (record { local = e; reason = None; notes = opened_notes e }) refl (sober_overs (opened_notes e) (opened_sober (is_begun e) e.shake.meet e.epoch)) tt

closes : (reason : Reason) (e : End) → IsVersed reason → Blames e (channel_closed reason e)
closes reason e v = then_blames e (record { local = e; reason = None; notes = opened_notes e }) (λ x. close_now x.shake.reason reason x) (opens e) (closes_now e.shake.reason reason e v refl)

-- an epoch ends
tolds_sober : (ns : List ℕ) → OversClean (map ToldOver ns)
tolds_sober [] = tt
tolds_sober (n ∷ ns) = tolds_sober ns

over_clean : (o : Option Reason) (ns : List ℕ) → IsCleanIfAny o → OversClean (over_note o ++ map ToldOver ns)
over_clean None ns h = tolds_sober ns
over_clean (Some r) ns h = (h, tolds_sober ns)

closed_clean : (o : Option Reason) (rs : List Reason) → IsCleanIfAny o → AreClean rs → AreClean (closed_more o rs)
closed_clean None rs h k = k
closed_clean (Some r) [] h k = (h, tt)
closed_clean (Some r) (x ∷ rs) h k = (k.0, closed_clean (Some r) rs h k.1)

standing : (o : Option Reason) (b : Bool) → ((r : Reason) → Fair o b r → IsClean r) → ((r : Reason) → o ≡ Some r → Fair o b r) → IsCleanIfAny o
standing None b n h = tt
standing (Some r) b n h = n r (h r refl)

-- the end is fresh, where all of its reasons are clean
freshens : (x y : Face) → ((r : Reason) → Fair x.reason x.reply r → IsClean r) → y.reason ≡ None → y.reply ≡ false → y.request ≡ false → y.closed ≡ closed_more x.reason x.closed → y.send ≡ x.send → y.take ≡ x.take → y.drain ≡ x.drain → Held x → Held y
freshens x y n none reply request closed send take drain h = record {
  reply = λ t. absurd (let z : false ≡ true = sym reply ∙ t in cc);
  request = λ t. absurd (let z : false ≡ true = sym request ∙ t in cc);
  reason = λ r f. absurd (let z : None ≡ Some r = sym none ∙ f in cc);
  closed = subst (λ (rs : List Reason). AreClean rs) (sym closed) (closed_clean x.reason x.closed (standing x.reason x.reply n h.reason) h.closed);
  send = subst (λ (a : Option SendAnswer). FairSend y.reason y.reply a) (sym send) (send_by x.reason y.reason x.reply y.reply x.send n h.send);
  take = subst (λ (a : Option TakeRefusal). FairTake y.reason y.reply a) (sym take) (take_by x.reason y.reason x.reply y.reply x.take n h.take);
  drain = subst (λ (a : Option DrainAnswer). FairDrain y.reason y.reply a) (sym drain) (drain_by x.reason y.reason x.reply y.reply x.drain n h.drain);
}

replied_clean : (o : Option Reason) (b : Bool) → b ≡ true → (r : Reason) → Fair o b r → IsClean r
replied_clean o b t r (inl h) = h
replied_clean o b t r (inr h) = absurd (let z : true ≡ false = sym t ∙ h.2 in cc)

epochs : (e : End) → is_ended e ≡ true → Blames e (epoch_over e)
epochs e t =
    let reply : e.shake.sent.close_reply ≡ true = (and_parts e.shake.sent.close_reply e.shake.got.close_reply t).0 in
    let clean = replied_clean e.shake.reason e.shake.sent.close_reply reply in
    record {
      held = λ h. freshens (face e) (face (epoch_over e).local) clean refl refl refl refl refl refl refl h;
      overs = λ h. over_clean e.shake.reason e.sides.pending_notices (standing e.shake.reason e.shake.sent.close_reply clean h.reason);
      gives = tt;
      meet = refl;
    }

changes : (e : End) → Blames e (changed e)
changes e = either (is_ended e) e (epoch_over e) (unequal e) (epochs e) (λ f. either (are_unequal e) e (channel_closed (UnequalSizes (limit_in e.shake.own_size) (limit_in e.shake.their_size)) e) (just e) (λ t. closes (UnequalSizes (limit_in e.shake.own_size) (limit_in e.shake.their_size)) e tt) (λ t. stays e))

-- a flag is handled
got_same : (k : Kind) (e : End) → face (kind_got k e) ≡ face e
got_same OpenRequest e = refl
got_same OpenReply e = refl
got_same OpenComplete e = refl
got_same CloseRequest e = refl
got_same CloseReply e = refl
got_same MsgRequest e = refl

left_same : (k : Kind) (e : End) → face (kind_left k e) ≡ face e
left_same OpenRequest e = refl
left_same OpenReply e = refl
left_same OpenComplete e = refl
left_same CloseRequest e = refl
left_same CloseReply e = refl
left_same MsgRequest e = refl

got : (k : Kind) (e : End) (f : Effect End (List Note)) → Blames (kind_got k e) f → Blames e f
got k e f h = record {
  held = λ z. h.held (subst (λ (x : Face). Held x) (sym (got_same k e)) z);
  overs = λ z. h.overs (subst (λ (x : Face). Held x) (sym (got_same k e)) z);
  gives = h.gives;
  meet = h.meet ∙ ap (λ (x : Face). x.meet) (got_same k e);
}

requests : (o : Option ℕ) (e : End) → Blames e (request_handled o e)
requests None e = stays e
requests (Some w) e = either (is_request w) e _ (channel_closed (BadArgs w) e) (λ t. calm e _ refl tt tt) (λ t. closes (BadArgs w) e tt)

replies : (o : Option Replied) (e : End) → Blames e (reply_handled o e)
replies None e = stays e
replies (Some x) e = either x.right e (just e) (channel_closed (BadArgs x.word) e) (λ t. stays e) (λ t. closes (BadArgs x.word) e tt)

codes : (o : Option ℕ) (e : End) → Blames e (code_handled o e)
codes None e = stays e
codes (Some w) e = either (is_code w) e (channel_closed (PartnerClosed w) e) (channel_closed (BadArgs w) e) (λ t. closes (PartnerClosed w) e tt) (λ t. closes (BadArgs w) e tt)

well : (k : Kind) (e : End) → Blames e (well_handled k e)
well MsgRequest e = either (is_connected e) e _ _ (λ t. calm e _ refl tt tt) (λ t. calm e _ refl tt tt)
well OpenRequest e = got OpenRequest e _ (requests e.shake.request (kind_got OpenRequest e))
well OpenReply e = got OpenReply e _ (replies e.shake.reply (kind_got OpenReply e))
well CloseRequest e = got CloseRequest e _ (codes e.shake.code (kind_got CloseRequest e))
well OpenComplete e = got OpenComplete e _ (stays (kind_got OpenComplete e))
well CloseReply e = got CloseReply e _ (stays (kind_got CloseReply e))

handles : (k : Kind) (e : End) → Blames e (handled k e)
handles k e = either (refused k e) e (kind_refused k e) (well_handled k e) (λ t. calm e (kind_refused k e) (left_same k e) tt tt) (λ t. well k e)

nexts : (o : Option Kind) (e : End) → Blames e (handled_next o e)
nexts None e = stays e
nexts (Some k) e = either (has_argument k e.shake) e (and_then (handled k e) changed) (just e) (λ t. then_blames e (handled k e) changed (handles k e) (changes (handled k e).local)) (λ t. stays e)

settles : (n : ℕ) (e : End) → Blames e (settle n e)
settles zero e = stays e
settles (suc n) e = let o = next_of e.shake.got.close_request e.shake.taken in then_blames e (handled_next o e) (settle n) (nexts o e) (settles n (handled_next o e).local)

joined_clean : (b : Bool) → OversClean (joined_notes b)
joined_clean true = tt
joined_clean false = tt

settles_all : (e : End) → Blames e (all_settled e)
unfolding all_settled
settles_all e = let z = (settle 6 e).local in then_blames e (settle 6 e) connection_noted (settles 6 e) (calm z (connection_noted z) refl (joined_clean (is_connected z)) tt)

pub takes : (ks : Kinds) (e : End) → Blames e (flags_got ks e)
takes ks e = either (is_some e.shake.meet) e (and_then (just (with_taken ks e)) all_settled) (just e) (λ t. then_blames e (just (with_taken ks e)) all_settled (calm e (just (with_taken ks e)) refl tt tt) (settles_all (with_taken ks e))) (λ t. stays e)

-- a flag is sent: the close reply, behind the close request, where the reason is clean
pub sends_same : (k : Kind) (e : End) → (k ≡ CloseReply → ⊥) → (k ≡ CloseRequest → ⊥) → face (end_sent k e) ≡ face e
sends_same OpenRequest e a b = refl
sends_same OpenReply e a b = refl
sends_same OpenComplete e a b = refl
sends_same MsgRequest e a b = refl
sends_same CloseRequest e a b = absurd (b refl)
sends_same CloseReply e a b = absurd (a refl)

pub clean_all : (o : Option Reason) (b : Bool) → IsCleanIfAny o → (r : Reason) → Fair o b r → IsClean r
clean_all o b c r (inl h) = h
clean_all (Some x) b c r (inr h) = let same : x ≡ r = (let z = h.1 in cc) in subst (λ (y : Reason). IsClean y) same c
clean_all None b c r (inr h) = absurd (let z = h.1 in cc)

-- another flag of the end was sent: what it shows stays, where its reason is clean
replies_held : (x : Face) (reply request : Bool) → (reply ≡ true → request ≡ true) → (request ≡ true → is_some x.reason ≡ true) → Strong x → Held (record x { reply = reply; request = request })
replies_held x reply request a b h =
    let clean = clean_all x.reason x.reply h.1 in
    record {
      reply = a;
      request = b;
      reason = λ r f. inl (clean r (h.0.reason r f));
      closed = h.0.closed;
      send = send_by x.reason x.reason x.reply reply x.send clean h.0.send;
      take = take_by x.reason x.reason x.reply reply x.take clean h.0.take;
      drain = drain_by x.reason x.reason x.reply reply x.drain clean h.0.drain;
    }

sent_held : (k : Kind) (e : End) → link_can e (SetFlag k) → Strong (face e) → Held (face (end_sent k e))
sent_held OpenRequest e can h = h.0
sent_held OpenReply e can h = h.0
sent_held OpenComplete e can h = h.0
sent_held MsgRequest e can h = h.0
sent_held CloseRequest e can h = replies_held (face e) e.shake.sent.close_reply true (λ t. refl) (λ t. (and_parts (is_some e.shake.reason) (not e.shake.sent.close_request) can.1).0) h
sent_held CloseReply e can h = replies_held (face e) true e.shake.sent.close_request (λ t. (and_parts e.shake.sent.close_request _ can.1).0) h.0.request h

sent_meet : (k : Kind) (e : End) → (end_sent k e).shake.meet ≡ e.shake.meet
sent_meet OpenRequest e = refl
sent_meet OpenReply e = refl
sent_meet OpenComplete e = refl
sent_meet MsgRequest e = refl
sent_meet CloseRequest e = refl
sent_meet CloseReply e = refl

-- what a change does to an end whose reasons are clean
pub record Told (e : End) (f : Effect End (List Note)) : Type 0 where
  pub held : Strong (face e) → Held (face f.local)
  pub overs : Strong (face e) → OversClean f.notes
  pub gives : IsGivenIfAny f.reason
  pub meet : f.local.shake.meet ≡ e.shake.meet

pub told : (e : End) (f : Effect End (List Note)) → Blames e f → Told e f
told e f h = record { held = λ z. h.held z.0; overs = λ z. h.overs z.0; gives = h.gives; meet = h.meet }

controls : (k : Kind) (e : End) → link_can e (SetFlag k) → Told e (control_sent k e)
controls k e can =
    let y = end_sent k e in
    let c = then_blames y (changed y) all_settled (changes y) (settles_all (changed y).local) in
    record {
      held = λ z. c.held (sent_held k e can z);
      overs = λ z. overs_three (opened_notes e) (changed y).notes (all_settled (changed y).local).notes (sober_overs (opened_notes e) (opened_sober (is_begun e) e.shake.meet e.epoch)) (c.overs (sent_held k e can z));
      gives = first_given (first_reason None (changed y).reason) (all_settled (changed y).local).reason (changes y).gives (settles_all (changed y).local).gives;
      meet = c.meet ∙ sent_meet k e;
    }
  where
    overs_three : (xs ys zs : List Note) → OversClean xs → OversClean (ys ++ zs) → OversClean ((xs ++ ys) ++ zs)
    overs_three [] ys zs a b = b
    overs_three (Over r ∷ xs) ys zs a b = (a.0, overs_three xs ys zs a.1 b)
    overs_three (x ∷ xs) ys zs a b = overs_three xs ys zs a b

flags : (k : Kind) (e : End) → link_can e (SetFlag k) → Told e (flag_sent k e)
flags MsgRequest e can = told e (flag_sent MsgRequest e) (calm e (flag_sent MsgRequest e) refl tt tt)
flags OpenRequest e can = controls OpenRequest e can
flags OpenReply e can = controls OpenReply e can
flags OpenComplete e can = controls OpenComplete e can
flags CloseRequest e can = controls CloseRequest e can
flags CloseReply e can = controls CloseReply e can

-- the sides of an end
sends_overs : (xs : List SendNote) → OversClean (map BySend xs)
sends_overs [] = tt
sends_overs (x ∷ xs) = sends_overs xs

pulls_overs : (xs : List PullNote) → OversClean (map ByPull xs)
pulls_overs [] = tt
pulls_overs (x ∷ xs) = pulls_overs xs

by_ring : (e : End) (f : Effect Sending (List SendNote)) → FairNotes e.shake.reason e.shake.sent.close_reply (map BySend f.notes) → IsGivenIfAny f.reason → Blames e (by_send e f)
by_ring e f fair gives =
    let z : End = record e { sides = record e.sides { send = f.local } } in
    record { held = λ h. hears_held (map BySend f.notes) z fair h; overs = λ h. sends_overs f.notes; gives = gives; meet = ap (λ (x : Root). x.meet) (hears_root (map BySend f.notes) z) }

by_load : (e : End) (f : Effect Pulling (List PullNote)) → FairNotes e.shake.reason e.shake.sent.close_reply (map ByPull f.notes) → IsGivenIfAny f.reason → Blames e (by_pull e f)
by_load e f fair gives =
    let z : End = record e { sides = record e.sides { pull = f.local } } in
    record { held = λ h. hears_held (map ByPull f.notes) z fair h; overs = λ h. pulls_overs f.notes; gives = gives; meet = ap (λ (x : Root). x.meet) (hears_root (map ByPull f.notes) z) }

rings_get : (e : End) (x : Sending) (w : ℕ) (a b : Bool) → (let f : Effect Sending (List SendNote) = cond a (record { local = x; reason = Some (BadCounters w x.put); notes = [] }) (cond b (record { local = send_over (with_remote_get w x); reason = None; notes = Sent (NoSlot x.put w) ∷ [] }) (record { local = with_remote_get w x; reason = None; notes = [] })) in Blames e (by_send e f))
rings_get e x w true b = let f : Effect Sending (List SendNote) = record { local = x; reason = Some (BadCounters w x.put); notes = [] } in by_ring e f tt tt
rings_get e x w false true = let f : Effect Sending (List SendNote) = record { local = send_over (with_remote_get w x); reason = None; notes = Sent (NoSlot x.put w) ∷ [] } in by_ring e f (tt, tt) tt
rings_get e x w false false = let f : Effect Sending (List SendNote) = record { local = with_remote_get w x; reason = None; notes = [] } in by_ring e f tt tt

rings : (e : End) (m : RingRule) (w : ℕ) → Blames e (by_send e (ring_effect e.sides.send m w))
rings e ReadGet w = rings_get e e.sides.send w (is_bad_get e.sides.send w) (is_full e.sides.send w)
rings e (WriteEntryWord f) w = by_ring e (ring_effect e.sides.send (WriteEntryWord f) w) tt tt
rings e AcceptMessage w = by_ring e (ring_effect e.sides.send AcceptMessage w) (tt, (tt, tt)) tt

-- what is wrong with an entry is no version, and no heartbeat
entry_given : (a b : Bool) (first wanted second : ℕ) → IsGivenIfAny (cond a (Some (BadLength first)) (cond b None (Some (BadNumber wanted second))))
entry_given true b first wanted second = tt
entry_given false true first wanted second = tt
entry_given false false first wanted second = tt

run_given : (limit number b : ℕ) (words : List ℕ) → IsGivenIfAny (run_fault limit number b words)
run_given limit number zero words = tt
run_given limit number (suc b) words =
    first_given (entry_fault limit number words) (run_fault limit (number + 1) b (drop (entry_words limit) words))
    (entry_given (nat_lt (slice_index words 0) 65536 || nat_lt (65536 + limit) (slice_index words 0)) (nat_eq (slice_index words 1) number) (slice_index words 0) number (slice_index words 1))
    (run_given limit (number + 1) b (drop (entry_words limit) words))

copied_blames : (e : End) (o : Option Reason) (n : ℕ) (words : List ℕ) → IsGivenIfAny o → Blames e (by_pull e (run_copied o n words e.sides.pull))
copied_blames e None n words h = by_load e (run_copied None n words e.sides.pull) tt tt
copied_blames e (Some r) n words h = by_load e (run_copied (Some r) n words e.sides.pull) tt h

entries_blames : (b : Bool) (e : End) (n : ℕ) (words : List ℕ) → (let x = e.sides.pull in let f : Effect Pulling (List PullNote) = cond b (run_copied (run_fault x.limit x.pulled n words) n words x) (record { local = record x { copied = words; run = n }; reason = None; notes = [] }) in Blames e (by_pull e f))
entries_blames true e n words = copied_blames e (run_fault e.sides.pull.limit e.sides.pull.pulled n words) n words (run_given e.sides.pull.limit e.sides.pull.pulled n words)
entries_blames false e n words = let f : Effect Pulling (List PullNote) = record { local = record e.sides.pull { copied = words; run = n }; reason = None; notes = [] } in by_load e f tt tt

get_blames : (b : Bool) (e : End) (y : SenderCounters) (w : ℕ) → (let x = e.sides.pull in let f : Effect Pulling (List PullNote) = cond b (record { local = record x { owed = false }; reason = Some (BadCounters w y.put); notes = [] }) (record { local = record x { counters = Some w; known = w; owed = false }; reason = None; notes = Heard w ∷ [] }) in Blames e (by_pull e f))
get_blames true e y w = let f : Effect Pulling (List PullNote) = record { local = record e.sides.pull { owed = false }; reason = Some (BadCounters w y.put); notes = [] } in by_load e f tt tt
get_blames false e y w = let f : Effect Pulling (List PullNote) = record { local = record e.sides.pull { counters = Some w; known = w; owed = false }; reason = None; notes = Heard w ∷ [] } in by_load e f (tt, tt) tt

put_blames : (b : Bool) (e : End) (get w : ℕ) → (let x = e.sides.pull in let f : Effect Pulling (List PullNote) = cond b (record { local = record x { counters = None }; reason = Some (BadCounters get w); notes = [] }) (record { local = record x { counters = None; pulled_put = w; empty = shown_empty x w }; reason = None; notes = [] }) in Blames e (by_pull e f))
put_blames true e get w = let f : Effect Pulling (List PullNote) = record { local = record e.sides.pull { counters = None }; reason = Some (BadCounters get w); notes = [] } in by_load e f tt tt
put_blames false e get w = let f : Effect Pulling (List PullNote) = record { local = record e.sides.pull { counters = None; pulled_put = w; empty = shown_empty e.sides.pull w }; reason = None; notes = [] } in by_load e f tt tt

counters_blames : (o : Option ℕ) (e : End) (w : ℕ) → Blames e (by_pull e (counters_pulled (sender_counters e.sides) o e.sides.pull w))
counters_blames None e w = get_blames (is_bad_counter (sender_counters e.sides) w) e (sender_counters e.sides) w
counters_blames (Some get) e w = put_blames (is_bad_put (sender_counters e.sides) e.sides.pull w) e get w

pulls : (e : End) (m : PullRule) (w : ℕ) → Blames e (by_pull e (pull_effect (sender_counters e.sides) e.sides.pull m w))
pulls e ReadCounters w = counters_blames e.sides.pull.counters e w
pulls e ReadEntry w =
    let x = e.sides.pull in
    let words = x.copied ++ w ∷ [] in
    entries_blames (nat_eq (length words) (words_each x * run_now x)) e (run_now x) words

released_fair : (o : Option Reason) (z b : Bool) (n : ℕ) → FairNotes o z (release_notes b n)
released_fair o z true n = (tt, tt)
released_fair o z false n = tt

released_overs : (b : Bool) (n : ℕ) → OversClean (release_notes b n)
released_overs true n = tt
released_overs false n = tt

acks : (e : End) → Blames e (acknowledged e)
acks e =
    let z : End = record e { sides = record e.sides { local_get = e.sides.ack.front; releasing = false }; shake = record e.shake { owes_message = true } } in
    let ns = release_notes e.sides.releasing e.sides.ack.front in
    record { held = λ h. hears_held ns z (released_fair e.shake.reason e.shake.sent.close_reply e.sides.releasing e.sides.ack.front) h; overs = λ h. released_overs e.sides.releasing e.sides.ack.front; gives = tt; meet = ap (λ (x : Root). x.meet) (hears_root ns z) }

read_same : (x : Argument) (place w : ℕ) (e : End) → face (with_argument x place w e) ≡ face e
read_same Request place w e = refl
read_same Reply place w e = refl
read_same Code place w e = refl

stored_same : (x : Argument) (e : End) → face (argument_stored x e) ≡ face e
stored_same Request e = refl
stored_same Reply e = refl
stored_same Code e = refl

link_told : (place : ℕ) (e : End) (m : LinkRule) (w : ℕ) → link_can e m → Told e (link_effect place e m w)
link_told place e (Ring m) w can = told e (by_send e (ring_effect e.sides.send m w)) (rings e m w)
link_told place e (Pull m) w can = told e (by_pull e (pull_effect (sender_counters e.sides) e.sides.pull m w)) (pulls e m w)
link_told place e Acknowledge w can = told e (acknowledged e) (acks e)
link_told place e (SetFlag k) w can = flags k e can
link_told place e ZeroGet w can = let f = just (record e { shake = record e.shake { get_zero = true } }) in told e f (calm e f refl tt tt)
link_told place e ZeroPut w can = let f = just (record e { shake = record e.shake { put_zero = true } }) in told e f (calm e f refl tt tt)
link_told place e (StoreArgument x) w can = told e (just (argument_stored x e)) (calm e (just (argument_stored x e)) (stored_same x e) tt tt)
link_told place e (ReadArgument x) w can = told e (and_then (just (with_argument x place w e)) all_settled) (then_blames e (just (with_argument x place w e)) all_settled (calm e (just (with_argument x place w e)) (read_same x place w e) tt tt) (settles_all (with_argument x place w e)))

failed_same : (mark : Option CopyMark) (e : End) → face (end_failed mark e) ≡ face e
failed_same None e = refl
failed_same (Some mark) e = refl

failed_given : (mark : Option CopyMark) → IsGivenIfAny (copy_error mark)
failed_given None = tt
failed_given (Some mark) = tt

pub linked : (mark : Option CopyMark) (place : ℕ) (e : End) (m : LinkRule) (a : Answer) → link_can e m → Told e (link_answered mark place e m a)
linked mark place e m (Word w) can = link_told place e m w can
linked mark place e m Failed can = told e (record { local = end_failed mark e; reason = copy_error mark; notes = [] }) (calm e (record { local = end_failed mark e; reason = copy_error mark; notes = [] }) (failed_same mark e) tt (failed_given mark))

-- a step of the end is made in contact
connected_meet : (e : End) → link_of e ≡ Connected → is_some e.shake.meet ≡ true
connected_meet e h = (and_parts (is_some e.shake.meet) _ (by e.shake.reason e.shake.sent.open_request (both_complete e.shake) h)).0 where
  by : (o : Option Reason) (a b : Bool) → state_by o a b ≡ Connected → b ≡ true
  by None a true e = refl
  by None true false e = absurd (cc)
  by None false false e = absurd (cc)
  by (Some r) a b e = absurd (cc)

pub in_contact : (e : End) (m : LinkRule) → link_can e m → is_some e.shake.meet ≡ true
in_contact e (Ring m) can = connected_meet e can.0
in_contact e (Pull m) can = (and_parts (is_some e.shake.meet) _ (and_parts (both_complete e.shake) (not e.shake.sent.close_reply) can.0).0).0
in_contact e Acknowledge can = connected_meet e can.0
in_contact e (SetFlag k) can = can.0
in_contact e ZeroGet can = can.0
in_contact e ZeroPut can = can.0
in_contact e (StoreArgument x) can = can.0
in_contact e (ReadArgument x) can = can.0

-- the partner goes down for a clean reason
pub strong_close : (o : Option Reason) (reason : Reason) (e : End) → e.shake.reason ≡ o → IsClean reason → Strong (face e) → Strong (face (close_now o reason e).local) × OversClean (close_now o reason e).notes
strong_close (Some r) reason e i c h = (h, tt)
strong_close None reason e i c h =
    let b = closes_none reason e (clean_versed reason c) i in
    let same : (close_now None reason e).local.shake.reason ≡ Some reason = ap (λ (x : Root). x.reason) (hears_root (down_notes reason e) (down_end reason e)) in
    ((b.held h.0, subst (λ (o : Option Reason). IsCleanIfAny o) (sym same) c), b.overs h.0)

closed_by : (b : Bool) (reason : Reason) (e : End) → IsClean reason → Strong (face e) → (let f : Effect End (List Note) = cond b (close_now e.shake.reason reason e) (just e) in Strong (face f.local) × OversClean f.notes)
closed_by true reason e c h = strong_close e.shake.reason reason e refl c h
closed_by false reason e c h = (h, tt)

parts : (x : Face) → Strong x → Strong (record x { meet = None })
parts x h = (record { reply = h.0.reply; request = h.0.request; reason = h.0.reason; closed = h.0.closed; send = h.0.send; take = h.0.take; drain = h.0.drain }, h.1)

overs_none : (xs : List Note) → OversClean xs → OversClean (xs ++ [])
overs_none xs h = overs_both xs [] h tt

pub goes_down : (reason : Reason) (e : End) → IsClean reason → Strong (face e) → Strong (face (link_down reason e).local) × OversClean (link_down reason e).notes
goes_down reason e c h = let k = closed_by (is_begun e) reason e c h in (parts (face (link_closed reason e).local) k.0, overs_none (link_closed reason e).notes k.1)

-- its session is over, a contact is made, and a boot begins
pub finishes : (e : End) → Strong (face e) → Strong (face (link_finished e).local) × OversClean (link_finished e).notes
finishes e h = ((freshens (face e) (face (link_finished e).local) (clean_all e.shake.reason e.shake.sent.close_reply h.1) refl refl refl refl refl refl refl h.0, tt), over_clean e.shake.reason e.sides.pending_notices h.1)

pub joins : (new : Bool) (m : Contact) (e : End) → Strong (face e) → Strong (face (link_joined new m e).local) × OversClean (link_joined new m e).notes
joins new m e h =
    let clean = clean_all e.shake.reason e.shake.sent.close_reply h.1 in (
      (
        record {
          reply = λ t. absurd (cc);
          request = λ t. absurd (cc);
          reason = λ r f. absurd (cc);
          closed = h.0.closed;
          send = send_by e.shake.reason None e.shake.sent.close_reply false e.decided.send clean h.0.send;
          take = take_by e.shake.reason None e.shake.sent.close_reply false e.decided.take clean h.0.take;
          drain = drain_by e.shake.reason None e.shake.sent.close_reply false e.decided.drain clean h.0.drain;
        },
        tt,
      ),
      tt,
    )

pub fresh_strong : (x : Face) → x.reason ≡ None → x.reply ≡ false → x.request ≡ false → x.closed ≡ [] → x.send ≡ None → x.take ≡ None → x.drain ≡ None → Strong x
fresh_strong x reason reply request closed send take drain = (
  record {
    reply = λ t. absurd (let z : false ≡ true = sym reply ∙ t in cc);
    request = λ t. absurd (let z : false ≡ true = sym request ∙ t in cc);
    reason = λ r f. absurd (let z : None ≡ Some r = sym reason ∙ f in cc);
    closed = subst (λ (rs : List Reason). AreClean rs) (sym closed) tt;
    send = subst (λ (a : Option SendAnswer). FairSend x.reason x.reply a) (sym send) tt;
    take = subst (λ (a : Option TakeRefusal). FairTake x.reason x.reply a) (sym take) tt;
    drain = subst (λ (a : Option DrainAnswer). FairDrain x.reason x.reply a) (sym drain) tt;
  },
  subst (λ (o : Option Reason). IsCleanIfAny o) (sym reason) tt,
)

pub boots : (e : End) → Strong (face (booted_end e))
boots e = fresh_strong (face (booted_end e)) refl refl refl refl refl refl refl
