-- A copy of a partner's words goes on only while the own bit stands there: no change of an end without contact begins one.
use Rattle.std.proofs.Common.{◌≡◌, ℕ, zero, suc, ◌<◌, Bool, true, false, ◌||◌, ◌&&◌, not, cond, eqb, List, [], ◌∷◌, ◌++◌, length, set, refl, ap, sym, ◌∙◌, subst, arith, Option, Some, None}
use Rattle.std.specs.Prelude.{is_some, IsSome, nat_eq}
use Rattle.std.proofs.lemmas.Bool.{cond_both}
use Rattle.xp_base.specs.declared.answer.SendAnswer.{SendAnswer}
use Rattle.xp_base.specs.declared.answer.TakeAnswer.{TakeAnswer}
use Rattle.xp_base.specs.declared.answer.TakeAnswer.TheVariants.{Taken as TakenAnswer, Empty}
use Rattle.xp_base.specs.declared.answer.ReleaseAnswer.{ReleaseAnswer}
use Rattle.xp_base.specs.declared.answer.DrainAnswer.{DrainAnswer}
use Rattle.xp_base.specs.declared.reason.Reason.{Reason}
use Rattle.xp_base.specs.declared.reason.Reason.TheVariants.{OtherGoingDown, Unregistered}
use Rattle.xp_base.specs.declared.step.Answer.TheVariants.{Word, Failed}
use Rattle.xp_base.specs.declared.step.Answer.{Answer}
use Rattle.xp_base.specs.declared.step.CopyMark.{CopyMark}
use Rattle.xp_base.specs.History.{Act, Begun, Answered, Noticed, NoticeKind, Delivered, Ended}
use Rattle.xp_script.specs.Commands.{verb_of}
use Rattle.xp_script.specs.declared.command.Command.{Command}
use Rattle.xp_script.specs.declared.command.Command.TheVariants as commands
use Rattle.xp_script.specs.declared.log.Verb.{Verb}
use Rattle.xp_script.specs.declared.log.Verb.TheVariants as verbs
use Rattle.xp_script.specs.declared.part.ScenarioPart.{ScenarioPart}
use Rattle.xp_protocol.specs.declared.refusal.TakeRefusal.{TakeRefusal}
use Rattle.xp_protocol.specs.declared.rule.PeerRule.{PeerRule}
use Rattle.xp_protocol.specs.declared.rule.PeerRule.TheVariants.{AskActivation, TakeFlags, CloseArea, ZeroMagic, ClearOldBit, Prepare, OpenArea, SetEngagementBit, ReadRecord, StoreEcho, StoreSecond, ClearEngagementBit, LookAtPage, CheckBeat, ClearDeactivationBit, TellPartner}
use Rattle.xp_protocol.specs.declared.rule.AreaWord.TheVariants.{SessionWord, EchoWord, PlaceWord, ArgsWord, FlagWord, CounterWord}
use Rattle.xp_protocol.specs.declared.rule.OwnRule.TheVariants.{ReadEngaged, TakeDeactivation, ReadStamp, ZeroMask, ZeroOffline, WriteStamp, StoreMask, TakeActivation, StoreBeat, StoreOffline}
use Rattle.xp_protocol.specs.declared.rule.Rule.{Rule}
use Rattle.xp_protocol.specs.declared.rule.Rule.TheVariants.{Link, Peer as ForPeer, Own}
use Rattle.xp_protocol.specs.Acts.{Aim, aimed, aim_by, aim_of, EndName, named_end, upcoming, current, with_aim, after_act, command_begun, say, refused_send, send_begun, take_begun, release_begun, release_held, drain_begun, drain_refusal, register_begun, unregister_begun, withdrawn, end_begun, taken_by, take_found, take_answered, answered_by, end_answered, end_noticed}
use Rattle.xp_protocol.specs.Effects.{Effect, Note, BySend, ByPull, Accepted, Sent, Heard, TakeRefused, Began, Joined, Taken, Freed, Acked, Told, ToldOver, Over, Released, Drained, Registered, Withdrawn}
use Rattle.xp_protocol.specs.Linking.{hear, hears, close_now, down_notes, down_end, link_down, link_finished, link_joined, booted_end, channel_closed}
use Rattle.xp_protocol.specs.Peering.{Here, is_bad_flags, flags_taken, is_magic, is_wrong, has_shown, with_reason, contact_of, contact_made, try_contact, same_peer, record_read, area_left_for, area_off, is_left, is_flagged, peer_can, peer_effect, peer_read, deactivation_heard, peer_failed, booted_peer, is_copied, any_copied, copies_go_on}
use Rattle.xp_protocol.specs.Pulling.{take_refusal}
use Rattle.xp_protocol.specs.Releasing.{release_refusal, message_released}
use Rattle.xp_base.specs.declared.answer.RegisterAnswer.TheVariants.{Ok as RegisterOk, Already}
use Rattle.xp_base.specs.declared.answer.UnregisterAnswer.TheVariants.{Ok as UnregisterOk, NotRegistered}
use Rattle.xp_protocol.specs.Rules.{Can, here_of, mark_of, peer_numbered, after_answer}
use Rattle.xp_protocol.specs.Runs.{turned, moment_by}
use Rattle.xp_protocol.specs.State.{State, each, End, Size, Contact, Reading, Old, Peer, cold_peer, idle_end, idle_links, link_at, link_of, end_of, peer_of}
use Rattle.xp_protocol.proofs.Frames.{cond_peer, wanted_at, idle_at}
use Rattle.xp_protocol.proofs.Slots.{at_each, at_peer, at_slot}
use Rattle.xp_meetings.proofs.Meets.{can_numbered}

-- what becomes of an end begins no copy
abbrev Quiet : End → Effect End (List Note) → Type 0
Quiet e f = is_copied f.local ≡ true → is_copied e ≡ true

heard : (x : Note) (e : End) → is_copied (hear x e) ≡ is_copied e
heard (BySend (Accepted n b a)) e = refl
heard (BySend (Sent a)) e = refl
heard (ByPull (Heard g)) e = refl
heard (ByPull (TakeRefused a)) e = refl
heard (Began n a b) e = refl
heard Joined e = refl
heard (Taken b) e = refl
heard (Freed n) e = refl
heard (Acked n) e = refl
heard (Told n) e = refl
heard (ToldOver n) e = refl
heard (Over r) e = refl
heard (Released a) e = refl
heard (Drained a) e = refl
heard (Registered a) e = refl
heard (Withdrawn a) e = refl

heards : (xs : List Note) (e : End) → is_copied (hears xs e) ≡ is_copied e
heards [] e = refl
heards (x ∷ xs) e = heards xs (hear x e) ∙ heard x e

says : (xs : List Note) (e x : End) → is_copied x ≡ is_copied e → Quiet e (say xs x)
says xs e x same t = sym same ∙ sym (heards xs x) ∙ t

closes_now : (o : Option Reason) (reason : Reason) (e : End) → Quiet e (close_now o reason e)
closes_now (Some r) reason e t = t
closes_now None reason e t = let z : false ≡ true = sym (heards (down_notes reason e) (down_end reason e)) ∙ t in absurd (cc)

either : (b : Bool) (e : End) (f g : Effect End (List Note)) → Quiet e f → Quiet e g → Quiet e (cond b f g)
either true e f g a b = a
either false e f g a b = b

closes : (reason : Reason) (e : End) → Quiet e (channel_closed reason e)
closes reason e = closes_now e.shake.reason reason e

goes_down : (reason : Reason) (e : End) → Quiet e (link_down reason e)
goes_down reason e t = absurd (cc)

-- commands and notices
sends : (o : Option SendAnswer) (payload : List ℕ) (wait notify : Bool) (e : End) → Quiet e (send_begun o payload wait notify e)
sends None payload wait notify e t = t
sends (Some a) payload wait notify e t = says (BySend (Sent a) ∷ []) e e refl t

takes : (o : Option TakeRefusal) (wait : Bool) (e : End) → Quiet e (take_begun o wait e)
takes None wait e t = t
takes (Some a) wait e t = says (ByPull (TakeRefused a) ∷ []) e e refl t

releases : (o : Option ReleaseAnswer) (number : ℕ) (e : End) → Quiet e (release_begun o number e)
releases None number e t =
    let new = message_released number e.sides.ack in
    let stays = nat_eq e.sides.ack.front new.front in
    says (release_held stays number new) e (record e { sides = record e.sides { ack = new; releasing = not stays } }) refl t
releases (Some a) number e t = says (Released a ∷ []) e e refl t

drains : (o : Option DrainAnswer) (e : End) → Quiet e (drain_begun o e)
drains None e t = t
drains (Some a) e t = says (Drained a ∷ []) e e refl t

registers : (o : Option Size) (z : Size) (e : End) → Quiet e (register_begun o z e)
registers None z e t = says (Registered RegisterOk ∷ []) e (record e { registration = Some z }) refl t
registers (Some x) z e t = says (Registered Already ∷ []) e e refl t

withdraws : (e : End) → Quiet e (withdrawn e)
withdraws e = either (e.shake.sent.open_request && not (is_some e.shake.reason)) e (channel_closed Unregistered e) (record { local = e; reason = None; notes = [] }) (closes Unregistered e) (λ t. t)

unregisters : (o : Option Size) (e : End) → Quiet e (unregister_begun o e)
unregisters None e t = says (Withdrawn NotRegistered ∷ []) e e refl t
unregisters (Some z) e t = withdraws (hears (Withdrawn UnregisterOk ∷ []) (record e { registration = None })) t

begins : (e : End) (x : Command) → Quiet e (end_begun e x)
begins e (commands.Send q c payload wait notify) = sends (refused_send e payload) payload wait notify e
begins e (commands.Take q c wait) = takes (take_refusal (link_of e)) wait e
begins e (commands.Release q c number) = releases (release_refusal (link_of e) number e.sides.ack) number e
begins e (commands.Drain q c) = drains (drain_refusal (link_of e)) e
begins e (commands.Register q c entries limit) = registers e.registration _ e
begins e (commands.Unregister q c) = unregisters e.registration e
begins e (commands.Closed q c) = λ t. t
begins e (commands.Connected q c) = λ t. t
begins e (commands.Net frame) = λ t. t
begins e (commands.Frames count) = λ t. t
begins e (commands.Idle turns) = λ t. t
begins e commands.Offline = λ t. t
begins e commands.Online = λ t. t
begins e (commands.Deactivate q) = λ t. t
begins e (commands.Activate q) = λ t. t
begins e commands.Leave = λ t. t

taken : (o : Option TakeAnswer) (e : End) → Quiet e (taken_by o e)
taken None e t = t
taken (Some (TakenAnswer number body)) e t = t
taken (Some (Empty put)) e t = t
taken (Some a) e t = t

takes_answered : (o : Option TakeRefusal) (e : End) → Quiet e (take_answered o e)
takes_answered None e = taken (take_found e) e
takes_answered (Some a) e = λ t. t

answers : (v : Verb) (e : End) → Quiet e (answered_by v e)
answers verbs.Send e = λ t. t
answers verbs.Take e = takes_answered e.decided.take e
answers verbs.Release e = λ t. t
answers verbs.Drain e = λ t. t
answers verbs.Register e = λ t. t
answers verbs.Unregister e = λ t. t
answers verb e = λ t. t

notices : (how : NoticeKind) (number : ℕ) (e : End) → Quiet e (end_noticed how number e)
notices Delivered number e = λ t. t
notices Ended number e = λ t. t

-- of an end of a partner: a copy that goes on means that the own bit stands
module _ (c : ℕ) where
  abbrev pub Copies : Peer → Type 0
  Copies p = is_copied (link_at p.links c) ≡ true → p.engage.bit ≡ true

  none_on : (links : List End) (n : ℕ) → any_copied links ≡ false → is_copied (link_at links n) ≡ false
  none_on [] n h = refl
  none_on (e ∷ es) zero h = (either_false (is_copied e) (any_copied es) h).0 where
    either_false : (a b : Bool) → (a || b) ≡ false → (a ≡ false) × (b ≡ false)
    either_false true b t = absurd (cc)
    either_false false b t = (refl, t)
  none_on (e ∷ es) (suc n) h = none_on es n (either_false (is_copied e) (any_copied es) h) where
    either_false : (a b : Bool) → (a || b) ≡ false → b ≡ false
    either_false true b t = absurd (cc)
    either_false false b t = t

  ends_free : (p : Peer) → copies_go_on p ≡ false → is_copied (link_at p.links c) ≡ false
  ends_free p h = none_on p.links c (by (is_some p.engage.reading) _ (any_copied p.links) h) where
    by : (x y z : Bool) → (x || (y || z)) ≡ false → z ≡ false
    by true y z t = absurd (cc)
    by false true z t = absurd (cc)
    by false false z t = t

  -- all ends of a partner change
  each_quiet : (f : ℕ → End → Effect End (List Note)) (bit : Bool) (links : List End) → ((i : ℕ) (e : End) → Quiet e (f i e)) → (is_copied (link_at links c) ≡ true → bit ≡ true) → is_copied (link_at (each (λ i e. (f i e).local) 0 links) c) ≡ true → bit ≡ true
  each_quiet f bit links q h = at_each (λ (e : End). is_copied e ≡ true → bit ≡ true) (λ i e. (f i e).local) links c idle_end (λ t. h (q c (link_at links c) t)) (λ l t. absurd (cc))

  module _ (y : Here) where
    meets : (x : Peer) → Copies x → Copies (try_contact y.turn y.stamp x).local
    meets x k = cond_peer Copies (x.engage.second && (x.engage.shown && not (is_some x.contact))) (contact_made y.turn y.stamp x) (same_peer x) (each_quiet (λ i e. link_joined x.both_new (contact_of y.stamp x.engage) e) x.engage.bit x.links (λ i e t. absurd (cc)) k) k

    reads : (p : Peer) (o : Option Reading) (v : ℕ) → Copies p → Copies (record_read y p o v).local
    reads p None v h = cond_peer Copies (eqb v 0) _ _ h (cond_peer Copies (is_magic v) _ _ h h)
    reads p (Some r) v h =
        cond_peer Copies (eqb r.done 1) _ _ h (cond_peer Copies (eqb r.done 2) _ _ h (cond_peer Copies (eqb r.done 7) _ _ (cond_peer Copies (has_shown y.stamp p.engage r) _ _ (meets (record p { engage = record p.engage { shown = true; reading = None } }) h) h) (cond_peer Copies (is_wrong y.part r.done v) _ _ h h)))

    leaves : (p : Peer) (o : Option Reason) → Copies p → Copies (area_left_for o p).local
    leaves p None h = h
    leaves p (Some reason) h = each_quiet (λ i e. link_down reason e) p.engage.bit p.links (λ i e. goes_down reason e) h

    peer_copies : (p : Peer) (m : PeerRule) (v : ℕ) → (is_some p.contact ≡ true → p.engage.bit ≡ true) → peer_can y p m → Copies p → Copies (peer_effect y p m v).local
    peer_copies p AskActivation v on can h = h
    peer_copies p TakeFlags v on can h = cond_peer Copies (is_bad_flags v) _ (flags_taken v p) h (λ t. on (met p.contact can.0)) where
      met : (o : Option Contact) → IsSome o → is_some o ≡ true
      met None i = absurd (cc)
      met (Some k) i = refl
    peer_copies p CloseArea v on can h = leaves p p.engage.reason h
    peer_copies p ZeroMagic v on can h = h
    peer_copies p ClearOldBit v on can h = h
    peer_copies p (Prepare SessionWord) v on can h = h
    peer_copies p (Prepare EchoWord) v on can h = h
    peer_copies p (Prepare FlagWord) v on can h = h
    peer_copies p (Prepare (PlaceWord x)) v on can h = h
    peer_copies p (Prepare (ArgsWord d f)) v on can h = h
    peer_copies p (Prepare (CounterWord d f)) v on can h = h
    peer_copies p OpenArea v on can h = h
    peer_copies p SetEngagementBit v on can h = λ t. refl
    peer_copies p ReadRecord v on can h = reads p p.engage.reading v h
    peer_copies p StoreEcho v on can h = h
    peer_copies p StoreSecond v on can h = meets (record p { engage = record p.engage { second = true } }) h
    peer_copies p ClearEngagementBit v on can h = λ t. (let z : false ≡ true = sym (ends_free p can.1) ∙ t in absurd (cc))
    peer_copies p LookAtPage v on can h = cond_peer Copies (eqb (length (p.paging ++ v ∷ [])) 5) _ _ h h
    peer_copies p CheckBeat v on can h = h
    peer_copies p ClearDeactivationBit v on can h = h
    peer_copies p TellPartner v on can h = h

    numbered_copies : (mark : Option CopyMark) (p : Peer) (m : PeerRule) (v : ℕ) → (is_some p.contact ≡ true → p.engage.bit ≡ true) → peer_can y p m → Copies p → Copies (peer_effect y (peer_numbered mark p) m v).local
    numbered_copies None p m v on can h = peer_copies p m v on can h
    numbered_copies (Some mark) p m v on can h = peer_copies (peer_numbered (Some mark) p) m v on (can_numbered y (Some mark) p m can) h

  failed_copies : (turn : ℕ) (mark : Option CopyMark) (p : Peer) → Copies p → Copies (peer_failed turn mark p)
  failed_copies turn None p h = h
  failed_copies turn (Some mark) p h = h

  freed_copies : (p : Peer) (v q : ℕ) → Copies p → Copies (peer_read v q p).local
  freed_copies p v q h = cond_peer Copies (is_left p.engage && not (is_flagged v q)) (area_off p) (same_peer p) (each_quiet (λ i e. link_finished e) p.engage.bit p.links (λ i e t. absurd (cc)) h) h

  told_copies : (p : Peer) (v q : ℕ) → Copies p → Copies (deactivation_heard v q p).local
  told_copies p v q h = cond_both (is_some p.engage.echo && is_flagged v q) (with_reason (Some (OtherGoingDown v)) p) p Copies (λ e. h) (λ e. h)

  boot_copies : (p : Peer) → Copies (booted_peer p)
  boot_copies p = at_each (λ (e : End). is_copied e ≡ true → false ≡ true) (λ i e. booted_end e) p.links c idle_end (λ t. t) (λ l t. t)

  pub none_going : (p : Peer) → p.links ≡ idle_links → Copies p
  none_going p e t = let z : false ≡ true = ap is_copied (sym (idle_at c)) ∙ ap (λ (ls : List End). is_copied (link_at ls c)) (sym e) ∙ t in absurd (cc)

  -- one end of a partner is replaced
  set_copies : (p : Peer) (d : ℕ) (x : End) → ((c ≡ d) → is_copied x ≡ true → p.engage.bit ≡ true) → Copies p → is_copied (link_at (set p.links d x) c) ≡ true → p.engage.bit ≡ true
  set_copies p d x new old = at_slot (λ (e : End). is_copied e ≡ true → p.engage.bit ≡ true) p.links d c x idle_end new old

  module _ (su : ScenarioPart) (st : State) (q : ℕ) (n : ℕ) (partners : length st.peers ≡ n) (lq : q < n) (on : is_some (peer_of st q).contact ≡ true → (peer_of st q).engage.bit ≡ true) (h : Copies (peer_of st q)) where
    pub rule_copies : (r : Rule) (a : Answer) → Can su st r → Copies (peer_of (after_answer su st r a) q)
    rule_copies (Link k d m) a can = at_peer Copies st.peers k _ q (λ e t. subst (λ (j : ℕ). (peer_of st j).engage.bit ≡ true) e (on (subst (λ (j : ℕ). is_some (peer_of st j).contact ≡ true) (sym e) (met (peer_of st k).contact can.1.0.contact)))) h where
      met : (o : Option Contact) → IsSome o → is_some o ≡ true
      met None i = absurd (cc)
      met (Some k) i = refl
    rule_copies (ForPeer k m) (Word v) can = at_peer Copies st.peers k _ q (λ e. numbered_copies (here_of su st k) (mark_of su st (ForPeer k m)) (peer_of st k) m v (subst (λ (j : ℕ). is_some (peer_of st j).contact ≡ true → (peer_of st j).engage.bit ≡ true) e on) can.1.1 (subst (λ (j : ℕ). Copies (peer_of st j)) e h)) h
    rule_copies (ForPeer k m) Failed can = at_peer Copies st.peers k _ q (λ e. failed_copies (here_of su st k).turn (mark_of su st (ForPeer k m)) (peer_of st k) (subst (λ (j : ℕ). Copies (peer_of st j)) e h)) h
    rule_copies (Own ReadEngaged) (Word v) can = at_each Copies (λ j p. (peer_read v j p).local) st.peers q (cold_peer Old) (freed_copies (peer_of st q) v q h) (λ l. absurd (omega (arith, l, lq, partners)))
    rule_copies (Own TakeDeactivation) (Word v) can = at_each Copies (λ j p. (deactivation_heard v j p).local) st.peers q (cold_peer Old) (told_copies (peer_of st q) v q h) (λ l. absurd (omega (arith, l, lq, partners)))
    rule_copies (Own ReadStamp) (Word v) can = h
    rule_copies (Own ZeroMask) (Word v) can = h
    rule_copies (Own ZeroOffline) (Word v) can = h
    rule_copies (Own WriteStamp) (Word v) can = h
    rule_copies (Own StoreMask) (Word v) can = h
    rule_copies (Own TakeActivation) (Word v) can = h
    rule_copies (Own StoreBeat) (Word v) can = h
    rule_copies (Own StoreOffline) (Word v) can = h
    rule_copies (Own m) Failed can = h

    -- what an act is to an end
    abbrev At : Option Aim → Type 0
    At None = Unit {0}
    At (Some y) = Quiet (end_of st y.partner y.channel) y.effect

    aim_quiet : (f : End → Command → Effect End (List Note)) → ((e : End) (x : Command) → Quiet e (f e x)) → (o : Option Command) → At (aim_of st f o)
    aim_quiet f each None = tt
    aim_quiet f each (Some x) = by (named_end x) where
      by : (n : Option EndName) → At (aim_by st f x n)
      by None = tt
      by (Some n) = each (end_of st n.partner n.channel) x

    act_quiet : (x : Act) → At (aimed su st x)
    act_quiet Begun = aim_quiet end_begun begins (upcoming su st)
    act_quiet Answered = aim_quiet end_answered (λ e x. answers (verb_of x) e) (current su st)
    act_quiet (Noticed k d number how) = notices how number (end_of st k d)

    aimed_copies : (x : Option Aim) → At x → Copies (peer_of (with_aim x st) q)
    aimed_copies None i = h
    aimed_copies (Some y) i =
        at_peer Copies st.peers y.partner _ q
        (λ e. set_copies (peer_of st y.partner) y.channel y.effect.local (λ f t. subst (λ (j : ℕ). Copies (peer_of st j)) e h (subst (λ (d : ℕ). is_copied (end_of st y.partner d) ≡ true) (sym f) (i t))) (subst (λ (j : ℕ). Copies (peer_of st j)) e h)) h

    pub act_copies : (x : Act) → Copies (peer_of (after_act su st x) q)
    act_copies x =
        let y = with_aim (aimed su st x) st in
        wanted_at Copies (command_begun su st x) y.peers q (λ p k. k) (λ p k. k) (aimed_copies (aimed su st x) (act_quiet x))

    pub moment_copies : (turns : ℕ) (b stops : Bool) → Copies (peer_of (moment_by su b stops (turned turns st)) q)
    moment_copies turns true stops = at_each Copies (λ j p. booted_peer p) st.peers q (cold_peer Old) (boot_copies (peer_of st q)) (λ l. absurd (omega (arith, l, lq, partners)))
    moment_copies turns false true = h
    moment_copies turns false false = h
