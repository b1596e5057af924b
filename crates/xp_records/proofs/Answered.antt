-- Each send of every history is answered for the first cause that it met, and the log has exactly the sends of the turns.
use Rattle.std.proofs.Common.{◌≡◌, ℕ, ◌+◌, ◌-◌, ◌<◌, arith, Bool, true, false, not, ◌&&◌, cond, List, [], ◌∷◌, ◌++◌, refl, ap, sym, ◌∙◌, subst, append_assoc, Option, Some, None, inl, inr, ◌⊎◌}
use Rattle.std.specs.Prelude.{is_some, slice_get, IsSome}
use Rattle.std.proofs.lemmas.List.{append-nil}
use Rattle.xp_base.specs.Memory.{Memory}
use Rattle.xp_base.specs.History.{Act, Begun, Answered, Noticed, Marked, Turn, Event, turns_of}
use Rattle.xp_script.specs.Commands.{verb_of}
use Rattle.xp_script.specs.declared.command.Command.{Command}
use Rattle.xp_script.specs.declared.command.Command.TheVariants.{Send, Take, Release, Drain, Register, Unregister}
use Rattle.xp_script.specs.declared.command.Command.TheVariants as commands
use Rattle.xp_script.specs.declared.log.LogAnswer.{LogAnswer}
use Rattle.xp_script.specs.declared.log.Verb.{Verb}
use Rattle.xp_script.specs.declared.log.Verb.TheVariants as verbs
use Rattle.xp_script.specs.declared.log.Entry.{Entry}
use Rattle.xp_script.specs.declared.part.ScenarioPart.{ScenarioPart}
use Rattle.xp_script.specs.declared.scenario.Scenario.{Scenario}
use Rattle.xp_script.specs.Parts.{part_of}
use Rattle.xp_script.specs.Lawful.{IsLawful}
use Rattle.xp_protocol.specs.declared.rule.Rule.{Rule}
use Rattle.xp_protocol.specs.Sending.{Send as Sendable}
use Rattle.xp_base.specs.declared.answer.SendAnswer.{SendAnswer}
use Rattle.xp_protocol.specs.Parts.{script_in, IsLawfulPart}
use Rattle.xp_protocol.specs.State.{State, End, Peer, Old, cold_peer, idle_end, opened_state, first_met, warm_end, end_of, peer_of, link_at}
use Rattle.xp_protocol.specs.Linking.{booted_end}
use Rattle.xp_protocol.specs.Peering.{booted_peer}
use Rattle.xp_protocol.specs.Acts.{aimed, MayAct, MayActs, after_act, after_acts, upcoming, current, due, due_to}
use Rattle.xp_protocol.specs.Runs.{MayMake, RunsFrom, start, acted, after_ruled, after_step, after_turn, state_after, turned, moment, moment_by, restarted, restart_comes, stop_comes, is_over}
use Rattle.xp_protocol.specs.Logged.{begun_entry, last_answered, entries_act, entries_acts, entries_turn, entries_from}
use Rattle.xp_protocol.specs.Reached.{ReachedWords}
use Rattle.xp_protocol.proofs.LawfulParts.{lawful_part}
use Rattle.xp_protocol.proofs.Slots.{at_each}
use Rattle.xp_protocol.proofs.Frames.{idle_at}
use Rattle.xp_protocol.proofs.Opened.{opened_fact}
use Rattle.xp_records.specs.Answers.{SendRun, begun_send, answered_send, sends_act, sends_acts, is_send, is_sending, stepped, sends_step, sends_turn, sends_from, sends_of, entries_of, send_entry, send_entries, entry_of, entries_given, SendAnswers}
use Rattle.xp_records.proofs.Parts.{Ordered, ordered_act, ordered_moment, ordered_first}
use Rattle.xp_records.proofs.Anew.{ordered_step}
use Rattle.xp_records.proofs.Sends.{IsBusy, SendsOf, Unaccepted, unaccepted, aim_boots, both_now, sends_made, begins, answers, notices, notices_calm}

-- the log and the sends: the same entries of sends; and the last entry is that of the command in progress
pub record Logs (su : ScenarioPart) (st : State) (es : List Entry) (xs : List SendRun) : Type 0 where
  pub same : send_entries es ≡ entries_given xs
  pub last : st.script.doing ≡ true → (x : Command) → current su st ≡ Some x → (front : List Entry) × (en : Entry) × (es ≡ front ++ en ∷ []) × (en.verb ≡ verb_of x)

entries_more : (xs ys : List Entry) → send_entries (xs ++ ys) ≡ send_entries xs ++ send_entries ys
entries_more [] ys = refl
entries_more (x ∷ xs) ys = ap (λ (zs : List Entry). send_entry x.verb x ++ zs) (entries_more xs ys) ∙ sym (append_assoc (send_entry x.verb x) (send_entries xs) (send_entries ys))

one_entry : (xs : List Entry) (x : Entry) → send_entries (xs ++ x ∷ []) ≡ send_entries xs ++ send_entry x.verb x
one_entry xs x = entries_more xs (x ∷ []) ∙ ap (λ (zs : List Entry). send_entries xs ++ zs) (append-nil (send_entry x.verb x))

last_push : (xs : List Entry) (x : Entry) (a : Option LogAnswer) → last_answered (xs ++ x ∷ []) a ≡ xs ++ record x { answer = a } ∷ []
last_push [] x a = refl
last_push (y ∷ []) x a = refl
last_push (y ∷ z ∷ more) x a = ap (λ (zs : List Entry). y ∷ zs) (last_push (z ∷ more) x a)

-- two lists with one more item each
push_same : (xs ys : List Entry) (x y : Entry) → xs ++ x ∷ [] ≡ ys ++ y ∷ [] → (xs ≡ ys) × (x ≡ y)
push_same [] [] x y e = (refl, cc)
push_same [] (b ∷ []) x y e = absurd (cc)
push_same [] (b ∷ d ∷ more) x y e = absurd (cc)
push_same (a ∷ []) [] x y e = absurd (cc)
push_same (a ∷ b ∷ more) [] x y e = absurd (cc)
push_same (a ∷ xs) (b ∷ ys) x y e =
    let h : a ≡ b = cc in
    let t : xs ++ x ∷ [] ≡ ys ++ y ∷ [] = cc in
    let k = push_same xs ys x y t in
    ((λ i. h i ∷ k.0 i), k.1)

-- a rule leaves the log, and adds a step to a send
stepped_given : (su : ScenarioPart) (st : State) (x : Marked) (b : Bool) (xs : List SendRun) → entries_given (cond b (stepped su st x xs) xs) ≡ entries_given xs
stepped_given su st x false xs = refl
stepped_given su st x true [] = refl
stepped_given su st x true (y ∷ ys) = refl

no_entry : (x : Command) (en : Entry) → is_send (Some x) ≡ false → en.verb ≡ verb_of x → send_entry en.verb en ≡ []
no_entry (Send q c payload wait notify) en n e = absurd (cc)
no_entry (Take q c wait) en n e = ap (λ (v : Verb). send_entry v en) e
no_entry (Release q c number) en n e = ap (λ (v : Verb). send_entry v en) e
no_entry (Drain q c) en n e = ap (λ (v : Verb). send_entry v en) e
no_entry (Register q c entries limit) en n e = ap (λ (v : Verb). send_entry v en) e
no_entry (Unregister q c) en n e = ap (λ (v : Verb). send_entry v en) e
no_entry (commands.Connected k d) en n e = ap (λ (v : Verb). send_entry v en) e
no_entry (commands.Closed k d) en n e = ap (λ (v : Verb). send_entry v en) e
no_entry (commands.Net frame) en n e = ap (λ (v : Verb). send_entry v en) e
no_entry (commands.Frames count) en n e = ap (λ (v : Verb). send_entry v en) e
no_entry (commands.Deactivate k) en n e = ap (λ (v : Verb). send_entry v en) e
no_entry (commands.Activate k) en n e = ap (λ (v : Verb). send_entry v en) e
no_entry commands.Leave en n e = ap (λ (v : Verb). send_entry v en) e
no_entry (commands.Idle turns) en n e = ap (λ (v : Verb). send_entry v en) e
no_entry commands.Offline en n e = ap (λ (v : Verb). send_entry v en) e
no_entry commands.Online en n e = ap (λ (v : Verb). send_entry v en) e

plain_sends : (x : Command) (st : State) (a : Option LogAnswer) (xs : List SendRun) → is_send (Some x) ≡ false → (begun_send st (Some x) xs ≡ xs) × (answered_send (Some x) a xs ≡ xs)
plain_sends (Send q c payload wait notify) st a xs n = absurd (cc)
plain_sends (Take q c wait) st a xs n = (refl, refl)
plain_sends (Release q c number) st a xs n = (refl, refl)
plain_sends (Drain q c) st a xs n = (refl, refl)
plain_sends (Register q c entries limit) st a xs n = (refl, refl)
plain_sends (Unregister q c) st a xs n = (refl, refl)
plain_sends (commands.Connected k d) st a xs n = (refl, refl)
plain_sends (commands.Closed k d) st a xs n = (refl, refl)
plain_sends (commands.Net frame) st a xs n = (refl, refl)
plain_sends (commands.Frames count) st a xs n = (refl, refl)
plain_sends (commands.Deactivate k) st a xs n = (refl, refl)
plain_sends (commands.Activate k) st a xs n = (refl, refl)
plain_sends commands.Leave st a xs n = (refl, refl)
plain_sends (commands.Idle turns) st a xs n = (refl, refl)
plain_sends commands.Offline st a xs n = (refl, refl)
plain_sends commands.Online st a xs n = (refl, refl)

-- a command is a send or none
send_or : (x : Command) → ((q c : ℕ) × (payload : List ℕ) × (wait notify : Bool) × (x ≡ Send q c payload wait notify)) ⊎ (is_send (Some x) ≡ false)
send_or (Send q c payload wait notify) = inl (q, c, payload, wait, notify, refl)
send_or (Take q c wait) = inr refl
send_or (Release q c number) = inr refl
send_or (Drain q c) = inr refl
send_or (Register q c entries limit) = inr refl
send_or (Unregister q c) = inr refl
send_or (commands.Connected k d) = inr refl
send_or (commands.Closed k d) = inr refl
send_or (commands.Net frame) = inr refl
send_or (commands.Frames count) = inr refl
send_or (commands.Deactivate k) = inr refl
send_or (commands.Activate k) = inr refl
send_or commands.Leave = inr refl
send_or (commands.Idle turns) = inr refl
send_or commands.Offline = inr refl
send_or commands.Online = inr refl

module _ (su : ScenarioPart) (st : State) (es : List Entry) (xs : List SendRun) (old : Logs su st es xs) where
  now_begun : (o : Option Command) → upcoming su st ≡ o → current su (after_act su st Begun) ≡ o
  now_begun o u = let e : st.script.begun + 1 - 1 ≡ st.script.begun = omega arith in (λ i. slice_get (script_in su (aim_boots st (aimed su st Begun) i)) (e i)) ∙ u

  logs_begun : (o : Option Command) → upcoming su st ≡ o → Logs su (after_act su st Begun) (entries_act su st Begun es) (sends_act su st Begun xs)
  logs_begun None u = record {
    same = (λ i. send_entries (es ++ begun_entry st.clock.boots (st.script.begun + 1) (u i))) ∙ ap send_entries (append-nil es) ∙ old.same ∙ ap (λ (o : Option Command). entries_given (begun_send st o xs)) (sym u);
    last = λ d x e. (let z : None ≡ Some x = sym (now_begun None u) ∙ e in absurd (cc));
  }
  logs_begun (Some x) u =
      let en : Entry = record { boot = st.clock.boots; number = st.script.begun + 1; verb = verb_of x; answer = None } in
      record {
        same = (λ i. send_entries (es ++ begun_entry st.clock.boots (st.script.begun + 1) (u i))) ∙ one_entry es en ∙ ap (λ (zs : List Entry). zs ++ send_entry (verb_of x) en) old.same ∙ by (send_or x) ∙ ap (λ (o : Option Command). entries_given (begun_send st o xs)) (sym u);
        last = λ d y e. (es, en, ap (λ (o : Option Command). es ++ begun_entry st.clock.boots (st.script.begun + 1) o) u, ap verb_of (both_now su (after_act su st Begun) x y (now_begun (Some x) u) e));
      }
    where
      by : ((q c : ℕ) × (payload : List ℕ) × (wait notify : Bool) × (x ≡ Send q c payload wait notify)) ⊎ (is_send (Some x) ≡ false) → entries_given xs ++ send_entry (verb_of x) (record { boot = st.clock.boots; number = st.script.begun + 1; verb = verb_of x; answer = None }) ≡ entries_given (begun_send st (Some x) xs)
      by (inl k) = subst (λ (y : Command). entries_given xs ++ send_entry (verb_of y) (record { boot = st.clock.boots; number = st.script.begun + 1; verb = verb_of y; answer = None }) ≡ entries_given (begun_send st (Some y) xs)) (sym k.5) refl
      by (inr n) = ap (λ (zs : List Entry). entries_given xs ++ zs) (no_entry x (record { boot = st.clock.boots; number = st.script.begun + 1; verb = verb_of x; answer = None }) n refl) ∙ append-nil (entries_given xs) ∙ ap entries_given (sym (plain_sends x st None xs n).0)

  logs_answered : (o : Option Command) → current su st ≡ o → st.script.doing ≡ true → (is_send o ≡ true → (sent : SendRun) × (earlier : List SendRun) × (xs ≡ sent ∷ earlier)) → IsSome o → Logs su (after_act su st Answered) (entries_act su st Answered es) (sends_act su st Answered xs)
  logs_answered None u d head some = absurd (cc)
  logs_answered (Some x) u d head some = record { same = by (send_or x); last = λ k. absurd (cc) } where
    k : (front : List Entry) × (en : Entry) × (es ≡ front ++ en ∷ []) × (en.verb ≡ verb_of x)
    k = old.last d x u

    told : send_entries (last_answered es (due su st)) ≡ send_entries k.0 ++ send_entry k.1.verb (record k.1 { answer = due su st })
    told = ap (λ (zs : List Entry). send_entries (last_answered zs (due su st))) k.2 ∙ ap send_entries (last_push k.0 k.1 (due su st)) ∙ one_entry k.0 (record k.1 { answer = due su st })

    before : send_entries k.0 ++ send_entry k.1.verb k.1 ≡ entries_given xs
    before = sym (ap send_entries k.2 ∙ one_entry k.0 k.1) ∙ old.same

    by : ((q c : ℕ) × (payload : List ℕ) × (wait notify : Bool) × (x ≡ Send q c payload wait notify)) ⊎ (is_send (Some x) ≡ false) → send_entries (last_answered es (due su st)) ≡ entries_given (answered_send (current su st) (due su st) xs)
    by (inr n) =
        told ∙ ap (λ (zs : List Entry). send_entries k.0 ++ zs) (no_entry x (record k.1 { answer = due su st }) n k.3) ∙ sym (ap (λ (zs : List Entry). send_entries k.0 ++ zs) (no_entry x k.1 n k.3)) ∙ before
        ∙ sym (ap (λ (o : Option Command). entries_given (answered_send o (due su st) xs)) u ∙ ap entries_given (plain_sends x st (due su st) xs n).1)
    by (inl w) =
        let verb : k.1.verb ≡ verbs.Send = k.3 ∙ ap verb_of w.5 in
        let o = head (ap (λ (y : Command). is_send (Some y)) w.5) in
        let pushed : send_entries k.0 ++ k.1 ∷ [] ≡ entries_given o.1 ++ entry_of o.0 ∷ [] = sym (ap (λ (v : Verb). send_entries k.0 ++ send_entry v k.1) verb) ∙ before ∙ ap entries_given o.2 in
        let p = push_same (send_entries k.0) (entries_given o.1) k.1 (entry_of o.0) pushed in
        told ∙ ap (λ (v : Verb). send_entries k.0 ++ send_entry v (record k.1 { answer = due su st })) verb ∙ (λ i. p.0 i ++ record (p.1 i) { answer = due su st } ∷ [])
        ∙ sym ((λ i. entries_given (answered_send ((u ∙ ap (λ (y : Command). Some y) w.5) i) (due su st) (o.2 i))))

-- all that is kept of a partition's sends
pub record Kept (su : ScenarioPart) (st : State) (es : List Entry) (xs : List SendRun) : Type 0 where
  pub order : Ordered su.count st
  pub sends : SendsOf su st xs
  pub logs : Logs su st es xs

module _ (su : ScenarioPart) (law : IsLawfulPart su) where
  due_doing : (b : Bool) (o : Option LogAnswer) → IsSome (cond b o None) → b ≡ true
  due_doing true o i = refl
  due_doing false o i = absurd (cc)

  due_some : (st : State) (o : Option Command) → current su st ≡ o → IsSome (due su st) → IsSome o
  due_some st None u i = by st.script.doing (subst (λ (o : Option Command). IsSome (cond st.script.doing (due_to su st o) None)) u i) where
    by : (b : Bool) → IsSome {T = LogAnswer} (cond b None None) → IsSome {T = Command} None
    by true h = absurd (cc)
    by false h = absurd (cc)
  due_some st (Some x) u i = refl

  kept_act : (st : State) (a : Act) (es : List Entry) (xs : List SendRun) → MayAct su st a → Kept su st es xs → Kept su (after_act su st a) (entries_act su st a es) (sends_act su st a xs)
  kept_act st Begun es xs may k = record { order = ordered_act su law st k.order Begun may; sends = (begins su law st k.order xs k.sends may.1.0 (upcoming su st) refl).0; logs = logs_begun su st es xs k.logs (upcoming su st) refl }
  kept_act st Answered es xs may k =
      let d = due_doing st.script.doing (due_to su st (current su st)) may.1 in
      record {
        order = ordered_act su law st k.order Answered may;
        sends = answers su law st k.order xs k.sends may.1 (current su st) refl;
        logs = logs_answered su st es xs k.logs (current su st) refl d (λ t. head_of t) (due_some st (current su st) refl may.1);
      }
    where
      head_of : is_send (current su st) ≡ true → (sent : SendRun) × (earlier : List SendRun) × (xs ≡ sent ∷ earlier)
      head_of t = by (current su st) refl t where
        by : (o : Option Command) → current su st ≡ o → is_send o ≡ true → (sent : SendRun) × (earlier : List SendRun) × (xs ≡ sent ∷ earlier)
        by None u t = absurd (cc)
        by (Some x) u t = next (send_or x) where
          next : ((q c : ℕ) × (payload : List ℕ) × (wait notify : Bool) × (x ≡ Send q c payload wait notify)) ⊎ (is_send (Some x) ≡ false) → (sent : SendRun) × (earlier : List SendRun) × (xs ≡ sent ∷ earlier)
          next (inl w) = let o = k.sends.head (due_doing st.script.doing (due_to su st (current su st)) may.1) w.0 w.1 w.2 w.3 w.4 (u ∙ ap (λ (y : Command). Some y) w.5) in (o.sent, o.earlier, o.sends_are)
          next (inr n) = absurd (cc)
  kept_act st (Noticed j d number how) es xs may k = record { order = ordered_act su law st k.order (Noticed j d number how) may; sends = notices su law st k.order xs k.sends j d number how (may.1.0, may.1.1); logs = record { same = k.logs.same; last = k.logs.last } }

  calm_act : (st : State) (a : Act) (es : List Entry) (xs : List SendRun) → MayAct su st a → Kept su st es xs → Unaccepted su st → Unaccepted su (after_act su st a)
  calm_act st Begun es xs may k calm = (begins su law st k.order xs k.sends may.1.0 (upcoming su st) refl).1
  calm_act st Answered es xs may k calm = λ q c payload wait notify e. absurd (cc)
  calm_act st (Noticed j d number how) es xs may k calm = notices_calm su law st k.order xs k.sends j d number how (may.1.0, may.1.1) calm

  kept_acts : (st : State) (acts : List Act) (es : List Entry) (xs : List SendRun) → MayActs su st acts → Kept su st es xs → Kept su (after_acts su st acts) (entries_acts su st acts es) (sends_acts su st acts xs)
  kept_acts st [] es xs may k = k
  kept_acts st (a ∷ more) es xs may k = kept_acts (after_act su st a) more (entries_act su st a es) (sends_act su st a xs) may.1 (kept_act st a es xs may.0 k)

  calm_acts : (st : State) (acts : List Act) (es : List Entry) (xs : List SendRun) → MayActs su st acts → Kept su st es xs → Unaccepted su st → Unaccepted su (after_acts su st acts)
  calm_acts st [] es xs may k calm = calm
  calm_acts st (a ∷ more) es xs may k calm = calm_acts (after_act su st a) more (entries_act su st a es) (sends_act su st a xs) may.1 (kept_act st a es xs may.0 k) (calm_act st a es xs may.0 k calm)

  kept_step : (st : State) (o : Option Marked) (es : List Entry) (xs : List SendRun) → MayMake su st o → Kept su st es xs → Unaccepted su st → Kept su (after_step su st o) es (sends_step su st o xs)
  kept_step st None es xs may k calm = k
  kept_step st (Some x) es xs may k calm = record {
    order = ordered_step su law st (Some x) may k.order;
    sends = sends_made su law st k.order x may calm xs k.sends;
    logs = subst (λ (o : Option Rule). Logs su (after_ruled su st o x.step.answer) es (sends_step su st (Some x) xs)) (sym may.decoded) (record { same = k.logs.same ∙ sym (stepped_given su st x (is_sending su st) xs); last = k.logs.last });
  }

  -- a moment
  none_busy : (e : End) → e.sides.send.send ≡ None → e.decided.send ≡ None → IsBusy e → ⊥
  none_busy e a b (inl t) = let z : is_some e.sides.send.send ≡ false = ap (λ (o : Option Sendable). is_some o) a in absurd (cc)
  none_busy e a b (inr t) = let z : is_some e.decided.send ≡ false = ap (λ (o : Option SendAnswer). is_some o) b in absurd (cc)

  booted_busy : (st : State) (q c : ℕ) → IsBusy (end_of (restarted su st) q c) → ⊥
  booted_busy st q c =
      at_each (λ (p : Peer). IsBusy (link_at p.links c) → ⊥) (λ j p. booted_peer p) st.peers q (cold_peer Old)
      (at_each (λ (e : End). IsBusy e → ⊥) (λ j e. booted_end e) (peer_of st q).links c idle_end (none_busy (booted_end (end_of st q c)) refl refl) (λ l. none_busy idle_end refl refl))
      (λ l. subst (λ (e : End). IsBusy e → ⊥) (sym (idle_at c)) (none_busy idle_end refl refl))

  moment_sends : (st : State) (turns : ℕ) (b stops : Bool) (xs : List SendRun) → SendsOf su st xs → SendsOf su (moment_by su b stops (turned turns st)) xs
  moment_sends st turns true stops xs k = record { busy = λ q c lq lc b. absurd (booted_busy (turned turns st) q c b); head = λ d. absurd (cc); each = k.each }
  moment_sends st turns false true xs k = record { busy = λ q c lq lc b. (let s = k.busy q c lq lc b in record { doing = s.doing; payload = s.payload; wait = s.wait; notify = s.notify; now = s.now }); head = λ d q c payload wait notify e. (let o = k.head d q c payload wait notify e in record { sent = o.sent; earlier = o.earlier; sends_are = o.sends_are; partner = o.partner; channel = o.channel; unanswered = o.unanswered; stage = o.stage }); each = k.each }
  moment_sends st turns false false xs k = record { busy = λ q c lq lc b. (let s = k.busy q c lq lc b in record { doing = s.doing; payload = s.payload; wait = s.wait; notify = s.notify; now = s.now }); head = λ d q c payload wait notify e. (let o = k.head d q c payload wait notify e in record { sent = o.sent; earlier = o.earlier; sends_are = o.sends_are; partner = o.partner; channel = o.channel; unanswered = o.unanswered; stage = o.stage }); each = k.each }

  moment_logs : (st : State) (turns : ℕ) (b stops : Bool) (es : List Entry) (xs : List SendRun) → Logs su st es xs → Logs su (moment_by su b stops (turned turns st)) es xs
  moment_logs st turns true stops es xs k = record { same = k.same; last = λ d. absurd (cc) }
  moment_logs st turns false true es xs k = record { same = k.same; last = k.last }
  moment_logs st turns false false es xs k = record { same = k.same; last = k.last }

  moment_calm : (st : State) (turns : ℕ) (b stops : Bool) → Unaccepted su st → Unaccepted su (moment_by su b stops (turned turns st))
  moment_calm st turns true stops k = λ q c payload wait notify d. absurd (cc)
  moment_calm st turns false true k = k
  moment_calm st turns false false k = k

  kept_moment : (st : State) (earlier turns : ℕ) (es : List Entry) (xs : List SendRun) → Kept su st es xs → Kept su (moment su earlier (turned turns st)) es xs
  kept_moment st earlier turns es xs k =
      let now = turned turns st in
      let b = restart_comes su earlier now && not (is_over now) in
      let stops = stop_comes su earlier now && not (is_over now) in
      record { order = ordered_moment su law st k.order earlier turns; sends = moment_sends st turns b stops xs k.sends; logs = moment_logs st turns b stops es xs k.logs }

  calm_moment : (st : State) (earlier turns : ℕ) → Unaccepted su st → Unaccepted su (moment su earlier (turned turns st))
  calm_moment st earlier turns k =
      let now = turned turns st in
      moment_calm st turns (restart_comes su earlier now && not (is_over now)) (stop_comes su earlier now && not (is_over now)) k

  -- turns
  kept_turns : (st : State) (ts : List Turn) (es : List Entry) (xs : List SendRun) → RunsFrom su st ts → Kept su st es xs → Unaccepted su st → Kept su (state_after su st ts) (entries_from su st ts es) (sends_from su st ts xs)
  kept_turns st [] es xs runs k calm = k
  kept_turns st (t ∷ ts) es xs runs k calm =
      let may = runs.0 in
      let first = kept_acts st t.before es xs may.before k in
      let calm_first = calm_acts st t.before es xs may.before k calm in
      let st1 = after_acts su st t.before in
      let es1 = entries_acts su st t.before es in
      let xs1 = sends_acts su st t.before xs in
      let second = kept_step st1 t.made es1 xs1 may.made first calm_first in
      let st2 = after_step su st1 t.made in
      let third = kept_acts st2 t.after es1 (sends_step su st1 t.made xs1) may.after second in
      let last = acted su st t in
      kept_turns (after_turn su st t) ts (entries_turn su st t es) (sends_turn su st t xs) runs.1
      (kept_moment last st.clock.puts (last.clock.turns + 1) (entries_turn su st t es) (sends_turn su st t xs) third)
      (calm_moment last st.clock.puts (last.clock.turns + 1) (unaccepted su last may.answered))

  -- the opening
  opened_kept : Kept su (opened_state su) [] []
  opened_kept = record {
    order = ordered_first su;
    sends = record { busy = λ q c lq lc b. absurd (opened_fact su q c (λ e. IsBusy e → ⊥) (none_busy idle_end refl refl) (λ new. none_busy (first_met new idle_end) refl refl) (λ new l. none_busy (warm_end new l) refl refl) b); head = λ d. absurd (cc); each = λ n x e. absurd (cc) };
    logs = record { same = refl; last = λ d. absurd (cc) };
  }

  started_kept : Kept su (start su) [] []
  started_kept = kept_moment (opened_state su) 0 0 [] [] opened_kept

  started_calm : Unaccepted su (start su)
  started_calm = calm_moment (opened_state su) 0 0 (λ q c payload wait notify d. absurd (cc))

pub all_answered : (s : Scenario) → IsLawful s → (h : List Event) (m : Memory) → ReachedWords s h m → SendAnswers s h
all_answered s law h m r =
    record { logged = λ p l. (kept p l).logs.same; caused = λ p place l x e answer a. (kept p l).sends.each place x e answer a }
  where
    kept : (p : ℕ) → p < s.count → Kept (part_of s p) (state_after (part_of s p) (start (part_of s p)) (turns_of p h)) (entries_of s h p) (sends_of s h p)
    kept p l = kept_turns (part_of s p) (lawful_part s p law l) (start (part_of s p)) (turns_of p h) [] [] (r.runs p l) (started_kept (part_of s p) (lawful_part s p law l)) (started_calm (part_of s p) (lawful_part s p law l))
