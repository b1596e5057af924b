-- A number is told as delivered only once the partner has acknowledged it, in each connection that ever was: of all partitions at once, whichever moves.
use Rattle.std.proofs.Common.{◌≡◌, ℕ, zero, suc, ◌<◌, arith, Bool, true, false, ◌&&◌, not, cond, eqb, ltb, List, [], ◌∷◌, refl, ap, sym, ◌∙◌, subst, Option, Some, None, inl, inr, ◌⊎◌}
use Rattle.std.specs.Prelude.{slice_get, is_some}
use Rattle.std.specs.List.{Contains}
use Rattle.std.proofs.lemmas.Bool.{cases_eq, ne_eqb, ltb-true}
use Rattle.std.proofs.lemmas.List.Elements.{All-contains, All-nil}
use Rattle.xp_base.specs.Memory.{Memory}
use Rattle.xp_base.specs.History.{Act, Begun, Answered, Noticed, NoticeKind, Delivered, Ended, Event, turns_of}
use Rattle.xp_base.specs.declared.step.Answer.{Answer}
use Rattle.xp_base.specs.declared.step.Answer.TheVariants.{Word, Failed}
use Rattle.xp_script.specs.declared.part.Link.{Link}
use Rattle.xp_script.specs.declared.part.ScenarioPart.{ScenarioPart}
use Rattle.xp_script.specs.declared.scenario.Scenario.{Scenario}
use Rattle.xp_script.specs.Parts.{part_of}
use Rattle.xp_script.specs.Lawful.{IsLawful}
use Rattle.xp_protocol.specs.declared.rule.Rule.{Rule}
use Rattle.xp_protocol.specs.Records.{Recorded, opened_record}
use Rattle.xp_protocol.specs.Effects.{Note, Told, with_notes}
use Rattle.xp_protocol.specs.State.{State, End, Peer, Contact, Old, cold_peer, idle_end, opened_state, is_begun, end_of, peer_of, link_at}
use Rattle.xp_protocol.specs.Linking.{booted_end}
use Rattle.xp_protocol.specs.Peering.{booted_peer}
use Rattle.xp_protocol.specs.Rules.{Can, after_answer, noted_rule}
use Rattle.xp_protocol.specs.Acts.{Aim, MayAct, after_act, aimed, noted_aim, notice_due, below, end_noticed}
use Rattle.xp_protocol.specs.Runs.{start, turned, moment_by, restart_comes, stop_comes, is_over, restarted}
use Rattle.xp_protocol.specs.Logged.{is_at, opened_records}
use Rattle.xp_protocol.specs.Reached.{ReachedWords}
use Rattle.xp_protocol.specs.Promised.{IsLine, Name, name_of, first_named, acked_of, records_of}
use Rattle.xp_protocol.proofs.LawfulParts.{lawful_part}
use Rattle.xp_protocol.proofs.Slots.{at_each}
use Rattle.xp_protocol.proofs.Frames.{aim_frame, idle_at}
use Rattle.xp_protocol.proofs.Opened.{opened_fact}
use Rattle.xp_meetings.proofs.Words.{Words, Agrees}
use Rattle.xp_meetings.proofs.Always.{at_one, one_here, does_rule, answer_word}
use Rattle.xp_meetings.proofs.Opening.{opening_words}
use Rattle.xp_meetings.proofs.Parts.{Part, part_start, part_act, part_ruled, part_moment, from_books}
use Rattle.xp_promises.proofs.Books.{names, Apart}
use Rattle.xp_promises.proofs.Before.{whole, part_at}
use Rattle.xp_promises.proofs.Reuses.{Both, both_act, both_rule, both_failed, both_moment, both_first, fine_known, other_acked}
use Rattle.xp_records.specs.Noticed.{DeliveredAcknowledged}
use Rattle.xp_records.proofs.Flow.{acks_in}
use Rattle.xp_records.proofs.Changes.{Orders}
use Rattle.xp_records.proofs.Parts.{Ordered, IsCommand, rule_orders, act_orders, ordered_rule, ordered_act, ordered_moment, ordered_first}
use Rattle.xp_records.proofs.Backing.{Grows, notes_grow, orders_grow, AreBacked, backed_notes, IsKnown, known_notes, theirs_of, Backs, backs_grown, known_first, backed_told}

abbrev BacksAt : Part → Part → ℕ → ℕ → ℕ → Type 0
BacksAt y z p q c = Backs (end_of y.state q c) (y.books q c) (z.books p c)

-- an end that changes in its order, and is in contact by what holds of both, or out of it
own_backs : (q c : ℕ) (e x : End) (ns : List Note) (rs ss : List Recorded) → Orders q c e x ns → (is_some x.shake.meet ≡ true → is_begun x ≡ true → IsKnown (theirs_of ss) x.sides.send.remote_get (with_notes q c ns rs)) → Backs e rs ss → Backs x (with_notes q c ns rs) ss
own_backs q c e x ns rs ss o on h = record { backed = backed_notes (theirs_of ss) q c ns rs o.told h.backed; known = λ b. by x.shake.meet refl b } where
  by : (m : Option Contact) → x.shake.meet ≡ m → is_begun x ≡ true → IsKnown (theirs_of ss) x.sides.send.remote_get (with_notes q c ns rs)
  by (Some m) i b = on (ap (λ (z : Option Contact). is_some z) i) b
  by None i b = let k = o.off i b in known_notes (theirs_of ss) x.sides.send.remote_get q c ns rs k.2 (subst (λ (n : ℕ). IsKnown (theirs_of ss) n rs) (sym k.1) (h.known k.0))

due_below : (get : ℕ) (ns : List ℕ) (number : ℕ) → below get ns ≡ Some number → (more : List ℕ) × (ns ≡ number ∷ more) × (number < get)
due_below get [] number h = absurd (cc)
due_below get (n ∷ more) number h = by (ltb n get) refl h where
  by : (z : Bool) → ltb n get ≡ z → cond z (Some n) None ≡ Some number → (rest : List ℕ) × (n ∷ more ≡ number ∷ rest) × (number < get)
  by true t g = let s : n ≡ number = cc in (more, ap (λ (x : ℕ). x ∷ more) s, subst (λ (x : ℕ). x < get) s (ltb-true n get t))
  by false t g = absurd (cc)

-- a notice
noticed_backs : (q c number : ℕ) (how : NoticeKind) (e : End) (rs ss : List Recorded) → notice_due how e ≡ Some number → (is_begun e ≡ false → e.sides.pending_notices ≡ []) → Backs e rs ss → Backs (end_noticed how number e).local (with_notes q c (end_noticed how number e).notes rs) ss
noticed_backs q c number Ended e rs ss due none h = record { backed = h.backed; known = h.known }
noticed_backs q c number Delivered e rs ss due none h = record {
  backed = backed_told (theirs_of ss) q c number e.sides.send.remote_get rs k.2 (h.known (begun (is_begun e) refl)) h.backed;
  known = λ b. known_notes (theirs_of ss) e.sides.send.remote_get q c (Told number ∷ []) rs refl (h.known b);
} where
  k : (more : List ℕ) × (e.sides.pending_notices ≡ number ∷ more) × (number < e.sides.send.remote_get)
  k = due_below e.sides.send.remote_get e.sides.pending_notices number due

  begun : (b : Bool) → is_begun e ≡ b → is_begun e ≡ true
  begun true t = t
  begun false t = let z : [] ≡ number ∷ k.0 = sym (none t) ∙ k.1 in absurd (cc)

noticed_acks : (how : NoticeKind) (number : ℕ) (e : End) → acks_in (end_noticed how number e).notes ≡ []
noticed_acks Delivered number e = refl
noticed_acks Ended number e = refl

-- an end that isn't begun
same_backs : (e x : End) (rs ss : List Recorded) → (is_begun x ≡ true → (is_begun e ≡ true) × (x.sides.send.remote_get ≡ e.sides.send.remote_get)) → Backs e rs ss → Backs x rs ss
same_backs e x rs ss f h = record { backed = h.backed; known = λ b. (let k = f b in subst (λ (n : ℕ). IsKnown (theirs_of ss) n rs) (sym k.1) (h.known k.0)) }

restarted_begun : (su : ScenarioPart) (st : State) (q c : ℕ) → is_begun (end_of (restarted su st) q c) ≡ false
restarted_begun su st q c =
    at_each (λ (p : Peer). is_begun (link_at p.links c) ≡ false) (λ j p. booted_peer p) st.peers q (cold_peer Old)
    (at_each (λ (e : End). is_begun e ≡ false) (λ j e. booted_end e) (peer_of st q).links c idle_end refl (λ l. refl))
    (λ l. subst (λ (e : End). is_begun e ≡ false) (sym (idle_at c)) refl)

restarted_remote : (su : ScenarioPart) (st : State) (q c : ℕ) → (end_of (restarted su st) q c).sides.send.remote_get ≡ 0
restarted_remote su st q c =
    at_each (λ (p : Peer). (link_at p.links c).sides.send.remote_get ≡ 0) (λ j p. booted_peer p) st.peers q (cold_peer Old)
    (at_each (λ (e : End). e.sides.send.remote_get ≡ 0) (λ j e. booted_end e) (peer_of st q).links c idle_end refl (λ l. refl))
    (λ l. subst (λ (e : End). e.sides.send.remote_get ≡ 0) (sym (idle_at c)) refl)

first_remote : (su : ScenarioPart) (q c : ℕ) → (end_of (start su) q c).sides.send.remote_get ≡ 0
first_remote su q c =
    let now = opened_state su in
    by (restart_comes su 0 now && not (is_over now)) (stop_comes su 0 now && not (is_over now)) where
      opened : (end_of (opened_state su) q c).sides.send.remote_get ≡ 0
      opened = opened_fact su q c (λ e. e.sides.send.remote_get ≡ 0) refl (λ new. refl) (λ new l. refl)

      by : (b stops : Bool) → (end_of (moment_by su b stops (opened_state su)) q c).sides.send.remote_get ≡ 0
      by true stops = restarted_remote su (opened_state su) q c
      by false true = opened
      by false false = opened

module _ (s : Scenario) (law : IsLawful s) where
  record Inv (w : Words) (σ : ℕ → Part) : Type 0 where
    both : Both s law w σ
    ordered : (p : ℕ) → p < s.count → Ordered s.count (σ p).state
    backs : (p q c : ℕ) → IsLine s p q c → BacksAt (σ p) (σ q) p q c

  ordered_one : (σ : ℕ → Part) (a : ℕ) (k : Part) → ((p : ℕ) → p < s.count → Ordered s.count (σ p).state) → Ordered s.count k.state → (p : ℕ) → p < s.count → Ordered s.count (at_one σ a k p).state
  ordered_one σ a k h new p l = by (eqb a p) where
    by : (b : Bool) → Ordered s.count (cond b k (σ p)).state
    by true = new
    by false = h p l

  turned_line : (p q c : ℕ) → IsLine s p q c → IsLine s q p c
  turned_line p q c l = record { first = l.second; second = l.first; apart = λ e. l.apart (sym e); channel = l.channel }

  far : (σ : ℕ → Part) (a : ℕ) (k : Part) (q : ℕ) → (a ≡ q → ⊥) → at_one σ a k q ≡ σ q
  far σ a k q n = rw (ne_eqb a q n) refl

  -- one partition moves
  module _ (w w' : Words) (σ : ℕ → Part) (a : ℕ) (k : Part) (i : Inv w σ) (new : Both s law w' (at_one σ a k)) where
    -- what holds of both ends after it
    fine_apart : (q c : ℕ) → IsLine s a q c → Apart (names (k.books q c))
    fine_apart q c l = subst (λ (y : Part). Apart (names (y.books q c))) (one_here σ a k) ((new.good.fine a q c l).apart)

    fine_first : (q c : ℕ) → IsLine s a q c → is_some (end_of k.state q c).shake.meet ≡ true → is_begun (end_of k.state q c) ≡ true → IsKnown (theirs_of ((σ q).books a c)) (end_of k.state q c).sides.send.remote_get (k.books q c)
    fine_first q c l =
        let T : Part → Part → Type 0 = λ y z. is_some (end_of y.state q c).shake.meet ≡ true → is_begun (end_of y.state q c) ≡ true → IsKnown (theirs_of (z.books a c)) (end_of y.state q c).sides.send.remote_get (y.books q c) in
        let σ' = at_one σ a k in
        subst (λ (z : Part). T k z) (far σ a k q l.apart) (subst (λ (y : Part). T y (σ' q)) (one_here σ a k)
        (λ on begun. known_first (end_of (σ' a).state q c).sides.send.remote_get ((σ' a).books q c) ((σ' q).books a c) (fine_known _ _ _ _ ((σ' a).books q c) ((σ' q).books a c) (end_of (σ' a).state q c) (end_of (σ' q).state a c) on begun (new.good.fine a q c l))))

    moved : ((q c : ℕ) → IsLine s a q c → BacksAt k (σ q) a q c) → ((q c : ℕ) → IsLine s a q c → Grows ((σ a).books q c) (k.books q c)) → (p q c : ℕ) → IsLine s p q c → BacksAt (at_one σ a k p) (at_one σ a k q) p q c
    moved own grown p q c l = by (cases_eq a p) (cases_eq a q) where
      by : (a ≡ p) ⊎ (a ≡ p → ⊥) → (a ≡ q) ⊎ (a ≡ q → ⊥) → BacksAt (at_one σ a k p) (at_one σ a k q) p q c
      by (inl e) b =
          let l' = subst (λ (x : ℕ). IsLine s x q c) (sym e) l in
          subst (λ (x : ℕ). BacksAt (at_one σ a k x) (at_one σ a k q) x q c) e (subst (λ (z : Part). BacksAt (at_one σ a k a) z a q c) (sym (far σ a k q l'.apart)) (subst (λ (y : Part). BacksAt y (σ q) a q c) (sym (one_here σ a k)) (own q c l')))
      by (inr n) (inl e) =
          let l' = subst (λ (x : ℕ). IsLine s p x c) (sym e) l in
          subst (λ (x : ℕ). BacksAt (at_one σ a k p) (at_one σ a k x) p x c) e (subst (λ (z : Part). BacksAt (at_one σ a k p) z p a c) (sym (one_here σ a k)) (subst (λ (y : Part). BacksAt y k p a c) (sym (far σ a k p n)) (backs_grown (end_of (σ p).state a c) ((σ p).books a c) ((σ a).books p c) (k.books p c) (grown p c (turned_line p a c l')) (i.backs p a c l'))))
      by (inr n) (inr m) = subst (λ (z : Part). BacksAt (at_one σ a k p) z p q c) (sym (far σ a k q m)) (subst (λ (y : Part). BacksAt y (σ q) p q c) (sym (far σ a k p n)) (i.backs p q c l))

  keeps_rule : (w w' : Words) (σ : ℕ → Part) (a : ℕ) (r : Rule) (x : Answer) → a < s.count → Inv w σ → Can (part_of s a) (σ a).state r → Both s law w' (at_one σ a (part_ruled (part_of s a) (σ a) r x)) → Inv w' (at_one σ a (part_ruled (part_of s a) (σ a) r x))
  keeps_rule w w' σ a r x la i can new =
      let su = part_of s a in
      let su_law = lawful_part s a law la in
      let k = part_ruled su (σ a) r x in
      let st = (σ a).state in
      let order : (q c : ℕ) → IsLine s a q c → Orders q c (end_of st q c) (end_of (after_answer su st r x) q c) (noted_rule su st r x q c) = λ q c l. rule_orders su su_law st (i.ordered a la) r x can q c l.second l.channel in
      record {
        both = new;
        ordered = ordered_one σ a k i.ordered (ordered_rule su su_law st (i.ordered a la) r x can);
        backs = moved w w' σ a k i new
            (λ q c l. own_backs q c (end_of st q c) (end_of k.state q c) (noted_rule su st r x q c) ((σ a).books q c) ((σ q).books a c) (order q c l) (fine_first w w' σ a k i new q c l) (i.backs a q c l))
            (λ q c l. orders_grow q c (end_of st q c) (end_of k.state q c) (noted_rule su st r x q c) ((σ a).books q c) ((i.both.owned a la).ends q c l.second l.channel) (order q c l) (fine_apart w w' σ a k i new q c l));
      }

  keeps_command : (w : Words) (σ : ℕ → Part) (a : ℕ) (x : Act) → a < s.count → Inv w σ → IsCommand x → MayAct (part_of s a) (σ a).state x → Inv w (at_one σ a (part_act (part_of s a) (σ a) x))
  keeps_command w σ a x la i is may =
      let su = part_of s a in
      let su_law = lawful_part s a law la in
      let k = part_act su (σ a) x in
      let st = (σ a).state in
      let new = both_act s law w σ a x la i.both may in
      let order : (q c : ℕ) → IsLine s a q c → Orders q c (end_of st q c) (end_of (after_act su st x) q c) (noted_aim (aimed su st x) q c) = λ q c l. act_orders su su_law st (i.ordered a la) x is q c l.second l.channel in
      record {
        both = new;
        ordered = ordered_one σ a k i.ordered (ordered_act su su_law st (i.ordered a la) x may);
        backs = moved w w σ a k i new
            (λ q c l. own_backs q c (end_of st q c) (end_of k.state q c) (noted_aim (aimed su st x) q c) ((σ a).books q c) ((σ q).books a c) (order q c l) (fine_first w w σ a k i new q c l) (i.backs a q c l))
            (λ q c l. orders_grow q c (end_of st q c) (end_of k.state q c) (noted_aim (aimed su st x) q c) ((σ a).books q c) ((i.both.owned a la).ends q c l.second l.channel) (order q c l) (fine_apart w w σ a k i new q c l));
      }

  keeps_notice : (w : Words) (σ : ℕ → Part) (a j d number : ℕ) (how : NoticeKind) → a < s.count → Inv w σ → MayAct (part_of s a) (σ a).state (Noticed j d number how) → Inv w (at_one σ a (part_act (part_of s a) (σ a) (Noticed j d number how)))
  keeps_notice w σ a j d number how la i may =
      let su = part_of s a in
      let su_law = lawful_part s a law la in
      let x : Act = Noticed j d number how in
      let k = part_act su (σ a) x in
      let st = (σ a).state in
      let new = both_act s law w σ a x la i.both may in
      let e = end_of st j d in
      let y : Aim = record { partner = j; channel = d; effect = end_noticed how number e } in
      let all = (i.ordered a la).all in
      record {
        both = new;
        ordered = ordered_one σ a k i.ordered (ordered_act su su_law st (i.ordered a la) x may);
        backs = moved w w σ a k i new
            (λ q c l. aim_frame (λ e ns. Backs e (with_notes q c ns ((σ a).books q c)) ((σ q).books a c)) st y q c all may.1.0 may.1.1
            (λ f g. noticed_backs q c number how e ((σ a).books q c) ((σ q).books a c) may.1.2 ((i.ordered a la).flows j d may.1.0 may.1.1).unbegun (subst (λ (z : ℕ). Backs (end_of st z d) ((σ a).books q c) ((σ q).books a c)) (sym f) (subst (λ (z : ℕ). Backs (end_of st q z) ((σ a).books q c) ((σ q).books a c)) (sym g) (i.backs a q c l))))
            (i.backs a q c l))
            (λ q c l. notes_grow q c (noted_aim (Some y) q c) ((σ a).books q c) (aim_frame (λ e ns. acks_in ns ≡ []) st y q c all may.1.0 may.1.1 (λ f g. noticed_acks how number e) refl) (fine_apart w w σ a k i new q c l));
      }

  keeps_act : (w : Words) (σ : ℕ → Part) (a : ℕ) (x : Act) → a < s.count → Inv w σ → MayAct (part_of s a) (σ a).state x → Inv w (at_one σ a (part_act (part_of s a) (σ a) x))
  keeps_act w σ a Begun la i may = keeps_command w σ a Begun la i tt may
  keeps_act w σ a Answered la i may = keeps_command w σ a Answered la i tt may
  keeps_act w σ a (Noticed j d number how) la i may = keeps_notice w σ a j d number how la i may

  -- a moment
  ends_at : (su : ScenarioPart) (st : State) (turns : ℕ) (b stops : Bool) (q c : ℕ) → is_begun (end_of (moment_by su b stops (turned turns st)) q c) ≡ true → (is_begun (end_of st q c) ≡ true) × ((end_of (moment_by su b stops (turned turns st)) q c).sides.send.remote_get ≡ (end_of st q c).sides.send.remote_get)
  ends_at su st turns true stops q c b = let z = restarted_begun su (turned turns st) q c in absurd (cc)
  ends_at su st turns false true q c b = (b, refl)
  ends_at su st turns false false q c b = (b, refl)

  keeps_moment : (w : Words) (σ : ℕ → Part) (a earlier turns : ℕ) → a < s.count → Inv w σ → Inv w (at_one σ a (part_moment (part_of s a) earlier turns (σ a)))
  keeps_moment w σ a earlier turns la i =
      let su = part_of s a in
      let k = part_moment su earlier turns (σ a) in
      let st = (σ a).state in
      let now = turned turns st in
      let new = both_moment s law w σ a earlier turns la i.both in
      record {
        both = new;
        ordered = ordered_one σ a k i.ordered (ordered_moment su (lawful_part s a law la) st (i.ordered a la) earlier turns);
        backs = moved w w σ a k i new
            (λ q c l. same_backs (end_of st q c) (end_of k.state q c) ((σ a).books q c) ((σ q).books a c) (ends_at su st turns (restart_comes su earlier now && not (is_over now)) (stop_comes su earlier now && not (is_over now)) q c) (i.backs a q c l))
            (λ q c l k. omega arith);
      }

  -- the opening
  opened_backed : (b : Name → ℕ) (ls : List Link) (q c : ℕ) → AreBacked b (opened_records ls q c)
  opened_backed b [] q c = tt
  opened_backed b (l ∷ ls) q c = by (is_at l q c) (opened_backed b ls q c) where
    by : (z : Bool) → AreBacked b (opened_records ls q c) → AreBacked b (cond z (opened_record l ∷ []) (opened_records ls q c))
    by true h = (All-nil (λ (n : ℕ). n < b (name_of (opened_record l))), tt)
    by false h = h

  none_known : (b : Name → ℕ) (n : ℕ) (rs : List Recorded) → n ≡ 0 → IsKnown b n rs
  none_known b n [] e = tt
  none_known b n (r ∷ rs) e = omega (arith, e)

  first_inv : Inv (opening_words s) (λ p. part_start (part_of s p))
  first_inv = record {
    both = both_first s law;
    ordered = λ p l. ordered_moment (part_of s p) (lawful_part s p law l) (opened_state (part_of s p)) (ordered_first (part_of s p)) 0 0;
    backs = λ p q c l. record { backed = opened_backed (theirs_of ((part_start (part_of s q)).books p c)) (part_of s p).links q c; known = λ b. none_known (theirs_of ((part_start (part_of s q)).books p c)) (end_of (start (part_of s p)) q c).sides.send.remote_get (opened_records (part_of s p).links q c) (first_remote (part_of s p) q c) };
  }

  whole_inv : (h : List Event) (m : Memory) → ReachedWords s h m → (w : Words) × Agrees s.count m w × Inv w (part_at s h)
  whole_inv = whole s law Inv keeps_act
      (λ w σ a r la i can. keeps_rule w (does_rule (part_of s a) (σ a).state r w) σ a r (Word (answer_word (part_of s a) (σ a).state r w)) la i can (both_rule s law w σ a r la i.both can))
      (λ w σ a r la i can. keeps_rule w w σ a r Failed la i can (both_failed s law w σ a r la i.both can))
      keeps_moment first_inv

  backed_at : (ss rs : List Recorded) (j : ℕ) (r : Recorded) → AreBacked (theirs_of ss) rs → slice_get rs j ≡ Some r → (n : ℕ) → Contains r.delivered n → n < acked_of (first_named r ss)
  backed_at ss [] j r h e n m = absurd (cc)
  backed_at ss (x ∷ rs) zero r h e n m =
      let same : x ≡ r = cc in
      let below = All-contains (λ (i : ℕ). i < theirs_of ss (name_of x)) x.delivered n h.0 (subst (λ (y : Recorded). Contains y.delivered n) (sym same) m) in
      let k = other_acked x ss in
      let less : n < acked_of (first_named x ss) = omega (arith, below, k) in
      subst (λ (y : Recorded). n < acked_of (first_named y ss)) same less
  backed_at ss (x ∷ rs) (suc j) r h e n m = backed_at ss rs j r h.1 e n m

  pub delivered_acked : (h : List Event) (m : Memory) → ReachedWords s h m → DeliveredAcknowledged s h
  delivered_acked h m reached p q c n l r is has =
      let i = (whole_inv h m reached).2 in
      let mine = from_books (part_of s p) (part_start (part_of s p)) (turns_of p h) q c in
      let theirs = from_books (part_of s q) (part_start (part_of s q)) (turns_of q h) p c in
      backed_at (records_of s h q p c) (records_of s h p q c) is.number r (subst (λ (rs : List Recorded). AreBacked (theirs_of (records_of s h q p c)) rs) mine (subst (λ (ss : List Recorded). AreBacked (theirs_of ss) ((part_at s h p).books q c)) theirs (i.backs p q c l).backed)) is.listed n has

pub all_acked : (s : Scenario) → IsLawful s → (h : List Event) (m : Memory) → ReachedWords s h m → DeliveredAcknowledged s h
all_acked s law h m r = delivered_acked s law h m r
