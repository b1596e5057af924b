-- The numbers that the records of an end have as told are the notices that were given at it, turn by turn.
use Rattle.std.proofs.Common.{◌≡◌, ℕ, ◌+◌, ◌<◌, Bool, true, false, cond, List, [], ◌∷◌, ◌++◌, refl, ap, sym, ◌∙◌, subst, append_assoc, zero, suc, Option, Some, None, inl}
use Rattle.std.specs.Prelude.{slice_get}
use Rattle.std.proofs.lemmas.Bool.{eq-eqb}
use Rattle.std.proofs.lemmas.List.{append-nil}
use Rattle.xp_base.specs.Memory.{Memory}
use Rattle.xp_base.specs.History.{Act, NoticeKind, Delivered, Ended, Marked, Turn, Event, Turned, turns_of}
use Rattle.xp_base.proofs.HistoryLemmas.{turns_of-append}
use Rattle.xp_script.specs.declared.part.Link.{Link}
use Rattle.xp_script.specs.declared.part.ScenarioPart.{ScenarioPart}
use Rattle.xp_script.specs.declared.scenario.Scenario.{Scenario}
use Rattle.xp_script.specs.Parts.{part_of}
use Rattle.xp_script.specs.Lawful.{IsLawful}
use Rattle.xp_protocol.specs.Parts.{IsLawfulPart}
use Rattle.xp_protocol.specs.Records.{Recorded, opened_record}
use Rattle.xp_protocol.specs.Logged.{is_at, opened_records}
use Rattle.xp_protocol.specs.State.{State, End, end_of}
use Rattle.xp_protocol.specs.Acts.{MayActs, after_acts, first_number, notice_due}
use Rattle.xp_protocol.specs.Runs.{MayMake, May, RunsFrom, start, acted, after_step, after_turn}
use Rattle.xp_protocol.specs.Reached.{ReachedWords, state_at}
use Rattle.xp_protocol.specs.Promised.{IsLine, IsRecord, records_of}
use Rattle.xp_protocol.proofs.LawfulParts.{lawful_part}
use Rattle.xp_meetings.proofs.Parts.{Part, part_opened, part_start, part_act, part_acts, part_step, part_turn, part_from, step_same, acts_state, turn_state, from_state, from_books}
use Rattle.xp_promises.proofs.Owns.{Owned, owned_act, owned_rule, owned_moment, owned_first}
use Rattle.xp_promises.proofs.NoticesKept.{first_due, turn_due, turns_due}
use Rattle.xp_promises.proofs.Before.{split}
use Rattle.xp_records.specs.Noticed.{notice_in, notices_in, notices_turn, notices_of, all_told, NoticesRecorded}
use Rattle.xp_records.proofs.Flow.{IsExplained, AreExplained}
use Rattle.xp_records.proofs.Parts.{Ordered, ordered_act, ordered_rule, ordered_moment}
use Rattle.xp_records.proofs.Anew.{ordered_start}
use Rattle.xp_records.proofs.Tally.{Tally, tally_act, tally_rule}

no_ended : (e : End) → notice_due Ended e ≡ None → e.ended ≡ []
no_ended e h = by e.ended h where
  by : (ns : List ℕ) → first_number ns ≡ None → ns ≡ []
  by [] g = refl
  by (n ∷ more) g = absurd (cc)

-- a partition with all that is kept of it
pub record Told (su : ScenarioPart) (q c : ℕ) (k : Part) (ds es : List ℕ) : Type 0 where
  pub own : Owned su.count k
  pub order : Ordered su.count k.state
  pub tally : Tally q c k ds es

module _ (su : ScenarioPart) (law : IsLawfulPart su) (q c : ℕ) (lq : q < su.count) (lc : c < 4) where
  told_acts : (k : Part) (acts : List Act) (d n : List ℕ) → MayActs su k.state acts → Told su q c k d n → Told su q c (part_acts su k acts) (d ++ notices_in Delivered q c acts) (n ++ notices_in Ended q c acts)
  told_acts k [] d n may t = subst (λ (xs : List ℕ). Told su q c k xs (n ++ [])) (sym (append-nil d)) (subst (λ (xs : List ℕ). Told su q c k d xs) (sym (append-nil n)) t)
  told_acts k (a ∷ more) d n may t =
      let next : Told su q c (part_act su k a) (d ++ notice_in Delivered q c a) (n ++ notice_in Ended q c a) = record { own = owned_act su law k t.own a may.0; order = ordered_act su law k.state t.order a may.0; tally = tally_act su law q c lq lc k a d n may.0 t.own t.order t.tally } in
      let r = told_acts (part_act su k a) more (d ++ notice_in Delivered q c a) (n ++ notice_in Ended q c a) may.1 next in
      subst (λ (xs : List ℕ). Told su q c (part_acts su (part_act su k a) more) xs (n ++ (notice_in Ended q c a ++ notices_in Ended q c more))) (append_assoc d (notice_in Delivered q c a) (notices_in Delivered q c more))
      (subst (λ (xs : List ℕ). Told su q c (part_acts su (part_act su k a) more) ((d ++ notice_in Delivered q c a) ++ notices_in Delivered q c more) xs) (append_assoc n (notice_in Ended q c a) (notices_in Ended q c more)) r)

  told_step : (k : Part) (o : Option Marked) (d n : List ℕ) → MayMake su k.state o → Told su q c k d n → Told su q c (part_step su k o) d n
  told_step k None d n may t = t
  told_step k (Some x) d n may t = subst (λ (z : Part). Told su q c z d n) (sym (step_same su k x may.rule may.decoded)) (record { own = owned_rule su law k t.own may.rule x.step.answer may.can; order = ordered_rule su law k.state t.order may.rule x.step.answer may.can; tally = tally_rule su law q c lq lc k may.rule x.step.answer d n may.can t.own t.order t.tally })

  told_turn : (k : Part) (t : Turn) (d n : List ℕ) → May su k.state t → Told su q c k d n → Told su q c (part_turn su k t) (d ++ notices_turn Delivered q c t) (n ++ notices_turn Ended q c t)
  told_turn k t d n may h =
      let first = part_acts su k t.before in
      let e = acts_state su k t.before in
      let one = told_acts k t.before d n may.before h in
      let two = told_step first t.made (d ++ notices_in Delivered q c t.before) (n ++ notices_in Ended q c t.before) (subst (λ (st : State). MayMake su st t.made) (sym e) may.made) one in
      let second = part_step su first t.made in
      let three = told_acts second t.after (d ++ notices_in Delivered q c t.before) (n ++ notices_in Ended q c t.before) (subst (λ (st : State). MayActs su (after_step su st t.made) t.after) (sym e) may.after) two in
      let last = part_acts su second t.after in
      let is : last.state ≡ acted su k.state t = acts_state su second t.after ∙ ap (λ (st : State). after_acts su (after_step su st t.made) t.after) e in
      let gone : (end_of last.state q c).ended ≡ [] = ap (λ (st : State). (end_of st q c).ended) is ∙ no_ended (end_of (acted su k.state t) q c) (may.noticed q c Ended lq lc) in
      let after : (end_of (part_turn su k t).state q c).ended ≡ [] = ap (λ (st : State). (end_of st q c).ended) (turn_state su k t) ∙ no_ended (end_of (after_turn su k.state t) q c) (turn_due su k.state t q c lq lc may Ended) in
      record {
        own = owned_moment su law last three.own k.state.clock.puts (last.state.clock.turns + 1);
        order = ordered_moment su law last.state three.order k.state.clock.puts (last.state.clock.turns + 1);
        tally = record {
          delivered = three.tally.delivered ∙ append_assoc d (notices_in Delivered q c t.before) (notices_in Delivered q c t.after);
          ended = three.tally.ended ∙ (λ i. append_assoc n (notices_in Ended q c t.before) (notices_in Ended q c t.after) i ++ gone i) ∙ ap (λ (xs : List ℕ). (n ++ notices_turn Ended q c t) ++ xs) (sym after);
          explained = three.tally.explained;
        };
      }

  pub told_turns : (k : Part) (ts : List Turn) (d n : List ℕ) → RunsFrom su k.state ts → Told su q c k d n → Told su q c (part_from su k ts) (d ++ notices_of Delivered q c ts) (n ++ notices_of Ended q c ts)
  told_turns k [] d n runs h = subst (λ (xs : List ℕ). Told su q c k xs (n ++ [])) (sym (append-nil d)) (subst (λ (xs : List ℕ). Told su q c k d xs) (sym (append-nil n)) h)
  told_turns k (t ∷ ts) d n runs h =
      let next = told_turn k t d n runs.0 h in
      let r = told_turns (part_turn su k t) ts (d ++ notices_turn Delivered q c t) (n ++ notices_turn Ended q c t) (subst (λ (st : State). RunsFrom su st ts) (sym (turn_state su k t)) runs.1) next in
      subst (λ (xs : List ℕ). Told su q c (part_from su (part_turn su k t) ts) xs (n ++ (notices_turn Ended q c t ++ notices_of Ended q c ts))) (append_assoc d (notices_turn Delivered q c t) (notices_of Delivered q c ts))
      (subst (λ (xs : List ℕ). Told su q c (part_from su (part_turn su k t) ts) ((d ++ notices_turn Delivered q c t) ++ notices_of Delivered q c ts) xs) (append_assoc n (notices_turn Ended q c t) (notices_of Ended q c ts)) r)

  -- the opening
  opened_told : (how : NoticeKind) (ls : List Link) → all_told how (opened_records ls q c) ≡ []
  opened_told how [] = refl
  opened_told how (l ∷ ls) = by how (is_at l q c) (opened_told how ls) where
    by : (how : NoticeKind) (b : Bool) → all_told how (opened_records ls q c) ≡ [] → all_told how (cond b (opened_record l ∷ []) (opened_records ls q c)) ≡ []
    by Delivered true e = refl
    by Ended true e = refl
    by how false e = e

  opened_explained : (ls : List Link) → AreExplained (opened_records ls q c)
  opened_explained [] = tt
  opened_explained (l ∷ ls) = by (is_at l q c) (opened_explained ls) where
    by : (b : Bool) → AreExplained (opened_records ls q c) → AreExplained (cond b (opened_record l ∷ []) (opened_records ls q c))
    by true h = (inl refl, tt)
    by false h = h

  pub told_start : Told su q c (part_start su) [] []
  told_start = record {
    own = owned_moment su law (part_opened su) (owned_first su) 0 0;
    order = ordered_start su law;
    tally = record { delivered = opened_told Delivered su.links; ended = opened_told Ended su.links ∙ sym (no_ended (end_of (start su) q c) (first_due su q c Ended)); explained = opened_explained su.links };
  }

explained_at : (rs : List Recorded) (i : ℕ) (r : Recorded) → AreExplained rs → slice_get rs i ≡ Some r → IsExplained r
explained_at [] i r h e = absurd (cc)
explained_at (x ∷ rs) zero r h e = let same : x ≡ r = cc in subst (λ (y : Recorded). IsExplained y) same h.0
explained_at (x ∷ rs) (suc i) r h e = explained_at rs i r h.1 e

notices_append : (how : NoticeKind) (q c : ℕ) (ts us : List Turn) → notices_of how q c (ts ++ us) ≡ notices_of how q c ts ++ notices_of how q c us
notices_append how q c [] us = refl
notices_append how q c (t ∷ ts) us = ap (λ (xs : List ℕ). notices_turn how q c t ++ xs) (notices_append how q c ts us) ∙ sym (append_assoc (notices_turn how q c t) (notices_of how q c ts) (notices_of how q c us))

module _ (s : Scenario) (law : IsLawful s) where
  told_at : (h : List Event) (m : Memory) → ReachedWords s h m → (p q c : ℕ) → IsLine s p q c → Told (part_of s p) q c (part_from (part_of s p) (part_start (part_of s p)) (turns_of p h)) (notices_of Delivered q c (turns_of p h)) (notices_of Ended q c (turns_of p h))
  told_at h m r p q c l = told_turns (part_of s p) (lawful_part s p law l.first) q c l.second l.channel (part_start (part_of s p)) (turns_of p h) [] [] (r.runs p l.first) (told_start (part_of s p) (lawful_part s p law l.first) q c l.second l.channel)

  due_after : (h : List Event) (m : Memory) → ReachedWords s h m → (p q c : ℕ) → IsLine s p q c → (end_of (part_from (part_of s p) (part_start (part_of s p)) (turns_of p h)).state q c).ended ≡ []
  due_after h m r p q c l = ap (λ (st : State). (end_of st q c).ended) (from_state (part_of s p) (part_start (part_of s p)) (turns_of p h)) ∙ no_ended (end_of (state_at s h p) q c) (turns_due (part_of s p) (start (part_of s p)) (turns_of p h) q c l.second l.channel (r.runs p l.first) (λ how. first_due (part_of s p) q c how) Ended)

  books_are : (h : List Event) (p q c : ℕ) → (part_from (part_of s p) (part_start (part_of s p)) (turns_of p h)).books q c ≡ records_of s h p q c
  books_are h p q c = from_books (part_of s p) (part_start (part_of s p)) (turns_of p h) q c

  noticed : (h : List Event) (m : Memory) → ReachedWords s h m → (p q c : ℕ) → IsLine s p q c → (how : NoticeKind) → all_told how (records_of s h p q c) ≡ notices_of how q c (turns_of p h)
  noticed h m r p q c l Delivered = ap (λ (rs : List Recorded). all_told Delivered rs) (sym (books_are h p q c)) ∙ (told_at h m r p q c l).tally.delivered
  noticed h m r p q c l Ended = ap (λ (rs : List Recorded). all_told Ended rs) (sym (books_are h p q c)) ∙ (told_at h m r p q c l).tally.ended ∙ ap (λ (xs : List ℕ). notices_of Ended q c (turns_of p h) ++ xs) (due_after h m r p q c l) ∙ append-nil (notices_of Ended q c (turns_of p h))

  one_turn : (p : ℕ) (t : Turn) → turns_of p (Turned p t ∷ []) ≡ t ∷ []
  one_turn p t = rw (eq-eqb p p refl) refl

  added : (h : List Event) (m : Memory) → ReachedWords s h m → (p q c : ℕ) → IsLine s p q c → (how : NoticeKind) (before : List Event) (t : Turn) → h ≡ before ++ Turned p t ∷ [] → all_told how (records_of s h p q c) ≡ all_told how (records_of s before p q c) ++ notices_turn how q c t
  added h m r p q c l how before t e =
      let reached = (split s before (Turned p t ∷ []) m (subst (λ (es : List Event). ReachedWords s es m) e r)).reached in
      let turns : turns_of p h ≡ turns_of p before ++ t ∷ [] = ap (λ (es : List Event). turns_of p es) e ∙ turns_of-append p before (Turned p t ∷ []) ∙ ap (λ (ts : List Turn). turns_of p before ++ ts) (one_turn p t) in
      noticed h m r p q c l how ∙ ap (λ (ts : List Turn). notices_of how q c ts) turns ∙ notices_append how q c (turns_of p before) (t ∷ []) ∙ ap (λ (xs : List ℕ). notices_of how q c (turns_of p before) ++ xs) (append-nil (notices_turn how q c t)) ∙ ap (λ (xs : List ℕ). xs ++ notices_turn how q c t) (sym (noticed before _ reached p q c l how))

  over : (h : List Event) (m : Memory) → ReachedWords s h m → (p q c : ℕ) → IsLine s p q c → (r : Recorded) → IsRecord s h p q c r → IsExplained r
  over h m reached p q c l r is = explained_at (records_of s h p q c) is.number r (subst AreExplained (books_are h p q c) (told_at h m reached p q c l).tally.explained) is.listed

pub all_recorded : (s : Scenario) → IsLawful s → (h : List Event) (m : Memory) → ReachedWords s h m → NoticesRecorded s h
all_recorded s law h m r = record { noticed = noticed s law h m r; added = added s law h m r; over = over s law h m r }
