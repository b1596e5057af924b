-- Nothing that was read is refused: of all partitions at once, whichever moves.
use Rattle.std.proofs.Common.{◌≡◌, ℕ, ◌+◌, zero, suc, ◌<◌, ◌≤◌, arith, Bool, true, false, ◌&&◌, not, cond, eqb, List, [], ◌∷◌, ◌++◌, length, refl, ap, sym, ◌∙◌, subst, Option, Some, None, inl, inr, ◌⊎◌}
use Rattle.std.specs.Prelude.{slice_get, is_some}
use Rattle.std.specs.List.{Contains, AllByRecursion}
use Rattle.std.proofs.lemmas.Bool.{cases_eq, ne_eqb, eqb-true}
use Rattle.xp_base.specs.declared.layout.TheConstants.{VERSION_AT}
use Rattle.xp_base.specs.declared.reason.Reason.{Reason}
use Rattle.xp_base.specs.declared.step.Answer.{Answer}
use Rattle.xp_base.specs.declared.step.Answer.TheVariants.{Word, Failed}
use Rattle.xp_base.specs.Memory.{Memory}
use Rattle.xp_base.specs.History.{Act, Event, turns_of}
use Rattle.xp_base.specs.Places.{Open}
use Rattle.xp_script.specs.declared.part.Link.{Link as SetupLink}
use Rattle.xp_script.specs.declared.part.ScenarioPart.{ScenarioPart}
use Rattle.xp_script.specs.declared.scenario.Scenario.{Scenario}
use Rattle.xp_script.specs.declared.setting.Minor.{Minor}
use Rattle.xp_script.specs.Lawful.{IsLawful, IsLawfulMinor}
use Rattle.xp_script.specs.Opening.{version_word}
use Rattle.xp_script.specs.Parts.{part_of, links_of}
use Rattle.xp_script.specs.Settings.{minor_of}
use Rattle.xp_protocol.specs.declared.contact.Contact.{Contact}
use Rattle.xp_protocol.specs.declared.rule.PeerRule.TheVariants.{LookAtPage}
use Rattle.xp_protocol.specs.declared.rule.Rule.{Rule}
use Rattle.xp_protocol.specs.declared.rule.Rule.TheVariants.{Peer as ForPeer}
use Rattle.xp_protocol.specs.Acts.{MayAct, after_act, noted_act}
use Rattle.xp_protocol.specs.Effects.{Note, BySend, ByPull, Accepted, Sent, Began, Joined, Taken, Freed, Acked, Told, ToldOver, Over, Released, Drained, Registered, Withdrawn, with_note, with_notes}
use Rattle.xp_protocol.specs.Logged.{is_at, opened_records}
use Rattle.xp_protocol.specs.Parts.{IsLawfulPart}
use Rattle.xp_protocol.specs.Peering.{page_word}
use Rattle.xp_protocol.specs.Promised.{IsLine, IsRecord, IsUnrefused, records_of}
use Rattle.xp_protocol.specs.Reached.{ReachedWords, state_at}
use Rattle.xp_protocol.specs.Records.{Recorded, opened_record}
use Rattle.xp_protocol.specs.Rules.{Can, IsPartner, after_answer, noted_rule}
use Rattle.xp_protocol.specs.Runs.{turned, restart_comes, stop_comes, moment_by, is_over}
use Rattle.xp_protocol.specs.State.{State, End, opened_state, end_of, peer_of}
use Rattle.xp_protocol.proofs.LawfulParts.{lawful_part}
use Rattle.xp_protocol.proofs.Opened.{start_all}
use Rattle.xp_meetings.proofs.Always.{at_one, one_here, does_rule, answer_word}
use Rattle.xp_meetings.proofs.Opening.{opening_words, opening_version}
use Rattle.xp_meetings.proofs.Parts.{Part, part_start, part_act, part_ruled, part_moment, from_state, from_books}
use Rattle.xp_meetings.proofs.Words.{Words, Agrees}
use Rattle.xp_promises.proofs.Before.{whole, part_at}
use Rattle.xp_promises.proofs.Lines.{View}
use Rattle.xp_promises.proofs.Reuses.{Both, both_act, both_rule, both_failed, both_moment, both_first}
use Rattle.xp_promises.proofs.Versions.{version_kept}
use Rattle.xp_records.specs.Clean.{IsClean, IsCleanIfAny, IsAccepted}
use Rattle.xp_records.proofs.Blames.{IsVersedIfAny, clean_by, clean_versed, Fair, Held, Strong, OversClean, face}
use Rattle.xp_records.proofs.Looks.{SeenOf, IsVersion, ruled as looks_ruled, acted as looks_acted, moment as looks_moment, opened as looks_opened}
use Rattle.xp_records.proofs.Reasons.{StrongAt, Half, Strongs, ruled, acted, acted_ends, moment_ends, opened_strong}

-- the records of an end
abbrev pub RecordsClean : List Recorded → Type 0
RecordsClean [] = Unit {0}
RecordsClean (r ∷ rs) = IsCleanIfAny r.over × RecordsClean rs

note_clean : (q c : ℕ) (x : Note) (rs : List Recorded) → OversClean (x ∷ []) → RecordsClean rs → RecordsClean (with_note q c x rs)
note_clean q c (Began epoch own theirs) rs z h = (tt, h)
note_clean q c (BySend (Accepted n body true)) [] z h = tt
note_clean q c (BySend (Accepted n body true)) (r ∷ rs) z h = h
note_clean q c (BySend (Accepted n body false)) [] z h = tt
note_clean q c (BySend (Accepted n body false)) (r ∷ rs) z h = h
note_clean q c (BySend (Sent a)) [] z h = tt
note_clean q c (BySend (Sent a)) (r ∷ rs) z h = h
note_clean q c (ByPull a) [] z h = tt
note_clean q c (ByPull a) (r ∷ rs) z h = h
note_clean q c Joined [] z h = tt
note_clean q c Joined (r ∷ rs) z h = h
note_clean q c (Taken body) [] z h = tt
note_clean q c (Taken body) (r ∷ rs) z h = h
note_clean q c (Freed n) [] z h = tt
note_clean q c (Freed n) (r ∷ rs) z h = h
note_clean q c (Acked n) [] z h = tt
note_clean q c (Acked n) (r ∷ rs) z h = h
note_clean q c (Told n) [] z h = tt
note_clean q c (Told n) (r ∷ rs) z h = h
note_clean q c (ToldOver n) [] z h = tt
note_clean q c (ToldOver n) (r ∷ rs) z h = h
note_clean q c (Over reason) [] z h = tt
note_clean q c (Over reason) (r ∷ rs) z h = (z.0, h.1)
note_clean q c (Released a) [] z h = tt
note_clean q c (Released a) (r ∷ rs) z h = h
note_clean q c (Drained a) [] z h = tt
note_clean q c (Drained a) (r ∷ rs) z h = h
note_clean q c (Registered a) [] z h = tt
note_clean q c (Registered a) (r ∷ rs) z h = h
note_clean q c (Withdrawn a) [] z h = tt
note_clean q c (Withdrawn a) (r ∷ rs) z h = h

one_clean : (x : Note) (xs : List Note) → OversClean (x ∷ xs) → OversClean (x ∷ []) × OversClean xs
one_clean (Over r) xs h = ((h.0, tt), h.1)
one_clean (BySend a) xs h = (tt, h)
one_clean (ByPull a) xs h = (tt, h)
one_clean (Began epoch own theirs) xs h = (tt, h)
one_clean Joined xs h = (tt, h)
one_clean (Taken body) xs h = (tt, h)
one_clean (Freed n) xs h = (tt, h)
one_clean (Acked n) xs h = (tt, h)
one_clean (Told n) xs h = (tt, h)
one_clean (ToldOver n) xs h = (tt, h)
one_clean (Released a) xs h = (tt, h)
one_clean (Drained a) xs h = (tt, h)
one_clean (Registered a) xs h = (tt, h)
one_clean (Withdrawn a) xs h = (tt, h)

notes_clean : (q c : ℕ) (xs : List Note) (rs : List Recorded) → OversClean xs → RecordsClean rs → RecordsClean (with_notes q c xs rs)
notes_clean q c [] rs z h = h
notes_clean q c (x ∷ xs) rs z h = let k = one_clean x xs z in notes_clean q c xs (with_note q c x rs) k.1 (note_clean q c x rs k.0 h)

opened_clean : (ls : List SetupLink) (q c : ℕ) → RecordsClean (opened_records ls q c)
opened_clean [] q c = tt
opened_clean (l ∷ ls) q c = by (is_at l q c) (opened_clean ls q c) where
  by : (b : Bool) → RecordsClean (opened_records ls q c) → RecordsClean (cond b (opened_record l ∷ []) (opened_records ls q c))
  by true h = (tt, tt)
  by false h = h

record_clean : (rs : List Recorded) (i : ℕ) (r : Recorded) → RecordsClean rs → slice_get rs i ≡ Some r → IsCleanIfAny r.over
record_clean [] i r h e = absurd (cc)
record_clean (x ∷ rs) zero r h e = let same : x ≡ r = cc in subst (λ (y : Recorded). IsCleanIfAny y.over) same h.0
record_clean (x ∷ rs) (suc i) r h e = record_clean rs i r h.1 e

-- the reason of an end in contact
clean_both : (o : Option Reason) → IsVersedIfAny o → IsUnrefused o → IsCleanIfAny o
clean_both None v u = tt
clean_both (Some r) v u = clean_by r v u

fair_versed : (o : Option Reason) (b : Bool) → ((r : Reason) → o ≡ Some r → Fair o b r) → IsVersedIfAny o
fair_versed None b h = tt
fair_versed (Some r) b h = by (h r refl) where
  by : Fair (Some r) b r → IsVersedIfAny (Some r)
  by (inl c) = clean_versed r c
  by (inr v) = v.0

-- the versions of a lawful scenario are known
minor_low : (n p : ℕ) (ms : List Minor) → AllByRecursion (IsLawfulMinor n) ms → (1 ≤ minor_of p ms) × (minor_of p ms ≤ 2)
minor_low n p [] h = (omega arith, omega arith)
minor_low n p (m ∷ ms) h = by (eqb m.part p) (minor_low n p ms h.1) where
  by : (b : Bool) → (1 ≤ minor_of p ms) × (minor_of p ms ≤ 2) → (1 ≤ cond b m.version (minor_of p ms)) × (cond b m.version (minor_of p ms) ≤ 2)
  by true k = (h.0.low, h.0.high)
  by false k = k

module _ (s : Scenario) (law : IsLawful s) where
  abbrev version : ℕ → ℕ
  version p = version_word (minor_of p s.minors)

  known : (p : ℕ) → IsVersion (version p)
  known p = let k = minor_low s.count p s.minors law.settings.minors.each in let l = k.0 in let h = k.1 in record { low = omega (arith, l); high = omega (arith, h) }

  pub lawful : (p : ℕ) → p < s.count → IsLawfulPart (part_of s p)
  lawful p l = lawful_part s p law l

  pub record Inv (w : Words) (σ : ℕ → Part) : Type 0 where
    pub both : Both s law w σ
    pub stand : (p : ℕ) → p < s.count → w p (Open VERSION_AT) ≡ version p
    pub seen : (p q : ℕ) → p < s.count → q < s.count → SeenOf (version q) (peer_of (σ p).state q)
    pub ends : (p q c : ℕ) → IsLine s p q c → StrongAt (end_of (σ p).state q c)
    pub books : (p q c : ℕ) → IsLine s p q c → RecordsClean ((σ p).books q c)

  line_of : (p q c : ℕ) → p < s.count → q < s.count → (q ≡ p → ⊥) → c < 4 → IsLine s p q c
  line_of p q c lp lq n lc = record { first = lp; second = lq; apart = λ e. n (sym e); channel = lc }

  pub strongs : (w : Words) (σ : ℕ → Part) (p : ℕ) → p < s.count → Inv w σ → Strongs s.count p (σ p).state
  strongs w σ p lp i = record { all = (i.both.owned p lp).all; ends = λ q c lq n lc. i.ends p q c (line_of p q c lp lq n lc) }

  -- of a partition that is followed
  seen_one : (σ : ℕ → Part) (a : ℕ) (k : Part) → ((p q : ℕ) → p < s.count → q < s.count → SeenOf (version q) (peer_of (σ p).state q)) → ((q : ℕ) → q < s.count → SeenOf (version q) (peer_of k.state q)) → (p q : ℕ) → p < s.count → q < s.count → SeenOf (version q) (peer_of (at_one σ a k p).state q)
  seen_one σ a k old new p q lp lq = by (eqb a p) where
    by : (b : Bool) → SeenOf (version q) (peer_of (cond b k (σ p)).state q)
    by true = new q lq
    by false = old p q lp lq

  line_one : (P : Part → ℕ → ℕ → Type 0) (σ : ℕ → Part) (a : ℕ) (k : Part) → ((p q c : ℕ) → IsLine s p q c → P (σ p) q c) → ((q c : ℕ) → IsLine s a q c → P k q c) → (p q c : ℕ) → IsLine s p q c → P (at_one σ a k p) q c
  line_one P σ a k old new p q c l = by (eqb a p) refl where
    by : (b : Bool) → eqb a p ≡ b → P (cond b k (σ p)) q c
    by true t = new q c (subst (λ (j : ℕ). IsLine s j q c) (sym (eqb-true a p t)) l)
    by false t = old p q c l

  abbrev EndAt : Part → ℕ → ℕ → Type 0
  EndAt k q c = StrongAt (end_of k.state q c)

  abbrev BooksAt : Part → ℕ → ℕ → Type 0
  BooksAt k q c = RecordsClean (k.books q c)

  -- the reason for which a partner is to be deactivated
  partner_clean : (w : Words) (σ : ℕ → Part) (p q c : ℕ) → Inv w σ → IsLine s p q c → IsCleanIfAny (peer_of (σ p).state q).engage.reason
  partner_clean w σ p q c i l = clean_both (peer_of (σ p).state q).engage.reason (i.seen p q l.first l.second).versed (i.both.good.clean p q c l)

  -- after a step: of an end in contact the promise says that its reason is clean
  meet_clean : (w : Words) (σ : ℕ → Part) (p q c : ℕ) → Both s law w σ → IsLine s p q c → is_some (end_of (σ p).state q c).shake.meet ≡ true → IsUnrefused (end_of (σ p).state q c).shake.reason
  meet_clean w σ p q c b l on = let r = (b.good.fine p q c l).room (inl on) in subst (λ (v : View). IsUnrefused v.terms.reason) (r.here on) r.line.argued.mine.clean

  heal : (w : Words) (σ : ℕ → Part) (a : ℕ) (k : Part) (q c : ℕ) (ns : List Note) → Both s law w (at_one σ a k) → IsLine s a q c → Half (end_of k.state q c) ns → StrongAt (end_of k.state q c)
  heal w σ a k q c ns b l h = by (end_of k.state q c).shake.meet refl where
    there : is_some (end_of k.state q c).shake.meet ≡ true → IsUnrefused (end_of k.state q c).shake.reason
    there = subst (λ (y : Part). is_some (end_of y.state q c).shake.meet ≡ true → IsUnrefused (end_of y.state q c).shake.reason) (one_here σ a k) (meet_clean w (at_one σ a k) a q c b l)

    by : (o : Option Contact) → (end_of k.state q c).shake.meet ≡ o → StrongAt (end_of k.state q c)
    by None e = h.alone e
    by (Some m) e = (h.held, clean_both (end_of k.state q c).shake.reason (fair_versed (end_of k.state q c).shake.reason (end_of k.state q c).shake.sent.close_reply h.held.reason) (there (ap (λ (o : Option Contact). is_some o) e)))

  pub inv_act : (w : Words) (σ : ℕ → Part) (a : ℕ) (x : Act) → a < s.count → Inv w σ → MayAct (part_of s a) (σ a).state x → Inv w (at_one σ a (part_act (part_of s a) (σ a) x))
  inv_act w σ a x la i may =
      let su = part_of s a in
      let k = part_act su (σ a) x in
      let h = strongs w σ a la i in
      record {
        both = both_act s law w σ a x la i.both may;
        stand = i.stand;
        seen = seen_one σ a k i.seen (λ q lq. looks_acted (version q) (known q) q su (σ a).state x (i.seen a q la lq));
        ends = line_one EndAt σ a k i.ends (λ q c l. (acted_ends su (σ a).state h (lawful a la) x may q c l.second (λ e. l.apart (sym e)) l.channel).0);
        books = line_one BooksAt σ a k i.books (λ q c l. notes_clean q c (noted_act su (σ a).state x q c) ((σ a).books q c) (acted_ends su (σ a).state h (lawful a la) x may q c l.second (λ e. l.apart (sym e)) l.channel).1 (i.books a q c l));
      }

  -- a step with its answer
  inv_step : (w w' : Words) (σ : ℕ → Part) (a : ℕ) (r : Rule) (y : Answer) → a < s.count → Inv w σ → Can (part_of s a) (σ a).state r → Both s law w' (at_one σ a (part_ruled (part_of s a) (σ a) r y)) → ((p : ℕ) → w' p (Open VERSION_AT) ≡ w p (Open VERSION_AT)) → ((v : ℕ) → y ≡ Word v → v ≡ answer_word (part_of s a) (σ a).state r w) → Inv w' (at_one σ a (part_ruled (part_of s a) (σ a) r y))
  inv_step w w' σ a r y la i can new still told =
      let su = part_of s a in
      let st = (σ a).state in
      let k = part_ruled su (σ a) r y in
      let h = strongs w σ a la i in
      let half = ruled su st h (λ j p. partner_clean w σ a j 0 i (line_of a j 0 la p.low p.other (omega arith))) r y can in
      record {
        both = new;
        stand = λ p l. still p ∙ i.stand p l;
        seen = seen_one σ a k i.seen (λ q lq. looks_ruled (version q) (known q) q su st r y can (λ v e f l. told v e ∙ page q v f l lq) (i.seen a q la lq));
        ends = line_one EndAt σ a k i.ends (λ q c l. heal w' σ a k q c (noted_rule su st r y q c) new l (half q c l.second (λ e. l.apart (sym e)) l.channel));
        books = line_one BooksAt σ a k i.books (λ q c l. notes_clean q c (noted_rule su st r y q c) ((σ a).books q c) (half q c l.second (λ e. l.apart (sym e)) l.channel).overs (i.books a q c l));
      }
    where
      page : (q v : ℕ) → r ≡ ForPeer q LookAtPage → length (peer_of (σ a).state q).paging ≡ 1 → q < s.count → answer_word (part_of s a) (σ a).state r w ≡ version q
      page q v f l lq = subst (λ (x : Rule). answer_word (part_of s a) (σ a).state x w ≡ version q) (sym f) (ap (λ (n : ℕ). w q (Open (page_word n))) l ∙ i.stand q lq)

  word_is : (u v : ℕ) → Word u ≡ Word v → v ≡ u
  word_is u v e = cc

  pub inv_rule : (w : Words) (σ : ℕ → Part) (a : ℕ) (r : Rule) → a < s.count → Inv w σ → Can (part_of s a) (σ a).state r → Inv (does_rule (part_of s a) (σ a).state r w) (at_one σ a (part_ruled (part_of s a) (σ a) r (Word (answer_word (part_of s a) (σ a).state r w))))
  inv_rule w σ a r la i can =
      let su = part_of s a in
      let st = (σ a).state in
      inv_step w (does_rule su st r w) σ a r (Word (answer_word su st r w)) la i can (both_rule s law w σ a r la i.both can) (λ p. version_kept su st r w p) (λ v e. word_is (answer_word su st r w) v e)

  pub inv_failed : (w : Words) (σ : ℕ → Part) (a : ℕ) (r : Rule) → a < s.count → Inv w σ → Can (part_of s a) (σ a).state r → Inv w (at_one σ a (part_ruled (part_of s a) (σ a) r Failed))
  inv_failed w σ a r la i can = inv_step w w σ a r Failed la i can (both_failed s law w σ a r la i.both can) (λ p. refl) (λ v e. absurd (cc))

  pub inv_moment : (w : Words) (σ : ℕ → Part) (a earlier turns : ℕ) → a < s.count → Inv w σ → Inv w (at_one σ a (part_moment (part_of s a) earlier turns (σ a)))
  inv_moment w σ a earlier turns la i =
      let su = part_of s a in
      let st = (σ a).state in
      let k = part_moment su earlier turns (σ a) in
      let now = turned turns st in
      let b = restart_comes su earlier now && not (is_over now) in
      let stops = stop_comes su earlier now && not (is_over now) in
      record {
        both = both_moment s law w σ a earlier turns la i.both;
        stand = i.stand;
        seen = seen_one σ a k i.seen (λ q lq. looks_moment (version q) (known q) q su st turns b stops (i.seen a q la lq));
        ends = line_one EndAt σ a k i.ends (λ q c l. moment_ends su st (strongs w σ a la i) turns b stops q c l.second (λ e. l.apart (sym e)) l.channel);
        books = line_one BooksAt σ a k i.books (λ q c l. i.books a q c l);
      }

  opened_strongs : (p : ℕ) → p < s.count → Strongs s.count p (opened_state (part_of s p))
  opened_strongs p l = record { all = start_all (part_of s p); ends = λ q c lq n lc. opened_strong (part_of s p) q c }

  pub inv_first : Inv (opening_words s) (λ p. part_start (part_of s p))
  inv_first = record {
    both = both_first s law;
    stand = λ p l. opening_version s p l;
    seen = λ p q lp lq.
        let su = part_of s p in
        let now = opened_state su in
        looks_moment (version q) (known q) q su now 0 (restart_comes su 0 now && not (is_over now)) (stop_comes su 0 now && not (is_over now)) (looks_opened (version q) (known q) q su);
    ends = λ p q c l.
        let su = part_of s p in
        let now = opened_state su in
        moment_ends su now (opened_strongs p l.first) 0 (restart_comes su 0 now && not (is_over now)) (stop_comes su 0 now && not (is_over now)) q c l.second (λ e. l.apart (sym e)) l.channel;
    books = λ p q c l. opened_clean (links_of s p) q c;
  }

  whole_inv : (h : List Event) (m : Memory) → ReachedWords s h m → (w : Words) × Agrees s.count m w × Inv w (part_at s h)
  whole_inv = whole s law Inv inv_act inv_rule inv_failed inv_moment inv_first

  is_state : (h : List Event) (p : ℕ) → (part_at s h p).state ≡ state_at s h p
  is_state h p = from_state (part_of s p) (part_start (part_of s p)) (turns_of p h)

  -- what is clean after a history
  module _ (h : List Event) (m : Memory) (r : ReachedWords s h m) where
    pub look_clean : (p q : ℕ) → p < s.count → q < s.count → IsAccepted (peer_of (state_at s h p) q).look
    look_clean p q lp lq = subst (λ (st : State). IsAccepted (peer_of st q).look) (is_state h p) ((whole_inv h m r).2.seen p q lp lq).accepted

    pub reason_clean : (p q c : ℕ) → IsLine s p q c → IsCleanIfAny (peer_of (state_at s h p) q).engage.reason
    reason_clean p q c l = let k = whole_inv h m r in subst (λ (st : State). IsCleanIfAny (peer_of st q).engage.reason) (is_state h p) (partner_clean k.0 (part_at s h) p q c k.2 l)

    pub end_clean : (p q c : ℕ) → IsLine s p q c → IsCleanIfAny (end_of (state_at s h p) q c).shake.reason
    end_clean p q c l = subst (λ (st : State). IsCleanIfAny (end_of st q c).shake.reason) (is_state h p) ((whole_inv h m r).2.ends p q c l).1

    pub over_clean : (p q c : ℕ) → IsLine s p q c → (x : Recorded) → IsRecord s h p q c x → IsCleanIfAny x.over
    over_clean p q c l x is = record_clean (records_of s h p q c) is.number x (subst (λ (rs : List Recorded). RecordsClean rs) (from_books (part_of s p) (part_start (part_of s p)) (turns_of p h) q c) ((whole_inv h m r).2.books p q c l)) is.listed
