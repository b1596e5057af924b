-- The notices that are given at one end, and the numbers that its records have as told: the same, but for those whose connection ended in this turn and which are still to be told.
use Rattle.std.proofs.Common.{◌≡◌, ℕ, ◌<◌, Bool, true, false, cond, eqb, List, [], ◌∷◌, ◌++◌, ltb, refl, ap, sym, ◌∙◌, subst, arith, append_assoc, get_or-set_same, Some, None, inl, inr, ◌⊎◌}
use Rattle.std.proofs.lemmas.Bool.{cases_eq, eq-eqb, ne_eqb}
use Rattle.std.proofs.lemmas.List.{append-nil}
use Rattle.xp_base.specs.declared.step.Answer.{Answer}
use Rattle.xp_base.specs.History.{Act, Begun, Answered, Noticed, NoticeKind, Delivered, Ended}
use Rattle.xp_protocol.specs.declared.rule.Rule.{Rule}
use Rattle.xp_script.specs.declared.part.ScenarioPart.{ScenarioPart}
use Rattle.xp_protocol.specs.Parts.{IsLawfulPart}
use Rattle.xp_protocol.specs.Records.{Recorded}
use Rattle.xp_protocol.specs.Effects.{Accepted, Sent, Note, BySend, ByPull, Began, Joined, Taken, Freed, Acked, Told, ToldOver, Over, Released, Drained, Registered, Withdrawn, with_note, with_notes}
use Rattle.xp_protocol.specs.State.{State, End, Peer, Old, cold_peer, idle_end, is_begun, end_of, end_at, link_at, peer_at, set_end, set_link}
use Rattle.xp_protocol.specs.Rules.{Can, after_answer, noted_rule}
use Rattle.xp_protocol.specs.Acts.{MayAct, after_act, aimed, noted_aim, notice_due, below, first_number, without_first, end_noticed}
use Rattle.xp_protocol.proofs.Slots.{at_end}
use Rattle.xp_meetings.proofs.Parts.{Part, part_act, part_ruled}
use Rattle.xp_promises.proofs.Own.{LiveIn, facts}
use Rattle.xp_promises.proofs.Owns.{LocalAt, Owned}
use Rattle.xp_records.specs.Noticed.{if_kind, notice_in, all_told}
use Rattle.xp_records.proofs.Flow.{told_by, told_in, over_by, over_in, AreExplained, plain_explained}
use Rattle.xp_records.proofs.Changes.{Orders}
use Rattle.xp_records.proofs.Parts.{Ordered, IsCommand, rule_orders, act_orders}

-- the numbers that notes tell, by kind
abbrev pub said_by : NoticeKind → Note → List ℕ
said_by Delivered x = told_by x
said_by Ended x = over_by x

abbrev pub said_in : NoticeKind → List Note → List ℕ
said_in Delivered xs = told_in xs
said_in Ended xs = over_in xs

-- one note more, where there is a record, or no number is told
said_none : (q c : ℕ) (how : NoticeKind) (x : Note) → said_by how x ≡ [] → all_told how (with_note q c x []) ≡ []
said_none q c Delivered (Began epoch own theirs) z = refl
said_none q c Ended (Began epoch own theirs) z = refl
said_none q c how (BySend a) z = refl
said_none q c how (ByPull a) z = refl
said_none q c how Joined z = refl
said_none q c how (Taken body) z = refl
said_none q c how (Freed n) z = refl
said_none q c how (Acked n) z = refl
said_none q c how (Told n) z = refl
said_none q c how (ToldOver n) z = refl
said_none q c how (Over reason) z = refl
said_none q c how (Released a) z = refl
said_none q c how (Drained a) z = refl
said_none q c how (Registered a) z = refl
said_none q c how (Withdrawn a) z = refl

unsaid : (xs : List ℕ) → xs ≡ xs ++ []
unsaid xs = sym (append-nil xs)

said_more : (q c : ℕ) (how : NoticeKind) (x : Note) (r : Recorded) (rs : List Recorded) → all_told how (with_note q c x (r ∷ rs)) ≡ all_told how (r ∷ rs) ++ said_by how x
said_more q c Delivered (Began epoch own theirs) r rs = refl
said_more q c Ended (Began epoch own theirs) r rs = refl
said_more q c Delivered (BySend (Accepted n body true)) r rs = unsaid (all_told Delivered rs ++ r.delivered)
said_more q c Delivered (BySend (Accepted n body false)) r rs = unsaid (all_told Delivered rs ++ r.delivered)
said_more q c Delivered (BySend (Sent a)) r rs = unsaid (all_told Delivered rs ++ r.delivered)
said_more q c Delivered (ByPull a) r rs = unsaid (all_told Delivered rs ++ r.delivered)
said_more q c Delivered Joined r rs = unsaid (all_told Delivered rs ++ r.delivered)
said_more q c Delivered (Taken body) r rs = unsaid (all_told Delivered rs ++ r.delivered)
said_more q c Delivered (Freed n) r rs = unsaid (all_told Delivered rs ++ r.delivered)
said_more q c Delivered (Acked n) r rs = unsaid (all_told Delivered rs ++ r.delivered)
said_more q c Delivered (Told n) r rs = sym (append_assoc (all_told Delivered rs) r.delivered (n ∷ []))
said_more q c Delivered (ToldOver n) r rs = unsaid (all_told Delivered rs ++ r.delivered)
said_more q c Delivered (Over reason) r rs = unsaid (all_told Delivered rs ++ r.delivered)
said_more q c Delivered (Released a) r rs = unsaid (all_told Delivered rs ++ r.delivered)
said_more q c Delivered (Drained a) r rs = unsaid (all_told Delivered rs ++ r.delivered)
said_more q c Delivered (Registered a) r rs = unsaid (all_told Delivered rs ++ r.delivered)
said_more q c Delivered (Withdrawn a) r rs = unsaid (all_told Delivered rs ++ r.delivered)
said_more q c Ended (BySend (Accepted n body true)) r rs = unsaid (all_told Ended rs ++ r.ended)
said_more q c Ended (BySend (Accepted n body false)) r rs = unsaid (all_told Ended rs ++ r.ended)
said_more q c Ended (BySend (Sent a)) r rs = unsaid (all_told Ended rs ++ r.ended)
said_more q c Ended (ByPull a) r rs = unsaid (all_told Ended rs ++ r.ended)
said_more q c Ended Joined r rs = unsaid (all_told Ended rs ++ r.ended)
said_more q c Ended (Taken body) r rs = unsaid (all_told Ended rs ++ r.ended)
said_more q c Ended (Freed n) r rs = unsaid (all_told Ended rs ++ r.ended)
said_more q c Ended (Acked n) r rs = unsaid (all_told Ended rs ++ r.ended)
said_more q c Ended (Told n) r rs = unsaid (all_told Ended rs ++ r.ended)
said_more q c Ended (ToldOver n) r rs = sym (append_assoc (all_told Ended rs) r.ended (n ∷ []))
said_more q c Ended (Over reason) r rs = unsaid (all_told Ended rs ++ r.ended)
said_more q c Ended (Released a) r rs = unsaid (all_told Ended rs ++ r.ended)
said_more q c Ended (Drained a) r rs = unsaid (all_told Ended rs ++ r.ended)
said_more q c Ended (Registered a) r rs = unsaid (all_told Ended rs ++ r.ended)
said_more q c Ended (Withdrawn a) r rs = unsaid (all_told Ended rs ++ r.ended)

said_cons : (how : NoticeKind) (x : Note) (xs : List Note) → said_in how (x ∷ xs) ≡ said_by how x ++ said_in how xs
said_cons Delivered x xs = refl
said_cons Ended x xs = refl

nil_in : (how : NoticeKind) → said_in how [] ≡ []
nil_in Delivered = refl
nil_in Ended = refl

abbrev IsThere : List Recorded → Type 0
IsThere [] = ⊥
IsThere (r ∷ rs) = Unit {0}

there_after : (q c : ℕ) (x : Note) (rs : List Recorded) → IsThere rs → IsThere (with_note q c x rs)
there_after q c x [] h = absurd h
there_after q c (Began epoch own theirs) (r ∷ rs) h = tt
there_after q c (BySend a) (r ∷ rs) h = tt
there_after q c (ByPull a) (r ∷ rs) h = tt
there_after q c Joined (r ∷ rs) h = tt
there_after q c (Taken body) (r ∷ rs) h = tt
there_after q c (Freed n) (r ∷ rs) h = tt
there_after q c (Acked n) (r ∷ rs) h = tt
there_after q c (Told n) (r ∷ rs) h = tt
there_after q c (ToldOver n) (r ∷ rs) h = tt
there_after q c (Over reason) (r ∷ rs) h = tt
there_after q c (Released a) (r ∷ rs) h = tt
there_after q c (Drained a) (r ∷ rs) h = tt
there_after q c (Registered a) (r ∷ rs) h = tt
there_after q c (Withdrawn a) (r ∷ rs) h = tt

one_said : (q c : ℕ) (how : NoticeKind) (x : Note) (rs : List Recorded) → IsThere rs → all_told how (with_note q c x rs) ≡ all_told how rs ++ said_by how x
one_said q c how x [] h = absurd h
one_said q c how x (r ∷ rs) h = said_more q c how x r rs

pub all_said : (q c : ℕ) (how : NoticeKind) (xs : List Note) (rs : List Recorded) → IsThere rs → all_told how (with_notes q c xs rs) ≡ all_told how rs ++ said_in how xs
all_said q c how [] rs h = sym (append-nil (all_told how rs)) ∙ ap (λ (ns : List ℕ). all_told how rs ++ ns) (sym (nil_in how))
all_said q c how (x ∷ xs) rs h =
    all_said q c how xs (with_note q c x rs) (there_after q c x rs h)
    ∙ ap (λ (ns : List ℕ). ns ++ said_in how xs) (one_said q c how x rs h)
    ∙ append_assoc (all_told how rs) (said_by how x) (said_in how xs)
    ∙ ap (λ (ns : List ℕ). all_told how rs ++ ns) (sym (said_cons how x xs))

none_parts : (xs ys : List ℕ) → xs ++ ys ≡ [] → (xs ≡ []) × (ys ≡ [])
none_parts [] ys h = (refl, h)
none_parts (x ∷ xs) ys h = absurd (cc)

pub none_said : (q c : ℕ) (how : NoticeKind) (xs : List Note) (rs : List Recorded) → said_in how xs ≡ [] → all_told how (with_notes q c xs rs) ≡ all_told how rs
none_said q c how [] rs z = refl
none_said q c how (x ∷ xs) rs z =
    let k = none_parts (said_by how x) (said_in how xs) (sym (said_cons how x xs) ∙ z) in
    none_said q c how xs (with_note q c x rs) k.1 ∙ one rs k.0
  where
    one : (rs : List Recorded) → said_by how x ≡ [] → all_told how (with_note q c x rs) ≡ all_told how rs
    one [] e = said_none q c how x e
    one (r ∷ rs) e = said_more q c how x r rs ∙ ap (λ (ns : List ℕ). all_told how (r ∷ rs) ++ ns) e ∙ append-nil (all_told how (r ∷ rs))

-- what was given at the end, and what its records and its end have of it
pub record Tally (q c : ℕ) (k : Part) (ds es : List ℕ) : Type 0 where
  pub delivered : all_told Delivered (k.books q c) ≡ ds
  pub ended : all_told Ended (k.books q c) ≡ es ++ (end_of k.state q c).ended
  pub explained : AreExplained (k.books q c)

live_there : (e : End) (rs : List Recorded) → LiveIn (facts e) rs → IsThere rs
live_there e [] h = absurd h
live_there e (r ∷ rs) h = tt

-- a change that keeps the order tells no delivery, and has exactly the numbers that it tells as ended at its end
orders_told : (q c : ℕ) (e x : End) (ns : List Note) (rs : List Recorded) → LocalAt e rs → Orders q c e x ns → (all_told Delivered (with_notes q c ns rs) ≡ all_told Delivered rs) × (all_told Ended (with_notes q c ns rs) ≡ all_told Ended rs ++ over_in ns)
orders_told q c e x ns rs l o = (none_said q c Delivered ns rs o.told, by (is_begun e) refl) where
  by : (b : Bool) → is_begun e ≡ b → all_told Ended (with_notes q c ns rs) ≡ all_told Ended rs ++ over_in ns
  by true t = all_said q c Ended ns rs (live_there e rs (l.live t))
  by false t = none_said q c Ended ns rs (o.unbegun t) ∙ sym (append-nil (all_told Ended rs)) ∙ ap (λ (xs : List ℕ). all_told Ended rs ++ xs) (sym (o.unbegun t))

tally_orders : (q c : ℕ) (k : Part) (st : State) (ns : List Note) (d n : List ℕ) → LocalAt (end_of k.state q c) (k.books q c) → Orders q c (end_of k.state q c) (end_of st q c) ns → Tally q c k d n → (all_told Delivered (with_notes q c ns (k.books q c)) ≡ d) × (all_told Ended (with_notes q c ns (k.books q c)) ≡ n ++ (end_of st q c).ended) × AreExplained (with_notes q c ns (k.books q c))
tally_orders q c k st ns d n l o t =
    let z = orders_told q c (end_of k.state q c) (end_of st q c) ns (k.books q c) l o in
    (z.0 ∙ t.delivered, z.1 ∙ ap (λ (xs : List ℕ). xs ++ over_in ns) t.ended ∙ append_assoc n (end_of k.state q c).ended (over_in ns) ∙ ap (λ (xs : List ℕ). n ++ xs) (sym o.ended), o.explained (k.books q c) t.explained)

module _ (su : ScenarioPart) (law : IsLawfulPart su) (q c : ℕ) (lq : q < su.count) (lc : c < 4) where
  pub tally_rule : (k : Part) (r : Rule) (a : Answer) (d n : List ℕ) → Can su k.state r → Owned su.count k → Ordered su.count k.state → Tally q c k d n → Tally q c (part_ruled su k r a) d n
  tally_rule k r a d n can own o t =
      let z = tally_orders q c k (after_answer su k.state r a) (noted_rule su k.state r a q c) d n (own.ends q c lq lc) (rule_orders su law k.state o r a can q c lq lc) t in
      record { delivered = z.0; ended = z.1; explained = z.2 }

  tally_command : (k : Part) (x : Act) (d n : List ℕ) → IsCommand x → Owned su.count k → Ordered su.count k.state → Tally q c k d n → Tally q c (part_act su k x) d n
  tally_command k x d n is own o t =
      let z = tally_orders q c k (after_act su k.state x) (noted_aim (aimed su k.state x) q c) d n (own.ends q c lq lc) (act_orders su law k.state o x is q c lq lc) t in
      record { delivered = z.0; ended = z.1; explained = z.2 }

  -- a notice
  end_here : (k : Part) (x : End) → Owned su.count k → end_at (set_end k.state.peers q c x) q c ≡ x
  end_here k x own =
      ap (λ (p : Peer). link_at p.links c) (get_or-set_same k.state.peers q (set_link (peer_at k.state.peers q) c x) (cold_peer Old) (omega (arith, own.all.partners, lq)))
      ∙ get_or-set_same (peer_at k.state.peers q).links c x idle_end (omega (arith, own.all.channels q, lc))

  off_notice : {A : Type 0} (i d : ℕ) (x y : A) → (i ≡ q → d ≡ c → ⊥) → cond (eqb i q) (cond (eqb d c) x y) y ≡ y
  off_notice i d x y m = by (cases_eq i q) (cases_eq d c) where
    by : (i ≡ q) ⊎ (i ≡ q → ⊥) → (d ≡ c) ⊎ (d ≡ c → ⊥) → cond (eqb i q) (cond (eqb d c) x y) y ≡ y
    by (inr a) b = rw (ne_eqb i q a) refl
    by (inl a) (inr b) = rw (eq-eqb i q a, ne_eqb d c b) refl
    by (inl a) (inl b) = absurd (m a b)

  here_notice : {A : Type 0} (x y : A) → cond (eqb q q) (cond (eqb c c) x y) y ≡ x
  here_notice x y = rw (eq-eqb q q refl, eq-eqb c c refl) refl

  due_more : (get : ℕ) (ns : List ℕ) (number : ℕ) → below get ns ≡ Some number → (more : List ℕ) × (ns ≡ number ∷ more)
  due_more get [] number h = absurd (cc)
  due_more get (n ∷ more) number h = by (ltb n get) h where
    by : (z : Bool) → cond z (Some n) None ≡ Some number → (rest : List ℕ) × (n ∷ more ≡ number ∷ rest)
    by true g = let s : n ≡ number = cc in (more, ap (λ (x : ℕ). x ∷ more) s)
    by false g = absurd (cc)

  first_more : (ns : List ℕ) (number : ℕ) → first_number ns ≡ Some number → ns ≡ number ∷ without_first ns
  first_more [] number h = absurd (cc)
  first_more (n ∷ more) number h = let s : n ≡ number = cc in ap (λ (x : ℕ). x ∷ more) s

  tally_here : (k : Part) (number : ℕ) (how : NoticeKind) (d n : List ℕ) → notice_due how (end_of k.state q c) ≡ Some number → Owned su.count k → Ordered su.count k.state → Tally q c k d n → Tally q c (part_act su k (Noticed q c number how)) (d ++ notice_in Delivered q c (Noticed q c number how)) (n ++ notice_in Ended q c (Noticed q c number how))
  tally_here k number Delivered d n due own o t =
      let e = end_of k.state q c in
      let new = end_here k (end_noticed Delivered number e).local own in
      let notes : noted_aim (aimed su k.state (Noticed q c number Delivered)) q c ≡ Told number ∷ [] = here_notice (Told number ∷ []) [] in
      let given = here_notice (number ∷ []) [] in
      let ungiven = here_notice [] [] in
      let local = own.ends q c lq lc in
      let more = due_more e.sides.send.remote_get e.sides.pending_notices number due in
      record {
        delivered = ap (λ (ns : List Note). all_told Delivered (with_notes q c ns (k.books q c))) notes ∙ all_said q c Delivered (Told number ∷ []) (k.books q c) (there (is_begun e) refl local more) ∙ (λ i. t.delivered i ++ sym given i);
        ended = ap (λ (ns : List Note). all_told Ended (with_notes q c ns (k.books q c))) notes ∙ none_said q c Ended (Told number ∷ []) (k.books q c) refl ∙ t.ended ∙ (λ i. unsaid n i ++ e.ended) ∙ (λ i. (n ++ sym ungiven i) ++ (sym new i).ended);
        explained = subst (λ (ns : List Note). AreExplained (with_notes q c ns (k.books q c))) (sym notes) (plain_explained q c (Told number ∷ []) (k.books q c) refl t.explained);
      }
    where
      there : (b : Bool) → is_begun (end_of k.state q c) ≡ b → LocalAt (end_of k.state q c) (k.books q c) → ((more : List ℕ) × ((end_of k.state q c).sides.pending_notices ≡ number ∷ more)) → IsThere (k.books q c)
      there true z l m = live_there (end_of k.state q c) (k.books q c) (l.live z)
      there false z l m = let y : [] ≡ number ∷ m.0 = sym ((o.flows q c lq lc).unbegun z) ∙ m.1 in absurd (cc)
  tally_here k number Ended d n due own o t =
      let e = end_of k.state q c in
      let new = end_here k (end_noticed Ended number e).local own in
      let notes : noted_aim (aimed su k.state (Noticed q c number Ended)) q c ≡ [] = here_notice [] [] in
      let given = here_notice (number ∷ []) [] in
      let ungiven = here_notice [] [] in
      record {
        delivered = ap (λ (ns : List Note). all_told Delivered (with_notes q c ns (k.books q c))) notes ∙ t.delivered ∙ unsaid d ∙ ap (λ (xs : List ℕ). d ++ xs) (sym ungiven);
        ended = ap (λ (ns : List Note). all_told Ended (with_notes q c ns (k.books q c))) notes ∙ t.ended ∙ ap (λ (xs : List ℕ). n ++ xs) (first_more e.ended number due) ∙ sym (append_assoc n (number ∷ []) (without_first e.ended)) ∙ (λ i. (n ++ sym given i) ++ (sym new i).ended);
        explained = subst (λ (ns : List Note). AreExplained (with_notes q c ns (k.books q c))) (sym notes) t.explained;
      }

  tally_other : (k : Part) (i j number : ℕ) (how : NoticeKind) (d n : List ℕ) → (i ≡ q → j ≡ c → ⊥) → Tally q c k d n → Tally q c (part_act su k (Noticed i j number how)) (d ++ notice_in Delivered q c (Noticed i j number how)) (n ++ notice_in Ended q c (Noticed i j number how))
  tally_other k i j number how d n m t =
      let same : end_of (after_act su k.state (Noticed i j number how)) q c ≡ end_of k.state q c = at_end (λ (x : End). x ≡ end_of k.state q c) k.state.peers i j (end_noticed how number (end_of k.state i j)).local q c (λ a b. absurd (m (sym a) (sym b))) refl in
      let notes : noted_aim (aimed su k.state (Noticed i j number how)) q c ≡ [] = off_notice i j (end_noticed how number (end_of k.state i j)).notes [] m in
      let a : notice_in Delivered q c (Noticed i j number how) ≡ [] = off_notice i j (if_kind Delivered how number) [] m in
      let b : notice_in Ended q c (Noticed i j number how) ≡ [] = off_notice i j (if_kind Ended how number) [] m in
      record {
        delivered = ap (λ (ns : List Note). all_told Delivered (with_notes q c ns (k.books q c))) notes ∙ t.delivered ∙ unsaid d ∙ ap (λ (xs : List ℕ). d ++ xs) (sym a);
        ended = ap (λ (ns : List Note). all_told Ended (with_notes q c ns (k.books q c))) notes ∙ t.ended ∙ (λ x. unsaid n x ++ (end_of k.state q c).ended) ∙ (λ x. (n ++ sym b x) ++ (sym same x).ended);
        explained = subst (λ (ns : List Note). AreExplained (with_notes q c ns (k.books q c))) (sym notes) t.explained;
      }

  tally_noticed : (k : Part) (i j number : ℕ) (how : NoticeKind) (d n : List ℕ) → notice_due how (end_of k.state i j) ≡ Some number → Owned su.count k → Ordered su.count k.state → Tally q c k d n → Tally q c (part_act su k (Noticed i j number how)) (d ++ notice_in Delivered q c (Noticed i j number how)) (n ++ notice_in Ended q c (Noticed i j number how))
  tally_noticed k i j number how d n due own o t = by (cases_eq i q) (cases_eq j c) where
    T : ℕ → ℕ → Type 0
    T x y = Tally q c (part_act su k (Noticed x y number how)) (d ++ notice_in Delivered q c (Noticed x y number how)) (n ++ notice_in Ended q c (Noticed x y number how))

    by : (i ≡ q) ⊎ (i ≡ q → ⊥) → (j ≡ c) ⊎ (j ≡ c → ⊥) → T i j
    by (inl a) (inl b) = subst (λ (x : ℕ). T x j) (sym a) (subst (λ (y : ℕ). T q y) (sym b) (tally_here k number how d n (subst (λ (x : ℕ). notice_due how (end_of k.state x c) ≡ Some number) a (subst (λ (y : ℕ). notice_due how (end_of k.state i y) ≡ Some number) b due)) own o t))
    by (inl a) (inr b) = tally_other k i j number how d n (λ x y. b y) t
    by (inr a) b = tally_other k i j number how d n (λ x y. a x) t

  pub tally_act : (k : Part) (x : Act) (d n : List ℕ) → MayAct su k.state x → Owned su.count k → Ordered su.count k.state → Tally q c k d n → Tally q c (part_act su k x) (d ++ notice_in Delivered q c x) (n ++ notice_in Ended q c x)
  tally_act k Begun d n may own o t = subst (λ (xs : List ℕ). Tally q c (part_act su k Begun) xs (n ++ [])) (unsaid d) (subst (λ (xs : List ℕ). Tally q c (part_act su k Begun) d xs) (unsaid n) (tally_command k Begun d n tt own o t))
  tally_act k Answered d n may own o t = subst (λ (xs : List ℕ). Tally q c (part_act su k Answered) xs (n ++ [])) (unsaid d) (subst (λ (xs : List ℕ). Tally q c (part_act su k Answered) d xs) (unsaid n) (tally_command k Answered d n tt own o t))
  tally_act k (Noticed i j number how) d n may own o t = tally_noticed k i j number how d n may.1.2 own o t
