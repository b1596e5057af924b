-- What holds of every two partitions at the opening, and so after every history.
use Rattle.std.proofs.Common.{◌≡◌, ℕ, ◌<◌, Bool, true, false, ◌||◌, cond, eqb, List, [], ◌∷◌, length, set, get_or-set_same, get_or-set_other, refl, ap, sym, ◌∙◌, subst, arith, Option, Some, None, inl, inr, ◌⊎◌}
use Rattle.xp_base.specs.declared.layout.TheConstants.{SECOND}
use Rattle.std.proofs.lemmas.Bool.{cases_eq, eq-eqb, ne_eqb}
use Rattle.std.proofs.lemmas.List.{get_or-replicate, length-replicate, length-set}
use Rattle.xp_base.specs.Memory.{Memory}
use Rattle.xp_base.specs.History.{Event, turns_of}
use Rattle.xp_script.specs.declared.part.Link.{Link}
use Rattle.xp_script.specs.declared.scenario.Scenario.{Scenario}
use Rattle.xp_script.specs.Parts.{part_of, links_of}
use Rattle.xp_script.specs.Opening.{opening}
use Rattle.xp_script.specs.Lawful.{IsLawful}
use Rattle.std.specs.Prelude.{is_some}
use Rattle.xp_script.specs.declared.part.ScenarioPart.{ScenarioPart}
use Rattle.xp_protocol.specs.State.{Life, Engage, End, Contact, Peer, Old, each, warm_end, first_met, idle_end, link_at, end_of, cold_peer, warm_engage, warm_peer, first_contact, peer_at, peer_of, opened_peers, base_engage, base_peer, first_peers, opening_life, opening_stamp, opened_state, opened_new}
use Rattle.xp_protocol.specs.Reached.{ReachedWords}
use Rattle.xp_protocol.proofs.LawfulParts.{lawful_part}
use Rattle.xp_protocol.proofs.Slots.{at_slot, at_each}
use Rattle.xp_protocol.proofs.Frames.{AreAll, set_all, length-each}
use Rattle.xp_protocol.proofs.Opened.{start_all, off_all}
use Rattle.xp_meetings.proofs.Words.{Words, Agrees}
use Rattle.xp_meetings.proofs.Parts.{part_opened, part_start, part_from}
use Rattle.xp_meetings.proofs.Always.{always}
use Rattle.xp_meetings.proofs.Ties.{known, stamp_by}
use Rattle.xp_meetings.proofs.Both.{Both}
use Rattle.xp_meetings.proofs.Six.{Six, six}
use Rattle.xp_meetings.proofs.Starts.{starts}
use Rattle.xp_meetings.proofs.Meets.{PairAt, Met, keeps_act, keeps_rule, keeps_failed, keeps_moment}
use Rattle.xp_meetings.proofs.Opening.{opening_words, agrees_opening, is_linked, opening_bit, opening_magic, opening_first, opening_second, opening_stamped, linked_stamp, linked_both}

-- how a partition stands to a partner
pub record Posture : Type 0 where
  pub engage : Engage
  pub contact : Option Contact

abbrev pub posture : Peer → Posture
posture p = record { engage = p.engage; contact = p.contact }

abbrev pub warm_posture : Posture
warm_posture = record { engage = warm_engage; contact = Some first_contact }

abbrev pub base_posture : List Link → Posture
base_posture ls = record { engage = base_engage ls; contact = None }

pub opened_at : {n : ℕ} (new : ℕ → Bool) (ls : List Link) (peers : List Peer) (q : ℕ) → length peers ≡ n → q < n → posture (peer_at (opened_peers new ls peers) q) ≡ cond (is_linked ls q) warm_posture (posture (peer_at peers q))
opened_at new [] peers q n l = refl
opened_at new (k ∷ ls) peers q n l =
    let x = warm_peer (new k.partner) k (peer_at peers k.partner) in
    opened_at new ls (set peers k.partner x) q (length-set peers k.partner x ∙ n) l ∙ by x refl (cases_eq k.partner q)
  where
    again : (b : Bool) → cond b warm_posture warm_posture ≡ warm_posture
    again true = refl
    again false = refl

    by : (x : Peer) → posture x ≡ warm_posture → (k.partner ≡ q) ⊎ (k.partner ≡ q → ⊥) → cond (is_linked ls q) warm_posture (posture (peer_at (set peers k.partner x) q)) ≡ cond (eqb k.partner q || is_linked ls q) warm_posture (posture (peer_at peers q))
    by x w (inl e) =
        let here : posture (peer_at (set peers k.partner x) q) ≡ warm_posture = ap (λ (m : ℕ). posture (peer_at (set peers m x) q)) e ∙ ap posture (get_or-set_same peers q x (cold_peer Old) (omega (arith, n, l))) ∙ w in
        rw (eq-eqb k.partner q e) (ap (λ (y : Posture). cond (is_linked ls q) warm_posture y) here ∙ again (is_linked ls q))
    by x w (inr d) =
        rw (ne_eqb k.partner q d) (ap (λ (y : Peer). cond (is_linked ls q) warm_posture (posture y)) (get_or-set_other peers k.partner q x (cold_peer Old) (λ f. d (sym f))))

base_length : (n : ℕ) (ls : List Link) → length (first_peers n ls) ≡ n
unfolding first_peers
base_length n ls = length-replicate {A = Peer} n (base_peer ls)

base_at : (n : ℕ) (ls : List Link) (q : ℕ) → q < n → posture (peer_at (first_peers n ls) q) ≡ base_posture ls
unfolding first_peers
base_at n ls q l = ap posture (get_or-replicate n q (base_peer ls) (cold_peer Old) l)

pub start_at : (n : ℕ) (new : ℕ → Bool) (ls : List Link) (q : ℕ) → q < n → posture (peer_at (opened_peers new ls (first_peers n ls)) q) ≡ cond (is_linked ls q) warm_posture (base_posture ls)
start_at n new ls q l = opened_at new ls (first_peers n ls) q (base_length n ls) l ∙ ap (λ (y : Posture). cond (is_linked ls q) warm_posture y) (base_at n ls q l)

-- each end of a partner that has a link is in contact
abbrev AreMet : Peer → Type 0
AreMet p = (c : ℕ) → c < 4 → is_some (link_at p.links c).shake.meet ≡ true

warm_met : (new : Bool) (l : Link) (p : Peer) → length p.links ≡ 4 → AreMet (warm_peer new l p)
warm_met new l p n c lc =
    let P : End → Type 0 = λ e. is_some e.shake.meet ≡ true in
    at_slot P (each (λ d e. first_met new e) 0 p.links) l.channel c (warm_end new l) idle_end (λ f. refl) (at_each P (λ d e. first_met new e) p.links c idle_end refl (λ f. absurd (omega (arith, f, n, lc))))

links_met : {n : ℕ} (new : ℕ → Bool) (ls : List Link) (peers : List Peer) (q : ℕ) → AreAll n peers → q < n → (is_linked ls q ≡ true) ⊎ AreMet (peer_at peers q) → AreMet (peer_at (opened_peers new ls peers) q)
links_met new [] peers q all l (inl t) = absurd (cc)
links_met new [] peers q all l (inr h) = h
links_met new (k ∷ ls) peers q all l h =
    let x = warm_peer (new k.partner) k (peer_at peers k.partner) in
    let four : length x.links ≡ 4 = length-set (each (λ d e. first_met (new k.partner) e) 0 (peer_at peers k.partner).links) k.channel _ ∙ length-each (λ d e. first_met (new k.partner) e) 0 (peer_at peers k.partner).links ∙ all.channels k.partner in
    links_met new ls (set peers k.partner x) q (set_all peers k.partner x four all) l (by x (warm_met (new k.partner) k (peer_at peers k.partner) (all.channels k.partner)) (cases_eq k.partner q) h)
  where
    by : (x : Peer) → AreMet x → (k.partner ≡ q) ⊎ (k.partner ≡ q → ⊥) → ((eqb k.partner q || is_linked ls q) ≡ true) ⊎ AreMet (peer_at peers q) → (is_linked ls q ≡ true) ⊎ AreMet (peer_at (set peers k.partner x) q)
    by x w (inl e) h = inr (subst AreMet (sym (get_or-set_same peers q x (cold_peer Old) (omega (arith, all.partners, l))) ∙ ap (λ (m : ℕ). peer_at (set peers m x) q) (sym e)) w)
    by x w (inr d) (inl t) = inl (sym (ap (λ (b : Bool). b || is_linked ls q) (ne_eqb k.partner q d)) ∙ t)
    by x w (inr d) (inr m) = inr (subst AreMet (sym (get_or-set_other peers k.partner q x (cold_peer Old) (λ f. d (sym f)))) m)

pub linked_met : (su : ScenarioPart) (q c : ℕ) → q < su.count → c < 4 → is_linked su.links q ≡ true → is_some (end_of (opened_state su) q c).shake.meet ≡ true
linked_met su q c l lc t = links_met (opened_new su) su.links (first_peers su.count su.links) q (off_all su.count su.links) l (inl t) c lc

-- the words
abbrev pub first_six : Bool → ℕ → ℕ → Six
first_six b m n = record { magic = cond b SECOND 0; one = cond b 4294967297 0; two = cond b 4294967297 0; bit = cond b 1 0; their_magic = cond b SECOND 0; their_one = cond b 4294967297 0; their_two = cond b 4294967297 0; their_bit = cond b 1 0; stamp = m; their_stamp = n }

abbrev pub Stood : Life → Posture → Life → Posture → Six → Type 0
Stood la a lb b z = Both (record { life = la; x = known (stamp_by la z.stamp) a.engage; contact = a.contact; magic = z.magic; one = z.one; two = z.two; bit = z.bit }) (record { life = lb; x = known (stamp_by lb z.their_stamp) b.engage; contact = b.contact; magic = z.their_magic; one = z.their_one; two = z.their_two; bit = z.their_bit })

pub stood_first : (ls ms : List Link) (b : Bool) → (b ≡ true → opening_stamp ls ≡ 1) → (b ≡ true → opening_stamp ms ≡ 1) → Stood (opening_life ls) (cond b warm_posture (base_posture ls)) (opening_life ms) (cond b warm_posture (base_posture ms)) (first_six b (opening_stamp ls) (opening_stamp ms))
stood_first [] ms true e f = absurd (omega (arith, e refl))
stood_first (l ∷ ls) [] true e f = absurd (omega (arith, f refl))
stood_first (l ∷ ls) (m ∷ ms) true e f = grind arith
stood_first [] [] false e f = grind arith
stood_first [] (m ∷ ms) false e f = grind arith
stood_first (l ∷ ls) [] false e f = grind arith
stood_first (l ∷ ls) (m ∷ ms) false e f = grind arith

module _ (s : Scenario) (law : IsLawful s) where
  pub six_first : (p q : ℕ) → p < s.count → q < s.count → six (opening_words s) p q ≡ first_six (is_linked (links_of s p) q) (opening_stamp (links_of s p)) (opening_stamp (links_of s q))
  six_first p q l k =
      let b = is_linked (links_of s p) q in
      let both = linked_both s law q p in
      λ i. record {
        magic = opening_magic s p q l i;
        one = opening_first s p q l i;
        two = opening_second s p q l i;
        bit = (opening_bit s q p k ∙ ap (λ (z : Bool). cond z 1 0) both) i;
        their_magic = (opening_magic s q p k ∙ ap (λ (z : Bool). cond z SECOND 0) both) i;
        their_one = (opening_first s q p k ∙ ap (λ (z : Bool). cond z 4294967297 0) both) i;
        their_two = (opening_second s q p k ∙ ap (λ (z : Bool). cond z 4294967297 0) both) i;
        their_bit = opening_bit s p q l i;
        stamp = opening_stamped s p l i;
        their_stamp = opening_stamped s q k i;
      }

  pair_first : (p q : ℕ) → p < s.count → q < s.count → PairAt (opening_words s) (part_opened (part_of s p)) (part_opened (part_of s q)) p q
  pair_first p q l k =
      let b = is_linked (links_of s p) q in
      let ls = links_of s p in
      let ms = links_of s q in
      let mine : posture (peer_of (opened_state (part_of s p)) q) ≡ cond b warm_posture (base_posture ls) = start_at s.count (opened_new (part_of s p)) ls q k in
      let theirs : posture (peer_of (opened_state (part_of s q)) p) ≡ cond b warm_posture (base_posture ms) = start_at s.count (opened_new (part_of s q)) ms p l ∙ ap (λ (z : Bool). cond z warm_posture (base_posture ms)) (linked_both s law q p) in
      let T : Posture → Posture → Six → Type 0 = λ x y z. Stood (opening_life ls) x (opening_life ms) y z in
      subst (λ (x : Posture). T x (posture (peer_of (opened_state (part_of s q)) p)) (six (opening_words s) p q)) (sym mine) (subst (λ (y : Posture). T (cond b warm_posture (base_posture ls)) y (six (opening_words s) p q)) (sym theirs)
      (subst (λ (z : Six). T (cond b warm_posture (base_posture ls)) (cond b warm_posture (base_posture ms)) z) (sym (six_first p q l k)) (stood_first ls ms b (λ e. linked_stamp ls q e) (λ e. linked_stamp ms p (linked_both s law q p ∙ e)))))

  pub met_first : Met s.count (opening_words s) (λ p. part_opened (part_of s p))
  met_first = record { stamps = λ p l. record { up = λ d. sym (opening_stamped s p l); read = λ d v e. absurd (cc) }; all = λ p l. start_all (part_of s p); both = λ p q l k d. pair_first p q l k }

  pub met_start : Met s.count (opening_words s) (λ p. part_start (part_of s p))
  met_start = starts s law (λ w σ. Met s.count w σ) (λ w σ a earlier turns la i. keeps_moment s (λ p l. lawful_part s p law l) w σ a la i earlier turns) (opening_words s) met_first

  pub met : (h : List Event) (m : Memory) → ReachedWords s h m → (w : Words) × Agrees s.count m w × Met s.count w (λ p. part_from (part_of s p) (part_start (part_of s p)) (turns_of p h))
  met h m r =
      always (part_of s) s.count (λ p l. record { lawful = lawful_part s p law l; part = refl; count = refl }) (λ w σ. Met s.count w σ)
      (λ w σ a x la i may. keeps_act s (λ p l. lawful_part s p law l) w σ a la i x)
      (λ w σ a r la i can. keeps_rule s (λ p l. lawful_part s p law l) w σ a la i r can)
      (λ w σ a r la i can. keeps_failed s (λ p l. lawful_part s p law l) w σ a la i r can)
      (λ w σ a earlier turns la i. keeps_moment s (λ p l. lawful_part s p law l) w σ a la i earlier turns)
      h (opening s) m (opening_words s) (λ p. part_start (part_of s p)) r.parts r.legal r.runs (agrees_opening s law) met_start
