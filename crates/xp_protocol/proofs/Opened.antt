-- What the opening connects: the end of each link, and no other.
use Rattle.std.proofs.Common.{◌≡◌, ℕ, zero, suc, ◌<◌, ◌≤◌, Bool, true, false, cond, eqb, List, [], ◌∷◌, length, replicate, set, get_or-set_same, refl, ap, sym, ◌∙◌, subst, arith, Some, inl, inr, ◌⊎◌}
use Rattle.std.specs.List.{slice_get}
use Rattle.std.proofs.lemmas.Bool.{cases_lt, eq-eqb, eqb-true, and_parts}
use Rattle.std.proofs.lemmas.List.{get_or_past, get_or-replicate, length-replicate, length-set}
use Rattle.xp_script.specs.declared.part.Link.{Link}
use Rattle.xp_script.specs.declared.part.ScenarioPart.{ScenarioPart}
use Rattle.xp_protocol.specs.Records.{opened_record}
use Rattle.xp_protocol.specs.State.{End, Peer, Old, cold_peer, opened_state, end_at, end_of, peer_at, link_at, idle_end, warm_end, first_met, each, warm_peer, opened_new, opened_peers, base_peer, first_peers, is_begun}
use Rattle.xp_protocol.specs.Logged.{is_at, opened_records}
use Rattle.xp_protocol.proofs.Slots.{at_slot, at_peer, at_each}
use Rattle.xp_protocol.proofs.Frames.{AreAll, set_all, length-each, idle_four, idle_at}

-- a link to q on channel c, with its number among the links of a setup
pub record LinkAt (s : ScenarioPart) (q c : ℕ) (l : Link) : Type 0 where
  pub number : ℕ
  pub listed : slice_get s.links number ≡ Some l
  pub partner : l.partner ≡ q
  pub channel : l.channel ≡ c

-- an opened end is that of a link
record Opened (new : ℕ → Bool) (ls : List Link) (q c : ℕ) (e : End) : Type 0 where
  number : ℕ
  link : Link
  listed : slice_get ls number ≡ Some link
  partner : link.partner ≡ q
  channel : link.channel ≡ c
  is : e ≡ warm_end (new q) link

-- or that of a channel without a link, whose partner has one
record Met (new : ℕ → Bool) (ls : List Link) (q : ℕ) (old e : End) : Type 0 where
  number : ℕ
  link : Link
  listed : slice_get ls number ≡ Some link
  partner : link.partner ≡ q
  is : e ≡ first_met (new q) old

abbrev opened_one : (ℕ → Bool) → Link → List Peer → List Peer
opened_one new l peers = set peers l.partner (warm_peer (new l.partner) l (peer_at peers l.partner))

-- a fact of an end after one was opened
at_warm : (P : End → Type 0) (new : ℕ → Bool) (l : Link) (peers : List Peer) (q c : ℕ) → (q ≡ l.partner → c ≡ l.channel → P (warm_end (new q) l)) → (q ≡ l.partner → P (first_met (new q) (end_at peers q c))) → P (end_at peers q c) → P (end_at (opened_one new l peers) q c)
at_warm P new l peers q c warm met old =
    at_peer (λ (p : Peer). P (link_at p.links c)) peers l.partner (warm_peer (new l.partner) l (peer_at peers l.partner)) q
    (λ e. at_slot P (each (λ d x. first_met (new l.partner) x) 0 (peer_at peers l.partner).links) l.channel c (warm_end (new l.partner) l) idle_end (λ f. subst (λ (j : ℕ). P (warm_end (new j) l)) e (warm e f))
    (at_each P (λ d x. first_met (new l.partner) x) (peer_at peers l.partner).links c idle_end (subst (λ (j : ℕ). P (first_met (new j) (end_at peers j c))) e (met e)) (λ len. subst P (get_or_past (peer_at peers l.partner).links c idle_end len) (subst (λ (j : ℕ). P (end_at peers j c)) e old)))) old

opened_from_link : (new : ℕ → Bool) (ls : List Link) (peers : List Peer) (q c : ℕ) → (let e = end_at (opened_peers new ls peers) q c in (e ≡ end_at peers q c) ⊎ (Met new ls q (end_at peers q c) e ⊎ Opened new ls q c e))
opened_from_link new [] peers q c = inl refl
opened_from_link new (l ∷ ls) peers q c =
    let one = opened_one new l peers in
    let old = end_at peers q c in
    let last = end_at (opened_peers new ls one) q c in
    let R : Type 0 = (last ≡ old) ⊎ (Met new (l ∷ ls) q old last ⊎ Opened new (l ∷ ls) q c last) in
    let same : (λ (y : End). last ≡ y → R) (end_at one q c) =
    at_warm (λ (y : End). last ≡ y → R) new l peers q c
    (λ a b f. inr (inr (record { number = 0; link = l; listed = refl; partner = sym a; channel = sym b; is = f })))
    (λ a f. inr (inl (record { number = 0; link = l; listed = refl; partner = sym a; is = f }))) (λ f. inl f) in
    let met : (λ (y : End). Met new ls q y last → R) (end_at one q c) =
    at_warm (λ (y : End). Met new ls q y last → R) new l peers q c
    (λ a b h. inr (inr (record { number = 0; link = l; listed = refl; partner = sym a; channel = sym b; is = h.is })))
    (λ a h. inr (inl (record { number = suc h.number; link = h.link; listed = h.listed; partner = h.partner; is = h.is })))
    (λ h. inr (inl (record { number = suc h.number; link = h.link; listed = h.listed; partner = h.partner; is = h.is }))) in
    elim (opened_from_link new ls one q c) [
      | inl e ↦ same e
      | inr (inl h) ↦ met h
      | inr (inr h) ↦ inr (inr (record { number = suc h.number; link = h.link; listed = h.listed; partner = h.partner; channel = h.channel; is = h.is }))
    ]

-- the end of a link at the opening
pub record OpenedAt (s : ScenarioPart) (q c : ℕ) (e : End) : Type 0 where
  pub link : Link
  pub at : LinkAt s q c link
  pub is : e ≡ warm_end (opened_new s q) link

-- that of a channel without a link, whose partner has one
pub record MetAt (s : ScenarioPart) (q : ℕ) (e : End) : Type 0 where
  pub number : ℕ
  pub link : Link
  pub listed : slice_get s.links number ≡ Some link
  pub partner : link.partner ≡ q
  pub is : e ≡ first_met (opened_new s q) idle_end

-- before it there are all, and none is begun
pub off_all : (n : ℕ) (ls : List Link) → AreAll n (first_peers n ls)
unfolding first_peers
off_all n ls = record { partners = length-replicate {A = Peer} n (base_peer ls); channels = λ q. off_links q (cases_lt q n) } where
  off_links : (q : ℕ) → (q < n) ⊎ (n ≤ q) → length (peer_at (replicate n (base_peer ls)) q).links ≡ 4
  off_links q (inl l) = ap (λ (p : Peer). length p.links) (get_or-replicate n q (base_peer ls) (cold_peer Old) l) ∙ idle_four
  off_links q (inr l) = ap (λ (p : Peer). length p.links) (get_or_past (replicate n (base_peer ls)) q (cold_peer Old) (omega (arith, length-replicate {A = Peer} n (base_peer ls), l))) ∙ idle_four

off_at : (n : ℕ) (ls : List Link) (q c : ℕ) → end_at (first_peers n ls) q c ≡ idle_end
unfolding first_peers
off_at n ls q c = by (cases_lt q n) where
  by : (q < n) ⊎ (n ≤ q) → end_at (replicate n (base_peer ls)) q c ≡ idle_end
  by (inl l) = ap (λ (p : Peer). link_at p.links c) (get_or-replicate n q (base_peer ls) (cold_peer Old) l) ∙ idle_at c
  by (inr l) = ap (λ (p : Peer). link_at p.links c) (get_or_past (replicate n (base_peer ls)) q (cold_peer Old) (omega (arith, length-replicate {A = Peer} n (base_peer ls), l))) ∙ idle_at c

warm_four : (new : Bool) (l : Link) (p : Peer) → length p.links ≡ 4 → length (warm_peer new l p).links ≡ 4
warm_four new l p n = length-set (each (λ c e. first_met new e) 0 p.links) l.channel _ ∙ length-each (λ c e. first_met new e) 0 p.links ∙ n

opened_all : {n : ℕ} (new : ℕ → Bool) (ls : List Link) (peers : List Peer) → AreAll n peers → AreAll n (opened_peers new ls peers)
opened_all new [] peers h = h
opened_all new (l ∷ ls) peers h = opened_all new ls (opened_one new l peers) (set_all peers l.partner _ (warm_four (new l.partner) l (peer_at peers l.partner) (h.channels l.partner)) h)

pub start_all : (s : ScenarioPart) → AreAll s.count (opened_state s).peers
start_all s = opened_all (opened_new s) s.links (first_peers s.count s.links) (off_all s.count s.links)

-- at the opening, an end that is begun is that of a link
pub begun_opened : (s : ScenarioPart) (q c : ℕ) → is_begun (end_of (opened_state s) q c) ≡ true → OpenedAt s q c (end_of (opened_state s) q c)
begun_opened s q c w = elim (opened_from_link (opened_new s) s.links (first_peers s.count s.links) q c) [
  | inl e ↦ let f = ap (λ (x : End). is_begun x) (e ∙ off_at s.count s.links q c) in absurd (cc)
  | inr (inl h) ↦ let f = ap (λ (x : End). is_begun x) (h.is ∙ ap (λ (x : End). first_met (opened_new s q) x) (off_at s.count s.links q c)) in absurd (cc)
  | inr (inr h) ↦ record { link = h.link; at = record { number = h.number; listed = h.listed; partner = h.partner; channel = h.channel }; is = h.is }
]

-- and each link opens its end
stays_begun : (new : ℕ → Bool) (ls : List Link) (peers : List Peer) (q c : ℕ) → is_begun (end_at peers q c) ≡ true → is_begun (end_at (opened_peers new ls peers) q c) ≡ true
stays_begun new [] peers q c w = w
stays_begun new (l ∷ ls) peers q c w = stays_begun new ls (opened_one new l peers) q c (at_warm (λ (y : End). is_begun y ≡ true) new l peers q c (λ a b. refl) (λ a. w) w)

abbrev pub AreLow : ℕ → List Link → Type 0
AreLow n ls = (i : ℕ) (l : Link) → slice_get ls i ≡ Some l → (l.partner < n) × (l.channel < 4)

opens : {n : ℕ} (new : ℕ → Bool) (ls : List Link) (peers : List Peer) (i : ℕ) (k : Link) → AreLow n ls → AreAll n peers → slice_get ls i ≡ Some k → is_begun (end_at (opened_peers new ls peers) k.partner k.channel) ≡ true
opens new [] peers i k low all e = absurd (cc)
opens new (l ∷ ls) peers (suc i) k low all e = opens new ls (opened_one new l peers) i k (λ j m f. low (suc j) m f) (set_all peers l.partner _ (warm_four (new l.partner) l (peer_at peers l.partner) (all.channels l.partner)) all) e
opens new (l ∷ ls) peers zero k low all e =
    let d : l ≡ k = cc in
    let b = low 0 l refl in
    let warm = warm_peer (new l.partner) l (peer_at peers l.partner) in
    let met = each (λ c e. first_met (new l.partner) e) 0 (peer_at peers l.partner).links in
    let four : length met ≡ 4 = length-each (λ c e. first_met (new l.partner) e) 0 (peer_at peers l.partner).links ∙ all.channels l.partner in
    let here : end_at (opened_one new l peers) l.partner l.channel ≡ warm_end (new l.partner) l = ap (λ (p : Peer). link_at p.links l.channel) (get_or-set_same peers l.partner warm (cold_peer Old) (omega (arith, all.partners, b.0))) ∙ get_or-set_same met l.channel (warm_end (new l.partner) l) idle_end (omega (arith, four, b.1)) in
    let w = stays_begun new ls (opened_one new l peers) l.partner l.channel (ap (λ (x : End). is_begun x) here) in
    subst (λ (x : Link). is_begun (end_at (opened_peers new (l ∷ ls) peers) x.partner x.channel) ≡ true) d w

pub link_opened : (s : ScenarioPart) (q c : ℕ) (l : Link) → AreLow s.count s.links → LinkAt s q c l → OpenedAt s q c (end_of (opened_state s) q c)
link_opened s q c l low k = begun_opened s q c (subst (λ (x : ℕ). is_begun (end_of (opened_state s) x c) ≡ true) k.partner (subst (λ (x : ℕ). is_begun (end_of (opened_state s) l.partner x) ≡ true) k.channel (opens (opened_new s) s.links (first_peers s.count s.links) k.number l low (off_all s.count s.links) k.listed)))

-- the records of the opening
at_true : (x : Link) (q c : ℕ) → x.partner ≡ q → x.channel ≡ c → is_at x q c ≡ true
at_true x q c e f = rw (eq-eqb x.partner q e) (eq-eqb x.channel c f)

pub records_opened : (ls : List Link) (q c i : ℕ) (l : Link) → slice_get ls i ≡ Some l → l.partner ≡ q → l.channel ≡ c → ((j : ℕ) (m : Link) → slice_get ls j ≡ Some m → m.partner ≡ q → m.channel ≡ c → m ≡ l) → opened_records ls q c ≡ opened_record l ∷ []
records_opened [] q c i l e p d one = absurd (cc)
records_opened (x ∷ ls) q c i l e p d one = by (is_at x q c) refl i e (λ k f. records_opened ls q c k l f p d (λ j m g. one (suc j) m g)) where
  by : (b : Bool) → is_at x q c ≡ b → (i : ℕ) → slice_get (x ∷ ls) i ≡ Some l → ((k : ℕ) → slice_get ls k ≡ Some l → opened_records ls q c ≡ opened_record l ∷ []) → cond b (opened_record x ∷ []) (opened_records ls q c) ≡ opened_record l ∷ []
  by true t i e more = let a = and_parts (eqb x.partner q) (eqb x.channel c) t in ap (λ (y : Link). opened_record y ∷ []) (one 0 x refl (eqb-true x.partner q a.0) (eqb-true x.channel c a.1))
  by false t zero e more = let same : x ≡ l = cc in let here = at_true x q c (ap (λ (y : Link). y.partner) same ∙ p) (ap (λ (y : Link). y.channel) same ∙ d) in absurd (cc)
  by false t (suc i) e more = more i e

-- an end at the opening is idle, or in contact without a connection, or that of a link
pub opened_or : (s : ScenarioPart) (q c : ℕ) → (let e = end_of (opened_state s) q c in (e ≡ idle_end) ⊎ (MetAt s q e ⊎ OpenedAt s q c e))
opened_or s q c = elim (opened_from_link (opened_new s) s.links (first_peers s.count s.links) q c) [
  | inl e ↦ inl (e ∙ off_at s.count s.links q c)
  | inr (inl h) ↦ inr (inl (record { number = h.number; link = h.link; listed = h.listed; partner = h.partner; is = h.is ∙ ap (λ (x : End). first_met (opened_new s q) x) (off_at s.count s.links q c) }))
  | inr (inr h) ↦ inr (inr (record { link = h.link; at = record { number = h.number; listed = h.listed; partner = h.partner; channel = h.channel }; is = h.is }))
]

-- what holds of an idle end, of one in contact, and of that of each link
pub opened_fact : (s : ScenarioPart) (q c : ℕ) (P : End → Type 0) → P idle_end → ((new : Bool) → P (first_met new idle_end)) → ((new : Bool) (l : Link) → P (warm_end new l)) → P (end_of (opened_state s) q c)
opened_fact s q c P idle met warm = elim (opened_or s q c) [
  | inl e ↦ subst P (sym e) idle
  | inr (inl h) ↦ subst P (sym h.is) (met (opened_new s q))
  | inr (inr h) ↦ subst P (sym h.is) (warm (opened_new s q) h.link)
]

-- without a link there is no record
pub no_records : (ls : List Link) (q c : ℕ) → ((i : ℕ) (l : Link) → slice_get ls i ≡ Some l → l.partner ≡ q → l.channel ≡ c → ⊥) → opened_records ls q c ≡ []
no_records [] q c miss = refl
no_records (x ∷ ls) q c miss = by (is_at x q c) refl (no_records ls q c (λ i l e. miss (suc i) l e)) where
  by : (b : Bool) → is_at x q c ≡ b → opened_records ls q c ≡ [] → cond b (opened_record x ∷ []) (opened_records ls q c) ≡ []
  by true t more = let a = and_parts (eqb x.partner q) (eqb x.channel c) t in absurd (miss 0 x refl (eqb-true x.partner q a.0) (eqb-true x.channel c a.1))
  by false t more = more
