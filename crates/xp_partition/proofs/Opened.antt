-- The partners of a partition that opens: none is in contact at first, and each link that is
-- connected brings one of them into contact.
use Rattle.std.proofs.Common.{◌≡◌, ℕ, zero, suc, ◌+◌, ◌<◌, ◌≢◌, ◌^◌, Bool, true, false, true≢false, List, [], ◌∷◌, ◌++◌, length, get_or, set, map, bit_or, refl, ap, sym, ◌∙◌, subst, arith, Option, Some, None}
use Rattle.std.specs.Prelude.{replicate, nat_eq, is_some, slice_get}
use Rattle.std.proofs.lemmas.List.{map-set, length-set, length-map, length-append, length-replicate, get_or-replicate, get_or_push, get_or_append_left, ext_get_or}
use Rattle.std.proofs.Math.ListN.{get_or-map}
use Rattle.std.proofs.lemmas.Nat.Bits.{bit_at-zero, bit_at_or, bit_at-pow_same, bit_at-pow_other, same_from_bits}
use Rattle.std.specs.Int.{bit_at}
use Rattle.std.proofs.lemmas.Option.{slice_get_read}
use Rattle.xp_base.specs.declared.layout.TheConstants.{CHANNELS, PARTS}
use Rattle.xp_base.specs.Masks.{has}
use Rattle.xp_base.specs.Windows.{window_of}
use Rattle.xp_script.specs.declared.part.Link.{Link}
use Rattle.xp_script.specs.declared.part.ScenarioPart.{ScenarioPart}
use Rattle.xp_script.proofs.Openings.{or_assoc}
use Rattle.xp_protocol.specs.declared.contact.Look.{Look}
use Rattle.xp_protocol.specs.Parts.{IsLawfulPart, IsLawfulLink}
use Rattle.xp_protocol.proofs.Lawful.{lawful_link}
use Rattle.xp_protocol.specs.declared.contact.Look.TheVariants.{Unseen}
use Rattle.xp_protocol.specs.State.{End, Peer, Contact, Engage, Watch, new_watch, are_new, warm_engage, idle_links, none_going, each, first_contact, first_met, warm_end, warm_peer, size_of, version_of, opened_new, opened_peers, base_peer, first_peers, opening_stamp, link_mask, peer_at}
use Rattle.xp_protocol.specs.Peering.{is_flagged}
use Rattle.xp_protocol.specs.Logged.{opened_records}
use Rattle.xp_engage.specs.Partner.{Partner as Standing}
use Rattle.xp_channel.specs.Channel.{Channel, new_channel}
use Rattle.xp_channel.specs.Room.{HasTurnRoom}
use Rattle.xp_partner.specs.Partner.{Partner, peer_seen, end_seen, rooms_of, each_roomed, channel_at, four_channels}
use Rattle.xp_partner.specs.Opening.{warmed, first_met as ends_met, warm_channel}
use Rattle.xp_partner.specs.Room.{HaveTurnRoom}
use Rattle.xp_partner.proofs.Channels.{by_four}
use Rattle.xp_partition.specs.Partners.{Partners, no_partner, partner_at}
use Rattle.xp_partition.proofs.Roomy.{same_at, other_at, at_or}
use Rattle.xp_partition.specs.Opening.{cold_partner, cold_standing, IsColdOrWarm, IsStanding, IsWarmedAt, linked_records, Opens}
use Rattle.xp_partition.proofs.Recording.{all_linked, length_warmed, WillBe, linked_here, linked_elsewhere}

-- room is not what is known of a partner
links_roomed : (xs ys : List Channel) → map end_seen (each_roomed xs ys) ≡ map end_seen xs
links_roomed [] ys = refl
links_roomed (x ∷ xs) [] = refl
links_roomed (x ∷ xs) (y ∷ ys) = ap (λ (es : List End). x.end ∷ es) (links_roomed xs ys)

pub seen_rooms : (x y : Partner) → peer_seen (rooms_of x y) ≡ peer_seen x
seen_rooms x y = ap (λ (es : List End). record (peer_seen x) { links = es }) (links_roomed x.channels y.channels)

-- contact that was made is made again without a change
abbrev met : Bool → ℕ → End → End
met new c e = first_met new e

met_again : (new : Bool) (n : ℕ) (es : List End) → each (met new) n (each (met new) n es) ≡ each (met new) n es
met_again new n [] = refl
met_again new n (e ∷ es) = ap (λ (xs : List End). first_met new e ∷ xs) (met_again new (n + 1) es)

met_set : (new : Bool) (l : Link) (n : ℕ) (es : List End) (c : ℕ) → each (met new) n (set (each (met new) n es) c (warm_end new l)) ≡ set (each (met new) n es) c (warm_end new l)
met_set new l n [] c = refl
met_set new l n (e ∷ es) zero = ap (λ (xs : List End). warm_end new l ∷ xs) (met_again new (n + 1) es)
met_set new l n (e ∷ es) (suc c) = ap (λ (xs : List End). first_met new e ∷ xs) (met_set new l (n + 1) es c)

-- a partner that is cold or warm, with one more channel connected
warm_end_seen : (own q c : ℕ) (l : Link) (new : Bool) → end_seen (warm_channel own q c (size_of l) new) ≡ warm_end new l
warm_end_seen own q c l new = refl

warm_links : (x : Partner) (theirs window : ℕ) (l : Link) → (peer_seen (warmed theirs window l.channel (size_of l) x)).links
    ≡ set (map end_seen (ends_met (is_some x.standing.contact) (warmed theirs window l.channel (size_of l) x).standing.both_new x.channels)) l.channel (warm_end (warmed theirs window l.channel (size_of l) x).standing.both_new l)
warm_links x theirs window l = map-set end_seen _ l.channel _

same_peer : (p : Peer) (w : Bool) (k : Look) (s : ℕ) (v : Watch) (b : Bool) (e : Engage) (m : Option Contact) (es fs : List End) → p.wanted ≡ w → p.look ≡ k → p.flags_seen ≡ s → p.watch ≡ v → es ≡ fs
    → record p { wanted = w; look = k; flags_seen = s; watch = v; both_new = b; engage = e; contact = m; links = es }
    ≡ record p { both_new = b; engage = e; contact = m; links = fs }
same_peer p w k s v b e m es fs h i j n l = cc

cold_seen : (s : ScenarioPart) (q : ℕ) → peer_seen (cold_partner s q) ≡ base_peer s.links
unfolding idle_links none_going
cold_seen s q = refl

cold_warm : (s : ScenarioPart) (l : Link) → peer_seen (warmed (version_of s l.partner) (window_of s.count) l.channel (size_of l) (cold_partner s l.partner)) ≡ warm_peer (opened_new s l.partner) l (peer_seen (cold_partner s l.partner))
cold_warm s l =
    let y = warmed (version_of s l.partner) (window_of s.count) l.channel (size_of l) (cold_partner s l.partner) in
    ap (λ (es : List End). record (peer_seen y) { links = es }) (warm_links (cold_partner s l.partner) (version_of s l.partner) (window_of s.count) l)

pub warm_seen : (s : ScenarioPart) (x : Partner) (l : Link) (m : Option Contact) → x.standing.contact ≡ m → x.standing.version ≡ version_of s s.part → IsColdOrWarm s l.partner m x
    → peer_seen (warmed (version_of s l.partner) (window_of s.count) l.channel (size_of l) x) ≡ warm_peer (opened_new s l.partner) l (peer_seen x)
warm_seen s x l None e v h = subst (λ (z : Partner). peer_seen (warmed (version_of s l.partner) (window_of s.count) l.channel (size_of l) z) ≡ warm_peer (opened_new s l.partner) l (peer_seen z)) (sym h) (cold_warm s l)
warm_seen s x l (Some m) e v h =
    let new = opened_new s l.partner in
    let y = warmed (version_of s l.partner) (window_of s.count) l.channel (size_of l) x in
    let same : y.standing.both_new ≡ new = ap (λ (own : ℕ). are_new own (version_of s l.partner)) v in
    let links : (peer_seen y).links ≡ set (each (λ c e. first_met new e) 0 (peer_seen x).links) l.channel (warm_end new l) =
    warm_links x (version_of s l.partner) (window_of s.count) l
    ∙ ap (λ (o : Option Contact). set (map end_seen (ends_met (is_some o) y.standing.both_new x.channels)) l.channel (warm_end y.standing.both_new l)) e
    ∙ ap (λ (b : Bool). set (map end_seen x.channels) l.channel (warm_end b l)) same
    ∙ ap (λ (es : List End). set es l.channel (warm_end new l)) (sym h.1.ends) in
    ap (λ (b : Bool). record (peer_seen y) { both_new = b }) same
    ∙ same_peer (peer_seen x) true Unseen 0 (new_watch 0) new warm_engage (Some first_contact) (peer_seen y).links (set (each (λ c e. first_met new e) 0 (peer_seen x).links) l.channel (warm_end new l)) h.1.wanted h.1.look h.1.seen h.1.watch links

-- the same partner as it is then
warm_is : (s : ScenarioPart) (x y : Partner) (l : Link) → y ≡ rooms_of (warmed (version_of s l.partner) (window_of s.count) l.channel (size_of l) x) y
    → peer_seen (warmed (version_of s l.partner) (window_of s.count) l.channel (size_of l) x) ≡ warm_peer (opened_new s l.partner) l (peer_seen x)
    → peer_seen y ≡ warm_peer (opened_new s l.partner) l (peer_seen x)
warm_is s x y l e h = ap peer_seen e ∙ seen_rooms (warmed (version_of s l.partner) (window_of s.count) l.channel (size_of l) x) y ∙ h

warm_now : (s : ScenarioPart) (x y : Partner) (l : Link) → x.standing.version ≡ version_of s s.part → y ≡ rooms_of (warmed (version_of s l.partner) (window_of s.count) l.channel (size_of l) x) y
    → peer_seen y ≡ warm_peer (opened_new s l.partner) l (peer_seen x) → IsColdOrWarm s l.partner y.standing.contact y
warm_now s x y l v e seen = subst (λ (m : Option Contact). IsColdOrWarm s l.partner m y) (sym (ap (λ (p : Partner). p.standing.contact) e)) (
  refl,
  record {
    wanted = ap (λ (p : Partner). p.standing.wanted) e;
    look = ap (λ (p : Partner). p.standing.look) e;
    seen = ap (λ (p : Partner). p.standing.flags_seen) e;
    both_new = ap (λ (p : Partner). p.standing.both_new) e ∙ ap (λ (own : ℕ). are_new own (version_of s l.partner)) v;
    engage = ap (λ (p : Partner). p.standing.engage) e;
    watch = ap (λ (p : Partner). p.standing.watch) e;
    ends = let k = ap (λ (p : Peer). p.links) seen in
        ap (λ (es : List End). each (λ c e. first_met (opened_new s l.partner) e) 0 es) k
        ∙ met_set (opened_new s l.partner) l 0 (peer_seen x).links l.channel ∙ sym k;
  },
)

-- masks with one bit more
bit_same : (m q : ℕ) → is_flagged (bit_or m (2 ^ q)) q ≡ true
bit_same m q =
    let e : bit_at (bit_or m (2 ^ q)) q ≡ 1 = omega (arith, bit_at_or m (2 ^ q) q, bit_at-pow_same q) in
    ap (λ (n : ℕ). nat_eq n 1) e

bit_other : (m q i : ℕ) → i ≢ q → is_flagged (bit_or m (2 ^ q)) i ≡ is_flagged m i
bit_other m q i h =
    let e : bit_at (bit_or m (2 ^ q)) i ≡ bit_at m i = omega (arith, bit_at_or m (2 ^ q) i, bit_at-pow_other q i h) in
    ap (λ (n : ℕ). nat_eq n 1) e

warm_standing_is : (s : ScenarioPart) (x y : Partner) (l : Link) (mask : ℕ) → opening_stamp s.links ≡ 1 → IsStanding s (opening_stamp s.links) mask l.partner x.standing → y ≡ rooms_of (warmed (version_of s l.partner) (window_of s.count) l.channel (size_of l) x) y
    → IsStanding s (opening_stamp s.links) (bit_or mask (2 ^ l.partner)) l.partner y.standing
warm_standing_is s x y l mask o h e = record {
  own = ap (λ (p : Partner). p.standing.own) e ∙ h.own;
  partner = ap (λ (p : Partner). p.standing.partner) e ∙ h.partner;
  version = ap (λ (p : Partner). p.standing.version) e ∙ h.version;
  wait = ap (λ (p : Partner). p.standing.wait) e;
  checked = ap (λ (p : Partner). p.standing.check) e ∙ h.checked;
  stamped = ap (λ (p : Partner). p.standing.stamp) e ∙ sym o;
  masked = ap (λ (p : Partner). p.standing.masked) e ∙ sym (bit_same mask l.partner);
}

other_standing : (s : ScenarioPart) (n mask p q : ℕ) (x : Standing) → q ≢ p → IsStanding s n mask q x → IsStanding s n (bit_or mask (2 ^ p)) q x
other_standing s n mask p q x d h = record { own = h.own; partner = h.partner; version = h.version; wait = h.wait; checked = h.checked; stamped = h.stamped; masked = h.masked ∙ sym (bit_other mask p q d) }

-- one more of the links is connected
put_at : (P : ℕ → Partner → Type 0) (xs : List Partner) (i : ℕ) (p : Partner) → i < length xs → P i p → ((q : ℕ) → q ≢ i → P q (partner_at xs q)) → (q : ℕ) → P q (partner_at (set xs i p) q)
put_at P xs i p l a b = at_or (λ q. P q (partner_at (set xs i p) q)) i
    (subst (P i) (sym (same_at xs i p l)) a)
    (λ q d. subst (P q) (sym (other_at xs i q p d)) (b q d))

pub seen_at : (xs : List Partner) (q : ℕ) → peer_at (map peer_seen xs) q ≡ peer_seen (partner_at xs q)
unfolding idle_links none_going
seen_at xs q = get_or-map peer_seen xs q no_partner

pub warm_opens : (s : ScenarioPart) (l : Link) (x y z : Partners) → IsLawfulPart s → l.partner < length x.list → l.channel < CHANNELS → y.list ≡ x.list
    → has y.touched l.partner ≡ true → ((q : ℕ) → q < PARTS → q ≢ l.partner → has y.touched q ≡ has x.touched q)
    → IsWarmedAt (version_of s l.partner) (window_of s.count) l.partner l.channel (size_of l) y z
    → (more : List Link) (mask : ℕ) → Opens s (l ∷ more) mask x → Opens s more (bit_or mask (2 ^ l.partner)) z
warm_opens s l x y z lawful low few same here others made more mask h =
    let p = partner_at z.list l.partner in
    let old = partner_at x.list l.partner in
    let e : p ≡ rooms_of (warmed (version_of s l.partner) (window_of s.count) l.channel (size_of l) old) p = subst (λ (xs : List Partner). p ≡ rooms_of (warmed (version_of s l.partner) (window_of s.count) l.channel (size_of l) (partner_at xs l.partner)) p) same made.partner in
    let whole : z ≡ record { list = set x.list l.partner p; touched = y.touched } = made.whole ∙ ap (λ (xs : List Partner). record y { list = set xs l.partner p }) same in
    let k : l.partner < s.count = subst (λ (n : ℕ). l.partner < n) h.count low in
    let st = h.standing l.partner k in
    let wide : l.channel < length old.channels = subst (λ (n : ℕ). l.channel < n) (sym (h.four l.partner k)) few in
    let seen = warm_is s old p l e (warm_seen s old l old.standing.contact refl st.version (h.each_one l.partner k)) in
    subst (Opens s more (bit_or mask (2 ^ l.partner))) (sym whole) (record {
      count = length-set x.list l.partner p ∙ h.count;
      stamp = λ l2 ls i. h.stamp l more refl;
      standing = put_at (λ q z. q < s.count → IsStanding s (opening_stamp s.links) (bit_or mask (2 ^ l.partner)) q z.standing) x.list l.partner p low
          (λ j. warm_standing_is s old p l mask (h.stamp l more refl) st e)
          (λ q d j. other_standing s (opening_stamp s.links) mask l.partner q (partner_at x.list q).standing d (h.standing q j));
      each_one = put_at (λ q z. q < s.count → IsColdOrWarm s q z.standing.contact z) x.list l.partner p low
          (λ j. warm_now s old p l st.version e seen)
          (λ q d j. h.each_one q j);
      four = put_at (λ q z. q < s.count → length z.channels ≡ CHANNELS) x.list l.partner p low
          (λ j. length_warmed s l old p e ∙ h.four l.partner k)
          (λ q d j. h.four q j);
      recorded = put_at (λ q z. q < s.count → WillBe s more q z) x.list l.partner p low
          (λ j. linked_here s l more old p st.partner wide e (h.recorded l.partner k))
          (λ q d j. linked_elsewhere s l more q (partner_at x.list q) d (h.recorded q j));
      peers = ap (opened_peers (opened_new s) more) (map-set peer_seen x.list l.partner p
          ∙ ap (set (map peer_seen x.list) l.partner) (seen ∙ ap (warm_peer (opened_new s l.partner) l) (sym (seen_at x.list l.partner)))) ∙ h.peers;
      masks = or_assoc mask (2 ^ l.partner) (link_mask more) ∙ h.masks;
      roomy = put_at (λ q z. q < length (set x.list l.partner p) → has y.touched q ≡ false → HaveTurnRoom z) x.list l.partner p low
          (λ j f. absurd (true≢false (sym here ∙ f)))
          (λ q d j f. let i : q < length x.list = subst (λ (n : ℕ). q < n) (length-set x.list l.partner p) j in
          h.roomy q i (sym (others q (omega (arith, lawful.count, i, h.count)) d) ∙ f));
    })

-- so many partners that are cold
pub record AreCold (s : ScenarioPart) (n : ℕ) (xs : List Partner) : Type 0 where
  pub count : length xs ≡ n
  pub each_one : (q : ℕ) → q < n → partner_at xs q ≡ cold_partner s q

pub cold_none : (s : ScenarioPart) → AreCold s 0 []
cold_none s = record { count = refl; each_one = λ q h. absurd (omega (arith, h)) }

pub cold_next : (s : ScenarioPart) (n : ℕ) (xs : List Partner) (p : Partner) → AreCold s n xs → p ≡ cold_partner s n → AreCold s (n + 1) (xs ++ p ∷ [])
cold_next s n xs p h e = record {
  count = length-append xs (p ∷ []) ∙ ap (λ (k : ℕ). k + 1) h.count;
  each_one = at_or (λ q. q < n + 1 → partner_at (xs ++ p ∷ []) q ≡ cold_partner s q) n
      (λ k. get_or_push xs p no_partner n h.count ∙ e)
      (λ q d k. let i : q < n = grind (arith, d, k) in
      get_or_append_left xs (p ∷ []) no_partner q (subst (λ (m : ℕ). q < m) (sym h.count) i) ∙ h.each_one q i);
}

fresh_end : (own q c : ℕ) → HasTurnRoom (new_channel own q c)
fresh_end own q c = record {
  ready = λ h. absurd (true≢false (sym h));
  calls = λ h. absurd (true≢false (sym h));
  ends = λ h. absurd (true≢false (sym h));
  next = λ h. absurd (true≢false (sym h));
}

cold_room : (s : ScenarioPart) (q : ℕ) → HaveTurnRoom (cold_partner s q)
cold_room s q = by_four (λ c. HasTurnRoom (channel_at (cold_partner s q).channels c)) (fresh_end s.part q 0) (fresh_end s.part q 1) (fresh_end s.part q 2) (fresh_end s.part q 3)

cold_standing_is : (s : ScenarioPart) (q : ℕ) → IsStanding s (opening_stamp s.links) 0 q (cold_standing s q)
cold_standing_is s q = record { own = refl; partner = refl; version = refl; wait = refl; checked = refl; stamped = refl; masked = ap (λ (n : ℕ). nat_eq n 1) (sym (bit_at-zero q)) }

links_open : (ls : List Link) (l : Link) (more : List Link) → ls ≡ l ∷ more → opening_stamp ls ≡ 1
links_open ls l more h = ap opening_stamp h

cold_peers : (s : ScenarioPart) (xs : List Partner) → AreCold s s.count xs → map peer_seen xs ≡ first_peers s.count s.links
unfolding first_peers
cold_peers s xs h = ext_get_or (peer_seen no_partner) (map peer_seen xs) (replicate s.count (base_peer s.links))
    (length-map xs peer_seen ∙ h.count ∙ sym (length-replicate s.count (base_peer s.links)))
    (λ i l. let k : i < s.count = subst (λ (n : ℕ). i < n) (length-map xs peer_seen ∙ h.count) l in
    get_or-map peer_seen xs i no_partner ∙ ap peer_seen (h.each_one i k) ∙ cold_seen s i ∙ sym (get_or-replicate s.count i (base_peer s.links) (peer_seen no_partner) k))

or_zero_left : (a : ℕ) → bit_or 0 a ≡ a
or_zero_left a = same_from_bits (bit_or 0 a) a (λ i. omega (arith, bit_at_or 0 a i, bit_at-zero i))

cold_recorded : (ls : List Link) (q own c : ℕ) → c < CHANNELS → linked_records ls q c (channel_at (four_channels own q) c).records ≡ opened_records ls q c
cold_recorded ls q own c l = by_four (λ n. linked_records ls q n (channel_at (four_channels own q) n).records ≡ opened_records ls q n) (all_linked ls q 0) (all_linked ls q 1) (all_linked ls q 2) (all_linked ls q 3) c l

pub cold_opens : (s : ScenarioPart) (xs : List Partner) (t : ℕ) → AreCold s s.count xs → Opens s s.links 0 (record { list = xs; touched = t })
cold_opens s xs t h = record {
  count = h.count;
  stamp = λ l ls e. links_open s.links l ls e;
  standing = λ q k. subst (λ (p : Partner). IsStanding s (opening_stamp s.links) 0 q p.standing) (sym (h.each_one q k)) (cold_standing_is s q);
  each_one = λ q k. subst (λ (p : Partner). IsColdOrWarm s q p.standing.contact p) (sym (h.each_one q k)) refl;
  four = λ q k. ap (λ (p : Partner). length p.channels) (h.each_one q k);
  recorded = λ q k c l. ap (λ (p : Partner). linked_records s.links q c (channel_at p.channels c).records) (h.each_one q k) ∙ cold_recorded s.links q s.part c l;
  peers = ap (opened_peers (opened_new s) s.links) (cold_peers s xs h);
  masks = or_zero_left (link_mask s.links);
  roomy = λ q k f. subst HaveTurnRoom (sym (h.each_one q (subst (λ (n : ℕ). q < n) h.count k))) (cold_room s q);
}

pub ruleset opening_all = (cold_none, cold_next, cold_opens)

-- the links of a lawful part
pub link_listed : (s : ScenarioPart) (ls : List Link) (i : ℕ) (l : Link) → IsLawfulPart s → ls ≡ s.links → i < length ls → l ≡ get_or ls i l → IsLawfulLink s l
link_listed s ls i l h e k r = lawful_link s s.links i l h.links (subst (λ (xs : List Link). slice_get xs i ≡ Some l) e (slice_get_read ls (length ls) i l refl k r))
