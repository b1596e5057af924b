-- What holds of a partition that opens, restarts, and gets room; and what comes at a moment.
use Rattle.std.proofs.Common.{◌≡◌, ℕ, ◌+◌, ◌<◌, ◌≤◌, Bool, true, false, List, [], ◌∷◌, length, get_or, map, refl, ap, sym, ◌∙◌, subst, arith}
use Rattle.std.specs.Prelude.{nat_eq, nat_lt, not, ◌&&◌, if◌then◌else◌}
use Rattle.std.proofs.lemmas.List.{length-map, ext_get_or, get_or-replicate}
use Rattle.std.proofs.Math.ListN.{get_or-map}
use Rattle.std.proofs.lemmas.Bool.Decides.{nat_tests}
use Rattle.xp_script.specs.declared.part.Link.{Link}
use Rattle.xp_script.specs.declared.part.ScenarioPart.{ScenarioPart}
use Rattle.xp_protocol.specs.Parts.{any_comes}
use Rattle.xp_protocol.specs.State.{State, Boot, Peer, Engage, Booting, booted_engage, base_peer, first_peers, opened_peers, opened_new, opening_life, link_mask}
use Rattle.xp_protocol.specs.Runs.{moment, moment_by, is_over, stopped, restarted, stop_comes}
use Rattle.xp_rounds.specs.Visit.{Visit}
use Rattle.xp_plan.specs.declared.errand.Errand.{Errand}
use Rattle.xp_discover.specs.Booting.{Starting, first_start}
use Rattle.xp_partner.specs.Partner.{Partner, peer_seen, rooms_of}
use Rattle.xp_partition.specs.declared.life.Life.{Life as KeptLife}
use Rattle.xp_partition.specs.declared.life.Life.TheVariants as lives
use Rattle.xp_partition.specs.Life.{life_seen, boot_seen}
use Rattle.xp_partition.specs.Partners.{Partners, no_partner, partner_at, AreSameButRoom}
use Rattle.xp_partition.specs.Opening.{IsStanding, Opens}
use Rattle.xp_partition.specs.Keeping.{IsBooted}
use Rattle.xp_partition.proofs.Opened.{seen_rooms}
use Rattle.xp_partition.proofs.Looking.{or_none}

-- a boot of which nothing was done yet
below_none : (q : ℕ) → nat_lt q 0 ≡ false
below_none q = grind (arith, nat_tests)

pub none_booted : (s : ScenarioPart) (x : Starting) (ps : Partners) → x ≡ first_start s.part s.count → ((q : ℕ) → q < s.count → (partner_at ps.list q).standing.engage ≡ booted_engage) → IsBooted s x ps
none_booted s x ps e h = record {
  going = ap (λ (z : Starting). z.over) e;
  order = subst (λ (z : Starting). z.cleared ≤ z.zeroed) (sym e) (omega arith);
  zeroed = λ q l d. ap (λ (z : Engage). z.zeroed) (h q l) ∙ sym (below_none q) ∙ ap (λ (z : Starting). nat_lt q z.zeroed) (sym e);
  cleared = λ q l d. ap (λ (z : Engage). z.cleared) (h q l) ∙ sym (below_none q) ∙ ap (λ (z : Starting). nat_lt q z.cleared) (sym e);
}

-- of a partition that opens
pub mask_opened : (s : ScenarioPart) (mask : ℕ) (ps : Partners) → Opens s [] mask ps → mask ≡ link_mask s.links
mask_opened s mask ps h = sym (or_none mask) ∙ h.masks

pub peers_opened : (s : ScenarioPart) (mask : ℕ) (ps : Partners) → Opens s [] mask ps → map peer_seen ps.list ≡ opened_peers (opened_new s) s.links (first_peers s.count s.links)
peers_opened s mask ps h = h.peers

no_links : (ls : List Link) → opening_life ls ≡ Booting → ls ≡ []
no_links [] h = refl
no_links (l ∷ ls) h = absurd (cc)

pub boot_first : (k : KeptLife) (ls : List Link) (b : Boot) → life_seen k ≡ opening_life ls → boot_seen k b ≡ b
boot_first lives.Booting ls b h = refl
boot_first lives.Up ls b h = refl
boot_first (lives.Halted word) [] b h = absurd (cc)
boot_first (lives.Halted word) (l ∷ ls) b h = absurd (cc)

engage_opened : (s : ScenarioPart) (ps : Partners) (q : ℕ) → q < s.count → s.links ≡ [] → length ps.list ≡ s.count → map peer_seen ps.list ≡ opened_peers (opened_new s) s.links (first_peers s.count s.links) → (partner_at ps.list q).standing.engage ≡ booted_engage
unfolding first_peers
engage_opened s ps q l e n h =
    let same : map peer_seen ps.list ≡ first_peers s.count [] = h ∙ ap (λ (ls : List Link). opened_peers (opened_new s) ls (first_peers s.count ls)) e in
    ap (λ (p : Peer). p.engage) (sym (get_or-map peer_seen ps.list q no_partner)
    ∙ ap (λ (xs : List Peer). get_or xs q (peer_seen no_partner)) same
    ∙ get_or-replicate s.count q (base_peer []) (peer_seen no_partner) l)

pub boot_opened : (s : ScenarioPart) (x : Starting) (mask : ℕ) (ps : Partners) (k : KeptLife) → life_seen k ≡ opening_life s.links → x ≡ first_start s.part s.count → Opens s [] mask ps → k ≡ lives.Booting → IsBooted s x ps
boot_opened s x mask ps k life e h i = none_booted s x ps e (λ q l. engage_opened s ps q l (no_links s.links (sym life ∙ ap life_seen i)) h.count h.peers)

-- of one that gets room
same_seen : (xs ys : List Partner) → length ys ≡ length xs → ((q : ℕ) → q < length xs → partner_at ys q ≡ rooms_of (partner_at xs q) (partner_at ys q)) → map peer_seen ys ≡ map peer_seen xs
same_seen xs ys l h = ext_get_or (peer_seen no_partner) (map peer_seen ys) (map peer_seen xs)
    (length-map ys peer_seen ∙ l ∙ sym (length-map xs peer_seen))
    (λ i k. let j : i < length xs = subst (λ (n : ℕ). i < n) (length-map ys peer_seen ∙ l) k in
    get_or-map peer_seen ys i no_partner
    ∙ ap peer_seen (h i j) ∙ seen_rooms (partner_at xs i) (partner_at ys i)
    ∙ sym (get_or-map peer_seen xs i no_partner))

pub peers_reserved : (x y : Partners) → AreSameButRoom x y → map peer_seen y.list ≡ map peer_seen x.list
peers_reserved x y h = same_seen x.list y.list h.count h.each

pub standing_reserved : (x y : Partners) (n : ℕ) (s : ScenarioPart) (stamp mask : ℕ) → length x.list ≡ n → AreSameButRoom x y → ((q : ℕ) → q < n → IsStanding s stamp mask q (partner_at x.list q).standing) → (q : ℕ) → q < n → IsStanding s stamp mask q (partner_at y.list q).standing
standing_reserved x y n s stamp mask l h k q i = subst (λ (p : Partner). IsStanding s stamp mask q p.standing) (sym (h.each q (subst (λ (m : ℕ). q < m) (sym l) i))) (k q i)

pub booted_reserved : (s : ScenarioPart) (b : Starting) (x y : Partners) → length x.list ≡ s.count → AreSameButRoom x y → IsBooted s b x → IsBooted s b y
booted_reserved s b x y l h k = record {
  going = k.going;
  order = k.order;
  zeroed = λ q i d. ap (λ (p : Partner). p.standing.engage.zeroed) (h.each q (subst (λ (m : ℕ). q < m) (sym l) i)) ∙ k.zeroed q i d;
  cleared = λ q i d. ap (λ (p : Partner). p.standing.engage.cleared) (h.each q (subst (λ (m : ℕ). q < m) (sym l) i)) ∙ k.cleared q i d;
}

-- what comes at a moment
pub moment_is : (s : ScenarioPart) (earlier : ℕ) (st : State) (over stops any : Bool) → is_over st ≡ over → stop_comes s earlier st ≡ stops → any_comes st.clock.turns earlier st.clock.puts s.restarts ≡ any
    → moment s earlier st ≡ moment_by s ((any && not stops) && not over) (stops && not over) st
moment_is s earlier st over stops any h k l =
    ap (λ (b : Bool). moment_by s ((any_comes st.clock.turns earlier st.clock.puts s.restarts && not (stop_comes s earlier st)) && not b) (stop_comes s earlier st && not b) st) h
    ∙ ap (λ (b : Bool). moment_by s ((any_comes st.clock.turns earlier st.clock.puts s.restarts && not b) && not over) (b && not over) st) k
    ∙ ap (λ (b : Bool). moment_by s ((b && not stops) && not over) (stops && not over) st) l

nothing : (s : ScenarioPart) (st : State) (r b : Bool) → moment_by s (r && false) (b && false) st ≡ st
nothing s st true true = refl
nothing s st true false = refl
nothing s st false true = refl
nothing s st false false = refl

pub moment_over : (s : ScenarioPart) (earlier : ℕ) (st : State) → is_over st ≡ true → moment s earlier st ≡ st
moment_over s earlier st h = moment_is s earlier st true _ _ h refl refl ∙ nothing s st _ _

pub moment_stops : (s : ScenarioPart) (earlier : ℕ) (st : State) → is_over st ≡ false → stop_comes s earlier st ≡ true → moment s earlier st ≡ record st { stopped = true }
moment_stops s earlier st h k = by _ (moment_is s earlier st false true _ h k refl) where
  by : (any : Bool) → moment s earlier st ≡ moment_by s ((any && false) && true) true st → moment s earlier st ≡ record st { stopped = true }
  by true e = e
  by false e = e

pub moment_restarts : (s : ScenarioPart) (earlier : ℕ) (st : State) → is_over st ≡ false → stop_comes s earlier st ≡ false → any_comes st.clock.turns earlier st.clock.puts s.restarts ≡ true → moment s earlier st ≡ moment_by s true false st
moment_restarts s earlier st h k l = moment_is s earlier st false false true h k l

pub moment_none : (s : ScenarioPart) (earlier : ℕ) (st : State) → is_over st ≡ false → stop_comes s earlier st ≡ false → any_comes st.clock.turns earlier st.clock.puts s.restarts ≡ false → moment s earlier st ≡ st
moment_none s earlier st h k l = moment_is s earlier st false false false h k l

-- where the visits go on from a moment on
pub visit_keeps : (b : ℕ) (v w : Visit Errand) → (if nat_eq b b then v else w) ≡ v
visit_keeps b v w = ap (λ (t : Bool). if t then v else w) same where
  same : nat_eq b b ≡ true
  same = grind (arith, nat_tests)

pub visit_stays : (x y : State) (v w : Visit Errand) → y ≡ stopped x → (if nat_eq y.clock.boots x.clock.boots then v else w) ≡ v
visit_stays x y v w e = ap (λ (z : State). if nat_eq z.clock.boots x.clock.boots then v else w) e ∙ visit_keeps x.clock.boots v w

pub visit_begins : (s : ScenarioPart) (x y : State) (v w : Visit Errand) → y ≡ restarted s x → (if nat_eq y.clock.boots x.clock.boots then v else w) ≡ w
visit_begins s x y v w e = ap (λ (z : State). if nat_eq z.clock.boots x.clock.boots then v else w) e ∙ ap (λ (t : Bool). if t then v else w) (apart x.clock.boots) where
  apart : (b : ℕ) → nat_eq (b + 1) b ≡ false
  apart b = grind (arith, nat_tests)

pub ruleset moments = (visit_keeps, visit_stays, visit_begins, moment_over, moment_stops, moment_restarts, moment_none)
