-- What becomes of the partners in one act, and what the partition keeps then.
use Rattle.std.proofs.Common.{◌≡◌, ℕ, ◌+◌, ◌<◌, ◌≤◌, ◌≢◌, Bool, true, false, true≢false, List, [], ◌∷◌, length, map, set, refl, ap, sym, ◌∙◌, subst, arith, Option, Some, None}
use Rattle.std.specs.Prelude.{nat_eq, if◌then◌else◌}
use Rattle.std.proofs.lemmas.List.{map-set, length-set, get_or-set_other, append-nil}
use Rattle.std.proofs.lemmas.Bool.Decides.{nat_tests}
use Rattle.xp_base.specs.declared.layout.TheConstants.{PARTS, CHANNELS}
use Rattle.xp_base.specs.Masks.{has}
use Rattle.xp_base.specs.History.{Act}
use Rattle.xp_script.specs.declared.part.ScenarioPart.{ScenarioPart}
use Rattle.xp_protocol.specs.Effects.{Effect, Note, with_notes}
use Rattle.xp_protocol.specs.State.{State, End, Peer, Script, set_link, set_end}
use Rattle.xp_protocol.specs.Acts.{Aim, aimed, with_aim, noted_act, after_act, script_acted, MayAct}
use Rattle.xp_discover.specs.Booting.{Starting}
use Rattle.xp_channel.specs.Channel.{Channel, new_channel}
use Rattle.xp_engage.specs.Partner.{Partner as Standing}
use Rattle.xp_partner.specs.Named.{AreNamed}
use Rattle.xp_partner.specs.Partner.{Partner, peer_seen, channel_of, channel_at, with_channel}
use Rattle.xp_partner.specs.Room.{HaveTurnRoom, HaveNotes, HaveNotesLeft}
use Rattle.xp_partner.proofs.Linked.{channel_known}
use Rattle.xp_partner.proofs.Channels.{same_set}
use Rattle.xp_partition.specs.declared.keeping.Keeping.{Keeping}
use Rattle.xp_partition.specs.Partners.{Partners, partner_at, LeavesUntouched, AreRoomy, AllHaveNotes, AllHaveNotesLeft}
use Rattle.xp_partition.specs.Opening.{IsStanding}
use Rattle.xp_partition.specs.Keeping.{state_of, records_at, IsKept, IsBooted}
use Rattle.xp_partition.proofs.Roomy.{same_at, other_at, at_or}
use Rattle.xp_partition.proofs.Noting.{all_fewer, all_fewer_left, notes_changed, left_changed}
use Rattle.xp_partition.proofs.Opened.{seen_at}
use Rattle.xp_acts.specs.Acts.{Acts}
use Rattle.xp_acts.specs.Becoming.{IsAlike, Becomes}
use Rattle.xp_acts.specs.Ends.{peers_at, notes_at}

pub alike : (x : Standing) → IsAlike x x
alike x = record { own = refl; partner = refl; version = refl; wait = refl; check = refl; stamp = refl; masked = refl; zeroed = refl; cleared = refl }

no_notes : ℕ → ℕ → List Note
no_notes q c = []

none_more : (n : ℕ) → n + 0 ≡ n
none_more n = omega arith

-- where nothing changes
pub unchanged : (x : Partners) → Becomes 0 x (map peer_seen x.list) (λ q c. []) x
unchanged x = record {
  known = refl;
  count = refl;
  records = λ q c l k. refl;
  standing = λ q l. alike (partner_at x.list q).standing;
  untouched = record { same = λ q l f. refl; still = λ q l f. f };
  room = λ n h. subst (λ (k : ℕ). AllHaveNotes k x) (none_more n) h;
  left = λ n h. subst (λ (k : ℕ). AllHaveNotesLeft k x) (none_more n) h;
}

-- where less was paid
pub paid_less : (x : Partners) (peers : List Peer) (notes : ℕ → ℕ → List Note) (y : Partners) → Becomes 0 x peers notes y → Becomes 1 x peers notes y
paid_less x peers notes y h = record {
  known = h.known;
  count = h.count;
  records = h.records;
  standing = h.standing;
  untouched = h.untouched;
  room = λ n k. h.room n (all_fewer (n + 0) (n + 1) x (omega arith) k);
  left = λ n k. h.left n (all_fewer_left (n + 0) (n + 1) x (omega arith) k);
}

-- one partner is touched, and another one then
abbrev pub Touches : Partners → ℕ → ℕ → Type 0
Touches x q t = (has t q ≡ true) × ((i : ℕ) → i < PARTS → i ≢ q → has t i ≡ has x.touched i)

pub leaves_others : (x : Partners) (q : ℕ) (p : Partner) (t : ℕ) → Touches x q t → LeavesUntouched x (record { list = set x.list q p; touched = t })
leaves_others x q p t h = record {
  same = λ i l f. at_or (λ j. j < PARTS → has t j ≡ false → partner_at (set x.list q p) j ≡ partner_at x.list j) q
      (λ k g. absurd (true≢false (sym h.0 ∙ g)))
      (λ j d k g. other_at x.list q j p d) i l f;
  still = λ i l f. at_or (λ j. j < PARTS → has t j ≡ false → has x.touched j ≡ false) q
      (λ k g. absurd (true≢false (sym h.0 ∙ g)))
      (λ j d k g. sym (h.1 j k d) ∙ g) i l f;
}

-- the same of each partner where one is another one
pub put_alike : (x : Partners) (q : ℕ) (p : Partner) → q < length x.list → IsAlike (partner_at x.list q).standing p.standing
    → (i : ℕ) → IsAlike (partner_at x.list i).standing (partner_at (set x.list q p) i).standing
put_alike x q p l h i = at_or (λ j. IsAlike (partner_at x.list j).standing (partner_at (set x.list q p) j).standing) q
    (subst (λ (z : Partner). IsAlike (partner_at x.list q).standing z.standing) (sym (same_at x.list q p l)) h)
    (λ j d. subst (λ (z : Partner). IsAlike (partner_at x.list j).standing z.standing) (sym (other_at x.list q j p d)) (alike (partner_at x.list j).standing)) i

-- what is known of all where one end is another one
pub peers_end : (xs : List Partner) (q c : ℕ) (z : Channel) → map peer_seen (set xs q (with_channel c z (partner_at xs q))) ≡ set_end (map peer_seen xs) q c z.end
peers_end xs q c z =
    map-set peer_seen xs q (with_channel c z (partner_at xs q))
    ∙ ap (set (map peer_seen xs) q) (channel_known c z (partner_at xs q) ∙ ap (λ (p : Peer). set_link p c z.end) (sym (seen_at xs q)))

-- what is noted there alone
same_number : (n : ℕ) → nat_eq n n ≡ true
same_number n = grind (arith, nat_tests)

other_number : (n m : ℕ) → m ≢ n → nat_eq n m ≡ false
other_number n m h = grind (arith, nat_tests)

abbrev chosen : Bool → Bool → List Note → List Note
chosen a b notes = if a then (if b then notes else []) else []

unchosen : (a : Bool) (notes : List Note) → chosen a false notes ≡ []
unchosen true notes = refl
unchosen false notes = refl

pub noted_here : (q c : ℕ) (f : Effect End (List Note)) → notes_at q c f q c ≡ f.notes
noted_here q c f = ap (λ (b : Bool). chosen b (nat_eq c c) f.notes) (same_number q) ∙ ap (λ (b : Bool). chosen true b f.notes) (same_number c)

pub noted_there : (q c i j : ℕ) (f : Effect End (List Note)) → i ≢ q → notes_at q c f i j ≡ []
noted_there q c i j f h = ap (λ (b : Bool). chosen b (nat_eq c j) f.notes) (other_number q i h)

pub noted_beside : (q c j : ℕ) (f : Effect End (List Note)) → j ≢ c → notes_at q c f q j ≡ []
noted_beside q c j f h = ap (λ (b : Bool). chosen (nat_eq q q) b f.notes) (other_number c j h) ∙ unchosen (nat_eq q q) f.notes

pub other_channel : (xs : List Channel) (c b : ℕ) (z : Channel) → b ≢ c → channel_at (set xs c z) b ≡ channel_at xs b
other_channel xs c b z d = get_or-set_other xs c b z (new_channel 0 0 0) d

abbrev pub Records : ℕ → ℕ → List Note → Channel → Channel → Type 0
Records q c notes x y = y.records ≡ with_notes q c notes x.records

pub records_end : (xs : List Partner) (own q c : ℕ) (f : Effect End (List Note)) (z : Channel) → q < length xs → c < CHANNELS → AreNamed own q (partner_at xs q).channels
    → z.records ≡ with_notes (channel_of (partner_at xs q) c).partner (channel_of (partner_at xs q) c).channel f.notes (channel_of (partner_at xs q) c).records
    → (i j : ℕ) → Records i j (notes_at q c f i j) (channel_of (partner_at xs i) j) (channel_of (partner_at (set xs q (with_channel c z (partner_at xs q))) i) j)
records_end xs own q c f z l k n e i j = at_or (λ a. Records a j (notes_at q c f a j) (channel_of (partner_at xs a) j) (channel_of (partner_at (set xs q y) a) j)) q
    (subst (λ (p : Partner). Records q j (notes_at q c f q j) (channel_of old j) (channel_of p j)) (sym (same_at xs q y l))
    (at_or (λ b. Records q b (notes_at q c f q b) (channel_of old b) (channel_of y b)) c here (λ b d. beside b d) j))
    (λ a d. subst (λ (p : Partner). Records a j (notes_at q c f a j) (channel_of (partner_at xs a) j) (channel_of p j)) (sym (other_at xs q a y d))
    (ap (λ (notes : List Note). with_notes a j notes (channel_of (partner_at xs a) j).records) (sym (noted_there q c a j f d))))
    i where
      old : Partner
      old = partner_at xs q

      y : Partner
      y = with_channel c z old

      here : Records q c (notes_at q c f q c) (channel_of old c) (channel_of y c)
      here = let names = n.each c k in
          ap (λ (w : Channel). w.records) (same_set old.channels c z (subst (λ (m : ℕ). c < m) (sym n.four) k))
          ∙ e
          ∙ ap (λ (m : ℕ). with_notes m (channel_of old c).channel f.notes (channel_of old c).records) names.partner_number
          ∙ ap (λ (m : ℕ). with_notes q m f.notes (channel_of old c).records) names.channel_number
          ∙ ap (λ (notes : List Note). with_notes q c notes (channel_of old c).records) (sym (noted_here q c f))

      beside : (b : ℕ) → b ≢ c → Records q b (notes_at q c f q b) (channel_of old b) (channel_of y b)
      beside b d =
          ap (λ (w : Channel). w.records) (other_channel old.channels c b z d)
          ∙ ap (λ (notes : List Note). with_notes q b notes (channel_of old b).records) (sym (noted_beside q c b f d))

-- one end is another one, and pays one note
pub becomes_end : (x : Partners) (own q c t : ℕ) (f : Effect End (List Note)) (z : Channel) → q < length x.list → c < CHANNELS → Touches x q t → AreNamed own q (partner_at x.list q).channels
    → z.end ≡ f.local
    → z.records ≡ with_notes (channel_of (partner_at x.list q) c).partner (channel_of (partner_at x.list q) c).channel f.notes (channel_of (partner_at x.list q) c).records
    → ((n : ℕ) → HaveNotes (n + 1) (partner_at x.list q) → HaveNotes n (with_channel c z (partner_at x.list q)))
    → ((n : ℕ) → HaveNotesLeft (n + 1) (partner_at x.list q) → HaveNotesLeft n (with_channel c z (partner_at x.list q)))
    → Becomes 1 x (peers_at q c f (map peer_seen x.list)) (notes_at q c f) (record { list = set x.list q (with_channel c z (partner_at x.list q)); touched = t })
becomes_end x own q c t f z l k touch names e r room left = record {
  known = peers_end x.list q c z ∙ ap (set_end (map peer_seen x.list) q c) e;
  count = length-set x.list q (with_channel c z (partner_at x.list q));
  records = λ i j a b. records_end x.list own q c f z l k names r i j;
  standing = λ i a. put_alike x q (with_channel c z (partner_at x.list q)) l (alike (partner_at x.list q).standing) i;
  untouched = leaves_others x q (with_channel c z (partner_at x.list q)) t touch;
  room = λ n h. notes_changed n x q (with_channel c z (partner_at x.list q)) l (all_fewer n (n + 1) x (omega arith) h) (room n (h q l));
  left = λ n h. left_changed n x q (with_channel c z (partner_at x.list q)) l (all_fewer_left n (n + 1) x (omega arith) h) (left n (h q l));
}

-- what is kept then
standing_alike : (s : ScenarioPart) (stamp mask q : ℕ) (x y : Standing) → IsAlike x y → IsStanding s stamp mask q x → IsStanding s stamp mask q y
standing_alike s stamp mask q x y a h = record {
  own = a.own ∙ h.own;
  partner = a.partner ∙ h.partner;
  version = a.version ∙ h.version;
  wait = a.wait ∙ h.wait;
  checked = a.check ∙ h.checked;
  stamped = a.stamp ∙ h.stamped;
  masked = a.masked ∙ h.masked;
}

abbrev pub AllAlike : Partners → Partners → Type 0
AllAlike x y = (q : ℕ) → q < length x.list → IsAlike (partner_at x.list q).standing (partner_at y.list q).standing

booted_alike : (s : ScenarioPart) (b : Starting) (x y : Partners) → length x.list ≡ s.count → AllAlike x y → IsBooted s b x → IsBooted s b y
booted_alike s b x y l a h = record {
  going = h.going;
  order = h.order;
  zeroed = λ q i d. (a q (subst (λ (n : ℕ). q < n) (sym l) i)).zeroed ∙ h.zeroed q i d;
  cleared = λ q i d. (a q (subst (λ (n : ℕ). q < n) (sym l) i)).cleared ∙ h.cleared q i d;
}

pub kept_alike : (x : Keeping) (ps : Partners) (sc : Script) → IsKept x → length ps.list ≡ length x.partners.list → AllAlike x.partners ps → IsKept (record x { partners = ps; script = sc })
kept_alike x ps sc h l a = record {
  lawful = h.lawful;
  count = l ∙ h.count;
  standing = λ q i. standing_alike x.part x.stamp x.beat.mask q (partner_at x.partners.list q).standing (partner_at ps.list q).standing (a q (subst (λ (n : ℕ). q < n) (sym h.count) i)) (h.standing q i);
  own = h.own;
  partitions = h.partitions;
  boot = λ i. booted_alike x.part x.boot x.partners ps h.count a (h.boot i);
}

-- an act changes the partners and the script
act_by : (o : Option Aim) (st : State) (sc : Script) (peers : List Peer) → record (with_aim o st) { script = sc; peers = peers } ≡ record st { script = sc; peers = peers }
act_by None st sc peers = refl
act_by (Some x) st sc peers = refl

pub act_made : (s : ScenarioPart) (st : State) (a : Act) → after_act s st a ≡ record st { script = script_acted a st.clock.turns st.script; peers = (after_act s st a).peers }
act_made s st a = act_by (aimed s st a) st (script_acted a st.clock.turns st.script) (after_act s st a).peers

pub once : (n : ℕ) (x : Keeping) (a : Act) (ps : Partners) (sc : Script) → IsKept x → MayAct x.part (state_of x) a → sc ≡ script_acted a x.clock.turns x.script
    → Becomes n x.partners (after_act x.part (state_of x) a).peers (noted_act x.part (state_of x) a) ps → Acts x (record x { partners = ps; script = sc }) (a ∷ [])
once n x a ps sc h may e b = record {
  may = (may, tt);
  state = ap (λ (peers : List Peer). record (state_of x) { script = sc; peers = peers }) b.known
      ∙ ap (λ (z : Script). record (state_of x) { script = z; peers = (after_act x.part (state_of x) a).peers }) e
      ∙ sym (act_made x.part (state_of x) a);
  records = λ q c l k. b.records q c (subst (λ (m : ℕ). q < m) (sym h.count) l) k
      ∙ ap (λ (notes : List Note). with_notes q c notes (records_at x q c)) (sym (append-nil (noted_act x.part (state_of x) a q c)));
  part = refl;
  kept = kept_alike x ps sc h b.count b.standing;
}

-- room that partners have which weren't touched
pub roomy_left : (x y : Partners) → length x.list ≤ PARTS → length y.list ≡ length x.list → LeavesUntouched x y → AreRoomy x → AreRoomy y
roomy_left x y few l u h = λ q i f.
    let j : q < length x.list = subst (λ (n : ℕ). q < n) l i in
    let k : q < PARTS = omega (arith, few, j) in
    subst HaveTurnRoom (sym (u.same q k f)) (h q j (u.still q k f))
