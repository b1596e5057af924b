-- What becomes of each partner makes what becomes of the partition.
use Rattle.std.proofs.Common.{◌≡◌, ℕ, zero, suc, ◌+◌, ◌<◌, ◌≢◌, List, [], ◌∷◌, length, set, map, refl, ap, sym, ◌∙◌, subst, arith}
use Rattle.std.proofs.lemmas.List.{length-set, length-map, ext_get_or, get_or-set_same, get_or-set_other}
use Rattle.xp_base.specs.declared.layout.TheConstants.{CHANNELS}
use Rattle.xp_base.specs.declared.step.Answer.{Answer}
use Rattle.xp_script.specs.declared.part.ScenarioPart.{ScenarioPart}
use Rattle.xp_protocol.specs.declared.rule.Rule.{Rule}
use Rattle.xp_protocol.specs.Effects.{Note, with_notes}
use Rattle.xp_protocol.specs.State.{Peer, End, Beats, Clock, Old, cold_peer, peer_at}
use Rattle.xp_protocol.specs.Rules.{after_answer, peers_after, noted_rule}
use Rattle.xp_channel.specs.Channel.{Channel}
use Rattle.xp_discover.specs.Booting.{Starting}
use Rattle.xp_partner.specs.Partner.{Partner, peer_seen, end_seen, channel_at, channel_of, each_roomed}
use Rattle.xp_partner.specs.Making.{each_noted, known_as}
use Rattle.xp_partner.specs.Room.{HasNotesLeft, HaveNotes, HaveNotesLeft}
use Rattle.xp_partner.proofs.Four.{four_of}
use Rattle.xp_partner.proofs.Channels.{by_four, notes_left}
use Rattle.xp_partition.specs.declared.keeping.Keeping.{Keeping}
use Rattle.xp_partition.specs.declared.life.Life.{Life as KeptLife}
use Rattle.xp_partition.specs.declared.life.Life.TheVariants.{Booting as KeptBooting}
use Rattle.xp_partition.specs.Partners.{Partners, partner_at, LeavesUntouched}
use Rattle.xp_partition.specs.Opening.{IsStanding}
use Rattle.xp_partition.specs.Keeping.{state_of, IsKept, IsBooted}
use Rattle.xp_partition.proofs.Roomy.{other_at, at_or}
use Rattle.xp_partition.proofs.Opened.{seen_at}
use Rattle.xp_steps.specs.Stepping.{IsStepped}

-- what is known of a partner then, what was noted at its ends, and how the partition stands to it
pub record Becomes (s : ScenarioPart) (stamp mask q : ℕ) (p : Peer) (notes : ℕ → List Note) (x y : Partner) : Type 0 where
  pub seen : peer_seen y ≡ p
  pub records : (c : ℕ) → c < CHANNELS → (channel_of y c).records ≡ with_notes q c (notes c) (channel_of x c).records
  pub standing : IsStanding s stamp mask q y.standing
  pub left : (n : ℕ) → HaveNotes (n + 1) x → HaveNotesLeft n y

pub record AllBecome (s : ScenarioPart) (stamp mask : ℕ) (peers : List Peer) (notes : ℕ → ℕ → List Note) (xs ys : List Partner) : Type 0 where
  pub count : length ys ≡ length xs
  pub known : length peers ≡ length xs
  pub each : (q : ℕ) → q < length xs → Becomes s stamp mask q (peer_at peers q) (notes q) (partner_at xs q) (partner_at ys q)

-- nothing does
pub left_as : (n : ℕ) (x : Partner) → HaveNotes (n + 1) x → HaveNotesLeft n x
left_as n x h = λ c l. notes_left n (channel_of x c) (h c l)

peers_are : (s : ScenarioPart) (stamp mask : ℕ) (peers : List Peer) (notes : ℕ → ℕ → List Note) (xs ys : List Partner) → AllBecome s stamp mask peers notes xs ys → map peer_seen ys ≡ peers
peers_are s stamp mask peers notes xs ys h = ext_get_or (cold_peer Old) (map peer_seen ys) peers
    (length-map ys peer_seen ∙ h.count ∙ sym h.known)
    (λ i k. seen_at ys i ∙ (h.each i (subst (λ (n : ℕ). i < n) (length-map ys peer_seen ∙ h.count) k)).seen)

pub becomes_stepped : (x : Keeping) (life : KeptLife) (boot : Starting) (stamp : ℕ) (beat : Beats) (clock : Clock) (ps : Partners) (rule : Rule) (a : Answer) → IsKept x
    → AllBecome x.part stamp beat.mask (peers_after x.part (state_of x) rule a) (noted_rule x.part (state_of x) rule a) x.partners.list ps.list
    → ((qs : List Peer) → record (state_of (record x { life = life; boot = boot; stamp = stamp; beat = beat; clock = clock; partners = ps })) { peers = qs } ≡ record (after_answer x.part (state_of x) rule a) { peers = qs })
    → boot.own ≡ x.boot.own → boot.count ≡ x.boot.count → (life ≡ KeptBooting → IsBooted x.part boot ps)
    → LeavesUntouched x.partners ps
    → IsStepped x rule a (record x { life = life; boot = boot; stamp = stamp; beat = beat; clock = clock; partners = ps })
becomes_stepped x life boot stamp beat clock ps rule a k all rest own count booted untouched =
    let y : Keeping = record x { life = life; boot = boot; stamp = stamp; beat = beat; clock = clock; partners = ps } in
    let low : (q : ℕ) → q < x.part.count → q < length x.partners.list = λ q l. subst (λ (n : ℕ). q < n) (sym k.count) l in
    let peers = peers_after x.part (state_of x) rule a in
    record {
      state = ap (λ (qs : List Peer). record (state_of y) { peers = qs }) (peers_are x.part stamp beat.mask peers (noted_rule x.part (state_of x) rule a) x.partners.list ps.list all) ∙ rest peers;
      records = λ q c l m. (all.each q (low q l)).records c m;
      part = refl;
      kept = record {
        lawful = k.lawful;
        count = all.count ∙ k.count;
        standing = λ q l. (all.each q (low q l)).standing;
        own = own ∙ k.own;
        partitions = count ∙ k.partitions;
        boot = booted;
      };
      left = λ n h q l. let j : q < length x.partners.list = subst (λ (i : ℕ). q < i) all.count l in (all.each q j).left n (h q j);
      untouched = untouched;
    }

-- one of them does
pub one_becomes : (s : ScenarioPart) (stamp mask : ℕ) (xs ys : List Partner) (q : ℕ) (p : Peer) (notes : ℕ → ℕ → List Note) → q < length xs
    → ys ≡ set xs q (partner_at ys q)
    → ((i : ℕ) → i < length xs → IsStanding s stamp mask i (partner_at xs i).standing)
    → Becomes s stamp mask q p (notes q) (partner_at xs q) (partner_at ys q)
    → ((i c : ℕ) → i ≢ q → notes i c ≡ [])
    → AllBecome s stamp mask (set (map peer_seen xs) q p) notes xs ys
one_becomes s stamp mask xs ys q p notes low e standing b none = record {
  count = ap (λ (zs : List Partner). length zs) e ∙ length-set xs q (partner_at ys q);
  known = length-set (map peer_seen xs) q p ∙ length-map xs peer_seen;
  each = at_or (λ i. i < length xs → Becomes s stamp mask i (peer_at (set (map peer_seen xs) q p) i) (notes i) (partner_at xs i) (partner_at ys i)) q
      (λ l. subst (λ (z : Peer). Becomes s stamp mask q z (notes q) (partner_at xs q) (partner_at ys q)) (sym same) b)
      (λ i d l. other i d l);
} where
  same : peer_at (set (map peer_seen xs) q p) q ≡ p
  same = get_or-set_same (map peer_seen xs) q p (cold_peer Old) (subst (λ (n : ℕ). q < n) (sym (length-map xs peer_seen)) low)

  still : (i : ℕ) → i ≢ q → partner_at ys i ≡ partner_at xs i
  still i d = ap (λ (zs : List Partner). partner_at zs i) e ∙ other_at xs q i (partner_at ys q) d

  other : (i : ℕ) → i ≢ q → i < length xs → Becomes s stamp mask i (peer_at (set (map peer_seen xs) q p) i) (notes i) (partner_at xs i) (partner_at ys i)
  other i d l = record {
    seen = ap peer_seen (still i d) ∙ sym (seen_at xs i) ∙ sym (get_or-set_other (map peer_seen xs) q i p (cold_peer Old) d);
    records = λ c m. ap (λ (z : Partner). (channel_of z c).records) (still i d) ∙ ap (λ (ns : List Note). with_notes i c ns (channel_of (partner_at xs i) c).records) (sym (none i c d));
    standing = subst (λ (z : Partner). IsStanding s stamp mask i z.standing) (sym (still i d)) (standing i l);
    left = λ n k c m. subst (λ (z : Partner). HasNotesLeft n (channel_of z c)) (sym (still i d)) (left_as n (partner_at xs i) k c m);
  }

-- what is known and noted of a partner, and its room
links_known : (links : List End) (notes : ℕ → List Note) (xs : List Channel) → length xs ≡ 4 → length links ≡ 4 → map end_seen (each_noted links notes 0 xs) ≡ links
links_known links notes xs h n = four_of (λ (ys : List Channel). map end_seen (each_noted links notes 0 ys) ≡ links) (λ a b c d. by a b c d links n) xs h where
  by : (a b c d : Channel) (es : List End) → length es ≡ 4 → map end_seen (each_noted es notes 0 (a ∷ b ∷ c ∷ d ∷ [])) ≡ es
  by a b c d [] m = absurd (omega (arith, m))
  by a b c d (e ∷ []) m = absurd (omega (arith, m))
  by a b c d (e ∷ f ∷ []) m = absurd (omega (arith, m))
  by a b c d (e ∷ f ∷ g ∷ []) m = absurd (omega (arith, m))
  by a b c d (e ∷ f ∷ g ∷ i ∷ []) m = refl
  by a b c d (e ∷ f ∷ g ∷ i ∷ j ∷ more) m = absurd (omega (arith, m))

pub seen_known : (p : Peer) (notes : ℕ → List Note) (x : Partner) → length x.channels ≡ 4 → length p.links ≡ 4 → peer_seen (known_as p notes x) ≡ p
seen_known p notes x h n = ap (λ (es : List End). record p { links = es }) (links_known p.links notes x.channels h n)

noted_at : (links : List End) (notes : ℕ → List Note) (xs : List Channel) → length xs ≡ 4 → (c : ℕ) → c < 4 → (channel_at (each_noted links notes 0 xs) c).records ≡ with_notes (channel_at xs c).partner (channel_at xs c).channel (notes c) (channel_at xs c).records
noted_at links notes xs h = four_of (λ (ys : List Channel). (c : ℕ) → c < 4 → (channel_at (each_noted links notes 0 ys) c).records ≡ with_notes (channel_at ys c).partner (channel_at ys c).channel (notes c) (channel_at ys c).records)
    (λ a b d e. by_four (λ c. (channel_at (each_noted links notes 0 (a ∷ b ∷ d ∷ e ∷ [])) c).records ≡ with_notes (channel_at (a ∷ b ∷ d ∷ e ∷ []) c).partner (channel_at (a ∷ b ∷ d ∷ e ∷ []) c).channel (notes c) (channel_at (a ∷ b ∷ d ∷ e ∷ []) c).records) refl refl refl refl) xs h

pub roomed_at : (xs ys : List Channel) (c : ℕ) → (channel_at (each_roomed xs ys) c).records ≡ (channel_at xs c).records
roomed_at [] ys c = refl
roomed_at (x ∷ xs) [] c = refl
roomed_at (x ∷ xs) (y ∷ ys) zero = refl
roomed_at (x ∷ xs) (y ∷ ys) (suc c) = roomed_at xs ys c

pub records_known : (p : Peer) (notes : ℕ → List Note) (x : Partner) (q c : ℕ) → length x.channels ≡ 4 → c < 4 → (channel_of x c).partner ≡ q → (channel_of x c).channel ≡ c → (channel_of (known_as p notes x) c).records ≡ with_notes q c (notes c) (channel_of x c).records
records_known p notes x q c h l e f =
    noted_at p.links notes x.channels h c l
    ∙ ap (λ (k : ℕ). with_notes k (channel_of x c).channel (notes c) (channel_of x c).records) e
    ∙ ap (λ (k : ℕ). with_notes q k (notes c) (channel_of x c).records) f
