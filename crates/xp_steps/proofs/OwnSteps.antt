-- What a step for the partition makes of it, after the boot.
use Rattle.std.proofs.Common.{◌≡◌, ℕ, ◌-◌, ◌<◌, ◌≤◌, ◌^◌, true, List, [], length, map, refl, ap, sym, ◌∙◌, subst}
use Rattle.std.specs.Prelude.{is_some}
use Rattle.std.proofs.lemmas.List.{length-map}
use Rattle.xp_base.specs.declared.layout.TheConstants.{PARTS}
use Rattle.xp_base.specs.declared.step.Answer.TheVariants.{Word}
use Rattle.xp_script.specs.declared.part.ScenarioPart.{ScenarioPart}
use Rattle.xp_protocol.specs.declared.rule.OwnRule.{OwnRule}
use Rattle.xp_protocol.specs.declared.rule.OwnRule.TheVariants.{ReadEngaged, TakeDeactivation, ReadStamp, ZeroMask, ZeroOffline, WriteStamp, StoreMask, TakeActivation, StoreBeat, StoreOffline}
use Rattle.xp_protocol.specs.declared.rule.Rule.{Rule}
use Rattle.xp_protocol.specs.declared.rule.Rule.TheVariants.{Own}
use Rattle.xp_protocol.specs.Effects.{Effect, Note}
use Rattle.xp_protocol.specs.State.{Beats, Booting, Peer, Up}
use Rattle.xp_protocol.specs.Peering.{mask_from, next_beat, none_changed, or_zero, own_effect}
use Rattle.xp_protocol.specs.Rules.{after_answer, offline_asked}
use Rattle.xp_partner.specs.Partner.{Partner, peer_seen}
use Rattle.xp_partition.specs.declared.keeping.Keeping.{Keeping}
use Rattle.xp_partition.specs.declared.life.Life.TheVariants as lives
use Rattle.xp_partition.specs.Life.{life_seen}
use Rattle.xp_partition.specs.Partners.{Partners, partner_at, LeavesUntouched}
use Rattle.xp_partition.specs.Opening.{IsStanding}
use Rattle.xp_partition.specs.Keeping.{state_of, IsKept}
use Rattle.xp_partition.proofs.Opened.{seen_at}
use Rattle.xp_steps.specs.declared.telling.OwnWord.TheVariants.{Engaged, Deactivated, Mask}
use Rattle.xp_steps.specs.Telling.{AreTold}
use Rattle.xp_steps.specs.Stepping.{CanStep, IsStepped}
use Rattle.xp_steps.proofs.Becoming.{AllBecome, becomes_stepped, left_as}
use Rattle.xp_steps.proofs.Told.{all_told}
use Rattle.xp_steps.proofs.Allowed.{counted_below, few}

-- all partners by their numbers
pub numbers : (x : Keeping) → IsKept x → (q : ℕ) → q < length x.partners.list → (partner_at x.partners.list q).standing.partner ≡ q
numbers x k q l = (k.standing q (subst (λ (n : ℕ). q < n) k.count l)).partner

pub stands : (x : Keeping) → IsKept x → (q : ℕ) → q < length x.partners.list → IsStanding x.part x.stamp x.beat.mask q (partner_at x.partners.list q).standing
stands x k q l = k.standing q (subst (λ (n : ℕ). q < n) k.count l)

up_not : (x : Keeping) → x.life ≡ lives.Up → x.life ≡ lives.Booting → ⊥
up_not x h e = let b : lives.Up ≡ lives.Booting = sym h ∙ e in cc

pub all_same : (s : ScenarioPart) (stamp mask : ℕ) (xs : List Partner) → ((q : ℕ) → q < length xs → IsStanding s stamp mask q (partner_at xs q).standing) → AllBecome s stamp mask (map peer_seen xs) (λ q c. []) xs xs
all_same s stamp mask xs k = record {
  count = refl;
  known = length-map xs peer_seen;
  each = λ q l. record {
    seen = sym (seen_at xs q);
    records = λ c m. refl;
    standing = k q l;
    left = λ n h. left_as n (partner_at xs q) h;
  };
}

pub engaged_followed : (x : Keeping) (w : ℕ) (ps : Partners) → CanStep x (Own ReadEngaged) → x.life ≡ lives.Up → AreTold (Engaged w) x.partners ps → IsStepped x (Own ReadEngaged) (Word w) (record x { partners = ps })
engaged_followed x w ps h up k = becomes_stepped x x.life x.boot x.stamp x.beat x.clock ps (Own ReadEngaged) (Word w) h.kept
    (all_told x.part x.stamp x.beat.mask (Engaged w) x.partners ps (stands x h.kept) k) (λ qs. refl) refl refl (λ i. absurd (up_not x up i)) k.untouched

pub deactivated_followed : (x : Keeping) (w : ℕ) (ps : Partners) → CanStep x (Own TakeDeactivation) → x.life ≡ lives.Up → AreTold (Deactivated w) x.partners ps → IsStepped x (Own TakeDeactivation) (Word w) (record x { partners = ps })
deactivated_followed x w ps h up k = becomes_stepped x x.life x.boot x.stamp x.beat x.clock ps (Own TakeDeactivation) (Word w) h.kept
    (all_told x.part x.stamp x.beat.mask (Deactivated w) x.partners ps (stands x h.kept) k) (λ qs. refl) refl refl (λ i. absurd (up_not x up i)) k.untouched

pub masked_followed : (x : Keeping) (w mask : ℕ) (ps : Partners) → CanStep x (Own StoreMask) → x.life ≡ lives.Up → mask ≡ mask_from 0 (map peer_seen x.partners.list) → AreTold (Mask mask) x.partners ps → IsStepped x (Own StoreMask) (Word w) (record x { beat = record x.beat { mask = mask }; partners = ps })
masked_followed x w mask ps h up e k = becomes_stepped x x.life x.boot x.stamp (record x.beat { mask = mask }) x.clock ps (Own StoreMask) (Word w) h.kept
    (all_told x.part x.stamp x.beat.mask (Mask mask) x.partners ps (stands x h.kept) k) (λ qs. ap (λ (m : ℕ). record (state_of x) { beats = record x.beat { mask = m }; peers = qs }) e) refl refl (λ i. absurd (up_not x up i)) k.untouched

untouched_same : (x : Partners) → LeavesUntouched x x
untouched_same x = record { same = λ q l f. refl; still = λ q l f. f }

pub activation_followed : (x : Keeping) (w : ℕ) → CanStep x (Own TakeActivation) → x.life ≡ lives.Up → IsStepped x (Own TakeActivation) (Word w) x
activation_followed x w h up = becomes_stepped x x.life x.boot x.stamp x.beat x.clock x.partners (Own TakeActivation) (Word w) h.kept
    (all_same x.part x.stamp x.beat.mask x.partners.list (stands x h.kept)) (λ qs. refl) refl refl (λ i. absurd (up_not x up i)) (untouched_same x.partners)

-- a step that stores a word of the own heartbeat makes nothing of the partners
stored_followed : (x : Keeping) (m : OwnRule) (w : ℕ) (beat : Beats) → CanStep x (Own m) → x.life ≡ lives.Up → beat.mask ≡ x.beat.mask
    → (own_effect (state_of x).peers m w).local ≡ (state_of x).peers → own_effect (state_of x).peers m w ≡ none_changed (state_of x).peers
    → ((qs : List Peer) → record (state_of (record x { beat = beat })) { peers = qs } ≡ record (after_answer x.part (state_of x) (Own m) (Word w)) { peers = qs })
    → IsStepped x (Own m) (Word w) (record x { beat = beat })
stored_followed x m w beat h up same here none rest = becomes_stepped x x.life x.boot x.stamp beat x.clock x.partners (Own m) (Word w) h.kept
    (subst (λ (f : Effect (List Peer) (ℕ → ℕ → List Note)). AllBecome x.part x.stamp beat.mask f.local f.notes x.partners.list x.partners.list) (sym none)
    (subst (λ (n : ℕ). AllBecome x.part x.stamp n (state_of x).peers (λ q c. []) x.partners.list x.partners.list) (sym same) (all_same x.part x.stamp x.beat.mask x.partners.list (stands x h.kept))))
    rest refl refl (λ i. absurd (up_not x up i)) (untouched_same x.partners)

pub beat_followed : (x : Keeping) (w count : ℕ) → CanStep x (Own StoreBeat) → x.life ≡ lives.Up → count ≡ next_beat x.beat.count → IsStepped x (Own StoreBeat) (Word w) (record x { beat = record x.beat { count = count } })
beat_followed x w count h up e = stored_followed x StoreBeat w (record x.beat { count = count }) h up refl refl refl
    (λ qs. ap (λ (n : ℕ). record (state_of x) { beats = record x.beat { count = n }; peers = qs }) e)

pub offline_followed : (x : Keeping) (w count begun : ℕ) → CanStep x (Own StoreOffline) → x.life ≡ lives.Up → count ≡ or_zero (offline_asked x.part (state_of x)) → begun ≡ x.script.begun
    → IsStepped x (Own StoreOffline) (Word w) (record x { beat = record x.beat { offline = count; stored_for = begun } })
offline_followed x w count begun h up e f = stored_followed x StoreOffline w (record x.beat { offline = count; stored_for = begun }) h up refl refl refl
    (λ qs. ap (λ (n : ℕ). record (state_of x) { beats = record x.beat { offline = n; stored_for = begun }; peers = qs }) e
    ∙ ap (λ (n : ℕ). record (state_of x) { beats = record x.beat { offline = or_zero (offline_asked x.part (state_of x)); stored_for = n }; peers = qs }) f)

-- the offline count can be raised
pub offline_asks : (x : Keeping) → CanStep x (Own StoreOffline) → is_some (offline_asked x.part (state_of x)) ≡ true
offline_asks x h = h.can.1

pub offline_low : (x : Keeping) (rule : Rule) → CanStep x rule → x.beat.offline < 2 ^ 64 - 1
offline_low x rule h = counted_below x.beat.offline h.counts.beats.offline

-- the steps of a boot are made in it alone
boots_alone : (x : Keeping) (m : OwnRule) → (state_of x).life ≡ Booting → x.life ≡ lives.Up → ⊥
boots_alone x m h up = let b : Up ≡ Booting = sym (ap life_seen up) ∙ h in cc

pub not_read : (x : Keeping) → CanStep x (Own ReadStamp) → x.life ≡ lives.Up → ⊥
not_read x h up = boots_alone x ReadStamp h.can.0 up

pub not_zeroed : (x : Keeping) → CanStep x (Own ZeroMask) → x.life ≡ lives.Up → ⊥
not_zeroed x h up = boots_alone x ZeroMask h.can.0 up

pub not_offline : (x : Keeping) → CanStep x (Own ZeroOffline) → x.life ≡ lives.Up → ⊥
not_offline x h up = boots_alone x ZeroOffline h.can.0 up

pub not_written : (x : Keeping) → CanStep x (Own WriteStamp) → x.life ≡ lives.Up → ⊥
not_written x h up = boots_alone x WriteStamp h.can.0 up

pub few_partners : (x : Keeping) (rule : Rule) → CanStep x rule → length x.partners.list ≤ PARTS
few_partners x rule h = few x h.kept

pub known_partners : (x : Keeping) (rule : Rule) → CanStep x rule → (q : ℕ) → q < length x.partners.list → (partner_at x.partners.list q).standing.partner ≡ q
known_partners x rule h = numbers x h.kept

pub ruleset owning = (engaged_followed, deactivated_followed, masked_followed, activation_followed, beat_followed, offline_followed, offline_asks, offline_low, not_read, not_zeroed, not_offline, not_written, few_partners, known_partners)
