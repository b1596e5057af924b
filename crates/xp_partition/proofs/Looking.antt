-- The partners that are still to be gone through, one further.
use Rattle.std.proofs.Common.{◌≡◌, ℕ, ◌+◌, ◌<◌, ◌≤◌, Bool, true, false, List, ◌∷◌, length, drop, map, bit_or, ap, sym, ◌∙◌, arith, ◌^◌}
use Rattle.std.specs.Prelude.{◌||◌, ◌&&◌, not, nat_eq, if◌then◌else◌}
use Rattle.std.proofs.lemmas.List.{drop_more, drop_all}
use Rattle.std.proofs.lemmas.Nat.Bits.{same_from_bits, bit_at_or, bit_at-zero}
use Rattle.xp_script.proofs.Openings.{or_assoc}
use Rattle.xp_protocol.specs.Peering.{is_masked, is_left, mask_from}
use Rattle.xp_plan.specs.PeerSteps.{any_left}
use Rattle.xp_partner.specs.Partner.{Partner, peer_seen}
use Rattle.xp_partition.specs.Partners.{no_partner, partner_at}

pub cut : (xs : List Partner) (n : ℕ) → n < length xs → drop n xs ≡ partner_at xs n ∷ drop (n + 1) xs
cut xs n h = drop_more xs n no_partner h

pub or_none : (a : ℕ) → bit_or a 0 ≡ a
or_none a = same_from_bits (bit_or a 0) a (λ i. omega (arith, bit_at_or a 0 i, bit_at-zero i))

mask_of : Bool → ℕ → ℕ
mask_of b n = if b then 2 ^ n else 0

mask_cut : (xs : List Partner) (n m total : ℕ) (b : Bool) → n < length xs → b ≡ is_masked (peer_seen (partner_at xs n)) → bit_or m (mask_from n (map peer_seen (drop n xs))) ≡ total
    → bit_or (bit_or m (if b then 2 ^ n else 0)) (mask_from (n + 1) (map peer_seen (drop (n + 1) xs))) ≡ total
mask_cut xs n m total b l e h =
    or_assoc m (if b then 2 ^ n else 0) (mask_from (n + 1) (map peer_seen (drop (n + 1) xs)))
    ∙ ap (λ (c : Bool). bit_or m (bit_or (if c then 2 ^ n else 0) (mask_from (n + 1) (map peer_seen (drop (n + 1) xs))))) e
    ∙ ap (λ (ys : List Partner). bit_or m (mask_from n (map peer_seen ys))) (sym (cut xs n l)) ∙ h

pub mask_with : (xs : List Partner) (n m total : ℕ) → n < length xs → is_masked (peer_seen (partner_at xs n)) ≡ true → bit_or m (mask_from n (map peer_seen (drop n xs))) ≡ total
    → bit_or (bit_or m (2 ^ n)) (mask_from (n + 1) (map peer_seen (drop (n + 1) xs))) ≡ total
mask_with xs n m total l e h = mask_cut xs n m total true l (sym e) h

pub mask_without : (xs : List Partner) (n m total : ℕ) → n < length xs → is_masked (peer_seen (partner_at xs n)) ≡ false → bit_or m (mask_from n (map peer_seen (drop n xs))) ≡ total
    → bit_or m (mask_from (n + 1) (map peer_seen (drop (n + 1) xs))) ≡ total
mask_without xs n m total l e h =
    ap (λ (k : ℕ). bit_or k (mask_from (n + 1) (map peer_seen (drop (n + 1) xs)))) (sym (or_none m))
    ∙ mask_cut xs n m total false l (sym e) h

pub mask_whole : (xs : List Partner) (n m total : ℕ) → length xs ≤ n → bit_or m (mask_from n (map peer_seen (drop n xs))) ≡ total → m ≡ total
mask_whole xs n m total l h = sym (or_none m) ∙ ap (λ (ys : List Partner). bit_or m (mask_from n (map peer_seen ys))) (sym (drop_all n xs l)) ∙ h

pub ruleset masking = (mask_with, mask_without, mask_whole)

pub left_here : (xs : List Partner) (own n : ℕ) (b : Bool) → n < length xs → nat_eq n own ≡ false → is_left (partner_at xs n).standing.engage ≡ true → any_left own n (map peer_seen (drop n xs)) ≡ b → true ≡ b
left_here xs own n b l e f h =
    ap (λ (c : Bool). (not c && true) || any_left own (n + 1) (map peer_seen (drop (n + 1) xs))) (sym e)
    ∙ ap (λ (c : Bool). (not (nat_eq n own) && c) || any_left own (n + 1) (map peer_seen (drop (n + 1) xs))) (sym f)
    ∙ ap (λ (ys : List Partner). any_left own n (map peer_seen ys)) (sym (cut xs n l)) ∙ h

pub left_next : (xs : List Partner) (own n : ℕ) (b : Bool) → n < length xs → (not (nat_eq n own) && is_left (partner_at xs n).standing.engage) ≡ false → any_left own n (map peer_seen (drop n xs)) ≡ b → any_left own (n + 1) (map peer_seen (drop (n + 1) xs)) ≡ b
left_next xs own n b l e h =
    ap (λ (c : Bool). c || any_left own (n + 1) (map peer_seen (drop (n + 1) xs))) (sym e)
    ∙ ap (λ (ys : List Partner). any_left own n (map peer_seen ys)) (sym (cut xs n l)) ∙ h

pub left_none : (xs : List Partner) (own n : ℕ) (b : Bool) → length xs ≤ n → any_left own n (map peer_seen (drop n xs)) ≡ b → false ≡ b
left_none xs own n b l h = ap (λ (ys : List Partner). any_left own n (map peer_seen ys)) (sym (drop_all n xs l)) ∙ h

pub ruleset leaving = (left_here, left_next, left_none)
