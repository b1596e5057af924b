-- Whether all partners have left, one after the other.
use Rattle.std.proofs.Common.{◌≡◌, ℕ, ◌+◌, ◌<◌, ◌≤◌, Bool, true, false, true≢false, List, length, map, drop, refl, ap, sym, ◌∙◌}
use Rattle.std.specs.Prelude.{not, ◌&&◌, ◌||◌, nat_eq}
use Rattle.std.proofs.lemmas.List.{drop_all}
use Rattle.xp_protocol.specs.Acts.{all_gone}
use Rattle.xp_partner.specs.Partner.{Partner, peer_seen}
use Rattle.xp_partition.specs.Partners.{partner_at}
use Rattle.xp_partition.proofs.Looking.{cut}
use Rattle.xp_acts.specs.Wanting.{has_left}

either : (a b : Bool) → (not a && not b) ≡ false → a || b ≡ true
either true b h = refl
either false true h = refl
either false false h = absurd (true≢false h)

abbrev rest : List Partner → ℕ → ℕ → Bool
rest xs own n = all_gone own n (map peer_seen (drop n xs))

one_more : (xs : List Partner) (own n : ℕ) → n < length xs → rest xs own n ≡ (nat_eq n own || has_left (peer_seen (partner_at xs n))) && rest xs own (n + 1)
one_more xs own n l = ap (λ (ys : List Partner). all_gone own n (map peer_seen ys)) (cut xs n l)

pub stays_here : (xs : List Partner) (own n : ℕ) (b : Bool) → n < length xs → nat_eq n own ≡ false → has_left (peer_seen (partner_at xs n)) ≡ false → rest xs own n ≡ b → false ≡ b
stays_here xs own n b l e f h =
    ap (λ (c : Bool). (c || false) && rest xs own (n + 1)) (sym e)
    ∙ ap (λ (c : Bool). (nat_eq n own || c) && rest xs own (n + 1)) (sym f)
    ∙ sym (one_more xs own n l) ∙ h

pub gone_next : (xs : List Partner) (own n : ℕ) (b : Bool) → n < length xs → (not (nat_eq n own) && not (has_left (peer_seen (partner_at xs n)))) ≡ false → rest xs own n ≡ b → rest xs own (n + 1) ≡ b
gone_next xs own n b l e h =
    ap (λ (c : Bool). c && rest xs own (n + 1)) (sym (either (nat_eq n own) (has_left (peer_seen (partner_at xs n))) e))
    ∙ sym (one_more xs own n l) ∙ h

pub gone_all : (xs : List Partner) (own n : ℕ) (b : Bool) → length xs ≤ n → rest xs own n ≡ b → true ≡ b
gone_all xs own n b l h = ap (λ (ys : List Partner). all_gone own n (map peer_seen ys)) (sym (drop_all n xs l)) ∙ h

pub ruleset leaving = (stays_here, gone_next, gone_all)
