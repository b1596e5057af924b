-- Bits that are set one after the other, and the opening of one partition more.
use Rattle.std.proofs.Common.{◌≡◌, ℕ, suc, ◌+◌, ◌-◌, ◌*◌, ◌%◌, ◌^◌, ◌<◌, ◌≤◌, List, ◌∷◌, length, get_or, drop, refl, ap, sym, ◌∙◌, arith, max, bit_or}
use Rattle.std.proofs.Math.Nat.{pow-succ'}
use Rattle.std.proofs.Math.Pow.{suc_ones}
use Rattle.std.specs.Int.{bit_at}
use Rattle.std.proofs.lemmas.Nat.Bits.{bit_at_or, bit_at-zero, same_from_bits}
use Rattle.std.proofs.lemmas.Grind.{one_shifted}
use Rattle.std.proofs.lemmas.List.{drop_more, drop_all}
use Rattle.xp_base.specs.Memory.{Memory}
use Rattle.xp_script.specs.declared.part.Link.{Link}
use Rattle.xp_script.specs.declared.scenario.Scenario.{Scenario}
use Rattle.xp_script.specs.Opening.{partner_mask, open_part, opened_from}

max_assoc : (a b c : ℕ) → max (max a b) c ≡ max a (max b c)
max_assoc a b c = omega arith

pub or_assoc : (a b c : ℕ) → bit_or (bit_or a b) c ≡ bit_or a (bit_or b c)
or_assoc a b c =
    same_from_bits (bit_or (bit_or a b) c) (bit_or a (bit_or b c)) (λ i.
    rw (bit_at_or (bit_or a b) c i, bit_at_or a b i, bit_at_or a (bit_or b c) i, bit_at_or b c i) (max_assoc (bit_at a i) (bit_at b i) (bit_at c i)))

or_nothing : (a : ℕ) → bit_or a 0 ≡ a
or_nothing a = same_from_bits (bit_or a 0) a (λ i. rw (bit_at_or a 0 i, bit_at-zero i) (omega arith))

shifted : (k : ℕ) → k < 64 → 1 * 2 ^ k % 18446744073709551616 ≡ 2 ^ k
shifted k h = (one_shifted k 18446744073709551615 refl (omega arith)).0

-- the bit of one link more
pub mask_more : (m : ℕ) (ls : List Link) (i : ℕ) (l : Link) → i < length ls → l ≡ get_or ls i l → l.partner < 64 → bit_or m (partner_mask (drop i ls)) ≡ bit_or (bit_or m (1 * 2 ^ l.partner % 18446744073709551616)) (partner_mask (drop (i + 1) ls))
mask_more m ls i l h e k =
    let rest = drop (i + 1) ls in
    let here : drop i ls ≡ l ∷ rest = drop_more ls i l h ∙ ap (λ (x : Link). x ∷ rest) (sym e) in
    ap (λ (xs : List Link). bit_or m (partner_mask xs)) here
    ∙ sym (or_assoc m (2 ^ l.partner) (partner_mask rest))
    ∙ ap (λ (b : ℕ). bit_or (bit_or m b) (partner_mask rest)) (sym (shifted l.partner k))

pub mask_end : (m : ℕ) (ls : List Link) (i : ℕ) → length ls ≤ i → bit_or m (partner_mask (drop i ls)) ≡ m
mask_end m ls i h = ap (λ (xs : List Link). bit_or m (partner_mask xs)) (drop_all i ls h) ∙ or_nothing m

-- the bits of all partitions below a count
pub whole_mask : (c : ℕ) → 1 ≤ c → c ≤ 64 → 2 * (1 * 2 ^ (c - 1) % 18446744073709551616 - 1) + 1 ≡ 2 ^ c - 1
whole_mask c low high =
    let e : c ≡ suc (c - 1) = omega arith in
    let double : 2 ^ c ≡ 2 * 2 ^ (c - 1) = ap (λ (n : ℕ). 2 ^ n) e ∙ pow-succ' 2 (c - 1) in
    let some : suc (2 ^ (c - 1) - 1) ≡ 2 ^ (c - 1) = suc_ones (c - 1) in
    rw (shifted (c - 1) (omega arith), double) (omega (arith, some))

pub opened_from-more : (s : Scenario) (p n : ℕ) (m : Memory) → p < n → opened_from s p (n - p) m ≡ opened_from s (p + 1) (n - (p + 1)) (open_part s p m)
unfolding opened_from
opened_from-more s p n m h =
    let e : n - p ≡ suc (n - (p + 1)) = omega arith in
    ap (λ (k : ℕ). opened_from s p k m) e

pub opened_from-end : (s : Scenario) (p n : ℕ) (m : Memory) → n ≤ p → opened_from s p (n - p) m ≡ m
unfolding opened_from
opened_from-end s p n m h =
    let e : n - p ≡ 0 = omega arith in
    ap (λ (k : ℕ). opened_from s p k m) e
