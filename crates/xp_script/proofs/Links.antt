-- The links of a partition, one partner after the other.
use Rattle.std.proofs.Common.{◌≡◌, ℕ, suc, ◌+◌, ◌-◌, ◌<◌, ◌≤◌, List, [], ◌++◌, ap, arith}
use Rattle.xp_base.specs.declared.layout.TheConstants.{CHANNELS}
use Rattle.xp_script.specs.declared.setting.Warm.{Warm}
use Rattle.xp_script.specs.Parts.{links_to, links_from}

pub links_from-more : (p q n : ℕ) (ws : List Warm) → q < n → links_from p q (n - q) ws ≡ links_to p q 0 CHANNELS ws ++ links_from p (q + 1) (n - (q + 1)) ws
unfolding links_from
links_from-more p q n ws h =
    let e : n - q ≡ suc (n - (q + 1)) = omega arith in
    ap (λ (k : ℕ). links_from p q k ws) e

pub links_from-end : (p q n : ℕ) (ws : List Warm) → n ≤ q → links_from p q (n - q) ws ≡ []
unfolding links_from
links_from-end p q n ws h =
    let e : n - q ≡ 0 = omega arith in
    ap (λ (k : ℕ). links_from p q k ws) e
