-- The next step of a boot by what it has done is the one that the plan finds, partner by partner.
use Rattle.std.proofs.Common.{◌≡◌, ℕ, zero, suc, ◌+◌, ◌<◌, ◌≤◌, ◌≢◌, Bool, true, false, List, length, drop, map, refl, ap, sym, ◌∙◌, subst, arith, add-one, Option, Some, None, ◌⊎◌, inl, inr}
use Rattle.std.specs.Prelude.{is_some, not, if◌then◌else◌, nat_eq, nat_lt, nat_le}
use Rattle.std.proofs.lemmas.Bool.Decides.{eqb_tells, nat_tests}
use Rattle.std.proofs.lemmas.Bool.{cases_lt}
use Rattle.std.proofs.Math.Dec.{eqb}
use Rattle.std.proofs.lemmas.List.{drop_all}
use Rattle.xp_script.specs.declared.part.ScenarioPart.{ScenarioPart}
use Rattle.xp_protocol.specs.declared.rule.Rule.{Rule}
use Rattle.xp_protocol.specs.declared.rule.Rule.TheVariants.{Own}
use Rattle.xp_protocol.specs.declared.rule.PeerRule.TheVariants.{ZeroMagic, ClearOldBit}
use Rattle.xp_protocol.specs.declared.rule.OwnRule.TheVariants.{WriteStamp, ReadStamp}
use Rattle.xp_protocol.specs.State.{Boot}
use Rattle.xp_plan.specs.EndSteps.{or_else, step_if}
use Rattle.xp_plan.specs.PeerSteps.{boot_at, boot_own, boot_peers, for_peer}
use Rattle.xp_discover.specs.declared.boot.BootStep.{BootStep}
use Rattle.xp_discover.specs.declared.boot.BootStep.TheVariants as boot_steps
use Rattle.xp_discover.specs.Booting.{Starting, boot_step, partner_from, partner_step, rule_for}
use Rattle.xp_partner.specs.Partner.{Partner, peer_seen}
use Rattle.xp_partition.specs.declared.keeping.Keeping.{Keeping}
use Rattle.xp_partition.specs.declared.life.Life.{Life as KeptLife}
use Rattle.xp_partition.specs.declared.life.Life.TheVariants.{Booting as KeptBooting}
use Rattle.xp_partition.specs.Life.{boot_seen}
use Rattle.xp_partition.specs.Partners.{Partners, partner_at}
use Rattle.xp_partition.specs.Keeping.{state_of, IsBooted, IsKept}
use Rattle.xp_partition.proofs.Looking.{cut}

-- from partner n on
abbrev from_at : ℕ → ℕ → List Partner → Option Rule
from_at part n xs = boot_peers part n (map peer_seen (drop n xs))

abbrev head_by : Bool → ℕ → Bool → Bool → Option Rule
head_by own n zeroed cleared = if own then None else for_peer n (if not zeroed then Some ZeroMagic else step_if (not cleared) ClearOldBit)

one : (part n : ℕ) (xs : List Partner) (own zeroed cleared : Bool) → n < length xs → nat_eq n part ≡ own → (partner_at xs n).standing.engage.zeroed ≡ zeroed → (partner_at xs n).standing.engage.cleared ≡ cleared
    → from_at part n xs ≡ or_else (head_by own n zeroed cleared) (from_at part (n + 1) xs)
one part n xs own zeroed cleared l a b c =
    ap (λ (ys : List Partner). boot_peers part n (map peer_seen ys)) (cut xs n l)
    ∙ ap (λ (t : Bool). or_else (head_by t n (partner_at xs n).standing.engage.zeroed (partner_at xs n).standing.engage.cleared) (from_at part (n + 1) xs)) a
    ∙ ap (λ (t : Bool). or_else (head_by own n t (partner_at xs n).standing.engage.cleared) (from_at part (n + 1) xs)) b
    ∙ ap (λ (t : Bool). or_else (head_by own n zeroed t) (from_at part (n + 1) xs)) c

none_left : (part n : ℕ) (xs : List Partner) → length xs ≤ n → from_at part n xs ≡ None
none_left part n xs h = ap (λ (ys : List Partner). boot_peers part n (map peer_seen ys)) (drop_all n xs h)

skip_own : (part n : ℕ) (xs : List Partner) → n < length xs → nat_eq n part ≡ true → from_at part n xs ≡ from_at part (n + 1) xs
skip_own part n xs l e = one part n xs true _ _ l e refl refl

skip_done : (part n : ℕ) (xs : List Partner) → n < length xs → nat_eq n part ≡ false → (partner_at xs n).standing.engage.zeroed ≡ true → (partner_at xs n).standing.engage.cleared ≡ true → from_at part n xs ≡ from_at part (n + 1) xs
skip_done part n xs l e z c = one part n xs false true true l e z c

lt_is : (a b : ℕ) → a < b → nat_lt a b ≡ true
lt_is a b h = grind (arith, nat_tests)

ge_is : (a b : ℕ) → b ≤ a → nat_lt a b ≡ false
ge_is a b h = grind (arith, nat_tests)

-- all partners below `cleared` are passed
passed : (s : ScenarioPart) (b : Starting) (ps : Partners) → IsBooted s b ps → length ps.list ≡ s.count → (n : ℕ) → n < b.cleared → from_at s.part n ps.list ≡ from_at s.part (n + 1) ps.list
passed s b ps h c n l = by (cases_lt n (length ps.list)) where
  by : (n < length ps.list) ⊎ (length ps.list ≤ n) → from_at s.part n ps.list ≡ from_at s.part (n + 1) ps.list
  by (inr k) = none_left s.part n ps.list k ∙ sym (none_left s.part (n + 1) ps.list (omega (arith, k)))
  by (inl k) = at (eqb_tells n s.part) where
    low : n < s.count
    low = subst (λ (m : ℕ). n < m) c k

    at : ((eqb n s.part ≡ true) × (n ≡ s.part)) ⊎ ((eqb n s.part ≡ false) × (n ≢ s.part)) → from_at s.part n ps.list ≡ from_at s.part (n + 1) ps.list
    at (inl e) = skip_own s.part n ps.list k e.0
    at (inr e) = skip_done s.part n ps.list k e.0 (h.zeroed n low e.1 ∙ lt_is n b.zeroed (omega (arith, l, h.order))) (h.cleared n low e.1 ∙ lt_is n b.cleared l)

all_passed : (s : ScenarioPart) (b : Starting) (ps : Partners) → IsBooted s b ps → length ps.list ≡ s.count → (n : ℕ) → n ≤ b.cleared → from_at s.part 0 ps.list ≡ from_at s.part n ps.list
all_passed s b ps h c zero l = refl
all_passed s b ps h c (suc n) l = all_passed s b ps h c n (omega (arith, l)) ∙ passed s b ps h c n (omega (arith, l)) ∙ ap (λ (k : ℕ). from_at s.part k ps.list) (add-one n)

-- what is to be done at the first of the others
abbrev found : Starting → ℕ → Option Rule
found b k = if nat_lt k b.count then Some (rule_for (if nat_le b.zeroed k then boot_steps.ZeroMagic k else boot_steps.ClearOldBit k)) else None

at_first : (s : ScenarioPart) (b : Starting) (ps : Partners) → IsBooted s b ps → length ps.list ≡ s.count → b.count ≡ s.count → (k : ℕ) → b.cleared ≤ k → k ≢ s.part → nat_eq k s.part ≡ false → from_at s.part k ps.list ≡ found b k
at_first s b ps h c n k low other apart = by (cases_lt k (length ps.list)) where
  by : (k < length ps.list) ⊎ (length ps.list ≤ k) → from_at s.part k ps.list ≡ found b k
  by (inr l) = none_left s.part k ps.list l ∙ sym (ap (λ (t : Bool). if t then Some (rule_for (if nat_le b.zeroed k then boot_steps.ZeroMagic k else boot_steps.ClearOldBit k)) else None) (ge_is k b.count (omega (arith, l, c, n))))
  by (inl l) = at (nat_lt k b.zeroed) refl where
    few : k < s.count
    few = subst (λ (m : ℕ). k < m) c l

    count : nat_lt k b.count ≡ true
    count = lt_is k b.count (omega (arith, few, n))

    cleared : (partner_at ps.list k).standing.engage.cleared ≡ false
    cleared = h.cleared k few other ∙ ge_is k b.cleared low

    at : (t : Bool) → nat_lt k b.zeroed ≡ t → from_at s.part k ps.list ≡ found b k
    at true e = one s.part k ps.list false true false l apart (h.zeroed k few other ∙ e) cleared
        ∙ sym (ap (λ (t : Bool). if t then Some (rule_for (if nat_le b.zeroed k then boot_steps.ZeroMagic k else boot_steps.ClearOldBit k)) else None) count
        ∙ ap (λ (t : Bool). Some (rule_for (if t then boot_steps.ZeroMagic k else boot_steps.ClearOldBit k))) (above e)) where
          above : nat_lt k b.zeroed ≡ true → nat_le b.zeroed k ≡ false
          above f = grind (arith, nat_tests)
    at false e = one s.part k ps.list false false false l apart (h.zeroed k few other ∙ e) cleared
        ∙ sym (ap (λ (t : Bool). if t then Some (rule_for (if nat_le b.zeroed k then boot_steps.ZeroMagic k else boot_steps.ClearOldBit k)) else None) count
        ∙ ap (λ (t : Bool). Some (rule_for (if t then boot_steps.ZeroMagic k else boot_steps.ClearOldBit k))) (below e)) where
          below : nat_lt k b.zeroed ≡ false → nat_le b.zeroed k ≡ true
          below f = grind (arith, nat_tests)

peers_found : (s : ScenarioPart) (b : Starting) (ps : Partners) → IsBooted s b ps → length ps.list ≡ s.count → b.own ≡ s.part → b.count ≡ s.count → from_at s.part 0 ps.list ≡ found b (partner_from b.own b.cleared)
peers_found s b ps h c o n = all_passed s b ps h c b.cleared (omega arith) ∙ by (eqb_tells b.cleared b.own) where
  by : ((eqb b.cleared b.own ≡ true) × (b.cleared ≡ b.own)) ⊎ ((eqb b.cleared b.own ≡ false) × (b.cleared ≢ b.own)) → from_at s.part b.cleared ps.list ≡ found b (partner_from b.own b.cleared)
  by (inr e) = at_first s b ps h c n b.cleared (omega arith) (λ z. e.1 (z ∙ sym o)) (ap (nat_eq b.cleared) (sym o) ∙ e.0) ∙ ap (found b) (sym (ap (λ (t : Bool). if t then b.cleared + 1 else b.cleared) e.0))
  by (inl e) = over (cases_lt b.cleared (length ps.list)) ∙ at_first s b ps h c n (b.cleared + 1) (omega arith) apart differ ∙ ap (found b) (sym (ap (λ (t : Bool). if t then b.cleared + 1 else b.cleared) e.0)) where
    apart : b.cleared + 1 ≢ s.part
    apart z = absurd (omega (arith, z, e.1, o))

    differ : nat_eq (b.cleared + 1) s.part ≡ false
    differ = grind (arith, nat_tests, e.1, o)

    over : (b.cleared < length ps.list) ⊎ (length ps.list ≤ b.cleared) → from_at s.part b.cleared ps.list ≡ from_at s.part (b.cleared + 1) ps.list
    over (inl l) = skip_own s.part b.cleared ps.list l (ap (nat_eq b.cleared) (sym o) ∙ e.0)
    over (inr l) = none_left s.part b.cleared ps.list l ∙ sym (none_left s.part (b.cleared + 1) ps.list (omega (arith, l)))

-- the whole boot
abbrev ruled : Option BootStep → Option Rule
ruled None = None
ruled (Some m) = Some (rule_for m)

last_step : (b : Starting) (t : Bool) (m : BootStep) → or_else (if t then Some (rule_for m) else None) (Some (Own WriteStamp)) ≡ Some (rule_for (if t then m else boot_steps.WriteStamp))
last_step b true m = refl
last_step b false m = refl

read_by : (read mask offline : Bool) (p : BootStep) (rest : Option Rule) → rest ≡ Some (rule_for p) →
    ruled (if read then (if mask then (if offline then Some p else Some boot_steps.ZeroOffline) else Some boot_steps.ZeroMask) else Some boot_steps.ReadStamp)
    ≡ (if read then or_else (boot_own mask offline) rest else Some (Own ReadStamp))
read_by true true true p rest h = sym h
read_by true true false p rest h = refl
read_by true false offline p rest h = refl
read_by false mask offline p rest h = refl

boot_is : (x : Keeping) → IsKept x → IsBooted x.part x.boot x.partners → ruled (boot_step x.boot) ≡ boot_at x.part.part (record (state_of x) { boot = x.boot.boot })
boot_is x k h =
    let found_now = peers_found x.part x.boot x.partners h k.count k.own k.partitions in
    let key = partner_from x.boot.own x.boot.cleared in
    let rest : or_else (boot_peers x.part.part 0 (state_of x).peers) (Some (Own WriteStamp)) ≡ Some (rule_for (partner_step x.boot)) =
    ap (λ (o : Option Rule). or_else o (Some (Own WriteStamp))) found_now
    ∙ last_step x.boot (nat_lt key x.boot.count) (if nat_le x.boot.zeroed key then boot_steps.ZeroMagic key else boot_steps.ClearOldBit key) in
    ap (λ (t : Bool). ruled (if t then None else (if is_some x.boot.boot.read then (if x.boot.boot.mask then (if x.boot.boot.offline then Some (partner_step x.boot) else Some boot_steps.ZeroOffline) else Some boot_steps.ZeroMask) else Some boot_steps.ReadStamp))) h.going
    ∙ read_by (is_some x.boot.boot.read) x.boot.boot.mask x.boot.boot.offline (partner_step x.boot) _ rest

pub boot_now : (x : Keeping) → x.life ≡ KeptBooting → (state_of x).boot ≡ x.boot.boot
boot_now x l = ap (λ (k : KeptLife). boot_seen k x.boot.boot) l

boot_found : (x : Keeping) → IsKept x → x.life ≡ KeptBooting → ruled (boot_step x.boot) ≡ boot_at x.part.part (state_of x)
boot_found x k l = boot_is x k (k.boot l) ∙ ap (λ (b : Boot). boot_at x.part.part (record (state_of x) { boot = b })) (sym (boot_now x l))

pub step_found : (x : Keeping) (m : BootStep) → IsKept x → x.life ≡ KeptBooting → boot_step x.boot ≡ Some m → Some (rule_for m) ≡ boot_at x.part.part (state_of x)
step_found x m k l e = sym (ap ruled e) ∙ boot_found x k l

pub step_none : (x : Keeping) → IsKept x → x.life ≡ KeptBooting → boot_step x.boot ≡ None → None ≡ boot_at x.part.part (state_of x)
step_none x k l e = sym (ap ruled e) ∙ boot_found x k l

pub ruleset boot_asked = (step_found, step_none)
