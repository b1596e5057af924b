-- What a step of a boot makes of the partition.
use Rattle.std.proofs.Common.{◌≡◌, ℕ, ◌+◌, ◌<◌, ◌≤◌, ◌≢◌, Bool, true, false, true≢false, List, [], map, refl, ap, sym, ◌∙◌, subst, arith, Option, Some, None, ◌⊎◌, inl, inr}
use Rattle.std.specs.Prelude.{IsSome, if◌then◌else◌, nat_lt, nat_le}
use Rattle.std.proofs.lemmas.Bool.{cases_eq, cases_lt, eq-eqb, ne_eqb}
use Rattle.std.proofs.lemmas.Bool.Decides.{nat_tests}
use Rattle.xp_base.specs.declared.layout.TheConstants.{PARTS}
use Rattle.xp_base.specs.declared.step.Answer.TheVariants.{Word}
use Rattle.xp_protocol.specs.declared.rule.PeerRule.{PeerRule}
use Rattle.xp_protocol.specs.declared.rule.PeerRule.TheVariants.{TakeFlags, ZeroMagic, ClearOldBit}
use Rattle.xp_protocol.specs.declared.rule.OwnRule.{OwnRule}
use Rattle.xp_protocol.specs.declared.rule.OwnRule.TheVariants.{ReadStamp, ZeroMask, ZeroOffline, WriteStamp}
use Rattle.xp_protocol.specs.declared.rule.Rule.{Rule}
use Rattle.xp_protocol.specs.declared.rule.Rule.TheVariants.{Peer as ForPeer, Own}
use Rattle.xp_protocol.specs.State.{State, Peer, Boot, Up, Halted, no_boot}
use Rattle.xp_protocol.specs.Peering.{or_zero, with_reason}
use Rattle.xp_protocol.specs.Rules.{mark_of, noted_rule, peers_after, after_answer}
use Rattle.xp_plan.proofs.Choices.{some_is}
use Rattle.xp_discover.specs.declared.boot.BootAnswer.{BootAnswer}
use Rattle.xp_discover.specs.declared.boot.BootAnswer.TheVariants as answers
use Rattle.xp_discover.specs.declared.boot.BootStep.{BootStep}
use Rattle.xp_discover.specs.declared.boot.BootStep.TheVariants as steps
use Rattle.xp_discover.specs.Booting.{Starting, boot_step, boot_after, boot_answer, booted_on, step_answer, partner_from, partner_step, first_start, rule_for}
use Rattle.xp_partner.specs.Partner.{Partner, peer_seen}
use Rattle.xp_partition.specs.declared.keeping.Keeping.{Keeping}
use Rattle.xp_partition.specs.declared.life.Life.{Life as KeptLife}
use Rattle.xp_partition.specs.declared.life.Life.TheVariants as lives
use Rattle.xp_partition.specs.Life.{life_seen, boot_seen}
use Rattle.xp_partition.specs.Partners.{Partners, partner_at}
use Rattle.xp_partition.specs.Keeping.{state_of, IsKept, IsBooted}
use Rattle.xp_partition.proofs.Roomy.{other_at, at_or}
use Rattle.xp_partition.proofs.Asking.{peer_is}
use Rattle.xp_steps.specs.declared.telling.OwnWord.TheVariants.{Stamp}
use Rattle.xp_steps.specs.Changing.{ChangesOne, IsPeerStepped, MayFollow}
use Rattle.xp_steps.specs.Telling.{AreTold}
use Rattle.xp_steps.specs.Stepping.{CanStep, IsStepped}
use Rattle.xp_steps.proofs.Becoming.{AllBecome, becomes_stepped, one_becomes}
use Rattle.xp_steps.proofs.PeerSteps.{effect_for, peer_becomes, noted_others}
use Rattle.xp_steps.proofs.Told.{all_told, no_change}
use Rattle.xp_steps.proofs.OwnSteps.{stands, all_same, few_partners, known_partners}
use Rattle.xp_steps.proofs.Allowed.{turns_low, peer_partner, peer_within, storable, few}
use Rattle.xp_steps.proofs.Wants.{Next, next_of}

-- which step comes next says how far the boot has come
abbrev for_partner : BootStep → Bool
for_partner (steps.ZeroMagic q) = true
for_partner (steps.ClearOldBit q) = true
for_partner m = false

not_partner : (P : Type 0) (m n : BootStep) → for_partner m ≡ true → for_partner n ≡ false → Some n ≡ Some m → P
not_partner P m n t f e = absurd (true≢false (sym t ∙ ap for_partner (sym (some_is n m e)) ∙ f))

partner_comes : (over read mask offline : Bool) (p m : BootStep) → for_partner m ≡ true → (if over then None else (if read then (if mask then (if offline then Some p else Some steps.ZeroOffline) else Some steps.ZeroMask) else Some steps.ReadStamp)) ≡ Some m → p ≡ m
partner_comes true read mask offline p m t e = absurd (cc)
partner_comes false false mask offline p m t e = not_partner (p ≡ m) m steps.ReadStamp t refl e
partner_comes false true false offline p m t e = not_partner (p ≡ m) m steps.ZeroMask t refl e
partner_comes false true true false p m t e = not_partner (p ≡ m) m steps.ZeroOffline t refl e
partner_comes false true true true p m t e = some_is p m e

zero_picked : (a b : Bool) (k q : ℕ) → (if a then (if b then steps.ZeroMagic k else steps.ClearOldBit k) else steps.WriteStamp) ≡ steps.ZeroMagic q → (k ≡ q) × (b ≡ true)
zero_picked true true k q e = (cc, refl)
zero_picked true false k q e = absurd (cc)
zero_picked false b k q e = absurd (cc)

clear_picked : (a b : Bool) (k q : ℕ) → (if a then (if b then steps.ZeroMagic k else steps.ClearOldBit k) else steps.WriteStamp) ≡ steps.ClearOldBit q → (k ≡ q) × (b ≡ false)
clear_picked true true k q e = absurd (cc)
clear_picked true false k q e = (cc, refl)
clear_picked false b k q e = absurd (cc)

comes_zero : (x : Starting) (q : ℕ) → boot_step x ≡ Some (steps.ZeroMagic q) → (partner_from x.own x.cleared ≡ q) × (nat_le x.zeroed (partner_from x.own x.cleared) ≡ true)
comes_zero x q e = zero_picked _ _ _ q (partner_comes x.over _ x.boot.mask x.boot.offline (partner_step x) (steps.ZeroMagic q) refl e)

comes_clear : (x : Starting) (q : ℕ) → boot_step x ≡ Some (steps.ClearOldBit q) → (partner_from x.own x.cleared ≡ q) × (nat_le x.zeroed (partner_from x.own x.cleared) ≡ false)
comes_clear x q e = clear_picked _ _ _ q (partner_comes x.over _ x.boot.mask x.boot.offline (partner_step x) (steps.ClearOldBit q) refl e)

-- the first of the others from a number on is this number, or the next one after the own
from_is : (own n : ℕ) → (partner_from own n ≡ n) ⊎ ((partner_from own n ≡ n + 1) × (n ≡ own))
from_is own n = by (cases_eq n own) where
  by : (n ≡ own) ⊎ (n ≡ own → ⊥) → (partner_from own n ≡ n) ⊎ ((partner_from own n ≡ n + 1) × (n ≡ own))
  by (inl e) = inr (ap (λ (b : Bool). if b then n + 1 else n) (eq-eqb n own e), e)
  by (inr d) = inl (ap (λ (b : Bool). if b then n + 1 else n) (ne_eqb n own d))

lt_true : (a b : ℕ) → a < b → nat_lt a b ≡ true
lt_true a b h = grind (arith, nat_tests)

lt_false : (a b : ℕ) → b ≤ a → nat_lt a b ≡ false
lt_false a b h = grind (arith, nat_tests)

le_low : (a b : ℕ) → nat_le a b ≡ true → a ≤ b
le_low a b h = grind (arith, nat_tests)

le_high : (a b : ℕ) → nat_le a b ≡ false → b < a
le_high a b h = grind (arith, nat_tests)

-- all others below the first one are passed: the tests of a number below it are the same then
same_tests : (i n q : ℕ) → (i < n → i < q + 1) → (n ≤ i → q + 1 ≤ i) → nat_lt i n ≡ nat_lt i (q + 1)
same_tests i n q a b = by (cases_lt i n) where
  by : (i < n) ⊎ (n ≤ i) → nat_lt i n ≡ nat_lt i (q + 1)
  by (inl l) = lt_true i n l ∙ sym (lt_true i (q + 1) (a l))
  by (inr l) = lt_false i n l ∙ sym (lt_false i (q + 1) (b l))

none_between : (own cleared n q i : ℕ) → partner_from own cleared ≡ q → cleared ≤ n → i ≢ own → i ≢ q → n ≤ i → q + 1 ≤ i
none_between own cleared n q i e l a b h = by (from_is own cleared) where
  by : (partner_from own cleared ≡ cleared) ⊎ ((partner_from own cleared ≡ cleared + 1) × (cleared ≡ own)) → q + 1 ≤ i
  by (inl f) = let g : q ≡ cleared = sym e ∙ f in omega (arith, b, g, l, h)
  by (inr f) = let g : q ≡ cleared + 1 = sym e ∙ f.0 in let k = f.1 in omega (arith, a, b, g, k, l, h)

from_high : (own n : ℕ) → n ≤ partner_from own n
from_high own n = by (from_is own n) where
  by : (partner_from own n ≡ n) ⊎ ((partner_from own n ≡ n + 1) × (n ≡ own)) → n ≤ partner_from own n
  by (inl f) = omega (arith, f)
  by (inr f) = let g = f.0 in omega (arith, g)

-- partners that weren't changed
module _ (x : Keeping) (q : ℕ) (ps : Partners) (one : ChangesOne q x.partners ps) where
  still : (i : ℕ) → i ≢ q → partner_at ps.list i ≡ partner_at x.partners.list i
  still i d = ap (λ (ys : List Partner). partner_at ys i) one.list ∙ other_at x.partners.list q i (partner_at ps.list q) d

  zeroed_booted : IsKept x → IsBooted x.part x.boot x.partners → boot_step x.boot ≡ Some (steps.ZeroMagic q) → (partner_at ps.list q).standing.engage.zeroed ≡ true → (partner_at ps.list q).standing.engage.cleared ≡ (partner_at x.partners.list q).standing.engage.cleared
      → IsBooted x.part (record x.boot { zeroed = q + 1 }) ps
  zeroed_booted k b e here same =
      let c = comes_zero x.boot q e in
      let from : partner_from x.boot.own x.boot.cleared ≡ q = c.0 in
      let low : x.boot.zeroed ≤ q = subst (λ (n : ℕ). x.boot.zeroed ≤ n) from (le_low x.boot.zeroed _ c.1) in
      let order : x.boot.cleared ≤ x.boot.zeroed = b.order in
      record {
        going = b.going;
        order = omega (arith, order, low);
        zeroed = at_or (λ i. i < x.part.count → i ≢ x.part.part → (partner_at ps.list i).standing.engage.zeroed ≡ nat_lt i (q + 1)) q
            (λ l o. here ∙ sym (lt_true q (q + 1) (omega arith)))
            (λ i d l o. ap (λ (p : Partner). p.standing.engage.zeroed) (still i d) ∙ b.zeroed i l o
            ∙ same_tests i x.boot.zeroed q (λ j. omega (arith, j, low)) (λ j. none_between x.boot.own x.boot.cleared x.boot.zeroed q i from order (λ f. o (f ∙ k.own)) d j));
        cleared = at_or (λ i. i < x.part.count → i ≢ x.part.part → (partner_at ps.list i).standing.engage.cleared ≡ nat_lt i x.boot.cleared) q
            (λ l o. same ∙ b.cleared q l o)
            (λ i d l o. ap (λ (p : Partner). p.standing.engage.cleared) (still i d) ∙ b.cleared i l o);
      }

  cleared_booted : IsKept x → IsBooted x.part x.boot x.partners → boot_step x.boot ≡ Some (steps.ClearOldBit q) → (partner_at ps.list q).standing.engage.cleared ≡ true → (partner_at ps.list q).standing.engage.zeroed ≡ (partner_at x.partners.list q).standing.engage.zeroed
      → IsBooted x.part (record x.boot { cleared = q + 1 }) ps
  cleared_booted k b e here same =
      let c = comes_clear x.boot q e in
      let from : partner_from x.boot.own x.boot.cleared ≡ q = c.0 in
      let high : q < x.boot.zeroed = subst (λ (n : ℕ). n < x.boot.zeroed) from (le_high x.boot.zeroed _ c.1) in
      let past : x.boot.cleared ≤ q = subst (λ (n : ℕ). x.boot.cleared ≤ n) from (from_high x.boot.own x.boot.cleared) in
      record {
        going = b.going;
        order = omega (arith, high);
        zeroed = at_or (λ i. i < x.part.count → i ≢ x.part.part → (partner_at ps.list i).standing.engage.zeroed ≡ nat_lt i x.boot.zeroed) q
            (λ l o. same ∙ b.zeroed q l o)
            (λ i d l o. ap (λ (p : Partner). p.standing.engage.zeroed) (still i d) ∙ b.zeroed i l o);
        cleared = at_or (λ i. i < x.part.count → i ≢ x.part.part → (partner_at ps.list i).standing.engage.cleared ≡ nat_lt i (q + 1)) q
            (λ l o. here ∙ sym (lt_true q (q + 1) (omega arith)))
            (λ i d l o. ap (λ (p : Partner). p.standing.engage.cleared) (still i d) ∙ b.cleared i l o
            ∙ same_tests i x.boot.cleared q (λ j. omega (arith, j, past)) (λ j. none_between x.boot.own x.boot.cleared x.boot.cleared q i from (omega arith) (λ f. o (f ∙ k.own)) d j));
      }

-- the state of a partition that boots
boot_kept : (l : KeptLife) (b : Boot) → l ≡ lives.Booting → boot_seen l b ≡ b
boot_kept l b e = ap (λ (k : KeptLife). boot_seen k b) e

abbrev with_boot : Keeping → List Peer → Boot → State
with_boot x qs b = record (state_of x) { boot = b; peers = qs }

-- a partner's magic, or its bit
module _ (x : Keeping) (q turns w : ℕ) (ps : Partners) (l : x.life ≡ lives.Booting) (t : turns ≡ x.clock.turns) (one : ChangesOne q x.partners ps) where
  turn : turns + 1 ≡ x.clock.turns + 1
  turn = ap (λ (n : ℕ). n + 1) t

  booted_by : (m : PeerRule) (boot : Starting) → CanStep x (ForPeer q m) → None ≡ mark_of x.part (state_of x) (ForPeer q m) → IsPeerStepped (turns + 1) m None (Word w) (partner_at x.partners.list q) (partner_at ps.list q)
      → boot.boot ≡ x.boot.boot → boot.own ≡ x.boot.own → boot.count ≡ x.boot.count → IsBooted x.part boot ps
      → ((qs : List Peer) → record (state_of x) { boot = boot_seen x.life boot.boot; clock = x.clock; peers = qs } ≡ record (after_answer x.part (state_of x) (ForPeer q m) (Word w)) { peers = qs })
      → IsStepped x (ForPeer q m) (Word w) (record x { boot = boot; partners = ps })
  booted_by m boot h e k same own count booted rest =
      let g = effect_for x.part (state_of x) q (mark_of x.part (state_of x) (ForPeer q m)) m (Word w) in
      becomes_stepped x x.life boot x.stamp x.beat x.clock ps (ForPeer q m) (Word w) h.kept
      (one_becomes x.part x.stamp x.beat.mask x.partners.list ps.list q (with_reason g.reason g.local) (noted_rule x.part (state_of x) (ForPeer q m) (Word w)) (peer_within x q m h) one.list
      (stands x h.kept)
      (peer_becomes x q (turns + 1) m None (Word w) (partner_at ps.list q) h.kept (peer_partner x q m h) turn e k)
      (noted_others x q m (Word w)))
      rest own count (λ i. booted) one.untouched

  engage_of : (m : PeerRule) (h : CanStep x (ForPeer q m)) → None ≡ mark_of x.part (state_of x) (ForPeer q m) → IsPeerStepped (turns + 1) m None (Word w) (partner_at x.partners.list q) (partner_at ps.list q)
      → peer_seen (partner_at ps.list q) ≡ (let g = effect_for x.part (state_of x) q (mark_of x.part (state_of x) (ForPeer q m)) m (Word w) in with_reason g.reason g.local)
  engage_of m h e k = (peer_becomes x q (turns + 1) m None (Word w) (partner_at ps.list q) h.kept (peer_partner x q m h) turn e k).seen

  zeroing : CanStep x (ForPeer q ZeroMagic) → boot_step x.boot ≡ Some (steps.ZeroMagic q) → IsPeerStepped (turns + 1) ZeroMagic None (Word w) (partner_at x.partners.list q) (partner_at ps.list q)
      → IsStepped x (ForPeer q ZeroMagic) (Word w) (record x { boot = record x.boot { zeroed = q + 1 }; partners = ps })
  zeroing h e k =
      let seen = engage_of ZeroMagic h refl k in
      booted_by ZeroMagic (record x.boot { zeroed = q + 1 }) h refl k refl refl refl
      (zeroed_booted x q ps one h.kept (h.kept.boot l) e
      (ap (λ (p : Peer). p.engage.zeroed) seen)
      (ap (λ (p : Peer). p.engage.cleared) seen ∙ ap (λ (p : Peer). p.engage.cleared) (sym (peer_is x q))))
      (λ qs. refl)

  clearing_bit : CanStep x (ForPeer q ClearOldBit) → boot_step x.boot ≡ Some (steps.ClearOldBit q) → IsPeerStepped (turns + 1) ClearOldBit None (Word w) (partner_at x.partners.list q) (partner_at ps.list q)
      → IsStepped x (ForPeer q ClearOldBit) (Word w) (record x { boot = record x.boot { cleared = q + 1 }; partners = ps })
  clearing_bit h e k =
      let seen = engage_of ClearOldBit h refl k in
      booted_by ClearOldBit (record x.boot { cleared = q + 1 }) h refl k refl refl refl
      (cleared_booted x q ps one h.kept (h.kept.boot l) e
      (ap (λ (p : Peer). p.engage.cleared) seen)
      (ap (λ (p : Peer). p.engage.zeroed) seen ∙ ap (λ (p : Peer). p.engage.zeroed) (sym (peer_is x q))))
      (λ qs. refl)

-- the rule of a step for a partner
record IsFor (q r : ℕ) (m n : PeerRule) : Type 0 where
  partner : q ≡ r
  rule : m ≡ n

for_same : (q r : ℕ) (m n : PeerRule) → ForPeer q m ≡ ForPeer r n → IsFor q r m n
for_same q r m n e = record { partner = cc; rule = cc }

pub cleared_followed : (x : Keeping) (q turns w : ℕ) (m : PeerRule) (boot : Starting) (ps : Partners) → CanStep x (ForPeer q m) → x.life ≡ lives.Booting → turns ≡ x.clock.turns → ChangesOne q x.partners ps
    → IsPeerStepped (turns + 1) m None (Word w) (partner_at x.partners.list q) (partner_at ps.list q) → boot ≡ boot_after x.boot (boot_step x.boot) w
    → IsStepped x (ForPeer q m) (Word w) (record x { boot = boot; partners = ps })
cleared_followed x q turns w m boot ps h l t one k e = by n.step n.comes n.ruled where
  n : Next x (ForPeer q m)
  n = next_of x (ForPeer q m) h l

  moved : (b : Starting) → b ≡ boot → IsStepped x (ForPeer q m) (Word w) (record x { boot = b; partners = ps }) → IsStepped x (ForPeer q m) (Word w) (record x { boot = boot; partners = ps })
  moved b f s = subst (λ (z : Starting). IsStepped x (ForPeer q m) (Word w) (record x { boot = z; partners = ps })) f s

  at : (p : BootStep) → boot_step x.boot ≡ Some p → booted_on x.boot p w ≡ boot
  at p f = ap (λ (o : Option BootStep). boot_after x.boot o w) (sym f) ∙ sym e

  zero_step : (r : ℕ) → boot_step x.boot ≡ Some (steps.ZeroMagic r) → IsFor r q ZeroMagic m → IsStepped x (ForPeer q m) (Word w) (record x { boot = boot; partners = ps })
  zero_step r f s =
      let g : boot_step x.boot ≡ Some (steps.ZeroMagic q) = f ∙ ap (λ (i : ℕ). Some (steps.ZeroMagic i)) s.partner in
      moved (record x.boot { zeroed = q + 1 }) (at (steps.ZeroMagic q) g)
      (subst (λ (p : PeerRule). IsStepped x (ForPeer q p) (Word w) (record x { boot = record x.boot { zeroed = q + 1 }; partners = ps })) s.rule
      (zeroing x q turns w ps l t one (subst (λ (p : PeerRule). CanStep x (ForPeer q p)) (sym s.rule) h) g
      (subst (λ (p : PeerRule). IsPeerStepped (turns + 1) p None (Word w) (partner_at x.partners.list q) (partner_at ps.list q)) (sym s.rule) k)))

  clear_step : (r : ℕ) → boot_step x.boot ≡ Some (steps.ClearOldBit r) → IsFor r q ClearOldBit m → IsStepped x (ForPeer q m) (Word w) (record x { boot = boot; partners = ps })
  clear_step r f s =
      let g : boot_step x.boot ≡ Some (steps.ClearOldBit q) = f ∙ ap (λ (i : ℕ). Some (steps.ClearOldBit i)) s.partner in
      moved (record x.boot { cleared = q + 1 }) (at (steps.ClearOldBit q) g)
      (subst (λ (p : PeerRule). IsStepped x (ForPeer q p) (Word w) (record x { boot = record x.boot { cleared = q + 1 }; partners = ps })) s.rule
      (clearing_bit x q turns w ps l t one (subst (λ (p : PeerRule). CanStep x (ForPeer q p)) (sym s.rule) h) g
      (subst (λ (p : PeerRule). IsPeerStepped (turns + 1) p None (Word w) (partner_at x.partners.list q) (partner_at ps.list q)) (sym s.rule) k)))

  by : (p : BootStep) → boot_step x.boot ≡ Some p → rule_for p ≡ ForPeer q m → IsStepped x (ForPeer q m) (Word w) (record x { boot = boot; partners = ps })
  by steps.ReadStamp f g = absurd (cc)
  by steps.ZeroMask f g = absurd (cc)
  by steps.ZeroOffline f g = absurd (cc)
  by (steps.ZeroMagic r) f g = zero_step r f (for_same r q ZeroMagic m g)
  by (steps.ClearOldBit r) f g = clear_step r f (for_same r q ClearOldBit m g)
  by steps.WriteStamp f g = absurd (cc)

-- what the step asks
pub may_clear : (x : Keeping) (q : ℕ) (m : PeerRule) → CanStep x (ForPeer q m) → x.life ≡ lives.Booting → MayFollow m (partner_at x.partners.list q)
may_clear x q m h l = record { storable = storable x q m h; flags = λ e. absurd (apart (subst (λ (p : PeerRule). CanStep x (ForPeer q p)) e h)) } where
  apart : CanStep x (ForPeer q TakeFlags) → ⊥
  apart k = let f = sym (ap life_seen l) ∙ k.can.0 in cc

pub step_comes : (x : Keeping) (rule : Rule) → CanStep x rule → x.life ≡ lives.Booting → IsSome (boot_step x.boot)
step_comes x rule h l = let n = next_of x rule h l in subst (λ (o : Option BootStep). IsSome o) (sym n.comes) refl

pub ruleset clearing = (cleared_followed, may_clear, step_comes, turns_low, peer_within)

-- a step for the partition
halted_not : (b : Bool) (w : ℕ) → (if b then None else Some (answers.Halted w)) ≡ None → b ≡ true
halted_not true w e = refl
halted_not false w e = absurd (cc)

halted_with : (b : Bool) (w v : ℕ) → (if b then None else Some (answers.Halted w)) ≡ Some (answers.Halted v) → (b ≡ false) × (w ≡ v)
halted_with true w v e = absurd (cc)
halted_with false w v e = (refl, cc)

halted_only : (b : Bool) (w v : ℕ) → (if b then None else Some (answers.Halted w)) ≡ Some (answers.Booted v) → ⊥
halted_only true w v e = cc
halted_only false w v e = cc

-- one that doesn't end the boot
module _ (x : Keeping) (l : x.life ≡ lives.Booting) where
  goes_on : (m : OwnRule) (w : ℕ) (boot : Starting) → CanStep x (Own m) → boot.own ≡ x.boot.own → boot.count ≡ x.boot.count → IsBooted x.part boot x.partners
      → ((qs : List Peer) → record (state_of x) { boot = boot_seen x.life boot.boot; peers = qs } ≡ record (after_answer x.part (state_of x) (Own m) (Word w)) { peers = qs })
      → AllBecome x.part x.stamp x.beat.mask (peers_after x.part (state_of x) (Own m) (Word w)) (noted_rule x.part (state_of x) (Own m) (Word w)) x.partners.list x.partners.list
      → IsStepped x (Own m) (Word w) (record x { boot = boot })
  goes_on m w boot h own count booted rest all = becomes_stepped x x.life boot x.stamp x.beat x.clock x.partners (Own m) (Word w) h.kept all rest own count (λ i. booted) (no_change x.partners)

  -- what was done of the boot is kept
  seen_now : (f : Boot → Boot) → boot_seen x.life (f x.boot.boot) ≡ f (boot_seen x.life x.boot.boot)
  seen_now f = boot_kept x.life (f x.boot.boot) l ∙ ap f (sym (boot_kept x.life x.boot.boot l))

  as_before : (b : Boot) → IsBooted x.part x.boot x.partners → IsBooted x.part (record x.boot { boot = b }) x.partners
  as_before b k = record { going = k.going; order = k.order; zeroed = k.zeroed; cleared = k.cleared }

  same_peers : IsKept x → AllBecome x.part x.stamp x.beat.mask (map peer_seen x.partners.list) (λ q c. []) x.partners.list x.partners.list
  same_peers k = all_same x.part x.stamp x.beat.mask x.partners.list (stands x k)

  read_on : (w : ℕ) → CanStep x (Own ReadStamp) → nat_lt w 4294967295 ≡ true → IsStepped x (Own ReadStamp) (Word w) (record x { boot = record x.boot { boot = record x.boot.boot { read = Some w } } })
  read_on w h e = goes_on ReadStamp w (record x.boot { boot = record x.boot.boot { read = Some w } }) h refl refl (as_before (record x.boot.boot { read = Some w }) (h.kept.boot l))
      (λ qs. ap (λ (b : Boot). record (state_of x) { boot = b; peers = qs }) (seen_now (λ b. record b { read = Some w }))
      ∙ ap (λ (t : Bool). record (state_of x) { life = if t then life_seen x.life else Halted; boot = record (boot_seen x.life x.boot.boot) { read = Some w }; peers = qs }) (sym e))
      (same_peers h.kept)

  masked_on : (w : ℕ) → CanStep x (Own ZeroMask) → IsStepped x (Own ZeroMask) (Word w) (record x { boot = record x.boot { boot = record x.boot.boot { mask = true } } })
  masked_on w h = goes_on ZeroMask w (record x.boot { boot = record x.boot.boot { mask = true } }) h refl refl (as_before (record x.boot.boot { mask = true }) (h.kept.boot l))
      (λ qs. ap (λ (b : Boot). record (state_of x) { boot = b; peers = qs }) (seen_now (λ b. record b { mask = true })))
      (same_peers h.kept)

  offline_on : (w : ℕ) → CanStep x (Own ZeroOffline) → IsStepped x (Own ZeroOffline) (Word w) (record x { boot = record x.boot { boot = record x.boot.boot { offline = true } } })
  offline_on w h = goes_on ZeroOffline w (record x.boot { boot = record x.boot.boot { offline = true } }) h refl refl (as_before (record x.boot.boot { offline = true }) (h.kept.boot l))
      (λ qs. ap (λ (b : Boot). record (state_of x) { boot = b; peers = qs }) (seen_now (λ b. record b { offline = true })))
      (same_peers h.kept)

-- the rule that is followed is that of the next step
own_is : (m n : OwnRule) → Own m ≡ Own n → m ≡ n
own_is m n e = cc

pub went_on : (x : Keeping) (m : OwnRule) (w : ℕ) (boot : Starting) (answer : Option BootAnswer) → CanStep x (Own m) → x.life ≡ lives.Booting → boot ≡ boot_after x.boot (boot_step x.boot) w → answer ≡ boot_answer x.boot (boot_step x.boot) w → answer ≡ None
    → IsStepped x (Own m) (Word w) (record x { boot = boot })
went_on x m w boot answer h l e a none = by n.step n.comes n.ruled where
  n : Next x (Own m)
  n = next_of x (Own m) h l

  at : (p : BootStep) → boot_step x.boot ≡ Some p → booted_on x.boot p w ≡ boot
  at p f = ap (λ (o : Option BootStep). boot_after x.boot o w) (sym f) ∙ sym e

  answered : (p : BootStep) → boot_step x.boot ≡ Some p → step_answer x.boot p w ≡ None
  answered p f = ap (λ (o : Option BootStep). boot_answer x.boot o w) (sym f) ∙ sym a ∙ none

  moved : (p : OwnRule) (b : Starting) → Own p ≡ Own m → b ≡ boot → (CanStep x (Own p) → IsStepped x (Own p) (Word w) (record x { boot = b })) → IsStepped x (Own m) (Word w) (record x { boot = boot })
  moved p b g f s =
      subst (λ (r : Rule). IsStepped x r (Word w) (record x { boot = boot })) g
      (subst (λ (z : Starting). IsStepped x (Own p) (Word w) (record x { boot = z })) f (s (subst (λ (r : Rule). CanStep x r) (sym g) h)))

  by : (p : BootStep) → boot_step x.boot ≡ Some p → rule_for p ≡ Own m → IsStepped x (Own m) (Word w) (record x { boot = boot })
  by steps.ReadStamp f g =
      let low : nat_lt w 4294967295 ≡ true = halted_not (nat_lt w 4294967295) w (answered steps.ReadStamp f) in
      moved ReadStamp (record x.boot { boot = record x.boot.boot { read = Some w } }) g
      (ap (λ (t : Bool). if t then record x.boot { boot = record x.boot.boot { read = Some w } } else record x.boot { over = true }) (sym low) ∙ at steps.ReadStamp f)
      (λ k. read_on x l w k low)
  by steps.ZeroMask f g = moved ZeroMask (record x.boot { boot = record x.boot.boot { mask = true } }) g (at steps.ZeroMask f) (λ k. masked_on x l w k)
  by steps.ZeroOffline f g = moved ZeroOffline (record x.boot { boot = record x.boot.boot { offline = true } }) g (at steps.ZeroOffline f) (λ k. offline_on x l w k)
  by (steps.ZeroMagic r) f g = absurd (cc)
  by (steps.ClearOldBit r) f g = absurd (cc)
  by steps.WriteStamp f g = let k = answered steps.WriteStamp f in absurd (cc)

-- a stamp that can't be raised
pub went_down : (x : Keeping) (m : OwnRule) (w v : ℕ) (boot : Starting) (answer : Option BootAnswer) → CanStep x (Own m) → x.life ≡ lives.Booting → boot ≡ boot_after x.boot (boot_step x.boot) w → answer ≡ boot_answer x.boot (boot_step x.boot) w → answer ≡ Some (answers.Halted v)
    → IsStepped x (Own m) (Word w) (record x { boot = boot; life = lives.Halted v })
went_down x m w v boot answer h l e a some = by n.step n.comes n.ruled where
  n : Next x (Own m)
  n = next_of x (Own m) h l

  answered : (p : BootStep) → boot_step x.boot ≡ Some p → step_answer x.boot p w ≡ Some (answers.Halted v)
  answered p f = ap (λ (o : Option BootStep). boot_answer x.boot o w) (sym f) ∙ sym a ∙ some

  halted : CanStep x (Own ReadStamp) → nat_lt w 4294967295 ≡ false → IsStepped x (Own ReadStamp) (Word w) (record x { boot = record x.boot { over = true }; life = lives.Halted w })
  halted k f = becomes_stepped x (lives.Halted w) (record x.boot { over = true }) x.stamp x.beat x.clock x.partners (Own ReadStamp) (Word w) k.kept
      (all_same x.part x.stamp x.beat.mask x.partners.list (stands x k.kept))
      (λ qs. ap (λ (b : Boot). record (state_of x) { life = Halted; boot = record b { read = Some w }; peers = qs }) (sym (boot_kept x.life x.boot.boot l))
      ∙ ap (λ (t : Bool). record (state_of x) { life = if t then life_seen x.life else Halted; boot = record (boot_seen x.life x.boot.boot) { read = Some w }; peers = qs }) (sym f))
      refl refl (λ i. absurd (cc)) (no_change x.partners)

  by : (p : BootStep) → boot_step x.boot ≡ Some p → rule_for p ≡ Own m → IsStepped x (Own m) (Word w) (record x { boot = boot; life = lives.Halted v })
  by steps.ReadStamp f g =
      let b = halted_with (nat_lt w 4294967295) w v (answered steps.ReadStamp f) in
      let now : record x.boot { over = true } ≡ boot =
      ap (λ (t : Bool). if t then record x.boot { boot = record x.boot.boot { read = Some w } } else record x.boot { over = true }) (sym b.0)
      ∙ ap (λ (o : Option BootStep). boot_after x.boot o w) (sym f) ∙ sym e in
      subst (λ (r : Rule). IsStepped x r (Word w) (record x { boot = boot; life = lives.Halted v })) g
      (subst (λ (z : Starting). IsStepped x (Own ReadStamp) (Word w) (record x { boot = z; life = lives.Halted v })) now
      (subst (λ (u : ℕ). IsStepped x (Own ReadStamp) (Word w) (record x { boot = record x.boot { over = true }; life = lives.Halted u })) b.1
      (halted (subst (λ (r : Rule). CanStep x r) (sym g) h) b.0)))
  by steps.ZeroMask f g = let k = answered steps.ZeroMask f in absurd (cc)
  by steps.ZeroOffline f g = let k = answered steps.ZeroOffline f in absurd (cc)
  by (steps.ZeroMagic r) f g = absurd (cc)
  by (steps.ClearOldBit r) f g = absurd (cc)
  by steps.WriteStamp f g = let k = answered steps.WriteStamp f in absurd (booted_not _ v k) where
    booted_not : (s v : ℕ) → Some (answers.Booted s) ≡ Some (answers.Halted v) → ⊥
    booted_not s v k = cc

-- the boot is over
pub went_up : (x : Keeping) (m : OwnRule) (w stamp : ℕ) (boot : Starting) (answer : Option BootAnswer) (ps : Partners) → CanStep x (Own m) → x.life ≡ lives.Booting → boot ≡ first_start x.part.part x.part.count → answer ≡ boot_answer x.boot (boot_step x.boot) w → answer ≡ Some (answers.Booted stamp)
    → AreTold (Stamp stamp) x.partners ps → IsStepped x (Own m) (Word w) (record x { life = lives.Up; boot = boot; stamp = stamp; partners = ps })
went_up x m w stamp boot answer ps h l e a some told = by n.step n.comes n.ruled where
  n : Next x (Own m)
  n = next_of x (Own m) h l

  answered : (p : BootStep) → boot_step x.boot ≡ Some p → step_answer x.boot p w ≡ Some (answers.Booted stamp)
  answered p f = ap (λ (o : Option BootStep). boot_answer x.boot o w) (sym f) ∙ sym a ∙ some

  stamp_is : (s : ℕ) → Some (answers.Booted s) ≡ Some (answers.Booted stamp) → s ≡ stamp
  stamp_is s k = cc

  up : CanStep x (Own WriteStamp) → or_zero x.boot.boot.read + 1 ≡ stamp → IsStepped x (Own WriteStamp) (Word w) (record x { life = lives.Up; boot = first_start x.part.part x.part.count; stamp = stamp; partners = ps })
  up k s = becomes_stepped x lives.Up (first_start x.part.part x.part.count) stamp x.beat x.clock ps (Own WriteStamp) (Word w) k.kept
      (all_told x.part x.stamp x.beat.mask (Stamp stamp) x.partners ps (stands x k.kept) told)
      (λ qs. ap (λ (i : ℕ). record (state_of x) { life = Up; boot = no_boot; stamp = i; peers = qs })
      (sym s ∙ ap (λ (b : Boot). or_zero b.read + 1) (sym (boot_kept x.life x.boot.boot l))))
      (sym k.kept.own) (sym k.kept.partitions) (λ i. absurd (cc)) told.untouched

  by : (p : BootStep) → boot_step x.boot ≡ Some p → rule_for p ≡ Own m → IsStepped x (Own m) (Word w) (record x { life = lives.Up; boot = boot; stamp = stamp; partners = ps })
  by steps.ReadStamp f g = absurd (halted_only (nat_lt w 4294967295) w stamp (answered steps.ReadStamp f))
  by steps.ZeroMask f g = let k = answered steps.ZeroMask f in absurd (cc)
  by steps.ZeroOffline f g = let k = answered steps.ZeroOffline f in absurd (cc)
  by (steps.ZeroMagic r) f g = absurd (cc)
  by (steps.ClearOldBit r) f g = absurd (cc)
  by steps.WriteStamp f g =
      subst (λ (r : Rule). IsStepped x r (Word w) (record x { life = lives.Up; boot = boot; stamp = stamp; partners = ps })) g
      (subst (λ (z : Starting). IsStepped x (Own WriteStamp) (Word w) (record x { life = lives.Up; boot = z; stamp = stamp; partners = ps })) (sym e)
      (up (subst (λ (r : Rule). CanStep x r) (sym g) h) (stamp_is (or_zero x.boot.boot.read + 1) (answered steps.WriteStamp f))))

pub own_low : (x : Keeping) (rule : Rule) → CanStep x rule → x.part.part < x.part.count
own_low x rule h = h.kept.lawful.part

pub count_low : (x : Keeping) (rule : Rule) → CanStep x rule → x.part.count ≤ PARTS
count_low x rule h = h.kept.lawful.count

pub ruleset going = (went_on, went_down, went_up, step_comes, own_low, count_low, few_partners, known_partners)
