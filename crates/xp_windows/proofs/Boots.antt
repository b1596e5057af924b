-- A partition that boots makes a step of its boot in each turn, wherever it is on its rounds, and each
-- of them leaves fewer to be made: so its boot is over long before a window is.
use Rattle.std.proofs.Common.{◌≡◌, ℕ, suc, ◌+◌, ◌*◌, ◌<◌, ◌≤◌, Bool, true, false, cond, List, [], ◌∷◌, length, refl, ap, sym, ◌∙◌, subst, arith, inl, inr, ◌⊎◌, Option, Some, None}
use Rattle.std.specs.Prelude.{is_some, not, nat_eq, nat_lt, if◌then◌else◌, slice_set}
use Rattle.std.proofs.lemmas.Bool.Decides.{nat_tests}
use Rattle.xp_base.specs.declared.step.Answer.{Answer}
use Rattle.xp_base.specs.declared.step.Answer.TheVariants.{Word, Failed}
use Rattle.xp_base.specs.declared.step.CopyMark.{CopyMark}
use Rattle.xp_base.specs.History.{Act, Marked, Turn}
use Rattle.xp_script.specs.declared.part.ScenarioPart.{ScenarioPart}
use Rattle.xp_rounds.specs.declared.rounds.TheConstants.{VISIT_TURNS}
use Rattle.xp_rounds.specs.Ring.{IsRing, passed, place_at}
use Rattle.xp_rounds.specs.Visit.{Visit, Found, pick, planned, planned_here, seek, seek_anew, seek_on}
use Rattle.xp_protocol.specs.declared.rule.PeerRule.{PeerRule}
use Rattle.xp_protocol.specs.declared.rule.PeerRule.TheVariants.{ZeroMagic, ClearOldBit}
use Rattle.xp_protocol.specs.declared.rule.OwnRule.TheVariants.{ReadStamp, ZeroMask, ZeroOffline, WriteStamp}
use Rattle.xp_protocol.specs.declared.rule.Rule.{Rule}
use Rattle.xp_protocol.specs.declared.rule.Rule.TheVariants.{Peer as ForPeer, Own}
use Rattle.xp_protocol.specs.Parts.{fails_at}
use Rattle.xp_protocol.specs.State.{State, Engage, Peer, Life, Booting, Up, peer_at}
use Rattle.xp_protocol.specs.Peering.{with_reason}
use Rattle.xp_protocol.specs.Rules.{after_answer, mark_of}
use Rattle.xp_protocol.specs.Acts.{after_acts, MayActs}
use Rattle.xp_protocol.specs.Runs.{May, MayMake, RunsFrom, after_ruled, after_step, after_turn, acted, turn_counted, is_failed}
use Rattle.xp_plan.specs.declared.errand.Errand.{Errand}
use Rattle.xp_plan.specs.declared.errand.Errand.TheVariants as errands
use Rattle.xp_plan.specs.EndSteps.{step_if, or_else}
use Rattle.xp_plan.specs.PeerSteps.{clear_old, for_peer, boot_peers, boot_own, boot_after_read, boot_at}
use Rattle.xp_plan.specs.Plan.{asked, ask_by, errands_of, agenda_by, plan_of, first_visit}
use Rattle.xp_windows.specs.Windows.{middle, IsBooting}
use Rattle.xp_windows.proofs.Held.{Held}
use Rattle.xp_windows.specs.Visited.{rule_by, rule_made, visit_after, FollowsFrom}
use Rattle.xp_windows.proofs.Places.{first_holds}
use Rattle.xp_windows.proofs.Lives.{acts_life, acted_life, step_booting, on_turn, before_turn}

-- the steps that are left of a boot
abbrev one_left : Bool → ℕ
one_left done = if done then 0 else 1

abbrev peer_left : Engage → ℕ
peer_left x = one_left x.zeroed + one_left x.cleared

abbrev peers_left : ℕ → ℕ → List Peer → ℕ
peers_left part q [] = 0
peers_left part q (p ∷ peers) = (if nat_eq q part then 0 else peer_left p.engage) + peers_left part (q + 1) peers

abbrev pub boot_left : ℕ → State → ℕ
boot_left part st = one_left (is_some st.boot.read) + one_left st.boot.mask + one_left st.boot.offline + peers_left part 0 st.peers + 1

one_few : (b : Bool) → one_left b ≤ 1
one_few true = omega arith
one_few false = omega arith

peers_few : (part q : ℕ) (peers : List Peer) → peers_left part q peers ≤ 2 * length peers
peers_few part q [] = omega arith
peers_few part q (p ∷ peers) = by (nat_eq q part) (peers_few part (q + 1) peers) where
  by : (b : Bool) → peers_left part (q + 1) peers ≤ 2 * length peers → (if b then 0 else peer_left p.engage) + peers_left part (q + 1) peers ≤ 2 * suc (length peers)
  by true l = omega (arith, l)
  by false l = let a = one_few p.engage.zeroed in let b = one_few p.engage.cleared in omega (arith, l, a, b)

pub left_few : (part : ℕ) (st : State) → boot_left part st ≤ 2 * length st.peers + 4
left_few part st =
    let a = one_few (is_some st.boot.read) in
    let b = one_few st.boot.mask in
    let d = one_few st.boot.offline in
    let l = peers_few part 0 st.peers in
    omega (arith, a, b, d, l)

-- a step for a partner does what was left there
abbrev Does : PeerRule → Engage → Engage → Type 0
Does ZeroMagic x y = (x.zeroed ≡ false) × (y.zeroed ≡ true) × (y.cleared ≡ x.cleared)
Does ClearOldBit x y = (x.cleared ≡ false) × (y.cleared ≡ true) × (y.zeroed ≡ x.zeroed)
Does m x y = ⊥

does_less : (m : PeerRule) (x y : Engage) → Does m x y → peer_left y < peer_left x
does_less ZeroMagic x y h = by x.zeroed y.zeroed x.cleared y.cleared h.0 h.1 h.2 where
  by : (a b c d : Bool) → a ≡ false → b ≡ true → d ≡ c → one_left b + one_left d < one_left a + one_left c
  by false true c d e f g = subst (λ (z : Bool). one_left true + one_left z < one_left false + one_left c) (sym g) (omega arith)
  by true b c d e f g = absurd (cc)
  by false false c d e f g = absurd (cc)
does_less ClearOldBit x y h = by x.zeroed y.zeroed x.cleared y.cleared h.0 h.1 h.2 where
  by : (a b c d : Bool) → c ≡ false → d ≡ true → b ≡ a → one_left b + one_left d < one_left a + one_left c
  by a b false true e f g = subst (λ (z : Bool). one_left z + one_left true < one_left a + one_left false) (sym g) (omega arith)
  by a b true d e f g = absurd (cc)
  by a b false false e f g = absurd (cc)
does_less m x y h = absurd (h)

-- which partner comes next
record Next (part q : ℕ) (peers : List Peer) (r : Rule) : Type 0 where
  number : ℕ
  low : number < length peers
  rule : PeerRule
  is : r ≡ ForPeer (q + number) rule
  less : (x : Peer) → Does rule (peer_at peers number).engage x.engage → peers_left part q (slice_set peers number x) < peers_left part q peers
  sort : (rule ≡ ZeroMagic) ⊎ (rule ≡ ClearOldBit)
  due : (x : Engage) → (rule ≡ ZeroMagic → x ≡ record (peer_at peers number).engage { zeroed = true }) → (rule ≡ ClearOldBit → x ≡ record (peer_at peers number).engage { cleared = true }) → Does rule (peer_at peers number).engage x

clears : (x : Engage) (m : PeerRule) → clear_old x ≡ Some m → ((m ≡ ZeroMagic) × (x.zeroed ≡ false)) ⊎ ((m ≡ ClearOldBit) × (x.cleared ≡ false))
clears x m e = by x.zeroed x.cleared refl refl e where
  by : (a b : Bool) → x.zeroed ≡ a → x.cleared ≡ b → (if not a then Some ZeroMagic else step_if (not b) ClearOldBit) ≡ Some m → ((m ≡ ZeroMagic) × (x.zeroed ≡ false)) ⊎ ((m ≡ ClearOldBit) × (x.cleared ≡ false))
  by false b f g h = inl (cc, f)
  by true false f g h = inr (cc, g)
  by true true f g h = absurd (cc)

first_next : (part q : ℕ) (p : Peer) (peers : List Peer) (m : PeerRule) → nat_eq q part ≡ false → ((m ≡ ZeroMagic) × (p.engage.zeroed ≡ false)) ⊎ ((m ≡ ClearOldBit) × (p.engage.cleared ≡ false)) → Next part q (p ∷ peers) (ForPeer q m)
first_next part q p peers m other c = record {
  number = 0;
  low = omega arith;
  rule = m;
  is = let e : q ≡ q + 0 = omega arith in ap (λ (j : ℕ). ForPeer j m) e;
  less = λ x d. let l = does_less m p.engage x.engage d in subst (λ (b : Bool). (if b then 0 else peer_left x.engage) + peers_left part (q + 1) peers < (if b then 0 else peer_left p.engage) + peers_left part (q + 1) peers) (sym other) (omega (arith, l));
  sort = sorts c;
  due = λ x f g. does c x f g;
}
  where
    sorts : ((m ≡ ZeroMagic) × (p.engage.zeroed ≡ false)) ⊎ ((m ≡ ClearOldBit) × (p.engage.cleared ≡ false)) → (m ≡ ZeroMagic) ⊎ (m ≡ ClearOldBit)
    sorts (inl y) = inl y.0
    sorts (inr y) = inr y.0

    does : ((m ≡ ZeroMagic) × (p.engage.zeroed ≡ false)) ⊎ ((m ≡ ClearOldBit) × (p.engage.cleared ≡ false)) → (x : Engage) → (m ≡ ZeroMagic → x ≡ record p.engage { zeroed = true }) → (m ≡ ClearOldBit → x ≡ record p.engage { cleared = true }) → Does m p.engage x
    does (inl y) x f g = subst (λ (n : PeerRule). Does n p.engage x) (sym y.0) (subst (λ (z : Engage). Does ZeroMagic p.engage z) (sym (f y.0)) (y.1, refl, refl))
    does (inr y) x f g = subst (λ (n : PeerRule). Does n p.engage x) (sym y.0) (subst (λ (z : Engage). Does ClearOldBit p.engage z) (sym (g y.0)) (y.1, refl, refl))

later_next : (part q : ℕ) (p : Peer) (peers : List Peer) (r : Rule) → Next part (q + 1) peers r → Next part q (p ∷ peers) r
later_next part q p peers r n = record {
  number = suc n.number;
  low = let l = n.low in omega (arith, l);
  rule = n.rule;
  is = n.is ∙ (let e : q + 1 + n.number ≡ q + suc n.number = omega arith in ap (λ (j : ℕ). ForPeer j n.rule) e);
  less = λ x d. let l = n.less x d in omega (arith, l);
  sort = n.sort;
  due = n.due;
}

-- the peers are cleared, or one comes next
peers_next : (part q : ℕ) (peers : List Peer) (r : Rule) → boot_peers part q peers ≡ Some r → Next part q peers r
peers_next part q [] r e = absurd (cc)
peers_next part q (p ∷ peers) r e = by (nat_eq q part) (clear_old p.engage) refl refl (λ f. peers_next part (q + 1) peers r f) e where
  by : (b : Bool) (o : Option PeerRule) → nat_eq q part ≡ b → clear_old p.engage ≡ o → (boot_peers part (q + 1) peers ≡ Some r → Next part (q + 1) peers r) → or_else (if b then None else for_peer q o) (boot_peers part (q + 1) peers) ≡ Some r → Next part q (p ∷ peers) r
  by true o f g rest h = later_next part q p peers r (rest h)
  by false None f g rest h = later_next part q p peers r (rest h)
  by false (Some m) f g rest h = subst (λ (x : Rule). Next part q (p ∷ peers) x) (let i : ForPeer q m ≡ r = cc in i) (first_next part q p peers m f (clears p.engage m g))

-- a step of a boot ends it, or leaves fewer
abbrev pub Ends : ℕ → State → State → Type 0
Ends part st x = (x.life ≡ Booting → ⊥) ⊎ (boot_left part x < boot_left part st)

module _ (s : ScenarioPart) (st : State) where
  abbrev pub Makes : Rule → Type 0
  Makes r = (mark_of s st r ≡ None) × ((w : ℕ) → Ends s.part st (after_answer s st r (Word w)))

  none_one : (o : Option ℕ) → is_some o ≡ false → one_left (is_some o) ≡ 1
  none_one None e = refl
  none_one (Some x) e = absurd (cc)

  lefts : (b : Bool) → b ≡ false → one_left b ≡ 1
  lefts false e = refl
  lefts true e = absurd (cc)

  own_makes : (a b : Bool) (later : Option Rule) (r : Rule) → st.boot.mask ≡ a → st.boot.offline ≡ b → or_else (boot_own a b) later ≡ Some r → Makes r ⊎ (later ≡ Some r)
  own_makes false b later r e f h = inl (subst Makes (let i : Own ZeroMask ≡ r = cc in i) (refl, λ w. inr (let l = lefts st.boot.mask e in omega (arith, l))))
  own_makes true false later r e f h = inl (subst Makes (let i : Own ZeroOffline ≡ r = cc in i) (refl, λ w. inr (let l = lefts st.boot.offline f in omega (arith, l))))
  own_makes true true later r e f h = inr h

  peer_makes : (r : Rule) → Next s.part 0 st.peers r → Makes r
  peer_makes r n = subst Makes (sym (n.is ∙ (let e : 0 + n.number ≡ n.number = omega arith in ap (λ (j : ℕ). ForPeer j n.rule) e))) (by n.sort) where
    less_by : (m : PeerRule) (x : Peer) → n.rule ≡ m → Does m (peer_at st.peers n.number).engage x.engage → peers_left s.part 0 (slice_set st.peers n.number x) < peers_left s.part 0 st.peers
    less_by m x e d = n.less x (subst (λ (y : PeerRule). Does y (peer_at st.peers n.number).engage x.engage) (sym e) d)

    magic : n.rule ≡ ZeroMagic → (w : ℕ) → Ends s.part st (after_answer s st (ForPeer n.number ZeroMagic) (Word w))
    magic e w =
        let d = subst (λ (m : PeerRule). Does m (peer_at st.peers n.number).engage (record (peer_at st.peers n.number).engage { zeroed = true })) e (n.due (record (peer_at st.peers n.number).engage { zeroed = true }) (λ f. refl) (λ f. absurd (let g : ZeroMagic ≡ ClearOldBit = sym e ∙ f in cc))) in
        let l = less_by ZeroMagic (with_reason None (record (peer_at st.peers n.number) { engage = record (peer_at st.peers n.number).engage { zeroed = true } })) e (d.0, refl, refl) in
        inr (omega (arith, l))

    bit : n.rule ≡ ClearOldBit → (w : ℕ) → Ends s.part st (after_answer s st (ForPeer n.number ClearOldBit) (Word w))
    bit e w =
        let d = subst (λ (m : PeerRule). Does m (peer_at st.peers n.number).engage (record (peer_at st.peers n.number).engage { cleared = true })) e (n.due (record (peer_at st.peers n.number).engage { cleared = true }) (λ f. absurd (let g : ClearOldBit ≡ ZeroMagic = sym e ∙ f in cc)) (λ f. refl)) in
        let l = less_by ClearOldBit (with_reason None (record (peer_at st.peers n.number) { engage = record (peer_at st.peers n.number).engage { cleared = true } })) e (d.0, refl, refl) in
        inr (omega (arith, l))

    by : (n.rule ≡ ZeroMagic) ⊎ (n.rule ≡ ClearOldBit) → Makes (ForPeer n.number n.rule)
    by (inl e) = subst (λ (m : PeerRule). Makes (ForPeer n.number m)) (sym e) (refl, λ w. magic e w)
    by (inr e) = subst (λ (m : PeerRule). Makes (ForPeer n.number m)) (sym e) (refl, λ w. bit e w)

  -- the step of a boot, whatever is left of it
  pub record Booted : Type 0 where
    pub rule : Rule
    pub is : boot_at s.part st ≡ Some rule
    pub makes : Makes rule

  no_booting : Up ≡ Booting → ⊥
  no_booting e = cc

  last_makes : Makes (Own WriteStamp)
  last_makes = (refl, λ w. inl no_booting)

  after_read : is_some st.boot.read ≡ true → (o : Option Rule) → boot_peers s.part 0 st.peers ≡ o → Booted
  after_read e o f = by (or_else (boot_own st.boot.mask st.boot.offline) (or_else o (Some (Own WriteStamp)))) refl where
    there : boot_at s.part st ≡ or_else (boot_own st.boot.mask st.boot.offline) (or_else o (Some (Own WriteStamp)))
    there = ap (λ (b : Bool). if b then boot_after_read s.part st else Some (Own ReadStamp)) e ∙ ap (λ (y : Option Rule). or_else (boot_own st.boot.mask st.boot.offline) (or_else y (Some (Own WriteStamp)))) f

    rest : (y : Option Rule) (r : Rule) → boot_peers s.part 0 st.peers ≡ y → or_else y (Some (Own WriteStamp)) ≡ Some r → Makes r
    rest None r g h = subst Makes (let i : Own WriteStamp ≡ r = cc in i) last_makes
    rest (Some x) r g h = subst Makes (let i : x ≡ r = cc in i) (peer_makes x (peers_next s.part 0 st.peers x g))

    makes : (r : Rule) → or_else (boot_own st.boot.mask st.boot.offline) (or_else o (Some (Own WriteStamp))) ≡ Some r → Makes r
    makes r h = or (own_makes st.boot.mask st.boot.offline (or_else o (Some (Own WriteStamp))) r refl refl h) where
      or : Makes r ⊎ (or_else o (Some (Own WriteStamp)) ≡ Some r) → Makes r
      or (inl m) = m
      or (inr g) = rest o r f g

    never : (a b : Bool) (y : Option Rule) → or_else (boot_own a b) (or_else y (Some (Own WriteStamp))) ≡ None → ⊥
    never false b y h = cc
    never true false y h = cc
    never true true None h = cc
    never true true (Some x) h = cc

    by : (y : Option Rule) → or_else (boot_own st.boot.mask st.boot.offline) (or_else o (Some (Own WriteStamp))) ≡ y → Booted
    by None h = absurd (never st.boot.mask st.boot.offline o h)
    by (Some r) h = record { rule = r; is = there ∙ h; makes = makes r h }

  boots_by : (b : Bool) → is_some st.boot.read ≡ b → Booted
  boots_by true e = after_read e (boot_peers s.part 0 st.peers) refl
  boots_by false e = record { rule = Own ReadStamp; is = ap (λ (b : Bool). if b then boot_after_read s.part st else Some (Own ReadStamp)) e; makes = (refl, λ w. inr (let l = none_one st.boot.read e in omega (arith, l))) }

  pub boots : Booted
  boots = boots_by (is_some st.boot.read) refl

-- where a partition that boots is on its rounds: at a place that was come to just now, or at its boot
abbrev pub AtBoot : Visit Errand → Type 0
AtBoot v = (v.ring.made ≡ 0) ⊎ ((v.rest ≡ errands.Boot ∷ []) × (v.used ≡ v.ring.made))

module _ (s : ScenarioPart) (v : Visit Errand) (st : State) (ring : IsRing v.ring) (life : st.life ≡ Booting) where
  asks_boot : (used : ℕ) → (plan_of s).ask v.ring.at errands.Boot used st ≡ asked (boot_at s.part st)
  asks_boot used = ap (λ (l : Life). asked (ask_by l s (place_at s.part v.ring.at) errands.Boot used st)) life

  lists_boot : (plan_of s).errands v.ring.at st ≡ errands.Boot ∷ []
  lists_boot = ap (λ (l : Life). errands_of (agenda_by l (place_at s.part v.ring.at) st)) life

  less : (a b : ℕ) → a < b → nat_lt a b ≡ true
  less a b h = grind (arith, nat_tests)

  zero_is : (a : ℕ) → a ≡ 0 → nat_eq a 0 ≡ true
  zero_is a h = grind (arith, nat_tests)

  found_at : (used : ℕ) (r : Rule) → used < VISIT_TURNS → boot_at s.part st ≡ Some r → seek (plan_of s) v.ring.at st (errands.Boot ∷ []) used ≡ record { rest = errands.Boot ∷ []; used = used; turn = Some (Some r) }
  found_at used r few e =
      ap (λ (b : Bool). pick b ((plan_of s).ask v.ring.at errands.Boot used st) (errands.Boot ∷ []) used (seek (plan_of s) v.ring.at st [] 0)) (less used VISIT_TURNS few)
      ∙ ap (λ (o : Option (Option Rule)). pick true o (errands.Boot ∷ []) used (seek (plan_of s) v.ring.at st [] 0)) (asks_boot used ∙ ap asked e)

  made_by : (a : ℕ) → (b : Bool) → nat_eq v.ring.made 0 ≡ b → AtBoot v → (r : Rule) → boot_at s.part st ≡ Some r → (u : ℕ) × (u ≡ v.ring.made) × (seek_on (plan_of s) v st ≡ record { rest = errands.Boot ∷ []; used = u; turn = Some (Some r) })
  made_by a true f h r e =
      let z : v.ring.made ≡ 0 = grind (arith, nat_tests) in (
        0,
        sym z,
        ap (λ (b : Bool). cond b (seek_anew (plan_of s) v.ring st) (seek (plan_of s) v.ring.at st v.rest v.used)) f
            ∙ ap (λ (es : List Errand). seek (plan_of s) v.ring.at st es 0) lists_boot ∙ found_at 0 r (omega arith) e,
      )
  made_by a false f (inl z) r e = absurd (let g = zero_is v.ring.made z in cc)
  made_by a false f (inr y) r e =
      let m = ring.made in
      let u = y.1 in (
        v.used,
        y.1,
        ap (λ (b : Bool). cond b (seek_anew (plan_of s) v.ring st) (seek (plan_of s) v.ring.at st v.rest v.used)) f
            ∙ ap (λ (es : List Errand). seek (plan_of s) v.ring.at st es v.used) y.0 ∙ found_at v.used r (omega (arith, m, u)) e,
      )

  spent_boot : (u : ℕ) (r : Rule) (b : Bool) → u ≡ v.ring.made → AtBoot (record { ring = if b then record v.ring { made = v.ring.made + 1 } else passed v.ring; rest = errands.Boot ∷ []; used = u + 1 })
  spent_boot u r true e = inr (refl, ap (λ (j : ℕ). j + 1) e)
  spent_boot u r false e = inl refl

  -- the planned step is that of the boot
  pub boots_on : AtBoot v → (r : Rule) → boot_at s.part st ≡ Some r → ((planned (plan_of s) v st).rule ≡ Some r) × AtBoot (planned (plan_of s) v st).visit
  boots_on h r e =
      let y = made_by 0 (nat_eq v.ring.made 0) refl h r e in
      let G : Found Errand Rule → Type 0 = λ f. ((planned_here (plan_of s) v.ring st f f.turn).rule ≡ Some r) × AtBoot (planned_here (plan_of s) v.ring st f f.turn).visit in
      subst G (sym y.2) (refl, spent_boot y.0 r (nat_lt (v.ring.made + 1) VISIT_TURNS) y.1)

-- no act comes in a boot
pub none_acts : (s : ScenarioPart) (st : State) (list : List Act) → st.life ≡ Booting → MayActs s st list → list ≡ []
none_acts s st [] e may = refl
none_acts s st (a ∷ more) e may = absurd (let f : Booting ≡ Up = sym e ∙ may.0.0 in cc)

-- where the partition boots after a turn, it booted before it or begins to
pub boot_kept : (s : ScenarioPart) (v : Visit Errand) (st : State) (t : Turn) → IsRing v.ring → (st.life ≡ Booting → AtBoot v) → (after_turn s st t).life ≡ Booting → AtBoot (visit_after s v st t)
boot_kept s v st t ring h e = by (nat_eq (after_turn s st t).clock.boots st.clock.boots) refl where
  was : (after_turn s st t).clock.boots ≡ st.clock.boots → (middle s st t).life ≡ Booting
  was same = step_booting s (middle s st t) t.made (sym (acted_life s st t) ∙ before_turn s st t same (λ (x : State). x.life ≡ Booting) (λ x i. i) e)

  here : (middle s st t).life ≡ Booting → AtBoot (planned (plan_of s) v (middle s st t)).visit
  here i = let y = boots s (middle s st t) in (boots_on s v (middle s st t) ring i (h (sym (acts_life s st t.before) ∙ i)) y.rule y.is).1

  by : (b : Bool) → nat_eq (after_turn s st t).clock.boots st.clock.boots ≡ b → AtBoot (if b then (planned (plan_of s) v (middle s st t)).visit else first_visit s)
  by true f = here (was (grind (arith, nat_tests)))
  by false f = inl refl

-- a turn of a boot leaves fewer steps of it
module _ (s : ScenarioPart) (v : Visit Errand) (st : State) (t : Turn) (boot : ℕ) (ring : IsRing v.ring) (at : AtBoot v) (may : May s st t) (now : IsBooting boot st) (later : IsBooting boot (after_turn s st t)) (follows : rule_made s (middle s st t) t ≡ (planned (plan_of s) v (middle s st t)).rule) where
  same : middle s st t ≡ st
  same = ap (λ (list : List Act). after_acts s st list) (none_acts s st t.before now.booting may.before)

  abbrev Less : State → Type 0
  Less x = x.life ≡ Booting → boot_left s.part x < boot_left s.part st

  less_or : (x : State) → Ends s.part (middle s st t) x → Less x
  less_or x (inl n) e = absurd (n e)
  less_or x (inr l) e = subst (λ (y : State). boot_left s.part x < boot_left s.part y) same l

  stepped : Less (after_step s (middle s st t) t.made)
  stepped = by t.made refl may.made follows where
    life : (middle s st t).life ≡ Booting
    life = acts_life s st t.before ∙ now.booting

    planned_is : (planned (plan_of s) v (middle s st t)).rule ≡ Some (boots s (middle s st t)).rule
    planned_is = let y = boots s (middle s st t) in (boots_on s v (middle s st t) ring life at y.rule y.is).0

    same_rule : (a b : Rule) → Some a ≡ Some b → a ≡ b
    same_rule a b f = cc

    answered : (r : Rule) (a : Answer) → Makes s (middle s st t) r → is_failed a ≡ false → Less (after_answer s (middle s st t) r a)
    answered r (Word w) m f = less_or (after_answer s (middle s st t) r (Word w)) (m.1 w)
    answered r Failed m f = absurd (cc)

    by : (o : Option Marked) → t.made ≡ o → MayMake s (middle s st t) o → rule_by s (middle s st t) o ≡ (planned (plan_of s) v (middle s st t)).rule → Less (after_step s (middle s st t) o)
    by None e m f = absurd (let g : None ≡ Some (boots s (middle s st t)).rule = f ∙ planned_is in cc)
    by (Some x) e m f =
        let y = boots s (middle s st t) in
        let i = same_rule m.rule y.rule (sym m.decoded ∙ f ∙ planned_is) in
        let makes = subst (λ (r : Rule). Makes s (middle s st t) r) (sym i) y.makes in
        let fine = m.fails ∙ ap (λ (o : Option CopyMark). fails_at s o) (m.mark ∙ makes.0) in
        subst (λ (o : Option Rule). Less (after_ruled s (middle s st t) o x.step.answer)) (sym m.decoded) (answered m.rule x.step.answer makes fine)

  ends : Less (turn_counted (acted s st t))
  ends e =
      let i : (after_step s (middle s st t) t.made).life ≡ Booting = sym (acted_life s st t) ∙ e in
      let none = none_acts s (after_step s (middle s st t) t.made) t.after i may.after in
      subst (λ (list : List Act). boot_left s.part (after_acts s (after_step s (middle s st t) t.made) list) < boot_left s.part st) (sym none) (stepped i)

  pub boot_on : boot_left s.part (after_turn s st t) < boot_left s.part st
  boot_on =
      let b : (after_turn s st t).clock.boots ≡ st.clock.boots = later.boot ∙ sym now.boot in
      on_turn s st t b Less (λ x h. h) ends later.booting

-- so no window is of a boot throughout
module _ (s : ScenarioPart) (boot : ℕ) where
  -- the visit stays that of the boot
  same_visit : (v : Visit Errand) (st : State) (t : Turn) → IsBooting boot st → IsBooting boot (after_turn s st t) → visit_after s v st t ≡ (planned (plan_of s) v (middle s st t)).visit
  same_visit v st t a b = ap (λ (c : Bool). cond c (planned (plan_of s) v (middle s st t)).visit (first_visit s)) (equal (after_turn s st t).clock.boots st.clock.boots (b.boot ∙ sym a.boot)) where
    equal : (x y : ℕ) → x ≡ y → nat_eq x y ≡ true
    equal x y h = grind (arith, nat_tests)

  pub boot_over : (v : Visit Errand) (st : State) (ts : List Turn) → IsRing v.ring → AtBoot v → ((x : Visit Errand) (y : State) → IsRing x.ring → IsRing (planned (plan_of s) x y).visit.ring) → RunsFrom s st ts → FollowsFrom s v st ts → Held (IsBooting boot) s st ts → length ts < boot_left s.part st
  boot_over v st [] ring at on runs follows up = omega arith
  boot_over v st (t ∷ ts) ring at on runs follows up =
      let later = first_holds (IsBooting boot) s (after_turn s st t) ts up.2 in
      let less = boot_on s v st t boot ring at runs.0 up.0 later follows.0 in
      let same = same_visit v st t up.0 later in
      let y = boots s (middle s st t) in
      let next = subst AtBoot (sym same) (boots_on s v (middle s st t) ring (acts_life s st t.before ∙ up.0.booting) at y.rule y.is).1 in
      let turned = subst (λ (x : Visit Errand). IsRing x.ring) (sym same) (on v (middle s st t) ring) in
      let rest = boot_over (visit_after s v st t) (after_turn s st t) ts turned next on runs.1 follows.1 up.2 in
      omega (arith, less, rest)
