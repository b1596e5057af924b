-- Each place is come to: the turns that can pass before are counted down.
use Rattle.std.proofs.Common.{◌≡◌, ℕ, ◌+◌, ◌-◌, ◌*◌, ◌<◌, ◌≤◌, Bool, true, false, ◌&&◌, cond, List, [], ◌∷◌, refl, sym, subst, arith, inl, inr, ◌⊎◌}
use Rattle.std.specs.Prelude.{nat_lt}
use Rattle.std.proofs.lemmas.Bool.Decides.{nat_tests}
use Rattle.xp_rounds.specs.declared.rounds.TheConstants.{VISIT_TURNS}
use Rattle.xp_rounds.specs.Ring.{Ring, IsRing, passed, after_turn, Call, Made, Pass, after_call, turns_in, IsCome, ComesTo}

-- how often the next place is come to before this one is
abbrev pub hops : ℕ → ℕ → ℕ → ℕ
hops k count at = cond (nat_lt at k) (k - at) (count + k - at)

abbrev pub onward : ℕ → ℕ → ℕ
onward count at = cond (nat_lt (at + 1) count) (at + 1) 0

-- how many turns can pass before
abbrev pub left : ℕ → Ring → ℕ
left k r = VISIT_TURNS * hops k r.count r.at - r.made

onward_low : (count at : ℕ) → at < count → onward count at < count
onward_low count at h = grind (arith, nat_tests)

pub some_hops : (k count at : ℕ) → k < count → at < count → 1 ≤ hops k count at
some_hops k count at low h = grind (arith, nat_tests)

few_hops : (k count at : ℕ) → k < count → at < count → hops k count at ≤ count
few_hops k count at low h = grind (arith, nat_tests)

hops_fall : (k count at : ℕ) → k < count → at < count → (onward count at ≡ k) ⊎ (hops k count (onward count at) + 1 ≡ hops k count at)
hops_fall k count at low h = grind (arith, nat_tests)

pub passed_ring : (r : Ring) → IsRing r → IsRing (passed r)
passed_ring r h = record { own = h.own; count = h.count; at = onward_low r.count r.at h.at; made = omega arith }

turned : (r : Ring) (b : Bool) → IsRing r → (b ≡ true → r.made + 1 < VISIT_TURNS) → IsRing (cond b (record r { made = r.made + 1 }) (passed r))
turned r true h f = record { own = h.own; count = h.count; at = h.at; made = f refl }
turned r false h f = passed_ring r h

few_made : (m : Bool) (made : ℕ) → (m && nat_lt (made + 1) VISIT_TURNS) ≡ true → made + 1 < VISIT_TURNS
few_made true made e = grind (arith, nat_tests)
few_made false made e = absurd (cc)

pub turned_ring : (more : Bool) (r : Ring) → IsRing r → IsRing (after_turn more r)
turned_ring more r h = turned r (more && nat_lt (r.made + 1) VISIT_TURNS) h (few_made more r.made)

counted : (r : Ring) (b : Bool) → (cond b (record r { made = r.made + 1 }) (passed r)).count ≡ r.count
counted r true = refl
counted r false = refl

pub turned_count : (more : Bool) (r : Ring) → (after_turn more r).count ≡ r.count
turned_count more r = counted r (more && nat_lt (r.made + 1) VISIT_TURNS)

own_kept : (r : Ring) (b : Bool) → (cond b (record r { made = r.made + 1 }) (passed r)).own ≡ r.own
own_kept r true = refl
own_kept r false = refl

pub turned_own : (more : Bool) (r : Ring) → (after_turn more r).own ≡ r.own
turned_own more r = own_kept r (more && nat_lt (r.made + 1) VISIT_TURNS)

-- a call comes to the place, or leaves fewer turns to pass: one fewer, where it made one
pub record Nearer (k turns : ℕ) (r x : Ring) : Type 0 where
  pub ring : IsRing x
  pub count : x.count ≡ r.count
  pub low : left k x + turns ≤ left k r

pub passes : (k turns : ℕ) (r : Ring) → k < r.count → IsRing r → turns ≤ 1 → IsCome k (passed r) ⊎ Nearer k turns r (passed r)
passes k turns r low h t = by (hops_fall k r.count r.at low h.at) where
  by : (onward r.count r.at ≡ k) ⊎ (hops k r.count (onward r.count r.at) + 1 ≡ hops k r.count r.at) → IsCome k (passed r) ⊎ Nearer k turns r (passed r)
  by (inl e) = inl (e, refl)
  by (inr e) =
      let m = h.made in
      inr (record { ring = record { own = h.own; count = h.count; at = onward_low r.count r.at h.at; made = omega arith }; count = refl; low = omega (arith, e, m, t) })

pub turns_on : (k : ℕ) (more : Bool) (r : Ring) → k < r.count → IsRing r → IsCome k (after_turn more r) ⊎ Nearer k 1 r (after_turn more r)
turns_on k more r low h = by (more && nat_lt (r.made + 1) VISIT_TURNS) (few more) where
  few : (m : Bool) → (m && nat_lt (r.made + 1) VISIT_TURNS) ≡ true → r.made + 1 < VISIT_TURNS
  few true e = grind (arith, nat_tests)
  few false e = absurd (cc)

  by : (b : Bool) → (b ≡ true → r.made + 1 < VISIT_TURNS) → IsCome k (cond b (record r { made = r.made + 1 }) (passed r)) ⊎ Nearer k 1 r (cond b (record r { made = r.made + 1 }) (passed r))
  by false f = passes k 1 r low h (omega arith)
  by true f =
      let m = f refl in
      let s = some_hops k r.count r.at low h.at in
      inr (record { ring = record { own = h.own; count = h.count; at = h.at; made = m }; count = refl; low = omega (arith, m, s) })

calls_on : (k : ℕ) (c : Call) (r : Ring) → k < r.count → IsRing r → IsCome k (after_call c r) ⊎ Nearer k (turns_in (c ∷ [])) r (after_call c r)
calls_on k (Made more) r low h = turns_on k more r low h
calls_on k Pass r low h = passes k 0 r low h (omega arith)

turns_split : (c : Call) (calls : List Call) → turns_in (c ∷ calls) ≡ turns_in (c ∷ []) + turns_in calls
turns_split (Made more) calls = omega arith
turns_split Pass calls = omega arith

come_or : (k : ℕ) (c : Call) (r : Ring) (calls : List Call) → IsCome k (after_call c r) ⊎ Nearer k (turns_in (c ∷ [])) r (after_call c r) → (Nearer k (turns_in (c ∷ [])) r (after_call c r) → ComesTo k (after_call c r) calls) → ComesTo k r (c ∷ calls)
come_or k c r calls (inl come) later = inl come
come_or k c r calls (inr near) later = inr (later near)

pub comes : (k : ℕ) (r : Ring) → k < r.count → IsRing r → (calls : List Call) → left k r ≤ turns_in calls → ComesTo k r calls
comes k r low h [] long = let s = some_hops k r.count r.at low h.at in let m = h.made in absurd (omega (arith, s, m, long))
comes k r low h (c ∷ calls) long = come_or k c r calls (calls_on k c r low h) (λ near.
    let e = turns_split c calls in
    let l = near.low in
    comes k (after_call c r) (subst (λ (n : ℕ). k < n) (sym near.count) low) near.ring calls (omega (arith, e, l, long)))

-- fewer than VISIT_TURNS turns a place
pub left_low : (k : ℕ) (r : Ring) → k < r.count → IsRing r → left k r ≤ VISIT_TURNS * r.count
left_low k r low h = let f = few_hops k r.count r.at low h.at in omega (arith, f)
