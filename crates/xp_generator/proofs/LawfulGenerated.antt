-- The scenario of a number is lawful.
use Rattle.std.proofs.Common.{◌≡◌, ◌≢◌, ℕ, zero, suc, ◌+◌, ◌-◌, ◌*◌, ◌/◌, ◌%◌, ◌<◌, ◌≤◌, ◌^◌, Bool, true, false, cond, eqb, inl, inr, List, [], ◌∷◌, ◌++◌, length, get_or, refl, sym, ap, subst, ◌∙◌, arith, lit<, lit≤}
use Rattle.std.specs.Prelude.{replicate, slice_index, Result, Ok, Err, IfOk}
use Rattle.std.specs.List.{sum_by, AllByRecursion}
use Rattle.std.proofs.lemmas.Bool.{cases_eq, eqb-true}
use Rattle.std.proofs.lemmas.Bool.Decides.{nat_tests}
use Rattle.std.proofs.lemmas.List.{length-append, length-replicate}
use Rattle.std.proofs.lemmas.List.Sums.{sum_by-append}
use Rattle.xp_base.specs.declared.body.TheConstants.{LINE_BYTES}
use Rattle.xp_script.specs.declared.limits.TheConstants.{COMMAND_LIMIT, PAYLOAD_BYTES_LIMIT, TURN_LIMIT}
use Rattle.xp_script.specs.declared.command.Command.{Command}
use Rattle.xp_script.specs.declared.command.Command.TheVariants.{Register, Connected, Send, Take, Release, Drain}
use Rattle.xp_script.specs.declared.scenario.Scenario.{Scenario}
use Rattle.xp_script.specs.Sizes.{IsSize}
use Rattle.xp_script.specs.Totals.{command_bytes, script_bytes, boots_bytes, boots_commands, command_count, payload_bytes, turn_count}
use Rattle.xp_script.specs.Lawful.{IsWord, IsEnd, IsMessageEnd, IsLawfulCommand, AreLawfulCommands, AreLawfulBoots, HasLawfulNumbers, HasLawfulSettings, HasLawfulScripts, IsWithinLimits, IsLawful}
use Rattle.xp_generator.specs.declared.generator.TheConstants.{BUDGET, ENTRIES}
use Rattle.xp_generator.specs.Generated.{count_of, messages_of, next_of, previous_of, payload_of, opening, exchange, exchanges, script_between, script_of, scripts_of, generated}

abbrev Boots : Type 0
Boots = List (List Command)

all_append : {X : Type 0} (P : X → Type 0) (xs ys : List X) → AllByRecursion P xs → AllByRecursion P ys → AllByRecursion P (xs ++ ys)
all_append P [] ys h k = k
all_append P (x ∷ xs) ys h k = (h.0, all_append P xs ys h.1 k)

-- ---- the commands of a partition

next_is : (count p : ℕ) → 2 ≤ count → p < count → (next_of count p < count) × (next_of count p ≢ p)
next_is count p low lt = go (eqb (p + 1) count) refl
  where
    go : (b : Bool) → eqb (p + 1) count ≡ b → (cond b 0 (p + 1) < count) × (cond b 0 (p + 1) ≢ p)
    go true e = let h = eqb-true (p + 1) count e in (omega (arith, low), λ x. omega (arith, h, low, x))
    go false e = (grind (arith, nat_tests), λ x. omega (arith, x))

previous_is : (count p : ℕ) → 2 ≤ count → p < count → (previous_of count p < count) × (previous_of count p ≢ p)
previous_is count p low lt = go (eqb p 0) refl
  where
    go : (b : Bool) → eqb p 0 ≡ b → (cond b (count - 1) (p - 1) < count) × (cond b (count - 1) (p - 1) ≢ p)
    go true e = let h = eqb-true p 0 e in (omega (arith, low), λ x. omega (arith, h, low, x))
    go false e = (omega (arith, lt), λ x. absurd (grind (arith, nat_tests)))

record IsRing (count p next previous : ℕ) : Type 0 where
  to : IsEnd count p next 0
  from : IsEnd count p previous 0

ring : (count p : ℕ) → 2 ≤ count → p < count → IsRing count p (next_of count p) (previous_of count p)
ring count p low lt =
    let a = next_is count p low lt in
    let b = previous_is count p low lt in
    record { to = record { partner = a.0; other = a.1; channel = lit< tt }; from = record { partner = b.0; other = b.1; channel = lit< tt } }

size : IsSize LINE_BYTES ENTRIES LINE_BYTES
size = record { some = lit≤ tt; few = lit≤ tt; short = lit≤ tt; room = lit≤ tt }

lawful_opening : (count p next previous : ℕ) → IsEnd count p next 0 → IsEnd count p previous 0 → AreLawfulCommands count p 1 (opening next previous)
lawful_opening count p next previous a b = go (eqb previous next)
  where
    go : (c : Bool) → AreLawfulCommands count p 1 (cond c (Register next 0 ENTRIES LINE_BYTES ∷ Connected next 0 ∷ []) (Register next 0 ENTRIES LINE_BYTES ∷ Register previous 0 ENTRIES LINE_BYTES ∷ Connected next 0 ∷ Connected previous 0 ∷ []))
    go true = ((a, size), (a, tt))
    go false = ((a, size), ((b, size), (a, (b, tt))))

bytes_replicate : (n b : ℕ) → b < 256 → (i : ℕ) → slice_index (replicate n b) i < 2 ^ 8
bytes_replicate zero b h i = lit< tt
bytes_replicate (suc n) b h zero = h
bytes_replicate (suc n) b h (suc i) = bytes_replicate n b h i

payload_short : (n p k : ℕ) → length (payload_of n p k) ≤ LINE_BYTES
payload_short n p k = let h = length-replicate ((n + 7 * k + 13 * p) % 113) ((n + k + 31 * p) % 256) in omega (arith, h)

message : (count p q : ℕ) → IsEnd count p q 0 → IsMessageEnd count p q 0
message count p q e = record { end = e; message = λ x. omega (arith, x) }

lawful_exchanges : (n count p next previous k : ℕ) → k ≤ 190 → IsEnd count p next 0 → IsEnd count p previous 0 → AreLawfulCommands count p 1 (exchanges n p next previous k)
lawful_exchanges n count p next previous zero le a b = tt
lawful_exchanges n count p next previous (suc k) le a b =
    all_append (IsLawfulCommand count p 1) (exchanges n p next previous k) (exchange n p next previous k) (lawful_exchanges n count p next previous k (omega (arith, le)) a b) (
      (message count p next a, (let s = payload_short n p k in omega (arith, s)), bytes_replicate ((n + 7 * k + 13 * p) % 113) ((n + k + 31 * p) % 256) (omega arith)),
      (message count p previous b, ((message count p previous b, omega (arith, le)), tt)),
    )

lawful_script : (n count p : ℕ) → 2 ≤ count → p < count → AreLawfulCommands count p 1 (script_of n count p)
lawful_script n count p low lt =
    let next = next_of count p in
    let previous = previous_of count p in
    let r = ring count p low lt in
    all_append (IsLawfulCommand count p 1) (opening next previous ++ exchanges n p next previous (messages_of n)) (Drain next 0 ∷ [])
    (all_append (IsLawfulCommand count p 1) (opening next previous) (exchanges n p next previous (messages_of n)) (lawful_opening count p next previous r.to r.from) (lawful_exchanges n count p next previous (messages_of n) (omega arith) r.to r.from))
    (r.to, tt)

-- ---- how much there is

opening_length : (next previous : ℕ) → length (opening next previous) ≤ 4
opening_length next previous = go (eqb previous next)
  where
    go : (c : Bool) → length (cond c (Register next 0 ENTRIES LINE_BYTES ∷ Connected next 0 ∷ []) (Register next 0 ENTRIES LINE_BYTES ∷ Register previous 0 ENTRIES LINE_BYTES ∷ Connected next 0 ∷ Connected previous 0 ∷ [])) ≤ 4
    go true = lit≤ tt
    go false = lit≤ tt

exchanges_length : (n p next previous k : ℕ) → length (exchanges n p next previous k) ≡ 3 * k
exchanges_length n p next previous zero = refl
exchanges_length n p next previous (suc k) =
    let h = exchanges_length n p next previous k in
    let a = length-append (exchanges n p next previous k) (exchange n p next previous k) in
    omega (arith, h, a)

script_length : (n count p : ℕ) → length (script_of n count p) ≤ 575
script_length n count p =
    let next = next_of count p in
    let previous = previous_of count p in
    let a = length-append (opening next previous ++ exchanges n p next previous (messages_of n)) (Drain next 0 ∷ []) in
    let b = length-append (opening next previous) (exchanges n p next previous (messages_of n)) in
    let c = exchanges_length n p next previous (messages_of n) in
    let d = opening_length next previous in
    omega (arith, a, b, c, d)

opening_bytes : (next previous : ℕ) → sum_by command_bytes (opening next previous) ≡ 0
opening_bytes next previous = go (eqb previous next)
  where
    go : (c : Bool) → sum_by command_bytes (cond c (Register next 0 ENTRIES LINE_BYTES ∷ Connected next 0 ∷ []) (Register next 0 ENTRIES LINE_BYTES ∷ Register previous 0 ENTRIES LINE_BYTES ∷ Connected next 0 ∷ Connected previous 0 ∷ [])) ≡ 0
    go true = refl
    go false = refl

exchanges_bytes : (n p next previous k : ℕ) → sum_by command_bytes (exchanges n p next previous k) ≤ LINE_BYTES * k
exchanges_bytes n p next previous zero = lit≤ tt
exchanges_bytes n p next previous (suc k) =
    let h = exchanges_bytes n p next previous k in
    let a = sum_by-append command_bytes (exchanges n p next previous k) (exchange n p next previous k) in
    let s = payload_short n p k in
    omega (arith, h, a, s)

script_is_short : (n count p : ℕ) → script_bytes (script_of n count p) ≤ 21280
unfolding script_bytes
script_is_short n count p =
    let next = next_of count p in
    let previous = previous_of count p in
    let a = sum_by-append command_bytes (opening next previous ++ exchanges n p next previous (messages_of n)) (Drain next 0 ∷ []) in
    let b = sum_by-append command_bytes (opening next previous) (exchanges n p next previous (messages_of n)) in
    let c = exchanges_bytes n p next previous (messages_of n) in
    let d = opening_bytes next previous in
    omega (arith, a, b, c, d)

few_commands : (n count m : ℕ) → command_count (scripts_of n count m) ≤ 575 * m
unfolding boots_commands
few_commands n count zero = lit≤ tt
few_commands n count (suc p) =
    let h = few_commands n count p in
    let a = sum_by-append boots_commands (scripts_of n count p) ((script_of n count p ∷ []) ∷ []) in
    let s = script_length n count p in
    omega (arith, h, a, s)

few_bytes : (n count m : ℕ) → payload_bytes (scripts_of n count m) ≤ 21280 * m
unfolding boots_bytes
few_bytes n count zero = lit≤ tt
few_bytes n count (suc p) =
    let h = few_bytes n count p in
    let a = sum_by-append boots_bytes (scripts_of n count p) ((script_of n count p ∷ []) ∷ []) in
    let s = script_is_short n count p in
    omega (arith, h, a, s)

-- ---- the scripts by partition

scripts_length : (n count m : ℕ) → length (scripts_of n count m) ≡ m
scripts_length n count zero = refl
scripts_length n count (suc p) =
    let h = scripts_length n count p in
    let a = length-append (scripts_of n count p) ((script_of n count p ∷ []) ∷ []) in
    omega (arith, h, a)

at_front : (xs : List Boots) (ys : List Boots) (i : ℕ) → i < length xs → get_or (xs ++ ys) i [] ≡ get_or xs i []
at_front [] ys i lt = absurd (omega arith)
at_front (x ∷ xs) ys zero lt = refl
at_front (x ∷ xs) ys (suc i) lt = at_front xs ys i (omega (arith, lt))

at_end : (xs : List Boots) (y : Boots) (i : ℕ) → i ≡ length xs → get_or (xs ++ y ∷ []) i [] ≡ y
at_end [] y zero e = refl
at_end [] y (suc i) e = absurd (omega (arith, e))
at_end (x ∷ xs) y zero e = absurd (omega (arith, e))
at_end (x ∷ xs) y (suc i) e = at_end xs y i (omega (arith, e))

pub script_at : (n count m p : ℕ) → p < m → get_or (scripts_of n count m) p [] ≡ script_of n count p ∷ []
script_at n count zero p lt = absurd (omega arith)
script_at n count (suc m) p lt =
    let len = scripts_length n count m in
    elim (cases_eq p m) [
      | inl e ↦ at_end (scripts_of n count m) (script_of n count m ∷ []) p (omega (arith, e, len)) ∙ ap (λ (q : ℕ). script_of n count q ∷ []) (sym e)
      | inr ne ↦ at_front (scripts_of n count m) ((script_of n count m ∷ []) ∷ []) p (omega (arith, ne, lt, len)) ∙ script_at n count m p (omega (arith, ne, lt))
    ]

-- ---- the whole

pub lawful_generated : (n : ℕ) → IsLawful (generated n)
lawful_generated n =
    let count = count_of n in
    let commands = few_commands n count count in
    let bytes = few_bytes n count count in
    record {
      numbers = record { count = record { low = omega arith; high = omega arith }; budget_low = lit≤ tt; budget_high = lit≤ tt; check = record { low = λ ne. absurd (ne refl); high = lit≤ tt } };
      settings = record {
        minors = record { each = tt; one = λ p lt. lit≤ tt };
        warms = record { each = tt; one = tt };
        faults = tt;
        stops = record { each = tt; one = λ p lt. lit≤ tt };
        restarts = record { each = tt; few = λ p lt. lit≤ tt };
        pokes = tt;
      };
      scripts = record {
        parts = scripts_length n count count;
        boots = λ p lt.
            let at = script_at n count count p lt in
            record {
              commands = subst (AreLawfulBoots count p 1) (sym at) (lawful_script n count p (omega arith) lt, tt);
              few = subst (λ (b : Boots). length b ≤ 64) (sym at) (lit≤ tt);
            };
      };
      plans = (lit< tt, tt);
      limits = record {
        commands = omega (arith, commands);
        bytes = omega (arith, bytes);
        turns = omega arith;
        budgets = omega arith;
        settings = lit≤ tt;
      };
    }

pub told_lawful : {E : Type 0} (n : ℕ) (r : Result Scenario E) → IfOk r (λ s. s ≡ generated n) → IfOk r IsLawful
told_lawful n (Ok s) h = subst IsLawful (sym h) (lawful_generated n)
told_lawful n (Err e) h = tt
