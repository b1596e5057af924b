-- That scenarios of every count from 2 to 64 are lawful, and that at 64 the last partition and the first open connected, in words and in state.
use Rattle.std.proofs.Common.{◌≡◌, ℕ, zero, suc, ◌+◌, ◌-◌, ◌<◌, ◌≤◌, List, [], ◌∷◌, length, replicate, refl, arith, subst, sym, inl, inr, ◌⊎◌, get_or, Some}
use Rattle.std.specs.Prelude.{sum_by}
use Rattle.std.proofs.lemmas.List.Sums.{sum_by_from}
use Rattle.std.proofs.lemmas.Bool.{cases_lt}
use Rattle.std.proofs.lemmas.List.{get_or_past, get_or-replicate, length-replicate}
use Rattle.xp_base.specs.declared.layout.TheConstants.{PARTS, SECOND}
use Rattle.xp_base.specs.declared.link.LinkState.TheVariants.{Connected}
use Rattle.xp_base.specs.Memory.{word_at}
use Rattle.xp_base.specs.Places.{Record, index_of}
use Rattle.xp_base.specs.Rows.{blank}
use Rattle.xp_script.specs.declared.command.Command.{Command}
use Rattle.xp_script.specs.declared.scenario.Scenario.{Scenario}
use Rattle.xp_script.specs.Parts.{part_of, links_from}
use Rattle.xp_script.specs.declared.limits.TheConstants.{SCRIPT_LIMIT}
use Rattle.xp_script.specs.declared.schedule.Plan.TheVariants.{Rounds}
use Rattle.xp_script.specs.declared.setting.Warm.{Warm}
use Rattle.xp_script.specs.Totals.{boots_commands, boots_bytes}
use Rattle.xp_script.specs.Opening.{opening, opened_from}
use Rattle.xp_script.specs.Lawful.{IsLawful, IsLawfulWarm, AreLawfulBoots}
use Rattle.xp_protocol.specs.Runs.{start}
use Rattle.xp_protocol.specs.State.{end_of, link_of, first_peers, idle_links, none_going}

-- no partition has a script
abbrev silent : ℕ → List (List (List Command))
silent n = replicate n []

no_sum : (f : List (List Command) → ℕ) (n : ℕ) → f [] ≡ 0 → sum_by f (silent n) ≡ 0
no_sum f zero e = refl
no_sum f (suc n) e = omega (arith, e, sum_by_from f (0 + f []) (silent n), no_sum f n e)

silent_at : (n p : ℕ) → get_or (silent n) p [] ≡ []
silent_at n p = by (cases_lt p n) where
  by : (p < n) ⊎ (n ≤ p) → get_or (silent n) p [] ≡ []
  by (inl l) = get_or-replicate n p [] [] l
  by (inr l) = get_or_past (silent n) p [] (omega (arith, length-replicate {A = List (List Command)} n [], l))

-- n partitions, the last of which has a line to the first
abbrev line : ℕ → Warm
line n = record { first = 0; second = n - 1; channel = 0; entries = 4; limit = 112 }

abbrev wide : ℕ → Scenario
wide n = record {
  count = n;
  budget = 1000;
  check = 0;
  minors = [];
  warms = line n ∷ [];
  faults = [];
  stops = [];
  restarts = [];
  pokes = [];
  scripts = silent n;
  schedule = Some (Rounds 40000 ∷ []);
}

line_lawful : (n : ℕ) → 2 ≤ n → IsLawfulWarm n [] (line n)
line_lawful n low = record {
  first = omega (arith, low);
  second = omega (arith, low);
  different = λ e. absurd (omega (arith, low, e));
  channel = omega arith;
  first_size = record { some = omega arith; few = omega arith; short = omega arith; room = omega arith };
  second_size = record { some = omega arith; few = omega arith; short = omega arith; room = omega arith };
}

lawful : (n : ℕ) → 2 ≤ n → n ≤ PARTS → IsLawful (wide n)
unfolding boots_commands boots_bytes
lawful n low high = record {
  numbers = record { count = record { low = low; high = high }; budget_low = omega arith; budget_high = omega arith; check = record { low = λ d. absurd (d refl); high = omega arith } };
  settings = record {
    minors = record { each = tt; one = λ p l. omega arith };
    warms = record { each = (line_lawful n low, tt); one = (refl, tt) };
    faults = tt;
    stops = record { each = tt; one = λ p l. omega arith };
    restarts = record { each = tt; few = λ p l. omega arith };
    pokes = tt;
  };
  scripts = record {
    parts = length-replicate {A = List (List Command)} n [];
    boots = λ p l. record {
      commands = subst (λ (xs : List (List Command)). AreLawfulBoots n p 1 xs) (sym (silent_at n p)) tt;
      few = subst (λ (xs : List (List Command)). length xs ≤ SCRIPT_LIMIT) (sym (silent_at n p)) (omega arith);
    };
  };
  plans = (omega arith, tt);
  limits = record {
    commands = omega (arith, no_sum boots_commands n refl);
    bytes = omega (arith, no_sum boots_bytes n refl);
    turns = omega (arith, high);
    budgets = omega (arith, high);
    settings = omega arith;
  };
}

widest : IsLawful (wide PARTS)
widest = lawful PARTS (omega arith) (omega arith)

-- the state and the words are computed
linked : link_of (end_of (start (part_of (wide PARTS) 63)) 0 0) ≡ Connected
unfolding links_from first_peers idle_links none_going
linked = refl

partners : length (start (part_of (wide PARTS) 63)).peers ≡ PARTS
unfolding links_from first_peers idle_links none_going
partners = refl

shown : word_at (opening (wide PARTS)) 63 (index_of (Record 0 0)) ≡ SECOND
unfolding blank opened_from links_from
shown = refl
