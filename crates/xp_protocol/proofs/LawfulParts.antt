-- Each partition's part of a lawful scenario is lawful.
use Rattle.std.proofs.Common.{◌≡◌, ◌≢◌, ℕ, zero, suc, ◌+◌, ◌*◌, ◌<◌, ◌≤◌, Bool, true, false, cond, ◌&&◌, ◌||◌, nat_eq, nat_lt, List, [], ◌∷◌, ◌++◌, length, length-append, refl, arith}
use Rattle.std.specs.List.{AllByRecursion}
use Rattle.std.proofs.lemmas.Bool.Decides.{nat_tests}
use Rattle.xp_base.specs.declared.body.TheConstants.{BODY_BYTES, LINE_BYTES}
use Rattle.xp_base.specs.declared.layout.TheConstants.{CHANNELS, FIRST_MINOR}
use Rattle.xp_script.specs.declared.command.Command.{Command}
use Rattle.xp_script.specs.declared.command.Command.TheVariants as commands
use Rattle.xp_script.specs.declared.part.Link.{Link}
use Rattle.xp_script.specs.declared.part.ScenarioPart.{ScenarioPart}
use Rattle.xp_script.specs.declared.setting.Minor.{Minor}
use Rattle.xp_script.specs.declared.setting.Warm.{Warm}
use Rattle.xp_script.specs.declared.scenario.Scenario.{Scenario}
use Rattle.xp_script.specs.Lawful.{boots_of, IsLawfulWarm, IsLawful, AreLawfulBoots}
use Rattle.xp_script.specs.Lawful.{AreLawfulCommands as AreLawfulWords, IsLawfulCommand as IsLawfulWord, IsEnd}
use Rattle.xp_script.specs.Parts.{link_to, link_in, links_to, links_from, part_of}
use Rattle.xp_script.specs.Settings.{joins, minor_of}
use Rattle.xp_script.specs.Sizes.{IsSize, longest_limit}
use Rattle.xp_protocol.specs.Parts.{IsEndOf, IsRequestSize, IsLawfulLink, AreLawfulLinks, IsLawfulCommand, AreLawfulCommands, IsLawfulPart}

-- a line that joins two partitions makes them peers
peer_by : (p q c count : ℕ) (first second channel : ℕ) → first < count → second < count → (first ≡ second → ⊥) → channel < 4 → ((nat_eq first p && nat_eq second q) || (nat_eq first q && nat_eq second p)) && nat_eq channel c ≡ true → (q < count) × (q ≢ p) × (c < 4)
peer_by p q c count first second channel a b d e h = grind (arith, nat_tests)

-- whatever its minor version, a partition allows no longer payload than an entry carries
longest : (minor : ℕ) → longest_limit minor ≤ BODY_BYTES
longest minor = by (nat_lt FIRST_MINOR minor) where
  by : (b : Bool) → cond b BODY_BYTES LINE_BYTES ≤ BODY_BYTES
  by true = omega arith
  by false = omega arith

pub request_size : (minor entries limit : ℕ) → IsSize (longest_limit minor) entries limit → IsRequestSize entries limit
request_size minor entries limit h = (h.some, h.few, omega (arith, h.short, longest minor), h.room)

lawful_line : (s : ScenarioPart) (minors : List Minor) (q c : ℕ) (w : Warm) → IsLawfulWarm s.count minors w → joins s.part q c w ≡ true → IsLawfulLink s (link_to q c w)
lawful_line s minors q c w l h = (peer_by s.part q c s.count w.first w.second w.channel l.first l.second l.different l.channel h, request_size (minor_of w.first minors) w.entries w.limit l.first_size)

link_or : ℕ → ℕ → Warm → List Link → Bool → List Link
link_or q c w rest b = cond b (link_to q c w ∷ []) rest

lawful_or : (s : ScenarioPart) (minors : List Minor) (q c : ℕ) (w : Warm) (rest : List Link) → IsLawfulWarm s.count minors w → AreLawfulLinks s rest → (b : Bool) → joins s.part q c w ≡ b → AreLawfulLinks s (link_or q c w rest b)
unfolding link_or
lawful_or s minors q c w rest l m true e = (lawful_line s minors q c w l e, tt)
lawful_or s minors q c w rest l m false e = m

-- all lines of a scenario
abbrev pub AreLawfulLines : ℕ → List Minor → List Warm → Type 0
AreLawfulLines count minors ws = AllByRecursion (IsLawfulWarm count minors) ws

lawful_in : (s : ScenarioPart) (minors : List Minor) (q c : ℕ) (ws : List Warm) → AreLawfulLines s.count minors ws → AreLawfulLinks s (link_in s.part q c ws)
unfolding link_or
lawful_in s minors q c [] l = tt
lawful_in s minors q c (w ∷ ws) l = lawful_or s minors q c w (link_in s.part q c ws) l.0 (lawful_in s minors q c ws l.1) (joins s.part q c w) refl

lawful_append : (s : ScenarioPart) (xs ys : List Link) → AreLawfulLinks s xs → AreLawfulLinks s ys → AreLawfulLinks s (xs ++ ys)
lawful_append s [] ys a b = b
lawful_append s (x ∷ xs) ys a b = (a.0, lawful_append s xs ys a.1 b)

lawful_links_to : (s : ScenarioPart) (minors : List Minor) (q c n : ℕ) (ws : List Warm) → AreLawfulLines s.count minors ws → AreLawfulLinks s (links_to s.part q c n ws)
lawful_links_to s minors q c zero ws l = tt
lawful_links_to s minors q c (suc n) ws l =
    lawful_append s (link_in s.part q c ws) (links_to s.part q (c + 1) n ws) (lawful_in s minors q c ws l) (lawful_links_to s minors q (c + 1) n ws l)

lawful_links_from : (s : ScenarioPart) (minors : List Minor) (q n : ℕ) (ws : List Warm) → AreLawfulLines s.count minors ws → AreLawfulLinks s (links_from s.part q n ws)
unfolding links_from
lawful_links_from s minors q zero ws l = tt
lawful_links_from s minors q (suc n) ws l =
    lawful_append s (links_to s.part q 0 CHANNELS ws) (links_from s.part (q + 1) n ws) (lawful_links_to s minors q 0 CHANNELS ws l) (lawful_links_from s minors (q + 1) n ws l)

-- one link at most for a partner and a channel
one_by : (x : Link) (rest : List Link) (b : Bool) → length rest ≤ 1 → length (cond b (x ∷ []) rest) ≤ 1
one_by x rest true h = omega arith
one_by x rest false h = h

one_link : (p q c : ℕ) (ws : List Warm) → length (link_in p q c ws) ≤ 1
one_link p q c [] = omega arith
one_link p q c (w ∷ ws) = one_by _ (link_in p q c ws) (joins p q c w) (one_link p q c ws)

few_to : (p q c n : ℕ) (ws : List Warm) → length (links_to p q c n ws) ≤ n
few_to p q c zero ws = omega arith
few_to p q c (suc n) ws = omega (arith, length-append (link_in p q c ws) (links_to p q (c + 1) n ws), one_link p q c ws, few_to p q (c + 1) n ws)

few_from : (p q n : ℕ) (ws : List Warm) → length (links_from p q n ws) ≤ CHANNELS * n
unfolding links_from
few_from p q zero ws = omega arith
few_from p q (suc n) ws = omega (arith, length-append (links_to p q 0 CHANNELS ws) (links_from p (q + 1) n ws), few_to p q 0 CHANNELS ws, few_from p (q + 1) n ws)

-- a command that names an end names one of a peer
peer : (s : ScenarioPart) (q c : ℕ) → IsEnd s.count s.part q c → IsEndOf s.part s.count q c
peer s q c h = (h.partner, h.other, h.channel)

lawful_one : (s : ScenarioPart) (minor : ℕ) (x : Command) → IsLawfulWord s.count s.part minor x → IsLawfulCommand s x
lawful_one s minor (commands.Register q c entries limit) h = (peer s q c h.0, request_size minor entries limit h.1)
lawful_one s minor (commands.Unregister q c) h = peer s q c h
lawful_one s minor (commands.Connected q c) h = peer s q c h
lawful_one s minor (commands.Closed q c) h = peer s q c h
lawful_one s minor (commands.Send q c payload wait notify) h = (peer s q c h.0.end, h.1, h.2)
lawful_one s minor (commands.Take q c wait) h = peer s q c h.end
lawful_one s minor (commands.Release q c number) h = peer s q c h.0.end
lawful_one s minor (commands.Drain q c) h = peer s q c h
lawful_one s minor (commands.Net frame) h = tt
lawful_one s minor (commands.Frames count) h = tt
lawful_one s minor (commands.Deactivate q) h = tt
lawful_one s minor (commands.Activate q) h = tt
lawful_one s minor commands.Leave h = tt
lawful_one s minor (commands.Idle turns) h = tt
lawful_one s minor commands.Offline h = tt
lawful_one s minor commands.Online h = tt

lawful_all : (s : ScenarioPart) (minor : ℕ) (xs : List Command) → AreLawfulWords s.count s.part minor xs → AreLawfulCommands s xs
lawful_all s minor [] h = tt
lawful_all s minor (x ∷ xs) h = (lawful_one s minor x h.0, lawful_all s minor xs h.1)

lawful_boots : (s : ScenarioPart) (minor : ℕ) (boots : List (List Command)) → AreLawfulBoots s.count s.part minor boots → AllByRecursion (AreLawfulCommands s) boots
lawful_boots s minor [] h = tt
lawful_boots s minor (xs ∷ more) h = (lawful_all s minor xs h.0, lawful_boots s minor more h.1)

pub lawful_part : (s : Scenario) (p : ℕ) → IsLawful s → p < s.count → IsLawfulPart (part_of s p)
lawful_part s p l h = record {
  count = l.numbers.count.high;
  part = h;
  links = lawful_links_from (part_of s p) s.minors 0 s.count s.warms l.settings.warms.each;
  few = few_from p 0 s.count s.warms;
  scripts = lawful_boots (part_of s p) (minor_of p s.minors) (boots_of s p) (l.scripts.boots p h).commands;
}
