-- What a lawful part says of each of its links, and of each command of a boot's script.
use Rattle.std.proofs.Common.{◌≡◌, ℕ, zero, suc, ◌-◌, List, [], ◌∷◌, get_or, subst, Some}
use Rattle.std.specs.List.{slice_get, AllByRecursion}
use Rattle.xp_script.specs.declared.command.Command.{Command}
use Rattle.xp_script.specs.declared.part.Link.{Link}
use Rattle.xp_script.specs.declared.part.ScenarioPart.{ScenarioPart}
use Rattle.xp_protocol.specs.Parts.{script_in, IsLawfulLink, AreLawfulLinks, IsLawfulCommand, AreLawfulCommands, IsLawfulPart}

pub lawful_link : (s : ScenarioPart) (ls : List Link) (i : ℕ) (l : Link) → AreLawfulLinks s ls → slice_get ls i ≡ Some l → IsLawfulLink s l
lawful_link s [] i l h e = absurd (cc)
lawful_link s (x ∷ ls) zero l h e = let d : x ≡ l = cc in subst (λ (y : Link). IsLawfulLink s y) d h.0
lawful_link s (x ∷ ls) (suc i) l h e = lawful_link s ls i l h.1 e

lawful_listed : (s : ScenarioPart) (xs : List Command) (i : ℕ) (x : Command) → AreLawfulCommands s xs → slice_get xs i ≡ Some x → IsLawfulCommand s x
lawful_listed s [] i x h e = absurd (cc)
lawful_listed s (y ∷ ys) zero x h e = let d : y ≡ x = cc in subst (λ (z : Command). IsLawfulCommand s z) d h.0
lawful_listed s (y ∷ ys) (suc i) x h e = lawful_listed s ys i x h.1 e

lawful_script : (s : ScenarioPart) (boots : List (List Command)) (i : ℕ) → AllByRecursion (AreLawfulCommands s) boots → AreLawfulCommands s (get_or boots i [])
lawful_script s [] zero h = tt
lawful_script s [] (suc i) h = tt
lawful_script s (xs ∷ more) zero h = h.0
lawful_script s (xs ∷ more) (suc i) h = lawful_script s more i h.1

pub lawful_command : (s : ScenarioPart) (boot i : ℕ) (x : Command) → IsLawfulPart s → slice_get (script_in s boot) i ≡ Some x → IsLawfulCommand s x
lawful_command s boot i x l e = lawful_listed s (script_in s boot) i x (lawful_script s s.scripts (boot - 1) l.scripts) e
