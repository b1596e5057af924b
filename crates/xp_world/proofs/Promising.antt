-- All that is promised of a history holds of one that reaches a world.
use Rattle.std.proofs.Common.{◌≡◌, ℕ, ◌<◌, List, [], ◌∷◌, length, sym, ◌∙◌, subst, arith, Some, slice_get, get_or}
use Rattle.std.proofs.lemmas.Option.{slice_get-get_or}
use Rattle.xp_base.specs.Memory.{Memory}
use Rattle.xp_base.specs.History.{Turn, Event, turns_of}
use Rattle.xp_script.specs.declared.part.ScenarioPart.{ScenarioPart}
use Rattle.xp_script.specs.declared.scenario.Scenario.{Scenario}
use Rattle.xp_script.specs.Lawful.{IsLawful}
use Rattle.xp_script.specs.Parts.{part_of}
use Rattle.xp_protocol.specs.Parts.{IsLawfulPart}
use Rattle.xp_protocol.specs.Runs.{Runs}
use Rattle.xp_protocol.specs.Reached.{ReachedWords}
use Rattle.xp_protocol.proofs.LawfulParts.{lawful_part}
use Rattle.xp_records.specs.Promises.{Promises}
use Rattle.xp_windows.specs.Visited.{Visited}
use Rattle.xp_windows.specs.Windows.{Windows}
use Rattle.xp_node.specs.Node.{NodeView}
use Rattle.xp_world.specs.declared.world.World.{World}
use Rattle.xp_world.specs.World.{IsNodeOf, Reached, Promised, WorldTurns, IsSameWorld, StaysReached, StaysPromised}

-- what the laws say of each history, and of the turns of each partition that follows its plan
abbrev pub KeepPromises : Type 0
KeepPromises = (s : Scenario) → IsLawful s → (h : List Event) (m : Memory) → ReachedWords s h m → Promises s h m

abbrev pub KeepWindows : Type 0
KeepWindows = (s : ScenarioPart) → IsLawfulPart s → (ts : List Turn) → Runs s ts → Visited s ts → Windows s ts

there : {A : Type 0} (xs : List A) (i : ℕ) → i < length xs → (x : A) × (slice_get xs i ≡ Some x)
there [] i low = absurd (omega (arith, low))
there (x ∷ xs) i low = (get_or (x ∷ xs) i x, slice_get-get_or (x ∷ xs) i x low)

visited : (a b : ScenarioPart) (ts : List Turn) → a ≡ b → Visited a ts → Visited b ts
visited a b ts e v = subst (λ (x : ScenarioPart). Visited x ts) e v

pub promised : (promise : KeepPromises) (serve : KeepWindows) (s : Scenario) (h : List Event) (w : World) → IsLawful s → Reached s h w → Promised s h w.words
promised promise serve s h w law r = record {
  promises = promise s law h w.words r.words;
  windows = λ p low.
      (let at = there w.nodes.items p (subst (λ (n : ℕ). p < n) (sym r.count) low) in
      let node = r.nodes p at.0 at.1 in
      serve (part_of s p) (lawful_part s p law low) (turns_of p h) (r.words.runs p low)
      (visited at.0.part (part_of s p) (turns_of p h) node.part node.made.visited));
}

pub stays_promised : (promise : KeepPromises) (serve : KeepWindows) (p : ℕ) (w w' : World) → StaysReached p w w' → StaysPromised p w w'
stays_promised promise serve p w w' stays s h law r =
    let found = stays s h r in
    (found.0, found.1, found.2, promised promise serve s found.0 w' law found.2)
