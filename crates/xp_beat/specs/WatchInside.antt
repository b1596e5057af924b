-- How the fields of a watch stand for it: the words of a check that goes on are those that were
-- loaded.
use Rattle.std.specs.Prelude.{ℕ, List, [], ◌∷◌}
use Rattle.xp_protocol.specs.State.{Watch}
use Rattle.xp_beat.specs.declared.watch.Loaded.{Loaded}
use Rattle.xp_beat.specs.declared.watch.Loaded.TheVariants.{Nothing, Count, Mask}
use Rattle.xp_beat.specs.declared.watch.Watch.TheInside.{Inside}

abbrev pub words_loaded : Loaded → List ℕ
words_loaded Nothing = []
words_loaded (Count count) = count ∷ []
words_loaded (Mask count mask) = count ∷ mask ∷ []

abbrev pub watch_seen : Inside → Watch
watch_seen x = record { since = x.since; last = x.last; words = words_loaded x.loaded }
