-- The places of a partition's ring.
use Rattle.std.specs.Prelude.{◌≡◌, ◌<◌}
use Rattle.xp_rounds.specs.declared.rounds.Place.{Place}
use Rattle.xp_rounds.specs.declared.rounds.Place.TheVariants.{Own, Partner}
use Rattle.xp_script.specs.declared.part.ScenarioPart.{ScenarioPart}

-- the own place, or that of one of its partners
abbrev pub IsPlaceOf : ScenarioPart → Place → Type 0
IsPlaceOf s Own = Unit {0}
IsPlaceOf s (Partner q) = (q < s.count) × (q ≡ s.part → ⊥)
