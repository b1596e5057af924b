use Rattle.xp_language_laws.proofs.PokeLines.{placed_or_none}
use Rattle.xp_language_laws.proofs.pokes.pokes_placed.Goals as goal

pub returns : goal.returns
returns c = λ text s h. placed_or_none text s h
