use Rattle.xp_windows.proofs.Serving.{served}
use Rattle.xp_windows.proofs.duties.visits_serve.Goals as goal

pub returns : goal.returns
returns c = served
