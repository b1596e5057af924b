use Rattle.xp_sound.proofs.States.{sound, start_consistent, acts_keep, step_keeps, end_keeps, turn_keeps, history_consistent, planning_sound, planned_permitted}
use Rattle.xp_sound.proofs.laws.soundness_kept.Goals as goal

pub returns-clause-sound : goal.returns-clause-sound
returns-clause-sound c = sound

pub returns-clause-start : goal.returns-clause-start
returns-clause-start c = start_consistent

pub returns-clause-acts : goal.returns-clause-acts
returns-clause-acts c = acts_keep

pub returns-clause-step : goal.returns-clause-step
returns-clause-step c = λ s st rule answer can h told. step_keeps s st h told rule answer can

pub returns-clause-end : goal.returns-clause-end
returns-clause-end c = end_keeps

pub returns-clause-turn : goal.returns-clause-turn
returns-clause-turn c = turn_keeps

pub returns-clause-history : goal.returns-clause-history
returns-clause-history c = history_consistent

pub returns-clause-planning : goal.returns-clause-planning
returns-clause-planning c = planning_sound

pub returns-clause-planned : goal.returns-clause-planned
returns-clause-planned c = planned_permitted
