-- A partition that is up, has no script, and was never in contact with its one partner.
use Rattle.std.specs.Prelude.{[], None}
use Rattle.xp_script.specs.declared.part.ScenarioPart.{ScenarioPart}
use Rattle.xp_protocol.specs.State.{State, Up, opened_state}

abbrev pub part : ScenarioPart
part =
    record {
      part = 0;
      count = 2;
      budget = 1;
      check = 0;
      minors = [];
      links = [];
      faults = [];
      stop = None;
      restarts = [];
      scripts = [];
    }

abbrev pub state : State
state = record (opened_state part) { life = Up; peers = [] }
