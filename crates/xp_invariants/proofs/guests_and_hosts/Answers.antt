use Rattle.xp_invariants.proofs.Guests.{guests_hosts}
use Rattle.xp_invariants.proofs.guests_and_hosts.Goals as goal

pub returns : goal.returns
returns c = guests_hosts
