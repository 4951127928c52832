use Rattle.std.proofs.Common.{rules}
use Rattle.sf_replay_timed.proofs.witness.WitnessDisplay.fmt.Goals as goal

pub returns-in-Missed-clause-writes : goal.returns-in-Missed-clause-writes
returns-in-Missed-clause-writes g c = rw c.in-Missed.is (search rules)
