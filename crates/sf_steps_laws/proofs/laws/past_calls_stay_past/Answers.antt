use Rattle.sf_steps_laws.proofs.Hits.{past_stays_past}
use Rattle.sf_steps_laws.proofs.laws.past_calls_stay_past.Goals as goal

pub returns : goal.returns
returns g c z s ts is = past_stays_past z s ts is
