use Rattle.sf_steps_laws.proofs.Afters.{leads_know_current}
use Rattle.sf_steps_laws.proofs.laws.leads_know_the_call_before.Goals as goal

pub returns : goal.returns
returns g c z s is a k x seen f at same = leads_know_current z s is a k x seen f at same
