use Rattle.sf_keyed.proofs.Headlines.{leads_the_new_call}
use Rattle.sf_keyed.proofs.laws.leads_the_new_call.Goals as goal

pub returns : goal.returns
returns c = leads_the_new_call
