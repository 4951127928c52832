use Rattle.sf_keyed_chain.proofs.Headlines.{leads_the_new_call}
use Rattle.sf_keyed_chain.proofs.laws.leads_the_new_call.Goals as goal

pub returns : goal.returns
returns c = leads_the_new_call
