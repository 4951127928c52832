use Rattle.sf_keyed_chain.proofs.Headlines.{never_a_forgotten_call_of_another}
use Rattle.sf_keyed_chain.proofs.laws.never_a_forgotten_call_of_another.Goals as goal

pub returns : goal.returns
returns c = never_a_forgotten_call_of_another
