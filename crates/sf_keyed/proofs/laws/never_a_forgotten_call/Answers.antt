use Rattle.sf_keyed.proofs.Headlines.{never_a_forgotten_call}
use Rattle.sf_keyed.proofs.laws.never_a_forgotten_call.Goals as goal

pub returns : goal.returns
returns c = never_a_forgotten_call
